-- What the guards need from the code of a pair and from the meaning of a unit. The code's variables are below the number from
-- which the guards set theirs, each exit leaves blocks that exist, and a call that answers keeps the size of each object.
-- Also, if the original code makes only calls that are right, so does the guarded code.
use Rattle.std.proofs.Common.{◌≡◌, ℕ, suc, ◌≤◌, ◌<◌, List, [], ◌∷◌, ◌++◌, length, map, Option, Some, None, refl, sym, ap, ◌∙◌, Bool, true, false, if◌then◌else◌, subst, arith}
use Rattle.std.proofs.lemmas.Bool.Decides.{nat_tests}
use Rattle.cc_ast.specs.Tree.{External}
use Rattle.cc_c_semantics.specs.Meaning.{Global, initial_globals}
use Rattle.cc_c_semantics.specs.Function as by_name
use Rattle.cc_c_semantics.specs.Function.{call_function}
use Rattle.cc_c_semantics.specs.Calls.{NamedSize, sizes, KeepsObjects, CallsKeepObjects}
use Rattle.cc_c_semantics.specs.Checked.{stays}
use Rattle.cc_c_semantics.specs.declared.mode.Mode.{Mode}
use Rattle.cc_c_semantics.specs.declared.mode.Mode.TheVariants.{Checked}
use Rattle.cc_c_semantics.specs.Numbered.{names_of, objects_of, named, shared_in, objects_in, numbered, IsMeaning}
use Rattle.cc_simulation.specs.World.{Object, Size, size_of, World, Answer, Effect, Gives, Unfinished, Failed}
use Rattle.cc_simulation.specs.Meaning.{Meaning}
use Rattle.cc_simulation.specs.Tracks.{Tracks}
use Rattle.cc_cminor_language.specs.Cminor.{Expression, Constant, Local, Unary, Binary, Load, Statement, Skip, Set, Store, Call, Read, Write, Sequence, If, Loop, Block, Exit, Return, cminor_move, cminor_output, cminor_start}
use Rattle.cc_cminor_language.specs.Numbers.{most_variables}
use Rattle.cc_cminor_language.specs.Exits.{ExitsFit}
use Rattle.cc_cminor_language.specs.Breaks.{TracksOrBreaks}
use Rattle.cc_cminor_language.specs.Variables.{above, above_result, above_expression, above_expressions, above_statement}
use Rattle.cc_cminor_language.specs.Pair.{Pair, tree_of, code_of, AreCalls, KeepsUp, FailsAlike, GoesWrong, IsPair}
use Rattle.cc_guard.specs.declared.known.Limit.{Limit}
use Rattle.cc_guard.specs.Guard.{Guard, Put, Stop, StopBoth, first_index, stored_word, guards_then, guarded, guarded_all, head, known_after, known_within, code_after, guarded_code, has_guards, with_loop, guarded_function, variables_in}
use Rattle.cc_guard.specs.internal.Fits.{Under, AllUnder, Fits, KeepsSizes}
use Rattle.cc_guard.specs.Safe.{CodeConstantsFit, NeedsNoGuard}
use Rattle.cc_guard.specs.Held.{IsHeld}
use Rattle.cc_guard.proofs.Holding.{IsSound, held_sound}
use Rattle.cc_guard.proofs.Sizing.{unnamed, unnamed_sizes}
use Rattle.cc_guard.proofs.Numbered.{function_fits}
use Rattle.cc_guard.proofs.Tracking.{guarded_tracks}
use Rattle.cc_guard.proofs.Unguarded.{unguarded_stays}

-- ---- the code reads only variables below its number

above_ge : (count x : ℕ) → (count ≤ above count x) × (x < above count x)
above_ge count x = grind (arith, nat_tests)

under_more : (e : Expression) (n m : ℕ) → n ≤ m → Under n e → Under m e
under_more (Constant w) n m le u = tt
under_more (Local x) n m le u = let lt : x < n = u in omega arith
under_more (Unary op a) n m le u = under_more a n m le u
under_more (Binary op a b) n m le u = (under_more a n m le u.0, under_more b n m le u.1)
under_more (Load width o a) n m le u = under_more a n m le u

all_under_more : (es : List Expression) (n m : ℕ) → n ≤ m → AllUnder n es → AllUnder m es
all_under_more [] n m le u = tt
all_under_more (e ∷ es) n m le u = (under_more e n m le u.0, all_under_more es n m le u.1)

expression_under : (e : Expression) (count : ℕ) → (count ≤ above_expression count e) × Under (above_expression count e) e
expression_under (Constant w) count = (omega arith, tt)
expression_under (Local x) count = above_ge count x
expression_under (Unary op a) count = expression_under a count
expression_under (Binary op a b) count =
    let f = expression_under a count in
    let g = expression_under b (above_expression count a) in
    let le = f.0 in
    let le' = g.0 in
    (omega arith, (under_more a _ _ le' f.1, g.1))
expression_under (Load width o a) count = expression_under a count

expressions_under : (es : List Expression) (count : ℕ) → (count ≤ above_expressions count es) × AllUnder (above_expressions count es) es
expressions_under [] count = (omega arith, tt)
expressions_under (e ∷ es) count =
    let f = expression_under e count in
    let g = expressions_under es (above_expression count e) in
    let le = f.0 in
    let le' = g.0 in
    (omega arith, (under_more e _ _ le' f.1, g.1))

result_above : (to : Option ℕ) (count : ℕ) → count ≤ above_result count to
result_above None count = omega arith
result_above (Some x) count = (above_ge count x).0

fits_more : (s : Statement) (b n m : ℕ) → n ≤ m → Fits n b s → Fits m b s
fits_more Skip b n m le u = tt
fits_more (Set x e) b n m le u = (let lt = u.0 in omega arith, under_more e n m le u.1)
fits_more (Store w o i e) b n m le u = (under_more i n m le u.0, under_more e n m le u.1)
fits_more (Call to f es) b n m le u = all_under_more es n m le u
fits_more (Read to) b n m le u = tt
fits_more (Write e) b n m le u = under_more e n m le u
fits_more (Sequence s t) b n m le u = (fits_more s b n m le u.0, fits_more t b n m le u.1)
fits_more (If e s t) b n m le u = (under_more e n m le u.0, fits_more s b n m le u.1, fits_more t b n m le u.2)
fits_more (Loop s) b n m le u = fits_more s b n m le u
fits_more (Block s) b n m le u = fits_more s (suc b) n m le u
fits_more (Exit k) b n m le u = u
fits_more (Return e) b n m le u = under_more e n m le u

pub fits_above : (s : Statement) (b count : ℕ) → ExitsFit b s → (count ≤ above_statement count s) × Fits (above_statement count s) b s
fits_above Skip b count x = (omega arith, tt)
fits_above (Set y e) b count x =
    let f = above_ge count y in
    let g = expression_under e (above count y) in
    let le = f.0 in
    let lt = f.1 in
    let le' = g.0 in
    (omega arith, (omega arith, g.1))
fits_above (Store w o i e) b count x =
    let f = expression_under i count in
    let g = expression_under e (above_expression count i) in
    let le = f.0 in
    let le' = g.0 in
    (omega arith, (under_more i _ _ le' f.1, g.1))
fits_above (Call to h es) b count x =
    let le = result_above to count in
    let g = expressions_under es (above_result count to) in
    let le' = g.0 in
    (omega arith, g.1)
fits_above (Read to) b count x = (result_above to count, tt)
fits_above (Write e) b count x = expression_under e count
fits_above (Sequence s t) b count x =
    let f = fits_above s b count x.0 in
    let g = fits_above t b (above_statement count s) x.1 in
    let le = f.0 in
    let le' = g.0 in
    (omega arith, (fits_more s b _ _ le' f.1, g.1))
fits_above (If e s t) b count x =
    let d = expression_under e count in
    let f = fits_above s b (above_expression count e) x.0 in
    let g = fits_above t b (above_statement (above_expression count e) s) x.1 in
    let le = d.0 in
    let le' = f.0 in
    let le'' = g.0 in
    (omega arith, (under_more e (above_expression count e) _ (omega arith) d.1, fits_more s b _ _ le'' f.1, g.1))
fits_above (Loop s) b count x = fits_above s b count x
fits_above (Block s) b count x = fits_above s (suc b) count x
fits_above (Exit k) b count x = (omega arith, x)
fits_above (Return e) b count x = expression_under e count

-- ---- calls

module _ (unit : List External) (objects : List Size) (n : ℕ) where
  then_calls : (b : ℕ) (gs : List Guard) (s : Statement) → AreCalls unit s → AreCalls unit (guards_then b gs s)
  then_calls b [] s h = h
  then_calls b (Put t e ∷ gs) s h = (tt, then_calls b gs s h)
  then_calls b (Stop e ∷ gs) s h = ((tt, tt), then_calls b gs s h)
  then_calls b (StopBoth d e ∷ gs) s h = (((tt, tt), tt), then_calls b gs s h)

  same_many : (ks : List Limit) (k : ℕ) (es : List Expression) → length es ≡ length (guarded_all objects ks k es).values
  same_many ks k [] = refl
  same_many ks k (e ∷ es) = ap suc (same_many (guarded objects ks k e).known (guarded objects ks k e).next es)

  guarded_calls : (b : ℕ) (s : Statement) (ks : List Limit) → AreCalls unit s → AreCalls unit (code_after objects n ks b s)
  guarded_calls b Skip ks h = tt
  guarded_calls b (Set x e) ks h = then_calls b (guarded objects ks n e).before _ tt
  guarded_calls b (Store w o i e) ks h = then_calls b ((first_index objects ks n w o i).before ++ (stored_word objects (first_index objects ks n w o i) e).before) _ tt
  guarded_calls b (Call to f es) ks h = then_calls b (guarded_all objects ks n es).before _ (h ∙ ap (λ m. Some m) (same_many ks n es))
  guarded_calls b (Read to) ks h = tt
  guarded_calls b (Write e) ks h = then_calls b (guarded objects ks n e).before _ tt
  guarded_calls b (Sequence s t) ks h = (guarded_calls b s ks h.0, guarded_calls b t (known_after objects n ks s) h.1)
  guarded_calls b (If e s t) ks h = then_calls b (guarded objects ks n e).before _ (guarded_calls b s (known_within objects n true ks e) h.0, guarded_calls b t (known_within objects n false ks e) h.1)
  guarded_calls b (Loop a) ks h = guarded_calls b a (head objects n ks a) h
  guarded_calls b (Block a) ks h = guarded_calls (suc b) a ks h
  guarded_calls b (Exit k) ks h = tt
  guarded_calls b (Return e) ks h = then_calls b (guarded objects ks n e).before _ tt

  pub function_calls : (s : Statement) → AreCalls unit s → AreCalls unit (guarded_function objects n s)
  function_calls s h = by (has_guards objects n s)
    where
      by : (r : Bool) → AreCalls unit (if r then with_loop (guarded_code objects n 0 s) else guarded_code objects n 0 s)
      by true = ((guarded_calls 0 s [] h, tt), tt)
      by false = guarded_calls 0 s [] h

-- ---- sizes

same_sizes : (gs hs : List Global) → sizes gs ≡ sizes hs → map size_of (objects_of gs) ≡ map size_of (objects_of hs)
same_sizes gs hs e = unnamed_sizes gs ∙ ap (λ (zs : List NamedSize). map unnamed zs) e ∙ sym (unnamed_sizes hs)

-- objects that were given the names of a unit's objects are unchanged once the names are removed
unnamed_again : (gs : List Global) (os : List Object) → map size_of os ≡ map size_of (objects_of gs) → objects_of (named (names_of gs) os) ≡ os
unnamed_again [] [] e = refl
unnamed_again [] (o ∷ os) e = absurd (let q : ◌≡◌ {A = List Size} (size_of o ∷ map size_of os) [] = e in cc)
unnamed_again (g ∷ gs) [] e = refl
unnamed_again (g ∷ gs) (o ∷ os) e =
    let q : ◌≡◌ {A = List Size} (size_of o ∷ map size_of os) (record { width = g.width; elements = length g.words } ∷ map size_of (objects_of gs)) = e in
    let rest : map size_of os ≡ map size_of (objects_of gs) = cc in
    ap (λ (x : List Object). o ∷ x) (unnamed_again gs os rest)

no_answer : (b : Bool) (o : List ℕ) (a : Answer) (left : ℕ) → (if b then Unfinished o else Failed o) ≡ Gives a left → ⊥
no_answer true o a left e = cc
no_answer false o a left e = cc

module _ (keep : CallsKeepObjects) (mode : Mode) (unit : List External) (m : Meaning) (is : IsMeaning mode unit m) where
  by_effect : (h : World) (x : by_name.Effect by_name.Answer) (a : Answer) (left : ℕ) → KeepsObjects (shared_in unit h) x → numbered mode x ≡ Gives a left → map size_of h.globals ≡ m.objects → map size_of a.world.globals ≡ m.objects
  by_effect h (by_name.Answers y k) a left kept e sizes_are =
      let f : Gives (record { value = y.word; world = record { globals = objects_of y.shared.globals; input = y.shared.input; output = y.shared.output } }) k ≡ Gives a left = e in
      let g : record { value = y.word; world = record { globals = objects_of y.shared.globals; input = y.shared.input; output = y.shared.output } } ≡ a = cc in
      let back : objects_of (named (names_of (initial_globals unit)) h.globals) ≡ h.globals = unnamed_again (initial_globals unit) h.globals (sizes_are ∙ is.objects) in
      ap (λ (b : Answer). map size_of b.world.globals) (sym g) ∙ same_sizes y.shared.globals (named (names_of (initial_globals unit)) h.globals) kept ∙ ap (λ (os : List Object). map size_of os) back ∙ sizes_are
  by_effect h (by_name.Unfinished o) a left kept e sizes_are = absurd (let f : Unfinished o ≡ Gives a left = e in cc)
  by_effect h (by_name.Failed cause o) a left kept e sizes_are = absurd (no_answer (stays mode cause) o a left e)

  pub keeps_sizes : KeepsSizes m
  keeps_sizes n opened f ws h a left e sizes_are =
      by_effect h (call_function unit n opened f ws (shared_in unit h)) a left (keep unit n opened f ws (shared_in unit h))
      (sym (ap (λ (call : ℕ → ℕ → ℕ → List ℕ → World → Effect). call n opened f ws h) is.call) ∙ e) sizes_are

  guarded_keeps_up : (f : ℕ) (s : Statement) → ExitsFit 0 s → TracksOrBreaks m f 1 cminor_move cminor_output (cminor_start s) → Tracks m f 1 cminor_move cminor_output (cminor_start (guarded_function m.objects (above_statement 0 s) s))
  guarded_keeps_up f s exits tracks = guarded_tracks m keeps_sizes f 0 (above_statement 0 s) s (fits_above s 0 0 exits).1 tracks

-- if code goes wrong when its function does, the guarded code keeps up with the checked function
checked_keeps_up : CallsKeepObjects → (unit : List External) (f : ℕ) (s : Statement) → ExitsFit 0 s → FailsAlike unit f s → KeepsUp Checked unit f (guarded_function (objects_in unit) (above_statement 0 s) s)
checked_keeps_up keep unit f s exits alike m is =
    subst (λ (objects : List Size). Tracks m f 1 cminor_move cminor_output (cminor_start (guarded_function objects (above_statement 0 s) s))) is.objects
    (guarded_keeps_up keep Checked unit m is f s exits (alike m is))

-- code that gets no guards keeps up, unchanged, with the checked function
pub unguarded_needs_none : CallsKeepObjects → (unit : List External) (f : ℕ) (s : Statement) → AreCalls unit s → CodeConstantsFit s → ExitsFit 0 s → FailsAlike unit f s → GoesWrong unit f s
    → has_guards (objects_in unit) (above_statement 0 s) s ≡ false → NeedsNoGuard unit f s
unguarded_needs_none keep unit f s calls constants exits alike wrong none = record {
  calls = calls;
  constants = constants;
  keeps_up = subst (λ (x : Statement). KeepsUp Checked unit f x) (unguarded_stays (objects_in unit) (above_statement 0 s) s none) (checked_keeps_up keep unit f s exits alike);
  goes_wrong = wrong;
}

-- ---- the pair

pub guarded_is_pair : CallsKeepObjects → (p q : Pair) → IsPair p → ExitsFit 0 (code_of p) → FailsAlike (tree_of p) p.function (code_of p) → variables_in (objects_in (tree_of p)) (above_statement 0 (code_of p)) (code_of p) ≤ most_variables
    → q.mode ≡ Checked → q.unit ≡ p.unit → q.function ≡ p.function → IsHeld (guarded_function (objects_in (tree_of p)) (above_statement 0 (code_of p)) (code_of p)) (code_of q) → IsPair q
guarded_is_pair keep p q is exits alike few mode unit function code =
    let n = above_statement 0 (code_of p) in
    let objects = objects_in (tree_of p) in
    let sound : IsSound Checked (tree_of p) p.function (guarded_function objects n (code_of p)) = record {
      calls = function_calls (tree_of p) objects n (code_of p) is.calls;
      numbers = function_fits objects n (code_of p) is.numbers few;
      keeps_up = checked_keeps_up keep (tree_of p) p.function (code_of p) exits alike;
    } in
    let held = held_sound Checked (tree_of p) p.function (guarded_function objects n (code_of p)) (code_of q) sound code in
    subst IsPair (sym same) (record { typed = is.typed; function = is.function; calls = held.calls; numbers = held.numbers; keeps_up = held.keeps_up })
  where
    same : q ≡ record { mode = Checked; unit = p.unit; function = p.function; statement = q.statement }
    same = λ i. record { mode = mode i; unit = unit i; function = function i; statement = q.statement }
