-- Code that puts the value of an expression into a variable, or uses one expression of Cminor in its place.
use Rattle.std.proofs.Common.{◌≡◌, inl, ℕ, zero, suc, ◌-◌, ◌<◌, ◌≤◌, ◌&&◌, ◌||◌, not, Bool, true, false, if◌then◌else◌, List, [], ◌∷◌, ◌++◌, length, Option, Some, None, refl, sym, ap, ◌∙◌, subst, arith}
use Rattle.std.proofs.lemmas.Bool.{ne_eqb}
use Rattle.cc_tokens.specs.declared.scalar.Scalar.{Scalar}
use Rattle.cc_ast.specs.declared.ast.BinaryOperator.{BinaryOperator}
use Rattle.cc_ast.specs.declared.ast.BinaryOperator.TheVariants as source
use Rattle.cc_types.specs.Operators.{unary_word, binary_word, decided, is_true, working_type}
use Rattle.cc_types.specs.Types.{value_type}
use Rattle.cc_words.specs.Words.{truth_value}
use Rattle.cc_ast.specs.Tree as tree
use Rattle.cc_ast.specs.Tree.{Name, Expr, Exprs, none, more, Number, Variable, Element, Parenthesised, Cast, Conditional}
use Rattle.cc_layout.specs.Layout.{Layout, callee}
use Rattle.cc_layout.specs.Environment.{Environment, types_in}
use Rattle.cc_layout.specs.declared.layout.Callee.{Callee}
use Rattle.cc_layout.specs.declared.layout.Callee.TheVariants.{WriteWord, ReadWord, Defined}
use Rattle.cc_c_semantics.specs.Meaning as meaning
use Rattle.cc_c_semantics.specs.Meaning.{State, Run, Gives, then_do, choose, given, unless_decided, read_element, read_input, evaluate, evaluate_all, variable_word}
use Rattle.cc_c_semantics.specs.Function as by_name
use Rattle.cc_c_semantics.specs.Calls.{sizes, laid_sizes, shared_of, after_call, KeepsObjects}
use Rattle.cc_c_semantics.specs.Checked.{stays}
use Rattle.cc_c_semantics.specs.Numbered.{world_of, numbered}
use Rattle.cc_words.specs.Observed.{read_mark}
use Rattle.cc_simulation.specs.World as world
use Rattle.cc_simulation.specs.World.{World, Question, Answer, Effect, first_or_zero, rest_of}
use Rattle.cc_simulation.specs.Run as layer
use Rattle.cc_simulation.specs.Run.{Move, Goes, Calls, Fails, tried, run, work, act, work_act, work_resumed}
use Rattle.cc_cminor_language.specs.Cminor.{Expression, Constant, Local, Load, then_value, value, values, put, Statement, Skip, Set, Call, Read, Write, Sequence, Continuation, Then, Config, config, moves, cminor_move}
use Rattle.cc_cminor_language.specs.Code.{in_sequence}
use Rattle.cc_cminor.specs.internal.Lowering.{branch, free, object_of, width_of, variable_of, unary_of, truth_of, binary_of, Kind, Conjunction, Disjunction, Strict, kind, is_strict, is_plain, are_plain, plain, all_plain, used, called_on, count, locals_from, last_value, invoked, connected, put_expr, put_all}
use Rattle.cc_cminor.proofs.Known.{IsCalled, Known, AllKnown}
use Rattle.cc_cminor.proofs.Paths.{world_at, Exact, Calling, Cut, one_call, Stuck, stuck_moved, stuck_here, Comes, comes_moved, comes_then, comes_as, comes_here, after_list, comes_first, comes_next, runs, works}
use Rattle.cc_cminor.proofs.Branches.{branch_moves, branch_fails}
use Rattle.cc_cminor.proofs.Variables.{put_here, put_below, unary_value, binary_value, unary_none, binary_none, truth_none, strict_undecided, is_conjunction, is_disjunction, PlainIs, plain_given, plain_read, Fits, fits_put, variable_value, element_value, plain_is, all_plain_is, truth_is}

-- what a call of function f with these words does: the caller continues as the effect says, which the unit's meaning gives by
-- number
pub record CallIs (effect : Calling) (call : meaning.Calls) (x ws : List ℕ) (f : ℕ) (s : State) : Type 0 where
  pub what : by_name.Effect by_name.Answer
  pub does : call x ws s ≡ after_call s.locals what
  pub same : effect.does s.steps (record { function = f; arguments = ws; world = world_at s }) ≡ numbered effect.mode what
  pub keeps : KeepsObjects (shared_of s) what

-- what is known about calls, if fewer than n steps are left
pub record CallFacts (effect : Calling) (g : Layout) (call : meaning.Calls) (n : ℕ) : Type 0 where
  pub exact : Exact effect.does
  pub writes : (x ws : List ℕ) (s : State) → callee g x ≡ WriteWord → s.steps < n → call x ws s ≡ Gives 0 (record s { output = s.output ++ ws })
  pub reads : (x ws : List ℕ) (s : State) → callee g x ≡ ReadWord → s.steps < n → call x ws s ≡ read_input s.input s
  pub does : (x ws : List ℕ) (f : ℕ) (s : State) → callee g x ≡ Defined f → f < length g.functions → s.steps < n → sizes s.globals ≡ laid_sizes g.objects → CallIs effect call x ws f s

-- code that uses a value breaks if the value is missing
abbrev pub NeedsValue : (Expression → Statement) → Type 0
NeedsValue f = (x : Expression) (κ : Continuation) (l : ℕ → ℕ) (h : World) → value x l h ≡ None → moves (f x) κ l h ≡ Fails

pub set_needs : (k : ℕ) (f : Expression → Expression) → ((x : Expression) (l : ℕ → ℕ) (h : World) → value x l h ≡ None → value (f x) l h ≡ None) → NeedsValue (λ x. Set k (f x))
set_needs k f missing = λ x κ l h e. ap (λ o. tried o (λ w. Goes (config Skip κ (put l k w) h))) (missing x l h e)

pub branch_needs : (a b : Statement) → NeedsValue (λ x. branch x a b)
branch_needs a b = λ x κ l h e. branch_fails x a b κ l h e

module _ (effect : Calling) (g : Layout) where
  -- the word is in variable k, the variables below are preserved, and κ is next
  pub record Puts (k : ℕ) (κ : Continuation) (ns : List (List ℕ)) (l : ℕ → ℕ) (w : ℕ) (s : State) (d : Config) : Type 0 where
    pub variables : ℕ → ℕ
    pub at : d ≡ config Skip κ variables (world_at s)
    pub is : variables k ≡ w
    pub fits : Fits g ns s variables
    pub same : (i : ℕ) → i < k → variables i ≡ l i

  puts_from : (k : ℕ) (κ : Continuation) (ns : List (List ℕ)) (l m : ℕ → ℕ) (c : Config) (n : ℕ) (r : Run ℕ) → ((i : ℕ) → i < k → m i ≡ l i) → Comes effect (Puts k κ ns m) c n r → Comes effect (Puts k κ ns l) c n r
  puts_from k κ ns l m c n r same h =
      comes_as effect (Puts k κ ns m) (Puts k κ ns l) c n r h (λ w s d le q. record { variables = q.variables; at = q.at; is = q.is; fits = q.fits; same = λ i lt. q.same i lt ∙ same i lt })

  -- a `Set` puts the word into variable k
  set_gives : (k w : ℕ) (e : Expression) (κ : Continuation) (ns : List (List ℕ)) (l : ℕ → ℕ) (s : State) → length ns ≤ k → Fits g ns s l → value e l (world_at s) ≡ Some w
      → Comes effect (Puts k κ ns l) (config (Set k e) κ l (world_at s)) s.steps (Gives w s)
  set_gives k w e κ ns l s le h is =
      comes_moved effect (Puts k κ ns l) (config (Set k e) κ l (world_at s)) (config Skip κ (put l k w) (world_at s)) s.steps (Gives w s)
      (ap (λ o. tried o (λ x. Goes (config Skip κ (put l k x) (world_at s)))) is)
      (comes_here effect (Puts k κ ns l) _ w s (record { variables = put l k w; at = refl; is = put_here l k w; fits = fits_put g ns s l k w le h; same = λ i lt. put_below l k w i lt }))

  set_comes : (k : ℕ) (e : Expression) (κ : Continuation) (ns : List (List ℕ)) (l : ℕ → ℕ) (s : State) (r : Run ℕ) → length ns ≤ k → Fits g ns s l → PlainIs r s (value e l (world_at s))
      → Comes effect (Puts k κ ns l) (config (Set k e) κ l (world_at s)) s.steps r
  set_comes k e κ ns l s (Gives w u) le h p = subst (λ t. Comes effect (Puts k κ ns l) (config (Set k e) κ l (world_at s)) s.steps (Gives w t)) (sym p.0) (set_gives k w e κ ns l s le h p.1)
  set_comes k e κ ns l s (meaning.Going o) le h p = absurd p
  set_comes k e κ ns l s (meaning.Wrong cause o) le h p =
      stuck_here effect (stays effect.mode cause) (config (Set k e) κ l (world_at s)) s.steps o (ap (λ x. tried x (λ w. Goes (config Skip κ (put l k w) (world_at s)))) p.0) (sym p.1)

  -- code that uses a value continues with it
  pub used_comes : {A : Type 0} (R : A → State → Config → Type 0) (b : Bool) (e : Expression) (code : Statement) (j : ℕ) (f : Expression → Statement) (κ : Continuation) (ns : List (List ℕ)) (l : ℕ → ℕ) (s : State) (r : Run ℕ) (go : ℕ → State → Run A)
      → NeedsValue f → Fits g ns s l → (b ≡ true → PlainIs r s (value e l (world_at s))) → ((κ : Continuation) → Comes effect (Puts j κ ns l) (config code κ l (world_at s)) s.steps r)
      → ((x : Expression) (m : ℕ → ℕ) (u : State) (w : ℕ) → u.steps ≤ s.steps → Fits g ns u m → ((i : ℕ) → i < j → m i ≡ l i) → value x m (world_at u) ≡ Some w → Comes effect R (config (f x) κ m (world_at u)) u.steps (go w u))
      → Comes effect R (config (used b e code j f) κ l (world_at s)) s.steps (then_do r go)
  used_comes R true e code j f κ ns l s (Gives w u) go needs h p c k =
      let q : (u ≡ s) × (value e l (world_at s) ≡ Some w) = p refl in
      subst (λ t. Comes effect R (config (f e) κ l (world_at s)) s.steps (go w t)) (sym q.0) (k e l s w (omega arith) h (λ i lt. refl) q.1)
  used_comes R true e code j f κ ns l s (meaning.Going o) go needs h p c k = absurd (p refl)
  used_comes R true e code j f κ ns l s (meaning.Wrong cause o) go needs h p c k =
      let q : (value e l (world_at s) ≡ None) × (o ≡ s.output) = p refl in
      stuck_here effect (stays effect.mode cause) (config (f e) κ l (world_at s)) s.steps o (needs e κ l (world_at s) q.0) (sym q.1)
  used_comes R false e code j f κ ns l s r go needs h p c k =
      comes_moved effect R (config (Sequence code (f (Local j))) κ l (world_at s)) (config code (Then (f (Local j)) κ) l (world_at s)) s.steps (then_do r go) refl
      (comes_then effect (Puts j (Then (f (Local j)) κ) ns l) R (config code (Then (f (Local j)) κ) l (world_at s)) s.steps r go (c (Then (f (Local j)) κ))
      (λ w u d le q. subst (λ x. Comes effect R x u.steps (go w u)) (sym q.at)
      (comes_moved effect R (config Skip (Then (f (Local j)) κ) q.variables (world_at u)) (config (f (Local j)) κ q.variables (world_at u)) u.steps (go w u) refl
      (k (Local j) q.variables u w le q.fits q.same (ap (λ x. Some x) q.is)))))

  -- an `if` continues with one of its two statements
  pub choice_comes : {A : Type 0} (R : A → State → Config → Type 0) (x : Expression) (a b : Statement) (κ : Continuation) (l : ℕ → ℕ) (s : State) (w : ℕ) (ra rb : State → Run A) → value x l (world_at s) ≡ Some w
      → Comes effect R (config a κ l (world_at s)) s.steps (ra s) → Comes effect R (config b κ l (world_at s)) s.steps (rb s)
      → Comes effect R (config (branch x a b) κ l (world_at s)) s.steps (choose w ra rb s)
  choice_comes R x a b κ l s zero ra rb is p q =
      comes_moved effect R (config (branch x a b) κ l (world_at s)) (config b κ l (world_at s)) s.steps (rb s) (branch_moves x a b κ l (world_at s) zero is) q
  choice_comes R x a b κ l s (suc w) ra rb is p q =
      comes_moved effect R (config (branch x a b) κ l (world_at s)) (config a κ l (world_at s)) s.steps (ra s) (branch_moves x a b κ l (world_at s) (suc w) is) p

  -- ---- arguments

  abbrev pub Passed : (ℕ → ℕ) → ℕ → List ℕ → Type 0
  Passed l k [] = Unit {0}
  Passed l k (w ∷ ws) = (l k ≡ w) × Passed l (suc k) ws

  passed_values : (l : ℕ → ℕ) (k : ℕ) (ws : List ℕ) (h : World) → Passed l k ws → values (locals_from k (length ws)) l h ≡ Some ws
  passed_values l k [] h p = refl
  passed_values l k (w ∷ ws) h p = ap (λ x. then_value x (λ vs. Some (l k ∷ vs))) (passed_values l (suc k) ws h p.1) ∙ ap (λ x. Some (x ∷ ws)) p.0

  pub record PutsAll (k n : ℕ) (κ : Continuation) (ns : List (List ℕ)) (l : ℕ → ℕ) (ws : List ℕ) (s : State) (d : Config) : Type 0 where
    pub variables : ℕ → ℕ
    pub at : d ≡ config Skip κ variables (world_at s)
    pub passed : Passed variables k ws
    pub many : length ws ≡ n
    pub fits : Fits g ns s variables
    pub same : (i : ℕ) → i < k → variables i ≡ l i

  length_by : (o : Option ℕ) (p : Option (List ℕ)) (m : ℕ) (ws : List ℕ) → ((vs : List ℕ) → p ≡ Some vs → length vs ≡ m) → then_value o (λ w. then_value p (λ vs. Some (w ∷ vs))) ≡ Some ws → length ws ≡ suc m
  length_by None p m ws f e = absurd (cc)
  length_by (Some w) None m ws f e = absurd (cc)
  length_by (Some w) (Some vs) m ws f e = let q : w ∷ vs ≡ ws = cc in ap (λ (xs : List ℕ). length xs) (sym q) ∙ ap suc (f vs refl)

  values_length : (us : List Expression) (l : ℕ → ℕ) (h : World) (ws : List ℕ) → values us l h ≡ Some ws → length ws ≡ length us
  values_length [] l h ws e = let q : [] ≡ ws = cc in ap (λ (xs : List ℕ). length xs) (sym q)
  values_length (u ∷ rest) l h ws e = length_by (value u l h) (values rest l h) (length rest) ws (λ vs f. values_length rest l h vs f) e

  plain_length : (v : Environment) (es : Exprs) → length (all_plain g v es) ≡ count es
  plain_length v none = refl
  plain_length v (more e rest) = ap suc (plain_length v rest)

  called_comes : (R : ℕ → State → Config → Type 0) (b : Bool) (es : List Expression) (code : Statement) (k n : ℕ) (f : List Expression → Statement) (κ : Continuation) (ns : List (List ℕ)) (l : ℕ → ℕ) (s : State) (r : Run (List ℕ)) (go : List ℕ → State → Run ℕ)
      → ((b : Bool) → values es l (world_at s) ≡ None → Stuck effect b (config (f es) κ l (world_at s)) s.steps s.output) → Fits g ns s l → (b ≡ true → PlainIs r s (values es l (world_at s))) → length es ≡ n → ((κ : Continuation) → Comes effect (PutsAll k n κ ns l) (config code κ l (world_at s)) s.steps r)
      → ((us : List Expression) (m : ℕ → ℕ) (u : State) (ws : List ℕ) → u.steps ≤ s.steps → Fits g ns u m → ((i : ℕ) → i < k → m i ≡ l i) → values us m (world_at u) ≡ Some ws → length ws ≡ n → Comes effect R (config (f us) κ m (world_at u)) u.steps (go ws u))
      → Comes effect R (config (called_on b es code k n f) κ l (world_at s)) s.steps (then_do r go)
  called_comes R true es code k n f κ ns l s (Gives ws u) go needs h p many c cont =
      let q : (u ≡ s) × (values es l (world_at s) ≡ Some ws) = p refl in
      subst (λ t. Comes effect R (config (f es) κ l (world_at s)) s.steps (go ws t)) (sym q.0) (cont es l s ws (omega arith) h (λ i lt. refl) q.1 (values_length es l (world_at s) ws q.1 ∙ many))
  called_comes R true es code k n f κ ns l s (meaning.Going o) go needs h p many c cont = absurd (p refl)
  called_comes R true es code k n f κ ns l s (meaning.Wrong cause o) go needs h p many c cont =
      let q : (values es l (world_at s) ≡ None) × (o ≡ s.output) = p refl in
      let stuck : Bool = stays effect.mode cause in
      subst (λ y. Stuck effect stuck (config (f es) κ l (world_at s)) s.steps y) (sym q.1) (needs stuck q.0)
  called_comes R false es code k n f κ ns l s r go needs h p many c cont =
      comes_moved effect R (config (Sequence code (f (locals_from k n))) κ l (world_at s)) (config code (Then (f (locals_from k n)) κ) l (world_at s)) s.steps (then_do r go) refl
      (comes_then effect (PutsAll k n (Then (f (locals_from k n)) κ) ns l) R (config code (Then (f (locals_from k n)) κ) l (world_at s)) s.steps r go (c (Then (f (locals_from k n)) κ))
      (λ ws u d le q. subst (λ x. Comes effect R x u.steps (go ws u)) (sym q.at)
      (comes_moved effect R (config Skip (Then (f (locals_from k n)) κ) q.variables (world_at u)) (config (f (locals_from k n)) κ q.variables (world_at u)) u.steps (go ws u) refl
      (cont (locals_from k n) q.variables u ws le q.fits q.same
      (ap (λ c. values (locals_from k c) q.variables (world_at u)) (sym q.many) ∙ passed_values q.variables k ws (world_at u) q.passed) q.many))))

  module _ (call : meaning.Calls) (n : ℕ) (facts : CallFacts effect g call n) where
    -- if a call does not finish, the run has a cut that is still going
    call_cut : (k f : ℕ) (us : List Expression) (ws : List ℕ) (κ : Continuation) (l : ℕ → ℕ) (s : State) (o : List ℕ) → values us l (world_at s) ≡ Some ws
        → effect.does s.steps (record { function = f; arguments = ws; world = world_at s }) ≡ world.Unfinished o → Cut effect (config (Call (Some k) f us) κ l (world_at s)) s.steps o
    call_cut k f us ws κ l s o ps e =
        let q : Question = record { function = f; arguments = ws; world = world_at s } in
        let resume : Answer → Config = λ (a : Answer). config Skip κ (put l k a.value) a.world in
        let c : Config = config (Call (Some k) f us) κ l (world_at s) in
        let here : cminor_move c ≡ Calls q resume = ap (λ p. tried p (λ vs. Calls (record { function = f; arguments = vs; world = world_at s }) resume)) ps in
        record {
          k = 1;
          j = s.steps;
          same = ap (λ m. act effect.does m s.output s.steps (runs effect 0)) here ∙ ap (λ y. layer.resumed y resume (runs effect 0)) e;
          enough = let g : works effect 1 s.steps c ≡ suc s.steps = ap (λ m. work_act effect.does m s.steps (works effect 0)) here ∙ ap (λ y. suc (work_resumed y resume s.steps (works effect 0))) e in omega arith;
        }

    -- if a call goes wrong, the run has a cut that goes wrong
    call_stuck : (b : Bool) (k f : ℕ) (us : List Expression) (ws : List ℕ) (κ : Continuation) (l : ℕ → ℕ) (s : State) (o : List ℕ) → values us l (world_at s) ≡ Some ws
        → effect.does s.steps (record { function = f; arguments = ws; world = world_at s }) ≡ (if b then world.Unfinished o else world.Failed o) → Stuck effect b (config (Call (Some k) f us) κ l (world_at s)) s.steps o
    call_stuck true k f us ws κ l s o ps e = inl (call_cut k f us ws κ l s o ps e)
    call_stuck false k f us ws κ l s o ps e =
        let q : Question = record { function = f; arguments = ws; world = world_at s } in
        let resume : Answer → Config = λ (a : Answer). config Skip κ (put l k a.value) a.world in
        let here : cminor_move (config (Call (Some k) f us) κ l (world_at s)) ≡ Calls q resume =
        ap (λ p. tried p (λ vs. Calls (record { function = f; arguments = vs; world = world_at s }) resume)) ps in
        record { k = 1; j = s.steps; wrong = ap (λ m. act effect.does m s.output s.steps (runs effect 0)) here ∙ ap (λ y. layer.resumed y resume (runs effect 0)) e }

    -- a call with these words does what the source's call does
    call_comes : (k f : ℕ) (us : List Expression) (ws : List ℕ) (κ : Continuation) (ns : List (List ℕ)) (l : ℕ → ℕ) (s : State) (x : by_name.Effect by_name.Answer) → length ns ≤ k → Fits g ns s l → values us l (world_at s) ≡ Some ws
        → effect.does s.steps (record { function = f; arguments = ws; world = world_at s }) ≡ numbered effect.mode x → KeepsObjects (shared_of s) x
        → Comes effect (Puts k κ ns l) (config (Call (Some k) f us) κ l (world_at s)) s.steps (after_call s.locals x)
    call_comes k f us ws κ ns l s (by_name.Answers a left) le h ps e kept =
        let q : Question = record { function = f; arguments = ws; world = world_at s } in
        let resume : Answer → Config = λ (a : Answer). config Skip κ (put l k a.value) a.world in
        let here : cminor_move (config (Call (Some k) f us) κ l (world_at s)) ≡ Calls q resume =
        ap (λ o. tried o (λ vs. Calls (record { function = f; arguments = vs; world = world_at s }) resume)) ps in
        let b : Answer = record { value = a.word; world = world_of a.shared } in
        let x = facts.exact q s.steps left b e in
        record {
          to = resume b;
          reaches = record { m = 1; t = s.steps - left; way = one_call effect _ q resume b (s.steps - left) here x.1; fewer = x.0; paid = let y = x.0 in omega arith };
          is = record {
            variables = put l k a.word;
            at = refl;
            is = put_here l k a.word;
            fits = (let p = fits_put g ns s l k a.word le h in record { names = p.names; holds = p.holds; sized = kept ∙ h.sized });
            same = λ i lt. put_below l k a.word i lt;
          };
        }
    call_comes k f us ws κ ns l s (by_name.Unfinished o) le h ps e kept = call_cut k f us ws κ l s o ps e
    call_comes k f us ws κ ns l s (by_name.Failed cause o) le h ps e kept = call_stuck (stays effect.mode cause) k f us ws κ l s o ps e

    one_by : (o : Option ℕ) (p : Option (List ℕ)) (ws : List ℕ) → then_value o (λ w. then_value p (λ vs. Some (w ∷ vs))) ≡ Some ws → length ws ≡ 1 → (w : ℕ) × ((ws ≡ w ∷ []) × (o ≡ Some w))
    one_by None p ws e f = absurd (cc)
    one_by (Some w) None ws e f = absurd (cc)
    one_by (Some w) (Some []) ws e f = (w, ((let q : ws ≡ w ∷ [] = cc in q), refl))
    one_by (Some w) (Some (v ∷ vs)) ws e f = let q : w ∷ (v ∷ vs) ≡ ws = cc in let z : suc (suc (length vs)) ≡ 1 = ap (λ (xs : List ℕ). length xs) q ∙ f in absurd (omega arith)

    one_value : (us : List Expression) (l : ℕ → ℕ) (h : World) (ws : List ℕ) → values us l h ≡ Some ws → length ws ≡ 1 → (w : ℕ) × ((ws ≡ w ∷ []) × (value (last_value us) l h ≡ Some w))
    one_value [] l h ws e f = let q : ◌≡◌ {A = List ℕ} [] ws = cc in let z : ◌≡◌ {A = ℕ} 0 1 = ap (λ (xs : List ℕ). length xs) q ∙ f in absurd (omega arith)
    one_value (u ∷ []) l h ws e f = one_by (value u l h) (values [] l h) ws e f
    one_value (u ∷ z ∷ rest) l h ws e f = let n : length ws ≡ suc (suc (length rest)) = values_length (u ∷ z ∷ rest) l h ws e in absurd (omega arith)

    read_comes : (input : List ℕ) (k : ℕ) (κ : Continuation) (ns : List (List ℕ)) (l : ℕ → ℕ) (s : State) → s.input ≡ input → length ns ≤ k → Fits g ns s l
        → Comes effect (Puts k κ ns l) (config (Read (Some k)) κ l (world_at s)) s.steps (read_input input s)
    read_comes [] k κ ns l s e le h =
        let t : State = record s { output = s.output ++ read_mark ∷ [] } in
        comes_moved effect (Puts k κ ns l) (config (Read (Some k)) κ l (world_at s)) (config Skip κ (put l k 0) (world_at t)) s.steps (Gives 0 t)
        (ap (λ i. Goes (config Skip κ (put l k (first_or_zero i)) (record (world_at t) { input = rest_of i }))) e ∙ ap (λ i. Goes (config Skip κ (put l k 0) (record (world_at t) { input = i }))) (sym e))
        (comes_here effect (Puts k κ ns l) (config Skip κ (put l k 0) (world_at t)) 0 t (record {
          variables = put l k 0;
          at = refl;
          is = put_here l k 0;
          fits = (let p = fits_put g ns s l k 0 le h in record { names = p.names; holds = p.holds; sized = p.sized });
          same = λ i lt. put_below l k 0 i lt;
        }))
    read_comes (w ∷ rest) k κ ns l s e le h =
        let t : State = record s { input = rest; output = s.output ++ read_mark ∷ [] } in
        comes_moved effect (Puts k κ ns l) (config (Read (Some k)) κ l (world_at s)) (config Skip κ (put l k w) (world_at t)) s.steps (Gives w t)
        (ap (λ i. Goes (config Skip κ (put l k (first_or_zero i)) (record (world_at t) { input = rest_of i }))) e)
        (comes_here effect (Puts k κ ns l) (config Skip κ (put l k w) (world_at t)) w t (record {
          variables = put l k w;
          at = refl;
          is = put_here l k w;
          fits = (let p = fits_put g ns s l k w le h in record { names = p.names; holds = p.holds; sized = p.sized });
          same = λ i lt. put_below l k w i lt;
        }))

    invoked_comes : (c : Callee) (k : ℕ) (x : List ℕ) (us : List Expression) (ws : List ℕ) (κ : Continuation) (ns : List (List ℕ)) (l : ℕ → ℕ) (s : State) → callee g x ≡ c → IsCalled g c (length ws)
        → length ns ≤ k → s.steps < n → Fits g ns s l → values us l (world_at s) ≡ Some ws
        → Comes effect (Puts k κ ns l) (config (invoked c k us) κ l (world_at s)) s.steps (call x ws s)
    invoked_comes WriteWord k x us ws κ ns l s e known le lt h ps =
        let one_of = one_value us l (world_at s) ws ps known in
        let w : ℕ = one_of.0 in
        let t : State = record s { output = s.output ++ (w ∷ []) } in
        let X : Statement = Set k (Constant 0) in
        subst (λ r. Comes effect (Puts k κ ns l) (config (invoked WriteWord k us) κ l (world_at s)) s.steps r) (sym (facts.writes x ws s e lt))
        (subst (λ vs. Comes effect (Puts k κ ns l) (config (invoked WriteWord k us) κ l (world_at s)) s.steps (Gives 0 (record s { output = s.output ++ vs }))) (sym one_of.1.0)
        (comes_moved effect (Puts k κ ns l) (config (invoked WriteWord k us) κ l (world_at s)) (config (Write (last_value us)) (Then X κ) l (world_at s)) s.steps (Gives 0 t) refl
        (comes_moved effect (Puts k κ ns l) (config (Write (last_value us)) (Then X κ) l (world_at s)) (config Skip (Then X κ) l (world_at t)) s.steps (Gives 0 t)
        (ap (λ o. tried o (λ w. Goes (config Skip (Then X κ) l (record (world_at s) { output = s.output ++ (w ∷ []) })))) one_of.1.1)
        (comes_moved effect (Puts k κ ns l) (config Skip (Then X κ) l (world_at t)) (config X κ l (world_at t)) s.steps (Gives 0 t) refl
        (set_gives k 0 (Constant 0) κ ns l t le (record { names = h.names; holds = h.holds; sized = h.sized }) refl)))))
    invoked_comes ReadWord k x us ws κ ns l s e known le lt h ps =
        subst (λ r. Comes effect (Puts k κ ns l) (config (Read (Some k)) κ l (world_at s)) s.steps r) (sym (facts.reads x ws s e lt)) (read_comes s.input k κ ns l s refl le h)
    invoked_comes (Defined f) k x us ws κ ns l s e known le lt h ps =
        subst (λ r. Comes effect (Puts k κ ns l) (config (Call (Some k) f us) κ l (world_at s)) s.steps r) (sym (facts.does x ws f s e known lt h.sized).does)
        (call_comes k f us ws κ ns l s (facts.does x ws f s e known lt h.sized).what le h ps (facts.does x ws f s e known lt h.sized).same (facts.does x ws f s e known lt h.sized).keeps)

    -- if a list of one argument has no values, the argument has no value
    one_missing : (u : Expression) (l : ℕ → ℕ) (h : World) → values (u ∷ []) l h ≡ None → value u l h ≡ None
    one_missing u l h e = by (value u l h) e
      where
        by : (o : Option ℕ) → then_value o (λ w. Some (w ∷ [])) ≡ None → o ≡ None
        by None e = refl
        by (Some w) e = absurd (cc)

    invoked_stuck : (c : Callee) (b : Bool) (k : ℕ) (us : List Expression) (κ : Continuation) (l : ℕ → ℕ) (s : State) → IsCalled g c (length us) → values us l (world_at s) ≡ None
        → Stuck effect b (config (invoked c k us) κ l (world_at s)) s.steps s.output
    invoked_stuck WriteWord b k [] κ l s known e = absurd (let m : 0 ≡ 1 = known in omega arith)
    invoked_stuck WriteWord b k (u ∷ []) κ l s known e =
        let X : Statement = Set k (Constant 0) in
        stuck_moved effect b (config (Sequence (Write u) X) κ l (world_at s)) (config (Write u) (Then X κ) l (world_at s)) s.steps s.output refl
        (stuck_here effect b (config (Write u) (Then X κ) l (world_at s)) s.steps s.output
        (ap (λ o. tried o (λ w. Goes (config Skip (Then X κ) l (record (world_at s) { output = s.output ++ (w ∷ []) })))) (one_missing u l (world_at s) e)) refl)
    invoked_stuck WriteWord b k (u ∷ z ∷ rest) κ l s known e = absurd (let m : suc (suc (length rest)) ≡ 1 = known in omega arith)
    invoked_stuck ReadWord b k [] κ l s known e = absurd (cc)
    invoked_stuck ReadWord b k (u ∷ rest) κ l s known e = absurd (let m : suc (length rest) ≡ 0 = known in omega arith)
    invoked_stuck (Defined f) b k us κ l s known e =
        stuck_here effect b (config (Call (Some k) f us) κ l (world_at s)) s.steps s.output
        (ap (λ o. tried o (λ vs. Calls (record { function = f; arguments = vs; world = world_at s }) (λ (a : Answer). config Skip κ (put l k a.value) a.world))) e) refl

    -- ---- expressions

    abbrev PutsValue : Expr → Type 0
    PutsValue e = (v : Environment) (k : ℕ) (κ : Continuation) (l : ℕ → ℕ) (s : State) → Known g v e → free v ≤ k → s.steps < n → Fits g v.locals s l
        → Comes effect (Puts k κ v.locals l) (config (put_expr g v k e) κ l (world_at s)) s.steps (evaluate e (types_in v) call s)

    -- the truth of the right operand of && and || is put into variable k
    truth_comes : (b : Expr) (v : Environment) (k : ℕ) (κ : Continuation) (l : ℕ → ℕ) (s : State) → PutsValue b → Known g v b → free v ≤ k → s.steps < n → Fits g v.locals s l
        → Comes effect (Puts k κ v.locals l) (config (used (is_plain b) (plain g v b) (put_expr g v k b) k (λ y. Set k (truth_of y))) κ l (world_at s)) s.steps (then_do (evaluate b (types_in v) call s) (λ y t. Gives (truth_value (is_true y)) t))
    truth_comes b v k κ l s hb known le lt h =
        used_comes (Puts k κ v.locals l) (is_plain b) (plain g v b) (put_expr g v k b) k (λ y. Set k (truth_of y)) κ v.locals l s (evaluate b (types_in v) call s) (λ y t. Gives (truth_value (is_true y)) t) (set_needs k truth_of truth_none) h
        (λ p. plain_is g call b v l s p known h) (λ μ. hb v k μ l s known le lt h)
        (λ y m u w less fits same is. puts_from k κ v.locals l m _ u.steps (Gives (truth_value (is_true w)) u) same
        (set_gives k (truth_value (is_true w)) (truth_of y) κ v.locals m u le fits (truth_is y m (world_at u) w is)))

    -- after their left operand, && and || do what they do in the source
    and_comes : (w : ℕ) (x : Expression) (t : Scalar) (b : Expr) (v : Environment) (k : ℕ) (κ : Continuation) (l : ℕ → ℕ) (s : State) → value x l (world_at s) ≡ Some w → PutsValue b → Known g v b → free v ≤ k → s.steps < n → Fits g v.locals s l
        → Comes effect (Puts k κ v.locals l) (config (branch x (used (is_plain b) (plain g v b) (put_expr g v k b) k (λ y. Set k (truth_of y))) (Set k (Constant 0))) κ l (world_at s)) s.steps
        (unless_decided (decided source.LogicalAnd w) (λ u. then_do (evaluate b (types_in v) call u) (λ y z. given source.LogicalAnd (binary_word source.LogicalAnd t w y) z)) s)
    and_comes zero x t b v k κ l s is hb known le lt h =
        comes_moved effect (Puts k κ v.locals l) (config (branch x (used (is_plain b) (plain g v b) (put_expr g v k b) k (λ y. Set k (truth_of y))) (Set k (Constant 0))) κ l (world_at s)) (config (Set k (Constant 0)) κ l (world_at s)) s.steps (Gives 0 s)
        (branch_moves x (used (is_plain b) (plain g v b) (put_expr g v k b) k (λ y. Set k (truth_of y))) (Set k (Constant 0)) κ l (world_at s) zero is)
        (set_gives k 0 (Constant 0) κ v.locals l s le h refl)
    and_comes (suc w) x t b v k κ l s is hb known le lt h =
        subst (λ d. Comes effect (Puts k κ v.locals l) (config (branch x (used (is_plain b) (plain g v b) (put_expr g v k b) k (λ y. Set k (truth_of y))) (Set k (Constant 0))) κ l (world_at s)) s.steps
        (unless_decided (if not d then None else Some 0) (λ u. then_do (evaluate b (types_in v) call u) (λ y z. given source.LogicalAnd (Some (truth_value (not d && is_true y))) z)) s)) (sym (ne_eqb (suc w) 0 (λ e. let f : suc w ≡ 0 = e in omega arith)))
        (comes_moved effect (Puts k κ v.locals l) (config (branch x (used (is_plain b) (plain g v b) (put_expr g v k b) k (λ y. Set k (truth_of y))) (Set k (Constant 0))) κ l (world_at s)) (config (used (is_plain b) (plain g v b) (put_expr g v k b) k (λ y. Set k (truth_of y))) κ l (world_at s)) s.steps
        (then_do (evaluate b (types_in v) call s) (λ y z. Gives (truth_value (is_true y)) z))
        (branch_moves x (used (is_plain b) (plain g v b) (put_expr g v k b) k (λ y. Set k (truth_of y))) (Set k (Constant 0)) κ l (world_at s) (suc w) is)
        (truth_comes b v k κ l s hb known le lt h))

    or_comes : (w : ℕ) (x : Expression) (t : Scalar) (b : Expr) (v : Environment) (k : ℕ) (κ : Continuation) (l : ℕ → ℕ) (s : State) → value x l (world_at s) ≡ Some w → PutsValue b → Known g v b → free v ≤ k → s.steps < n → Fits g v.locals s l
        → Comes effect (Puts k κ v.locals l) (config (branch x (Set k (Constant 1)) (used (is_plain b) (plain g v b) (put_expr g v k b) k (λ y. Set k (truth_of y)))) κ l (world_at s)) s.steps
        (unless_decided (decided source.LogicalOr w) (λ u. then_do (evaluate b (types_in v) call u) (λ y z. given source.LogicalOr (binary_word source.LogicalOr t w y) z)) s)
    or_comes zero x t b v k κ l s is hb known le lt h =
        comes_moved effect (Puts k κ v.locals l) (config (branch x (Set k (Constant 1)) (used (is_plain b) (plain g v b) (put_expr g v k b) k (λ y. Set k (truth_of y)))) κ l (world_at s)) (config (used (is_plain b) (plain g v b) (put_expr g v k b) k (λ y. Set k (truth_of y))) κ l (world_at s)) s.steps
        (then_do (evaluate b (types_in v) call s) (λ y z. Gives (truth_value (is_true y)) z))
        (branch_moves x (Set k (Constant 1)) (used (is_plain b) (plain g v b) (put_expr g v k b) k (λ y. Set k (truth_of y))) κ l (world_at s) zero is)
        (truth_comes b v k κ l s hb known le lt h)
    or_comes (suc w) x t b v k κ l s is hb known le lt h =
        subst (λ d. Comes effect (Puts k κ v.locals l) (config (branch x (Set k (Constant 1)) (used (is_plain b) (plain g v b) (put_expr g v k b) k (λ y. Set k (truth_of y)))) κ l (world_at s)) s.steps
        (unless_decided (if not d then Some 1 else None) (λ u. then_do (evaluate b (types_in v) call u) (λ y z. given source.LogicalOr (Some (truth_value (not d || is_true y))) z)) s)) (sym (ne_eqb (suc w) 0 (λ e. let f : suc w ≡ 0 = e in omega arith)))
        (comes_moved effect (Puts k κ v.locals l) (config (branch x (Set k (Constant 1)) (used (is_plain b) (plain g v b) (put_expr g v k b) k (λ y. Set k (truth_of y)))) κ l (world_at s)) (config (Set k (Constant 1)) κ l (world_at s)) s.steps (Gives 1 s)
        (branch_moves x (Set k (Constant 1)) (used (is_plain b) (plain g v b) (put_expr g v k b) k (λ y. Set k (truth_of y))) κ l (world_at s) (suc w) is)
        (set_gives k 1 (Constant 1) κ v.locals l s le h refl))

    -- an operator whose left word waits in variable k does what it does in the source
    right_comes : (x : ℕ) (op : BinaryOperator) (t : Scalar) (b : Expr) (v : Environment) (k : ℕ) (κ : Continuation) (l : ℕ → ℕ) (s : State) → kind op ≡ Strict → l k ≡ x → PutsValue b → Known g v b → free v ≤ k → s.steps < n → Fits g v.locals s l
        → Comes effect (Puts k κ v.locals l) (config (used (is_plain b) (plain g v b) (put_expr g v (suc k) b) (suc k) (λ y. Set k (binary_of op t (Local k) y))) κ l (world_at s)) s.steps
        (unless_decided (decided op x) (λ u. then_do (evaluate b (types_in v) call u) (λ y z. given op (binary_word op t x y) z)) s)
    right_comes x op t b v k κ l s strict here hb known le lt h =
        subst (λ d. Comes effect (Puts k κ v.locals l) (config (used (is_plain b) (plain g v b) (put_expr g v (suc k) b) (suc k) (λ y. Set k (binary_of op t (Local k) y))) κ l (world_at s)) s.steps
        (unless_decided d (λ u. then_do (evaluate b (types_in v) call u) (λ y z. given op (binary_word op t x y) z)) s)) (sym (strict_undecided op x strict))
        (used_comes (Puts k κ v.locals l) (is_plain b) (plain g v b) (put_expr g v (suc k) b) (suc k) (λ y. Set k (binary_of op t (Local k) y)) κ v.locals l s (evaluate b (types_in v) call s) (λ y z. given op (binary_word op t x y) z)
        (set_needs k (λ y. binary_of op t (Local k) y) (λ y m z e. binary_none op t (Local k) y m z strict e)) h
        (λ p. plain_is g call b v l s p known h) (λ μ. hb v (suc k) μ l s known (omega arith) lt h)
        (λ y m u w less fits same is. puts_from k κ v.locals l m _ u.steps (given op (binary_word op t x w) u) (λ i below. same i (omega arith))
        (set_comes k (binary_of op t (Local k) y) κ v.locals m u (given op (binary_word op t x w) u) le fits
        (subst (λ o. PlainIs (given op (binary_word op t x w) u) u o)
        (sym (binary_value op t (Local k) y m (world_at u) strict ∙ ap (λ o. then_value o (λ b. binary_word op t (m k) b)) is ∙ ap (λ a. binary_word op t a w) (same k (omega arith) ∙ here)))
        (plain_given op (binary_word op t x w) u)))))

    connected_comes : (kd : Kind) (both : Bool) (op : BinaryOperator) (a b : Expr) (v : Environment) (k : ℕ) (κ : Continuation) (l : ℕ → ℕ) (s : State) → kind op ≡ kd → is_plain a && is_plain b ≡ both
        → PutsValue a → PutsValue b → Known g v (tree.Binary op a b) → free v ≤ k → s.steps < n → Fits g v.locals s l
        → Comes effect (Puts k κ v.locals l) (config (connected kd op (working_type op (value_type (types_in v) a) (value_type (types_in v) b)) (is_plain a) (is_plain b) (plain g v a) (plain g v b) (put_expr g v k a) (put_expr g v (suc k) b) (put_expr g v k b) k) κ l (world_at s)) s.steps (evaluate (tree.Binary op a b) (types_in v) call s)
    connected_comes Conjunction both op a b v k κ l s is bs ha hb known le lt h =
        let t : Scalar = working_type source.LogicalAnd (value_type (types_in v) a) (value_type (types_in v) b) in
        let f : Expression → Statement = λ x. branch x (used (is_plain b) (plain g v b) (put_expr g v k b) k (λ y. Set k (truth_of y))) (Set k (Constant 0)) in
        let go : ℕ → State → Run ℕ = λ x z. unless_decided (decided source.LogicalAnd x) (λ u. then_do (evaluate b (types_in v) call u) (λ y w. given source.LogicalAnd (binary_word source.LogicalAnd t x y) w)) z in
        subst (λ o. Comes effect (Puts k κ v.locals l) (config (used (is_plain a) (plain g v a) (put_expr g v k a) k f) κ l (world_at s)) s.steps (evaluate (tree.Binary o a b) (types_in v) call s)) (sym (is_conjunction op is))
        (used_comes (Puts k κ v.locals l) (is_plain a) (plain g v a) (put_expr g v k a) k f κ v.locals l s (evaluate a (types_in v) call s) go (branch_needs (used (is_plain b) (plain g v b) (put_expr g v k b) k (λ y. Set k (truth_of y))) (Set k (Constant 0))) h
        (λ p. plain_is g call a v l s p known.0 h) (λ μ. ha v k μ l s known.0 le lt h)
        (λ y m u w less fits same at. puts_from k κ v.locals l m _ u.steps (go w u) same (and_comes w y t b v k κ m u at hb known.1 le (omega arith) fits)))
    connected_comes Disjunction both op a b v k κ l s is bs ha hb known le lt h =
        let t : Scalar = working_type source.LogicalOr (value_type (types_in v) a) (value_type (types_in v) b) in
        let f : Expression → Statement = λ x. branch x (Set k (Constant 1)) (used (is_plain b) (plain g v b) (put_expr g v k b) k (λ y. Set k (truth_of y))) in
        let go : ℕ → State → Run ℕ = λ x z. unless_decided (decided source.LogicalOr x) (λ u. then_do (evaluate b (types_in v) call u) (λ y w. given source.LogicalOr (binary_word source.LogicalOr t x y) w)) z in
        subst (λ o. Comes effect (Puts k κ v.locals l) (config (used (is_plain a) (plain g v a) (put_expr g v k a) k f) κ l (world_at s)) s.steps (evaluate (tree.Binary o a b) (types_in v) call s)) (sym (is_disjunction op is))
        (used_comes (Puts k κ v.locals l) (is_plain a) (plain g v a) (put_expr g v k a) k f κ v.locals l s (evaluate a (types_in v) call s) go (branch_needs (Set k (Constant 1)) (used (is_plain b) (plain g v b) (put_expr g v k b) k (λ y. Set k (truth_of y)))) h
        (λ p. plain_is g call a v l s p known.0 h) (λ μ. ha v k μ l s known.0 le lt h)
        (λ y m u w less fits same at. puts_from k κ v.locals l m _ u.steps (go w u) same (or_comes w y t b v k κ m u at hb known.1 le (omega arith) fits)))
    connected_comes Strict true op a b v k κ l s is bs ha hb known le lt h =
        let t : Scalar = working_type op (value_type (types_in v) a) (value_type (types_in v) b) in
        let X : Statement = used (is_plain b) (plain g v b) (put_expr g v (suc k) b) (suc k) (λ y. Set k (binary_of op t (Local k) y)) in
        let p : is_strict (kind op) && (is_plain a && is_plain b) ≡ true = ap (λ z. is_strict z && (is_plain a && is_plain b)) is ∙ bs in
        subst (λ z. Comes effect (Puts k κ v.locals l) (config (if z then Set k (binary_of op t (plain g v a) (plain g v b)) else Sequence (put_expr g v k a) X) κ l (world_at s)) s.steps (evaluate (tree.Binary op a b) (types_in v) call s)) (sym bs)
        (set_comes k (binary_of op t (plain g v a) (plain g v b)) κ v.locals l s (evaluate (tree.Binary op a b) (types_in v) call s) le h (plain_is g call (tree.Binary op a b) v l s p known h))
    connected_comes Strict false op a b v k κ l s is bs ha hb known le lt h =
        let t : Scalar = working_type op (value_type (types_in v) a) (value_type (types_in v) b) in
        let X : Statement = used (is_plain b) (plain g v b) (put_expr g v (suc k) b) (suc k) (λ y. Set k (binary_of op t (Local k) y)) in
        let go : ℕ → State → Run ℕ = λ x z. unless_decided (decided op x) (λ u. then_do (evaluate b (types_in v) call u) (λ y w. given op (binary_word op t x y) w)) z in
        subst (λ z. Comes effect (Puts k κ v.locals l) (config (if z then Set k (binary_of op t (plain g v a) (plain g v b)) else Sequence (put_expr g v k a) X) κ l (world_at s)) s.steps (evaluate (tree.Binary op a b) (types_in v) call s)) (sym bs)
        (comes_moved effect (Puts k κ v.locals l) (config (Sequence (put_expr g v k a) X) κ l (world_at s)) (config (put_expr g v k a) (Then X κ) l (world_at s)) s.steps (evaluate (tree.Binary op a b) (types_in v) call s) refl
        (comes_then effect (Puts k (Then X κ) v.locals l) (Puts k κ v.locals l) (config (put_expr g v k a) (Then X κ) l (world_at s)) s.steps (evaluate a (types_in v) call s) go (ha v k (Then X κ) l s known.0 le lt h)
        (λ x u d less q. subst (λ c. Comes effect (Puts k κ v.locals l) c u.steps (go x u)) (sym q.at)
        (comes_moved effect (Puts k κ v.locals l) (config Skip (Then X κ) q.variables (world_at u)) (config X κ q.variables (world_at u)) u.steps (go x u) refl
        (puts_from k κ v.locals l q.variables _ u.steps (go x u) q.same (right_comes x op t b v k κ q.variables u is q.is hb known.1 le (omega arith) q.fits))))))

    mutual
      pub puts : (e : Expr) → PutsValue e
      puts (Number t w) v k κ l s known le lt h = set_comes k (Constant w) κ v.locals l s (Gives w s) le h (refl, refl)
      puts (Variable x) v k κ l s known le lt h = set_comes k (variable_of g v x.text) κ v.locals l s (Gives (variable_word x.text s) s) le h (refl, variable_value g v x.text s l known h)
      puts (Element x e) v k κ l s known le lt h =
          used_comes (Puts k κ v.locals l) (is_plain e) (plain g v e) (put_expr g v k e) k (λ i. Set k (Load (width_of g x.text) (object_of g x.text) i)) κ v.locals l s (evaluate e (types_in v) call s) (λ i t. read_element x.text i t)
          (set_needs k (λ i. Load (width_of g x.text) (object_of g x.text) i) (λ i m z e. ap (λ o. then_value o (λ j. world.element z (width_of g x.text) (object_of g x.text) j)) e)) h
          (λ p. plain_is g call e v l s p known.1 h) (λ μ. puts e v k μ l s known.1 le lt h)
          (λ y m u w less fits same is. puts_from k κ v.locals l m _ u.steps (read_element x.text w u) same
          (set_comes k (Load (width_of g x.text) (object_of g x.text) y) κ v.locals m u (read_element x.text w u) le fits (subst (λ o. PlainIs (read_element x.text w u) u o) (sym (element_value g x.text y w m u known.0 fits.sized is)) (plain_read x.text w u))))
      puts (tree.Call f es) v k κ l s known le lt h =
          let c : Callee = callee g f.text in
          called_comes (Puts k κ v.locals l) (are_plain es) (all_plain g v es) (in_sequence (put_all g v k es)) k (count es) (λ us. invoked c k us) κ v.locals l s (evaluate_all es (types_in v) call s) (λ ws t. call f.text ws t)
          (λ b e. invoked_stuck c b k (all_plain g v es) κ l s (subst (λ j. IsCalled g c j) (sym (plain_length v es)) known.0) e) h
          (λ p. all_plain_is g call es v l s p known.1 h) (plain_length v es) (λ μ. puts_all es v k μ l s known.1 le lt h)
          (λ us m u ws less fits same is many. puts_from k κ v.locals l m _ u.steps (call f.text ws u) same
          (invoked_comes c k f.text us ws κ v.locals m u refl (subst (λ j. IsCalled g c j) (sym many) known.0) le (omega arith) fits is))
      puts (Parenthesised e) v k κ l s known le lt h = puts e v k κ l s known le lt h
      puts (tree.Unary op e) v k κ l s known le lt h =
          used_comes (Puts k κ v.locals l) (is_plain e) (plain g v e) (put_expr g v k e) k (λ a. Set k (unary_of op a)) κ v.locals l s (evaluate e (types_in v) call s) (λ a t. Gives (unary_word op a) t) (set_needs k (λ a. unary_of op a) (λ a m z e. unary_none op a m z e)) h
          (λ p. plain_is g call e v l s p known h) (λ μ. puts e v k μ l s known le lt h)
          (λ y m u w less fits same is. puts_from k κ v.locals l m _ u.steps (Gives (unary_word op w) u) same
          (set_gives k (unary_word op w) (unary_of op y) κ v.locals m u le fits (unary_value op y m (world_at u) ∙ ap (λ o. then_value o (λ a. Some (unary_word op a))) is)))
      puts (Cast t e) v k κ l s known le lt h = puts e v k κ l s known le lt h
      puts (tree.Binary op a b) v k κ l s known le lt h = connected_comes (kind op) (is_plain a && is_plain b) op a b v k κ l s refl refl (puts a) (puts b) known le lt h
      puts (Conditional c a b) v k κ l s known le lt h =
          used_comes (Puts k κ v.locals l) (is_plain c) (plain g v c) (put_expr g v k c) k (λ x. branch x (put_expr g v k a) (put_expr g v k b)) κ v.locals l s (evaluate c (types_in v) call s) (λ w t. choose w (evaluate a (types_in v) call) (evaluate b (types_in v) call) t) (branch_needs (put_expr g v k a) (put_expr g v k b)) h
          (λ p. plain_is g call c v l s p known.0 h) (λ μ. puts c v k μ l s known.0 le lt h)
          (λ y m u w less fits same is. puts_from k κ v.locals l m _ u.steps (choose w (evaluate a (types_in v) call) (evaluate b (types_in v) call) u) same
          (choice_comes (Puts k κ v.locals m) y (put_expr g v k a) (put_expr g v k b) κ m u w (evaluate a (types_in v) call) (evaluate b (types_in v) call) is
          (puts a v k κ m u known.1 le (omega arith) fits) (puts b v k κ m u known.2 le (omega arith) fits)))

      puts_all : (es : Exprs) (v : Environment) (k : ℕ) (κ : Continuation) (l : ℕ → ℕ) (s : State) → AllKnown g v es → free v ≤ k → s.steps < n → Fits g v.locals s l
          → Comes effect (PutsAll k (count es) κ v.locals l) (config (in_sequence (put_all g v k es)) κ l (world_at s)) s.steps (evaluate_all es (types_in v) call s)
      puts_all none v k κ l s known le lt h =
          comes_here effect (PutsAll k 0 κ v.locals l) (config Skip κ l (world_at s)) [] s (record { variables = l; at = refl; passed = tt; many = refl; fits = h; same = λ i below. refl })
      puts_all (more e rest) v k κ l s known le lt h =
          let X : List Statement = put_all g v (suc k) rest in
          let μ : Continuation = after_list X κ in
          let R = PutsAll k (suc (count rest)) κ v.locals l in
          let go : ℕ → State → Run (List ℕ) = λ w t. then_do (evaluate_all rest (types_in v) call t) (λ ws u. Gives (w ∷ ws) u) in
          comes_first effect R (put_expr g v k e) X κ l (world_at s) s.steps (then_do (evaluate e (types_in v) call s) go)
          (comes_then effect (Puts k μ v.locals l) R (config (put_expr g v k e) μ l (world_at s)) s.steps (evaluate e (types_in v) call s) go (puts e v k μ l s known.0 le lt h)
          (λ w u d less q. subst (λ c. Comes effect R c u.steps (go w u)) (sym q.at)
          (comes_next effect R X κ q.variables (world_at u) u.steps (go w u)
          (comes_then effect (PutsAll (suc k) (count rest) κ v.locals q.variables) R (config (in_sequence X) κ q.variables (world_at u)) u.steps (evaluate_all rest (types_in v) call u) (λ ws z. Gives (w ∷ ws) z)
          (puts_all rest v (suc k) κ q.variables u known.1 (omega arith) (omega arith) q.fits)
          (λ ws z d below p. comes_here effect R d (w ∷ ws) z (record {
            variables = p.variables;
            at = p.at;
            passed = (p.same k (omega arith) ∙ q.is, p.passed);
            many = ap suc p.many;
            fits = p.fits;
            same = λ i lt. p.same i (omega arith) ∙ q.same i lt;
          }))))))
