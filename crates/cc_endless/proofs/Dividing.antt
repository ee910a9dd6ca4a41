-- The program that divides by what it reads: it goes wrong on every list, and on no endless input without a zero.
use Rattle.std.proofs.Common.{◌≡◌, ◌≢◌, ℕ, zero, suc, ◌<◌, ◌≤◌, List, [], ◌∷◌, ◌++◌, length, false, if◌then◌else◌, Option, Some, None, codes, refl, sym, ap, ◌∙◌, subst, ◌⊎◌, inl, inr, arith}
use Rattle.std.proofs.Math.Logic.{∥∥₁_elim}
use Rattle.std.specs.Prelude.{◌&&◌, ◌==◌, ◌^◌, ◌-◌, int_div}
use Rattle.std.proofs.lemmas.Bool.{ne_eqb, or_from, cases_eq}
use Rattle.cc_words.specs.Words.{lacks_quotient, div_s, word_of, signed_value}
use Rattle.cc_words.specs.Observed.{read_mark, reads_in}
use Rattle.cc_ast.specs.Tree as tree
use Rattle.cc_ast.specs.Parse.{SpellsText}
use Rattle.cc_ast.specs.scalar.Scalar.TheVariants.{Int}
use Rattle.cc_ast.specs.declared.ast.BinaryOperator.TheVariants.{Divide}
use Rattle.cc_syntax.proofs.Parsed.{same_tree}
use Rattle.cc_types.specs.Scope.{Visible, in_scope, opened, body_scope, first_file_scope}
use Rattle.cc_types.specs.Verdict.{source_with}
use Rattle.cc_simulation.specs.Behavior as runs
use Rattle.cc_c_semantics.specs.Meaning.{State, Run, Gives, Going, Wrong, Flow, Falls, then_do, spend_of, behind_flow, behind_body, turns, given, perform, left_scope, in_block, read_input, functions, result_of, calls, initial_globals, outcome_of}
use Rattle.cc_c_semantics.specs.Numbered.{without_cause}
use Rattle.cc_rv32.specs.declared.image.Image.{Image}
use Rattle.cc_link.specs.Agree.{image_behavior, program_behavior}
use Rattle.cc_endless.specs.Within.{IsWithin}
use Rattle.cc_endless.specs.Endless.{first, AreAllWords, IsNeverWrong, FollowsEndless}
use Rattle.cc_endless.specs.Agree.{EndlessAgreement}
use Rattle.cc_endless.specs.Divisions.{division, divisions, GoesOnForEver, DivisionsGoWrong, DivisionsGoOn, FivesGoOn, ImagesOfDivisionsGoOn}
use Rattle.cc_endless.proofs.Marks.{reads_read}
use Rattle.cc_endless.proofs.Feeding.{limit}
use Rattle.cc_endless.proofs.Agreeing.{agree_on_endless}

-- 100 has a quotient by every word but 0
quotient : (w : ℕ) → w ≢ 0 → div_s 100 w ≡ Some (word_of (int_div (signed_value 100) (signed_value w)))
quotient w h =
    let e : lacks_quotient 100 w ≡ false = or_from (w == 0) ((100 == 2 ^ 31) && (w == 2 ^ 32 - 1)) (ne_eqb w 0 h) refl in
    ap (λ b. if b then None else Some (word_of (int_div (signed_value 100) (signed_value w)))) e

-- ---- the program's parts

-- what divides by the word that was read
abbrev divides : ℕ → State → Run ℕ
divides w s = given Divide (div_s 100 w) s

-- the scope of the loop's body
abbrev visible : Visible
visible = opened (opened (body_scope (record { result = Some Int; name = record { text = codes "main"; at = 4 }; parameters = [] }) first_file_scope))

abbrev body : ℕ → State → Run Flow
body m s = in_block (perform (tree.Evaluate division) (in_scope visible) (calls (suc m) (functions divisions.externals) 1)) s

-- a turn of the loop from its division on, and what follows it
abbrev rest : (locals : ℕ) (go : State → Run Flow) → Run ℕ → Run Flow
rest n go r = then_do (then_do (then_do r (λ w u. Gives Falls u)) (λ flow u. Gives flow (left_scope n u))) (λ flow u. behind_body flow go u)

abbrev loop : (k m : ℕ) → State → Run Flow
loop k m s = turns k (λ t. Gives 1 t) (body m) (λ t. Gives Falls t) s

-- what `main` does after its step
abbrev statement : ℕ → State → Run Flow
statement m s = then_do (in_block (loop (suc (suc m)) m) s) (λ flow t. behind_flow flow (λ u. Gives Falls u) t)

abbrev main : ℕ → State → Run ℕ
main m s = then_do (statement m (record s { locals = [] })) (λ flow t. Gives (result_of flow) (record t { locals = s.locals }))

abbrev begun : (steps : ℕ) → List ℕ → State
begun steps input = record { locals = []; globals = initial_globals divisions.externals; input = input; output = []; steps = steps }

-- ---- on an endless input

abbrev HasNoZero : List ℕ → Type 0
HasNoZero [] = Unit {0}
HasNoZero (w ∷ ws) = (w ≢ 0) × HasNoZero ws

-- the division has a quotient, and no zero is left to read; or it has read past the limit
abbrev Calm : ℕ → Run ℕ → Type 0
Calm l (Gives x t) = (l ≤ limit t) × HasNoZero t.input
Calm l (Going output) = Unit {0}
Calm l (Wrong cause output) = l < reads_in output

calm_divides : (o : Option ℕ) (q : ℕ) (l : ℕ) (s : State) → o ≡ Some q → l ≤ limit s → HasNoZero s.input → Calm l (given Divide o s)
calm_divides o q l s e le h = subst (λ p. Calm l (given Divide p s)) (sym e) (le, h)

calm_read : (input : List ℕ) (s : State) → s.input ≡ input → HasNoZero input → Calm (limit s) (then_do (read_input input s) divides)
calm_read [] s e h = let l : length s.input ≡ 0 = ap length e in let r = reads_read s.output in omega arith
calm_read (w ∷ ws) s e h =
    let l : length s.input ≡ suc (length ws) = ap length e in
    let r = reads_read s.output in
    calm_divides (div_s 100 w) (word_of (int_div (signed_value 100) (signed_value w))) (limit s) (record s { input = ws; output = s.output ++ read_mark ∷ [] }) (quotient w h.0) (omega arith) h.1

-- the run is going; or it has read past the limit
abbrev Lasts : {A : Type 0} → ℕ → Run A → Type 0
Lasts l (Gives x t) = ⊥
Lasts l (Going output) = Unit {0}
Lasts l (Wrong cause output) = l < reads_in output

lower : {A : Type 0} (l m : ℕ) (r : Run A) → l ≤ m → Lasts m r → Lasts l r
lower l m (Gives x t) le h = h
lower l m (Going output) le h = tt
lower l m (Wrong cause output) le h = omega arith

lasts_then : {A C : Type 0} (l : ℕ) (r : Run A) (go : A → State → Run C) → Lasts l r → Lasts l (then_do r go)
lasts_then l (Gives x t) go h = absurd h
lasts_then l (Going output) go h = tt
lasts_then l (Wrong cause output) go h = h

lasts_rest : (l n : ℕ) (go : State → Run Flow) (r : Run ℕ) → Calm l r → ((t : State) → HasNoZero t.input → Lasts (limit t) (go t)) → Lasts l (rest n go r)
lasts_rest l n go (Gives x t) h f = lower l (limit t) (go (left_scope n t)) h.0 (f (left_scope n t) h.1)
lasts_rest l n go (Going output) h f = tt
lasts_rest l n go (Wrong cause output) h f = h

lasts_spend : (left : ℕ) (go : State → Run Flow) (s : State) → HasNoZero s.input → ((u : State) → HasNoZero u.input → Lasts (limit u) (go u)) → Lasts (limit s) (spend_of left go s)
lasts_spend zero go s h f = tt
lasts_spend (suc left) go s h f = f (record s { steps = left }) h

lasts_loop : (k m : ℕ) (s : State) → HasNoZero s.input → Lasts (limit s) (loop k m s)
lasts_loop zero m s h = tt
lasts_loop (suc k) m s h =
    lasts_spend s.steps (λ u. rest (length u.locals) (λ v. loop k m v) (then_do (read_input u.input u) divides)) s h
    (λ u i. lasts_rest (limit u) (length u.locals) (λ v. loop k m v) (then_do (read_input u.input u) divides) (calm_read u.input u refl i) (lasts_loop k m))

lasts_main : (m : ℕ) (s : State) → HasNoZero s.input → Lasts (limit s) (main m s)
lasts_main m s h =
    let t = record s { locals = [] } in
    lasts_then (limit t) (statement m t) (λ flow u. Gives (result_of flow) (record u { locals = s.locals }))
    (lasts_then (limit t) (in_block (loop (suc (suc m)) m) t) (λ flow u. behind_flow flow (λ u. Gives Falls u) u)
    (lasts_then (limit t) (loop (suc (suc m)) m t) (λ flow u. Gives flow (left_scope (length t.locals) u)) (lasts_loop (suc (suc m)) m t h)))

going_by : (l : ℕ) (r : Run ℕ) → Lasts l r → reads_in (outcome_of r).output ≤ l → (without_cause (outcome_of r)).stop ≡ runs.Going
going_by l (Gives x t) h le = absurd h
going_by l (Going output) h le = refl
going_by l (Wrong cause output) h le = absurd (omega arith)

going_within : (input : List ℕ) → HasNoZero input → (n : ℕ) → IsWithin input (program_behavior divisions input n).output → (program_behavior divisions input n).stop ≡ runs.Going
going_within input h zero within = refl
going_within input h (suc m) within = going_by (limit (begun m input)) (main m (begun m input)) (lasts_main m (begun m input) h) (omega arith)

first_no_zero : (k : ℕ) (words : ℕ → ℕ) → ((i : ℕ) → words i ≢ 0) → HasNoZero (first k words)
first_no_zero zero words h = tt
first_no_zero (suc k) words h = (h 0, first_no_zero k (λ i. words (suc i)) (λ i. h (suc i)))

pub divisions_go_on : DivisionsGoOn
divisions_go_on words h n o s =
    subst (λ (y : runs.Outcome ℕ). y.stop ≡ runs.Going) s.shows
    (going_within (first s.given words) (first_no_zero s.given words h) n (subst (λ (y : runs.Outcome ℕ). IsWithin (first s.given words) y.output) (sym s.shows) s.within))

never_wrong : (run : List ℕ → ℕ → runs.Outcome ℕ) (words : ℕ → ℕ) → GoesOnForEver run words → IsNeverWrong run words
never_wrong run words on n o s = subst runs.IsRight (sym (on n o s)) tt

pub fives_go_on : FivesGoOn
fives_go_on = never_wrong (program_behavior divisions) (λ i. 5) (divisions_go_on (λ i. 5) (λ i e. absurd (omega arith)))

-- ---- an image

-- a run that may neither end nor go wrong is going
neither : (t : runs.Stop ℕ) → runs.IsRight t → ((w : ℕ) → t ≡ runs.Ended w → ⊥) → t ≡ runs.Going
neither runs.Going ok none_ends = refl
neither (runs.Ended w) ok none_ends = absurd (none_ends w refl)
neither runs.Wrong ok none_ends = absurd ok

-- what follows a run that goes on for ever does so too
on_for_ever : (a z : List ℕ → ℕ → runs.Outcome ℕ) (words : ℕ → ℕ) → FollowsEndless a z words → GoesOnForEver a words → GoesOnForEver z words
on_for_ever a z words f on m p s =
    let right = never_wrong a words on in
    neither p.stop (f.never_wrong right m p s)
    (λ w e. f.no_more right m p s (λ n o t begins alike. let g : runs.Going ≡ runs.Ended w = sym (on n o t) ∙ alike w e in cc))

image_goes_on : (text : List ℕ) (image : Image) → SpellsText text divisions.externals → EndlessAgreement text image
    → (words : ℕ → ℕ) → AreAllWords words → ((i : ℕ) → words i ≢ 0) → GoesOnForEver (image_behavior image) words
image_goes_on text image spelled g words are h =
    on_for_ever (program_behavior divisions) (image_behavior image) words
    (subst (λ t. FollowsEndless (program_behavior (source_with text t)) (image_behavior image) words) (same_tree text g.tree divisions.externals g.spelled spelled) (g.follows words are))
    (divisions_go_on words h)

nothing_prop : IsProp ⊥
nothing_prop = hlevel

-- a run that is not not going is going
going_if : (t : runs.Stop ℕ) → ((t ≡ runs.Going → ⊥) → ⊥) → t ≡ runs.Going
going_if runs.Going h = refl
going_if (runs.Ended w) h = absurd (h (λ e. cc))
going_if runs.Wrong h = absurd (h (λ e. cc))

pub images_of_divisions_go_on : ImagesOfDivisionsGoOn
images_of_divisions_go_on text image spelled agree words are h n o s =
    going_if o.stop (λ refuted. ∥∥₁_elim (agree_on_endless text image agree) nothing_prop (λ (g : EndlessAgreement text image). refuted (image_goes_on text image spelled g words are h n o s)))

-- ---- on a list

abbrev IsWrong : {A : Type 0} → Run A → Type 0
IsWrong (Gives x t) = ⊥
IsWrong (Going output) = ⊥
IsWrong (Wrong cause output) = Unit {0}

wrong_then : {A C : Type 0} (r : Run A) (rest : A → State → Run C) → IsWrong r → IsWrong (then_do r rest)
wrong_then (Gives x t) rest h = absurd h
wrong_then (Going output) rest h = absurd h
wrong_then (Wrong cause output) rest h = tt

wrong_word : (w n : ℕ) (go : State → Run Flow) (t : State) → (w ≡ 0) ⊎ (w ≢ 0) → IsWrong (go (left_scope n t)) → IsWrong (rest n go (divides w t))
wrong_word w n go t (inl e) h = subst (λ v. IsWrong (rest n go (divides v t))) (sym e) tt
wrong_word w n go t (inr d) h = subst (λ o. IsWrong (rest n go (given Divide o t))) (sym (quotient w d)) h

-- a turn of the loop goes wrong on the input left, and so does the loop, which spends a step for it
wrong_turn : (input : List ℕ) (k m left : ℕ) (s : State) → s.input ≡ input → s.steps ≡ suc left
    → IsWrong (rest (length s.locals) (λ v. loop k m v) (then_do (read_input input (record s { steps = left })) divides)) → IsWrong (loop (suc k) m s)
wrong_turn input k m left s e f h =
    let go = λ (v : State). loop k m v in
    let here : IsWrong (rest (length s.locals) go (then_do (read_input s.input (record s { steps = left })) divides)) =
    subst (λ i. IsWrong (rest (length s.locals) go (then_do (read_input i (record s { steps = left })) divides))) (sym e) h in
    subst (λ n. IsWrong (spend_of n (λ u. then_do (body m u) (λ flow v. behind_body flow go v)) s)) (sym f) here

wrong_loop : (input : List ℕ) (k m left : ℕ) (s : State) → s.input ≡ input → s.steps ≡ left → length input < left → left < k → IsWrong (loop k m s)
wrong_loop input zero m left s e f few less = absurd (omega arith)
wrong_loop input (suc k) m zero s e f few less = absurd (omega arith)
wrong_loop [] (suc k) m (suc left) s e f few less = wrong_turn [] k m left s e f tt
wrong_loop (w ∷ ws) (suc k) m (suc left) s e f few less =
    let u = record s { steps = left; input = ws; output = s.output ++ read_mark ∷ [] } in
    let n = length s.locals in
    wrong_turn (w ∷ ws) k m left s e f (wrong_word w n (λ v. loop k m v) u (cases_eq w 0) (wrong_loop ws k m left (left_scope n u) refl refl (omega arith) (omega arith)))

stops_wrong : (r : Run ℕ) → IsWrong r → (without_cause (outcome_of r)).stop ≡ runs.Wrong
stops_wrong (Gives x t) h = absurd h
stops_wrong (Going output) h = absurd h
stops_wrong (Wrong cause output) h = refl

pub divisions_go_wrong : DivisionsGoWrong
divisions_go_wrong input =
    let m = suc (length input) in
    let s = begun m input in (
      suc m,
      stops_wrong (main m s)
          (wrong_then (statement m s) (λ flow t. Gives (result_of flow) (record t { locals = s.locals }))
          (wrong_then (in_block (loop (suc (suc m)) m) s) (λ flow t. behind_flow flow (λ u. Gives Falls u) t)
          (wrong_then (loop (suc (suc m)) m s) (λ flow t. Gives flow (left_scope (length s.locals) t)) (wrong_loop input (suc (suc m)) m m s refl refl (omega arith) (omega arith))))),
    )
