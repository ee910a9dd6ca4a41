-- The steps so far, each with what is known about the address that it accesses, followed by those of the rest, are all the steps
-- of the function.
use Rattle.std.proofs.Common.{◌≡◌, ℕ, ◌+◌, ◌*◌, ◌^◌, ◌<◌, ◌≤◌, Bool, true, false, List, [], ◌∷◌, ◌++◌, length, get_or, drop, nat_lt, refl, sym, ap, ap₂, ◌∙◌, subst, append_assoc, arith}
use Rattle.std.specs.Prelude.{if◌then◌else◌}
use Rattle.std.specs.List.{AllByRecursion}
use Rattle.std.proofs.lemmas.List.{drop_more, drop_all}
use Rattle.cc_select.specs.declared.step.Step.{Step}
use Rattle.cc_select.specs.Selected.{labels}
use Rattle.cc_emit.specs.declared.addressed.Addressed.{Addressed}
use Rattle.cc_emit.specs.declared.addressed.Remembered.{Remembered}
use Rattle.cc_emit.specs.declared.scratch.Scratch.{Scratch}
use Rattle.cc_emit.specs.Scratch.{nothing, remembered, with_known, behind_step, addressed, step_access_size, labels_past, lead_back, loop_weight, weight, accesses_size}
use Rattle.cc_emit.specs.Emission.{label_of_step}
use Rattle.cc_emit.specs.internal.Loops.{AreLast, reach_past}
use Rattle.cc_emit.proofs.Looping.{Reaches, label_below, less_not, reaches_more}

abbrev pub SoFar : (base : ℕ → ℕ) → (sets_pointer : Bool) → (code : List Step) → (index : ℕ) → Scratch → List Addressed → Type 0
SoFar base sets_pointer code i held steps = steps ++ addressed base sets_pointer held (drop i code) ≡ addressed base sets_pointer nothing code

pub known_is : (base : ℕ → ℕ) (sets_pointer : Bool) (held : Scratch) (step : Step) (known : Remembered) → known ≡ remembered base sets_pointer held step → record { step = step; known = known } ≡ with_known base sets_pointer held step
known_is base sets_pointer held step known e = λ i. record { step = step; known = e i }

pub so_far_more : (base : ℕ → ℕ) (sets_pointer : Bool) (code : List Step) (i : ℕ) (held held' : Scratch) (step : Step) (item : Addressed) (old new : List Addressed) → i < length code → step ≡ get_or code i step → item ≡ with_known base sets_pointer held step → new ≡ old ++ item ∷ [] → held' ≡ behind_step base sets_pointer step held
    → SoFar base sets_pointer code i held old → SoFar base sets_pointer code (i + 1) held' new
so_far_more base sets_pointer code i held held' step item old new lt is known e next o =
    let rest = drop (i + 1) code in
    let split : drop i code ≡ step ∷ rest = drop_more code i step lt ∙ ap (λ x. x ∷ rest) (sym is) in
    ap (λ (k : Scratch). new ++ addressed base sets_pointer k rest) next ∙ ap (λ xs. xs ++ addressed base sets_pointer (behind_step base sets_pointer step held) rest) e ∙ append_assoc old (item ∷ []) (addressed base sets_pointer (behind_step base sets_pointer step held) rest)
    ∙ ap (λ (x : Addressed). old ++ (x ∷ addressed base sets_pointer (behind_step base sets_pointer step held) rest)) known ∙ sym (ap (λ steps. old ++ addressed base sets_pointer held steps) split) ∙ o

pub so_far_all : (base : ℕ → ℕ) (sets_pointer : Bool) (code : List Step) (i : ℕ) (held : Scratch) (steps : List Addressed) → length code ≤ i → SoFar base sets_pointer code i held steps → steps ≡ addressed base sets_pointer nothing code
so_far_all base sets_pointer code i held steps le o = sym (append_none steps) ∙ sym (ap (λ rest. steps ++ addressed base sets_pointer held rest) (drop_all i code le)) ∙ o
  where
    append_none : (xs : List Addressed) → xs ++ [] ≡ xs
    append_none [] = refl
    append_none (x ∷ xs) = ap (λ l. x ∷ l) (append_none xs)

-- ---- the numbers of instructions of the accesses so far and of the accesses of the rest add up to the whole

abbrev pub Sized : (base : ℕ → ℕ) → (sets_pointer : Bool) → (code : List Step) → (index : ℕ) → Scratch → (reach size : ℕ) → Type 0
Sized base sets_pointer code i held reach n =
    (labels : List ℕ) × (n + accesses_size base sets_pointer held labels (drop i code) ≡ accesses_size base sets_pointer nothing [] code) × Reaches code labels i reach × (n ≤ 32 * i) × (i ≤ length code)

pub sized_first : (base : ℕ → ℕ) (sets_pointer : Bool) (code : List Step) → Sized base sets_pointer code 0 nothing 0 0
sized_first base sets_pointer code =
    let all = accesses_size base sets_pointer nothing [] code in
    let none : 0 + all ≡ all = omega arith in
    ([], none, (λ k le. sym (less_not k 0 (omega arith))), omega arith, omega arith)

weighed_few : (b : Bool) (one : ℕ) → one ≤ 4 → (if b then loop_weight else 1) * one ≤ 32
weighed_few true one le = omega arith
weighed_few false one le = omega arith

pub sized_more : (base : ℕ → ℕ) (sets_pointer : Bool) (code : List Step) (last : List ℕ) (i : ℕ) (held held' : Scratch) (step : Step) (known : Remembered) (n m one w reach reach' : ℕ) → AreLast code (length last) last → AllByRecursion (λ label. label < length last) (labels code)
    → i < length code → step ≡ get_or code i step → known ≡ remembered base sets_pointer held step → held' ≡ behind_step base sets_pointer step held → one ≡ step_access_size known step → one ≤ 4 → w ≡ (if nat_lt i reach then loop_weight else 1) → m ≡ n + w * one
    → reach' ≡ reach_past last (label_of_step step) reach → Sized base sets_pointer code i held reach n → Sized base sets_pointer code (i + 1) held' reach' m
sized_more base sets_pointer code last i held held' step known n m one w reach reach' is_last below lt is told next here few weighs sum past (labels, o, reaches, le, within) =
    let rest = drop (i + 1) code in
    let split : drop i code ≡ step ∷ rest = drop_more code i step lt ∙ ap (λ x. x ∷ rest) (sym is) in
    let seen = labels_past (label_of_step step) labels in
    let behind = behind_step base sets_pointer step held in
    let all : n + (weight labels (step ∷ rest) * step_access_size (remembered base sets_pointer held step) step + accesses_size base sets_pointer behind seen rest) ≡ accesses_size base sets_pointer nothing [] code =
    sym (ap (λ steps. n + accesses_size base sets_pointer held labels steps) split) ∙ o in
    let size : one ≡ step_access_size (remembered base sets_pointer held step) step = here ∙ ap (λ k. step_access_size k step) told in
    let leads : lead_back labels (step ∷ rest) ≡ nat_lt i reach = sym (ap (lead_back labels) split) ∙ reaches i (omega arith) in
    let weight_is : w ≡ weight labels (step ∷ rest) = weighs ∙ ap (λ b. if b then loop_weight else 1) (sym leads) in
    let counted : w * one ≡ weight labels (step ∷ rest) * step_access_size (remembered base sets_pointer held step) step = ap₂ (λ a b. a * b) weight_is size in
    let small : w * one ≤ 32 = subst (λ v. v * one ≤ 32) (sym weighs) (weighed_few (nat_lt i reach) one few) in
    let onward : accesses_size base sets_pointer held' seen rest ≡ accesses_size base sets_pointer behind seen rest = ap (λ (k : Scratch). accesses_size base sets_pointer k seen rest) next in
    let on : Reaches code seen (i + 1) reach' =
    subst (Reaches code seen (i + 1)) (sym past) (reaches_more code (length last) last labels (label_of_step step) i reach is_last (λ l e. label_below (length last) code i l step lt is e below) reaches) in
    (seen, omega (arith, all, counted, onward, sum), on, omega (arith, small, le, sum), omega arith)

pub sized_all : (base : ℕ → ℕ) (sets_pointer : Bool) (code : List Step) (i : ℕ) (held : Scratch) (reach n : ℕ) → length code ≤ i → Sized base sets_pointer code i held reach n → n ≡ accesses_size base sets_pointer nothing [] code
sized_all base sets_pointer code i held reach n le (labels, o, reaches, few, within) = (let none : accesses_size base sets_pointer held labels (drop i code) ≡ 0 = ap (λ steps. accesses_size base sets_pointer held labels steps) (drop_all i code le) in omega arith)

pub sized_few : (base : ℕ → ℕ) (sets_pointer : Bool) (code : List Step) (i : ℕ) (held : Scratch) (reach n : ℕ) → length code ≤ 2 ^ 56 → Sized base sets_pointer code i held reach n → n ≤ 2 ^ 61
sized_few base sets_pointer code i held reach n le (labels, o, reaches, few, within) = omega arith
