-- The code finds which steps are in loops. From the back, it notes for each label the position of the last step that leads to it.
-- Going forward, it works out from that how far steps lead back to one of the labels so far.
use Rattle.std.proofs.Common.{◌≡◌, ℕ, zero, suc, ◌+◌, ◌-◌, ◌<◌, ◌≤◌, ◌⊎◌, List, [], ◌∷◌, Bool, ◌||◌, ◌==◌, Option, Some, None, true, false, length, get_or, drop, replicate, nat_lt, refl, sym, ap, ap₂, ◌∙◌, subst, inl, inr, arith}
use Rattle.std.specs.Prelude.{if◌then◌else◌}
use Rattle.std.specs.List.{AllByRecursion}
use Rattle.std.proofs.lemmas.List.{get_or-replicate, length-replicate, drop_more, drop_all}
use Rattle.std.proofs.lemmas.Bool.Decides.{nat_tests}
use Rattle.cc_linear_language.specs.declared.item.LinearItem.TheVariants.{Label}
use Rattle.cc_select.specs.declared.step.Step.{Step}
use Rattle.cc_select.specs.declared.step.Step.TheVariants.{One}
use Rattle.cc_select.specs.Selected.{labels}
use Rattle.cc_emit.specs.Emission.{label_of_step}
use Rattle.cc_emit.specs.Scratch.{led_to, is_led, lead_to, lead_back, labels_past}
use Rattle.cc_emit.specs.internal.Loops.{AreLast, noted, later, reach_past}
use Rattle.cc_emit.proofs.Basics.{eqb_says, eqb_denies}

less_yes : (a b : ℕ) → a < b → nat_lt a b ≡ true
less_yes a b lt = grind (arith, nat_tests)

pub less_not : (a b : ℕ) → b ≤ a → nat_lt a b ≡ false
less_not a b le = grind (arith, nat_tests)

-- ---- what is noted about the steps from number `at` on

pub record Noted (code : List Step) (count at : ℕ) (last : List ℕ) : Type 0 where
  pub within : at ≤ length code
  pub long : length last ≡ count
  pub each : (label k : ℕ) → label < count → at ≤ k → lead_to label (drop k code) ≡ nat_lt k (get_or last label 0)
  pub entry : (label : ℕ) → label < count → (get_or last label 0 ≡ 0) ⊎ (at < get_or last label 0)

pub noted_first : (code : List Step) (count : ℕ) (last : List ℕ) → last ≡ replicate count 0 → Noted code count (length code) last
noted_first code count last e =
    let none : (l : ℕ) → l < count → get_or last l 0 ≡ 0 = λ l lt. ap (λ xs. get_or xs l 0) e ∙ get_or-replicate count l 0 0 lt in
    record {
      within = omega arith;
      long = ap (λ (xs : List ℕ). length xs) e ∙ length-replicate count 0;
      each = λ l k lt le. ap (lead_to l) (drop_all k code le) ∙ sym (ap (nat_lt k) (none l lt) ∙ less_not k 0 (omega arith));
      entry = λ l lt. inl (none l lt);
    }

entry_more : (led : Bool) (old at : ℕ) → 0 < at → (old ≡ 0) ⊎ (at < old) → (noted led old at ≡ 0) ⊎ (at - 1 < noted led old at)
entry_more false old at pos (inl e) = inl e
entry_more false old at pos (inr lt) = inr (omega arith)
entry_more true old at pos h = by (old == 0) (eqb_denies old 0) h
  where
    by : (b : Bool) → (b ≡ false → old ≡ 0 → ⊥) → (old ≡ 0) ⊎ (at < old) → ((if b then at else old) ≡ 0) ⊎ (at - 1 < (if b then at else old))
    by true p h = inr (omega arith)
    by false p (inl e) = absurd (p refl e)
    by false p (inr lt) = inr (omega arith)

-- a new note does not change what the table says about later steps
entry_same : (led : Bool) (old at k : ℕ) → at ≤ k → nat_lt k (noted led old at) ≡ nat_lt k old
entry_same false old at k le = refl
entry_same true old at k le = by (old == 0) (eqb_says old 0)
  where
    by : (b : Bool) → (b ≡ true → old ≡ 0) → nat_lt k (if b then at else old) ≡ nat_lt k old
    by true p = (let e = p refl in less_not k at le ∙ sym (less_not k old (omega arith)))
    by false p = refl

-- a new note is right about this step
entry_here : (led : Bool) (old at : ℕ) → 0 < at → (old ≡ 0) ⊎ (at < old) → (led || nat_lt at old) ≡ nat_lt (at - 1) (noted led old at)
entry_here false old at pos (inl e) = less_not at old (omega arith) ∙ sym (less_not (at - 1) old (omega arith))
entry_here false old at pos (inr lt) = less_yes at old lt ∙ sym (less_yes (at - 1) old (omega arith))
entry_here true old at pos h = by (old == 0) (eqb_denies old 0) h
  where
    by : (b : Bool) → (b ≡ false → old ≡ 0 → ⊥) → (old ≡ 0) ⊎ (at < old) → true ≡ nat_lt (at - 1) (if b then at else old)
    by true p h = sym (less_yes (at - 1) at (omega arith))
    by false p (inl e) = absurd (p refl e)
    by false p (inr lt) = sym (less_yes (at - 1) old (omega arith))

from_or_before : (at k : ℕ) → at - 1 ≤ k → (at ≤ k) ⊎ (k ≡ at - 1)
from_or_before at k le = grind arith

rest_more : (code : List Step) (at : ℕ) (step : Step) → at ≤ length code → 0 < at → step ≡ get_or code (at - 1) step → drop (at - 1) code ≡ step ∷ drop at code
rest_more code at step le pos is =
    let n : at - 1 + 1 ≡ at = omega arith in
    drop_more code (at - 1) step (omega arith) ∙ ap (λ x. x ∷ drop (at - 1 + 1) code) (sym is) ∙ ap (λ i. step ∷ drop i code) n

pub noted_more : (code : List Step) (count at : ℕ) (step : Step) (old new : List ℕ) → 0 < at → step ≡ get_or code (at - 1) step → length new ≡ length old
    → ((label : ℕ) → label < length old → get_or new label 0 ≡ noted (is_led (led_to step) label) (get_or old label 0) at) → Noted code count at old → Noted code count (at - 1) new
noted_more code count at step old new pos is same each n =
    let rest = rest_more code at step n.within pos is in
    let le = n.within in
    let long = n.long in
    let now : (l : ℕ) → l < count → get_or new l 0 ≡ noted (is_led (led_to step) l) (get_or old l 0) at = λ l lt. each l (omega arith) in
    record {
      within = omega arith;
      long = same ∙ long;
      each = λ l k lt from.
          elim (from_or_before at k from) [
            | inl further ↦ (n.each l k lt further ∙ sym (ap (nat_lt k) (now l lt) ∙ entry_same (is_led (led_to step) l) (get_or old l 0) at k further))
            | inr here ↦
                (ap (λ i. lead_to l (drop i code)) here ∙ ap (lead_to l) rest ∙ ap (λ b. is_led (led_to step) l || b) (n.each l at lt (omega arith))
                ∙ entry_here (is_led (led_to step) l) (get_or old l 0) at pos (n.entry l lt) ∙ sym (ap₂ (λ i m. nat_lt i m) here (now l lt)))
          ];
      entry = λ l lt. subst (λ m. (m ≡ 0) ⊎ (at - 1 < m)) (sym (now l lt)) (entry_more (is_led (led_to step) l) (get_or old l 0) at pos (n.entry l lt));
    }

pub noted_all : (code : List Step) (count at : ℕ) (last : List ℕ) → at ≤ 0 → Noted code count at last → AreLast code count last
noted_all code count at last none n = record { long = n.long; each = λ l k lt. n.each l k lt (omega arith) }

-- ---- how far steps lead back to one of these labels, from a given step on

abbrev pub Reaches : (code : List Step) → (labels : List ℕ) → (index reach : ℕ) → Type 0
Reaches code labels i reach = (k : ℕ) → i ≤ k → lead_back labels (drop k code) ≡ nat_lt k reach

less_later : (k a b : ℕ) → (nat_lt k b || nat_lt k a) ≡ nat_lt k (later a b)
less_later k a b = grind (arith, nat_tests)

pub reaches_more : (code : List Step) (count : ℕ) (last labels : List ℕ) (label : Option ℕ) (i reach : ℕ) → AreLast code count last → ((l : ℕ) → label ≡ Some l → l < count) → Reaches code labels i reach → Reaches code (labels_past label labels) (i + 1) (reach_past last label reach)
reaches_more code count last labels None i reach is below r = λ k le. r k (omega arith)
reaches_more code count last labels (Some l) i reach is below r = λ k le. ap₂ (λ a b. a || b) (is.each l k (below l refl)) (r k (omega arith)) ∙ less_later k reach (get_or last l 0)

-- ---- a label is below a number if all labels are

head_below : (count : ℕ) (s : Step) (code : List Step) (l : ℕ) → label_of_step s ≡ Some l → AllByRecursion (λ label. label < count) (labels (s ∷ code)) → l < count
head_below count (One (Label m)) code l e all = (let z : m ≡ l = cc in subst (λ n. n < count) z all.0)
head_below count _ code l e all = absurd (cc)

tail_below : (count : ℕ) (s : Step) (code : List Step) → AllByRecursion (λ label. label < count) (labels (s ∷ code)) → AllByRecursion (λ label. label < count) (labels code)
tail_below count (One (Label m)) code all = all.1
tail_below count _ code all = all

pub label_below : (count : ℕ) (code : List Step) (i l : ℕ) (step : Step) → i < length code → step ≡ get_or code i step → label_of_step step ≡ Some l → AllByRecursion (λ label. label < count) (labels code) → l < count
label_below count [] i l step lt is e all = absurd (omega arith)
label_below count (s ∷ code) zero l step lt is e all = head_below count s code l (ap label_of_step (sym is) ∙ e) all
label_below count (s ∷ code) (suc i) l step lt is e all = label_below count code i l step (omega arith) is e (tail_below count s code all)
