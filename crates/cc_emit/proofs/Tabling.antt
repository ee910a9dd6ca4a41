-- The table of labels, filled from the back, one item at a time.
use Rattle.std.proofs.Common.{◌≡◌, ℕ, zero, suc, ◌+◌, ◌-◌, ◌*◌, ◌<◌, ◌≤◌, List, [], ◌∷◌, Bool, Option, Some, None, true, false, length, get_or, set, drop, replicate, refl, sym, ap, ◌∙◌, subst, inl, inr, arith}
use Rattle.std.specs.Prelude.{if◌then◌else◌}
use Rattle.std.specs.List.{AllByRecursion}
use Rattle.std.proofs.lemmas.List.{get_or-set_same, get_or-set_other, length-set, get_or-replicate, length-replicate, drop_more, drop_all}
use Rattle.std.proofs.lemmas.Bool.Decides.{eqb_tells}
use Rattle.cc_linear_language.specs.declared.item.LinearItem.TheVariants.{Label, IfNonzero, IfZero}
use Rattle.cc_select.specs.declared.step.Step.{Step}
use Rattle.cc_select.specs.declared.step.Step.TheVariants.{One, Branch, BranchImmediate}
use Rattle.cc_select.specs.Selected.{labels}
use Rattle.cc_emit.specs.declared.addressed.Addressed.{Addressed}
use Rattle.cc_emit.specs.declared.addressed.Remembered.{Remembered}
use Rattle.cc_emit.specs.Frames.{Frame}
use Rattle.cc_emit.specs.declared.condition.Condition.{Condition}
use Rattle.cc_emit.specs.Branches.{against_zero}
use Rattle.cc_emit.specs.Emission.{size, size_of_step, long_size, branch_size, word_branch_size, word_recipe, is_label, is_label_step, label_of_step}
use Rattle.cc_emit.specs.internal.Behind.{long_behind, near_behind, behind, label_behind, branched_to, branched_to_step, label_of, IsTable}

-- ---- the number of labels that a table needs

-- a number from `count` on that is above the labels of the rest is above all labels
abbrev pub Counted : List Step → (index count : ℕ) → Type 0
Counted code i count = (n : ℕ) → count ≤ n → AllByRecursion (λ label. label < n) (labels (drop i code)) → AllByRecursion (λ label. label < n) (labels code)

pub counted_more : (code : List Step) (i count above count' : ℕ) (item : Step) → i < length code → item ≡ get_or code i item → count ≤ count' → above ≤ count'
    → ((n : ℕ) (rest : List Step) → above ≤ n → AllByRecursion (λ label. label < n) (labels rest) → AllByRecursion (λ label. label < n) (labels (item ∷ rest))) → Counted code i count → Counted code (i + 1) count'
counted_more code i count above count' item lt is le more one counted n ln all =
    let rest : drop i code ≡ item ∷ drop (i + 1) code = drop_more code i item lt ∙ ap (λ x. x ∷ drop (i + 1) code) (sym is) in
    counted n (omega arith) (subst (λ items. AllByRecursion (λ label. label < n) (labels items)) (sym rest) (one n (drop (i + 1) code) (omega arith) all))

-- ---- the number of items of a step: as with each branch long, but one less if it is a near branch

word_less : (alone : Option Condition) → word_branch_size alone true + 1 ≡ word_branch_size alone false
word_less (Some c) = refl
word_less None = refl

near_step : (f : Frame) (near : ℕ → Bool) (k : Remembered) (s : Step) (to : ℕ) → Some to ≡ branched_to_step s → near to ≡ true → size_of_step f near k s + 1 ≡ size_of_step f (λ label. false) k s
near_step f near k (One (IfNonzero r n)) to e near_it = (let is : to ≡ n = cc in ap (λ b. branch_size b + 1) (ap near (sym is) ∙ near_it))
near_step f near k (One (IfZero r n)) to e near_it = (let is : to ≡ n = cc in ap (λ b. branch_size b + 1) (ap near (sym is) ∙ near_it))
near_step f near k (Branch o nonzero b c n) to e near_it = (let is : to ≡ n = cc in ap (λ b. branch_size b + 1) (ap near (sym is) ∙ near_it))
near_step f near k (BranchImmediate o nonzero b w n) to e near_it =
    (let is : to ≡ n = cc in ap (λ x. word_branch_size (against_zero (word_recipe o w) b) x + 1) (ap near (sym is) ∙ near_it) ∙ word_less (against_zero (word_recipe o w) b))
near_step f near k _ to e near_it = absurd (cc)

far_step : (f : Frame) (near : ℕ → Bool) (k : Remembered) (s : Step) (to : ℕ) → Some to ≡ branched_to_step s → near to ≡ false → size_of_step f near k s ≡ size_of_step f (λ label. false) k s
far_step f near k (One (IfNonzero r n)) to e far = (let is : to ≡ n = cc in ap branch_size (ap near (sym is) ∙ far))
far_step f near k (One (IfZero r n)) to e far = (let is : to ≡ n = cc in ap branch_size (ap near (sym is) ∙ far))
far_step f near k (Branch o nonzero b c n) to e far = (let is : to ≡ n = cc in ap branch_size (ap near (sym is) ∙ far))
far_step f near k (BranchImmediate o nonzero b w n) to e far = (let is : to ≡ n = cc in ap (word_branch_size (against_zero (word_recipe o w) b)) (ap near (sym is) ∙ far))
far_step f near k _ to e far = absurd (cc)

straight_step : (f : Frame) (near : ℕ → Bool) (k : Remembered) (s : Step) → None ≡ branched_to_step s → size_of_step f near k s ≡ size_of_step f (λ label. false) k s
straight_step f near k (One (IfNonzero r n)) e = absurd (cc)
straight_step f near k (One (IfZero r n)) e = absurd (cc)
straight_step f near k (Branch o nonzero b c n) e = absurd (cc)
straight_step f near k (BranchImmediate o nonzero b w n) e = absurd (cc)
straight_step f near k _ e = refl

pub near_size : (f : Frame) (near : ℕ → Bool) (item : Addressed) (to long : ℕ) → Some to ≡ branched_to item → near to ≡ true → long ≡ long_size f item → (long - 1 ≡ size f near item) × (1 ≤ long)
near_size f near item to long e near_it is = (let less = near_step f near item.known item.step to e near_it in (omega arith, omega arith))

pub far_size : (f : Frame) (near : ℕ → Bool) (item : Addressed) (to long : ℕ) → Some to ≡ branched_to item → near to ≡ false → long ≡ long_size f item → long ≡ size f near item
far_size f near item to long e far is = is ∙ sym (far_step f near item.known item.step to e far)

pub straight_size : (f : Frame) (near : ℕ → Bool) (item : Addressed) (long : ℕ) → None ≡ branched_to item → long ≡ long_size f item → long ≡ size f near item
straight_size f near item long e is = is ∙ sym (straight_step f near item.known item.step e)

-- ---- the table

abbrev pub labelled : Remembered → (label : ℕ) → Addressed
labelled k n = record { step = One (Label n); known = k }

pub no_labels : (f : Frame) (first : List ℕ) (count : ℕ) → IsTable f first [] count (replicate count 0)
no_labels f first count = record { long = length-replicate count 0; each = λ l lt. get_or-replicate count l 0 0 lt }

-- a label is noted at its place
pub label_noted : (f : Frame) (first : List ℕ) (count n : ℕ) (k : Remembered) (items : List Addressed) (table : List ℕ) → n < count → IsTable f first items count table
    → IsTable f first (labelled k n ∷ items) count (set table n (behind f first (labelled k n ∷ items)))
label_noted f first count n k items table lt t =
    let b = behind f first (labelled k n ∷ items) in
    record {
      long = length-set table n b ∙ t.long;
      each = λ l ll. elim (eqb_tells n l) [
        | inl e ↦ (ap (λ i. get_or (set table n b) i 0) (sym e.1) ∙ get_or-set_same table n b 0 (let long = t.long in omega arith) ∙ sym (ap (λ c. if c then b else label_behind f first items l) e.0))
        | inr e ↦ (get_or-set_other table n l b 0 (λ q. e.1 (sym q)) ∙ t.each l ll ∙ sym (ap (λ c. if c then b else label_behind f first items l) e.0))
      ];
    }

-- a label past the end of the table is not noted
pub label_past : (f : Frame) (first : List ℕ) (count n : ℕ) (k : Remembered) (items : List Addressed) (table : List ℕ) → count ≤ n → IsTable f first items count table → IsTable f first (labelled k n ∷ items) count table
label_past f first count n k items table le t = record {
  long = t.long;
  each = λ l ll. elim (eqb_tells n l) [
    | inl e ↦ absurd (let q = e.1 in omega arith)
    | inr e ↦ (t.each l ll ∙ sym (ap (λ c. if c then behind f first (labelled k n ∷ items) else label_behind f first items l) e.0))
  ];
}

abbrev pub IsNoLabel : Addressed → Type 0
IsNoLabel item = (l : ℕ) → is_label l item ≡ false

pub other_past : (f : Frame) (first : List ℕ) (count : ℕ) (item : Addressed) (items : List Addressed) (table : List ℕ) → IsNoLabel item → IsTable f first items count table → IsTable f first (item ∷ items) count table
other_past f first count item items table none t = record { long = t.long; each = λ l lt. t.each l lt ∙ sym (ap (λ c. if c then behind f first (item ∷ items) else label_behind f first items l) (none l)) }

no_label_step : (step : Step) → ((n : ℕ) → label_of_step step ≡ Some n → ⊥) → (l : ℕ) → is_label_step l step ≡ false
no_label_step (One (Label n)) f l = absurd (f n refl)
no_label_step _ f l = refl

pub no_label : (item : Addressed) → ((n : ℕ) → label_of item ≡ Some n → ⊥) → IsNoLabel item
no_label item f l = no_label_step item.step f l

step_says : (step : Step) (n : ℕ) → Some n ≡ label_of_step step → step ≡ One (Label n)
step_says (One (Label m)) n e = ap (λ k. One (Label k)) (let z : m ≡ n = cc in z)
step_says _ n e = absurd (cc)

pub label_says : (item : Addressed) (n : ℕ) → Some n ≡ label_of item → item ≡ labelled item.known n
label_says item n e = λ i. record { step = step_says item.step n e i; known = item.known }

-- the table covers the items from number `at` on
pub record Filled (f : Frame) (first : List ℕ) (code : List Addressed) (count at here all : ℕ) (table : List ℕ) : Type 0 where
  pub within : at ≤ length code
  pub here_is : here ≡ long_behind f (drop at code)
  pub all_is : all ≡ behind f first (drop at code)
  pub of_table : IsTable f first (drop at code) count table
  pub few : here + 15 * at ≤ 15 * length code
  pub few_all : all + 15 * at ≤ 15 * length code

pub filled_first : (f : Frame) (first : List ℕ) (code : List Addressed) (count : ℕ) (table : List ℕ) → table ≡ replicate count 0 → Filled f first code count (length code) 0 0 table
filled_first f first code count table e =
    let none = drop_all (length code) code (omega arith) in
    record {
      within = omega arith;
      here_is = sym (ap (long_behind f) none);
      all_is = sym (ap (behind f first) none);
      of_table = subst (IsTable f first (drop (length code) code) count) (sym e) (subst (λ items. IsTable f first items count (replicate count 0)) (sym none) (no_labels f first count));
      few = omega arith;
      few_all = omega arith;
    }

-- `item` is the item before number `at`
abbrev pub At : (code : List Addressed) (at : ℕ) → Addressed → Type 0
At code at item = (0 < at) × (item ≡ get_or code (at - 1) item)

rest_more : (code : List Addressed) (at : ℕ) (item : Addressed) → at ≤ length code → At code at item → drop (at - 1) code ≡ item ∷ drop at code
rest_more code at item le (pos, is) =
    let n : at - 1 + 1 ≡ at = omega arith in
    drop_more code (at - 1) item (omega arith) ∙ ap (λ x. x ∷ drop (at - 1 + 1) code) (sym is) ∙ ap (λ i. item ∷ drop i code) n

pub is_label_at : (code : List Addressed) (at : ℕ) (item : Addressed) (n : ℕ) (k : Remembered) → item ≡ get_or code at item → item ≡ labelled k n → labelled k n ≡ get_or code at (labelled k n)
is_label_at code at item n k is e = subst (λ x. x ≡ get_or code at x) e is

-- the table covers one more item
filled_more : (f : Frame) (first : List ℕ) (code : List Addressed) (count at here all here' all' : ℕ) (item : Addressed) (table table' : List ℕ) → Filled f first code count at here all table → At code at item
    → here' ≡ here + long_size f item → all' ≡ all + size f (near_behind first here') item → long_size f item ≤ 15 → size f (near_behind first here') item ≤ 15
    → (here' ≡ long_behind f (item ∷ drop at code) → all' ≡ behind f first (item ∷ drop at code) → IsTable f first (item ∷ drop at code) count table') → Filled f first code count (at - 1) here' all' table'
filled_more f first code count at here all here' all' item table table' o a eh ea lh la t =
    let rest = rest_more code at item o.within a in
    let pos = a.0 in
    let few = o.few in
    let few_all = o.few_all in
    let le = o.within in
    let new_here : here' ≡ long_behind f (item ∷ drop at code) = (let h = o.here_is in omega arith) in
    let new_all : all' ≡ behind f first (item ∷ drop at code) =
    ea ∙ ap (λ h. all + size f (near_behind first h) item) new_here ∙ (let h = o.all_is in let z : all + size f (near_behind first (long_behind f (item ∷ drop at code))) item ≡ behind f first (item ∷ drop at code) = omega arith in z) in
    record {
      within = omega arith;
      here_is = new_here ∙ sym (ap (long_behind f) rest);
      all_is = new_all ∙ sym (ap (behind f first) rest);
      of_table = subst (λ items. IsTable f first items count table') (sym rest) (t new_here new_all);
      few = omega arith;
      few_all = omega arith;
    }

pub filled_label : (f : Frame) (first : List ℕ) (code : List Addressed) (count at here all here' all' n : ℕ) (k : Remembered) (table : List ℕ) → Filled f first code count at here all table → At code at (labelled k n)
    → here' ≡ here + long_size f (labelled k n) → all' ≡ all + size f (near_behind first here') (labelled k n) → n < length table → Filled f first code count (at - 1) here' all' (set table n all')
filled_label f first code count at here all here' all' n k table o a eh ea lt =
    let long = o.of_table.long in
    filled_more f first code count at here all here' all' (labelled k n) table (set table n all') o a eh ea (omega arith) (omega arith)
    (λ h e. subst (λ m. IsTable f first (labelled k n ∷ drop at code) count (set table n m)) (sym e) (label_noted f first count n k (drop at code) table (omega arith) o.of_table))

pub filled_past : (f : Frame) (first : List ℕ) (code : List Addressed) (count at here all here' all' n : ℕ) (k : Remembered) (table : List ℕ) → Filled f first code count at here all table → At code at (labelled k n)
    → here' ≡ here + long_size f (labelled k n) → all' ≡ all + size f (near_behind first here') (labelled k n) → length table ≤ n → Filled f first code count (at - 1) here' all' table
filled_past f first code count at here all here' all' n k table o a eh ea le =
    let long = o.of_table.long in
    filled_more f first code count at here all here' all' (labelled k n) table table o a eh ea (omega arith) (omega arith) (λ h e. label_past f first count n k (drop at code) table (omega arith) o.of_table)

pub filled_other : (f : Frame) (first : List ℕ) (code : List Addressed) (count at here all here' all' : ℕ) (item : Addressed) (table : List ℕ) → Filled f first code count at here all table → At code at item
    → here' ≡ here + long_size f item → all' ≡ all + size f (near_behind first here') item → long_size f item ≤ 15 → size f (near_behind first here') item ≤ 15
    → ((n : ℕ) → label_of item ≡ Some n → ⊥) → Filled f first code count (at - 1) here' all' table
filled_other f first code count at here all here' all' item table o a eh ea lh la none =
    filled_more f first code count at here all here' all' item table table o a eh ea lh la (λ h e. other_past f first count item (drop at code) table (no_label item none) o.of_table)

pub filled_all : (f : Frame) (first : List ℕ) (code : List Addressed) (count at here all : ℕ) (table : List ℕ) → Filled f first code count at here all table → at ≤ 0 → IsTable f first code count table × (all ≡ behind f first code)
filled_all f first code count zero here all table o le = (o.of_table, o.all_is)
filled_all f first code count (suc at) here all table o le = absurd (omega arith)
