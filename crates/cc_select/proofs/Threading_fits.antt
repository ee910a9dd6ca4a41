-- With tests before labels the items are still those of a function of Linear.
use Rattle.std.proofs.Common.{◌≡◌, ◌≢◌, ℕ, List, [], ◌∷◌, ◌++◌, Option, Some, None, Bool, true, false, refl, sym, subst}
use Rattle.std.specs.Prelude.{if◌then◌else◌, ◌==◌, Contains}
use Rattle.std.specs.List.{AllByRecursion, AllPairs}
use Rattle.cc_linear_language.specs.declared.item.LinearItem.{LinearItem}
use Rattle.cc_linear_language.specs.declared.item.LinearItem.TheVariants.{Label, Jump, IfNonzero, IfZero}
use Rattle.cc_linear_language.specs.Linear.{labels, IsItem, IsLinear}
use Rattle.cc_select.specs.Known.{Known, unknown, known_behind}
use Rattle.cc_select.specs.Threading.{Tests, branches_to, first_test, test_behind, tests, way, is_jump, before_label, before_jump, in_jump, is_some, threaded_by, threaded}
use Rattle.cc_select.proofs.Basics.{none_some, eqb_says}
use Rattle.cc_select.proofs.Tests.{IsTest, target_of, way_is, gone_tests, contains_first, contains_more}
use Rattle.cc_select.proofs.Threaded.{threaded_labels}

labelled_behind : (items : List LinearItem) (n : ℕ) (t : LinearItem) → test_behind items n ≡ Some t → Contains (labels items) n
labelled_behind [] n t e = none_some t e
labelled_behind (Label m ∷ items) n t e = by (m == n) refl e (λ x. contains_more m n (labels items) (labelled_behind items n t x))
  where
    by : (b : Bool) → (m == n) ≡ b → (if b then first_test items else test_behind items n) ≡ Some t → (test_behind items n ≡ Some t → Contains (m ∷ labels items) n) → Contains (m ∷ labels items) n
    by true q x ih = subst (λ l. Contains (m ∷ labels items) l) (eqb_says m n q) (contains_first m (labels items))
    by false q x ih = ih x
labelled_behind (i ∷ items) n t e = labelled_behind items n t e

module _ (slots functions : ℕ) (all : List ℕ) where
  abbrev Fits : LinearItem → Type 0
  Fits i = IsItem slots functions all i

  abbrev AreFit : List LinearItem → Type 0
  AreFit items = AllByRecursion (IsItem slots functions all) items

  first_fits : (items : List LinearItem) (t : LinearItem) → first_test items ≡ Some t → AreFit items → Fits t
  first_fits [] t e f = none_some t e
  first_fits (IfNonzero r m ∷ items) t e f = let q : IfNonzero r m ≡ t = cc in subst Fits q f.0
  first_fits (IfZero r m ∷ items) t e f = let q : IfZero r m ≡ t = cc in subst Fits q f.0
  first_fits (i ∷ items) t e f = none_some t e

  behind_fits : (items : List LinearItem) (n : ℕ) (t : LinearItem) → test_behind items n ≡ Some t → AreFit items → Fits t
  behind_fits [] n t e f = none_some t e
  behind_fits (Label m ∷ items) n t e f = by (m == n) e (λ x. behind_fits items n t x f.1)
    where
      by : (b : Bool) → (if b then first_test items else test_behind items n) ≡ Some t → (test_behind items n ≡ Some t → Fits t) → Fits t
      by true x ih = first_fits items t x f.1
      by false x ih = ih x
  behind_fits (i ∷ items) n t e f = behind_fits items n t e f.1

  target_fits : (t : LinearItem) → IsTest t → Fits t → Contains all (target_of t)
  target_fits (IfNonzero r m) is f = f.1
  target_fits (IfZero r m) is f = f.1
  target_fits i is f = absurd is

  module _ (ts : Tests) (fit : (n : ℕ) (t : LinearItem) → ts n ≡ Some t → IsTest t × Fits t × Contains all n) where
    way_fits : (k : Known) (n : ℕ) (t : LinearItem) → ts n ≡ Some t → Fits (way k t n)
    way_fits k n t e = let f = fit n t e in way_is Fits k t n f.0 (target_fits t f.0 f.1) f.2 f.1

    label_fits : (k : Known) (m : ℕ) (items : List LinearItem) (z : Option LinearItem) → ts m ≡ z → AreFit items → AreFit (before_label k z m ++ items)
    label_fits k m items None e r = (tt, r)
    label_fits k m items (Some t) e r = (way_fits k m t e, (tt, r))

    before_fits : (w : LinearItem) (m : ℕ) (items : List LinearItem) → Fits w → Contains all m → AreFit items → AreFit (before_jump w m ++ items)
    before_fits w m items f c r = (f, by (is_jump w))
      where
        by : (b : Bool) → AreFit ((if b then [] else Jump m ∷ []) ++ items)
        by true = r
        by false = (c, r)

    jump_fits : (k : Known) (m : ℕ) (items : List LinearItem) (z : Option LinearItem) → ts m ≡ z → Contains all m → AreFit items → AreFit (in_jump k z m ++ items)
    jump_fits k m items None e c r = (c, r)
    jump_fits k m items (Some t) e c r = before_fits (way k t m) m items (way_fits k m t e) c r

    threaded_fits : (k : Known) (b : Bool) (items : List LinearItem) → AreFit items → AreFit (threaded_by ts k b items)
    threaded_fits k b [] f = tt
    threaded_fits k true (i ∷ items) f = threaded_fits k false items f.1
    threaded_fits k false (Label m ∷ items) f = label_fits k m (threaded_by ts unknown (is_some (ts m)) items) (ts m) refl (threaded_fits unknown (is_some (ts m)) items f.1)
    threaded_fits k false (Jump m ∷ items) f = jump_fits k m (threaded_by ts unknown false items) (ts m) refl f.0 (threaded_fits unknown false items f.1)
    threaded_fits k false (i ∷ items) f = (f.0, threaded_fits (known_behind i k) false items f.1)

pub threaded_linear : (slots functions : ℕ) (code : List LinearItem) → IsLinear slots functions code → IsLinear slots functions (threaded code)
threaded_linear slots functions code p =
    let e = sym (threaded_labels code p.distinct) in
    record {
      few = p.few;
      distinct = subst (λ (ls : List ℕ). AllPairs (λ (a b : ℕ). a ≢ b) ls) e p.distinct;
      fit = subst (λ (ls : List ℕ). AllByRecursion (IsItem slots functions ls) (threaded code)) e (threaded_fits slots functions (labels code) (tests code) fit unknown false code p.fit);
    }
  where
    fit : (n : ℕ) (t : LinearItem) → tests code n ≡ Some t → IsTest t × IsItem slots functions (labels code) t × Contains (labels code) n
    fit n t e = by (branches_to code n) e
      where
        by : (b : Bool) → (if b then None else test_behind code n) ≡ Some t → IsTest t × IsItem slots functions (labels code) t × Contains (labels code) n
        by true x = none_some t x
        by false x = ((gone_tests code n t e).test, behind_fits slots functions (labels code) code n t x p.fit, labelled_behind code n t x)
