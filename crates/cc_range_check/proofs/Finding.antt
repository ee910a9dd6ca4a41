-- What is found of an operation, after what was found before it.
use Rattle.std.proofs.Common.{◌≡◌, ℕ, zero, suc, ◌+◌, Bool, true, false, List, [], ◌∷◌, ◌++◌, refl, sym, ap, ◌∙◌, subst, append-nil, append_assoc, arith}
use Rattle.cc_words.specs.declared.operators.Binary as two
use Rattle.cc_words.specs.declared.operators.Width.{Width}
use Rattle.cc_simulation.specs.World.{Size}
use Rattle.cc_cminor_language.specs.Cminor.{Expression, Constant, Local, Unary, Binary, Load, Statement}
use Rattle.cc_guard.specs.Guard.{elements_in}
use Rattle.cc_range.specs.declared.range.Range.{Range}
use Rattle.cc_range.specs.Range.{is_covered, is_index}
use Rattle.cc_range_table.specs.Table.{Facts}
use Rattle.cc_range_table.specs.Inductive.{range_of}
use Rattle.cc_range_check.specs.declared.places.Place.{Place}
use Rattle.cc_range_check.specs.declared.places.Found.{Found}
use Rattle.cc_range_check.specs.declared.places.Need as needs
use Rattle.cc_range_check.specs.declared.places.Need.TheVariants.{Operands, Index}
use Rattle.cc_range_check.specs.Places.{counted, operations_of, operations_of_all, unless, unless_inside, uncovered, uncovered_all}
use Rattle.cc_range_check.specs.internal.Walked.{Finds, FindsIndex, FindsIn, FindsInAll}

pub finds_none : (f : Found) → Finds 0 [] f f
finds_none f = record { operation = omega arith; uncovered = sym (append-nil f.uncovered.items) }

pub finds_then : (n m : ℕ) (ps qs : List Place) (x y z : Found) → Finds n ps x y → Finds m qs y z → Finds (n + m) (ps ++ qs) x z
finds_then n m ps qs x y z p q = record {
  operation = let a = p.operation in let b = q.operation in omega arith;
  uncovered = q.uncovered ∙ ap (λ l. l ++ qs) p.uncovered ∙ append_assoc x.uncovered.items ps qs;
}

-- the same if what is found next depends on the number of the next operation
pub finds_next : (n m : ℕ) (ps : List Place) (qs : ℕ → List Place) (x y z : Found) → Finds n ps x y → Finds m (qs y.operation) y z → Finds (n + m) (ps ++ qs (x.operation + n)) x z
finds_next n m ps qs x y z p q = finds_then n m ps (qs (x.operation + n)) x y z p (subst (λ k. Finds m (qs k) y z) p.operation q)

pub finds_load : (sizes : List Size) (F : Facts) (width : Width) (o : ℕ) (i : Expression) (x y z : Found) → FindsIn sizes F i x y → FindsIndex sizes width o (range_of F i) y z → FindsIn sizes F (Load width o i) x z
finds_load sizes F width o i x y z p q = finds_next (operations_of i) 1 (uncovered sizes x.operation F i) (λ n. unless_inside sizes n width o (range_of F i)) x y z p q

pub finds_binary : (sizes : List Size) (F : Facts) (op : two.Binary) (a b : Expression) (x y z w : Found) → FindsIn sizes F a x y → FindsIn sizes F b y z
    → Finds (counted op) (unless (is_covered op (range_of F a) (range_of F b)) z.operation (Operands op (range_of F a) (range_of F b))) z w → FindsIn sizes F (Binary op a b) x w
finds_binary sizes F op a b x y z w p q r =
    let A = uncovered sizes x.operation F a in
    let n = operations_of a in
    let m = operations_of b in
    let C : ℕ → List Place = λ k. unless (is_covered op (range_of F a) (range_of F b)) k (Operands op (range_of F a) (range_of F b)) in
    let first = finds_next n m A (λ k. uncovered sizes k F b) x y z p q in
    let all = finds_next (n + m) (counted op) (A ++ uncovered sizes (x.operation + n) F b) C x z w first r in
    record {
      operation = all.operation;
      uncovered = all.uncovered ∙ ap (λ k. x.uncovered.items ++ (A ++ uncovered sizes (x.operation + n) F b ++ C k)) (let e : x.operation + (n + m) ≡ x.operation + n + m = omega arith in e);
    }

pub finds_store : (sizes : List Size) (F : Facts) (width : Width) (o : ℕ) (i e : Expression) (x y z w : Found) → FindsIn sizes F i x y → FindsIndex sizes width o (range_of F i) y z → FindsIn sizes F e z w
    → Finds (operations_of i + 1 + operations_of e) (uncovered sizes x.operation F i ++ unless_inside sizes (x.operation + operations_of i) width o (range_of F i) ++ uncovered sizes (x.operation + operations_of i + 1) F e) x w
finds_store sizes F width o i e x y z w p q r =
    let A = uncovered sizes x.operation F i in
    let n = operations_of i in
    let B = unless_inside sizes (x.operation + n) width o (range_of F i) in
    let first = finds_load sizes F width o i x y z p q in
    let all = finds_next (n + 1) (operations_of e) (A ++ B) (λ k. uncovered sizes k F e) x z w first r in
    record {
      operation = all.operation;
      uncovered = all.uncovered ∙ ap (λ k. x.uncovered.items ++ (A ++ B ++ uncovered sizes k F e)) (let e : x.operation + (n + 1) ≡ x.operation + n + 1 = omega arith in e);
    }

pub finds_all : (sizes : List Size) (F : Facts) (e : Expression) (es : List Expression) (x y z : Found) → FindsIn sizes F e x y → FindsInAll sizes F es y z → FindsInAll sizes F (e ∷ es) x z
finds_all sizes F e es x y z p q = finds_next (operations_of e) (operations_of_all es) (uncovered sizes x.operation F e) (λ n. uncovered_all sizes n F es) x y z p q
