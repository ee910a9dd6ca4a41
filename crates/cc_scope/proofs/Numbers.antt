-- What the number of a name says about its position among the bindings.
use Rattle.std.proofs.Common.{◌≡◌, ℕ, zero, suc, ◌-◌, ◌<◌, ◌≤◌, Bool, true, false, cond, List, [], ◌∷◌, length, take, drop, Option, Some, None, IfSome, is_some, refl, sym, ap, ◌∙◌, nat_eq, arith}
use Rattle.std.specs.Cmp.Lexicographic.{pointwise}
use Rattle.std.proofs.lemmas.Bool.Decides.{nat_tests}
use Rattle.cc_types.specs.Scope.{Binding, Entity, found, is_declared, with_declared}
use Rattle.cc_scope.specs.declared.bindings.Newest.{Newest}
use Rattle.cc_scope.specs.Bindings.{number_in, number_of, scope_of, file_level}
use Rattle.cc_scope.specs.internal.Scopes.{from}

number_in-below : (bs : List Binding) (x : List ℕ) → IfSome (number_in bs x) (λ n. n < length bs)
number_in-below [] x = tt
number_in-below (b ∷ bs) x = by (pointwise nat_eq b.name x) (number_in-below bs x)
  where
    wider : (r : Option ℕ) → IfSome r (λ n. n < length bs) → IfSome r (λ n. n < suc (length bs))
    wider None h = tt
    wider (Some n) h = omega arith

    by : (c : Bool) → IfSome (number_in bs x) (λ n. n < length bs) → IfSome (cond c (Some (length bs)) (number_in bs x)) (λ n. n < suc (length bs))
    by true h = omega arith
    by false h = wider (number_in bs x) h

from-below : (bs : List Binding) (x : List ℕ) (k : ℕ) → length bs ≤ k → from k (number_in bs x) ≡ false
from-below bs x k h = by (number_in bs x) (number_in-below bs x)
  where
    by : (r : Option ℕ) → IfSome r (λ n. n < length bs) → from k r ≡ false
    by None w = refl
    by (Some n) w = grind (arith, nat_tests)

-- the newest bindings are those with the greatest numbers
pub is_declared-take : (bs : List Binding) (x : List ℕ) (i : ℕ) → i ≤ length bs → is_declared (take i bs) x ≡ from (length bs - i) (number_in bs x)
is_declared-take bs x zero h = sym (from-below bs x (length bs - 0) (omega arith))
is_declared-take [] x (suc i) h = refl
is_declared-take (b ∷ bs) x (suc i) h = by (pointwise nat_eq b.name x) (is_declared-take bs x i (omega arith))
  where
    by : (c : Bool) → is_some (found (take i bs) x) ≡ from (length bs - i) (number_in bs x)
        → is_some (cond c (Some b.entity) (found (take i bs) x)) ≡ from (suc (length bs) - suc i) (cond c (Some (length bs)) (number_in bs x))
    by true e = grind (arith, nat_tests)
    by false e = let k : suc (length bs) - suc i ≡ length bs - i = omega arith in e ∙ ap (λ j. from j (number_in bs x)) (sym k)

-- a name has a number exactly if it is declared
pub is_some-number_in : (bs : List Binding) (x : List ℕ) → is_some (number_in bs x) ≡ is_declared bs x
is_some-number_in [] x = refl
is_some-number_in (b ∷ bs) x = by (pointwise nat_eq b.name x) (is_some-number_in bs x)
  where
    by : (c : Bool) → is_some (number_in bs x) ≡ is_some (found bs x) → is_some (cond c (Some (length bs)) (number_in bs x)) ≡ is_some (cond c (Some b.entity) (found bs x))
    by true e = refl
    by false e = e

-- ---- if only file scope is open

none-inner : (bs : List Binding) (i : ℕ) → i ≤ length bs → take i bs ≡ [] → i ≡ 0
none-inner bs zero h e = refl
none-inner [] (suc i) h e = absurd (omega arith)
none-inner (b ∷ bs) (suc i) h e = absurd cc

is_some-number_of : (h : Option Newest) → is_some h ≡ is_some (number_of h)
is_some-number_of None = refl
is_some-number_of (Some n) = refl

-- a name is declared already exactly if a new binding of it hides another
pub is_declared-hides : (bs : List Binding) (x : List ℕ) (i : ℕ) (h : Option Newest) → i ≤ length bs → take i bs ≡ [] → number_of h ≡ number_in bs x → is_some h ≡ is_declared (drop i bs) x
is_declared-hides bs x i h fits inner number =
    is_some-number_of h ∙ ap is_some number ∙ is_some-number_in bs x ∙ sym (ap (λ j. is_declared (drop j bs) x) (none-inner bs i fits inner))

-- declaring a name that is declared already leaves the scope as it is; a new name becomes the scope's newest
pub scope-stays : (bs : List Binding) (x : List ℕ) (entity : Entity) (i : ℕ) → i ≤ length bs → take i bs ≡ [] → is_declared (drop i bs) x ≡ true
    → scope_of bs i ≡ file_level (with_declared x entity (record { bindings = drop i bs; defined = [] })).bindings
scope-stays bs x entity zero fits inner h = sym (ap (λ c. file_level (cond c bs (record { name = x; entity = entity } ∷ bs))) h)
scope-stays bs x entity (suc i) fits inner h = absurd (let no = none-inner bs (suc i) fits inner in omega arith)

pub scope-grows : (bs : List Binding) (x : List ℕ) (entity : Entity) (i : ℕ) → i ≤ length bs → take i bs ≡ [] → is_declared (drop i bs) x ≡ false
    → scope_of (record { name = x; entity = entity } ∷ bs) i ≡ file_level (with_declared x entity (record { bindings = drop i bs; defined = [] })).bindings
scope-grows bs x entity zero fits inner h = sym (ap (λ c. file_level (cond c bs (record { name = x; entity = entity } ∷ bs))) h)
scope-grows bs x entity (suc i) fits inner h = absurd (let no = none-inner bs (suc i) fits inner in omega arith)
