-- Tests on numbers, and truth values.
use Rattle.std.proofs.Common.{◌≡◌, ℕ, Some, None, Bool, true, false, refl, arith}
use Rattle.std.proofs.lemmas.Bool.Decides.{nat_tests}
use Rattle.std.specs.Prelude.{◌==◌, ◌&&◌, ◌||◌, not, if◌then◌else◌}

pub none_some : {A B : Type 0} (b : B) → None ≡ Some b → A
none_some {A} b e = absurd (cc)

pub eqb_yes : (a b : ℕ) → a ≡ b → (a == b) ≡ true
eqb_yes a b e = grind (arith, nat_tests)

pub eqb_says : (a b : ℕ) → (a == b) ≡ true → a ≡ b
eqb_says a b e = grind (arith, nat_tests)

pub eqb_turned : (a b : ℕ) → (a == b) ≡ (b == a)
eqb_turned a b = grind (arith, nat_tests)

pub both_hold : (a b : Bool) → (a && b) ≡ true → (a ≡ true) × (b ≡ true)
both_hold true true e = (refl, refl)
both_hold true false e = absurd (let z : false ≡ true = e in cc)
both_hold false b e = absurd (let z : false ≡ true = e in cc)

pub not_holds : (a : Bool) → not a ≡ true → a ≡ false
not_holds true e = absurd (let z : false ≡ true = e in cc)
not_holds false e = refl

pub or_left : (a b : Bool) → a ≡ true → (a || b) ≡ true
or_left true b e = refl
or_left false b e = absurd (let z : false ≡ true = e in cc)

pub or_right : (a b : Bool) → b ≡ true → (a || b) ≡ true
or_right true b e = refl
or_right false b e = e

pub implied : (a b : Bool) → (not a || b) ≡ true → a ≡ true → b ≡ true
implied true b e p = e
implied false b e p = absurd (let z : false ≡ true = p in cc)

-- if both branches of an `if` have a property, the `if` has the property
pub either_way : {A : Type 0} (P : A → Type 0) (b : Bool) (x y : A) → P x → P y → P (if b then x else y)
either_way P true x y p q = p
either_way P false x y p q = q

pub if_alike : {A B : Type 0} (P : A → B → Type 0) (b : Bool) (x y : A) (u v : B) → P x u → P y v → P (if b then x else y) (if b then u else v)
if_alike P true x y u v p q = p
if_alike P false x y u v p q = q
