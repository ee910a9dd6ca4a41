-- What follows if a list of errors is empty.
use Rattle.std.proofs.Common.{◌≡◌, ℕ, Bool, true, false, not, ◌||◌, ◌==◌, List, [], ◌∷◌, ◌++◌, length, Option, Some, None, refl, ap, ◌∙◌}
use Rattle.std.proofs.lemmas.Bool.{eqb-true}
use Rattle.cc_ast.specs.scalar.Scalar.{Scalar}
use Rattle.cc_ast.specs.Tree.{Name}
use Rattle.cc_types.specs.Scope.{Entity, Variable, Elements, Function, has_name}
use Rattle.cc_types.specs.declared.rule.RuleError.{RuleError}
use Rattle.cc_types.specs.declared.rule.Rule.{Rule}
use Rattle.cc_types.specs.declared.rule.Rule.TheVariants.{Unknown, WrongKind, WrongCount, Undefined}
use Rattle.cc_types.specs.Rules.{broken_if, variable_errors, array_errors, function_errors, undefined_among}

pub nil_left : {A : Type 0} (xs ys : List A) → xs ++ ys ≡ [] → xs ≡ []
nil_left [] ys e = refl
nil_left (x ∷ xs) ys e = absurd (let f : x ∷ (xs ++ ys) ≡ [] = e in cc)

pub nil_right : {A : Type 0} (xs ys : List A) → xs ++ ys ≡ [] → ys ≡ []
nil_right [] ys e = e
nil_right (x ∷ xs) ys e = absurd (let f : x ∷ (xs ++ ys) ≡ [] = e in cc)

pub not_broken : (b : Bool) (r : Rule) (at : ℕ) → broken_if b r at ≡ [] → b ≡ false
not_broken true r at e = absurd (let o : RuleError = record { rule = r; at = at } in let f : o ∷ [] ≡ [] = e in cc)
not_broken false r at e = refl

pub or_left : (a b : Bool) → (a || b) ≡ false → a ≡ false
or_left true b e = e
or_left false b e = refl

pub or_right : (a b : Bool) → (a || b) ≡ false → b ≡ false
or_right true b e = absurd (let f : true ≡ false = e in cc)
or_right false b e = e

-- if two lists of calls together have no call of an undefined function, neither list has one
pub defined_left : (defined : List (List ℕ)) (xs ys : List Name) → undefined_among defined (xs ++ ys) ≡ [] → undefined_among defined xs ≡ []
defined_left defined [] ys e = refl
defined_left defined (f ∷ rest) ys e =
    let b = not (has_name defined f.text) in
    let here : broken_if b Undefined f.at ≡ [] = nil_left (broken_if b Undefined f.at) (undefined_among defined (rest ++ ys)) e in
    ap (λ (os : List RuleError). os ++ undefined_among defined rest) here
    ∙ defined_left defined rest ys (nil_right (broken_if b Undefined f.at) (undefined_among defined (rest ++ ys)) e)

pub defined_right : (defined : List (List ℕ)) (xs ys : List Name) → undefined_among defined (xs ++ ys) ≡ [] → undefined_among defined ys ≡ []
defined_right defined [] ys e = e
defined_right defined (f ∷ rest) ys e = defined_right defined rest ys (nil_right (broken_if (not (has_name defined f.text)) Undefined f.at) (undefined_among defined (rest ++ ys)) e)

not_false : (b : Bool) → not b ≡ false → b ≡ true
not_false true e = refl
not_false false e = absurd (let f : true ≡ false = e in cc)

pub is_defined : (defined : List (List ℕ)) (f : Name) (rest : List Name) → undefined_among defined (f ∷ rest) ≡ [] → has_name defined f.text ≡ true
is_defined defined f rest e =
    not_false (has_name defined f.text)
    (not_broken (not (has_name defined f.text)) Undefined f.at (nil_left (broken_if (not (has_name defined f.text)) Undefined f.at) (undefined_among defined rest) e))

-- a name that is used as a variable denotes a variable
pub variable_found : (r : Rule) (o : Option Entity) (at : ℕ) → variable_errors r o at ≡ [] → (t : Scalar) × (o ≡ Some (Variable t))
variable_found r None at e = absurd (let o : RuleError = record { rule = Unknown; at = at } in let f : o ∷ [] ≡ [] = e in cc)
variable_found r (Some (Variable t)) at e = (t, refl)
variable_found r (Some (Elements t)) at e = absurd (let o : RuleError = record { rule = r; at = at } in let f : o ∷ [] ≡ [] = e in cc)
variable_found r (Some (Function q ts)) at e = absurd (let o : RuleError = record { rule = r; at = at } in let f : o ∷ [] ≡ [] = e in cc)

-- a name that is indexed denotes an array
pub array_found : (o : Option Entity) (at : ℕ) → array_errors o at ≡ [] → (t : Scalar) × (o ≡ Some (Elements t))
array_found None at e = absurd (let o : RuleError = record { rule = Unknown; at = at } in let f : o ∷ [] ≡ [] = e in cc)
array_found (Some (Variable t)) at e = absurd (let o : RuleError = record { rule = WrongKind; at = at } in let f : o ∷ [] ≡ [] = e in cc)
array_found (Some (Elements t)) at e = (t, refl)
array_found (Some (Function q ts)) at e = absurd (let o : RuleError = record { rule = WrongKind; at = at } in let f : o ∷ [] ≡ [] = e in cc)

-- a name that is called denotes a function with as many parameters as there are arguments
pub function_found : (o : Option Entity) (count at : ℕ) → function_errors o count at ≡ [] → (r : Option Scalar) × (ts : List Scalar) × (o ≡ Some (Function r ts)) × (count ≡ length ts)
function_found None count at e = absurd (let o : RuleError = record { rule = Unknown; at = at } in let f : o ∷ [] ≡ [] = e in cc)
function_found (Some (Variable t)) count at e = absurd (let o : RuleError = record { rule = WrongKind; at = at } in let f : o ∷ [] ≡ [] = e in cc)
function_found (Some (Elements t)) count at e = absurd (let o : RuleError = record { rule = WrongKind; at = at } in let f : o ∷ [] ≡ [] = e in cc)
function_found (Some (Function r ts)) count at e = (r, ts, refl, eqb-true count (length ts) (not_false (count == length ts) (not_broken (not (count == length ts)) WrongCount at e)))
