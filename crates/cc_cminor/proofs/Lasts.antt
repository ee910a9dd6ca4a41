-- The last value of a list that grew.
use Rattle.std.proofs.Common.{◌≡◌, List, [], ◌∷◌, ◌++◌, refl}
use Rattle.cc_cminor_language.specs.Code.{expression_of, expressions_of}
use Rattle.cc_cminor_language.specs.declared.code.Expression.{Expression}
use Rattle.cc_cminor.specs.internal.Lowering.{last_value}

pub last_push : (es : List Expression) (e : Expression) → last_value (expressions_of (es ++ e ∷ [])) ≡ expression_of e
last_push [] e = refl
last_push (x ∷ []) e = refl
last_push (x ∷ y ∷ es) e = last_push (y ∷ es) e
