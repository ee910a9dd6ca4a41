-- The lines of units under some names, and that of one more.
use Rattle.std.proofs.Common.{◌≡◌, ℕ, ◌+◌, ◌<◌, List, [], ◌∷◌, ◌++◌, length, take, get_or, refl, sym, ap, subst, ◌∙◌, append_assoc, append-nil}
use Rattle.std.specs.Prelude.{Some}
use Rattle.std.specs.FinMap as map
use Rattle.std.proofs.lemmas.List.{take_more}
use Rattle.cc_unit.specs.declared.unit.StoredUnit.{StoredUnit}
use Rattle.cc_library.specs.Apply.{Units}
use Rattle.cc_packing.specs.Packing.{AreHashLines, IsHashLine}

lines_push : (units : Units) (names : List (List ℕ)) (name : List ℕ) (unit : StoredUnit) (text line : List ℕ) → AreHashLines units names text → map.get units name ≡ Some unit → IsHashLine name unit line
    → AreHashLines units (names ++ name ∷ []) (text ++ line)
lines_push units [] name unit text line none found is = (unit, found, (line, [], is, refl, ap (λ (t : List ℕ). t ++ line) none ∙ sym (append-nil line)))
lines_push units (n ∷ names) name unit text line more found is =
    let (one, has, (first, rest, said, others, whole)) = more in
    (one, has, (first, rest ++ line, said, lines_push units names name unit rest line others found is, ap (λ (t : List ℕ). t ++ line) whole ∙ append_assoc first rest line))

-- if the line of one more unit is added, the text has the lines of the names so far
pub lines_more : (units : Units) (names : List (List ℕ)) (i : ℕ) (name : List ℕ) (unit : StoredUnit) (old new line : List ℕ) → i < length names → name ≡ get_or names i name → map.get units name ≡ Some unit
    → IsHashLine name unit line → new ≡ old ++ line → AreHashLines units (take i names) old → AreHashLines units (take (i + 1) names) new
lines_more units names i name unit old new line within at found is whole before =
    let more : take i names ++ name ∷ [] ≡ take (i + 1) names = ap (λ x. take i names ++ x ∷ []) at ∙ sym (take_more names i name within) in
    subst (λ (t : List ℕ). AreHashLines units (take (i + 1) names) t) (sym whole)
    (subst (λ (l : List (List ℕ)). AreHashLines units l (old ++ line)) more (lines_push units (take i names) name unit old line before found is))
