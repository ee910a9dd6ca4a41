-- The number of bytes that the fields of a unit take.
use Rattle.std.proofs.Common.{◌≡◌, ℕ, ◌+◌, ◌*◌, ◌^◌, ◌<◌, List, [], ◌∷◌, ◌++◌, length, Option, Some, None, refl, arith, length-append}
use Rattle.std.specs.Int.{w32, to_le_bytes}
use Rattle.std.specs.List.{flat_map}
use Rattle.cc_unit.specs.declared.unit.StoredUnit.{StoredUnit}
use Rattle.cc_library.specs.declared.command.Kind.{Kind}
use Rattle.cc_library.specs.Body.{HasShort, IsShort, body_bytes, bytes_field, certificate_part, words_field, unit_fields, unit_part}

four : (n : ℕ) → length (to_le_bytes w32 n) ≡ 4
four n = refl

words_long : (words : List ℕ) → length (flat_map (to_le_bytes w32) words) ≡ 4 * length words
words_long [] = refl
words_long (word ∷ words) = omega (arith, four word, words_long words, length-append (to_le_bytes w32 word) (flat_map (to_le_bytes w32) words))

-- a certificate takes its bytes and four more
pub certificate_long : (certificate : List ℕ) → length (certificate_part (Some certificate)) ≡ 4 + length certificate
certificate_long certificate = omega (arith, four (length certificate), length-append (to_le_bytes w32 (length certificate)) certificate)

pub unit_long : (unit : StoredUnit) → length (unit_fields unit) ≡ 12 + length unit.source + 4 * length unit.image.code + 4 * length unit.image.globals + length (certificate_part unit.certificate)
unit_long unit =
    let source : List ℕ = unit.source in
    let code : List ℕ = unit.image.code in
    let globals : List ℕ = unit.image.globals in
    let certificate : List ℕ = certificate_part unit.certificate in
    omega (
      arith,
      four (length source),
      four (length code),
      four (length globals),
      words_long code,
      words_long globals,
      length-append (bytes_field source) (words_field code ++ (words_field globals ++ certificate)),
      length-append (words_field code) (words_field globals ++ certificate),
      length-append (words_field globals) certificate,
      length-append (to_le_bytes w32 (length source)) source,
      length-append (to_le_bytes w32 (length code)) (flat_map (to_le_bytes w32) code),
      length-append (to_le_bytes w32 (length globals)) (flat_map (to_le_bytes w32) globals),
    )

-- the fields of a unit take the bytes of each part and four more for each
pub unit_parts : (unit : StoredUnit) → length (unit_fields unit) ≡ (4 + length unit.source) + (4 + 4 * length unit.image.code) + (4 + 4 * length unit.image.globals) + length (certificate_part unit.certificate)
unit_parts unit = omega (arith, unit_long unit)

pub body_long : (kind : Kind) (name : List ℕ) (unit : Option StoredUnit) → length (body_bytes kind name unit) ≡ 3 + length name + length (unit_part unit)
body_long kind name unit = omega (arith, length-append name (unit_part unit))

-- ---- what fits in a length of four bytes

pub short_certificate : (certificate : Option (List ℕ)) → length (certificate_part certificate) < 2 ^ 32 → IsShort certificate
short_certificate None few = tt
short_certificate (Some certificate) few = omega (arith, few, certificate_long certificate)

-- if the length of a unit's fields fits in four bytes, so does that of its certificate
pub short_part : (unit : Option StoredUnit) → length (unit_part unit) < 2 ^ 32 → HasShort unit
short_part None few = tt
short_part (Some unit) few = short_certificate unit.certificate (omega (arith, few, unit_long unit))

pub short_body : (kind : Kind) (name : List ℕ) (unit : Option StoredUnit) → length (body_bytes kind name unit) < 2 ^ 32 → HasShort unit
short_body kind name unit few = short_part unit (omega (arith, few, body_long kind name unit))
