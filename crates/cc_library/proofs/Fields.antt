-- For each kind of field, up to the unit: reading gives back what was written, and writing gives back what was
-- read.
use Rattle.std.proofs.Common.{◌≡◌, ℕ, zero, suc, ◌^◌, ◌<◌, ◌≤◌, Bool, true, false, ◌&&◌, cond, ltb, eqb, List, [], ◌∷◌, ◌++◌, length, get_or, take, drop, Option, Some, None, refl, sym, ap, subst, ◌∙◌, append_assoc, arith}
use Rattle.std.specs.Prelude.{IsTrue, nat_le}
use Rattle.std.specs.List.{flat_map}
use Rattle.std.specs.Int.{w32, from_le_bytes, to_le_bytes}
use Rattle.std.proofs.lemmas.Bool.{ltb-false, le-ltb, leb-true, le-leb}
use Rattle.std.proofs.lemmas.List.{take_at, drop_at, take-append-drop, length-append, length-take}
use Rattle.std.proofs.lemmas.List.Concat.{flat_map-cons}
use Rattle.std.proofs.lemmas.Nat.{le_bytes_4, from_le_bytes-to_le_bytes_4}
use Rattle.std.proofs.lemmas.Option.{none-some, same_Some}
use Rattle.cc_unit.specs.declared.unit.StoredUnit.{StoredUnit}
use Rattle.cc_library.specs.Name.{is_name}
use Rattle.cc_library.specs.Body.{AreBelow, IsCertificate, IsUnit, bytes_field, certificate_part, words_field, name_field, unit_fields}
use Rattle.cc_library.specs.internal.Reading.{◌>>=◌, taken, number_in, words_in, words_field_in, source_in, name_in, certificate_in, unit_in}

-- ---- tools

-- if two steps in a row find `y`, the first one finds some `x`, and the second one finds `y` from `x`
pub bind_some : {A B : Type 0} (o : Option A) (f : A → Option B) (y : B) → (o >>= f) ≡ Some y → (x : A) × (o ≡ Some x) × (f x ≡ Some y)
bind_some (Some x) f y e = (x, refl, e)
bind_some None f y e = absurd (none-some y e)

-- if a value comes only when a test fails, and it came, the test failed
pub unless_some : {A : Type 0} (b : Bool) (x y : A) → cond b None (Some x) ≡ Some y → (b ≡ false) × (x ≡ y)
unless_some true x y e = absurd (none-some y e)
unless_some false x y e = (refl, same_Some x y e)

-- if a value comes only when a test holds, and it came, the test held
pub when_some : {A : Type 0} (b : Bool) (o : Option A) (y : A) → cond b o None ≡ Some y → (b ≡ true) × (o ≡ Some y)
when_some true o y e = (refl, e)
when_some false o y e = absurd (none-some y e)

pub both_true : (a b : Bool) → (a && b) ≡ true → (a ≡ true) × (b ≡ true)
both_true true b e = (refl, e)
both_true false b e = absurd (cc)

pub at_index : (limit : ℕ) (numbers : List ℕ) → 0 < limit → AreBelow limit numbers → (i : ℕ) → get_or numbers i 0 < limit
at_index limit [] some below i = some
at_index limit (n ∷ numbers) some below zero = below.0
at_index limit (n ∷ numbers) some below (suc i) = at_index limit numbers some below.1 i

pub from_index : (limit : ℕ) (numbers : List ℕ) → ((i : ℕ) → get_or numbers i 0 < limit) → AreBelow limit numbers
from_index limit [] below = tt
from_index limit (n ∷ numbers) below = (below 0, from_index limit numbers (λ i. below (suc i)))

pub take-below : (limit k : ℕ) (numbers : List ℕ) → AreBelow limit numbers → AreBelow limit (take k numbers)
take-below limit zero numbers below = tt
take-below limit (suc k) [] below = tt
take-below limit (suc k) (n ∷ numbers) below = (below.0, take-below limit k numbers below.1)

pub drop-below : (limit k : ℕ) (numbers : List ℕ) → AreBelow limit numbers → AreBelow limit (drop k numbers)
drop-below limit zero numbers below = below
drop-below limit (suc k) [] below = tt
drop-below limit (suc k) (n ∷ numbers) below = drop-below limit k numbers below.1

-- a reader takes `text` from the start of `bytes` and leaves `rest`
pub record Takes (bytes text rest : List ℕ) : Type 0 where
  pub parts : bytes ≡ text ++ rest
  pub below : AreBelow 256 rest

pub Takes-then : (a x b y c : List ℕ) → Takes a x b → Takes b y c → Takes a (x ++ y) c
Takes-then a x b y c p q = record { parts = p.parts ∙ ap (λ (t : List ℕ). x ++ t) q.parts ∙ sym (append_assoc x y c); below = q.below }

-- reading and writing undo each other for values with the property `P`
pub record IsField {X : Type 0} (read : List ℕ → Option (X × List ℕ)) (write : X → List ℕ) (P : X → Type 0) : Type 0 where
  pub takes : (bytes : List ℕ) (x : X) (rest : List ℕ) → AreBelow 256 bytes → read bytes ≡ Some (x, rest) → Takes bytes (write x) rest × P x
  pub again : (x : X) (rest : List ℕ) → P x → read (write x ++ rest) ≡ Some (x, rest)

-- ---- numbers

-- `spell` writes a number as four bytes, and `value` reads it from them
record IsWide (spell : ℕ → List ℕ) (value : List ℕ → ℕ) : Type 0 where
  len : (n : ℕ) → length (spell n) ≡ 4
  back : (bytes : List ℕ) (n : ℕ) → length bytes ≡ 4 → AreBelow 256 bytes → n ≡ value bytes → spell n ≡ bytes
  again : (n : ℕ) → n < 2 ^ 32 → value (spell n) ≡ n
  small : (bytes : List ℕ) → AreBelow 256 bytes → value bytes < 2 ^ 32

abbrev number_by : (List ℕ → ℕ) → List ℕ → Option (ℕ × List ℕ)
number_by value bytes = cond (ltb (length bytes) 4) None (Some (value (take 4 bytes), drop 4 bytes))

number_by_takes : (spell : ℕ → List ℕ) (value : List ℕ → ℕ) → IsWide spell value → (bytes : List ℕ) (n : ℕ) (rest : List ℕ) → AreBelow 256 bytes → number_by value bytes ≡ Some (n, rest) → Takes bytes (spell n) rest × (n < 2 ^ 32)
number_by_takes spell value wide bytes n rest below e =
    let g = unless_some (ltb (length bytes) 4) (value (take 4 bytes), drop 4 bytes) (n, rest) e in
    let long : 4 ≤ length bytes = ltb-false _ _ g.0 in
    let prefix : AreBelow 256 (take 4 bytes) = take-below 256 4 bytes below in
    let n-is : value (take 4 bytes) ≡ n = ap (λ (p : ℕ × List ℕ). p.0) g.1 in
    let rest-is : drop 4 bytes ≡ rest = ap (λ (p : ℕ × List ℕ). p.1) g.1 in
    let spelled : spell n ≡ take 4 bytes = wide.back (take 4 bytes) n (omega (arith, length-take 4 bytes)) prefix (sym n-is) in
    (record { parts = rw (spelled, ← rest-is) (sym (take-append-drop 4 bytes)); below = rw (← rest-is) (drop-below 256 4 bytes below) }, rw (← n-is) (wide.small (take 4 bytes) prefix))

number_by_again : (spell : ℕ → List ℕ) (value : List ℕ → ℕ) → IsWide spell value → (n : ℕ) (rest : List ℕ) → n < 2 ^ 32 → number_by value (spell n ++ rest) ≡ Some (n, rest)
number_by_again spell value wide n rest lt =
    let len = wide.len n in
    let long : ltb (length (spell n ++ rest)) 4 ≡ false = le-ltb _ _ (omega (arith, length-append (spell n) rest)) in
    rw (long, take_at (spell n) rest 4 len, drop_at (spell n) rest 4 len, wide.again n lt) refl

four_bytes : IsWide (to_le_bytes w32) (from_le_bytes w32)
four_bytes = record {
  len = λ n. refl;
  back = λ bytes n len below is. le_bytes_4 bytes n len (at_index 256 bytes (omega arith) below) is;
  again = from_le_bytes-to_le_bytes_4;
  small = λ bytes below. let at : (i : ℕ) → get_or bytes i 0 < 256 = at_index 256 bytes (omega arith) below in omega (arith, at 0, at 1, at 2, at 3);
}

number_takes : (bytes : List ℕ) (n : ℕ) (rest : List ℕ) → AreBelow 256 bytes → number_in bytes ≡ Some (n, rest) → Takes bytes (to_le_bytes w32 n) rest × (n < 2 ^ 32)
number_takes = number_by_takes (to_le_bytes w32) (from_le_bytes w32) four_bytes

number_again : (n : ℕ) (rest : List ℕ) → n < 2 ^ 32 → number_in (to_le_bytes w32 n ++ rest) ≡ Some (n, rest)
number_again = number_by_again (to_le_bytes w32) (from_le_bytes w32) four_bytes

pub number_field : IsField number_in (to_le_bytes w32) (λ n. n < 2 ^ 32)
number_field = record { takes = number_takes; again = number_again }

-- ---- a number of bytes

pub taken_takes : (k : ℕ) (bytes text rest : List ℕ) → AreBelow 256 bytes → taken k bytes ≡ Some (text, rest) → Takes bytes text rest × (length text ≡ k) × AreBelow 256 text
taken_takes k bytes text rest below e =
    let g = unless_some (ltb (length bytes) k) (take k bytes, drop k bytes) (text, rest) e in
    let long : k ≤ length bytes = ltb-false _ _ g.0 in
    let len : length (take k bytes) ≡ k = omega (arith, length-take k bytes) in
    let whole : Takes bytes (take k bytes) (drop k bytes) = record { parts = sym (take-append-drop k bytes); below = drop-below 256 k bytes below } in
    subst (λ (p : List ℕ × List ℕ). Takes bytes p.0 p.1 × (length p.0 ≡ k) × AreBelow 256 p.0) g.1 (whole, len, take-below 256 k bytes below)

pub taken_again : (text rest : List ℕ) → taken (length text) (text ++ rest) ≡ Some (text, rest)
taken_again text rest =
    let long : ltb (length (text ++ rest)) (length text) ≡ false = le-ltb _ _ (omega (arith, length-append text rest)) in
    rw (long, take_at text rest (length text) refl, drop_at text rest (length text) refl) refl

-- ---- words

words_take : (k : ℕ) (bytes words rest : List ℕ) → AreBelow 256 bytes → words_in k bytes ≡ Some (words, rest)
    → Takes bytes (flat_map (to_le_bytes w32) words) rest × (length words ≡ k) × AreBelow (2 ^ 32) words
unfolding words_in
words_take zero bytes words rest below e =
    subst (λ (p : List ℕ × List ℕ). Takes bytes (flat_map (to_le_bytes w32) p.0) p.1 × (length p.0 ≡ 0) × AreBelow (2 ^ 32) p.0) (same_Some ([], bytes) (words, rest) e) (record { parts = refl; below = below }, refl, tt)
words_take (suc k) bytes words rest below e =
    let a = bind_some (number_in bytes) (λ first. words_in k first.1 >>= λ others. Some (first.0 ∷ others.0, others.1)) (words, rest) e in
    let b = bind_some (words_in k a.0.1) (λ others. Some (a.0.0 ∷ others.0, others.1)) (words, rest) a.2 in
    let first = number_takes bytes a.0.0 a.0.1 below a.1 in
    let others = words_take k a.0.1 b.0.0 b.0.1 first.0.below b.1 in
    let both = Takes-then bytes (to_le_bytes w32 a.0.0) a.0.1 (flat_map (to_le_bytes w32) b.0.0) b.0.1 first.0 others.0 in
    let made : List ℕ × List ℕ = (a.0.0 ∷ b.0.0, b.0.1) in
    subst (λ (p : List ℕ × List ℕ). Takes bytes (flat_map (to_le_bytes w32) p.0) p.1 × (length p.0 ≡ suc k) × AreBelow (2 ^ 32) p.0) (same_Some made (words, rest) b.2) (rw flat_map-cons both, ap suc others.1, (first.1, others.2))

words_again : (words rest : List ℕ) → AreBelow (2 ^ 32) words → words_in (length words) (flat_map (to_le_bytes w32) words ++ rest) ≡ Some (words, rest)
unfolding words_in
words_again [] rest below = refl
words_again (word ∷ words) rest below =
    let regrouped : flat_map (to_le_bytes w32) (word ∷ words) ++ rest ≡ to_le_bytes w32 word ++ (flat_map (to_le_bytes w32) words ++ rest) = ap (λ (x : List ℕ). x ++ rest) (flat_map-cons (to_le_bytes w32) word words) ∙ append_assoc (to_le_bytes w32 word) (flat_map (to_le_bytes w32) words) rest in
    ap (words_in (suc (length words))) regrouped ∙ rw (number_again word (flat_map (to_le_bytes w32) words ++ rest) below.0, words_again words rest below.1) refl

pub record AreWords (least most : ℕ) (words : List ℕ) : Type 0 where
  pub some : least ≤ length words
  pub few : length words ≤ most
  pub below : AreBelow (2 ^ 32) words

words_field_takes : (least most : ℕ) (bytes words rest : List ℕ) → AreBelow 256 bytes → words_field_in least most bytes ≡ Some (words, rest) → Takes bytes (words_field words) rest × AreWords least most words
unfolding words_field_in
words_field_takes least most bytes words rest below e =
    let a = bind_some (number_in bytes) (λ n. cond (nat_le least n.0 && nat_le n.0 most) (words_in n.0 n.1) None) (words, rest) e in
    let n = a.0 in
    let g = when_some (nat_le least n.0 && nat_le n.0 most) (words_in n.0 n.1) (words, rest) a.2 in
    let h = both_true (nat_le least n.0) (nat_le n.0 most) g.0 in
    let t = number_takes bytes n.0 n.1 below a.1 in
    let w = words_take n.0 n.1 words rest t.0.below g.1 in
    let both = Takes-then bytes (to_le_bytes w32 n.0) n.1 (flat_map (to_le_bytes w32) words) rest t.0 w.0 in
    let low : least ≤ n.0 = leb-true _ _ h.0 in
    let high : n.0 ≤ most = leb-true _ _ h.1 in
    (subst (λ (k : ℕ). Takes bytes (to_le_bytes w32 k ++ flat_map (to_le_bytes w32) words) rest) (sym w.1) both, record { some = omega (arith, w.1); few = omega (arith, w.1); below = w.2 })

words_field_again : (least most : ℕ) → most < 2 ^ 32 → (words rest : List ℕ) → AreWords least most words → words_field_in least most (words_field words ++ rest) ≡ Some (words, rest)
unfolding words_field_in
words_field_again least most small words rest are =
    let regrouped : words_field words ++ rest ≡ to_le_bytes w32 (length words) ++ (flat_map (to_le_bytes w32) words ++ rest) = append_assoc (to_le_bytes w32 (length words)) (flat_map (to_le_bytes w32) words) rest in
    ap (words_field_in least most) regrouped ∙ rw (number_again (length words) (flat_map (to_le_bytes w32) words ++ rest) (omega (arith, are.few, small)), le-leb _ _ are.some, le-leb _ _ are.few, words_again words rest are.below) refl

pub words_fields : (least most : ℕ) → most < 2 ^ 32 → IsField (words_field_in least most) words_field (AreWords least most)
words_fields least most small = record { takes = words_field_takes least most; again = words_field_again least most small }

-- ---- a source

pub record IsSource (source : List ℕ) : Type 0 where
  pub few : length source ≤ 65536
  pub below : AreBelow 256 source

source_takes : (bytes source rest : List ℕ) → AreBelow 256 bytes → source_in bytes ≡ Some (source, rest) → Takes bytes (bytes_field source) rest × IsSource source
unfolding source_in
source_takes bytes source rest below e =
    let a = bind_some (number_in bytes) (λ n. cond (nat_le n.0 65536) (taken n.0 n.1) None) (source, rest) e in
    let n = a.0 in
    let g = when_some (nat_le n.0 65536) (taken n.0 n.1) (source, rest) a.2 in
    let t = number_takes bytes n.0 n.1 below a.1 in
    let w = taken_takes n.0 n.1 source rest t.0.below g.1 in
    let both = Takes-then bytes (to_le_bytes w32 n.0) n.1 source rest t.0 w.0 in
    let high : n.0 ≤ 65536 = leb-true _ _ g.0 in
    (subst (λ (k : ℕ). Takes bytes (to_le_bytes w32 k ++ source) rest) (sym w.1) both, record { few = omega (arith, w.1); below = w.2 })

source_again : (source rest : List ℕ) → IsSource source → source_in (bytes_field source ++ rest) ≡ Some (source, rest)
unfolding source_in
source_again source rest is =
    let regrouped : bytes_field source ++ rest ≡ to_le_bytes w32 (length source) ++ (source ++ rest) = append_assoc (to_le_bytes w32 (length source)) source rest in
    ap source_in regrouped ∙ rw (number_again (length source) (source ++ rest) (omega (arith, is.few)), le-leb _ _ is.few, taken_again source rest) refl

pub source_field : IsField source_in bytes_field IsSource
source_field = record { takes = source_takes; again = source_again }

-- ---- a name

name_takes : (bytes name rest : List ℕ) → AreBelow 256 bytes → name_in bytes ≡ Some (name, rest) → Takes bytes (name_field name) rest × IsTrue (is_name name)
unfolding name_in
name_takes [] name rest below e = absurd (none-some (name, rest) e)
name_takes (n ∷ bytes) name rest below e =
    let a = bind_some (taken n bytes) (λ t. cond (is_name t.0) (Some t) None) (name, rest) e in
    let g = when_some (is_name a.0.0) (Some a.0) (name, rest) a.2 in
    let w = taken_takes n bytes a.0.0 a.0.1 below.1 a.1 in
    let here : Takes (n ∷ bytes) (name_field a.0.0) a.0.1 = record { parts = rw (w.1) (ap (λ (t : List ℕ). n ∷ t) w.0.parts); below = w.0.below } in
    subst (λ (p : List ℕ × List ℕ). Takes (n ∷ bytes) (name_field p.0) p.1 × IsTrue (is_name p.0)) (same_Some a.0 (name, rest) g.1) (here, g.0)

name_again : (name rest : List ℕ) → IsTrue (is_name name) → name_in (name_field name ++ rest) ≡ Some (name, rest)
unfolding name_in
name_again name rest is = rw (taken_again name rest, is) refl

pub name_fields : IsField name_in name_field (λ name. IsTrue (is_name name))
name_fields = record { takes = name_takes; again = name_again }

-- ---- a certificate

-- there is a certificate exactly if the version is 2
abbrev pub StandsIn : (version : ℕ) → Option (List ℕ) → Type 0
StandsIn version None = eqb version 2 ≡ false
StandsIn version (Some certificate) = eqb version 2 ≡ true

-- reading a certificate, if it is known whether the version is 2
abbrev certificate_by : (two : Bool) → List ℕ → Option (Option (List ℕ) × List ℕ)
certificate_by two bytes = cond two (number_in bytes >>= λ n. taken n.0 n.1 >>= λ found. Some (Some found.0, found.1)) (Some (None, bytes))

certificate_by_takes : (version : ℕ) (two : Bool) (bytes : List ℕ) (certificate : Option (List ℕ)) (rest : List ℕ) → eqb version 2 ≡ two → AreBelow 256 bytes → certificate_by two bytes ≡ Some (certificate, rest)
    → Takes bytes (certificate_part certificate) rest × IsCertificate certificate × StandsIn version certificate
certificate_by_takes version true bytes certificate rest is below e =
    let a = bind_some (number_in bytes) (λ n. taken n.0 n.1 >>= λ found. Some (Some found.0, found.1)) (certificate, rest) e in
    let b = bind_some (taken a.0.0 a.0.1) (λ found. Some (Some found.0, found.1)) (certificate, rest) a.2 in
    let n = number_takes bytes a.0.0 a.0.1 below a.1 in
    let w = taken_takes a.0.0 a.0.1 b.0.0 b.0.1 n.0.below b.1 in
    let both = Takes-then bytes (to_le_bytes w32 a.0.0) a.0.1 b.0.0 b.0.1 n.0 w.0 in
    let whole : Takes bytes (bytes_field b.0.0) b.0.1 = subst (λ (k : ℕ). Takes bytes (to_le_bytes w32 k ++ b.0.0) b.0.1) (sym w.1) both in
    let few : length b.0.0 < 2 ^ 32 = omega (arith, w.1, n.1) in
    let made : Option (List ℕ) × List ℕ = (Some b.0.0, b.0.1) in
    subst (λ (p : Option (List ℕ) × List ℕ). Takes bytes (certificate_part p.0) p.1 × IsCertificate p.0 × StandsIn version p.0) (same_Some made (certificate, rest) b.2) (whole, (few, w.2), is)
certificate_by_takes version false bytes certificate rest is below e =
    let made : Option (List ℕ) × List ℕ = (None, bytes) in
    subst (λ (p : Option (List ℕ) × List ℕ). Takes bytes (certificate_part p.0) p.1 × IsCertificate p.0 × StandsIn version p.0) (same_Some made (certificate, rest) e) (record { parts = refl; below = below }, tt, is)

certificate_takes : (version : ℕ) (bytes : List ℕ) (certificate : Option (List ℕ)) (rest : List ℕ) → AreBelow 256 bytes → certificate_in version bytes ≡ Some (certificate, rest)
    → Takes bytes (certificate_part certificate) rest × IsCertificate certificate × StandsIn version certificate
unfolding certificate_in
certificate_takes version bytes certificate rest below e = certificate_by_takes version (eqb version 2) bytes certificate rest refl below e

certificate_again : (version : ℕ) (certificate : Option (List ℕ)) (rest : List ℕ) → IsCertificate certificate → StandsIn version certificate
    → certificate_in version (certificate_part certificate ++ rest) ≡ Some (certificate, rest)
unfolding certificate_in
certificate_again version None rest is stands = ap (λ (two : Bool). certificate_by two rest) stands
certificate_again version (Some certificate) rest is stands =
    let regrouped : bytes_field certificate ++ rest ≡ to_le_bytes w32 (length certificate) ++ (certificate ++ rest) = append_assoc (to_le_bytes w32 (length certificate)) certificate rest in
    ap (λ (two : Bool). certificate_by two (bytes_field certificate ++ rest)) stands
    ∙ ap (certificate_by true) regrouped ∙ rw (number_again (length certificate) (certificate ++ rest) is.0, taken_again certificate rest) refl

-- ---- a unit

-- a body in this version can have this unit
abbrev pub IsUnitIn : (version : ℕ) → StoredUnit → Type 0
IsUnitIn version unit = IsUnit unit × StandsIn version unit.certificate

unit_takes : (version : ℕ) (bytes : List ℕ) (unit : StoredUnit) (rest : List ℕ) → AreBelow 256 bytes → unit_in version bytes ≡ Some (unit, rest) → Takes bytes (unit_fields unit) rest × IsUnitIn version unit
unfolding unit_in
unit_takes version bytes unit rest below e =
    let code_part = words_fields 1 131072 (omega arith) in
    let globals_part = words_fields 0 65536 (omega arith) in
    let a = bind_some (source_in bytes) (λ source. words_field_in 1 131072 source.1 >>= λ code. words_field_in 0 65536 code.1 >>= λ globals. certificate_in version globals.1 >>= λ certificate. Some (record { source = source.0; image = record { code = code.0; globals = globals.0 }; certificate = certificate.0 }, certificate.1)) (unit, rest) e in
    let b = bind_some (words_field_in 1 131072 a.0.1) (λ code. words_field_in 0 65536 code.1 >>= λ globals. certificate_in version globals.1 >>= λ certificate. Some (record { source = a.0.0; image = record { code = code.0; globals = globals.0 }; certificate = certificate.0 }, certificate.1)) (unit, rest) a.2 in
    let c = bind_some (words_field_in 0 65536 b.0.1) (λ globals. certificate_in version globals.1 >>= λ certificate. Some (record { source = a.0.0; image = record { code = b.0.0; globals = globals.0 }; certificate = certificate.0 }, certificate.1)) (unit, rest) b.2 in
    let d = bind_some (certificate_in version c.0.1) (λ certificate. Some (record { source = a.0.0; image = record { code = b.0.0; globals = c.0.0 }; certificate = certificate.0 }, certificate.1)) (unit, rest) c.2 in
    let s = source_takes bytes a.0.0 a.0.1 below a.1 in
    let k = code_part.takes a.0.1 b.0.0 b.0.1 s.0.below b.1 in
    let g = globals_part.takes b.0.1 c.0.0 c.0.1 k.0.below c.1 in
    let h = certificate_takes version c.0.1 d.0.0 d.0.1 g.0.below d.1 in
    let last = Takes-then b.0.1 (words_field c.0.0) c.0.1 (certificate_part d.0.0) d.0.1 g.0 h.0 in
    let later = Takes-then a.0.1 (words_field b.0.0) b.0.1 (words_field c.0.0 ++ certificate_part d.0.0) d.0.1 k.0 last in
    let all = Takes-then bytes (bytes_field a.0.0) a.0.1 (words_field b.0.0 ++ (words_field c.0.0 ++ certificate_part d.0.0)) d.0.1 s.0 later in
    let made : StoredUnit × List ℕ = (record { source = a.0.0; image = record { code = b.0.0; globals = c.0.0 }; certificate = d.0.0 }, d.0.1) in
    let is : IsUnit made.0 = record { source = s.1.few; bytes = s.1.below; some = k.1.some; code = k.1.few; code_words = k.1.below; globals = g.1.few; global_words = g.1.below; certificate = h.1 } in
    subst (λ (p : StoredUnit × List ℕ). Takes bytes (unit_fields p.0) p.1 × IsUnitIn version p.0) (same_Some made (unit, rest) d.2) (all, (is, h.2))

unit_again : (version : ℕ) (unit : StoredUnit) (rest : List ℕ) → IsUnitIn version unit → unit_in version (unit_fields unit ++ rest) ≡ Some (unit, rest)
unfolding unit_in
unit_again version unit rest both =
    let is = both.0 in
    let source = unit.source in
    let code = unit.image.code in
    let globals = unit.image.globals in
    let certificate = certificate_part unit.certificate in
    let code_part = words_fields 1 131072 (omega arith) in
    let globals_part = words_fields 0 65536 (omega arith) in
    let regrouped : unit_fields unit ++ rest ≡ bytes_field source ++ (words_field code ++ (words_field globals ++ (certificate ++ rest))) =
    append_assoc (bytes_field source) (words_field code ++ (words_field globals ++ certificate)) rest
    ∙ ap (λ (x : List ℕ). bytes_field source ++ x) (append_assoc (words_field code) (words_field globals ++ certificate) rest)
    ∙ ap (λ (x : List ℕ). bytes_field source ++ (words_field code ++ x)) (append_assoc (words_field globals) certificate rest) in
    let s = source_again source (words_field code ++ (words_field globals ++ (certificate ++ rest))) (record { few = is.source; below = is.bytes }) in
    let k = code_part.again code (words_field globals ++ (certificate ++ rest)) (record { some = is.some; few = is.code; below = is.code_words }) in
    let g = globals_part.again globals (certificate ++ rest) (record { some = omega arith; few = is.globals; below = is.global_words }) in
    let h = certificate_again version unit.certificate rest is.certificate both.1 in
    ap (unit_in version) regrouped ∙ rw (s, k, g, h) refl

pub unit_field : (version : ℕ) → IsField (unit_in version) unit_fields (IsUnitIn version)
unit_field version = record { takes = unit_takes version; again = unit_again version }
