-- One Add per name represents the map. The reason: the Adds of some entries, starting from the map of the entries before them,
-- lead to the map of all these entries. Each Add is accepted, since in a list with ascending names no name occurs earlier.
use Rattle.std.proofs.Common.{◌≡◌, ℕ, ◌+◌, ◌-◌, ◌<◌, ◌≤◌, length, List, [], ◌∷◌, ◌++◌, Bool, true, false, ◌&&◌, refl, sym, ap, subst, ◌∙◌, append_assoc, length-append, cond, Some, None, arith}
use Rattle.std.specs.Int.{w32, to_le_bytes}
use Rattle.std.specs.Prelude.{T, IsOk, Ok, Err, if◌then◌else◌, is_some, Result}
use Rattle.std.proofs.lemmas.List.{append-nil}
use Rattle.std.specs.declared.cmp.Ordering.{Ordering}
use Rattle.std.specs.declared.cmp.Ordering.TheVariants.{Less, Equal, Greater}
use Rattle.std.specs.Ordering.{nat_cmp, is_lt, is_eq, eq_by_cmp, ordering_reverse}
use Rattle.std.specs.Cmp.Lexicographic.{slice_cmp, nat_list_cmp_total}
use Rattle.std.specs.FinMap as map
use Rattle.std.specs.FinMap.Entries.{find, is_sorted, below_all}
use Rattle.cc_journal.specs.Format.{record_bytes, records, room_of}
use Rattle.cc_unit.specs.declared.unit.StoredUnit.{StoredUnit}
use Rattle.cc_library.specs.declared.command.Change.TheVariants.{Add}
use Rattle.cc_library.specs.Apply.{Units, apply, after, after_all, kept, exists, AreAccepted}
use Rattle.cc_library.specs.Body.{Spells, body_of}
use Rattle.cc_library.specs.Recovered.{AreSpelled, StandFor}
use Rattle.cc_library.specs.Compact.{adds, adds_of, bodies_of, compacted}
use Rattle.cc_library.proofs.Commands.{add_is_written}

abbrev R : List ℕ → List ℕ → Ordering
R = slice_cmp nat_cmp

abbrev Entry : Type 0
Entry = List ℕ × StoredUnit

first : (a b : Bool) → T (a && b) → T a
first true b p = tt
first false b p = absurd p

second : (a b : Bool) → T (a && b) → T b
second true b p = p
second false b p = absurd p

-- a record takes five bytes in addition to its body
pub record_long : (body : List ℕ) → length (record_bytes body) ≡ length body + 5
record_long body = omega (arith, length-append (to_le_bytes w32 (length body)) body)

less : (o : Ordering) → T (is_lt o) → o ≡ Less
less Less p = refl
less Equal p = absurd p
less Greater p = absurd p

below_there : (x : List ℕ) (prefix rest : List Entry) (e : Entry) → T (below_all R x (prefix ++ e ∷ rest)) → R x e.0 ≡ Less
below_there x [] rest e h = less (R x e.0) (first (is_lt (R x e.0)) (below_all R x rest) h)
below_there x (f ∷ prefix) rest e h = below_there x prefix rest e (second (is_lt (R x f.0)) (below_all R x (prefix ++ e ∷ rest)) h)

-- in a list with ascending names, the name of an entry is not among the names before it
not_before : (prefix rest : List Entry) (e : Entry) → T (is_sorted R (prefix ++ e ∷ rest)) → find R e.0 prefix ≡ None
not_before [] rest e sorted = refl
not_before (f ∷ prefix) rest e sorted =
    let below = below_there f.0 prefix rest e (first (below_all R f.0 (prefix ++ e ∷ rest)) (is_sorted R (prefix ++ e ∷ rest)) sorted) in
    let greater : R e.0 f.0 ≡ Greater = nat_list_cmp_total.antisymm e.0 f.0 ∙ ap ordering_reverse below in
    let other : eq_by_cmp R e.0 f.0 ≡ false = ap is_eq greater in
    ap (λ (b : Bool). cond b (Some f.1) (find R e.0 prefix)) other ∙ not_before prefix rest e (second (below_all R f.0 (prefix ++ e ∷ rest)) (is_sorted R (prefix ++ e ∷ rest)) sorted)

added : (units : Units) (e : Entry) → map.contains_key units e.0 ≡ false → apply units (Add e.0 e.1) ≡ Ok (map.insert units e.0 e.1)
added units e none = ap (λ (b : Bool). if b then Err exists else Ok (map.insert units e.0 e.1)) none

is_ok_by : (answer : Result Units ℕ) (made : Units) → answer ≡ Ok made → IsOk answer
is_ok_by answer made e = subst (λ (r : Result Units ℕ). IsOk r) (sym e) refl

leads : (prefix es : List Entry) → T (is_sorted R (prefix ++ es)) → AreAccepted (map.from_entries prefix) (adds es) × (after_all (map.from_entries prefix) (adds es) ≡ map.from_entries (prefix ++ es))
leads prefix [] sorted = (tt, ap (λ (l : List Entry). map.from_entries l) (sym (append-nil prefix)))
leads prefix (e ∷ es) sorted =
    let units : Units = map.from_entries prefix in
    let none = not_before prefix es e sorted in
    let absent : map.contains_key units e.0 ≡ false = ap is_some (map.get-from_entries nat_list_cmp_total prefix e.0 ∙ none) in
    let step = added units e absent in
    let on : after units (Add e.0 e.1) ≡ map.from_entries (prefix ++ e ∷ []) =
    ap (λ (r : Result Units ℕ). kept units r) step ∙ sym (map.from_entries_push nat_list_cmp_total (map.slice_cmp-IsAntisymmetric map.nat_cmp-IsAntisymmetric) prefix e.0 e.1 none) in
    let parts : (prefix ++ e ∷ []) ++ es ≡ prefix ++ e ∷ es = append_assoc prefix (e ∷ []) es in
    let rest = leads (prefix ++ e ∷ []) es (subst (λ (l : List Entry). T (is_sorted R l)) (sym parts) sorted) in (
      (is_ok_by (apply units (Add e.0 e.1)) (map.insert units e.0 e.1) step, subst (λ (m : Units). AreAccepted m (adds es)) (sym on) rest.0),
      ap (λ (m : Units). after_all m (adds es)) on ∙ rest.1 ∙ ap (λ (l : List Entry). map.from_entries l) parts,
    )

-- a map is equal to the map made from its entries
whole : (units : Units) → units ≡ map.from_entries (map.entries units)
whole units = map.same_map nat_list_cmp_total (map.slice_cmp-IsAntisymmetric map.nat_cmp-IsAntisymmetric) units (map.from_entries (map.entries units))
    (λ q. map.get-entries units q ∙ sym (map.get-from_entries nat_list_cmp_total (map.entries units) q))

-- bodies that spell one Add per name of a map represent the map
pub adds_stand : (units : Units) (bodies : List (List ℕ)) → AreSpelled bodies (adds_of units) → StandFor bodies units
adds_stand units bodies spelled =
    let all = leads [] (map.entries units) (map.entries_sorted units) in
    record { commands = adds_of units; spelled = spelled; accepted = all.0; map_is = whole units ∙ sym all.1 }

-- if bodies spell the Adds of some entries, they are the written bodies of these Adds
pub spelled_bodies : (bodies : List (List ℕ)) (es : List Entry) → AreSpelled bodies (adds es) → bodies ≡ bodies_of (adds es)
spelled_bodies [] [] spelled = refl
spelled_bodies [] (e ∷ es) spelled = absurd spelled
spelled_bodies (body ∷ bodies) [] spelled = absurd spelled
spelled_bodies (body ∷ bodies) (e ∷ es) spelled =
    let here = add_is_written body e.0 e.1 spelled.0 in
    let there = spelled_bodies bodies es spelled.1 in
    λ i. here i ∷ there i

pub spelled_compacted : (bodies : List (List ℕ)) (units : Units) → AreSpelled bodies (adds_of units) → bodies ≡ compacted units
spelled_compacted bodies units spelled = spelled_bodies bodies (map.entries units) spelled

-- ---- the room that they take

-- one more record adds its body's length and five bytes to the room
pub room_record : (bodies : List (List ℕ)) (body : List ℕ) → room_of (bodies ++ body ∷ []) ≡ room_of bodies + (length body + 5)
room_record [] body = omega (arith, length-append (record_bytes body) [], record_long body)
room_record (b ∷ bodies) body = omega (arith, room_record bodies body, length-append (record_bytes b) (records (bodies ++ body ∷ [])), length-append (record_bytes b) (records bodies))

-- if a body is at least as long as the area less five bytes, its record does not fit
pub no_room_left : (bodies : List (List ℕ)) (body : List ℕ) (area n : ℕ) → n ≡ length body → area - 5 ≤ n → room_of (bodies ++ body ∷ []) ≤ area → ⊥
no_room_left bodies body area n long few fits = omega (arith, room_record bodies body, long, few, fits)

-- if a body is shorter than that, its record fits exactly if the other records leave enough room
pub room_left : (bodies : List (List ℕ)) (body : List ℕ) (area n left : ℕ) → n ≡ length body → n < area - 5 → left ≡ area - 5 - n
    → (room_of bodies ≤ left → room_of (bodies ++ body ∷ []) ≤ area) × (room_of (bodies ++ body ∷ []) ≤ area → room_of bodies ≤ left)
room_left bodies body area n left long few is = (λ le. omega (arith, room_record bodies body, long, few, is, le), λ le. omega (arith, room_record bodies body, long, few, is, le))

-- one more entry adds the length of its Add's body and five bytes to the room
pub room_push : (es : List Entry) (e : Entry) → room_of (bodies_of (adds (es ++ e ∷ []))) ≡ room_of (bodies_of (adds es)) + (length (body_of (Add e.0 e.1)) + 5)
room_push [] e = omega (arith, length-append (record_bytes (body_of (Add e.0 e.1))) [], record_long (body_of (Add e.0 e.1)))
room_push (f ∷ es) e =
    omega (arith, room_push es e, length-append (record_bytes (body_of (Add f.0 f.1))) (records (bodies_of (adds (es ++ e ∷ [])))), length-append (record_bytes (body_of (Add f.0 f.1))) (records (bodies_of (adds es))))

-- the first entries of a list take at most as much room as all its entries
pub room_prefix : (prefix rest : List Entry) → room_of (bodies_of (adds prefix)) ≤ room_of (bodies_of (adds (prefix ++ rest)))
room_prefix [] rest = omega arith
room_prefix (f ∷ prefix) rest =
    omega (arith, room_prefix prefix rest, length-append (record_bytes (body_of (Add f.0 f.1))) (records (bodies_of (adds (prefix ++ rest)))), length-append (record_bytes (body_of (Add f.0 f.1))) (records (bodies_of (adds prefix))))

-- the body of one entry's Add is shorter than the room of all entries
pub room_one : (prefix rest : List Entry) (e : Entry) → length (body_of (Add e.0 e.1)) < room_of (bodies_of (adds (prefix ++ e ∷ rest)))
room_one [] rest e = omega (arith, length-append (record_bytes (body_of (Add e.0 e.1))) (records (bodies_of (adds rest))), record_long (body_of (Add e.0 e.1)))
room_one (f ∷ prefix) rest e = omega (arith, room_one prefix rest e, length-append (record_bytes (body_of (Add f.0 f.1))) (records (bodies_of (adds (prefix ++ e ∷ rest)))))

-- if bodies spell the Adds of some entries, and one more body spells one more Add, together they spell all these Adds
pub spelled_push : (bodies : List (List ℕ)) (es : List Entry) (body : List ℕ) (e : Entry) → AreSpelled bodies (adds es) → Spells body (Add e.0 e.1) → AreSpelled (bodies ++ body ∷ []) (adds (es ++ e ∷ []))
spelled_push [] [] body e spelled one = (one, tt)
spelled_push [] (f ∷ es) body e spelled one = absurd spelled
spelled_push (b ∷ bodies) [] body e spelled one = absurd spelled
spelled_push (b ∷ bodies) (f ∷ es) body e spelled one = (spelled.0, spelled_push bodies es body e spelled.1 one)
