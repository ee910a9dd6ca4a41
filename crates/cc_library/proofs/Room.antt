-- Records never take more room after a compaction. The proof goes by entries: a command sets one entry or removes some, so the
-- records of the entries never take more bytes than those of the commands that led to them. The Add and the Replace of a unit
-- have the same length.
use Rattle.std.proofs.Common.{◌≡◌, ℕ, ◌+◌, ◌≤◌, Bool, true, false, cond, not, Option, None, Some, List, [], ◌∷◌, length, refl, sym, ap, subst, ◌∙◌, arith, length-append}
use Rattle.std.specs.Prelude.{T, Ok, Err}
use Rattle.std.specs.declared.cmp.Ordering.{Ordering}
use Rattle.std.specs.declared.cmp.Ordering.TheVariants.{Less, Equal, Greater}
use Rattle.std.specs.List.{filter}
use Rattle.std.specs.Ordering.{nat_cmp, eq_by_cmp, is_eq}
use Rattle.std.specs.Cmp.Lexicographic.{slice_cmp, nat_list_cmp_total}
use Rattle.std.specs.FinMap as map
use Rattle.std.specs.FinMap.Entries.{put, by_order, is_sorted, is_sorted-where_key, find-where_key}
use Rattle.cc_journal.specs.Format.{record_bytes, records}
use Rattle.cc_unit.specs.declared.unit.StoredUnit.{StoredUnit}
use Rattle.cc_library.specs.declared.command.Kind.TheVariants as kind
use Rattle.cc_library.specs.Change.{LibraryCommand}
use Rattle.cc_library.specs.declared.command.Change.TheVariants.{Add, Replace, Withdraw}
use Rattle.cc_library.specs.Apply.{Units, after, after_all, kept}
use Rattle.cc_library.specs.Body.{body_of}
use Rattle.cc_library.specs.Recovered.{AreSpelled, StandFor}
use Rattle.cc_library.specs.Compact.{adds, bodies_of, compacted}
use Rattle.cc_library.proofs.Commands.{spelled_long}
use Rattle.cc_library.proofs.Compacting.{record_long}
use Rattle.cc_library.proofs.Sizes.{body_long}
use Rattle.cc_library.proofs.Tables.{no_entries}

abbrev pub R : List ℕ → List ℕ → Ordering
R = slice_cmp nat_cmp

abbrev pub Entry : Type 0
Entry = List ℕ × StoredUnit

-- how many bytes the records of these entries take
abbrev pub size : List Entry → ℕ
size es = length (records (bodies_of (adds es)))

-- how many bytes the record of one entry takes
abbrev pub one : List ℕ → StoredUnit → ℕ
one name unit = length (record_bytes (body_of (Add name unit)))

pub size-more : (name : List ℕ) (unit : StoredUnit) (es : List Entry) → size ((name, unit) ∷ es) ≡ one name unit + size es
size-more name unit es = length-append (record_bytes (body_of (Add name unit))) (records (bodies_of (adds es)))

-- setting one entry adds at most the size of its record
pub put_size : (name : List ℕ) (unit : StoredUnit) (es : List Entry) → size (put R name unit es) ≤ one name unit + size es
put_size name unit [] = omega (arith, size-more name unit [])
put_size name unit (e ∷ es) = at (put_size name unit es) (R name e.0) refl
  where
    at : size (put R name unit es) ≤ one name unit + size es → (o : Ordering) → R name e.0 ≡ o → size (by_order o ((name, unit) ∷ e ∷ es) ((e.0, unit) ∷ es) (e ∷ put R name unit es)) ≤ one name unit + size (e ∷ es)
    at rest Less is = omega (arith, size-more name unit (e ∷ es))
    at rest Equal is =
        let same : name ≡ e.0 = map.slice_cmp-IsAntisymmetric map.nat_cmp-IsAntisymmetric name e.0 is in
        omega (arith, size-more e.0 unit es, size-more e.0 e.1 es, ap (λ (n : List ℕ). one n unit) same)
    at rest Greater is = omega (arith, size-more e.0 e.1 (put R name unit es), size-more e.0 e.1 es, rest)

-- removing entries does not increase the size
pub where_size : (p : List ℕ → Bool) (es : List Entry) → size (filter (λ (e : Entry). p e.0) es) ≤ size es
where_size p [] = omega arith
where_size p (e ∷ es) = at (where_size p es) (p e.0)
  where
    at : size (filter (λ (e : Entry). p e.0) es) ≤ size es → (b : Bool) → size (cond b (e ∷ filter (λ (e : Entry). p e.0) es) (filter (λ (e : Entry). p e.0) es)) ≤ size (e ∷ es)
    at rest true = omega (arith, size-more e.0 e.1 es, size-more e.0 e.1 (filter (λ (e : Entry). p e.0) es), rest)
    at rest false = omega (arith, size-more e.0 e.1 es, rest)

turned : {A : Type 0} (b : Bool) (x y : A) → cond (not b) x y ≡ cond b y x
turned true x y = refl
turned false x y = refl

-- if a name is removed from a map, the other entries stay, in the same order
pub entries-remove : (units : Units) (name : List ℕ) → (p : List ℕ → Bool) × (map.entries (map.remove units name) ≡ filter (λ (e : Entry). p e.0) (map.entries units))
entries-remove units name = (p, ap map.entries same ∙ map.entries-from_sorted R others sorted)
  where
    p : List ℕ → Bool
    p x = not (eq_by_cmp R x name)

    others : List Entry
    others = filter (λ (e : Entry). p e.0) (map.entries units)

    sorted : T (is_sorted R others)
    sorted = is_sorted-where_key R p (map.entries units) (map.entries_sorted units)

    same : map.remove units name ≡ map.from_sorted others
    same =
        map.same_map nat_list_cmp_total (map.slice_cmp-IsAntisymmetric map.nat_cmp-IsAntisymmetric) (map.remove units name) (map.from_sorted others)
        (λ q.
        map.get-remove nat_list_cmp_total units name q ∙ sym (turned (eq_by_cmp R q name) (map.get units q) None) ∙ ap (λ (o : Option StoredUnit). cond (p q) o None) (map.get-entries units q)
        ∙ sym (find-where_key R p q (λ x t. ap (λ (o : Ordering). not (is_eq o)) (sym (nat_list_cmp_total.congr q x name t))) (map.entries units)) ∙ sym (map.get-from_sorted R others q sorted))

-- ---- commands

after_insert : (units : Units) (name : List ℕ) (unit : StoredUnit) → size (map.entries (map.insert units name unit)) ≤ one name unit + size (map.entries units)
after_insert units name unit =
    subst (λ (es : List Entry). size es ≤ one name unit + size (map.entries units)) (sym (map.entries-insert nat_list_cmp_total units name unit)) (put_size name unit (map.entries units))

after_remove : (units : Units) (name : List ℕ) → size (map.entries (map.remove units name)) ≤ size (map.entries units)
after_remove units name =
    let is = entries-remove units name in
    subst (λ (es : List Entry). size es ≤ size (map.entries units)) (sym is.1) (where_size is.0 (map.entries units))

-- a command adds at most the size of its record
after_one : (units : Units) (c : LibraryCommand) → size (map.entries (after units c)) ≤ length (record_bytes (body_of c)) + size (map.entries units)
after_one units (Add name unit) = at (map.contains_key units name)
  where
    at : (b : Bool) → size (map.entries (kept units (cond b (Err 31) (Ok (map.insert units name unit))))) ≤ one name unit + size (map.entries units)
    at true = omega arith
    at false = after_insert units name unit
after_one units (Replace name unit) = at (map.contains_key units name)
  where
    same : length (record_bytes (body_of (Replace name unit))) ≡ one name unit
    same = omega (arith, record_long (body_of (Replace name unit)), record_long (body_of (Add name unit)), body_long kind.Add name (Some unit), body_long kind.Replace name (Some unit))

    at : (b : Bool) → size (map.entries (kept units (cond b (Ok (map.insert units name unit)) (Err 32)))) ≤ length (record_bytes (body_of (Replace name unit))) + size (map.entries units)
    at true = omega (arith, after_insert units name unit, same)
    at false = omega arith
after_one units (Withdraw name) = at (map.contains_key units name)
  where
    at : (b : Bool) → size (map.entries (kept units (cond b (Ok (map.remove units name)) (Err 32)))) ≤ length (record_bytes (body_of (Withdraw name))) + size (map.entries units)
    at true = omega (arith, after_remove units name)
    at false = omega arith

after_those : (from : Units) (bodies : List (List ℕ)) (commands : List LibraryCommand) → AreSpelled bodies commands → size (map.entries (after_all from commands)) ≤ length (records bodies) + size (map.entries from)
after_those from [] [] spelled = omega arith
after_those from [] (c ∷ commands) spelled = absurd spelled
after_those from (body ∷ bodies) [] spelled = absurd spelled
after_those from (body ∷ bodies) (c ∷ commands) spelled = omega (
  arith,
  after_those (after from c) bodies commands spelled.1,
  after_one from c,
  spelled_long body c spelled.0,
  length-append (record_bytes body) (records bodies),
  record_long body,
  record_long (body_of c),
)

-- the records of one Add per name take at most as much room as any records that lead to the map
pub compacted_least : (bodies : List (List ℕ)) (units : Units) → StandFor bodies units → length (records (compacted units)) ≤ length (records bodies)
compacted_least bodies units stand =
    let all = after_those map.empty bodies stand.commands stand.spelled in
    let none : size (map.entries {X = StoredUnit} {R = R} map.empty) ≡ 0 = ap size (no_entries nat_list_cmp_total) in
    subst (λ (m : Units). length (records (compacted m)) ≤ length (records bodies)) (sym stand.map_is) (omega (arith, all, none))
