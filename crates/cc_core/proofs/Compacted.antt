-- The shortest journal of a map represents the map, and never takes more room than any other journal that does. The proof goes by
-- entries: the name and the unit of each entry come from some command.
use Rattle.std.proofs.Common.{◌≡◌, ℕ, ◌≤◌, Bool, true, false, cond, List, [], ◌∷◌, sym, subst, arith}
use Rattle.std.specs.Prelude.{Ok, Err}
use Rattle.std.specs.declared.cmp.Ordering.{Ordering}
use Rattle.std.specs.declared.cmp.Ordering.TheVariants.{Less, Equal, Greater}
use Rattle.std.specs.List.{filter, AllByRecursion}
use Rattle.std.specs.Cmp.Lexicographic.{nat_list_cmp_total}
use Rattle.std.specs.FinMap as map
use Rattle.std.specs.FinMap.Entries.{put, by_order}
use Rattle.cc_journal.specs.Format.{room_of}
use Rattle.cc_unit.specs.declared.unit.StoredUnit.{StoredUnit}
use Rattle.cc_library.specs.Change.{LibraryCommand}
use Rattle.cc_library.specs.declared.command.Change.TheVariants.{Add, Replace, Withdraw}
use Rattle.cc_library.specs.Apply.{Units, after, after_all, kept}
use Rattle.cc_library.specs.Body.{IsCommand}
use Rattle.cc_library.specs.Compact.{adds, bodies_of, compacted}
use Rattle.cc_library.specs.Recovered.{AreSpelled, StandFor}
use Rattle.cc_library.proofs.Commands.{written}
use Rattle.cc_library.proofs.Compacting.{adds_stand}
use Rattle.cc_library.proofs.Room.{Entry, R, compacted_least, entries-remove}
use Rattle.cc_library.proofs.Tables.{no_entries}

-- each entry has a possible name and a possible unit
abbrev AreRight : List Entry → Type 0
AreRight es = AllByRecursion (λ (e : Entry). IsCommand (Add e.0 e.1)) es

put_right : (name : List ℕ) (unit : StoredUnit) (es : List Entry) → IsCommand (Add name unit) → AreRight es → AreRight (put R name unit es)
put_right name unit [] right all = (right, tt)
put_right name unit (e ∷ es) right all = at (put_right name unit es right all.1) (R name e.0)
  where
    at : AreRight (put R name unit es) → (o : Ordering) → AreRight (by_order o ((name, unit) ∷ e ∷ es) ((e.0, unit) ∷ es) (e ∷ put R name unit es))
    at rest Less = (right, all)
    at rest Equal = ((all.0.0, right.1), all.1)
    at rest Greater = (all.0, rest)

where_right : (p : List ℕ → Bool) (es : List Entry) → AreRight es → AreRight (filter (λ (e : Entry). p e.0) es)
where_right p [] all = tt
where_right p (e ∷ es) all = at (where_right p es all.1) (p e.0)
  where
    at : AreRight (filter (λ (e : Entry). p e.0) es) → (b : Bool) → AreRight (cond b (e ∷ filter (λ (e : Entry). p e.0) es) (filter (λ (e : Entry). p e.0) es))
    at rest true = (all.0, rest)
    at rest false = rest

-- ---- commands

-- each entry of the map has a possible name and a possible unit
abbrev IsRight : Units → Type 0
IsRight units = AreRight (map.entries units)

right_inserted : (units : Units) (name : List ℕ) (unit : StoredUnit) → IsCommand (Add name unit) → IsRight units → IsRight (map.insert units name unit)
right_inserted units name unit right all =
    subst AreRight (sym (map.entries-insert nat_list_cmp_total units name unit)) (put_right name unit (map.entries units) right all)

right_removed : (units : Units) (name : List ℕ) → IsRight units → IsRight (map.remove units name)
right_removed units name all =
    let is = entries-remove units name in
    subst AreRight (sym is.1) (where_right is.0 (map.entries units) all)

right_after : (units : Units) (c : LibraryCommand) → IsCommand c → IsRight units → IsRight (after units c)
right_after units (Add name unit) right all = at (map.contains_key units name)
  where
    at : (b : Bool) → IsRight (kept units (cond b (Err 31) (Ok (map.insert units name unit))))
    at true = all
    at false = right_inserted units name unit right all
right_after units (Replace name unit) right all = at (map.contains_key units name)
  where
    at : (b : Bool) → IsRight (kept units (cond b (Ok (map.insert units name unit)) (Err 32)))
    at true = right_inserted units name unit right all
    at false = all
right_after units (Withdraw name) right all = at (map.contains_key units name)
  where
    at : (b : Bool) → IsRight (kept units (cond b (Ok (map.remove units name)) (Err 32)))
    at true = right_removed units name all
    at false = all

right_all : (units : Units) (bodies : List (List ℕ)) (cs : List LibraryCommand) → AreSpelled bodies cs → IsRight units → IsRight (after_all units cs)
right_all units [] [] spelled all = all
right_all units [] (c ∷ cs) spelled all = absurd spelled
right_all units (body ∷ bodies) [] spelled all = absurd spelled
right_all units (body ∷ bodies) (c ∷ cs) spelled all = right_all (after units c) bodies cs spelled.1 (right_after units c spelled.0.command_is all)

right_empty : IsRight map.empty
right_empty = subst AreRight (sym (no_entries nat_list_cmp_total)) tt

-- ---- the shortest journal

-- the shortest journal takes no more room than any other that represents the map
pub compacted_fits : (bodies : List (List ℕ)) (units : Units) → StandFor bodies units → room_of (compacted units) ≤ room_of bodies
compacted_fits bodies units stand = omega (arith, compacted_least bodies units stand)

spelled_adds : (es : List Entry) → AreRight es → AreSpelled (bodies_of (adds es)) (adds es)
spelled_adds [] all = tt
spelled_adds (e ∷ es) all = (written (Add e.0 e.1) all.0, spelled_adds es all.1)

-- the shortest journal represents the map
pub compacted_stands : (bodies : List (List ℕ)) (units : Units) → StandFor bodies units → StandFor (compacted units) units
compacted_stands bodies units stand =
    let right : IsRight units = subst IsRight (sym stand.map_is) (right_all map.empty bodies stand.commands stand.spelled right_empty) in
    adds_stand units (compacted units) (spelled_adds (map.entries units) right)
