-- One more command in the log, the room that it takes, and a refusal that changes nothing.
use Rattle.std.proofs.Common.{◌≡◌, ◌≢◌, ◌∙◌, ℕ, zero, suc, ◌+◌, ◌<◌, Bool, true, false, IsTrue, List, [], ◌∷◌, ◌++◌, Some, None, Result, Ok, Err, refl, sym, ap, subst, arith}
use Rattle.std.specs.Prelude.{if◌then◌else◌, is_ok, IfErr, IsOk, OnOk, option_and_then, slice_get}
use Rattle.std.specs.Str.{bytes_eq}
use Rattle.std.specs.FinMap as map
use Rattle.std.specs.FinMap.{empty}
use Rattle.std.proofs.lemmas.Option.{none-some, same_Some}
use Rattle.cc_disk.specs.Images.{OnlyReads}
use Rattle.cc_journal.specs.Format.{HasHeader, HoldsAlone, HoldsRecords, records, room_of}
use Rattle.cc_journal.proofs.Records.{holds_alone}
use Rattle.cc_unit.specs.declared.unit.StoredUnit.{StoredUnit}
use Rattle.cc_library.specs.Change.{LibraryCommand}
use Rattle.cc_library.specs.declared.command.Change.TheVariants.{Add, Replace, Withdraw}
use Rattle.cc_library.specs.declared.fault.LibraryFault.{LibraryFault}
use Rattle.cc_library.specs.declared.fault.LibraryFault.TheVariants.{Exists, Absent as NoUnit, Full, DiskFault, Closed, Damaged, NotALibrary, OutOfMemory as NoMemory}
use Rattle.cc_library.specs.Answers.{ChangeAnswers, ChangeLeaves, ChangesDisk, room_with}
use Rattle.cc_library.specs.Apply.{Units, AreAccepted, absent, after, after_all, apply, exists, library_of}
use Rattle.cc_library.specs.Body.{IsCommand, IsUnit, body_of}
use Rattle.cc_library.specs.Name.{is_name}
use Rattle.cc_library.specs.Recovered.{AreSpelled, Recovers, StandFor, View}
use Rattle.cc_library.proofs.Commands.{written}
use Rattle.cc_library.proofs.Standing.{one_map}
use Rattle.cc_log.specs.Commands.{AreRead, HasCommands, stored_at, stored_by}
use Rattle.cc_log.proofs.Reading.{spelled_push}
use Rattle.cc_past.specs.Past.{IsStored}
use Rattle.cc_past.specs.Restored.{HasNoRoom, IsNotPut, putting}

-- ---- the command that puts a unit

accepted_as : (units : Units) (name : List ℕ) (unit : StoredUnit) (has : Bool) → map.contains_key units name ≡ has → IsOk (apply units (if has then Replace name unit else Add name unit))
accepted_as units name unit true e = ap (λ (b : Bool). is_ok (if b then Ok (map.insert units name unit) else Err absent)) e
accepted_as units name unit false e = ap (λ (b : Bool). is_ok (if b then Err exists else Ok (map.insert units name unit))) e

-- the map accepts the command that puts a unit
pub putting_accepted : (units : Units) (name : List ℕ) (unit : StoredUnit) → IsOk (apply units (putting units name unit))
putting_accepted units name unit = accepted_as units name unit (map.contains_key units name) refl

can_be_as : (has : Bool) (name : List ℕ) (unit : StoredUnit) → IsTrue (is_name name) → IsUnit unit → IsCommand (if has then Replace name unit else Add name unit)
can_be_as true name unit named is = (named, is)
can_be_as false name unit named is = (named, is)

one_of : (b : Bool) (it unit : StoredUnit) → (if b then Some it else None) ≡ Some unit → IsUnit it → IsUnit unit
one_of true it unit found is = subst IsUnit (same_Some it unit found) is
one_of false it unit found is = absurd (none-some unit found)

unit_by : (command : LibraryCommand) (name : List ℕ) (unit : StoredUnit) → IsCommand command → stored_by command name ≡ Some unit → IsUnit unit
unit_by (Add other it) name unit is found = one_of (bytes_eq other name) it unit found is.1
unit_by (Replace other it) name unit is found = one_of (bytes_eq other name) it unit found is.1
unit_by (Withdraw other) name unit is found = absurd (none-some unit found)

unit_at : (bodies : List (List ℕ)) (commands : List LibraryCommand) (name : List ℕ) (k : ℕ) (unit : StoredUnit) → AreSpelled bodies commands
    → option_and_then (λ command. stored_by command name) (slice_get commands k) ≡ Some unit → IsUnit unit
unit_at [] [] name k unit spelled found = absurd (none-some unit found)
unit_at [] (c ∷ commands) name k unit spelled found = absurd spelled
unit_at (b ∷ bodies) [] name k unit spelled found = absurd spelled
unit_at (b ∷ bodies) (c ∷ commands) name zero unit spelled found = unit_by c name unit spelled.0.command_is found
unit_at (b ∷ bodies) (c ∷ commands) name (suc k) unit spelled found = unit_at bodies commands name k unit spelled.1 found

unit_of : (bodies : List (List ℕ)) (commands : List LibraryCommand) (name : List ℕ) (number : ℕ) (unit : StoredUnit) → AreSpelled bodies commands → stored_at commands name number ≡ Some unit → IsUnit unit
unit_of bodies commands name zero unit spelled found = absurd (none-some unit found)
unit_of bodies commands name (suc k) unit spelled found = unit_at bodies commands name k unit spelled found

-- what a command of a disk stored can be put back
pub can_be_put : (seen : List ℕ) (commands : List LibraryCommand) (name : List ℕ) (number : ℕ) (unit : StoredUnit) → HasCommands seen commands → IsStored commands name number unit → (units : Units) → IsCommand (putting units name unit)
can_be_put seen commands name number unit has stored units =
    can_be_as (map.contains_key units name) name unit stored.is_name (unit_of has.bodies commands name number unit has.read.spelled stored.stored)

-- ---- one more command

accepted_push : (from : Units) (commands : List LibraryCommand) (command : LibraryCommand) → AreAccepted from commands → IsOk (apply (after_all from commands) command) → AreAccepted from (commands ++ command ∷ [])
accepted_push from [] command before ok = (ok, tt)
accepted_push from (c ∷ commands) command before ok = (before.0, accepted_push (after from c) commands command before.1 ok)

has_one_more : (image : List ℕ) (area : ℕ) (bodies : List (List ℕ)) (commands : List LibraryCommand) (command : LibraryCommand) → HoldsRecords image area (bodies ++ body_of command ∷ []) → AreRead bodies commands
    → IsCommand command → IsOk (apply (library_of commands) command) → HasCommands image (commands ++ command ∷ [])
has_one_more image area bodies commands command holds read is ok = record {
  area = area;
  bodies = bodies ++ body_of command ∷ [];
  holds = holds;
  read = record { spelled = spelled_push bodies commands (body_of command) command read.spelled (written command is); accepted = accepted_push empty commands command read.accepted ok };
}

-- if a disk has the records of commands, they are those of the library that was opened on it
pub known_commands : (seen : List ℕ) (area : ℕ) (bodies : List (List ℕ)) (units : Units) → HoldsRecords seen area bodies → StandFor bodies units → (commands : List LibraryCommand) → HasCommands seen commands
    → (units ≡ library_of commands) × AreRead bodies commands
known_commands seen area bodies units holds stand commands has =
    let same : has.bodies ≡ bodies = ((holds_alone seen area bodies holds).alone has.area has.bodies has.holds).1 in
    let read : AreRead bodies commands = subst (λ (bs : List (List ℕ)). AreRead bs commands) same has.read in
    (one_map empty bodies units (library_of commands) stand (record { commands = commands; spelled = read.spelled; accepted = read.accepted; map_is = refl }), read)

-- if a disk has the records of commands, these and the size of its areas are those of the library that was opened on it
pub same_records : (seen : List ℕ) (area : ℕ) (bodies : List (List ℕ)) (units : Units) → HoldsRecords seen area bodies → StandFor bodies units → (commands : List LibraryCommand) (has : HasCommands seen commands)
    → (units ≡ library_of commands) × (area ≡ has.area) × (bodies ≡ has.bodies)
same_records seen area bodies units holds stand commands has =
    let same = (holds_alone seen area bodies holds).alone has.area has.bodies has.holds in
    ((known_commands seen area bodies units holds stand commands has).0, sym same.0, sym same.1)

module _ {D : Type 0} (seen : D → List ℕ) (may_leave : D → List ℕ → Type 0) where
  -- after the change, every image holds exactly the disk's records and that of the command that puts the unit, in areas of the same size
  pub alone_on : (answer : Result (Unit {0}) LibraryFault) (H : Type 0) (before : List ℕ) (old new : View D) (name : List ℕ) (unit : StoredUnit)
      → (H → ChangesDisk seen may_leave (putting old.units name unit) old new answer) → ChangeLeaves (putting old.units name unit) old new answer → (H → HoldsRecords (seen old.disk) old.area old.bodies)
      → (H → (commands : List LibraryCommand) (has : HasCommands before commands) → (old.units ≡ library_of commands) × (old.area ≡ has.area) × (old.bodies ≡ has.bodies))
      → OnOk answer (H → (commands : List LibraryCommand) (has : HasCommands before commands) → (image : List ℕ) → may_leave new.disk image
      → HoldsAlone image has.area (has.bodies ++ body_of (putting (library_of commands) name unit) ∷ []))
  alone_on (Err fault) H before old new name unit disk leaves holds known = tt
  alone_on (Ok done) H before old new name unit disk leaves holds known = λ h commands has image left.
      let same = known h commands has in
      let command = putting old.units name unit in
      let there = holds h in
      let settled = ((disk h).1 there.area_byte (there.other ++ (records old.bodies ++ there.gate ∷ there.behind), there.bytes)).1 in
      let image_is : image ≡ seen new.disk = settled image left in
      let area_is : new.area ≡ old.area = ap (λ (v : View D). v.area) leaves in
      let bodies_are : new.bodies ≡ old.bodies ++ body_of command ∷ [] = ap (λ (v : View D). v.bodies) leaves in
      let there_now : HoldsRecords image new.area new.bodies = subst (λ (i : List ℕ). HoldsRecords i new.area new.bodies) (sym image_is) (disk h).0 in
      let now : HoldsRecords image old.area (old.bodies ++ body_of command ∷ []) =
      subst (λ (bs : List (List ℕ)). HoldsRecords image old.area bs) bodies_are (subst (λ (a : ℕ). HoldsRecords image a new.bodies) area_is there_now) in
      let one : HoldsAlone image old.area (old.bodies ++ body_of command ∷ []) = holds_alone image old.area (old.bodies ++ body_of command ∷ []) now in
      subst (λ (m : Units). HoldsAlone image has.area (has.bodies ++ body_of (putting m name unit) ∷ [])) same.0
      (subst (λ (bs : List (List ℕ)). HoldsAlone image has.area (bs ++ body_of command ∷ [])) same.2
      (subst (λ (a : ℕ). HoldsAlone image a (old.bodies ++ body_of command ∷ [])) same.1 one))

  -- after the change, every image has the records of the commands and of the one that puts the unit
  pub logged_on : (answer : Result (Unit {0}) LibraryFault) (H : Type 0) (before : List ℕ) (old new : View D) (name : List ℕ) (unit : StoredUnit)
      → (H → ChangesDisk seen may_leave (putting old.units name unit) old new answer) → ChangeLeaves (putting old.units name unit) old new answer → (H → HoldsRecords (seen old.disk) old.area old.bodies)
      → (H → (commands : List LibraryCommand) → HasCommands before commands → (old.units ≡ library_of commands) × AreRead old.bodies commands)
      → OnOk answer (H → (commands : List LibraryCommand) → HasCommands before commands → IsCommand (putting (library_of commands) name unit) → (image : List ℕ) → may_leave new.disk image
      → HasCommands image (commands ++ putting (library_of commands) name unit ∷ []))
  logged_on (Err fault) H before old new name unit disk leaves holds known = tt
  logged_on (Ok done) H before old new name unit disk leaves holds known = λ h commands has is image left.
      let same = (known h commands has).0 in
      let command = putting old.units name unit in
      let there = holds h in
      let settled = ((disk h).1 there.area_byte (there.other ++ (records old.bodies ++ there.gate ∷ there.behind), there.bytes)).1 in
      let image_is : image ≡ seen new.disk = settled image left in
      let bodies_are : new.bodies ≡ old.bodies ++ body_of command ∷ [] = ap (λ (v : View D). v.bodies) leaves in
      let now : HoldsRecords image new.area (old.bodies ++ body_of command ∷ []) =
      subst (λ (bs : List (List ℕ)). HoldsRecords image new.area bs) bodies_are (subst (λ (i : List ℕ). HoldsRecords i new.area new.bodies) (sym image_is) (disk h).0) in
      let more = has_one_more image new.area old.bodies commands command now (known h commands has).1
      (subst (λ (m : Units). IsCommand (putting m name unit)) (sym same) is)
      (subst (λ (m : Units). IsOk (apply m command)) same (putting_accepted old.units name unit)) in
      subst (λ (m : Units). HasCommands image (commands ++ putting m name unit ∷ [])) same more

-- ---- refusals

-- a change that was refused without a failure of the device leaves everything as it was
pub change_untouched : {D : Type 0} (answer : Result (Unit {0}) LibraryFault) (command : LibraryCommand) (old new : View D) → ChangeLeaves command old new answer → IfErr answer (λ fault. fault ≢ DiskFault → new ≡ old)
change_untouched (Ok done) command old new leaves = tt
change_untouched (Err DiskFault) command old new leaves = λ other. absurd (other refl)
change_untouched (Err Closed) command old new leaves = λ other. leaves
change_untouched (Err Exists) command old new leaves = λ other. leaves
change_untouched (Err NoUnit) command old new leaves = λ other. leaves
change_untouched (Err Full) command old new leaves = λ other. leaves
change_untouched (Err NoMemory) command old new leaves = λ other. leaves
change_untouched (Err Damaged) command old new leaves = λ other. leaves
change_untouched (Err NotALibrary) command old new leaves = λ other. leaves

-- the reason for which the change was refused is the reason why the unit is not put
pub change_refused : {D : Type 0} (honest : Bool) (bytes : List ℕ) (begin before after : ℕ) (no_room : Type 0) (answer : Result (Unit {0}) LibraryFault) (old : View D) (name : List ℕ) (unit : StoredUnit) → before ≡ begin → old.closed ≡ false
    → (IsTrue honest → old.area < room_with old (putting old.units name unit) → no_room) → ChangeAnswers old (putting old.units name unit) before after answer
    → IfErr answer (λ fault. IsNotPut honest bytes begin after no_room fault)
change_refused honest bytes begin before after no_room (Ok done) old name unit same is_open room why = tt
change_refused honest bytes begin before after no_room (Err Full) old name unit same is_open room why = (why.2 ∙ same, λ h. room h why.1)
change_refused honest bytes begin before after no_room (Err DiskFault) old name unit same is_open room why = why.2 ∙ ap (λ n. n + 1) same
change_refused honest bytes begin before after no_room (Err NoMemory) old name unit same is_open room why = why.1 ∙ same
change_refused honest bytes begin before after no_room (Err Closed) old name unit same is_open room why = let no = sym is_open ∙ why.0 in absurd (cc)
change_refused honest bytes begin before after no_room (Err Exists) old name unit same is_open room why =
    let no = sym (ap is_ok why.1) ∙ putting_accepted old.units name unit in absurd (cc)
change_refused honest bytes begin before after no_room (Err NoUnit) old name unit same is_open room why =
    let no = sym (ap is_ok why.1) ∙ putting_accepted old.units name unit in absurd (cc)
change_refused honest bytes begin before after no_room (Err Damaged) old name unit same is_open room why = absurd why
change_refused honest bytes begin before after no_room (Err NotALibrary) old name unit same is_open room why = absurd why

-- if the record does not fit after those of the library that was opened, it does not fit after those of the
-- disk
pub no_room : (seen : List ℕ) (area : ℕ) (bodies : List (List ℕ)) (units : Units) (name : List ℕ) (unit : StoredUnit) → HoldsRecords seen area bodies → (stand : StandFor bodies units)
    → area < room_of (bodies ++ body_of (putting units name unit) ∷ []) → HasNoRoom seen name unit
no_room seen area bodies units name unit holds stand less =
    let has : HasCommands seen stand.commands = record { area = area; bodies = bodies; holds = holds; read = record { spelled = stand.spelled; accepted = stand.accepted } } in
    (stand.commands, has, subst (λ (m : Units). area < room_of (bodies ++ body_of (putting m name unit) ∷ [])) stand.map_is less)

-- the reason why a unit is not put, stated for the disk before it was read
pub put_refused : (honest : Bool) (seen mid : List ℕ) (begin before after : ℕ) (no_room more : Type 0) (fault : LibraryFault) → (IsTrue honest → mid ≡ seen) → before ≡ begin → (IsTrue honest → no_room → more)
    → IsNotPut honest mid before after no_room fault → IsNotPut honest seen begin after more fault
put_refused honest seen mid begin before after no_room more Full is same step why = (why.0 ∙ same, λ h. step h (why.1 h))
put_refused honest seen mid begin before after no_room more DiskFault is same step why = why ∙ ap (λ n. n + 1) same
put_refused honest seen mid begin before after no_room more NotALibrary is same step why = (why.0 ∙ same, λ h. subst (λ (s : List ℕ). (area : ℕ) → HasHeader s area → ⊥) (is h) (why.1 h))
put_refused honest seen mid begin before after no_room more Damaged is same step why =
    (why.0 ∙ same, λ h. subst (λ (s : List ℕ). ((area : ℕ) × HasHeader s area) × ((units : Units) → Recovers s units → ⊥)) (is h) (why.1 h))
put_refused honest seen mid begin before after no_room more NoMemory is same step why = why ∙ same
put_refused honest seen mid begin before after no_room more Exists is same step why = absurd why
put_refused honest seen mid begin before after no_room more NoUnit is same step why = absurd why
put_refused honest seen mid begin before after no_room more Closed is same step why = absurd why

-- ---- reading

module _ {D : Type 0} (seen : D → List ℕ) (may_leave : D → List ℕ → Type 0) (moment : D → ℕ) (left_since : D → ℕ → List ℕ → Type 0) where
  -- if a disk was only read twice in a row, it was only read
  pub reads_on : (a b c : D) → OnlyReads seen may_leave moment left_since a b → OnlyReads seen may_leave moment left_since b c → OnlyReads seen may_leave moment left_since a c
  reads_on a b c first second = record {
    same = second.same ∙ first.same;
    images = λ image left. first.images image (second.images image left);
    later = omega (arith, first.later, second.later);
    moments = λ t image within left. first.moments t image within (second.moments t image (omega (arith, within, first.later)) left);
  }
