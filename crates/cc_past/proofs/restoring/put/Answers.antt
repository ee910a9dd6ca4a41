-- The Add or the Replace sets the unit, and the map before it is the one to which the disk recovered.
use Rattle.std.proofs.Common.{◌≡◌, ◌≢◌, ℕ, Bool, IsTrue, List, [], ◌∷◌, ◌++◌, sym, ap, subst, ◌∙◌}
use Rattle.std.specs.Prelude.{if◌then◌else◌, IfErr}
use Rattle.std.specs.FinMap as map
use Rattle.cc_disk.specs.Images.{LeavesOnly, OnlyReads}
use Rattle.cc_journal.specs.Format.{HoldsAlone, HoldsRecords}
use Rattle.cc_library.specs.Change.{LibraryCommand}
use Rattle.cc_library.specs.declared.command.Change.TheVariants.{Add, Replace}
use Rattle.cc_library.specs.declared.fault.LibraryFault.TheVariants.{DiskFault}
use Rattle.cc_library.specs.Answers.{ChangeAnswers, ChangeLeaves, ChangesDisk}
use Rattle.cc_library.specs.Body.{IsCommand, body_of}
use Rattle.cc_log.specs.Commands.{HasCommands}
use Rattle.cc_log.proofs.Reading.{of_err}
use Rattle.cc_past.specs.Restored.{HasNoRoom, IsNotPut, putting}
use Rattle.cc_library.specs.Apply.{Units, after, library_of}
use Rattle.cc_library.specs.Recovered.{Recovers, RecoversAlone, RecoversOneOf}
use Rattle.cc_past.specs.internal.Steps.{MayBe}
use Rattle.cc_past.proofs.Moments.{added, kept_as, on_ok, read_then, replaced}
use Rattle.cc_past.proofs.Logged.{alone_on, change_refused, change_untouched, known_commands, logged_on, no_room, same_records}
use Rattle.cc_past.proofs.restoring.put.Goals.{then-contains, else-contains}
use Rattle.cc_past.proofs.restoring.put.Goals as goal

pub returns-after-contains-clause-put : goal.returns-after-contains-clause-put
returns-after-contains-clause-put g c =
    let D = g.D.Disk in
    let l = c.in-Ok.library in
    let name = c.args.stored.name in
    let unit = c.args.stored.unit in
    let has : c.contains.result ≡ map.contains_key l.units name = c.contains.ensures ∙ ap (λ (m : Units). map.contains_key m name) c.units.ensures in
    let made : after l.units c.if-contains.command ≡ map.insert l.units name unit = elim c.if-contains.branch [
      | then-contains w ↦ rw w.command-is (replaced l.units name unit (sym has ∙ w.if-contains.true))
      | else-contains w ↦ rw w.command-is (added l.units name unit (sym has ∙ w.if-contains.false))
    ] in
    let new = c.change-answer.new.self in
    let kept = kept_as c.change-answer.result c.if-contains.command l new D.may_leave (IsTrue D.honest) (map.insert l.units name unit) made c.change-answer.ensures.changed.leaves c.change-answer.ensures.changed.kept in
    on_ok {A = IsTrue D.honest → (image : List ℕ) → D.may_leave new.disk image → RecoversAlone image (map.insert l.units name unit)} (λ k h units recovers image left.
    let there : Recovers (D.seen l.disk) units = subst (λ (s : List ℕ). Recovers s units) (sym (c.in-Ok.ensures.reads h).same) recovers in
    let same : units ≡ l.units = (c.in-Ok.ensures.kept h (D.seen l.disk) (g.met.D.Disk.seen_is_image l.disk h)).alone units there in
    subst (λ (m : Units). RecoversAlone image (map.insert m name unit)) (sym same) (k h image (subst (λ (d : g.row.D.Denot). D.may_leave d image) c.into_disk.ensures left)))
    c.change-answer.result kept

pub returns-after-contains-clause-moments : goal.returns-after-contains-clause-moments
returns-after-contains-clause-moments g c = λ h units recovers.
    let D = g.D.Disk in
    let l = c.in-Ok.library in
    let name = c.args.stored.name in
    let unit = c.args.stored.unit in
    let has : c.contains.result ≡ map.contains_key l.units name = c.contains.ensures ∙ ap (λ (m : Units). map.contains_key m name) c.units.ensures in
    let made : after l.units c.if-contains.command ≡ map.insert l.units name unit = elim c.if-contains.branch [
      | then-contains w ↦ rw w.command-is (replaced l.units name unit (sym has ∙ w.if-contains.true))
      | else-contains w ↦ rw w.command-is (added l.units name unit (sym has ∙ w.if-contains.false))
    ] in
    let new = c.change-answer.new.self in
    let there : Recovers (D.seen l.disk) units = subst (λ (s : List ℕ). Recovers s units) (sym (c.in-Ok.ensures.reads h).same) recovers in
    let same : units ≡ l.units = (c.in-Ok.ensures.kept h (D.seen l.disk) (g.met.D.Disk.seen_is_image l.disk h)).alone units there in
    let before = D.may_leave c.args.disk in
    let changed = read_then D.seen D.may_leave D.moment D.left_since (RecoversOneOf l.units (after l.units c.if-contains.command)) c.args.disk l.disk new.disk
    (λ image left. g.met.D.Disk.only_now c.args.disk image h left) (c.in-Ok.ensures.reads h) (c.change-answer.ensures.changed.moments h c.in-Ok.ensures.«open») in
    let by_map : LeavesOnly D.moment D.left_since c.args.disk new.disk (MayBe before l.units (map.insert l.units name unit)) =
    subst (λ (m : Units). LeavesOnly D.moment D.left_since c.args.disk new.disk (MayBe before l.units m)) made changed in
    let by_units : LeavesOnly D.moment D.left_since c.args.disk new.disk (MayBe before units (map.insert units name unit)) =
    subst (λ (m : Units). LeavesOnly D.moment D.left_since c.args.disk new.disk (MayBe before m (map.insert m name unit))) (sym same) by_map in
    subst (λ (d : g.row.D.Denot). LeavesOnly D.moment D.left_since c.args.disk d (MayBe before units (map.insert units name unit))) (sym c.into_disk.ensures) by_units

pub returns-after-contains-clause-logged : goal.returns-after-contains-clause-logged
returns-after-contains-clause-logged g c =
    let D = g.D.Disk in
    let l = c.in-Ok.library in
    let new = c.change-answer.new.self in
    let name = c.args.stored.name in
    let unit = c.args.stored.unit in
    let answer = c.change-answer.result in
    let changed = c.change-answer.ensures.changed in
    let has : c.contains.result ≡ map.contains_key l.units name = c.contains.ensures ∙ ap (λ (m : Units). map.contains_key m name) c.units.ensures in
    let is : c.if-contains.command ≡ putting l.units name unit = elim c.if-contains.branch [
      | then-contains w ↦ rw w.command-is (sym (ap (λ (b : Bool). if b then Replace name unit else Add name unit) (sym has ∙ w.if-contains.true)))
      | else-contains w ↦ rw w.command-is (sym (ap (λ (b : Bool). if b then Replace name unit else Add name unit) (sym has ∙ w.if-contains.false)))
    ] in
    let seen = D.seen c.args.disk in
    let there = λ (h : IsTrue D.honest). subst (λ (s : List ℕ). HoldsRecords s l.area l.bodies) (sym (c.in-Ok.ensures.reads h).same) (c.in-Ok.ensures.records h) in
    let logged = logged_on D.seen D.may_leave answer (IsTrue D.honest) seen l new name unit
    (λ h. subst (λ (x : LibraryCommand). ChangesDisk D.seen D.may_leave x l new answer) is (changed.disk h))
    (subst (λ (x : LibraryCommand). ChangeLeaves x l new answer) is changed.leaves) there
    (λ h commands has. known_commands seen l.area l.bodies l.units (c.in-Ok.ensures.records h) c.in-Ok.ensures.stand commands has) in
    on_ok {A = IsTrue D.honest → (commands : List LibraryCommand) → HasCommands seen commands → IsCommand (putting (library_of commands) name unit) → (image : List ℕ) → D.may_leave new.disk image
    → HasCommands image (commands ++ putting (library_of commands) name unit ∷ [])}
    (λ k h commands has can_be image left. k h commands has can_be image (subst (λ (d : g.row.D.Denot). D.may_leave d image) c.into_disk.ensures left)) answer logged

pub returns-after-contains-clause-alone : goal.returns-after-contains-clause-alone
returns-after-contains-clause-alone g c =
    let D = g.D.Disk in
    let l = c.in-Ok.library in
    let new = c.change-answer.new.self in
    let name = c.args.stored.name in
    let unit = c.args.stored.unit in
    let answer = c.change-answer.result in
    let changed = c.change-answer.ensures.changed in
    let has : c.contains.result ≡ map.contains_key l.units name = c.contains.ensures ∙ ap (λ (m : Units). map.contains_key m name) c.units.ensures in
    let is : c.if-contains.command ≡ putting l.units name unit = elim c.if-contains.branch [
      | then-contains w ↦ rw w.command-is (sym (ap (λ (b : Bool). if b then Replace name unit else Add name unit) (sym has ∙ w.if-contains.true)))
      | else-contains w ↦ rw w.command-is (sym (ap (λ (b : Bool). if b then Replace name unit else Add name unit) (sym has ∙ w.if-contains.false)))
    ] in
    let seen = D.seen c.args.disk in
    let there = λ (h : IsTrue D.honest). subst (λ (s : List ℕ). HoldsRecords s l.area l.bodies) (sym (c.in-Ok.ensures.reads h).same) (c.in-Ok.ensures.records h) in
    let alone = alone_on D.seen D.may_leave answer (IsTrue D.honest) seen l new name unit
    (λ h. subst (λ (x : LibraryCommand). ChangesDisk D.seen D.may_leave x l new answer) is (changed.disk h))
    (subst (λ (x : LibraryCommand). ChangeLeaves x l new answer) is changed.leaves) there
    (λ h commands has. same_records seen l.area l.bodies l.units (c.in-Ok.ensures.records h) c.in-Ok.ensures.stand commands has) in
    on_ok {A = IsTrue D.honest → (commands : List LibraryCommand) (has : HasCommands seen commands) → (image : List ℕ) → D.may_leave new.disk image
    → HoldsAlone image has.area (has.bodies ++ body_of (putting (library_of commands) name unit) ∷ [])}
    (λ k h commands has image left. k h commands has image (subst (λ (d : g.row.D.Denot). D.may_leave d image) c.into_disk.ensures left)) answer alone

pub returns-after-contains-clause-refused : goal.returns-after-contains-clause-refused
returns-after-contains-clause-refused g c =
    let D = g.D.Disk in
    let l = c.in-Ok.library in
    let new = c.change-answer.new.self in
    let name = c.args.stored.name in
    let unit = c.args.stored.unit in
    let answer = c.change-answer.result in
    let changed = c.change-answer.ensures.changed in
    let has : c.contains.result ≡ map.contains_key l.units name = c.contains.ensures ∙ ap (λ (m : Units). map.contains_key m name) c.units.ensures in
    let is : c.if-contains.command ≡ putting l.units name unit = elim c.if-contains.branch [
      | then-contains w ↦ rw w.command-is (sym (ap (λ (b : Bool). if b then Replace name unit else Add name unit) (sym has ∙ w.if-contains.true)))
      | else-contains w ↦ rw w.command-is (sym (ap (λ (b : Bool). if b then Replace name unit else Add name unit) (sym has ∙ w.if-contains.false)))
    ] in
    let seen = D.seen c.args.disk in
    let begin = D.failures c.args.disk in
    let none = HasNoRoom seen name unit in
    let all = change_refused D.honest seen begin (D.failures l.disk) (D.failures new.disk) none answer l name unit c.in-Ok.ensures.sound c.in-Ok.ensures.«open»
    (λ h less. no_room seen l.area l.bodies l.units name unit (c.in-Ok.ensures.records h) c.in-Ok.ensures.stand less)
    (subst (λ (x : LibraryCommand). ChangeAnswers l x (D.failures l.disk) (D.failures new.disk) answer) is changed.answers) in
    subst (λ (d : g.row.D.Denot). IfErr answer (λ fault. IsNotPut D.honest seen begin (D.failures d) none fault)) (sym c.into_disk.ensures) all

pub returns-after-contains-clause-untouched : goal.returns-after-contains-clause-untouched
returns-after-contains-clause-untouched g c =
    let D = g.D.Disk in
    let l = c.in-Ok.library in
    let new = c.change-answer.new.self in
    let name = c.args.stored.name in
    let unit = c.args.stored.unit in
    let answer = c.change-answer.result in
    let changed = c.change-answer.ensures.changed in
    of_err {P = λ fault. fault ≢ DiskFault → new ≡ l}
    (λ fault same other h. subst (λ (d : g.row.D.Denot). OnlyReads D.seen D.may_leave D.moment D.left_since c.args.disk d) (sym (c.into_disk.ensures ∙ ap (λ v. v.disk) (same other))) (c.in-Ok.ensures.reads h))
    answer (change_untouched answer c.if-contains.command l new changed.leaves)
