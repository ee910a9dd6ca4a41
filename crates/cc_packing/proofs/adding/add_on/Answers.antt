-- The map before the Add is the one to which the disk recovered, and before the Add the disk was only read.
use Rattle.std.proofs.Common.{◌≡◌, ◌≢◌, ℕ, IsTrue, List, ◌∙◌, sym, ap, subst}
use Rattle.std.specs.Prelude.{IfErr}
use Rattle.cc_disk.specs.Images.{LeavesOnly, OnlyReads}
use Rattle.cc_library.specs.declared.command.Change.TheVariants.{Add}
use Rattle.cc_library.specs.declared.fault.LibraryFault.TheVariants.{DiskFault}
use Rattle.cc_library.specs.Apply.{Units, after}
use Rattle.cc_library.specs.Recovered.{Recovers, RecoversOneOf}
use Rattle.cc_library.proofs.Standing.{weaker}
use Rattle.cc_packing.specs.Added.{IsAddedTo, IsNotAdded, MayBeAdded}
use Rattle.cc_packing.proofs.Added.{add_refused, added_to, change_untouched, of_err, on_ok, one_of_added, read_then}
use Rattle.cc_packing.proofs.adding.add_on.Goals as goal

pub returns-in-Ok-clause-added : goal.returns-in-Ok-clause-added
returns-in-Ok-clause-added g c =
    let D = g.D.Disk in
    let l = c.in-Ok.library in
    let name = c.args.name in
    let unit = c.args.unit in
    let seen = D.seen c.args.disk in
    let new = c.change-answer.new.self in
    let changed = c.change-answer.ensures.changed in
    on_ok {A = IsTrue D.honest → IsAddedTo seen name unit (D.may_leave new.disk)}
    (λ k h. subst (λ (d : g.row.D.Denot). IsAddedTo seen name unit (D.may_leave d)) (sym c.into_disk.ensures) (k h))
    c.change-answer.result
    (added_to c.change-answer.result l new name unit D.may_leave (IsTrue D.honest) seen (D.failures l.disk) (D.failures new.disk) changed.answers changed.leaves c.in-Ok.ensures.recovered changed.kept)

pub returns-in-Ok-clause-moments : goal.returns-in-Ok-clause-moments
returns-in-Ok-clause-moments g c = λ h units recovers.
    let D = g.D.Disk in
    let l = c.in-Ok.library in
    let name = c.args.name in
    let unit = c.args.unit in
    let new = c.change-answer.new.self in
    let before = D.may_leave c.args.disk in
    let there : Recovers (D.seen l.disk) units = subst (λ (s : List ℕ). Recovers s units) (sym (c.in-Ok.ensures.reads h).same) recovers in
    let same : units ≡ l.units = (c.in-Ok.ensures.kept h (D.seen l.disk) (g.met.D.Disk.seen_is_image l.disk h)).alone units there in
    let changed = read_then D.seen D.may_leave D.moment D.left_since (RecoversOneOf l.units (after l.units (Add name unit))) c.args.disk l.disk new.disk
    (λ image left. g.met.D.Disk.only_now c.args.disk image h left) (c.in-Ok.ensures.reads h) (c.change-answer.ensures.changed.moments h c.in-Ok.ensures.«open») in
    let by_map : LeavesOnly D.moment D.left_since c.args.disk new.disk (MayBeAdded before l.units name unit) =
    weaker D.moment D.left_since _ (MayBeAdded before l.units name unit) c.args.disk new.disk (one_of_added l.units name unit before) changed in
    let by_units : LeavesOnly D.moment D.left_since c.args.disk new.disk (MayBeAdded before units name unit) =
    subst (λ (m : Units). LeavesOnly D.moment D.left_since c.args.disk new.disk (MayBeAdded before m name unit)) (sym same) by_map in
    subst (λ (d : g.row.D.Denot). LeavesOnly D.moment D.left_since c.args.disk d (MayBeAdded before units name unit)) (sym c.into_disk.ensures) by_units

pub returns-in-Ok-clause-refused : goal.returns-in-Ok-clause-refused
returns-in-Ok-clause-refused g c =
    let D = g.D.Disk in
    let l = c.in-Ok.library in
    let name = c.args.name in
    let unit = c.args.unit in
    let seen = D.seen c.args.disk in
    let begin = D.failures c.args.disk in
    let new = c.change-answer.new.self in
    let answer = c.change-answer.result in
    subst (λ (d : g.row.D.Denot). IfErr answer (IsNotAdded D.honest seen begin (D.failures d) name unit)) (sym c.into_disk.ensures)
    (add_refused D.honest seen begin (D.failures l.disk) (D.failures new.disk) answer l name unit c.in-Ok.ensures.sound c.in-Ok.ensures.«open» c.in-Ok.ensures.recovered c.in-Ok.ensures.records c.change-answer.ensures.changed.answers)

pub returns-in-Ok-clause-untouched : goal.returns-in-Ok-clause-untouched
returns-in-Ok-clause-untouched g c =
    let D = g.D.Disk in
    let l = c.in-Ok.library in
    let new = c.change-answer.new.self in
    of_err {P = λ fault. fault ≢ DiskFault → new ≡ l}
    (λ fault same other h. subst (λ (d : g.row.D.Denot). OnlyReads D.seen D.may_leave D.moment D.left_since c.args.disk d) (sym (c.into_disk.ensures ∙ ap (λ v. v.disk) (same other))) (c.in-Ok.ensures.reads h))
    c.change-answer.result (change_untouched c.change-answer.result (Add c.args.name c.args.unit) l new c.change-answer.ensures.changed.leaves)
