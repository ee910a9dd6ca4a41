-- Every image has the journal's records and no others, and the map is what they represent.
use Rattle.std.proofs.Common.{◌≡◌, ℕ, List, [], sym, ◌∙◌, subst}
use Rattle.cc_journal.specs.Format.{HoldsRecords, HoldsAlone}
use Rattle.cc_library.specs.Recovered.{StandFor}
use Rattle.cc_library.specs.Answers.{ReplayFaults}
use Rattle.cc_library.proofs.Standing.{holds_recovers}
use Rattle.cc_library.proofs.Opening.{replay_refused, journal_refused, new_map}
use Rattle.cc_library.proofs.library.Library.open.Goals as goal

pub returns-in-Ok-replayed-clause-kept : goal.returns-in-Ok-replayed-clause-kept
returns-in-Ok-replayed-clause-kept g c =
    let j = c.in-Ok.log in
    let units = c.in-Ok-replayed.units in
    let stand : StandFor j.bodies units = subst (λ (bs : List (List ℕ)). StandFor bs units) (c.deref.ensures.value ∙ c.in-Ok.ensures.handed) c.in-Ok-replayed.ensures.answer in
    λ h image now. holds_recovers image j.area j.bodies units (c.in-Ok.ensures.kept h image now) stand

pub returns-in-Ok-replayed-clause-fresh : goal.returns-in-Ok-replayed-clause-fresh
returns-in-Ok-replayed-clause-fresh g c =
    let D = g.D.Disk in
    let j = c.in-Ok.log in
    let units = c.in-Ok-replayed.units in
    let stand : StandFor j.bodies units = subst (λ (bs : List (List ℕ)). StandFor bs units) (c.deref.ensures.value ∙ c.in-Ok.ensures.handed) c.in-Ok-replayed.ensures.answer in
    λ h area holds.
    let alone = c.in-Ok.ensures.kept h (D.seen j.disk) (g.met.D.Disk.seen_is_image j.disk h) in
    let there : HoldsRecords (D.seen j.disk) area [] = subst (λ (l : List ℕ). HoldsRecords l area []) (sym (c.in-Ok.ensures.reads h).same) holds in
    let none : j.bodies ≡ [] = sym (alone.alone area [] there).1 in
    (none, new_map j.bodies units none stand)

pub returns-in-Err-replayed-clause-refused : goal.returns-in-Err-replayed-clause-refused
returns-in-Err-replayed-clause-refused g c =
    let D = g.D.Disk in
    let j = c.in-Ok.log in
    let faults : ReplayFaults j.bodies c.in-Err-replayed.fault = subst (λ (bs : List (List ℕ)). ReplayFaults bs c.in-Err-replayed.fault) (c.deref.ensures.value ∙ c.in-Ok.ensures.handed) c.in-Err-replayed.ensures.refused in
    let same : D.failures c.into_disk.result ≡ D.failures c.args.disk = subst (λ (d : g.row.D.Denot). D.failures d ≡ D.failures c.args.disk) (sym c.into_disk.ensures) c.in-Ok.ensures.sound in
    replay_refused D.honest (D.seen c.args.disk) j.area j.bodies (D.failures c.args.disk) (D.failures c.into_disk.result) c.in-Err-replayed.fault
    (λ h. subst (λ (l : List ℕ). HoldsAlone l j.area j.bodies) (c.in-Ok.ensures.reads h).same (c.in-Ok.ensures.kept h (D.seen j.disk) (g.met.D.Disk.seen_is_image j.disk h)))
    faults same

pub returns-in-Err-clause-refused : goal.returns-in-Err-clause-refused
returns-in-Err-clause-refused g c =
    let D = g.D.Disk in
    rw c.from.ensures (journal_refused D.honest (D.seen c.args.disk) (D.failures c.args.disk) (D.failures c.in-Err.disk) c.in-Err.fault c.in-Err.ensures.refused)
