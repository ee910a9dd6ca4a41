-- Every image has exactly the records of the log, and the commands are what these records spell.
use Rattle.std.proofs.Common.{◌≡◌, ℕ, List, sym, ◌∙◌, subst}
use Rattle.cc_journal.specs.Format.{HoldsAlone}
use Rattle.cc_library.specs.Answers.{ReplayFaults}
use Rattle.cc_library.proofs.Opening.{replay_refused, journal_refused}
use Rattle.cc_log.specs.Commands.{AreRead}
use Rattle.cc_log.proofs.Reading.{of_ok, of_err}
use Rattle.cc_log.proofs.commands.commands_on.Goals as goal

pub returns-in-Ok-clause-commands : goal.returns-in-Ok-clause-commands
returns-in-Ok-clause-commands g c =
    let j = c.in-Ok.log in
    let same = c.deref.ensures.value ∙ c.in-Ok.ensures.handed in
    of_ok {P = λ commands. AreRead c.deref.result.now commands.items}
    (λ commands read h. record { area = j.area; bodies = j.bodies; holds = c.in-Ok.ensures.records h; read = subst (λ (bs : List (List ℕ)). AreRead bs commands.items) same read }) c.accepted.result
    c.accepted.ensures.commands

pub returns-in-Ok-clause-accepted : goal.returns-in-Ok-clause-accepted
returns-in-Ok-clause-accepted g c =
    of_ok {P = λ commands. AreRead c.deref.result.now commands.items} (λ commands read. read.accepted) c.accepted.result c.accepted.ensures.commands

pub returns-in-Ok-clause-refused : goal.returns-in-Ok-clause-refused
returns-in-Ok-clause-refused g c =
    let D = g.D.Disk in
    let j = c.in-Ok.log in
    let bodies = c.deref.ensures.value ∙ c.in-Ok.ensures.handed in
    let same : D.failures c.into_disk.result ≡ D.failures c.args.disk = subst (λ (d : g.row.D.Denot). D.failures d ≡ D.failures c.args.disk) (sym c.into_disk.ensures) c.in-Ok.ensures.sound in
    of_err {P = λ fault. ReplayFaults c.deref.result.now fault}
    (λ fault faults. replay_refused D.honest (D.seen c.args.disk) j.area j.bodies (D.failures c.args.disk) (D.failures c.into_disk.result) fault
    (λ h. subst (λ (l : List ℕ). HoldsAlone l j.area j.bodies) (c.in-Ok.ensures.reads h).same (c.in-Ok.ensures.kept h (D.seen j.disk) (g.met.D.Disk.seen_is_image j.disk h)))
    (subst (λ (bs : List (List ℕ)). ReplayFaults bs fault) bodies faults) same) c.accepted.result c.accepted.ensures.refused

pub returns-in-Err-clause-refused : goal.returns-in-Err-clause-refused
returns-in-Err-clause-refused g c =
    let D = g.D.Disk in
    rw c.from.ensures (journal_refused D.honest (D.seen c.args.disk) (D.failures c.args.disk) (D.failures c.in-Err.disk) c.in-Err.fault c.in-Err.ensures.refused)
