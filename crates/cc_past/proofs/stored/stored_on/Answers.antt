-- The commands among which `stored_among` looks are those whose records the disk has.
use Rattle.std.proofs.Common.{IsTrue, List, sym, subst}
use Rattle.std.specs.FinMap.{empty}
use Rattle.cc_library.specs.Change.{LibraryCommand}
use Rattle.cc_library.specs.Apply.{AreAccepted}
use Rattle.cc_log.specs.Commands.{HasCommands}
use Rattle.cc_past.specs.Past.{IsStored}
use Rattle.cc_past.specs.internal.Steps.{IsNotStored}
use Rattle.cc_tasks.proofs.Parting.{of_ok, of_err}
use Rattle.cc_past.proofs.Past.{not_stored_on}
use Rattle.cc_past.proofs.stored.stored_on.Goals as goal

pub returns-in-Ok-clause-stored : goal.returns-in-Ok-clause-stored
returns-in-Ok-clause-stored g c =
    let D = g.D.Disk in
    let read = rw c.in-Ok.is at c.commands_on-commands.ensures.commands in
    let has = λ (h : IsTrue D.honest). subst (λ (l : List LibraryCommand). HasCommands (D.seen c.args.disk) l) (sym c.as_slice.ensures.value) (read h) in
    of_ok {P = λ stored. IsStored c.as_slice.result.now c.args.name.now c.args.number stored.unit} (λ stored is h. (c.as_slice.result.now, has h, is))
    c.stored_among-found.result c.stored_among-found.ensures.stored

pub returns-in-Ok-clause-some : goal.returns-in-Ok-clause-some
returns-in-Ok-clause-some g c =
    let read = rw c.in-Ok.is at c.commands_on-commands.ensures.accepted in
    let accepted = subst (λ (l : List LibraryCommand). AreAccepted empty l) (sym c.as_slice.ensures.value) read in
    of_ok {P = λ stored. IsStored c.as_slice.result.now c.args.name.now c.args.number stored.unit} (λ stored is. (c.as_slice.result.now, accepted, is))
    c.stored_among-found.result c.stored_among-found.ensures.stored

pub returns-in-Ok-clause-refused : goal.returns-in-Ok-clause-refused
returns-in-Ok-clause-refused g c =
    let D = g.D.Disk in
    let read = rw c.in-Ok.is at c.commands_on-commands.ensures.commands in
    let has = λ (h : IsTrue D.honest). subst (λ (l : List LibraryCommand). HasCommands (D.seen c.args.disk) l) (sym c.as_slice.ensures.value) (read h) in
    let sound = rw c.in-Ok.is at c.commands_on-commands.ensures.sound in
    of_err {P = λ fault. IsNotStored c.as_slice.result.now c.args.name.now c.args.number fault}
    (λ fault why. not_stored_on D.honest (D.seen c.args.disk) _ _ c.args.name.now c.args.number c.as_slice.result.now sound has fault why) c.stored_among-found.result c.stored_among-found.ensures.refused
