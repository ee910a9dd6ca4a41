-- A body that is read spells its command; one that cannot be read spells none.
use Rattle.std.proofs.Common.{◌≡◌, ℕ, ◌+◌, List, Some, None, take, sym, subst}
use Rattle.std.proofs.lemmas.List.{take_all}
use Rattle.std.proofs.lemmas.Option.{none-some}
use Rattle.std.specs.Prelude.{Err}
use Rattle.cc_library.specs.Change.{LibraryCommand}
use Rattle.cc_library.specs.declared.reading.ReadFault.{ReadFault}
use Rattle.cc_library.specs.Answers.{Gives}
use Rattle.cc_library.specs.Body.{Spells}
use Rattle.cc_library.specs.Recovered.{AreSpelled}
use Rattle.cc_log.proofs.Reading.{spelled_more, unread}
use Rattle.cc_log.proofs.commands.spelled.Goals as goal

pub loop-body-preserved : goal.loop-body-preserved
loop-body-preserved c =
    let bodies : List (List ℕ) = c.args.bodies.now in
    let i = c.loop-body.body-index in
    let one : Spells c.body-item.result c.in-Ok.command = subst (λ (b : List ℕ). Spells b c.in-Ok.command) c.as_slice.ensures c.in-Ok.ensures.answer in
    subst (λ (l : List LibraryCommand). AreSpelled (take (i + 1) bodies) l) (sym c.in_ok-push-in-Ok.ensures.items)
    (spelled_more bodies i c.body-item.result c.loop-body.commands.items c.in-Ok.command c.loop-body-test.true c.body-item.is c.loop-body.invariant one)

pub returns-in-Err-NoCommand-clause-refused : goal.returns-in-Err-NoCommand-clause-refused
returns-in-Err-NoCommand-clause-refused c = λ commands spelled.
    unread c.args.bodies.now c.loop-body.body-index c.body-item.result c.loop-body-test.true c.body-item.is (λ command spells.
    let there : Spells c.as_slice.result.now command = subst (λ (b : List ℕ). Spells b command) (sym c.as_slice.ensures) spells in
    let found : Some command ≡ None = subst (λ (f : ReadFault). Gives {X = LibraryCommand} {Y = LibraryCommand} (λ x. x) (Err f) (Some command)) c.in-Err-NoCommand.field-0-is (c.in-Err-NoCommand.ensures.only command there) in
    none-some command (sym found)) commands spelled

pub returns-clause-commands : goal.returns-clause-commands
returns-clause-commands c =
    subst (λ (l : List (List ℕ)). AreSpelled l c.loop-body.commands.items) (take_all c.loop-body.body-index c.args.bodies.now c.loop-body-test.false) c.loop-body.invariant
