-- Bytes that cannot be read as a command spell no command, and bytes that are read as a command spell no other.
use Rattle.std.proofs.Common.{◌≡◌, ℕ, List, Some, None, sym, subst}
use Rattle.std.specs.Prelude.{Err, IsOk}
use Rattle.std.proofs.lemmas.Option.{none-some}
use Rattle.cc_library.specs.Change.{LibraryCommand}
use Rattle.cc_library.specs.declared.reading.ReadFault.{ReadFault}
use Rattle.cc_library.specs.Apply.{apply}
use Rattle.cc_library.specs.Body.{Spells}
use Rattle.cc_library.specs.Answers.{Gives}
use Rattle.cc_library.proofs.Commands.{one_command}
use Rattle.cc_library.proofs.replaying.replay_body.Goals as goal

pub returns-in-Err-NoCommand : goal.returns-in-Err-NoCommand
returns-in-Err-NoCommand c = λ command spells ok.
    let there : Spells c.as_slice.result.now command = subst (λ (b : List ℕ). Spells b command) (sym c.as_slice.ensures) spells in
    let found : Some command ≡ None = subst (λ (f : ReadFault). Gives {X = LibraryCommand} {Y = LibraryCommand} (λ x. x) (Err f) (Some command)) c.in-Err-NoCommand.field-0-is (c.in-Err-NoCommand.ensures.only command there) in
    none-some command (sym found)

pub returns-in-Ok-false : goal.returns-in-Ok-false
returns-in-Ok-false c = λ command spells ok.
    let there : Spells c.as_slice.result.now command = subst (λ (b : List ℕ). Spells b command) (sym c.as_slice.ensures) spells in
    let same : command ≡ c.in-Ok.command = one_command c.as_slice.result.now command c.in-Ok.command there c.in-Ok.ensures.answer in
    c.in-Ok-false.ensures.refused c.in-Ok-false.field-0-test (subst (λ (d : LibraryCommand). IsOk (apply c.args.units d)) same ok)
