-- The bytes spell the command that is read, and a command that the bytes spell is read.
use Rattle.std.proofs.Common.{ℕ, List, get_or, ◌<◌, subst, arith}
use Rattle.std.specs.Prelude.{Result, Ok, Err, IfOk}
use Rattle.cc_library.specs.Change.{LibraryCommand}
use Rattle.cc_library.specs.declared.reading.ReadFault.{ReadFault}
use Rattle.cc_library.specs.Body.{Spells}
use Rattle.cc_library.specs.internal.Reading.{command_in}
use Rattle.cc_library.specs.Answers.{Gives}
use Rattle.cc_library.proofs.Fields.{from_index}
use Rattle.cc_library.proofs.Commands.{command_takes, spelled_is_read}
use Rattle.cc_library.proofs.reading.read_command.Goals as goal

is_found : (bytes : List ℕ) (r : Result LibraryCommand ReadFault) → ((i : ℕ) → get_or bytes i 0 < 256) → Gives (λ c. c) r (command_in bytes) → IfOk r (λ c. Spells bytes c)
is_found bytes (Ok command) below given = command_takes bytes command (from_index 256 bytes below) given
is_found bytes (Err e) below given = tt

pub returns-clause-answer : goal.returns-clause-answer
returns-clause-answer c = is_found c.args.bytes.now c.command_at.result (λ i. omega (arith, c.type_inv.bytes i)) c.command_at.ensures

pub returns-clause-only : goal.returns-clause-only
returns-clause-only c = λ command spells. subst (Gives (λ x. x) c.command_at.result) (spelled_is_read c.args.bytes.now command spells) c.command_at.ensures
