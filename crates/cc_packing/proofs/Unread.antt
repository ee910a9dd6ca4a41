-- Why bytes are the file of no unit: they are no file, or the body does not spell an Add.
use Rattle.std.proofs.Common.{◌≡◌, ℕ, List, Some, Result, Ok, Err, sym, subst, ◌∙◌}
use Rattle.cc_unit.specs.declared.unit.StoredUnit.{StoredUnit}
use Rattle.cc_library.specs.Answers.{Gives}
use Rattle.cc_library.specs.Body.{Spells}
use Rattle.cc_library.specs.Change.{LibraryCommand}
use Rattle.cc_library.specs.declared.command.Change.TheVariants.{Add, Replace, Withdraw}
use Rattle.cc_library.specs.declared.reading.ReadFault.{ReadFault}
use Rattle.cc_library.specs.declared.reading.ReadFault.TheVariants.{NoCommand}
use Rattle.cc_pack.proofs.Files.{same_bodies}
use Rattle.cc_pack.specs.File.{IsUnread, file_text}
use Rattle.cc_pack.specs.declared.fault.PackFault.{PackFault}
use Rattle.cc_pack.specs.declared.fault.PackFault.TheVariants.{Damaged, OutOfMemory}
use Rattle.cc_pack.specs.declared.file.ConfirmedIn.{ConfirmedIn}
use Rattle.cc_packing.specs.Packing.{IsNoFile}

-- bytes that are no file in any modes are the file of no unit
pub no_packed : (file : List ℕ) (fault : PackFault) → IsUnread file fault → IsNoFile file fault
no_packed file Damaged none = λ modes name unit is. none modes is.body is.whole
no_packed file OutOfMemory none = tt

-- a file whose body is read as something else than an Add is the file of no unit
is_no_file : (file body : List ℕ) (modes : ConfirmedIn) (answer : Result LibraryCommand ReadFault) → file ≡ file_text modes body
    → ((command : LibraryCommand) → Spells body command → Gives {X = LibraryCommand} {Y = LibraryCommand} (λ c. c) answer (Some command))
    → ((name : List ℕ) (unit : StoredUnit) → Gives {X = LibraryCommand} {Y = LibraryCommand} (λ c. c) answer (Some (Add name unit)) → ⊥) → IsNoFile file Damaged
is_no_file file body modes answer whole only never = λ other name unit is.
    let same : body ≡ is.body = same_bodies modes other body is.body (sym whole ∙ is.whole) in
    never name unit (only (Add name unit) (subst (λ (b : List ℕ). Spells b (Add name unit)) (sym same) is.spells))

pub no_replace : (file body : List ℕ) (modes : ConfirmedIn) (name : List ℕ) (unit : StoredUnit) → file ≡ file_text modes body
    → ((command : LibraryCommand) → Spells body command → Gives {X = LibraryCommand} {Y = LibraryCommand} (λ c. c) (Ok (Replace name unit)) (Some command)) → IsNoFile file Damaged
no_replace file body modes name unit whole only = is_no_file file body modes (Ok (Replace name unit)) whole only (λ n u same. absurd (cc))

pub no_withdraw : (file body : List ℕ) (modes : ConfirmedIn) (name : List ℕ) → file ≡ file_text modes body
    → ((command : LibraryCommand) → Spells body command → Gives {X = LibraryCommand} {Y = LibraryCommand} (λ c. c) (Ok (Withdraw name)) (Some command)) → IsNoFile file Damaged
no_withdraw file body modes name whole only = is_no_file file body modes (Ok (Withdraw name)) whole only (λ n u same. absurd (cc))

pub no_command : (file body : List ℕ) (modes : ConfirmedIn) → file ≡ file_text modes body
    → ((command : LibraryCommand) → Spells body command → Gives {X = LibraryCommand} {Y = LibraryCommand} (λ c. c) (Err NoCommand) (Some command)) → IsNoFile file Damaged
no_command file body modes whole only = is_no_file file body modes (Err NoCommand) whole only (λ n u same. absurd (cc))
