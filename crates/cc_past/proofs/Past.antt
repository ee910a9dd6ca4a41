-- What holds for commands holds for the disk that has their records.
use Rattle.std.proofs.Common.{◌≡◌, ℕ, Bool, IsTrue, List}
use Rattle.cc_library.specs.Change.{LibraryCommand}
use Rattle.cc_log.specs.Commands.{HasCommands}
use Rattle.cc_tasks.specs.declared.part.PartFault.{PartFault}
use Rattle.cc_tasks.specs.declared.part.PartFault.TheVariants.{BadName, Absent, Library, OutOfMemory}
use Rattle.cc_past.specs.Past.{IsNotStoredOn}
use Rattle.cc_past.specs.internal.Steps.{IsNotStored}

-- the reason why one of a disk's commands stored nothing, stated for the disk
pub not_stored_on : (honest : Bool) (seen : List ℕ) (before after : ℕ) (name : List ℕ) (number : ℕ) (commands : List LibraryCommand) → after ≡ before → (IsTrue honest → HasCommands seen commands)
    → (fault : PartFault) → IsNotStored commands name number fault → IsNotStoredOn honest seen before after name number fault
not_stored_on honest seen before after name number commands sound has BadName why = (why, sound, λ h. (commands, has h))
not_stored_on honest seen before after name number commands sound has Absent why = (sound, λ h. (commands, has h, why))
not_stored_on honest seen before after name number commands sound has (Library f) why = absurd why
not_stored_on honest seen before after name number commands sound has OutOfMemory why = sound
