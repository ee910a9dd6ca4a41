-- What is written for a text whose run goes on while its input comes.
use Rattle.std.proofs.Common.{◌≡◌, ℕ, Bool, true, false, List, [], Option, refl, sym, ap, ◌∙◌, subst, inl, inr}
use Rattle.std.specs.Prelude.{◌⊎◌}
use Rattle.std.specs.Io.KnownBytes.{Appends}
use Rattle.cc_task.specs.declared.task.Kind.{Kind}
use Rattle.cc_tasks.specs.Live.{IsRunLive, IsTurnedDown}
use Rattle.cc_tasks.specs.Written.{fault_text}
use Rattle.cc_tasks.specs.internal.Working.{RefusesBy, is_told}
use Rattle.cc_tasks.specs.declared.fault.Fault.{Fault}
use Rattle.cc_tasks.specs.declared.fault.Fault.TheVariants.{Write, OutOfMemory}

by_written : (fault : Fault) (text : List ℕ) (old new : Option (List ℕ)) (written : Bool) → Appends old new (fault_text text fault) → IsTurnedDown fault text old new 1 written
by_written fault text old new true h = (refl, h)
by_written fault text old new false h = refl

-- a fault was told, or could not be
pub turned_down : (fault told : Fault) (text : List ℕ) (old new : Option (List ℕ)) → RefusesBy fault text old new told → IsTurnedDown fault text old new 1 (is_told told)
turned_down fault told text old new (inl unwritten) = subst (λ b. IsTurnedDown fault text old new 1 b) (sym (ap is_told unwritten)) refl
turned_down fault told text old new (inr h) = by_written fault text old new (is_told told) h.1

-- the texts could not be joined
pub unjoined_live : (kind : Kind) (steps : ℕ) (zeros : Bool) (text : List ℕ) (input old new : Option (List ℕ)) (status : ℕ) (written : Bool) → IsTurnedDown OutOfMemory [] old new status written → IsRunLive kind steps zeros text input old new status written
unjoined_live kind steps zeros text input old new status true h = inl (OutOfMemory, tt, h)
unjoined_live kind steps zeros text input old new status false h = inl (OutOfMemory, tt, h)
