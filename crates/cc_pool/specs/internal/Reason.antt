-- Which piece belongs to a function, and the fault for a function whose piece did not come.
use Rattle.std.specs.Prelude.{◌≡◌, ℕ, List}
use Rattle.cc_ast.specs.Source.{source}
use Rattle.cc_c_semantics.specs.declared.mode.Mode.{Mode}
use Rattle.cc_emit.specs.Piece as emit
use Rattle.cc_pool.specs.Fault.{IsRefusedAt}
use Rattle.cc_pool.specs.declared.fault.PoolFault.{PoolFault}
use Rattle.cc_pool.specs.declared.fault.PoolFault.TheVariants.{Piece, WorkersGone, OutOfMemory}

-- the piece was made in this mode, for this function of the text
abbrev pub IsOf : Mode → List ℕ → (function : ℕ) → emit.Piece → Type 0
IsOf mode text function p = ((p.mode ≡ mode) × ((source p.unit).text ≡ text)) × (p.function ≡ function)

-- this function of the text was refused with this fault; or the fault is WorkersGone
abbrev pub IsReason : Mode → List ℕ → (function : ℕ) → PoolFault → Type 0
IsReason mode text function (Piece f fault) = (f ≡ function) × IsRefusedAt mode text function fault
IsReason mode text function WorkersGone = Unit {0}
IsReason mode text function OutOfMemory = ⊥
