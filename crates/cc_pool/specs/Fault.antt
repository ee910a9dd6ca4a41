-- The faults of the pool.
use Rattle.std.specs.Prelude.{◌≢◌, ℕ, ◌<◌, List}
use Rattle.cc_c_semantics.specs.declared.mode.Mode.{Mode}
use Rattle.cc_link.specs.Compile.{IsBlamedIn, HasPieceIn, piece_fault_number}
use Rattle.cc_link.specs.declared.piece_fault.PieceFault.{PieceFault}
use Rattle.cc_link.specs.declared.piece_fault.PieceFault.TheVariants as piece
use Rattle.cc_pool.specs.declared.fault.PoolFault.{PoolFault}
use Rattle.cc_pool.specs.declared.fault.PoolFault.TheVariants.{Piece, WorkersGone, OutOfMemory}

abbrev pub pool_fault_number : PoolFault → ℕ
pool_fault_number (Piece function fault) = piece_fault_number fault
pool_fault_number WorkersGone = 41
pool_fault_number OutOfMemory = 40

-- the text is a program, and the fault, which is not OutOfMemory, names this function of the program
abbrev pub IsRefusedAt : Mode → List ℕ → (function : ℕ) → PieceFault → Type 0
IsRefusedAt mode text function fault = ∥ IsBlamedIn mode text function fault ∥₁ × (fault ≢ piece.OutOfMemory)

-- if the fault is that of a piece, 22 or 24, it names a function, and each function defined before that one has a piece
abbrev pub IsJobRefusal : Mode → List ℕ → PoolFault → Type 0
IsJobRefusal mode text (Piece function fault) = IsRefusedAt mode text function fault × ((f : ℕ) → f < function → HasPieceIn mode text f)
IsJobRefusal mode text WorkersGone = Unit {0}
IsJobRefusal mode text OutOfMemory = Unit {0}
