-- Where objects lie: from the first address of the globals on, each at the first multiple of 4 after the one before it.
use Rattle.std.specs.Prelude.{◌≡◌, ℕ, zero, suc, ◌+◌, ◌*◌, List, [], ◌∷◌}
use Rattle.cc_rv32.specs.Machine.{globals_from}
use Rattle.cc_simulation.specs.World.{Size}
use Rattle.cc_emit.specs.Contract.{ObjectLayout, size_words}

-- the number of words of the objects before object `number`
abbrev pub words_before : (objects : List Size) → (number : ℕ) → ℕ
words_before [] number = 0
words_before (o ∷ objects) zero = 0
words_before (o ∷ objects) (suc number) = size_words o + words_before objects number

-- the address of an object
abbrev pub object_address : (objects : List Size) → (number : ℕ) → ℕ
object_address objects number = globals_from + 4 * words_before objects number

-- a layout with the objects at these addresses
abbrev pub IsInOrder : {objects : List Size} → ObjectLayout objects → Type 0
IsInOrder {objects} layout = (number : ℕ) → layout.base number ≡ object_address objects number
