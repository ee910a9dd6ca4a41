-- The addresses of a unit's objects as a table.
use Rattle.std.specs.Prelude.{ℕ, ◌+◌, ◌-◌, ◌*◌, List, [], ◌∷◌, length, get_or, min}
use Rattle.cc_ast.specs.Tree.{Object}
use Rattle.cc_types.specs.Types.{object_words}

-- the address of an object; from the last entry on, the address after the last object
abbrev pub base_in : (bases : List ℕ) → (object : ℕ) → ℕ
base_in bases object = get_or bases (min (length bases - 1) object) 0

-- the addresses of objects, one after the other from an address on
abbrev pub bases_from : (address : ℕ) → List Object → List ℕ
bases_from address [] = []
bases_from address (o ∷ rest) = address ∷ bases_from (address + 4 * object_words o) rest

-- the address after these objects
abbrev pub address_behind : (address : ℕ) → List Object → ℕ
address_behind address [] = address
address_behind address (o ∷ rest) = address_behind (address + 4 * object_words o) rest
