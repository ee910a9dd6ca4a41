-- Offsets that the code computes while it lays out objects.
use Rattle.std.specs.Prelude.{ℕ, ◌+◌, List, [], ◌∷◌}
use Rattle.cc_ast.specs.Tree.{Object}
use Rattle.cc_types.specs.Types.{object_elements}

-- the offset after these objects, with the first one at this offset
abbrev pub offset_behind : ℕ → List Object → ℕ
offset_behind at [] = at
offset_behind at (o ∷ rest) = offset_behind (at + object_elements o) rest
