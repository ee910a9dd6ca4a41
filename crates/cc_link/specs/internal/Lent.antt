-- Which functions some pieces belong to.
use Rattle.std.specs.Prelude.{ℕ, List, map}
use Rattle.cc_emit.specs.Piece.{Piece}

-- the functions that the pieces belong to
abbrev pub functions_of : List Piece → List ℕ
functions_of pieces = map (λ (p : Piece). p.function) pieces
