-- Which text and which functions some pieces belong to.
use Rattle.std.specs.Prelude.{ℕ, List, [], ◌∷◌, ◌≡◌, suc}
use Rattle.cc_ast.specs.Source.{source}
use Rattle.cc_c_semantics.specs.declared.mode.Mode.{Mode}
use Rattle.cc_emit.specs.Piece.{Piece}

-- these are pieces of the text in the mode, one for each function from `from` on, in order
abbrev pub AreFromIn : Mode → (text : List ℕ) (from : ℕ) → List Piece → Type 0
AreFromIn mode text from [] = Unit {0}
AreFromIn mode text from (p ∷ ps) = ((p.mode ≡ mode) × ((source p.unit).text ≡ text)) × (p.function ≡ from) × AreFromIn mode text (suc from) ps
