-- A line cut at its first space.
use Rattle.std.specs.Prelude.{ℕ, List, [], ◌∷◌, Option, Some, None}
use Rattle.std.specs.Borrow.{Bor}
use Rattle.cc_script.specs.Line.{words}

-- the words of a line: its first word, and the words of what comes after the space that ends it, if a space does
abbrev pub words_behind : (word : List ℕ) → Option (Bor (List ℕ)) → List (List ℕ)
words_behind word None = word ∷ []
words_behind word (Some rest) = word ∷ words rest.now
