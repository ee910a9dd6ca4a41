-- The wide text that a text of the profile carries in its comments: on each line, what follows the first `//|`.
use Rattle.std.specs.Prelude.{ℕ, List, [], ◌∷◌, ◌++◌, ◌==◌, ◌&&◌, if◌then◌else◌, Option, Some, None}
use Rattle.std.specs.Option.{option_or}

-- what follows the mark `//|`, if the bytes begin with it
abbrev pub marked : List ℕ → Option (List ℕ)
marked [] = None
marked (a ∷ []) = None
marked (a ∷ (b ∷ [])) = None
marked (a ∷ (b ∷ (c ∷ rest))) = if (a == 47) && (b == 47) && (c == 124) then Some rest else None

-- what follows the first mark of a line, if it has one
abbrev pub after_mark : List ℕ → Option (List ℕ)
after_mark [] = None
after_mark (b ∷ rest) = option_or (marked (b ∷ rest)) (after_mark rest)

-- bytes before the first of these lines
abbrev pub before : List ℕ → List (List ℕ) → List (List ℕ)
before bytes [] = bytes ∷ []
before bytes (line ∷ rest) = (bytes ++ line) ∷ rest

-- the lines of a text: what is before its first newline, between two, and after its last
abbrev pub lines : List ℕ → List (List ℕ)
lines [] = [] ∷ []
lines (b ∷ rest) = if b == 10 then [] ∷ lines rest else before (b ∷ []) (lines rest)

-- a line and what comes after it, if there are both
abbrev pub both : Option (List ℕ) → Option (List ℕ) → Option (List ℕ)
both None rest = None
both (Some line) None = None
both (Some line) (Some rest) = Some (line ++ 10 ∷ rest)

-- what these lines carry, with newlines between, if each carries something
abbrev pub carried_by : List (List ℕ) → Option (List ℕ)
carried_by [] = None
carried_by (line ∷ []) = after_mark line
carried_by (line ∷ (next ∷ rest)) = both (after_mark line) (carried_by (next ∷ rest))

-- what a text carries
abbrev pub carried : List ℕ → Option (List ℕ)
carried text = carried_by (lines text)
