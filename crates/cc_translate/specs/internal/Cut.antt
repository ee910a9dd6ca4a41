-- The first line of a text.
use Rattle.std.specs.Prelude.{◌≡◌, ℕ, ◌<◌, List, [], ◌∷◌, length, Option, Some, None, IfSome}
use Rattle.std.specs.Option.{option_copied}
use Rattle.cc_translate.specs.declared.carrying.Cut.{Cut}
use Rattle.cc_translate.specs.Carried.{lines}

-- the lines of what follows the first newline, if there is one
abbrev pub others : Option (List ℕ) → List (List ℕ)
others None = []
others (Some rest) = lines rest

-- the text is less than it was
abbrev pub IsLess : Option (List ℕ) → List ℕ → Type 0
IsLess rest text = IfSome rest (λ r. length r < length text)

pub record IsCut (text : List ℕ) (cut : Cut) : Type 0 where
  pub lines : lines text ≡ cut.line.now ∷ others (option_copied cut.rest)
  pub less : IsLess (option_copied cut.rest) text
