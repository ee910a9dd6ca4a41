-- What is read from a reader.
use Rattle.std.specs.Prelude.{◌≡◌, ℕ, List, take, Option, IfSome}

-- a reader's text: its bytes, or the first 65,537 of them if it has more
abbrev pub IsTextOf : Option (List ℕ) → (text : List ℕ) → Type 0
IsTextOf bytes text = IfSome bytes (λ all. text ≡ take 65537 all)
