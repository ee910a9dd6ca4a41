-- The input words in a line of text.
use Rattle.std.specs.Prelude.{ℕ, List, [], ◌∷◌, map, Option, Some, None, option_map}
use Rattle.cc_script.specs.Line.{number_in, words}

-- all the numbers, if each element is one
abbrev pub all_of : List (Option ℕ) → Option (List ℕ)
all_of [] = Some []
all_of (None ∷ others) = None
all_of (Some n ∷ others) = option_map (λ ns. n ∷ ns) (all_of others)

-- an input word: a number below 2 ^ 32, of 1 to 10 digits
abbrev pub word_in : List ℕ → Option ℕ
word_in digits = number_in 10 4294967295 digits

-- the input words of a line, which are between single spaces; an empty line has none
abbrev pub input_in : (line : List ℕ) → Option (List ℕ)
input_in [] = Some []
input_in (byte ∷ bytes) = all_of (map word_in (words (byte ∷ bytes)))
