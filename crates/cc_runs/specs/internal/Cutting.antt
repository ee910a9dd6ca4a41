-- A line cut at its first space.
use Rattle.std.specs.Prelude.{ℕ, ◌+◌, List, [], ◌∷◌, map, length, Option, Some, None}
use Rattle.std.specs.Borrow.{Bor}
use Rattle.cc_script.specs.Line.{words}
use Rattle.cc_runs.specs.Words.{all_of, word_in}

-- the words of a line that begins with this word and, if a space ends the word, goes on with this rest
abbrev pub words_behind : (word : List ℕ) → Option (Bor (List ℕ)) → List (List ℕ)
words_behind word None = word ∷ []
words_behind word (Some rest) = word ∷ words rest.now

-- the input words that are left
abbrev pub input_left : Option (Bor (List ℕ)) → Option (List ℕ)
input_left None = Some []
input_left (Some rest) = all_of (map word_in (words rest.now))

-- the number of bytes that are left, and one more if a word is left
abbrev pub room_left : Option (Bor (List ℕ)) → ℕ
room_left None = 0
room_left (Some rest) = length rest.now + 1
