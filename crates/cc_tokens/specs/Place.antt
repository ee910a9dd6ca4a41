-- Lines and columns, both counted from 1; the byte 10 ends a line.
use Rattle.std.specs.Prelude.{ℕ, ◌+◌, ◌==◌, not, List, length, take, reverse, count_by}
use Rattle.std.specs.List.{take_while}
use Rattle.cc_tokens.specs.declared.place.Place.{Place}

-- the bytes of the text's last line, in reverse order
abbrev pub last_line_reversed : List ℕ → List ℕ
last_line_reversed text = take_while (λ b. not (b == 10)) (reverse text)

-- the place of an offset: the line is one more than the newlines before it, the column one more than the bytes since the last of these
abbrev pub place_of : List ℕ → ℕ → Place
place_of text at = record { line = 1 + count_by (λ b. b == 10) (take at text); column = 1 + length (last_line_reversed (take at text)) }
