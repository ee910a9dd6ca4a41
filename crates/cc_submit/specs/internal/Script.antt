-- What is sent for a line with bytes after it.
use Rattle.std.specs.Prelude.{ℕ, List, ◌++◌, length, codes}
use Rattle.std.specs.Fmt.{decimal}

-- bytes, and a newline
abbrev pub piece : (bytes : List ℕ) → List ℕ
piece bytes = bytes ++ codes "\n"

-- a line with the number of bytes that follow it, and these bytes
abbrev pub text_with : (line bytes : List ℕ) → List ℕ
text_with line bytes = (line ++ (codes " " ++ (decimal (length bytes) ++ codes "\n"))) ++ piece bytes

-- a line with the lengths of the expected source and of the new one, and these two sources
abbrev pub update_text : (line expected source : List ℕ) → List ℕ
update_text line expected source =
    (line ++ (codes " " ++ (decimal (length expected) ++ (codes " " ++ (decimal (length source) ++ codes "\n"))))) ++ (piece expected ++ piece source)
