-- The line of a file with its newline; bytes that are no file of these modes.
use Rattle.std.specs.Prelude.{ℕ, ◌≢◌, List, [], ◌∷◌, ◌++◌}
use Rattle.cc_pack.specs.File.{file_text, line_text}
use Rattle.cc_pack.specs.declared.file.ConfirmedIn.{ConfirmedIn}

abbrev pub head_text : ConfirmedIn → (body : List ℕ) → List ℕ
head_text confirmed body = line_text confirmed body ++ 10 ∷ []

-- no body is written as these bytes with these modes
abbrev pub IsNoFileIn : ConfirmedIn → (file : List ℕ) → Type 0
IsNoFileIn confirmed file = (body : List ℕ) → file ≢ file_text confirmed body
