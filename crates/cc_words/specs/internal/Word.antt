-- What a word is.
use Rattle.std.specs.Prelude.{ℕ, ◌<◌, ◌^◌}

-- a word: a whole number of at most 32 binary digits (6.2.6.2)
abbrev pub IsWord : ℕ → Type 0
IsWord w = w < 2 ^ 32
