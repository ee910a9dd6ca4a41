-- When a run has not read past the end of its input.
use Rattle.std.specs.Prelude.{ℕ, ◌≤◌, List, length}
use Rattle.cc_words.specs.Observed.{reads_in}

-- a run on this input that shows this output has read no more words than the input has
abbrev pub IsWithin : (input output : List ℕ) → Type 0
IsWithin input output = reads_in output ≤ length input
