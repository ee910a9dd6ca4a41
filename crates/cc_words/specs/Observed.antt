-- What a run shows: the words that it writes and the places of its reads among them, in one list. A read is a number there that is no
-- word.
use Rattle.std.specs.Prelude.{ℕ, suc, ◌^◌, nat_lt, if◌then◌else◌, List, [], ◌∷◌}

-- the number in an output that is a read
abbrev pub read_mark : ℕ
read_mark = 2 ^ 32

-- the words of an output, without the marks of reads
abbrev pub written_words : List ℕ → List ℕ
written_words [] = []
written_words (w ∷ ws) = if nat_lt w (2 ^ 32) then w ∷ written_words ws else written_words ws

-- how often a run with this output has read
abbrev pub reads_in : List ℕ → ℕ
reads_in [] = 0
reads_in (w ∷ ws) = if nat_lt w (2 ^ 32) then reads_in ws else suc (reads_in ws)
