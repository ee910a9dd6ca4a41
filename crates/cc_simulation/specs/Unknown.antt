-- In languages with registers and stack slots, it is unknown what these hold at a function's entry, and what a destroyed register
-- holds after a call, a read or a write. They hold the words of a given list, 0 past its end, in this one order. At entry: the 32
-- registers, in order of their numbers, and then the slots. (A parameter's register and a register that is never allocated use up
-- their word too: the arguments are put over them.) After a call: 32 more words; each destroyed register has the one at its own
-- number. After a read or a write: one more word, for the one register that is destroyed.
use Rattle.std.specs.Prelude.{ℕ, List, get_or, take, drop, Bool, ◌&&◌, ◌||◌, nat_le, if◌then◌else◌}
use Rattle.cc_simulation.specs.World.{first_or_zero, rest_of}

-- the word of register r among the next 32
abbrev pub unknown_register : (words : List ℕ) (r : ℕ) → ℕ
unknown_register words r = get_or (take 32 words) r 0

-- the word of slot i at entry, out of this many slots
abbrev pub unknown_slot : (slots : ℕ) (words : List ℕ) (i : ℕ) → ℕ
unknown_slot slots words i = get_or (take slots (drop 32 words)) i 0

-- a call preserves x8, x9 and x18 to x27
abbrev pub survives : (r : ℕ) → Bool
survives r = (nat_le 8 r && nat_le r 9) || (nat_le 18 r && nat_le r 27)

-- register r after a call, if it held this word before
abbrev pub register_after_call : (words : List ℕ) (r before : ℕ) → ℕ
register_after_call words r before = if survives r then before else unknown_register words r

-- the word of the destroyed register after a read or a write
abbrev pub unknown_word : (words : List ℕ) → ℕ
unknown_word words = first_or_zero words

-- the remaining words: after a function's entry with this many slots, after a call, after a read or a write
abbrev pub left_after_entry : (slots : ℕ) → List ℕ → List ℕ
left_after_entry slots words = drop slots (drop 32 words)

abbrev pub left_after_call : List ℕ → List ℕ
left_after_call words = drop 32 words

abbrev pub left_after_word : List ℕ → List ℕ
left_after_word words = rest_of words
