-- What holds for ranges: each answer has the words that it must have.
use Rattle.std.specs.Prelude.{◌≡◌, ◌≢◌, ◌⊎◌, ℕ, ◌^◌, ◌<◌, true, false, Bool, Some}
use Rattle.cc_words.specs.declared.operators.Unary as one
use Rattle.cc_words.specs.declared.operators.Binary as two
use Rattle.cc_words.specs.declared.operators.Width.{Width}
use Rattle.cc_words.specs.Operators.{apply_unary, apply_binary}
use Rattle.cc_words.specs.Widths.{kept}
use Rattle.cc_range.specs.declared.range.Range.{Range}
use Rattle.cc_range.specs.Range.{Has, all_words, byte_words, only, is_within, joined, met, of_unary, of_binary, of_kept, is_covered, is_index, learned_from, nonzero_words}

-- all words are in the range of all words; a word is in its own range; a word other than 0 is in the range of these
abbrev pub WordsAreInRange : Type 0
WordsAreInRange = (w : ℕ) → w < 2 ^ 32 → Has all_words w × Has (only w) w × (w ≢ 0 → Has nonzero_words w) × (w < 2 ^ 8 → Has byte_words w)

-- a word of a range is in each range that the first is within
abbrev pub WithinIsSound : Type 0
WithinIsSound = (a b : Range) (w : ℕ) → is_within a b ≡ true → Has a w → Has b w

-- a word of one of two ranges is in their join, and a word of both is in their meet
abbrev pub JoinedIsSound : Type 0
JoinedIsSound = (a b : Range) (w : ℕ) → Has a w ⊎ Has b w → Has (joined a b) w

abbrev pub MetIsSound : Type 0
MetIsSound = (a b : Range) (w : ℕ) → w < 2 ^ 32 → Has a w → Has b w → Has (met a b) w

-- an operator's value is in the range that is computed from the ranges of its operands
abbrev pub UnaryIsSound : Type 0
UnaryIsSound = (op : one.Unary) (a : Range) (x : ℕ) → x < 2 ^ 32 → Has a x → Has (of_unary op a) (apply_unary op x)

abbrev pub BinaryIsSound : Type 0
BinaryIsSound = (op : two.Binary) (a b : Range) (x y w : ℕ) → x < 2 ^ 32 → y < 2 ^ 32 → Has a x → Has b y → apply_binary op x y ≡ Some w → Has (of_binary op a b) w

-- what an element keeps of a word
abbrev pub KeptIsSound : Type 0
KeptIsSound = (width : Width) (r : Range) (w : ℕ) → w < 2 ^ 32 → Has r w → Has (of_kept width r) (kept width w)

-- a covered operator has a value for all operands of the ranges, and an index that is covered is below the number of elements
abbrev pub CoveredHasValue : Type 0
CoveredHasValue = (op : two.Binary) (a b : Range) (x y : ℕ) → x < 2 ^ 32 → y < 2 ^ 32 → is_covered op a b ≡ true → Has a x → Has b y → (w : ℕ) × (apply_binary op x y ≡ Some w)

abbrev pub IndexIsInside : Type 0
IndexIsInside = (r : Range) (n w : ℕ) → w < 2 ^ 32 → is_index r n ≡ true → Has r w → w < n

-- the value is not 0 (true), or is 0 (false)
abbrev pub IsWay : Bool → ℕ → Type 0
IsWay true w = w ≢ 0
IsWay false w = w ≡ 0

-- the operands are in the ranges that a comparison's outcome shows
abbrev pub LearnedIsSound : Type 0
LearnedIsSound = (way : Bool) (op : two.Binary) (a b : Range) (x y w : ℕ) → x < 2 ^ 32 → y < 2 ^ 32 → Has a x → Has b y → apply_binary op x y ≡ Some w → IsWay way w
    → Has (learned_from way op a b).left x × Has (learned_from way op a b).right y
