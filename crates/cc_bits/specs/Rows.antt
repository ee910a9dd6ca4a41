-- A row of bits, and rows of bits that all have one width, one after the other.
use Rattle.std.specs.Prelude.{ℕ, ◌+◌, ◌*◌, ◌/◌, ◌%◌, ◌^◌, List, get_or, Bool, ◌==◌, ◌&&◌, ◌||◌, not, nat_lt, length, if◌then◌else◌, ◌≤◌}
use Rattle.std.specs.Int.{bit_at}

-- a row is a list of words of 64 bits: bit k % 64 of word k / 64 says whether the row holds number k; it holds no number past its end
abbrev pub holds : (row : List ℕ) → (k : ℕ) → Bool
holds row k = bit_at (get_or row (k / 64) 0) (k % 64) == 1

-- rows of `width` words each, one after the other
pub record Table : Type 0 where
  pub width : ℕ
  pub words : List ℕ

-- the number that a table's words hold for bit c of row r
abbrev pub key : (width r c : ℕ) → ℕ
key width r c = 64 * (width * r) + c

-- bit c of row r; there are no bits past a row's width, nor past the last row
abbrev pub has : Table → (r c : ℕ) → Bool
has t r c = nat_lt c (64 * t.width) && holds t.words (key t.width r c)

-- a row of a table has at most this many words; a table has at most this many rows; and it has at most this many words in all
abbrev pub most_width : ℕ
most_width = 16

abbrev pub most_rows : ℕ
most_rows = 2 ^ 32

abbrev pub most_words : ℕ
most_words = 2 ^ 36

-- each row has `width` words, and there are at most `rows` rows; both numbers are within their limits
pub record AreRows (width rows : ℕ) (words : List ℕ) : Type 0 where
  pub narrow : width ≤ most_width
  pub low : rows ≤ most_rows
  pub few : length words ≤ width * rows

-- a line of bits in which one bit has moved to another place; a table in which the bit of one column has moved, in each row; a
-- table in which the bits of one row have moved
abbrev pub moved : (from to : ℕ) → (ℕ → Bool) → (place : ℕ) → Bool
moved from to bit k = if to == k then bit to || bit from else bit k && not (from == k)

abbrev pub column_moved : (from to : ℕ) → (ℕ → ℕ → Bool) → (r c : ℕ) → Bool
column_moved from to bit r c = moved from to (bit r) c

abbrev pub row_moved : (from to : ℕ) → (ℕ → ℕ → Bool) → (r c : ℕ) → Bool
row_moved from to bit r c = moved from to (λ x. bit x c) r
