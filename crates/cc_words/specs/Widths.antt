-- How wide an object's elements are, which part of a word an element keeps (C99 6.3.1.3), and how many words a number of elements fills.
use Rattle.std.specs.Prelude.{ℕ, ◌+◌, ◌/◌, ◌%◌, ◌^◌, Bool, true, false, List, [], codes}
use Rattle.cc_words.specs.declared.operators.Width.{Width}
use Rattle.cc_words.specs.declared.operators.Width.TheVariants.{Byte, Word}

-- the width in bytes
abbrev pub bytes : Width → ℕ
bytes Byte = 1
bytes Word = 4

abbrev pub same_width : Width → Width → Bool
same_width Byte Byte = true
same_width Word Word = true
same_width Byte Word = false
same_width Word Byte = false

-- the part of a word that an element keeps: a byte keeps the low eight bits
abbrev pub kept : Width → (word : ℕ) → ℕ
kept Byte w = w % 2 ^ 8
kept Word w = w

-- how many words this many elements fill, a partly filled last word included
abbrev pub words_of : Width → (elements : ℕ) → ℕ
words_of Byte n = (n + 3) / 4
words_of Word n = n

-- what a listing writes before an element
abbrev pub width_text : Width → List ℕ
width_text Byte = codes "byte "
width_text Word = []
