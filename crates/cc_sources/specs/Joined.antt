-- The whole: texts, joined one after another.
use Rattle.std.specs.Prelude.{ℕ, ◌-◌, ◌==◌, Bool, false, not, if◌then◌else◌, List, [], ◌∷◌, ◌++◌, length, Option, Some, None, slice_get}
use Rattle.cc_sources.specs.declared.text.NamedText.{NamedText}

-- there is a byte, and it is not a newline
abbrev pub is_other : Option ℕ → Bool
is_other None = false
is_other (Some byte) = not (byte == 10)

-- a text has bytes, and the last one is not a newline
abbrev pub lacks_newline : List ℕ → Bool
lacks_newline bytes = is_other (slice_get bytes (length bytes - 1))

-- a newline, if a text does not end with one
abbrev pub newline_after : List ℕ → List ℕ
newline_after bytes = if lacks_newline bytes then 10 ∷ [] else []

-- a text, with a newline after it if it does not end with one and there is a further text
abbrev pub closed : (text : NamedText) (further : List NamedText) → List ℕ
closed text [] = text.bytes.items
closed text (next ∷ further) = text.bytes.items ++ newline_after text.bytes.items

-- the whole: the texts one after another, each completed by `closed`
abbrev pub joined : List NamedText → List ℕ
joined [] = []
joined (text ∷ further) = closed text further ++ joined further
