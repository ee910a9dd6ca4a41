-- The words of objects in an image. Four elements of an array of `unsigned char` make one word, the first in its lowest byte;
-- zeros follow the last element.
use Rattle.std.specs.Prelude.{ℕ, ◌+◌, ◌*◌, ◌^◌, List, [], ◌∷◌, ◌++◌}
use Rattle.cc_words.specs.declared.operators.Width.{Width}
use Rattle.cc_words.specs.declared.operators.Width.TheVariants.{Byte, Word}
use Rattle.cc_ast.specs.Tree.{Object}
use Rattle.cc_types.specs.Types.{object_width, initial_words}

-- four bytes as a word, the first byte the lowest
abbrev pub word_of_bytes : (a b c d : ℕ) → ℕ
word_of_bytes a b c d = a + 2 ^ 8 * b + 2 ^ 16 * c + 2 ^ 24 * d

abbrev pub packed_bytes : List ℕ → List ℕ
packed_bytes [] = []
packed_bytes (a ∷ []) = word_of_bytes a 0 0 0 ∷ []
packed_bytes (a ∷ b ∷ []) = word_of_bytes a b 0 0 ∷ []
packed_bytes (a ∷ b ∷ c ∷ []) = word_of_bytes a b c 0 ∷ []
packed_bytes (a ∷ b ∷ c ∷ d ∷ rest) = word_of_bytes a b c d ∷ packed_bytes rest

-- the words that elements of a width become
abbrev pub packed : Width → List ℕ → List ℕ
packed Byte bs = packed_bytes bs
packed Word ws = ws

-- the words of an object before the run, and those of all objects, one object after the other
abbrev pub object_image : Object → List ℕ
object_image o = packed (object_width o) (initial_words o)

abbrev pub image_words : List Object → List ℕ
image_words [] = []
image_words (o ∷ rest) = object_image o ++ image_words rest
