-- When a list consists of bytes, and the words of one external declaration's objects in an image.
use Rattle.std.specs.Prelude.{ℕ, ◌^◌, ◌<◌, List, [], ◌∷◌}
use Rattle.cc_ast.specs.Tree.{External, Declaration, Definition, Objects}
use Rattle.cc_link.specs.Packed.{image_words}

-- each number in the list is a byte
abbrev pub AreBytes : List ℕ → Type 0
AreBytes [] = Unit {0}
AreBytes (b ∷ bs) = (b < 2 ^ 8) × AreBytes bs

abbrev pub external_image : External → List ℕ
external_image (Declaration s) = []
external_image (Definition s body) = []
external_image (Objects t os) = image_words os
