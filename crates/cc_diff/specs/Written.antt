-- The lines that are written for a comparison.
use Rattle.std.specs.Prelude.{ℕ, List, ◌++◌, codes}
use Rattle.std.specs.List.{flat_map}
use Rattle.cc_diff.specs.declared.difference.Difference.{Difference}
use Rattle.cc_diff.specs.declared.difference.Difference.TheVariants.{Left, Right, Source, Image, Certificate}
use Rattle.cc_diff.specs.declared.difference.DiffLine.{DiffLine}

-- the word before the name
abbrev pub word_of : Difference → List ℕ
word_of Left = codes "left "
word_of Right = codes "right "
word_of Source = codes "source "
word_of Image = codes "image "
word_of Certificate = codes "certificate "

abbrev pub line_text : DiffLine → List ℕ
line_text line = word_of line.difference ++ (line.name ++ codes "\n")

-- each line in turn
abbrev pub diff_text : List DiffLine → List ℕ
diff_text lines = flat_map line_text lines
