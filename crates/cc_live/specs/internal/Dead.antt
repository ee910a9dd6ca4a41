-- The labels of dead nodes.
use Rattle.std.specs.Prelude.{ℕ, List, [], ◌∷◌, if◌then◌else◌}
use Rattle.cc_rtl_language.specs.Rtl.{Labelled}
use Rattle.cc_rtl_language.specs.Live.{Sets, is_dead}

abbrev pub dead_labels : Sets → List Labelled → List ℕ
dead_labels live [] = []
dead_labels live (n ∷ ns) = if is_dead live n.node then n.label ∷ dead_labels live ns else dead_labels live ns
