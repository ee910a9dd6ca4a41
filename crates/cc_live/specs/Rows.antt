-- Sets of registers as rows of bits, and a row for each node.
use Rattle.std.specs.Prelude.{ℕ, List, [], get_or}
use Rattle.cc_rtl_language.specs.Rtl.{Labelled}
use Rattle.cc_rtl_language.specs.Positions.{position_of}
use Rattle.cc_rtl_language.specs.Live.{Sets}
use Rattle.cc_bits.specs.Rows.{holds}

-- the rows of a function's nodes, as a set for each label; no register is live at a label without a node
abbrev pub rows_at : List Labelled → (rows : List (List ℕ)) → Sets
rows_at nodes rows label = holds (get_or rows (position_of nodes label) [])
