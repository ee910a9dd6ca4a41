-- The code of a whole function: its steps in their frame, each with how much is known of the address that it
-- accesses.
use Rattle.std.specs.Prelude.{ℕ, ◌+◌, Bool, false, Option, Some, None, List, ◌++◌, length, map}
use Rattle.cc_c_semantics.specs.Numbered.{objects_in}
use Rattle.cc_select.specs.Pair as above
use Rattle.cc_select.specs.declared.step.Step.{Step}
use Rattle.cc_emit.specs.declared.item.PieceItem.{PieceItem}
use Rattle.cc_emit.specs.declared.item.PieceItem.TheVariants.{Plain, Call, Go}
use Rattle.cc_emit.specs.Objects.{object_address}
use Rattle.cc_emit.specs.Frames.{frame_of, frame_size}
use Rattle.cc_emit.specs.Early.{Early, early}
use Rattle.cc_emit.specs.Emission.{framed_items}
use Rattle.cc_emit.specs.Scratch.{nothing, addressed, gains}

-- the code of a function with this many slots; `sets_pointer` says whether it sets x3
abbrev pub items_with : (base : ℕ → ℕ) → (sets_pointer : Bool) → (slots : ℕ) → List Step → List PieceItem
items_with base sets_pointer slots steps = framed_items base (frame_of sets_pointer slots steps) (addressed base sets_pointer nothing steps)

-- the function's code, which sets x3 exactly if the function gains by that
abbrev pub whole_items : (base : ℕ → ℕ) → (slots : ℕ) → List Step → List PieceItem
whole_items base slots steps = items_with base (gains base steps) slots steps

-- an item of code, adjusted for the `before` items that are put in front of it
abbrev pub shifted : (before : ℕ) → PieceItem → PieceItem
shifted n (Plain i) = Plain i
shifted n (Call g) = Call g
shifted n (Go to) = Go (to + n)

abbrev pub behind : List PieceItem → List PieceItem → List PieceItem
behind head items = head ++ map (shifted (length head)) items

-- the function's code: first what may return before there is a frame, if there is such a part
abbrev pub early_items : (base : ℕ → ℕ) → (slots : ℕ) → Option Early → List Step → List PieceItem
early_items base slots None steps = whole_items base slots steps
early_items base slots (Some e) steps = behind (items_with base false 0 e.head) (whole_items base slots e.rest)

abbrev pub function_items : (base : ℕ → ℕ) → (slots : ℕ) → List Step → List PieceItem
function_items base slots steps = early_items base slots (early slots steps) steps

-- the items that a pair's steps become, with the objects of its unit in order
unfoldable pub pair_items : above.Pair → List PieceItem
pair_items p = function_items (object_address (objects_in (above.tree_of p))) p.ltl.slots p.code

-- the size in bytes of the frame of a pair's steps
unfoldable pub pair_frame : above.Pair → ℕ
pair_frame p = frame_size (frame_of false p.ltl.slots p.code)
