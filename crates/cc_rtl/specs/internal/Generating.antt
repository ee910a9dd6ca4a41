-- Definitions for the contracts of the generator's code: the places in the code's values.
use Rattle.std.specs.Prelude.{◌≡◌, ℕ, List, [], ◌∷◌, ◌++◌, length, Option, option_map}
use Rattle.cc_instr_list.specs.List.{Entry}
use Rattle.cc_cminor_language.specs.Cminor.{Expression, Constant, Local, Unary, Binary, Load, Statement}
use Rattle.cc_rtl_language.specs.Rtl as rtl
use Rattle.cc_rtl_language.specs.Code.{node_of}
use Rattle.cc_rtl_language.specs.declared.node.Node as declared
use Rattle.cc_rtl.specs.internal.Generate.{Places, Made, register, taken, made_function, nodes_back, labelled_from}

-- the places of a list's entries, the last place first in that list
abbrev pub places_of : List (Entry (Option declared.Node)) → Places
places_of [] = []
places_of (e ∷ es) = places_of es ++ option_map node_of e.item ∷ []

-- the labels of the entries are their places
abbrev pub AreCountedDown : List (Entry (Option declared.Node)) → Type 0
AreCountedDown [] = Unit {0}
AreCountedDown (e ∷ es) = (e.label ≡ length es) × AreCountedDown es

-- code that begins at a label, and its places
abbrev pub made_at : (entry : ℕ) → Places → Made
made_at entry places = record { entry = entry; places = places }

-- the node that puts the value of an expression into a register, once its operands are in registers
abbrev pub last_node : Expression → (free to exit : ℕ) → rtl.Node
last_node (Constant w) free to exit = rtl.Const to w exit
last_node (Local x) free to exit = rtl.Move to x exit
last_node (Unary op a) free to exit = rtl.Unary op to (register a free) exit
last_node (Binary op a b) free to exit = rtl.Binary op to (register a free) (register b (taken a free)) exit
last_node (Load width o a) free to exit = rtl.Load width o to (register a free) exit

-- the nodes of a function, for any parameters
abbrev pub generated_nodes : (count : ℕ) → Statement → List rtl.Labelled
generated_nodes count body = let m = made_function count body in labelled_from m.entry 0 (nodes_back m.places)
