-- The RTL in the code's values, whatever the place of its lists in memory.
use Rattle.std.specs.Prelude.{List, [], ◌∷◌}
use Rattle.cc_rtl_language.specs.Rtl as rtl
use Rattle.cc_rtl_language.specs.declared.node.Node.{Node}
use Rattle.cc_rtl_language.specs.declared.node.Node.TheVariants.{Nop, Const, Move, Unary, Binary, Load, Store, Call, Read, Write, Branch, Return}
use Rattle.cc_instr_list.specs.List.{Entry}

-- the node
abbrev pub node_of : Node → rtl.Node
node_of (Nop next) = rtl.Nop next
node_of (Const to word next) = rtl.Const to word next
node_of (Move to from next) = rtl.Move to from next
node_of (Unary operator to from next) = rtl.Unary operator to from next
node_of (Binary operator to left right next) = rtl.Binary operator to left right next
node_of (Load width object to index next) = rtl.Load width object to index next
node_of (Store width object index from next) = rtl.Store width object index from next
node_of (Call function arguments to next) = rtl.Call function arguments.items to next
node_of (Read to next) = rtl.Read to next
node_of (Write from next) = rtl.Write from next
node_of (Branch from if_nonzero if_zero) = rtl.Branch from if_nonzero if_zero
node_of (Return from) = rtl.Return from

-- the nodes with their labels, in the order of the list that has them
abbrev pub labelled_of : List (Entry Node) → List rtl.Labelled
labelled_of [] = []
labelled_of (n ∷ ns) = record { label = n.label; node = node_of n.item } ∷ labelled_of ns
