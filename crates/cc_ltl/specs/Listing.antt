-- A function as text: a line with its slots and its entry, and a line for each block.
use Rattle.std.specs.Prelude.{ℕ, List, [], ◌++◌, codes}
use Rattle.std.specs.List.{flat_map}
use Rattle.std.specs.Fmt.{decimal}
use Rattle.cc_words.specs.Operators.{unary_text, binary_text}
use Rattle.cc_words.specs.declared.operators.Width.{Width}
use Rattle.cc_words.specs.Widths.{width_text}
use Rattle.cc_ltl.specs.declared.operation.Move.{Move}
use Rattle.cc_ltl.specs.declared.operation.Move.TheVariants.{Between, Reload, Spill}
use Rattle.cc_ltl.specs.declared.operation.Operation.{Operation}
use Rattle.cc_ltl.specs.declared.operation.Operation.TheVariants.{Nop, Const, Unary, Binary, Load, Store, Call, Read, Write, Branch, Return}
use Rattle.cc_ltl.specs.declared.block.Block.{Block}
use Rattle.cc_ltl.specs.Ltl.{Ltl}

abbrev pub register_text : ℕ → List ℕ
register_text r = codes "x" ++ decimal r

abbrev pub slot_text : ℕ → List ℕ
slot_text i = codes "slot" ++ decimal i

-- the target, then what is moved to it
abbrev pub assigned : (to from : List ℕ) → List ℕ
assigned to from = to ++ codes " = " ++ from

abbrev pub move_text : Move → List ℕ
move_text (Between to from) = assigned (register_text to) (register_text from)
move_text (Reload to slot) = assigned (register_text to) (slot_text slot)
move_text (Spill slot from) = assigned (slot_text slot) (register_text from)

-- an element of an object, with the word `byte` before it if the elements are bytes
abbrev pub element_text : Width → (object index : ℕ) → List ℕ
element_text width object index = width_text width ++ codes "object" ++ decimal object ++ codes "[" ++ register_text index ++ codes "]"

-- an operation without the blocks that come next
abbrev pub operation_text : Operation → List ℕ
operation_text (Nop next) = codes "nop"
operation_text (Const to word next) = assigned (register_text to) (decimal word)
operation_text (Unary operator to from next) = assigned (register_text to) (unary_text operator ++ codes " " ++ register_text from)
operation_text (Binary operator to left right next) = assigned (register_text to) (binary_text operator ++ codes " " ++ register_text left ++ codes ", " ++ register_text right)
operation_text (Load width object to index next) = assigned (register_text to) (element_text width object index)
operation_text (Store width object index from next) = assigned (element_text width object index) (register_text from)
operation_text (Call function next) = codes "call " ++ decimal function
operation_text (Read next) = codes "read"
operation_text (Write next) = codes "write"
operation_text (Branch from if_nonzero if_zero) = codes "branch " ++ register_text from
operation_text Return = codes "return"

-- the labels of the blocks that come next; after a branch, first the one for a word that is not zero, then the one for zero
abbrev pub next_text : Operation → List ℕ
next_text (Nop next) = codes " -> " ++ decimal next
next_text (Const to word next) = codes " -> " ++ decimal next
next_text (Unary operator to from next) = codes " -> " ++ decimal next
next_text (Binary operator to left right next) = codes " -> " ++ decimal next
next_text (Load width object to index next) = codes " -> " ++ decimal next
next_text (Store width object index from next) = codes " -> " ++ decimal next
next_text (Call function next) = codes " -> " ++ decimal next
next_text (Read next) = codes " -> " ++ decimal next
next_text (Write next) = codes " -> " ++ decimal next
next_text (Branch from if_nonzero if_zero) = codes " -> " ++ decimal if_nonzero ++ codes ", " ++ decimal if_zero
next_text Return = []

-- a block: its label, what it does, in order, and where it goes
unfoldable pub block_text : Block → List ℕ
block_text block =
    decimal block.label ++ codes ": " ++ flat_map (λ (m : Move). move_text m ++ codes "; ") block.before ++ operation_text block.operation
    ++ flat_map (λ (m : Move). codes "; " ++ move_text m) block.after ++ next_text block.operation

-- the listing of a function
abbrev pub ltl_text : Ltl → List ℕ
ltl_text ltl =
    codes "slots " ++ decimal ltl.slots ++ codes ", entry " ++ decimal ltl.entry ++ codes "\n" ++ flat_map (λ (block : Block). block_text block ++ codes "\n") ltl.blocks
