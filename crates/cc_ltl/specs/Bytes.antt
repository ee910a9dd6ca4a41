-- A function of LTL as bytes. Numbers are little-endian.
use Rattle.std.specs.Prelude.{◌≡◌, ℕ, List, [], ◌∷◌, ◌++◌, length, Result, Ok, Err}
use Rattle.std.specs.List.{flat_map}
use Rattle.std.specs.Int.{w16, w32, to_le_bytes}
use Rattle.cc_words.specs.declared.operators.Unary.{Unary as UnaryOperator}
use Rattle.cc_words.specs.declared.operators.Unary.TheVariants.{Neg, Complement, IsZero}
use Rattle.cc_words.specs.declared.operators.Binary.{Binary as BinaryOperator}
use Rattle.cc_words.specs.declared.operators.Binary.TheVariants.{Add, Sub, Mul, DivS, DivU, RemS, RemU, Shl, ShrS, ShrU, And, Or, Xor, Eq, Ne, LtS, LtU, LeS, LeU}
use Rattle.cc_words.specs.Widths.{bytes as element_bytes}
use Rattle.cc_ltl.specs.declared.operation.Move.{Move}
use Rattle.cc_ltl.specs.declared.operation.Move.TheVariants.{Between, Reload, Spill}
use Rattle.cc_ltl.specs.declared.operation.Operation.{Operation}
use Rattle.cc_ltl.specs.declared.operation.Operation.TheVariants.{Nop, Const, Unary, Binary, Load, Store, Call, Read, Write, Branch, Return}
use Rattle.cc_ltl.specs.declared.block.Block.{Block}
use Rattle.cc_ltl.specs.declared.fault.LtlFault.{LtlFault}
use Rattle.cc_ltl.specs.declared.fault.LtlFault.TheVariants.{Damaged, OutOfMemory}
use Rattle.cc_ltl.specs.Ltl.{Ltl, IsLtl}

-- a number as two bytes, and as four
abbrev pub half_bytes : ℕ → List ℕ
half_bytes n = to_le_bytes w16 n

abbrev pub word_bytes : ℕ → List ℕ
word_bytes n = to_le_bytes w32 n

-- the bytes of the operators
-- ORDER Unary
abbrev pub unary_number : UnaryOperator → ℕ
unary_number Neg = 0
unary_number Complement = 1
unary_number IsZero = 2

-- ORDER Binary
abbrev pub binary_number : BinaryOperator → ℕ
binary_number Add = 0
binary_number Sub = 1
binary_number Mul = 2
binary_number DivS = 3
binary_number DivU = 4
binary_number RemS = 5
binary_number RemU = 6
binary_number Shl = 7
binary_number ShrS = 8
binary_number ShrU = 9
binary_number And = 10
binary_number Or = 11
binary_number Xor = 12
binary_number Eq = 13
binary_number Ne = 14
binary_number LtS = 15
binary_number LtU = 16
binary_number LeS = 17
binary_number LeU = 18

-- a move: its number, and its fields
abbrev pub move_bytes : Move → List ℕ
move_bytes (Between to from) = 0 ∷ to ∷ from ∷ []
move_bytes (Reload to slot) = 1 ∷ to ∷ half_bytes slot
move_bytes (Spill slot from) = 2 ∷ (half_bytes slot ++ from ∷ [])

-- an operation: its number, and its fields; in a load and a store the number of bytes of an element comes first
-- ORDER Operation
abbrev pub operation_bytes : Operation → List ℕ
operation_bytes (Nop next) = 0 ∷ word_bytes next
operation_bytes (Const to w next) = 1 ∷ to ∷ (word_bytes w ++ word_bytes next)
operation_bytes (Unary operator to from next) = 2 ∷ unary_number operator ∷ to ∷ from ∷ word_bytes next
operation_bytes (Binary operator to left right next) = 3 ∷ binary_number operator ∷ to ∷ left ∷ right ∷ word_bytes next
operation_bytes (Load width object to index next) = 4 ∷ element_bytes width ∷ (word_bytes object ++ to ∷ index ∷ word_bytes next)
operation_bytes (Store width object index from next) = 5 ∷ element_bytes width ∷ (word_bytes object ++ index ∷ from ∷ word_bytes next)
operation_bytes (Call function next) = 6 ∷ (word_bytes function ++ word_bytes next)
operation_bytes (Read next) = 7 ∷ word_bytes next
operation_bytes (Write next) = 8 ∷ word_bytes next
operation_bytes (Branch from if_nonzero if_zero) = 9 ∷ from ∷ (word_bytes if_nonzero ++ word_bytes if_zero)
operation_bytes Return = 10 ∷ []

-- the number of moves, and the moves
abbrev pub moves_bytes : List Move → List ℕ
moves_bytes moves = half_bytes (length moves) ++ flat_map move_bytes moves

-- a block: its label, the moves before, the operation, the moves after
abbrev pub block_bytes : Block → List ℕ
block_bytes block = word_bytes block.label ++ (moves_bytes block.before ++ (operation_bytes block.operation ++ moves_bytes block.after))

-- a function: the number of slots, the label of its entry, the number of blocks, the blocks, and nothing after them
abbrev pub ltl_bytes : Ltl → List ℕ
ltl_bytes ltl = word_bytes ltl.slots ++ (word_bytes ltl.entry ++ (word_bytes (length ltl.blocks) ++ flat_map block_bytes ltl.blocks))

-- these bytes spell this function
pub record Spells (bytes : List ℕ) (ltl : Ltl) : Type 0 where
  pub spelled : bytes ≡ ltl_bytes ltl
  pub is_ltl : IsLtl ltl

-- what reading answers: the function that the bytes spell, or Damaged, but only if they spell none
abbrev pub ReadAnswers : (bytes : List ℕ) → Result Ltl LtlFault → Type 0
ReadAnswers bytes (Ok ltl) = Spells bytes ltl
ReadAnswers bytes (Err Damaged) = (ltl : Ltl) → Spells bytes ltl → ⊥
ReadAnswers bytes (Err OutOfMemory) = Unit {0}
