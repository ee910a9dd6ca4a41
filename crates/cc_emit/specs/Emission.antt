-- The code of a function: the items of its steps, and their order. A place is the number of items of the piece before it. A first pass, in
-- which each branch is long, shows which branches are near; a second pass has the places of labels with each branch at its final length.
use Rattle.std.specs.Prelude.{ℕ, ◌+◌, ◌-◌, ◌*◌, ◌/◌, ◌%◌, ◌^◌, Bool, false, ◌&&◌, ◌==◌, nat_lt, nat_le, if◌then◌else◌, Option, Some, None, List, [], ◌∷◌, ◌++◌, length}
use Rattle.cc_words.specs.Words.{add, neg}
use Rattle.cc_words.specs.declared.operators.Unary as unary
use Rattle.cc_words.specs.declared.operators.Unary.TheVariants.{Neg, Complement, IsZero}
use Rattle.cc_words.specs.declared.operators.Binary as binary
use Rattle.cc_words.specs.declared.operators.Binary.TheVariants.{Add, Sub, Mul, DivS, DivU, RemS, RemU, Shl, ShrS, ShrU, And, Or, Xor, Eq, Ne, LtS, LtU, LeS, LeU}
use Rattle.cc_ltl.specs.declared.operation.Move.{Move}
use Rattle.cc_ltl.specs.declared.operation.Move.TheVariants.{Between, Reload, Spill}
use Rattle.cc_linear_language.specs.declared.item.LinearItem.{LinearItem}
use Rattle.cc_linear_language.specs.declared.item.LinearItem.TheVariants.{Label, Jump, IfNonzero, IfZero, Copy, Const, Unary, Binary, Load, Store, Call, Read, Write, Return}
use Rattle.cc_rv32.specs.declared.instr.Instr.{Instr}
use Rattle.cc_rv32.specs.declared.instr.Instr.TheVariants as instr
use Rattle.cc_rv32.specs.declared.instr.RegisterOperation.TheVariants as operation
use Rattle.cc_rv32.specs.declared.instr.ImmediateOperation.TheVariants.{Addi, Slti, Sltiu, Xori, Ori, Andi}
use Rattle.cc_rv32.specs.declared.instr.ShiftOperation.TheVariants.{Slli, Srli, Srai}
use Rattle.cc_words.specs.declared.operators.Width.{Width}
use Rattle.cc_words.specs.declared.operators.Width.TheVariants.{Byte, Word}
use Rattle.cc_rv32.specs.declared.instr.BranchOperation.TheVariants.{Beq, Bne}
use Rattle.cc_select.specs.declared.step.WordOperator.{WordOperator}
use Rattle.cc_select.specs.declared.step.WordOperator.TheVariants as immediates
use Rattle.cc_select.specs.declared.step.Step.{Step}
use Rattle.cc_select.specs.declared.step.Step.TheVariants.{One, Immediate, LoadAt, StoreAt, LoadNear, StoreNear, Branch, BranchImmediate}
use Rattle.cc_emit.specs.declared.addressed.Addressed.{Addressed}
use Rattle.cc_emit.specs.declared.addressed.Remembered.{Remembered}
use Rattle.cc_emit.specs.declared.addressed.Remembered.TheVariants.{Nothing, Upper, Element, ByPointer, ElementByPointer}
use Rattle.cc_emit.specs.declared.condition.Condition.{Condition}
use Rattle.cc_emit.specs.declared.item.PieceItem.{PieceItem}
use Rattle.cc_emit.specs.declared.item.PieceItem.TheVariants as item
use Rattle.cc_emit.specs.declared.item.PieceItem.TheVariants.{Plain, Go}
use Rattle.cc_emit.specs.declared.recipe.Recipe.{Recipe}
use Rattle.cc_emit.specs.declared.recipe.Recipe.TheVariants.{Direct, ZeroOf, ZeroOfExchanged, NonzeroOf}
use Rattle.cc_emit.specs.declared.recipe.WordRecipe.{WordRecipe}
use Rattle.cc_emit.specs.declared.recipe.WordRecipe.TheVariants.{WithImmediate, ShiftBy, OnZero, ZeroOfImmediate, NonzeroOfImmediate}
use Rattle.cc_emit.specs.Contract.{global_pointer, load_of, store_of, element_place}
use Rattle.cc_emit.specs.Frames.{Frame, frame_size}
use Rattle.cc_emit.specs.Branches.{compares, opposite, turned, comparison, against_zero, asked_of}

-- ---- instructions

-- to = from + the immediate
abbrev pub addi : (to from immediate : ℕ) → PieceItem
addi to from immediate = Plain (instr.OpImm Addi to from immediate)

-- a load and a store of the element at address + offset
abbrev pub load_element : Width → (to address offset : ℕ) → PieceItem
load_element width to address offset = Plain (instr.Load (load_of width) to address offset)

abbrev pub store_element : Width → (address from offset : ℕ) → PieceItem
store_element width address from offset = Plain (instr.Store (store_of width) address from offset)

-- a word
abbrev pub load_word : (to address offset : ℕ) → PieceItem
load_word to address offset = load_element Word to address offset

abbrev pub store_word : (address from offset : ℕ) → PieceItem
store_word address from offset = store_element Word address from offset

-- the lower twelve bits of a word, which the machine sign-extends, and what the upper twenty then have to be
abbrev pub low : (word : ℕ) → ℕ
low w = if nat_lt (w % 2 ^ 12) (2 ^ 11) then w % 2 ^ 12 else w % 2 ^ 12 + (2 ^ 32 - 2 ^ 12)

abbrev pub high : (word : ℕ) → ℕ
high w = (w + 2 ^ 11) / 2 ^ 12 % 2 ^ 20

-- ---- entry and return

-- x2 moves by a frame's size, given as a word; a function without a frame does not move it
abbrev pub stack_moved : Frame → (by : ℕ) → List PieceItem
stack_moved f by = if frame_size f == 0 then [] else addi 2 2 by ∷ []

abbrev pub saving : (offset : ℕ) → List ℕ → List PieceItem
saving offset [] = []
saving offset (r ∷ rs) = store_word 2 r offset ∷ saving (offset + 4) rs

abbrev pub restoring : (offset : ℕ) → List ℕ → List PieceItem
restoring offset [] = []
restoring offset (r ∷ rs) = load_word r 2 offset ∷ restoring (offset + 4) rs

-- x3 becomes the global pointer, if the function sets it
abbrev pub pointer_items : Frame → List PieceItem
pointer_items f = if f.sets_pointer then Plain (instr.Lui 3 (high global_pointer)) ∷ addi 3 3 (low global_pointer) ∷ [] else []

abbrev pub prologue : Frame → List PieceItem
prologue f = pointer_items f ++ (stack_moved f (2 ^ 32 - frame_size f) ++ saving (4 * f.slots) f.saved)

abbrev pub epilogue : Frame → List PieceItem
epilogue f = restoring (4 * f.slots) f.saved ++ (stack_moved f (frame_size f) ++ Plain (instr.Jalr 0 1 0) ∷ [])

-- ---- the items of an item of Linear; only x5 and x6 are used in between

-- a move
abbrev pub move_item : Move → PieceItem
move_item (Between to from) = addi to from 0
move_item (Reload to slot) = load_word to 2 (4 * slot)
move_item (Spill slot from) = store_word 2 from (4 * slot)

-- a register is set to a word, by only the word's lower part, only its upper part, or both
abbrev pub const_items : (to word : ℕ) → List PieceItem
const_items to w =
    if high w == 0 then addi to 0 (low w) ∷ []
    else if low w == 0 then Plain (instr.Lui to (high w)) ∷ []
    else Plain (instr.Lui to (high w)) ∷ addi to to (low w) ∷ []

-- the instruction of an operator on one word
abbrev pub unary_instr : unary.Unary → (to from : ℕ) → Instr
unary_instr Neg to from = instr.Op operation.Sub to 0 from
unary_instr Complement to from = instr.OpImm Xori to from (2 ^ 32 - 1)
unary_instr IsZero to from = instr.OpImm Sltiu to from 1

-- the instructions for an operator on two words: one instruction; one, with the operands as they are or exchanged, then one that tests
-- whether its result is 0; or one, then one that tests whether it is not 0
abbrev pub recipe : binary.Binary → Recipe
recipe Add = Direct operation.Add
recipe Sub = Direct operation.Sub
recipe Mul = Direct operation.Mul
recipe DivS = Direct operation.Div
recipe DivU = Direct operation.Divu
recipe RemS = Direct operation.Rem
recipe RemU = Direct operation.Remu
recipe Shl = Direct operation.Sll
recipe ShrS = Direct operation.Sra
recipe ShrU = Direct operation.Srl
recipe And = Direct operation.And
recipe Or = Direct operation.Or
recipe Xor = Direct operation.Xor
recipe Eq = ZeroOf operation.Sub
recipe Ne = NonzeroOf operation.Sub
recipe LtS = Direct operation.Slt
recipe LtU = Direct operation.Sltu
recipe LeS = ZeroOfExchanged operation.Slt
recipe LeU = ZeroOfExchanged operation.Sltu

abbrev pub recipe_items : Recipe → (to left right : ℕ) → List PieceItem
recipe_items (Direct o) to a b = Plain (instr.Op o to a b) ∷ []
recipe_items (ZeroOf o) to a b = Plain (instr.Op o 5 a b) ∷ Plain (instr.OpImm Sltiu to 5 1) ∷ []
recipe_items (ZeroOfExchanged o) to a b = Plain (instr.Op o 5 b a) ∷ Plain (instr.OpImm Sltiu to 5 1) ∷ []
recipe_items (NonzeroOf o) to a b = Plain (instr.Op o 5 a b) ∷ Plain (instr.Op operation.Sltu to 0 5) ∷ []

-- x6 becomes the upper part of an address, if it is needed and not there yet
abbrev pub upper_items : Remembered → (address : ℕ) → List PieceItem
upper_items Nothing address = Plain (instr.Lui 6 (high address)) ∷ []
upper_items known address = []

-- the register from which an address is reached: x3, or x6 with the address's upper part; if x5 already holds the element's address, the
-- answer is 6 and is never used
abbrev pub base_register : Remembered → ℕ
base_register ByPointer = 3
base_register known = 6

-- the distance from x3 of an address within the first 4 KiB of the globals
abbrev pub from_pointer : (address : ℕ) → ℕ
from_pointer a = low (add a (2 ^ 32 - global_pointer))

-- the offset of an access from the base register, or from what x5 holds of an element's address: the object's part of the address
abbrev pub part_of : Remembered → (address : ℕ) → ℕ
part_of ByPointer a = from_pointer a
part_of ElementByPointer a = from_pointer a
part_of known a = low a

-- what precedes the access to an element: x5 becomes the element's address minus the object's part of it; the register `distance` has the
-- element's distance in bytes from the first element
abbrev pub based : Remembered → (base distance : ℕ) → List PieceItem → List PieceItem
based known base distance items = upper_items known base ++ Plain (instr.Op operation.Add 5 distance (base_register known)) ∷ items

-- what precedes the access to an element whose number is in a register, unless x5 already has the element's address
abbrev pub indexed : Remembered → Width → (base index : ℕ) → List PieceItem → List PieceItem
indexed Element width base index items = items
indexed ElementByPointer width base index items = items
indexed known Byte base index items = based known base index items
indexed known Word base index items = Plain (instr.Shift Slli 5 index 2) ∷ based known base 5 items

-- a call of a service of the machine
abbrev pub service : (number : ℕ) → List PieceItem
service number = addi 17 0 number ∷ Plain instr.Ecall ∷ []

-- the distance from one place to another, in bytes, as a word
abbrev pub distance : (from to : ℕ) → ℕ
distance from to = if nat_le from to then 4 * (to - from) else 2 ^ 32 - 4 * (from - to)

-- a branch: one instruction if it is near, else the opposite branch over a jump
abbrev pub branch_items : (near : Bool) → Condition → (place to : ℕ) → List PieceItem
branch_items near c place to =
    if near then Plain (instr.Branch c.operation c.left c.right (distance place to)) ∷ []
    else Plain (instr.Branch (opposite c.operation) c.left c.right 8) ∷ Go to ∷ []

-- the items of one item of Linear at a place; `known` is how much the registers hold of the address that it accesses, `base` has the
-- objects' addresses, `labels` the labels' places, and `near` says whether a branch from here to a label is near
abbrev pub items_of_one : (base : ℕ → ℕ) → Frame → (near : ℕ → Bool) → (labels : ℕ → ℕ) → (place : ℕ) → Remembered → LinearItem → List PieceItem
items_of_one base f near labels place known (Label label) = []
items_of_one base f near labels place known (Jump to) = Go (labels to) ∷ []
items_of_one base f near labels place known (IfNonzero from to) = branch_items (near to) (compares Bne from 0) place (labels to)
items_of_one base f near labels place known (IfZero from to) = branch_items (near to) (compares Beq from 0) place (labels to)
items_of_one base f near labels place known (Copy m) = move_item m ∷ []
items_of_one base f near labels place known (Const to word) = const_items to word
items_of_one base f near labels place known (Unary operator to from) = Plain (unary_instr operator to from) ∷ []
items_of_one base f near labels place known (Binary operator to left right) = recipe_items (recipe operator) to left right
items_of_one base f near labels place known (Load width object to index) = indexed known width (base object) index (load_element width to 5 (part_of known (base object)) ∷ [])
items_of_one base f near labels place known (Store width object index from) = indexed known width (base object) index (store_element width 5 from (part_of known (base object)) ∷ [])
items_of_one base f near labels place known (Call function) = item.Call function ∷ []
items_of_one base f near labels place known Read = service 2
items_of_one base f near labels place known Write = service 1
items_of_one base f near labels place known Return = epilogue f

-- ---- the items of the other steps

-- the instructions for an operator on a register and a word: one instruction with an immediate, a shift, or one instruction on 0 and the
-- register; or an instruction with an immediate, then one that tests whether its result is 0, or whether it is not
abbrev pub word_recipe : WordOperator → (word : ℕ) → WordRecipe
word_recipe immediates.Add w = WithImmediate Addi (low w)
word_recipe immediates.Sub w = WithImmediate Addi (low (neg w))
word_recipe immediates.Shl w = ShiftBy Slli (w % 32)
word_recipe immediates.ShrS w = ShiftBy Srai (w % 32)
word_recipe immediates.ShrU w = ShiftBy Srli (w % 32)
word_recipe immediates.And w = WithImmediate Andi (low w)
word_recipe immediates.Or w = WithImmediate Ori (low w)
word_recipe immediates.Xor w = WithImmediate Xori (low w)
-- "equal to 0" is "less than 1", as unsigned; "equal to another word" means that the difference is 0
word_recipe immediates.Eq w = if w == 0 then WithImmediate Sltiu 1 else ZeroOfImmediate Addi (low (neg w))
-- "not equal to 0" is "0 is less", as unsigned; "not equal to another word" means that the difference is not 0
word_recipe immediates.Ne w = if w == 0 then OnZero operation.Sltu else NonzeroOfImmediate Addi (low (neg w))
word_recipe immediates.LtS w = WithImmediate Slti (low w)
word_recipe immediates.LtU w = WithImmediate Sltiu (low w)
-- "at most the word" is "less than the next word"
word_recipe immediates.LeS w = WithImmediate Slti (low (add w 1))
word_recipe immediates.LeU w = WithImmediate Sltiu (low (add w 1))
-- the word is 0 here, so "more than the word" is "0 is less"
word_recipe immediates.GtS w = OnZero operation.Slt
word_recipe immediates.GtU w = OnZero operation.Sltu
-- "at least the word" is "not less than the word"
word_recipe immediates.GeS w = ZeroOfImmediate Slti (low w)
word_recipe immediates.GeU w = ZeroOfImmediate Sltiu (low w)

-- the first instruction of a recipe, with its result in register `to`
abbrev pub first_instr : WordRecipe → (to from : ℕ) → Instr
first_instr (WithImmediate o n) to a = instr.OpImm o to a n
first_instr (ShiftBy o n) to a = instr.Shift o to a n
first_instr (OnZero o) to a = instr.Op o to 0 a
first_instr (ZeroOfImmediate o n) to a = instr.OpImm o to a n
first_instr (NonzeroOfImmediate o n) to a = instr.OpImm o to a n

abbrev pub word_recipe_items : WordRecipe → (to from : ℕ) → List PieceItem
word_recipe_items (ZeroOfImmediate o n) to a = Plain (first_instr (ZeroOfImmediate o n) 5 a) ∷ Plain (instr.OpImm Sltiu to 5 1) ∷ []
word_recipe_items (NonzeroOfImmediate o n) to a = Plain (first_instr (NonzeroOfImmediate o n) 5 a) ∷ Plain (instr.Op operation.Sltu to 0 5) ∷ []
word_recipe_items recipe to a = Plain (first_instr recipe to a) ∷ []

-- a branch on a register and a word, by the recipe of the comparison: a comparison of the register with x0 if that has the same result,
-- else one of x5 with x0 after the recipe's first instruction
abbrev pub word_branch_items : (alone : Option Condition) → WordRecipe → (near nonzero : Bool) → (from place to : ℕ) → List PieceItem
word_branch_items (Some c) recipe near nonzero a place to = branch_items near (turned nonzero c) place to
word_branch_items None recipe near nonzero a place to = Plain (first_instr recipe 5 a) ∷ branch_items near (turned nonzero (compares (asked_of recipe) 5 0)) (place + 1) to

-- the address of an element whose number is known
abbrev pub known_place : Width → (base number : ℕ) → ℕ
known_place width base number = element_place width base number % 2 ^ 32

abbrev pub load_at : Remembered → Width → (to address : ℕ) → List PieceItem
load_at known width to address = upper_items known address ++ load_element width to (base_register known) (part_of known address) ∷ []

abbrev pub store_at : Remembered → Width → (from address : ℕ) → List PieceItem
store_at known width from address = upper_items known address ++ store_element width (base_register known) from (part_of known address) ∷ []

-- the items of a step at a place; `known` is how much the registers hold of the address that it accesses; a nearby element is treated as
-- an element of an object that begins `word` elements further on
abbrev pub items_of_step : (base : ℕ → ℕ) → Frame → (near : ℕ → Bool) → (labels : ℕ → ℕ) → (place : ℕ) → Remembered → Step → List PieceItem
items_of_step base f near labels place known (One item) = items_of_one base f near labels place known item
items_of_step base f near labels place known (Immediate operator to from word) = word_recipe_items (word_recipe operator word) to from
items_of_step base f near labels place known (LoadAt width object to number) = load_at known width to (known_place width (base object) number)
items_of_step base f near labels place known (StoreAt width object number from) = store_at known width from (known_place width (base object) number)
items_of_step base f near labels place known (LoadNear width object to index word) =
    indexed known width (known_place width (base object) word) index (load_element width to 5 (part_of known (known_place width (base object) word)) ∷ [])
items_of_step base f near labels place known (StoreNear width object index word from) =
    indexed known width (known_place width (base object) word) index (store_element width 5 from (part_of known (known_place width (base object) word)) ∷ [])
items_of_step base f near labels place known (Branch operator nonzero left right to) = branch_items (near to) (turned nonzero (comparison operator left right)) place (labels to)
items_of_step base f near labels place known (BranchImmediate operator nonzero from word to) =
    word_branch_items (against_zero (word_recipe operator word) from) (word_recipe operator word) (near to) nonzero from place (labels to)

abbrev pub items_of : (base : ℕ → ℕ) → Frame → (near : ℕ → Bool) → (labels : ℕ → ℕ) → (place : ℕ) → Addressed → List PieceItem
items_of base f near labels place s = items_of_step base f near labels place s.known s.step

-- ---- the number of items

abbrev pub stack_moved_size : Frame → ℕ
stack_moved_size f = if frame_size f == 0 then 0 else 1

-- the number of items that set x3
abbrev pub pointer_size : (sets_pointer : Bool) → ℕ
pointer_size sets_pointer = if sets_pointer then 2 else 0

-- the number of items of the prologue
abbrev pub prologue_size : Frame → ℕ
prologue_size f = pointer_size f.sets_pointer + (stack_moved_size f + length f.saved)

abbrev pub const_size : (word : ℕ) → ℕ
const_size w = if high w == 0 then 1 else if low w == 0 then 1 else 2

abbrev pub recipe_size : Recipe → ℕ
recipe_size (Direct o) = 1
recipe_size (ZeroOf o) = 2
recipe_size (ZeroOfExchanged o) = 2
recipe_size (NonzeroOf o) = 2

abbrev pub branch_size : (near : Bool) → ℕ
branch_size near = if near then 1 else 2

-- the number of items of an access to an element whose number is in a register
abbrev pub access_size : Remembered → Width → ℕ
access_size Nothing Byte = 3
access_size Nothing Word = 4
access_size Upper Byte = 2
access_size Upper Word = 3
access_size Element width = 1
access_size ByPointer Byte = 2
access_size ByPointer Word = 3
access_size ElementByPointer width = 1

-- the number of items of an access to an element whose number is known
abbrev pub known_access_size : Remembered → ℕ
known_access_size Nothing = 2
known_access_size known = 1

abbrev pub size_of_one : Frame → (near : ℕ → Bool) → Remembered → LinearItem → ℕ
size_of_one f near known (Label label) = 0
size_of_one f near known (Jump to) = 1
size_of_one f near known (IfNonzero from to) = branch_size (near to)
size_of_one f near known (IfZero from to) = branch_size (near to)
size_of_one f near known (Copy m) = 1
size_of_one f near known (Const to word) = const_size word
size_of_one f near known (Unary operator to from) = 1
size_of_one f near known (Binary operator to left right) = recipe_size (recipe operator)
size_of_one f near known (Load width object to index) = access_size known width
size_of_one f near known (Store width object index from) = access_size known width
size_of_one f near known (Call function) = 1
size_of_one f near known Read = 2
size_of_one f near known Write = 2
size_of_one f near known Return = length f.saved + stack_moved_size f + 1

abbrev pub word_recipe_size : WordRecipe → ℕ
word_recipe_size (WithImmediate o n) = 1
word_recipe_size (ShiftBy o n) = 1
word_recipe_size (OnZero o) = 1
word_recipe_size (ZeroOfImmediate o n) = 2
word_recipe_size (NonzeroOfImmediate o n) = 2

abbrev pub word_branch_size : (alone : Option Condition) → (near : Bool) → ℕ
word_branch_size (Some c) near = branch_size near
word_branch_size None near = 1 + branch_size near

abbrev pub size_of_step : Frame → (near : ℕ → Bool) → Remembered → Step → ℕ
size_of_step f near known (One item) = size_of_one f near known item
size_of_step f near known (Immediate operator to from word) = word_recipe_size (word_recipe operator word)
size_of_step f near known (LoadAt width object to number) = known_access_size known
size_of_step f near known (StoreAt width object number from) = known_access_size known
size_of_step f near known (LoadNear width object to index word) = access_size known width
size_of_step f near known (StoreNear width object index word from) = access_size known width
size_of_step f near known (Branch operator nonzero left right to) = branch_size (near to)
size_of_step f near known (BranchImmediate operator nonzero from word to) = word_branch_size (against_zero (word_recipe operator word) from) (near to)

abbrev pub size : Frame → (near : ℕ → Bool) → Addressed → ℕ
size f near s = size_of_step f near s.known s.step

-- the number of items of a step with each branch in its long form
abbrev pub long_size : Frame → Addressed → ℕ
long_size f s = size f (λ label. false) s

-- ---- the places of labels

abbrev pub is_label_step : (label : ℕ) → Step → Bool
is_label_step label (One (Label other)) = other == label
is_label_step label step = false

-- the label, if the step is a label
abbrev pub label_of_step : Step → Option ℕ
label_of_step (One (Label label)) = Some label
label_of_step step = None

abbrev pub is_label : (label : ℕ) → Addressed → Bool
is_label label s = is_label_step label s.step

-- a label's place in the first pass, for steps that begin at `place`; the end of the steps, if the label does not occur
abbrev pub long_place : Frame → (place : ℕ) → List Addressed → (label : ℕ) → ℕ
long_place f place [] label = place
long_place f place (s ∷ steps) label = if is_label label s then place else long_place f (place + long_size f s) steps label

-- whether a branch at `from`, or at the place after it, reaches `to`: it reaches from -4096 to 4092 bytes, and may come after another
-- instruction of its step
abbrev pub is_close : (from to : ℕ) → Bool
is_close from to = nat_lt from (to + 1024) && nat_lt to (from + 1024)

-- whether a step's branch is near, by the step's place in the first pass, in which the function's items begin at place 0
abbrev pub is_near : Frame → List Addressed → (long label : ℕ) → Bool
is_near f steps long label = is_close long (long_place f 0 steps label)

-- a label's place in the second pass, for steps that begin at `place`; `long` is their place in the first pass
abbrev pub short_place : Frame → (near : (long label : ℕ) → Bool) → (long place : ℕ) → List Addressed → (label : ℕ) → ℕ
short_place f near long place [] label = place
short_place f near long place (s ∷ steps) label =
    if is_label label s then place else short_place f near (long + long_size f s) (place + size f (near long) s) steps label

-- ---- the code

-- the items of steps that begin at these places
abbrev pub emitted : (base : ℕ → ℕ) → Frame → (near : (long label : ℕ) → Bool) → (labels : ℕ → ℕ) → (long place : ℕ) → List Addressed → List PieceItem
emitted base f near labels long place [] = []
emitted base f near labels long place (s ∷ steps) =
    items_of base f (near long) labels place s ++ emitted base f near labels (long + long_size f s) (place + size f (near long) s) steps

-- the items of a function's code: those of its steps, after the prologue
abbrev pub framed_items : (base : ℕ → ℕ) → Frame → List Addressed → List PieceItem
framed_items base f steps =
    prologue f ++ emitted base f (is_near f steps) (short_place f (is_near f steps) 0 (prologue_size f) steps) 0 (prologue_size f) steps
