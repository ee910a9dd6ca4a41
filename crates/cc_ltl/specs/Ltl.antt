-- LTL: the code of a function over machine registers and slots, one block for each node of RTL, and what one block does.
use Rattle.std.specs.Prelude.{◌≡◌, ℕ, zero, suc, ◌-◌, ◌<◌, ◌≤◌, ◌^◌, Bool, true, false, if◌then◌else◌, ◌==◌, nat_le, List, [], ◌∷◌, length, get_or, Option, Some, None}
use Rattle.std.specs.List.{AllByRecursion}
use Rattle.cc_words.specs.Operators.{apply_unary, apply_binary}
use Rattle.cc_simulation.specs.World.{World, Answer, element, stored, next_word, after_read, after_write}
use Rattle.cc_simulation.specs.Unknown.{unknown_register, unknown_slot, register_after_call, unknown_word, left_after_entry, left_after_call, left_after_word}
use Rattle.cc_simulation.specs.Run.{Move as Moving, Goes, Calls, Returns, tried}
use Rattle.cc_ltl.specs.Registers.{IsAllocatable, most_slots}
use Rattle.cc_ltl.specs.declared.location.Location.{Location}
use Rattle.cc_ltl.specs.declared.location.Location.TheVariants.{Register, Slot}
use Rattle.cc_ltl.specs.declared.operation.Move.{Move}
use Rattle.cc_ltl.specs.declared.operation.Move.TheVariants.{Between, Reload, Spill}
use Rattle.cc_ltl.specs.declared.operation.Operation.{Operation}
use Rattle.cc_ltl.specs.declared.operation.Operation.TheVariants.{Nop, Const, Unary, Binary, Load, Store, Call, Read, Write, Branch, Return}
use Rattle.cc_ltl.specs.declared.block.Block.{Block}

-- a function: its number of slots, the label of the block at which it begins, and its blocks
pub record Ltl : Type 0 where
  pub slots : ℕ
  pub entry : ℕ
  pub blocks : List Block

-- ---- which functions there are

-- labels, words, objects and functions have 32 bits
abbrev pub IsWord : ℕ → Type 0
IsWord n = n < 2 ^ 32

-- this is a move of a function with this many slots
abbrev pub IsMove : (slots : ℕ) → Move → Type 0
IsMove slots (Between to from) = IsAllocatable to × IsAllocatable from
IsMove slots (Reload to slot) = IsAllocatable to × (slot < slots)
IsMove slots (Spill slot from) = (slot < slots) × IsAllocatable from

abbrev pub AreMoves : (slots : ℕ) → List Move → Type 0
AreMoves slots moves = (length moves < 2 ^ 16) × AllByRecursion (IsMove slots) moves

abbrev pub IsOperation : Operation → Type 0
IsOperation (Nop next) = IsWord next
IsOperation (Const to word next) = IsAllocatable to × IsWord word × IsWord next
IsOperation (Unary operator to from next) = IsAllocatable to × IsAllocatable from × IsWord next
IsOperation (Binary operator to left right next) = IsAllocatable to × IsAllocatable left × IsAllocatable right × IsWord next
IsOperation (Load width object to index next) = IsWord object × IsAllocatable to × IsAllocatable index × IsWord next
IsOperation (Store width object index from next) = IsWord object × IsAllocatable index × IsAllocatable from × IsWord next
IsOperation (Call function next) = IsWord function × IsWord next
IsOperation (Read next) = IsWord next
IsOperation (Write next) = IsWord next
IsOperation (Branch from if_nonzero if_zero) = IsAllocatable from × IsWord if_nonzero × IsWord if_zero
IsOperation Return = Unit {0}

-- the operation has exactly one next block: it is neither a branch nor a return
abbrev pub goes_on : Operation → Bool
goes_on (Branch from if_nonzero if_zero) = false
goes_on Return = false
goes_on operation = true

-- a block of a function with this many slots; no move comes after a branch or a return
pub record IsBlock (slots : ℕ) (block : Block) : Type 0 where
  pub label : IsWord block.label
  pub before : AreMoves slots block.before
  pub operation : IsOperation block.operation
  pub after : AreMoves slots block.after
  pub nothing_behind : goes_on block.operation ≡ false → block.after ≡ []

-- the labels of the blocks ascend
abbrev pub IsBelowFirst : (label : ℕ) → List Block → Type 0
IsBelowFirst label [] = Unit {0}
IsBelowFirst label (block ∷ blocks) = label < block.label

abbrev pub Ascend : List Block → Type 0
Ascend [] = Unit {0}
Ascend (block ∷ blocks) = IsBelowFirst block.label blocks × Ascend blocks

-- the functions of LTL: those that are values of the Rust type, and that bytes can spell
pub record IsLtl (ltl : Ltl) : Type 0 where
  pub slots : ltl.slots ≤ most_slots
  pub entry : IsWord ltl.entry
  pub count : length ltl.blocks < 2 ^ 32
  pub ascend : Ascend ltl.blocks
  pub blocks : AllByRecursion (IsBlock ltl.slots) ltl.blocks

-- ---- what one block does

-- the word that each location holds
abbrev pub Locations : Type 0
Locations = Location → ℕ

-- the state of a run: the next block's label, the words of the locations, the shared world, and the words that unknown locations get
pub record Configuration : Type 0 where
  pub label : ℕ
  pub locations : Locations
  pub world : World
  pub words : List ℕ

abbrev pub same_location : Location → Location → Bool
same_location (Register a) (Register b) = a == b
same_location (Slot a) (Slot b) = a == b
same_location (Register a) (Slot b) = false
same_location (Slot a) (Register b) = false

-- the locations after a word is put into one of them
abbrev pub put : Location → (word : ℕ) → Locations → Locations
put to word at l = if same_location to l then word else at l

abbrev pub target : Move → Location
target (Between to from) = Register to
target (Reload to slot) = Register to
target (Spill slot from) = Slot slot

abbrev pub source : Move → Location
source (Between to from) = Register from
source (Reload to slot) = Slot slot
source (Spill slot from) = Register from

-- the locations after moves, made one after the other
abbrev pub moved : List Move → Locations → Locations
moved [] at = at
moved (m ∷ ms) at = moved ms (put (target m) (at (source m)) at)

-- arguments are in x10 and the registers after it, and a result is in x10; a read and a write destroy x17
abbrev pub first_argument : ℕ
first_argument = 10

abbrev pub result_location : Location
result_location = Register 10

abbrev pub destroyed_location : Location
destroyed_location = Register 17

-- the words of n registers, from this one on
abbrev pub words_from : (register n : ℕ) → Locations → List ℕ
words_from register zero at = []
words_from register (suc n) at = at (Register register) ∷ words_from (suc register) n at

-- each location after a call, before the result is put in its place
abbrev pub after_call : (words : List ℕ) → Locations → Locations
after_call words at (Register r) = register_after_call words r (at (Register r))
after_call words at (Slot i) = at (Slot i)

-- the run goes on to a block, through the moves after the operation
abbrev pub to_block : (label : ℕ) → (after : List Move) → Locations → World → (words : List ℕ) → Configuration
to_block label after at world words = record { label = label; locations = moved after at; world = world; words = words }

-- the run after a call's answer: what the call destroys is unknown, and the call's value is in the place of the result
abbrev pub block_after_answer : (next : ℕ) → (after : List Move) → Locations → (words : List ℕ) → Answer → Configuration
block_after_answer next after at words a = to_block next after (put result_location a.value (after_call words at)) a.world (left_after_call words)

-- what an operation and the moves after it do; `arity` says how many parameters each function has
abbrev pub operate : (arity : ℕ → ℕ) → Operation → (after : List Move) → Locations → World → (words : List ℕ) → Moving Configuration
operate arity (Nop next) after at world words = Goes (to_block next after at world words)
operate arity (Const to word next) after at world words = Goes (to_block next after (put (Register to) word at) world words)
operate arity (Unary operator to from next) after at world words =
    Goes (to_block next after (put (Register to) (apply_unary operator (at (Register from))) at) world words)
operate arity (Binary operator to left right next) after at world words =
    tried (apply_binary operator (at (Register left)) (at (Register right))) (λ word. Goes (to_block next after (put (Register to) word at) world words))
operate arity (Load width object to index next) after at world words =
    tried (element world width object (at (Register index))) (λ word. Goes (to_block next after (put (Register to) word at) world words))
operate arity (Store width object index from next) after at world words =
    tried (stored world width object (at (Register index)) (at (Register from))) (λ changed. Goes (to_block next after at changed words))
operate arity (Call function next) after at world words =
    Calls (record { function = function; arguments = words_from first_argument (arity function) at; world = world }) (block_after_answer next after at words)
operate arity (Read next) after at world words =
    Goes (to_block next after (put result_location (next_word world) (put destroyed_location (unknown_word words) at)) (after_read world) (left_after_word words))
operate arity (Write next) after at world words =
    Goes (to_block next after (put destroyed_location (unknown_word words) at) (after_write (at result_location) world) (left_after_word words))
operate arity (Branch from if_nonzero if_zero) after at world words = Goes (to_block (if at (Register from) == 0 then if_zero else if_nonzero) after at world words)
operate arity Return after at world words = Returns (record { value = at result_location; world = world })

-- the block with this label
abbrev pub block_at : List Block → (label : ℕ) → Option Block
block_at [] label = None
block_at (block ∷ blocks) label = if block.label == label then Some block else block_at blocks label

-- one block is one move of the run: the moves before, the operation, and the moves after
abbrev pub ltl_move : (arity : ℕ → ℕ) → Ltl → Configuration → Moving Configuration
ltl_move arity ltl c =
    tried (block_at ltl.blocks c.label) (λ (block : Block). operate arity block.operation block.after (moved block.before c.locations) c.world c.words)

-- what has been written so far
abbrev pub ltl_output : Configuration → List ℕ
ltl_output c = c.world.output

-- at entry x(10+i) holds argument i, if there is one; everything else is unknown
abbrev pub at_entry : (slots : ℕ) → (words arguments : List ℕ) → Locations
at_entry slots words arguments (Register r) = if nat_le first_argument r then get_or arguments (r - first_argument) (unknown_register words r) else unknown_register words r
at_entry slots words arguments (Slot i) = unknown_slot slots words i

-- where the run of a function begins
abbrev pub ltl_start : Ltl → (words arguments : List ℕ) → World → Configuration
ltl_start ltl words arguments world =
    record { label = ltl.entry; locations = at_entry ltl.slots words arguments; world = world; words = left_after_entry ltl.slots words }
