-- Reading a function from left to right: each field yields a value and the bytes after it, or nothing.
use Rattle.std.specs.Prelude.{◌≡◌, ℕ, zero, suc, ◌&&◌, List, [], ◌∷◌, length, take, drop, Option, Some, None, Result, Ok, Err, slice_get, nat_lt, nat_le, ◌==◌, if◌then◌else◌}
use Rattle.std.specs.Option.{option_map}
use Rattle.std.specs.Int.{w16, w32, from_le_bytes}
use Rattle.cc_words.specs.declared.operators.Unary.{Unary as UnaryOperator}
use Rattle.cc_words.specs.declared.operators.Unary.TheVariants.{Neg, Complement, IsZero}
use Rattle.cc_words.specs.declared.operators.Binary.{Binary as BinaryOperator}
use Rattle.cc_words.specs.declared.operators.Binary.TheVariants.{Add, Sub, Mul, DivS, DivU, RemS, RemU, Shl, ShrS, ShrU, And, Or, Xor, Eq, Ne, LtS, LtU, LeS, LeU}
use Rattle.cc_words.specs.declared.operators.Width.{Width}
use Rattle.cc_words.specs.declared.operators.Width.TheVariants.{Byte, Word}
use Rattle.cc_ltl.specs.declared.operation.Move.{Move}
use Rattle.cc_ltl.specs.declared.operation.Move.TheVariants.{Between, Reload, Spill}
use Rattle.cc_ltl.specs.declared.operation.Operation.{Operation}
use Rattle.cc_ltl.specs.declared.operation.Operation.TheVariants.{Nop, Const, Unary, Binary, Load, Store, Call, Read, Write, Branch, Return}
use Rattle.cc_ltl.specs.declared.block.Block.{Block}
use Rattle.cc_ltl.specs.declared.fault.LtlFault.{LtlFault}
use Rattle.cc_ltl.specs.declared.fault.LtlFault.TheVariants.{Damaged, OutOfMemory}
use Rattle.cc_ltl.specs.Registers.{most_slots}
use Rattle.cc_ltl.specs.Ltl.{Ltl}

infixl 10 ◌>>=◌
abbrev pub ◌>>=◌ : {A B : Type 0} → Option A → (A → Option B) → Option B
(Some x) >>= f = f x
None >>= f = None

-- what a function returned, seen through `view`, is what the definition reads; if memory ran out, nothing is claimed
abbrev pub Gives : {X Y : Type 0} → (X → Y) → Result X LtlFault → Option Y → Type 0
Gives view (Ok x) read = read ≡ Some (view x)
Gives view (Err Damaged) read = read ≡ None
Gives view (Err OutOfMemory) read = Unit {0}

-- what a step of a cursor returned, together with the bytes that it left, is what the definition reads
abbrev pub Reads : {A : Type 0} → Option (A × List ℕ) → Option A → List ℕ → Type 0
Reads read result after = option_map (λ x. (x, after)) result ≡ read

-- a reader of a value yields the value and the bytes after it, or nothing
abbrev pub Reader : Type 0 → Type 0
Reader A = List ℕ → Option (A × List ℕ)

-- two values, read one after the other
abbrev pub both : {A B : Type 0} → Reader A → Reader B → Reader (A × B)
both f g bytes = f bytes >>= λ a. g a.1 >>= λ b. Some ((a.0, b.0), b.1)

-- a value made from what is read
abbrev pub mapped : {A B : Type 0} → (A → B) → Reader A → Reader B
mapped make f bytes = f bytes >>= λ a. Some (make a.0, a.1)

-- n values, read one after the other
unfoldable pub times : {A : Type 0} → Reader A → ℕ → Reader (List A)
times f zero bytes = Some ([], bytes)
times f (suc n) bytes = f bytes >>= λ first. times f n first.1 >>= λ others. Some (first.0 ∷ others.0, others.1)

-- the readers of nothing, of one byte, of a number of two bytes, and of a number of four bytes
abbrev pub nothing_in : Reader (Unit {0})
nothing_in bytes = Some (tt, bytes)

abbrev pub byte_in : Reader ℕ
byte_in [] = None
byte_in (byte ∷ rest) = Some (byte, rest)

abbrev pub half_in : Reader ℕ
half_in bytes = if nat_lt (length bytes) 2 then None else Some (from_le_bytes w16 (take 2 bytes), drop 2 bytes)

abbrev pub word_in : Reader ℕ
word_in bytes = if nat_lt (length bytes) 4 then None else Some (from_le_bytes w32 (take 4 bytes), drop 4 bytes)

-- the readers of a register and of a slot
unfoldable pub register_in : Reader ℕ
register_in bytes = byte_in bytes >>= λ b. if nat_le 7 b.0 && nat_lt b.0 32 then Some b else None

unfoldable pub slot_in : Reader ℕ
slot_in bytes = half_in bytes >>= λ n. if nat_lt n.0 most_slots then Some n else None

-- the operators, in the order of their numbers
-- ORDER Unary
abbrev pub unary_operators : List UnaryOperator
unary_operators = Neg ∷ Complement ∷ IsZero ∷ []

-- ORDER Binary
abbrev pub binary_operators : List BinaryOperator
binary_operators = Add ∷ Sub ∷ Mul ∷ DivS ∷ DivU ∷ RemS ∷ RemU ∷ Shl ∷ ShrS ∷ ShrU ∷ And ∷ Or ∷ Xor ∷ Eq ∷ Ne ∷ LtS ∷ LtU ∷ LeS ∷ LeU ∷ []

-- reads the position of an element in a list, as one byte, and returns the element
abbrev pub one_of : {A : Type 0} → List A → Reader A
one_of xs bytes = byte_in bytes >>= λ b. slice_get xs b.0 >>= λ x. Some (x, b.1)

unfoldable pub unary_in : Reader UnaryOperator
unary_in bytes = one_of unary_operators bytes

unfoldable pub binary_in : Reader BinaryOperator
binary_in bytes = one_of binary_operators bytes

-- the width of elements that have this many bytes
abbrev pub width_of : ℕ → Option Width
width_of n = if n == 1 then Some Byte else (if n == 4 then Some Word else None)

unfoldable pub width_in : Reader Width
width_in bytes = byte_in bytes >>= λ b. width_of b.0 >>= λ w. Some (w, b.1)

-- the reader that belongs to the number that was read first
abbrev pub chosen : {A : Type 0} → List (ℕ × Reader A) → (number : ℕ) → Reader A
chosen [] number bytes = None
chosen (kind ∷ kinds) number bytes = if number == kind.0 then kind.1 bytes else chosen kinds number bytes

-- ---- moves

unfoldable pub between_in : Reader Move
between_in bytes = mapped (λ x. Between x.0 x.1) (both register_in register_in) bytes

unfoldable pub reload_in : Reader Move
reload_in bytes = mapped (λ x. Reload x.0 x.1) (both register_in slot_in) bytes

unfoldable pub spill_in : Reader Move
spill_in bytes = mapped (λ x. Spill x.0 x.1) (both slot_in register_in) bytes

abbrev pub move_kinds : List (ℕ × Reader Move)
move_kinds = (0, between_in) ∷ (1, reload_in) ∷ (2, spill_in) ∷ []

unfoldable pub move_in : Reader Move
move_in bytes = byte_in bytes >>= λ k. chosen move_kinds k.0 k.1

unfoldable pub moves_in : Reader (List Move)
moves_in bytes = half_in bytes >>= λ n. times move_in n.0 n.1

-- ---- operations

unfoldable pub nop_in : Reader Operation
nop_in bytes = mapped (λ x. Nop x) word_in bytes

unfoldable pub const_in : Reader Operation
const_in bytes = mapped (λ x. Const x.0 x.1.0 x.1.1) (both register_in (both word_in word_in)) bytes

unfoldable pub unary_operation_in : Reader Operation
unary_operation_in bytes = mapped (λ x. Unary x.0 x.1.0 x.1.1.0 x.1.1.1) (both unary_in (both register_in (both register_in word_in))) bytes

unfoldable pub binary_operation_in : Reader Operation
binary_operation_in bytes = mapped (λ x. Binary x.0 x.1.0 x.1.1.0 x.1.1.1.0 x.1.1.1.1) (both binary_in (both register_in (both register_in (both register_in word_in)))) bytes

-- an object with its width, two registers and a label: the fields of a load and of a store
unfoldable pub access_in : Reader (Width × (ℕ × (ℕ × (ℕ × ℕ))))
access_in bytes = both width_in (both word_in (both register_in (both register_in word_in))) bytes

unfoldable pub load_in : Reader Operation
load_in bytes = mapped (λ x. Load x.0 x.1.0 x.1.1.0 x.1.1.1.0 x.1.1.1.1) access_in bytes

unfoldable pub store_in : Reader Operation
store_in bytes = mapped (λ x. Store x.0 x.1.0 x.1.1.0 x.1.1.1.0 x.1.1.1.1) access_in bytes

unfoldable pub call_in : Reader Operation
call_in bytes = mapped (λ x. Call x.0 x.1) (both word_in word_in) bytes

unfoldable pub read_in : Reader Operation
read_in bytes = mapped (λ x. Read x) word_in bytes

unfoldable pub write_in : Reader Operation
write_in bytes = mapped (λ x. Write x) word_in bytes

unfoldable pub branch_in : Reader Operation
branch_in bytes = mapped (λ x. Branch x.0 x.1.0 x.1.1) (both register_in (both word_in word_in)) bytes

unfoldable pub return_in : Reader Operation
return_in bytes = mapped (λ x. Return) nothing_in bytes

abbrev pub operation_kinds : List (ℕ × Reader Operation)
operation_kinds =
    (0, nop_in) ∷ (1, const_in) ∷ (2, unary_operation_in) ∷ (3, binary_operation_in) ∷ (4, load_in) ∷ (5, store_in) ∷ (6, call_in) ∷ (7, read_in) ∷ (8, write_in)
    ∷ (9, branch_in) ∷ (10, return_in) ∷ []

unfoldable pub operation_in : Reader Operation
operation_in bytes = byte_in bytes >>= λ k. chosen operation_kinds k.0 k.1

-- ---- blocks and functions

unfoldable pub block_in : Reader Block
block_in bytes =
    mapped (λ x. record { label = x.0; before = x.1.0; operation = x.1.1.0; after = x.1.1.1 }) (both word_in (both moves_in (both operation_in moves_in))) bytes

unfoldable pub blocks_in : Reader (List Block)
blocks_in bytes = word_in bytes >>= λ n. times block_in n.0 n.1

unfoldable pub slots_in : Reader ℕ
slots_in bytes = word_in bytes >>= λ n. if nat_le n.0 most_slots then Some n else None

-- the parts of the function that all these bytes spell; whether the parts go together is not checked
unfoldable pub parts_in : List ℕ → Option Ltl
parts_in bytes =
    mapped (λ x. record { slots = x.0; entry = x.1.0; blocks = x.1.1 }) (both slots_in (both word_in blocks_in)) bytes
    >>= λ l. if length l.1 == 0 then Some l.0 else None
