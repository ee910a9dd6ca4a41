-- What the code of one function owes, on cc_rv32's machine.
use Rattle.std.specs.Prelude.{◌≡◌, ℕ, zero, suc, ◌+◌, ◌-◌, ◌*◌, ◌%◌, ◌^◌, ◌<◌, ◌≤◌, ◌⊎◌, List, [], ◌∷◌, Option, Some, length, get_or, map}
use Rattle.cc_rv32.specs.declared.instr.Instr.{Instr}
use Rattle.cc_rv32.specs.declared.instr.Instr.TheVariants.{Jal}
use Rattle.cc_emit.specs.declared.item.PieceItem.{PieceItem}
use Rattle.cc_emit.specs.declared.item.PieceItem.TheVariants.{Plain, Call, Go}
use Rattle.cc_rv32.specs.declared.instr.LoadOperation.{LoadOperation}
use Rattle.cc_rv32.specs.declared.instr.LoadOperation.TheVariants.{Lbu, Lw}
use Rattle.cc_rv32.specs.declared.instr.StoreOperation.{StoreOperation}
use Rattle.cc_rv32.specs.declared.instr.StoreOperation.TheVariants.{Sb, Sw}
use Rattle.cc_words.specs.declared.operators.Width.{Width}
use Rattle.cc_words.specs.declared.operators.Width.TheVariants.{Byte, Word}
use Rattle.cc_words.specs.Widths.{bytes, words_of}
use Rattle.cc_rv32.specs.Machine.{State, Continues, loaded, globals_from, globals_to, stack_from, stack_to}
use Rattle.cc_emit.specs.Board.{executed_above}
use Rattle.cc_rv32.specs.Table.{IsEncodable}
use Rattle.cc_simulation.specs.Behavior.{AreWords}
use Rattle.cc_simulation.specs.World.{Size, World, Answer, Effect, Gives, Unfinished, Failed, size_of, size_in, object_words}
use Rattle.cc_simulation.specs.Meaning.{Meaning, IsCall}

-- What is given about the machine: the instruction at each address; the lowest address of its stack; and `need f opened`, the bytes of
-- stack below x2 that a call of the function f has if it is made while `opened` calls are open.
pub record Code : Type 0 where
  pub at : ℕ → Option Instr
  pub floor : ℕ
  pub low : stack_from ≤ floor
  pub need : (function opened : ℕ) → ℕ

-- ---- objects in the machine's memory

-- the instruction that loads an element, and the one that stores it
abbrev pub load_of : Width → LoadOperation
load_of Byte = Lbu
load_of Word = Lw

abbrev pub store_of : Width → StoreOperation
store_of Byte = Sb
store_of Word = Sw

-- where an element lies in an object that begins at an address
abbrev pub element_place : Width → (base index : ℕ) → ℕ
element_place width base index = base + bytes width * index

-- the number of words that an object occupies
abbrev pub size_words : Size → ℕ
size_words s = words_of s.width s.elements

abbrev pub words_in : (objects : List Size) → (number : ℕ) → ℕ
words_in objects g = size_words (size_in objects g)

-- where each object lies, by its number: among the globals, at a multiple of 4, and no word belongs to two objects
pub record ObjectLayout (objects : List Size) : Type 0 where
  pub base : ℕ → ℕ
  pub from : (g : ℕ) → globals_from ≤ base g
  pub to : (g : ℕ) → base g + 4 * words_in objects g ≤ globals_to
  pub aligned : (g : ℕ) → base g % 4 ≡ 0
  pub apart : (g k : ℕ) → (g ≡ k → ⊥) → (base g + 4 * words_in objects g ≤ base k) ⊎ (base k + 4 * words_in objects k ≤ base g)

-- the word that the machine loads for an element of an object of this size
abbrev pub element_at : Size → (memory : ℕ → ℕ) → (base index : ℕ) → ℕ
element_at s memory base index = loaded (load_of s.width) memory (element_place s.width base index)

-- ---- code

-- m instructions take the machine from s to t
abbrev pub Path : Code → ℕ → State → State → Type 0
Path code zero s t = s ≡ t
Path code (suc m) s t = (u : State) × (executed_above code.floor (code.at s.pc) s ≡ Continues u) × Path code m u t

-- the instruction that an item becomes at the address a, in a piece at `place`
abbrev pub filled : (places : ℕ → ℕ) → (place a : ℕ) → PieceItem → Instr
filled places place a (Plain i) = i
filled places place a (Call g) = Jal 1 ((places g + (2 ^ 32 - a)) % 2 ^ 32)
filled places place a (Go n) = Jal 0 ((place + 4 * n + (2 ^ 32 - a)) % 2 ^ 32)

-- the items are in the code from the address `a` on
abbrev pub Placed : Code → (places : ℕ → ℕ) → (place a : ℕ) → List PieceItem → Type 0
Placed code places place a [] = Unit {0}
Placed code places place a (item ∷ items) = (code.at a ≡ Some (filled places place a item)) × Placed code places place (a + 4) items

-- what holds for every state of a run
pub record IsSound (s : State) : Type 0 where
  pub zero : s.registers 0 ≡ 0
  pub registers : (r : ℕ) → s.registers r < 2 ^ 32
  pub memory : (a : ℕ) → s.memory a < 2 ^ 32
  pub input : AreWords s.input

-- the machine's state `s` represents the world `h`, which the functions share
pub record Shares {objects : List Size} (layout : ObjectLayout objects) (s : State) (h : World) : Type 0 where
  pub sizes : map size_of h.globals ≡ objects
  pub globals : (g i : ℕ) → i < (size_in objects g).elements → element_at (size_in objects g) s.memory (layout.base g) i ≡ get_or (object_words h g) i 0
  pub input : s.input ≡ h.input
  pub output : s.output ≡ h.output

-- argument i in x(10+i)
abbrev pub Passes : List ℕ → ℕ → State → Type 0
Passes [] r s = Unit {0}
Passes (w ∷ ws) r s = (s.registers r ≡ w) × Passes ws (suc r) s

-- a register that a called function leaves as it was: x8, x9, x18 to x27
abbrev pub IsKept : ℕ → Type 0
IsKept r = ((8 ≤ r) × (r ≤ 9)) ⊎ ((18 ≤ r) × (r ≤ 27))

-- `Holds` is true of each function that the items call
abbrev pub EachCalled : (ℕ → Type 0) → List PieceItem → Type 0
EachCalled Holds [] = Unit {0}
EachCalled Holds (Plain i ∷ items) = EachCalled Holds items
EachCalled Holds (Call g ∷ items) = Holds g × EachCalled Holds items
EachCalled Holds (Go n ∷ items) = EachCalled Holds items

-- the largest number of bytes of a function's frame, and the largest number of calls that are open at once
abbrev pub largest_frame : ℕ
largest_frame = 2032

abbrev pub most_open : ℕ
most_open = 1024

-- A call of the function f has enough bytes: those of its frame, and for each call that its items make, those of its frame and of the
-- called function. So `need` may be exact or larger; for example `largest_frame` for each call that the limit still allows.
pub record IsEnough (need : (function opened : ℕ) → ℕ) (f frame : ℕ) (items : List PieceItem) : Type 0 where
  pub own : (opened : ℕ) → opened < most_open → frame ≤ need f opened
  pub calls : (opened : ℕ) → opened < most_open → EachCalled (λ g. frame + need g (suc opened) ≤ need f opened) items

-- the machine is at the first word of a function that was called while `opened` calls were open
pub record Enters (meaning : Meaning) (layout : ObjectLayout meaning.objects) (code : Code) (f opened place : ℕ) (ws : List ℕ) (h : World) (s : State) : Type 0 where
  pub is_call : IsCall meaning f ws h
  pub at : s.pc ≡ place
  pub sound : IsSound s
  pub back : s.registers 1 % 4 ≡ 0
  pub aligned : s.registers 2 % 4 ≡ 0
  pub room : code.floor + code.need f opened ≤ s.registers 2
  pub top : s.registers 2 ≤ stack_to
  pub passes : Passes ws 10 s
  pub shares : Shares layout s h

-- the word of x3 in a function that sets it: 2 KiB after the beginning of the globals, so that one access reaches their first 4 KiB
abbrev pub global_pointer : ℕ
global_pointer = globals_from + 2048

-- what x3 holds after a call: what it held before, or the global pointer; so a function that set it to the pointer still finds it there
abbrev pub IsKeptOrPointer : (before after : ℕ) → Type 0
IsKeptOrPointer before after = (after ≡ before) ⊎ (after ≡ global_pointer)

-- the state of the machine after the return
pub record ComesBack {objects : List Size} (layout : ObjectLayout objects) (s : State) (a : Answer) (t : State) : Type 0 where
  pub at : t.pc ≡ s.registers 1
  pub sound : IsSound t
  pub value : t.registers 10 ≡ a.value
  pub shares : Shares layout t a.world
  pub stack : t.registers 2 ≡ s.registers 2
  pub pointer : IsKeptOrPointer (s.registers 3) (t.registers 3)
  pub kept : (r : ℕ) → IsKept r → t.registers r ≡ s.registers r
  pub above : (a : ℕ) → s.registers 2 ≤ a → t.memory a ≡ s.memory a

-- The machine, starting from s, does what the source does within n steps; `left` of them are left if the source returns an answer. Each of
-- the m instructions pays for at most c of the steps taken; at most `spare` steps are paid for elsewhere. So more instructions are executed
-- for a greater n, and a run that never ends is matched by one that never ends.
abbrev pub Meets : {objects : List Size} (layout : ObjectLayout objects) → Code → (c spare n : ℕ) → State → Effect → Type 0
Meets layout code c spare n s (Gives a left) = (m : ℕ) × (t : State) × Path code m s t × ComesBack layout s a t × (n ≤ left + spare + c * m)
Meets layout code c spare n s (Unfinished o) = (m : ℕ) × (t : State) × Path code m s t × (t.output ≡ o) × (n ≤ spare + c * m)
Meets layout code c spare n s (Failed o) = Unit {0}

-- each call made while `opened` calls are open does what the source's call does; the jump that makes the call pays for the c spare steps
abbrev pub CallsMeet : (meaning : Meaning) → ObjectLayout meaning.objects → Code → (ℕ → ℕ) → (c opened : ℕ) → Type 0
CallsMeet meaning layout code places c opened =
    (g : ℕ) (ws : List ℕ) (h : World) (s : State) (n : ℕ) → g < meaning.functions → Enters meaning layout code g opened (places g) ws h s → Meets layout code c c n s (meaning.call n opened g ws h)

-- an address at which code can be: a multiple of 4, within the bytes that the memory map has for code
pub record IsPlace (a : ℕ) : Type 0 where
  pub aligned : a % 4 ≡ 0
  pub from : 0x10000 ≤ a
  pub to : a < 0x100000

-- What a piece keeps, wherever it is and however many calls are open: if the calls that it makes do what the source's do at c steps per
-- instruction, its body does what the source's body does. Of the two `rate * c` below, the first is the number of steps for which one
-- instruction pays. The second is what is spare: the steps of one more instruction, which are left to the jump that called the function. A
-- function without a frame has nothing to execute on entry, so when the source's body has begun, the machine may still be at the function's
-- first word.
abbrev pub PieceMeets : (meaning : Meaning) → ObjectLayout meaning.objects → (function frame rate : ℕ) → List PieceItem → Type 0
PieceMeets meaning layout f frame rate items =
    (code : Code) (places : ℕ → ℕ) (place : ℕ) → IsPlace place → IsPlace (place + 4 * length items) → Placed code places place place items → IsEnough code.need f frame items → ((g : ℕ) → g < meaning.functions → IsPlace (places g))
    → (opened c : ℕ) → opened < most_open → 1 ≤ c → CallsMeet meaning layout code places c (suc opened)
    → (ws : List ℕ) (h : World) (s : State) (n : ℕ) → Enters meaning layout code f opened place ws h s → Meets layout code (rate * c) (rate * c) n s (meaning.body n opened f ws h)

-- an item that can be encoded as a word, wherever the piece is
abbrev pub IsFit : (functions long : ℕ) → PieceItem → Type 0
IsFit functions long (Plain i) = IsEncodable i
IsFit functions long (Call g) = g < functions
IsFit functions long (Go n) = n ≤ long

abbrev pub AreFit : (functions long : ℕ) → List PieceItem → Type 0
AreFit functions long [] = Unit {0}
AreFit functions long (i ∷ is) = IsFit functions long i × AreFit functions long is

-- The items of a function's code do what the function does. A pair of Linear and the pairs above it keep `follows`, which is their promise,
-- and `keeps_up`, which only serves the next pass. A selected pair and a piece keep only what serves the next pass; their promise is that
-- of the linked image.
pub record IsPiece (meaning : Meaning) (layout : ObjectLayout meaning.objects) (f frame : ℕ) (items : List PieceItem) : Type 0 where
  pub rate : ℕ
  pub meets : PieceMeets meaning layout f frame rate items
  pub small : frame ≤ largest_frame
  pub fit : AreFit meaning.functions (length items) items
