-- The image that pieces make. Its code is the head, which calls main and exits with the word that main returns, followed by the
-- functions in the order of their definitions; each item is filled in at its address. Its globals are the objects in the order
-- of declaration, each in words of its own (`Packed`).
use Rattle.std.specs.Prelude.{ℕ, ◌+◌, ◌*◌, List, [], ◌∷◌, ◌++◌, length, take, map}
use Rattle.cc_rv32.specs.declared.instr.Instr.{Instr}
use Rattle.cc_rv32.specs.declared.instr.Instr.TheVariants.{OpImm, Ecall}
use Rattle.cc_rv32.specs.declared.instr.ImmediateOperation.TheVariants.{Addi}
use Rattle.cc_rv32.specs.Table.{encoding_of}
use Rattle.cc_rv32.specs.Machine.{code_from}
use Rattle.cc_emit.specs.declared.item.PieceItem.{PieceItem}
use Rattle.cc_emit.specs.declared.item.PieceItem.TheVariants.{Plain, Call}
use Rattle.cc_emit.specs.Contract.{filled}

-- the instructions of items at the address a, in a piece at `place`
abbrev pub fill : (places : ℕ → ℕ) → (place a : ℕ) → List PieceItem → List Instr
fill places place a [] = []
fill places place a (i ∷ is) = filled places place a i ∷ fill places place (a + 4) is

-- the instructions of functions, the first at the address a
abbrev pub fill_all : (places : ℕ → ℕ) → (a : ℕ) → List (List PieceItem) → List Instr
fill_all places a [] = []
fill_all places a (f ∷ fs) = fill places a a f ++ fill_all places (a + 4 * length f) fs

-- the number of items in all the functions together
abbrev pub size_of : List (List PieceItem) → ℕ
size_of [] = 0
size_of (f ∷ fs) = length f + size_of fs

-- the number that x17 has at an ecall that ends the run with the word in x10
abbrev pub exit_service : ℕ
exit_service = 93

-- the items that call main and exit with the word that it returns
abbrev pub head : (main : ℕ) → List PieceItem
head main = Call main ∷ Plain (OpImm Addi 17 0 exit_service) ∷ Plain Ecall ∷ []

-- the place of function f: after the head's three words, and after the functions before it
unfoldable pub place_of : List (List PieceItem) → (f : ℕ) → ℕ
place_of functions f = 0x1000c + 4 * size_of (take f functions)

-- all instructions
abbrev pub linked_code : (main : ℕ) → List (List PieceItem) → List Instr
linked_code main functions = fill (place_of functions) code_from code_from (head main) ++ fill_all (place_of functions) 0x1000c functions

-- the words of instructions
abbrev pub encoded : List Instr → List ℕ
encoded is = map encoding_of is

-- how many words the code has, and how many it may have at most
abbrev pub code_words : List (List PieceItem) → ℕ
code_words functions = 3 + size_of functions

abbrev pub most_code : ℕ
most_code = 131072
