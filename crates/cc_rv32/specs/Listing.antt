-- The listing: a line for each word of the code, with its address, the word, and the instruction, if it has one.
use Rattle.std.specs.Prelude.{ℕ, zero, suc, ◌+◌, ◌/◌, ◌%◌, nat_lt, if◌then◌else◌, List, [], ◌∷◌, ◌++◌, Option, Some, None, codes}
use Rattle.std.specs.Fmt.{decimal, signed_decimal}
use Rattle.cc_words.specs.Words.{signed_value}
use Rattle.cc_rv32.specs.declared.instr.Instr.{Instr}
use Rattle.cc_rv32.specs.declared.instr.Instr.TheVariants.{Op, OpImm, Shift, Load, Store, Branch, Lui, Auipc, Jal, Jalr, Ecall}
use Rattle.cc_rv32.specs.declared.instr.RegisterOperation.{RegisterOperation}
use Rattle.cc_rv32.specs.declared.instr.RegisterOperation.TheVariants.{Add, Sub, Sll, Slt, Sltu, Xor, Srl, Sra, Or, And, Mul, Mulh, Mulhsu, Mulhu, Div, Divu, Rem, Remu}
use Rattle.cc_rv32.specs.declared.instr.ImmediateOperation.{ImmediateOperation}
use Rattle.cc_rv32.specs.declared.instr.ImmediateOperation.TheVariants.{Addi, Slti, Sltiu, Xori, Ori, Andi}
use Rattle.cc_rv32.specs.declared.instr.ShiftOperation.{ShiftOperation}
use Rattle.cc_rv32.specs.declared.instr.ShiftOperation.TheVariants.{Slli, Srli, Srai}
use Rattle.cc_rv32.specs.declared.instr.LoadOperation.{LoadOperation}
use Rattle.cc_rv32.specs.declared.instr.LoadOperation.TheVariants.{Lb, Lh, Lw, Lbu, Lhu}
use Rattle.cc_rv32.specs.declared.instr.StoreOperation.{StoreOperation}
use Rattle.cc_rv32.specs.declared.instr.StoreOperation.TheVariants.{Sb, Sh, Sw}
use Rattle.cc_rv32.specs.declared.instr.BranchOperation.{BranchOperation}
use Rattle.cc_rv32.specs.declared.instr.BranchOperation.TheVariants.{Beq, Bne, Blt, Bge, Bltu, Bgeu}
use Rattle.cc_rv32.specs.declared.image.Image.{Image}
use Rattle.cc_rv32.specs.Table.{instruction_of}
use Rattle.cc_rv32.specs.Machine.{code_from}

-- ---- numbers

-- a hexadecimal digit, in lower case
abbrev pub hexadecimal_digit : ℕ → ℕ
hexadecimal_digit n = if nat_lt n 10 then 48 + n else 87 + n

-- this many of the lowest hexadecimal digits, the highest first
abbrev pub hexadecimal : (digits w : ℕ) → List ℕ
hexadecimal zero w = []
hexadecimal (suc n) w = hexadecimal n (w / 16) ++ hexadecimal_digit (w % 16) ∷ []

-- a word as a signed decimal number
abbrev pub signed_text : ℕ → List ℕ
signed_text w = signed_decimal (signed_value w)

abbrev pub register_text : ℕ → List ℕ
register_text r = codes "x" ++ decimal r

-- ---- names

-- ORDER Instr
abbrev pub operation_text : RegisterOperation → List ℕ
operation_text Add = codes "add"
operation_text Sub = codes "sub"
operation_text Sll = codes "sll"
operation_text Slt = codes "slt"
operation_text Sltu = codes "sltu"
operation_text Xor = codes "xor"
operation_text Srl = codes "srl"
operation_text Sra = codes "sra"
operation_text Or = codes "or"
operation_text And = codes "and"
operation_text Mul = codes "mul"
operation_text Mulh = codes "mulh"
operation_text Mulhsu = codes "mulhsu"
operation_text Mulhu = codes "mulhu"
operation_text Div = codes "div"
operation_text Divu = codes "divu"
operation_text Rem = codes "rem"
operation_text Remu = codes "remu"

abbrev pub immediate_operation_text : ImmediateOperation → List ℕ
immediate_operation_text Addi = codes "addi"
immediate_operation_text Slti = codes "slti"
immediate_operation_text Sltiu = codes "sltiu"
immediate_operation_text Xori = codes "xori"
immediate_operation_text Ori = codes "ori"
immediate_operation_text Andi = codes "andi"

abbrev pub shift_operation_text : ShiftOperation → List ℕ
shift_operation_text Slli = codes "slli"
shift_operation_text Srli = codes "srli"
shift_operation_text Srai = codes "srai"

abbrev pub load_operation_text : LoadOperation → List ℕ
load_operation_text Lb = codes "lb"
load_operation_text Lh = codes "lh"
load_operation_text Lw = codes "lw"
load_operation_text Lbu = codes "lbu"
load_operation_text Lhu = codes "lhu"

abbrev pub store_operation_text : StoreOperation → List ℕ
store_operation_text Sb = codes "sb"
store_operation_text Sh = codes "sh"
store_operation_text Sw = codes "sw"

abbrev pub branch_operation_text : BranchOperation → List ℕ
branch_operation_text Beq = codes "beq"
branch_operation_text Bne = codes "bne"
branch_operation_text Blt = codes "blt"
branch_operation_text Bge = codes "bge"
branch_operation_text Bltu = codes "bltu"
branch_operation_text Bgeu = codes "bgeu"

-- ---- instructions and lines

abbrev pub two : (name a b : List ℕ) → List ℕ
two name a b = name ++ codes " " ++ a ++ codes ", " ++ b

abbrev pub three : (name a b c : List ℕ) → List ℕ
three name a b c = name ++ codes " " ++ a ++ codes ", " ++ b ++ codes ", " ++ c

-- an address: its offset, and the register in parentheses
abbrev pub address_text : (i s1 : ℕ) → List ℕ
address_text i s1 = signed_text i ++ codes "(" ++ register_text s1 ++ codes ")"

abbrev pub instruction_text : Instr → List ℕ
instruction_text (Op o d s1 s2) = three (operation_text o) (register_text d) (register_text s1) (register_text s2)
instruction_text (OpImm o d s1 i) = three (immediate_operation_text o) (register_text d) (register_text s1) (signed_text i)
instruction_text (Shift o d s1 k) = three (shift_operation_text o) (register_text d) (register_text s1) (decimal k)
instruction_text (Load o d s1 i) = two (load_operation_text o) (register_text d) (address_text i s1)
instruction_text (Store o s1 s2 i) = two (store_operation_text o) (register_text s2) (address_text i s1)
instruction_text (Branch o s1 s2 i) = three (branch_operation_text o) (register_text s1) (register_text s2) (signed_text i)
instruction_text (Lui d u) = two (codes "lui") (register_text d) (decimal u)
instruction_text (Auipc d u) = two (codes "auipc") (register_text d) (decimal u)
instruction_text (Jal d i) = two (codes "jal") (register_text d) (signed_text i)
instruction_text (Jalr d s1 i) = two (codes "jalr") (register_text d) (address_text i s1)
instruction_text Ecall = codes "ecall"

abbrev pub word_text : Option Instr → List ℕ
word_text None = codes ".word"
word_text (Some i) = instruction_text i

-- the line for a word at an address
unfoldable pub line : (a w : ℕ) → List ℕ
line a w = hexadecimal 8 a ++ codes " " ++ hexadecimal 8 w ++ codes " " ++ word_text (instruction_of w) ++ codes "\n"

abbrev pub lines_from : (a : ℕ) (code : List ℕ) → List ℕ
lines_from a [] = []
lines_from a (w ∷ ws) = line a w ++ lines_from (a + 4) ws

-- the listing of an image: only its code's words
abbrev pub listing : Image → List ℕ
listing image = lines_from code_from image.code
