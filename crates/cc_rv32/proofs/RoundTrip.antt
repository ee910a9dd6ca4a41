-- Decoding the word of an instruction yields the instruction, and encoding the instruction of a word yields the word. If a word
-- is made of some fields, they are its fields: this is linear arithmetic. The rest follows from the table by computation.
use Rattle.std.proofs.Common.{◌≡◌, ℕ, ◌+◌, ◌*◌, ◌%◌, ◌^◌, ◌<◌, Some, refl, ap, ◌∙◌, lit<, arith}
use Rattle.std.proofs.lemmas.Bool.Decides.{nat_tests}
use Rattle.cc_rv32.specs.declared.instr.Instr.{Instr}
use Rattle.cc_rv32.specs.declared.instr.Instr.TheVariants.{Op, OpImm, Shift, Load, Store, Branch, Lui, Auipc, Jal, Jalr, Ecall}
use Rattle.cc_rv32.specs.declared.instr.RegisterOperation.{RegisterOperation}
use Rattle.cc_rv32.specs.declared.instr.RegisterOperation.TheVariants.{Add, Sub, Sll, Slt, Sltu, Xor, Srl, Sra, Or, And, Mul, Mulh, Mulhsu, Mulhu, Div, Divu, Rem, Remu}
use Rattle.cc_rv32.specs.declared.instr.ImmediateOperation.{ImmediateOperation}
use Rattle.cc_rv32.specs.declared.instr.ImmediateOperation.TheVariants.{Addi, Slti, Sltiu, Xori, Ori, Andi}
use Rattle.cc_rv32.specs.declared.instr.ShiftOperation.{ShiftOperation}
use Rattle.cc_rv32.specs.declared.instr.ShiftOperation.TheVariants.{Slli, Srli, Srai}
use Rattle.cc_rv32.specs.declared.instr.LoadOperation.{LoadOperation}
use Rattle.cc_rv32.specs.declared.instr.LoadOperation.TheVariants.{Lb, Lh, Lw, Lbu, Lhu}
use Rattle.cc_rv32.specs.declared.instr.StoreOperation.{StoreOperation}
use Rattle.cc_rv32.specs.declared.instr.StoreOperation.TheVariants.{Sb, Sh, Sw}
use Rattle.cc_rv32.specs.declared.instr.BranchOperation.{BranchOperation}
use Rattle.cc_rv32.specs.declared.instr.BranchOperation.TheVariants.{Beq, Bne, Blt, Bge, Bltu, Bgeu}
use Rattle.cc_rv32.specs.Fields.{bits, opcode, rd, funct3, rs1, rs2, funct7, sign_extended, immediate_I, immediate_S, immediate_B, immediate_U, immediate_J, IsImmediate, IsBranchOffset, IsJumpOffset}
use Rattle.cc_rv32.specs.Table.{operation_of, immediate_operation_of, load_operation_of, store_operation_of, branch_operation_of, instruction_of, operation_funct3, operation_funct7, immediate_operation_funct3, shift_operation_funct3, shift_operation_funct7, load_operation_funct3, store_operation_funct3, branch_operation_funct3, fields_word, immediate_word, upper_word, encoding_of, IsEncodable}

-- the six fields of a word
pub record HasFields (w o d f3 s1 s2 f7 : ℕ) : Type 0 where
  pub opcode_is : opcode w ≡ o
  pub rd_is : rd w ≡ d
  pub funct3_is : funct3 w ≡ f3
  pub rs1_is : rs1 w ≡ s1
  pub rs2_is : rs2 w ≡ s2
  pub funct7_is : funct7 w ≡ f7

pub HasFields-fields_word : (o d f3 s1 s2 f7 : ℕ) → o < 128 → d < 32 → f3 < 8 → s1 < 32 → s2 < 32 → f7 < 128 → HasFields (fields_word o d f3 s1 s2 f7) o d f3 s1 s2 f7
HasFields-fields_word o d f3 s1 s2 f7 ho hd h3 h1 h2 h7 = record {
  opcode_is = omega arith;
  rd_is = omega arith;
  funct3_is = omega arith;
  rs1_is = omega arith;
  rs2_is = omega arith;
  funct7_is = omega arith;
}

operation_of-same : (o : RegisterOperation) → operation_of (operation_funct7 o) (operation_funct3 o) ≡ Some o
operation_of-same Add = refl
operation_of-same Sub = refl
operation_of-same Sll = refl
operation_of-same Slt = refl
operation_of-same Sltu = refl
operation_of-same Xor = refl
operation_of-same Srl = refl
operation_of-same Sra = refl
operation_of-same Or = refl
operation_of-same And = refl
operation_of-same Mul = refl
operation_of-same Mulh = refl
operation_of-same Mulhsu = refl
operation_of-same Mulhu = refl
operation_of-same Div = refl
operation_of-same Divu = refl
operation_of-same Rem = refl
operation_of-same Remu = refl

operation_instruction : (w : ℕ) (o : RegisterOperation) (d s1 s2 : ℕ) → HasFields w 0x33 d (operation_funct3 o) s1 s2 (operation_funct7 o) → instruction_of w ≡ Some (Op o d s1 s2)
unfolding instruction_of
operation_instruction w o d s1 s2 h = rw (h.opcode_is, h.rd_is, h.rs1_is, h.rs2_is, h.funct7_is, h.funct3_is, operation_of-same o)

immediate_operation_of-same : (o : ImmediateOperation) → immediate_operation_of (immediate_operation_funct3 o) ≡ Some o
immediate_operation_of-same Addi = refl
immediate_operation_of-same Slti = refl
immediate_operation_of-same Sltiu = refl
immediate_operation_of-same Xori = refl
immediate_operation_of-same Ori = refl
immediate_operation_of-same Andi = refl

load_operation_of-same : (o : LoadOperation) → load_operation_of (load_operation_funct3 o) ≡ Some o
load_operation_of-same Lb = refl
load_operation_of-same Lh = refl
load_operation_of-same Lw = refl
load_operation_of-same Lbu = refl
load_operation_of-same Lhu = refl

store_operation_of-same : (o : StoreOperation) → store_operation_of (store_operation_funct3 o) ≡ Some o
store_operation_of-same Sb = refl
store_operation_of-same Sh = refl
store_operation_of-same Sw = refl

branch_operation_of-same : (o : BranchOperation) → branch_operation_of (branch_operation_funct3 o) ≡ Some o
branch_operation_of-same Beq = refl
branch_operation_of-same Bne = refl
branch_operation_of-same Blt = refl
branch_operation_of-same Bge = refl
branch_operation_of-same Bltu = refl
branch_operation_of-same Bgeu = refl

-- the proof goes by the operation, since funct3 chooses the form
immediate_operation_instruction : (w : ℕ) (o : ImmediateOperation) (d s1 i : ℕ) → opcode w ≡ 0x13 → funct3 w ≡ immediate_operation_funct3 o → rd w ≡ d → rs1 w ≡ s1 → immediate_I w ≡ i → instruction_of w ≡ Some (OpImm o d s1 i)
unfolding instruction_of
immediate_operation_instruction w Addi d s1 i eo e3 ed e1 ei = rw (eo, e3, ed, e1, ei)
immediate_operation_instruction w Slti d s1 i eo e3 ed e1 ei = rw (eo, e3, ed, e1, ei)
immediate_operation_instruction w Sltiu d s1 i eo e3 ed e1 ei = rw (eo, e3, ed, e1, ei)
immediate_operation_instruction w Xori d s1 i eo e3 ed e1 ei = rw (eo, e3, ed, e1, ei)
immediate_operation_instruction w Ori d s1 i eo e3 ed e1 ei = rw (eo, e3, ed, e1, ei)
immediate_operation_instruction w Andi d s1 i eo e3 ed e1 ei = rw (eo, e3, ed, e1, ei)

shift_instruction : (w : ℕ) (o : ShiftOperation) (d s1 k : ℕ) → HasFields w 0x13 d (shift_operation_funct3 o) s1 k (shift_operation_funct7 o) → instruction_of w ≡ Some (Shift o d s1 k)
unfolding instruction_of
shift_instruction w Slli d s1 k h = rw (h.opcode_is, h.funct3_is, h.funct7_is, h.rd_is, h.rs1_is, h.rs2_is)
shift_instruction w Srli d s1 k h = rw (h.opcode_is, h.funct3_is, h.funct7_is, h.rd_is, h.rs1_is, h.rs2_is)
shift_instruction w Srai d s1 k h = rw (h.opcode_is, h.funct3_is, h.funct7_is, h.rd_is, h.rs1_is, h.rs2_is)

load_instruction : (w : ℕ) (o : LoadOperation) (d s1 i : ℕ) → opcode w ≡ 0x03 → funct3 w ≡ load_operation_funct3 o → rd w ≡ d → rs1 w ≡ s1 → immediate_I w ≡ i → instruction_of w ≡ Some (Load o d s1 i)
unfolding instruction_of
load_instruction w o d s1 i eo e3 ed e1 ei = rw (eo, e3, ed, e1, ei, load_operation_of-same o)

store_instruction : (w : ℕ) (o : StoreOperation) (s1 s2 i : ℕ) → opcode w ≡ 0x23 → funct3 w ≡ store_operation_funct3 o → rs1 w ≡ s1 → rs2 w ≡ s2 → immediate_S w ≡ i → instruction_of w ≡ Some (Store o s1 s2 i)
unfolding instruction_of
store_instruction w o s1 s2 i eo e3 e1 e2 ei = rw (eo, e3, e1, e2, ei, store_operation_of-same o)

branch_instruction : (w : ℕ) (o : BranchOperation) (s1 s2 i : ℕ) → opcode w ≡ 0x63 → funct3 w ≡ branch_operation_funct3 o → rs1 w ≡ s1 → rs2 w ≡ s2 → immediate_B w ≡ i → instruction_of w ≡ Some (Branch o s1 s2 i)
unfolding instruction_of
branch_instruction w o s1 s2 i eo e3 e1 e2 ei = rw (eo, e3, e1, e2, ei, branch_operation_of-same o)

-- ---- the fields of each form's word

operation_below : (o : RegisterOperation) → (operation_funct3 o < 8) × (operation_funct7 o < 128)
operation_below Add = (lit< tt, lit< tt)
operation_below Sub = (lit< tt, lit< tt)
operation_below Sll = (lit< tt, lit< tt)
operation_below Slt = (lit< tt, lit< tt)
operation_below Sltu = (lit< tt, lit< tt)
operation_below Xor = (lit< tt, lit< tt)
operation_below Srl = (lit< tt, lit< tt)
operation_below Sra = (lit< tt, lit< tt)
operation_below Or = (lit< tt, lit< tt)
operation_below And = (lit< tt, lit< tt)
operation_below Mul = (lit< tt, lit< tt)
operation_below Mulh = (lit< tt, lit< tt)
operation_below Mulhsu = (lit< tt, lit< tt)
operation_below Mulhu = (lit< tt, lit< tt)
operation_below Div = (lit< tt, lit< tt)
operation_below Divu = (lit< tt, lit< tt)
operation_below Rem = (lit< tt, lit< tt)
operation_below Remu = (lit< tt, lit< tt)

immediate_operation_below : (o : ImmediateOperation) → immediate_operation_funct3 o < 8
immediate_operation_below Addi = lit< tt
immediate_operation_below Slti = lit< tt
immediate_operation_below Sltiu = lit< tt
immediate_operation_below Xori = lit< tt
immediate_operation_below Ori = lit< tt
immediate_operation_below Andi = lit< tt

shift_operation_below : (o : ShiftOperation) → (shift_operation_funct3 o < 8) × (shift_operation_funct7 o < 128)
shift_operation_below Slli = (lit< tt, lit< tt)
shift_operation_below Srli = (lit< tt, lit< tt)
shift_operation_below Srai = (lit< tt, lit< tt)

load_operation_below : (o : LoadOperation) → load_operation_funct3 o < 8
load_operation_below Lb = lit< tt
load_operation_below Lh = lit< tt
load_operation_below Lw = lit< tt
load_operation_below Lbu = lit< tt
load_operation_below Lhu = lit< tt

store_operation_below : (o : StoreOperation) → store_operation_funct3 o < 8
store_operation_below Sb = lit< tt
store_operation_below Sh = lit< tt
store_operation_below Sw = lit< tt

branch_operation_below : (o : BranchOperation) → branch_operation_funct3 o < 8
branch_operation_below Beq = lit< tt
branch_operation_below Bne = lit< tt
branch_operation_below Blt = lit< tt
branch_operation_below Bge = lit< tt
branch_operation_below Bltu = lit< tt
branch_operation_below Bgeu = lit< tt

-- a word in range, truncated and sign-extended, is the word again
sign_extended_immediate : (i : ℕ) → IsImmediate i → sign_extended 12 (i % 4096) ≡ i
sign_extended_immediate i h = grind (arith, nat_tests)

sign_extended_branch : (i : ℕ) → IsBranchOffset i → sign_extended 13 (i % 8192) ≡ i
sign_extended_branch i h = grind (arith, nat_tests)

sign_extended_jump : (i : ℕ) → IsJumpOffset i → sign_extended 21 (i % 2097152) ≡ i
sign_extended_jump i h = grind (arith, nat_tests)

-- the fields of a word with a twelve-bit immediate
record HasImmediate (w o d f3 s1 i : ℕ) : Type 0 where
  opcode_is : opcode w ≡ o
  rd_is : rd w ≡ d
  funct3_is : funct3 w ≡ f3
  rs1_is : rs1 w ≡ s1
  immediate_is : immediate_I w ≡ i

HasImmediate-immediate_word : (o d f3 s1 i : ℕ) → o < 128 → d < 32 → f3 < 8 → s1 < 32 → IsImmediate i → HasImmediate (immediate_word o d f3 s1 i) o d f3 s1 i
HasImmediate-immediate_word o d f3 s1 i ho hd h3 h1 hi =
    let whole : bits 31 20 (immediate_word o d f3 s1 i) ≡ i % 4096 = omega arith in
    record {
      opcode_is = omega arith;
      rd_is = omega arith;
      funct3_is = omega arith;
      rs1_is = omega arith;
      immediate_is = ap (sign_extended 12) whole ∙ sign_extended_immediate i hi;
    }

immediate_S-word : (o f3 s1 s2 i w : ℕ) → HasFields w o (bits 4 0 i) f3 s1 s2 (bits 11 5 i) → IsImmediate i → immediate_S w ≡ i
immediate_S-word o f3 s1 s2 i w h hi =
    let low : bits 11 7 w ≡ bits 4 0 i = h.rd_is in
    let high : bits 31 25 w ≡ bits 11 5 i = h.funct7_is in
    let whole : bits 31 25 w * 2 ^ 5 + bits 11 7 w ≡ i % 4096 = omega arith in
    ap (sign_extended 12) whole ∙ sign_extended_immediate i hi

immediate_B-word : (o f3 s1 s2 i w : ℕ) → HasFields w o (bits 4 1 i * 2 + bits 11 11 i) f3 s1 s2 (bits 12 12 i * 2 ^ 6 + bits 10 5 i) → IsBranchOffset i → immediate_B w ≡ i
immediate_B-word o f3 s1 s2 i w h hi =
    let low : bits 11 7 w ≡ bits 4 1 i * 2 + bits 11 11 i = h.rd_is in
    let high : bits 31 25 w ≡ bits 12 12 i * 2 ^ 6 + bits 10 5 i = h.funct7_is in
    let a : bits 31 31 w ≡ bits 12 12 i = omega arith in
    let b : bits 7 7 w ≡ bits 11 11 i = omega arith in
    let c : bits 30 25 w ≡ bits 10 5 i = omega arith in
    let d : bits 11 8 w ≡ bits 4 1 i = omega arith in
    let whole : bits 31 31 w * 2 ^ 12 + bits 7 7 w * 2 ^ 11 + bits 30 25 w * 2 ^ 5 + bits 11 8 w * 2 ≡ i % 8192 = omega arith in
    ap (sign_extended 13) whole ∙ sign_extended_branch i hi

record HasUpper (w o d u : ℕ) : Type 0 where
  opcode_is : opcode w ≡ o
  rd_is : rd w ≡ d
  upper_is : immediate_U w ≡ u

HasUpper-upper_word : (o d u : ℕ) → o < 128 → d < 32 → u < 1048576 → HasUpper (upper_word o d u) o d u
HasUpper-upper_word o d u ho hd hu = record { opcode_is = omega arith; rd_is = omega arith; upper_is = omega arith }

abbrev jump_field : ℕ → ℕ
jump_field i = bits 20 20 i * 2 ^ 19 + bits 10 1 i * 2 ^ 9 + bits 11 11 i * 2 ^ 8 + bits 19 12 i

jump_field-below : (i : ℕ) → jump_field i < 1048576
jump_field-below i = omega arith

immediate_J-word : (o d i w : ℕ) → immediate_U w ≡ jump_field i → IsJumpOffset i → immediate_J w ≡ i
immediate_J-word o d i w h hi =
    let a : bits 31 31 w ≡ bits 20 20 i = omega arith in
    let b : bits 30 21 w ≡ bits 10 1 i = omega arith in
    let c : bits 20 20 w ≡ bits 11 11 i = omega arith in
    let e : bits 19 12 w ≡ bits 19 12 i = omega arith in
    let whole : bits 31 31 w * 2 ^ 20 + bits 19 12 w * 2 ^ 12 + bits 20 20 w * 2 ^ 11 + bits 30 21 w * 2 ≡ i % 2097152 = omega arith in
    ap (sign_extended 21) whole ∙ sign_extended_jump i hi

lui_instruction : (w d u : ℕ) → HasUpper w 0x37 d u → instruction_of w ≡ Some (Lui d u)
unfolding instruction_of
lui_instruction w d u h = rw (h.opcode_is, h.rd_is, h.upper_is)

auipc_instruction : (w d u : ℕ) → HasUpper w 0x17 d u → instruction_of w ≡ Some (Auipc d u)
unfolding instruction_of
auipc_instruction w d u h = rw (h.opcode_is, h.rd_is, h.upper_is)

jal_instruction : (w d i : ℕ) → opcode w ≡ 0x6f → rd w ≡ d → immediate_J w ≡ i → instruction_of w ≡ Some (Jal d i)
unfolding instruction_of
jal_instruction w d i eo ed ei = rw (eo, ed, ei)

jalr_instruction : (w d s1 i : ℕ) → HasImmediate w 0x67 d 0 s1 i → instruction_of w ≡ Some (Jalr d s1 i)
unfolding instruction_of
jalr_instruction w d s1 i h = rw (h.opcode_is, h.funct3_is, h.rd_is, h.rs1_is, h.immediate_is)

ecall_instruction : instruction_of 0x73 ≡ Some Ecall
unfolding instruction_of
ecall_instruction = refl

-- decoding the word of an instruction yields the instruction
pub decoded : (i : Instr) → IsEncodable i → instruction_of (encoding_of i) ≡ Some i
unfolding encoding_of
decoded (Op o d s1 s2) h = operation_instruction _ o d s1 s2 (HasFields-fields_word 0x33 d _ s1 s2 _ (lit< tt) h.0 (operation_below o).0 h.1 h.2 (operation_below o).1)
decoded (OpImm o d s1 i) h =
    let f = HasImmediate-immediate_word 0x13 d (immediate_operation_funct3 o) s1 i (lit< tt) h.0 (immediate_operation_below o) h.1 h.2 in
    immediate_operation_instruction _ o d s1 i f.opcode_is f.funct3_is f.rd_is f.rs1_is f.immediate_is
decoded (Shift o d s1 k) h = shift_instruction _ o d s1 k (HasFields-fields_word 0x13 d _ s1 k _ (lit< tt) h.0 (shift_operation_below o).0 h.1 h.2 (shift_operation_below o).1)
decoded (Load o d s1 i) h =
    let f = HasImmediate-immediate_word 0x03 d (load_operation_funct3 o) s1 i (lit< tt) h.0 (load_operation_below o) h.1 h.2 in
    load_instruction _ o d s1 i f.opcode_is f.funct3_is f.rd_is f.rs1_is f.immediate_is
decoded (Store o s1 s2 i) h =
    let f = HasFields-fields_word 0x23 (bits 4 0 i) (store_operation_funct3 o) s1 s2 (bits 11 5 i) (lit< tt) (omega arith) (store_operation_below o) h.0 h.1 (omega arith) in
    store_instruction _ o s1 s2 i f.opcode_is f.funct3_is f.rs1_is f.rs2_is (immediate_S-word _ _ _ _ i _ f h.2)
decoded (Branch o s1 s2 i) h =
    let f = HasFields-fields_word 0x63 (bits 4 1 i * 2 + bits 11 11 i) (branch_operation_funct3 o) s1 s2 (bits 12 12 i * 2 ^ 6 + bits 10 5 i) (lit< tt) (omega arith) (branch_operation_below o) h.0 h.1 (omega arith) in
    branch_instruction _ o s1 s2 i f.opcode_is f.funct3_is f.rs1_is f.rs2_is (immediate_B-word _ _ _ _ i _ f h.2)
decoded (Lui d u) h = lui_instruction _ d u (HasUpper-upper_word 0x37 d u (lit< tt) h.0 h.1)
decoded (Auipc d u) h = auipc_instruction _ d u (HasUpper-upper_word 0x17 d u (lit< tt) h.0 h.1)
decoded (Jal d i) h =
    let f = HasUpper-upper_word 0x6f d (jump_field i) (lit< tt) h.0 (jump_field-below i) in
    jal_instruction _ d i f.opcode_is f.rd_is (immediate_J-word 0x6f d i _ f.upper_is h.1)
decoded (Jalr d s1 i) h = jalr_instruction _ d s1 i (HasImmediate-immediate_word 0x67 d 0 s1 i (lit< tt) h.0 (lit< tt) h.1 h.2)
decoded Ecall h = ecall_instruction
