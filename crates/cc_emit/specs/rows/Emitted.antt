-- Worked examples of emission, by computation: the code of a function item for item, its run on the machine, operators and comparisons with
-- a word, elements whose numbers are known, branches on comparisons, and when a branch is near.
use Rattle.std.specs.Prelude.{ℕ, zero, suc, ◌+◌, ◌-◌, ◌*◌, ◌/◌, ◌≡◌, refl, true, false, if◌then◌else◌, ◌==◌, nat_le, List, [], ◌∷◌, map, Option, None, slice_get}
use Rattle.cc_words.specs.declared.operators.Width.TheVariants.{Byte, Word}
use Rattle.cc_words.specs.declared.operators.Binary.TheVariants.{Add, Sub, LtS, LeS, LeU, Ne}
use Rattle.cc_ltl.specs.declared.operation.Move.TheVariants.{Between, Reload, Spill}
use Rattle.cc_linear_language.specs.declared.item.LinearItem.{LinearItem}
use Rattle.cc_linear_language.specs.declared.item.LinearItem.TheVariants.{Label, Jump, IfZero, Copy, Const, Binary, Load, Store, Call, Write, Return}
use Rattle.cc_select.specs.declared.step.WordOperator.TheVariants as immediate
use Rattle.cc_select.specs.declared.step.Step.TheVariants.{One, Immediate, LoadAt, StoreAt, LoadNear, StoreNear, Branch, BranchImmediate}
use Rattle.cc_rv32.specs.declared.instr.Instr.{Instr}
use Rattle.cc_rv32.specs.declared.instr.Instr.TheVariants as instr
use Rattle.cc_rv32.specs.declared.instr.Instr.TheVariants.{Jalr, Lui, Op, OpImm, Shift}
use Rattle.cc_rv32.specs.declared.instr.RegisterOperation.TheVariants as operation
use Rattle.cc_rv32.specs.declared.instr.ImmediateOperation.TheVariants.{Andi, Slti, Sltiu}
use Rattle.cc_rv32.specs.declared.instr.BranchOperation.{BranchOperation}
use Rattle.cc_rv32.specs.declared.instr.BranchOperation.TheVariants.{Beq, Bne, Blt, Bge, Bltu}
use Rattle.cc_rv32.specs.declared.instr.ShiftOperation.TheVariants.{Slli, Srai}
use Rattle.cc_rv32.specs.Table.{encoding_of}
use Rattle.cc_rv32.specs.Machine.{State, Turn, Continues, Exits, Traps, executed}
use Rattle.cc_emit.specs.declared.item.PieceItem.{PieceItem}
use Rattle.cc_emit.specs.declared.item.PieceItem.TheVariants as item
use Rattle.cc_emit.specs.declared.item.PieceItem.TheVariants.{Plain}
use Rattle.cc_emit.specs.Contract.{filled}
use Rattle.cc_emit.specs.Objects.{object_address}
use Rattle.cc_emit.specs.Branches.{comparison, turned}
use Rattle.cc_emit.specs.Emission.{addi, branch_items, load_element, load_word, store_element, store_word, const_size, is_close}
use Rattle.cc_emit.specs.Function.{function_items, items_with, whole_items}

-- a loop that adds 1 once; the sum goes through a slot and an element of the second object, whose address has a negative lower part
abbrev loop : List LinearItem
loop =
    Const 18 1 ∷ Const 19 0 ∷ Label 7 ∷ IfZero 18 9 ∷ Binary Add 19 19 18 ∷ Const 7 1 ∷ Binary Sub 18 18 7 ∷ Jump 7 ∷ Label 9 ∷ Copy (Spill 1 19) ∷ Copy (Reload 10 1) ∷ Store Word 1 7 10 ∷ Load Word 1 10 7 ∷ Write
    ∷ Return ∷ []

abbrev items : List PieceItem
items = function_items (object_address (record { width = Word; elements = 768 } ∷ record { width = Word; elements = 2 } ∷ [])) 2 (map One loop)

-- the words of items at an address
abbrev words_of : (a : ℕ) → List PieceItem → List ℕ
words_of a [] = []
words_of a (i ∷ is) = encoding_of (filled (λ g. 0) 0x10000 a i) ∷ words_of (a + 4) is

-- addi x2, x2, -16; sw x18, 8(x2); sw x19, 12(x2); addi x18, x0, 1; addi x19, x0, 0; beq x18, x0, 20; add x19, x19, x18; addi x7, x0, 1;
-- sub x18, x18, x7; jal x0, -16; sw x19, 4(x2); lw x10, 4(x2); slli x5, x7, 2; lui x6, 513; add x5, x5, x6; sw x10, -1024(x5); lw x10,
-- -1024(x5); addi x17, x0, 1; ecall; lw x18, 8(x2); lw x19, 12(x2); addi x2, x2, 16; jalr x0, 0(x1)
loop_words : words_of 0x10000 items
    ≡ 0xff010113 ∷ 0x01212423 ∷ 0x01312623 ∷ 0x00100913 ∷ 0x00000993 ∷ 0x00090a63 ∷ 0x012989b3 ∷ 0x00100393 ∷ 0x40790933 ∷ 0xff1ff06f ∷ 0x01312223 ∷ 0x00412503 ∷ 0x00239293 ∷ 0x00201337 ∷ 0x006282b3 ∷ 0xc0a2a023
    ∷ 0xc002a503 ∷ 0x00100893 ∷ 0x00000073 ∷ 0x00812903 ∷ 0x00c12983 ∷ 0x01010113 ∷ 0x00008067 ∷ []
unfolding encoding_of
loop_words = refl

-- ---- its run

abbrev instructions : (a : ℕ) → List PieceItem → List Instr
instructions a [] = []
instructions a (i ∷ is) = filled (λ g. 0) 0x10000 a i ∷ instructions (a + 4) is

abbrev code : ℕ → Option Instr
code a = if nat_le 0x10000 a then slice_get (instructions 0x10000 items) ((a - 0x10000) / 4) else None

abbrev after : Turn → State → State
after (Continues t) s = t
after (Exits w) s = s
after Traps s = s

abbrev steps : ℕ → State → State
steps zero s = s
steps (suc n) s = steps n (after (executed (code s.pc) s) s)

abbrev called : State
called = record { pc = 0x10000; registers = λ r. if r == 2 then 0x700000 else if r == 1 then 0x20004 else if r == 0 then 0 else 1000 + r; memory = λ a. 0; input = []; output = [] }

seen : State → List ℕ
seen s = s.pc ∷ s.registers 18 ∷ s.registers 19 ∷ s.registers 2 ∷ s.registers 10 ∷ s.memory 0x200c04 ∷ s.output

-- the run comes back with x2, x18 and x19 as they were; the sum is in x10 and in the object, and has been written to the output
ran : seen (steps 24 called) ≡ 0x20004 ∷ 1018 ∷ 1019 ∷ 0x700000 ∷ 1 ∷ 1 ∷ 1 ∷ []
unfolding seen
ran = refl

-- a function that saves nothing has only its return
bare_words : words_of 0x10000 (function_items (λ g. 0) 0 (One Return ∷ [])) ≡ 0x00008067 ∷ []
unfolding encoding_of
bare_words = refl

-- a function that calls another saves x1: addi x2, x2, -4; sw x1, 0(x2); the call; lw x1, 0(x2); addi x2, x2, 4; jalr x0, 0(x1)
calling : function_items (λ g. 0) 0 (One (Call 3) ∷ One Return ∷ [])
    ≡ addi 2 2 0xfffffffc ∷ store_word 2 1 0 ∷ item.Call 3 ∷ load_word 1 2 0 ∷ addi 2 2 4 ∷ Plain (Jalr 0 1 0) ∷ []
calling = refl

-- a leaf that changes only registers that calls destroy has no frame: add x10, x10, x11; jalr x0, 0(x1)
leaf : function_items (λ g. 0) 0 (One (Binary Add 10 10 11) ∷ One Return ∷ []) ≡ Plain (Op operation.Add 10 10 11) ∷ Plain (Jalr 0 1 0) ∷ []
leaf = refl

-- ---- what comes before a frame

-- a test and the return to which it leads: slti x5, x10, 2; beq x5, x0, 8; jalr x0, 0(x1); then the frame, which still has the label and
-- its return
returns_early : function_items (λ g. 0) 0 (BranchImmediate immediate.LtS true 10 2 7 ∷ One (Call 3) ∷ One (Label 7) ∷ One Return ∷ [])
    ≡ Plain (OpImm Slti 5 10 2) ∷ Plain (instr.Branch Beq 5 0 8) ∷ Plain (Jalr 0 1 0) ∷ addi 2 2 0xfffffffc ∷ store_word 2 1 0 ∷ item.Call 3 ∷ load_word 1 2 0 ∷ addi 2 2 4 ∷ Plain (Jalr 0 1 0) ∷ []
returns_early = refl

-- an operation before the test, and one after the label: addi x7, x10, 1; bne x7, x0, 12; addi x10, x0, 5; jalr x0, 0(x1); a jump to an
-- item of the rest goes four items further on
one_more_step :
    function_items (λ g. 0) 1 (Immediate immediate.Add 7 10 1 ∷ One (IfZero 7 9) ∷ One (Copy (Spill 0 10)) ∷ One (Call 3) ∷ One (Jump 8) ∷ One (Label 9) ∷ One (Const 10 5) ∷ One Return ∷ One (Label 8) ∷ One Return ∷ [])
    ≡ addi 7 10 1 ∷ Plain (instr.Branch Bne 7 0 12) ∷ addi 10 0 5 ∷ Plain (Jalr 0 1 0) ∷ addi 2 2 0xfffffff8 ∷ store_word 2 1 4 ∷ store_word 2 10 0 ∷ item.Call 3 ∷ item.Go 13 ∷ addi 10 0 5 ∷ load_word 1 2 4 ∷ addi 2 2 8 ∷ Plain (Jalr 0 1 0)
    ∷ load_word 1 2 4 ∷ addi 2 2 8 ∷ Plain (Jalr 0 1 0) ∷ []
one_more_step = refl

-- nothing comes before the frame if an operation before the test changes a register that the function must leave as it found it, if such an
-- operation comes before the return, or if the function has no frame
saved_before : function_items (λ g. 0) 0 (One (Copy (Between 8 10)) ∷ One (IfZero 10 7) ∷ One (Call 3) ∷ One (Label 7) ∷ One Return ∷ [])
    ≡ whole_items (λ g. 0) 0 (One (Copy (Between 8 10)) ∷ One (IfZero 10 7) ∷ One (Call 3) ∷ One (Label 7) ∷ One Return ∷ [])
saved_before = refl

saved_behind : function_items (λ g. 0) 0 (One (IfZero 10 7) ∷ One (Call 3) ∷ One (Label 7) ∷ One (Const 8 1) ∷ One Return ∷ []) ≡ whole_items (λ g. 0) 0 (One (IfZero 10 7) ∷ One (Call 3) ∷ One (Label 7) ∷ One (Const 8 1) ∷ One Return ∷ [])
saved_behind = refl

no_frame : function_items (λ g. 0) 0 (One (IfZero 10 7) ∷ One (Const 10 1) ∷ One (Label 7) ∷ One Return ∷ []) ≡ whole_items (λ g. 0) 0 (One (IfZero 10 7) ∷ One (Const 10 1) ∷ One (Label 7) ∷ One Return ∷ [])
no_frame = refl

-- ---- words and numbers within an operation

-- the word as an immediate, its negative as an immediate, and the word as a number of bits; the result also goes into the register that is
-- read
words : function_items (λ g. 0) 0 (Immediate immediate.Add 7 10 5 ∷ Immediate immediate.Sub 7 10 5 ∷ Immediate immediate.ShrS 7 10 31 ∷ Immediate immediate.Sub 10 10 2048 ∷ Immediate immediate.And 7 10 0xfffff800 ∷ [])
    ≡ addi 7 10 5 ∷ addi 7 10 0xfffffffb ∷ Plain (Shift Srai 7 10 31) ∷ addi 10 10 0xfffff800 ∷ Plain (OpImm Andi 7 10 0xfffff800) ∷ []
words = refl

-- element 1 of an object at 0x200800, whose address has a negative lower part
elements : function_items (λ g. 0x200000 + 2048 * g) 0 (LoadAt Word 1 7 1 ∷ StoreAt Word 1 1 7 ∷ []) ≡ Plain (Lui 6 0x201) ∷ load_word 7 6 0xfffff804 ∷ store_word 6 7 0xfffff804 ∷ []
elements = refl

-- bytes: an element whose number is in a register, stored and loaded, and elements whose numbers are known
bytes : function_items (object_address (record { width = Byte; elements = 5 } ∷ record { width = Byte; elements = 3 } ∷ [])) 0 (One (Store Byte 1 7 10) ∷ One (Load Byte 1 10 7) ∷ LoadAt Byte 1 7 2 ∷ StoreAt Byte 1 2 10 ∷ [])
    ≡ Plain (Lui 6 0x200) ∷ Plain (Op operation.Add 5 7 6) ∷ store_element Byte 5 10 8 ∷ load_element Byte 10 5 8 ∷ load_element Byte 7 6 10 ∷ store_element Byte 6 10 10 ∷ []
bytes = refl

-- 300 is stored in byte 1 of the second object, which keeps only 44; the bytes around it stay: 0xaabbccdd becomes 0xaabb2cdd
abbrev byte_instructions : List Instr
byte_instructions =
    instructions 0x10000 (function_items (object_address (record { width = Byte; elements = 5 } ∷ record { width = Byte; elements = 3 } ∷ [])) 0 (map One (Const 7 1 ∷ Const 10 300 ∷ Store Byte 1 7 10 ∷ Load Byte 1 10 7 ∷ Write ∷ Return ∷ [])))

abbrev byte_code : ℕ → Option Instr
byte_code a = if nat_le 0x10000 a then slice_get byte_instructions ((a - 0x10000) / 4) else None

abbrev byte_steps : ℕ → State → State
byte_steps zero s = s
byte_steps (suc n) s = byte_steps n (after (executed (byte_code s.pc) s) s)

bytes_seen : State → List ℕ
bytes_seen s = s.pc ∷ s.registers 10 ∷ s.memory 0x200008 ∷ s.memory 0x200004 ∷ s.output

bytes_ran : bytes_seen (byte_steps 9 (record called { memory = λ a. 0xaabbccdd })) ≡ 0x20004 ∷ 44 ∷ 0xaabb2cdd ∷ 0xaabbccdd ∷ 44 ∷ []
unfolding bytes_seen
bytes_ran = refl

-- ---- what x5 and x6 hold; object g lies at 0x200000 + 16 * g

abbrev near_by : ℕ → ℕ
near_by g = 0x200000 + 16 * g

-- element x7 of object 0, from its number: slli x5, x7, 2; lui x6, 0x200; add x5, x5, x6; then the access
abbrev whole : (access : PieceItem) → List PieceItem → List PieceItem
whole access items = Plain (Shift Slli 5 7 2) ∷ Plain (Lui 6 0x200) ∷ Plain (Op operation.Add 5 5 6) ∷ access ∷ items

-- if x6 has the upper part: slli x5, x7, 2; add x5, x5, x6; then the access
abbrev with_upper : (access : PieceItem) → List PieceItem → List PieceItem
with_upper access items = Plain (Shift Slli 5 7 2) ∷ Plain (Op operation.Add 5 5 6) ∷ access ∷ items

-- the same element again, and the one with the same number in another object with the same upper part: only the accesses
again : function_items near_by 0 (One (Load Word 0 10 7) ∷ One (Load Word 0 11 7) ∷ One (Store Word 1 7 10) ∷ []) ≡ whole (load_word 10 5 0) (load_word 11 5 0 ∷ store_word 5 10 16 ∷ [])
again = refl

-- nearby elements: the next one, and the one before the first of all globals
near_elements : function_items near_by 0 (One (Load Word 0 10 7) ∷ LoadNear Word 0 11 7 1 ∷ StoreNear Word 0 7 0xffffffff 11 ∷ []) ≡ whole (load_word 10 5 0) (load_word 11 5 4 ∷ store_word 5 11 0xfffffffc ∷ [])
near_elements = refl

-- an element beyond the reach of that upper part; it is within the reach of x3
far_element : items_with near_by false 0 (One (Load Word 0 10 7) ∷ LoadNear Word 0 11 7 512 ∷ [])
    ≡ whole (load_word 10 5 0) (Plain (Shift Slli 5 7 2) ∷ Plain (Lui 6 0x201) ∷ Plain (Op operation.Add 5 5 6) ∷ load_word 11 5 0xfffff800 ∷ [])
far_element = refl

far_by_x3 : function_items near_by 0 (One (Load Word 0 10 7) ∷ LoadNear Word 0 11 7 512 ∷ [])
    ≡ Plain (Lui 3 0x201) ∷ addi 3 3 0xfffff800 ∷ Plain (Shift Slli 5 7 2) ∷ Plain (Op operation.Add 5 5 3) ∷ load_word 10 5 0xfffff800 ∷ load_word 11 5 0 ∷ []
far_by_x3 = refl

-- between the loads the register of the element's number changes; x6 still holds the upper part
number_written : function_items near_by 0 (One (Load Word 0 10 7) ∷ Immediate immediate.Add 7 7 1 ∷ One (Load Word 0 11 7) ∷ []) ≡ whole (load_word 10 5 0) (addi 7 7 1 ∷ with_upper (load_word 11 5 0) [])
number_written = refl

-- the load itself changes the register of the element's number; x6 still holds the upper part
own_number : function_items near_by 0 (One (Load Word 0 7 7) ∷ One (Load Word 0 7 7) ∷ []) ≡ whole (load_word 7 5 0) (with_upper (load_word 7 5 0) [])
own_number = refl

-- x5 is used between the loads, here to test whether a register's word is not 7; x6 still holds the upper part
between : function_items near_by 0 (One (Load Word 0 10 7) ∷ Immediate immediate.Ne 11 10 7 ∷ One (Load Word 0 12 7) ∷ []) ≡ whole (load_word 10 5 0) (addi 5 10 0xfffffff9 ∷ Plain (Op operation.Sltu 11 0 5) ∷ with_upper (load_word 12 5 0) [])
between = refl

-- a word of two parts goes into its own register, and x5 stays as it is
word_between : function_items near_by 0 (One (Load Word 0 10 7) ∷ One (Const 11 0x12345678) ∷ One (Load Word 0 12 7) ∷ []) ≡ whole (load_word 10 5 0) (Plain (Lui 11 0x12345) ∷ addi 11 11 0x678 ∷ load_word 12 5 0 ∷ [])
word_between = refl

-- after a label or a call nothing is known about either register; a branch that is not taken leaves both known
label_between : function_items near_by 0 (One (Load Word 0 10 7) ∷ One (Label 1) ∷ One (Load Word 0 11 7) ∷ []) ≡ whole (load_word 10 5 0) (whole (load_word 11 5 0) [])
label_between = refl

call_between : function_items near_by 0 (One (Load Word 0 10 7) ∷ One (Call 3) ∷ One (Load Word 0 11 7) ∷ []) ≡ addi 2 2 0xfffffffc ∷ store_word 2 1 0 ∷ whole (load_word 10 5 0) (item.Call 3 ∷ whole (load_word 11 5 0) [])
call_between = refl

branch_between : function_items near_by 0 (One (Load Word 0 10 7) ∷ One (IfZero 10 1) ∷ One (Load Word 0 11 7) ∷ One (Label 1) ∷ []) ≡ whole (load_word 10 5 0) (Plain (instr.Branch Beq 10 0 8) ∷ load_word 11 5 0 ∷ [])
branch_between = refl

-- object 256 lies at 0x201000: its upper part replaces the other one in x6, and is still there after an access to the element whose address
-- is in x5
far_between : function_items near_by 0 (One (Load Word 0 10 7) ∷ LoadAt Word 256 11 0 ∷ One (Load Word 0 12 7) ∷ LoadAt Word 256 13 1 ∷ One (Load Word 256 14 7) ∷ [])
    ≡ whole (load_word 10 5 0) (Plain (Lui 6 0x201) ∷ load_word 11 6 0 ∷ load_word 12 5 0 ∷ load_word 13 6 4 ∷ with_upper (load_word 14 5 0) [])
far_between = refl

-- a byte with the same number lies elsewhere: add x5, x7, x6
byte_of_that_number : function_items near_by 0 (One (Load Word 0 10 7) ∷ One (Load Byte 1 11 7) ∷ []) ≡ whole (load_word 10 5 0) (Plain (Op operation.Add 5 7 6) ∷ load_element Byte 11 5 16 ∷ [])
byte_of_that_number = refl

-- ---- x3 as the global pointer

-- lui x3, 0x201; addi x3, x3, -2048
abbrev with_pointer : List PieceItem → List PieceItem
with_pointer items = Plain (Lui 3 0x201) ∷ addi 3 3 0xfffff800 ∷ items

-- three accesses of one instruction each; without x3 each would first set x6 to the upper part: object 1 lies at 0x200010, 2032 bytes
-- before the word in x3
known_by_x3 : function_items near_by 0 (LoadAt Word 1 10 0 ∷ One (Label 1) ∷ LoadAt Word 1 11 0 ∷ One (Label 2) ∷ StoreAt Word 1 2 11 ∷ One Return ∷ [])
    ≡ with_pointer (load_word 10 3 0xfffff810 ∷ load_word 11 3 0xfffff810 ∷ store_word 3 11 0xfffff818 ∷ Plain (Jalr 0 1 0) ∷ [])
known_by_x3 = refl

-- two accesses save no more than setting x3 costs; nor do three if one of them finds the upper part in x6
two_alone : function_items near_by 0 (LoadAt Word 1 10 0 ∷ One (Label 1) ∷ LoadAt Word 1 11 0 ∷ LoadAt Word 2 12 0 ∷ []) ≡ Plain (Lui 6 0x200) ∷ load_word 10 6 16 ∷ Plain (Lui 6 0x200) ∷ load_word 11 6 16 ∷ load_word 12 6 32 ∷ []
two_alone = refl

-- one access in a loop counts as eight; one between a branch and a later label to which it leads does not
in_loop : function_items near_by 0 (One (Label 1) ∷ LoadAt Word 1 10 0 ∷ One (IfZero 10 1) ∷ []) ≡ with_pointer (load_word 10 3 0xfffff810 ∷ Plain (instr.Branch Beq 10 0 0xfffffffc) ∷ [])
in_loop = refl

passed_over : function_items near_by 0 (One (IfZero 10 1) ∷ LoadAt Word 1 10 0 ∷ One (Label 1) ∷ []) ≡ Plain (instr.Branch Beq 10 0 12) ∷ Plain (Lui 6 0x200) ∷ load_word 10 6 16 ∷ []
passed_over = refl

-- elements: slli x5, x7, 2; add x5, x5, x3; the access; one with the same number in another object; for a byte add x5, x7, x3
elements_by_x3 : items_with near_by true 0 (One (Load Word 0 10 7) ∷ One (Store Word 1 7 10) ∷ One (Load Byte 1 11 7) ∷ [])
    ≡ with_pointer (Plain (Shift Slli 5 7 2) ∷ Plain (Op operation.Add 5 5 3) ∷ load_word 10 5 0xfffff800 ∷ store_word 5 10 0xfffff810 ∷ Plain (Op operation.Add 5 7 3) ∷ load_element Byte 11 5 0xfffff810 ∷ [])
elements_by_x3 = refl

-- two elements with the same number, whose objects lie at 0x200000 and 0x200c00 and have different upper parts: the second takes one
-- instruction with x3
other_uppers : function_items near_by 0 (One (Load Word 0 10 7) ∷ One (Load Word 192 11 7) ∷ []) ≡ with_pointer (Plain (Shift Slli 5 7 2) ∷ Plain (Op operation.Add 5 5 3) ∷ load_word 10 5 0xfffff800 ∷ load_word 11 5 1024 ∷ [])
other_uppers = refl

-- objects 240 and 256 lie at 0x200f00, within the reach of x3, and at 0x201000, and have the same upper part: without x3 the second access
-- takes one instruction, with x3 four, so the function does not gain
abbrev from_one_upper : List PieceItem → List PieceItem
from_one_upper items = Plain (Shift Slli 5 7 2) ∷ Plain (Lui 6 0x201) ∷ Plain (Op operation.Add 5 5 6) ∷ load_word 10 5 0xffffff00 ∷ load_word 11 5 0 ∷ items

one_upper : function_items near_by 0
    (One (Label 1) ∷ One (Load Word 240 10 7) ∷ One (Load Word 256 11 7) ∷ One (Label 2) ∷ One (Load Word 240 10 7) ∷ One (Load Word 256 11 7) ∷ One (Label 3) ∷ One (Load Word 240 10 7) ∷ One (Load Word 256 11 7) ∷ [])
    ≡ from_one_upper (from_one_upper (from_one_upper []))
one_upper = refl

-- x3 is not used if x5 already holds the element's address, computed from the upper part
by_upper_first : items_with near_by true 0 (One (Load Word 256 10 7) ∷ One (Load Word 240 11 7) ∷ [])
    ≡ with_pointer (Plain (Shift Slli 5 7 2) ∷ Plain (Lui 6 0x201) ∷ Plain (Op operation.Add 5 5 6) ∷ load_word 10 5 0 ∷ load_word 11 5 0xffffff00 ∷ [])
by_upper_first = refl

-- the last byte within the reach of x3, at 0x200fff, and the word after it, at 0x201000
last_byte : items_with near_by true 0 (LoadAt Byte 255 10 15 ∷ LoadAt Word 255 10 4 ∷ []) ≡ with_pointer (load_element Byte 10 3 2047 ∷ Plain (Lui 6 0x201) ∷ load_word 10 6 0 ∷ [])
last_byte = refl

-- an object at 0x200ff0 begins within the reach of x3 and goes on beyond it: accesses to its elements by a register all use the object's
-- distance from x3
beyond : items_with near_by true 0 (One (Load Word 255 10 7) ∷ []) ≡ with_pointer (Plain (Shift Slli 5 7 2) ∷ Plain (Op operation.Add 5 5 3) ∷ load_word 10 5 2032 ∷ [])
beyond = refl

-- the last word within the reach of x3, at 0x200ffc; object 256 lies at 0x201000, and its upper part stays in x6
farthest : items_with near_by true 0 (LoadAt Word 255 10 3 ∷ LoadAt Word 256 11 0 ∷ LoadAt Word 255 12 0 ∷ LoadAt Word 256 13 1 ∷ [])
    ≡ with_pointer (load_word 10 3 2044 ∷ Plain (Lui 6 0x201) ∷ load_word 11 6 0 ∷ load_word 12 3 2032 ∷ load_word 13 6 4 ∷ [])
farthest = refl

-- x3 is set before the frame is made, and still has its word after a call
behind_call : items_with near_by true 0 (One (Call 3) ∷ LoadAt Word 0 10 0 ∷ One Return ∷ [])
    ≡ with_pointer (addi 2 2 0xfffffffc ∷ store_word 2 1 0 ∷ item.Call 3 ∷ load_word 10 3 0xfffff800 ∷ load_word 1 2 0 ∷ addi 2 2 4 ∷ Plain (Jalr 0 1 0) ∷ [])
behind_call = refl

-- comparisons: less than 2047, and at most 2046; at most 2^32 - 2, and less than 2^32 - 2048, unsigned; equal to 0, and not to 7; more than 0;
-- at least 5; at most a register's word
compared : function_items (λ g. 0) 0
    (Immediate immediate.LtS 7 10 2047 ∷ Immediate immediate.LeS 7 10 2046 ∷ Immediate immediate.LeU 7 10 0xfffffffe ∷ Immediate immediate.LtU 7 10 0xfffff800 ∷ Immediate immediate.Eq 7 10 0 ∷ Immediate immediate.Ne 7 10 7 ∷ Immediate immediate.GtS 7 10 0
    ∷ Immediate immediate.GeS 7 10 5 ∷ One (Binary LeS 7 10 7) ∷ [])
    ≡ Plain (OpImm Slti 7 10 2047) ∷ Plain (OpImm Slti 7 10 2047) ∷ Plain (OpImm Sltiu 7 10 0xffffffff) ∷ Plain (OpImm Sltiu 7 10 0xfffff800) ∷ Plain (OpImm Sltiu 7 10 1) ∷ addi 5 10 0xfffffff9 ∷ Plain (Op operation.Sltu 7 0 5) ∷ Plain (Op operation.Slt 7 0 10)
    ∷ Plain (OpImm Slti 5 10 5) ∷ Plain (OpImm Sltiu 7 5 1) ∷ Plain (Op operation.Slt 5 7 10) ∷ Plain (OpImm Sltiu 7 5 1) ∷ []
compared = refl

-- ---- branches on comparisons, back to a label at the front

abbrev branch : BranchOperation → (left right offset : ℕ) → PieceItem
branch o a b n = Plain (instr.Branch o a b n)

-- two registers: less; not at most, unsigned, so the right one is less; not equal
on_registers : function_items (λ g. 0) 0 (One (Label 1) ∷ Branch LtS true 10 11 1 ∷ Branch LeU false 10 11 1 ∷ Branch LeS true 10 11 1 ∷ Branch Ne true 10 11 1 ∷ [])
    ≡ branch Blt 10 11 0 ∷ branch Bltu 11 10 0xfffffffc ∷ branch Bge 11 10 0xfffffff8 ∷ branch Bne 10 11 0xfffffff4 ∷ []
on_registers = refl

-- comparisons with a word, each replaced by a comparison with 0: equal to 0, at least 0, more than 0, also unsigned, less than 0; less than
-- 1, at most 0, at most -1; less than 1 and at most 0, unsigned; not at least 1, unsigned
against_zero : function_items (λ g. 0) 0
    (One (Label 1) ∷ BranchImmediate immediate.Eq true 10 0 1 ∷ BranchImmediate immediate.GeS true 10 0 1 ∷ BranchImmediate immediate.GtS true 10 0 1 ∷ BranchImmediate immediate.GtU true 10 0 1 ∷ BranchImmediate immediate.LtS true 10 0 1
    ∷ BranchImmediate immediate.LtS true 10 1 1 ∷ BranchImmediate immediate.LeS true 10 0 1 ∷ BranchImmediate immediate.LeS true 10 0xffffffff 1 ∷ BranchImmediate immediate.LtU true 10 1 1 ∷ BranchImmediate immediate.LeU true 10 0 1 ∷ BranchImmediate immediate.GeU false 10 1 1 ∷ [])
    ≡ branch Beq 10 0 0 ∷ branch Bge 10 0 0xfffffffc ∷ branch Blt 0 10 0xfffffff8 ∷ branch Bne 10 0 0xfffffff4 ∷ branch Blt 10 0 0xfffffff0 ∷ branch Bge 0 10 0xffffffec ∷ branch Bge 0 10 0xffffffe8 ∷ branch Blt 10 0 0xffffffe4 ∷ branch Beq 10 0 0xffffffe0
    ∷ branch Beq 10 0 0xffffffdc ∷ branch Beq 10 0 0xffffffd8 ∷ []
against_zero = refl

-- other comparisons need an instruction that sets x5 before the branch: equal to 5; less than 5; at least 5; not different from 5
on_words : function_items (λ g. 0) 0 (One (Label 1) ∷ BranchImmediate immediate.Eq true 10 5 1 ∷ BranchImmediate immediate.LtS true 10 5 1 ∷ BranchImmediate immediate.GeS true 10 5 1 ∷ BranchImmediate immediate.Ne false 10 5 1 ∷ [])
    ≡ addi 5 10 0xfffffffb ∷ branch Beq 5 0 0xfffffffc ∷ Plain (OpImm Slti 5 10 5) ∷ branch Bne 5 0 0xfffffff4 ∷ Plain (OpImm Slti 5 10 5) ∷ branch Beq 5 0 0xffffffec ∷ addi 5 10 0xfffffffb ∷ branch Beq 5 0 0xffffffe4 ∷ []
on_words = refl

-- a far branch: the opposite branch over a jump
far : branch_items false (turned true (comparison LtS 10 11)) 0 5000 ≡ branch Bge 10 11 8 ∷ item.Go 5000 ∷ []
far = refl

-- ---- the number of items of a constant: 2047, 2048, 4096, -2048, -2049, 0x12345678

const_sizes : map const_size (2047 ∷ 2048 ∷ 4096 ∷ 0xfffff800 ∷ 0xfffff7ff ∷ 0x12345678 ∷ []) ≡ 1 ∷ 2 ∷ 1 ∷ 1 ∷ 2 ∷ 2 ∷ []
const_sizes = refl

-- ---- the greatest distance of a near branch's step from its label, in items

farthest_near : map (λ (to : ℕ). is_close 2000 to) (976 ∷ 977 ∷ 3023 ∷ 3024 ∷ []) ≡ false ∷ true ∷ true ∷ false ∷ []
farthest_near = refl
