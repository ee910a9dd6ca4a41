-- The machine of a board with less stack. It is the machine of the instruction table, except that a load or a store from `stack_from` to
-- `floor` traps.
use Rattle.std.specs.Prelude.{ℕ, zero, suc, ◌+◌, ◌-◌, ◌%◌, Bool, ◌&&◌, ◌||◌, ◌==◌, nat_lt, nat_le, if◌then◌else◌, List, Option, Some, None}
use Rattle.cc_words.specs.Words.{add}
use Rattle.cc_rv32.specs.declared.instr.Instr.{Instr}
use Rattle.cc_rv32.specs.declared.instr.Instr.TheVariants.{Load, Store}
use Rattle.cc_rv32.specs.declared.outcome.MachineOutcome.{MachineOutcome}
use Rattle.cc_rv32.specs.declared.outcome.MachineOutcome.TheVariants.{Going, Exited, Trapped}
use Rattle.cc_rv32.specs.declared.image.Image.{Image}
use Rattle.cc_rv32.specs.Machine.{State, Turn, Continues, Traps, Run, Behavior, globals_from, globals_to, stack_to, puts, loaded, stored, load_bytes, store_bytes, execute, instruction_at, turned, start, observed}

-- whether data of the board lies at an address: in the globals, or in the stack from `floor` on
abbrev pub is_data_above : (floor a : ℕ) → Bool
is_data_above floor a = (nat_le globals_from a && nat_lt a globals_to) || (nat_le floor a && nat_lt a stack_to)

abbrev pub is_accessible_above : (floor bytes a : ℕ) → Bool
is_accessible_above floor bytes a = (a % bytes == 0) && is_data_above floor a

-- a load or a store traps unless its address is accessible on the board; every other instruction does what it does on the whole machine
abbrev pub execute_above : (floor : ℕ) → Instr → State → Turn
execute_above floor (Load o d s1 i) s = let a = add (s.registers s1) i in if is_accessible_above floor (load_bytes o) a then puts d (loaded o s.memory a) s else Traps
execute_above floor (Store o s1 s2 i) s = let a = add (s.registers s1) i in if is_accessible_above floor (store_bytes o) a then Continues (record s { pc = s.pc + 4; memory = stored o s.memory a (s.registers s2) }) else Traps
execute_above floor i s = execute i s

abbrev pub executed_above : (floor : ℕ) → Option Instr → State → Turn
executed_above floor None s = Traps
executed_above floor (Some i) s = execute_above floor i s

abbrev pub run_on_above : (floor : ℕ) (code : List ℕ) → MachineOutcome → State → Run
run_on_above floor code Going s = turned s (executed_above floor (instruction_at code s.pc) s)
run_on_above floor code (Exited w) s = record { state = s; outcome = Exited w }
run_on_above floor code Trapped s = record { state = s; outcome = Trapped }

-- a run after at most n more instructions
unfoldable pub run_above : (floor : ℕ) (code : List ℕ) (n : ℕ) → Run → Run
run_above floor code zero r = r
run_above floor code (suc n) r = run_above floor code n (run_on_above floor code r.outcome r.state)

-- what an image does within n instructions, its reads among what it writes, on a board with memory for this many bytes of stack
abbrev pub backed_behavior : (bytes : ℕ) → Image → (input : List ℕ) (n : ℕ) → Behavior
backed_behavior bytes image input n = observed (run_above (stack_to - bytes) image.code n (start image input))
