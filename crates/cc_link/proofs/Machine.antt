-- Runs of the machine: the run along a path, and runs of more instructions.
use Rattle.std.proofs.Common.{◌≡◌, ℕ, zero, suc, ◌+◌, ◌-◌, ◌≤◌, List, [], ◌∷◌, ◌++◌, Option, Some, None, Bool, true, false, if◌then◌else◌, refl, sym, ap, ◌∙◌, subst, arith}
use Rattle.std.specs.Prelude.{◌==◌, ◌%◌}
use Rattle.cc_rv32.specs.declared.instr.Instr.{Instr}
use Rattle.cc_rv32.specs.declared.instr.Instr.TheVariants.{Op, OpImm, Shift, Load, Store, Branch, Lui, Auipc, Jal, Jalr, Ecall}
use Rattle.cc_rv32.specs.declared.outcome.MachineOutcome.{MachineOutcome}
use Rattle.cc_rv32.specs.declared.outcome.MachineOutcome.TheVariants.{Going as Runs, Exited, Trapped}
use Rattle.cc_words.specs.Observed.{read_mark}
use Rattle.cc_rv32.specs.Machine.{State, Turn, Continues, Exits, Traps, Run, turned, run_on, machine_run, observed, execute, executed, instruction_at, stack_from, branches, jumps, load_bytes, store_bytes, loaded, stored, is_taken, with_register, first_or_zero, rest_of}
use Rattle.cc_words.specs.Words.{add}
use Rattle.cc_simulation.specs.Behavior.{IsPrefixOf}
use Rattle.cc_emit.specs.Board.{execute_above, executed_above, is_accessible_above, run_on_above, run_above}
use Rattle.cc_emit.specs.Contract.{Code, Path}
use Rattle.cc_link.specs.Agree.{shown}
use Rattle.cc_simulation.proofs.Behaving.{begins_refl, begins_on}
use Rattle.cc_link.proofs.Counting.{GoesOn}

abbrev pub going : State → Run
going s = record { state = s; outcome = Runs }

-- the lowest address of a machine's stack, and how many bytes of stack each call has
pub record Stack : Type 0 where
  pub floor : ℕ
  pub low : stack_from ≤ floor
  pub need : (function opened : ℕ) → ℕ

abbrev pub on_stack : Stack → (ℕ → Option Instr) → Code
on_stack stack at = record { at = at; floor = stack.floor; low = stack.low; need = stack.need }

pub run_path : (stack : Stack) (code : List ℕ) (m k : ℕ) (s t : State) → Path (on_stack stack (instruction_at code)) m s t → run_above stack.floor code (m + k) (going s) ≡ run_above stack.floor code k (going t)
unfolding run_above
run_path stack code zero k s t p =
    let e : 0 + k ≡ k = omega arith in
    ap (λ n. run_above stack.floor code n (going s)) e ∙ ap (λ x. run_above stack.floor code k (going x)) p
run_path stack code (suc m) k s t p =
    let e : suc m + k ≡ suc (m + k) = omega arith in
    ap (λ n. run_above stack.floor code n (going s)) e ∙ ap (λ (x : Turn). run_above stack.floor code (m + k) (turned s x)) p.1 ∙ run_path stack code m k p.0 t p.2

abbrev TurnGrows : List ℕ → Turn → Type 0
TurnGrows o (Continues u) = IsPrefixOf o u.output
TurnGrows o (Exits w) = Unit {0}
TurnGrows o Traps = Unit {0}

either : (o : List ℕ) (b : Bool) (x y : Turn) → TurnGrows o x → TurnGrows o y → TurnGrows o (if b then x else y)
either o true x y h k = h
either o false x y h k = k

when : (o : List ℕ) (b : Bool) (u : State) → IsPrefixOf o u.output → TurnGrows o (if b then Continues u else Traps)
when o true u h = h
when o false u h = tt

jumps_grows : (d to : ℕ) (s : State) → TurnGrows s.output (jumps d to s)
jumps_grows d to s = when s.output (to % 4 == 0) (record s { pc = to; registers = with_register s.registers d (s.pc + 4) }) (begins_refl s.output)

branches_grows : (b : Bool) (to : ℕ) (s : State) → TurnGrows s.output (branches b to s)
branches_grows true to s = when s.output (to % 4 == 0) (record s { pc = to }) (begins_refl s.output)
branches_grows false to s = begins_refl s.output

exits : (o : List ℕ) (b : Bool) (w : ℕ) → TurnGrows o (if b then Exits w else Traps)
exits o true w = tt
exits o false w = tt

execute_grows : (floor : ℕ) (i : Instr) (s : State) → TurnGrows s.output (execute_above floor i s)
execute_grows floor (Op o d s1 s2) s = begins_refl s.output
execute_grows floor (OpImm o d s1 i) s = begins_refl s.output
execute_grows floor (Shift o d s1 k) s = begins_refl s.output
execute_grows floor (Load o d s1 i) s = let a = add (s.registers s1) i in when s.output (is_accessible_above floor (load_bytes o) a) (record s { pc = s.pc + 4; registers = with_register s.registers d (loaded o s.memory a) }) (begins_refl s.output)
execute_grows floor (Store o s1 s2 i) s = let a = add (s.registers s1) i in when s.output (is_accessible_above floor (store_bytes o) a) (record s { pc = s.pc + 4; memory = stored o s.memory a (s.registers s2) }) (begins_refl s.output)
execute_grows floor (Branch o s1 s2 i) s = branches_grows (is_taken o (s.registers s1) (s.registers s2)) (add s.pc i) s
execute_grows floor (Lui d u) s = begins_refl s.output
execute_grows floor (Auipc d u) s = begins_refl s.output
execute_grows floor (Jal d i) s = jumps_grows d (add s.pc i) s
execute_grows floor (Jalr d s1 i) s = let a = add (s.registers s1) i in jumps_grows d (a - a % 2) s
execute_grows floor Ecall s =
    let x = Continues (record s { pc = s.pc + 4; output = s.output ++ (s.registers 10 ∷ []) }) in
    let y = Continues (record s { pc = s.pc + 4; registers = with_register s.registers 10 (first_or_zero s.input); input = rest_of s.input; output = s.output ++ (read_mark ∷ []) }) in
    let z = if s.registers 17 == 93 then Exits (s.registers 10) else Traps in
    let w : IsPrefixOf s.output (s.output ++ (s.registers 10 ∷ [])) = (s.registers 10 ∷ [], refl) in
    let r : IsPrefixOf s.output (s.output ++ (read_mark ∷ [])) = (read_mark ∷ [], refl) in
    either s.output (s.registers 17 == 1) x (if s.registers 17 == 2 then y else z) w (either s.output (s.registers 17 == 2) y z r (exits s.output (s.registers 17 == 93) (s.registers 10)))

executed_grows : (floor : ℕ) (i : Option Instr) (s : State) → TurnGrows s.output (executed_above floor i s)
executed_grows floor None s = tt
executed_grows floor (Some i) s = execute_grows floor i s

turned_on : (s : State) (t : Turn) → TurnGrows s.output t → IsPrefixOf s.output (turned s t).state.output
turned_on s (Continues u) h = h
turned_on s (Exits w) h = begins_refl s.output
turned_on s Traps h = begins_refl s.output

pub ended_run : (floor : ℕ) (code : List ℕ) (k w : ℕ) (s : State) → run_above floor code k (record { state = s; outcome = Exited w }) ≡ record { state = s; outcome = Exited w }
unfolding run_above
ended_run floor code zero w s = refl
ended_run floor code (suc k) w s = ended_run floor code k w s

trapped_run : (floor : ℕ) (code : List ℕ) (k : ℕ) (s : State) → run_above floor code k (record { state = s; outcome = Trapped }) ≡ record { state = s; outcome = Trapped }
unfolding run_above
trapped_run floor code zero s = refl
trapped_run floor code (suc k) s = trapped_run floor code k s

grows : (floor : ℕ) (code : List ℕ) (k : ℕ) (o : MachineOutcome) (s : State) → IsPrefixOf s.output (run_above floor code k (record { state = s; outcome = o })).state.output
unfolding run_above
grows floor code zero o s = begins_refl s.output
grows floor code (suc k) Runs s =
    let r = turned s (executed_above floor (instruction_at code s.pc) s) in
    begins_on _ _ _ (turned_on s (executed_above floor (instruction_at code s.pc) s) (executed_grows floor (instruction_at code s.pc) s)) (grows floor code k r.outcome r.state)
grows floor code (suc k) (Exited w) s = grows floor code k (Exited w) s
grows floor code (suc k) Trapped s = grows floor code k Trapped s

pub run_add : (floor : ℕ) (code : List ℕ) (m n : ℕ) (r : Run) → run_above floor code (m + n) r ≡ run_above floor code n (run_above floor code m r)
unfolding run_above
run_add floor code zero n r = let e : 0 + n ≡ n = omega arith in ap (λ k. run_above floor code k r) e
run_add floor code (suc m) n r = let e : suc m + n ≡ suc (m + n) = omega arith in ap (λ k. run_above floor code k r) e ∙ run_add floor code m n (run_on_above floor code r.outcome r.state)

on_from : (floor : ℕ) (code : List ℕ) (k : ℕ) (o : MachineOutcome) (s : State) → GoesOn (shown (observed (record { state = s; outcome = o }))) (shown (observed (run_above floor code k (record { state = s; outcome = o }))))
on_from floor code k Runs s = record { output = grows floor code k Runs s; stays = tt }
on_from floor code k (Exited w) s = record { output = grows floor code k (Exited w) s; stays = ap (λ r. shown (observed r)) (ended_run floor code k w s) }
on_from floor code k Trapped s = record { output = grows floor code k Trapped s; stays = ap (λ r. shown (observed r)) (trapped_run floor code k s) }

pub run_more : (floor : ℕ) (code : List ℕ) (m k : ℕ) (r : Run) → GoesOn (shown (observed (run_above floor code m r))) (shown (observed (run_above floor code (m + k) r)))
run_more floor code m k r =
    let x = run_above floor code m r in
    subst (λ y. GoesOn (shown (observed (run_above floor code m r))) (shown (observed y))) (sym (run_add floor code m k r)) (on_from floor code k x.outcome x.state)

-- ---- the whole machine is the one whose stack begins at `stack_from`

same_execute : (i : Instr) (s : State) → execute_above stack_from i s ≡ execute i s
same_execute (Op o d s1 s2) s = refl
same_execute (OpImm o d s1 i) s = refl
same_execute (Shift o d s1 k) s = refl
same_execute (Load o d s1 i) s = refl
same_execute (Store o s1 s2 i) s = refl
same_execute (Branch o s1 s2 i) s = refl
same_execute (Lui d u) s = refl
same_execute (Auipc d u) s = refl
same_execute (Jal d i) s = refl
same_execute (Jalr d s1 i) s = refl
same_execute Ecall s = refl

same_executed : (i : Option Instr) (s : State) → executed_above stack_from i s ≡ executed i s
same_executed None s = refl
same_executed (Some i) s = same_execute i s

same_on : (code : List ℕ) (o : MachineOutcome) (s : State) → run_on_above stack_from code o s ≡ run_on code o s
same_on code Runs s = ap (turned s) (same_executed (instruction_at code s.pc) s)
same_on code (Exited w) s = refl
same_on code Trapped s = refl

pub whole : (code : List ℕ) (n : ℕ) (r : Run) → run_above stack_from code n r ≡ machine_run code n r
unfolding run_above machine_run
whole code zero r = refl
whole code (suc n) r = ap (run_above stack_from code n) (same_on code r.outcome r.state) ∙ whole code n (run_on code r.outcome r.state)
