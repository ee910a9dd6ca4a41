-- What the emitted items of an item of Linear do.
use Rattle.std.proofs.Common.{◌≡◌, ℕ, suc, ◌+◌, ◌-◌, ◌*◌, ◌%◌, ◌^◌, ◌<◌, ◌≤◌, ◌⊎◌, List, [], ◌∷◌, ◌++◌, Option, Some, None, true, false, Bool, refl, sym, ap, ap₂, ◌∙◌, subst, inl, inr, arith}
use Rattle.std.specs.Prelude.{◌==◌, if◌then◌else◌, not, option_map}
use Rattle.cc_words.specs.Words.{add, lt_u}
use Rattle.cc_words.specs.Operators.{apply_unary, apply_binary}
use Rattle.cc_words.specs.declared.operators.Unary as unary
use Rattle.cc_words.specs.declared.operators.Binary as binary
use Rattle.cc_words.specs.Observed.{read_mark}
use Rattle.cc_simulation.specs.Behavior.{AreWords}
use Rattle.cc_simulation.specs.World.{first_or_zero, World, element, next_word, after_read, after_write, with_element}
use Rattle.cc_simulation.specs.Run.{Fails, Goes, tried}
use Rattle.cc_ltl.specs.declared.location.Location.TheVariants.{Register, Slot}
use Rattle.cc_ltl.specs.declared.operation.Move.{Move}
use Rattle.cc_ltl.specs.declared.operation.Move.TheVariants.{Between, Reload, Spill}
use Rattle.cc_ltl.specs.Registers.{IsAllocatable}
use Rattle.cc_ltl.specs.Ltl.{Locations, put}
use Rattle.cc_linear_language.specs.declared.item.LinearItem.TheVariants.{Jump, IfNonzero, IfZero, Copy, Const, Unary, Binary, Load, Store, Read, Write}
use Rattle.cc_select.specs.declared.step.Step.{Step}
use Rattle.cc_select.specs.declared.step.Step.TheVariants.{One}
use Rattle.cc_select.specs.Selected.{at_steps, led, place, selected_move}
use Rattle.cc_rv32.specs.declared.instr.Instr.{Instr}
use Rattle.cc_rv32.specs.declared.instr.Instr.TheVariants as instr
use Rattle.cc_rv32.specs.declared.instr.Instr.TheVariants.{Branch, Ecall, Lui, Op, OpImm, Shift}
use Rattle.cc_rv32.specs.declared.instr.BranchOperation.TheVariants.{Bne}
use Rattle.cc_rv32.specs.declared.instr.ImmediateOperation.TheVariants.{Addi, Sltiu}
use Rattle.cc_rv32.specs.declared.instr.ShiftOperation.TheVariants.{Slli}
use Rattle.cc_rv32.specs.declared.instr.RegisterOperation.TheVariants as operations
use Rattle.cc_rv32.specs.Machine as machine
use Rattle.cc_rv32.specs.declared.instr.LoadOperation.TheVariants.{Lw}
use Rattle.cc_rv32.specs.declared.instr.StoreOperation.TheVariants.{Sw}
use Rattle.cc_emit.specs.Board.{execute_above, is_accessible_above}
use Rattle.cc_rv32.specs.Machine.{Continues, State, Traps, branches, computed, globals_to, is_taken, loaded, puts, stored, with_register, with_word}
use Rattle.cc_words.specs.declared.operators.Width.{Width}
use Rattle.cc_words.specs.declared.operators.Width.TheVariants.{Byte, Word}
use Rattle.cc_words.specs.Widths.{bytes, kept}
use Rattle.cc_emit.specs.declared.item.PieceItem.{PieceItem}
use Rattle.cc_emit.specs.declared.item.PieceItem.TheVariants.{Go, Plain}
use Rattle.cc_emit.specs.declared.condition.Condition.{Condition}
use Rattle.cc_emit.specs.Contract.{Code, IsPlace, Path, Shares, element_place, filled, load_of, store_of}
use Rattle.cc_emit.specs.Frames.{Frame}
use Rattle.cc_emit.specs.Branches.{compares, opposite, turned}
use Rattle.cc_emit.specs.Emission.{access_size, addi, base_register, based, branch_items, branch_size, const_items, const_size, distance, high, indexed, load_element, low, part_of, prologue_size, recipe, recipe_items, recipe_size, store_element, unary_instr, upper_items}
use Rattle.cc_emit.specs.declared.recipe.Recipe.{Recipe}
use Rattle.cc_emit.specs.declared.recipe.Recipe.TheVariants.{Direct, NonzeroOf, ZeroOf, ZeroOfExchanged}
use Rattle.cc_emit.specs.declared.addressed.Remembered.{Remembered}
use Rattle.cc_emit.specs.declared.addressed.Remembered.TheVariants.{Nothing, Upper, Element, ByPointer, ElementByPointer}
use Rattle.cc_emit.specs.declared.scratch.Scratch.{Scratch}
use Rattle.cc_emit.specs.Scratch.{nothing, known_of, address_of, sum_base, without, without_address, behind_recipe, behind_element, behind_at}
use Rattle.cc_emit.proofs.Fine.{IsTarget}
use Rattle.cc_emit.proofs.Basics.{in_stack, high_low, high_word, first_word, eqb_yes, eqb_says, same_first, set_same, set_other, set_twice}
use Rattle.cc_emit.proofs.Bytes.{load_accessible, loaded_word, store_accessible}
use Rattle.cc_emit.proofs.Elements.{IsElement, element_tells, holds, placed}
use Rattle.cc_emit.proofs.Places.{DistanceIs, Nears, close_nears, distance_is, stays_near}
use Rattle.cc_emit.proofs.Branching.{Tells, if_not, led_by, opposite_taken, turned_tells}
use Rattle.cc_emit.proofs.Recipes.{IsRight, recipe_right, binary_word, unary_right, unary_executes}
use Rattle.cc_emit.proofs.Standing.{Site, Standing, Stands, addressed_at, all_addressed, near, labels, machine_step, first_items, standing_tail, standing_from, step_at, jump_step}
use Rattle.cc_emit.proofs.Saving.{load_step, store_step}
use Rattle.cc_emit.proofs.Holding.{IsAddress, IsKnown, IsKnownAt, is_known, element_address, parts_of, upper_stays, address_stays_6}
use Rattle.cc_emit.proofs.Within.{Within, within_set, within_scratch, within_5, within_as, within_nothing, within_pc, within_slot, within_store, within_read, within_write, above_floor}

-- the machine arrives at the items of the steps `next`, after at least one instruction
pub record Reaches (x : Site) (next : List Step) (l : Locations) (h : World) (s : State) : Type 0 where
  pub more : ℕ
  pub to : State
  pub path : Path x.code (suc more) s to
  pub long : ℕ
  pub offset : ℕ
  pub held : Scratch
  pub at : to.pc ≡ x.place + 4 * offset
  pub standing : Standing x held long offset next
  pub within : Within x held l h to

-- the steps make one move, which uses the words of `prefix`
pub record Stepped (x : Site) (ops : List Step) (l : Locations) (h : World) (s : State) : Type 0 where
  pub prefix : List ℕ
  pub are_words : AreWords prefix
  pub next : List Step
  pub locations : Locations
  pub world : World
  pub moves : (ws : List ℕ) → selected_move x.meaning.arity x.steps (at_steps ops l h (prefix ++ ws)) ≡ Goes (at_steps next locations world ws)
  pub reaches : Reaches x next locations world s

-- there is one move, or none because the run goes wrong
abbrev pub Case : (x : Site) (ops : List Step) (l : Locations) (h : World) (s : State) → Type 0
Case x ops l h s = Stepped x ops l h s ⊎ ((ws : List ℕ) → selected_move x.meaning.arity x.steps (at_steps ops l h ws) ≡ Fails)

pub reach_more : (x : Site) (next : List Step) (l : Locations) (h : World) (s u : State) → machine_step x.code s ≡ Continues u → Reaches x next l h u → Reaches x next l h s
reach_more x next l h s u e r = record { more = suc r.more; to = r.to; path = (u, e, r.path); long = r.long; offset = r.offset; held = r.held; at = r.at; standing = r.standing; within = r.within }

-- the machine arrives at item b of the piece
pub record Walked (x : Site) (held : Scratch) (l : Locations) (h : World) (s : State) (b : ℕ) : Type 0 where
  pub more : ℕ
  pub to : State
  pub path : Path x.code (suc more) s to
  pub at : to.pc ≡ x.place + 4 * b
  pub within : Within x held l h to

pub reaches_of : (x : Site) {held : Scratch} (next : List Step) (l : Locations) (h : World) (s : State) (v b : ℕ) → Walked x held l h s b → Standing x held v b next → Reaches x next l h s
reaches_of x {held} next l h s v b r st = record { more = r.more; to = r.to; path = r.path; long = v; offset = b; held = held; at = r.at; standing = st; within = r.within }

pub walk_more : (x : Site) {held : Scratch} (l : Locations) (h : World) (s u : State) (b : ℕ) → machine_step x.code s ≡ Continues u → Walked x held l h u b → Walked x held l h s b
walk_more x l h s u b e r = record { more = suc r.more; to = r.to; path = (u, e, r.path); at = r.at; within = r.within }

pub walk_by : (x : Site) {held : Scratch} (l : Locations) (h : World) (s t : State) (b : ℕ) → machine_step x.code s ≡ Continues t → t.pc ≡ x.place + 4 * b → Within x held l h t → Walked x held l h s b
walk_by x l h s t b e at w = record { more = 0; to = t; path = (t, e, refl); at = at; within = w }

-- the last instruction sets a register, and the machine arrives at the next item
walk_set : (x : Site) {held : Scratch} (l : Locations) (h : World) (s : State) (p b d v : ℕ) (i : Instr) → s.pc ≡ p → x.code.at p ≡ Some i → p + 4 ≡ x.place + 4 * b → execute_above x.code.floor i s ≡ puts d v s → IsTarget x.frame d → v < 2 ^ 32 → Within x held l h s → Walked x (without d held) (put (Register d) v l) h s b
walk_set x l h s p b d v i e f g k u lt w =
    walk_by x (put (Register d) v l) h s (record s { pc = s.pc + 4; registers = with_register s.registers d v }) b (step_at x.code s p i e f ∙ k) (ap (λ n. n + 4) e ∙ g) (within_set x l h s (s.pc + 4) d v u lt w)

-- after the last instruction the machine arrives at the next step
pub reach_by : (x : Site) {held : Scratch} (next : List Step) (l : Locations) (h : World) (s t : State) (v b : ℕ) → machine_step x.code s ≡ Continues t → t.pc ≡ x.place + 4 * b → Standing x held v b next → Within x held l h t → Reaches x next l h s
reach_by x {held} next l h s t v b e at st w = record { more = 0; to = t; path = (t, e, refl); long = v; offset = b; held = held; at = at; standing = st; within = w }

pub reach_set : (x : Site) {held : Scratch} (next : List Step) (l : Locations) (h : World) (s : State) (p q b d v : ℕ) (i : Instr) → s.pc ≡ p → x.code.at p ≡ Some i → p + 4 ≡ x.place + 4 * b → execute_above x.code.floor i s ≡ puts d v s → IsTarget x.frame d → v < 2 ^ 32 → Standing x (without d held) q b next → Within x held l h s → Reaches x next (put (Register d) v l) h s
reach_set x next l h s p q b d v i e f g k u lt st w =
    reach_by x next (put (Register d) v l) h s (record s { pc = s.pc + 4; registers = with_register s.registers d v }) q b (step_at x.code s p i e f ∙ k) (ap (λ n. n + 4) e ∙ g) st (within_set x l h s (s.pc + 4) d v u lt w)

-- the execution of an item makes one move
pub stepped : (x : Site) (ops next : List Step) (l k : Locations) (h g : World) (s : State) → ((ws : List ℕ) → selected_move x.meaning.arity x.steps (at_steps ops l h ws) ≡ Goes (at_steps next k g ws)) → Reaches x next k g s → Stepped x ops l h s
stepped x ops next l k h g s moves r = record { prefix = []; are_words = tt; next = next; locations = k; world = g; moves = moves; reaches = r }

abbrev pub Given : (x : Site) (held : Scratch) (w a : ℕ) (ops : List Step) (l : Locations) (h : World) (s : State) → Type 0
Given x held w a ops l h s = (s.pc ≡ x.place + 4 * a) × Standing x held w a ops × Within x held l h s

pub word_of_register : (x : Site) {held : Scratch} (l : Locations) (h : World) (s : State) (r : ℕ) → IsAllocatable r → Within x held l h s → l (Register r) < 2 ^ 32
word_of_register x l h s r u w = let e = w.same r u in let b = w.sound.registers r in omega arith

-- ---- jumps and branches

-- the items of all steps come after the function's prologue
abbrev pub StandsWhole : Site → Type 0
StandsWhole x = Standing x nothing 0 (prologue_size x.frame) x.steps

-- a jump leads to its label
reach_jump : (x : Site) {held : Scratch} (p n : ℕ) (l : Locations) (h : World) (s : State) → s.pc ≡ p → IsPlace p → x.code.at p ≡ Some (instr.Jal 0 ((x.place + 4 * labels x n + (2 ^ 32 - p)) % 2 ^ 32)) → StandsWhole x → Within x held l h s → Reaches x (place x.steps n) l h s
reach_jump x p n l h s e from f all w =
    let b = labels x n in
    let target = standing_from x n 0 (prologue_size x.frame) x.steps all in
    reach_by x (place x.steps n) l h s (record s { pc = x.place + 4 * b }) _ b (jump_step x.code s p (x.place + 4 * b) e from target.from f) refl target (within_pc x l h s (x.place + 4 * b) (within_nothing x l h s w))

pub jump_case : (x : Site) {held : Scratch} (w a n : ℕ) (rest : List Step) (l : Locations) (h : World) (s : State) → Given x held w a (One (Jump n) ∷ rest) l h s → StandsWhole x → Stepped x (One (Jump n) ∷ rest) l h s
jump_case x w a n rest l h s (e, st, inside) all =
    stepped x (One (Jump n) ∷ rest) (place x.steps n) l l h h s (λ ws. refl) (reach_jump x (x.place + 4 * a) n l h s e st.from (first_items x w a (One (Jump n)) rest st).0 all inside)

-- a branch goes on at one of two places
branch_step : (code : Code) (s : State) (p q : ℕ) (i : Instr) (t : Bool) → s.pc ≡ p → q % 4 ≡ 0 → code.at p ≡ Some i → (to : ℕ) → execute_above code.floor i s ≡ branches t to s → (t ≡ true → to ≡ q) → machine_step code s ≡ Continues (record s { pc = if t then q else p + 4 })
branch_step code s p q i true e z f to k there =
    step_at code s p i e f ∙ k ∙ ap (λ n. if n % 4 == 0 then Continues (record s { pc = n }) else Traps) (there refl) ∙ ap (λ b. if b then Continues (record s { pc = q }) else Traps) (eqb_yes (q % 4) 0 z)
branch_step code s p q i false e z f to k there = step_at code s p i e f ∙ k ∙ ap (λ n. Continues (record s { pc = n + 4 })) e

-- a far branch goes over the jump after it, or the jump is executed
over_reaches : (x : Site) {held : Scratch} (v a n : ℕ) (next rest : List Step) (l : Locations) (h : World) (s : State) (i : Instr) (t : Bool) → s.pc ≡ x.place + 4 * a → Within x held l h s → IsPlace (x.place + 4 * a) → Standing x held v (a + 2) rest → StandsWhole x
    → Stands x (x.place + 4 * a) (Plain i ∷ Go (labels x n) ∷ []) → execute_above x.code.floor i s ≡ branches t (add s.pc 8) s → (if t then rest else place x.steps n) ≡ next → Reaches x next l h s
over_reaches x v a n next rest l h s i true e inside p st all f k same =
    let q = p.to in
    let z = p.aligned in
    let one = branch_step x.code s (x.place + 4 * a) (x.place + 4 * a + 8) i true e (omega arith) f.0 (add s.pc 8) k (λ t. omega arith) in
    reach_by x next l h s (record s { pc = x.place + 4 * a + 8 }) v (a + 2) one (omega arith) (subst (Standing x _ v (a + 2)) same st) (within_pc x l h s (x.place + 4 * a + 8) inside)
over_reaches x v a n next rest l h s i false e inside p st all f k same =
    let q = p.to in
    let z = p.aligned in
    let lo = p.from in
    let up = st.from.to in
    let one = branch_step x.code s (x.place + 4 * a) (x.place + 4 * a + 8) i false e (omega arith) f.0 (add s.pc 8) k (λ t. omega arith) in
    let u : State = record s { pc = x.place + 4 * a + 4 } in
    let here : IsPlace (x.place + 4 * a + 4) = record { aligned = omega arith; from = omega arith; to = omega arith } in
    reach_more x next l h s u one (subst (λ ops. Reaches x ops l h u) same (reach_jump x (x.place + 4 * a + 4) n l h u refl here f.1.0 all (within_pc x l h s (x.place + 4 * a + 4) inside)))

offset_arrives : (place a b y pc : ℕ) → IsPlace (place + 4 * a) → IsPlace (place + 4 * b) → Nears a b → DistanceIs a b y → pc ≡ place + 4 * a → add pc y ≡ place + 4 * b
offset_arrives place a b y pc p q n (inl d) e = let x = p.to in let z = q.to in let u = n.0 in let v = n.1 in let g = d.0 in let k = d.1 in omega arith
offset_arrives place a b y pc p q n (inr d) e = let x = p.to in let z = q.to in let u = n.0 in let v = n.1 in let g = d.0 in let k = d.1 in omega arith

-- a near branch goes to its label, or falls through
short_reaches : (x : Site) {held : Scratch} (v a n : ℕ) (next rest : List Step) (l : Locations) (h : World) (s : State) (i : Instr) (t : Bool) → s.pc ≡ x.place + 4 * a → Within x held l h s → IsPlace (x.place + 4 * a) → Standing x held v (a + 1) rest → StandsWhole x
    → Nears a (labels x n) → Stands x (x.place + 4 * a) (Plain i ∷ []) → execute_above x.code.floor i s ≡ branches t (add s.pc (distance a (labels x n))) s → (if t then place x.steps n else rest) ≡ next → Reaches x next l h s
short_reaches x v a n next rest l h s i true e inside p st all nears f k same =
    let b = labels x n in
    let target = standing_from x n 0 (prologue_size x.frame) x.steps all in
    let there = offset_arrives x.place a b (distance a b) s.pc p target.from nears (distance_is a b) e in
    let one = branch_step x.code s (x.place + 4 * a) (x.place + 4 * b) i true e target.from.aligned f.0 (add s.pc (distance a b)) k (λ t. there) in
    reach_by x next l h s (record s { pc = x.place + 4 * b }) _ b one refl (subst (Standing x nothing _ b) same target) (within_pc x l h s (x.place + 4 * b) (within_nothing x l h s inside))
short_reaches x v a n next rest l h s i false e inside p st all nears f k same =
    let b = labels x n in
    let target = standing_from x n 0 (prologue_size x.frame) x.steps all in
    let there = offset_arrives x.place a b (distance a b) s.pc p target.from nears (distance_is a b) e in
    let one = branch_step x.code s (x.place + 4 * a) (x.place + 4 * b) i false e target.from.aligned f.0 (add s.pc (distance a b)) k (λ t. there) in
    reach_by x next l h s (record s { pc = x.place + 4 * a + 4 }) v (a + 1) one (omega arith) (subst (Standing x _ v (a + 1)) same st) (within_pc x l h s (x.place + 4 * a + 4) inside)

-- a branch in either form leads where its condition says; the opposite branch is taken exactly if this one is not
branch_reaches : (x : Site) {held : Scratch} (v a n : ℕ) (next rest : List Step) (l : Locations) (h : World) (s : State) (c : Condition) (t is : Bool) → s.pc ≡ x.place + 4 * a → Within x held l h s → IsPlace (x.place + 4 * a) → Standing x held v (a + branch_size is) rest → StandsWhole x
    → (is ≡ true → Nears a (labels x n)) → Stands x (x.place + 4 * a) (branch_items is c a (labels x n)) → is_taken c.operation (s.registers c.left) (s.registers c.right) ≡ t → (if t then place x.steps n else rest) ≡ next → Reaches x next l h s
branch_reaches x v a n next rest l h s c t true e inside p st all nears f taken same =
    short_reaches x v a n next rest l h s (Branch c.operation c.left c.right (distance a (labels x n))) t e inside p st all (nears refl) f (ap (λ b. branches b (add s.pc (distance a (labels x n))) s) taken) same
branch_reaches x v a n next rest l h s c t false e inside p st all nears f taken same =
    over_reaches x v a n next rest l h s (Branch (opposite c.operation) c.left c.right 8) (not t) e inside p st all f
    (ap (λ b. branches b (add s.pc 8) s) (opposite_taken c.operation (s.registers c.left) (s.registers c.right) ∙ ap not taken)) (if_not t rest (place x.steps n) ∙ same)

-- a branch on a condition that shows whether a word is not 0, as it is or turned, leads where the word says
pub told_reaches : (x : Site) {held : Scratch} (v a n : ℕ) (rest : List Step) (l : Locations) (h : World) (s : State) (c : Condition) (word : ℕ) (nonzero is : Bool) → s.pc ≡ x.place + 4 * a → Within x held l h s → IsPlace (x.place + 4 * a) → Standing x held v (a + branch_size is) rest → StandsWhole x
    → (is ≡ true → Nears a (labels x n)) → Stands x (x.place + 4 * a) (branch_items is (turned nonzero c) a (labels x n)) → Tells c s.registers word → Reaches x (led nonzero word rest (place x.steps n)) l h s
told_reaches x v a n rest l h s c word nonzero is e inside p st all nears f tells =
    branch_reaches x v a n (led nonzero word rest (place x.steps n)) rest l h s (turned nonzero c) _ is e inside p st all nears f (turned_tells nonzero c s.registers word tells) (led_by nonzero word rest (place x.steps n))

-- a near branch reaches its label from the place of its step
pub near_nears : (x : Site) {held : Scratch} (w a n : ℕ) (ops : List Step) → Standing x held w a ops → near x w n ≡ true → Nears a (labels x n)
near_nears x {held} w a n ops st e = close_nears a (labels x n) (stays_near x.frame (all_addressed x) (addressed_at x held ops) w a n st.seen e)

register_tells : (x : Site) {held : Scratch} (l : Locations) (h : World) (s : State) (r : ℕ) → IsAllocatable r → Within x held l h s → Tells (compares Bne r 0) s.registers (l (Register r))
register_tells x l h s r u w = ap₂ (λ p q. not (p == q)) (sym (w.same r u)) w.sound.zero

pub if_zero_case : (x : Site) {held : Scratch} (w a r n : ℕ) (rest : List Step) (l : Locations) (h : World) (s : State) → Given x held w a (One (IfZero r n) ∷ rest) l h s → StandsWhole x → Stepped x (One (IfZero r n) ∷ rest) l h s
if_zero_case x w a r n rest l h s (e, st, inside) all =
    let ops : List Step = One (IfZero r n) ∷ rest in
    stepped x ops (led false (l (Register r)) rest (place x.steps n)) l l h h s (λ ws. refl)
    (told_reaches x _ a n rest l h s (compares Bne r 0) (l (Register r)) false (near x w n) e inside st.from (standing_tail x w a (One (IfZero r n)) rest st) all (near_nears x w a n ops st) (first_items x w a (One (IfZero r n)) rest st) (register_tells x l h s r st.fine.0 inside))

pub if_nonzero_case : (x : Site) {held : Scratch} (w a r n : ℕ) (rest : List Step) (l : Locations) (h : World) (s : State) → Given x held w a (One (IfNonzero r n) ∷ rest) l h s → StandsWhole x → Stepped x (One (IfNonzero r n) ∷ rest) l h s
if_nonzero_case x w a r n rest l h s (e, st, inside) all =
    let ops : List Step = One (IfNonzero r n) ∷ rest in
    stepped x ops (led true (l (Register r)) rest (place x.steps n)) l l h h s (λ ws. refl)
    (told_reaches x _ a n rest l h s (compares Bne r 0) (l (Register r)) true (near x w n) e inside st.from (standing_tail x w a (One (IfNonzero r n)) rest st) all (near_nears x w a n ops st) (first_items x w a (One (IfNonzero r n)) rest st) (register_tells x l h s r st.fine.0 inside))

-- ---- registers

pub behind_1 : (place a : ℕ) → place + 4 * a + 4 ≡ place + 4 * (a + 1)
behind_1 place a = omega arith

behind_2 : (place a : ℕ) → place + 4 * a + 4 + 4 ≡ place + 4 * (a + 2)
behind_2 place a = omega arith

-- a constant is put into a register, using only its parts that are not zero
const_walks_by : (x : Site) {held : Scratch} (a to word : ℕ) (no_high no_low : Bool) (l : Locations) (h : World) (s : State) → s.pc ≡ x.place + 4 * a → Within x held l h s → IsTarget x.frame to → word < 2 ^ 32 → (no_high ≡ true → high word ≡ 0) → (no_low ≡ true → low word ≡ 0)
    → Stands x (x.place + 4 * a) (if no_high then addi to 0 (low word) ∷ [] else if no_low then Plain (Lui to (high word)) ∷ [] else Plain (Lui to (high word)) ∷ addi to to (low word) ∷ [])
    → Walked x (without to held) (put (Register to) word l) h s (a + (if no_high then 1 else if no_low then 1 else 2))
const_walks_by x a to word true no_low l h s e inside u lt is_high is_low f =
    let zero = inside.sound.zero in
    let none = is_high refl in
    let both = high_low word lt in
    let value : add (s.registers 0) (low word) ≡ word = omega arith in
    walk_set x l h s (x.place + 4 * a) (a + 1) to word (OpImm Addi to 0 (low word)) e f.0 (behind_1 x.place a) (ap (λ n. puts to n s) value) u lt inside
const_walks_by x a to word false true l h s e inside u lt is_high is_low f =
    let none = is_low refl in
    let both = high_low word lt in
    let small = high_word word in
    let value : high word * 2 ^ 12 ≡ word = omega arith in
    walk_set x l h s (x.place + 4 * a) (a + 1) to word (Lui to (high word)) e f.0 (behind_1 x.place a) (ap (λ n. puts to n s) value) u lt inside
const_walks_by x {held} a to word false false l h s e inside u lt is_high is_low f =
    let up = high word * 2 ^ 12 in
    let lo = u.0.0 in
    let t : State = record s { pc = s.pc + 4; registers = with_register s.registers to up } in
    let sum : add (t.registers to) (low word) ≡ word = ap (λ n. add n (low word)) (set_same s.registers to up (omega arith)) ∙ high_low word lt in
    walk_more x (put (Register to) word l) h s t (a + 2) (step_at x.code s (x.place + 4 * a) (Lui to (high word)) e f.0)
    (walk_by x (put (Register to) word l) h t (record t { pc = t.pc + 4; registers = with_register t.registers to word }) (a + 2)
    (step_at x.code t (x.place + 4 * a + 4) (OpImm Addi to to (low word)) (ap (λ n. n + 4) e) f.1.0 ∙ ap (λ n. puts to n t) sum) (ap (λ n. n + 4 + 4) e ∙ behind_2 x.place a)
    (subst (λ (g : ℕ → ℕ). Within x (without to held) (put (Register to) word l) h (record s { pc = s.pc + 4 + 4; registers = g })) (sym (set_twice s.registers to up word)) (within_set x l h s (s.pc + 4 + 4) to word u lt inside)))

pub const_walks : (x : Site) {held : Scratch} (a to word : ℕ) (l : Locations) (h : World) (s : State) → s.pc ≡ x.place + 4 * a → Within x held l h s → IsTarget x.frame to → word < 2 ^ 32 → Stands x (x.place + 4 * a) (const_items to word) → Walked x (without to held) (put (Register to) word l) h s (a + const_size word)
const_walks x a to word l h s e inside u lt f = const_walks_by x a to word (high word == 0) (low word == 0) l h s e inside u lt (eqb_says (high word) 0) (eqb_says (low word) 0) f

pub const_case : (x : Site) {held : Scratch} (w a to word : ℕ) (rest : List Step) (l : Locations) (h : World) (s : State) → Given x held w a (One (Const to word) ∷ rest) l h s → Stepped x (One (Const to word) ∷ rest) l h s
const_case x w a to word rest l h s (e, st, inside) =
    let fine = st.fine.0 in
    stepped x (One (Const to word) ∷ rest) rest l (put (Register to) word l) h h s (λ ws. refl)
    (reaches_of x rest (put (Register to) word l) h s _ (a + const_size word) (const_walks x a to word l h s e inside fine.0 fine.1 (first_items x w a (One (Const to word)) rest st)) (standing_tail x w a (One (Const to word)) rest st))

pub unary_case : (x : Site) {held : Scratch} (w a to b : ℕ) (o : unary.Unary) (rest : List Step) (l : Locations) (h : World) (s : State) → Given x held w a (One (Unary o to b) ∷ rest) l h s → Stepped x (One (Unary o to b) ∷ rest) l h s
unary_case x w a to b o rest l h s (e, st, inside) =
    let fine = st.fine.0 in
    let v = apply_unary o (l (Register b)) in
    let r = unary_right o (s.registers b) (inside.sound.registers b) in
    let same : execute_above x.code.floor (unary_instr o to b) s ≡ puts to v s = unary_executes x.code.floor o to b s inside.sound.zero ∙ ap (λ n. puts to n s) (r.0 ∙ ap (apply_unary o) (sym (inside.same b fine.1))) in
    stepped x (One (Unary o to b) ∷ rest) rest l (put (Register to) v l) h h s (λ ws. refl)
    (reach_set x rest l h s (x.place + 4 * a) _ (a + 1) to v (unary_instr o to b) e (first_items x w a (One (Unary o to b)) rest st).0 (behind_1 x.place a) same fine.0 (subst (λ n. apply_unary o n < 2 ^ 32) (sym (inside.same b fine.1)) r.1) (standing_tail x w a (One (Unary o to b)) rest st) inside)

-- the first instruction sets x5, and the second tests x5
pub asked : (x : Site) {held : Scratch} (w a to v t : ℕ) (i j : Instr) (rest : List Step) (l : Locations) (h : World) (s : State) → s.pc ≡ x.place + 4 * a → Standing x (without to (without_address held)) w (a + 2) rest → Within x held l h s → Stands x (x.place + 4 * a) (Plain i ∷ Plain j ∷ []) → execute_above x.code.floor i s ≡ puts 5 t s → t < 2 ^ 32
    → ((u : State) → u.registers 5 ≡ t → u.registers 0 ≡ 0 → execute_above x.code.floor j u ≡ puts to v u) → IsTarget x.frame to → v < 2 ^ 32 → Reaches x rest (put (Register to) v l) h s
asked x w a to v t i j rest l h s e st inside items value b5 question u lt =
    let s5 : State = record s { pc = s.pc + 4; registers = with_register s.registers 5 t } in
    let w5 = within_5 x l h s (s.pc + 4) t b5 inside in
    reach_more x rest (put (Register to) v l) h s s5 (step_at x.code s (x.place + 4 * a) i e items.0 ∙ value)
    (reach_set x rest l h s5 (x.place + 4 * a + 4) w (a + 2) to v j (ap (λ n. n + 4) e) items.1.0 (behind_2 x.place a) (question s5 refl w5.sound.zero) u lt st w5)

recipe_reaches : (x : Site) {held : Scratch} (w a to b c v : ℕ) (k : Recipe) (rest : List Step) (l : Locations) (h : World) (s : State) → s.pc ≡ x.place + 4 * a → Standing x (behind_recipe k to held) w (a + recipe_size k) rest → Within x held l h s → Stands x (x.place + 4 * a) (recipe_items k to b c) → IsTarget x.frame to → IsAllocatable b → IsAllocatable c
    → IsRight k (l (Register b)) (l (Register c)) v → v < 2 ^ 32 → Reaches x rest (put (Register to) v l) h s
recipe_reaches x w a to b c v (Direct i) rest l h s e st inside items u ub uc right lt =
    let value : computed i (s.registers b) (s.registers c) ≡ v = ap₂ (computed i) (sym (inside.same b ub)) (sym (inside.same c uc)) ∙ right in
    reach_set x rest l h s (x.place + 4 * a) w (a + 1) to v (Op i to b c) e items.0 (behind_1 x.place a) (ap (λ n. puts to n s) value) u lt st inside
recipe_reaches x w a to b c v (ZeroOf i) rest l h s e st inside items u ub uc right lt =
    asked x w a to v (computed i (l (Register b)) (l (Register c))) (Op i 5 b c) (OpImm Sltiu to 5 1) rest l h s e st inside items (ap₂ (λ m n. puts 5 (computed i m n) s) (sym (inside.same b ub)) (sym (inside.same c uc))) right.0 (λ t p z. ap (λ n. puts to (lt_u n 1) t) p ∙ ap (λ n. puts to n t) right.1) u lt
recipe_reaches x w a to b c v (ZeroOfExchanged i) rest l h s e st inside items u ub uc right lt =
    asked x w a to v (computed i (l (Register c)) (l (Register b))) (Op i 5 c b) (OpImm Sltiu to 5 1) rest l h s e st inside items (ap₂ (λ m n. puts 5 (computed i m n) s) (sym (inside.same c uc)) (sym (inside.same b ub))) right.0 (λ t p z. ap (λ n. puts to (lt_u n 1) t) p ∙ ap (λ n. puts to n t) right.1) u lt
recipe_reaches x w a to b c v (NonzeroOf i) rest l h s e st inside items u ub uc right lt =
    asked x w a to v (computed i (l (Register b)) (l (Register c))) (Op i 5 b c) (Op operations.Sltu to 0 5) rest l h s e st inside items (ap₂ (λ m n. puts 5 (computed i m n) s) (sym (inside.same b ub)) (sym (inside.same c uc))) right.0 (λ t p z. ap₂ (λ n k. puts to (lt_u k n) t) p z ∙ ap (λ n. puts to n t) right.1) u lt

binary_at : (x : Site) {held : Scratch} (w a to b c : ℕ) (o : binary.Binary) (rest : List Step) (l : Locations) (h : World) (s : State) → Given x held w a (One (Binary o to b c) ∷ rest) l h s → (z : Option ℕ) → apply_binary o (l (Register b)) (l (Register c)) ≡ z → Case x (One (Binary o to b c) ∷ rest) l h s
binary_at x w a to b c o rest l h s given None is = inr (λ ws. ap (λ z. tried z (λ q. Goes (at_steps rest (put (Register to) q l) h ws))) is)
binary_at x w a to b c o rest l h s (e, st, inside) (Some v) is =
    let fine = st.fine.0 in
    let wb = word_of_register x l h s b fine.1 inside in
    let wc = word_of_register x l h s c fine.2 inside in
    let right = recipe_right o (l (Register b)) (l (Register c)) v wb wc is in
    inl (stepped x (One (Binary o to b c) ∷ rest) rest l (put (Register to) v l) h h s (λ ws. ap (λ z. tried z (λ q. Goes (at_steps rest (put (Register to) q l) h ws))) is)
    (recipe_reaches x _ a to b c v (recipe o) rest l h s e (standing_tail x w a (One (Binary o to b c)) rest st) inside (first_items x w a (One (Binary o to b c)) rest st) fine.0 fine.1 fine.2 right (binary_word o (l (Register b)) (l (Register c)) v wb wc is)))

pub binary_case : (x : Site) {held : Scratch} (w a to b c : ℕ) (o : binary.Binary) (rest : List Step) (l : Locations) (h : World) (s : State) → Given x held w a (One (Binary o to b c) ∷ rest) l h s → Case x (One (Binary o to b c) ∷ rest) l h s
binary_case x w a to b c o rest l h s given = binary_at x w a to b c o rest l h s given (apply_binary o (l (Register b)) (l (Register c))) refl

-- ---- moves

slot_address : (x : Site) {held : Scratch} (l : Locations) (h : World) (s : State) (i : ℕ) → i < x.frame.slots → Within x held l h s → (is_accessible_above x.code.floor 4 (s.registers 2 + 4 * i) ≡ true) × ((s.registers 2 + 4 * i) % 2 ^ 32 ≡ s.registers 2 + 4 * i)
slot_address x l h s i lt w =
    let stack = w.stack in
    let from = above_floor x l h s w in
    let top = x.top in
    let z = x.aligned in
    (in_stack x.code.floor (s.registers 2 + 4 * i) (omega arith) (omega arith) (omega arith), omega arith)

pub copy_case : (x : Site) {held : Scratch} (w a : ℕ) (m : Move) (rest : List Step) (l : Locations) (h : World) (s : State) → Given x held w a (One (Copy m) ∷ rest) l h s → Stepped x (One (Copy m) ∷ rest) l h s
copy_case x w a (Between to b) rest l h s (e, st, inside) =
    let fine = st.fine.0 in
    let q = inside.same b fine.1 in
    let lt = inside.sound.registers b in
    let same : add (s.registers b) 0 ≡ l (Register b) = omega arith in
    stepped x (One (Copy (Between to b)) ∷ rest) rest l (put (Register to) (l (Register b)) l) h h s (λ ws. refl)
    (reach_set x rest l h s (x.place + 4 * a) _ (a + 1) to (l (Register b)) (OpImm Addi to b 0) e (first_items x w a (One (Copy (Between to b))) rest st).0 (behind_1 x.place a) (ap (λ n. puts to n s) same) fine.0 (omega arith) (standing_tail x w a (One (Copy (Between to b))) rest st) inside)
copy_case x w a (Reload to i) rest l h s (e, st, inside) =
    let fine = st.fine.0 in
    let at = s.registers 2 + 4 * i in
    let ok = slot_address x l h s i fine.1 inside in
    let v = l (Slot i) in
    let value : s.memory at ≡ v = sym (inside.slots i fine.1) in
    let step = load_step x.code s Lw (x.place + 4 * a) to 2 (4 * i) at e (first_items x w a (One (Copy (Reload to i))) rest st).0 ok.1 ok.0 ∙ ap (λ n. puts to n s) value in
    let lt = inside.sound.memory at in
    stepped x (One (Copy (Reload to i)) ∷ rest) rest l (put (Register to) v l) h h s (λ ws. refl)
    (reach_by x rest (put (Register to) v l) h s (record s { pc = s.pc + 4; registers = with_register s.registers to v }) _ (a + 1) step (ap (λ n. n + 4) e ∙ behind_1 x.place a) (standing_tail x w a (One (Copy (Reload to i))) rest st) (within_set x l h s (s.pc + 4) to v fine.0 (omega arith) inside))
copy_case x w a (Spill i b) rest l h s (e, st, inside) =
    let fine = st.fine.0 in
    let at = s.registers 2 + 4 * i in
    let ok = slot_address x l h s i fine.0 inside in
    let v = l (Register b) in
    let step = store_step x.code s Sw (x.place + 4 * a) 2 b (4 * i) at e (first_items x w a (One (Copy (Spill i b))) rest st).0 ok.1 ok.0 ∙ ap (λ n. Continues (record s { pc = s.pc + 4; memory = with_word s.memory at n })) (sym (inside.same b fine.1)) in
    stepped x (One (Copy (Spill i b)) ∷ rest) rest l (put (Slot i) v l) h h s (λ ws. refl)
    (reach_by x rest (put (Slot i) v l) h s (record s { pc = s.pc + 4; memory = with_word s.memory at v }) _ (a + 1) step (ap (λ n. n + 4) e ∙ behind_1 x.place a) (standing_tail x w a (One (Copy (Spill i b))) rest st) (within_slot x l h s (s.pc + 4) i v fine.0 (word_of_register x l h s b fine.1 inside) inside))

-- ---- objects

-- the states after the instructions that compute an element's address
abbrev shifted : State → ℕ → State
shifted s i = record s { pc = s.pc + 4; registers = with_register s.registers 5 ((s.registers i * 4) % 2 ^ 32) }

abbrev pub uppered : Remembered → State → ℕ → State
uppered Nothing s b = record s { pc = s.pc + 4; registers = with_register s.registers 6 (high b * 2 ^ 12) }
uppered known s b = s

-- the state after the sum of a base in one register and a distance in another is written to x5
abbrev pub added : State → (base distance : ℕ) → State
added s q r = record s { pc = s.pc + 4; registers = with_register s.registers 5 (add (s.registers r) (s.registers q)) }

abbrev pub at_element : Remembered → Width → State → (i b : ℕ) → State
at_element Element w s i b = s
at_element ElementByPointer w s i b = s
at_element known Byte s i b = added (uppered known s b) (base_register known) i
at_element known Word s i b = added (uppered known (shifted s i) b) (base_register known) 5

-- the number of the instructions that compute an element's address
abbrev pub upper_before : Remembered → ℕ
upper_before Nothing = 1
upper_before known = 0

abbrev pub before : Remembered → Width → ℕ
before Element w = 0
before ElementByPointer w = 0
before known Byte = upper_before known + 1
before known Word = upper_before known + 2

-- ---- what is known after the instructions that compute an element's address

uppered_same : (known : Remembered) (s : State) (b r : ℕ) → (r ≡ 6 → ⊥) → (uppered known s b).registers r ≡ s.registers r
uppered_same Nothing s b r n = set_other s.registers 6 (high b * 2 ^ 12) r n
uppered_same Upper s b r n = refl
uppered_same Element s b r n = refl
uppered_same ByPointer s b r n = refl
uppered_same ElementByPointer s b r n = refl

-- once x6 is set as needed, the register from which an address is reached holds the address's base
pub base_held : (known : Remembered) (s : State) (b : ℕ) → IsKnownAt known b s.registers → (uppered known s b).registers (base_register known) ≡ sum_base known b
base_held Nothing s b known = set_same s.registers 6 (high b * 2 ^ 12) (omega arith)
base_held Upper s b known = known
base_held Element s b known = absurd known
base_held ByPointer s b known = known.0
base_held ElementByPointer s b known = absurd known

-- x6 is set if it has to be, and what is known about x5 stays true
pub within_upper : (x : Site) {held : Scratch} (known : Remembered) (l : Locations) (h : World) (s : State) (b : ℕ) → IsKnownAt known b s.registers → Within x held l h s → Within x (behind_at known held b) l h (uppered known s b)
within_upper x Nothing l h s b known w =
    within_scratch x _ l h s (s.pc + 4) 6 (high b * 2 ^ 12) (omega arith) (omega arith) (high_word b)
    (record { upper = set_same s.registers 6 (high b * 2 ^ 12) (omega arith); address = address_stays_6 _ s.registers (high b * 2 ^ 12) w.holds.address }) w
within_upper x Upper l h s b known w = within_as x _ l h s (record { upper = known; address = w.holds.address }) w
within_upper x Element l h s b known w = absurd known
within_upper x ByPointer l h s b known w = within_as x _ l h s (record { upper = w.holds.upper; address = w.holds.address }) w
within_upper x ElementByPointer l h s b known w = absurd known

-- once x5 has become the sum of a base and a distance in bytes, that sum is known
within_added : (x : Site) {held : Scratch} (l : Locations) (h : World) (s : State) (width : Width) (q r i o : ℕ) → add (s.registers r) (s.registers q) ≡ (bytes width * s.registers i + o) % 2 ^ 32 → IsAllocatable i → Within x held l h s
    → Within x (record { upper = held.upper; address = Some (address_of width i o) }) l h (added s q r)
within_added x {held} l h s width q r i o sum ui w =
    let v = add (s.registers r) (s.registers q) in
    let lo = ui.0 in
    within_scratch x _ l h s (s.pc + 4) 5 v (omega arith) (omega arith) (omega arith)
    (record {
      upper = upper_stays held.upper s.registers (with_register s.registers 5 v) (set_other s.registers 5 v 6 (λ e. omega arith)) w.holds.upper;
      address = (ui, set_same s.registers 5 v (omega arith) ∙ sum ∙ ap (λ n. (bytes width * n + o) % 2 ^ 32) (sym (set_other s.registers 5 v i (λ e. omega arith))));
    }) w

sum_bytes : (i base sum_base : ℕ) → base ≡ sum_base → (i + base) % 2 ^ 32 ≡ (1 * i + sum_base) % 2 ^ 32
sum_bytes i base sum_base d = omega arith

sum_words : (i k five base sum_base : ℕ) → five ≡ (i * 4) % 2 ^ 32 → k ≡ i → base ≡ sum_base → (five + base) % 2 ^ 32 ≡ (4 * k + sum_base) % 2 ^ 32
sum_words i k five base sum_base e d q = omega arith

within_shifted : (x : Site) {held : Scratch} (l : Locations) (h : World) (s : State) (i : ℕ) → Within x held l h s → Within x (without_address held) l h (shifted s i)
within_shifted x l h s i w = within_5 x l h s (s.pc + 4) ((s.registers i * 4) % 2 ^ 32) (omega arith) w

shifted_same : (s : State) (i r : ℕ) → (r ≡ 5 → ⊥) → (shifted s i).registers r ≡ s.registers r
shifted_same s i r n = set_other s.registers 5 _ r n

-- the address is computed from a number of bytes, or from a number of words
within_byte : (x : Site) {held : Scratch} (known : Remembered) (l : Locations) (h : World) (s : State) (i b : ℕ) → IsKnownAt known b s.registers → IsAllocatable i → Within x held l h s
    → Within x (behind_element known held Byte b i) l h (added (uppered known s b) (base_register known) i)
within_byte x known l h s i b is ui w =
    let u = uppered known s b in
    within_added x l h u Byte (base_register known) i i (sum_base known b) (sum_bytes (u.registers i) (u.registers (base_register known)) (sum_base known b) (base_held known s b is)) ui (within_upper x known l h s b is w)

within_word : (x : Site) {held : Scratch} (known : Remembered) (l : Locations) (h : World) (s : State) (i b : ℕ) → IsKnownAt known b (shifted s i).registers → IsAllocatable i → Within x held l h s
    → Within x (behind_element known held Word b i) l h (added (uppered known (shifted s i) b) (base_register known) 5)
within_word x known l h s i b is ui w =
    let lo = ui.0 in
    let t = shifted s i in
    let u = uppered known t b in
    let five : u.registers 5 ≡ (s.registers i * 4) % 2 ^ 32 = uppered_same known t b 5 (λ e. omega arith) ∙ set_same s.registers 5 _ (omega arith) in
    let same : u.registers i ≡ s.registers i = uppered_same known t b i (λ e. omega arith) ∙ shifted_same s i i (λ e. omega arith) in
    within_added x l h u Word (base_register known) 5 i (sum_base known b) (sum_words (s.registers i) (u.registers i) (u.registers 5) (u.registers (base_register known)) (sum_base known b) five same (base_held known t b is)) ui
    (within_upper x known l h t b is (within_shifted x l h s i w))

-- what is known after all instructions that compute the address
pub within_element : (x : Site) {held : Scratch} (known : Remembered) (l : Locations) (h : World) (width : Width) (s : State) (i b : ℕ) → IsKnown known width b i s.registers → IsAllocatable i → Within x held l h s
    → Within x (behind_element known held width b i) l h (at_element known width s i b)
within_element x Nothing l h Byte s i b known ui w = within_byte x Nothing l h s i b tt ui w
within_element x Nothing l h Word s i b known ui w = within_word x Nothing l h s i b tt ui w
within_element x Upper l h Byte s i b known ui w = within_byte x Upper l h s i b known ui w
within_element x Upper l h Word s i b known ui w = within_word x Upper l h s i b (shifted_same s i 6 (λ e. omega arith) ∙ known) ui w
within_element x ByPointer l h Byte s i b known ui w = within_byte x ByPointer l h s i b known ui w
within_element x ByPointer l h Word s i b known ui w = within_word x ByPointer l h s i b (shifted_same s i 3 (λ e. omega arith) ∙ known.0, known.1) ui w
within_element x Element l h width s i b known ui w = within_as x _ l h s (record { upper = w.holds.upper; address = (ui, known) }) w
within_element x ElementByPointer l h width s i b known ui w = within_as x _ l h s (record { upper = w.holds.upper; address = (ui, known.0) }) w

-- ---- the machine arrives at the access

pub uppered_reaches : (x : Site) (next : List Step) (k : Locations) (g : World) (known : Remembered) (s : State) (p b : ℕ) (items : List PieceItem) → s.pc ≡ p → Stands x p (upper_items known b ++ items)
    → (Stands x (p + 4 * upper_before known) items → (uppered known s b).pc ≡ p + 4 * upper_before known → Reaches x next k g (uppered known s b)) → Reaches x next k g s
uppered_reaches x next k g Nothing s p b items e f go =
    let four : p + 4 ≡ p + 4 * 1 = omega arith in
    reach_more x next k g s (uppered Nothing s b) (step_at x.code s p (Lui 6 (high b)) e f.0) (go (subst (λ n. Stands x n items) four f.1) (ap (λ n. n + 4) e ∙ four))
uppered_reaches x next k g Upper s p b items e f go = (let none : p ≡ p + 4 * 0 = omega arith in go (subst (λ n. Stands x n items) none f) (e ∙ none))
uppered_reaches x next k g Element s p b items e f go = (let none : p ≡ p + 4 * 0 = omega arith in go (subst (λ n. Stands x n items) none f) (e ∙ none))
uppered_reaches x next k g ByPointer s p b items e f go = (let none : p ≡ p + 4 * 0 = omega arith in go (subst (λ n. Stands x n items) none f) (e ∙ none))
uppered_reaches x next k g ElementByPointer s p b items e f go = (let none : p ≡ p + 4 * 0 = omega arith in go (subst (λ n. Stands x n items) none f) (e ∙ none))

-- if the machine is at `item`, n items after p, it arrives at the next step
abbrev Arrives : (x : Site) (next : List Step) (k : Locations) (g : World) (p n : ℕ) (item : PieceItem) (t : State) → Type 0
Arrives x next k g p n item t = x.code.at (p + 4 * n) ≡ Some (filled x.places x.place (p + 4 * n) item) → t.pc ≡ p + 4 * n → Reaches x next k g t

based_reaches : (x : Site) (next : List Step) (k : Locations) (g : World) (known : Remembered) (s : State) (p r b : ℕ) (item : PieceItem) → s.pc ≡ p → Stands x p (based known b r (item ∷ [])) → Arrives x next k g p (upper_before known + 1) item (added (uppered known s b) (base_register known) r)
    → Reaches x next k g s
based_reaches x next k g known s p r b item e f go =
    uppered_reaches x next k g known s p b (Plain (Op operations.Add 5 r (base_register known)) ∷ item ∷ []) e f
    (λ stands at.
    let u = uppered known s b in
    let q = p + 4 * upper_before known in
    let four : q + 4 ≡ p + 4 * (upper_before known + 1) = omega arith in
    reach_more x next k g u (added u (base_register known) r) (step_at x.code u q (Op operations.Add 5 r (base_register known)) at stands.0) (go (subst (λ n. x.code.at n ≡ Some (filled x.places x.place n item)) four stands.1.0) (ap (λ n. n + 4) at ∙ four)))

shifted_reaches : (x : Site) (next : List Step) (k : Locations) (g : World) (known : Remembered) (s : State) (p i b : ℕ) (item : PieceItem) → s.pc ≡ p → Stands x p (Plain (Shift Slli 5 i 2) ∷ based known b 5 (item ∷ []))
    → Arrives x next k g p (upper_before known + 2) item (added (uppered known (shifted s i) b) (base_register known) 5) → Reaches x next k g s
shifted_reaches x next k g known s p i b item e f go =
    let t = shifted s i in
    reach_more x next k g s t (step_at x.code s p (Shift Slli 5 i 2) e f.0)
    (based_reaches x next k g known t (p + 4) 5 b item (ap (λ n. n + 4) e) f.1
    (λ stands at.
    let long : p + 4 + 4 * (upper_before known + 1) ≡ p + 4 * (upper_before known + 2) = omega arith in
    go (subst (λ n. x.code.at n ≡ Some (filled x.places x.place n item)) long stands) (at ∙ long)))

-- the machine arrives at the load or store of an element
pub element_reaches : (x : Site) (next : List Step) (k : Locations) (g : World) (known : Remembered) (w : Width) (s : State) (p i b : ℕ) (item : PieceItem) → s.pc ≡ p → Stands x p (indexed known w b i (item ∷ [])) → Arrives x next k g p (before known w) item (at_element known w s i b)
    → Reaches x next k g s
element_reaches x next k g Nothing Byte s p i b item e f go = based_reaches x next k g Nothing s p i b item e f go
element_reaches x next k g Upper Byte s p i b item e f go = based_reaches x next k g Upper s p i b item e f go
element_reaches x next k g Nothing Word s p i b item e f go = shifted_reaches x next k g Nothing s p i b item e f go
element_reaches x next k g Upper Word s p i b item e f go = shifted_reaches x next k g Upper s p i b item e f go
element_reaches x next k g ByPointer Byte s p i b item e f go = based_reaches x next k g ByPointer s p i b item e f go
element_reaches x next k g ByPointer Word s p i b item e f go = shifted_reaches x next k g ByPointer s p i b item e f go
element_reaches x next k g Element w s p i b item e f go =
    (let none : p ≡ p + 4 * 0 = omega arith in go (subst (λ n. x.code.at n ≡ Some (filled x.places x.place n item)) none f.0) (e ∙ none))
element_reaches x next k g ElementByPointer w s p i b item e f go =
    (let none : p ≡ p + 4 * 0 = omega arith in go (subst (λ n. x.code.at n ≡ Some (filled x.places x.place n item)) none f.0) (e ∙ none))

behind_access : (known : Remembered) (w : Width) (place a : ℕ) → place + 4 * a + 4 * before known w + 4 ≡ place + 4 * (a + access_size known w)
behind_access Nothing Byte place a = omega arith
behind_access Nothing Word place a = omega arith
behind_access Upper Byte place a = omega arith
behind_access Upper Word place a = omega arith
behind_access Element w place a = omega arith
behind_access ByPointer Byte place a = omega arith
behind_access ByPointer Word place a = omega arith
behind_access ElementByPointer w place a = omega arith

same_memory : (known : Remembered) (w : Width) (s : State) (i b : ℕ) → (at_element known w s i b).memory ≡ s.memory
same_memory Nothing Byte s i b = refl
same_memory Nothing Word s i b = refl
same_memory Upper Byte s i b = refl
same_memory Upper Word s i b = refl
same_memory Element w s i b = refl
same_memory ByPointer Byte s i b = refl
same_memory ByPointer Word s i b = refl
same_memory ElementByPointer w s i b = refl

-- the place of an element is the sum of what x5 holds of its address and the object's part of the address
abbrev pub Leads : Width → (index at b : ℕ) → (word : ℕ) → Type 0
Leads width i at b word = (o part : ℕ) (f : ℕ → ℕ) → f i ≡ word → (o + part) % 2 ^ 32 ≡ b → IsAddress width i o f → (f 5 + part) % 2 ^ 32 ≡ at

-- the machine loads or stores element n of an object: register i leads to it from the base b, which is the object's address or lies nearby
pub loaded_reaches : (x : Site) {held : Scratch} (v a : ℕ) (width : Width) (g to i b n word : ℕ) (rest : List Step) (l : Locations) (h : World) (s : State) → s.pc ≡ x.place + 4 * a → b < 2 ^ 32 → Leads width i (element_place width (x.layout.base g) n) b (l (Register i)) → IsElement h width g n word → IsTarget x.frame to → IsAllocatable i
    → Stands x (x.place + 4 * a) (indexed (known_of x.frame.sets_pointer held width b i) width b i (load_element width to 5 (part_of (known_of x.frame.sets_pointer held width b i) b) ∷ []))
    → Standing x (without to (behind_element (known_of x.frame.sets_pointer held width b i) held width b i)) v (a + access_size (known_of x.frame.sets_pointer held width b i) width) rest → Within x held l h s → Reaches x rest (put (Register to) word l) h s
loaded_reaches x {held} v a width g to i b n word rest l h s e small leads there target ui items st inside =
    let at = element_place width (x.layout.base g) n in
    let p = x.place + 4 * a in
    let lies = placed x h s width g n word inside.shares there in
    let from = lies.from in
    let below = lies.below in
    let known = known_of x.frame.sets_pointer held width b i in
    let told = is_known x.frame.sets_pointer (x.from.registers 3) held width b i s.registers inside.pointer inside.holds in
    let u = at_element known width s i b in
    let wu = within_element x known l h width s i b told ui inside in
    let value : loaded (load_of width) u.memory at ≡ word = ap (λ (m : ℕ → ℕ). loaded (load_of width) m at) (same_memory known width s i b) ∙ holds x h s width g n word inside.shares there in
    let lv : word < 2 ^ 32 = (let q = loaded_word width u.memory at wu.sound.memory in omega arith) in
    let address = leads (sum_base known b) (part_of known b) u.registers (sym (wu.same i ui)) (parts_of known width b i s.registers small told) wu.holds.address.1 in
    let t : State = record u { pc = u.pc + 4; registers = with_register u.registers to word } in
    element_reaches x rest (put (Register to) word l) h known width s p i b (load_element width to 5 (part_of known b)) e items
    (λ stands pc.
    reach_by x rest (put (Register to) word l) h u t v (a + access_size known width)
    (load_step x.code u (load_of width) (p + 4 * before known width) to 5 (part_of known b) at pc stands address (load_accessible x.code.floor width at lies.aligned (omega arith) lies.below) ∙ ap (λ n. puts to n u) value)
    (ap (λ n. n + 4) pc ∙ behind_access known width x.place a) st (within_set x l h u (u.pc + 4) to word target lv wu))

pub stored_reaches : (x : Site) {held : Scratch} (v a : ℕ) (width : Width) (g i r b n old : ℕ) (rest : List Step) (l : Locations) (h : World) (s : State) → s.pc ≡ x.place + 4 * a → b < 2 ^ 32 → Leads width i (element_place width (x.layout.base g) n) b (l (Register i)) → IsElement h width g n old → IsAllocatable i → IsAllocatable r
    → Stands x (x.place + 4 * a) (indexed (known_of x.frame.sets_pointer held width b i) width b i (store_element width 5 r (part_of (known_of x.frame.sets_pointer held width b i) b) ∷ []))
    → Standing x (behind_element (known_of x.frame.sets_pointer held width b i) held width b i) v (a + access_size (known_of x.frame.sets_pointer held width b i) width) rest → Within x held l h s → Reaches x rest l (with_element h g n (kept width (l (Register r)))) s
stored_reaches x {held} v a width g i r b n old rest l h s e small leads there ui ur items st inside =
    let at = element_place width (x.layout.base g) n in
    let p = x.place + 4 * a in
    let lies = placed x h s width g n old inside.shares there in
    let from = lies.from in
    let below = lies.below in
    let k = with_element h g n (kept width (l (Register r))) in
    let known = known_of x.frame.sets_pointer held width b i in
    let told = is_known x.frame.sets_pointer (x.from.registers 3) held width b i s.registers inside.pointer inside.holds in
    let u = at_element known width s i b in
    let wu = within_element x known l h width s i b told ui inside in
    let address = leads (sum_base known b) (part_of known b) u.registers (sym (wu.same i ui)) (parts_of known width b i s.registers small told) wu.holds.address.1 in
    let t : State = record u { pc = u.pc + 4; memory = stored (store_of width) u.memory at (l (Register r)) } in
    element_reaches x rest l k known width s p i b (store_element width 5 r (part_of known b)) e items
    (λ stands pc.
    reach_by x rest l k u t v (a + access_size known width)
    (store_step x.code u (store_of width) (p + 4 * before known width) 5 r (part_of known b) at pc stands address (store_accessible x.code.floor width at lies.aligned (omega arith) lies.below)
    ∙ ap (λ n. Continues (record u { pc = u.pc + 4; memory = stored (store_of width) u.memory at n })) (sym (wu.same r ur)))
    (ap (λ n. n + 4) pc ∙ behind_access known width x.place a) st (within_store x l h u (u.pc + 4) width g n (l (Register r)) old there (word_of_register x l h s r ur inside) wu))

-- an object's address is a word, and an element of it lies within the globals
pub base_word : (x : Site) (h : World) (s : State) (width : Width) (g n v : ℕ) → Shares x.layout s h → IsElement h width g n v → (x.layout.base g < 2 ^ 32) × (element_place width (x.layout.base g) n < 2 ^ 32)
base_word x h s width g n v sh there = let below = (placed x h s width g n v sh there).below in let low = x.layout.to g in (omega arith, omega arith)

load_at : (x : Site) {held : Scratch} (w a : ℕ) (width : Width) (g to i : ℕ) (rest : List Step) (l : Locations) (h : World) (s : State) → Given x held w a (One (Load width g to i) ∷ rest) l h s → (z : Option ℕ) → element h width g (l (Register i)) ≡ z → Case x (One (Load width g to i) ∷ rest) l h s
load_at x w a width g to i rest l h s given None is = inr (λ ws. ap (λ z. tried z (λ q. Goes (at_steps rest (put (Register to) q l) h ws))) is)
load_at x {held} w a width g to i rest l h s (e, st, inside) (Some v) is =
    let n = l (Register i) in
    let there = element_tells h width g n v is in
    let words = base_word x h s width g n v inside.shares there in
    inl (stepped x (One (Load width g to i) ∷ rest) rest l (put (Register to) v l) h h s (λ ws. ap (λ z. tried z (λ q. Goes (at_steps rest (put (Register to) q l) h ws))) is)
    (loaded_reaches x _ a width g to i (x.layout.base g) n v rest l h s e words.0 (λ o part f same both is_at. element_address width i (x.layout.base g) n o part f same words.1 both is_at) there st.fine.0.0 st.fine.0.1
    (first_items x w a (One (Load width g to i)) rest st) (standing_tail x w a (One (Load width g to i)) rest st) inside))

pub load_case : (x : Site) {held : Scratch} (w a : ℕ) (width : Width) (g to i : ℕ) (rest : List Step) (l : Locations) (h : World) (s : State) → Given x held w a (One (Load width g to i) ∷ rest) l h s → Case x (One (Load width g to i) ∷ rest) l h s
load_case x w a width g to i rest l h s given = load_at x w a width g to i rest l h s given (element h width g (l (Register i))) refl

store_at : (x : Site) {held : Scratch} (w a : ℕ) (width : Width) (g i r : ℕ) (rest : List Step) (l : Locations) (h : World) (s : State) → Given x held w a (One (Store width g i r) ∷ rest) l h s → (z : Option ℕ) → element h width g (l (Register i)) ≡ z → Case x (One (Store width g i r) ∷ rest) l h s
store_at x w a width g i r rest l h s given None is = inr (λ ws. ap (λ z. tried (option_map (λ old. with_element h g (l (Register i)) (kept width (l (Register r)))) z) (λ k. Goes (at_steps rest l k ws))) is)
store_at x {held} w a width g i r rest l h s (e, st, inside) (Some v) is =
    let n = l (Register i) in
    let there = element_tells h width g n v is in
    let words = base_word x h s width g n v inside.shares there in
    inl (stepped x (One (Store width g i r) ∷ rest) rest l l h (with_element h g n (kept width (l (Register r)))) s (λ ws. ap (λ z. tried (option_map (λ old. with_element h g (l (Register i)) (kept width (l (Register r)))) z) (λ k. Goes (at_steps rest l k ws))) is)
    (stored_reaches x _ a width g i r (x.layout.base g) n v rest l h s e words.0 (λ o part f same both is_at. element_address width i (x.layout.base g) n o part f same words.1 both is_at) there st.fine.0.0 st.fine.0.1
    (first_items x w a (One (Store width g i r)) rest st) (standing_tail x w a (One (Store width g i r)) rest st) inside))

pub store_case : (x : Site) {held : Scratch} (w a : ℕ) (width : Width) (g i r : ℕ) (rest : List Step) (l : Locations) (h : World) (s : State) → Given x held w a (One (Store width g i r) ∷ rest) l h s → Case x (One (Store width g i r) ∷ rest) l h s
store_case x w a width g i r rest l h s given = store_at x w a width g i r rest l h s given (element h width g (l (Register i))) refl

-- ---- input and output

not_kept : (f : Frame) (r : ℕ) → 10 ≤ r → r ≤ 17 → IsTarget f r
not_kept f r lo hi = ((omega arith, omega arith), λ k. elim k [ inl q ↦ absurd (omega arith) | inr q ↦ absurd (omega arith) ])

-- the state after x17 is set to a service's number
numbered : State → ℕ → State
numbered s n = record s { pc = s.pc + 4; registers = with_register s.registers 17 n }

number_step : (x : Site) {held : Scratch} (l : Locations) (h : World) (s : State) (p n : ℕ) → s.pc ≡ p → n < 2 ^ 32 → x.code.at p ≡ Some (OpImm Addi 17 0 n) → Within x held l h s → machine_step x.code s ≡ Continues (numbered s n)
unfolding numbered
number_step x l h s p n e lt f w =
    let value : add (s.registers 0) n ≡ n = (let z = w.sound.zero in omega arith) in
    step_at x.code s p (OpImm Addi 17 0 n) e f ∙ ap (λ v. puts 17 v s) value

number_within : (x : Site) {held : Scratch} (l : Locations) (h : World) (s : State) (n : ℕ) → n < 2 ^ 32 → Within x held l h s → Within x (without 17 held) (put (Register 17) n l) h (numbered s n)
unfolding numbered
number_within x l h s n lt w = within_set x l h s (s.pc + 4) 17 n (not_kept x.frame 17 (omega arith) (omega arith)) lt w

pub write_case : (x : Site) {held : Scratch} (w a : ℕ) (rest : List Step) (l : Locations) (h : World) (s : State) → Given x held w a (One (Write) ∷ rest) l h s → Stepped x (One (Write) ∷ rest) l h s
unfolding numbered
write_case x w a rest l h s (e, st, inside) =
    let items = first_items x w a (One Write) rest st in
    let u = numbered s 1 in
    let wu = number_within x l h s 1 (omega arith) inside in
    let k = put (Register 17) 1 l in
    let v = l (Register 10) in
    let t : State = record u { pc = u.pc + 4; output = u.output ++ (v ∷ []) } in
    let step : machine_step x.code u ≡ Continues t = step_at x.code u (x.place + 4 * a + 4) Ecall (ap (λ n. n + 4) e) items.1.0 ∙ ap (λ v. Continues (record u { pc = u.pc + 4; output = u.output ++ (v ∷ []) })) (sym (inside.same 10 (omega arith, omega arith))) in
    record {
      prefix = 1 ∷ [];
      are_words = (omega arith, tt);
      next = rest;
      locations = k;
      world = after_write v h;
      moves = λ ws. refl;
      reaches = reach_more x rest k (after_write v h) s u (number_step x l h s (x.place + 4 * a) 1 e (omega arith) items.0 inside)
          (reach_by x rest k (after_write v h) u t _ (a + 2) step (ap (λ n. n + 4 + 4) e ∙ behind_2 x.place a) (standing_tail x w a (One Write) rest st) (within_pc x k (after_write v h) (record u { output = u.output ++ (v ∷ []) }) (u.pc + 4) (within_write x k h u v wu)));
    }

pub read_case : (x : Site) {held : Scratch} (w a : ℕ) (rest : List Step) (l : Locations) (h : World) (s : State) → Given x held w a (One (Read) ∷ rest) l h s → Stepped x (One (Read) ∷ rest) l h s
unfolding numbered
read_case x w a rest l h s (e, st, inside) =
    let items = first_items x w a (One Read) rest st in
    let u = numbered s 2 in
    let wu = number_within x l h s 2 (omega arith) inside in
    let v = next_word h in
    let k = put (Register 10) v (put (Register 17) 2 l) in
    let t : State = record u { pc = u.pc + 4; registers = with_register u.registers 10 v; input = machine.rest_of u.input; output = u.output ++ (read_mark ∷ []) } in
    let same : machine.first_or_zero u.input ≡ v = same_first u.input ∙ ap first_or_zero inside.shares.input in
    let lt : v < 2 ^ 32 = subst (λ n. n < 2 ^ 32) (sym (same_first u.input) ∙ same) (first_word u.input inside.sound.input) in
    let step : machine_step x.code u ≡ Continues t = step_at x.code u (x.place + 4 * a + 4) Ecall (ap (λ n. n + 4) e) items.1.0 ∙ ap (λ n. Continues (record u { pc = u.pc + 4; registers = with_register u.registers 10 n; input = machine.rest_of u.input; output = u.output ++ (read_mark ∷ []) })) same in
    let set_v = within_set x (put (Register 17) 2 l) h u (u.pc + 4) 10 v (not_kept x.frame 10 (omega arith) (omega arith)) lt wu in
    record {
      prefix = 2 ∷ [];
      are_words = (omega arith, tt);
      next = rest;
      locations = k;
      world = after_read h;
      moves = λ ws. refl;
      reaches = reach_more x rest k (after_read h) s u (number_step x l h s (x.place + 4 * a) 2 e (omega arith) items.0 inside)
          (reach_by x rest k (after_read h) u t _ (a + 2) step (ap (λ n. n + 4 + 4) e ∙ behind_2 x.place a) (standing_tail x w a (One Read) rest st) (within_read x k h (record u { pc = u.pc + 4; registers = with_register u.registers 10 v }) set_v));
    }
