-- Entry and return: x2 moves, and the registers of a list are saved or restored one by one.
use Rattle.std.proofs.Common.{◌≡◌, ℕ, suc, ◌+◌, ◌*◌, ◌%◌, ◌^◌, ◌<◌, ◌≤◌, List, [], ◌∷◌, Bool, Some, true, false, length, refl, sym, ap, ap₂, ◌∙◌, subst, inl, inr, arith}
use Rattle.std.specs.Prelude.{if◌then◌else◌, ◌==◌}
use Rattle.std.proofs.lemmas.Bool.Decides.{eqb_tells}
use Rattle.cc_rv32.specs.declared.instr.Instr.TheVariants.{Load, OpImm, Store}
use Rattle.cc_rv32.specs.declared.instr.ImmediateOperation.TheVariants.{Addi}
use Rattle.cc_rv32.specs.declared.instr.LoadOperation.{LoadOperation}
use Rattle.cc_rv32.specs.declared.instr.LoadOperation.TheVariants.{Lw}
use Rattle.cc_rv32.specs.declared.instr.StoreOperation.{StoreOperation}
use Rattle.cc_rv32.specs.declared.instr.StoreOperation.TheVariants.{Sw}
use Rattle.cc_rv32.specs.Machine.{Continues, State, Traps, load_bytes, loaded, puts, store_bytes, stored, stack_to, with_register, with_word}
use Rattle.cc_words.specs.Words.{add}
use Rattle.cc_emit.specs.Board.{is_accessible_above}
use Rattle.cc_emit.specs.Contract.{Code, IsKept, Path, Placed}
use Rattle.cc_emit.specs.Frames.{Frame, frame_size}
use Rattle.cc_emit.specs.Emission.{addi, restoring, saving, stack_moved, stack_moved_size}
use Rattle.cc_emit.proofs.Fine.{AreSavable, IsSavable, Member}
use Rattle.cc_emit.proofs.Basics.{eqb_says, eqb_denies, set_same, set_other, set_word, with_same, word_same, word_other, word_word, in_stack}
use Rattle.cc_emit.proofs.Standing.{machine_step, step_at}
use Rattle.cc_emit.proofs.Within.{SavedAt}

pub load_step : (code : Code) (s : State) (o : LoadOperation) (a d b i at : ℕ) → s.pc ≡ a → code.at a ≡ Some (Load o d b i) → (s.registers b + i) % 2 ^ 32 ≡ at → is_accessible_above code.floor (load_bytes o) at ≡ true
    → machine_step code s ≡ Continues (record s { pc = s.pc + 4; registers = with_register s.registers d (loaded o s.memory at) })
load_step code s o a d b i at e f to ok =
    step_at code s a (Load o d b i) e f ∙ ap (λ n. if is_accessible_above code.floor (load_bytes o) n then puts d (loaded o s.memory n) s else Traps) to ∙ ap (λ t. if t then puts d (loaded o s.memory at) s else Traps) ok

pub store_step : (code : Code) (s : State) (o : StoreOperation) (a b r i at : ℕ) → s.pc ≡ a → code.at a ≡ Some (Store o b r i) → (s.registers b + i) % 2 ^ 32 ≡ at → is_accessible_above code.floor (store_bytes o) at ≡ true
    → machine_step code s ≡ Continues (record s { pc = s.pc + 4; memory = stored o s.memory at (s.registers r) })
store_step code s o a b r i at e f to ok =
    step_at code s a (Store o b r i) e f ∙ ap (λ n. if is_accessible_above code.floor (store_bytes o) n then Continues (record s { pc = s.pc + 4; memory = stored o s.memory n (s.registers r) }) else Traps) to
    ∙ ap (λ t. if t then Continues (record s { pc = s.pc + 4; memory = stored o s.memory at (s.registers r) }) else Traps) ok

-- the memory after the registers of a list are saved
abbrev pub with_saved : List ℕ → (a : ℕ) → (registers memory : ℕ → ℕ) → ℕ → ℕ
with_saved [] a f m = m
with_saved (r ∷ rs) a f m = with_saved rs (a + 4) f (with_word m a (f r))

pub saved_below : (rs : List ℕ) (a : ℕ) (f m : ℕ → ℕ) (b : ℕ) → b < a → with_saved rs a f m b ≡ m b
saved_below [] a f m b lt = refl
saved_below (r ∷ rs) a f m b lt = saved_below rs (a + 4) f (with_word m a (f r)) b (omega arith) ∙ word_other m a (f r) b (λ e. omega arith)

pub saved_above : (rs : List ℕ) (a : ℕ) (f m : ℕ → ℕ) (b : ℕ) → a + 4 * length rs ≤ b → with_saved rs a f m b ≡ m b
saved_above [] a f m b le = refl
saved_above (r ∷ rs) a f m b le = saved_above rs (a + 4) f (with_word m a (f r)) b (omega arith) ∙ word_other m a (f r) b (λ e. omega arith)

pub saved_words : (rs : List ℕ) (a : ℕ) (f m : ℕ → ℕ) → ((r : ℕ) → f r < 2 ^ 32) → ((b : ℕ) → m b < 2 ^ 32) → (b : ℕ) → with_saved rs a f m b < 2 ^ 32
saved_words [] a f m p q b = q b
saved_words (r ∷ rs) a f m p q b = saved_words rs (a + 4) f (with_word m a (f r)) p (word_word m a (f r) (p r) q) b

pub saved_at : (rs : List ℕ) (a : ℕ) (f m : ℕ → ℕ) → SavedAt rs a f (with_saved rs a f m)
saved_at [] a f m = tt
saved_at (r ∷ rs) a f m = (saved_below rs (a + 4) f (with_word m a (f r)) a (omega arith) ∙ word_same m a (f r), saved_at rs (a + 4) f (with_word m a (f r)))

pub saving_path : (code : Code) (places : ℕ → ℕ) (place : ℕ) (rs : List ℕ) (o : ℕ) (s : State) → Placed code places place s.pc (saving o rs) → (s.registers 2 + o) % 4 ≡ 0 → code.floor ≤ s.registers 2 + o → s.registers 2 + o + 4 * length rs ≤ stack_to
    → Path code (length rs) s (record s { pc = s.pc + 4 * length rs; memory = with_saved rs (s.registers 2 + o) s.registers s.memory })
saving_path code places place [] o s p z from to = ap (λ n. record s { pc = n }) (let e : s.pc ≡ s.pc + 4 * 0 = omega arith in e)
saving_path code places place (r ∷ rs) o s p z from to =
    let at = s.registers 2 + o in
    let u : State = record s { pc = s.pc + 4; memory = with_word s.memory at (s.registers r) } in
    let address : (s.registers 2 + o) % 2 ^ 32 ≡ at = omega arith in
    let one : machine_step code s ≡ Continues u = store_step code s Sw s.pc 2 r o at refl p.0 address (in_stack code.floor at z from (omega arith)) in
    let a1 : s.registers 2 + (o + 4) ≡ at + 4 = omega arith in
    let n1 : s.pc + 4 + 4 * length rs ≡ s.pc + 4 * suc (length rs) = omega arith in
    let more = saving_path code places place rs (o + 4) u p.1 (omega arith) (omega arith) (omega arith) in
    (u, one, subst (λ n. Path code (length rs) u (record s { pc = n; memory = with_saved rs (at + 4) s.registers u.memory })) n1 (subst (λ n. Path code (length rs) u (record u { pc = u.pc + 4 * length rs; memory = with_saved rs n u.registers u.memory })) a1 more))

-- the registers after those of a list are restored
abbrev pub restored : List ℕ → (old registers : ℕ → ℕ) → ℕ → ℕ
restored [] f g = g
restored (r ∷ rs) f g = restored rs f (with_register g r (f r))

pub one_le_savable : (x : ℕ) → IsSavable x → 1 ≤ x
one_le_savable x (inl e) = omega arith
one_le_savable x (inr (inl k)) = omega arith
one_le_savable x (inr (inr k)) = omega arith

-- a register that already has its old word keeps that word
pub restored_right : (rs : List ℕ) (f g : ℕ → ℕ) (r : ℕ) → AreSavable rs → g r ≡ f r → restored rs f g r ≡ f r
restored_right [] f g r sv e = e
restored_right (x ∷ rs) f g r sv e =
    restored_right rs f (with_register g x (f x)) r sv.1 (elim (eqb_tells r x) [ inl t ↦ ap (with_register g x (f x)) t.1 ∙ set_same g x (f x) (one_le_savable x sv.0) ∙ ap f (sym t.1) | inr t ↦ set_other g x (f x) r t.1 ∙ e ])

-- a register of the list gets its old word back
pub restored_member : (rs : List ℕ) (f g : ℕ → ℕ) (r : ℕ) → AreSavable rs → Member r rs → restored rs f g r ≡ f r
restored_member [] f g r sv m = absurd m
restored_member (x ∷ rs) f g r sv (inl e) = restored_right rs f (with_register g x (f x)) r sv.1 (ap (with_register g x (f x)) e ∙ set_same g x (f x) (one_le_savable x sv.0) ∙ ap f (sym e))
restored_member (x ∷ rs) f g r sv (inr m) = restored_member rs f (with_register g x (f x)) r sv.1 m

abbrev IsOther : ℕ → Type 0
IsOther r = (r ≡ 1 → ⊥) × (IsKept r → ⊥)

differs : (x r : ℕ) → IsSavable x → IsOther r → r ≡ x → ⊥
differs x r (inl e) o q = o.0 (q ∙ e)
differs x r (inr k) o q = o.1 (subst IsKept (sym q) k)

-- a register that is never saved stays as it is
pub restored_other : (rs : List ℕ) (f g : ℕ → ℕ) (r : ℕ) → AreSavable rs → IsOther r → restored rs f g r ≡ g r
restored_other [] f g r sv o = refl
restored_other (x ∷ rs) f g r sv o = restored_other rs f (with_register g x (f x)) r sv.1 o ∙ set_other g x (f x) r (differs x r sv.0 o)

pub restored_words : (rs : List ℕ) (f g : ℕ → ℕ) → ((r : ℕ) → f r < 2 ^ 32) → ((r : ℕ) → g r < 2 ^ 32) → (r : ℕ) → restored rs f g r < 2 ^ 32
restored_words [] f g p q r = q r
restored_words (x ∷ rs) f g p q r = restored_words rs f (with_register g x (f x)) p (set_word g x (f x) (p x) q) r

pub restoring_path : (code : Code) (places : ℕ → ℕ) (place : ℕ) (rs : List ℕ) (o : ℕ) (f : ℕ → ℕ) (s : State) → Placed code places place s.pc (restoring o rs) → AreSavable rs → SavedAt rs (s.registers 2 + o) f s.memory → (s.registers 2 + o) % 4 ≡ 0 → code.floor ≤ s.registers 2 + o → s.registers 2 + o + 4 * length rs ≤ stack_to
    → Path code (length rs) s (record s { pc = s.pc + 4 * length rs; registers = restored rs f s.registers })
restoring_path code places place [] o f s p sv at z from to = ap (λ n. record s { pc = n }) (let e : s.pc ≡ s.pc + 4 * 0 = omega arith in e)
restoring_path code places place (r ∷ rs) o f s p sv saved z from to =
    let at = s.registers 2 + o in
    let u : State = record s { pc = s.pc + 4; registers = with_register s.registers r (f r) } in
    let address : (s.registers 2 + o) % 2 ^ 32 ≡ at = omega arith in
    let one : machine_step code s ≡ Continues u = load_step code s Lw s.pc r 2 o at refl p.0 address (in_stack code.floor at z from (omega arith)) ∙ ap (λ w. Continues (record s { pc = s.pc + 4; registers = with_register s.registers r w })) saved.0 in
    let u2 : u.registers 2 ≡ s.registers 2 = set_other s.registers r (f r) 2 (λ e. differs r 2 sv.0 ((λ q. omega arith), (λ k. elim k [ inl b ↦ omega arith | inr b ↦ omega arith ])) e) in
    let a1 : at + 4 ≡ u.registers 2 + (o + 4) = omega arith in
    let n1 : s.pc + 4 + 4 * length rs ≡ s.pc + 4 * suc (length rs) = omega arith in
    let more = restoring_path code places place rs (o + 4) f u p.1 sv.1 (subst (λ n. SavedAt rs n f s.memory) a1 saved.1) (omega arith) (omega arith) (omega arith) in
    (u, one, subst (λ n. Path code (length rs) u (record s { pc = n; registers = restored rs f u.registers })) n1 more)

-- x2 moves, if there is a frame
pub stack_path : (code : Code) (places : ℕ → ℕ) (place : ℕ) (f : Frame) (s : State) (by n : ℕ) → Placed code places place s.pc (stack_moved f by) → (frame_size f ≡ 0 → n ≡ s.registers 2) → ((frame_size f ≡ 0 → ⊥) → add (s.registers 2) by ≡ n)
    → Path code (stack_moved_size f) s (record s { pc = s.pc + 4 * stack_moved_size f; registers = with_register s.registers 2 n })
stack_path code places place f s by n p none some = path_by (frame_size f == 0) (λ e. none (eqb_says (frame_size f) 0 e)) (λ e. some (eqb_denies (frame_size f) 0 e)) p
  where
    path_by : (b : Bool) → (b ≡ true → n ≡ s.registers 2) → (b ≡ false → add (s.registers 2) by ≡ n) → Placed code places place s.pc (if b then [] else addi 2 2 by ∷ [])
        → Path code (if b then 0 else 1) s (record s { pc = s.pc + 4 * (if b then 0 else 1); registers = with_register s.registers 2 n })
    path_by true none some p =
        ap₂ (λ k g. record s { pc = k; registers = g }) (let e : s.pc ≡ s.pc + 4 * 0 = omega arith in e) (sym (with_same s.registers 2 n (none refl)))
    path_by false none some p =
        let u : State = record s { pc = s.pc + 4; registers = with_register s.registers 2 n } in
        let one : machine_step code s ≡ Continues u = step_at code s s.pc (OpImm Addi 2 2 by) refl p.0 ∙ ap (λ v. puts 2 v s) (some refl) in
        (u, one, ap (λ k. record s { pc = k; registers = with_register s.registers 2 n }) (let e : s.pc + 4 ≡ s.pc + 4 * 1 = omega arith in e))
