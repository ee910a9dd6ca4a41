-- Calls and returns within a frame, and how a function starts.
use Rattle.std.proofs.Common.{◌≡◌, ℕ, zero, suc, ◌+◌, ◌-◌, ◌*◌, ◌%◌, ◌^◌, ◌<◌, ◌≤◌, ◌⊎◌, List, [], ◌∷◌, ◌++◌, Bool, true, false, Some, length, get_or, refl, sym, ap, ap₂, ◌∙◌, subst, inl, inr, arith}
use Rattle.std.specs.Prelude.{if◌then◌else◌, nat_le}
use Rattle.std.proofs.lemmas.Bool.Decides.{nat_tests}
use Rattle.cc_words.specs.Words.{add}
use Rattle.cc_simulation.specs.Behavior.{AreWords}
use Rattle.cc_simulation.specs.World.{Answer, Size, World, object_words}
use Rattle.cc_simulation.specs.Unknown.{survives}
use Rattle.cc_ltl.specs.declared.location.Location.TheVariants.{Register, Slot}
use Rattle.cc_ltl.specs.Registers.{IsAllocatable}
use Rattle.cc_ltl.specs.Ltl.{Locations, put, words_from}
use Rattle.cc_linear_language.specs.declared.item.LinearItem.TheVariants.{Return}
use Rattle.cc_rv32.specs.declared.instr.Instr.TheVariants.{Jal, Jalr, Lui, OpImm}
use Rattle.cc_rv32.specs.declared.instr.ImmediateOperation.TheVariants.{Addi}
use Rattle.cc_emit.specs.declared.item.PieceItem.TheVariants.{Plain}
use Rattle.cc_rv32.specs.Machine.{Continues, State, Traps, jumps, puts, stack_to, with_register}
use Rattle.cc_select.specs.declared.step.Step.{Step}
use Rattle.cc_select.specs.declared.step.Step.TheVariants.{One}
use Rattle.cc_emit.specs.Contract.{global_pointer, Code, ComesBack, Enters, IsKeptOrPointer, IsKept, IsPlace, IsSound, Passes, Path, Placed, Shares, element_place}
use Rattle.cc_emit.specs.Frames.{Frame, frame_size}
use Rattle.cc_emit.specs.Emission.{addi, pointer_items, pointer_size, high, low, prologue, prologue_size, restoring, saving, stack_moved, stack_moved_size}
use Rattle.cc_emit.specs.declared.scratch.Scratch.{Scratch}
use Rattle.cc_emit.specs.Scratch.{nothing}
use Rattle.cc_emit.proofs.Holding.{IsPointer, pointer_behind, pointer_given, holds_nothing}
use Rattle.cc_emit.proofs.Fine.{AreSavable, IsSavable, Member}
use Rattle.cc_emit.proofs.Basics.{high_low, set_same, set_other, set_twice, set_word, eqb_yes, put_register, with_zero, survives_tells, listed, listed_at}
use Rattle.cc_emit.proofs.Places.{length_pointer_items, length_restoring, length_stack_moved}
use Rattle.cc_emit.proofs.Bytes.{loaded_word}
use Rattle.cc_emit.proofs.Elements.{elements_stay}
use Rattle.cc_emit.proofs.Standing.{machine_step, path_then, size_at, size_found, Site, Standing, HasRoom, Stands, first_items, placed_append, step_at}
use Rattle.cc_emit.proofs.Saving.{with_saved, saved_below, saved_above, saved_words, saved_at, saving_path, restored, restored_right, restored_member, restored_other, restored_words, restoring_path, stack_path}
use Rattle.cc_emit.proofs.Within.{SavedAt, saved_moved, Within, above_floor}

-- a jump that does not keep the return address changes only the program counter
jump_to : (s : State) (to b : ℕ) → to ≡ b → b % 4 ≡ 0 → jumps 0 to s ≡ Continues (record s { pc = b })
jump_to s to b e z =
    ap (λ n. jumps 0 n s) e ∙ ap (λ t. if t then Continues (record s { pc = b; registers = with_register s.registers 0 (s.pc + 4) }) else Traps) (eqb_yes (b % 4) 0 z)
    ∙ ap (λ g. Continues (record s { pc = b; registers = g })) (with_zero s.registers (s.pc + 4))

kept_back : (x : Site) (g : ℕ → ℕ) (r : ℕ) → Member r x.frame.saved ⊎ (g r ≡ x.from.registers r) → restored x.frame.saved x.from.registers g r ≡ x.from.registers r
kept_back x g r (inl m) = restored_member x.frame.saved x.from.registers g r x.is_frame.savable m
kept_back x g r (inr e) = restored_right x.frame.saved x.from.registers g r x.is_frame.savable e

savable_not_2 : (r : ℕ) → IsSavable r → r ≡ 2 → ⊥
savable_not_2 r (inl k) e = omega arith
savable_not_2 r (inr (inl k)) e = omega arith
savable_not_2 r (inr (inr k)) e = omega arith

savable_not_3 : (r : ℕ) → IsSavable r → r ≡ 3 → ⊥
savable_not_3 r (inl k) e = omega arith
savable_not_3 r (inr (inl k)) e = omega arith
savable_not_3 r (inr (inr k)) e = omega arith

not_saved : (r : ℕ) → (r ≡ 0) ⊎ ((r ≡ 2) ⊎ ((r ≡ 3) ⊎ (r ≡ 10))) → (r ≡ 1 → ⊥) × (IsKept r → ⊥)
not_saved r (inl e) = ((λ q. omega arith), (λ k. elim k [ inl b ↦ omega arith | inr b ↦ omega arith ]))
not_saved r (inr (inl e)) = ((λ q. omega arith), (λ k. elim k [ inl b ↦ omega arith | inr b ↦ omega arith ]))
not_saved r (inr (inr (inl e))) = ((λ q. omega arith), (λ k. elim k [ inl b ↦ omega arith | inr b ↦ omega arith ]))
not_saved r (inr (inr (inr e))) = ((λ q. omega arith), (λ k. elim k [ inl b ↦ omega arith | inr b ↦ omega arith ]))

-- the return: the saved registers are restored, and the frame is removed
pub return_path : (x : Site) {held : Scratch} (w a : ℕ) (rest : List Step) (l : Locations) (h : World) (s : State) → IsSound x.from → x.from.registers 1 % 4 ≡ 0 → s.pc ≡ x.place + 4 * a → Standing x held w a (One Return ∷ rest) → Within x held l h s
    → (n : ℕ) × (t : State) × Path x.code n s t × ComesBack x.layout x.from (record { value = l (Register 10); world = h }) t
return_path x w a rest l h s sound back e st inside =
    let f = x.frame in
    let rs = f.saved in
    let sv = x.is_frame.savable in
    let o = 4 * f.slots in
    let move = stack_moved f (frame_size f) in
    let both = placed_append x.code x.places x.place (x.place + 4 * a) (restoring o rs) _ (first_items x w a (One Return) rest st) in
    let ends = placed_append x.code x.places x.place (x.place + 4 * a + 4 * length (restoring o rs)) move _ both.1 in
    let stack = inside.stack in
    let from = above_floor x l h s inside in
    let top = x.top in
    let z = x.aligned in
    let on_s : Stands x s.pc (restoring o rs) = subst (λ n. Stands x n (restoring o rs)) (sym e) both.0 in
    let u : State = record s { pc = s.pc + 4 * length rs; registers = restored rs x.from.registers s.registers } in
    let one : Path x.code (length rs) s u = restoring_path x.code x.places x.place rs o x.from.registers s on_s sv inside.saved (omega arith) (omega arith) (omega arith) in
    let count : length (restoring o rs) ≡ length rs = length_restoring o rs in
    let moves : length move ≡ stack_moved_size f = length_stack_moved f (frame_size f) in
    let at_u : u.pc ≡ x.place + 4 * a + 4 * length (restoring o rs) = omega arith in
    let u2 : u.registers 2 ≡ s.registers 2 = restored_other rs x.from.registers s.registers 2 sv (not_saved 2 (inr (inl refl))) in
    let v : State = record u { pc = u.pc + 4 * stack_moved_size f; registers = with_register u.registers 2 (x.from.registers 2) } in
    let on_u : Stands x u.pc move = subst (λ n. Stands x n move) (sym at_u) ends.0 in
    let b2 = sound.registers 2 in
    let two : Path x.code (stack_moved_size f) u v = stack_path x.code x.places x.place f u (frame_size f) (x.from.registers 2) on_u (λ e. omega arith) (λ e. omega arith) in
    let v1 : v.registers 1 ≡ x.from.registers 1 = set_other u.registers 2 (x.from.registers 2) 1 (λ e. omega arith) ∙ kept_back x s.registers 1 (inside.kept 1 (inl refl)) in
    let t : State = record v { pc = x.from.registers 1 } in
    let b1 = sound.registers 1 in
    let to : add (v.registers 1) 0 - add (v.registers 1) 0 % 2 ≡ x.from.registers 1 = omega arith in
    let at_v : v.pc ≡ x.place + 4 * a + 4 * length (restoring o rs) + 4 * length move = omega arith in
    let three : machine_step x.code v ≡ Continues t = step_at x.code v _ (Jalr 0 1 0) at_v ends.1.0 ∙ jump_to v _ (x.from.registers 1) to back in (
      length rs + (stack_moved_size f + 1),
      t,
      path_then x.code (length rs) (stack_moved_size f + 1) s u t one (path_then x.code (stack_moved_size f) 1 u v t two (t, three, refl)),
      record {
        at = refl;
        sound = record {
          zero = set_other u.registers 2 (x.from.registers 2) 0 (λ e. omega arith) ∙ restored_other rs x.from.registers s.registers 0 sv (not_saved 0 (inl refl)) ∙ inside.sound.zero;
          registers = set_word u.registers 2 (x.from.registers 2) (sound.registers 2) (restored_words rs x.from.registers s.registers sound.registers inside.sound.registers);
          memory = inside.sound.memory;
          input = inside.sound.input;
        };
        value = set_other u.registers 2 (x.from.registers 2) 10 (λ e. omega arith) ∙ restored_other rs x.from.registers s.registers 10 sv (not_saved 10 (inr (inr (inr refl)))) ∙ sym (inside.same 10 (omega arith, omega arith));
        shares = record { sizes = inside.shares.sizes; globals = inside.shares.globals; input = inside.shares.input; output = inside.shares.output };
        stack = refl;
        pointer = subst (IsKeptOrPointer (x.from.registers 3)) (sym (set_other u.registers 2 (x.from.registers 2) 3 (λ e. omega arith) ∙ restored_other rs x.from.registers s.registers 3 sv (not_saved 3 (inr (inr (inl refl)))))) (pointer_given f.sets_pointer _ _ inside.pointer);
        kept = λ r k. set_other u.registers 2 (x.from.registers 2) r (savable_not_2 r (inr k)) ∙ kept_back x s.registers r (inside.kept r (inr k));
        above = inside.above;
      },
    )

-- ---- calls

-- the machine at the called function's first word
pub called : State → (place : ℕ) → State
called s place = record s { pc = place; registers = with_register s.registers 1 (s.pc + 4) }

pub called_step : (code : Code) (s : State) (a b : ℕ) → s.pc ≡ a → IsPlace a → IsPlace b → code.at a ≡ Some (Jal 1 ((b + (2 ^ 32 - a)) % 2 ^ 32)) → machine_step code s ≡ Continues (called s b)
unfolding called
called_step code s a b e p q f =
    let to : add s.pc ((b + (2 ^ 32 - a)) % 2 ^ 32) ≡ b = (let lo = p.to in let hi = q.to in omega arith) in
    step_at code s a (Jal 1 ((b + (2 ^ 32 - a)) % 2 ^ 32)) e f ∙ ap (λ n. jumps 1 n s) to ∙ ap (λ t. if t then Continues (record s { pc = b; registers = with_register s.registers 1 (s.pc + 4) }) else Traps) (eqb_yes (b % 4) 0 q.aligned)

passes_of : (n r : ℕ) (l : Locations) (s : State) → ((x : ℕ) → r ≤ x → x < r + n → l (Register x) ≡ s.registers x) → Passes (words_from r n l) r s
passes_of zero r l s f = tt
passes_of (suc n) r l s f = (sym (f r (omega arith) (omega arith)), passes_of n (suc r) l s (λ x a b. f x (omega arith) (omega arith)))

length_words : (n r : ℕ) (l : Locations) → length (words_from r n l) ≡ n
length_words zero r l = refl
length_words (suc n) r l = ap suc (length_words n (suc r) l)

arguments_are_words : (n r : ℕ) (l : Locations) → ((x : ℕ) → r ≤ x → x < r + n → l (Register x) < 2 ^ 32) → AreWords (words_from r n l)
arguments_are_words zero r l f = tt
arguments_are_words (suc n) r l f = (f r (omega arith) (omega arith), arguments_are_words n (suc r) l (λ x a b. f x (omega arith) (omega arith)))

are_words : (ws : List ℕ) → ((i : ℕ) → i < length ws → get_or ws i 0 < 2 ^ 32) → AreWords ws
are_words [] f = tt
are_words (w ∷ ws) f = (f 0 (omega arith), are_words ws (λ i lt. f (suc i) (omega arith)))

words_shared : (x : Site) (s : State) (h : World) (g : ℕ) → IsSound s → Shares x.layout s h → AreWords (object_words h g)
words_shared x s h g sound sh =
    let long : (size_at x g).elements ≡ length (object_words h g) = ap (λ (z : Size). z.elements) (size_found x.meaning.objects h sh.sizes g) in
    are_words (object_words h g)
    (λ i lt. (let e = sh.globals g i (omega arith) in let b = loaded_word (size_at x g).width s.memory (element_place (size_at x g).width (x.layout.base g) i) sound.memory in omega arith))

pub enters_callee : (x : Site) {held : Scratch} (g : ℕ) (l : Locations) (h : World) (s : State) → HasRoom x g → x.meaning.arity g ≤ 8 → IsPlace s.pc → Within x held l h s → Enters x.meaning x.layout x.code g (suc x.opened) (x.places g) (words_from 10 (x.meaning.arity g) l) h (called s (x.places g))
unfolding called
enters_callee x g l h s room le p w =
    let stack = w.stack in
    let top = x.top in
    let z = x.aligned in
    let small = x.is_frame.small in
    let place = p.aligned in
    let high = p.to in
    let n = x.meaning.arity g in
    record {
      is_call = record { count = length_words n 10 l; words = arguments_are_words n 10 l (λ r a b. (let e = w.same r (omega arith, omega arith) in let lt = w.sound.registers r in omega arith)); world = record { sizes = w.shares.sizes; globals = λ k. words_shared x s h k w.sound w.shares; input = subst AreWords w.shares.input w.sound.input } };
      at = refl;
      sound = record { zero = w.sound.zero; registers = set_word s.registers 1 (s.pc + 4) (omega arith) w.sound.registers; memory = w.sound.memory; input = w.sound.input };
      back = omega arith;
      aligned = omega arith;
      room = omega arith;
      top = omega arith;
      passes = passes_of n 10 l _ (λ r a b. w.same r (omega arith, omega arith) ∙ sym (set_other s.registers 1 (s.pc + 4) r (λ e. omega arith)));
      shares = record { sizes = w.shares.sizes; globals = w.shares.globals; input = w.shares.input; output = w.shares.output };
    }

pub return_place : (s : State) (to : ℕ) → (called s to).registers 1 ≡ s.pc + 4
unfolding called
return_place s to = refl

-- what the caller knows about its locations after a call
abbrev pub regained : Locations → State → Locations
regained l t (Register r) = if survives r then l (Register r) else get_or (listed 32 0 t.registers) r 0
regained l t (Slot i) = l (Slot i)

regained_same : (x : Site) {held : Scratch} (l : Locations) (h : World) (s t : State) (to r : ℕ) → Within x held l h s → ((r : ℕ) → IsKept r → t.registers r ≡ (called s to).registers r) → IsAllocatable r → regained l t (Register r) ≡ t.registers r
unfolding called
regained_same x l h s t to r w kept u =
    elim (survives_tells r) [
      | inl k ↦ ap (λ b. if b then l (Register r) else get_or (listed 32 0 t.registers) r 0) k.0 ∙ w.same r u ∙ sym (kept r k.1 ∙ set_other s.registers 1 (s.pc + 4) r (λ e. let lo = u.0 in omega arith))
      | inr k ↦ ap (λ b. if b then l (Register r) else get_or (listed 32 0 t.registers) r 0) k.0 ∙ listed_at 32 0 r t.registers (let hi = u.1 in omega arith) ∙ ap t.registers (let e : 0 + r ≡ r = omega arith in e)
    ]

kept_on : (x : Site) (s t : State) (to r : ℕ) → Member 1 x.frame.saved → ((r : ℕ) → IsKept r → t.registers r ≡ (called s to).registers r) → IsSavable r → Member r x.frame.saved ⊎ (s.registers r ≡ x.from.registers r) → Member r x.frame.saved ⊎ (t.registers r ≡ x.from.registers r)
unfolding called
kept_on x s t to r one kept k (inl q) = inl q
kept_on x s t to r one kept (inl e) (inr q) = inl (subst (λ n. Member n x.frame.saved) (sym e) one)
kept_on x s t to r one kept (inr k) (inr q) = inr (kept r k ∙ set_other s.registers 1 (s.pc + 4) r (λ i. not_1 r k i) ∙ q)
  where
    not_1 : (r : ℕ) → IsKept r → r ≡ 1 → ⊥
    not_1 r (inl k) e = omega arith
    not_1 r (inr k) e = omega arith

-- after a call the machine is again within the function's body
pub within_behind : (x : Site) {held : Scratch} (l : Locations) (h : World) (s : State) (to : ℕ) (a : Answer) (t : State) → Member 1 x.frame.saved → Within x held l h s → ComesBack x.layout (called s to) a t → Within x nothing (put (Register 10) a.value (regained l t)) a.world t
unfolding called
within_behind x l h s to a t one w r =
    let stack = w.stack in
    let t2 : t.registers 2 ≡ s.registers 2 = r.stack in
    record {
      sound = r.sound;
      holds = holds_nothing t.registers;
      same = λ q u. put_register (regained l t) 10 a.value q (t.registers q) (λ e. sym (ap t.registers (sym e) ∙ r.value)) (λ e. regained_same x l h s t to q w r.kept u);
      slots = λ i lt. w.slots i lt ∙ sym (r.above (s.registers 2 + 4 * i) (omega arith)) ∙ ap (λ n. t.memory (n + 4 * i)) (sym t2);
      shares = r.shares;
      stack = ap (λ n. n + frame_size x.frame) t2 ∙ stack;
      pointer = pointer_behind x.frame.sets_pointer (x.from.registers 3) (s.registers 3) (t.registers 3) w.pointer (subst (λ n. IsKeptOrPointer n (t.registers 3)) (set_other s.registers 1 (s.pc + 4) 3 (λ e. omega arith)) r.pointer);
      saved = subst (λ n. SavedAt x.frame.saved (n + 4 * x.frame.slots) x.from.registers t.memory) (sym t2) (saved_moved x.frame.saved _ x.from.registers s.memory t.memory (λ b le lt. r.above b (omega arith)) w.saved);
      kept = λ q k. kept_on x s t to q one r.kept k (w.kept q k);
      above = λ b le. r.above b (omega arith) ∙ w.above b le;
    }

-- ---- the prologue

-- the registers after the instructions that set x3
abbrev pub begun_registers : (sets_pointer : Bool) → (ℕ → ℕ) → ℕ → ℕ
begun_registers b g = if b then with_register g 3 global_pointer else g

begun_other : (b : Bool) (g : ℕ → ℕ) (r : ℕ) → (r ≡ 3 → ⊥) → begun_registers b g r ≡ g r
begun_other true g r n = set_other g 3 global_pointer r n
begun_other false g r n = refl

begun_words : (b : Bool) (g : ℕ → ℕ) → ((r : ℕ) → g r < 2 ^ 32) → (r : ℕ) → begun_registers b g r < 2 ^ 32
begun_words true g w = set_word g 3 global_pointer (omega arith) w
begun_words false g w = w

begun_pointer : (b : Bool) (g : ℕ → ℕ) → IsPointer b (g 3) (begun_registers b g 3)
begun_pointer true g = set_same g 3 global_pointer (omega arith)
begun_pointer false g = inl refl

abbrev pub begun : Frame → State → State
begun f s = record s { pc = s.pc + 4 * pointer_size f.sets_pointer; registers = begun_registers f.sets_pointer s.registers }

pointer_path : (code : Code) (places : ℕ → ℕ) (place : ℕ) (f : Frame) (s : State) → Placed code places place s.pc (pointer_items f) → Path code (pointer_size f.sets_pointer) s (begun f s)
pointer_path code places place f s p = by f.sets_pointer p
  where
    by : (b : Bool) → Placed code places place s.pc (if b then Plain (Lui 3 (high global_pointer)) ∷ addi 3 3 (low global_pointer) ∷ [] else [])
        → Path code (if b then 2 else 0) s (record s { pc = s.pc + 4 * (if b then 2 else 0); registers = begun_registers b s.registers })
    by true p =
        let up = high global_pointer * 2 ^ 12 in
        let u : State = record s { pc = s.pc + 4; registers = with_register s.registers 3 up } in
        let one : machine_step code s ≡ Continues u = step_at code s s.pc (Lui 3 (high global_pointer)) refl p.0 in
        let v : State = record s { pc = s.pc + 4 + 4; registers = with_register u.registers 3 global_pointer } in
        let u3 : u.registers 3 ≡ up = set_same s.registers 3 up (omega arith) in
        let sum : add (u.registers 3) (low global_pointer) ≡ global_pointer = ap (λ n. add n (low global_pointer)) u3 ∙ high_low global_pointer (omega arith) in
        let two : machine_step code u ≡ Continues v = step_at code u (s.pc + 4) (OpImm Addi 3 3 (low global_pointer)) refl p.1.0 ∙ ap (λ n. puts 3 n u) sum in
        let at : s.pc + 4 + 4 ≡ s.pc + 4 * 2 = omega arith in
        (u, one, (v, two, ap₂ (λ (k : ℕ) (g : ℕ → ℕ). record s { pc = k; registers = g }) at (set_twice s.registers 3 up global_pointer)))
    by false p = ap (λ k. record s { pc = k }) (let e : s.pc ≡ s.pc + 4 * 0 = omega arith in e)

-- the state after the prologue
pub framed : Frame → State → State
framed f s = record s { pc = s.pc + 4 * pointer_size f.sets_pointer + 4 * stack_moved_size f + 4 * length f.saved; registers = with_register (begun f s).registers 2 (s.registers 2 - frame_size f); memory = with_saved f.saved (s.registers 2 - frame_size f + 4 * f.slots) (with_register (begun f s).registers 2 (s.registers 2 - frame_size f)) s.memory }

pub prologue_path : (code : Code) (places : ℕ → ℕ) (place : ℕ) (f : Frame) (s : State) → s.registers 2 % 4 ≡ 0 → code.floor + frame_size f ≤ s.registers 2 → s.registers 2 ≤ stack_to → f.slots + length f.saved ≤ 508 → Placed code places place s.pc (prologue f) → Path code (prologue_size f) s (framed f s)
unfolding framed
prologue_path code places place f s z room top small p =
    let n = s.registers 2 - frame_size f in
    let by = 2 ^ 32 - frame_size f in
    let move = stack_moved f by in
    let whole = placed_append code places place s.pc (pointer_items f) (move ++ saving (4 * f.slots) f.saved) p in
    let t : State = begun f s in
    let zero : Path code (pointer_size f.sets_pointer) s t = pointer_path code places place f s whole.0 in
    let begins : length (pointer_items f) ≡ pointer_size f.sets_pointer = length_pointer_items f in
    let on_t : Placed code places place t.pc (move ++ saving (4 * f.slots) f.saved) = subst (λ k. Placed code places place (s.pc + 4 * k) (move ++ saving (4 * f.slots) f.saved)) begins whole.1 in
    let t2 : t.registers 2 ≡ s.registers 2 = begun_other f.sets_pointer s.registers 2 (λ e. omega arith) in
    let both = placed_append code places place t.pc move (saving (4 * f.slots) f.saved) on_t in
    let u : State = record t { pc = t.pc + 4 * stack_moved_size f; registers = with_register t.registers 2 n } in
    let one : Path code (stack_moved_size f) t u = stack_path code places place f t by n both.0 (λ e. omega arith) (λ e. omega arith) in
    let moves : length move ≡ stack_moved_size f = length_stack_moved f by in
    let on_u : Placed code places place u.pc (saving (4 * f.slots) f.saved) = subst (λ k. Placed code places place (t.pc + 4 * k) (saving (4 * f.slots) f.saved)) moves both.1 in
    path_then code (pointer_size f.sets_pointer) (stack_moved_size f + length f.saved) s t _ zero
    (path_then code (stack_moved_size f) (length f.saved) t u _ one (saving_path code places place f.saved (4 * f.slots) u on_u (omega arith) (omega arith) (omega arith)))

pub framed_pc : (f : Frame) (s : State) (place : ℕ) → s.pc ≡ place → (framed f s).pc ≡ place + 4 * prologue_size f
unfolding framed
framed_pc f s place e = omega arith

saved_other : (rs : List ℕ) (a : ℕ) (f g m : ℕ → ℕ) → AreSavable rs → ((r : ℕ) → (r ≡ 2 → ⊥) → (r ≡ 3 → ⊥) → f r ≡ g r) → SavedAt rs a f m → SavedAt rs a g m
saved_other [] a f g m sv same p = tt
saved_other (r ∷ rs) a f g m sv same p = (p.0 ∙ same r (savable_not_2 r sv.0) (savable_not_3 r sv.0), saved_other rs (a + 4) f g m sv.1 same p.1)

-- at the entry a register has its argument, or what it held if there is no argument for it
argument_at : (ws : List ℕ) (r i other : ℕ) (s : State) → Passes ws r s → s.registers (r + i) ≡ other → get_or ws i other ≡ s.registers (r + i)
argument_at [] r i other s p e = sym e
argument_at (w ∷ ws) r zero other s p e = sym p.0 ∙ ap s.registers (let z : r ≡ r + 0 = omega arith in z)
argument_at (w ∷ ws) r (suc i) other s p e =
    let z : suc r + i ≡ r + suc i = omega arith in
    argument_at ws (suc r) i other s p.1 (ap s.registers z ∙ e) ∙ ap s.registers z

passes_moved : (ws : List ℕ) (r : ℕ) (s t : State) → 10 ≤ r → ((x : ℕ) → 10 ≤ x → t.registers x ≡ s.registers x) → Passes ws r s → Passes ws r t
passes_moved [] r s t le f p = tt
passes_moved (w ∷ ws) r s t le f p = (f r le ∙ p.0, passes_moved ws (suc r) s t (omega arith) f p.1)

-- what the function finds in its registers and slots
abbrev pub found : Frame → State → (arguments : List ℕ) → Locations
found f t ws (Register r) = if nat_le 10 r then get_or ws (r - 10) (get_or (listed 32 0 t.registers) r 0) else get_or (listed 32 0 t.registers) r 0
found f t ws (Slot i) = get_or (listed f.slots 0 (λ k. t.memory (t.registers 2 + 4 * k))) i 0

found_by : (b : Bool) (r : ℕ) (ws : List ℕ) (t : State) → (b ≡ true → 10 ≤ r) → r < 32 → Passes ws 10 t → (if b then get_or ws (r - 10) (get_or (listed 32 0 t.registers) r 0) else get_or (listed 32 0 t.registers) r 0) ≡ t.registers r
found_by true r ws t le hi p =
    let low = le refl in
    let z : 10 + (r - 10) ≡ r = omega arith in
    let e : 0 + r ≡ r = omega arith in
    argument_at ws 10 (r - 10) _ t p (ap t.registers z ∙ sym (listed_at 32 0 r t.registers hi ∙ ap t.registers e)) ∙ ap t.registers z
found_by false r ws t le hi p = let e : 0 + r ≡ r = omega arith in listed_at 32 0 r t.registers hi ∙ ap t.registers e

found_register : (f : Frame) (t : State) (ws : List ℕ) (r : ℕ) → r < 32 → Passes ws 10 t → found f t ws (Register r) ≡ t.registers r
found_register f t ws r hi p = found_by (nat_le 10 r) r ws t (le_says r) hi p
  where
    le_says : (r : ℕ) → nat_le 10 r ≡ true → 10 ≤ r
    le_says r e = grind (arith, nat_tests)

pub framed_other : (f : Frame) (s : State) (r : ℕ) → (r ≡ 2 → ⊥) → (r ≡ 3 → ⊥) → (framed f s).registers r ≡ s.registers r
unfolding framed
framed_other f s r e q = set_other (begun f s).registers 2 (s.registers 2 - frame_size f) r e ∙ begun_other f.sets_pointer s.registers r q

-- after the prologue the machine is within the function's body, if the locations are what the machine holds then
pub framed_inside : (x : Site) (l : Locations) (h : World) → IsSound x.from → Shares x.layout x.from h → ((r : ℕ) → IsAllocatable r → l (Register r) ≡ (framed x.frame x.from).registers r)
    → ((i : ℕ) → i < x.frame.slots → l (Slot i) ≡ (framed x.frame x.from).memory ((framed x.frame x.from).registers 2 + 4 * i)) → Within x nothing l h (framed x.frame x.from)
unfolding framed
framed_inside x l h sound shares same slots =
    let f = x.frame in
    let s = x.from in
    let room = x.room in
    let floor = x.code.low in
    let top = x.top in
    let n = s.registers 2 - frame_size f in
    let at = n + 4 * f.slots in
    let k = (begun f s).registers in
    let k_words = begun_words f.sets_pointer s.registers sound.registers in
    let g = with_register k 2 n in
    let low : n ≤ s.registers 2 = omega arith in
    let b2 = sound.registers 2 in
    let other : (r : ℕ) → (r ≡ 2 → ⊥) → (r ≡ 3 → ⊥) → g r ≡ s.registers r = λ r e q. set_other k 2 n r e ∙ begun_other f.sets_pointer s.registers r q in
    record {
      sound = record { zero = other 0 (λ e. omega arith) (λ e. omega arith) ∙ sound.zero; registers = set_word k 2 n (omega arith) k_words; memory = saved_words f.saved at g s.memory (set_word k 2 n (omega arith) k_words) sound.memory; input = sound.input };
      holds = holds_nothing _;
      same = same;
      slots = slots;
      shares = record { sizes = shares.sizes; globals = λ k i lt. elements_stay x s.memory (with_saved f.saved at g s.memory) k i lt (λ c below. saved_below f.saved at g s.memory c (omega arith)) ∙ shares.globals k i lt; input = shares.input; output = shares.output };
      stack = omega arith;
      pointer = subst (IsPointer f.sets_pointer (s.registers 3)) (sym (set_other k 2 n 3 (λ e. omega arith))) (begun_pointer f.sets_pointer s.registers);
      saved = saved_other f.saved at g s.registers _ x.is_frame.savable other (saved_at f.saved at g s.memory);
      kept = λ r k. inr (other r (savable_not_2 r k) (savable_not_3 r k));
      above = λ b le. saved_above f.saved at g s.memory b (omega arith);
    }

pub framed_within : (x : Site) (fn d : ℕ) (ws : List ℕ) (h : World) → Enters x.meaning x.layout x.code fn d x.place ws h x.from → Within x nothing (found x.frame (framed x.frame x.from) ws) h (framed x.frame x.from)
framed_within x fn d ws h enters =
    let f = x.frame in
    let s = x.from in
    let t = framed f s in
    let moved = passes_moved ws 10 s t (omega arith) (λ r le. framed_other f s r (λ e. omega arith) (λ e. omega arith)) enters.passes in
    framed_inside x (found f t ws) h enters.sound enters.shares (λ r u. found_register f t ws r u.1 moved)
    (λ i lt. listed_at f.slots 0 i (λ k. t.memory (t.registers 2 + 4 * k)) lt ∙ ap (λ k. t.memory (t.registers 2 + 4 * k)) (let e : 0 + i ≡ i = omega arith in e))
