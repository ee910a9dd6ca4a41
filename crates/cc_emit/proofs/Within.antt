-- The machine within a function's body: what the run of Linear says about the machine's state, and what stays true when the state changes.
use Rattle.std.proofs.Common.{◌≡◌, ℕ, ◌+◌, ◌*◌, ◌^◌, ◌<◌, ◌≤◌, ◌⊎◌, List, [], ◌∷◌, ◌++◌, length, refl, sym, ap, ◌∙◌, subst, inl, inr, arith}
use Rattle.std.proofs.lemmas.Bool.Decides.{eqb_tells}
use Rattle.cc_rv32.specs.Machine as machine
use Rattle.cc_words.specs.declared.operators.Width.{Width}
use Rattle.cc_words.specs.Widths.{kept}
use Rattle.cc_rv32.specs.Machine.{State, stack_from, stored, with_register, with_word}
use Rattle.cc_words.specs.Observed.{read_mark}
use Rattle.cc_simulation.specs.Behavior.{AreWords}
use Rattle.cc_simulation.specs.World.{rest_of, World, with_element, after_read, after_write}
use Rattle.cc_ltl.specs.declared.location.Location.TheVariants.{Register, Slot}
use Rattle.cc_ltl.specs.Registers.{IsAllocatable}
use Rattle.cc_ltl.specs.Ltl.{Locations, put}
use Rattle.cc_emit.specs.Contract.{IsKept, IsSound, Shares, element_place, store_of}
use Rattle.cc_emit.specs.Frames.{Frame, frame_size}
use Rattle.cc_emit.specs.declared.scratch.Scratch.{Scratch}
use Rattle.cc_emit.specs.Scratch.{nothing, without, without_address}
use Rattle.cc_emit.proofs.Holding.{Holds, IsPointer, holds_nothing, holds_set, holds_address_set}
use Rattle.cc_emit.proofs.Fine.{IsSavable, IsTarget, Member}
use Rattle.cc_emit.proofs.Basics.{set_same, set_other, set_word, word_same, word_other, word_word, put_register, put_slot, rest_words, same_rest}
use Rattle.cc_emit.proofs.Standing.{Site}
use Rattle.cc_emit.proofs.Bytes.{stored_words, words_behind}
use Rattle.cc_emit.proofs.Elements.{IsElement, elements_stay, placed, stored_element, stored_sizes}

-- the words of these registers lie in memory from address a on
abbrev pub SavedAt : List ℕ → (a : ℕ) → (registers memory : ℕ → ℕ) → Type 0
SavedAt [] a f m = Unit {0}
SavedAt (r ∷ rs) a f m = (m a ≡ f r) × SavedAt rs (a + 4) f m

pub saved_moved : (rs : List ℕ) (a : ℕ) (f m k : ℕ → ℕ) → ((b : ℕ) → a ≤ b → b < a + 4 * length rs → k b ≡ m b) → SavedAt rs a f m → SavedAt rs a f k
saved_moved [] a f m k same p = tt
saved_moved (r ∷ rs) a f m k same p = (same a (omega arith) (omega arith) ∙ p.0, saved_moved rs (a + 4) f m k (λ b le lt. same b (omega arith) (omega arith)) p.1)

pub record Within (x : Site) (held : Scratch) (l : Locations) (h : World) (s : State) : Type 0 where
  pub sound : IsSound s
  pub holds : Holds held s.registers
  pub same : (r : ℕ) → IsAllocatable r → l (Register r) ≡ s.registers r
  pub slots : (i : ℕ) → i < x.frame.slots → l (Slot i) ≡ s.memory (s.registers 2 + 4 * i)
  pub shares : Shares x.layout s h
  pub stack : s.registers 2 + frame_size x.frame ≡ x.from.registers 2
  pub pointer : IsPointer x.frame.sets_pointer (x.from.registers 3) (s.registers 3)
  pub saved : SavedAt x.frame.saved (s.registers 2 + 4 * x.frame.slots) x.from.registers s.memory
  pub kept : (r : ℕ) → IsSavable r → Member r x.frame.saved ⊎ (s.registers r ≡ x.from.registers r)
  pub above : (a : ℕ) → x.from.registers 2 ≤ a → s.memory a ≡ x.from.memory a

scratch_other : (r d : ℕ) → 4 ≤ d → d < 7 → IsSavable r → r ≡ d → ⊥
scratch_other r d lo hi (inl k) e = omega arith
scratch_other r d lo hi (inr (inl k)) e = omega arith
scratch_other r d lo hi (inr (inr k)) e = omega arith

-- a change of registers other than x2 and x3 leaves the machine within the body
pub with_registers : (x : Site) {held : Scratch} (new : Scratch) (l k : Locations) (h : World) (s : State) (p : ℕ) (g : ℕ → ℕ) → g 0 ≡ 0 → ((r : ℕ) → g r < 2 ^ 32) → g 2 ≡ s.registers 2 → g 3 ≡ s.registers 3
    → ((r : ℕ) → IsAllocatable r → k (Register r) ≡ g r) → ((i : ℕ) → k (Slot i) ≡ l (Slot i)) → ((r : ℕ) → IsSavable r → Member r x.frame.saved ⊎ (g r ≡ x.from.registers r)) → Holds new g → Within x held l h s → Within x new k h (record s { pc = p; registers = g })
with_registers x new l k h s p g at_0 words at_2 at_3 same slots kept holds w = record {
  holds = holds;
  sound = record { zero = at_0; registers = words; memory = w.sound.memory; input = w.sound.input };
  same = same;
  slots = λ i lt. slots i ∙ w.slots i lt ∙ ap (λ n. s.memory (n + 4 * i)) (sym at_2);
  shares = record { sizes = w.shares.sizes; globals = w.shares.globals; input = w.shares.input; output = w.shares.output };
  stack = ap (λ n. n + frame_size x.frame) at_2 ∙ w.stack;
  pointer = subst (IsPointer x.frame.sets_pointer (x.from.registers 3)) (sym at_3) w.pointer;
  saved = subst (λ n. SavedAt x.frame.saved (n + 4 * x.frame.slots) x.from.registers s.memory) (sym at_2) w.saved;
  kept = kept;
  above = w.above;
}

target_kept : (f : Frame) (d : ℕ) → IsTarget f d → IsSavable d → IsKept d
target_kept f d u (inl e) = absurd (let lo = u.0.0 in omega arith)
target_kept f d u (inr k) = k

kept_set : (x : Site) (s : State) (d v r : ℕ) → IsTarget x.frame d → IsSavable r → Member r x.frame.saved ⊎ (s.registers r ≡ x.from.registers r) → Member r x.frame.saved ⊎ (with_register s.registers d v r ≡ x.from.registers r)
kept_set x s d v r u k (inl m) = inl m
kept_set x s d v r u k (inr e) = elim (eqb_tells r d) [ inl t ↦ inl (subst (λ n. Member n x.frame.saved) (sym t.1) (u.1 (target_kept x.frame d u (subst IsSavable t.1 k)))) | inr t ↦ inr (set_other s.registers d v r t.1 ∙ e) ]

-- setting a register that the function may set leaves the machine within the body
pub within_set : (x : Site) {held : Scratch} (l : Locations) (h : World) (s : State) (p d v : ℕ) → IsTarget x.frame d → v < 2 ^ 32 → Within x held l h s → Within x (without d held) (put (Register d) v l) h (record s { pc = p; registers = with_register s.registers d v })
within_set x l h s p d v u b w =
    let a = u.0.0 in
    with_registers x (without d _) l (put (Register d) v l) h s p (with_register s.registers d v) (set_other s.registers d v 0 (λ e. omega arith) ∙ w.sound.zero) (set_word s.registers d v b w.sound.registers) (set_other s.registers d v 2 (λ e. omega arith)) (set_other s.registers d v 3 (λ e. omega arith))
    (λ r ur. put_register l d v r (with_register s.registers d v r) (λ e. sym (ap (with_register s.registers d v) (sym e) ∙ set_same s.registers d v (omega arith))) (λ e. w.same r ur ∙ sym (set_other s.registers d v r (λ q. e (sym q)))))
    (λ i. refl)
    (λ r k. kept_set x s d v r u k (w.kept r k)) (holds_set _ s.registers d v u.0 w.holds) w

kept_scratch : (x : Site) (s : State) (d v r : ℕ) → (r ≡ d → ⊥) → Member r x.frame.saved ⊎ (s.registers r ≡ x.from.registers r) → Member r x.frame.saved ⊎ (with_register s.registers d v r ≡ x.from.registers r)
kept_scratch x s d v r n (inl m) = inl m
kept_scratch x s d v r n (inr e) = inr (set_other s.registers d v r n ∙ e)

-- setting a register that the function does not use leaves the machine within the body, with something else known about the scratch
-- registers
pub within_scratch : (x : Site) {held : Scratch} (new : Scratch) (l : Locations) (h : World) (s : State) (p d v : ℕ) → 4 ≤ d → d < 7 → v < 2 ^ 32 → Holds new (with_register s.registers d v) → Within x held l h s → Within x new l h (record s { pc = p; registers = with_register s.registers d v })
within_scratch x new l h s p d v from to b holds w =
    with_registers x new l l h s p (with_register s.registers d v) (set_other s.registers d v 0 (λ e. omega arith) ∙ w.sound.zero) (set_word s.registers d v b w.sound.registers) (set_other s.registers d v 2 (λ e. omega arith)) (set_other s.registers d v 3 (λ e. omega arith))
    (λ r ur. let lo = ur.0 in w.same r ur ∙ sym (set_other s.registers d v r (λ e. omega arith)))
    (λ i. refl)
    (λ r k. kept_scratch x s d v r (scratch_other r d from to k) (w.kept r k)) holds w

-- x5 is set
pub within_5 : (x : Site) {held : Scratch} (l : Locations) (h : World) (s : State) (p v : ℕ) → v < 2 ^ 32 → Within x held l h s → Within x (without_address held) l h (record s { pc = p; registers = with_register s.registers 5 v })
within_5 x l h s p v b w = within_scratch x _ l h s p 5 v (omega arith) (omega arith) b (holds_address_set _ s.registers v w.holds) w

-- the machine is within the body with something else, for example nothing, known about the scratch registers
pub within_as : (x : Site) {held : Scratch} (new : Scratch) (l : Locations) (h : World) (s : State) → Holds new s.registers → Within x held l h s → Within x new l h s
within_as x new l h s holds w = record {
  sound = w.sound;
  holds = holds;
  same = w.same;
  slots = w.slots;
  shares = w.shares;
  stack = w.stack;
  pointer = w.pointer;
  saved = w.saved;
  kept = w.kept;
  above = w.above;
}

pub within_nothing : (x : Site) {held : Scratch} (l : Locations) (h : World) (s : State) → Within x held l h s → Within x nothing l h s
within_nothing x l h s w = within_as x nothing l h s (holds_nothing s.registers) w

-- a change of the place in the code leaves the machine within the body
pub within_pc : (x : Site) {held : Scratch} (l : Locations) (h : World) (s : State) (p : ℕ) → Within x held l h s → Within x held l h (record s { pc = p })
within_pc x l h s p w = record {
  sound = record { zero = w.sound.zero; registers = w.sound.registers; memory = w.sound.memory; input = w.sound.input };
  holds = w.holds;
  same = w.same;
  slots = w.slots;
  shares = record { sizes = w.shares.sizes; globals = w.shares.globals; input = w.shares.input; output = w.shares.output };
  stack = w.stack;
  pointer = w.pointer;
  saved = w.saved;
  kept = w.kept;
  above = w.above;
}

-- x2 lies in the stack, and at or above the floor
pub low_stack : (x : Site) {held : Scratch} (l : Locations) (h : World) (s : State) → Within x held l h s → stack_from ≤ s.registers 2
low_stack x l h s w = let a = w.stack in let b = x.room in let c = x.code.low in omega arith

pub above_floor : (x : Site) {held : Scratch} (l : Locations) (h : World) (s : State) → Within x held l h s → x.code.floor ≤ s.registers 2
above_floor x l h s w = let a = w.stack in let b = x.room in omega arith

-- setting the word of a slot leaves the machine within the body
pub within_slot : (x : Site) {held : Scratch} (l : Locations) (h : World) (s : State) (p i v : ℕ) → i < x.frame.slots → v < 2 ^ 32 → Within x held l h s → Within x held (put (Slot i) v l) h (record s { pc = p; memory = with_word s.memory (s.registers 2 + 4 * i) v })
within_slot x l h s p i v lt b w =
    let at = s.registers 2 + 4 * i in
    let stack = w.stack in
    let from = low_stack x l h s w in
    record {
      sound = record { zero = w.sound.zero; registers = w.sound.registers; memory = word_word s.memory at v b w.sound.memory; input = w.sound.input };
      holds = w.holds;
      same = w.same;
      slots = λ j lj. put_slot l i v j (with_word s.memory at v (s.registers 2 + 4 * j)) (λ e. sym (ap (λ n. with_word s.memory at v (s.registers 2 + 4 * n)) (sym e) ∙ word_same s.memory at v)) (λ e. w.slots j lj ∙ sym (word_other s.memory at v (s.registers 2 + 4 * j) (λ q. e (omega arith))));
      shares = record { sizes = w.shares.sizes; globals = λ g j lj. elements_stay x s.memory (with_word s.memory at v) g j lj (λ c lt. word_other s.memory at v c (λ q. omega arith)) ∙ w.shares.globals g j lj; input = w.shares.input; output = w.shares.output };
      stack = w.stack;
      pointer = w.pointer;
      saved = saved_moved x.frame.saved _ x.from.registers s.memory (with_word s.memory at v) (λ c lo hi. word_other s.memory at v c (λ q. omega arith)) w.saved;
      kept = w.kept;
      above = λ c le. word_other s.memory at v c (λ q. omega arith) ∙ w.above c le;
    }

-- storing an element leaves the machine within the body
pub within_store : (x : Site) {held : Scratch} (l : Locations) (h : World) (s : State) (p : ℕ) (width : Width) (g i v old : ℕ) → IsElement h width g i old → v < 2 ^ 32 → Within x held l h s
    → Within x held l (with_element h g i (kept width v)) (record s { pc = p; memory = stored (store_of width) s.memory (element_place width (x.layout.base g) i) v })
within_store x l h s p width g i v old is b w =
    let at = element_place width (x.layout.base g) i in
    let stack = w.stack in
    let from = low_stack x l h s w in
    let below = (placed x h s width g i old w.shares is).below in
    let new = stored (store_of width) s.memory at v in
    record {
      sound = record { zero = w.sound.zero; registers = w.sound.registers; memory = stored_words width s.memory at v b w.sound.memory; input = w.sound.input };
      holds = w.holds;
      same = w.same;
      slots = λ j lj. w.slots j lj ∙ sym (words_behind width s.memory at v (s.registers 2 + 4 * j) (omega arith));
      shares = record { sizes = stored_sizes h g i (kept width v) ∙ w.shares.sizes; globals = λ k j lj. stored_element x h s width g i v old w.shares is k j lj; input = w.shares.input; output = w.shares.output };
      stack = w.stack;
      pointer = w.pointer;
      saved = saved_moved x.frame.saved _ x.from.registers s.memory new (λ c lo hi. words_behind width s.memory at v c (omega arith)) w.saved;
      kept = w.kept;
      above = λ c le. words_behind width s.memory at v c (omega arith) ∙ w.above c le;
    }

-- reading a word of the input leaves the machine within the body
pub within_read : (x : Site) {held : Scratch} (l : Locations) (h : World) (s : State) → Within x held l h s → Within x held l (after_read h) (record s { input = machine.rest_of s.input; output = s.output ++ (read_mark ∷ []) })
within_read x l h s w = record {
  sound = record { zero = w.sound.zero; registers = w.sound.registers; memory = w.sound.memory; input = subst AreWords (sym (same_rest s.input)) (rest_words s.input w.sound.input) };
  holds = w.holds;
  same = w.same;
  slots = w.slots;
  shares = record { sizes = w.shares.sizes; globals = w.shares.globals; input = same_rest s.input ∙ ap rest_of w.shares.input; output = ap (λ o. o ++ (read_mark ∷ [])) w.shares.output };
  stack = w.stack;
  pointer = w.pointer;
  saved = w.saved;
  kept = w.kept;
  above = w.above;
}

-- writing a word leaves the machine within the body
pub within_write : (x : Site) {held : Scratch} (l : Locations) (h : World) (s : State) (v : ℕ) → Within x held l h s → Within x held l (after_write v h) (record s { output = s.output ++ (v ∷ []) })
within_write x l h s v w = record {
  sound = record { zero = w.sound.zero; registers = w.sound.registers; memory = w.sound.memory; input = w.sound.input };
  holds = w.holds;
  same = w.same;
  slots = w.slots;
  shares = record { sizes = w.shares.sizes; globals = w.shares.globals; input = w.shares.input; output = ap (λ o. o ++ (v ∷ [])) w.shares.output };
  stack = w.stack;
  pointer = w.pointer;
  saved = w.saved;
  kept = w.kept;
  above = w.above;
}
