-- What the items do for steps other than items of Linear: operators on a register and a word, elements whose numbers are known, and
-- branches on comparisons.
use Rattle.std.proofs.Common.{◌≡◌, ℕ, ◌+◌, ◌*◌, ◌%◌, ◌^◌, ◌<◌, List, [], ◌∷◌, Option, Some, None, true, Bool, refl, sym, ap, ap₂, ◌∙◌, subst, inl, inr, arith}
use Rattle.std.specs.Prelude.{option_map}
use Rattle.cc_words.specs.Words.{add, lt_u}
use Rattle.cc_words.specs.Operators.{apply_binary}
use Rattle.cc_words.specs.declared.operators.Binary as binary
use Rattle.cc_words.specs.declared.operators.Width.{Width}
use Rattle.cc_words.specs.declared.operators.Width.TheVariants.{Byte, Word}
use Rattle.cc_words.specs.Widths.{kept}
use Rattle.cc_simulation.specs.World.{World, element, with_element}
use Rattle.cc_simulation.specs.Run.{Goes, tried}
use Rattle.cc_ltl.specs.declared.location.Location.TheVariants.{Register}
use Rattle.cc_ltl.specs.Registers.{IsAllocatable}
use Rattle.cc_ltl.specs.Ltl.{Locations, put}
use Rattle.cc_select.specs.declared.step.WordOperator.{WordOperator}
use Rattle.cc_select.specs.declared.step.Step.{Step}
use Rattle.cc_select.specs.declared.step.Step.TheVariants.{Immediate, LoadAt, StoreAt, LoadNear, StoreNear, Branch, BranchImmediate}
use Rattle.cc_select.specs.Selected.{at_steps, led, place}
use Rattle.cc_rv32.specs.declared.instr.Instr.TheVariants.{Op, OpImm, Shift}
use Rattle.cc_rv32.specs.declared.instr.RegisterOperation.TheVariants as operations
use Rattle.cc_rv32.specs.declared.instr.ImmediateOperation.TheVariants.{Sltiu}
use Rattle.cc_rv32.specs.Machine.{Continues, State, computed, globals_to, immediate_operation, is_taken, loaded, puts, shift_operation, stored, with_register}
use Rattle.cc_emit.specs.declared.condition.Condition.{Condition}
use Rattle.cc_emit.specs.Branches.{compares, turned, comparison, against_zero, asked_of}
use Rattle.cc_emit.specs.Contract.{IsPlace, element_place, load_of, store_of}
use Rattle.cc_emit.specs.Emission.{base_register, branch_items, branch_size, first_instr, known_access_size, known_place, load_element, part_of, store_element, word_branch_items, word_branch_size, word_recipe, word_recipe_items, word_recipe_size}
use Rattle.cc_emit.specs.declared.recipe.WordRecipe.{WordRecipe}
use Rattle.cc_emit.specs.declared.recipe.WordRecipe.TheVariants.{WithImmediate, ShiftBy, OnZero, ZeroOfImmediate, NonzeroOfImmediate}
use Rattle.cc_emit.specs.declared.addressed.Remembered.{Remembered}
use Rattle.cc_emit.specs.declared.addressed.Remembered.TheVariants.{Nothing, Upper, Element, ByPointer, ElementByPointer}
use Rattle.cc_emit.specs.declared.scratch.Scratch.{Scratch}
use Rattle.cc_emit.specs.Scratch.{known_at, sum_base, without_address, behind_word_recipe, behind_word_branch}
use Rattle.cc_emit.proofs.Fine.{IsTarget}
use Rattle.cc_emit.proofs.Basics.{high_low}
use Rattle.cc_emit.proofs.Recipes.{IsRightWord, gives_word, immediate_gives}
use Rattle.cc_emit.proofs.Branching.{Tells, alone_tells, compared, first_executes, first_tells, first_word}
use Rattle.cc_emit.proofs.Places.{IsClose, close_nears, next_nears, stays_near}
use Rattle.cc_emit.proofs.Bytes.{load_accessible, loaded_word, store_accessible}
use Rattle.cc_emit.proofs.Elements.{element_tells, holds, placed}
use Rattle.cc_emit.proofs.Standing.{addressed_at, all_addressed, machine_step, first_items, standing_tail, step_at, labels, near, Site, Standing, Stands}
use Rattle.cc_emit.proofs.Saving.{load_step, store_step}
use Rattle.cc_emit.proofs.Holding.{IsKnownAt, pointer_reaches, is_known_at}
use Rattle.cc_emit.proofs.Within.{Within, within_set, within_5, within_store}
use Rattle.cc_emit.proofs.Cases.{Case, Given, Leads, Reaches, StandsWhole, base_word, loaded_reaches, stored_reaches, Stepped, asked, base_held, behind_1, near_nears, reach_by, reach_more, reach_set, stepped, told_reaches, upper_before, uppered, uppered_reaches, within_upper, word_of_register}

-- ---- a register and a word

word_recipe_reaches : (x : Site) {held : Scratch} (w a to b v : ℕ) (k : WordRecipe) (rest : List Step) (l : Locations) (h : World) (s : State) → s.pc ≡ x.place + 4 * a → Standing x (behind_word_recipe k to held) w (a + word_recipe_size k) rest → Within x held l h s → Stands x (x.place + 4 * a) (word_recipe_items k to b) → IsTarget x.frame to → IsAllocatable b → IsRightWord k (l (Register b)) v
    → v < 2 ^ 32 → Reaches x rest (put (Register to) v l) h s
word_recipe_reaches x w a to b v (WithImmediate i n) rest l h s e st inside items u ub right lt =
    reach_set x rest l h s (x.place + 4 * a) w (a + 1) to v (OpImm i to b n) e items.0 (behind_1 x.place a) (ap (λ m. puts to (computed (immediate_operation i) m n) s) (sym (inside.same b ub)) ∙ ap (λ m. puts to m s) right) u lt st inside
word_recipe_reaches x w a to b v (ShiftBy i n) rest l h s e st inside items u ub right lt =
    reach_set x rest l h s (x.place + 4 * a) w (a + 1) to v (Shift i to b n) e items.0 (behind_1 x.place a) (ap (λ m. puts to (computed (shift_operation i) m n) s) (sym (inside.same b ub)) ∙ ap (λ m. puts to m s) right) u lt st inside
word_recipe_reaches x w a to b v (OnZero i) rest l h s e st inside items u ub right lt =
    reach_set x rest l h s (x.place + 4 * a) w (a + 1) to v (Op i to 0 b) e items.0 (behind_1 x.place a) (ap₂ (λ m n. puts to (computed i m n) s) inside.sound.zero (sym (inside.same b ub)) ∙ ap (λ m. puts to m s) right) u lt st inside
word_recipe_reaches x w a to b v (ZeroOfImmediate i n) rest l h s e st inside items u ub right lt =
    asked x w a to v (computed (immediate_operation i) (l (Register b)) n) (OpImm i 5 b n) (OpImm Sltiu to 5 1) rest l h s e st inside items (ap (λ m. puts 5 (computed (immediate_operation i) m n) s) (sym (inside.same b ub))) right.0 (λ t p z. ap (λ m. puts to (lt_u m 1) t) p ∙ ap (λ m. puts to m t) right.1) u lt
word_recipe_reaches x w a to b v (NonzeroOfImmediate i n) rest l h s e st inside items u ub right lt =
    asked x w a to v (computed (immediate_operation i) (l (Register b)) n) (OpImm i 5 b n) (Op operations.Sltu to 0 5) rest l h s e st inside items (ap (λ m. puts 5 (computed (immediate_operation i) m n) s) (sym (inside.same b ub))) right.0 (λ t p z. ap₂ (λ m k. puts to (lt_u k m) t) p z ∙ ap (λ m. puts to m t) right.1) u lt

pub immediate_case : (x : Site) {held : Scratch} (w a : ℕ) (o : WordOperator) (to b word : ℕ) (rest : List Step) (l : Locations) (h : World) (s : State) → Given x held w a (Immediate o to b word ∷ rest) l h s → Stepped x (Immediate o to b word ∷ rest) l h s
immediate_case x w a o to b word rest l h s (e, st, inside) =
    let fine = st.fine.0 in
    let n = l (Register b) in
    let wb = word_of_register x l h s b fine.1 inside in
    let does = immediate_gives o n word wb fine.2 fine.3 in
    let v = does.value in
    stepped x (Immediate o to b word ∷ rest) rest l (put (Register to) v l) h h s (λ ws. ap (λ z. tried z (λ q. Goes (at_steps rest (put (Register to) q l) h ws))) does.applied)
    (word_recipe_reaches x _ a to b v (word_recipe o word) rest l h s e (standing_tail x w a (Immediate o to b word) rest st) inside (first_items x w a (Immediate o to b word) rest st) fine.0 fine.1 does.right (gives_word o n word v wb fine.2 does.applied))

-- ---- elements whose numbers are known

-- an address is the sum of its base and its other part
parts_at : (known : Remembered) (b : ℕ) (g : ℕ → ℕ) → b < 2 ^ 32 → IsKnownAt known b g → (sum_base known b + part_of known b) % 2 ^ 32 ≡ b
parts_at Nothing b g lt known = high_low b lt
parts_at Upper b g lt known = high_low b lt
parts_at Element b g lt known = absurd known
parts_at ByPointer b g lt known = pointer_reaches b known.1
parts_at ElementByPointer b g lt known = absurd known

-- if the element exists, the registers lead to its address
known_address : (known : Remembered) (width : Width) (s : State) (b n : ℕ) → element_place width b n < globals_to → IsKnownAt known (known_place width b n) s.registers
    → ((uppered known s (known_place width b n)).registers (base_register known) + part_of known (known_place width b n)) % 2 ^ 32 ≡ element_place width b n
known_address known width s b n lt is =
    let at = element_place width b n in
    let same : at % 2 ^ 32 ≡ at = omega arith in
    ap (λ k. (k + part_of known (at % 2 ^ 32)) % 2 ^ 32) (base_held known s (at % 2 ^ 32) is) ∙ parts_at known (at % 2 ^ 32) s.registers (omega arith) is ∙ same

behind_known : (known : Remembered) (place a : ℕ) → place + 4 * a + 4 * upper_before known + 4 ≡ place + 4 * (a + known_access_size known)
behind_known Nothing place a = omega arith
behind_known Upper place a = omega arith
behind_known Element place a = omega arith
behind_known ByPointer place a = omega arith
behind_known ElementByPointer place a = omega arith

uppered_memory : (known : Remembered) (s : State) (b : ℕ) → (uppered known s b).memory ≡ s.memory
uppered_memory Nothing s b = refl
uppered_memory Upper s b = refl
uppered_memory Element s b = refl
uppered_memory ByPointer s b = refl
uppered_memory ElementByPointer s b = refl

load_at_by : (x : Site) {held : Scratch} (w a : ℕ) (width : Width) (g to n : ℕ) (rest : List Step) (l : Locations) (h : World) (s : State) → Given x held w a (LoadAt width g to n ∷ rest) l h s → (z : Option ℕ) → element h width g n ≡ z → Case x (LoadAt width g to n ∷ rest) l h s
load_at_by x w a width g to n rest l h s given None is = inr (λ ws. ap (λ z. tried z (λ q. Goes (at_steps rest (put (Register to) q l) h ws))) is)
load_at_by x {held} w a width g to n rest l h s (e, st, inside) (Some v) is =
    let there = element_tells h width g n v is in
    let lies = placed x h s width g n v inside.shares there in
    let from = lies.from in
    let low_from = x.layout.from g in
    let b = known_place width (x.layout.base g) n in
    let at = element_place width (x.layout.base g) n in
    let p = x.place + 4 * a in
    let known = known_at x.frame.sets_pointer held b in
    let told = is_known_at x.frame.sets_pointer (x.from.registers 3) held b s.registers inside.pointer inside.holds in
    let u = uppered known s b in
    let wu = within_upper x known l h s b told inside in
    let value : loaded (load_of width) u.memory at ≡ v = ap (λ (m : ℕ → ℕ). loaded (load_of width) m at) (uppered_memory known s b) ∙ holds x h s width g n v inside.shares there in
    let lv : v < 2 ^ 32 = (let q = loaded_word width u.memory at wu.sound.memory in omega arith) in
    let t : State = record u { pc = u.pc + 4; registers = with_register u.registers to v } in
    inl (stepped x (LoadAt width g to n ∷ rest) rest l (put (Register to) v l) h h s (λ ws. ap (λ z. tried z (λ q. Goes (at_steps rest (put (Register to) q l) h ws))) is)
    (uppered_reaches x rest (put (Register to) v l) h known s p b (load_element width to (base_register known) (part_of known b) ∷ []) e (first_items x w a (LoadAt width g to n) rest st)
    (λ stands pc.
    reach_by x rest (put (Register to) v l) h u t _ (a + known_access_size known)
    (load_step x.code u (load_of width) (p + 4 * upper_before known) to (base_register known) (part_of known b) at pc stands.0 (known_address known width s (x.layout.base g) n lies.below told) (load_accessible x.code.floor width at lies.aligned (omega arith) lies.below) ∙ ap (λ i. puts to i u) value)
    (ap (λ i. i + 4) pc ∙ behind_known known x.place a) (standing_tail x w a (LoadAt width g to n) rest st) (within_set x l h u (u.pc + 4) to v st.fine.0 lv wu))))

pub load_at_case : (x : Site) {held : Scratch} (w a : ℕ) (width : Width) (g to n : ℕ) (rest : List Step) (l : Locations) (h : World) (s : State) → Given x held w a (LoadAt width g to n ∷ rest) l h s → Case x (LoadAt width g to n ∷ rest) l h s
load_at_case x w a width g to n rest l h s given = load_at_by x w a width g to n rest l h s given (element h width g n) refl

store_at_by : (x : Site) {held : Scratch} (w a : ℕ) (width : Width) (g n r : ℕ) (rest : List Step) (l : Locations) (h : World) (s : State) → Given x held w a (StoreAt width g n r ∷ rest) l h s → (z : Option ℕ) → element h width g n ≡ z → Case x (StoreAt width g n r ∷ rest) l h s
store_at_by x w a width g n r rest l h s given None is = inr (λ ws. ap (λ z. tried (option_map (λ old. with_element h g n (kept width (l (Register r)))) z) (λ k. Goes (at_steps rest l k ws))) is)
store_at_by x {held} w a width g n r rest l h s (e, st, inside) (Some v) is =
    let there = element_tells h width g n v is in
    let lies = placed x h s width g n v inside.shares there in
    let from = lies.from in
    let low_from = x.layout.from g in
    let b = known_place width (x.layout.base g) n in
    let at = element_place width (x.layout.base g) n in
    let p = x.place + 4 * a in
    let k = with_element h g n (kept width (l (Register r))) in
    let known = known_at x.frame.sets_pointer held b in
    let told = is_known_at x.frame.sets_pointer (x.from.registers 3) held b s.registers inside.pointer inside.holds in
    let u = uppered known s b in
    let wu = within_upper x known l h s b told inside in
    let t : State = record u { pc = u.pc + 4; memory = stored (store_of width) u.memory at (l (Register r)) } in
    inl (stepped x (StoreAt width g n r ∷ rest) rest l l h k s (λ ws. ap (λ z. tried (option_map (λ old. with_element h g n (kept width (l (Register r)))) z) (λ k. Goes (at_steps rest l k ws))) is)
    (uppered_reaches x rest l k known s p b (store_element width (base_register known) r (part_of known b) ∷ []) e (first_items x w a (StoreAt width g n r) rest st)
    (λ stands pc.
    reach_by x rest l k u t _ (a + known_access_size known)
    (store_step x.code u (store_of width) (p + 4 * upper_before known) (base_register known) r (part_of known b) at pc stands.0 (known_address known width s (x.layout.base g) n lies.below told) (store_accessible x.code.floor width at lies.aligned (omega arith) lies.below)
    ∙ ap (λ i. Continues (record u { pc = u.pc + 4; memory = stored (store_of width) u.memory at i })) (sym (wu.same r st.fine.0)))
    (ap (λ i. i + 4) pc ∙ behind_known known x.place a) (standing_tail x w a (StoreAt width g n r) rest st)
    (within_store x l h u (u.pc + 4) width g n (l (Register r)) v there (word_of_register x l h s r st.fine.0 inside) wu))))

pub store_at_case : (x : Site) {held : Scratch} (w a : ℕ) (width : Width) (g n r : ℕ) (rest : List Step) (l : Locations) (h : World) (s : State) → Given x held w a (StoreAt width g n r ∷ rest) l h s → Case x (StoreAt width g n r ∷ rest) l h s
store_at_case x w a width g n r rest l h s given = store_at_by x w a width g n r rest l h s given (element h width g n) refl

-- ---- nearby elements, treated as elements of an object that begins `word` elements further on

near_leads : (width : Width) (i base n c at : ℕ) → n ≡ at → element_place width base (add n c) < 2 ^ 32 → Leads width i (element_place width base (add n c)) (known_place width base c) at
near_leads Byte i base n c at e lt o part f same both is = by o part (f 5) (f i) both is (same ∙ sym e)
  where
    by : (hi lo five k : ℕ) → (hi + lo) % 2 ^ 32 ≡ (base + 1 * c) % 2 ^ 32 → five ≡ (1 * k + hi) % 2 ^ 32 → k ≡ n → (five + lo) % 2 ^ 32 ≡ base + 1 * ((n + c) % 2 ^ 32)
    by hi lo five k p q r = omega arith
near_leads Word i base n c at e lt o part f same both is = by o part (f 5) (f i) both is (same ∙ sym e)
  where
    by : (hi lo five k : ℕ) → (hi + lo) % 2 ^ 32 ≡ (base + 4 * c) % 2 ^ 32 → five ≡ (4 * k + hi) % 2 ^ 32 → k ≡ n → (five + lo) % 2 ^ 32 ≡ base + 4 * ((n + c) % 2 ^ 32)
    by hi lo five k p q r = omega arith

place_word : (width : Width) (base c : ℕ) → known_place width base c < 2 ^ 32
place_word Byte base c = omega arith
place_word Word base c = omega arith

load_near_by : (x : Site) {held : Scratch} (w a : ℕ) (width : Width) (g to i c : ℕ) (rest : List Step) (l : Locations) (h : World) (s : State) → Given x held w a (LoadNear width g to i c ∷ rest) l h s → (z : Option ℕ) → element h width g (add (l (Register i)) c) ≡ z → Case x (LoadNear width g to i c ∷ rest) l h s
load_near_by x w a width g to i c rest l h s given None is = inr (λ ws. ap (λ z. tried z (λ q. Goes (at_steps rest (put (Register to) q l) h ws))) is)
load_near_by x {held} w a width g to i c rest l h s (e, st, inside) (Some v) is =
    let n = add (l (Register i)) c in
    let base = x.layout.base g in
    let there = element_tells h width g n v is in
    let words = base_word x h s width g n v inside.shares there in
    inl (stepped x (LoadNear width g to i c ∷ rest) rest l (put (Register to) v l) h h s (λ ws. ap (λ z. tried z (λ q. Goes (at_steps rest (put (Register to) q l) h ws))) is)
    (loaded_reaches x _ a width g to i (known_place width base c) n v rest l h s e (place_word width base c) (near_leads width i base (l (Register i)) c (l (Register i)) refl words.1) there st.fine.0.0 st.fine.0.1
    (first_items x w a (LoadNear width g to i c) rest st) (standing_tail x w a (LoadNear width g to i c) rest st) inside))

pub load_near_case : (x : Site) {held : Scratch} (w a : ℕ) (width : Width) (g to i c : ℕ) (rest : List Step) (l : Locations) (h : World) (s : State) → Given x held w a (LoadNear width g to i c ∷ rest) l h s → Case x (LoadNear width g to i c ∷ rest) l h s
load_near_case x w a width g to i c rest l h s given = load_near_by x w a width g to i c rest l h s given (element h width g (add (l (Register i)) c)) refl

store_near_by : (x : Site) {held : Scratch} (w a : ℕ) (width : Width) (g i c r : ℕ) (rest : List Step) (l : Locations) (h : World) (s : State) → Given x held w a (StoreNear width g i c r ∷ rest) l h s → (z : Option ℕ) → element h width g (add (l (Register i)) c) ≡ z → Case x (StoreNear width g i c r ∷ rest) l h s
store_near_by x w a width g i c r rest l h s given None is = inr (λ ws. ap (λ z. tried (option_map (λ old. with_element h g (add (l (Register i)) c) (kept width (l (Register r)))) z) (λ k. Goes (at_steps rest l k ws))) is)
store_near_by x {held} w a width g i c r rest l h s (e, st, inside) (Some v) is =
    let n = add (l (Register i)) c in
    let base = x.layout.base g in
    let there = element_tells h width g n v is in
    let words = base_word x h s width g n v inside.shares there in
    inl (stepped x (StoreNear width g i c r ∷ rest) rest l l h (with_element h g n (kept width (l (Register r)))) s (λ ws. ap (λ z. tried (option_map (λ old. with_element h g n (kept width (l (Register r)))) z) (λ k. Goes (at_steps rest l k ws))) is)
    (stored_reaches x _ a width g i r (known_place width base c) n v rest l h s e (place_word width base c) (near_leads width i base (l (Register i)) c (l (Register i)) refl words.1) there st.fine.0.0 st.fine.0.1
    (first_items x w a (StoreNear width g i c r) rest st) (standing_tail x w a (StoreNear width g i c r) rest st) inside))

pub store_near_case : (x : Site) {held : Scratch} (w a : ℕ) (width : Width) (g i c r : ℕ) (rest : List Step) (l : Locations) (h : World) (s : State) → Given x held w a (StoreNear width g i c r ∷ rest) l h s → Case x (StoreNear width g i c r ∷ rest) l h s
store_near_case x w a width g i c r rest l h s given = store_near_by x w a width g i c r rest l h s given (element h width g (add (l (Register i)) c)) refl

-- ---- branches on comparisons

pub branch_case : (x : Site) {held : Scratch} (w a : ℕ) (o : binary.Binary) (nonzero : Bool) (b c n : ℕ) (rest : List Step) (l : Locations) (h : World) (s : State) → Given x held w a (Branch o nonzero b c n ∷ rest) l h s → StandsWhole x → Stepped x (Branch o nonzero b c n ∷ rest) l h s
branch_case x w a o nonzero b c n rest l h s (e, st, inside) all =
    let ops : List Step = Branch o nonzero b c n ∷ rest in
    let fine = st.fine.0 in
    let does = compared o b c s.registers fine.0 in
    let word = does.value in
    let applied : apply_binary o (l (Register b)) (l (Register c)) ≡ Some word = ap₂ (apply_binary o) (inside.same b fine.1) (inside.same c fine.2) ∙ does.applied in
    stepped x ops (led nonzero word rest (place x.steps n)) l l h h s (λ ws. ap (λ z. tried z (λ q. Goes (at_steps (led nonzero q rest (place x.steps n)) l h ws))) applied)
    (told_reaches x _ a n rest l h s (comparison o b c) word nonzero (near x w n) e inside st.from (standing_tail x w a (Branch o nonzero b c n) rest st) all (near_nears x w a n ops st) (first_items x w a (Branch o nonzero b c n) rest st) does.tells)

-- a branch on a register and a word compares the register with x0, or compares x5 with x0 after the recipe's first instruction
word_branch_reaches : (x : Site) {held : Scratch} (v a b n : ℕ) (k : WordRecipe) (word : ℕ) (z : Option Condition) (nonzero is : Bool) (rest : List Step) (l : Locations) (h : World) (s : State) → against_zero k b ≡ z → s.pc ≡ x.place + 4 * a → Within x held l h s → IsPlace (x.place + 4 * a) → Standing x (behind_word_branch z held) v (a + word_branch_size z is) rest → StandsWhole x
    → (is ≡ true → IsClose a (labels x n)) → Stands x (x.place + 4 * a) (word_branch_items z k is nonzero b a (labels x n)) → IsRightWord k (s.registers b) word → word < 2 ^ 32 → Reaches x (led nonzero word rest (place x.steps n)) l h s
word_branch_reaches x v a b n k word (Some c) nonzero is rest l h s alone e inside p st all close f right lt =
    told_reaches x v a n rest l h s c word nonzero is e inside p st all (λ q. close_nears a (labels x n) (close q)) f (alone_tells k b s.registers word c inside.sound.zero (inside.sound.registers b) right alone)
word_branch_reaches x {held} v a b n k word None nonzero is rest l h s alone e inside p st all close f right lt =
    let first = first_tells k (s.registers b) word right lt in
    let u = first_word k (s.registers b) in
    let t : State = record s { pc = s.pc + 4; registers = with_register s.registers 5 u } in
    let wt = within_5 x l h s (s.pc + 4) u first.0 inside in
    let up = st.from.to in
    let lo = p.from in
    let z = p.aligned in
    let next : IsPlace (x.place + 4 * (a + 1)) = record { aligned = omega arith; from = omega arith; to = omega arith } in
    let there : x.place + 4 * a + 4 ≡ x.place + 4 * (a + 1) = behind_1 x.place a in
    let long : a + (1 + branch_size is) ≡ a + 1 + branch_size is = omega arith in
    let one : machine_step x.code s ≡ Continues t = step_at x.code s (x.place + 4 * a) (first_instr k 5 b) e f.0 ∙ first_executes x.code.floor k 5 b s inside.sound.zero in
    let tells : Tells (compares (asked_of k) 5 0) t.registers word = ap (λ q. is_taken (asked_of k) u q) wt.sound.zero ∙ first.1 in
    reach_more x (led nonzero word rest (place x.steps n)) l h s t one
    (told_reaches x v (a + 1) n rest l h t (compares (asked_of k) 5 0) word nonzero is (ap (λ q. q + 4) e ∙ there) wt next (subst (λ q. Standing x (without_address held) v q rest) long st) all (λ q. next_nears a (labels x n) (close q))
    (subst (λ q. Stands x q (branch_items is (turned nonzero (compares (asked_of k) 5 0)) (a + 1) (labels x n))) there f.1) tells)

pub branch_immediate_case : (x : Site) {held : Scratch} (w a : ℕ) (o : WordOperator) (nonzero : Bool) (b word n : ℕ) (rest : List Step) (l : Locations) (h : World) (s : State) → Given x held w a (BranchImmediate o nonzero b word n ∷ rest) l h s → StandsWhole x → Stepped x (BranchImmediate o nonzero b word n ∷ rest) l h s
branch_immediate_case x {held} w a o nonzero b word n rest l h s (e, st, inside) all =
    let ops : List Step = BranchImmediate o nonzero b word n ∷ rest in
    let fine = st.fine.0 in
    let k = word_recipe o word in
    let wb = word_of_register x l h s b fine.0 inside in
    let does = immediate_gives o (l (Register b)) word wb fine.1 fine.2 in
    let v = does.value in
    stepped x ops (led nonzero v rest (place x.steps n)) l l h h s (λ ws. ap (λ z. tried z (λ q. Goes (at_steps (led nonzero q rest (place x.steps n)) l h ws))) does.applied)
    (word_branch_reaches x _ a b n k v (against_zero k b) nonzero (near x w n) rest l h s refl e inside st.from (standing_tail x w a (BranchImmediate o nonzero b word n) rest st) all (stays_near x.frame (all_addressed x) (addressed_at x held ops) w a n st.seen) (first_items x w a (BranchImmediate o nonzero b word n) rest st)
    (subst (λ q. IsRightWord k q v) (inside.same b fine.0) does.right) (gives_word o (l (Register b)) word v wb fine.1 does.applied))
