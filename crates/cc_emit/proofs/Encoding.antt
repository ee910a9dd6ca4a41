-- Every item of a function's code can be encoded as a word, wherever the code is: each instruction is encodable, each call is of a function
-- of the unit, and each jump goes to a place within the code.
use Rattle.std.proofs.Common.{◌≡◌, ℕ, ◌+◌, ◌-◌, ◌*◌, ◌<◌, ◌≤◌, ◌^◌, List, [], ◌∷◌, ◌++◌, Option, Some, None, true, false, Bool, length, refl, subst, inl, inr, arith}
use Rattle.std.specs.Prelude.{if◌then◌else◌, ◌==◌, option_map}
use Rattle.std.proofs.lemmas.List.{length-append}
use Rattle.cc_words.specs.Words.{add, neg}
use Rattle.cc_words.specs.declared.operators.Unary as unary
use Rattle.cc_words.specs.declared.operators.Unary.TheVariants.{Neg, Complement, IsZero}
use Rattle.cc_simulation.specs.Meaning.{Meaning}
use Rattle.cc_ltl.specs.declared.operation.Move.{Move}
use Rattle.cc_ltl.specs.declared.operation.Move.TheVariants.{Between, Reload, Spill}
use Rattle.cc_linear_language.specs.declared.item.LinearItem.{LinearItem}
use Rattle.cc_linear_language.specs.declared.item.LinearItem.TheVariants.{Label, Jump, IfNonzero, IfZero, Copy, Const, Unary, Binary, Load, Store, Call, Read, Write, Return}
use Rattle.cc_select.specs.declared.step.WordOperator.{WordOperator}
use Rattle.cc_select.specs.declared.step.WordOperator.TheVariants as immediates
use Rattle.cc_select.specs.declared.step.Step.{Step}
use Rattle.cc_select.specs.declared.step.Step.TheVariants.{One, Immediate, LoadAt, StoreAt, LoadNear, StoreNear, Branch, BranchImmediate}
use Rattle.cc_rv32.specs.declared.instr.Instr.TheVariants.{Lui, Op}
use Rattle.cc_rv32.specs.declared.instr.RegisterOperation.TheVariants as operation
use Rattle.cc_rv32.specs.declared.instr.ImmediateOperation.TheVariants.{Addi, Slti, Sltiu}
use Rattle.cc_rv32.specs.declared.instr.ImmediateOperation.{ImmediateOperation}
use Rattle.cc_rv32.specs.declared.instr.RegisterOperation.{RegisterOperation}
use Rattle.cc_rv32.specs.declared.instr.BranchOperation.TheVariants.{Beq, Bne, Blt, Bge}
use Rattle.cc_rv32.specs.Fields.{IsImmediate}
use Rattle.cc_rv32.specs.Table.{IsEncodable}
use Rattle.cc_words.specs.declared.operators.Binary as binary
use Rattle.cc_words.specs.declared.operators.Binary.TheVariants as operators
use Rattle.cc_emit.specs.declared.condition.Condition.{Condition}
use Rattle.cc_emit.specs.Branches.{compares, opposed, turned, comparison, immediate_against_zero, operation_on_zero, against_zero, asked_of}
use Rattle.cc_emit.specs.declared.item.PieceItem.{PieceItem}
use Rattle.cc_emit.specs.declared.item.PieceItem.TheVariants.{Plain}
use Rattle.cc_words.specs.declared.operators.Width.{Width}
use Rattle.cc_words.specs.declared.operators.Width.TheVariants.{Byte, Word}
use Rattle.cc_emit.specs.declared.addressed.Addressed.{Addressed}
use Rattle.cc_emit.specs.declared.addressed.Remembered.{Remembered}
use Rattle.cc_emit.specs.declared.addressed.Remembered.TheVariants.{Nothing, Upper, Element, ByPointer, ElementByPointer}
use Rattle.cc_emit.specs.declared.scratch.Scratch.{Scratch}
use Rattle.cc_emit.specs.Scratch.{nothing, with_known, behind_step, addressed}
use Rattle.cc_emit.specs.Contract.{AreFit, IsFit, global_pointer}
use Rattle.cc_emit.specs.Frames.{Frame, frame_size}
use Rattle.cc_emit.specs.Emission.{addi, base_register, pointer_items, branch_items, emitted, epilogue, framed_items, high, first_instr, indexed, is_near, items_of, items_of_one, items_of_step, load_element, long_size, low, move_item, part_of, prologue, prologue_size, recipe, recipe_items, restoring, saving, short_place, size, stack_moved, stack_moved_size, unary_instr, word_branch_items, word_recipe, word_recipe_items, store_element, upper_items, known_place}
use Rattle.cc_emit.specs.declared.recipe.Recipe.{Recipe}
use Rattle.cc_emit.specs.internal.Room.{HasRoom}
use Rattle.cc_emit.specs.declared.recipe.WordRecipe.{WordRecipe}
use Rattle.cc_emit.specs.declared.recipe.Recipe.TheVariants.{Direct, NonzeroOf, ZeroOf, ZeroOfExchanged}
use Rattle.cc_emit.specs.declared.recipe.WordRecipe.TheVariants.{NonzeroOfImmediate, OnZero, ShiftBy, WithImmediate, ZeroOfImmediate}
use Rattle.cc_emit.proofs.Fine.{AreFine, AreSavable, IsFine, IsFineStep, IsFineMove, IsFrame, IsSavable}
use Rattle.cc_emit.proofs.Basics.{LowIs, low_is, eqb_denies}
use Rattle.cc_emit.proofs.Places.{AreSeen, IsClose, Nears, close_nears, next_nears, length_pointer_items, length_saving, length_stack_moved, near_offset, seen_first, seen_next, short_place_le, stays_near}

low_fits_of : (w x : ℕ) → LowIs w x → IsImmediate x
low_fits_of w x (inl h) = (omega arith, omega arith)
low_fits_of w x (inr h) = (omega arith, omega arith)

low_fits : (w : ℕ) → IsImmediate (low w)
low_fits w = low_fits_of w (low w) (low_is w)

part_fits : (k : Remembered) (a : ℕ) → IsImmediate (part_of k a)
part_fits Nothing a = low_fits a
part_fits Upper a = low_fits a
part_fits Element a = low_fits a
part_fits ByPointer a = low_fits (add a (2 ^ 32 - global_pointer))
part_fits ElementByPointer a = low_fits (add a (2 ^ 32 - global_pointer))

register_below : (k : Remembered) → base_register k < 32
register_below Nothing = omega arith
register_below Upper = omega arith
register_below Element = omega arith
register_below ByPointer = omega arith
register_below ElementByPointer = omega arith

savable_below : (r : ℕ) → IsSavable r → r < 32
savable_below r (inl e) = omega arith
savable_below r (inr (inl k)) = omega arith
savable_below r (inr (inr k)) = omega arith

-- ---- the registers of conditions

abbrev AreRegisters : Condition → Type 0
AreRegisters c = (c.left < 32) × (c.right < 32)

turned_registers : (nonzero : Bool) (c : Condition) → AreRegisters c → AreRegisters (turned nonzero c)
turned_registers true c u = u
turned_registers false c u = u

comparison_registers : (o : binary.Binary) (a b : ℕ) → a < 32 → b < 32 → AreRegisters (comparison o a b)
comparison_registers operators.LeS a b p q = (q, p)
comparison_registers operators.LeU a b p q = (q, p)
comparison_registers _ a b p q = (p, q)

none_registers : (c : Condition) → None ≡ Some c → AreRegisters c
none_registers c e = absurd (cc)

some_registers : (b c : Condition) → AreRegisters b → Some b ≡ Some c → AreRegisters c
some_registers b c u e = subst AreRegisters (let z : b ≡ c = cc in z) u

immediate_registers : (i : ImmediateOperation) (n a : ℕ) (c : Condition) → a < 32 → immediate_against_zero i n a ≡ Some c → AreRegisters c
immediate_registers Slti n a c p e = by_part (n == 0) (n == 1) e
  where
    by_part : (x y : Bool) → (if x then Some (compares Blt a 0) else if y then Some (compares Bge 0 a) else None) ≡ Some c → AreRegisters c
    by_part true y f = some_registers (compares Blt a 0) c (p, omega arith) f
    by_part false true f = some_registers (compares Bge 0 a) c (omega arith, p) f
    by_part false false f = none_registers c f
immediate_registers Sltiu n a c p e = by_part (n == 1) e
  where
    by_part : (x : Bool) → (if x then Some (compares Beq a 0) else None) ≡ Some c → AreRegisters c
    by_part true f = some_registers (compares Beq a 0) c (p, omega arith) f
    by_part false f = none_registers c f
immediate_registers _ n a c p e = none_registers c e

operation_registers : (i : RegisterOperation) (a : ℕ) (c : Condition) → a < 32 → operation_on_zero i a ≡ Some c → AreRegisters c
operation_registers operation.Slt a c p e = some_registers (compares Blt 0 a) c (omega arith, p) e
operation_registers operation.Sltu a c p e = some_registers (compares Bne a 0) c (p, omega arith) e
operation_registers _ a c p e = none_registers c e

opposed_registers : (z : Option Condition) (c : Condition) → ((d : Condition) → z ≡ Some d → AreRegisters d) → option_map opposed z ≡ Some c → AreRegisters c
opposed_registers None c f e = none_registers c e
opposed_registers (Some d) c f e = some_registers (opposed d) c (f d refl) e

against_registers : (k : WordRecipe) (a : ℕ) (c : Condition) → a < 32 → against_zero k a ≡ Some c → AreRegisters c
against_registers (WithImmediate i n) a c p e = immediate_registers i n a c p e
against_registers (ShiftBy i n) a c p e = none_registers c e
against_registers (OnZero i) a c p e = operation_registers i a c p e
against_registers (ZeroOfImmediate i n) a c p e = opposed_registers (immediate_against_zero i n a) c (λ d f. immediate_registers i n a d p f) e
against_registers (NonzeroOfImmediate i n) a c p e = none_registers c e

-- ---- items

module _ (functions long : ℕ) where
  abbrev Fit : List PieceItem → Type 0
  Fit items = AreFit functions long items

  append_fit : (xs ys : List PieceItem) → Fit xs → Fit ys → Fit (xs ++ ys)
  append_fit [] ys p q = q
  append_fit (x ∷ xs) ys p q = (p.0, append_fit xs ys p.1 q)

  saving_fit : (o : ℕ) (rs : List ℕ) → AreSavable rs → o + 4 * length rs ≤ 2032 → Fit (saving o rs)
  saving_fit o [] sv le = tt
  saving_fit o (r ∷ rs) sv le = ((omega arith, savable_below r sv.0, (omega arith, omega arith)), saving_fit (o + 4) rs sv.1 (omega arith))

  restoring_fit : (o : ℕ) (rs : List ℕ) → AreSavable rs → o + 4 * length rs ≤ 2032 → Fit (restoring o rs)
  restoring_fit o [] sv le = tt
  restoring_fit o (r ∷ rs) sv le = ((savable_below r sv.0, omega arith, (omega arith, omega arith)), restoring_fit (o + 4) rs sv.1 (omega arith))

  moved_fit : (b : Bool) (by : ℕ) → (b ≡ false → IsImmediate by) → Fit (if b then [] else addi 2 2 by ∷ [])
  moved_fit true by p = tt
  moved_fit false by p = ((omega arith, omega arith, p refl), tt)

  recipe_fit : (k : Recipe) (to a b : ℕ) → to < 32 → a < 32 → b < 32 → Fit (recipe_items k to a b)
  recipe_fit (Direct i) to a b t p q = ((t, p, q), tt)
  recipe_fit (ZeroOf i) to a b t p q = ((omega arith, p, q), ((t, omega arith, (omega arith, omega arith)), tt))
  recipe_fit (ZeroOfExchanged i) to a b t p q = ((omega arith, q, p), ((t, omega arith, (omega arith, omega arith)), tt))
  recipe_fit (NonzeroOf i) to a b t p q = ((omega arith, p, q), ((t, omega arith, omega arith), tt))

  unary_encodable : (o : unary.Unary) (to a : ℕ) → to < 32 → a < 32 → IsEncodable (unary_instr o to a)
  unary_encodable Neg to a t p = (t, omega arith, p)
  unary_encodable Complement to a t p = (t, p, (omega arith, omega arith))
  unary_encodable IsZero to a t p = (t, p, (omega arith, omega arith))

  const_fit : (no_high no_low : Bool) (to w : ℕ) → to < 32 → Fit (if no_high then addi to 0 (low w) ∷ [] else if no_low then Plain (Lui to (high w)) ∷ [] else Plain (Lui to (high w)) ∷ addi to to (low w) ∷ [])
  const_fit true no_low to w t = ((t, omega arith, low_fits w), tt)
  const_fit false true to w t = ((t, omega arith), tt)
  const_fit false false to w t = ((t, omega arith), ((t, t, low_fits w), tt))

  branch_fit : (near : Bool) (c : Condition) (a to : ℕ) → AreRegisters c → (near ≡ true → Nears a to) → to ≤ long → Fit (branch_items near c a to)
  branch_fit true c a to u n le = ((u.0, u.1, near_offset a to (n refl)), tt)
  branch_fit false c a to u n le = ((u.0, u.1, (omega arith, omega arith, omega arith)), (le, tt))

  epilogue_fit : (f : Frame) → IsFrame f → Fit (epilogue f)
  epilogue_fit f is =
      let small = is.small in
      append_fit (restoring (4 * f.slots) f.saved) _ (restoring_fit (4 * f.slots) f.saved is.savable (omega arith))
      (append_fit (stack_moved f (frame_size f)) _ (moved_fit (frame_size f == 0) (frame_size f) (λ e. (omega arith, omega arith))) ((omega arith, omega arith, (omega arith, omega arith)), tt))

  prologue_fit : (f : Frame) → IsFrame f → Fit (prologue f)
  prologue_fit f is =
      let small = is.small in
      append_fit (pointer_items f) _ (pointer_fit f.sets_pointer)
      (append_fit (stack_moved f _) (saving (4 * f.slots) f.saved) (moved_fit (frame_size f == 0) _ (λ e. (let some = eqb_denies (frame_size f) 0 e in by_fits (frame_size f) some (omega arith))))
      (saving_fit (4 * f.slots) f.saved is.savable (omega arith)))
    where
      pointer_fit : (b : Bool) → Fit (if b then Plain (Lui 3 (high global_pointer)) ∷ addi 3 3 (low global_pointer) ∷ [] else [])
      pointer_fit true = ((omega arith, omega arith), ((omega arith, omega arith, low_fits global_pointer), tt))
      pointer_fit false = tt

      by_fits : (n : ℕ) → (n ≡ 0 → ⊥) → n ≤ 2032 → IsImmediate (2 ^ 32 - n)
      by_fits n some le = (omega arith, omega arith)

  move_encodable : (f : Frame) (m : Move) → IsFrame f → IsFineMove f m → Fit (move_item m ∷ [])
  move_encodable f (Between to from) is u = (let t = u.0.0 in let p = u.1 in ((omega arith, omega arith, (omega arith, omega arith)), tt))
  move_encodable f (Reload to slot) is u = (let t = u.0.0 in let lt = u.1 in let small = is.small in ((omega arith, omega arith, (omega arith, omega arith)), tt))
  move_encodable f (Spill slot from) is u = (let p = u.1 in let lt = u.0 in let small = is.small in ((omega arith, omega arith, (omega arith, omega arith)), tt))

  upper_fit : (k : Remembered) (b : ℕ) (items : List PieceItem) → Fit items → Fit (upper_items k b ++ items)
  upper_fit Nothing b items p = ((omega arith, omega arith), p)
  upper_fit Upper b items p = p
  upper_fit Element b items p = p
  upper_fit ByPointer b items p = p
  upper_fit ElementByPointer b items p = p

  access_fit : (k : Remembered) (width : Width) (b i : ℕ) (item : PieceItem) → i < 32 → IsFit functions long item → Fit (indexed k width b i (item ∷ []))
  access_fit Nothing Byte b i item p q = upper_fit Nothing b (Plain (Op operation.Add 5 i 6) ∷ item ∷ []) ((omega arith, p, omega arith), (q, tt))
  access_fit Upper Byte b i item p q = upper_fit Upper b (Plain (Op operation.Add 5 i 6) ∷ item ∷ []) ((omega arith, p, omega arith), (q, tt))
  access_fit Nothing Word b i item p q = ((omega arith, p, omega arith), upper_fit Nothing b (Plain (Op operation.Add 5 5 6) ∷ item ∷ []) ((omega arith, omega arith, omega arith), (q, tt)))
  access_fit Upper Word b i item p q = ((omega arith, p, omega arith), upper_fit Upper b (Plain (Op operation.Add 5 5 6) ∷ item ∷ []) ((omega arith, omega arith, omega arith), (q, tt)))
  access_fit Element width b i item p q = (q, tt)
  access_fit ByPointer Byte b i item p q = upper_fit ByPointer b (Plain (Op operation.Add 5 i 3) ∷ item ∷ []) ((omega arith, p, omega arith), (q, tt))
  access_fit ByPointer Word b i item p q = ((omega arith, p, omega arith), upper_fit ByPointer b (Plain (Op operation.Add 5 5 3) ∷ item ∷ []) ((omega arith, omega arith, omega arith), (q, tt)))
  access_fit ElementByPointer width b i item p q = (q, tt)

  one_fit : (meaning : Meaning) (base : ℕ → ℕ) (f : Frame) (near : ℕ → Bool) (labels : ℕ → ℕ) (a : ℕ) (k : Remembered) (i : LinearItem) → meaning.functions ≡ functions → IsFrame f → IsFine meaning f i → ((l : ℕ) → near l ≡ true → IsClose a (labels l)) → ((l : ℕ) → labels l ≤ long) → Fit (items_of_one base f near labels a k i)
  one_fit meaning base f near labels a k (Label label) e is u n le = tt
  one_fit meaning base f near labels a k (Jump to) e is u n le = (le to, tt)
  one_fit meaning base f near labels a k (IfNonzero from to) e is u n le = branch_fit (near to) (compares Bne from 0) a (labels to) (u.1, omega arith) (λ q. close_nears a (labels to) (n to q)) (le to)
  one_fit meaning base f near labels a k (IfZero from to) e is u n le = branch_fit (near to) (compares Beq from 0) a (labels to) (u.1, omega arith) (λ q. close_nears a (labels to) (n to q)) (le to)
  one_fit meaning base f near labels a k (Copy m) e is u n le = move_encodable f m is u
  one_fit meaning base f near labels a k (Const to word) e is u n le = const_fit (high word == 0) (low word == 0) to word u.0.0.1
  one_fit meaning base f near labels a k (Unary o to from) e is u n le = (unary_encodable o to from u.0.0.1 u.1.1, tt)
  one_fit meaning base f near labels a k (Binary o to left right) e is u n le = recipe_fit (recipe o) to left right u.0.0.1 u.1.1 u.2.1
  one_fit meaning base f near labels a k (Load width object to index) e is u n le = access_fit k width (base object) index (load_element width to 5 (part_of k (base object))) u.1.1 (u.0.0.1, omega arith, part_fits k _)
  one_fit meaning base f near labels a k (Store width object index from) e is u n le = access_fit k width (base object) index (store_element width 5 from (part_of k (base object))) u.0.1 (omega arith, u.1.1, part_fits k _)
  one_fit meaning base f near labels a k (Call function) e is u n le = (let lt = u.0 in omega arith, tt)
  one_fit meaning base f near labels a k Read e is u n le = ((omega arith, omega arith, (omega arith, omega arith)), (tt, tt))
  one_fit meaning base f near labels a k Write e is u n le = ((omega arith, omega arith, (omega arith, omega arith)), (tt, tt))
  one_fit meaning base f near labels a k Return e is u n le = epilogue_fit f is

  room_if : (b : Bool) (j k : WordRecipe) → HasRoom j → HasRoom k → HasRoom (if b then j else k)
  room_if true j k p q = p
  room_if false j k p q = q

  has_room : (o : WordOperator) (w : ℕ) → HasRoom (word_recipe o w)
  has_room immediates.Add w = low_fits w
  has_room immediates.Sub w = low_fits _
  has_room immediates.Shl w = omega arith
  has_room immediates.ShrS w = omega arith
  has_room immediates.ShrU w = omega arith
  has_room immediates.And w = low_fits w
  has_room immediates.Or w = low_fits w
  has_room immediates.Xor w = low_fits w
  has_room immediates.Eq w = room_if (w == 0) (WithImmediate Sltiu 1) (ZeroOfImmediate Addi (low (neg w))) (omega arith, omega arith) (low_fits _)
  has_room immediates.Ne w = room_if (w == 0) (OnZero operation.Sltu) (NonzeroOfImmediate Addi (low (neg w))) tt (low_fits _)
  has_room immediates.LtS w = low_fits w
  has_room immediates.LtU w = low_fits w
  has_room immediates.LeS w = low_fits _
  has_room immediates.LeU w = low_fits _
  has_room immediates.GtS w = tt
  has_room immediates.GtU w = tt
  has_room immediates.GeS w = low_fits w
  has_room immediates.GeU w = low_fits w

  first_encodable : (k : WordRecipe) (to a : ℕ) → HasRoom k → to < 32 → a < 32 → IsEncodable (first_instr k to a)
  first_encodable (WithImmediate i n) to a u t p = (t, p, u)
  first_encodable (ShiftBy i n) to a u t p = (t, p, u)
  first_encodable (OnZero i) to a u t p = (t, omega arith, p)
  first_encodable (ZeroOfImmediate i n) to a u t p = (t, p, u)
  first_encodable (NonzeroOfImmediate i n) to a u t p = (t, p, u)

  word_recipe_fit : (k : WordRecipe) (to a : ℕ) → HasRoom k → to < 32 → a < 32 → Fit (word_recipe_items k to a)
  word_recipe_fit (WithImmediate i n) to a u t p = ((t, p, u), tt)
  word_recipe_fit (ShiftBy i n) to a u t p = ((t, p, u), tt)
  word_recipe_fit (OnZero i) to a u t p = ((t, omega arith, p), tt)
  word_recipe_fit (ZeroOfImmediate i n) to a u t p = ((omega arith, p, u), ((t, omega arith, (omega arith, omega arith)), tt))
  word_recipe_fit (NonzeroOfImmediate i n) to a u t p = ((omega arith, p, u), ((t, omega arith, omega arith), tt))

  word_branch_fit : (z : Option Condition) (k : WordRecipe) (near nonzero : Bool) (r a to : ℕ) → ((c : Condition) → z ≡ Some c → AreRegisters c) → HasRoom k → r < 32 → (near ≡ true → IsClose a to) → to ≤ long → Fit (word_branch_items z k near nonzero r a to)
  word_branch_fit (Some c) k near nonzero r a to all u p n le = branch_fit near (turned nonzero c) a to (turned_registers nonzero c (all c refl)) (λ q. close_nears a to (n q)) le
  word_branch_fit None k near nonzero r a to all u p n le =
      (first_encodable k 5 r u (omega arith) p, branch_fit near (turned nonzero (compares (asked_of k) 5 0)) (a + 1) to (turned_registers nonzero (compares (asked_of k) 5 0) (omega arith, omega arith)) (λ q. next_nears a to (n q)) le)

  step_fit : (meaning : Meaning) (base : ℕ → ℕ) (f : Frame) (near : ℕ → Bool) (labels : ℕ → ℕ) (a : ℕ) (k : Remembered) (s : Step) → meaning.functions ≡ functions → IsFrame f → IsFineStep meaning f s → ((l : ℕ) → near l ≡ true → IsClose a (labels l)) → ((l : ℕ) → labels l ≤ long) → Fit (items_of_step base f near labels a k s)
  step_fit meaning base f near labels a k (One i) e is u n le = one_fit meaning base f near labels a k i e is u n le
  step_fit meaning base f near labels a k (Immediate o to from word) e is u n le = word_recipe_fit (word_recipe o word) to from (has_room o word) u.0.0.1 u.1.1
  step_fit meaning base f near labels a k (LoadAt width object to number) e is u n le = upper_fit k (known_place width (base object) number) (load_element width to (base_register k) (part_of k (known_place width (base object) number)) ∷ []) ((u.0.1, register_below k, part_fits k _), tt)
  step_fit meaning base f near labels a k (StoreAt width object number from) e is u n le = upper_fit k (known_place width (base object) number) (store_element width (base_register k) from (part_of k (known_place width (base object) number)) ∷ []) ((register_below k, u.1, part_fits k _), tt)
  step_fit meaning base f near labels a k (LoadNear width object to index word) e is u n le =
      access_fit k width (known_place width (base object) word) index (load_element width to 5 (part_of k (known_place width (base object) word))) u.1.1 (u.0.0.1, omega arith, part_fits k _)
  step_fit meaning base f near labels a k (StoreNear width object index word from) e is u n le =
      access_fit k width (known_place width (base object) word) index (store_element width 5 from (part_of k (known_place width (base object) word))) u.0.1 (omega arith, u.1.1, part_fits k _)
  step_fit meaning base f near labels a k (Branch o nonzero left right to) e is u n le =
      branch_fit (near to) (turned nonzero (comparison o left right)) a (labels to) (turned_registers nonzero (comparison o left right) (comparison_registers o left right u.1.1 u.2.1)) (λ q. close_nears a (labels to) (n to q)) (le to)
  step_fit meaning base f near labels a k (BranchImmediate o nonzero from word to) e is u n le =
      word_branch_fit (against_zero (word_recipe o word) from) (word_recipe o word) (near to) nonzero from a (labels to) (λ c q. against_registers (word_recipe o word) from c u.0.1 q) (has_room o word) u.0.1 (n to) (le to)

  emitted_fit : (meaning : Meaning) (base : ℕ → ℕ) (f : Frame) (all : List Addressed) (w a : ℕ) (held : Scratch) (ops : List Step) → meaning.functions ≡ functions → IsFrame f → AreFine meaning f ops → AreSeen f all (addressed base f.sets_pointer held ops) w a → ((l : ℕ) → short_place f (is_near f all) 0 (prologue_size f) all l ≤ long)
      → Fit (emitted base f (is_near f all) (short_place f (is_near f all) 0 (prologue_size f) all) w a (addressed base f.sets_pointer held ops))
  emitted_fit meaning base f all w a held [] e is u seen le = tt
  emitted_fit meaning base f all w a held (op ∷ ops) e is u seen le =
      let near = is_near f all in
      let labels = short_place f near 0 (prologue_size f) all in
      let i = with_known base f.sets_pointer held op in
      let next = behind_step base f.sets_pointer op held in
      append_fit (items_of base f (near w) labels a i) _ (step_fit meaning base f (near w) labels a i.known op e is u.0 (λ l. stays_near f all (i ∷ addressed base f.sets_pointer next ops) w a l seen) le)
      (emitted_fit meaning base f all (w + long_size f i) (a + size f (near w) i) next ops e is u.1 (seen_next f all i (addressed base f.sets_pointer next ops) w a seen) le)

pub framed_fit : (meaning : Meaning) (base : ℕ → ℕ) (f : Frame) (steps : List Step) → IsFrame f → AreFine meaning f steps → AreFit meaning.functions (length (framed_items base f (addressed base f.sets_pointer nothing steps))) (framed_items base f (addressed base f.sets_pointer nothing steps))
framed_fit meaning base f steps is u =
    let all = addressed base f.sets_pointer nothing steps in
    let near = is_near f all in
    let labels = short_place f near 0 (prologue_size f) all in
    let rest = emitted base f near labels 0 (prologue_size f) all in
    let by = 2 ^ 32 - frame_size f in
    let move = stack_moved f by in
    let o = length-append (pointer_items f) (move ++ saving (4 * f.slots) f.saved) in
    let n = length_pointer_items f in
    let p : length (move ++ saving (4 * f.slots) f.saved) ≡ length move + length (saving (4 * f.slots) f.saved) = length-append move (saving (4 * f.slots) f.saved) in
    let q : length move ≡ stack_moved_size f = length_stack_moved f by in
    let r : length (saving (4 * f.slots) f.saved) ≡ length f.saved = length_saving (4 * f.slots) f.saved in
    let whole : length (prologue f ++ rest) ≡ length (prologue f) + length rest = length-append (prologue f) rest in
    let long = length (prologue f ++ rest) in
    append_fit meaning.functions long (prologue f) rest (prologue_fit meaning.functions long f is)
    (emitted_fit meaning.functions long meaning base f all 0 (prologue_size f) nothing steps refl is u (seen_first f all) (λ l. (let le = short_place_le base f near labels 0 (prologue_size f) all l in omega arith)))
