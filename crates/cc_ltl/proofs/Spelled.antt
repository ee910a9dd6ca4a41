-- Moves, operations, blocks and whole functions: what is read is what was written, and what was written is read again.
use Rattle.std.proofs.Common.{◌≡◌, ℕ, ◌^◌, ◌<◌, ◌≤◌, cond, eqb, List, [], ◌∷◌, ◌++◌, length, Some, None, refl, sym, ap, subst, ◌∙◌, arith, inl, inr}
use Rattle.std.specs.Prelude.{Err}
use Rattle.std.specs.List.{flat_map, AllByRecursion}
use Rattle.std.proofs.lemmas.Bool.{eqb-true}
use Rattle.std.proofs.lemmas.List.{append-nil, nil_from_length}
use Rattle.std.proofs.lemmas.Option.{none-some, same_Some}
use Rattle.cc_words.specs.declared.operators.Width.{Width}
use Rattle.cc_words.specs.Widths.{bytes as element_bytes}
use Rattle.cc_ltl.specs.declared.operation.Move.{Move}
use Rattle.cc_ltl.specs.declared.operation.Move.TheVariants.{Between, Reload, Spill}
use Rattle.cc_ltl.specs.declared.operation.Operation.{Operation}
use Rattle.cc_ltl.specs.declared.operation.Operation.TheVariants.{Nop, Const, Unary, Binary, Load, Store, Call, Read, Write, Branch, Return}
use Rattle.cc_ltl.specs.declared.block.Block.{Block}
use Rattle.cc_ltl.specs.declared.fault.LtlFault.{LtlFault}
use Rattle.cc_ltl.specs.declared.fault.LtlFault.TheVariants.{Damaged, OutOfMemory}
use Rattle.cc_ltl.specs.Registers.{IsAllocatable, most_slots}
use Rattle.cc_ltl.specs.Ltl.{Ltl, IsWord, IsMove, AreMoves, IsOperation, IsBlock, IsLtl}
use Rattle.cc_ltl.specs.Bytes.{half_bytes, word_bytes, unary_number, binary_number, move_bytes, operation_bytes, moves_bytes, block_bytes, ltl_bytes, Spells, ReadAnswers}
use Rattle.cc_ltl.specs.internal.Reading.{◌>>=◌, Reader, both, mapped, nothing_in, byte_in, half_in, word_in, register_in, slot_in, unary_in, binary_in, width_in, chosen, between_in, reload_in, spill_in, move_kinds, move_in, moves_in, nop_in, const_in, unary_operation_in, binary_operation_in, access_in, load_in, store_in, call_in, read_in, write_in, branch_in, return_in, operation_kinds, operation_in, block_in, blocks_in, slots_in, parts_in}
use Rattle.cc_ltl.proofs.Times.{IsFault}
use Rattle.cc_ltl.proofs.Fields.{AreBytes, bind_some, which, when_some, Takes, IsField, both_field, mapped_takes, mapped_again, counted_field, nothing_field, half_field, word_field, register_field, slot_field, slots_field, unary_field, binary_field, width_field}

-- ---- a number before the fields

-- if a kind's reader reads a value from some bytes, the kind's number followed by what it read spells that value
abbrev IsKind : {B : Type 0} → (B → List ℕ) → ℕ × Reader B → Type 0
IsKind {B} spell kind = (bytes : List ℕ) (y : B) (rest : List ℕ) → AreBytes bytes → kind.1 bytes ≡ Some (y, rest) → Takes (kind.0 ∷ bytes) (spell y) rest

is_kind : {A B : Type 0} (spell : B → List ℕ) (number : ℕ) (f : Reader A) (s : A → List ℕ) (P : A → Type 0) → IsField f s P → (make : A → B) → ((a : A) → spell (make a) ≡ number ∷ s a) → IsKind spell (number, mapped make f)
is_kind {A} {B} spell number f s P p make same bytes y rest are e =
    let a = mapped_takes f s P p make bytes y rest are e in
    let here : number ∷ bytes ≡ spell (make a.0) ++ rest = ap (λ (t : List ℕ). number ∷ t) a.2.parts ∙ ap (λ (t : List ℕ). t ++ rest) (sym (same a.0)) in
    subst (λ (z : B). Takes (number ∷ bytes) (spell z) rest) a.1 (record { parts = here; are = a.2.are })

chosen_takes : {B : Type 0} (spell : B → List ℕ) (kinds : List (ℕ × Reader B)) → AllByRecursion (IsKind spell) kinds → (number : ℕ) (bytes : List ℕ) (y : B) (rest : List ℕ) → AreBytes bytes
    → chosen kinds number bytes ≡ Some (y, rest) → Takes (number ∷ bytes) (spell y) rest
chosen_takes spell [] all number bytes y rest are e = absurd (none-some (y, rest) e)
chosen_takes spell (kind ∷ kinds) all number bytes y rest are e =
    elim (which (eqb number kind.0) (kind.1 bytes) (chosen kinds number bytes) (y, rest) e) [
      | inl p ↦ rw (eqb-true number kind.0 p.0) (all.0 bytes y rest are p.1)
      | inr p ↦ chosen_takes spell kinds all.1 number bytes y rest are p.1
    ]

-- reading a number, and then with the reader that belongs to it, takes what the value spells
numbered_takes : {B : Type 0} (spell : B → List ℕ) (kinds : List (ℕ × Reader B)) → AllByRecursion (IsKind spell) kinds → (bytes : List ℕ) (y : B) (rest : List ℕ) → AreBytes bytes
    → (byte_in bytes >>= λ k. chosen kinds k.0 k.1) ≡ Some (y, rest) → Takes bytes (spell y) rest
numbered_takes spell kinds all [] y rest are e = absurd (none-some (y, rest) e)
numbered_takes spell kinds all (number ∷ bytes) y rest are e = chosen_takes spell kinds all number bytes y rest are.1 e

-- ---- moves

abbrev one : ℕ → List ℕ
one b = b ∷ []

two_registers : IsField (both register_in register_in) (λ x. one x.0 ++ one x.1) (λ x. IsAllocatable x.0 × IsAllocatable x.1)
two_registers = both_field register_in one IsAllocatable register_in one IsAllocatable register_field register_field

register_and_slot : (slots : ℕ) → slots ≤ most_slots → IsField (both register_in slot_in) (λ x. one x.0 ++ half_bytes x.1) (λ x. IsAllocatable x.0 × (x.1 < slots))
register_and_slot slots few = both_field register_in one IsAllocatable slot_in half_bytes (λ i. i < slots) register_field (slot_field slots few)

slot_and_register : (slots : ℕ) → slots ≤ most_slots → IsField (both slot_in register_in) (λ x. half_bytes x.0 ++ one x.1) (λ x. (x.0 < slots) × IsAllocatable x.1)
slot_and_register slots few = both_field slot_in half_bytes (λ i. i < slots) register_in one IsAllocatable (slot_field slots few) register_field

are_move_kinds : AllByRecursion (IsKind move_bytes) move_kinds
unfolding between_in reload_in spill_in
are_move_kinds = (
  is_kind move_bytes 0 (both register_in register_in) (λ x. one x.0 ++ one x.1) _ two_registers (λ x. Between x.0 x.1) (λ a. refl),
  (
    is_kind move_bytes 1 (both register_in slot_in) (λ x. one x.0 ++ half_bytes x.1) _ (register_and_slot 0 (omega arith)) (λ x. Reload x.0 x.1) (λ a. refl),
    (is_kind move_bytes 2 (both slot_in register_in) (λ x. half_bytes x.0 ++ one x.1) _ (slot_and_register 0 (omega arith)) (λ x. Spill x.0 x.1) (λ a. refl), tt),
  ),
)

move_again : (slots : ℕ) → slots ≤ most_slots → (m : Move) (rest : List ℕ) → IsMove slots m → move_in (move_bytes m ++ rest) ≡ Some (m, rest)
unfolding move_in between_in reload_in spill_in
move_again slots few (Between to from) rest good = mapped_again (both register_in register_in) (λ x. one x.0 ++ one x.1) _ two_registers (λ x. Between x.0 x.1) (to, from) rest good
move_again slots few (Reload to slot) rest good = mapped_again (both register_in slot_in) (λ x. one x.0 ++ half_bytes x.1) _ (register_and_slot slots few) (λ x. Reload x.0 x.1) (to, slot) rest good
move_again slots few (Spill slot from) rest good = mapped_again (both slot_in register_in) (λ x. half_bytes x.0 ++ one x.1) _ (slot_and_register slots few) (λ x. Spill x.0 x.1) (slot, from) rest good

move_field : (slots : ℕ) → slots ≤ most_slots → IsField move_in move_bytes (IsMove slots)
unfolding move_in
move_field slots few = record { takes = numbered_takes move_bytes move_kinds are_move_kinds; again = move_again slots few }

moves_field : (slots : ℕ) → slots ≤ most_slots → IsField moves_in moves_bytes (AreMoves slots)
unfolding moves_in
moves_field slots few = counted_field half_in half_bytes (2 ^ 16) move_in move_bytes (IsMove slots) half_field (move_field slots few)

-- ---- operations

two_words : IsField (both word_in word_in) (λ x. word_bytes x.0 ++ word_bytes x.1) (λ x. IsWord x.0 × IsWord x.1)
two_words = both_field word_in word_bytes IsWord word_in word_bytes IsWord word_field word_field

register_and_words : IsField (both register_in (both word_in word_in)) (λ x. one x.0 ++ (word_bytes x.1.0 ++ word_bytes x.1.1)) (λ x. IsAllocatable x.0 × (IsWord x.1.0 × IsWord x.1.1))
register_and_words = both_field register_in one IsAllocatable (both word_in word_in) (λ x. word_bytes x.0 ++ word_bytes x.1) (λ x. IsWord x.0 × IsWord x.1) register_field two_words

register_and_word : IsField (both register_in word_in) (λ x. one x.0 ++ word_bytes x.1) (λ x. IsAllocatable x.0 × IsWord x.1)
register_and_word = both_field register_in one IsAllocatable word_in word_bytes IsWord register_field word_field

registers_and_word : IsField (both register_in (both register_in word_in)) (λ x. one x.0 ++ (one x.1.0 ++ word_bytes x.1.1)) (λ x. IsAllocatable x.0 × (IsAllocatable x.1.0 × IsWord x.1.1))
registers_and_word = both_field register_in one IsAllocatable (both register_in word_in) (λ x. one x.0 ++ word_bytes x.1) (λ x. IsAllocatable x.0 × IsWord x.1) register_field register_and_word

three_registers_and_word : IsField (both register_in (both register_in (both register_in word_in))) (λ x. one x.0 ++ (one x.1.0 ++ (one x.1.1.0 ++ word_bytes x.1.1.1))) (λ x. IsAllocatable x.0 × (IsAllocatable x.1.0 × (IsAllocatable x.1.1.0 × IsWord x.1.1.1)))
three_registers_and_word =
    both_field register_in one IsAllocatable (both register_in (both register_in word_in)) (λ x. one x.0 ++ (one x.1.0 ++ word_bytes x.1.1)) (λ x. IsAllocatable x.0 × (IsAllocatable x.1.0 × IsWord x.1.1)) register_field registers_and_word

unary_fields : IsField (both unary_in (both register_in (both register_in word_in))) (λ x. one (unary_number x.0) ++ (one x.1.0 ++ (one x.1.1.0 ++ word_bytes x.1.1.1))) (λ x. Unit {0} × (IsAllocatable x.1.0 × (IsAllocatable x.1.1.0 × IsWord x.1.1.1)))
unary_fields =
    both_field unary_in (λ o. one (unary_number o)) (λ o. Unit {0}) (both register_in (both register_in word_in)) (λ x. one x.0 ++ (one x.1.0 ++ word_bytes x.1.1)) (λ x. IsAllocatable x.0 × (IsAllocatable x.1.0 × IsWord x.1.1)) unary_field registers_and_word

binary_fields : IsField (both binary_in (both register_in (both register_in (both register_in word_in)))) (λ x. one (binary_number x.0) ++ (one x.1.0 ++ (one x.1.1.0 ++ (one x.1.1.1.0 ++ word_bytes x.1.1.1.1))))
    (λ x. Unit {0} × (IsAllocatable x.1.0 × (IsAllocatable x.1.1.0 × (IsAllocatable x.1.1.1.0 × IsWord x.1.1.1.1))))
binary_fields =
    both_field binary_in (λ o. one (binary_number o)) (λ o. Unit {0}) (both register_in (both register_in (both register_in word_in))) (λ x. one x.0 ++ (one x.1.0 ++ (one x.1.1.0 ++ word_bytes x.1.1.1)))
    (λ x. IsAllocatable x.0 × (IsAllocatable x.1.0 × (IsAllocatable x.1.1.0 × IsWord x.1.1.1))) binary_field three_registers_and_word

word_and_registers : IsField (both word_in (both register_in (both register_in word_in))) (λ x. word_bytes x.0 ++ (one x.1.0 ++ (one x.1.1.0 ++ word_bytes x.1.1.1))) (λ x. IsWord x.0 × (IsAllocatable x.1.0 × (IsAllocatable x.1.1.0 × IsWord x.1.1.1)))
word_and_registers =
    both_field word_in word_bytes IsWord (both register_in (both register_in word_in)) (λ x. one x.0 ++ (one x.1.0 ++ word_bytes x.1.1)) (λ x. IsAllocatable x.0 × (IsAllocatable x.1.0 × IsWord x.1.1)) word_field registers_and_word

abbrev access_bytes : Width × (ℕ × (ℕ × (ℕ × ℕ))) → List ℕ
access_bytes x = one (element_bytes x.0) ++ (word_bytes x.1.0 ++ (one x.1.1.0 ++ (one x.1.1.1.0 ++ word_bytes x.1.1.1.1)))

abbrev IsAccess : Width × (ℕ × (ℕ × (ℕ × ℕ))) → Type 0
IsAccess x = Unit {0} × (IsWord x.1.0 × (IsAllocatable x.1.1.0 × (IsAllocatable x.1.1.1.0 × IsWord x.1.1.1.1)))

access_field : IsField access_in access_bytes IsAccess
unfolding access_in
access_field =
    both_field width_in (λ w. one (element_bytes w)) (λ w. Unit {0}) (both word_in (both register_in (both register_in word_in))) (λ x. word_bytes x.0 ++ (one x.1.0 ++ (one x.1.1.0 ++ word_bytes x.1.1.1)))
    (λ x. IsWord x.0 × (IsAllocatable x.1.0 × (IsAllocatable x.1.1.0 × IsWord x.1.1.1))) width_field word_and_registers

are_operation_kinds : AllByRecursion (IsKind operation_bytes) operation_kinds
unfolding nop_in const_in unary_operation_in binary_operation_in load_in store_in call_in read_in write_in branch_in return_in
are_operation_kinds = (
  is_kind operation_bytes 0 word_in word_bytes _ word_field (λ x. Nop x) (λ a. refl),
  (
    is_kind operation_bytes 1 _ _ _ register_and_words (λ x. Const x.0 x.1.0 x.1.1) (λ a. refl),
    (
      is_kind operation_bytes 2 _ _ _ unary_fields (λ x. Unary x.0 x.1.0 x.1.1.0 x.1.1.1) (λ a. refl),
      (
        is_kind operation_bytes 3 _ _ _ binary_fields (λ x. Binary x.0 x.1.0 x.1.1.0 x.1.1.1.0 x.1.1.1.1) (λ a. refl),
        (
          is_kind operation_bytes 4 access_in access_bytes _ access_field (λ x. Load x.0 x.1.0 x.1.1.0 x.1.1.1.0 x.1.1.1.1) (λ a. refl),
          (
            is_kind operation_bytes 5 access_in access_bytes _ access_field (λ x. Store x.0 x.1.0 x.1.1.0 x.1.1.1.0 x.1.1.1.1) (λ a. refl),
            (
              is_kind operation_bytes 6 _ _ _ two_words (λ x. Call x.0 x.1) (λ a. refl),
              (
                is_kind operation_bytes 7 word_in word_bytes _ word_field (λ x. Read x) (λ a. refl),
                (
                  is_kind operation_bytes 8 word_in word_bytes _ word_field (λ x. Write x) (λ a. refl),
                  (
                    is_kind operation_bytes 9 _ _ _ register_and_words (λ x. Branch x.0 x.1.0 x.1.1) (λ a. refl),
                    (is_kind operation_bytes 10 nothing_in (λ u. []) _ nothing_field (λ x. Return) (λ a. refl), tt),
                  ),
                ),
              ),
            ),
          ),
        ),
      ),
    ),
  ),
)

operation_again : (o : Operation) (rest : List ℕ) → IsOperation o → operation_in (operation_bytes o ++ rest) ≡ Some (o, rest)
unfolding operation_in nop_in const_in unary_operation_in binary_operation_in load_in store_in call_in read_in write_in branch_in return_in
operation_again (Nop next) rest good = mapped_again word_in word_bytes _ word_field (λ x. Nop x) next rest good
operation_again (Const to w next) rest good = mapped_again _ _ _ register_and_words (λ x. Const x.0 x.1.0 x.1.1) (to, (w, next)) rest (good.0, (good.1, good.2))
operation_again (Unary o to from next) rest good = mapped_again _ _ _ unary_fields (λ x. Unary x.0 x.1.0 x.1.1.0 x.1.1.1) (o, (to, (from, next))) rest (tt, (good.0, (good.1, good.2)))
operation_again (Binary o to left right next) rest good = mapped_again _ _ _ binary_fields (λ x. Binary x.0 x.1.0 x.1.1.0 x.1.1.1.0 x.1.1.1.1) (o, (to, (left, (right, next)))) rest (tt, (good.0, (good.1, (good.2, good.3))))
operation_again (Load width object to index next) rest good = mapped_again access_in access_bytes _ access_field (λ x. Load x.0 x.1.0 x.1.1.0 x.1.1.1.0 x.1.1.1.1) (width, (object, (to, (index, next)))) rest (tt, (good.0, (good.1, (good.2, good.3))))
operation_again (Store width object index from next) rest good = mapped_again access_in access_bytes _ access_field (λ x. Store x.0 x.1.0 x.1.1.0 x.1.1.1.0 x.1.1.1.1) (width, (object, (index, (from, next)))) rest (tt, (good.0, (good.1, (good.2, good.3))))
operation_again (Call function next) rest good = mapped_again _ _ _ two_words (λ x. Call x.0 x.1) (function, next) rest good
operation_again (Read next) rest good = mapped_again word_in word_bytes _ word_field (λ x. Read x) next rest good
operation_again (Write next) rest good = mapped_again word_in word_bytes _ word_field (λ x. Write x) next rest good
operation_again (Branch from if_nonzero if_zero) rest good = mapped_again _ _ _ register_and_words (λ x. Branch x.0 x.1.0 x.1.1) (from, (if_nonzero, if_zero)) rest (good.0, (good.1, good.2))
operation_again Return rest good = mapped_again nothing_in (λ u. []) _ nothing_field (λ x. Return) tt rest tt

operation_field : IsField operation_in operation_bytes IsOperation
unfolding operation_in
operation_field = record { takes = numbered_takes operation_bytes operation_kinds are_operation_kinds; again = operation_again }

-- ---- blocks

-- a value that is made from fields, and from which the fields can be taken back, is a field
remade_field : {A B : Type 0} (f : Reader A) (s : A → List ℕ) (P : A → Type 0) → IsField f s P → (make : A → B) (back : B → A) → ((b : B) → make (back b) ≡ b) → (spell : B → List ℕ) → ((a : A) → spell (make a) ≡ s a)
    → IsField (mapped make f) spell (λ b. P (back b))
remade_field {A} {B} f s P p make back same spell spelled = record {
  takes = λ bytes y rest are e.
      let a = mapped_takes f s P p make bytes y rest are e in
      subst (λ (z : B). Takes bytes (spell z) rest) a.1 (rw (spelled a.0) a.2);
  again = λ y rest good.
      let text : spell y ≡ s (back y) = ap spell (sym (same y)) ∙ spelled (back y) in
      ap (λ (t : List ℕ). mapped make f (t ++ rest)) text ∙ mapped_again f s P p make (back y) rest good ∙ ap (λ (z : B). Some (z, rest)) (same y);
}

abbrev IsBlockOf : (slots : ℕ) → Block → Type 0
IsBlockOf slots b = IsWord b.label × (AreMoves slots b.before × (IsOperation b.operation × AreMoves slots b.after))

block_field : (slots : ℕ) → slots ≤ most_slots → IsField block_in block_bytes (IsBlockOf slots)
unfolding block_in
block_field slots few =
    let moves = moves_field slots few in
    let last = both_field operation_in operation_bytes IsOperation moves_in moves_bytes (AreMoves slots) operation_field moves in
    let later = both_field moves_in moves_bytes (AreMoves slots) (both operation_in moves_in) (λ x. operation_bytes x.0 ++ moves_bytes x.1) (λ x. IsOperation x.0 × AreMoves slots x.1) moves last in
    let all = both_field word_in word_bytes IsWord (both moves_in (both operation_in moves_in)) (λ x. moves_bytes x.0 ++ (operation_bytes x.1.0 ++ moves_bytes x.1.1)) (λ x. AreMoves slots x.0 × (IsOperation x.1.0 × AreMoves slots x.1.1)) word_field later in
    remade_field (both word_in (both moves_in (both operation_in moves_in))) (λ x. word_bytes x.0 ++ (moves_bytes x.1.0 ++ (operation_bytes x.1.1.0 ++ moves_bytes x.1.1.1)))
    (λ x. IsWord x.0 × (AreMoves slots x.1.0 × (IsOperation x.1.1.0 × AreMoves slots x.1.1.1))) all (λ x. record { label = x.0; before = x.1.0; operation = x.1.1.0; after = x.1.1.1 })
    (λ b. (b.label, (b.before, (b.operation, b.after)))) (λ b. refl) block_bytes (λ a. refl)

abbrev blocks_bytes : List Block → List ℕ
blocks_bytes blocks = word_bytes (length blocks) ++ flat_map block_bytes blocks

abbrev AreBlocks : (slots : ℕ) → List Block → Type 0
AreBlocks slots blocks = (length blocks < 2 ^ 32) × AllByRecursion (IsBlockOf slots) blocks

blocks_field : (slots : ℕ) → slots ≤ most_slots → IsField blocks_in blocks_bytes (AreBlocks slots)
unfolding blocks_in
blocks_field slots few = counted_field word_in word_bytes (2 ^ 32) block_in block_bytes (IsBlockOf slots) word_field (block_field slots few)

-- ---- functions

abbrev FitsFor : (most : ℕ) → Ltl → Type 0
FitsFor most l = (l.slots ≤ most_slots) × (IsWord l.entry × AreBlocks most l.blocks)

function_field : (most : ℕ) → most ≤ most_slots → IsField (mapped (λ x. record { slots = x.0; entry = x.1.0; blocks = x.1.1 }) (both slots_in (both word_in blocks_in))) ltl_bytes (FitsFor most)
function_field most few =
    let later = both_field word_in word_bytes IsWord blocks_in blocks_bytes (AreBlocks most) word_field (blocks_field most few) in
    let all = both_field slots_in word_bytes (λ n. n ≤ most_slots) (both word_in blocks_in) (λ x. word_bytes x.0 ++ blocks_bytes x.1) (λ x. IsWord x.0 × AreBlocks most x.1) slots_field later in
    remade_field (both slots_in (both word_in blocks_in)) (λ x. word_bytes x.0 ++ (word_bytes x.1.0 ++ blocks_bytes x.1.1)) (λ x. (x.0 ≤ most_slots) × (IsWord x.1.0 × AreBlocks most x.1.1)) all
    (λ x. record { slots = x.0; entry = x.1.0; blocks = x.1.1 }) (λ l. (l.slots, (l.entry, l.blocks))) (λ l. refl) ltl_bytes (λ a. refl)

-- if a function is read from bytes, the bytes are its spelling
pub parts_take : (bytes : List ℕ) (l : Ltl) → AreBytes bytes → parts_in bytes ≡ Some l → bytes ≡ ltl_bytes l
unfolding parts_in
parts_take bytes l are e =
    let read = mapped (λ x. record { slots = x.0; entry = x.1.0; blocks = x.1.1 }) (both slots_in (both word_in blocks_in)) in
    let a = bind_some (read bytes) (λ l. cond (eqb (length l.1) 0) (Some l.0) None) l e in
    let g = when_some (eqb (length a.0.1) 0) (Some a.0.0) l a.2 in
    let t = (function_field 0 (omega arith)).takes bytes a.0.0 a.0.1 are a.1 in
    let nothing : a.0.1 ≡ [] = nil_from_length a.0.1 (eqb-true _ _ g.0) in
    t.parts ∙ ap (λ (r : List ℕ). ltl_bytes a.0.0 ++ r) nothing ∙ append-nil (ltl_bytes a.0.0) ∙ ap ltl_bytes (same_Some a.0.0 l g.1)

each_fits : (slots : ℕ) (blocks : List Block) → AllByRecursion (IsBlock slots) blocks → AllByRecursion (IsBlockOf slots) blocks
each_fits slots [] are = tt
each_fits slots (b ∷ blocks) are = ((are.0.label, (are.0.before, (are.0.operation, are.0.after))), each_fits slots blocks are.1)

-- if bytes spell a function, it is read from them
pub parts_again : (bytes : List ℕ) (l : Ltl) → Spells bytes l → parts_in bytes ≡ Some l
unfolding parts_in
parts_again bytes l spells =
    let is = spells.is_ltl in
    let read = mapped (λ x. record { slots = x.0; entry = x.1.0; blocks = x.1.1 }) (both slots_in (both word_in blocks_in)) in
    let whole : read bytes ≡ Some (l, []) =
    ap read (spells.spelled ∙ sym (append-nil (ltl_bytes l))) ∙ (function_field l.slots is.slots).again l [] (is.slots, (is.entry, (is.count, each_fits l.slots l.blocks is.blocks))) in
    rw whole refl

-- no bytes spell two functions
pub one_function : (bytes : List ℕ) (l m : Ltl) → Spells bytes l → Spells bytes m → l ≡ m
one_function bytes l m p q = same_Some l m (sym (parts_again bytes l p) ∙ parts_again bytes m q)

-- ---- what reading answers

-- if the parts that were read make a function, the bytes spell it
pub is_read : (bytes : List ℕ) (l m : Ltl) → AreBytes bytes → parts_in bytes ≡ Some m → IsLtl m → l ≡ m → Spells bytes l
is_read bytes l m are e is same = subst (Spells bytes) (sym same) (record { spelled = parts_take bytes m are e; is_ltl = is })

-- if the parts that were read make no function, the bytes spell none
pub is_refused : (bytes : List ℕ) (m : Ltl) → parts_in bytes ≡ Some m → (IsLtl m → ⊥) → (l : Ltl) → Spells bytes l → ⊥
is_refused bytes m e is_not l spells = is_not (subst IsLtl (same_Some l m (sym (parts_again bytes l spells) ∙ e)) spells.is_ltl)

-- if no parts are read, the bytes spell no function
pub is_fault : (bytes : List ℕ) (fault : LtlFault) → IsFault fault (parts_in bytes) → ReadAnswers bytes (Err fault)
is_fault bytes Damaged none = λ l spells. none-some l (sym none ∙ parts_again bytes l spells)
is_fault bytes OutOfMemory none = tt
