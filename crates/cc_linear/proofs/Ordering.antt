-- Blocks can be laid out in any order.
use Rattle.std.proofs.Common.{◌≡◌, ℕ, zero, suc, ◌<◌, List, [], ◌∷◌, length, get_or, refl, sym, ap, ◌∙◌, subst, ◌⊎◌, inl, inr, arith}
use Rattle.std.specs.Prelude.{Bool, true, false, cond, ◌==◌, ◌&&◌, Option, Some, None}
use Rattle.std.specs.List.{AllPairs, Contains}
use Rattle.std.proofs.lemmas.Bool.Decides.{eqb_tells}
use Rattle.cc_ltl.specs.declared.operation.Move.{Move}
use Rattle.cc_ltl.specs.declared.operation.Operation.{Operation}
use Rattle.cc_ltl.specs.declared.operation.Operation.TheVariants.{Nop, Const, Unary, Binary, Load, Store, Call, Read, Write, Branch, Return}
use Rattle.cc_ltl.specs.declared.block.Block.{Block}
use Rattle.cc_ltl.specs.Ltl.{Ltl, block_at}
use Rattle.cc_linear_language.specs.declared.item.LinearItem.{LinearItem}
use Rattle.cc_linear_language.specs.declared.item.LinearItem.TheVariants as item
use Rattle.cc_linear_language.specs.declared.item.LinearItem.TheVariants.{Label, Jump, IfNonzero, IfZero}
use Rattle.cc_linear_language.specs.Linear.{place}
use Rattle.cc_linear.specs.internal.Lays.{moves_then, operation_then, GoesOnAt, StandsIn, next, IsNop, Straight, BranchesTo, Stands, IsPassed, Lays}
use Rattle.cc_linear.specs.internal.Layout.{is_next, leads, has_none, is_nop, is_empty, tail_of, branch_then, block_then, laid_at, laid, linear_code, HasSuccessors, IsOrder, AreEnds, NoneBehind, BranchesAreLast}

abbrev Distinct : List ℕ → Type 0
Distinct order = AllPairs (λ (a b : ℕ). a ≡ b → ⊥) order

-- the order from a label on
abbrev from : List ℕ → ℕ → List ℕ
from [] l = []
from (x ∷ xs) l = cond (x == l) (x ∷ xs) (from xs l)

-- the label is in the order, directly before the labels `ls`
abbrev Before : List ℕ → ℕ → List ℕ → Type 0
Before order l ls = from order l ≡ l ∷ ls

distinct_tail : (x : ℕ) (xs : List ℕ) → Distinct (x ∷ xs) → Distinct xs
distinct_tail x xs h = λ i j d lt below. h (suc i) (suc j) d (omega arith) (omega arith)

from_here : (x l : ℕ) (xs : List ℕ) → (x == l) ≡ true → from (x ∷ xs) l ≡ x ∷ xs
from_here x l xs e = ap (λ t. cond t (x ∷ xs) (from xs l)) e

from_there : (x l : ℕ) (xs : List ℕ) → (x == l) ≡ false → from (x ∷ xs) l ≡ from xs l
from_there x l xs e = ap (λ t. cond t (x ∷ xs) (from xs l)) e

-- if the order from l on is not empty, it begins with l
from_head : (order : List ℕ) (l x : ℕ) (ls : List ℕ) → from order l ≡ x ∷ ls → x ≡ l
from_head [] l x ls e = absurd (cc)
from_head (y ∷ ys) l x ls e =
    elim (eqb_tells y l) [ inl h ↦ (let f : y ∷ ys ≡ x ∷ ls = sym (from_here y l ys h.0) ∙ e in let g : y ≡ x = cc in sym g ∙ h.1) | inr h ↦ from_head ys l x ls (sym (from_there y l ys h.0) ∙ e) ]

-- a label from which the order goes on has a place in it
from_place : (order : List ℕ) (l x : ℕ) (ls : List ℕ) → from order l ≡ x ∷ ls → (k : ℕ) × (k < length order) × ((d : ℕ) → get_or order k d ≡ l)
from_place [] l x ls e = absurd (cc)
from_place (y ∷ ys) l x ls e =
    elim (eqb_tells y l) [ inl h ↦ (0, (let z : 0 < suc (length ys) = omega arith in z), λ d. h.1) | inr h ↦ (let i = from_place ys l x ls (sym (from_there y l ys h.0) ∙ e) in (suc i.0, (let b = i.1 in let z : suc i.0 < suc (length ys) = omega arith in z), i.2)) ]

contains_from : (order : List ℕ) (l : ℕ) (k : ℕ) → k < length order → get_or order k l ≡ l → (ls : List ℕ) × Before order l ls
contains_from [] l k lt e = absurd (omega arith)
contains_from (y ∷ ys) l zero lt e = elim (eqb_tells y l) [ inl h ↦ (ys, from_here y l ys h.0 ∙ ap (λ z. z ∷ ys) h.1) | inr h ↦ absurd (h.1 e) ]
contains_from (y ∷ ys) l (suc k) lt e =
    elim (eqb_tells y l) [ inl h ↦ (ys, from_here y l ys h.0 ∙ ap (λ z. z ∷ ys) h.1) | inr h ↦ (let i = contains_from ys l k (omega arith) e in (i.0, from_there y l ys h.0 ∙ i.1)) ]

from_contains : (order : List ℕ) (l : ℕ) (ls : List ℕ) → Before order l ls → Contains order l
from_contains order l ls e = let i = from_place order l l ls e in (i.0, i.1, i.2 l)

-- what follows a label in the order is the order from the next label on
next_from : (order : List ℕ) → Distinct order → (l e : ℕ) (ls : List ℕ) → Before order l (e ∷ ls) → Before order e ls
next_from [] d l e ls h = absurd (cc)
next_from (y ∷ ys) d l e ls h = elim (eqb_tells y l) [
  | inl t ↦ (let f : y ∷ ys ≡ l ∷ e ∷ ls = sym (from_here y l ys t.0) ∙ h in let g : ys ≡ e ∷ ls = cc in let p = subst (λ zs. Distinct (y ∷ zs)) g d in
      ap (λ zs. from (y ∷ zs) e) g ∙ from_there y e (e ∷ ls) (apart y e (p 0 1 0 (omega arith) (let z : 1 < suc (suc (length ls)) = omega arith in z))) ∙ from_here e e ls (itself e))
  | inr t ↦ (let i = next_from ys (distinct_tail y ys d) l e ls (sym (from_there y l ys t.0) ∙ h) in let k = from_place ys e e ls i in
      from_there y e ys (apart y e (λ same. d 0 (suc k.0) 0 (omega arith) (let b = k.1 in let z : suc k.0 < suc (length ys) = omega arith in z) (same ∙ sym (k.2 0)))) ∙ i)
]
  where
    apart : (a b : ℕ) → (a ≡ b → ⊥) → (a == b) ≡ false
    apart a b h = elim (eqb_tells a b) [ inl t ↦ absurd (h t.1) | inr t ↦ t.0 ]

    itself : (a : ℕ) → (a == a) ≡ true
    itself a = elim (eqb_tells a a) [ inl t ↦ t.0 | inr t ↦ absurd (t.1 refl) ]

-- a search for a label passes over a block's items
place_moves : (ms : List Move) (items : List LinearItem) (l : ℕ) → place (moves_then ms items) l ≡ place items l
place_moves [] items l = refl
place_moves (m ∷ ms) items l = place_moves ms items l

place_operation : (op : Operation) (items : List LinearItem) (l : ℕ) → place (operation_then op items) l ≡ place items l
place_operation (Nop n) items l = refl
place_operation (Const to word n) items l = refl
place_operation (Unary operator to from n) items l = refl
place_operation (Binary operator to left right n) items l = refl
place_operation (Load width object to index n) items l = refl
place_operation (Store width object index from n) items l = refl
place_operation (Call function n) items l = refl
place_operation (Read n) items l = refl
place_operation (Write n) items l = refl
place_operation (Branch from taken other) items l = refl
place_operation Return items l = refl

place_cond : (t : Bool) (items others rest : List LinearItem) (l : ℕ) → place items l ≡ place rest l → place others l ≡ place rest l → place (cond t items others) l ≡ place rest l
place_cond true items others rest l p q = p
place_cond false items others rest l p q = q

place_leads : (e : ℕ) (order : List ℕ) (items : List LinearItem) (l : ℕ) → place (leads e order items) l ≡ place items l
place_leads e order items l = place_cond (is_next e order) items (Jump e ∷ items) items l refl refl

place_straight : (end : ℕ → ℕ) (b : Block) (order : List ℕ) (items : List LinearItem) (l : ℕ) → place (moves_then b.before (operation_then b.operation (moves_then b.after (tail_of end b order items)))) l ≡ place items l
place_straight end b order items l =
    place_moves b.before (operation_then b.operation (moves_then b.after (tail_of end b order items))) l ∙ place_operation b.operation (moves_then b.after (tail_of end b order items)) l ∙ place_moves b.after (tail_of end b order items) l ∙ place_cond (is_empty b) (Jump (end (next b.operation)) ∷ items) (leads (end (next b.operation)) order items) items l refl (place_leads (end (next b.operation)) order items l)

place_block : (end : ℕ → ℕ) (b : Block) (op : Operation) (order : List ℕ) (items : List LinearItem) (l : ℕ) → place (block_then end b op order items) l ≡ place items l
place_block end b (Branch from taken other) order items l =
    place_moves b.before (branch_then end from taken other order items) l ∙ place_cond (is_next (end taken) order) (IfZero from (end other) ∷ items) (IfNonzero from (end taken) ∷ leads (end other) order items) items l refl (place_leads (end other) order items l)
place_block end b Return order items l = place_moves b.before (item.Return ∷ items) l
place_block end b (Nop n) order items l = place_straight end b order items l
place_block end b (Const to word n) order items l = place_straight end b order items l
place_block end b (Unary operator to from n) order items l = place_straight end b order items l
place_block end b (Binary operator to left right n) order items l = place_straight end b order items l
place_block end b (Load width object to index n) order items l = place_straight end b order items l
place_block end b (Store width object index from n) order items l = place_straight end b order items l
place_block end b (Call function n) order items l = place_straight end b order items l
place_block end b (Read n) order items l = place_straight end b order items l
place_block end b (Write n) order items l = place_straight end b order items l

place_laid_at : (end : ℕ → ℕ) (o : Option Block) (order : List ℕ) (items : List LinearItem) (l : ℕ) → place (laid_at end o order items) l ≡ place items l
place_laid_at end None order items l = refl
place_laid_at end (Some b) order items l = place_block end b b.operation order items l

place_laid : (blocks : List Block) (end : ℕ → ℕ) (order : List ℕ) (l : ℕ) → place (laid blocks end order) l ≡ laid blocks end (from order l)
place_laid blocks end [] l = refl
place_laid blocks end (x ∷ xs) l = elim (eqb_tells x l) [
  | inl h ↦ ap (λ t. cond t (laid blocks end (x ∷ xs)) (place (laid_at end (block_at blocks x) xs (laid blocks end xs)) l)) h.0 ∙ ap (laid blocks end) (sym (from_here x l xs h.0))
  | inr h ↦ ap (λ t. cond t (laid blocks end (x ∷ xs)) (place (laid_at end (block_at blocks x) xs (laid blocks end xs)) l)) h.0 ∙ place_laid_at end (block_at blocks x) xs (laid blocks end xs) l ∙ place_laid blocks end xs l ∙ ap (laid blocks end) (sym (from_there x l xs h.0))
]

module _ (ltl : Ltl) (end far : ℕ → ℕ) (most : ℕ) (order : List ℕ) (ends : AreEnds ltl end far most) (ordered : IsOrder ltl end order) (last : BranchesAreLast ltl) where
  abbrev code : List LinearItem
  code = linear_code ltl end order

  abbrev items_of : List ℕ → List LinearItem
  items_of ls = laid ltl.blocks end ls

  place_code : (l : ℕ) → place code l ≡ items_of (from order l)
  place_code l = place_leads (end ltl.entry) order (items_of order) l ∙ place_laid ltl.blocks end order l

  stands : (l : ℕ) → Contains order l → StandsIn code l
  stands l c = let i = contains_from order l c.0 c.1 c.2 in (laid_at end (block_at ltl.blocks l) i.0 (items_of i.0), place_code l ∙ ap items_of i.1)

  -- a label that is in the list is in the order
  stands_before : (l : ℕ) → StandsIn code l → (ls : List ℕ) × Before order l ls
  stands_before l s = at (from order l) refl (sym (place_code l) ∙ s.1)
    where
      at : (ls : List ℕ) → from order l ≡ ls → items_of (from order l) ≡ Label l ∷ s.0 → (ls : List ℕ) × Before order l ls
      at [] e h = absurd (let f : [] ≡ Label l ∷ s.0 = ap items_of (sym e) ∙ h in cc)
      at (x ∷ ls) e h = (ls, e ∙ ap (λ y. y ∷ ls) (from_head order l x ls e))

  leads_on : (l e : ℕ) (ls : List ℕ) → Before order l ls → GoesOnAt code (leads e ls (items_of ls)) e
  leads_on l e [] b = inr (items_of [], refl)
  leads_on l e (x ∷ xs) b = elim (eqb_tells x e) [
    | inl h ↦ (let f = next_from order ordered.distinct l x xs b in inl (place_code e ∙ ap (λ y. items_of (from order y)) (sym h.1) ∙ ap items_of f ∙ sym (ap (λ t. cond t (items_of (x ∷ xs)) (Jump e ∷ items_of (x ∷ xs))) h.0)))
    | inr h ↦ inr (items_of (x ∷ xs), ap (λ t. cond t (items_of (x ∷ xs)) (Jump e ∷ items_of (x ∷ xs))) h.0)
  ]

  starts : (ls : List ℕ) → ls ≡ order → GoesOnAt code code (end ltl.entry)
  starts [] e = inr (items_of order, ap (λ t. cond t (items_of order) (Jump (end ltl.entry) ∷ items_of order)) (sym (ap (is_next (end ltl.entry)) e)))
  starts (x ∷ xs) e = elim (eqb_tells x (end ltl.entry)) [
    | inl h ↦ (let first_is : is_next (end ltl.entry) order ≡ true = sym (ap (is_next (end ltl.entry)) e) ∙ h.0 in
        let all : from order (end ltl.entry) ≡ order = ap (λ zs. from zs (end ltl.entry)) (sym e) ∙ from_here x (end ltl.entry) xs h.0 ∙ e in
        inl (place_code (end ltl.entry) ∙ ap items_of all ∙ sym (ap (λ t. cond t (items_of order) (Jump (end ltl.entry) ∷ items_of order)) first_is)))
    | inr h ↦ (let not_first : is_next (end ltl.entry) order ≡ false = sym (ap (is_next (end ltl.entry)) e) ∙ h.0 in
        inr (items_of order, ap (λ t. cond t (items_of order) (Jump (end ltl.entry) ∷ items_of order)) not_first))
  ]

  -- at a label of the order the code has the label, and then the items of the label's block
  stands_at : (l : ℕ) (b : Block) (ls : List ℕ) → Before order l ls → block_at ltl.blocks l ≡ Some b → place code l ≡ Label l ∷ block_then end b b.operation ls (items_of ls)
  stands_at l b ls before e = place_code l ∙ ap items_of before ∙ ap (λ o. Label l ∷ laid_at end o ls (items_of ls)) e

  none_is : (ms : List Move) → ms ≡ [] → has_none ms ≡ true
  none_is ms e = ap has_none e

  nop_is : (op : Operation) → IsNop op → is_nop op ≡ true
  nop_is (Nop n) h = refl
  nop_is op h = absurd h

  tail_on : (t : Bool) (l e : ℕ) (ls : List ℕ) → Before order l ls → GoesOnAt code (cond t (Jump e ∷ items_of ls) (leads e ls (items_of ls))) e
  tail_on true l e ls b = inr (items_of ls, refl)
  tail_on false l e ls b = leads_on l e ls b

  straight : (l : ℕ) (b : Block) (ls : List ℕ) → Before order l ls → place code l ≡ Label l ∷ moves_then b.before (operation_then b.operation (moves_then b.after (tail_of end b ls (items_of ls)))) → Contains order (end (next b.operation)) → Straight code end l b
  straight l b ls before is c = record {
    tail = tail_of end b ls (items_of ls);
    items = is;
    on = tail_on (is_empty b) l (end (next b.operation)) ls before;
    stands = stands (end (next b.operation)) c;
    jumps = λ nop no_before no_after. (
      items_of ls,
      ap (λ t. cond t (Jump (end (next b.operation)) ∷ items_of ls) (leads (end (next b.operation)) ls (items_of ls)))
          (ap (λ t. t && (has_none b.before && has_none b.after)) (nop_is b.operation nop) ∙ ap (λ t. t && has_none b.after) (none_is b.before no_before) ∙ none_is b.after no_after),
    );
  }

  branching : (l : ℕ) (before : List Move) (from taken other : ℕ) (ls : List ℕ) (t : Bool) → is_next (end taken) ls ≡ t → Before order l ls → place code l ≡ Label l ∷ moves_then before (branch_then end from taken other ls (items_of ls))
      → (tail : List LinearItem) × BranchesTo code end l before from taken other tail
  branching l before from taken other ls true n b is =
      let e = ap (λ t. cond t (IfZero from (end other) ∷ items_of ls) (IfNonzero from (end taken) ∷ leads (end other) ls (items_of ls))) n in
      let falls : leads (end taken) ls (items_of ls) ≡ items_of ls = ap (λ t. cond t (items_of ls) (Jump (end taken) ∷ items_of ls)) n in
      (items_of ls, inr (is ∙ ap (λ x. Label l ∷ moves_then before x) e, subst (λ x. GoesOnAt code x (end taken)) falls (leads_on l (end taken) ls b)))
  branching l before from taken other ls false n b is =
      let e = ap (λ t. cond t (IfZero from (end other) ∷ items_of ls) (IfNonzero from (end taken) ∷ leads (end other) ls (items_of ls))) n in
      (leads (end other) ls (items_of ls), inl (is ∙ ap (λ x. Label l ∷ moves_then before x) e, leads_on l (end other) ls b))

  stands_by : (l : ℕ) (b : Block) (op : Operation) (ls : List ℕ) → Before order l ls → b.operation ≡ op → place code l ≡ Label l ∷ block_then end b op ls (items_of ls) → HasSuccessors end order op → NoneBehind b op → Stands code end l b op
  stands_by l b (Branch from taken other) ls before e is s n = let x = branching l b.before from taken other ls (is_next (end taken) ls) refl before is in record { tail = x.0; branches = x.1; after = n; taken_stands = stands (end taken) s.0; other_stands = stands (end other) s.1 }
  stands_by l b Return ls before e is s n = record { tail = items_of ls; items = is }
  stands_by l b (Nop m) ls before e is s n = straight l b ls before is (subst (λ o. Contains order (end (next o))) (sym e) s)
  stands_by l b (Const to word m) ls before e is s n = straight l b ls before is (subst (λ o. Contains order (end (next o))) (sym e) s)
  stands_by l b (Unary operator to from m) ls before e is s n = straight l b ls before is (subst (λ o. Contains order (end (next o))) (sym e) s)
  stands_by l b (Binary operator to left right m) ls before e is s n = straight l b ls before is (subst (λ o. Contains order (end (next o))) (sym e) s)
  stands_by l b (Load width object to index m) ls before e is s n = straight l b ls before is (subst (λ o. Contains order (end (next o))) (sym e) s)
  stands_by l b (Store width object index from m) ls before e is s n = straight l b ls before is (subst (λ o. Contains order (end (next o))) (sym e) s)
  stands_by l b (Call function m) ls before e is s n = straight l b ls before is (subst (λ o. Contains order (end (next o))) (sym e) s)
  stands_by l b (Read m) ls before e is s n = straight l b ls before is (subst (λ o. Contains order (end (next o))) (sym e) s)
  stands_by l b (Write m) ls before e is s n = straight l b ls before is (subst (λ o. Contains order (end (next o))) (sym e) s)

  each : (l : ℕ) (b : Block) → block_at ltl.blocks l ≡ Some b → StandsIn code (end l) → IsPassed end far l b ⊎ (end l ≡ l) → IsPassed end far l b ⊎ ((end l ≡ l) × Stands code end l b b.operation)
  each l b e s (inl p) = inl p
  each l b e s (inr own) =
      let i = stands_before l (subst (StandsIn code) own s) in
      inr (own, stands_by l b b.operation i.0 i.1 refl (stands_at l b i.0 i.1 e) (ordered.closed l b (from_contains order l i.0 i.1) e) (last l b e))

  pub laid_out : Lays ltl code end far most
  laid_out = record {
    low = ends.low;
    entry = starts order refl;
    entry_stands = stands (end ltl.entry) ordered.entry;
    each = λ l b e s. each l b e s (ends.each l b e);
  }
