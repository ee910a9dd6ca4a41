-- From tables by places to what the layout requires of labels: where chains end, and an order in which all reached labels
-- occur.
use Rattle.std.proofs.Common.{◌≡◌, ℕ, zero, suc, ◌+◌, ◌<◌, ◌≤◌, Bool, true, false, cond, ◌&&◌, List, [], ◌∷◌, length, get_or, refl, sym, ap, ◌∙◌, subst, ◌⊎◌, inl, inr, arith, Some, None, ◌==◌, All}
use Rattle.std.specs.List.{AllPairs, Contains}
use Rattle.std.proofs.lemmas.Bool.Decides.{nat_tests, eqb_tells}
use Rattle.std.proofs.lemmas.List.Sorted.{searched}
use Rattle.std.specs.List.Sorted.{IsBinarySearchResult}
use Rattle.std.specs.Ordering.{nat_cmp}
use Rattle.std.specs.Prelude.{Result, Ok, Err}
use Rattle.std.proofs.lemmas.Bool.{cases_eq, cases_lt}
use Rattle.std.proofs.lemmas.List.{get_or-map, get_or_default}
use Rattle.cc_ltl.specs.declared.operation.Move.{Move}
use Rattle.cc_ltl.specs.declared.operation.Operation.{Operation}
use Rattle.cc_ltl.specs.declared.operation.Operation.TheVariants.{Nop, Const, Unary, Binary, Load, Store, Call, Read, Write, Branch, Return}
use Rattle.cc_ltl.specs.declared.block.Block.{Block}
use Rattle.cc_ltl.specs.Ltl.{Ltl, IsBelowFirst, Ascend, block_at}
use Rattle.cc_linear.specs.internal.Lays.{next, Nearer, Passes, IsPassed}
use Rattle.cc_linear.specs.internal.Layout.{has_none, is_nop, is_empty, HasSuccessors, IsOrder, AreEnds}
use Rattle.cc_linear.specs.internal.Ends.{HasEndsBy}
use Rattle.cc_linear.specs.internal.Reached.{Leaves, HasWays, IsClosed}
use Rattle.cc_linear.specs.internal.Places.{AreLabels, LeadsIn, AllLeadIn, labels_of, place_in, next_place, next_places, end_place, end_in, ways_of, graph_of, labels_at}

-- ---- labels that ascend

pub labels_long : (blocks : List Block) → length (labels_of blocks) ≡ length blocks
labels_long [] = refl
labels_long (b ∷ bs) = ap suc (labels_long bs)

above_all : (label : ℕ) (bs : List Block) → IsBelowFirst label bs → Ascend bs → (j : ℕ) → j < length (labels_of bs) → label < get_or (labels_of bs) j 0
above_all label [] below up j lt = absurd (omega arith)
above_all label (b ∷ bs) below up zero lt = below
above_all label (b ∷ bs) below (first, up) (suc j) lt = let h = above_all b.label bs first up j (omega arith) in omega arith

pub rising : (blocks : List Block) → Ascend blocks → (i j : ℕ) → i ≤ j → j < length (labels_of blocks) → get_or (labels_of blocks) i 0 ≤ get_or (labels_of blocks) j 0
rising [] up i j le lt = absurd (omega arith)
rising (b ∷ bs) up zero zero le lt = omega arith
rising (b ∷ bs) (first, up) zero (suc j) le lt = let h = above_all b.label bs first up j (omega arith) in omega arith
rising (b ∷ bs) up (suc i) zero le lt = absurd (omega arith)
rising (b ∷ bs) (first, up) (suc i) (suc j) le lt = rising bs up i j (omega arith) (omega arith)

place_here : (label : ℕ) (ls : List ℕ) → place_in (label ∷ ls) label ≡ 0
place_here label ls = let t : (label == label) ≡ true = grind (arith, nat_tests) in ap (λ b. cond b 0 (suc (place_in ls label))) t

place_there : (l label : ℕ) (ls : List ℕ) → (l ≡ label → ⊥) → place_in (l ∷ ls) label ≡ suc (place_in ls label)
place_there l label ls other = let t : (l == label) ≡ false = grind (arith, nat_tests) in ap (λ b. cond b 0 (suc (place_in ls label))) t

pub first_place : (blocks : List Block) → Ascend blocks → (i : ℕ) → i < length (labels_of blocks) → place_in (labels_of blocks) (get_or (labels_of blocks) i 0) ≡ i
first_place [] up i lt = absurd (omega arith)
first_place (b ∷ bs) up zero lt = place_here b.label (labels_of bs)
first_place (b ∷ bs) (first, up) (suc i) lt =
    let h = above_all b.label bs first up i (omega arith) in
    place_there b.label (get_or (labels_of bs) i 0) (labels_of bs) (λ e. omega arith) ∙ ap suc (first_place bs up i (omega arith))

-- the block of a label is at the label's place
pub record Stands (blocks : List Block) (label : ℕ) (block : Block) : Type 0 where
  pub inside : place_in (labels_of blocks) label < length blocks
  pub block_is : (d : Block) → get_or blocks (place_in (labels_of blocks) label) d ≡ block
  pub label_is : get_or (labels_of blocks) (place_in (labels_of blocks) label) 0 ≡ label

pub stands : (blocks : List Block) (label : ℕ) (block : Block) → block_at blocks label ≡ Some block → Stands blocks label block
stands [] label block e = absurd (let z : None ≡ Some block = e in cc)
stands (b ∷ bs) label block e = elim (cases_eq b.label label) [
  | inl same ↦
      (let t : (b.label == label) ≡ true = grind (arith, nat_tests) in
      let here : place_in (labels_of (b ∷ bs)) label ≡ 0 = ap (λ c. cond c 0 (suc (place_in (labels_of bs) label))) t in
      let z : Some b ≡ Some block = sym (ap (λ c. cond c (Some b) (block_at bs label)) t) ∙ e in
      record {
        inside = omega arith;
        block_is = λ d. ap (λ p. get_or (b ∷ bs) p d) here ∙ (let w : b ≡ block = cc in w);
        label_is = ap (λ p. get_or (labels_of (b ∷ bs)) p 0) here ∙ same;
      })
  | inr other ↦
      (let t : (b.label == label) ≡ false = grind (arith, nat_tests) in
      let there : place_in (labels_of (b ∷ bs)) label ≡ suc (place_in (labels_of bs) label) = ap (λ c. cond c 0 (suc (place_in (labels_of bs) label))) t in
      let r = stands bs label block (sym (ap (λ c. cond c (Some b) (block_at bs label)) t) ∙ e) in
      let lt = r.inside in
      record {
        inside = omega arith;
        block_is = λ d. ap (λ p. get_or (b ∷ bs) p d) there ∙ r.block_is d;
        label_is = ap (λ p. get_or (labels_of (b ∷ bs)) p 0) there ∙ r.label_is;
      })
]

-- a label in the list has a place, and is found there
pub place_inside : (ls : List ℕ) (label : ℕ) → Contains ls label → place_in ls label < length ls
place_inside [] label (k, lt, e) = absurd (omega arith)
place_inside (l ∷ ls) label (zero, lt, e) =
    let h : place_in (l ∷ ls) label ≡ 0 = ap (λ x. place_in (x ∷ ls) label) e ∙ place_here label ls in
    omega arith
place_inside (l ∷ ls) label (suc k, lt, e) = elim (cases_eq l label) [
  | inl same ↦ (let h : place_in (l ∷ ls) label ≡ 0 = ap (λ x. place_in (x ∷ ls) label) same ∙ place_here label ls in omega arith)
  | inr other ↦ (let h = place_there l label ls other in let i = place_inside ls label (k, omega arith, e) in omega arith)
]

-- a search finds a label that is in the list
pub not_missing : (xs : List ℕ) (x : ℕ) (r : Result ℕ ℕ) (d : ℕ) → IsBinarySearchResult (λ y. nat_cmp y x) xs r → ((i j : ℕ) → i ≤ j → j < length xs → get_or xs i 0 ≤ get_or xs j 0) → Contains xs x → r ≡ Err d → ⊥
not_missing xs x (Ok i) d found up c e = absurd (let z : Ok i ≡ Err d = e in cc)
not_missing xs x (Err i) d found up (k, lt, same) e =
    let h = searched xs x (Err i) found up in
    let here : get_or xs k 0 ≡ x = get_or_default xs k 0 x lt ∙ same in
    elim (cases_lt k i) [ inl b ↦ (let a = h.1 k b in omega arith) | inr b ↦ (let a = h.2 k b lt in omega arith) ]

-- the labels to which the block at a place leads exist
pub leads_at : (labels : List ℕ) (blocks : List Block) (i : ℕ) (d : Block) → AllLeadIn labels blocks → i < length blocks → LeadsIn labels (get_or blocks i d).operation
leads_at labels [] i d h lt = absurd (omega arith)
leads_at labels (b ∷ bs) zero d h lt = h.0
leads_at labels (b ∷ bs) (suc i) d h lt = leads_at labels bs i d h.1 (omega arith)

-- the block at a label's place is the block of that label
block_placed : (blocks : List Block) (label : ℕ) (d : Block) → place_in (labels_of blocks) label < length blocks → block_at blocks label ≡ Some (get_or blocks (place_in (labels_of blocks) label) d)
block_placed [] label d lt = absurd (omega arith)
block_placed (b ∷ bs) label d lt = elim (eqb_tells b.label label) [
  | inl h ↦ ap (λ t. cond t (Some b) (block_at bs label)) h.0 ∙ sym (ap (λ t. Some (get_or (b ∷ bs) (cond t 0 (suc (place_in (labels_of bs) label))) d)) h.0)
  | inr h ↦
      (let there : place_in (labels_of (b ∷ bs)) label ≡ suc (place_in (labels_of bs) label) = ap (λ t. cond t 0 (suc (place_in (labels_of bs) label))) h.0 in
      ap (λ t. cond t (Some b) (block_at bs label)) h.0 ∙ block_placed bs label d (omega arith) ∙ sym (ap (λ p. Some (get_or (b ∷ bs) p d)) there))
]

pub block_there : (labels : List ℕ) (blocks : List Block) (place : ℕ) (d : Block) → labels ≡ labels_of blocks → AreLabels labels → place < length labels → block_at blocks (get_or labels place 0) ≡ Some (get_or blocks place d)
block_there labels blocks place d same are lt =
    let first : place_in (labels_of blocks) (get_or labels place 0) ≡ place = ap (λ ls. place_in ls (get_or labels place 0)) (sym same) ∙ are.first place lt in
    let long = labels_long blocks in
    let many = ap length same in
    block_placed blocks (get_or labels place 0) d (omega arith) ∙ ap (λ p. Some (get_or blocks p d)) first

-- ---- where chains end

pub nexts_long : (labels : List ℕ) (from : ℕ) (bs : List Block) → length (next_places labels from bs) ≡ length bs
nexts_long labels from [] = refl
nexts_long labels from (b ∷ bs) = ap suc (nexts_long labels (suc from) bs)

pub next_at : (labels : List ℕ) (from : ℕ) (bs : List Block) (p : ℕ) (d : Block) → p < length bs → get_or (next_places labels from bs) p 0 ≡ next_place labels (from + p) (get_or bs p d)
next_at labels from [] p d lt = absurd (omega arith)
next_at labels from (b ∷ bs) zero d lt = ap (λ k. next_place labels k b) (let e : from ≡ from + 0 = omega arith in e)
next_at labels from (b ∷ bs) (suc p) d lt = next_at labels (suc from) bs p d (omega arith) ∙ ap (λ k. next_place labels k (get_or bs p d)) (let e : suc from + p ≡ from + suc p = omega arith in e)

none_is : (ms : List Move) → has_none ms ≡ true → ms ≡ []
none_is [] e = refl
none_is (m ∷ ms) e = absurd (let z : false ≡ true = e in cc)

both : (a b : Bool) → (a && b) ≡ true → (a ≡ true) × (b ≡ true)
both true true e = (refl, refl)
both true false e = absurd (let z : false ≡ true = e in cc)
both false b e = absurd (let z : false ≡ true = e in cc)

nop_passes : (end far : ℕ → ℕ) (l : ℕ) (op : Operation) → is_nop op ≡ true → Nearer end far l (next op) → Passes end far l op
nop_passes end far l (Nop n) e near = near
nop_passes end far l (Const to word n) e near = absurd (let z : false ≡ true = e in cc)
nop_passes end far l (Unary operator to from n) e near = absurd (let z : false ≡ true = e in cc)
nop_passes end far l (Binary operator to left right n) e near = absurd (let z : false ≡ true = e in cc)
nop_passes end far l (Load width object to index n) e near = absurd (let z : false ≡ true = e in cc)
nop_passes end far l (Store width object index from n) e near = absurd (let z : false ≡ true = e in cc)
nop_passes end far l (Call function n) e near = absurd (let z : false ≡ true = e in cc)
nop_passes end far l (Read n) e near = absurd (let z : false ≡ true = e in cc)
nop_passes end far l (Write n) e near = absurd (let z : false ≡ true = e in cc)
nop_passes end far l (Branch from taken other) e near = absurd (let z : false ≡ true = e in cc)
nop_passes end far l Return e near = absurd (let z : false ≡ true = e in cc)

passed : (end far : ℕ → ℕ) (l : ℕ) (block : Block) → is_empty block ≡ true → Nearer end far l (next block.operation) → IsPassed end far l block
passed end far l block e near =
    let one = both (is_nop block.operation) (has_none block.before && has_none block.after) e in
    let two = both (has_none block.before) (has_none block.after) one.1 in
    record { before = none_is block.before two.0; after = none_is block.after two.1; passes = nop_passes end far l block.operation one.0 near }

module _ (ltl : Ltl) (ends : List ℕ) where
  abbrev labels : List ℕ
  labels = labels_of ltl.blocks

  abbrev end : ℕ → ℕ
  end = end_in (labels_of ltl.blocks) ends

  pub are_ends : (far : ℕ → ℕ) (most : ℕ) → HasEndsBy (next_places (labels_of ltl.blocks) 0 ltl.blocks) ends far most → AreEnds ltl (end_in (labels_of ltl.blocks) ends) (λ l. far (place_in (labels_of ltl.blocks) l)) most
  are_ends far most h = record { low = λ l. h.low (place_in labels l); each = each }
    where
      nexts : List ℕ
      nexts = next_places (labels_of ltl.blocks) 0 ltl.blocks

      near_by : (l : ℕ) (block : Block) (b : Bool) → is_empty block ≡ b → get_or nexts (place_in labels l) 0 ≡ cond b (place_in labels (next block.operation)) (place_in labels l)
          → (get_or ends (get_or nexts (place_in labels l) 0) 0 ≡ get_or ends (place_in labels l) 0) → far (get_or nexts (place_in labels l) 0) < far (place_in labels l)
          → IsPassed end (λ k. far (place_in labels k)) l block ⊎ (end l ≡ l)
      near_by l block true is leads same nearer =
          inl (passed end (λ k. far (place_in labels k)) l block is (ap (λ p. get_or labels p 0) (ap (λ p. get_or ends p 0) (sym leads) ∙ same), subst (λ p. far p < far (place_in labels l)) leads nearer))
      near_by l block false is leads same nearer = absurd (let z : far (place_in labels l) < far (place_in labels l) = subst (λ p. far p < far (place_in labels l)) leads nearer in omega arith)

      each : (l : ℕ) (block : Block) → block_at ltl.blocks l ≡ Some block → IsPassed end (λ k. far (place_in labels k)) l block ⊎ (end l ≡ l)
      each l block e =
          let s = stands ltl.blocks l block e in
          let long = nexts_long labels 0 ltl.blocks in
          let lt = s.inside in
          let leads : get_or nexts (place_in labels l) 0 ≡ next_place labels (place_in labels l) block =
          next_at labels 0 ltl.blocks (place_in labels l) block s.inside ∙ ap (λ k. next_place labels k (get_or ltl.blocks (place_in labels l) block)) (let z : 0 + place_in labels l ≡ place_in labels l = omega arith in z) ∙ ap (next_place labels (place_in labels l)) (s.block_is block) in
          elim (h.each (place_in labels l) (omega arith)) [
            | inl (same, nearer) ↦ near_by l block (is_empty block) refl leads same nearer
            | inr own ↦ inr (ap (λ p. get_or labels p 0) own ∙ s.label_is)
          ]

  -- ---- the order

  at_label : (order : List ℕ) (p : ℕ) → Contains order p → Contains (labels_at labels order) (get_or labels p 0)
  at_label (q ∷ qs) p (zero, lt, e) = (zero, omega arith, ap (λ k. get_or labels k 0) e)
  at_label (q ∷ qs) p (suc k, lt, e) = let r = at_label qs p (k, omega arith, e) in let lt' = r.1 in (suc r.0, omega arith, r.2)
  at_label [] p (k, lt, e) = absurd (omega arith)

  from_label : (order : List ℕ) (l : ℕ) → Contains (labels_at labels order) l → (p : ℕ) × Contains order p × (get_or labels p 0 ≡ l)
  from_label (q ∷ qs) l (zero, lt, e) = (q, (zero, omega arith, refl), e)
  from_label (q ∷ qs) l (suc k, lt, e) =
      let r = from_label qs l (k, omega arith, e) in
      let c = r.1 in
      let lt' = c.1 in
      (r.0, (suc c.0, omega arith, c.2), r.2)
  from_label [] l (k, lt, e) = absurd (omega arith)

  successors_in : (order : List ℕ) (op : Operation) → HasWays order (ways_of labels ends op) → HasSuccessors end (labels_at labels order) op
  successors_in order (Nop n) h = at_label order (end_place labels ends n) h
  successors_in order (Const to word n) h = at_label order (end_place labels ends n) h
  successors_in order (Unary operator to from n) h = at_label order (end_place labels ends n) h
  successors_in order (Binary operator to left right n) h = at_label order (end_place labels ends n) h
  successors_in order (Load width object to index n) h = at_label order (end_place labels ends n) h
  successors_in order (Store width object index from n) h = at_label order (end_place labels ends n) h
  successors_in order (Call function n) h = at_label order (end_place labels ends n) h
  successors_in order (Read n) h = at_label order (end_place labels ends n) h
  successors_in order (Write n) h = at_label order (end_place labels ends n) h
  successors_in order (Branch from taken other) h = (at_label order (end_place labels ends taken) h.0, at_label order (end_place labels ends other) h.1)
  successors_in order Return h = tt

  pub is_order : Ascend ltl.blocks → (order : List ℕ) → AllPairs (λ (a b : ℕ). a ≡ b → ⊥) order → All (λ p. p < length ltl.blocks) order → Contains order (end_place (labels_of ltl.blocks) ends ltl.entry) → IsClosed (graph_of (labels_of ltl.blocks) ends ltl.blocks) order
      → IsOrder ltl (end_in (labels_of ltl.blocks) ends) (labels_at (labels_of ltl.blocks) order)
  is_order up order distinct inside entry closed = record {
    distinct = λ i j d before lt same.
        let long = map_long order in
        let here = get_or-map (λ p. get_or labels p 0) order i 0 d (omega arith) in
        let there = get_or-map (λ p. get_or labels p 0) order j 0 d (omega arith) in
        let pi = inside i 0 (omega arith) in
        let pj = inside j 0 (omega arith) in
        let many = labels_long ltl.blocks in
        distinct i j 0 before (omega arith)
        (sym (first_place ltl.blocks up (get_or order i 0) (omega arith)) ∙ ap (place_in labels) (sym here ∙ same ∙ there) ∙ first_place ltl.blocks up (get_or order j 0) (omega arith));
    entry = at_label order (end_place labels ends ltl.entry) entry;
    closed = λ l block c e.
        let s = stands ltl.blocks l block e in
        let f = from_label order l c in
        let k = f.1 in
        let many = labels_long ltl.blocks in
        let low : f.0 < length ltl.blocks = subst (λ p. p < length ltl.blocks) k.2 (inside k.0 f.0 k.1) in
        let place_is : place_in labels l ≡ f.0 = ap (place_in labels) (sym f.2) ∙ first_place ltl.blocks up f.0 (omega arith) in
        let row : get_or (graph_of labels ends ltl.blocks) f.0 Leaves ≡ ways_of labels ends block.operation =
        get_or-map (λ (b : Block). ways_of labels ends b.operation) ltl.blocks f.0 block Leaves low ∙ ap (λ p. ways_of labels ends (get_or ltl.blocks p block).operation) (sym place_is) ∙ ap (λ (b : Block). ways_of labels ends b.operation) (s.block_is block) in
        successors_in order block.operation (subst (HasWays order) row (closed f.0 f.1));
  }
    where
      map_long : (xs : List ℕ) → length (labels_at labels xs) ≡ length xs
      map_long [] = refl
      map_long (x ∷ xs) = ap suc (map_long xs)
