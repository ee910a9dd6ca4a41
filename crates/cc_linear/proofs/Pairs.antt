-- What a pair of Linear keeps follows from the pair of LTL and an order of its blocks.
use Rattle.std.proofs.Common.{◌≡◌, ℕ, suc, ◌<◌, List, [], ◌∷◌, length, refl, sym, ap, ◌∙◌, subst, Contains, ◌≢◌, arith}
use Rattle.std.specs.Prelude.{Bool, true, false, if◌then◌else◌, ◌==◌, Option, Some, None}
use Rattle.std.specs.List.{AllByRecursion, AllPairs}
use Rattle.cc_ast.specs.Tree.{External}
use Rattle.cc_linear_language.specs.Meaning.{functions}
use Rattle.cc_ltl.specs.declared.operation.Move.{Move}
use Rattle.cc_ltl.specs.declared.operation.Operation.{Operation}
use Rattle.cc_ltl.specs.declared.operation.Operation.TheVariants.{Nop, Const, Unary, Binary, Load, Store, Call, Read, Write, Branch, Return}
use Rattle.cc_ltl.specs.declared.block.Block.{Block}
use Rattle.cc_ltl.specs.Ltl.{Ltl, IsMove, IsOperation, IsBlock, IsLtl, goes_on, block_at}
use Rattle.cc_validate.specs.Pair as above
use Rattle.cc_validate.specs.Pair.{EndsAreLast, IsCallOf}
use Rattle.cc_linear_language.specs.declared.item.LinearItem.{LinearItem}
use Rattle.cc_linear_language.specs.declared.item.LinearItem.TheVariants as item
use Rattle.cc_linear_language.specs.declared.item.LinearItem.TheVariants.{Label, Jump, IfNonzero, IfZero}
use Rattle.cc_linear_language.specs.Linear.{labels, IsItem}
use Rattle.cc_linear.specs.Targets.{targets}
use Rattle.cc_linear_language.specs.Pair.{Pair, tree_of, IsPair}
use Rattle.cc_linear.specs.internal.Lays.{moves_then, operation_then, next}
use Rattle.cc_linear.specs.internal.Layout.{is_next, leads, is_empty, tail_of, branch_then, block_then, laid_at, laid, linear_code, HasSuccessors, IsOrder, AreEnds, NoneBehind, BranchesAreLast}
use Rattle.cc_linear.proofs.Laid.{linear_tracks}
use Rattle.cc_linear.specs.internal.Idle.{kept}
use Rattle.cc_linear.proofs.Ordering.{laid_out}
use Rattle.cc_linear.proofs.WithoutLabels.{below_itself, labels_kept, distinct_only, only_has, still_fit, kept_tracks}
use Rattle.cc_simulation.proofs.Simulating.{coarser}

-- ---- the labels of the list are those of the order

labels_moves : (ms : List Move) (items : List LinearItem) → labels (moves_then ms items) ≡ labels items
labels_moves [] items = refl
labels_moves (m ∷ ms) items = labels_moves ms items

labels_operation : (op : Operation) (items : List LinearItem) → labels (operation_then op items) ≡ labels items
labels_operation (Nop n) items = refl
labels_operation (Const to word n) items = refl
labels_operation (Unary operator to from n) items = refl
labels_operation (Binary operator to left right n) items = refl
labels_operation (Load width object to index n) items = refl
labels_operation (Store width object index from n) items = refl
labels_operation (Call function n) items = refl
labels_operation (Read n) items = refl
labels_operation (Write n) items = refl
labels_operation (Branch from taken other) items = refl
labels_operation Return items = refl

labels_either : (t : Bool) (items others rest : List LinearItem) → labels items ≡ labels rest → labels others ≡ labels rest → labels (if t then items else others) ≡ labels rest
labels_either true items others rest p q = p
labels_either false items others rest p q = q

labels_leads : (e : ℕ) (order : List ℕ) (items : List LinearItem) → labels (leads e order items) ≡ labels items
labels_leads e order items = labels_either (is_next e order) items (Jump e ∷ items) items refl refl

labels_straight : (end : ℕ → ℕ) (b : Block) (order : List ℕ) (items : List LinearItem) → labels (moves_then b.before (operation_then b.operation (moves_then b.after (tail_of end b order items)))) ≡ labels items
labels_straight end b order items =
    labels_moves b.before (operation_then b.operation (moves_then b.after (tail_of end b order items))) ∙ labels_operation b.operation (moves_then b.after (tail_of end b order items)) ∙ labels_moves b.after (tail_of end b order items)
    ∙ labels_either (is_empty b) (Jump (end (next b.operation)) ∷ items) (leads (end (next b.operation)) order items) items refl (labels_leads (end (next b.operation)) order items)

labels_block : (end : ℕ → ℕ) (b : Block) (op : Operation) (order : List ℕ) (items : List LinearItem) → labels (block_then end b op order items) ≡ labels items
labels_block end b (Branch from taken other) order items =
    labels_moves b.before (branch_then end from taken other order items)
    ∙ labels_either (is_next (end taken) order) (IfZero from (end other) ∷ items) (IfNonzero from (end taken) ∷ leads (end other) order items) items refl (labels_leads (end other) order items)
labels_block end b Return order items = labels_moves b.before (item.Return ∷ items)
labels_block end b (Nop n) order items = labels_straight end b order items
labels_block end b (Const to word n) order items = labels_straight end b order items
labels_block end b (Unary operator to from n) order items = labels_straight end b order items
labels_block end b (Binary operator to left right n) order items = labels_straight end b order items
labels_block end b (Load width object to index n) order items = labels_straight end b order items
labels_block end b (Store width object index from n) order items = labels_straight end b order items
labels_block end b (Call function n) order items = labels_straight end b order items
labels_block end b (Read n) order items = labels_straight end b order items
labels_block end b (Write n) order items = labels_straight end b order items

labels_at : (end : ℕ → ℕ) (o : Option Block) (order : List ℕ) (items : List LinearItem) → labels (laid_at end o order items) ≡ labels items
labels_at end None order items = refl
labels_at end (Some b) order items = labels_block end b b.operation order items

labels_laid : (blocks : List Block) (end : ℕ → ℕ) (order : List ℕ) → labels (laid blocks end order) ≡ order
labels_laid blocks end [] = refl
labels_laid blocks end (l ∷ ls) = ap (λ xs. l ∷ xs) (labels_at end (block_at blocks l) ls (laid blocks end ls) ∙ labels_laid blocks end ls)

labels_code : (ltl : Ltl) (end : ℕ → ℕ) (order : List ℕ) → labels (linear_code ltl end order) ≡ order
labels_code ltl end order = labels_leads (end ltl.entry) order (laid ltl.blocks end order) ∙ labels_laid ltl.blocks end order

-- ---- each item is an item of the function

-- the block of a label is one of the blocks
is_block : (slots : ℕ) (blocks : List Block) (l : ℕ) (b : Block) → AllByRecursion (IsBlock slots) blocks → block_at blocks l ≡ Some b → IsBlock slots b
is_block slots [] l b all e = absurd cc
is_block slots (x ∷ xs) l b all e = by (x.label == l) e (is_block slots xs l b all.1)
  where
    by : (t : Bool) → (if t then Some x else block_at xs l) ≡ Some b → (block_at xs l ≡ Some b → IsBlock slots b) → IsBlock slots b
    by true h more = let same : x ≡ b = cc in subst (IsBlock slots) same all.0
    by false h more = more h

each_inside : (xs ys : List ℕ) → ((l : ℕ) → Contains xs l → Contains ys l) → AllByRecursion (Contains ys) xs
each_inside [] ys f = tt
each_inside (x ∷ xs) ys f = (
  f x (0, (let z : 0 < suc (length xs) = omega arith in z), refl),
  each_inside xs ys (λ l c. f l (suc c.0, (let b = c.1 in let z : suc c.0 < suc (length xs) = omega arith in z), c.2)),
)

module _ (unit : List External) (ltl : Ltl) (end : ℕ → ℕ) (order names : List ℕ) (is : IsLtl ltl) (calls : above.AreCalls unit ltl) (ordered : IsOrder ltl end order) (inside : (l : ℕ) → Contains order l → Contains names l) where
  abbrev Fits : List LinearItem → Type 0
  Fits items = AllByRecursion (IsItem ltl.slots (length (functions unit)) names) items

  moves_fit : (ms : List Move) (items : List LinearItem) → AllByRecursion (IsMove ltl.slots) ms → Fits items → Fits (moves_then ms items)
  moves_fit [] items all h = h
  moves_fit (m ∷ ms) items all h = (all.0, moves_fit ms items all.1 h)

  operation_fits : (op : Operation) (items : List LinearItem) → IsOperation op → IsCallOf unit op → Fits items → Fits (operation_then op items)
  operation_fits (Nop n) items o c h = h
  operation_fits (Const to word n) items o c h = ((o.0, o.1), h)
  operation_fits (Unary operator to from n) items o c h = ((o.0, o.1), h)
  operation_fits (Binary operator to left right n) items o c h = ((o.0, o.1, o.2), h)
  operation_fits (Load width object to index n) items o c h = ((o.0, o.1, o.2), h)
  operation_fits (Store width object index from n) items o c h = ((o.0, o.1, o.2), h)
  operation_fits (Call function n) items o c h = (c, h)
  operation_fits (Read n) items o c h = (tt, h)
  operation_fits (Write n) items o c h = (tt, h)
  operation_fits (Branch from taken other) items o c h = h
  operation_fits Return items o c h = (tt, h)

  either_fits : (t : Bool) (items others : List LinearItem) → Fits items → Fits others → Fits (if t then items else others)
  either_fits true items others p q = p
  either_fits false items others p q = q

  leads_fit : (e : ℕ) (ls : List ℕ) (items : List LinearItem) → Contains order e → Fits items → Fits (leads e ls items)
  leads_fit e ls items c h = either_fits (is_next e ls) items (Jump e ∷ items) h (inside e c, h)

  straight_fits : (b : Block) (ls : List ℕ) (items : List LinearItem) → IsBlock ltl.slots b → IsCallOf unit b.operation → Contains order (end (next b.operation)) → Fits items
      → Fits (moves_then b.before (operation_then b.operation (moves_then b.after (tail_of end b ls items))))
  straight_fits b ls items block call c h =
      let e = end (next b.operation) in
      let tail = either_fits (is_empty b) (Jump e ∷ items) (leads e ls items) (inside e c, h) (leads_fit e ls items c h) in
      moves_fit b.before (operation_then b.operation (moves_then b.after (tail_of end b ls items))) block.before.1
      (operation_fits b.operation (moves_then b.after (tail_of end b ls items)) block.operation call (moves_fit b.after (tail_of end b ls items) block.after.1 tail))

  block_fits : (b : Block) (op : Operation) (ls : List ℕ) (items : List LinearItem) → b.operation ≡ op → IsBlock ltl.slots b → IsCallOf unit b.operation → HasSuccessors end order op → Fits items → Fits (block_then end b op ls items)
  block_fits b (Branch from taken other) ls items same block call s h =
      let o = subst IsOperation same block.operation in
      moves_fit b.before (branch_then end from taken other ls items) block.before.1
      (either_fits (is_next (end taken) ls) (IfZero from (end other) ∷ items) (IfNonzero from (end taken) ∷ leads (end other) ls items) ((o.0, inside (end other) s.1), h) ((o.0, inside (end taken) s.0), leads_fit (end other) ls items s.1 h))
  block_fits b Return ls items same block call s h = moves_fit b.before (item.Return ∷ items) block.before.1 (tt, h)
  block_fits b (Nop n) ls items same block call s h = straight_fits b ls items block call (subst (λ o. Contains order (end (next o))) (sym same) s) h
  block_fits b (Const to word n) ls items same block call s h = straight_fits b ls items block call (subst (λ o. Contains order (end (next o))) (sym same) s) h
  block_fits b (Unary operator to from n) ls items same block call s h = straight_fits b ls items block call (subst (λ o. Contains order (end (next o))) (sym same) s) h
  block_fits b (Binary operator to left right n) ls items same block call s h = straight_fits b ls items block call (subst (λ o. Contains order (end (next o))) (sym same) s) h
  block_fits b (Load width object to index n) ls items same block call s h = straight_fits b ls items block call (subst (λ o. Contains order (end (next o))) (sym same) s) h
  block_fits b (Store width object index from n) ls items same block call s h = straight_fits b ls items block call (subst (λ o. Contains order (end (next o))) (sym same) s) h
  block_fits b (Call function n) ls items same block call s h = straight_fits b ls items block call (subst (λ o. Contains order (end (next o))) (sym same) s) h
  block_fits b (Read n) ls items same block call s h = straight_fits b ls items block call (subst (λ o. Contains order (end (next o))) (sym same) s) h
  block_fits b (Write n) ls items same block call s h = straight_fits b ls items block call (subst (λ o. Contains order (end (next o))) (sym same) s) h

  laid_fits : (ls : List ℕ) → AllByRecursion (Contains order) ls → Fits (laid ltl.blocks end ls)
  laid_fits [] all = tt
  laid_fits (l ∷ ls) all = (tt, at (block_at ltl.blocks l) refl (laid_fits ls all.1))
    where
      at : (o : Option Block) → block_at ltl.blocks l ≡ o → Fits (laid ltl.blocks end ls) → Fits (laid_at end o ls (laid ltl.blocks end ls))
      at None e h = h
      at (Some b) e h = block_fits b b.operation ls (laid ltl.blocks end ls) refl (is_block ltl.slots ltl.blocks l b is.blocks e) (calls l b e) (ordered.closed l b all.0 e) h

  code_fits : Fits (linear_code ltl end order)
  code_fits = leads_fit (end ltl.entry) order (laid ltl.blocks end order) ordered.entry (laid_fits order (each_inside order order (λ l c. c)))

-- ---- the whole

branches_are_last : (ltl : Ltl) → EndsAreLast ltl → BranchesAreLast ltl
branches_are_last ltl ends l b e = by b.operation refl
  where
    by : (op : Operation) → b.operation ≡ op → NoneBehind b op
    by (Branch from taken other) same = ends l b e (ap goes_on same)
    by Return same = tt
    by (Nop n) same = tt
    by (Const to word n) same = tt
    by (Unary operator to from n) same = tt
    by (Binary operator to left right n) same = tt
    by (Load width object to index n) same = tt
    by (Store width object index from n) same = tt
    by (Call function n) same = tt
    by (Read n) same = tt
    by (Write n) same = tt

pub pair_of : (p : above.Pair) (end far : ℕ → ℕ) (most : ℕ) (order : List ℕ) → above.IsPair p → AreEnds p.ltl end far most → IsOrder p.ltl end order
    → IsPair (record { mode = p.mode; unit = p.unit; function = p.function; ltl = p.ltl; code = linear_code p.ltl end order })
pair_of p end far most order is ends ordered =
    let code = linear_code p.ltl end order in
    let names : labels code ≡ order = labels_code p.ltl end order in
    let last = branches_are_last p.ltl is.graph.ends in
    record {
      typed = is.typed;
      function = is.function;
      ltl = is.ltl;
      few = is.graph.few;
      ltl_keeps_up = is.keeps_up;
      linear = record {
        few = is.ltl.slots;
        distinct = subst (λ ls. AllPairs (λ (a b : ℕ). a ≢ b) ls) (sym names) ordered.distinct;
        fit = code_fits (above.tree_of p) p.ltl end order (labels code) is.ltl is.calls ordered (λ l c. subst (λ ls. Contains ls l) (sym names) c);
      };
      keeps_up = (coarser is.keeps_up.0 most, λ meaning m. linear_tracks meaning p.function is.keeps_up.0 p.ltl code end far most (laid_out p.ltl end far most order ends ordered last) (is.keeps_up.1 meaning m));
    }

-- ---- without the labels to which nothing leads

-- without the labels to which nothing leads, a pair is still a pair
pub kept_pair : (p : Pair) → IsPair p → IsPair (record { mode = p.mode; unit = p.unit; function = p.function; ltl = p.ltl; code = kept (targets p.code) p.code })
kept_pair p is =
    let led = targets p.code in
    let below = below_itself p.code in
    let names = labels_kept led p.code in
    record {
      typed = is.typed;
      function = is.function;
      ltl = is.ltl;
      few = is.few;
      ltl_keeps_up = is.ltl_keeps_up;
      linear = record {
        few = is.linear.few;
        distinct = subst (λ ls. AllPairs (λ (a b : ℕ). a ≢ b) ls) (sym names) (distinct_only led (labels p.code) is.linear.distinct);
        fit = still_fit p.ltl.slots (length (functions (tree_of p))) led (labels p.code) (labels (kept led p.code)) (λ l h c. subst (λ ls. Contains ls l) (sym names) (only_has led (labels p.code) l h c)) p.code below is.linear.fit;
      };
      keeps_up = (coarser is.keeps_up.0 0, λ meaning m. kept_tracks meaning p.function is.keeps_up.0 p.ltl.slots p.code led below (is.keeps_up.1 meaning m));
    }
