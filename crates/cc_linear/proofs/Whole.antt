-- From a function's blocks to its list: the tables by places are what each step requires, and the list is made from the function.
use Rattle.std.proofs.Common.{◌≡◌, ℕ, suc, ◌+◌, ◌<◌, ◌≤◌, Bool, true, false, cond, ◌&&◌, List, [], ◌∷◌, length, get_or, refl, sym, ap, ◌∙◌, subst, arith, Option, Some, None, IsSome, All, Contains}
use Rattle.std.specs.List.{AllPairs, AllByRecursion}
use Rattle.std.proofs.lemmas.List.Elements.{All-from_recursion}
use Rattle.std.proofs.lemmas.List.{get_or_default}
use Rattle.cc_ltl.specs.declared.operation.Operation.{Operation}
use Rattle.cc_ltl.specs.declared.operation.Operation.TheVariants.{Nop, Const, Unary, Binary, Load, Store, Call, Read, Write, Branch, Return}
use Rattle.cc_ltl.specs.declared.block.Block.{Block}
use Rattle.cc_ltl.specs.Ltl.{Ltl, Ascend, block_at}
use Rattle.cc_validate.specs.Pair as above
use Rattle.cc_validate.specs.Pair.{Leads, next_labels}
use Rattle.cc_linear_language.specs.declared.item.LinearItem.{LinearItem}
use Rattle.cc_linear.specs.Targets.{targets, NoneIdle}
use Rattle.cc_linear_language.specs.Pair.{IsPair}
use Rattle.cc_linear.specs.internal.Lays.{next}
use Rattle.cc_linear.specs.internal.Layout.{has_none, is_nop, is_empty, leads, laid, linear_code, AreEnds, IsOrder}
use Rattle.cc_linear.specs.internal.Ends.{HasEnds, HasEndsBy}
use Rattle.cc_linear.specs.internal.Reached.{Ways, WaysBelow, InGraph, IsClosed}
use Rattle.cc_linear.specs.internal.Places.{AreLabels, LeadsIn, AllLeadIn, labels_of, place_in, next_place, next_places, end_place, end_in, ways_of, graph_of, labels_at}
use Rattle.cc_linear.specs.internal.Idle.{kept}
use Rattle.cc_linear.specs.internal.Whole.{IsMadeOf}
use Rattle.cc_linear.proofs.ByPlace.{labels_long, rising, first_place, stands, place_inside, block_there, nexts_long, are_ends, is_order}
use Rattle.cc_linear.proofs.WithoutLabels.{none_idle}
use Rattle.cc_linear.proofs.Pairs.{pair_of, kept_pair}

pub are_labels : (blocks : List Block) → Ascend blocks → AreLabels (labels_of blocks)
are_labels blocks up = record { rising = rising blocks up; first = first_place blocks up }

-- ---- there are labels wherever blocks lead

some_label : (blocks : List Block) (l : ℕ) → IsSome (block_at blocks l) → Contains (labels_of blocks) l
some_label blocks l some = by (block_at blocks l) refl some
  where
    by : (o : Option Block) → block_at blocks l ≡ o → IsSome o → Contains (labels_of blocks) l
    by None e some = absurd (cc)
    by (Some b) e some =
        let s = stands blocks l b e in
        let long = labels_long blocks in
        let low = s.inside in
        let inside : place_in (labels_of blocks) l < length (labels_of blocks) = omega arith in
        (place_in (labels_of blocks) l, inside, get_or_default (labels_of blocks) (place_in (labels_of blocks) l) l 0 inside ∙ s.label_is)

first_of : (xs : List ℕ) (x : ℕ) → Contains (x ∷ xs) x
first_of xs x = (0, (let z : 0 < suc (length xs) = omega arith in z), refl)

second_of : (x y : ℕ) → Contains (x ∷ y ∷ []) y
second_of x y = (1, (let z : 1 < 2 = omega arith in z), refl)

successors_lead : (labels : List ℕ) (op : Operation) → ((n : ℕ) → Contains (next_labels op) n → Contains labels n) → LeadsIn labels op
successors_lead labels (Nop n) f = f n (first_of [] n)
successors_lead labels (Const to word n) f = f n (first_of [] n)
successors_lead labels (Unary operator to from n) f = f n (first_of [] n)
successors_lead labels (Binary operator to left right n) f = f n (first_of [] n)
successors_lead labels (Load width object to index n) f = f n (first_of [] n)
successors_lead labels (Store width object index from n) f = f n (first_of [] n)
successors_lead labels (Call function n) f = f n (first_of [] n)
successors_lead labels (Read n) f = f n (first_of [] n)
successors_lead labels (Write n) f = f n (first_of [] n)
successors_lead labels (Branch from taken other) f = (f taken (first_of (other ∷ []) taken), f other (second_of taken other))
successors_lead labels Return f = tt

all_by_place : (labels : List ℕ) (bs : List Block) → ((i : ℕ) (d : Block) → i < length bs → LeadsIn labels (get_or bs i d).operation) → AllLeadIn labels bs
all_by_place labels [] f = tt
all_by_place labels (b ∷ bs) f = (f 0 b (let z : 0 < suc (length bs) = omega arith in z), all_by_place labels bs (λ i d lt. f (suc i) d (let z : suc i < suc (length bs) = omega arith in z)))

pub all_lead : (ltl : Ltl) → Ascend ltl.blocks → Leads ltl → AllLeadIn (labels_of ltl.blocks) ltl.blocks
all_lead ltl up leads =
    let labels = labels_of ltl.blocks in
    let long = labels_long ltl.blocks in
    all_by_place labels ltl.blocks (λ i d lt.
    successors_lead labels (get_or ltl.blocks i d).operation (λ n c.
    some_label ltl.blocks n (leads (get_or labels i 0) (get_or ltl.blocks i d) n (block_there labels ltl.blocks i d refl (are_labels ltl.blocks up) (omega arith)) c).0))

-- ---- the places in the tables are places of blocks

nop_next : (labels : List ℕ) (op : Operation) → is_nop op ≡ true → LeadsIn labels op → Contains labels (next op)
nop_next labels (Nop n) e h = h
nop_next labels (Const to word n) e h = h
nop_next labels (Unary operator to from n) e h = h
nop_next labels (Binary operator to left right n) e h = h
nop_next labels (Load width object to index n) e h = h
nop_next labels (Store width object index from n) e h = h
nop_next labels (Call function n) e h = h
nop_next labels (Read n) e h = h
nop_next labels (Write n) e h = h
nop_next labels (Branch from taken other) e h = h.0
nop_next labels Return e h = absurd (let z : false ≡ true = e in cc)

first_of_both : (a b : Bool) → (a && b) ≡ true → a ≡ true
first_of_both true b e = refl
first_of_both false b e = absurd (let z : false ≡ true = e in cc)

empty_nop : (block : Block) → is_empty block ≡ true → is_nop block.operation ≡ true
empty_nop block e = first_of_both (is_nop block.operation) (has_none block.before && has_none block.after) e

next_inside : (labels : List ℕ) (place : ℕ) (block : Block) → LeadsIn labels block.operation → place < length labels → next_place labels place block < length labels
next_inside labels place block h lt = by (is_empty block) refl
  where
    by : (t : Bool) → is_empty block ≡ t → cond t (place_in labels (next block.operation)) place < length labels
    by true e = place_inside labels (next block.operation) (nop_next labels block.operation (empty_nop block e) h)
    by false e = lt

nexts_by : (labels : List ℕ) (from : ℕ) (bs : List Block) → AllLeadIn labels bs → from + length bs ≤ length labels → AllByRecursion (λ p. p < length labels) (next_places labels from bs)
nexts_by labels from [] h le = tt
nexts_by labels from (b ∷ bs) h le = (next_inside labels from b h.0 (omega arith), nexts_by labels (suc from) bs h.1 (omega arith))

pub nexts_inside : (labels nexts : List ℕ) (blocks : List Block) → labels ≡ labels_of blocks → nexts ≡ next_places labels 0 blocks → AllLeadIn labels blocks → All (λ n. n < length nexts) nexts
nexts_inside labels nexts blocks same are leads =
    let long = nexts_long labels 0 blocks in
    let many = labels_long blocks in
    let as_many = ap length same in
    let nexts_many = ap length are in
    let e : length labels ≡ length nexts = omega arith in
    let all = All-from_recursion (λ p. p < length labels) (next_places labels 0 blocks) (nexts_by labels 0 blocks leads (omega arith)) in
    subst (λ n. All (λ p. p < n) nexts) e (subst (All (λ p. p < length labels)) (sym are) all)

end_inside : (labels ends : List ℕ) (l : ℕ) → length ends ≡ length labels → All (λ e. e < length labels) ends → Contains labels l → end_place labels ends l < length labels
end_inside labels ends l long inside c = let low = place_inside labels l c in inside (place_in labels l) 0 (omega arith)

ways_below : (labels ends : List ℕ) (op : Operation) → length ends ≡ length labels → All (λ e. e < length labels) ends → LeadsIn labels op → WaysBelow (length labels) (ways_of labels ends op)
ways_below labels ends (Nop n) long inside h = end_inside labels ends n long inside h
ways_below labels ends (Const to word n) long inside h = end_inside labels ends n long inside h
ways_below labels ends (Unary operator to from n) long inside h = end_inside labels ends n long inside h
ways_below labels ends (Binary operator to left right n) long inside h = end_inside labels ends n long inside h
ways_below labels ends (Load width object to index n) long inside h = end_inside labels ends n long inside h
ways_below labels ends (Store width object index from n) long inside h = end_inside labels ends n long inside h
ways_below labels ends (Call function n) long inside h = end_inside labels ends n long inside h
ways_below labels ends (Read n) long inside h = end_inside labels ends n long inside h
ways_below labels ends (Write n) long inside h = end_inside labels ends n long inside h
ways_below labels ends (Branch from taken other) long inside h = (end_inside labels ends taken long inside h.0, end_inside labels ends other long inside h.1)
ways_below labels ends Return long inside h = tt

graph_by : (labels ends : List ℕ) (bs : List Block) → length ends ≡ length labels → All (λ e. e < length labels) ends → AllLeadIn labels bs → AllByRecursion (WaysBelow (length labels)) (graph_of labels ends bs)
graph_by labels ends [] long inside h = tt
graph_by labels ends (b ∷ bs) long inside h = (ways_below labels ends b.operation long inside h.0, graph_by labels ends bs long inside h.1)

graph_long : (labels ends : List ℕ) (bs : List Block) → length (graph_of labels ends bs) ≡ length bs
graph_long labels ends [] = refl
graph_long labels ends (b ∷ bs) = ap suc (graph_long labels ends bs)

pub graph_as_long : (labels ends : List ℕ) (graph : List Ways) (blocks : List Block) → labels ≡ labels_of blocks → graph ≡ graph_of labels ends blocks → length graph ≡ length labels
graph_as_long labels ends graph blocks same are = ap length are ∙ graph_long labels ends blocks ∙ sym (labels_long blocks) ∙ sym (ap length same)

pub in_graph : (labels ends : List ℕ) (graph : List Ways) (blocks : List Block) → labels ≡ labels_of blocks → length ends ≡ length labels → All (λ e. e < length labels) ends → AllLeadIn labels blocks → graph ≡ graph_of labels ends blocks → InGraph graph
in_graph labels ends graph blocks same long inside leads are =
    let all = All-from_recursion (WaysBelow (length labels)) (graph_of labels ends blocks) (graph_by labels ends blocks long inside leads) in
    subst (λ n. All (WaysBelow n) graph) (sym (graph_as_long labels ends graph blocks same are)) (subst (All (WaysBelow (length labels))) (sym are) all)

pub entry_inside : (labels ends : List ℕ) (graph : List Ways) (blocks : List Block) (entry place : ℕ) → labels ≡ labels_of blocks → length ends ≡ length labels → All (λ e. e < length labels) ends → graph ≡ graph_of labels ends blocks
    → Contains labels entry → place ≡ end_place labels ends entry → place < length graph
entry_inside labels ends graph blocks entry place same long inside are c is =
    let low = end_inside labels ends entry long inside c in
    let e = graph_as_long labels ends graph blocks same are in
    omega arith

pub ends_long : (labels nexts table ends : List ℕ) (blocks : List Block) → labels ≡ labels_of blocks → nexts ≡ next_places labels 0 blocks → length table ≡ length nexts → ends ≡ table → length ends ≡ length labels
ends_long labels nexts table ends blocks same are long is = ap length is ∙ long ∙ ap length are ∙ nexts_long labels 0 blocks ∙ sym (labels_long blocks) ∙ sym (ap length same)

pub ends_within : (labels nexts table ends : List ℕ) (blocks : List Block) → labels ≡ labels_of blocks → nexts ≡ next_places labels 0 blocks → All (λ e. e < length nexts) table → ends ≡ table → All (λ e. e < length labels) ends
ends_within labels nexts table ends blocks same are inside is =
    let e : length nexts ≡ length labels = ap length are ∙ nexts_long labels 0 blocks ∙ sym (labels_long blocks) ∙ sym (ap length same) in
    subst (λ n. All (λ p. p < n) ends) e (subst (All (λ p. p < length nexts)) (sym is) inside)

-- ---- the facts about a function's own blocks, for its labels as a slice has them

pub labels_here : (ltl : Ltl) (labels : List ℕ) (blocks : List Block) → Ascend ltl.blocks → blocks ≡ ltl.blocks → labels ≡ labels_of blocks → AreLabels labels
labels_here ltl labels blocks up b l = subst AreLabels (sym (l ∙ ap labels_of b)) (are_labels ltl.blocks up)

pub leads_here : (ltl : Ltl) (labels : List ℕ) (blocks : List Block) → Ascend ltl.blocks → Leads ltl → blocks ≡ ltl.blocks → labels ≡ labels_of blocks → AllLeadIn labels blocks
leads_here ltl labels blocks up leads b l = subst (λ ls. AllLeadIn ls blocks) (sym (l ∙ ap labels_of b)) (subst (AllLeadIn (labels_of ltl.blocks)) (sym b) (all_lead ltl up leads))

pub entry_here : (ltl : Ltl) (labels : List ℕ) (blocks : List Block) (entry : ℕ) → IsSome (block_at ltl.blocks ltl.entry) → blocks ≡ ltl.blocks → labels ≡ labels_of blocks → entry ≡ ltl.entry → Contains labels entry
entry_here ltl labels blocks entry begins b l e = subst (Contains labels) (sym e) (subst (λ ls. Contains ls ltl.entry) (sym (l ∙ ap labels_of b)) (some_label ltl.blocks ltl.entry begins))

-- ---- the whole

pub made_of : (ltl : Ltl) (labels nexts ends : List ℕ) (graph : List Ways) (order : List ℕ) (code items : List LinearItem)
    → Ascend ltl.blocks → labels ≡ labels_of ltl.blocks → nexts ≡ next_places labels 0 ltl.blocks → HasEnds nexts ends → graph ≡ graph_of labels ends ltl.blocks
    → AllPairs (λ (a b : ℕ). a ≡ b → ⊥) order → All (λ l. l < length graph) order → Contains order (end_place labels ends ltl.entry) → IsClosed graph order
    → code ≡ leads (end_in labels ends ltl.entry) (labels_at labels order) (laid ltl.blocks (end_in labels ends) (labels_at labels order)) → items ≡ kept (targets code) code → IsMadeOf ltl items
made_of ltl labels nexts ends graph order code items up same nexts_are (far, most, has) graph_is distinct inside entry closed code_is items_are =
    let own = labels_of ltl.blocks in
    let ends_of : AreEnds ltl (end_in own ends) (λ l. far (place_in own l)) most =
    are_ends ltl ends far most (subst (λ xs. HasEndsBy xs ends far most) (nexts_are ∙ ap (λ ls. next_places ls 0 ltl.blocks) same) has) in
    let graph_own : graph ≡ graph_of own ends ltl.blocks = graph_is ∙ ap (λ ls. graph_of ls ends ltl.blocks) same in
    let many : length graph ≡ length ltl.blocks = ap length graph_own ∙ graph_long own ends ltl.blocks in
    let ordered : IsOrder ltl (end_in own ends) (labels_at own order) =
    is_order ltl ends up order distinct (subst (λ n. All (λ l. l < n) order) many inside) (subst (λ ls. Contains order (end_place ls ends ltl.entry)) same entry) (subst (λ g. IsClosed g order) graph_own closed) in
    let code_own : code ≡ linear_code ltl (end_in own ends) (labels_at own order) = code_is ∙ ap (λ ls. linear_code ltl (end_in ls ends) (labels_at ls order)) same in
    record {
      end = end_in own ends;
      far = λ l. far (place_in own l);
      most = most;
      order = labels_at own order;
      ends = ends_of;
      ordered = ordered;
      made = items_are ∙ ap (λ xs. kept (targets xs) xs) code_own;
    }

-- the code that is made from a pair's function is the code of a pair
pub pair_made : (p : above.Pair) (items : List LinearItem) → above.IsPair p → IsMadeOf p.ltl items → IsPair (record { mode = p.mode; unit = p.unit; function = p.function; ltl = p.ltl; code = items })
pair_made p items is m =
    let first = pair_of p m.end m.far m.most m.order is m.ends m.ordered in
    subst (λ xs. IsPair (record { mode = p.mode; unit = p.unit; function = p.function; ltl = p.ltl; code = xs })) (sym m.made) (kept_pair (record { mode = p.mode; unit = p.unit; function = p.function; ltl = p.ltl; code = linear_code p.ltl m.end m.order }) first)

pub made_without : (ltl : Ltl) (items : List LinearItem) → IsMadeOf ltl items → NoneIdle items
made_without ltl items m = subst NoneIdle (sym m.made) (none_idle (linear_code ltl m.end m.order))
