-- Nodes by their positions, and the rows of their graph.
use Rattle.std.proofs.Common.{◌++◌, set, map, replicate, append_assoc, ◌≡◌, ◌≢◌, ℕ, zero, suc, ◌+◌, ◌<◌, ◌≤◌, length, List, [], ◌∷◌, get_or, refl, sym, ap, ◌∙◌, subst, Bool, true, false, ◌==◌, if◌then◌else◌, arith, inl, inr, Contains, All}
use Rattle.std.specs.Prelude.{Option, Some, None, IsSome, slice_get, option_map, MatchOption}
use Rattle.std.proofs.lemmas.Bool.{cases_eq}
use Rattle.std.proofs.lemmas.List.{get_or-set_same, get_or-set_other, length-set, set-set, ext_get_or, get_or-map, length-map, length-replicate}
use Rattle.std.proofs.lemmas.List.Elements.{All-from_get_or, All-weaker, All-contains_itself}
use Rattle.std.proofs.lemmas.Option.{same_Some, slice_get-get_or, slice_get_within, get_or_from_slice_get}
use Rattle.std.proofs.lemmas.Bool.Decides.{Decides-eqb, nat_tests}
use Rattle.cc_rtl_language.specs.Rtl as rtl
use Rattle.cc_rtl_language.specs.Rtl.{Rtl, Ascend, IsBelowFirst, IsRtl, node_at, successors}
use Rattle.cc_rtl_language.specs.Code.{node_of, labelled_of}
use Rattle.cc_rtl_language.specs.declared.node.Node.{Node}
use Rattle.cc_instr_list.specs.List.{Entry, item_at}
use Rattle.cc_rtl_language.specs.Positions.{position_of, graph_of, AreNumbered}
use Rattle.cc_rtl_language.specs.internal.Leading.{LeadInside}

pub if_true : {X : Type 0} (b : Bool) (x y : X) → b ≡ true → (if b then x else y) ≡ x
if_true b x y h = rw h

pub if_false : {X : Type 0} (b : Bool) (x y : X) → b ≡ false → (if b then x else y) ≡ y
if_false b x y h = rw h

pub same_test : (a b : ℕ) → a ≡ b → (a == b) ≡ true
same_test a b e = grind (arith, nat_tests)

pub other_test : (a b : ℕ) → a ≢ b → (a == b) ≡ false
other_test a b n = grind (arith, nat_tests)

-- ---- the nodes in the code's values

abbrev pub labelled : Entry Node → rtl.Labelled
labelled n = record { label = n.label; node = node_of n.item }

pub length_labelled : (ns : List (Entry Node)) → length (labelled_of ns) ≡ length ns
length_labelled [] = refl
length_labelled (n ∷ ns) = ap suc (length_labelled ns)

-- the node at a label is the one that the list has under that label
pub node_of_label : (es : List (Entry Node)) (l : ℕ) → node_at (labelled_of es) l ≡ option_map node_of (item_at l es)
node_of_label [] l = refl
node_of_label (e ∷ es) l =
    elim (e.label == l) as (λ t. (if t then Some (node_of e.item) else node_at (labelled_of es) l) ≡ option_map node_of (if t then Some e.item else item_at l es)) [ true ↦ refl | false ↦ node_of_label es l ]

pub item_there : (es : List (Entry Node)) (l : ℕ) → IsSome (node_at (labelled_of es) l) → IsSome (item_at l es)
item_there es l h = elim (item_at l es) as (λ o. IsSome (option_map node_of o) → IsSome o) [ None ↦ λ f. f | Some x ↦ λ f. refl ] (subst (λ (o : Option rtl.Node). IsSome o) (node_of_label es l) h)

-- ---- the position of a label

below_all : (ns : List rtl.Labelled) (label j : ℕ) (d : rtl.Labelled) → IsBelowFirst label ns → Ascend ns → j < length ns → label < (get_or ns j d).label
below_all [] label j d b a h = absurd (omega arith)
below_all (n ∷ ns) label zero d b a h = b
below_all (n ∷ ns) label (suc j) d b a h = let more = below_all ns n.label j d a.0 a.1 (omega arith) in omega arith

pub ascend_at : (ns : List rtl.Labelled) (i j : ℕ) (d : rtl.Labelled) → Ascend ns → i < j → j < length ns → (get_or ns i d).label < (get_or ns j d).label
ascend_at [] i j d a l h = absurd (omega arith)
ascend_at (n ∷ ns) i zero d a l h = absurd (omega arith)
ascend_at (n ∷ ns) zero (suc j) d a l h = below_all ns n.label j d a.0 a.1 (omega arith)
ascend_at (n ∷ ns) (suc i) (suc j) d a l h = ascend_at ns i j d a.1 (omega arith) (omega arith)

pub position_is : (ns : List rtl.Labelled) (label : ℕ) (d : rtl.Labelled) → IsSome (node_at ns label) → (position_of ns label < length ns) × ((get_or ns (position_of ns label) d).label ≡ label)
position_is [] label d h = absurd cc
position_is (n ∷ ns) label d h = go (n.label == label) refl h (position_is ns label d)
  where
    go : (b : Bool) → (n.label == label) ≡ b → IsSome (if b then Some n.node else node_at ns label)
        → (IsSome (node_at ns label) → (position_of ns label < length ns) × ((get_or ns (position_of ns label) d).label ≡ label))
        → ((if b then 0 else suc (position_of ns label)) < suc (length ns)) × ((get_or (n ∷ ns) (if b then 0 else suc (position_of ns label)) d).label ≡ label)
    go true p s more = (omega arith, (Decides-eqb n.label label).0 p)
    go false p s more = let m = more s in (let l = m.0 in omega arith, m.1)

-- ---- numbered labels

pub numbered_at : (ns : List rtl.Labelled) (from i : ℕ) (d : rtl.Labelled) → AreNumbered from ns → i < length ns → (get_or ns i d).label ≡ from + i
numbered_at [] from i d a h = absurd (omega arith)
numbered_at (n ∷ ns) from zero d a h = let e = a.0 in omega arith
numbered_at (n ∷ ns) from (suc i) d a h = let e = numbered_at ns (suc from) i d a.1 (omega arith) in omega arith

-- a label is its position
pub position_is_label : (ns : List rtl.Labelled) (label : ℕ) → AreNumbered 0 ns → IsSome (node_at ns label) → (label ≡ position_of ns label) × (label < length ns)
position_is_label ns label a h =
    let d : rtl.Labelled = record { label = 0; node = rtl.Return 0 } in
    let p = position_is ns label d h in
    let n = numbered_at ns 0 (position_of ns label) d a p.0 in
    (omega (arith, p.1, n), omega (arith, p.0, p.1, n))

-- the node at a position is under that label
pub numbered_node : (ns : List rtl.Labelled) (from i : ℕ) → AreNumbered from ns → i < length ns → (node : rtl.Node) × (node_at ns (from + i) ≡ Some node) × (slice_get ns i ≡ Some (record { label = from + i; node = node }))
numbered_node [] from i a h = absurd (omega arith)
numbered_node (n ∷ ns) from zero a h =
    let e : n.label ≡ from + 0 = (let q = a.0 in omega arith) in
    (n.node, if_true (n.label == (from + 0)) (Some n.node) (node_at ns (from + 0)) (same_test n.label (from + 0) e), ap (λ (l : ℕ). Some (record { label = l; node = n.node })) e)
numbered_node (n ∷ ns) from (suc i) a h =
    let r = numbered_node ns (suc from) i a.1 (omega arith) in
    let on : suc from + i ≡ from + suc i = omega arith in
    let q = a.0 in
    let other = if_false (n.label == (from + suc i)) (Some n.node) (node_at ns (from + suc i)) (other_test n.label (from + suc i) (λ e. absurd (omega arith))) in
    (r.0, other ∙ ap (node_at ns) (sym on) ∙ r.1, r.2 ∙ ap (λ (l : ℕ). Some (record { label = l; node = r.0 })) on)

pub numbered_there : (ns : List rtl.Labelled) (i : ℕ) → AreNumbered 0 ns → i < length ns → IsSome (node_at ns i)
numbered_there ns i a h =
    let r = numbered_node ns 0 i a h in
    let on : 0 + i ≡ i = omega arith in
    subst (λ (o : Option rtl.Node). IsSome o) (sym (ap (node_at ns) (sym on) ∙ r.1)) refl

-- what the list of nodes has under a label is the node at the position
pub at_position : {A : Type 0} (item : A → Node) (r : Option A) (es : List (Entry Node)) (ns : List rtl.Labelled) (i : ℕ) → labelled_of es ≡ ns → AreNumbered 0 ns → i < length es → MatchOption r (item_at i es ≡ None) (λ x. item_at i es ≡ Some (item x))
    → MatchOption r (length ns ≤ i) (λ x. slice_get ns i ≡ Some (record { label = i; node = node_of (item x) }))
at_position {A = A} item r es ns i e a lt m = go r m
  where
    on : 0 + i ≡ i
    on = omega arith

    k : (node : rtl.Node) × (node_at ns (0 + i) ≡ Some node) × (slice_get ns i ≡ Some (record { label = 0 + i; node = node }))
    k = numbered_node ns 0 i a (let l = length_labelled es in let q = ap (λ (xs : List rtl.Labelled). length xs) e in omega (arith, lt, l, q))

    there : option_map node_of (item_at i es) ≡ Some k.0
    there = sym (node_of_label es i) ∙ ap (λ (xs : List rtl.Labelled). node_at xs i) e ∙ ap (node_at ns) (sym on) ∙ k.1

    go : (o : Option A) → MatchOption o (item_at i es ≡ None) (λ x. item_at i es ≡ Some (item x)) → MatchOption o (length ns ≤ i) (λ x. slice_get ns i ≡ Some (record { label = i; node = node_of (item x) }))
    go None f = absurd (let z : None ≡ Some k.0 = sym (ap (option_map node_of) f) ∙ there in cc)
    go (Some x) f =
        let same : node_of (item x) ≡ k.0 = same_Some (node_of (item x)) k.0 (sym (ap (option_map node_of) f) ∙ there) in
        k.2 ∙ ap (λ (l : ℕ). Some (record { label = l; node = k.0 })) on ∙ ap (λ (n : rtl.Node). Some (record { label = i; node = n })) (sym same)

-- ---- what is at a label and at its position

pub placed : (ns : List rtl.Labelled) (l : ℕ) (node : rtl.Node) → node_at ns l ≡ Some node → (n : rtl.Labelled) × (slice_get ns (position_of ns l) ≡ Some n) × (n.node ≡ node) × (n.label ≡ l)
placed [] l node e = absurd cc
placed (n ∷ ns) l node e = go (n.label == l) refl e (placed ns l node)
  where
    go : (p : Bool) → (n.label == l) ≡ p → (if p then Some n.node else node_at ns l) ≡ Some node
        → (node_at ns l ≡ Some node → (m : rtl.Labelled) × (slice_get ns (position_of ns l) ≡ Some m) × (m.node ≡ node) × (m.label ≡ l))
        → (m : rtl.Labelled) × (slice_get (n ∷ ns) (if p then 0 else suc (position_of ns l)) ≡ Some m) × (m.node ≡ node) × (m.label ≡ l)
    go true t f rest = (n, refl, same_Some n.node node f, grind (arith, nat_tests, t))
    go false t f rest = rest f

-- a label without a node is past the end
pub past : (ns : List rtl.Labelled) (l : ℕ) → node_at ns l ≡ None → length ns ≤ position_of ns l
past [] l e = omega arith
past (n ∷ ns) l e = go (n.label == l) e (past ns l)
  where
    go : (p : Bool) → (if p then Some n.node else node_at ns l) ≡ None → (node_at ns l ≡ None → length ns ≤ position_of ns l) → suc (length ns) ≤ (if p then 0 else suc (position_of ns l))
    go true f rest = absurd cc
    go false f rest = let h = rest f in omega arith

above_rest : (l : ℕ) (n : rtl.Labelled) (ns : List rtl.Labelled) → l < n.label → IsBelowFirst n.label ns → IsBelowFirst l ns
above_rest l n [] below h = tt
above_rest l n (m ∷ ms) below h = omega arith

-- a label after the first of ascending ones differs from it
behind_first : (l : ℕ) (ns : List rtl.Labelled) (i : ℕ) (n : rtl.Labelled) → IsBelowFirst l ns → Ascend ns → slice_get ns i ≡ Some n → l < n.label
behind_first l [] i n below ascend e = absurd cc
behind_first l (m ∷ ns) zero n below ascend e = subst (λ (x : rtl.Labelled). l < x.label) (same_Some m n e) below
behind_first l (m ∷ ns) (suc i) n below ascend e = behind_first l ns i n (above_rest l m ns below ascend.0) ascend.1 e

-- the node at a position is the node at its label, and the position is that of the label
pub node_of_position : (ns : List rtl.Labelled) → Ascend ns → (i : ℕ) (n : rtl.Labelled) → slice_get ns i ≡ Some n → (node_at ns n.label ≡ Some n.node) × (position_of ns n.label ≡ i)
node_of_position [] ascend i n e = absurd cc
node_of_position (m ∷ ns) ascend zero n e =
    let same = same_Some m n e in
    let t = same_test m.label n.label (ap (λ (x : rtl.Labelled). x.label) same) in
    (if_true (m.label == n.label) (Some m.node) (node_at ns n.label) t ∙ ap (λ (x : rtl.Labelled). Some x.node) same, if_true (m.label == n.label) 0 (suc (position_of ns n.label)) t)
node_of_position (m ∷ ns) ascend (suc i) n e =
    let later = behind_first m.label ns i n ascend.0 ascend.1 e in
    let t = other_test m.label n.label (λ same. absurd (omega arith)) in
    let rest = node_of_position ns ascend.1 i n e in
    (if_false (m.label == n.label) (Some m.node) (node_at ns n.label) t ∙ rest.0, if_false (m.label == n.label) 0 (suc (position_of ns n.label)) t ∙ ap suc rest.1)

-- ---- rows of the graph

pub two_edges : (old new more : List (List ℕ)) (at p q : ℕ) → at < length old → new ≡ set old at (get_or old at [] ++ p ∷ []) → more ≡ set new at (get_or new at [] ++ q ∷ []) → more ≡ set old at (get_or old at [] ++ p ∷ q ∷ [])
two_edges old new more at p q h e f =
    let row : get_or new at [] ≡ get_or old at [] ++ p ∷ [] = ap (λ g. get_or g at []) e ∙ get_or-set_same old at (get_or old at [] ++ p ∷ []) [] h in
    f ∙ (ap (λ r. set new at (r ++ q ∷ [])) row ∙ (ap (λ g. set g at ((get_or old at [] ++ p ∷ []) ++ q ∷ [])) e ∙ (set-set old at (get_or old at [] ++ p ∷ []) ((get_or old at [] ++ p ∷ []) ++ q ∷ []) ∙ ap (set old at) (append_assoc (get_or old at []) (p ∷ []) (q ∷ [])))))

-- the first i rows are those of the graph `whole`, and the rest are empty
pub record Rows (whole rows : List (List ℕ)) (i : ℕ) : Type 0 where
  pub long : length rows ≡ length whole
  pub done : (k : ℕ) → k < i → get_or rows k [] ≡ get_or whole k []
  pub rest : (k : ℕ) → i ≤ k → get_or rows k [] ≡ []

pub row_more : (whole rows new : List (List ℕ)) (i : ℕ) → Rows whole rows i → i < length whole → new ≡ set rows i (get_or rows i [] ++ get_or whole i []) → Rows whole new (i + 1)
row_more whole rows new i r h e = record {
  long = ap length e ∙ (length-set rows i (get_or rows i [] ++ get_or whole i []) ∙ r.long);
  done = λ k l. elim (cases_eq k i) [ inl eq ↦ subst (λ j. get_or new j [] ≡ get_or whole j []) (sym eq) here | inr other ↦ elsewhere k other ∙ r.done k (grind arith) ];
  rest = λ k l. elsewhere k (λ eq. absurd (omega arith)) ∙ r.rest k (omega arith);
}
  where
    here : get_or new i [] ≡ get_or whole i []
    here = ap (λ g. get_or g i []) e ∙ (get_or-set_same rows i (get_or rows i [] ++ get_or whole i []) [] (let l = r.long in omega arith) ∙ ap (λ xs. xs ++ get_or whole i []) (r.rest i (omega arith)))

    elsewhere : (k : ℕ) → (k ≡ i → ⊥) → get_or new k [] ≡ get_or rows k []
    elsewhere k other = ap (λ g. get_or g k []) e ∙ get_or-set_other rows i k (get_or rows i [] ++ get_or whole i []) [] other

pub rows_done : (whole rows : List (List ℕ)) (i : ℕ) → Rows whole rows i → length whole ≤ i → rows ≡ whole
rows_done whole rows i r h = ext_get_or [] rows whole r.long (λ k l. r.done k (let m = r.long in omega arith))

pub no_rows : (whole : List (List ℕ)) (n : ℕ) → n ≡ length whole → Rows whole (replicate n []) 0
no_rows whole n e = record { long = length-replicate n [] ∙ e; done = λ k l. absurd (omega arith); rest = λ k l. empty n k }
  where
    empty : (m k : ℕ) → get_or (replicate {A = List ℕ} m []) k [] ≡ []
    empty zero k = refl
    empty (suc m) zero = refl
    empty (suc m) (suc k) = empty m k

-- ---- the graph of the nodes

pub long_graph : (ns : List rtl.Labelled) → length (graph_of ns) ≡ length ns
long_graph ns = length-map ns (λ (n : rtl.Labelled). map (position_of ns) (successors n.node))

pub row_of_graph : (ns : List rtl.Labelled) (i : ℕ) (n : rtl.Labelled) → slice_get ns i ≡ Some n → get_or (graph_of ns) i [] ≡ map (position_of ns) (successors n.node)
row_of_graph ns i n e =
    get_or-map (λ (m : rtl.Labelled). map (position_of ns) (successors m.node)) ns i n [] (slice_get_within ns i n e)
    ∙ ap (λ (m : rtl.Labelled). map (position_of ns) (successors m.node)) (get_or_from_slice_get ns i n n e)

-- each node of a function leads to nodes
pub lead_inside : (r : Rtl) → IsRtl r → LeadInside r.nodes r.nodes
lead_inside r is = All-from_get_or (λ (n : rtl.Labelled). All (λ s. IsSome (node_at r.nodes s)) (successors n.node)) r.nodes nobody (λ i within.
    let n = get_or r.nodes i nobody in
    let here = node_of_position r.nodes is.ascend i n (slice_get-get_or r.nodes i nobody within) in
    All-weaker (Contains (successors n.node)) (λ s. IsSome (node_at r.nodes s)) (λ s among. (is.leads n.label n.node s here.0 among).0) (successors n.node) (All-contains_itself (successors n.node)))
  where
    nobody : rtl.Labelled
    nobody = record { label = 0; node = rtl.Return 0 }
