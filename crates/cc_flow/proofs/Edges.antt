-- One more edge in both directions.
use Rattle.std.proofs.Common.{◌≡◌, ℕ, zero, suc, ◌<◌, List, [], ◌∷◌, ◌++◌, refl, sym, ap, ◌∙◌, subst, ◌⊎◌, inl, inr, ◌≢◌, length, set, get_or, All, Contains, arith}
use Rattle.smallvec.specs.SmallVec.{SmallVec}
use Rattle.std.proofs.lemmas.Bool.{cases_eq}
use Rattle.std.proofs.lemmas.List.{get_or-set_same, get_or-set_other, length-set, set-get_or}
use Rattle.std.proofs.lemmas.List.Elements.{All-set, All-push, All-get_or, Contains-append_left, Contains-push, Contains-push_cases}
use Rattle.cc_flow.specs.Flow.{successors_of, rows_of}
use Rattle.cc_flow.specs.internal.Edges.{AreEdges}

-- the items of a row are its list of successors
pub row_is : (rows : List (SmallVec ℕ)) (i : ℕ) (d : SmallVec ℕ) → i < length rows → (get_or rows i d).items ≡ successors_of (rows_of rows) i
row_is [] i d h = absurd (omega arith)
row_is (row ∷ rows) zero d h = refl
row_is (row ∷ rows) (suc i) d h = row_is rows i d (omega arith)

-- setting one row sets its list of successors
pub row_set : (rows : List (SmallVec ℕ)) (at : ℕ) (new : SmallVec ℕ) (row : List ℕ) → new.items ≡ row → rows_of (set rows at new) ≡ set (rows_of rows) at row
row_set rows at new row h = map-set' rows at new ∙ ap (set (rows_of rows) at) h
  where
    map-set' : (rs : List (SmallVec ℕ)) (i : ℕ) (v : SmallVec ℕ) → rows_of (set rs i v) ≡ set (rows_of rs) i v.items
    map-set' [] i v = refl
    map-set' (r ∷ rs) zero v = refl
    map-set' (r ∷ rs) (suc i) v = ap (λ xs. r.items ∷ xs) (map-set' rs i v)

-- setting a row to what it was changes nothing
pub row_kept : (rows : List (SmallVec ℕ)) (at : ℕ) (new : SmallVec ℕ) → new.items ≡ successors_of (rows_of rows) at → rows_of (set rows at new) ≡ rows_of rows
row_kept rows at new h = row_set rows at new (successors_of (rows_of rows) at) h ∙ set-get_or (rows_of rows) at []

-- a row with one more node
abbrev pub more_in : List (List ℕ) → (at node : ℕ) → List (List ℕ)
more_in rows at node = set rows at (successors_of rows at ++ node ∷ [])

-- what was in a row is still there
still_in : (rows : List (List ℕ)) (at node i x : ℕ) → at < length rows → Contains (successors_of rows i) x → Contains (successors_of (more_in rows at node) i) x
still_in rows at node i x h c = go (cases_eq i at)
  where
    new : List ℕ
    new = successors_of rows at ++ node ∷ []

    go : (i ≡ at) ⊎ (i ≢ at) → Contains (successors_of (more_in rows at node) i) x
    go (inl e) =
        let same : successors_of (more_in rows at node) i ≡ new = ap (λ k. successors_of (more_in rows at node) k) e ∙ get_or-set_same rows at new [] h in
        subst (λ r. Contains r x) (sym same) (Contains-append_left (successors_of rows at) (node ∷ []) x (subst (λ k. Contains (successors_of rows k) x) e c))
    go (inr n) = subst (λ r. Contains r x) (sym (get_or-set_other rows at i new [] n)) c

-- a node that was added to a row is in it
put_in : (rows : List (List ℕ)) (at node : ℕ) → at < length rows → Contains (successors_of (more_in rows at node) at) node
put_in rows at node h = subst (λ r. Contains r node) (sym (get_or-set_same rows at (successors_of rows at ++ node ∷ []) [] h)) (Contains-push (successors_of rows at) node)

-- nothing else in the rows is new
only_more : (rows : List (List ℕ)) (at node i x : ℕ) → at < length rows → Contains (successors_of (more_in rows at node) i) x → Contains (successors_of rows i) x ⊎ ((i ≡ at) × (node ≡ x))
only_more rows at node i x h c = go (cases_eq i at)
  where
    new : List ℕ
    new = successors_of rows at ++ node ∷ []

    go : (i ≡ at) ⊎ (i ≢ at) → Contains (successors_of rows i) x ⊎ ((i ≡ at) × (node ≡ x))
    go (inl e) =
        let same : successors_of (more_in rows at node) i ≡ new = ap (λ k. successors_of (more_in rows at node) k) e ∙ get_or-set_same rows at new [] h in
        elim (Contains-push_cases (successors_of rows at) node x (subst (λ r. Contains r x) same c)) [ inl old ↦ inl (subst (λ k. Contains (successors_of rows k) x) (sym e) old) | inr is ↦ inr (e, is) ]
    go (inr n) = inl (subst (λ r. Contains r x) (get_or-set_other rows at i new [] n) c)

-- after one more node is added, the rows still have only nodes
nodes_more : (n : ℕ) (rows : List (List ℕ)) (at node : ℕ) → at < length rows → node < n → All (λ row. All (λ x. x < n) row) rows → All (λ row. All (λ x. x < n) row) (more_in rows at node)
nodes_more n rows at node h lt all =
    let P : List ℕ → Type 0 = λ row. All (λ x. x < n) row in
    All-set P rows at (successors_of rows at ++ node ∷ []) (All-push (λ x. x < n) (successors_of rows at) node (All-get_or P rows at [] h all) lt) all

-- one more predecessor may be noted
pub with_predecessor : (successors predecessors : List (List ℕ)) (from to : ℕ) → from < length successors → to < length successors → AreEdges successors predecessors → AreEdges successors (more_in predecessors to from)
with_predecessor successors predecessors from to f t e =
    let within : to < length predecessors = let r = e.rows in omega arith in
    record {
      rows = length-set predecessors to _ ∙ e.rows;
      graph = e.graph;
      nodes = nodes_more (length successors) predecessors to from within f e.nodes;
      leads = λ p s h. still_in predecessors to from s p within (e.leads p s h);
    }

-- an edge may be added in both directions
pub with_edge : (successors predecessors : List (List ℕ)) (from to : ℕ) → from < length successors → to < length successors → AreEdges successors predecessors → AreEdges (more_in successors from to) (more_in predecessors to from)
with_edge successors predecessors from to f t e =
    let half = with_predecessor successors predecessors from to f t e in
    let within : to < length predecessors = let r = e.rows in omega arith in
    let long : length successors ≡ length (more_in successors from to) = sym (length-set successors from _) in
    record {
      rows = half.rows ∙ long;
      graph = subst (λ n. All (λ row. All (λ x. x < n) row) (more_in successors from to)) long (nodes_more (length successors) successors from to f t e.graph);
      nodes = subst (λ n. All (λ row. All (λ x. x < n) row) (more_in predecessors to from)) long half.nodes;
      leads = λ p s h. elim (only_more successors from to p s f h) [ inl old ↦ half.leads p s old | inr new ↦ subst (λ k. Contains (successors_of (more_in predecessors to from) k) p) new.1 (subst (λ k. Contains (successors_of (more_in predecessors to from) to) k) (sym new.0) (put_in predecessors to from within)) ];
    }
