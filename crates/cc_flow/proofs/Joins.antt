-- Joins up to equivalence, and facts that rise while they remain below every solution.
use Rattle.std.proofs.Common.{◌≡◌, ℕ, suc, ◌+◌, ◌*◌, ◌<◌, ◌≤◌, List, [], ◌∷◌, refl, sym, ap, ◌∙◌, subst, arith, Bool, true, false, ◌≢◌, length, set, ◌⊎◌, inl, inr, Contains}
use Rattle.std.proofs.lemmas.Bool.{cases_eq}
use Rattle.std.proofs.lemmas.List.{get_or-set_same, get_or-set_other}
use Rattle.std.proofs.Math.Nat.{suc-mul, mul-le-mul_right}
use Rattle.cc_flow.specs.Lattice.{Equivalent, IsLattice}
use Rattle.cc_flow.specs.Flow.{joined, carried, facts_at, successors_of, Solves, LiesUnder}
use Rattle.cc_flow.specs.internal.Waiting.{waits}
use Rattle.cc_flow.proofs.Queue.{others_wait}

module _ {F : Type 0} (below : F → F → Type 0) (bottom : F) (lub : F → F → F) (laws : IsLattice below bottom lub) where
  pub same_again : (x : F) → Equivalent below x x
  same_again x = (laws.reflexive x, laws.reflexive x)

  -- a join to which the facts of one more node are joined is the join with that node
  pub lub_more : (r x y s : F) → Equivalent below r (lub x s) → Equivalent below x y → Equivalent below r (lub s y)
  lub_more r x y s h e = (
    laws.transitive _ _ _ h.0 (laws.within x s (lub s y) (laws.transitive _ _ _ e.0 (laws.second s y)) (laws.first s y)),
    laws.within s y r (laws.transitive _ _ _ (laws.second x s) h.1) (laws.transitive _ _ _ e.1 (laws.transitive _ _ _ (laws.first x s) h.1)),
  )

  -- the join of a single node's facts is equivalent to these facts
  pub lub_alone : (x : F) → Equivalent below x (lub x bottom)
  lub_alone x = (laws.first x bottom, laws.within x bottom x (laws.reflexive x) (laws.least x))

  -- joins rise with the facts
  pub joined_up : (facts other : ℕ → F) → ((l : ℕ) → below (facts l) (other l)) → (ss : List ℕ) → below (joined bottom lub facts ss) (joined bottom lub other ss)
  joined_up facts other h [] = laws.reflexive bottom
  joined_up facts other h (s ∷ ss) = laws.within _ _ _ (laws.transitive _ _ _ (h s) (laws.first _ _)) (laws.transitive _ _ _ (joined_up facts other h ss) (laws.second _ _))

  -- the same facts at some nodes have the same join
  joined_same : (facts other : ℕ → F) (ss : List ℕ) → ((s : ℕ) → Contains ss s → facts s ≡ other s) → joined bottom lub facts ss ≡ joined bottom lub other ss
  joined_same facts other [] h = refl
  joined_same facts other (s ∷ ss) h =
      ap (λ x. lub x (joined bottom lub facts ss)) (h s (0, omega arith, refl))
      ∙ ap (lub (other s)) (joined_same facts other ss (λ x c. h x (suc c.0, (let l = c.1 in omega arith), c.2)))

  -- facts that rose, by something that is below a bound, remain below it
  pub rose_within : (old new r c z : F) → Equivalent below new (lub old r) → Equivalent below r c → below old z → below c z → below new z
  rose_within old new r c z h e under under' = laws.transitive _ _ _ h.0 (laws.within old r z under (laws.transitive _ _ _ e.0 under'))

  -- what was joined is below the result
  pub holds_joined : (old new r c : F) → Equivalent below new (lub old r) → Equivalent below r c → below c new
  holds_joined old new r c h e = laws.transitive _ _ _ e.1 (laws.transitive _ _ _ (laws.second old r) h.1)

  module _ (carries : ℕ → F → F) (monotone : (l : ℕ) (x y : F) → below x y → below (carries l x) (carries l y)) where
    pub carries_same : (l : ℕ) (r x y : F) → Equivalent below r (carries l x) → Equivalent below x y → Equivalent below r (carries l y)
    carries_same l r x y h e = (laws.transitive _ _ _ h.0 (monotone l x y e.0), laws.transitive _ _ _ (monotone l y x e.1) h.1)

    module _ (graph : List (List ℕ)) where
      -- what a node computes from facts below a solution is below the solution
      pub carried_within : (facts other : ℕ → F) → LiesUnder below facts other → Solves below bottom lub carries graph other → (l : ℕ) → l < length graph → below (carried bottom lub carries graph facts l) (other l)
      carried_within facts other h solves l i = laws.transitive _ _ _ (monotone l _ _ (joined_up facts other h (successors_of graph l))) (solves l i)

      pub raised_under : (facts : List F) (at : ℕ) (new : F) (other : ℕ → F) → at < length facts → LiesUnder below (facts_at bottom facts) other → below new (other at) → LiesUnder below (facts_at bottom (set facts at new)) other
      raised_under facts at new other within under here l = elim (cases_eq l at) [
        | inl e ↦ subst (λ k. below (facts_at bottom (set facts at new) k) (other k)) (sym e) (subst (λ x. below x (other at)) (sym (get_or-set_same facts at new bottom within)) here)
        | inr n ↦ subst (λ x. below x (other l)) (sym (get_or-set_other facts at l new bottom n)) (under l)
      ]

      -- a node is settled if what comes back to it is below its facts
      abbrev pub Settled : List F → ℕ → Type 0
      Settled facts l = below (carried bottom lub carries graph (facts_at bottom facts) l) (facts_at bottom facts l)

      -- each node waits or is settled
      abbrev pub IsDone : List Bool → List F → Type 0
      IsDone flags facts = (l : ℕ) → l < length graph → (waits flags l ≡ true) ⊎ Settled facts l

      -- a node that does not read the facts that rose is still settled
      settled_still : (facts : List F) (at : ℕ) (new : F) (l : ℕ) → (Contains (successors_of graph l) at → ⊥) → l ≢ at → Settled facts l → Settled (set facts at new) l
      settled_still facts at new l unread n settled =
          let same : joined bottom lub (facts_at bottom facts) (successors_of graph l) ≡ joined bottom lub (facts_at bottom (set facts at new)) (successors_of graph l)
          = joined_same (facts_at bottom facts) (facts_at bottom (set facts at new)) (successors_of graph l) (λ s c. sym (get_or-set_other facts at s new bottom (λ e. unread (subst (Contains (successors_of graph l)) e c)))) in
          let own : facts_at bottom facts l ≡ facts_at bottom (set facts at new) l = sym (get_or-set_other facts at l new bottom n) in
          subst (λ x. below (carries l x) (facts_at bottom (set facts at new) l)) same (subst (below (carried bottom lub carries graph (facts_at bottom facts) l)) own settled)

      settled_here : (facts : List F) (at : ℕ) (new : F) → at < length facts → (Contains (successors_of graph at) at → ⊥) → below (carried bottom lub carries graph (facts_at bottom facts) at) new → Settled (set facts at new) at
      settled_here facts at new within unread holds =
          let same : joined bottom lub (facts_at bottom facts) (successors_of graph at) ≡ joined bottom lub (facts_at bottom (set facts at new)) (successors_of graph at)
          = joined_same (facts_at bottom facts) (facts_at bottom (set facts at new)) (successors_of graph at) (λ s c. sym (get_or-set_other facts at s new bottom (λ e. unread (subst (Contains (successors_of graph at)) e c)))) in
          subst (λ x. below (carries at x) (facts_at bottom (set facts at new) at)) same (subst (below (carried bottom lub carries graph (facts_at bottom facts) at)) (sym (get_or-set_same facts at new bottom within)) holds)

      -- after a visit to a node that did not rise, each node still waits or is settled
      pub done_settled : (flags : List Bool) (facts : List F) (node : ℕ) → Settled facts node → IsDone flags facts → IsDone (set flags node false) facts
      done_settled flags facts node settled done l within = elim (cases_eq l node) [
        | inl e ↦ inr (subst (Settled facts) (sym e) settled)
        | inr n ↦ elim (done l within) [ inl w ↦ inl (others_wait flags node l n ∙ w) | inr s ↦ inr s ]
      ]

      -- after a node rose, each node waits or is settled, if all nodes that read the risen node wait
      pub done_risen : (flags flags' : List Bool) (facts : List F) (node : ℕ) (new : F) → node < length facts → below (carried bottom lub carries graph (facts_at bottom facts) node) new
          → ((l : ℕ) → waits (set flags node false) l ≡ true → waits flags' l ≡ true) → ((l : ℕ) → Contains (successors_of graph l) node → waits flags' l ≡ true)
          → IsDone flags facts → IsDone flags' (set facts node new)
      done_risen flags flags' facts node new at holds still woken done l within = go (waits flags' l) refl
        where
          go : (b : Bool) → waits flags' l ≡ b → (waits flags' l ≡ true) ⊎ Settled (set facts node new) l
          go true e = inl e
          go false e =
              let unread : Contains (successors_of graph l) node → ⊥ = λ c. (let w = woken l c in cc) in
              elim (cases_eq l node) [
                | inl same ↦ inr (subst (Settled (set facts node new)) (sym same) (settled_here facts node new at (subst (λ k. Contains (successors_of graph k) node → ⊥) same unread) holds))
                | inr n ↦ elim (done l within) [
                  | inl w ↦ absurd (let v = still l (others_wait flags node l n ∙ w) in cc)
                  | inr s ↦ inr (settled_still facts node new l unread n s)
                ]
              ]

      -- if no node waits, the facts are a solution
      pub solved : (flags : List Bool) (facts : List F) → ((l : ℕ) → waits flags l ≡ false) → IsDone flags facts → Solves below bottom lub carries graph (facts_at bottom facts)
      solved flags facts none done l within = elim (done l within) [ inl w ↦ absurd (let n = none l in cc) | inr s ↦ s ]

-- a rise pays for all nodes that wait after it
pub pays : (n s s' w w' : ℕ) → s' < s → w' ≤ n → s' * suc n + w' < s * suc n + w
pays n s s' w w' h few =
    let a : suc s' * suc n ≤ s * suc n = mul-le-mul_right (suc n) h in
    let b = suc-mul s' (suc n) in
    omega arith
