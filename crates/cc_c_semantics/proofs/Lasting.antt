-- A part of a run with more steps, and with a larger bound on its recursion. Three facts hold for each part: it only adds to the
-- output; a part that answers needs no more steps than it spends, and gives the same answer with any number more, for any bound;
-- and a part that had no step left continues, while one that went wrong goes wrong in the same way. This file shows them for the
-- ways in which parts are combined.
use Rattle.std.proofs.Common.{◌≡◌, ℕ, zero, suc, ◌+◌, ◌<◌, ◌≤◌, List, [], ◌++◌, Option, Some, None, refl, sym, ap, ◌∙◌, subst, arith, append_assoc, append-nil}
use Rattle.cc_c_semantics.specs.Meaning.{Local, State, Run, Gives, Going, Wrong, Flow, Falls, Breaks, Continues, Returns, then_do, choose, spend_of, behind_flow, behind_body, begin_body, turns, unless_decided}
use Rattle.cc_simulation.specs.Behavior.{IsPrefixOf}

-- the state `s` with `k` steps left
abbrev pub at : State → ℕ → State
at s k = record s { steps = k }

-- the output of a part of a run
abbrev pub written : {A : Type 0} → Run A → List ℕ
written (Gives x s) = s.output
written (Going output) = output
written (Wrong cause output) = output

-- ---- outputs that only grow

pub begins_refl : (xs : List ℕ) → IsPrefixOf xs xs
begins_refl xs = ([], append-nil xs)

pub begins_trans : (xs ys zs : List ℕ) → IsPrefixOf xs ys → IsPrefixOf ys zs → IsPrefixOf xs zs
begins_trans xs ys zs p q = (p.0 ++ q.0, sym (append_assoc xs p.0 q.0) ∙ ap (λ (l : List ℕ). l ++ q.0) p.1 ∙ q.1)

pub begins_then : {A C : Type 0} (o : List ℕ) (r : Run A) (rest : A → State → Run C) → IsPrefixOf o (written r)
    → ((x : A) (t : State) → IsPrefixOf t.output (written (rest x t))) → IsPrefixOf o (written (then_do r rest))
begins_then o (Gives x t) rest h f = begins_trans o t.output (written (rest x t)) h (f x t)
begins_then o (Going output) rest h f = h
begins_then o (Wrong cause output) rest h f = h

pub begins_choose : {A : Type 0} (w : ℕ) (holds fails : State → Run A) (s : State) → IsPrefixOf s.output (written (holds s))
    → IsPrefixOf s.output (written (fails s)) → IsPrefixOf s.output (written (choose w holds fails s))
begins_choose zero holds fails s p q = q
begins_choose (suc w) holds fails s p q = p

pub begins_spend : {A : Type 0} (k : ℕ) (go : State → Run A) (s : State) → ((u : State) → IsPrefixOf u.output (written (go u)))
    → IsPrefixOf s.output (written (spend_of k go s))
begins_spend zero go s f = begins_refl s.output
begins_spend (suc k) go s f = f (at s k)

pub begins_flow : (flow : Flow) (go : State → Run Flow) (s : State) → IsPrefixOf s.output (written (go s))
    → IsPrefixOf s.output (written (behind_flow flow go s))
begins_flow Falls go s h = h
begins_flow Breaks go s h = begins_refl s.output
begins_flow Continues go s h = begins_refl s.output
begins_flow (Returns w) go s h = begins_refl s.output

pub begins_body : (flow : Flow) (go : State → Run Flow) (s : State) → IsPrefixOf s.output (written (go s))
    → IsPrefixOf s.output (written (behind_body flow go s))
begins_body Falls go s h = h
begins_body Breaks go s h = begins_refl s.output
begins_body Continues go s h = h
begins_body (Returns w) go s h = begins_refl s.output

pub begins_begin : (body go : State → Run Flow) (s : State) → ((u : State) → IsPrefixOf u.output (written (body u)))
    → ((u : State) → IsPrefixOf u.output (written (go u))) → IsPrefixOf s.output (written (begin_body body go s))
begins_begin body go s f g =
    begins_spend s.steps (λ t. then_do (body t) (λ flow u. behind_body flow go u)) s
    (λ u. begins_then u.output (body u) (λ flow v. behind_body flow go v) (f u) (λ flow v. begins_body flow go v (g v)))

-- ---- the steps of a part of a run

-- A part gives r within k steps. At a bound b, `go b j` is that part within j steps; `Within j b` says that the bound is large
-- enough.
abbrev pub Lasts : {A B : Type 0} → (ℕ → B → Type 0) → ℕ → Run A → (B → ℕ → Run A) → Type 0
Lasts {A} {B} Within k (Gives x t) go =
    (spent : ℕ) × (k ≡ spent + t.steps) × ((j : ℕ) (b : B) → Within (spent + j) b → go b (spent + j) ≡ Gives x (at t j))
Lasts {A} {B} Within k (Going output) go = (j : ℕ) (b : B) → Within (k + j) b → IsPrefixOf output (written (go b (k + j)))
Lasts {A} {B} Within k (Wrong cause output) go = (j : ℕ) (b : B) → Within (k + j) b → go b (k + j) ≡ Wrong cause output

-- a bound that is large enough for some number of steps is large enough for any smaller number
pub record Lowers {B : Type 0} (Within : ℕ → B → Type 0) : Type 0 where
  pub lower : (j k : ℕ) (b : B) → j ≤ k → Within k b → Within j b

pub lasts_gives : {A B : Type 0} (Within : ℕ → B → Type 0) (x : A) (t : State) → Lasts Within t.steps (Gives x t) (λ (b : B) j. Gives x (at t j))
lasts_gives Within x t = (0, omega arith, λ j b w. ap (λ n. Gives x (at t n)) (let e : 0 + j ≡ j = omega arith in e))

-- if a part gives r, it also gives r when it is described with another kind of bound
pub lasts_by : {A B C : Type 0} (V : ℕ → C → Type 0) (W : ℕ → B → Type 0) (f : C → B) (k : ℕ) (r : Run A) (go : B → ℕ → Run A) (other : C → ℕ → Run A)
    → ((j : ℕ) (c : C) → V j c → W j (f c)) → ((j : ℕ) (c : C) → V j c → other c j ≡ go (f c) j) → Lasts W k r go → Lasts V k r other
lasts_by V W f k (Gives x t) go other within same h = (h.0, h.1, λ j c v. same (h.0 + j) c v ∙ h.2 j (f c) (within (h.0 + j) c v))
lasts_by V W f k (Going output) go other within same h = λ j c v.
    subst (λ r. IsPrefixOf output (written r)) (sym (same (k + j) c v)) (h j (f c) (within (k + j) c v))
lasts_by V W f k (Wrong cause output) go other within same h = λ j c v. same (k + j) c v ∙ h j (f c) (within (k + j) c v)

-- if a first part gives a value, and what follows it gives r, both together give r
lasts_behind : {A C B : Type 0} (W : ℕ → B → Type 0) → Lowers W → (k spent : ℕ) (x : A) (t : State) (first : B → ℕ → Run A) (later : A → B → State → Run C) (r : Run C)
    → k ≡ spent + t.steps → ((j : ℕ) (b : B) → W (spent + j) b → first b (spent + j) ≡ Gives x (at t j))
    → Lasts W t.steps r (λ b j. later x b (at t j)) → Lasts W k r (λ b j. then_do (first b j) (λ y u. later y b u))
lasts_behind W low k spent x t first later (Gives y u) e go h = (
  spent + h.0,
  (let f : t.steps ≡ h.0 + u.steps = h.1 in omega arith),
  λ j b w.
      let f : spent + h.0 + j ≡ spent + (h.0 + j) = omega arith in
      ap (λ n. then_do (first b n) (λ z v. later z b v)) f
      ∙ ap (λ r. then_do r (λ z v. later z b v)) (go (h.0 + j) b (low.lower _ _ b (omega arith) w))
      ∙ h.2 j b (low.lower _ _ b (omega arith) w),
)
lasts_behind W low k spent x t first later (Going output) e go h = λ j b w.
    let f : k + j ≡ spent + (t.steps + j) = omega arith in
    let same : then_do (first b (k + j)) (λ z v. later z b v) ≡ later x b (at t (t.steps + j)) =
    ap (λ n. then_do (first b n) (λ z v. later z b v)) f
    ∙ ap (λ r. then_do r (λ z v. later z b v)) (go (t.steps + j) b (low.lower _ _ b (omega arith) w)) in
    subst (λ r. IsPrefixOf output (written r)) (sym same) (h j b (low.lower _ _ b (omega arith) w))
lasts_behind W low k spent x t first later (Wrong cause output) e go h = λ j b w.
    let f : k + j ≡ spent + (t.steps + j) = omega arith in
    ap (λ n. then_do (first b n) (λ z v. later z b v)) f
    ∙ ap (λ r. then_do r (λ z v. later z b v)) (go (t.steps + j) b (low.lower _ _ b (omega arith) w))
    ∙ h j b (low.lower _ _ b (omega arith) w)

-- if two parts each give a result within some steps, so does the first followed by the second
pub lasts_then : {A C B : Type 0} (W : ℕ → B → Type 0) → Lowers W → (k : ℕ) (r : Run A) (first : B → ℕ → Run A) (rest : A → State → Run C) (later : A → B → State → Run C)
    → Lasts W k r first → ((x : A) (t : State) → t.steps ≤ k → Lasts W t.steps (rest x t) (λ b j. later x b (at t j)))
    → ((x : A) (b : B) (t : State) → IsPrefixOf t.output (written (later x b t)))
    → Lasts W k (then_do r rest) (λ b j. then_do (first b j) (λ y u. later y b u))
lasts_then W low k (Gives x t) first rest later h f g =
    lasts_behind W low k h.0 x t first later (rest x t) h.1 h.2 (f x t (let e : k ≡ h.0 + t.steps = h.1 in omega arith))
lasts_then W low k (Going output) first rest later h f g = λ j b w.
    begins_then output (first b (k + j)) (λ y u. later y b u) (h j b w) (λ y u. g y b u)
lasts_then W low k (Wrong cause output) first rest later h f g = λ j b w. ap (λ r. then_do r (λ y u. later y b u)) (h j b w)

pub lasts_choose : {A B : Type 0} (W : ℕ → B → Type 0) (k w : ℕ) (holds fails : State → Run A) (s : State) (later other : B → State → Run A)
    → Lasts W k (holds s) (λ b j. later b (at s j)) → Lasts W k (fails s) (λ b j. other b (at s j))
    → Lasts W k (choose w holds fails s) (λ b j. choose w (later b) (other b) (at s j))
lasts_choose W k zero holds fails s later other p q = q
lasts_choose W k (suc w) holds fails s later other p q = p

-- if a part gives a result within `i` steps, a step followed by that part gives it within `i` + 1 steps
lasts_step : {A B : Type 0} (V W : ℕ → B → Type 0) (i : ℕ) (s : State) (r : Run A) (later : B → State → Run A) → ((j : ℕ) (b : B) → V (suc j) b → W j b)
    → Lasts W i r (λ b j. later b (at s j)) → Lasts V (suc i) r (λ b j. spend_of j (later b) (at s j))
lasts_step V W i s (Gives x t) later within h = (
  suc h.0,
  (let f : i ≡ h.0 + t.steps = h.1 in omega arith),
  λ j b v.
      let e : suc h.0 + j ≡ suc (h.0 + j) = omega arith in
      ap (λ n. spend_of n (later b) (at s n)) e ∙ h.2 j b (within (h.0 + j) b (subst (λ n. V n b) e v)),
)
lasts_step V W i s (Going output) later within h = λ j b v.
    let e : suc i + j ≡ suc (i + j) = omega arith in
    subst (λ n. IsPrefixOf output (written (spend_of n (later b) (at s n)))) (sym e) (h j b (within (i + j) b (subst (λ n. V n b) e v)))
lasts_step V W i s (Wrong cause output) later within h = λ j b v.
    let e : suc i + j ≡ suc (i + j) = omega arith in
    ap (λ n. spend_of n (later b) (at s n)) e ∙ h j b (within (i + j) b (subst (λ n. V n b) e v))

pub lasts_spend : {A B : Type 0} (V W : ℕ → B → Type 0) (k : ℕ) (s : State) (go : State → Run A) (later : B → State → Run A)
    → ((j : ℕ) (b : B) → V (suc j) b → W j b) → ((i : ℕ) → suc i ≡ k → Lasts W i (go (at s i)) (λ b j. later b (at s j)))
    → ((b : B) (u : State) → IsPrefixOf u.output (written (later b u)))
    → Lasts V k (spend_of k go s) (λ b j. spend_of j (later b) (at s j))
lasts_spend V W zero s go later within f g = λ j b v. begins_spend (0 + j) (later b) (at s (0 + j)) (g b)
lasts_spend V W (suc i) s go later within f g = lasts_step V W i s (go (at s i)) later within (f i refl)

pub lasts_flow : {B : Type 0} (W : ℕ → B → Type 0) (flow : Flow) (go : State → Run Flow) (s : State) (later : B → State → Run Flow)
    → Lasts W s.steps (go s) (λ b j. later b (at s j)) → Lasts W s.steps (behind_flow flow go s) (λ b j. behind_flow flow (later b) (at s j))
lasts_flow W Falls go s later h = h
lasts_flow W Breaks go s later h = lasts_gives W Breaks s
lasts_flow W Continues go s later h = lasts_gives W Continues s
lasts_flow W (Returns w) go s later h = lasts_gives W (Returns w) s

lasts_body : {B : Type 0} (W : ℕ → B → Type 0) (flow : Flow) (go : State → Run Flow) (s : State) (later : B → State → Run Flow)
    → Lasts W s.steps (go s) (λ b j. later b (at s j)) → Lasts W s.steps (behind_body flow go s) (λ b j. behind_body flow (later b) (at s j))
lasts_body W Falls go s later h = h
lasts_body W Breaks go s later h = lasts_gives W Falls s
lasts_body W Continues go s later h = h
lasts_body W (Returns w) go s later h = lasts_gives W (Returns w) s

-- if a loop's body and what follows it give results, so do both together, with the step that the body spends when it begins
pub lasts_begin : {B : Type 0} (V W : ℕ → B → Type 0) → Lowers W → (s : State) (body go : State → Run Flow) (bodies later : B → State → Run Flow)
    → ((j : ℕ) (b : B) → V (suc j) b → W j b)
    → ((i : ℕ) → suc i ≡ s.steps → Lasts W i (body (at s i)) (λ b j. bodies b (at s j)))
    → ((u : State) → u.steps < s.steps → Lasts W u.steps (go u) (λ b j. later b (at u j)))
    → ((b : B) (u : State) → IsPrefixOf u.output (written (bodies b u))) → ((b : B) (u : State) → IsPrefixOf u.output (written (later b u)))
    → Lasts V s.steps (begin_body body go s) (λ b j. begin_body (bodies b) (later b) (at s j))
lasts_begin V W low s body go bodies later within f g grows grows' =
    lasts_spend V W s.steps s (λ t. then_do (body t) (λ flow u. behind_body flow go u)) (λ b t. then_do (bodies b t) (λ flow u. behind_body flow (later b) u)) within
    (λ i e. lasts_then W low i (body (at s i)) (λ b j. bodies b (at s j)) (λ flow u. behind_body flow go u) (λ flow b u. behind_body flow (later b) u) (f i e)
    (λ flow u le. lasts_body W flow go u later (g u (omega arith))) (λ flow b u. begins_body flow (later b) u (grows' b u)))
    (λ b u. begins_then u.output (bodies b u) (λ flow v. behind_body flow (later b) v) (grows b u) (λ flow v. begins_body flow (later b) v (grows' b v)))

-- ---- parts for which the facts hold in every state

pub record Steady {A B : Type 0} (W : ℕ → B → Type 0) (part : B → State → Run A) : Type 0 where
  pub grows : (b : B) (s : State) → IsPrefixOf s.output (written (part b s))
  pub lasts : (b : B) (s : State) → W s.steps b → Lasts W s.steps (part b s) (λ c j. part c (at s j))

pub steady_gives : {A B : Type 0} (W : ℕ → B → Type 0) (x : A) → Steady W (λ (b : B) s. Gives x s)
steady_gives W x = record { grows = λ b s. begins_refl s.output; lasts = λ b s w. lasts_gives W x s }

-- if the facts hold for a part, and for another that may use the earlier locals, they hold for the first followed by the second
pub steady_then : {A C B : Type 0} (W : ℕ → B → Type 0) → Lowers W → (first : B → State → Run A) (rest : List Local → A → B → State → Run C)
    → Steady W first → ((ls : List Local) (x : A) → Steady W (rest ls x)) → Steady W (λ b s. then_do (first b s) (λ x t. rest s.locals x b t))
steady_then W low first rest p q = record {
  grows = λ b s. begins_then s.output (first b s) (λ x t. rest s.locals x b t) (p.grows b s) (λ x t. (q s.locals x).grows b t);
  lasts = λ b s w.
      lasts_then W low s.steps (first b s) (λ c j. first c (at s j)) (λ x t. rest s.locals x b t) (λ x c t. rest s.locals x c t) (p.lasts b s w)
      (λ x t le. (q s.locals x).lasts b t (low.lower t.steps s.steps b le w)) (λ x c t. (q s.locals x).grows c t);
}

pub steady_choose : {A B : Type 0} (W : ℕ → B → Type 0) (w : ℕ) (holds fails : B → State → Run A) → Steady W holds → Steady W fails → Steady W (λ b s. choose w (holds b) (fails b) s)
steady_choose W w holds fails p q = record {
  grows = λ b s. begins_choose w (holds b) (fails b) s (p.grows b s) (q.grows b s);
  lasts = λ b s v. lasts_choose W s.steps w (holds b) (fails b) s holds fails (p.lasts b s v) (q.lasts b s v);
}

pub steady_unless : {B : Type 0} (W : ℕ → B → Type 0) (o : Option ℕ) (go : B → State → Run ℕ) → Steady W go → Steady W (λ b s. unless_decided o (go b) s)
steady_unless W None go p = p
steady_unless W (Some w) go p = steady_gives W w

pub steady_flow : {B : Type 0} (W : ℕ → B → Type 0) (flow : Flow) (go : B → State → Run Flow) → Steady W go → Steady W (λ b s. behind_flow flow (go b) s)
steady_flow W flow go p = record {
  grows = λ b s. begins_flow flow (go b) s (p.grows b s);
  lasts = λ b s w. lasts_flow W flow (go b) s go (p.lasts b s w);
}

-- ---- parts under a bound by a number, and loops

-- the bound is greater than the number of steps left
abbrev pub Under : ℕ → ℕ → Type 0
Under k n = k < n

pub under : Lowers Under
under = record { lower = λ j k b le h. omega arith }

pub steady_begin : (body go : ℕ → State → Run Flow) → Steady Under body → Steady Under go → Steady Under (λ n s. begin_body (body n) (go n) s)
steady_begin body go p q = record {
  grows = λ n s. begins_begin (body n) (go n) s (p.grows n) (q.grows n);
  lasts = λ n s w.
      lasts_begin Under Under under s (body n) (go n) body go (λ j b v. omega arith)
      (λ i e. p.lasts n (at s i) (omega arith)) (λ u less. q.lasts n u (omega arith)) p.grows q.grows;
}

-- one bound on the turns of a loop, and one on its parts
abbrev pub Both : ℕ → ℕ × ℕ → Type 0
Both k b = (k < b.0) × (k < b.1)

both : Lowers Both
both = record { lower = λ j k b le h. (let p = h.0 in omega arith, let p = h.1 in omega arith) }

-- both bounds, for one step more
abbrev Further : ℕ → ℕ × ℕ → Type 0
Further k b = (suc k < b.0) × (suc k < b.1)

further : Lowers Further
further = record { lower = λ j k b le h. (let p = h.0 in omega arith, let p = h.1 in omega arith) }

abbrev less : ℕ → ℕ
less zero = zero
less (suc n) = n

under_less : (k n : ℕ) → suc k < n → k < less n
under_less k zero h = absurd (omega arith)
under_less k (suc n) h = omega arith

module _ (test : ℕ → State → Run ℕ) (body behind : ℕ → State → Run Flow) (tests : Steady Under test) (bodies : Steady Under body) (behinds : Steady Under behind) where
  abbrev turns_at : ℕ → ℕ → State → Run Flow
  turns_at i n s = turns i (test n) (body n) (behind n) s

  -- what follows the body of a turn
  abbrev next_turn : ℕ → ℕ → State → Run Flow
  next_turn i n u = then_do (behind n u) (λ flow v. turns_at i n v)

  -- one turn, with everything after it
  abbrev turn : ℕ → ℕ → State → Run Flow
  turn i n s = then_do (test n s) (λ w t. choose w (begin_body (body n) (next_turn i n)) (λ u. Gives Falls u) t)

  turns_unfold : (i n : ℕ) (s : State) → 0 < i → turns_at i n s ≡ turn (less i) n s
  turns_unfold zero n s h = absurd (omega arith)
  turns_unfold (suc i) n s h = refl

  next_grows : (i n : ℕ) → ((s : State) → IsPrefixOf s.output (written (turns_at i n s))) → (u : State) → IsPrefixOf u.output (written (next_turn i n u))
  next_grows i n f u = begins_then u.output (behind n u) (λ flow v. turns_at i n v) (behinds.grows n u) (λ flow v. f v)

  turns_grow : (i n : ℕ) (s : State) → IsPrefixOf s.output (written (turns_at i n s))
  turns_grow zero n s = begins_refl s.output
  turns_grow (suc i) n s =
      begins_then s.output (test n s) (λ w t. choose w (begin_body (body n) (next_turn i n)) (λ u. Gives Falls u) t) (tests.grows n s)
      (λ w t. begins_choose w (begin_body (body n) (next_turn i n)) (λ u. Gives Falls u) t
      (begins_begin (body n) (next_turn i n) t (bodies.grows n) (next_grows i n (turns_grow i n))) (begins_refl t.output))

  turn_lasts : (i n : ℕ) (s : State) → s.steps < suc i → s.steps < n
      → ((v : State) → v.steps < i → v.steps < n → Lasts Both v.steps (turns_at i n v) (λ b j. turns_at b.0 b.1 (at v j)))
      → Lasts Both s.steps (turn i n s) (λ b j. turn (less b.0) b.1 (at s j))
  turn_lasts i n s lt le ih =
      lasts_then Both both s.steps (test n s) (λ b j. test b.1 (at s j))
      (λ w t. choose w (begin_body (body n) (next_turn i n)) (λ u. Gives Falls u) t)
      (λ w b t. choose w (begin_body (body b.1) (next_turn (less b.0) b.1)) (λ u. Gives Falls u) t)
      (lasts_by Both Under (λ b. b.1) s.steps (test n s) (λ m j. test m (at s j)) (λ b j. test b.1 (at s j)) (λ j b v. v.1) (λ j b v. refl) (tests.lasts n s le))
      (λ w t fewer. lasts_choose Both t.steps w (begin_body (body n) (next_turn i n)) (λ u. Gives Falls u) t
      (λ b. begin_body (body b.1) (next_turn (less b.0) b.1)) (λ b u. Gives Falls u)
      (lasts_begin Both Further further t (body n) (next_turn i n) (λ b. body b.1) (λ b. next_turn (less b.0) b.1) (λ j b v. v)
      (λ k e. lasts_by Further Under (λ b. b.1) k (body n (at t k)) (λ m j. body m (at t j)) (λ b j. body b.1 (at t j)) (λ j b v. (let p = v.1 in omega arith)) (λ j b v. refl) (bodies.lasts n (at t k) (omega arith)))
      (λ u fewer'.
      lasts_then Further further u.steps (behind n u) (λ b j. behind b.1 (at u j)) (λ flow v. turns_at i n v) (λ flow b v. turns_at (less b.0) b.1 v)
      (lasts_by Further Under (λ b. b.1) u.steps (behind n u) (λ m j. behind m (at u j)) (λ b j. behind b.1 (at u j)) (λ j b v. (let p = v.1 in omega arith)) (λ j b v. refl) (behinds.lasts n u (omega arith)))
      (λ flow v fewer''. lasts_by Further Both (λ b. (less b.0, b.1)) v.steps (turns_at i n v) (λ b j. turns_at b.0 b.1 (at v j)) (λ b j. turns_at (less b.0) b.1 (at v j))
      (λ j b p. (under_less j b.0 p.0, (let q = p.1 in omega arith))) (λ j b p. refl) (ih v (omega arith) (omega arith)))
      (λ flow b v. turns_grow (less b.0) b.1 v))
      (λ b u. bodies.grows b.1 u) (λ b u. next_grows (less b.0) b.1 (turns_grow (less b.0) b.1) u))
      (lasts_gives Both Falls t))
      (λ w b t. begins_choose w (begin_body (body b.1) (next_turn (less b.0) b.1)) (λ u. Gives Falls u) t
      (begins_begin (body b.1) (next_turn (less b.0) b.1) t (bodies.grows b.1) (next_grows (less b.0) b.1 (turns_grow (less b.0) b.1))) (begins_refl t.output))

  turns_last : (i n : ℕ) (s : State) → s.steps < i → s.steps < n → Lasts Both s.steps (turns_at i n s) (λ b j. turns_at b.0 b.1 (at s j))
  turns_last zero n s lt le = absurd (omega arith)
  turns_last (suc i) n s lt le =
      lasts_by Both Both (λ b. b) s.steps (turn i n s) (λ b j. turn (less b.0) b.1 (at s j)) (λ b j. turns_at b.0 b.1 (at s j))
      (λ j b v. v) (λ j b v. turns_unfold b.0 b.1 (at s j) (let p = v.0 in omega arith)) (turn_lasts i n s lt le (λ v. turns_last i n v))

  pub steady_turns : Steady Under (λ n s. turns (suc n) (test n) (body n) (behind n) s)
  steady_turns = record {
    grows = λ n s. turns_grow (suc n) n s;
    lasts = λ n s w.
        lasts_by Under Both (λ m. (suc m, m)) s.steps (turns_at (suc n) n s) (λ b j. turns_at b.0 b.1 (at s j)) (λ m j. turns_at (suc m) m (at s j))
        (λ j m v. (omega arith, v)) (λ j m v. refl) (turns_last (suc n) n s (omega arith) w);
  }
