-- Two cuts of one run are comparable: the shorter one is the beginning of the longer one.
use Rattle.std.proofs.Common.{◌≡◌, ℕ, zero, suc, ◌+◌, ◌-◌, ◌≤◌, List, refl, sym, subst, ◌⊎◌, inl, inr, arith}
use Rattle.std.proofs.lemmas.Bool.{cases_lt}
use Rattle.cc_simulation.specs.Behavior.{Going, Wrong, Outcome, IsPrefixOf}
use Rattle.cc_simulation.specs.Cuts.{Below, Comparable}
use Rattle.cc_simulation.specs.World.{Question, Answer, Effect, Gives, Unfinished, Failed}
use Rattle.cc_simulation.specs.Run.{Move, Goes, Calls, Returns, Fails, run, act, resumed, work, work_act, work_resumed}
use Rattle.cc_simulation.specs.internal.Effects.{After, UnfinishedThen, LaterAt, Within, HasEffects}
use Rattle.cc_simulation.proofs.Behaving.{begins_refl, begins_on, stays_refl}

below_refl : {R : Type 0} (x : Outcome R) (v : ℕ) → Below x v x v
below_refl x v = record { work_le = omega arith; output = begins_refl x.output; stays = stays_refl x.stop x }

le_cases : (m n : ℕ) → (m ≤ n) ⊎ (n ≤ m)
le_cases m n = elim (cases_lt m n) [ inl h ↦ inl (omega arith) | inr h ↦ inr h ]

module _ {C : Type 0} (move : C → Move C) (output : C → List ℕ) (effect : ℕ → Question → Effect) (laws : HasEffects move output effect) where
  -- a run's output begins with what was written before it
  starts_call : (k j : ℕ) (c : C) (resume : Answer → C) (e : Effect) → After output resume (output c) e → ((j : ℕ) (d : C) → IsPrefixOf (output d) (run move output effect k j d).output) → IsPrefixOf (output c) (resumed e resume (run move output effect k)).output
  starts_call k j c resume (Gives a left) b ih = begins_on _ _ _ b (ih left (resume a))
  starts_call k j c resume (Unfinished o) b ih = b
  starts_call k j c resume (Failed o) b ih = b

  starts_at : (k j : ℕ) (c : C) (m : Move C) → move c ≡ m → ((j : ℕ) (d : C) → IsPrefixOf (output d) (run move output effect k j d).output) → IsPrefixOf (output c) (act effect m (output c) j (run move output effect k)).output
  starts_at k j c (Goes d) e ih = begins_on _ _ _ (laws.grows c d e) (ih j d)
  starts_at k j c (Calls q resume) e ih = starts_call k j c resume (effect j q) (laws.answers c q resume e j) ih
  starts_at k j c (Returns r) e ih = begins_refl (output c)
  starts_at k j c Fails e ih = begins_refl (output c)

  pub starts : (k j : ℕ) (c : C) → IsPrefixOf (output c) (run move output effect k j c).output
  starts zero j c = begins_refl (output c)
  starts (suc k) j c = starts_at k j c (move c) refl (starts k)

  -- comparable cuts stay comparable if the same work is added before both
  after : (x y : Outcome Answer) (v w m n : ℕ) → m ≡ n → Comparable x v y w → Comparable x (suc (m + v)) y (suc (n + w))
  after x y v w m n e (inl b) = inl (record { work_le = let h = b.work_le in omega arith; output = b.output; stays = b.stays })
  after x y v w m n e (inr b) = inr (record { work_le = let h = b.work_le in omega arith; output = b.output; stays = b.stays })

  step_more : (x y : Outcome Answer) (v w : ℕ) → Comparable x v y w → Comparable x (suc v) y (suc w)
  step_more x y v w (inl b) = inl (record { work_le = let h = b.work_le in omega arith; output = b.output; stays = b.stays })
  step_more x y v w (inr b) = inr (record { work_le = let h = b.work_le in omega arith; output = b.output; stays = b.stays })

  unfinished : (k' j d : ℕ) (resume : Answer → C) (o : List ℕ) (f : Effect) → Within (j + d) f → UnfinishedThen output resume o d f
      → Below (record { stop = Going; output = o }) (suc j) (resumed f resume (run move output effect k')) (suc (work_resumed f resume (j + d) (work move effect k')))
  unfinished k' j d resume o (Gives a left) within later = record { work_le = let h = later.0 in let i = within in omega arith; output = begins_on _ _ _ later.1 (starts k' left (resume a)); stays = tt }
  unfinished k' j d resume o (Unfinished p) within later = record { work_le = omega arith; output = later; stays = tt }
  unfinished k' j d resume o (Failed p) within later = record { work_le = omega arith; output = later; stays = tt }

  -- a cut at a call is comparable to one with d more steps for the call
  more : (k k' j d : ℕ) (resume : Answer → C) (e f : Effect) → Within j e → Within (j + d) f → LaterAt output resume e d f
      → ((i i' : ℕ) (b : C) → Comparable (run move output effect k i b) (work move effect k i b) (run move output effect k' i' b) (work move effect k' i' b))
      → Comparable (resumed e resume (run move output effect k)) (suc (work_resumed e resume j (work move effect k)))
      (resumed f resume (run move output effect k')) (suc (work_resumed f resume (j + d) (work move effect k')))
  more k k' j d resume (Gives a left) f within within' later ih =
      let P : Effect → Type 0 = λ g. Comparable (run move output effect k left (resume a)) (suc (j - left + work move effect k left (resume a))) (resumed g resume (run move output effect k')) (suc (work_resumed g resume (j + d) (work move effect k'))) in
      let h : left ≤ j = within in
      subst P (sym later) (after _ _ _ _ (j - left) (j + d - (left + d)) (omega arith) (ih left (left + d) (resume a)))
  more k k' j d resume (Unfinished o) f within within' later ih = inl (unfinished k' j d resume o f within' later)
  more k k' j d resume (Failed o) f within within' later ih =
      let P : Effect → Type 0 = λ g. Comparable (record { stop = Wrong; output = o }) (suc j) (resumed g resume (run move output effect k')) (suc (work_resumed g resume (j + d) (work move effect k'))) in
      subst P (sym later) (inl (record { work_le = omega arith; output = begins_refl o; stays = refl }))

  swap : (x y : Outcome Answer) (v w : ℕ) → Comparable x v y w → Comparable y w x v
  swap x y v w (inl b) = inr b
  swap x y v w (inr b) = inl b

  at_call : (k k' j j' : ℕ) (c : C) (q : Question) (resume : Answer → C) → move c ≡ Calls q resume → (j ≤ j') ⊎ (j' ≤ j)
      → ((i i' : ℕ) (b : C) → Comparable (run move output effect k i b) (work move effect k i b) (run move output effect k' i' b) (work move effect k' i' b))
      → Comparable (resumed (effect j q) resume (run move output effect k)) (suc (work_resumed (effect j q) resume j (work move effect k)))
      (resumed (effect j' q) resume (run move output effect k')) (suc (work_resumed (effect j' q) resume j' (work move effect k')))
  at_call k k' j j' c q resume e (inl le) ih =
      let d = j' - j in
      let s : j + d ≡ j' = omega arith in
      let P : ℕ → Type 0 = λ i. Comparable (resumed (effect j q) resume (run move output effect k)) (suc (work_resumed (effect j q) resume j (work move effect k))) (resumed (effect i q) resume (run move output effect k')) (suc (work_resumed (effect i q) resume i (work move effect k'))) in
      subst P s (more k k' j d resume (effect j q) (effect (j + d) q) (laws.within c q resume e j) (laws.within c q resume e (j + d)) (laws.later c q resume e j d) ih)
  at_call k k' j j' c q resume e (inr le) ih =
      let d = j - j' in
      let s : j' + d ≡ j = omega arith in
      let P : ℕ → Type 0 = λ i. Comparable (resumed (effect j' q) resume (run move output effect k')) (suc (work_resumed (effect j' q) resume j' (work move effect k'))) (resumed (effect i q) resume (run move output effect k)) (suc (work_resumed (effect i q) resume i (work move effect k))) in
      swap _ _ _ _ (subst P s (more k' k j' d resume (effect j' q) (effect (j' + d) q) (laws.within c q resume e j') (laws.within c q resume e (j' + d)) (laws.later c q resume e j' d) (λ i i' b. swap _ _ _ _ (ih i' i b))))

  at_move : (k k' j j' : ℕ) (c : C) (m : Move C) → move c ≡ m
      → ((i i' : ℕ) (b : C) → Comparable (run move output effect k i b) (work move effect k i b) (run move output effect k' i' b) (work move effect k' i' b))
      → Comparable (act effect m (output c) j (run move output effect k)) (work_act effect m j (work move effect k)) (act effect m (output c) j' (run move output effect k')) (work_act effect m j' (work move effect k'))
  at_move k k' j j' c (Goes d) e ih = step_more _ _ _ _ (ih j j' d)
  at_move k k' j j' c (Calls q resume) e ih = at_call k k' j j' c q resume e (le_cases j j') ih
  at_move k k' j j' c (Returns r) e ih = inl (below_refl _ 0)
  at_move k k' j j' c Fails e ih = inl (below_refl _ 0)

  -- two cuts of one run are comparable
  pub comparable : (k k' j j' : ℕ) (c : C) → Comparable (run move output effect k j c) (work move effect k j c) (run move output effect k' j' c) (work move effect k' j' c)
  comparable zero k' j j' c = inl (record { work_le = omega arith; output = starts k' j' c; stays = tt })
  comparable (suc k) zero j j' c = inr (record { work_le = omega arith; output = starts (suc k) j c; stays = tt })
  comparable (suc k) (suc k') j j' c = at_move k k' j j' c (move c) refl (λ i i' b. comparable k k' i i' b)
