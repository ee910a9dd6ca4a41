-- How code with guards follows code without them: one or more moves of the guarded code, with the same call or the same return,
-- match each move of the code. If an operation has no value, the guarded code reaches a configuration that moves to itself. The
-- rest of the file shows what follows for runs.
use Rattle.std.proofs.Common.{◌≡◌, ℕ, zero, suc, ◌+◌, ◌-◌, ◌*◌, ◌≤◌, List, [], ◌∷◌, Option, Some, None, inl, inr, refl, sym, ap, ◌∙◌, subst, arith}
use Rattle.std.proofs.Math.Nat.{mul-le-mul_left, suc-mul}
use Rattle.cc_simulation.specs.Behavior.{Going, Ended, Outcome, IsRight}
use Rattle.cc_simulation.specs.World.{World, Question, Answer, Effect, Gives, Unfinished, Failed}
use Rattle.cc_simulation.specs.Run.{Move, Goes, Calls, Returns, Fails, tried, run, act, resumed, work, work_act, work_resumed}
use Rattle.cc_simulation.specs.Tracks.{Keeps, Keeping}
use Rattle.cc_simulation.specs.internal.Simulation as ways
use Rattle.cc_simulation.proofs.Simulating as simulating
use Rattle.cc_cminor_language.specs.Cminor.{Exit, Expression, Statement, Skip, Set, If, Sequence, Continuation, Then, Variables, value, put, Config, config, chosen, cminor_move, cminor_output}
use Rattle.cc_guard.specs.Guard.{Guard, Put, Stop, StopBoth, guards_then}
use Rattle.cc_cminor_language.specs.Breaks.{broken, broken_act, broken_resumed, BreaksAt}
use Rattle.cc_guard.proofs.Passing.{Comes, Stops, Meets}

abbrev pub Way : ℕ → Config → Config → Type 0
Way n c d = ways.Way cminor_move cminor_output n c d

pub way_then : (n m : ℕ) (c d e : Config) → Way n c d → Way m d e → Way (n + m) c e
way_then n m c d e p q = simulating.way_then cminor_move cminor_output n m c d e p q

-- some moves lead to a configuration that moves to itself
pub record Spins (o : List ℕ) (c : Config) : Type 0 where
  pub moves : ℕ
  pub to : Config
  pub way : Way moves c to
  pub stays : cminor_move to ≡ Goes to
  pub output : cminor_output to ≡ o

-- ---- guards run

module _ (s : Statement) (κ : Continuation) (h : World) (b : ℕ) where
  -- what remains to be done after a guard
  abbrev rest : List Guard → Continuation
  rest gs = Then (guards_then b gs s) κ

  pub record Through (gs : List Guard) (P : Variables → Type 0) (l : Variables) : Type 0 where
    pub moves : ℕ
    pub after : Variables
    pub way : Way moves (config (guards_then b gs s) κ l h) (config s κ after h)
    pub holds : P after

  -- if its condition is 0, an `If` goes to its second statement, else to its first one
  to_second : (e : Expression) (c d : Statement) (l : Variables) (κ : Continuation) → value e l h ≡ Some 0 → cminor_move (config (If e c d) κ l h) ≡ Goes (config d κ l h)
  to_second e c d l κ v = ap (λ o. tried o (λ w. Goes (config (chosen w c d) κ l h))) v

  to_first : (e : Expression) (c d : Statement) (l : Variables) (κ : Continuation) (w : ℕ) → value e l h ≡ Some (suc w) → cminor_move (config (If e c d) κ l h) ≡ Goes (config c κ l h)
  to_first e c d l κ w v = ap (λ o. tried o (λ w. Goes (config (chosen w c d) κ l h))) v

  -- if no guard stops the run, it reaches the statement after the guards
  pub through : (gs : List Guard) (l : Variables) (P : Variables → Type 0) → Comes h gs l P → Through gs P l
  through [] l P p = record { moves = 0; after = l; way = (refl, refl); holds = p }
  through (Put t e ∷ gs) l P (w, v, p) =
      let x = through gs (put l t w) P p in
      record {
        moves = suc (suc (suc x.moves));
        after = x.after;
        way = (config (Set t e) (rest gs) l h, refl, (config Skip (rest gs) (put l t w) h, ap (λ o. tried o (λ w. Goes (config Skip (rest gs) (put l t w) h))) v, (config (guards_then b gs s) κ (put l t w) h, refl, x.way)));
        holds = x.holds;
      }
  through (Stop e ∷ gs) l P (v, p) =
      let x = through gs l P p in
      record {
        moves = suc (suc (suc x.moves));
        after = x.after;
        way = (config (If e (Exit b) Skip) (rest gs) l h, refl, (config Skip (rest gs) l h, to_second e (Exit b) Skip l (rest gs) v, (config (guards_then b gs s) κ l h, refl, x.way)));
        holds = x.holds;
      }
  through (StopBoth d e ∷ gs) l P (inl v, p) =
      let x = through gs l P p in
      record {
        moves = suc (suc (suc x.moves));
        after = x.after;
        way = (config (If d (If e (Exit b) Skip) Skip) (rest gs) l h, refl, (config Skip (rest gs) l h, to_second d (If e (Exit b) Skip) Skip l (rest gs) v, (config (guards_then b gs s) κ l h, refl, x.way)));
        holds = x.holds;
      }
  through (StopBoth d e ∷ gs) l P (inr (u, v, z), p) =
      let x = through gs l P p in
      record {
        moves = suc (suc (suc (suc x.moves)));
        after = x.after;
        way = (config (If d (If e (Exit b) Skip) Skip) (rest gs) l h, refl, (config (If e (Exit b) Skip) (rest gs) l h, to_first d (If e (Exit b) Skip) Skip l (rest gs) u v, (config Skip (rest gs) l h, to_second e (Exit b) Skip l (rest gs) z, (config (guards_then b gs s) κ l h, refl, x.way))));
        holds = x.holds;
      }

  -- after a test that fails, the exit leads to the endless loop
  exits_on : ((l : Variables) → Spins h.output (config (Exit b) κ l h)) → (gs : List Guard) (l : Variables) → Spins h.output (config (Exit b) (rest gs) l h)
  exits_on halts gs l = let x = halts l in record { moves = suc x.moves; to = x.to; way = (config (Exit b) κ l h, refl, x.way); stays = x.stays; output = x.output }

  one_more : (c d : Config) → cminor_move c ≡ Goes d → Spins h.output d → Spins h.output c
  one_more c d e x = record { moves = suc x.moves; to = x.to; way = (d, e, x.way); stays = x.stays; output = x.output }

  -- if a guard stops the run, the run goes on for ever, provided that a run from an exit does
  pub spins : ((l : Variables) → Spins h.output (config (Exit b) κ l h)) → (gs : List Guard) (l : Variables) → Stops h gs l → Spins h.output (config (guards_then b gs s) κ l h)
  spins halts [] l p = absurd p
  spins halts (Put t e ∷ gs) l (w, v, p) =
      one_more (config (Sequence (Set t e) (guards_then b gs s)) κ l h) (config (Set t e) (rest gs) l h) refl
      (one_more (config (Set t e) (rest gs) l h) (config Skip (rest gs) (put l t w) h) (ap (λ o. tried o (λ w. Goes (config Skip (rest gs) (put l t w) h))) v)
      (one_more (config Skip (rest gs) (put l t w) h) (config (guards_then b gs s) κ (put l t w) h) refl (spins halts gs (put l t w) p)))
  spins halts (Stop e ∷ gs) l (inl (w, v)) =
      one_more (config (Sequence (If e (Exit b) Skip) (guards_then b gs s)) κ l h) (config (If e (Exit b) Skip) (rest gs) l h) refl
      (one_more (config (If e (Exit b) Skip) (rest gs) l h) (config (Exit b) (rest gs) l h) (to_first e (Exit b) Skip l (rest gs) w v) (exits_on halts gs l))
  spins halts (Stop e ∷ gs) l (inr (v, p)) =
      one_more (config (Sequence (If e (Exit b) Skip) (guards_then b gs s)) κ l h) (config (If e (Exit b) Skip) (rest gs) l h) refl
      (one_more (config (If e (Exit b) Skip) (rest gs) l h) (config Skip (rest gs) l h) (to_second e (Exit b) Skip l (rest gs) v)
      (one_more (config Skip (rest gs) l h) (config (guards_then b gs s) κ l h) refl (spins halts gs l p)))
  spins halts (StopBoth d e ∷ gs) l (inl (u, w, v, z)) =
      one_more (config (Sequence (If d (If e (Exit b) Skip) Skip) (guards_then b gs s)) κ l h) (config (If d (If e (Exit b) Skip) Skip) (rest gs) l h) refl
      (one_more (config (If d (If e (Exit b) Skip) Skip) (rest gs) l h) (config (If e (Exit b) Skip) (rest gs) l h) (to_first d (If e (Exit b) Skip) Skip l (rest gs) u v)
      (one_more (config (If e (Exit b) Skip) (rest gs) l h) (config (Exit b) (rest gs) l h) (to_first e (Exit b) Skip l (rest gs) w z) (exits_on halts gs l)))
  spins halts (StopBoth d e ∷ gs) l (inr (inl v, p)) =
      one_more (config (Sequence (If d (If e (Exit b) Skip) Skip) (guards_then b gs s)) κ l h) (config (If d (If e (Exit b) Skip) Skip) (rest gs) l h) refl
      (one_more (config (If d (If e (Exit b) Skip) Skip) (rest gs) l h) (config Skip (rest gs) l h) (to_second d (If e (Exit b) Skip) Skip l (rest gs) v)
      (one_more (config Skip (rest gs) l h) (config (guards_then b gs s) κ l h) refl (spins halts gs l p)))
  spins halts (StopBoth d e ∷ gs) l (inr (inr (u, v, z), p)) =
      one_more (config (Sequence (If d (If e (Exit b) Skip) Skip) (guards_then b gs s)) κ l h) (config (If d (If e (Exit b) Skip) Skip) (rest gs) l h) refl
      (one_more (config (If d (If e (Exit b) Skip) Skip) (rest gs) l h) (config (If e (Exit b) Skip) (rest gs) l h) (to_first d (If e (Exit b) Skip) Skip l (rest gs) u v)
      (one_more (config (If e (Exit b) Skip) (rest gs) l h) (config Skip (rest gs) l h) (to_second e (Exit b) Skip l (rest gs) z)
      (one_more (config Skip (rest gs) l h) (config (guards_then b gs s) κ l h) refl (spins halts gs l p))))

-- ---- one move

module _ (effect : ℕ → Question → Effect) (Related : Config → Config → Type 0) where
  pub record Advances (c : Config) (d : Config) : Type 0 where
    pub moves : ℕ
    pub to : Config
    pub one : 1 ≤ moves
    pub way : Way moves d to
    pub related : Related c to

  -- the guarded code asks the same question, and the two configurations are related again after each answer that the call can
  -- give
  pub record Asks (q : Question) (resume : Answer → Config) (d : Config) : Type 0 where
    pub moves : ℕ
    pub to : Config
    pub resume' : Answer → Config
    pub way : Way moves d to
    pub calls : cminor_move to ≡ Calls q resume'
    pub related : (j left : ℕ) (a : Answer) → effect j q ≡ Gives a left → Related (resume a) (resume' a)

  pub record Ending (r : Answer) (o : List ℕ) (d : Config) : Type 0 where
    pub moves : ℕ
    pub to : Config
    pub way : Way moves d to
    pub returns : cminor_move to ≡ Returns r
    pub output : cminor_output to ≡ o

  -- what the guarded code at d does to match a move of the code
  abbrev pub Matches : List ℕ → Move Config → Config → Type 0
  Matches o (Goes c) d = Advances c d
  Matches o (Calls q resume) d = Asks q resume d
  Matches o (Returns r) d = Ending r o d
  Matches o Fails d = Spins o d

  matches_after : (o : List ℕ) (m : Move Config) (n : ℕ) (d e : Config) → Way n d e → Matches o m e → Matches o m d
  matches_after o (Goes c) n d e p x = record { moves = n + x.moves; to = x.to; one = let y = x.one in omega arith; way = way_then n x.moves d e x.to p x.way; related = x.related }
  matches_after o (Calls q resume) n d e p x = record { moves = n + x.moves; to = x.to; resume' = x.resume'; way = way_then n x.moves d e x.to p x.way; calls = x.calls; related = x.related }
  matches_after o (Returns r) n d e p x = record { moves = n + x.moves; to = x.to; way = way_then n x.moves d e x.to p x.way; returns = x.returns; output = x.output }
  matches_after o Fails n d e p x = record { moves = n + x.moves; to = x.to; way = way_then n x.moves d e x.to p x.way; stays = x.stays; output = x.output }

  -- guards, followed by a statement, match the statement: no guard stops the run exactly if the statement can make its move
  pub guards_match : {A : Type 0} (b : ℕ) (gs : List Guard) (t : Statement) (κ : Continuation) (l : Variables) (h : World) (o : Option A) (go : A → Move Config) (Q : Variables → A → Type 0) → ((m : Variables) → Spins h.output (config (Exit b) κ m h)) → Meets h gs l o Q
      → ((m : Variables) (a : A) → Q m a → o ≡ Some a → Matches h.output (go a) (config t κ m h)) → Matches h.output (tried o go) (config (guards_then b gs t) κ l h)
  guards_match b gs t κ l h None go Q halts p f = spins t κ h b halts gs l p
  guards_match b gs t κ l h (Some a) go Q halts p f =
      let x = through t κ h b gs l (λ m. Q m a) p in
      matches_after h.output (go a) x.moves (config (guards_then b gs t) κ l h) (config t κ x.after h) x.way (f x.after a x.holds refl)

  -- ---- whole runs

  abbrev runs : ℕ → ℕ → Config → Outcome Answer
  runs k j c = run cminor_move cminor_output effect k j c

  abbrev works : ℕ → ℕ → Config → ℕ
  works k j c = work cminor_move effect k j c

  way_run : (n k j : ℕ) (c d : Config) → Way n c d → runs (n + k) j c ≡ runs k j d
  way_run zero zero j c d p = ap {B = Outcome Answer} (λ o. record { stop = Going; output = o }) p.1
  way_run zero (suc k) j c d p =
      let z : 0 + suc k ≡ suc k = omega arith in
      ap (λ m. runs m j c) z ∙ ap (λ v. act effect v (cminor_output c) j (runs k)) p.0 ∙ ap (λ o. act effect (cminor_move d) o j (runs k)) p.1
  way_run (suc n) k j c d (u, q, r) =
      let z : suc n + k ≡ suc (n + k) = omega arith in
      ap (λ m. runs m j c) z ∙ ap (λ v. act effect v (cminor_output c) j (runs (n + k))) q ∙ way_run n k j u d r

  way_work : (n k j : ℕ) (c d : Config) → Way n c d → works (n + k) j c ≡ n + works k j d
  way_work zero zero j c d p = refl
  way_work zero (suc k) j c d p =
      let z : 0 + suc k ≡ suc k = omega arith in
      let y : works (suc k) j d ≡ 0 + works (suc k) j d = omega arith in
      ap (λ m. works m j c) z ∙ ap (λ v. work_act effect v j (works k)) p.0 ∙ y
  way_work (suc n) k j c d (u, q, r) =
      let z : suc n + k ≡ suc (n + k) = omega arith in
      let y : suc (n + works k j d) ≡ suc n + works k j d = omega arith in
      ap (λ m. works m j c) z ∙ ap (λ v. work_act effect v j (works (n + k))) q ∙ ap suc (way_work n k j u d r) ∙ y

  -- a run of the guarded code that was cut short has this outcome, and has done at least this much
  pub record Cut (j : ℕ) (a : Outcome Answer) (done : ℕ) (d : Config) : Type 0 where
    pub k : ℕ
    pub same : runs k j d ≡ a
    pub paid : done ≤ works k j d

  cut_after : (n j : ℕ) (a : Outcome Answer) (done more : ℕ) (d e : Config) → Way n d e → more ≤ n + done → Cut j a done e → Cut j a more d
  cut_after n j a done more d e p le x = record { k = n + x.k; same = way_run n x.k j d e p ∙ x.same; paid = let y = x.paid in let z = way_work n x.k j d e p in omega arith }

  -- ---- an operation that has no value

  stays_run : (k j : ℕ) (c : Config) → cminor_move c ≡ Goes c → runs k j c ≡ record { stop = Going; output = cminor_output c }
  stays_run zero j c e = refl
  stays_run (suc k) j c e = ap (λ m. act effect m (cminor_output c) j (runs k)) e ∙ stays_run k j c e

  stays_work : (k j : ℕ) (c : Config) → cminor_move c ≡ Goes c → works k j c ≡ k
  stays_work zero j c e = refl
  stays_work (suc k) j c e = ap (λ m. work_act effect m j (works k)) e ∙ ap suc (stays_work k j c e)

  -- however far the run goes, there is a cut at which it is still running, with this output
  abbrev pub Hangs : ℕ → List ℕ → Config → Type 0
  Hangs j o d = (n : ℕ) → Cut j (record { stop = Going; output = o }) n d

  hangs : (j : ℕ) (o : List ℕ) (d : Config) → Spins o d → Hangs j o d
  hangs j o d x = λ n. cut_after x.moves j _ n n d x.to x.way (omega arith) (record {
    k = n;
    same = stays_run n j x.to x.stays ∙ ap (λ p. record { stop = Going; output = p }) x.output;
    paid = let e = stays_work n j x.to x.stays in omega arith;
  })

  module _ (outputs : (c d : Config) → Related c d → cminor_output d ≡ cminor_output c) (matches : (c d : Config) → Related c d → Matches (cminor_output c) (cminor_move c) d) where
    -- ---- a cut that is right

    going : (o : List ℕ) (d : Config) (j : ℕ) → cminor_output d ≡ o → Cut j (record { stop = Going; output = o }) 0 d
    going o d j e = record { k = 0; same = ap (λ p. record { stop = Going; output = p }) e; paid = omega arith }

    -- if there is a cut after a call's answer, there is one at the call
    asked : (k j : ℕ) (d : Config) (q : Question) (resume : Answer → Config) (x : Asks q resume d) (e : Effect) → effect j q ≡ e
        → ((i : ℕ) (c d : Config) → Related c d → IsRight (runs k i c).stop → Cut i (runs k i c) (works k i c) d)
        → IsRight (resumed e resume (runs k)).stop → Cut j (resumed e resume (runs k)) (suc (work_resumed e resume j (works k))) d
    asked k j d q resume x (Gives a left) eq ih ok =
        let y = ih left (resume a) (x.resume' a) (x.related j left a eq) ok in
        let did : works (suc y.k) j x.to ≡ suc (j - left + works y.k left (x.resume' a)) = ap (λ m. work_act effect m j (works y.k)) x.calls ∙ ap (λ v. suc (work_resumed v x.resume' j (works y.k))) eq in
        cut_after x.moves j _ (suc (j - left + works k left (resume a))) _ d x.to x.way (omega arith) (record {
          k = suc y.k;
          same = ap (λ m. act effect m (cminor_output x.to) j (runs y.k)) x.calls ∙ ap (λ v. resumed v x.resume' (runs y.k)) eq ∙ y.same;
          paid = let z = y.paid in omega arith;
        })
    asked k j d q resume x (Unfinished o) eq ih ok =
        let did : works 1 j x.to ≡ suc j = ap (λ m. work_act effect m j (works 0)) x.calls ∙ ap (λ v. suc (work_resumed v x.resume' j (works 0))) eq in
        cut_after x.moves j _ (suc j) _ d x.to x.way (omega arith) (record {
          k = 1;
          same = ap (λ m. act effect m (cminor_output x.to) j (runs 0)) x.calls ∙ ap (λ v. resumed v x.resume' (runs 0)) eq;
          paid = omega arith;
        })
    asked k j d q resume x (Failed o) eq ih ok = absurd ok

    cut_at : (k j : ℕ) (c d : Config) (m : Move Config) → Matches (cminor_output c) m d
        → ((i : ℕ) (c d : Config) → Related c d → IsRight (runs k i c).stop → Cut i (runs k i c) (works k i c) d)
        → IsRight (act effect m (cminor_output c) j (runs k)).stop → Cut j (act effect m (cminor_output c) j (runs k)) (work_act effect m j (works k)) d
    cut_at k j c d (Goes c') x ih ok = cut_after x.moves j _ (works k j c') _ d x.to x.way (let o = x.one in omega arith) (ih j c' x.to x.related ok)
    cut_at k j c d (Calls q resume) x ih ok = asked k j d q resume x (effect j q) refl ih ok
    cut_at k j c d (Returns r) x ih ok = cut_after x.moves j _ 0 _ d x.to x.way (omega arith) (record {
      k = 1;
      same = ap (λ m. act effect m (cminor_output x.to) j (runs 0)) x.returns ∙ ap (λ o. record { stop = Ended r; output = o }) x.output;
      paid = omega arith;
    })
    cut_at k j c d Fails x ih ok = absurd ok

    pub cut : (k j : ℕ) (c d : Config) → Related c d → IsRight (runs k j c).stop → Cut j (runs k j c) (works k j c) d
    cut zero j c d rel ok = going (cminor_output c) d j (outputs c d rel)
    cut (suc k) j c d rel ok = cut_at k j c d (cminor_move c) (matches c d rel) (cut k) ok

    -- ---- a cut that breaks

    abbrev breaks : ℕ → ℕ → Config → Option (List ℕ)
    breaks k j c = broken cminor_move cminor_output effect k j c

    hung_after : (k j : ℕ) (o : List ℕ) (d : Config) (q : Question) (resume : Answer → Config) (x : Asks q resume d) (e : Effect) → effect j q ≡ e
        → ((i : ℕ) (c d : Config) → Related c d → breaks k i c ≡ Some o → Hangs i o d) → broken_resumed e resume (breaks k) ≡ Some o → Hangs j o d
    hung_after k j o d q resume x (Gives a left) eq ih f n =
        let y = ih left (resume a) (x.resume' a) (x.related j left a eq) f n in
        let did : works (suc y.k) j x.to ≡ suc (j - left + works y.k left (x.resume' a)) = ap (λ m. work_act effect m j (works y.k)) x.calls ∙ ap (λ v. suc (work_resumed v x.resume' j (works y.k))) eq in
        cut_after x.moves j _ n n d x.to x.way (omega arith) (record {
          k = suc y.k;
          same = ap (λ m. act effect m (cminor_output x.to) j (runs y.k)) x.calls ∙ ap (λ v. resumed v x.resume' (runs y.k)) eq ∙ y.same;
          paid = let z = y.paid in omega arith;
        })
    hung_after k j o d q resume x (Unfinished p) eq ih f n = absurd (let g : None ≡ Some o = f in cc)
    hung_after k j o d q resume x (Failed p) eq ih f n = absurd (let g : None ≡ Some o = f in cc)

    hung_at : (k j : ℕ) (o : List ℕ) (c d : Config) (m : Move Config) → Matches (cminor_output c) m d
        → ((i : ℕ) (c d : Config) → Related c d → breaks k i c ≡ Some o → Hangs i o d) → broken_act effect m (cminor_output c) j (breaks k) ≡ Some o → Hangs j o d
    hung_at k j o c d (Goes c') x ih f n = cut_after x.moves j _ n n d x.to x.way (omega arith) (ih j c' x.to x.related f n)
    hung_at k j o c d (Calls q resume) x ih f n = hung_after k j o d q resume x (effect j q) refl ih f n
    hung_at k j o c d (Returns r) x ih f n = absurd (let g : None ≡ Some o = f in cc)
    hung_at k j o c d Fails x ih f n =
        let g : cminor_output c ≡ o = (let y : Some (cminor_output c) ≡ Some o = f in cc) in
        hangs j o d (subst (λ p. Spins p d) g x) n

    pub hung : (k j : ℕ) (o : List ℕ) (c d : Config) → Related c d → breaks k j c ≡ Some o → Hangs j o d
    hung zero j o c d rel f = absurd (let g : None ≡ Some o = f in cc)
    hung (suc k) j o c d rel f = hung_at k j o c d (cminor_move c) (matches c d rel) (λ i c d. hung k i o c d) f

    -- ---- what holds at an effect

    abbrev pub IsKept : (rate n : ℕ) → Effect → Config → Type 0
    IsKept rate n e c = (k : ℕ) × (j : ℕ) × Keeps rate n e (works k j c) (runs k j c)

    more_paid : (rate n left v w : ℕ) → v ≤ w → n ≤ left + rate * suc v → n ≤ left + rate * suc w
    more_paid rate n left v w le a = let g : rate * suc v ≤ rate * suc w = mul-le-mul_left rate (let o : suc v ≤ suc w = omega arith in o) in omega arith

    enough : (rate n v : ℕ) → n ≤ v → n ≤ suc rate * suc v
    enough rate n v le = let g = suc-mul rate (suc v) in omega arith

    kept_on : (rate n k j : ℕ) (e : Effect) (c d : Config) → Related c d → Keeps rate n e (works k j c) (runs k j c) → IsKept rate n e d
    kept_on rate n k j (Gives a left) c d rel p =
        let x = cut k j c d rel (subst (λ (o : Outcome Answer). IsRight o.stop) (sym p.0) tt) in
        (x.k, j, (x.same ∙ p.0, more_paid rate n left (works k j c) (works x.k j d) x.paid p.1))
    kept_on rate n k j (Unfinished o) c d rel p =
        let x = cut k j c d rel (subst (λ (o : Outcome Answer). IsRight o.stop) (sym p.0) tt) in
        let e : n ≤ 0 + rate * suc (works x.k j d) = more_paid rate n 0 (works k j c) (works x.k j d) x.paid (let y = p.1 in omega arith) in
        (x.k, j, (x.same ∙ p.0, omega arith))
    kept_on rate n k j (Failed o) c d rel p = (0, 0, tt)

    -- at every rate above 0, the guarded code keeps up with a run of the code, if that run breaks
    pub broken_on : (rate n : ℕ) (e : Effect) (c d : Config) → Related c d → BreaksAt cminor_move cminor_output effect e c → IsKept (suc rate) n e d
    broken_on rate n (Gives a left) c d rel p = absurd p
    broken_on rate n (Unfinished o) c d rel p = let y = hung p.moves p.steps o c d rel p.breaks n in (y.k, p.steps, (y.same, enough rate n (works y.k p.steps d) y.paid))
    broken_on rate n (Failed o) c d rel p = absurd p

    -- if `IsKept` holds after the first moves of a run, it holds at the start of the run
    pub kept_after : (m rate n : ℕ) (e : Effect) (c d : Config) → Way m c d → IsKept rate n e d → IsKept rate n e c
    kept_after m rate n (Gives a left) c d p (k, j, q) =
        (m + k, j, (way_run m k j c d p ∙ q.0, more_paid rate n left (works k j d) (works (m + k) j c) (let e = way_work m k j c d p in omega arith) q.1))
    kept_after m rate n (Unfinished o) c d p (k, j, q) =
        let e : n ≤ 0 + rate * suc (works (m + k) j c) = more_paid rate n 0 (works k j d) (works (m + k) j c) (let f = way_work m k j c d p in omega arith) (let y = q.1 in omega arith) in
        (m + k, j, (way_run m k j c d p ∙ q.0, omega arith))
    kept_after m rate n (Failed o) c d p q = (0, 0, tt)

    pub keeps_on : (rate n : ℕ) (e : Effect) (c d : Config) (most most_steps : ℕ) → Related c d → Keeping cminor_move cminor_output effect (suc rate) n e c most most_steps → IsKept (suc rate) n e d
    keeps_on rate n e c d most most_steps rel p = kept_on (suc rate) n p.moves p.steps e c d rel p.keeps
