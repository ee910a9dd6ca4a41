-- What follows from a simulation: there is a cut of the new run for each cut of the old one; and what the old run guarantees, the
-- new one guarantees at a coarser rate.
use Rattle.std.proofs.Common.{◌≡◌, ℕ, zero, suc, ◌+◌, ◌-◌, ◌*◌, ◌<◌, ◌≤◌, List, refl, ap, ◌∙◌, subst, ◌⊎◌, inl, inr, arith}
use Rattle.std.proofs.Math.Nat.{mul-suc, suc-mul, mul-le-mul_left, mul-add, mul_assoc}
use Rattle.cc_simulation.specs.Behavior.{Stop, Going, Ended, Wrong, Outcome, AreWords}
use Rattle.cc_simulation.specs.World.{World, Question, Answer, Effect, Gives, Unfinished, Failed}
use Rattle.cc_simulation.specs.Run.{Move, Goes, Calls, Returns, Fails, run, work, act, resumed, work_act, work_resumed}
use Rattle.cc_simulation.specs.Meaning.{Meaning, IsCall, call_effect}
use Rattle.cc_simulation.specs.Tracks.{Keeps, Tracks, TracksForAll}
use Rattle.cc_simulation.specs.internal.Simulation.{Way, Advances, Asks, Ending, Simulation}

-- a path of n moves and then one of m moves are a path of n + m moves
pub way_then : {D : Type 0} (move : D → Move D) (output : D → List ℕ) (n m : ℕ) (d e f : D) → Way move output n d e → Way move output m e f → Way move output (n + m) d f
way_then {D} move output zero zero d e f p q = (p.0 ∙ q.0, p.1 ∙ q.1)
way_then {D} move output zero (suc m) d e f p (u, q, r) =
    let z : suc m ≡ 0 + suc m = omega arith in
    subst (λ k. Way {D = D} move output k d f) z (u, p.0 ∙ q, r)
way_then {D} move output (suc n) m d e f (u, q, r) s =
    let z : suc (n + m) ≡ suc n + m = omega arith in
    subst (λ k. Way {D = D} move output k d f) z (u, q, way_then {D = D} move output n m u e f r s)

module _ {C D : Type 0} (old : C → Move C) (old_output : C → List ℕ) (new : D → Move D) (new_output : D → List ℕ) (effect : ℕ → Question → Effect) where
  way_run : (n m j : ℕ) (d e : D) → Way new new_output n d e → run new new_output effect (n + m) j d ≡ run new new_output effect m j e
  way_run zero zero j d e p = ap {B = Outcome Answer} (λ o. record { stop = Going; output = o }) p.1
  way_run zero (suc m) j d e p =
      let z : 0 + suc m ≡ suc m = omega arith in
      ap (λ k. run new new_output effect k j d) z ∙ ap (λ v. act effect v (new_output d) j (run new new_output effect m)) p.0 ∙ ap (λ o. act effect (new e) o j (run new new_output effect m)) p.1
  way_run (suc n) m j d e (u, q, r) =
      let z : suc n + m ≡ suc (n + m) = omega arith in
      ap (λ k. run new new_output effect k j d) z ∙ ap (λ v. act effect v (new_output d) j (run new new_output effect (n + m))) q ∙ way_run n m j u e r

  way_work : (n m j : ℕ) (d e : D) → Way new new_output n d e → work new effect (n + m) j d ≡ n + work new effect m j e
  way_work zero zero j d e p = refl
  way_work zero (suc m) j d e p =
      let z : 0 + suc m ≡ suc m = omega arith in
      let y : work new effect (suc m) j e ≡ 0 + work new effect (suc m) j e = omega arith in
      ap (λ k. work new effect k j d) z ∙ ap (λ v. work_act effect v j (work new effect m)) p.0 ∙ y
  way_work (suc n) m j d e (u, q, r) =
      let z : suc n + m ≡ suc (n + m) = omega arith in
      let y : suc (n + work new effect m j e) ≡ suc n + work new effect m j e = omega arith in
      ap (λ k. work new effect k j d) z ∙ ap (λ v. work_act effect v j (work new effect (n + m))) q ∙ ap suc (way_work n m j u e r) ∙ y

  module _ (Related : C → D → Type 0) (measure : C → ℕ) (deep wide : ℕ) (sim : Simulation old old_output new new_output Related measure deep wide) where
    abbrev old_run : ℕ → ℕ → C → Outcome Answer
    old_run k j c = run old old_output effect k j c

    abbrev new_run : ℕ → ℕ → D → Outcome Answer
    new_run k j d = run new new_output effect k j d

    abbrev old_work : ℕ → ℕ → C → ℕ
    old_work k j c = work old effect k j c

    abbrev new_work : ℕ → ℕ → D → ℕ
    new_work k j d = work new effect k j d

    abbrev Shown : Stop Answer → Outcome Answer → Outcome Answer → Type 0
    Shown Going a z = z ≡ a
    Shown (Ended r) a z = z ≡ a
    Shown Wrong a z = Unit {0}

    shown : (s : Stop Answer) (a z : Outcome Answer) → z ≡ a → Shown s a z
    shown Going a z e = e
    shown (Ended r) a z e = e
    shown Wrong a z e = tt

    shown_from : (s : Stop Answer) (a y z : Outcome Answer) → z ≡ y → Shown s a y → Shown s a z
    shown_from Going a y z e h = e ∙ h
    shown_from (Ended r) a y z e h = e ∙ h
    shown_from Wrong a y z e h = tt

    -- a cut of the new run that shows what a cut of the old one shows
    pub record Cut (top k j : ℕ) (a : Outcome Answer) (done : ℕ) (d : D) : Type 0 where
      pub moves : ℕ
      pub few : moves ≤ suc wide * k
      pub shows : Shown a.stop a (new_run moves j d)
      pub paid : done ≤ top + suc deep * new_work moves j d

    -- a cut after a path is a cut from the path's start
    after_way : (n k j m done top : ℕ) (a : Outcome Answer) (d e : D) → Way new new_output n d e → n + m ≤ suc wide * suc k → Shown a.stop a (new_run m j e) → done ≤ top + suc deep * (n + new_work m j e) → Cut top (suc k) j a done d
    after_way n k j m done top a d e p few x le =
        let same : new_run (n + m) j d ≡ new_run m j e = way_run n m j d e p in
        let all : new_work (n + m) j d ≡ n + new_work m j e = way_work n m j d e p in
        record { moves = n + m; few = few; shows = shown_from a.stop a _ _ same x; paid = let g = ap (λ y. suc deep * y) all in omega arith }

    least : (n : ℕ) → n ≤ suc deep * n
    least n = let e = suc-mul deep n in omega arith

    paid_call : (top n w t u v : ℕ) → w ≡ suc (t + u) → v ≤ deep + suc deep * u → suc (t + v) ≤ top + suc deep * (n + w)
    paid_call top n w t u v e le =
        let f = mul-add (suc deep) n w in
        let g = ap (λ x. suc deep * x) e in
        let h = mul-suc (suc deep) (t + u) in
        let i = mul-add (suc deep) t u in
        let l = least t in
        omega arith

    paid_stop : (top n w j : ℕ) → w ≡ suc j → suc j ≤ top + suc deep * (n + w)
    paid_stop top n w j e =
        let f = mul-add (suc deep) n w in
        let l = least w in
        omega arith

    advanced : (k j : ℕ) (c c' : C) (d : D) (a : Outcome Answer) (done : ℕ) (x : Advances old old_output new new_output Related wide c' d) → Cut (measure c') k j a done x.to → Cut (measure c) (suc k) j a (suc done) d
    advanced k j c c' d a done x y =
        let f = x.few in
        let g = y.few in
        let h = mul-suc (suc wide) k in
        let p = y.paid in
        let l = sim.low c' x.to x.related in
        let one : suc deep * 1 ≤ suc deep * x.moves = mul-le-mul_left (suc deep) x.one in
        let e = mul-add (suc deep) x.moves (new_work y.moves j x.to) in
        after_way x.moves k j y.moves (suc done) (measure c) a d x.to x.way (omega arith) y.shows (omega arith)

    stuttered : (k j : ℕ) (c c' : C) (d : D) (a : Outcome Answer) (done : ℕ) → measure c' < measure c → Cut (measure c') k j a done d → Cut (measure c) (suc k) j a (suc done) d
    stuttered k j c c' d a done lt y = record { moves = y.moves; few = let g = y.few in let h = mul-suc (suc wide) k in omega arith; shows = y.shows; paid = let p = y.paid in omega arith }

    gone : (k j : ℕ) (c c' : C) (d : D) → ((j : ℕ) (c : C) (d : D) → Related c d → Cut (measure c) k j (old_run k j c) (old_work k j c) d) → Advances old old_output new new_output Related wide c' d ⊎ (Related c' d × (measure c' < measure c)) → Cut (measure c) (suc k) j (old_run k j c') (suc (old_work k j c')) d
    gone k j c c' d ih (inl x) = advanced k j c c' d _ _ x (ih j c' x.to x.related)
    gone k j c c' d ih (inr x) = stuttered k j c c' d _ _ x.1 (ih j c' d x.0)

    asked : (k j : ℕ) (c : C) (d : D) (q : Question) (resume : Answer → C) (x : Asks old old_output new new_output Related wide q resume d) (e : Effect) → effect j q ≡ e → ((j : ℕ) (c : C) (d : D) → Related c d → Cut (measure c) k j (old_run k j c) (old_work k j c) d)
        → Cut (measure c) (suc k) j (resumed e resume (old_run k)) (suc (work_resumed e resume j (old_work k))) d
    asked k j c d q resume x (Gives a left) eq ih =
        let y = ih left (resume a) (x.resume' a) (x.related a) in
        let m = suc y.moves in
        let same : new_run m j x.to ≡ new_run y.moves left (x.resume' a) = ap (λ v. act effect v (new_output x.to) j (new_run y.moves)) x.calls ∙ ap (λ v. resumed v x.resume' (new_run y.moves)) eq in
        let did : new_work m j x.to ≡ suc (j - left + new_work y.moves left (x.resume' a)) = ap (λ v. work_act effect v j (new_work y.moves)) x.calls ∙ ap (λ v. suc (work_resumed v x.resume' j (new_work y.moves))) eq in
        let f = x.few in
        let g = y.few in
        let h = mul-suc (suc wide) k in
        let p = y.paid in
        let l = sim.low (resume a) (x.resume' a) (x.related a) in
        after_way x.moves k j m _ (measure c) _ d x.to x.way (omega arith) (shown_from _ _ _ _ same y.shows) (paid_call (measure c) x.moves (new_work m j x.to) (j - left) (new_work y.moves left (x.resume' a)) (old_work k left (resume a)) did (omega arith))
    asked k j c d q resume x (Unfinished o) eq ih =
        let same : new_run 1 j x.to ≡ record { stop = Going; output = o } = ap (λ v. act effect v (new_output x.to) j (new_run 0)) x.calls ∙ ap (λ v. resumed v x.resume' (new_run 0)) eq in
        let did : new_work 1 j x.to ≡ suc j = ap (λ v. work_act effect v j (new_work 0)) x.calls ∙ ap (λ v. suc (work_resumed v x.resume' j (new_work 0))) eq in
        let f = x.few in
        let h = mul-suc (suc wide) k in
        after_way x.moves k j 1 (suc j) (measure c) _ d x.to x.way (omega arith) same (paid_stop (measure c) x.moves (new_work 1 j x.to) j did)
    asked k j c d q resume x (Failed o) eq ih =
        let did : new_work 1 j x.to ≡ suc j = ap (λ v. work_act effect v j (new_work 0)) x.calls ∙ ap (λ v. suc (work_resumed v x.resume' j (new_work 0))) eq in
        let f = x.few in
        let h = mul-suc (suc wide) k in
        after_way x.moves k j 1 (suc j) (measure c) _ d x.to x.way (omega arith) tt (paid_stop (measure c) x.moves (new_work 1 j x.to) j did)

    ending : (k j : ℕ) (c : C) (r : Answer) (d : D) → Ending old old_output new new_output wide r (old_output c) d → Cut (measure c) (suc k) j (record { stop = Ended r; output = old_output c }) 0 d
    ending k j c r d x =
        let same : new_run 1 j x.to ≡ record { stop = Ended r; output = old_output c } = ap (λ v. act effect v (new_output x.to) j (new_run 0)) x.returns ∙ ap (λ o. record { stop = Ended r; output = o }) x.output in
        let f = x.few in
        let h = mul-suc (suc wide) k in
        after_way x.moves k j 1 0 (measure c) _ d x.to x.way (omega arith) same (omega arith)

    cut_at : (k j : ℕ) (c : C) (d : D) (m : Move C) → old c ≡ m → Related c d → ((j : ℕ) (c : C) (d : D) → Related c d → Cut (measure c) k j (old_run k j c) (old_work k j c) d)
        → Cut (measure c) (suc k) j (act effect m (old_output c) j (old_run k)) (work_act effect m j (old_work k)) d
    cut_at k j c d (Goes c') e rel ih = gone k j c c' d ih (sim.goes c c' d rel e)
    cut_at k j c d (Calls q resume) e rel ih = asked k j c d q resume (sim.asks c q resume d rel e) (effect j q) refl ih
    cut_at k j c d (Returns r) e rel ih = ending k j c r d (sim.ends c r d rel e)
    cut_at k j c d Fails e rel ih = record { moves = 0; few = omega arith; shows = tt; paid = omega arith }

    pub cut : (k j : ℕ) (c : C) (d : D) → Related c d → Cut (measure c) k j (old_run k j c) (old_work k j c) d
    cut zero j c d rel = record { moves = 0; few = omega arith; shows = ap (λ o. record { stop = Going; output = o }) (sim.outputs c d rel); paid = omega arith }
    cut (suc k) j c d rel = cut_at k j c d (old c) refl rel (cut k)

    -- what the old run guarantees, the new one guarantees at a coarser rate, within `suc wide` times the moves and the same steps
    pub record StillKeeps (r n k j : ℕ) (e : Effect) (d : D) : Type 0 where
      pub moves : ℕ
      pub few : moves ≤ suc wide * k
      pub keeps : Keeps (r * suc deep) n e (new_work moves j d) (new_run moves j d)

    coarser_pays : (r n left v w top : ℕ) → top ≤ deep → v ≤ top + suc deep * w → n ≤ left + r * suc v → n ≤ left + r * suc deep * suc w
    coarser_pays r n left v w top low b a =
        let f = mul-suc (suc deep) w in
        let g : r * suc v ≤ r * (suc deep * suc w) = mul-le-mul_left r (let o : suc v ≤ suc deep * suc w = omega arith in o) in
        let h = mul_assoc r (suc deep) (suc w) in
        omega arith

    pub still_keeps : (r n k j : ℕ) (e : Effect) (c : C) (d : D) → Related c d → Keeps r n e (old_work k j c) (old_run k j c) → StillKeeps r n k j e d
    still_keeps r n k j (Gives a left) c d rel (z, b) = let x = cut k j c d rel in record { moves = x.moves; few = x.few; keeps = (subst (λ y. Shown y.stop y (new_run x.moves j d)) z x.shows, coarser_pays r n left (old_work k j c) (new_work x.moves j d) (measure c) (sim.low c d rel) x.paid b) }
    still_keeps r n k j (Unfinished o) c d rel (z, b) = let x = cut k j c d rel in record { moves = x.moves; few = x.few; keeps = (subst (λ y. Shown y.stop y (new_run x.moves j d)) z x.shows, (let s = coarser_pays r n 0 (old_work k j c) (new_work x.moves j d) (measure c) (sim.low c d rel) x.paid (omega arith) in omega arith)) }
    still_keeps r n k j (Failed o) c d rel kept = record { moves = 0; few = omega arith; keeps = tt }

-- ---- the same, as functions guarantee it

abbrev pub coarser : (rate deep : ℕ) → ℕ
coarser rate deep = rate * suc deep

pub tracks_on : (meaning : Meaning) (f rate : ℕ) {C D : Type 0} (old : C → Move C) (old_output : C → List ℕ) (new : D → Move D) (new_output : D → List ℕ)
    (Related : C → D → Type 0) (measure : C → ℕ) (deep wide : ℕ) → Simulation old old_output new new_output Related measure deep wide
    → (old_start : List ℕ → World → C) (new_start : List ℕ → World → D) → ((ws : List ℕ) (h : World) → IsCall meaning f ws h → Related (old_start ws h) (new_start ws h))
    → Tracks meaning f rate old old_output old_start → Tracks meaning f (coarser rate deep) new new_output new_start
tracks_on meaning f rate old old_output new new_output Related measure deep wide sim old_start new_start starts tracks d below ws h is_call n =
    let t = tracks d below ws h is_call n in
    let k = t.2 in
    let x = still_keeps old old_output new new_output (call_effect meaning (suc d)) Related measure deep wide sim rate n k.moves k.steps (meaning.body n d f ws h) (old_start ws h) (new_start ws h) (starts ws h is_call) k.keeps in
    let few : suc wide * k.moves ≤ suc wide * t.0 = mul-le-mul_left (suc wide) k.few in
    (suc wide * t.0, t.1, record { moves = x.moves; steps = k.steps; few = let a = x.few in omega arith; few_steps = k.few_steps; keeps = x.keeps })

pub tracks_on_for_all : (meaning : Meaning) (f rate : ℕ) {C D : Type 0} (old : C → Move C) (old_output : C → List ℕ) (new : D → Move D) (new_output : D → List ℕ)
    (Related : C → D → Type 0) (measure : C → ℕ) (deep wide : ℕ) → Simulation old old_output new new_output Related measure deep wide
    → (old_start : List ℕ → List ℕ → World → C) (new_start : List ℕ → List ℕ → World → D) → ((words : List ℕ) → AreWords words → (ws : List ℕ) (h : World) → IsCall meaning f ws h → Related (old_start words ws h) (new_start words ws h))
    → TracksForAll meaning f rate old old_output old_start → TracksForAll meaning f (coarser rate deep) new new_output new_start
tracks_on_for_all meaning f rate old old_output new new_output Related measure deep wide sim old_start new_start starts keeps d below ws h is_call n =
    let t = keeps d below ws h is_call n in (
      suc wide * t.0,
      t.1,
      λ words are.
          let k = t.2 words are in
          let x = still_keeps old old_output new new_output (call_effect meaning (suc d)) Related measure deep wide sim rate n k.moves k.steps (meaning.body n d f ws h) (old_start words ws h) (new_start words ws h) (starts words are ws h is_call) k.keeps in
          let few : suc wide * k.moves ≤ suc wide * t.0 = mul-le-mul_left (suc wide) k.few in
          record { moves = x.moves; steps = k.steps; few = let a = x.few in omega arith; few_steps = k.few_steps; keeps = x.keeps },
    )
