-- Two languages in lockstep have the same run and the same work, cut for cut; so what the first guarantees, the second one
-- guarantees too, for all lists.
use Rattle.std.proofs.Common.{◌≡◌, ℕ, zero, suc, ◌-◌, ◌+◌, List, refl, sym, ap, ◌∙◌, subst, arith}
use Rattle.cc_simulation.specs.Behavior.{Going, Outcome, FollowsForAll, AreWords}
use Rattle.cc_simulation.specs.World.{World, Question, Answer, Effect, Gives, Unfinished, Failed}
use Rattle.cc_simulation.specs.Run.{Move, Goes, Calls, Returns, Fails, run, act, resumed, work, work_act, work_resumed}
use Rattle.cc_simulation.specs.Meaning.{Meaning, IsCall, call_effect}
use Rattle.cc_simulation.specs.Tracks.{Keeps, Tracks, TracksForAll}
use Rattle.cc_simulation.specs.internal.Simulation.{Alike, Lockstep}
use Rattle.cc_simulation.proofs.Behaving.{shows_same, follows_same}

module _ {C D : Type 0} (Same : C → D → Type 0) (move : C → Move C) (output : C → List ℕ) (move' : D → Move D) (output' : D → List ℕ) (effect : ℕ → Question → Effect) (lock : Lockstep move output move' output' Same) where
  resumed_alike : (e : Effect) (k : ℕ) (f : Answer → C) (g : Answer → D) → ((a : Answer) → Same (f a) (g a)) → ((j : ℕ) (c : C) (d : D) → Same c d → run move output effect k j c ≡ run move' output' effect k j d)
      → resumed e f (run move output effect k) ≡ resumed e g (run move' output' effect k)
  resumed_alike (Gives a left) k f g same ih = ih left (f a) (g a) (same a)
  resumed_alike (Unfinished o) k f g same ih = refl
  resumed_alike (Failed o) k f g same ih = refl

  act_alike : (m : Move C) (n : Move D) (k j : ℕ) (o p : List ℕ) → Alike Same m n → o ≡ p → ((j : ℕ) (c : C) (d : D) → Same c d → run move output effect k j c ≡ run move' output' effect k j d)
      → act effect m o j (run move output effect k) ≡ act effect n p j (run move' output' effect k)
  act_alike (Goes c) (Goes d) k j o p h e ih = ih j c d h
  act_alike (Calls q f) (Calls r g) k j o p h e ih =
      resumed_alike (effect j q) k f g h.1 ih ∙ ap (λ (z : Question). resumed (effect j z) g (run move' output' effect k)) h.0
  act_alike (Returns r) (Returns s) k j o p h e ih = cc
  act_alike Fails Fails k j o p h e ih = cc
  act_alike m n k j o p h e ih = absurd h

  pub same_run : (k j : ℕ) (c : C) (d : D) → Same c d → run move output effect k j c ≡ run move' output' effect k j d
  same_run zero j c d h = ap {B = Outcome Answer} (λ o. record { stop = Going; output = o }) (sym (lock.outputs c d h))
  same_run (suc k) j c d h = act_alike (move c) (move' d) k j (output c) (output' d) (lock.alike c d h) (sym (lock.outputs c d h)) (same_run k)

  worked_resumed : (e : Effect) (k j : ℕ) (f : Answer → C) (g : Answer → D) → ((a : Answer) → Same (f a) (g a)) → ((j : ℕ) (c : C) (d : D) → Same c d → work move effect k j c ≡ work move' effect k j d)
      → work_resumed e f j (work move effect k) ≡ work_resumed e g j (work move' effect k)
  worked_resumed (Gives a left) k j f g same ih = ap (λ n. (j - left) + n) (ih left (f a) (g a) (same a))
  worked_resumed (Unfinished o) k j f g same ih = refl
  worked_resumed (Failed o) k j f g same ih = refl

  worked_alike : (m : Move C) (n : Move D) (k j : ℕ) → Alike Same m n → ((j : ℕ) (c : C) (d : D) → Same c d → work move effect k j c ≡ work move' effect k j d)
      → work_act effect m j (work move effect k) ≡ work_act effect n j (work move' effect k)
  worked_alike (Goes c) (Goes d) k j h ih = ap suc (ih j c d h)
  worked_alike (Calls q f) (Calls r g) k j h ih =
      ap suc (worked_resumed (effect j q) k j f g h.1 ih ∙ ap (λ (z : Question). work_resumed (effect j z) g j (work move' effect k)) h.0)
  worked_alike (Returns r) (Returns s) k j h ih = refl
  worked_alike Fails Fails k j h ih = refl
  worked_alike m n k j h ih = absurd h

  pub same_work : (k j : ℕ) (c : C) (d : D) → Same c d → work move effect k j c ≡ work move' effect k j d
  same_work zero j c d h = refl
  same_work (suc k) j c d h = worked_alike (move c) (move' d) k j (lock.alike c d h) (same_work k)

-- the rate is the same, and for each list the cut is that of the first language
pub lockstep_on : (meaning : Meaning) (f rate : ℕ) {C D : Type 0} (old : C → Move C) (old_output : C → List ℕ) (new : D → Move D) (new_output : D → List ℕ) (Same : C → D → Type 0)
    → Lockstep old old_output new new_output Same
    → (old_start : List ℕ → World → C) (new_start : List ℕ → List ℕ → World → D) → ((words : List ℕ) → AreWords words → (ws : List ℕ) (h : World) → IsCall meaning f ws h → Same (old_start ws h) (new_start words ws h))
    → Tracks meaning f rate old old_output old_start → TracksForAll meaning f rate new new_output new_start
lockstep_on meaning f rate old old_output new new_output Same lock old_start new_start starts tracks d below ws h is_call n =
    let t = tracks d below ws h is_call n in
    let k = t.2 in (
      t.0,
      t.1,
      λ words are.
          let e = call_effect meaning (suc d) in
          let s = starts words are ws h is_call in
          let r = same_run Same old old_output new new_output e lock k.moves k.steps (old_start ws h) (new_start words ws h) s in
          let w = same_work Same old old_output new new_output e lock k.moves k.steps (old_start ws h) (new_start words ws h) s in
          record {
            moves = k.moves;
            steps = k.steps;
            few = k.few;
            few_steps = k.few_steps;
            keeps = subst (λ v. Keeps rate n (meaning.body n d f ws h) v (run new new_output e k.moves k.steps (new_start words ws h))) w (subst (Keeps rate n (meaning.body n d f ws h) (work old e k.moves k.steps (old_start ws h))) r k.keeps);
          },
    )

-- the new run follows the old one, for every list
pub lockstep_follows : {C D : Type 0} (Same : C → D → Type 0) (old : C → Move C) (old_output : C → List ℕ) (new : D → Move D) (new_output : D → List ℕ) (effect : ℕ → Question → Effect)
    → Lockstep old old_output new new_output Same → (c : C) (start : List ℕ → D) → ((words : List ℕ) → AreWords words → Same c (start words))
    → FollowsForAll (λ (b : ℕ × ℕ). run old old_output effect b.0 b.1 c) (λ words (b : ℕ × ℕ). run new new_output effect b.0 b.1 (start words))
lockstep_follows Same old old_output new new_output effect lock c start same = record {
  each = λ words are. follows_same (λ (b : ℕ × ℕ). run old old_output effect b.0 b.1 c) (λ (b : ℕ × ℕ). run new new_output effect b.0 b.1 (start words)) (λ b. same_run Same old old_output new new_output effect lock b.0 b.1 c (start words) (same words are));
  within = λ b ok. (b, λ words are. (b, omega arith, omega arith, shows_same (run old old_output effect b.0 b.1 c) (run new new_output effect b.0 b.1 (start words)) (same_run Same old old_output new new_output effect lock b.0 b.1 c (start words) (same words are)) ok));
}
