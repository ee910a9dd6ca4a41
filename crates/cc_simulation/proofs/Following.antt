-- A run that keeps up with a bounded meaning, at whatever rate, follows it; for all lists of unknown words too, by cuts with the
-- same limits.
use Rattle.std.proofs.Common.{◌≡◌, ℕ, zero, suc, ◌+◌, ◌-◌, ◌*◌, ◌<◌, ◌≤◌, List, refl, sym, ap, ◌∙◌, subst, ◌⊎◌, inl, inr, arith}
use Rattle.std.proofs.Math.Nat.{mul-le-mul_left}
use Rattle.std.proofs.lemmas.Bool.{cases_lt}
use Rattle.cc_simulation.specs.Behavior.{Stop, Going, Ended, Wrong, Outcome, IsRight, IsPrefixOf, EndsAlike, Shows, Follows, FollowsForAll}
use Rattle.cc_simulation.specs.World.{World, Question, Answer, Effect, Gives, Unfinished, Failed}
use Rattle.cc_simulation.specs.Run.{Move, Goes, Calls, Returns, Fails, run, work, work_act, work_resumed}
use Rattle.cc_simulation.specs.Meaning.{Meaning, most_open, IsCall, call_effect, written_by, Later, IsExact, answered}
use Rattle.cc_simulation.specs.Tracks.{Keeps, Keeping, Tracks, TracksForAll}
use Rattle.cc_simulation.specs.Cuts.{StaysBy, Below, Comparable, IsLayer}
use Rattle.cc_simulation.specs.internal.Effects.{After, UnfinishedThen, LaterAt, Within, HasEffects}
use Rattle.cc_simulation.proofs.Behaving.{begins_refl, shows_same}
use Rattle.cc_simulation.proofs.Cuts.{comparable}

abbrev pub Matched : ℕ → ℕ → Stop Answer → Outcome Answer → ℕ → Outcome Answer → Type 0
Matched rate n Going a v z = (z ≡ a) × (n ≤ rate * suc v)
Matched rate n (Ended r) a v z = z ≡ a
Matched rate n Wrong a v z = Unit {0}

matched_of : (rate n v : ℕ) (e : Effect) (z : Outcome Answer) → Keeps rate n e v z → Matched rate n (answered e).stop (answered e) v z
matched_of rate n v (Gives a left) z k = k.0
matched_of rate n v (Unfinished o) z k = k
matched_of rate n v (Failed o) z k = tt

module _ {C : Type 0} (move : C → Move C) (output : C → List ℕ) (effect : ℕ → Question → Effect) (laws : HasEffects move output effect) (rate : ℕ) (meaning : ℕ → Effect) (start : C) where
  abbrev at : ℕ × ℕ → Outcome Answer
  at b = run move output effect b.0 b.1 start

  abbrev done : ℕ × ℕ → ℕ
  done b = work move effect b.0 b.1 start

  abbrev source : ℕ → Outcome Answer
  source n = answered (meaning n)

  -- a cut for each number of steps, with any limits
  abbrev Kept : ℕ → Type 0
  Kept n = (most : ℕ) × (most_steps : ℕ) × Keeping move output effect rate n (meaning n) start most most_steps

  within_call : (k j : ℕ) (resume : Answer → C) (e : Effect) → Within j e → ((i : ℕ) (c : C) → work move effect k i c ≤ k + i) → suc (work_resumed e resume j (work move effect k)) ≤ suc k + j
  within_call k j resume (Gives a left) w ih = let h = ih left (resume a) in let i : left ≤ j = w in omega arith
  within_call k j resume (Unfinished o) w ih = omega arith
  within_call k j resume (Failed o) w ih = omega arith

  within_move : (k j : ℕ) (c : C) (m : Move C) → move c ≡ m → ((i : ℕ) (c : C) → work move effect k i c ≤ k + i) → work_act effect m j (work move effect k) ≤ suc k + j
  within_move k j c (Goes d) e ih = let h = ih j d in omega arith
  within_move k j c (Calls q resume) e ih = within_call k j resume (effect j q) (laws.within c q resume e j) ih
  within_move k j c (Returns r) e ih = omega arith
  within_move k j c Fails e ih = omega arith

  -- the work is at most the sum of the bounds
  bounded : (k j : ℕ) (c : C) → work move effect k j c ≤ k + j
  bounded zero j c = omega arith
  bounded (suc k) j c = within_move k j c (move c) refl (bounded k)

  abbrev Covered : Outcome Answer → Outcome Answer → Type 0
  Covered z a = IsRight z.stop × IsPrefixOf z.output a.output × EndsAlike z.stop a.stop

  covered_refl : (a : Outcome Answer) → IsRight a.stop → Covered a a
  covered_refl a ok = (ok, begins_refl a.output, λ r e. e)

  -- an outcome that begins a right outcome is covered by that one
  covered_by : (z a : Outcome Answer) (t : Stop Answer) → z.stop ≡ t → StaysBy t z a → IsRight a.stop → IsPrefixOf z.output a.output → Covered z a
  covered_by z a Going e stays ok b = (subst IsRight (sym e) tt, b, λ r f. absurd (let g : Going ≡ Ended r = sym e ∙ f in cc))
  covered_by z a (Ended q) e stays ok b = subst (Covered z) (sym stays) (covered_refl z (subst IsRight (sym e) tt))
  covered_by z a Wrong e stays ok b = subst (Covered z) (sym stays) (covered_refl z (subst (λ (y : Outcome Answer). IsRight y.stop) stays ok))

  covered_below : (z a : Outcome Answer) (v w : ℕ) → Below z v a w → IsRight a.stop → Covered z a
  covered_below z a v w h ok = covered_by z a z.stop refl h.stays ok h.output

  -- an outcome that is over equals each cut that begins with it
  over_same : (z a : Outcome Answer) (r : Answer) (s : Stop Answer) → a.stop ≡ s → s ≡ Ended r → StaysBy s a z → z ≡ a
  over_same z a r Going e f stays = absurd (let g : Going ≡ Ended r = f in cc)
  over_same z a r (Ended q) e f stays = stays
  over_same z a r Wrong e f stays = stays

  covers_ended : (b d : ℕ × ℕ) (a : Outcome Answer) (r : Answer) → a.stop ≡ Ended r → at d ≡ a → Comparable (at b) (done b) (at d) (done d) → Covered (at b) a
  covers_ended b d a r e m (inl h) = subst (Covered (at b)) m (covered_below (at b) (at d) (done b) (done d) h (subst (λ (y : Outcome Answer). IsRight y.stop) (sym m) (subst IsRight (sym e) tt)))
  covers_ended b d a r e m (inr h) =
      let f : (at d).stop ≡ Ended r = ap (λ (y : Outcome Answer). y.stop) m ∙ e in
      let same = over_same (at b) (at d) r (at d).stop refl f h.stays in
      subst (λ y. Covered y a) (sym (same ∙ m)) (covered_refl a (subst IsRight (sym e) tt))

  covers_going : (n : ℕ) (b d : ℕ × ℕ) (a : Outcome Answer) → IsRight a.stop → at d ≡ a → n ≤ rate * suc (done d) → rate * suc (done b) < n → Comparable (at b) (done b) (at d) (done d) → Covered (at b) a
  covers_going n b d a ok m le lt (inl h) = subst (Covered (at b)) m (covered_below (at b) (at d) (done b) (done d) h (subst (λ (y : Outcome Answer). IsRight y.stop) (sym m) ok))
  covers_going n b d a ok m le lt (inr h) = absurd (let few : suc (done d) ≤ suc (done b) = (let w = h.work_le in omega arith) in let g : rate * suc (done d) ≤ rate * suc (done b) = mul-le-mul_left rate few in omega arith)

  covers : (n : ℕ) (b d : ℕ × ℕ) (a : Outcome Answer) (s : Stop Answer) → a.stop ≡ s → IsRight s → Matched rate n s a (done d) (at d) → rate * suc (done b) < n → Covered (at b) a
  covers n b d a Going e ok m lt = covers_going n b d a (subst IsRight (sym e) tt) m.0 m.1 lt (comparable move output effect laws b.0 d.0 b.1 d.1 start)
  covers n b d a (Ended r) e ok m lt = covers_ended b d a r e m (comparable move output effect laws b.0 d.0 b.1 d.1 start)
  covers n b d a Wrong e ok m lt = absurd ok

  -- the cut (k, j) is covered by the source at rate * (k + j + 1) + 1 steps
  abbrev bound : ℕ × ℕ → ℕ
  bound b = suc (rate * suc (b.0 + b.1))

  covered : ((n : ℕ) → Kept n) → ((n : ℕ) → IsRight (source n).stop) → (b : ℕ × ℕ) → Covered (at b) (source (bound b))
  covered tracks ok b =
      let t = (tracks (bound b)).2 in
      let d : ℕ × ℕ = (t.moves, t.steps) in
      let le : suc (done b) ≤ suc (b.0 + b.1) = (let w = bounded b.0 b.1 start in omega arith) in
      let g : rate * suc (done b) ≤ rate * suc (b.0 + b.1) = mul-le-mul_left rate le in
      covers (bound b) b d (source (bound b)) (source (bound b)).stop refl (ok (bound b)) (matched_of rate (bound b) (done d) (meaning (bound b)) (at d) t.keeps) (omega arith)

  reached : (n : ℕ) (d : ℕ × ℕ) (s : Stop Answer) → (source n).stop ≡ s → IsRight s → Matched rate n s (source n) (done d) (at d) → (m : ℕ × ℕ) × Shows (source n) (at m)
  reached n d Going e ok m = (d, shows_same (source n) (at d) (sym m.0) (subst IsRight (sym e) tt))
  reached n d (Ended r) e ok m = (d, shows_same (source n) (at d) (sym m) (subst IsRight (sym e) tt))
  reached n d Wrong e ok m = absurd ok

  pub follows : ((n : ℕ) → Kept n) → Follows source at
  follows tracks = record {
    reaches = λ n ok. let t = (tracks n).2 in reached n (t.moves, t.steps) (source n).stop refl ok (matched_of rate n (done (t.moves, t.steps)) (meaning n) (at (t.moves, t.steps)) t.keeps);
    never_wrong = λ ok b. (covered tracks ok b).0;
    no_more = λ ok b. let c = covered tracks ok b in (bound b, c.1, c.2);
  }

-- ---- the laws, for the runs of a meaning

abbrev is_going : Effect → Type 0
is_going (Gives a left) = ⊥
is_going (Unfinished o) = Unit {0}
is_going (Failed o) = ⊥

module _ (meaning : Meaning) {C : Type 0} (move : C → Move C) (output : C → List ℕ) (layer : IsLayer move output) where
  after_of : (resume : Answer → C) (o : List ℕ) (e : Effect) → ((a : Answer) → output (resume a) ≡ a.world.output) → IsPrefixOf o (written_by e) → After output resume o e
  after_of resume o (Gives a left) same b = subst (IsPrefixOf o) (sym (same a)) b
  after_of resume o (Unfinished p) same b = b
  after_of resume o (Failed p) same b = b

  few_left : (effect : ℕ → Effect) → IsExact effect → (j d left : ℕ) (o : List ℕ) (a : Answer) → effect j ≡ Unfinished o → effect (j + d) ≡ Gives a left → (d < left) ⊎ (left ≤ d) → left ≤ d
  few_left effect exact j d left o a u e (inr le) = le
  few_left effect exact j d left o a u e (inl lt) =
      let x = exact (j + d) left a e in
      let le : left ≤ j + d = x.0 in
      let back : j + d - left + (left - d) ≡ j = omega arith in
      let f : Unfinished o ≡ Gives a (left - d) = sym u ∙ ap effect (sym back) ∙ x.1 (left - d) in
      absurd (subst is_going f tt)

  then_of : (effect : ℕ → Effect) → IsExact effect → (j d : ℕ) (o : List ℕ) (resume : Answer → C) (z : Effect) → ((a : Answer) → output (resume a) ≡ a.world.output) → effect j ≡ Unfinished o → effect (j + d) ≡ z → IsPrefixOf o (written_by z) → UnfinishedThen output resume o d z
  then_of effect exact j d o resume (Gives a left) same u e b = (few_left effect exact j d left o a u e (cases_lt d left), subst (IsPrefixOf o) (sym (same a)) b)
  then_of effect exact j d o resume (Unfinished p) same u e b = b
  then_of effect exact j d o resume (Failed p) same u e b = b

  later_of : (effect : ℕ → Effect) → IsExact effect → (j d : ℕ) (resume : Answer → C) (e : Effect) → ((a : Answer) → output (resume a) ≡ a.world.output) → effect j ≡ e → Later d e (effect (j + d)) → LaterAt output resume e d (effect (j + d))
  later_of effect exact j d resume (Gives a left) same u l = l
  later_of effect exact j d resume (Unfinished o) same u l = then_of effect exact j d o resume (effect (j + d)) same u refl l
  later_of effect exact j d resume (Failed o) same u l = l

  within_of : (effect : ℕ → Effect) → IsExact effect → (j : ℕ) (e : Effect) → effect j ≡ e → Within j e
  within_of effect exact j (Gives a left) u = (exact j left a u).0
  within_of effect exact j (Unfinished o) u = tt
  within_of effect exact j (Failed o) u = tt

  pub effects_of : (d : ℕ) → HasEffects move output (call_effect meaning d)
  effects_of d = record {
    grows = layer.grows;
    answers = λ c q resume e j. after_of resume (output c) (call_effect meaning d j q) (layer.resumes c q resume e) (subst (λ o. IsPrefixOf o (written_by (call_effect meaning d j q))) (layer.hands_over c q resume e) (meaning.grows j d q.function q.arguments q.world));
    later = λ c q resume e j k. later_of (λ n. call_effect meaning d n q) (meaning.exact d q.function q.arguments q.world) j k resume (call_effect meaning d j q) (layer.resumes c q resume e) refl (meaning.later j k d q.function q.arguments q.world);
    within = λ c q resume e j. within_of (λ n. call_effect meaning d n q) (meaning.exact d q.function q.arguments q.world) j (call_effect meaning d j q) refl;
  }

  -- Cminor's and RTL's runs follow the source
  pub tracks_follow : (f rate : ℕ) (start : List ℕ → World → C) → Tracks meaning f rate move output start
      → (d : ℕ) → d < most_open → (ws : List ℕ) (h : World) → IsCall meaning f ws h → Follows (λ n. answered (meaning.body n d f ws h)) (λ (b : ℕ × ℕ). run move output (call_effect meaning (suc d)) b.0 b.1 (start ws h))
  tracks_follow f rate start tracks d below ws h is_call =
      follows move output (call_effect meaning (suc d)) (effects_of (suc d)) rate (λ n. meaning.body n d f ws h) (start ws h) (λ n. tracks d below ws h is_call n)

  matched_right : (rate n v : ℕ) (e : Effect) (z : Outcome Answer) → Keeps rate n e v z → IsRight (answered e).stop → Shows (answered e) z
  matched_right rate n v (Gives a left) z k ok = shows_same (answered (Gives a left)) z (sym k.0) tt
  matched_right rate n v (Unfinished o) z k ok = shows_same (answered (Unfinished o)) z (sym k.0) tt
  matched_right rate n v (Failed o) z k ok = absurd ok

  -- LTL's and Linear's runs follow the source, for every list
  pub all_follow : (f rate : ℕ) (start : List ℕ → List ℕ → World → C) → TracksForAll meaning f rate move output start
      → (d : ℕ) → d < most_open → (ws : List ℕ) (h : World) → IsCall meaning f ws h → FollowsForAll (λ n. answered (meaning.body n d f ws h)) (λ words (b : ℕ × ℕ). run move output (call_effect meaning (suc d)) b.0 b.1 (start words ws h))
  all_follow f rate start keeps d below ws h is_call = record {
    each = λ words are. follows move output (call_effect meaning (suc d)) (effects_of (suc d)) rate (λ n. meaning.body n d f ws h) (start words ws h) (λ n. let t = keeps d below ws h is_call n in (t.0, t.1, t.2 words are));
    within = λ n ok. let t = keeps d below ws h is_call n in ((t.0, t.1), λ words are. let k = t.2 words are in let r = matched_right rate n _ (meaning.body n d f ws h) _ k.keeps ok in ((k.moves, k.steps), k.few, k.few_steps, r));
  }
