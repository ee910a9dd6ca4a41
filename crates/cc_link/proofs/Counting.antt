-- Derives `Follows` from counted steps, if the later outcomes of the second run go on from its earlier ones.
use Rattle.std.proofs.Common.{◌≡◌, ℕ, suc, ◌+◌, ◌-◌, ◌*◌, ◌<◌, ◌≤◌, refl, sym, ap, ◌∙◌, subst, ◌⊎◌, inl, inr, arith}
use Rattle.std.proofs.Math.Nat.{mul-le-mul_left}
use Rattle.std.proofs.lemmas.Bool.{cases_lt}
use Rattle.cc_simulation.specs.Behavior.{Stop, Going, Ended, Wrong, Outcome, IsPrefixOf, IsRight, EndsAlike, Shows, Follows}
use Rattle.cc_simulation.specs.Cuts.{StaysBy}
use Rattle.cc_simulation.proofs.Behaving.{begins_refl, shows_same}

-- outcome y goes on from outcome x
pub record GoesOn {R : Type 0} (x y : Outcome R) : Type 0 where
  pub output : IsPrefixOf x.output y.output
  pub stays : StaysBy x.stop x y

-- what the run must have reached for an outcome of the source after n steps
abbrev pub Matched : (z : ℕ → Outcome ℕ) → (rate n : ℕ) → Outcome ℕ → Stop ℕ → Type 0
Matched z rate n a Going = (m : ℕ) × (z m ≡ a) × (n ≤ rate * m)
Matched z rate n a (Ended w) = (m : ℕ) × (z m ≡ a)
Matched z rate n a Wrong = Unit {0}

module _ (at : ℕ → Outcome ℕ) (more : (m k : ℕ) → GoesOn (at m) (at (m + k))) (rate : ℕ) (source : ℕ → Outcome ℕ) (matched : (n : ℕ) → Matched at rate n (source n) (source n).stop) where
  abbrev Covered : Outcome ℕ → Outcome ℕ → Type 0
  Covered z a = IsRight z.stop × IsPrefixOf z.output a.output × EndsAlike z.stop a.stop

  covered_refl : (a : Outcome ℕ) → IsRight a.stop → Covered a a
  covered_refl a ok = (ok, begins_refl a.output, λ r e. e)

  -- if a right outcome goes on from outcome z, it covers z
  covered_by : (z a : Outcome ℕ) (t : Stop ℕ) → z.stop ≡ t → StaysBy t z a → IsRight a.stop → IsPrefixOf z.output a.output → Covered z a
  covered_by z a Going e stays ok b = (subst IsRight (sym e) tt, b, λ r f. absurd (let g : Going ≡ Ended r = sym e ∙ f in cc))
  covered_by z a (Ended q) e stays ok b = subst (Covered z) (sym stays) (covered_refl z (subst IsRight (sym e) tt))
  covered_by z a Wrong e stays ok b = subst (Covered z) (sym stays) (covered_refl z (subst (λ (y : Outcome ℕ). IsRight y.stop) stays ok))

  covered_less : (m k : ℕ) → IsRight (at (m + k)).stop → Covered (at m) (at (m + k))
  covered_less m k ok = let g = more m k in covered_by (at m) (at (m + k)) (at m).stop refl g.stays ok g.output

  same_more : (m k w : ℕ) (t : Stop ℕ) → (at m).stop ≡ t → t ≡ Ended w → StaysBy t (at m) (at (m + k)) → at (m + k) ≡ at m
  same_more m k w Going e f stays = absurd (let g : Going ≡ Ended w = f in cc)
  same_more m k w (Ended q) e f stays = stays
  same_more m k w Wrong e f stays = stays

  covered_at : (a : Outcome ℕ) (m i : ℕ) → at i ≡ a → IsRight a.stop → m ≤ i → Covered (at m) a
  covered_at a m i e ok le =
      let f : m + (i - m) ≡ i = omega arith in
      let same : at (m + (i - m)) ≡ a = ap at f ∙ e in
      subst (Covered (at m)) same (covered_less m (i - m) (subst (λ (y : Outcome ℕ). IsRight y.stop) (sym same) ok))

  covered_past : (a : Outcome ℕ) (m i w : ℕ) → at i ≡ a → a.stop ≡ Ended w → i ≤ m → Covered (at m) a
  covered_past a m i w e f le =
      let g : i + (m - i) ≡ m = omega arith in
      let stop : (at i).stop ≡ Ended w = ap (λ (y : Outcome ℕ). y.stop) e ∙ f in
      let same : at m ≡ a = ap at (sym g) ∙ same_more i (m - i) w (at i).stop refl stop (more i (m - i)).stays ∙ e in
      subst (λ y. Covered y a) (sym same) (covered_refl a (subst IsRight (sym f) tt))

  covered_ended : (a : Outcome ℕ) (m i w : ℕ) → at i ≡ a → a.stop ≡ Ended w → (m < i) ⊎ (i ≤ m) → Covered (at m) a
  covered_ended a m i w e f (inl h) = covered_at a m i e (subst IsRight (sym f) tt) (omega arith)
  covered_ended a m i w e f (inr h) = covered_past a m i w e f h

  late : (m i : ℕ) → suc (rate * m) ≤ rate * i → (m < i) ⊎ (i ≤ m) → m ≤ i
  late m i h (inl lt) = omega arith
  late m i h (inr le) = absurd (let j : rate * i ≤ rate * m = mul-le-mul_left rate le in omega arith)

  covered : (m : ℕ) (a : Outcome ℕ) (t : Stop ℕ) → a.stop ≡ t → IsRight t → Matched at rate (suc (rate * m)) a t → Covered (at m) a
  covered m a Going e ok (i, r, b) = covered_at a m i r (subst IsRight (sym e) tt) (late m i b (cases_lt m i))
  covered m a (Ended w) e ok (i, r) = covered_ended a m i w r e (cases_lt m i)
  covered m a Wrong e ok x = absurd ok

  abbrev bound : ℕ → ℕ
  bound m = suc (rate * m)

  reached : (n : ℕ) (t : Stop ℕ) → (source n).stop ≡ t → IsRight t → Matched at rate n (source n) t → (m : ℕ) × Shows (source n) (at m)
  reached n Going e ok (m, r, b) = (m, shows_same (source n) (at m) (sym r) (subst IsRight (sym e) tt))
  reached n (Ended v) e ok (m, r) = (m, shows_same (source n) (at m) (sym r) (subst IsRight (sym e) tt))
  reached n Wrong e ok x = absurd ok

  covers : ((n : ℕ) → IsRight (source n).stop) → (m : ℕ) → Covered (at m) (source (bound m))
  covers ok m = covered m (source (bound m)) (source (bound m)).stop refl (ok (bound m)) (matched (bound m))

  pub follows : Follows source at
  follows = record {
    reaches = λ n ok. reached n (source n).stop refl ok (matched n);
    never_wrong = λ ok m. (covers ok m).0;
    no_more = λ ok m. let c = covers ok m in (bound m, c.1, c.2);
  }
