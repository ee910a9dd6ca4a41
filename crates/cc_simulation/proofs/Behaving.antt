-- Prefixes; and following is reflexive and transitive.
use Rattle.std.proofs.Common.{◌≡◌, ℕ, List, [], ◌++◌, refl, sym, ap, ◌∙◌, subst, append_assoc}
use Rattle.std.proofs.lemmas.List.{append-nil}
use Rattle.cc_simulation.specs.Behavior.{Stop, Going, Ended, Wrong, Outcome, IsRight, IsPrefixOf, EndsAlike, Shows, Follows, FollowsForAll}
use Rattle.cc_simulation.specs.Cuts.{StaysBy}

pub begins_refl : (xs : List ℕ) → IsPrefixOf xs xs
begins_refl xs = ([], append-nil xs)

pub begins_on : (xs ys zs : List ℕ) → IsPrefixOf xs ys → IsPrefixOf ys zs → IsPrefixOf xs zs
begins_on xs ys zs a b = (a.0 ++ b.0, sym (append_assoc xs a.0 b.0) ∙ ap (λ l. l ++ b.0) a.1 ∙ b.1)

pub stays_refl : {R : Type 0} (t : Stop R) (x : Outcome R) → StaysBy t x x
stays_refl Going x = tt
stays_refl (Ended r) x = refl
stays_refl Wrong x = refl

pub shows_refl : {R : Type 0} (a : Outcome R) → IsRight a.stop → Shows a a
shows_refl a ok = (ok, refl, λ r e. e)

pub shows_same : {R : Type 0} (a z : Outcome R) → a ≡ z → IsRight a.stop → Shows a z
shows_same a z e ok = subst (Shows a) e (shows_refl a ok)

pub shows_on : {R : Type 0} (a b z : Outcome R) → Shows a b → Shows b z → Shows a z
shows_on a b z f g = (g.0, g.1 ∙ f.1, λ r e. g.2 r (f.2 r e))

pub follows_refl : {B R : Type 0} (a : B → Outcome R) → Follows a a
follows_refl a = record {
  reaches = λ n ok. (n, shows_refl (a n) ok);
  never_wrong = λ ok m. ok m;
  no_more = λ ok m. (m, begins_refl (a m).output, λ r e. e);
}

-- a behavior that equals another at each bound follows it
pub follows_same : {B R : Type 0} (a z : B → Outcome R) → ((b : B) → a b ≡ z b) → Follows a z
follows_same {B} {R} a z same = record {
  reaches = λ n ok. (n, shows_same (a n) (z n) (same n) ok);
  never_wrong = λ ok m. subst (λ (y : Outcome R). IsRight y.stop) (same m) (ok m);
  no_more = λ ok m. (m, subst (λ (y : Outcome R). IsPrefixOf y.output (a m).output) (same m) (begins_refl (a m).output), subst (λ (y : Outcome R). EndsAlike y.stop (a m).stop) (same m) (λ r e. e));
}

pub follows_trans : {A B C R : Type 0} (a : A → Outcome R) (b : B → Outcome R) (z : C → Outcome R) → Follows a b → Follows b z → Follows a z
follows_trans a b z f g = record {
  reaches = λ n ok. let m = f.reaches n ok in let p = g.reaches m.0 m.1.0 in (p.0, shows_on (a n) (b m.0) (z p.0) m.1 p.1);
  never_wrong = λ ok m. g.never_wrong (f.never_wrong ok) m;
  no_more = λ ok m.
      let k = g.no_more (f.never_wrong ok) m in
      let n = f.no_more ok k.0 in
      (n.0, begins_on (z m).output (b k.0).output (a n.0).output k.1 n.1, λ r e. n.2 r (k.2 r e));
}

pub follows_on_for_all : {A B R : Type 0} (a : A → Outcome R) (b : B → Outcome R) (z : List ℕ → ℕ × ℕ → Outcome R) → Follows a b → FollowsForAll b z → FollowsForAll a z
follows_on_for_all a b z f g = record {
  each = λ words are. follows_trans a b (z words) f (g.each words are);
  within = λ n ok.
      let m = f.reaches n ok in
      let t = g.within m.0 m.1.0 in
      (t.0, λ words are. let p = t.1 words are in (p.0, p.1, p.2, shows_on (a n) (b m.0) (z words p.0) m.1 p.3));
}
