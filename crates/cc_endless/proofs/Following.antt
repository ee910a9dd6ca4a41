-- What follows a run on each list follows it on each endless input. Three facts are used. Both runs are the same on longer inputs, as long
-- as they have not read past an input. Within a bound they read at most so many times. The later outcomes of the second run go on from its
-- earlier ones. Suppose that the second run shows an outcome on the first k words. If the first run never reads more than k words, it does
-- on these what it does on the endless input, and `Follows` says the rest. If it does so at some bound, the second run has to show as many
-- reads later on, so it is still going.
use Rattle.std.proofs.Common.{◌≡◌, ℕ, zero, suc, ◌+◌, ◌-◌, ◌<◌, ◌≤◌, List, ◌∷◌, ◌++◌, length, refl, sym, ap, ◌∙◌, subst, ◌⊎◌, inl, inr, arith}
use Rattle.std.proofs.lemmas.Bool.{cases_lt}
use Rattle.cc_words.specs.Observed.{reads_in}
use Rattle.cc_simulation.specs.Behavior.{AreWords, Stop, Going, Ended, Wrong, Outcome, IsRight, IsPrefixOf, EndsAlike, Shows, Follows}
use Rattle.cc_simulation.specs.Cuts.{StaysBy}
use Rattle.cc_link.proofs.Counting.{GoesOn}
use Rattle.cc_endless.specs.Within.{IsWithin}
use Rattle.cc_endless.specs.Endless.{first, AreAllWords, ShowsOn, HasOneOutcome, IsNeverWrong, FollowsEndless}
use Rattle.cc_endless.proofs.Marks.{reads_begin}

-- ---- the first words of an endless input

pub first_length : (k : ℕ) (words : ℕ → ℕ) → length (first k words) ≡ k
first_length zero words = refl
first_length (suc k) words = ap suc (first_length k (λ i. words (suc i)))

-- more of the first words begin with the first words
first_more : (k j : ℕ) (words : ℕ → ℕ) → (rest : List ℕ) × (first (k + j) words ≡ first k words ++ rest)
first_more zero j words = (first j words, let e : 0 + j ≡ j = omega arith in ap (λ n. first n words) e)
first_more (suc k) j words =
    let r = first_more k j (λ i. words (suc i)) in
    let e : suc k + j ≡ suc (k + j) = omega arith in
    (r.0, ap (λ n. first n words) e ∙ ap (λ (l : List ℕ). words 0 ∷ l) r.1)

first_words : (k : ℕ) (words : ℕ → ℕ) → AreAllWords words → AreWords (first k words)
first_words zero words are = tt
first_words (suc k) words are = (are 0, first_words k (λ i. words (suc i)) (λ i. are (suc i)))

-- ---- one run

-- how a run depends on its input
pub record Reader {R : Type 0} (run : List ℕ → ℕ → Outcome R) : Type 0 where
  pub ignores_more : (input more : List ℕ) (n : ℕ) → IsWithin input (run input n).output → run (input ++ more) n ≡ run input n
  pub ignores_rest : (input rest : List ℕ) (n : ℕ) → IsWithin input (run (input ++ rest) n).output → run (input ++ rest) n ≡ run input n
  pub reads_at_most : (n : ℕ) → (most : ℕ) × ((input : List ℕ) → reads_in (run input n).output ≤ most)

-- the same run on an input, and so on each longer one
same_within : {R : Type 0} (run : List ℕ → ℕ → Outcome R) → Reader run → (words : ℕ → ℕ) (n : ℕ) (o : Outcome R) (s : ShowsOn run words n o) (j : ℕ) → run (first (s.given + j) words) n ≡ o
same_within run reader words n o s j =
    let r = first_more s.given j words in
    ap (λ (l : List ℕ). run l n) r.1
    ∙ reader.ignores_more (first s.given words) r.0 n (subst (λ y. IsWithin (first s.given words) y.output) (sym s.shows) s.within) ∙ s.shows

-- what a run shows on enough of the first words
shown_at : {R : Type 0} (run : List ℕ → ℕ → Outcome R) (words : ℕ → ℕ) (n k : ℕ) → reads_in (run (first k words) n).output ≤ k → ShowsOn run words n (run (first k words) n)
shown_at run words n k le = record { given = k; shows = refl; within = (let e = first_length k words in omega arith) }

reads_given : {R : Type 0} (run : List ℕ → ℕ → Outcome R) (words : ℕ → ℕ) (n : ℕ) (o : Outcome R) (s : ShowsOn run words n o) → reads_in o.output ≤ s.given
reads_given run words n o s = let w = s.within in let e = first_length s.given words in omega arith

pub one_outcome : {R : Type 0} (run : List ℕ → ℕ → Outcome R) → Reader run → (words : ℕ → ℕ) → HasOneOutcome run words
one_outcome {R} run reader words = λ n.
    let most = reader.reads_at_most n in
    let s = shown_at run words n most.0 (most.1 (first most.0 words)) in (
      run (first most.0 words) n,
      s,
      λ p t.
          let e : t.given + s.given ≡ s.given + t.given = omega arith in
          sym (same_within run reader words n p t s.given) ∙ ap (λ k. run (first k words) n) e ∙ same_within run reader words n (run (first most.0 words) n) s t.given,
    )

-- ---- two runs

stable : {R : Type 0} (t : Stop R) → ((IsRight t → ⊥) → ⊥) → IsRight t
stable Going h = tt
stable (Ended r) h = tt
stable Wrong h = h (λ n. n)

module _ {R : Type 0} (a z : List ℕ → ℕ → Outcome R) (from_a : Reader a) (from_z : Reader z) (on : (input : List ℕ) (m k : ℕ) → GoesOn (z input m) (z input (m + k))) (words : ℕ → ℕ) (are : AreAllWords words)
    (follows : (input : List ℕ) → AreWords input → Follows (a input) (z input)) where
  on_first : (k : ℕ) → Follows (a (first k words)) (z (first k words))
  on_first k = follows (first k words) (first_words k words are)

  reaches : (n : ℕ) (o : Outcome R) → ShowsOn a words n o → IsRight o.stop → (m : ℕ) × (p : Outcome R) × ShowsOn z words m p × Shows o p
  reaches n o s ok =
      let m = (on_first s.given).reaches n (subst (λ (y : Outcome R). IsRight y.stop) (sym s.shows) ok) in
      let p = z (first s.given words) m.0 in
      let shows : Shows o p = subst (λ y. Shows y p) s.shows m.1 in
      (m.0, p, shown_at z words m.0 s.given (let e = ap reads_in shows.1 in let r = reads_given a words n o s in omega arith), shows)

  -- p begins the outcome o, and ends as o does
  abbrev Begins : Outcome R → Outcome R → Type 0
  Begins p o = IsRight p.stop × IsPrefixOf p.output o.output × EndsAlike p.stop o.stop

  -- an outcome of z that has read less than one of a which z reaches later begins that one
  begins_later : (p o q : Outcome R) (t : Stop R) → p.stop ≡ t → StaysBy t p q → IsPrefixOf p.output q.output → q.output ≡ o.output → reads_in p.output < reads_in o.output → Begins p o
  begins_later p o q Going e stays begins same lt =
      (subst IsRight (sym e) tt, subst (IsPrefixOf p.output) same begins, λ r f. absurd (let g : Going ≡ Ended r = sym e ∙ f in cc))
  begins_later p o q (Ended r) e stays begins same lt = absurd (let f = ap (λ (y : Outcome R). reads_in y.output) stays in let g = ap reads_in same in omega arith)
  begins_later p o q Wrong e stays begins same lt = absurd (let f = ap (λ (y : Outcome R). reads_in y.output) stays in let g = ap reads_in same in omega arith)

  begins_by : (k m i : ℕ) (p o : Outcome R) → z (first k words) m ≡ p → Shows o (z (first k words) i) → reads_in p.output < reads_in o.output → (m < i) ⊎ (i ≤ m) → Begins p o
  begins_by k m i p o e shows lt (inl h) =
      let g = on (first k words) m (i - m) in
      let f : m + (i - m) ≡ i = omega arith in
      let q = z (first k words) (m + (i - m)) in
      let same : q.output ≡ o.output = ap (λ j. (z (first k words) j).output) f ∙ shows.1 in
      begins_later p o q p.stop refl (subst (λ (y : Outcome R). StaysBy y.stop y q) e g.stays) (subst (λ (y : Outcome R). IsPrefixOf y.output q.output) e g.output) same lt
  begins_by k m i p o e shows lt (inr h) =
      let g = on (first k words) i (m - i) in
      let f : i + (m - i) ≡ m = omega arith in
      let q = z (first k words) i in
      let begins : IsPrefixOf q.output p.output = subst (λ (y : Outcome R). IsPrefixOf q.output y.output) (ap (z (first k words)) f ∙ e) g.output in
      absurd (let r = reads_begin q.output p.output begins in let s = ap reads_in shows.1 in omega arith)

  -- an outcome of a on the endless input that has read more than k words, if the run on the first k words has
  far : (k n : ℕ) → k < reads_in (a (first k words) n).output → (j : ℕ) × (reads_in (a (first (k + j) words) n).output ≤ k + j) × (k < reads_in (a (first (k + j) words) n).output)
  far k n lt =
      let most = from_a.reads_at_most n in
      let r = first_more k most.0 words in
      let o = a (first (k + most.0) words) n in
      (most.0, (let le = most.1 (first (k + most.0) words) in omega arith), more most.0 r.0 r.1 (cases_lt k (reads_in o.output)))
    where
      more : (j : ℕ) (rest : List ℕ) → first (k + j) words ≡ first k words ++ rest → (k < reads_in (a (first (k + j) words) n).output) ⊎ (reads_in (a (first (k + j) words) n).output ≤ k)
          → k < reads_in (a (first (k + j) words) n).output
      more j rest e (inl h) = h
      more j rest e (inr h) =
          let same : a (first k words ++ rest) n ≡ a (first k words) n =
          from_a.ignores_rest (first k words) rest n (let l = first_length k words in let s = ap (λ (y : List ℕ). reads_in (a y n).output) e in omega arith) in
          absurd (let s = ap (λ (y : List ℕ). reads_in (a y n).output) e in let t = ap (λ (y : Outcome R). reads_in y.output) same in omega arith)

  -- an outcome of a that z's outcome begins, if a reads more words than z was given
  caught : IsNeverWrong a words → (m : ℕ) (p : Outcome R) (s : ShowsOn z words m p) (n : ℕ) → s.given < reads_in (a (first s.given words) n).output → (o : Outcome R) × ShowsOn a words n o × Begins p o
  caught right m p s n lt =
      let f = far s.given n lt in
      let k = s.given + f.0 in
      let o = a (first k words) n in
      let shown = shown_at a words n k f.1 in
      let i = (on_first k).reaches n (right n o shown) in
      (o, shown, begins_by k m i.0 p o (same_within z from_z words m p s f.0) i.1 (let r = reads_given z words m p s in let l = f.2 in omega arith) (cases_lt m i.0))

  -- if a reads at no bound more words than it was given, it is right at each
  right_at : IsNeverWrong a words → (k : ℕ) → ((n : ℕ) → (k < reads_in (a (first k words) n).output) → ⊥) → (n : ℕ) → ShowsOn a words n (a (first k words) n)
  right_at right k never n = shown_at a words n k (elim (cases_lt k (reads_in (a (first k words) n).output)) [ inl lt ↦ absurd (never n lt) | inr le ↦ le ])

  never_wrong : IsNeverWrong a words → IsNeverWrong z words
  never_wrong right m p s =
      stable p.stop (λ refuted.
      let shown = right_at right s.given (λ n lt. refuted (caught right m p s n lt).2.0) in
      refuted (subst (λ (y : Outcome R). IsRight y.stop) s.shows ((on_first s.given).never_wrong (λ n. right n (a (first s.given words) n) (shown n)) m)))

  no_more : IsNeverWrong a words → (m : ℕ) (p : Outcome R) → ShowsOn z words m p
      → ((n : ℕ) (o : Outcome R) → ShowsOn a words n o → IsPrefixOf p.output o.output → EndsAlike p.stop o.stop → ⊥) → ⊥
  no_more right m p s refuted =
      let shown = right_at right s.given (λ n lt. let c = caught right m p s n lt in refuted n c.0 c.1 c.2.1 c.2.2) in
      let i = (on_first s.given).no_more (λ n. right n (a (first s.given words) n) (shown n)) m in
      let o = a (first s.given words) i.0 in
      refuted i.0 o (shown i.0) (subst (λ (y : Outcome R). IsPrefixOf y.output o.output) s.shows i.1) (subst (λ (y : Outcome R). EndsAlike y.stop o.stop) s.shows i.2)

  pub follows_endless : FollowsEndless a z words
  follows_endless = record { reaches = reaches; never_wrong = never_wrong; no_more = no_more }
