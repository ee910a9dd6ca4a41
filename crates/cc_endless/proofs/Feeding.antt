-- A part of a run, and the same part with more input. Four facts hold for each part. It only adds to the output. It adds at most a
-- number of entries that depends on the part and not on the state. The reads so far and the words left are together never fewer than
-- before. And with more input the part does the same, unless it has read past the input that it had. This file shows the facts for the
-- ways in which parts are combined.
use Rattle.std.proofs.Common.{◌≡◌, ℕ, zero, suc, ◌+◌, ◌*◌, ◌<◌, ◌≤◌, List, [], ◌∷◌, ◌++◌, length, Option, Some, None, Bool, true, false, if◌then◌else◌, refl, sym, ap, subst, ◌⊎◌, inl, inr, arith}
use Rattle.std.proofs.lemmas.List.{length-append}
use Rattle.cc_words.specs.Observed.{read_mark, reads_in}
use Rattle.cc_simulation.specs.Behavior.{IsPrefixOf}
use Rattle.cc_c_semantics.specs.Meaning.{Local, State, Run, Gives, Going, Wrong, Flow, Falls, Breaks, Continues, Returns, then_do, choose, spend_of, spend, behind_flow, behind_body, begin_body, turns, unless_decided, read_input}
use Rattle.cc_c_semantics.specs.declared.cause.Cause.{Cause}
use Rattle.cc_c_semantics.proofs.Lasting.{written, begins_refl, begins_then}
use Rattle.cc_endless.proofs.Marks.{reads_append, reads_begin, reads_read, long_read}

-- a state with more words after its input, and a part's result with such a state
abbrev pub fed : List ℕ → State → State
fed more s = record s { input = s.input ++ more }

abbrev pub fed_run : {A : Type 0} → List ℕ → Run A → Run A
fed_run more (Gives x t) = Gives x (fed more t)
fed_run more (Going output) = Going output
fed_run more (Wrong cause output) = Wrong cause output

-- the reads so far and the words left: a run that shows more reads has read past its input
abbrev pub limit : State → ℕ
limit s = reads_in s.output + length s.input

-- z does what r does, with more words left; or both have read past a limit
abbrev pub Alike : {A : Type 0} → (limit : ℕ) → (more : List ℕ) → Run A → Run A → Type 0
Alike l more r z = (z ≡ fed_run more r) ⊎ ((l < reads_in (written r)) × (l < reads_in (written z)))

abbrev pub Keeps : {A : Type 0} → (limit : ℕ) → Run A → Type 0
Keeps l (Gives x t) = l ≤ limit t
Keeps l (Going output) = Unit {0}
Keeps l (Wrong cause output) = Unit {0}

-- the four facts for a part that leads from s to r, and to `z more` if there are more words after the input
pub record Facts {A : Type 0} (most : ℕ) (s : State) (r : Run A) (z : List ℕ → Run A) : Type 0 where
  pub grows : IsPrefixOf s.output (written r)
  pub few : length (written r) ≤ length s.output + most
  pub keeps : Keeps (limit s) r
  pub alike : (more : List ℕ) → Alike (limit s) more r (z more)

abbrev pub At : {A : Type 0} → (most : ℕ) → (State → Run A) → State → Type 0
At most part s = Facts most s (part s) (λ more. part (fed more s))

-- ---- facts that hold within a smaller limit, or with more entries

lower_alike : {A : Type 0} (l m : ℕ) (more : List ℕ) (r z : Run A) → l ≤ m → Alike m more r z → Alike l more r z
lower_alike l m more r z le (inl e) = inl e
lower_alike l m more r z le (inr p) = inr ((let q = p.0 in omega arith), (let q = p.1 in omega arith))

lower_keeps : {A : Type 0} (l m : ℕ) (r : Run A) → l ≤ m → Keeps m r → Keeps l r
lower_keeps l m (Gives x t) le k = omega arith
lower_keeps l m (Going output) le k = tt
lower_keeps l m (Wrong cause output) le k = tt

pub wider : {A : Type 0} (m n : ℕ) (s : State) (r : Run A) (z : List ℕ → Run A) → m ≤ n → Facts m s r z → Facts n s r z
wider m n s r z le f = record { grows = f.grows; few = (let h = f.few in omega arith); keeps = f.keeps; alike = f.alike }

-- ---- parts that are done at once

-- a part that neither reads nor writes
pub gives_at : {A : Type 0} (x : A) (s : State) → Facts 0 s (Gives x s) (λ more. Gives x (fed more s))
gives_at x s = record { grows = begins_refl s.output; few = omega arith; keeps = omega arith; alike = λ more. inl refl }

pub wrong_at : {A : Type 0} (cause : Cause) (s : State) → Facts {A = A} 0 s (Wrong cause s.output) (λ more. Wrong cause s.output)
wrong_at cause s = record { grows = begins_refl s.output; few = omega arith; keeps = tt; alike = λ more. inl refl }

pub going_at : {A : Type 0} (s : State) → Facts {A = A} 0 s (Going s.output) (λ more. Going s.output)
going_at s = record { grows = begins_refl s.output; few = omega arith; keeps = tt; alike = λ more. inl refl }

-- a write, of any number of words
pub write_at : (ws : List ℕ) (s : State) → Facts {A = ℕ} (length ws) s (Gives 0 (record s { output = s.output ++ ws })) (λ more. Gives 0 (record (fed more s) { output = s.output ++ ws }))
write_at ws s = record {
  grows = (ws, refl);
  few = (let e : length (s.output ++ ws) ≡ length s.output + length ws = length-append s.output ws in omega arith);
  keeps = (let e : reads_in (s.output ++ ws) ≡ reads_in s.output + reads_in ws = reads_append s.output ws in omega arith);
  alike = λ more. inl refl;
}

-- a read: with no word left, both runs have read past the input
read_by : (input : List ℕ) (s : State) → s.input ≡ input → Facts 1 s (read_input input s) (λ more. read_input (input ++ more) (fed more s))
read_by [] s e = record {
  grows = (read_mark ∷ [], refl);
  few = (let f : length (s.output ++ read_mark ∷ []) ≡ suc (length s.output) = long_read s.output in omega arith);
  keeps = (let f : reads_in (s.output ++ read_mark ∷ []) ≡ suc (reads_in s.output) = reads_read s.output in omega arith);
  alike = λ more. inr (past s e, past_more more s e);
}
  where
    past : (s : State) → s.input ≡ [] → limit s < reads_in (s.output ++ read_mark ∷ [])
    past s e = let l : length s.input ≡ 0 = ap length e in let f : reads_in (s.output ++ read_mark ∷ []) ≡ suc (reads_in s.output) = reads_read s.output in omega arith

    past_more : (more : List ℕ) (s : State) → s.input ≡ [] → limit s < reads_in (written (read_input more (fed more s)))
    past_more [] s e = past s e
    past_more (w ∷ ws) s e = past s e
read_by (w ∷ rest) s e = record {
  grows = (read_mark ∷ [], refl);
  few = (let f : length (s.output ++ read_mark ∷ []) ≡ suc (length s.output) = long_read s.output in omega arith);
  keeps = (let l : length s.input ≡ suc (length rest) = ap length e in let f : reads_in (s.output ++ read_mark ∷ []) ≡ suc (reads_in s.output) = reads_read s.output in omega arith);
  alike = λ more. inl refl;
}

pub read_at : (s : State) → Facts 1 s (read_input s.input s) (λ more. read_input (s.input ++ more) (fed more s))
read_at s = read_by s.input s refl

-- ---- a part, and then another

then_reads : {A C : Type 0} (r : Run A) (rest : A → State → Run C) → ((x : A) (t : State) → IsPrefixOf t.output (written (rest x t))) → reads_in (written r) ≤ reads_in (written (then_do r rest))
then_reads r rest grows = reads_begin (written r) (written (then_do r rest)) (begins_then (written r) r rest (begins_refl (written r)) grows)

then_alike : {A C : Type 0} (l : ℕ) (more : List ℕ) (r z : Run A) (rest : A → State → Run C) → Keeps l r → ((x : A) (t : State) → IsPrefixOf t.output (written (rest x t)))
    → ((x : A) (t : State) → r ≡ Gives x t → Alike (limit t) more (rest x t) (rest x (fed more t)))
    → Alike l more r z → Alike l more (then_do r rest) (then_do z rest)
then_alike l more (Gives x t) z rest keeps grows each (inl e) =
    subst (λ y. Alike l more (rest x t) (then_do y rest)) (sym e) (lower_alike l (limit t) more (rest x t) (rest x (fed more t)) keeps (each x t refl))
then_alike l more (Going output) z rest keeps grows each (inl e) = inl (ap (λ y. then_do y rest) e)
then_alike l more (Wrong cause output) z rest keeps grows each (inl e) = inl (ap (λ y. then_do y rest) e)
then_alike l more r z rest keeps grows each (inr p) = inr ((let q = p.0 in let h = then_reads r rest grows in omega arith), (let q = p.1 in let h = then_reads z rest grows in omega arith))

then_keeps : {A C : Type 0} (l : ℕ) (r : Run A) (rest : A → State → Run C) → Keeps l r → ((x : A) (t : State) → r ≡ Gives x t → Keeps (limit t) (rest x t)) → Keeps l (then_do r rest)
then_keeps l (Gives x t) rest keeps each = lower_keeps l (limit t) (rest x t) keeps (each x t refl)
then_keeps l (Going output) rest keeps each = tt
then_keeps l (Wrong cause output) rest keeps each = tt

then_few : {A C : Type 0} (l m n : ℕ) (r : Run A) (rest : A → State → Run C) → length (written r) ≤ l + m → ((x : A) (t : State) → r ≡ Gives x t → length (written (rest x t)) ≤ length t.output + n)
    → length (written (then_do r rest)) ≤ l + (m + n)
then_few l m n (Gives x t) rest few each = let h = each x t refl in omega arith
then_few l m n (Going output) rest few each = omega arith
then_few l m n (Wrong cause output) rest few each = omega arith

-- the facts for two parts; the second may use the earlier locals, and its facts are needed only for what the first part gives
pub then_given : {A C : Type 0} (m n : ℕ) (first : State → Run A) (rest : List Local → A → State → Run C) (s : State) → At m first s
    → ((x : A) (t : State) → IsPrefixOf t.output (written (rest s.locals x t)))
    → ((x : A) (t : State) → first s ≡ Gives x t → At n (rest s.locals x) t)
    → At (m + n) (λ u. then_do (first u) (λ x t. rest u.locals x t)) s
then_given m n first rest s f grows each = record {
  grows = begins_then s.output (first s) (rest s.locals) f.grows grows;
  few = then_few (length s.output) m n (first s) (rest s.locals) f.few (λ x t e. (each x t e).few);
  keeps = then_keeps (limit s) (first s) (rest s.locals) f.keeps (λ x t e. (each x t e).keeps);
  alike = λ more. then_alike (limit s) more (first s) (first (fed more s)) (rest s.locals) f.keeps grows (λ x t e. (each x t e).alike more) (f.alike more);
}

pub then_at : {A C : Type 0} (m n : ℕ) (first : State → Run A) (rest : List Local → A → State → Run C) (s : State) → At m first s
    → ((ls : List Local) (x : A) (t : State) → At n (rest ls x) t) → At (m + n) (λ u. then_do (first u) (λ x t. rest u.locals x t)) s
then_at m n first rest s f each = then_given m n first rest s f (λ x t. (each s.locals x t).grows) (λ x t e. each s.locals x t)

-- ---- one of several parts

pub choose_at : {A : Type 0} (m n w : ℕ) (holds fails : State → Run A) (s : State) → At m holds s → At n fails s → At (m + n) (choose w holds fails) s
choose_at m n zero holds fails s f g = wider n (m + n) s (fails s) (λ more. fails (fed more s)) (omega arith) g
choose_at m n (suc w) holds fails s f g = wider m (m + n) s (holds s) (λ more. holds (fed more s)) (omega arith) f

pub if_at : {A : Type 0} (m n : ℕ) (b : Bool) (s : State) (r u : Run A) (z v : List ℕ → Run A) → Facts m s r z → Facts n s u v → Facts (m + n) s (if b then r else u) (λ more. if b then z more else v more)
if_at m n true s r u z v f g = wider m (m + n) s r z (omega arith) f
if_at m n false s r u z v f g = wider n (m + n) s u v (omega arith) g

pub unless_at : (n : ℕ) (o : Option ℕ) (go : State → Run ℕ) (s : State) → At n go s → At n (unless_decided o go) s
unless_at n None go s f = f
unless_at n (Some w) go s f = wider 0 n s (Gives w s) (λ more. Gives w (fed more s)) (omega arith) (gives_at w s)

pub flow_at : (n : ℕ) (flow : Flow) (go : State → Run Flow) (s : State) → At n go s → At n (behind_flow flow go) s
flow_at n Falls go s f = f
flow_at n Breaks go s f = wider 0 n s (Gives Breaks s) (λ more. Gives Breaks (fed more s)) (omega arith) (gives_at Breaks s)
flow_at n Continues go s f = wider 0 n s (Gives Continues s) (λ more. Gives Continues (fed more s)) (omega arith) (gives_at Continues s)
flow_at n (Returns w) go s f = wider 0 n s (Gives (Returns w) s) (λ more. Gives (Returns w) (fed more s)) (omega arith) (gives_at (Returns w) s)

body_at : (n : ℕ) (flow : Flow) (go : State → Run Flow) (s : State) → At n go s → At n (behind_body flow go) s
body_at n Falls go s f = f
body_at n Continues go s f = f
body_at n Breaks go s f = wider 0 n s (Gives Falls s) (λ more. Gives Falls (fed more s)) (omega arith) (gives_at Falls s)
body_at n (Returns w) go s f = wider 0 n s (Gives (Returns w) s) (λ more. Gives (Returns w) (fed more s)) (omega arith) (gives_at (Returns w) s)

-- ---- steps and loops

spend_by : {A : Type 0} (n left : ℕ) (go : State → Run A) (s : State) → ((u : State) → At n go u) → Facts n s (spend_of left go s) (λ more. spend_of left go (fed more s))
spend_by n zero go s f = wider 0 n s (Going s.output) (λ more. Going s.output) (omega arith) (going_at s)
spend_by n (suc left) go s f =
    let g = f (record s { steps = left }) in record { grows = g.grows; few = g.few; keeps = g.keeps; alike = g.alike }

pub spend_at : {A : Type 0} (n : ℕ) (go : State → Run A) → ((u : State) → At n go u) → (s : State) → At n (spend go) s
spend_at n go f s = spend_by n s.steps go s f

pub begin_at : (m n : ℕ) (body go : State → Run Flow) → ((u : State) → At m body u) → ((u : State) → At n go u) → (s : State) → At (m + n) (begin_body body go) s
begin_at m n body go f g s =
    spend_at (m + n) (λ t. then_do (body t) (λ flow u. behind_body flow go u)) (λ t. then_at m n body (λ ls flow u. behind_body flow go u) t (f t) (λ ls flow u. body_at n flow go u (g u))) s

module _ (l m n : ℕ) (test : State → Run ℕ) (body behind : State → Run Flow) (tests : (s : State) → At l test s) (bodies : (s : State) → At m body s) (behinds : (s : State) → At n behind s) where
  pub turns_at : (k : ℕ) (s : State) → At (k * (l + (m + n))) (turns k test body behind) s
  turns_at zero s = wider 0 (0 * (l + (m + n))) s (Going s.output) (λ more. Going s.output) (omega arith) (going_at s)
  turns_at (suc k) s =
      let next = λ (u : State). then_do (behind u) (λ flow v. turns k test body behind v) in
      let rest = k * (l + (m + n)) in
      wider (l + (m + (n + rest) + 0)) (suc k * (l + (m + n))) s (turns (suc k) test body behind s) (λ more. turns (suc k) test body behind (fed more s)) (omega arith)
      (then_at l (m + (n + rest) + 0) test (λ ls w t. choose w (begin_body body next) (λ u. Gives Falls u) t) s (tests s)
      (λ ls w t. choose_at (m + (n + rest)) 0 w (begin_body body next) (λ u. Gives Falls u) t
      (begin_at m (n + rest) body next bodies (λ u. then_at n rest behind (λ ls flow v. turns k test body behind v) u (behinds u) (λ ls flow v. turns_at k v)) t)
      (gives_at Falls t)))
