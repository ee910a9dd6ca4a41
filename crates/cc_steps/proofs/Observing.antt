-- What a machine reads and writes, while it goes from one instruction that reads to the next.
use Rattle.std.proofs.Common.{◌≡◌, ℕ, suc, ◌+◌, ◌-◌, ◌<◌, ◌≤◌, List, [], ◌∷◌, ◌++◌, length, map, take, drop, Option, Some, None, unwrap_or, IfSome, refl, sym, ap, ◌∙◌, subst, arith}
use Rattle.std.proofs.lemmas.List.{length-drop, take_all}
use Rattle.std.proofs.Math.Seq.{drop-append_seam}
use Rattle.cc_words.specs.Observed.{read_mark}
use Rattle.cc_meaning.specs.Erase.{event_tree, events_tree}
use Rattle.cc_meaning.specs.declared.outcome.Event.{Event}
use Rattle.cc_meaning.specs.declared.outcome.Event.TheVariants as event
use Rattle.cc_rv32.specs.declared.image.Image.{Image}
use Rattle.cc_rv32.specs.declared.outcome.MachineOutcome.TheVariants.{Going}
use Rattle.cc_rv32.specs.Machine.{State, Run, turned, after_read, machine_run, start}
use Rattle.cc_rv32.specs.Simulation.{Simulation, run_with, shown_run, in_words, IsAfter, IsRead, Wrote, StopsToRead}
use Rattle.cc_rv32.proofs.Running.{machine_run-none, machine_run-more}
use Rattle.cc_rv32.proofs.Chains.{none_done, chained, continued}
use Rattle.cc_steps.specs.internal.Going.{Went}

-- ---- events

events_append : (xs ys : List Event) → events_tree (xs ++ ys) ≡ events_tree xs ++ events_tree ys
events_append [] ys = refl
events_append (x ∷ xs) ys = ap (λ (l : List ℕ). event_tree x ∷ l) (events_append xs ys)

events_wrote : (ws : List ℕ) → events_tree (map event.Wrote ws) ≡ ws
events_wrote [] = refl
events_wrote (w ∷ ws) = ap (λ (l : List ℕ). w ∷ l) (events_wrote ws)

-- the words that were written since are kept
words_kept : (before after : List Event) (old new ws : List ℕ) (n : ℕ) → new ≡ old ++ ws → n ≡ length old → after ≡ before ++ map event.Wrote (take (length new - n) (drop n new)) → events_tree after ≡ events_tree before ++ ws
words_kept before after old new ws n e is f =
    let rest : drop n new ≡ ws = ap (λ k. drop k new) is ∙ ap (drop (length old)) e ∙ drop-append_seam old ws in
    let all : take (length new - n) (drop n new) ≡ drop n new = let size = length-drop n new in take_all (length new - n) (drop n new) (omega arith) in
    ap events_tree f ∙ events_append before (map event.Wrote (take (length new - n) (drop n new)))
    ∙ ap (λ l. events_tree before ++ l) (events_wrote (take (length new - n) (drop n new)) ∙ all ∙ rest)

-- ---- up to a read

pub went_to_read : (left rest n : ℕ) (m t : Simulation) (before after : List Event) → t.code ≡ m.code → Wrote m.code (left - rest) m t → n ≡ length m.output → after ≡ before ++ map event.Wrote (take (length t.output - n) (drop n t.output))
    → Went left rest m before t after
went_to_read left rest n m t before after code w is f = record {
  code = code;
  run = ap (λ o. run_with o t) (words_kept before after m.output t.output w.0 n w.1 is f) ∙ w.3 (events_tree before);
}

-- ---- a read

one_step : (m : Simulation) (o : List ℕ) → IsRead m → machine_run m.code 1 (run_with o m) ≡ record { state = after_read (run_with o m).state; outcome = Going }
one_step m o h =
    let s : State = (run_with o m).state in
    let here : machine_run m.code 0 (run_with o m) ≡ record { state = s; outcome = Going } = machine_run-none m.code 0 (run_with o m) refl ∙ ap (λ z. record { state = s; outcome = z }) h.going in
    machine_run-more m.code 0 (run_with o m) s here ∙ ap (turned s) (h.reads o)

abbrev with_output : List ℕ → Run → Run
with_output o r = record { state = record r.state { output = o }; outcome = r.outcome }

read_on : (m t : Simulation) (o : List ℕ) → IsRead m → shown_run t ≡ in_words (machine_run m.code 1 (shown_run m)) → run_with (o ++ read_mark ∷ []) t ≡ machine_run m.code 1 (run_with o m)
read_on m t o h e =
    ap (λ r. with_output (o ++ read_mark ∷ []) r) (e ∙ ap (λ (r : Run). in_words r) (one_step m m.output h)) ∙ sym (one_step m o h)

pub went_on : (left rest : ℕ) (m s t : Simulation) (before between after : List Event) → StopsToRead left rest s → Went left rest m before s between → t.code ≡ s.code
    → shown_run t ≡ in_words (machine_run s.code 1 (shown_run s)) → after ≡ between ++ event.Read ∷ [] → Went left (rest - 1) m before t after
went_on left rest m s t before between after h w code e f =
    let some = h.some in
    let within = h.within in
    let kept : events_tree after ≡ events_tree between ++ read_mark ∷ [] = ap events_tree f ∙ events_append between (event.Read ∷ []) in
    let step : run_with (events_tree after) t ≡ machine_run m.code 1 (run_with (events_tree between) s) =
    ap (λ o. run_with o t) kept ∙ read_on s t (events_tree between) h.read e ∙ ap (λ c. machine_run c 1 (run_with (events_tree between) s)) w.code in
    let sum : (left - rest) + 1 ≡ left - (rest - 1) = omega arith in
    record {
      code = code ∙ w.code;
      run = continued m.code left rest 1 (run_with (events_tree before) m) (run_with (events_tree between) s) (run_with (events_tree after) t) w.run step
          ∙ ap (λ k. machine_run m.code k (run_with (events_tree before) m)) sum;
    }

-- ---- a whole run

pub begins : (image : Image) (words : List ℕ) (m : Simulation) (es : List Event) (n : ℕ) → IsAfter image words 0 m → es ≡ [] → run_with (events_tree es) m ≡ machine_run image.code (n - n) (start image words)
begins image words m es n a none =
    let first = machine_run-none image.code 0 (start image words) refl in
    let empty : a.observed ≡ [] = ap (λ (r : Run). r.state.output) (a.run ∙ first) in
    ap (λ o. run_with o m) (ap events_tree none ∙ sym empty) ∙ a.run ∙ first ∙ none_done image.code n (start image words)

-- how many instructions are left, if the run goes on
abbrev pub left_of : Option ℕ → ℕ
left_of None = 0
left_of (Some n) = suc n

pub fewer : (rest left : Option ℕ) (more : ℕ) → left ≡ Some more → IfSome rest (λ n. n < more) → left_of rest < left_of left
fewer rest left more is h = subst (λ o. left_of rest < left_of o) (sym is) (by rest h)
  where
    by : (o : Option ℕ) → IfSome o (λ n. n < more) → left_of o < suc more
    by None h = omega arith
    by (Some n) h = omega (arith, h)

pub at_most : (rest : Option ℕ) (more : ℕ) → IfSome rest (λ n. n < more) → unwrap_or rest 0 ≤ more
at_most None more h = omega arith
at_most (Some n) more h = omega (arith, h)

pub goes_on : (image : Image) (words : List ℕ) (steps more rest : ℕ) (left : Option ℕ) (m t : Simulation) (before after : List Event) → left ≡ Some more → m.code ≡ image.code → unwrap_or left 0 ≤ steps → rest ≤ more
    → run_with (events_tree before) m ≡ machine_run image.code (steps - unwrap_or left 0) (start image words) → Went more rest m before t after
    → (t.code ≡ image.code) × (rest ≤ steps) × (run_with (events_tree after) t ≡ machine_run image.code (steps - rest) (start image words))
goes_on image words steps more rest left m t before after is code within less run w =
    let same : unwrap_or left 0 ≡ more = ap (λ o. unwrap_or o 0) is in
    let enough : more ≤ steps = subst (λ k. k ≤ steps) same within in (
      w.code ∙ code,
      omega (arith, enough, less),
      chained image.code steps more rest (start image words) (run_with (events_tree before) m) (run_with (events_tree after) t) enough less
          (run ∙ ap (λ k. machine_run image.code (steps - k) (start image words)) same)
          (w.run ∙ ap (λ c. machine_run c (more - rest) (run_with (events_tree before) m)) code),
    )
