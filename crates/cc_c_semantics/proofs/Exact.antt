-- A call that answers needs no more steps than it spends, and with more steps a run continues.
use Rattle.std.proofs.Common.{◌≡◌, ℕ, suc, ◌+◌, ◌-◌, ◌≤◌, List, [], slice_get, codes, refl, sym, ap, ◌∙◌, arith}
use Rattle.cc_words.specs.Observed.{written_words}
use Rattle.cc_words.proofs.Observed.{words_append}
use Rattle.cc_c_semantics.specs.Outcome as outcome
use Rattle.cc_c_semantics.specs.Outcome.{Outcome, Stop, in_words}
use Rattle.cc_ast.specs.Tree.{External}
use Rattle.cc_c_semantics.specs.Meaning.{Run, Gives, Going, Wrong, functions, calls, run_optional, initial_globals, outcome_of, observed_behavior}
use Rattle.cc_c_semantics.specs.Function.{Shared, Answer, Answers, Unfinished, Failed, effect_of, state_within, name_of_function, call_function, body_of_function, SpendsExactly, GoesOn, ObservedRunsGoOn, RunsGoOn}
use Rattle.cc_c_semantics.proofs.Lasting.{written, Lasts, Under}
use Rattle.cc_c_semantics.proofs.Steps.{calls_steady, run_optional_steady}

exact_of : (n left : ℕ) (a : Answer) (r : Run ℕ) (go : ℕ → ℕ → Run ℕ) → Lasts Under n r go → effect_of r ≡ Answers a left
    → (left ≤ n) × ((more : ℕ) → effect_of (go (suc (n - left + more)) (n - left + more)) ≡ Answers a more)
exact_of n left a (Gives w t) go h e =
    let l : t.steps ≡ left = cc in
    let b : record { word = w; shared = record { globals = t.globals; input = t.input; output = t.output } } ≡ a = cc in
    let n_is : n ≡ h.0 + t.steps = h.1 in (
      omega arith,
      λ more.
          let f : n - left + more ≡ h.0 + more = omega arith in
          ap (λ k. effect_of (go (suc k) k)) f ∙ ap effect_of (h.2 more (suc (h.0 + more)) (omega arith)) ∙ ap (λ (y : Answer). Answers y more) b,
    )
exact_of n left a (Going output) go h e = absurd (let f : Unfinished output ≡ Answers a left = e in cc)
exact_of n left a (Wrong cause output) go h e = absurd (let f : Failed cause output ≡ Answers a left = e in cc)

pub exact_call : (unit : List External) (opened f : ℕ) (ws : List ℕ) (h : Shared) → SpendsExactly (λ n. call_function unit n opened f ws h)
exact_call unit opened f ws h = λ n left a e.
    exact_of n left a (calls (suc n) (functions unit) opened (name_of_function unit f) ws (state_within n h)) (λ m j. calls m (functions unit) opened (name_of_function unit f) ws (state_within j h))
    ((calls_steady (functions unit) opened (name_of_function unit f) ws).lasts (suc n) (state_within n h) (omega arith)) e

pub exact_body : (unit : List External) (opened f : ℕ) (ws : List ℕ) (h : Shared) → SpendsExactly (λ n. body_of_function unit n opened f ws h)
exact_body unit opened f ws h = λ n left a e.
    exact_of n left a (run_optional (slice_get (functions unit) f) (suc n) (calls (suc n) (functions unit) (opened + 1)) ws (state_within n h))
    (λ m j. run_optional (slice_get (functions unit) f) m (calls m (functions unit) (opened + 1)) ws (state_within j h))
    ((run_optional_steady (λ m. calls m (functions unit) (opened + 1)) (calls_steady (functions unit) (opened + 1)) (slice_get (functions unit) f) ws).lasts (suc n) (state_within n h) (omega arith)) e

output_of_outcome : (r : Run ℕ) → written r ≡ (outcome_of r).output
output_of_outcome (Gives w s) = refl
output_of_outcome (Going output) = refl
output_of_outcome (Wrong cause output) = refl

goes_on : (n more : ℕ) (r : Run ℕ) (go : ℕ → ℕ → Run ℕ) → Lasts Under n r go → GoesOn (outcome_of r).stop (outcome_of r) (outcome_of (go (suc (n + more)) (n + more)))
goes_on n more (Gives w t) go h =
    let n_is : n ≡ h.0 + t.steps = h.1 in
    let f : n + more ≡ h.0 + (t.steps + more) = omega arith in
    ap (λ k. outcome_of (go (suc k) k)) f ∙ ap outcome_of (h.2 (t.steps + more) (suc (h.0 + (t.steps + more))) (omega arith))
goes_on n more (Going output) go h =
    let b = h more (suc (n + more)) (omega arith) in (b.0, b.1 ∙ output_of_outcome (go (suc (n + more)) (n + more)))
goes_on n more (Wrong cause output) go h = ap outcome_of (h more (suc (n + more)) (omega arith))

pub observed_runs_go_on : ObservedRunsGoOn
observed_runs_go_on source input n more =
    goes_on n more (calls (suc n) (functions source.externals) 0 (codes "main") [] (record { locals = []; globals = initial_globals source.externals; input = input; output = []; steps = n }))
    (λ m j. calls m (functions source.externals) 0 (codes "main") [] (record { locals = []; globals = initial_globals source.externals; input = input; output = []; steps = j }))
    ((calls_steady (functions source.externals) 0 (codes "main") []).lasts (suc n) (record { locals = []; globals = initial_globals source.externals; input = input; output = []; steps = n }) (omega arith))

goes_on_in_words : (s : Stop ℕ) (a z : Outcome ℕ) → GoesOn s a z → GoesOn s (in_words a) (in_words z)
goes_on_in_words outcome.Going a z h = (written_words h.0, sym (words_append a.output h.0) ∙ ap written_words h.1)
goes_on_in_words (outcome.Ended w) a z h = ap (λ (o : Outcome ℕ). in_words o) h
goes_on_in_words (outcome.Wrong cause) a z h = ap (λ (o : Outcome ℕ). in_words o) h

pub runs_go_on : RunsGoOn
runs_go_on source input n more =
    goes_on_in_words (observed_behavior source input n).stop (observed_behavior source input n) (observed_behavior source input (n + more)) (observed_runs_go_on source input n more)
