-- A run within two numbers of steps: if it is going within the larger one, it is going within the smaller one, and once it has
-- ended it stays ended.
use Rattle.std.proofs.Common.{◌≡◌, ◌⊎◌, inl, inr, ℕ, ◌+◌, ◌-◌, ◌<◌, ◌≤◌, List, refl, sym, ap, ◌∙◌, arith}
use Rattle.cc_ast.specs.Tree.{Source}
use Rattle.cc_c_semantics.specs.Function.{GoesOn, RunsGoOn}
use Rattle.cc_c_semantics.specs.Meaning.{source_behavior}
use Rattle.cc_c_semantics.specs.Outcome as outcome
use Rattle.cc_steps.specs.Count.{IsStepCount}

going_or_not : (s : outcome.Stop ℕ) → (s ≡ outcome.Going) ⊎ (s ≡ outcome.Going → ⊥)
going_or_not outcome.Going = inl refl
going_or_not (outcome.Ended w) = inr (λ e. cc)
going_or_not (outcome.Wrong cause) = inr (λ e. cc)

either : (A : Type 0) → A ⊎ (A → ⊥) → ((A → ⊥) → A) → A
either A (inl a) f = a
either A (inr other) f = f other

settled : (s : outcome.Stop ℕ) (a z : outcome.Outcome ℕ) → (s ≡ outcome.Going → ⊥) → GoesOn s a z → z ≡ a
settled outcome.Going a z over on = absurd (over refl)
settled (outcome.Ended w) a z over on = on
settled (outcome.Wrong cause) a z over on = on

module _ (law : RunsGoOn) (source : Source) (input : List ℕ) where
  -- a run that has ended within n steps is the same within any larger number of steps
  pub stays : (n m : ℕ) → n ≤ m → ((source_behavior source input n).stop ≡ outcome.Going → ⊥) → source_behavior source input m ≡ source_behavior source input n
  stays n m le over =
      let parts : n + (m - n) ≡ m = omega arith in
      let on = settled (source_behavior source input n).stop (source_behavior source input n) (source_behavior source input (n + (m - n))) over (law source input n (m - n)) in
      ap (λ (k : ℕ). source_behavior source input k) (sym parts) ∙ on

  -- a run that is going within m steps is going within fewer
  pub goes_before : (n m : ℕ) → n ≤ m → (source_behavior source input m).stop ≡ outcome.Going → (source_behavior source input n).stop ≡ outcome.Going
  goes_before n m le going =
      either ((source_behavior source input n).stop ≡ outcome.Going) (going_or_not (source_behavior source input n).stop)
      (λ other. sym (ap (λ (o : outcome.Outcome ℕ). o.stop) (stays n m le other)) ∙ going)

  -- a run that is going within `tried` steps is going within any number of steps up to `tried`
  pub goes_until : (tried : ℕ) → (source_behavior source input tried).stop ≡ outcome.Going → (n : ℕ) → n < tried + 1 → (source_behavior source input n).stop ≡ outcome.Going
  goes_until tried here n less = goes_before n tried (omega arith) here

  -- if the run has ended within the count and is still going within fewer steps, the count is right
  pub counted : (bound count : ℕ) → count ≤ bound → ((n : ℕ) → n < count → (source_behavior source input n).stop ≡ outcome.Going) → ((source_behavior source input count).stop ≡ outcome.Going → ⊥)
      → IsStepCount source bound input count
  counted bound count within before over =
      let same : source_behavior source input bound ≡ source_behavior source input count = stays count bound within over in
      record {
        within = within;
        comes = sym same;
        going = before;
        bound_is = λ going. absurd (over (sym (ap (λ (o : outcome.Outcome ℕ). o.stop) same) ∙ going));
      }

  -- if a run is still going within the bound, the count is the bound
  pub unended : (bound : ℕ) → (source_behavior source input bound).stop ≡ outcome.Going → IsStepCount source bound input bound
  unended bound going = record { within = omega arith; comes = refl; going = λ n less. goes_before n bound (omega arith) going; bound_is = λ _. refl }
