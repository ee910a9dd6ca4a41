-- A checked program compared with its source, for each way in which the source stops, and also after more steps, because a
-- run that went wrong stays as it was.
use Rattle.std.proofs.Common.{◌≡◌, ℕ, ◌+◌, Bool, true, false, if◌then◌else◌, refl, sym, ap, ◌∙◌, subst}
use Rattle.cc_simulation.specs.Behavior as runs
use Rattle.cc_simulation.specs.Behavior.{IsPrefixOf, EndsAlike, Shows, Follows}
use Rattle.cc_words.specs.Observed.{written_words}
use Rattle.cc_c_semantics.specs.Outcome.{Stop, Going, Ended, Wrong, Outcome, in_words}
use Rattle.cc_c_semantics.specs.Meaning.{observed_behavior, source_behavior}
use Rattle.cc_c_semantics.specs.Function.{GoesOn}
use Rattle.cc_c_semantics.specs.Checked.{stays, checked_stop, shown, IsRight, checked_behavior, ProgramsAreChecked}
use Rattle.cc_c_semantics.specs.Numbered.{stop_without_cause, without_cause, CheckedFollows, CheckedFollowsInWords}
use Rattle.cc_c_semantics.specs.declared.cause.Cause.{Cause}
use Rattle.cc_c_semantics.specs.declared.cause.Cause.TheVariants.{Depth}
use Rattle.cc_c_semantics.specs.declared.mode.Mode.TheVariants.{Checked}
use Rattle.cc_c_semantics.proofs.Exact.{observed_runs_go_on}

same_stop : (s : Stop ℕ) → IsRight s → checked_stop s ≡ s
same_stop Going ok = refl
same_stop (Ended w) ok = refl
same_stop (Wrong cause) ok = absurd ok

-- a run that went wrong does the same with more steps
same_wrong : (s : Stop ℕ) (cause : Cause) (a z : Outcome ℕ) → s ≡ Wrong cause → GoesOn s a z → z ≡ a
same_wrong Going cause a z e h = absurd (let f : ◌≡◌ {A = Stop ℕ} Going (Wrong cause) = e in cc)
same_wrong (Ended w) cause a z e h = h
same_wrong (Wrong c) cause a z e h = h

too_deep_by : (c cause : Cause) (b : Bool) → stays Checked c ≡ b → ◌≡◌ {A = Stop ℕ} (if b then Going else Wrong c) (Wrong cause) → c ≡ Depth
too_deep_by Depth cause b s e = refl
too_deep_by c cause true s e = absurd (let f : ◌≡◌ {A = Stop ℕ} Going (Wrong cause) = e in cc)
too_deep_by c cause false s e = absurd (let f : true ≡ false = s in cc)

too_deep : (s : Stop ℕ) (cause : Cause) → checked_stop s ≡ Wrong cause → s ≡ Wrong Depth
too_deep Going cause e = absurd (let f : ◌≡◌ {A = Stop ℕ} Going (Wrong cause) = e in cc)
too_deep (Ended w) cause e = absurd (let f : ◌≡◌ {A = Stop ℕ} (Ended w) (Wrong cause) = e in cc)
too_deep (Wrong c) cause e = ap (λ (x : Cause). Wrong x) (too_deep_by c cause (stays Checked c) refl e)

pub programs_are_checked : ProgramsAreChecked
programs_are_checked source input = record {
  right = λ n ok. ap (λ (s : Stop ℕ). record { stop = s; output = (observed_behavior source input n).output }) (same_stop (observed_behavior source input n).stop ok);
  still = λ n more cause e waits.
      let a = observed_behavior source input n in
      let z = observed_behavior source input (n + more) in
      let same : z ≡ a = same_wrong a.stop cause a z e (observed_runs_go_on source input n more) in
      ap (λ (o : Outcome ℕ). shown Checked o) same
      ∙ ap (λ (s : Stop ℕ). record { stop = checked_stop s; output = a.output }) e
      ∙ ap (λ b. record { stop = if b then Going else Wrong cause; output = a.output }) waits;
  wrong = λ n cause e. too_deep (observed_behavior source input n).stop cause e;
}

-- ---- what follows a checked program

same_shown : (s : Stop ℕ) → runs.IsRight (stop_without_cause s) → stop_without_cause (checked_stop s) ≡ stop_without_cause s
same_shown Going ok = refl
same_shown (Ended w) ok = refl
same_shown (Wrong cause) ok = absurd ok

-- what follows b also follows a, if b equals a wherever a is right
follows_right : {B C R : Type 0} (a b : B → runs.Outcome R) (z : C → runs.Outcome R) → ((n : B) → runs.IsRight (a n).stop → b n ≡ a n) → Follows b z → Follows a z
follows_right {B} {C} {R} a b z same f =
    let right : (n : B) → runs.IsRight (a n).stop → runs.IsRight (b n).stop = λ n ok. subst (λ (o : runs.Outcome R). runs.IsRight o.stop) (sym (same n ok)) ok in
    record {
      reaches = λ n ok. let m = f.reaches n (right n ok) in (m.0, subst (λ (o : runs.Outcome R). Shows o (z m.0)) (same n ok) m.1);
      never_wrong = λ ok m. f.never_wrong (λ n. right n (ok n)) m;
      no_more = λ ok m.
          let k = f.no_more (λ n. right n (ok n)) m in
          let e = same k.0 (ok k.0) in
          (k.0, subst (λ (o : runs.Outcome R). IsPrefixOf (z m).output o.output) e k.1, subst (λ (o : runs.Outcome R). EndsAlike (z m).stop o.stop) e k.2);
    }

pub checked_follows : CheckedFollows
checked_follows source input z f =
    follows_right (λ n. without_cause (observed_behavior source input n)) (λ n. without_cause (checked_behavior source input n)) z
    (λ n ok. ap (λ (s : runs.Stop ℕ). record { stop = s; output = (observed_behavior source input n).output }) (same_shown (observed_behavior source input n).stop ok)) f

pub checked_follows_in_words : CheckedFollowsInWords
checked_follows_in_words source input z f =
    follows_right (λ n. without_cause (source_behavior source input n)) (λ n. without_cause (in_words (checked_behavior source input n))) z
    (λ n ok. ap (λ (s : runs.Stop ℕ). record { stop = s; output = written_words (observed_behavior source input n).output }) (same_shown (observed_behavior source input n).stop ok)) f
