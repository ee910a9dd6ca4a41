-- A run within two numbers of instructions: if it is going within the larger one, it is going within the smaller one, and once
-- it has ended it stays ended.
use Rattle.std.proofs.Common.{◌≡◌, ◌⊎◌, inl, inr, ℕ, ◌+◌, ◌-◌, ◌<◌, ◌≤◌, Bool, true, ◌&&◌, List, [], Option, Some, None, Result, Ok, Err, refl, sym, ap, subst, ◌∙◌, arith}
use Rattle.std.specs.Prelude.{IfOk, IfSome, is_some}
use Rattle.std.proofs.lemmas.Bool.{cases_lt}
use Rattle.cc_words.specs.Observed.{written_words}
use Rattle.cc_rv32.specs.declared.image.Image.{Image}
use Rattle.cc_rv32.specs.declared.outcome.MachineOutcome.{MachineOutcome}
use Rattle.cc_rv32.specs.declared.outcome.MachineOutcome.TheVariants.{Going, Exited, Trapped}
use Rattle.cc_rv32.specs.Machine.{Run, Behavior, machine_run, machine_behavior, seen, start}
use Rattle.cc_rv32.proofs.Running.{machine_run-add, machine_run-ended, machine_run-none}
use Rattle.cc_rv32.specs.Machine.{instruction_at}
use Rattle.cc_rv32.specs.InPlace.{is_going, is_in_place, jumps_to_itself}
use Rattle.cc_rv32.specs.Simulation.{Simulation, run_with, IsAfter}
use Rattle.cc_rv32.proofs.After.{after_outcome, after_output}
use Rattle.cc_rv32.proofs.InPlace.{stays_after}
use Rattle.cc_runs.specs.declared.count.CountedRun.{CountedRun}
use Rattle.cc_runs.specs.Count.{IsCount, IsCounted}
use Rattle.cc_runs.specs.Final.{is_at_jump, is_final_at}
use Rattle.cc_runs.specs.Within.{IsFew, IsOver, IsLast, IsCountedWithin}
use Rattle.cc_runs.specs.internal.Ending.{HasRun}

-- an outcome is Going or it is not
going_or_not : (o : MachineOutcome) → (o ≡ Going) ⊎ (o ≡ Going → ⊥)
going_or_not Going = inl refl
going_or_not (Exited w) = inr (λ e. cc)
going_or_not Trapped = inr (λ e. cc)

either : (A : Type 0) → A ⊎ (A → ⊥) → ((A → ⊥) → A) → A
either A (inl a) f = a
either A (inr other) f = f other

-- at its start a run is going
pub begins : (image : Image) (words : List ℕ) → (machine_behavior image words 0).outcome ≡ Going
begins image words = ap (λ (r : Run). r.outcome) (machine_run-none image.code 0 (start image words) refl)

-- a run that has ended within n instructions is the same within more
pub stays : (image : Image) (words : List ℕ) (n m : ℕ) → n ≤ m → ((machine_behavior image words n).outcome ≡ Going → ⊥) → machine_behavior image words m ≡ machine_behavior image words n
stays image words n m le ended =
    let first : Run = start image words in
    let then : Run = machine_run image.code n first in
    let parts : m ≡ n + (m - n) = omega arith in
    let on : machine_run image.code (n + (m - n)) first ≡ machine_run image.code (m - n) then = machine_run-add image.code n (m - n) first in
    let still : machine_run image.code (m - n) then ≡ then = machine_run-ended image.code (m - n) then.state then.outcome ended in
    ap seen (ap (λ (k : ℕ). machine_run image.code k first) parts ∙ (on ∙ still))

-- a run that is going within m instructions is going within fewer
pub goes_before : (image : Image) (words : List ℕ) (n m : ℕ) → n ≤ m → (machine_behavior image words m).outcome ≡ Going → (machine_behavior image words n).outcome ≡ Going
goes_before image words n m le going =
    either ((machine_behavior image words n).outcome ≡ Going) (going_or_not (machine_behavior image words n).outcome)
    (λ other. sym (ap (λ (b : Behavior). b.outcome) (stays image words n m le other)) ∙ going)

-- a run that is going after `done` instructions, and within any smaller number, is going within any number below `done + 1`
pub goes_until : (image : Image) (words : List ℕ) (done : ℕ) → ((n : ℕ) → n < done → (machine_behavior image words n).outcome ≡ Going) → (machine_behavior image words done).outcome ≡ Going
    → (n : ℕ) → n < done + 1 → (machine_behavior image words n).outcome ≡ Going
goes_until image words done before here n less = goes_before image words n done (omega arith) here

-- `done` is the count if the run has ended within it, or if it is the bound
pub counted : (image : Image) (words : List ℕ) (steps done left : ℕ) → done + left ≡ steps → ((n : ℕ) → n < done → (machine_behavior image words n).outcome ≡ Going)
    → (left ≡ 0) ⊎ ((machine_behavior image words done).outcome ≡ Going → ⊥) → IsCount image steps words done
counted image words steps done left parts before (inl none) =
    let same : done ≡ steps = omega arith in
    record { within = omega arith; comes = ap (machine_behavior image words) same; going = before; bound = λ _. same }
counted image words steps done left parts before (inr ended) =
    let within : done ≤ steps = omega arith in
    let same : machine_behavior image words steps ≡ machine_behavior image words done = stays image words done steps within ended in
    record {
      within = within;
      comes = sym same;
      going = before;
      bound = λ going. absurd (ended (sym (ap (λ (b : Behavior). b.outcome) same) ∙ going));
    }

-- a run that has ended is also the run within more instructions
pub ended_after : (image : Image) (words : List ℕ) (done steps : ℕ) (m : Simulation) → done ≤ steps → (m.outcome ≡ Going → ⊥) → IsAfter image words done m → IsAfter image words steps m
ended_after image words done steps m le ended a =
    let parts : steps ≡ done + (steps - done) = omega arith in
    let r : Run = run_with a.observed m in
    record {
      code = a.code;
      observed = a.observed;
      words = a.words;
      run =
          sym (machine_run-ended image.code (steps - done) r.state r.outcome ended)
          ∙ ap (machine_run image.code (steps - done)) a.run
          ∙ sym (machine_run-add image.code done (steps - done) (start image words))
          ∙ ap (λ n. machine_run image.code n (start image words)) (sym parts);
    }

-- the words of a machine are those of its image
few_after : (image : Image) (words : List ℕ) (n : ℕ) (most : Option ℕ) (m : Simulation) → IsAfter image words n m → IsFew most m.output → IsFew most (machine_behavior image words n).output
few_after image words n most m a few = subst (IsFew most) (after_output image words n m a) few

no_words : (most : Option ℕ) → IsFew most []
no_words None = tt
no_words (Some most) = omega arith

-- at its start a machine has written nothing
pub few_at_start : (image : Image) (words : List ℕ) (most : Option ℕ) (m : Simulation) → IsAfter image words 0 m → IsFew most m.output
few_at_start image words most m a =
    let none : (machine_behavior image words 0).output ≡ [] = ap (λ (r : Run). written_words r.state.output) (machine_run-none image.code 0 (start image words) refl) in
    subst (IsFew most) (sym (after_output image words 0 m a ∙ none)) (no_words most)

-- after all instructions of the bound, or once the run has ended, the run is that within the bound
pub runs_out : (image : Image) (words : List ℕ) (steps done left : ℕ) (most : Option ℕ) (m : Simulation) → done + left ≡ steps → (left ≡ 0) ⊎ (m.outcome ≡ Going → ⊥) → IsAfter image words done m
    → IsFew most m.output → IsAfter image words steps m × IsLast image steps most words steps
runs_out image words steps done left most m parts over a few =
    let within : done ≤ steps = omega arith in
    let b : IsAfter image words steps m = elim over [
      | inl none ↦ let same : done ≡ steps = omega arith in subst (λ n. IsAfter image words n m) same a
      | inr ended ↦ ended_after image words done steps m within ended a
    ] in
    (b, record { within = omega arith; few = few_after image words steps most m b few; over = λ k more less. absurd (omega arith) })

-- a run that has stopped before a word that is too many
pub is_cut : (image : Image) (words : List ℕ) (steps done : ℕ) (most : Option ℕ) (m : Simulation) → done ≤ steps → IsAfter image words done m → IsFew most m.output
    → ((more : ℕ) → 0 < more → IsOver most (machine_behavior image words (done + more)).output) → IsLast image steps most words done
is_cut image words steps done most m within a few over = record {
  within = within;
  few = few_after image words done most m a few;
  over = λ k more less. let sum : done + (k - done) ≡ k = omega arith in subst (λ n. IsOver most (machine_behavior image words n).output) sum (over (k - done) (omega arith));
}

-- the count of a run that is going at its bound
pub count_of_going : (image : Image) (words : List ℕ) (done : ℕ) → ((n : ℕ) → n < done → (machine_behavior image words n).outcome ≡ Going) → IsCount image done words done
count_of_going image words done before = record { within = omega arith; comes = refl; going = before; bound = λ _. refl }

-- a counted run that is cut before its next instruction
pub has_cut : (image : Image) (words : List ℕ) (steps done left over : ℕ) (most : Option ℕ) (m : Simulation) → done + left ≡ steps → 0 < over → over ≤ 1 → IsAfter image words (done + (1 - over)) m → IsFew most m.output
    → ((more : ℕ) → 0 < more → IsOver most (machine_behavior image words (done + (1 - over) + more)).output) → ((n : ℕ) → n < done → (machine_behavior image words n).outcome ≡ Going)
    → HasRun image steps most words m (Some (steps - left))
has_cut image words steps done left over most m parts some one a few past before =
    let here : done + (1 - over) ≡ done = omega arith in
    let count : done ≡ steps - left = omega arith in
    let b : IsAfter image words done m = subst (λ n. IsAfter image words n m) here a in
    record {
      done = done;
      last = is_cut image words steps done most m (omega arith) b few (λ more p. subst (λ n. IsOver most (machine_behavior image words (n + more)).output) here (past more p));
      after = b;
      count = subst (IsCount image done words) count (count_of_going image words done before);
    }

-- a counted run that has used all instructions of the bound, or has ended
pub has_ended : (image : Image) (words : List ℕ) (steps done left : ℕ) (most : Option ℕ) (m : Simulation) → done + left ≡ steps → (left ≡ 0) ⊎ (m.outcome ≡ Going → ⊥) → IsAfter image words done m → IsFew most m.output
    → ((n : ℕ) → n < done → (machine_behavior image words n).outcome ≡ Going) → HasRun image steps most words m (Some (steps - left))
has_ended image words steps done left most m parts over a few before =
    let out = runs_out image words steps done left most m parts over a few in
    let count : done ≡ steps - left = omega arith in
    let shown : (left ≡ 0) ⊎ ((machine_behavior image words done).outcome ≡ Going → ⊥) = elim over [
      | inl none ↦ inl none
      | inr ended ↦ inr (λ e. ended (after_outcome image words done m a ∙ e))
    ] in
    record { done = steps; last = out.1; after = out.0; count = subst (IsCount image steps words) count (counted image words steps done left parts before shown) }

-- a run that is not counted
pub has_run : (image : Image) (words : List ℕ) (steps over : ℕ) (most : Option ℕ) (m : Simulation) → over ≤ steps → IsAfter image words (0 + (steps - over)) m → IsFew most m.output
    → (0 < over → (more : ℕ) → 0 < more → IsOver most (machine_behavior image words (0 + (steps - over) + more)).output) → HasRun image steps most words m None
has_run image words steps over most m within a few past =
    let here : 0 + (steps - over) ≡ steps - over = omega arith in
    let b : IsAfter image words (steps - over) m = subst (λ n. IsAfter image words n m) here a in
    elim (cases_lt 0 over) [
      | inl some ↦ record {
        done = steps - over;
        last = is_cut image words steps (steps - over) most m (omega arith) b few (λ more p. subst (λ n. IsOver most (machine_behavior image words (n + more)).output) here (past some more p));
        after = b;
        count = tt;
      }
      | inr none ↦
          let out = runs_out image words steps (steps - over) 0 most m (omega arith) (inl refl) b few in
          record { done = steps; last = out.1; after = out.0; count = tt }
    ]

-- a machine at a jump to itself is one whose image's run has stopped in place
placed : (image : Image) (words : List ℕ) (n : ℕ) (m : Simulation) → IsAfter image words n m → is_in_place m ≡ is_final_at image words n
placed image words n m a =
    ap (λ (c : List ℕ). is_going m.outcome && jumps_to_itself (instruction_at c (run_with a.observed m).state.pc)) a.code
    ∙ ap (is_at_jump image) a.run

stays_for_ever : (image : Image) (words : List ℕ) (n : ℕ) (m : Simulation) → is_in_place m ≡ true → IsAfter image words n m → (more : ℕ) → machine_behavior image words (n + more) ≡ machine_behavior image words n
stays_for_ever image words n m is a more =
    let none : n + 0 ≡ n = omega arith in
    stays_after image words n more m is a ∙ sym (ap (machine_behavior image words) (sym none) ∙ stays_after image words n 0 m is a)

-- what was taken from a machine at the end of its run
abbrev pub Shows : Simulation → (executed : Option ℕ) → CountedRun → Type 0
Shows m executed r = (r.run.output.items ≡ m.output) × (r.run.outcome ≡ m.outcome) × (r.executed ≡ executed) × (r.is_final ≡ is_in_place m)

pub whole : (image : Image) (words : List ℕ) (steps : ℕ) (most : Option ℕ) (is_counted : Bool) (m : Simulation) (executed : Option ℕ) → HasRun image steps most words m executed → is_some executed ≡ is_counted
    → (r : CountedRun) → Shows m executed r → IsCountedWithin image is_counted steps most words r
whole image words steps most is_counted m executed h asked r s =
    let ends : (machine_behavior image words h.done).outcome ≡ r.run.outcome = sym (s.1 ∙ after_outcome image words h.done m h.after) in
    let wrote : (machine_behavior image words h.done).output ≡ r.run.output.items = sym (s.0 ∙ after_output image words h.done m h.after) in (
      h.done,
      h.last,
      record {
        run = λ i. record { outcome = ends i; output = wrote i };
        asked = ap is_some s.2 ∙ asked;
        count = subst (λ (e : Option ℕ). IfSome e (IsCount image h.done words)) (sym s.2) h.count;
        final = s.3 ∙ placed image words h.done m h.after;
        for_ever = λ yes. stays_for_ever image words h.done m (sym s.3 ∙ yes) h.after;
      },
    )

-- without a bound on words the run is that within all instructions
none_over : (image : Image) (words : List ℕ) (steps n : ℕ) → IsLast image steps None words n → n ≡ steps
none_over image words steps n last =
    let within : n ≤ steps = last.within in
    elim (cases_lt n steps) [
      | inl less ↦ absurd (last.over steps less (omega arith))
      | inr more ↦ omega arith
    ]

pub without_bound : (image : Image) (is_counted : Bool) (steps : ℕ) (words : List ℕ) (r : CountedRun) → IsCountedWithin image is_counted steps None words r → IsCounted image is_counted steps words r
without_bound image is_counted steps words r h = subst (λ n. IsCounted image is_counted n words r) (none_over image words steps h.0 h.1) h.2

-- if `P` implies `Q`, and a result's answer has `P`, then it has `Q`
pub on_ok : {A E : Type 0} (P Q : A → Type 0) → ((a : A) → P a → Q a) → (r : Result A E) → IfOk r P → IfOk r Q
on_ok P Q step (Ok a) p = step a p
on_ok P Q step (Err e) p = tt
