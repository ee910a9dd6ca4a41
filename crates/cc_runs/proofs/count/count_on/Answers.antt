-- The second run begins at a point at which the first one was still going. When it ends, or a bound is reached, the number of its
-- instructions is the count.
use Rattle.std.proofs.Common.{◌≡◌, ◌≤◌, ◌<◌, ◌⊎◌, inl, inr, ℕ, ◌+◌, ◌-◌, sym, ◌∙◌, subst, arith, rules}
use Rattle.std.proofs.lemmas.Bool.{false≢true}
use Rattle.cc_rv32.specs.declared.outcome.MachineOutcome.TheVariants.{Going}
use Rattle.cc_rv32.specs.Simulation.{IsAfter}
use Rattle.cc_rv32.proofs.After.{after_outcome}
use Rattle.cc_runs.proofs.Counting.{few_at_start, goes_before, has_cut, has_ended}
use Rattle.cc_runs.proofs.count.count_on.Goals.{then-loop-left-test+else-eq, else-loop-left-test}
use Rattle.cc_runs.proofs.count.count_on.Goals as goal

pub loop-left-init : goal.loop-left-init
loop-left-init c =
    let image = c.args.image.now in
    let words = c.args.words.now in
    let begun = c.in_ok-begun.begun in
    let over = c.in_ok-over.over in
    let within : begun ≤ c.args.steps = c.in_ok-begun.ensures.within in
    let less : over ≤ begun = c.in_ok-over.ensures.left in
    let start = c.in-Ok.ensures.start in
    let here : 0 + (begun - over) ≡ begun - over = omega arith in (
      begun - over,
      omega arith,
      subst (λ (n : ℕ). IsAfter image words n c.go_on.new.machine) here (c.in_ok-over.ensures.after image words 0 start),
      c.in_ok-over.ensures.few (few_at_start image words c.args.most c.restart.new.self start),
      λ n lower. goes_before image words n begun (omega (arith, lower)) c.in_ok-begun.ensures.going,
    )

pub returns-then-over-gt0 : goal.returns-then-over-gt0
returns-then-over-gt0 c =
    let image = c.args.image.now in
    let words = c.args.words.now in
    let i = c.loop-left.invariant in
    let over = c.in_ok-over-2.over in
    let some : 0 < over = omega arith in
    let one : over ≤ 1 = c.in_ok-over-2.ensures.left in
    has_cut image words c.args.steps i.0 c.loop-left.left over c.args.most c.go_on-in-loop-left.new.machine i.1 some one
    (c.in_ok-over-2.ensures.after image words i.0 i.2) (c.in_ok-over-2.ensures.few i.3) (λ more p. c.in_ok-over-2.ensures.over some image words i.0 more i.2 p) i.4

pub loop-left-preserved : goal.loop-left-preserved
loop-left-preserved c =
    let image = c.args.image.now in
    let words = c.args.words.now in
    let i = c.loop-left.invariant in
    let over = c.in_ok-over-2.over in
    let none : over ≡ 0 = omega arith in
    let here : i.0 + (1 - over) ≡ i.0 + 1 = omega arith in
    let was : c.loop-left.machine.outcome ≡ Going = search rules in (
      i.0 + 1,
      omega arith,
      subst (λ (n : ℕ). IsAfter image words n c.go_on-in-loop-left.new.machine) here (c.in_ok-over-2.ensures.after image words i.0 i.2),
      c.in_ok-over-2.ensures.few i.3,
      λ n lower. goes_before image words n i.0 (omega (arith, lower)) (sym (after_outcome image words i.0 c.loop-left.machine i.2) ∙ was),
    )

pub returns : goal.returns
returns c =
    let i = c.loop-left.invariant in
    let over : (c.loop-left.left ≡ 0) ⊎ (c.loop-left.machine.outcome ≡ Going → ⊥) = elim c.loop-left-test.branch [
      | then-loop-left-test+else-eq w ↦ inr (λ e. let told = w.if-eq.ensures in let same : w.outcome.result ≡ Going = w.outcome.ensures ∙ e in false≢true (rw same at told))
      | else-loop-left-test w ↦ inl (omega arith)
    ] in
    has_ended c.args.image.now c.args.words.now c.args.steps i.0 c.loop-left.left c.args.most c.loop-left.machine i.1 over i.2 i.3 i.4
