use Rattle.std.proofs.Common.{◌≡◌, ℕ, ◌+◌, ◌<◌, List, length, sym, ◌∙◌, subst, arith, rules}
use Rattle.cc_rv32.specs.declared.outcome.MachineOutcome.TheVariants.{Going}
use Rattle.cc_session.proofs.patience.run_in_slices.Goals as goal

pub returns-then-output-gt-MOST_WORDS : goal.returns-then-output-gt-MOST_WORDS
returns-then-output-gt-MOST_WORDS g c =
    let image = c.args.image.now in
    let words = c.args.words.now in
    let i = c.loop-left.invariant in
    let there = c.in-Ok-run.ensures.behavior image words i.0 i.2 in (
      c.if-bounds.true,
      (i.0 + 1000000, omega arith, subst (λ (l : List ℕ). 8388608 < length l) (c.output.ensures.behavior image words (i.0 + 1000000) there.0) c.if-output-gt-MOST_WORDS.true),
    )

pub returns-then-is_out : goal.returns-then-is_out
returns-then-is_out g c =
    let i = c.loop-left.invariant in
    let there = c.in-Ok-run.ensures.behavior c.args.image.now c.args.words.now i.0 i.2 in
    let going : c.in-Ok-run.outcome ≡ Going = search rules in
    (c.if-bounds-2.true, (i.0 + 1000000, omega arith, sym there.1 ∙ going))

pub loop-left-preserved : goal.loop-left-preserved
loop-left-preserved g c =
    let i = c.loop-left.invariant in
    let there = c.in-Ok-run.ensures.behavior c.args.image.now c.args.words.now i.0 i.2 in
    (i.0 + 1000000, omega arith, there.0)
