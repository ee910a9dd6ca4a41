use Rattle.std.proofs.Common.{arith, ◌≡◌, ◌==◌, ℕ, length, false, ◌-◌, ◌+◌}
use Rattle.std.proofs.lemmas.List.Elements.{All-more}
use Rattle.cc_script.proofs.Words.{cut_at, uncut, is_no_space}
use Rattle.cc_runs.proofs.words.cut.Goals as goal

pub returns-then-line-i-eq32-clause-words : goal.returns-then-line-i-eq32-clause-words
returns-then-line-i-eq32-clause-words c = cut_at c.args.line.now c.loop-i.i (length c.args.line.now - (c.loop-i.i + 1)) c.loop-i-test.true c.loop-i.invariant c.if-line-i-eq32.true (omega arith)

pub loop-i-preserved : goal.loop-i-preserved
loop-i-preserved c =
    All-more (λ (b : ℕ). (b == 32) ≡ false) c.args.line.now c.loop-i.i 0 c.loop-i-test.true c.loop-i.invariant (is_no_space _ c.if-line-i-eq32.false)

pub returns-clause-words : goal.returns-clause-words
returns-clause-words c = uncut c.args.line.now c.loop-i.i (omega arith) c.loop-i.invariant
