use Rattle.std.proofs.Common.{arith, sym, ◌∙◌, ◌+◌, ◌-◌, ◌≡◌, get_or}
use Rattle.cc_tokens.specs.internal.Scan.{goes_on}
use Rattle.cc_tokens.proofs.Loops.{run_end, run_stop, run_more}
use Rattle.cc_tokens.proofs.scan.run_len.Goals as goal

pub loop-n-preserved : goal.loop-n-preserved
loop-n-preserved c =
    let e : c.loop-n.n + 1 - 1 ≡ c.loop-n.n = omega arith in
    let more = run_more (goes_on c.args.run) (get_or c.args.bytes.now (c.loop-n.n - 1) 0) c.loop-n.n c.args.bytes.now (omega arith) (sym c.goes_on.ensures ∙ c.if-goes_on.true) in
    record {
      started = omega arith;
      in_range = omega arith;
      counted = rw e (omega (arith, more, c.loop-n.invariant.counted));
    }

pub returns-else-goes_on-clause-value : goal.returns-else-goes_on-clause-value
returns-else-goes_on-clause-value c =
    omega (arith, run_stop (goes_on c.args.run) (get_or c.args.bytes.now (c.loop-n.n - 1) 0) c.loop-n.n c.args.bytes.now (omega arith) (sym c.goes_on.ensures ∙ c.if-goes_on.false), c.loop-n.invariant.counted)

pub returns-after-loop-n-clause-value : goal.returns-after-loop-n-clause-value
returns-after-loop-n-clause-value c =
    omega (arith, run_end (goes_on c.args.run) (get_or c.args.bytes.now (c.loop-n.n - 1) 0) c.loop-n.n c.args.bytes.now (omega arith), c.loop-n.invariant.counted)
