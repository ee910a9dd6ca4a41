use Rattle.std.proofs.Common.{arith, sym, ◌∙◌, ◌≡◌}
use Rattle.std.proofs.lemmas.List.{take_rest}
use Rattle.cc_tokens.specs.internal.Scan.{begins}
use Rattle.cc_tokens.proofs.Loops.{place_none, place_found, place_more}
use Rattle.cc_tokens.proofs.scan.offset_within.Goals as goal

pub returns-then-begins-clause-value : goal.returns-then-begins-clause-value
returns-then-begins-clause-value c = omega (arith, place_found (begins c.args.mark) c.args.n c.loop-i.i c.args.bytes.now (omega arith) (omega arith) (rw (take_rest c.args.bytes.now c.loop-i.i) at (sym c.begins.ensures ∙ c.if-begins.true)), c.loop-i.invariant)

pub loop-i-preserved : goal.loop-i-preserved
loop-i-preserved c = omega (arith, place_more (begins c.args.mark) c.args.n c.loop-i.i c.args.bytes.now (omega arith) (omega arith) (rw (take_rest c.args.bytes.now c.loop-i.i) at (sym c.begins.ensures ∙ c.if-begins.false)), c.loop-i.invariant)

pub returns-clause-value : goal.returns-clause-value
returns-clause-value c =
    let done : c.loop-i.i ≡ c.args.n = omega arith in
    omega (arith, place_none (begins c.args.mark) c.args.n c.args.bytes.now, rw done at c.loop-i.invariant)
