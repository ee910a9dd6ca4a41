use Rattle.cc_cminor.proofs.Closing.{closing-next}
use Rattle.cc_cminor.proofs.statements.close.Goals as goal

pub loop-names-preserved : goal.loop-names-preserved
loop-names-preserved c =
    closing-next c.args.locals c.len.result c.args.names.now c.loop-names.names c.undeclare.new.self c.loop-names.invariant c.len.ensures c.loop-names-test.true c.undeclare.ensures
