-- A reader skips the text that is made.
use Rattle.cc_spool.proofs.Skipping.{skips}
use Rattle.cc_spool.proofs.framing.frame.Goals as goal

pub returns-clause-skipped : goal.returns-clause-skipped
returns-clause-skipped c = skips c.written.result c.args.source.now c.requires c.written.ensures
