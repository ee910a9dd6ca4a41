use Rattle.std.proofs.Common.{replicate}
use Rattle.cc_select.proofs.Knowing.{none_known}
use Rattle.cc_select.proofs.known.Known.nothing.Goals as goal

pub returns : goal.returns
returns c = none_known c.none.result (replicate 32 0) c.none.ensures
