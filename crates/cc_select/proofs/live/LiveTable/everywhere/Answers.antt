use Rattle.cc_select.proofs.Sweeping.{everywhere_is}
use Rattle.cc_select.proofs.live.LiveTable.everywhere.Goals as goal

pub returns : goal.returns
returns c = everywhere_is c.new.result.items c.all.result c.new.ensures.items c.all.ensures
