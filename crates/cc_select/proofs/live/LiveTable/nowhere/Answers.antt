use Rattle.cc_select.proofs.Sweeping.{nowhere_is}
use Rattle.cc_select.proofs.live.LiveTable.nowhere.Goals as goal

pub returns : goal.returns
returns c = nowhere_is c.new.result.items c.none.result c.new.ensures.items c.none.ensures
