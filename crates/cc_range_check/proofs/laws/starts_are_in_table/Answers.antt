use Rattle.cc_range_check.proofs.Starting.{starts}
use Rattle.cc_range_check.proofs.laws.starts_are_in_table.Goals as goal

pub returns : goal.returns
returns c = starts c.ranges_are_sound.ensures.words c.ranges_are_sound.ensures.within
