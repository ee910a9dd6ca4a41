use Rattle.cc_guard.proofs.OnlyDepth.{only_depth_is_left}
use Rattle.cc_guard.proofs.laws.only_depth_is_left.Goals as goal

pub returns : goal.returns
returns c = only_depth_is_left c.units_have_meanings.ensures.meaning c.programs_call_main.ensures.main c.units_have_meanings.ensures.programs c.calls_go_on.ensures.bodies
