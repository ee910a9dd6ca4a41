-- A label is its position.
use Rattle.cc_rtl_language.proofs.Places.{position_is_label}
use Rattle.cc_rtl_language.proofs.rtl.Rtl.position.Goals as goal

pub returns-clause-position : goal.returns-clause-position
returns-clause-position c = (position_is_label c.args.self.now.nodes c.args.label c.len-kept.ensures.numbered c.requires).0

pub returns-clause-within : goal.returns-clause-within
returns-clause-within c = (position_is_label c.args.self.now.nodes c.args.label c.len-kept.ensures.numbered c.requires).1
