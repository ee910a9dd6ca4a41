use Rattle.cc_select.proofs.Knowing.{none_known}
use Rattle.cc_select.proofs.known.Known.forget_all.Goals as goal

pub returns : goal.returns
returns c = none_known c.none-self.result c.args.self.now.words c.none-self.ensures
