use Rattle.cc_select.proofs.Knowing.{one_forgotten}
use Rattle.cc_select.proofs.known.Known.forget.Goals as goal

pub returns : goal.returns
returns c = one_forgotten c.args.self.now.some c.without-self.result c.args.self.now.words c.args.register c.without-self.ensures
