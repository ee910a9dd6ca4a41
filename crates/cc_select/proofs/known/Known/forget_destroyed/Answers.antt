use Rattle.cc_select.proofs.Knowing.{some_survive}
use Rattle.cc_select.proofs.known.Known.forget_destroyed.Goals as goal

pub returns : goal.returns
returns c = some_survive c.args.self.now.some c.surviving-self.result c.args.self.now.words c.surviving-self.ensures
