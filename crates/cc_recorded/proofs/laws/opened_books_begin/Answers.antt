use Rattle.cc_recorded.proofs.Beginning.{begins}
use Rattle.cc_recorded.proofs.laws.opened_books_begin.Goals as goal

pub returns : goal.returns
returns g c = begins g.D.Disk
