use Rattle.cc_recorded.proofs.Beginning.{beside}
use Rattle.cc_recorded.proofs.laws.jobs_are_beside.Goals as goal

pub returns : goal.returns
returns g c = beside g.B.Build.rules g.D.Disk
