use Rattle.cc_recorded.proofs.Rewriting.{compacts}
use Rattle.cc_recorded.proofs.laws.compactions_are_rewrites.Goals as goal

pub returns : goal.returns
returns g c before after result s answers disk shows = compacts g.B.Build.rules g.D.Disk before after result s answers disk shows
