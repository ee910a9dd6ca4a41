use Rattle.cc_recorded.proofs.Cores.{commits}
use Rattle.cc_recorded.proofs.laws.commits_are_steps.Goals as goal

pub returns : goal.returns
returns g c before after old new command result s client answers disk shows has =
    commits g.B.Build.rules g.D.Disk (λ d h. g.met.D.Disk.seen_is_image d h) before after old new command result s client answers disk shows has
