use Rattle.std.proofs.Common.{ℕ, ap, arith, length, take, replicate}
use Rattle.std.proofs.lemmas.List.{length-replicate, take-replicate}
use Rattle.cc_disk.proofs.Files.{more_zeros}
use Rattle.cc_disk.proofs.over.add_zeros.Goals as goal

pub returns : goal.returns
returns g c = λ honest is.
    more_zeros (g.F.FileCalls.content c.args.file.now) (take c.args.count (replicate {A = ℕ} 4096 0)) (g.F.FileCalls.content c.write_whole.new.file) c.args.done c.args.count is
    (take-replicate c.args.count 4096 0 c.requires)
    (c.in_ok-write_whole.ensures honest (omega (arith, ap length is, length-replicate {A = ℕ} c.args.done 0)))
