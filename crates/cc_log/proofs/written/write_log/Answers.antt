use Rattle.std.specs.Prelude.{option_map}
use Rattle.cc_log.proofs.Writing.{one_more}
use Rattle.cc_log.proofs.written.write_log.Goals as goal

pub loop-i-preserved : goal.loop-i-preserved
loop-i-preserved g c =
    one_more c.args.is_hashed (option_map (λ n. n.now) c.args.name) _ _ _ c.args.commands.now c.loop-i.i c.index-commands-i.result c.loop-i-test.true c.index-commands-i.is c.loop-i.invariant c.in_ok-write_line.ensures
