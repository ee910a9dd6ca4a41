-- The performed task ended as the clause says.
use Rattle.std.specs.Prelude.{Some}
use Rattle.cc_sources.specs.Joined.{joined}
use Rattle.cc_tasks.proofs.Working.{performed}
use Rattle.cc_tasks.proofs.texts.carry_out_texts.Goals as goal

pub returns : goal.returns
returns g c =
    performed c.try_texts-performed.result.told c.args.task (Some (joined c.args.texts.now)) (g.W.Write.contents c.args.writer.now) (g.W.Write.contents c.try_texts-performed.new.writer) c.ended.result.status
    c.ended.result.is_written c.try_texts-performed.ensures c.ended.ensures.status c.ended.ensures.written
