-- The performed task ended as the clause says.
use Rattle.cc_tasks.proofs.Working.{performed}
use Rattle.cc_tasks.proofs.work.carry_out.Goals as goal

pub returns : goal.returns
returns g c =
    performed c.try_perform-performed.result.told c.args.task (g.R.Read.remaining c.args.reader.now) (g.W.Write.contents c.args.writer.now) (g.W.Write.contents c.try_perform-performed.new.writer) c.ended.result.status
    c.ended.result.is_written c.try_perform-performed.ensures c.ended.ensures.status c.ended.ensures.written
