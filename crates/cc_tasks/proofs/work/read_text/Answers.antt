-- If the text is not read, no task has an answer.
use Rattle.cc_tasks.proofs.Working.{unread}
use Rattle.cc_tasks.proofs.work.read_text.Goals as goal

pub returns-in-Err-clause-unread : goal.returns-in-Err-clause-unread
returns-in-Err-clause-unread g c =
    unread (g.R.Read.remaining c.args.reader.now) (g.W.Write.contents c.args.writer.now) (g.W.Write.contents c.refused.new.writer) c.in-Err.fault c.refused.result
    c.in-Err.ensures.refused c.refused.ensures
