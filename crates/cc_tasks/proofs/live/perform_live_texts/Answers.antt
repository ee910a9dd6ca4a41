-- If memory for the joined text is refused, its line is written.
use Rattle.cc_sources.specs.Joined.{joined}
use Rattle.cc_tasks.proofs.Living.{unjoined_live}
use Rattle.cc_tasks.proofs.live.perform_live_texts.Goals as goal

pub returns-in-Err-clause-live : goal.returns-in-Err-clause-live
returns-in-Err-clause-live g c =
    unjoined_live c.args.kind c.args.steps c.args.reads_zeros (joined c.args.texts.now) (g.R.Read.remaining c.args.reader.now) (g.W.Write.contents c.args.writer.now) (g.W.Write.contents c.turn_down.new.writer)
    c.turn_down.result.status c.turn_down.result.is_written c.turn_down.ensures.turned
