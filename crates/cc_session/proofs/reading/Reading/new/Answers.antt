use Rattle.cc_session.proofs.Playing.{unread}
use Rattle.cc_session.proofs.reading.Reading.new.Goals as goal

pub returns : goal.returns
returns g c = rw c.new.ensures (unread (g.R.Read.remaining c.args.reader))
