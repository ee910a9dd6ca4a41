-- If the line of the fault that ended the script could not be written, the fault is 54.
use Rattle.std.proofs.Common.{refl}
use Rattle.cc_session.specs.Playing.{talk}
use Rattle.cc_session.proofs.Lines.{line_unwritten, line_written}
use Rattle.cc_session.proofs.calls.tell_line.Goals as goal

pub returns-in-Ok : goal.returns-in-Ok
returns-in-Ok g c = λ mode dialect most script old client it.
    line_written mode dialect most script old (talk client (g.W.Write.contents c.args.answers.now)) (talk client (g.W.Write.contents c.tell_fault.new.answers)) c.args.fault it (refl, c.in-Ok.ensures.1)

pub returns-in-Err : goal.returns-in-Err
returns-in-Err g c = λ mode dialect most script old client it.
    line_unwritten mode dialect most script old (talk client (g.W.Write.contents c.args.answers.now)) (talk client (g.W.Write.contents c.tell_fault.new.answers)) c.args.fault c.in-Err.unwritten
    refl c.in-Err.ensures.0 it
