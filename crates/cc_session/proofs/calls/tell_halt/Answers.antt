-- If the whole script was done, no line is written.
use Rattle.cc_session.proofs.calls.tell_halt.Goals as goal

pub returns-in-Ok : goal.returns-in-Ok
returns-in-Ok g c = λ mode dialect most script old client it. rw c.in-Ok.is at it

pub returns-in-Err : goal.returns-in-Err
returns-in-Err g c = λ mode dialect most script old client it. c.tell_line.ensures mode dialect most script old client (rw c.in-Err.is at it)
