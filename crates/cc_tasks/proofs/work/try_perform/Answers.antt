-- The text could not be read, whatever the task.
use Rattle.cc_tasks.proofs.work.try_perform.Goals as goal

pub returns-in-Err : goal.returns-in-Err
returns-in-Err g c = c.in-Err.ensures.unread c.args.task.now
