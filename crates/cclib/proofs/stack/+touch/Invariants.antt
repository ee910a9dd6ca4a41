-- Each call below this one has one block less to use.
use Rattle.cclib.proofs.stack.+touch.Given as goal

abbrev pub decreases-touch : goal.decreases-touch
decreases-touch l = l.blocks
