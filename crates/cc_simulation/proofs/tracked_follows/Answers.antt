-- The source at a bound beyond the work done shows what the cut shows, or continues it.
use Rattle.cc_simulation.proofs.Following.{tracks_follow, all_follow}
use Rattle.cc_simulation.proofs.tracked_follows.Goals as goal

pub returns-clause-each : goal.returns-clause-each
returns-clause-each g c = λ meaning move output layer f rate start tracks. tracks_follow meaning move output layer f rate start tracks

pub returns-clause-for_all : goal.returns-clause-for_all
returns-clause-for_all g c = λ meaning move output layer f rate start tracks. all_follow meaning move output layer f rate start tracks
