-- The spools may go to the threads.
use denote.Param.Send.{IsSend, sendable}
use Rattle.std.proofs.Crossing.{crosses}
use Rattle.cc_spool.proofs.Crossing.{spool_send}
use Rattle.tests_session.specs.contracts.tests.spools.Page as Page
use Rattle.tests_session.specs.contracts.tests.spools.Paper as Paper
use Rattle.tests_session.proofs.tests.generations.served_on.Goals as goal

paper_send : IsSend Paper.the_row
paper_send = search (sendable, crosses) depth 20

page_send : IsSend Page.the_row
page_send = search (sendable, crosses) depth 20

pub serve_on-left-requires-send-S : goal.serve_on-left-requires-send-S
serve_on-left-requires-send-S g c κs within = let s = spool_send Paper.the_row Page.the_row paper_send page_send in search (sendable, crosses) depth 40 fits 40000
