-- What was printed is what was written of the answer, followed by what was written after it.
use Rattle.std.proofs.Common.{Bool, List, Some, ap, subst, sym, ℕ}
use Rattle.cc_spool.specs.Submitted.{HasWrittenIfOk}
use Rattle.cc_submit.specs.Printed.{Prints}
use Rattle.cc_submit.specs.internal.Finished.{FinishesSource, came_of}
use Rattle.cc_submit.specs.internal.Sent.{is_fetch}
use Rattle.cc_submit.proofs.Printing.{fetched, not_fetch, printed}
use Rattle.cc_submit.proofs.submitting.leave.Goals as goal

pub returns-in-Fetch : goal.returns-in-Fetch
returns-in-Fetch g c =
    let W = g.W.Write in
    let done = c.send-done.result in
    let ended = c.finish_source.result in
    let old = W.contents c.args.writer.now in
    let new = W.contents c.finish_source.new.writer in
    let answer : List ℕ = c.send-done.new.writer.items in
    let written = subst (λ (l : List ℕ). HasWrittenIfOk (Some l) (Some answer) done) c.new-answer.ensures.items c.send-done.ensures in
    let finished = subst (λ (l : List ℕ). FinishesSource l (came_of done) old new ended) c.as_slice.ensures.value c.finish_source.ensures in
    subst (λ (f : Bool). Prints f ended.came old new ended.is_written ended.status) (sym (ap is_fetch c.in-Fetch.is)) (fetched done answer old new ended written finished)

pub returns : goal.returns
returns g c =
    let W = g.W.Write in
    let done = c.send-done-2.result in
    let ended = c.finish.result in
    let old = W.contents c.args.writer.now in
    let between = W.contents c.send-done-2.new.writer in
    let new = W.contents c.finish.new.writer in
    subst (λ (f : Bool). Prints f ended.came old new ended.is_written ended.status) (sym (not_fetch c.args.sent.now c.in_default.not-Fetch)) (printed done old between new ended c.send-done-2.ensures c.finish.ensures)
