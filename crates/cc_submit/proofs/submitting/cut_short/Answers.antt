-- The line for the fault follows a newline.
use Rattle.cc_submit.proofs.Printing.{refused_in_line}
use Rattle.cc_submit.proofs.submitting.cut_short.Goals as goal

pub returns-then-is_ended : goal.returns-then-is_ended
returns-then-is_ended g c =
    let W = g.W.Write in
    refused_in_line (W.contents c.args.writer.now) (W.contents c.put-is_ended.new.writer) (W.contents c.folder_fault-is_written.new.writer) c.folder_fault-is_written.result
    (c.put-is_ended.ensures c.if-is_ended.true) c.folder_fault-is_written.ensures
