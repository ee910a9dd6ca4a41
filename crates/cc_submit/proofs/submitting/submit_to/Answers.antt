-- The line is a command, since `is_command` said so.
use Rattle.std.proofs.Common.{rules, string_bytes}
use Rattle.std.specs.Option.{option_map}
use Rattle.cc_submit.proofs.Printing.{unread}
use Rattle.cc_submit.proofs.submitting.submit_to.Goals as goal

pub returns-in-Err-2-clause-submits : goal.returns-in-Err-2-clause-submits
returns-in-Err-2-clause-submits g c =
    let W = g.W.Write in
    unread (option_map string_bytes c.args.asked.now.line) (W.contents c.args.writer.now) (W.contents c.put-is_written.new.writer) c.put-is_written.result
    (search rules) c.put-is_written.ensures
