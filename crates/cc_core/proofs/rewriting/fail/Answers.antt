-- During a rewrite no commit can fail, and outside a rewrite no rewrite can.
use Rattle.cc_core.proofs.Possible.{in_rewrite, out_of_rewrite}
use Rattle.cc_core.proofs.rewriting.fail.Goals as goal

pub returns-in-Rewriting : goal.returns-in-Rewriting
returns-in-Rewriting g c =
    in_rewrite c.args.contents.now c.in-Rewriting.field-0 c.in-Rewriting.field-1 c.in-Rewriting.is c.fail_rewrite.result c.fail_rewrite.new.core c.fail_rewrite.ensures

pub returns-in_default : goal.returns-in_default
returns-in_default g c =
    out_of_rewrite c.args.contents.now c.fail_job.new.contents (λ commit due is. c.in_default.not-Rewriting commit due is) c.fail_job.result c.fail_job.ensures
