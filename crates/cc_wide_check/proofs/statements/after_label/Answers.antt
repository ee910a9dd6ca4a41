use Rattle.std.proofs.Common.{ap, ◌∙◌, arith, length, ◌≤◌}
use Rattle.cc_wide_check.specs.internal.Sections.{label_step}
use Rattle.cc_wide_check.specs.internal.Views.{left, sections_left}
use Rattle.cc_wide_check.proofs.Reading.{ended-read, unended-read}
use Rattle.cc_wide_check.proofs.statements.after_label.Goals as goal
use Rattle.cc_wide_check.proofs.statements.after_label.Goals.{then-reading-2-via-then-reading-2, then-reading-2-via-else-reading-2+then-reading-ifs}

pub returns-then-reading-2-clause-read : goal.returns-then-reading-2-clause-read
returns-then-reading-2-clause-read c =
    let r = c.args.reading in
    let ifs = c.args.ifs.now in
    λ go. ap (λ b. label_step c.args.depth go r.sections b (left r) (sections_left r ifs)) c.if-reading.false
    ∙ elim c.then-reading-2.branch [
      | then-reading-2-via-then-reading-2 w ↦ unended-read c.args.depth r.sections r.next ifs go r.body.now r.done w.if-reading-2.true
      | then-reading-2-via-else-reading-2+then-reading-ifs w ↦ ended-read c.args.depth r.sections r.next ifs go (left r) (let long : length ifs ≤ r.next = omega arith in long)
    ]
