use Rattle.std.proofs.Common.{◌≤◌, ap, sym, ◌∙◌, length, arith}
use Rattle.cc_wide.specs.Places.{bare_statements}
use Rattle.cc_wide.specs.Lowering.{after}
use Rattle.cc_wide_check.specs.internal.Equal.{equal_statements}
use Rattle.cc_wide_check.specs.internal.Views.{around_of}
use Rattle.cc_wide_check.proofs.Few.{some-after, two-after}
use Rattle.cc_wide_check.proofs.Reading.{bare_of}
use Rattle.cc_wide_check.proofs.hidden.come_after.Goals as goal

pub returns-in_default : goal.returns-in_default
returns-in_default c =
    let long : 1 ≤ length c.args.all.now = omega arith in
    some-after c.args.all.now long ∙ sym (ap (λ a. equal_statements (bare_of c.args.all.now) (bare_statements (after (around_of a) c.args.local))) c.in_default.is-0)

pub returns-in_default-3 : goal.returns-in_default-3
returns-in_default-3 c =
    let long : 2 ≤ length c.args.all.now = omega arith in
    two-after c.args.around c.args.local c.args.all.now long
