use Rattle.std.proofs.Common.{◌∙◌}
use Rattle.cc_wide_check.specs.internal.Views.{wide_of}
use Rattle.cc_wide_check.proofs.Grouping.{counted-is}
use Rattle.cc_wide_check.proofs.groups.section_count.Goals as goal

pub returns-clause-is : goal.returns-clause-is
returns-clause-is c = c.counted.ensures.is ∙ counted-is (wide_of c.args.all.now)
