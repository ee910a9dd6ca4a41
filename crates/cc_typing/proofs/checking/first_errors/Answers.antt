-- The walk over file scope begins with the builtins, and with all the unit's definitions known.
use Rattle.std.proofs.Common.{◌∙◌}
use Rattle.cc_ast.specs.Erase.{external_trees}
use Rattle.cc_typing.proofs.Verdict.{first-are, undefined-are}
use Rattle.cc_typing.proofs.checking.first_errors.Goals as goal

pub returns-clause-first : goal.returns-clause-first
returns-clause-first c =
    let es = external_trees c.args.externals.now in
    c.with_excesses.ensures
    ∙ first-are es c.in-Ok.scope c.in_ok-definitions.field-0 c.new-findings.result c.in-Ok.ensures c.new-findings.ensures c.in_ok-definitions.ensures c.first.result (c.first.ensures ∙ c.in_ok-walked.ensures.first)

pub returns-clause-undefined : goal.returns-clause-undefined
returns-clause-undefined c =
    let es = external_trees c.args.externals.now in
    undefined-are es c.in-Ok.scope c.in_ok-definitions.field-0 c.new-findings.result c.in-Ok.ensures c.new-findings.ensures c.in_ok-definitions.ensures c.undefined.result (c.undefined.ensures ∙ c.in_ok-walked.ensures.undefined)
