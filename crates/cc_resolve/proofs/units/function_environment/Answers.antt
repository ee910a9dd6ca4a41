-- There are as many definitions as names of definitions.
use Rattle.std.proofs.Common.{◌≡◌, length, ap, ◌∙◌, arith}
use Rattle.cc_ast.specs.Source.{source}
use Rattle.cc_ast.specs.Erase.{external_trees}
use Rattle.cc_types.specs.Typed.{definitions, defined_names}
use Rattle.cc_types.proofs.Definitions.{length-definitions}
use Rattle.cc_resolve.proofs.units.function_environment.Goals as goal

pub enter_definition-requires-clause-number : goal.enter_definition-requires-clause-number
enter_definition-requires-clause-number c =
    let many : length (definitions (external_trees c.externals-trees.result.now)) ≡ length (defined_names (source c.args.unit.now)) =
    ap (λ es. length (definitions es)) c.externals-trees.ensures.tree ∙ length-definitions (source c.args.unit.now).externals in
    omega (arith, many, c.requires)
