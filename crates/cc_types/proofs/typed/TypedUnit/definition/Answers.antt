-- There are as many definitions as names of definitions.
use Rattle.std.proofs.Common.{◌≡◌, ◌<◌, length, refl, ap, ◌∙◌, arith}
use Rattle.cc_ast.specs.Source.{source}
use Rattle.cc_ast.specs.Erase.{external_trees}
use Rattle.cc_ast.specs.declared.unit.Unit.{Unit}
use Rattle.cc_types.specs.Typed.{definitions, defined_names}
use Rattle.cc_types.proofs.Definitions.{length-definitions}
use Rattle.cc_types.proofs.typed.TypedUnit.definition.Goals as goal

pub loop-external-init : goal.loop-external-init
loop-external-init c =
    let all = external_trees c.externals-external-items.result.now in
    let many : length (definitions all) ≡ length (defined_names (source c.args.self.now)) =
    ap (λ es. length (definitions es)) c.externals-external-items.ensures.tree ∙ length-definitions (source c.self.inside.unit).externals ∙ ap (λ (u : Unit). length (defined_names (source u))) c.self.view_is in
    let below : c.args.function < length (definitions all) = omega (arith, many, c.requires) in
    record { left = refl; bound = below }
