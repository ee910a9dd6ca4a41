-- The tree of the prepared text is the unit's tree.
use Rattle.std.proofs.Common.{◌≡◌, ◌∙◌, List, length, ap, subst}
use Rattle.std.specs.Arc.{arc_value}
use Rattle.cc_ast.specs.Source.{source}
use Rattle.cc_ast.specs.Tree.{External}
use Rattle.cc_types.specs.declared.typed.TypedUnit.{TypedUnit}
use Rattle.cc_types.specs.Typed.{defined_names}
use Rattle.cc_link.specs.Meaning.{functions}
use Rattle.cc_link.specs.Text.{IsProgramText}
use Rattle.cc_link.proofs.Deciding.{defined_long}
use Rattle.cc_service.specs.Compiling.{Handed}
use Rattle.cc_service.proofs.compiling.Prepared.functions.Goals as goal

pub returns : goal.returns
returns g c =
    let s = source (arc_value c.self.inside.unit) in
    let count : c.functions.result ≡ length (functions s.externals) = c.functions.ensures ∙ ap (λ (u : TypedUnit). length (defined_names (source u))) c.deref.ensures ∙ defined_long s in
    subst (λ (h : Handed). (tree : List External) × IsProgramText h.text tree × (c.functions.result ≡ length (functions tree))) c.self.view_is (s.externals, c.self.invariant.0, count)
