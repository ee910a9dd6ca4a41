-- The laws `only_depth_is_left` and `acyclic_programs_are_never_deep` together.
use Rattle.std.proofs.Common.{subst}
use Rattle.std.specs.Arc.{arc_value}
use Rattle.cc_ast.specs.Source.{source}
use Rattle.cc_ast.specs.Parse.{SpellsText}
use Rattle.cc_ast.specs.declared.unit.Unit as parsed
use Rattle.cc_types.specs.Typed.{IsTyped}
use Rattle.cc_depth.specs.Cycles.{HasNoCycle}
use Rattle.cc_safe.proofs.Safe.{never_wrong, none_is_guarded}
use Rattle.cc_safe.proofs.examining.examine.Goals as goal

pub returns-clause-safe : goal.returns-clause-safe
returns-clause-safe c = λ none acyclic.
    never_wrong c.only_depth_is_left.ensures c.acyclic_programs_are_never_deep.ensures (source (arc_value c.args.unit.now))
    (subst (λ (u : parsed.Unit). ∥ SpellsText (source u).text (source u).externals ∥₁) c.deref.ensures c.externals-kept.ensures.spelled)
    (subst (λ (u : parsed.Unit). IsTyped (source u).externals) c.deref.ensures c.externals-kept.ensures.typed)
    (none_is_guarded (source (arc_value c.args.unit.now)).externals _ c.in_ok-guarded.ensures none)
    (subst (λ (u : parsed.Unit). HasNoCycle (source u).externals) c.deref-2.ensures (c.in_ok-acyclic.ensures acyclic))
