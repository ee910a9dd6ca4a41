use Rattle.std.proofs.Common.{subst}
use Rattle.cc_ast.specs.Parse.{SpellsText}
use Rattle.cc_ast.specs.Source.{source}
use Rattle.cc_ast.specs.declared.unit.Unit as parsed
use Rattle.cc_types.specs.Typed.{IsTyped, IsWithinLimits}
use Rattle.cc_pool.proofs.Refusals.{blames}
use Rattle.cc_pool.proofs.answer.Refusal.new.Goals as goal

pub invariant_of-result : goal.invariant_of-result
invariant_of-result c =
    let tree = c.externals-kept.ensures in (
      blames c.args.mode (source c.args.unit.value) c.args.function c.args.fault (subst (λ (u : parsed.Unit). ∥ SpellsText (source u).text (source u).externals ∥₁) c.deref.ensures tree.spelled)
          (subst (λ (u : parsed.Unit). IsTyped (source u).externals) c.deref.ensures tree.typed) (subst (λ (u : parsed.Unit). IsWithinLimits (source u).externals) c.deref.ensures tree.limits)
          c.requires.within c.requires.refused,
      c.requires.real,
    )
