-- What the pair's type guarantees, by the laws of the meaning for this unit.
use Rattle.std.proofs.Common.{refl, subst}
use Rattle.std.specs.Arc.{arc_value}
use Rattle.cc_ast.specs.Source.{source}
use Rattle.cc_ast.specs.declared.unit.Unit as parsed
use Rattle.cc_ast.specs.Parse.{SpellsText}
use Rattle.cc_types.specs.Typed.{IsTyped, IsWithinLimits}
use Rattle.cc_c_semantics.specs.declared.mode.Mode.TheVariants.{Plain}
use Rattle.cc_cminor.proofs.Pairs.{lowered_is_small, lowered_below, lowered_operations, lowered_exits, lowered_alike, pair_is}
use Rattle.cc_cminor.proofs.lower.paired.Goals as goal

pub new-requires : goal.new-requires
new-requires c =
    let typed : IsTyped (source (arc_value c.args.unit)).externals =
    subst (λ (u : parsed.Unit). IsTyped (source u).externals) c.deref.ensures c.externals-kept.ensures.typed in
    let limits : IsWithinLimits (source (arc_value c.args.unit)).externals =
    subst (λ (u : parsed.Unit). IsWithinLimits (source u).externals) c.deref.ensures c.externals-kept.ensures.limits in
    let spelled : ∥ SpellsText (source (arc_value c.args.unit)).text (source (arc_value c.args.unit)).externals ∥₁ =
    subst (λ (u : parsed.Unit). ∥ SpellsText (source u).text (source u).externals ∥₁) c.deref.ensures c.externals-kept.ensures.spelled in
    pair_is c.names_have_numbers.ensures.functions c.functions_are_resolved.ensures c.calls_are_effects.ensures c.calls_keep_objects.ensures.calls
    c.names_have_numbers.ensures.objects c.names_have_numbers.ensures.sizes c.units_have_meanings.ensures.calls
    (record { mode = Plain; unit = arc_value c.args.unit; function = c.args.function; statement = c.args.code.value }) refl spelled typed limits c.requires.function c.requires.code

pub returns-clause-small : goal.returns-clause-small
returns-clause-small c =
    let typed : IsTyped (source (arc_value c.args.unit)).externals =
    subst (λ (u : parsed.Unit). IsTyped (source u).externals) c.deref.ensures c.externals-kept.ensures.typed in
    lowered_is_small c.names_have_numbers.ensures.functions c.functions_are_resolved.ensures _ typed _ c.requires.function _ c.requires.code

pub returns-clause-lowered : goal.returns-clause-lowered
returns-clause-lowered c =
    let typed : IsTyped (source (arc_value c.args.unit)).externals =
    subst (λ (u : parsed.Unit). IsTyped (source u).externals) c.deref.ensures c.externals-kept.ensures.typed in
    let limits : IsWithinLimits (source (arc_value c.args.unit)).externals =
    subst (λ (u : parsed.Unit). IsWithinLimits (source u).externals) c.deref.ensures c.externals-kept.ensures.limits in
    let spelled : ∥ SpellsText (source (arc_value c.args.unit)).text (source (arc_value c.args.unit)).externals ∥₁ =
    subst (λ (u : parsed.Unit). ∥ SpellsText (source u).text (source u).externals ∥₁) c.deref.ensures c.externals-kept.ensures.spelled in
    lowered_below c.names_have_numbers.ensures.functions c.functions_are_resolved.ensures _ _ spelled typed limits _ c.requires.function _ c.requires.code

pub returns-clause-operations : goal.returns-clause-operations
returns-clause-operations c =
    let typed : IsTyped (source (arc_value c.args.unit)).externals =
    subst (λ (u : parsed.Unit). IsTyped (source u).externals) c.deref.ensures c.externals-kept.ensures.typed in
    lowered_operations c.names_have_numbers.ensures.functions c.functions_are_resolved.ensures _ typed _ c.requires.function _ c.requires.code

pub returns-clause-exits : goal.returns-clause-exits
returns-clause-exits c =
    let typed : IsTyped (source (arc_value c.args.unit)).externals =
    subst (λ (u : parsed.Unit). IsTyped (source u).externals) c.deref.ensures c.externals-kept.ensures.typed in
    lowered_exits c.names_have_numbers.ensures.functions c.functions_are_resolved.ensures _ typed _ c.requires.function _ c.requires.code

pub returns-clause-fails_alike : goal.returns-clause-fails_alike
returns-clause-fails_alike c =
    let typed : IsTyped (source (arc_value c.args.unit)).externals =
    subst (λ (u : parsed.Unit). IsTyped (source u).externals) c.deref.ensures c.externals-kept.ensures.typed in
    (lowered_alike c.names_have_numbers.ensures.functions c.functions_are_resolved.ensures c.calls_are_effects.ensures c.calls_keep_objects.ensures.calls
    c.names_have_numbers.ensures.objects c.names_have_numbers.ensures.sizes c.units_have_meanings.ensures.calls _ typed _ c.requires.function _ c.requires.code).0

pub returns-clause-goes_wrong : goal.returns-clause-goes_wrong
returns-clause-goes_wrong c =
    let typed : IsTyped (source (arc_value c.args.unit)).externals =
    subst (λ (u : parsed.Unit). IsTyped (source u).externals) c.deref.ensures c.externals-kept.ensures.typed in
    (lowered_alike c.names_have_numbers.ensures.functions c.functions_are_resolved.ensures c.calls_are_effects.ensures c.calls_keep_objects.ensures.calls
    c.names_have_numbers.ensures.objects c.names_have_numbers.ensures.sizes c.units_have_meanings.ensures.calls _ typed _ c.requires.function _ c.requires.code).1
