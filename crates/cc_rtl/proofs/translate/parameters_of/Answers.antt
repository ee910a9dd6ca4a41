-- The definition is that of the pair's function, whose parameters the meaning counts.
use Rattle.std.proofs.Common.{◌∙◌, Some, length, sym, ap, arith}
use Rattle.cc_rtl.proofs.Parameters.{is_defined, as_many, at_most_eight}
use Rattle.cc_rtl.proofs.translate.parameters_of.Goals as goal

pub definition-definition-requires : goal.definition-definition-requires
definition-definition-requires c =
    is_defined c.functions_are_resolved.ensures c.args.pair.now.unit c.deref-unit.result.now c.args.pair.now.function c.function.result (c.deref-unit.ensures ∙ c.unit.ensures.answer) c.function.ensures.answer
    c.externals-kept.ensures.typed c.function.ensures.of_unit

pub overflow_cast-result : goal.overflow_cast-result
overflow_cast-result c =
    let few =
    at_most_eight c.functions_are_resolved.ensures c.args.pair.now.unit c.deref-unit.result.now c.args.pair.now.function c.function.result (c.deref-unit.ensures ∙ c.unit.ensures.answer) c.function.ensures.answer
    c.externals-kept.ensures.typed c.function.ensures.of_unit c.definition-definition.result c.definition-definition.ensures c.externals-kept.ensures.limits in
    let same = ap length c.as_slice-parameters.ensures.value in
    omega arith

pub returns-clause-few : goal.returns-clause-few
returns-clause-few c =
    let few =
    at_most_eight c.functions_are_resolved.ensures c.args.pair.now.unit c.deref-unit.result.now c.args.pair.now.function c.function.result (c.deref-unit.ensures ∙ c.unit.ensures.answer) c.function.ensures.answer
    c.externals-kept.ensures.typed c.function.ensures.of_unit c.definition-definition.result c.definition-definition.ensures c.externals-kept.ensures.limits in
    let same = ap length c.as_slice-parameters.ensures.value in
    omega arith

pub returns-clause-parameters : goal.returns-clause-parameters
returns-clause-parameters c =
    as_many c.functions_are_resolved.ensures c.args.pair.now.unit c.deref-unit.result.now c.args.pair.now.function c.function.result (c.deref-unit.ensures ∙ c.unit.ensures.answer) c.function.ensures.answer
    c.externals-kept.ensures.typed c.function.ensures.of_unit c.definition-definition.result c.definition-definition.ensures
    ∙ ap Some (sym (ap length c.as_slice-parameters.ensures.value))
