-- What is made from a pair of Cminor is a pair of RTL.
use Rattle.std.proofs.Common.{◌≡◌, ◌∙◌, ◌<◌, length, refl, sym, ap, subst, arith}
use Rattle.std.specs.Arc.{arc_value}
use Rattle.cc_cminor_language.specs.Code.{statement_of}
use Rattle.cc_cminor_language.specs.Numbers.{StatementFits}
use Rattle.cc_cminor_language.specs.Pair.{code_of}
use Rattle.cc_cminor_language.specs.declared.code.Statement as written
use Rattle.cc_rtl_language.specs.Code.{labelled_of}
use Rattle.cc_rtl_language.specs.Pair.{Pair, IsPair}
use Rattle.cc_rtl_language.specs.Rtl.{Rtl}
use Rattle.cc_rtl.specs.Size.{function_nodes}
use Rattle.cc_rtl.proofs.Pairs.{rtl_made, as_many_nodes, pair_made}
use Rattle.cc_rtl_language.specs.Positions.{AreNumbered}
use Rattle.cc_rtl.specs.internal.Generate.{made_function, nodes_back}
use Rattle.cc_rtl.proofs.Making.{numbered_from}
use Rattle.cc_rtl.proofs.Sizes.{nodes_few}
use Rattle.cc_rtl.proofs.translate.to_rtl.Goals as goal

pub generate-requires-clause-numbers : goal.generate-requires-clause-numbers
generate-requires-clause-numbers c = subst (λ s. StatementFits (statement_of s)) (sym c.code-code.ensures.code) c.code-code.ensures.numbers

pub returns-then-not-fits-clause-large : goal.returns-then-not-fits-clause-large
returns-then-not-fits-clause-large c = λ _.
    let few = nodes_few (code_of c.args.pair) in
    let large : 4096 < function_nodes (statement_of c.code-code.result.now) = c.if-not-fits.ensures.large refl in
    let same : function_nodes (statement_of c.code-code.result.now) ≡ function_nodes (code_of c.args.pair) = ap (λ (s : written.Statement). function_nodes (statement_of s)) c.code-code.ensures.code in
    omega arith

pub new-rtl-requires-clause-numbered : goal.new-rtl-requires-clause-numbered
new-rtl-requires-clause-numbered c =
    let m = made_function c.variables_above-count.result (statement_of c.code-code.result.now) in
    subst (AreNumbered 0) (sym c.in-Ok.ensures.nodes) (numbered_from m.entry 0 (nodes_back m.places))

pub new-rtl-requires-clause-rtl : goal.new-rtl-requires-clause-rtl
new-rtl-requires-clause-rtl c =
    rtl_made c.args.pair c.code-code.result.now c.parameters_of-parameters.result c.variables_above-count.result (labelled_of c.in-Ok.nodes.entries) c.code-code.ensures.code c.variables_above-count.ensures.counted c.in-Ok.ensures.nodes
    (c.if-not-fits.ensures.small refl)

pub new-requires : goal.new-requires
new-requires c =
    subst (λ (r : Rtl). IsPair (record { mode = c.mode-mode.result; unit = arc_value c.into_unit.result; function = c.function-function.result; rtl = r })) (sym c.new-rtl.ensures)
    (pair_made c.args.pair c.code-code.result.now c.parameters_of-parameters.result c.variables_above-count.result (labelled_of c.in-Ok.nodes.entries) c.code-code.ensures.code c.variables_above-count.ensures.counted c.in-Ok.ensures.nodes
    (c.if-not-fits.ensures.small refl) c.mode-mode.result (arc_value c.into_unit.result) c.function-function.result c.mode-mode.ensures.answer c.into_unit.ensures.answer c.function-function.ensures.answer c.code-code.ensures.typed c.function-function.ensures.of_unit
    c.parameters_of-parameters.ensures.parameters c.code-code.ensures.calls c.code-code.ensures.keeps_up)

pub returns-in-Ok-clause-nodes : goal.returns-in-Ok-clause-nodes
returns-in-Ok-clause-nodes c =
    ap (λ (p : Pair). length p.rtl.nodes) c.new.ensures ∙ ap (λ (r : Rtl). length r.nodes) c.new-rtl.ensures
    ∙ as_many_nodes c.args.pair c.code-code.result.now c.parameters_of-parameters.result c.variables_above-count.result (labelled_of c.in-Ok.nodes.entries) c.code-code.ensures.code c.variables_above-count.ensures.counted c.in-Ok.ensures.nodes
    (c.if-not-fits.ensures.small refl)
