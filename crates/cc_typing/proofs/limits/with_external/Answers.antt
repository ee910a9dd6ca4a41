-- First the limit on parameters is checked, then the limit on locals.
use Rattle.std.proofs.Common.{◌≡◌, ◌∙◌, None, ap, sym}
use Rattle.cc_ast.specs.Erase.{signature_tree, statements_of, external_tree}
use Rattle.cc_types.specs.Counts.{count_after}
use Rattle.cc_typing.specs.internal.Counts.{excess_of}
use Rattle.cc_typing.specs.internal.Findings.{noted}
use Rattle.cc_types.specs.Limits.{most_locals, past, locals, parameter_excesses, external_excesses}
use Rattle.cc_types.specs.declared.limits.Count.{Count}
use Rattle.cc_typing.proofs.Excesses.{excess-is}
use Rattle.cc_typing.proofs.Parts.{noted-append}
use Rattle.cc_typing.proofs.limits.with_external.Goals as goal

pub returns-in-Definition : goal.returns-in-Definition
returns-in-Definition c =
    let s = signature_tree c.in-Definition.signature in
    let names = locals (statements_of c.in-Definition.body.items) in
    let counted : c.count_locals.new.count ≡ count_after (record { most = 256; names = 0; past = None }) names =
    c.count_locals.ensures ∙ ap (λ (k : Count). count_after k (locals (statements_of c.as_slice.result.now))) c.new-count.ensures
    ∙ ap (λ l. count_after (record { most = 256; names = 0; past = None }) (locals (statements_of l))) c.as_slice.ensures.value in
    c.with_excess.ensures ∙ ap (λ (k : Count). noted c.with_parameters-in-Definition.result (excess_of k.past)) counted
    ∙ ap (noted c.with_parameters-in-Definition.result) (excess-is most_locals names)
    ∙ ap (λ f. noted f (past most_locals names)) c.with_parameters-in-Definition.ensures
    ∙ noted-append c.args.first (parameter_excesses s) (past most_locals names)
    ∙ sym (ap (λ e. noted c.args.first (external_excesses (external_tree e))) c.in-Definition.is)
