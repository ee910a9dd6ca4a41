use Rattle.std.proofs.Common.{◌≡◌, None, ap, ◌∙◌}
use Rattle.std.proofs.lemmas.Result.{IfOk-weaker}
use Rattle.cc_select.specs.Near.{nearer}
use Rattle.cc_select.specs.Selection.{trimmed, selected}
use Rattle.cc_select.proofs.selection.selected.Goals as goal

pub returns : goal.returns
returns c =
    let near = c.as_slice.ensures.value ∙ c.in_ok-plain.ensures in
    IfOk-weaker c.trimmed.result _ (λ made. made.items ≡ selected c.args.items.now) (λ made e. e ∙ ap trimmed (c.as_slice-2.ensures.value ∙ c.in_ok-steps.ensures ∙ ap (nearer None) near)) c.trimmed.ensures
