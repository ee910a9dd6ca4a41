use Rattle.std.proofs.Common.{◌∙◌, List, ap, sym}
use Rattle.cc_cminor_language.specs.Code.{expression_of, expressions_of}
use Rattle.cc_cminor_language.specs.declared.code.Expression.{Expression}
use Rattle.cc_cminor.specs.internal.Lowering.{last_value}
use Rattle.cc_cminor_language.proofs.Codes.{if_ok}
use Rattle.cc_cminor.proofs.Lasts.{last_push}
use Rattle.cc_cminor.proofs.expressions.last.Goals as goal

pub returns-in-Some : goal.returns-in-Some
returns-in-Some c =
    if_ok _ _ c.boxed_expression.result
    (λ s e. ap expression_of e ∙ sym (ap (λ (l : List Expression). last_value (expressions_of l)) c.in-Some.ensures.items ∙ last_push c.pop-argument.new.self.items c.in-Some.argument))
    c.boxed_expression.ensures
