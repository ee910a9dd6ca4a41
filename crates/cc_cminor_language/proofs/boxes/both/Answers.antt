use Rattle.std.proofs.Common.{◌≡◌, List, [], ◌∷◌, ◌++◌, ◌∙◌, ap}
use Rattle.cc_cminor_language.specs.Code.{statement_of, in_sequence}
use Rattle.cc_cminor_language.specs.Statements.{statements_of}
use Rattle.cc_cminor_language.specs.declared.code.Statement.{Statement}
use Rattle.cc_cminor_language.proofs.Codes.{if_ok, sequence_is}
use Rattle.cc_cminor_language.proofs.boxes.both.Goals as goal

pub returns : goal.returns
returns c =
    let items : c.push-2.new.self.items ≡ c.args.first.value ∷ c.args.second.value ∷ [] =
    c.in_ok-push-2.ensures.items ∙ ap (λ (l : List Statement). l ++ (c.into_inner-2.result ∷ [])) (c.in_ok-push.ensures.items ∙ ap (λ (l : List Statement). l ++ (c.into_inner.result ∷ [])) c.new-all.ensures.items)
    ∙ ap (λ (s : Statement). s ∷ c.into_inner-2.result ∷ []) c.into_inner.ensures ∙ ap (λ (s : Statement). c.args.first.value ∷ s ∷ []) c.into_inner-2.ensures in
    if_ok _ _ c.boxed_statement.result (λ s e. ap statement_of e ∙ sequence_is c.push-2.new.self ∙ ap (λ (l : List Statement). in_sequence (statements_of l)) items) c.boxed_statement.ensures
