use Rattle.std.proofs.Common.{◌∙◌, ap, [], ◌∷◌, ◌++◌}
use Rattle.cc_cminor_language.specs.Code.{statement_of}
use Rattle.cc_cminor_language.specs.Statements.{statements_of}
use Rattle.cc_cminor_language.proofs.Codes.{statements_push}
use Rattle.cc_guard.proofs.guards.add.Goals as goal

pub returns-clause-before : goal.returns-clause-before
returns-clause-before c =
    ap statements_of c.in_ok-push.ensures.items ∙ statements_push c.args.guards.now.before.items c.into_inner.result
    ∙ ap (λ s. statements_of c.args.guards.now.before.items ++ (s ∷ [])) (ap statement_of c.into_inner.ensures)
