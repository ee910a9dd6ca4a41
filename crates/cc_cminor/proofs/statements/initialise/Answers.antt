use Rattle.std.proofs.Common.{◌≡◌, ◌++◌, ◌∷◌, [], Some, suc, ◌∙◌, sym, ap}
use Rattle.cc_ast.specs.Erase.{expression_tree, optional_tree}
use Rattle.cc_ast.specs.declared.ast.Expression as tree
use Rattle.cc_cminor_language.specs.Cminor as cminor
use Rattle.cc_cminor_language.specs.Statements as codes
use Rattle.cc_cminor_language.specs.Code.{statement_of}
use Rattle.cc_cminor.specs.internal.Lowering.{using, initialised}
use Rattle.cc_cminor.specs.internal.Taken.{taken_of, behind_code, code_before}
use Rattle.cc_cminor_language.proofs.Codes.{statements_push}
use Rattle.cc_cminor.proofs.Listing.{initial-is}
use Rattle.cc_cminor.proofs.statements.initialise.Goals as goal

pub returns-in_ok-push-in-Some : goal.returns-in_ok-push-in-Some
returns-in_ok-push-in-Some c =
    let v = c.args.names.now in
    let n = c.args.number in
    let e = expression_tree c.deref.result.now in
    let x = c.in_ok-before-in-Some.field-0 in
    let before = codes.statements_of c.args.into.now.items in
    let initial : optional_tree c.args.initial.now ≡ Some e = ap optional_tree c.in-Some.is ∙ ap (λ (t : tree.Expression). Some (expression_tree t)) (sym c.deref.ensures) in
    let written : statement_of c.into_inner.result ≡ using v.layout v (suc n) e (λ y. cminor.Set n y) =
    ap statement_of c.into_inner.ensures ∙ c.in_ok-code-in-Some.ensures ∙ ap (behind_code (code_before x.before)) c.in_ok-statement-in-Some.ensures
    ∙ initial-is v.layout v n c.in_ok-above-in-Some.field-0 e (taken_of x.before x.expression) c.in_ok-above-in-Some.ensures c.in_ok-before-in-Some.ensures.value in
    ap codes.statements_of c.in_ok-push-in-Some.ensures.items ∙ statements_push c.args.into.now.items c.into_inner.result ∙ ap (λ s. before ++ (s ∷ [])) written
    ∙ sym (ap (λ o. before ++ initialised v.layout v n o) initial)
