-- The local is set to 0, and then the initialiser adds its code.
use Rattle.std.proofs.Common.{◌≡◌, ◌++◌, ◌∷◌, [], List, ◌∙◌, ap}
use Rattle.std.proofs.lemmas.List.{append_assoc}
use Rattle.cc_ast.specs.Erase.{optional_tree, declarator_trees}
use Rattle.cc_ast.specs.declared.ast.Declarator.{Declarator}
use Rattle.cc_layout.specs.Environment.{Environment, with_local, with_locals}
use Rattle.cc_cminor_language.specs.Cminor as cminor
use Rattle.cc_cminor_language.specs.Statements as codes
use Rattle.cc_cminor_language.specs.Code.{statement_of}
use Rattle.cc_cminor_language.specs.declared.code.Statement.{Statement}
use Rattle.cc_cminor.specs.internal.Lowering.{initialised}
use Rattle.cc_cminor_language.proofs.Codes.{on_ok, statements_push}
use Rattle.cc_cminor.proofs.statements.declarator.Goals as goal

pub returns-clause-code : goal.returns-clause-code
returns-clause-code c =
    let v = c.args.names.now in
    let n = c.len-number.result in
    let before = codes.statements_of c.args.into.now.items in
    let e = optional_tree c.args.tree.now.initial in
    let w = c.declare_locals.new.names in
    let initial = initialised w.layout w n e in
    let zero : statement_of c.into_inner.result ≡ cminor.Set n (cminor.Constant 0) = ap statement_of c.into_inner.ensures ∙ c.in_ok-zero-2.ensures ∙ ap (cminor.Set n) c.in_ok-zero.ensures in
    let declared : w ≡ with_local c.args.scalar c.args.tree.now.name.bytes.items v = c.in_ok-declare_locals.ensures ∙ ap (λ (l : List Declarator). with_locals c.args.scalar (declarator_trees l) v) c.from_ref.ensures.value in
    on_ok c.initialise.result
    (λ h. h ∙ ap (λ (l : List Statement). codes.statements_of l ++ initial) c.in_ok-push.ensures.items
    ∙ ap (λ l. l ++ initial) (statements_push c.args.into.now.items c.into_inner.result)
    ∙ append_assoc before (statement_of c.into_inner.result ∷ []) initial
    ∙ ap (λ s. before ++ (s ∷ initial)) zero
    ∙ ap (λ (x : Environment). before ++ (cminor.Set n (cminor.Constant 0) ∷ initialised x.layout x n e)) declared
    ∙ ap (λ k. before ++ (cminor.Set k (cminor.Constant 0) ∷ initialised v.layout (with_local c.args.scalar c.args.tree.now.name.bytes.items v) k e)) c.len-number.ensures)
    c.initialise.ensures
