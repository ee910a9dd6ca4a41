-- An array's name, its length and its initialiser list are checked.
use Rattle.std.proofs.Common.{◌≡◌, ◌∙◌, List, [], ◌∷◌, suc, length, refl, ap}
use Rattle.std.specs.Prelude.{is_some}
use Rattle.cc_ast.specs.Erase.{name_tree, optional_constant, constant_trees}
use Rattle.cc_ast.specs.declared.ast.ConstantExpression.{ConstantExpression}
use Rattle.cc_scope.specs.Bindings.{file_level, file_of}
use Rattle.cc_typing.specs.internal.Findings.{is_bad_length}
use Rattle.cc_types.specs.Scope.{Elements, is_declared, in_scope, with_declared}
use Rattle.cc_types.specs.Types.{array_length}
use Rattle.cc_typing.proofs.FileScopes.{array-found, is_some-entity}
use Rattle.cc_typing.proofs.externals.array.Goals as goal

length-trees : (cs : List ConstantExpression) → length cs ≡ length (constant_trees cs)
length-trees [] = refl
length-trees (c ∷ cs) = ap suc (length-trees cs)

pub returns-clause-found : goal.returns-clause-found
returns-clause-found c =
    let v = c.args.scope.now in
    let x = name_tree c.args.name.now in
    let n = optional_constant c.args.length.now in
    let these = c.args.values.now in
    let values = constant_trees these in
    let again : c.is_some.result ≡ is_declared (in_scope v) x.text =
    c.is_some.ensures ∙ is_some-entity c.find.result ∙ ap is_some c.find.ensures ∙ ap (is_declared (in_scope v)) c.as_slice-bytes.ensures.value in
    let bad : c.is_bad_length-wrong.result ≡ is_bad_length (array_length n values) (length values) =
    c.is_bad_length-wrong.ensures ∙ ap (λ k. is_bad_length k (length these)) c.array_length.ensures ∙ ap (is_bad_length (array_length n values)) (length-trees these) in
    array-found v c.declare_in_file.new.self c.args.scalar c.args.findings.now c.note_if.new.self c.optional_constant.new.findings c.note_if-2.new.self c.constants.new.findings
    x n values c.is_some.result c.is_bad_length-wrong.result c.requires again bad
    (c.in_ok-declare_in_file.ensures.scope ∙ ap (λ y. file_level (with_declared y (Elements c.args.scalar) (file_of v)).bindings) c.as_slice-bytes.ensures.value)
    c.note_if.ensures c.optional_constant.ensures c.note_if-2.ensures c.constants.ensures
