-- The words of an array are those of its list and the zeros after them.
use Rattle.std.proofs.Common.{◌∙◌, Some, List, map, sym, ap}
use Rattle.std.specs.Prelude.{ℕ, ◌%◌, ◌^◌, ◌++◌}
use Rattle.cc_ast.specs.Erase.{constant_trees, optional_constant, object_tree}
use Rattle.cc_ast.specs.Tree.{ConstantExpr}
use Rattle.cc_ast.specs.declared.ast.ConstantExpression.{ConstantExpression}
use Rattle.cc_ast.specs.declared.ast.Object.{Object}
use Rattle.cc_types.specs.Types.{initial_word, initial_words, zeros_behind}
use Rattle.cc_range_check.specs.Checking.{each_in}
use Rattle.cc_range_check.proofs.Lists.{each_append}
use Rattle.cc_range_check.proofs.initial.object_in.Goals as goal

pub returns-in-Array : goal.returns-in-Array
returns-in-Array c =
    let r = c.args.range in
    let f = λ (e : ConstantExpr). initial_word (Some e) in
    let n = optional_constant c.in-Array.length in
    let vs = c.as_slice.result.now in
    c.array_in.ensures ∙ sym (each_append r (map f (constant_trees vs)) (zeros_behind n (constant_trees vs)))
    ∙ ap (λ (l : List ConstantExpression). each_in r (map f (constant_trees l) ++ zeros_behind n (constant_trees l))) c.as_slice.ensures.value
    ∙ sym (ap (λ (o : Object). each_in r (initial_words (object_tree o))) c.in-Array.is)

pub returns-in-Bytes : goal.returns-in-Bytes
returns-in-Bytes c =
    let r = c.args.range in
    let f : ConstantExpr → ℕ = λ (e : ConstantExpr). initial_word (Some e) % 2 ^ 8 in
    let n = optional_constant c.in-Bytes.length in
    let vs = c.as_slice-in-Bytes.result.now in
    c.byte_array_in.ensures ∙ sym (each_append r (map f (constant_trees vs)) (zeros_behind n (constant_trees vs)))
    ∙ ap (λ (l : List ConstantExpression). each_in r (map f (constant_trees l) ++ zeros_behind n (constant_trees l))) c.as_slice-in-Bytes.ensures.value
    ∙ sym (ap (λ (o : Object). each_in r (initial_words (object_tree o))) c.in-Bytes.is)
