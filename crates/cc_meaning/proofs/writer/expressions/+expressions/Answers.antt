-- A call comes after its arguments, and an operator after its operands.
use Rattle.std.proofs.Common.{◌≡◌, ◌∙◌, ◌++◌, ap, sym, List}
use Rattle.cc_ast.specs.declared.ast.Expression.{Expression}
use Rattle.cc_tokens.specs.declared.scalar.Scalar.{Scalar}
use Rattle.cc_ast.specs.Erase.{name_tree, expression_tree}
use Rattle.cc_ast.specs.internal.Arguments.{expressions_of}
use Rattle.cc_ast.specs.Tree as tree
use Rattle.cc_meaning.specs.internal.Emitted.{short_cut, operated}
use Rattle.cc_types.specs.Operators.{working_type}
use Rattle.cc_layout.specs.Environment.{types_in}
use Rattle.cc_resolve.specs.Operations.{operation}
use Rattle.cc_meaning.specs.internal.Form.{expression_code}
use Rattle.cc_types.specs.Types.{value_type}
use Rattle.cc_meaning.proofs.WritingExpressions.{call-code, joined-code}
use Rattle.cc_types.proofs.Trees.{expression_tree-call}
use Rattle.cc_meaning.proofs.writer.expressions.+expressions.Goals as goal

pub expression-returns-in_ok-arguments-in-Call-clause-code : goal.expression-returns-in_ok-arguments-in-Call-clause-code
expression-returns-in_ok-arguments-in-Call-clause-code t c =
    let f = name_tree c.in-Call.name in
    let all = c.as_slice-all.result.now in
    let is = ap expression_tree c.in-Call.is ∙ expression_tree-call c.in-Call.name c.in-Call.all ∙ ap (λ (l : List Expression). tree.Call f (expressions_of l)) (sym c.as_slice-all.ensures.value) in
    call-code c.args.names.now f (expressions_of all) (expression_tree c.args.tree.now) c.args.code.now c.call.new.code c.arguments.new.code is c.in_ok-scalar-in-Call.ensures.code c.in_ok-arguments-in-Call.ensures

pub binary-returns-clause-code : goal.binary-returns-clause-code
binary-returns-clause-code t c =
    let v = c.args.names.now in
    let op = c.args.operator in
    let a = expression_tree c.args.left.now in
    let b = expression_tree c.args.right.now in
    let o = operation op (working_type op (value_type (types_in v) a) (value_type (types_in v) b)) in
    let done : c.operate.new.code ≡ operated (short_cut op 0) o c.len-behind.result c.expression-2.new.code =
    c.operate.ensures
    ∙ ap (λ (s : Scalar). operated (short_cut op 0) (operation op (working_type op s c.in_ok-second.second)) c.len-behind.result c.expression-2.new.code) c.in_ok-first.ensures.scalar
    ∙ ap (λ (s : Scalar). operated (short_cut op 0) (operation op (working_type op (value_type (types_in v) a) s)) c.len-behind.result c.expression-2.new.code) c.in_ok-second.ensures.scalar in
    joined-code o (expression_code v a) (expression_code v b) c.args.code.now c.expression.new.code c.skip_right.new.code c.expression-2.new.code c.operate.new.code c.len-behind.result
    c.len-behind.ensures (c.in_ok-second.ensures.code ∙ ap (λ l. expression_code v b ++ l) c.in_ok-emit.ensures) c.in_ok-first.ensures.code op c.in_ok-skip_right.ensures done
