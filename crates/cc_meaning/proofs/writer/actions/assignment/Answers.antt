-- Once the type of the right side is known, the instruction for the write replaces the `Drop` that was emitted in its place.
use Rattle.std.proofs.Common.{◌≡◌, ◌∙◌, ◌++◌, ap}
use Rattle.cc_tokens.specs.declared.scalar.Scalar.{Scalar}
use Rattle.cc_ast.specs.Erase.{expression_tree, target_tree}
use Rattle.cc_meaning.specs.internal.Emitted.{write_of}
use Rattle.cc_types.specs.Operators.{applied_operator}
use Rattle.cc_layout.specs.Environment.{types_in}
use Rattle.cc_meaning.specs.internal.Form.{applied, expression_code}
use Rattle.cc_types.specs.Types.{target_type, value_type}
use Rattle.cc_meaning.specs.declared.form.Instruction.TheVariants.{Drop}
use Rattle.cc_meaning.proofs.WritingActions.{assigned}
use Rattle.cc_meaning.proofs.writer.actions.assignment.Goals as goal

pub returns : goal.returns
returns c =
    let v = c.args.names.now in
    let t = target_tree c.args.target.now in
    let e = expression_tree c.args.right.now in
    let type = target_type (types_in v) t in
    let write : c.write.result ≡ write_of (applied (applied_operator c.args.operator) type (value_type (types_in v) e)) v t =
    c.write.ensures ∙ ap (λ o. write_of (applied o type c.in_ok-scalar.scalar) v t) c.applied_operator.ensures
    ∙ ap (λ (s : Scalar). write_of (applied (applied_operator c.args.operator) type s) v t) c.in_ok-scalar.ensures.scalar in
    assigned c.index.result (applied (applied_operator c.args.operator) type (value_type (types_in v) e)) v t (expression_code v e) c.args.code.now c.expression.new.code c.replace.new.self c.index.new.code
    c.len-behind.result Drop c.write.result c.len-behind.ensures (c.in_ok-scalar.ensures.code ∙ ap (λ l. expression_code v e ++ l) c.in_ok-emit.ensures) write c.replace.ensures c.index.ensures
