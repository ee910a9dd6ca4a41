-- If the token is not `else`, the `if` is complete, and the token is read in the state after the complete
-- `if`.
use Rattle.std.proofs.Common.{◌≡◌, ◌∙◌, ap, sym, subst, Option, false, rules}
use Rattle.cc_ast.specs.Erase.{expression_tree, statement_tree}
use Rattle.cc_syntax.specs.internal.Parser.{Inside, Stage, State, settled, resting_step}
use Rattle.cc_syntax.specs.internal.ParserView.{body_view, name_at, Gives}
use Rattle.cc_ast.specs.Tree.{Stmt, If}
use Rattle.cc_syntax.proofs.OtherRoles.{else-other}
use Rattle.cc_syntax.proofs.parser.state.Parser.step_else.Goals as goal

pub returns-in_ok-settle_body-in_default : goal.returns-in_ok-settle_body-in_default
returns-in_ok-settle_body-in_default c =
    let x = name_at c.args.cursor.now in
    let body = body_view c.args.self.now in
    let test = expression_tree c.args.test.value in
    let then = statement_tree c.args.then.value in
    let other = else-other body test then c.args.role x c.in_default.not-Else in
    let same : statement_tree c.in_ok-statement-in_default.statement.value ≡ If test then = search rules in
    let boxed = ap (λ (s : Stmt). resting_step (settled false body body.opened s) c.args.role x) (sym same) in
    let rests = ap (λ (r : Inside × Stage). resting_step r c.args.role x) (c.in_ok-settle_body-in_default.ensures {u = tt}) in
    subst (λ (o : Option State). Gives o c.step_resting.result c.step_resting.new.self) (sym (other ∙ boxed ∙ rests)) c.step_resting.ensures
