-- A closing token has the same effect whatever other parts are pending: it depends only on what the expression is a part of and
-- on the count.
use Rattle.std.proofs.Common.{◌≡◌, ◌∙◌, ◌∷◌, List, ap, sym, subst}
use Rattle.cc_ast.specs.Tree.{Expr}
use Rattle.cc_ast.specs.Erase.{expression_tree}
use Rattle.cc_syntax.specs.internal.Parser.{Waiting, reduced, close}
use Rattle.cc_syntax.specs.internal.ParserView.{full_view, waiting_view, waiting_views, Gives}
use Rattle.cc_syntax.proofs.Views.{waiting_views-push}
use Rattle.cc_syntax.proofs.parser.state.Parser.step_close.Goals as goal

pub returns-in-Some : goal.returns-in-Some
returns-in-Some c =
    let left = waiting_views c.pop.new.self.items in
    let inner = expression_tree c.in_ok-inner.inner.value in
    let opening = waiting_view c.in-Some.opening in
    let last : waiting_views c.reduce.new.waiting.items ≡ opening ∷ left = ap waiting_views c.in-Some.ensures.items ∙ waiting_views-push c.pop.new.self.items c.in-Some.opening in
    let closes : reduced 1 (waiting_views c.args.self.now.full.waiting.items) (expression_tree c.args.operand.value) ≡ (inner, opening ∷ left)
    = c.in_ok-inner.ensures ∙ ap (λ (ws : List Waiting). (inner, ws)) last in
    subst (λ (p : Expr × List Waiting). Gives (close (full_view c.args.self.now) c.args.role p) c.close_waiting.result c.close_waiting.new.self) (sym closes) c.close_waiting.ensures
