use Rattle.std.proofs.Common.{◌≡◌, vec_len}
use Rattle.cc_ast.specs.Erase.{statement_tree}
use Rattle.cc_syntax.specs.internal.Parser.{settled}
use Rattle.cc_syntax.specs.internal.ParserView.{open_views, body_view}
use Rattle.cc_syntax.proofs.parser.state.Parser.settle_body.Given as goal

-- settling with the open statements that are left yields what settling with all of them would yield
abbrev pub invariant-loop-last : goal.invariant-loop-last
invariant-loop-last l =
    settled l.waits (body_view l.initial.self) (open_views l.initial.self.body.open.items) (statement_tree l.initial.statement.value)
    ≡ settled l.waits (body_view l.self) (open_views l.self.body.open.items) (statement_tree l.statement.value)

abbrev pub decreases-loop-last : goal.decreases-loop-last
decreases-loop-last l = vec_len l.self.body.open
