use Rattle.std.proofs.Common.{◌≡◌, vec_len}
use Rattle.cc_ast.specs.Erase.{expression_tree}
use Rattle.cc_syntax.specs.internal.Parser.{reduced}
use Rattle.cc_syntax.specs.internal.ParserView.{waiting_views}
use Rattle.cc_syntax.proofs.parser.expression.reduce.Given as goal

-- reducing the parts that are left yields what reducing all parts would yield
abbrev pub invariant-loop-last : goal.invariant-loop-last
invariant-loop-last l =
    reduced l.level (waiting_views l.initial.waiting.items) (expression_tree l.initial.expression.value)
    ≡ reduced l.level (waiting_views l.waiting.items) (expression_tree l.expression.value)

abbrev pub decreases-loop-last : goal.decreases-loop-last
decreases-loop-last l = vec_len l.waiting
