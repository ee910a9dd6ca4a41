-- Every token except the closing parenthesis begins the last part of the header.
use Rattle.cc_ast.specs.Erase.{beginning_tree, optional_tree}
use Rattle.cc_syntax.specs.internal.ParserView.{body_view, name_at}
use Rattle.cc_syntax.proofs.OtherRoles.{for_stepping-other}
use Rattle.cc_syntax.proofs.parser.state.Parser.step_for_stepping.Goals as goal

pub returns-in_default : goal.returns-in_default
returns-in_default c =
    rw (for_stepping-other (body_view c.args.self.now) (beginning_tree c.args.start.value) (optional_tree c.args.test) c.args.role (name_at c.args.cursor.now) c.in_default.not-CloseParenthesis) c.step_action.ensures
