use Rattle.std.proofs.Common.{◌<◌, ◌≤◌, Result, subst, arith}
use Rattle.cc_syntax.specs.declared.parser.stop.Stop as stop
use Rattle.cc_syntax.specs.internal.ParserView.{parser_view, Advances}
use Rattle.cc_tokens.specs.Token.{lexeme}
use Rattle.cc_syntax.proofs.Counted.{stopped_at, too_low, advanced}
use Rattle.cc_syntax.proofs.parser.state.Parser.advance.Goals as goal

pub returns-in-Err : goal.returns-in-Err
returns-in-Err c =
    let stopped = stopped_at (parser_view c.args.self.now) (lexeme c.args.cursor.now.text.now c.args.cursor.now.token) c.of_kind-role.result c.step.new.self c.step.result c.in-Err.stop c.of_kind-role.ensures c.step.ensures c.in-Err.is in
    subst (λ (z : Result (Unit {0}) stop.Stop). Advances (parser_view c.args.self.now) (lexeme c.args.cursor.now.text.now c.args.cursor.now.token) z c.step.new.self) c.in-Err.is stopped

pub returns-then-level-gt-DEEPEST_LEVEL : goal.returns-then-level-gt-DEEPEST_LEVEL
returns-then-level-gt-DEEPEST_LEVEL c =
    let low : 64 < c.level_begun-level.result = omega arith in
    too_low (parser_view c.args.self.now) (lexeme c.args.cursor.now.text.now c.args.cursor.now.token) c.of_kind-role.result c.level_begun-level.result c.step.new.self c.step.result c.of_kind-role.ensures c.level_begun-level.ensures c.step.ensures c.in-Ok.is low

pub returns-else-level-gt-DEEPEST_LEVEL : goal.returns-else-level-gt-DEEPEST_LEVEL
returns-else-level-gt-DEEPEST_LEVEL c =
    let high : c.level_begun-level.result ≤ 64 = omega arith in
    advanced (parser_view c.args.self.now) (lexeme c.args.cursor.now.text.now c.args.cursor.now.token) c.of_kind-role.result c.level_begun-level.result c.step.new.self c.step.result c.of_kind-role.ensures c.level_begun-level.ensures c.step.ensures c.in-Ok.is high
