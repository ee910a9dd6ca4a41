use Rattle.std.proofs.Common.{arith}
use Rattle.cc_ast.specs.Erase.{external_trees}
use Rattle.cc_syntax.specs.internal.ParserView.{parser_view}
use Rattle.cc_syntax.proofs.ReadsText.{read_more, read_answered}
use Rattle.cc_syntax.proofs.parser.state.Parser.read_text.Goals as goal

pub loop-at-preserved-in-Ok : goal.loop-at-preserved-in-Ok
loop-at-preserved-in-Ok c =
    read_more c.args.text.now (parser_view c.loop-at.self) c.loop-at.at c.in-Token.token c.advance.new.self c.advance.result c.loop-at.invariant (c.in-Token.ensures.found c.loop-at.invariant.tokens c.loop-at.invariant.found) c.advance.ensures c.in-Ok.is

pub returns : goal.returns
returns c = read_answered c.args.text.now (parser_view c.loop-at.self) c.loop-at.at (λ es. external_trees es.items) c.finished.result c.loop-at.invariant (omega arith) c.finished.ensures
