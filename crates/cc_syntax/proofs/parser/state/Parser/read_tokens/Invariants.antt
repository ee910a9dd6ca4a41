use Rattle.std.proofs.Common.{take}
use Rattle.cc_syntax.specs.internal.ParserView.{parser_view}
use Rattle.cc_tokens.specs.Token.{lexemes}
use Rattle.cc_syntax.proofs.Verdict.{Reached}
use Rattle.cc_syntax.proofs.parser.state.Parser.read_tokens.Given as goal

-- the tokens so far led to the state, within the limits
abbrev pub invariant-loop-number : goal.invariant-loop-number
invariant-loop-number l = Reached (parser_view l.self) (take l.number (lexemes l.text l.tokens))
