use Rattle.std.proofs.Common.{◌-◌, length}
use Rattle.cc_syntax.specs.internal.ParserView.{parser_view}
use Rattle.cc_syntax.proofs.ReadsText.{ReadTo}
use Rattle.cc_syntax.proofs.parser.state.Parser.read_text.Given as goal

-- the tokens before the offset led to the state, within the limits
abbrev pub invariant-loop-at : goal.invariant-loop-at
invariant-loop-at l = ReadTo l.text (parser_view l.self) l.at

abbrev pub decreases-loop-at : goal.decreases-loop-at
decreases-loop-at l = length l.text - l.at
