use Rattle.std.proofs.Common.{Err, Result, ap, ◌∙◌, sym, arith, length}
use Rattle.cc_tokens.specs.declared.token.TokenKind.TheVariants.{Identifier}
use Rattle.cc_syntax.specs.declared.parser.stop.Stop as stop
use Rattle.std.specs.Option.{option_map}
use Rattle.cc_ast.specs.Erase.{external_trees}
use Rattle.cc_syntax.specs.internal.ParserView.{parser_view}
use Rattle.cc_syntax.proofs.TokenOrder.{in_order-at}
use Rattle.cc_syntax.proofs.ReadsTokens.{stopped, past_limit, goes_on, finished, unfinished}
use Rattle.cc_syntax.proofs.parser.state.Parser.read_tokens.Goals as goal

pub invariant_of-cursor-clause-order : goal.invariant_of-cursor-clause-order
invariant_of-cursor-clause-order c = (in_order-at c.args.tokens.now 0 (length c.args.text.now) c.loop-number.number (record { kind = Identifier; from = 0; to = 0 }) c.requires c.loop-number-test.true).0

pub invariant_of-cursor-clause-within : goal.invariant_of-cursor-clause-within
invariant_of-cursor-clause-within c = (in_order-at c.args.tokens.now 0 (length c.args.text.now) c.loop-number.number (record { kind = Identifier; from = 0; to = 0 }) c.requires c.loop-number-test.true).1

pub returns-in-Err-Unexpected : goal.returns-in-Err-Unexpected
returns-in-Err-Unexpected c =
    stopped (parser_view c.loop-number.self) c.args.text.now c.args.tokens.now c.loop-number.number (record { kind = Identifier; from = 0; to = 0 }) c.advance.new.self c.advance.result c.loop-number-test.true c.loop-number.invariant c.advance.ensures (c.in-Err-Unexpected.is ∙ ap (λ (z : stop.Stop). let r : Result Unit stop.Stop = Err z in r) c.in-Err-Unexpected.field-0-is)

pub returns-in-Err-TooDeep : goal.returns-in-Err-TooDeep
returns-in-Err-TooDeep c =
    past_limit (parser_view c.loop-number.self) c.args.text.now c.args.tokens.now c.loop-number.number (record { kind = Identifier; from = 0; to = 0 }) c.advance.new.self c.advance.result c.loop-number-test.true c.loop-number.invariant c.advance.ensures (c.in-Err-TooDeep.is ∙ ap (λ (z : stop.Stop). let r : Result Unit stop.Stop = Err z in r) c.in-Err-TooDeep.field-0-is)

pub loop-number-preserved : goal.loop-number-preserved
loop-number-preserved c =
    goes_on (parser_view c.loop-number.self) c.args.text.now c.args.tokens.now c.loop-number.number (record { kind = Identifier; from = 0; to = 0 }) c.advance.new.self c.advance.result c.loop-number-test.true c.loop-number.invariant c.advance.ensures c.in-Ok.is

pub returns-in-Some : goal.returns-in-Some
returns-in-Some c =
    finished (parser_view c.loop-number.self) c.args.text.now c.args.tokens.now c.loop-number.number (external_trees c.in-Some.externals.items) c.loop-number-test.false c.loop-number.invariant
    (sym c.finished.ensures ∙ ap (λ o. option_map (λ es. external_trees es.items) o) c.in-Some.is)

pub returns-in-None : goal.returns-in-None
returns-in-None c =
    unfinished (parser_view c.loop-number.self) c.args.text.now c.args.tokens.now c.loop-number.number c.loop-number-test.false (omega arith) c.loop-number.invariant
    (sym c.finished.ensures ∙ ap (λ o. option_map (λ es. external_trees es.items) o) c.in-None.is)
