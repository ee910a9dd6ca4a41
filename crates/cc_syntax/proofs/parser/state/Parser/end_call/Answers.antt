use Rattle.std.proofs.Common.{◌≡◌, [], length, ◌++◌, ◌∷◌, ap, arith, rules}
use Rattle.std.proofs.lemmas.Grind.{common_steps}
use Rattle.cc_ast.specs.Erase.{name_tree}
use Rattle.cc_syntax.specs.internal.ParserView.{waiting_view, full_view}
use Rattle.cc_syntax.proofs.ParserCalls.{call_of_none-some}
use Rattle.cc_syntax.proofs.parser.state.Parser.end_call.Goals as goal

pub returns-then-not-is_empty : goal.returns-then-not-is_empty
returns-then-not-is_empty c =
    let last : c.args.self.now.full.waiting.items ≡ c.pop.new.self.items ++ c.in-Some-Arguments.field-0 ∷ [] = search rules in
    call_of_none-some (full_view c.args.self.now) c.args.self.now.full.waiting.items c.pop.new.self.items c.in-Some-Arguments.field-0 (name_tree c.in-Some-Arguments.name) c.in-Some-Arguments.arguments.items last (ap waiting_view c.in-Some-Arguments.field-0-is)
    (λ (e : c.in-Some-Arguments.arguments.items ≡ []). let none = ap length e in grind (arith, common_steps))
