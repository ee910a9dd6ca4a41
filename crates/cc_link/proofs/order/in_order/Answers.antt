use Rattle.std.proofs.Common.{◌≡◌, ◌<◌, inr, rules, ◌++◌, [], ◌∷◌, ◌∙◌}
use Rattle.cc_link.specs.Linked.{lent_pieces}
use Rattle.cc_link.proofs.OneByOne.{missing_here, missing_next, pieces_next}
use Rattle.cc_link.proofs.order.in_order.Goals as goal

pub returns-in_default-clause-refused : goal.returns-in_default-clause-refused
returns-in_default-clause-refused c =
    let ps = lent_pieces c.args.pieces.now in
    let lt : c.loop-function.function < c.args.functions = search rules in
    inr (c.loop-function.invariant.left ∙ missing_here ps c.loop-function.function c.args.functions lt c.in_default.ensures)

pub loop-function-preserved : goal.loop-function-preserved
loop-function-preserved c =
    let ps = lent_pieces c.args.pieces.now in
    let f = c.loop-function.function in
    let lt : f < c.args.functions = search rules in
    let pushed : c.push.new.self.items ≡ c.loop-function.ordered.items ++ (c.in-Some.piece ∷ []) = search rules in
    record {
      left = c.loop-function.invariant.left ∙ missing_next ps f c.args.functions c.in-Some.piece.now lt c.in-Some.ensures;
      ordered = pieces_next ps f c.args.functions c.in-Some.piece c.loop-function.ordered.items c.push.new.self.items _ lt c.in-Some.ensures pushed c.loop-function.invariant.ordered;
    }
