use Rattle.std.proofs.Common.{◌≤◌, length, rules, arith}
use Rattle.cc_link.specs.Linked.{all_items, lent_pieces}
use Rattle.cc_size.proofs.Reaching.{bodies_long, found_all, found_first}
use Rattle.cc_size.proofs.recursion.recursions.Goals as goal

pub loop-caller-init : goal.loop-caller-init
loop-caller-init c = found_first (all_items (lent_pieces c.args.pieces.now)) _ (search rules)

pub returns : goal.returns
returns c =
    let long = bodies_long c.args.pieces.now in
    let least = c.loop-caller-test.false in
    let past : length (all_items (lent_pieces c.args.pieces.now)) ≤ c.loop-caller.caller = omega arith in
    found_all (all_items (lent_pieces c.args.pieces.now)) c.loop-caller.caller c.loop-caller.found.items past c.loop-caller.invariant
