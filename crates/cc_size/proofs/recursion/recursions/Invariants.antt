use Rattle.cc_link.specs.Linked.{all_items, lent_pieces}
use Rattle.cc_size.specs.internal.Reached.{FoundUpTo}
use Rattle.cc_size.proofs.recursion.recursions.Given as goal

-- the calls of the functions so far were looked at
abbrev pub invariant-loop-caller : goal.invariant-loop-caller
invariant-loop-caller l = FoundUpTo (all_items (lent_pieces l.pieces)) l.caller 0 l.found.items
