use Rattle.cc_link.specs.Linked.{all_items, lent_pieces}
use Rattle.cc_size.specs.internal.Reached.{FoundUpTo}
use Rattle.cc_size.proofs.recursion.add_of.Given as goal

-- the calls of `caller` to the functions so far were looked at
abbrev pub invariant-loop-called : goal.invariant-loop-called
invariant-loop-called l = FoundUpTo (all_items (lent_pieces l.pieces)) l.caller l.called l.found.items
