use Rattle.std.proofs.Common.{◌≡◌, ◌++◌, drop}
use Rattle.std.specs.Prelude.{get_or}
use Rattle.cc_link.specs.Linked.{all_items, lent_pieces}
use Rattle.cc_size.specs.internal.Deeper.{deeper}
use Rattle.cc_size.proofs.needs.deeper.Given as goal

-- the entries so far, followed by those of the functions that are left, are all entries
abbrev pub invariant-loop-at : goal.invariant-loop-at
invariant-loop-at l = l.more.items ++ deeper (λ g. get_or l.table g 0) (drop l.at l.own) (all_items (lent_pieces (drop l.at l.pieces))) ≡ deeper (λ g. get_or l.table g 0) l.own (all_items (lent_pieces l.pieces))
