use Rattle.std.proofs.Common.{◌≡◌, ◌++◌, drop, false}
use Rattle.std.specs.Prelude.{get_or}
use Rattle.cc_link.specs.Linked.{all_items, lent_pieces}
use Rattle.cc_size.specs.internal.Reached.{nearer}
use Rattle.cc_size.proofs.recursion.nearer.Given as goal

-- the entries so far, followed by those of the functions that are left, are all entries
abbrev pub invariant-loop-at : goal.invariant-loop-at
invariant-loop-at l =
    l.more.items ++ nearer (λ g. get_or l.table g false) (drop l.at l.table) (all_items (lent_pieces (drop l.at l.pieces))) ≡ nearer (λ g. get_or l.table g false) l.table (all_items (lent_pieces l.pieces))
