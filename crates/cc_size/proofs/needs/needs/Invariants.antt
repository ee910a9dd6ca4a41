use Rattle.std.proofs.Common.{◌≡◌, ℕ}
use Rattle.std.specs.Prelude.{get_or}
use Rattle.cc_link.specs.Linked.{all_items, lent_pieces}
use Rattle.cc_link.specs.Stack.{need}
use Rattle.cc_size.proofs.needs.needs.Given as goal

-- the table is the one for this many calls
abbrev pub invariant-loop-call : goal.invariant-loop-call
invariant-loop-call l = (f : ℕ) → get_or l.table.items f 0 ≡ need l.own (all_items (lent_pieces l.pieces)) l._call f
