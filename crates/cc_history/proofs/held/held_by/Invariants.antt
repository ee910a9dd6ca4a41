use Rattle.std.proofs.Common.{◌≡◌, take}
use Rattle.cc_history.specs.Held.{at_most_told, receipts_bytes}
use Rattle.cc_history.proofs.held.held_by.Given as goal

-- the bytes of the receipts so far have been counted
abbrev pub invariant-loop-receipt : goal.invariant-loop-receipt
invariant-loop-receipt l = l.held ≡ at_most_told (receipts_bytes (take l.receipt-index l.receipts))
