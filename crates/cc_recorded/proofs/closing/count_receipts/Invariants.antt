use Rattle.std.proofs.Common.{◌≡◌, ℕ, ◌*◌, ◌^◌, ◌<◌, ◌≤◌, Some, take, map}
use Rattle.std.specs.Prelude.{slice_get}
use Rattle.cc_history.specs.Closing.{receipts_of}
use Rattle.cc_history.specs.History.{IsOwn}
use Rattle.cc_recorded.proofs.closing.count_receipts.Given as goal

-- the clients so far have this many receipts together, at most 2 ^ 64 for each client, and each client's
-- receipts are of its own calls
abbrev pub invariant-loop-client : goal.invariant-loop-client
invariant-loop-client g l = record {
  counted : l.count ≡ receipts_of (take l.client-index (map g.C.HasReceipts.member l.clients));
  below : l.count ≤ l.client-index * 2 ^ 64;
  own : (j : ℕ) (earlier : g.row.C.Denot) → j < l.client-index → slice_get l.clients j ≡ Some earlier → IsOwn (g.C.HasReceipts.member earlier);
}
