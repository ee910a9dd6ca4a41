use Rattle.std.proofs.Common.{◌≡◌, ℕ, ◌<◌, Some}
use Rattle.std.specs.Prelude.{slice_get}
use Rattle.cc_history.specs.History.{AllStand}
use Rattle.cc_recorded.proofs.closing.stand_in.Given as goal

-- the receipts of the clients so far match
abbrev pub invariant-loop-client : goal.invariant-loop-client
invariant-loop-client g l = (j : ℕ) (earlier : g.row.C.Denot) → j < l.client-index → slice_get l.clients j ≡ Some earlier → AllStand l.history (g.C.HasReceipts.member earlier).receipts
