use Rattle.std.proofs.Common.{◌≡◌, ◌≢◌, ℕ, ◌<◌, Some}
use Rattle.std.specs.Prelude.{slice_get}
use Rattle.cc_recorded.proofs.closing.are_apart.Given as goal

abbrev pub invariant-loop-i : goal.invariant-loop-i
invariant-loop-i g l = (i j : ℕ) (one other : g.row.C.Denot) → i < l.i → j < i → slice_get l.clients i ≡ Some one → slice_get l.clients j ≡ Some other → (g.C.HasReceipts.member one).number ≢ (g.C.HasReceipts.member other).number

abbrev pub invariant-loop-j : goal.invariant-loop-j
invariant-loop-j g l = (j : ℕ) (one other : g.row.C.Denot) → j < l.j → slice_get l.clients l.i ≡ Some one → slice_get l.clients j ≡ Some other → (g.C.HasReceipts.member one).number ≢ (g.C.HasReceipts.member other).number
