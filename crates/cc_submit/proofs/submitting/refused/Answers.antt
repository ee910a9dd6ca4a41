-- The line for 40 or the line for 56 is written.
use Rattle.std.proofs.Common.{inl, inr, IsTrue}
use Rattle.cc_submit.proofs.submitting.refused.Goals as goal

pub returns-then-eq : goal.returns-then-eq
returns-then-eq g c = λ (yes : IsTrue c.put.result). inl (c.put.ensures yes)

pub returns-else-eq : goal.returns-else-eq
returns-else-eq g c = λ (yes : IsTrue c.put-else-eq.result). inr (c.put-else-eq.ensures yes)
