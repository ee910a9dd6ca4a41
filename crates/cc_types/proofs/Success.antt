-- What holds when a call succeeds.
use Rattle.std.proofs.Common.{Result, Ok, Err, OnOk}

-- if P holds on success and implies Q, then Q holds on success
pub on_ok : {T E P Q : Type 0} (r : Result T E) → (P → Q) → OnOk r P → OnOk r Q
on_ok (Ok v) f h = f h
on_ok (Err e) f h = tt
