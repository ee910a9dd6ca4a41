use Rattle.std.proofs.Common.{List, ℕ, [], ◌∷◌, arith}
use Rattle.tests_store.proofs.journal.logs.framed.Goals as goal

pub from_framed-requires : goal.from_framed-requires
from_framed-requires c =
    let body : List ℕ = 1 ∷ 3 ∷ 1 ∷ 0x61 ∷ [] in
    (body, omega arith, c.in_ok-vec.ensures.items)
