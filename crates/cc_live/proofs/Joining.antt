-- A row that holds what either of two rows holds is their join. If one of the rows lies within the other, the join is the
-- other row; otherwise the join lacks fewer registers.
use Rattle.std.proofs.Common.{◌≡◌, ◌∙◌, ℕ, ◌*◌, ◌<◌, ◌≤◌, List, length, sym, ◌||◌, IsTrue, IsFalse, arith}
use Rattle.std.proofs.lemmas.Bool.{or_left, or_right}
use Rattle.cc_flow.specs.Lattice.{Equivalent}
use Rattle.cc_bits.specs.Rows.{holds}
use Rattle.cc_live.specs.internal.Facts.{Below, either}
use Rattle.cc_live.specs.internal.Holding.{holds-either}
use Rattle.cc_live.specs.internal.Laws.{laws, same_rows}
use Rattle.cc_live.specs.internal.Room.{room, most_words, room_falls}

-- the row holds what either of the two holds
abbrev pub HoldsEither : (made x y : List ℕ) → Type 0
HoldsEither made x y = (r : ℕ) → holds made r ≡ (holds x r || holds y r)

pub join_stays : (x y : List ℕ) → Below y x → Equivalent Below x (either x y)
join_stays x y h = (laws.first x y, laws.within x y x (laws.reflexive x) h)

pub join_made : (made x y : List ℕ) → HoldsEither made x y → Equivalent Below made (either x y)
join_made made x y h = same_rows made (either x y) (λ r. h r ∙ sym (holds-either x y r))

-- a register that the second row holds and the first does not
abbrev pub OneMore : (x y : List ℕ) → Type 0
OneMore x y = (r : ℕ) × (r < 64 * length y) × IsTrue (holds y r) × IsFalse (holds x r)

pub room_less : (made x y : List ℕ) → HoldsEither made x y → length y ≤ most_words → OneMore x y → room made < room x
room_less made x y h few (r, within, there, out) =
    room_falls x made r (λ k held. h k ∙ or_left (holds x k) (holds y k) held) (omega arith) out (h r ∙ or_right (holds x r) (holds y r) there)
