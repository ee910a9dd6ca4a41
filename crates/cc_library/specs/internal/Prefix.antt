-- The prefix of a name as one number.
use Rattle.std.specs.Prelude.{ℕ, zero, suc, ◌+◌, ◌*◌, List, [], ◌∷◌}

-- the number so far, followed by `count` bytes, the first one highest; missing bytes count as zero
unfoldable pub prefix_number : (so_far count : ℕ) (bytes : List ℕ) → ℕ
prefix_number so_far zero bytes = so_far
prefix_number so_far (suc n) [] = prefix_number (so_far * 256) n []
prefix_number so_far (suc n) (byte ∷ bytes) = prefix_number (so_far * 256 + byte) n bytes
