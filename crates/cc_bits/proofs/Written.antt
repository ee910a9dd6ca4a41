-- Writing a word of a row through its slice.
use Rattle.std.proofs.Common.{◌≡◌, ◌∙◌, ap, ℕ, List, length, set, slice_set}
use Rattle.std.specs.List.{refill}
use Rattle.std.proofs.lemmas.List.{length-set}
use Rattle.smallvec.specs.SmallVec.{SmallVec}
use Rattle.smallvec.proofs.SmallVecLemmas.{items-with_items}

pub written : (v : SmallVec ℕ) (now : List ℕ) (at value : ℕ) → now ≡ v.items → refill (length v.items) v.items (slice_set now at value) ≡ set v.items at value
written v now at value same = items-with_items v (slice_set now at value) (length-set now at value ∙ ap length same) ∙ ap (λ x. set x at value) same

pub written_long : (v : SmallVec ℕ) (now : List ℕ) (at value : ℕ) → now ≡ v.items → length (refill (length v.items) v.items (slice_set now at value)) ≡ length v.items
written_long v now at value same = ap (λ (x : List ℕ). length x) (written v now at value same) ∙ length-set v.items at value
