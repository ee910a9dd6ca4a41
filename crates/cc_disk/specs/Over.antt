-- What a disk on a file makes of the file's answers.
use Rattle.std.specs.Prelude.{◌≡◌, ◌↔◌, ℕ, Bool, IsTrue, Option, Some}

-- The file gives one of its answers, the number of bytes that it has moved or none for a refusal. The disk's call succeeds exactly
-- if this is the number wanted. So an answer that is too short is a failure.
abbrev pub SucceedsIfWhole : (gives : Option ℕ → Type 0) → (wanted : ℕ) → (ok : Bool) → Type 0
SucceedsIfWhole gives wanted ok = (answer : Option ℕ) × gives answer × (IsTrue ok ↔ (answer ≡ Some wanted))
