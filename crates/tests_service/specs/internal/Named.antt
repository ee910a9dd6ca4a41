-- What the parameter of a test's service names.
use Rattle.std.specs.Prelude.{ℕ, ◌≡◌, List}
use Rattle.cc_library.specs.Apply.{Units}
use Rattle.cc_pool.specs.Queue.{QueueName}
use Rattle.cc_service.specs.Named.{Names}

-- the parameter names this ledger, with a part for each of 1,024 clients and one more, and this queue; no call of the device
-- had to fail before
abbrev pub AreNamed : (fresh : Names) (name parts : ℕ) (queue : QueueName) (failures : ℕ) → Type 0
AreNamed fresh name parts queue failures = (fresh.ledger ≡ name) × (parts ≡ 1025) × (fresh.queue ≡ queue) × (failures ≡ 0)

-- the parameter names these, the map that was found, and the disk's first moment, about which nothing is stated
abbrev pub IsNamed : (fresh : Names) (found : Units) (name parts : ℕ) (queue : QueueName) (failures : ℕ) (base : Units) (from : ℕ) (left : List ℕ → Type 0) → Type 0
IsNamed fresh found name parts queue failures base from left =
    AreNamed fresh name parts queue failures × (found ≡ base) × (from ≡ 0) × ((image : List ℕ) → left image)
