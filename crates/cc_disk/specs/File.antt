-- What the calls of a file answer, its length when it is set, and time that passes.
use Rattle.std.specs.Prelude.{ℕ, ◌-◌, List, ◌++◌, Bool, IsTrue, Option, Some, None, Result, Ok, Err, length, take, replicate}
use Rattle.cc_disk.specs.Images.{Elapses}

-- how many bytes a call moved, or none if it failed
abbrev pub count_of : {E : Type 0} → Result ℕ E → Option ℕ
count_of (Ok count) = Some count
count_of (Err fault) = None

-- these bytes, cut to `size` or filled up with zeros
abbrev pub resized : List ℕ → ℕ → List ℕ
resized bytes size = take size bytes ++ replicate (size - length bytes) 0

-- from `old` to `new` time passes, if the kind is honest
abbrev pub TimePasses : {S : Type 0} → (honest : Bool) → (moment : S → ℕ) → (left_since : S → ℕ → List ℕ → Type 0) → (may_leave : S → List ℕ → Type 0) → (old new : S) → Type 0
TimePasses honest moment left_since may_leave old new = IsTrue honest → Elapses (moment old) (moment new) (left_since old) (left_since new) (may_leave new)
