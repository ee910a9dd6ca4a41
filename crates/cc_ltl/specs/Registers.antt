-- Where a word can be: the registers that the allocator may use, and the largest number of slots.
use Rattle.std.specs.Prelude.{ℕ, ◌≤◌, ◌<◌}

-- registers x7 to x31; the emitter keeps x5 and x6, and x0 to x4 have uses of their own
abbrev pub IsAllocatable : (register : ℕ) → Type 0
IsAllocatable register = (7 ≤ register) × (register < 32)

-- a function has at most this many slots: as many as a frame of 2,032 bytes holds
abbrev pub most_slots : ℕ
most_slots = 495
