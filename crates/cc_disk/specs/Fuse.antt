-- Which calls of a fuse disk reach its disk, and which fail.
use Rattle.std.specs.Prelude.{◌≡◌, ℕ, ◌+◌, ◌⊎◌, Bool, true, false, Option, Some, None, if◌then◌else◌}
use Rattle.std.proofs.Common.{zero, suc}
use Rattle.cc_disk.specs.declared.fuse.FuseMode.{FuseMode}
use Rattle.cc_disk.specs.declared.fuse.FuseMode.TheVariants.{Once, Before, Within}
use Rattle.cc_disk.specs.declared.fuse.Course.{Course}
use Rattle.cc_disk.specs.declared.fuse.Course.TheVariants.{Passes, Fails, WritesAndFails}

-- what happens to the call at which the fuse blows: it fails; in the mode Within a write reaches the disk first
abbrev pub course_at_fuse : FuseMode → Bool → Course
course_at_fuse Once write = Fails
course_at_fuse Before write = Fails
course_at_fuse Within write = if write then WritesAndFails else Fails

-- what happens to a later call: it passes only in the mode Once
abbrev pub course_behind : FuseMode → Course
course_behind Once = Passes
course_behind Before = Fails
course_behind Within = Fails

-- what happens to the next call, if this many calls still pass before the fuse blows (`None`: it has blown)
abbrev pub course_of : FuseMode → Option ℕ → Bool → Course
course_of mode (Some zero) write = course_at_fuse mode write
course_of mode (Some (suc n)) write = Passes
course_of mode None write = course_behind mode

-- how many calls still pass before the fuse blows, after one more call
abbrev pub after_call : Option ℕ → Option ℕ
after_call (Some zero) = None
after_call (Some (suc n)) = Some n
after_call None = None

-- A write reaches the disk and then fails. The fuse counts the failure, or, if the write itself failed, the disk does.
abbrev pub ReachesAndFails : {D : Type 0} → (write : Bool → D → Type 0) → (before after : ℕ) → D → Type 0
ReachesAndFails write before after new = ((after ≡ before) × write true new) ⊎ ((after ≡ before + 1) × write false new)
