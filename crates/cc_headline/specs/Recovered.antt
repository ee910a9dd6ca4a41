-- What the headline says about the build that compiles: about every run of the protocol, and about whatever a crash then leaves of the
-- disk.
use Rattle.std.specs.Prelude.{ℕ, List}
use Rattle.cc_disk.specs.Model.{IsImage}
use Rattle.cc_library.specs.Apply.{Units}
use Rattle.cc_library.specs.Recovered.{Recovers}
use Rattle.cc_core.specs.declared.contents.Contents.{Contents}
use Rattle.cc_core.specs.declared.contents.Core.{Core}
use Rattle.cc_core.specs.declared.event.Event.{Event}
use Rattle.cc_core.specs.Run.{EachUnit, IsRightOr, IsBeginning, Run}
use Rattle.cc_emit.specs.Piece.{Piece}
use Rattle.cc_link.specs.Made.{IsCompiled}
use Rattle.cc_headline.specs.Compiling.{compiling, is_right}

-- after every list of events, from a fresh or an opened disk, `Holds` is true of the library at the beginning and the core at the end
abbrev pub AfterEveryRun : (Units → Core → Type 0) → Type 0
AfterEveryRun Holds =
    (first new : Contents Piece) (events : List (Event Piece)) → IsBeginning first → Run compiling IsCompiled first events new → Holds first.core.library new.core

-- each unit of the library to which an image of the disk recovers agrees with its stored source
abbrev pub EachUnitAgrees : Core → Type 0
EachUnitAgrees s = (image : List ℕ) (library : Units) → IsImage s.store.cells image → Recovers image library → EachUnit is_right library

-- all units agree with their sources, if those found at the opening do
abbrev pub AgreesWhereFound : Units → Core → Type 0
AgreesWhereFound found s = EachUnit is_right found → EachUnitAgrees s

-- each unit was found at the opening, or agrees with its source
abbrev pub IsFoundOrAgrees : Units → Core → Type 0
IsFoundOrAgrees found s = (image : List ℕ) (library : Units) → IsImage s.store.cells image → Recovers image library → EachUnit (IsRightOr is_right found) library
