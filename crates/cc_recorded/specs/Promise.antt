-- What the type of a book keeps, and what follows from it for whatever a crash leaves.
use Rattle.std.specs.Prelude.{◌≡◌, ◌⊎◌, ◌+◌, ◌≤◌, ℕ, Bool, false, IsTrue, List, [], ◌++◌, length}
use Rattle.cc_disk.specs.declared.disk.Disk.{Ghosts}
use Rattle.cc_library.specs.Change.{LibraryCommand}
use Rattle.cc_library.specs.Apply.{Units, library_of}
use Rattle.cc_library.specs.Recovered.{Recovers}
use Rattle.cc_core.specs.declared.command.Numbered.{Numbered}
use Rattle.cc_core.specs.Run.{EachUnit, IsRightOr, Survives}
use Rattle.cc_core.specs.Step.{commands}
use Rattle.cc_headline.specs.Compiling.{compiling, Keeps, is_right}
use Rattle.cc_history.specs.Closing.{AreOwn, IsClosed, IsNotWhole}
use Rattle.cc_history.specs.History.{EachAgrees, MemberView, IsLegal, changes, units_after}
use Rattle.cc_recorded.specs.Book.{AllAgreed, BookView, RecoversTo}
use Rattle.cc_recorded.specs.Since.{AreSince, BookSince, HoldsFrom, IsInOrder, IsSinceOpening}
use Rattle.cc_recorded.specs.Tie.{IsTied}

-- On any disk: since `failures` calls of the device had failed, at least one more has failed for each change that failed. So if none has
-- failed since, no change has failed, and whatever a crash leaves recovers to the map and to no other map.
abbrev pub FailedByDevice : {Disk : Type 0} (D : Ghosts Disk) (failures : ℕ) → BookView Disk → Type 0
FailedByDevice D failures book = failures + length book.failed ≤ D.failures book.library.disk

-- Each change that failed did so because the device failed. On an honest disk the type also keeps: the tie to the core's theorem; what a
-- crash at any moment since each earlier call has left; what a crash has left since the moment that the service's parameter names (the
-- parameter also says what a crash had left from that moment until the opening); and that the entries came one by one.
pub record IsBook {Disk : Type 0} (D : Ghosts Disk) (failures from : ℕ) (left : List ℕ → Type 0) (b : BookSince Disk) : Type 0 where
  pub blamed : FailedByDevice D failures b.book
  pub tied : IsTrue D.honest → IsTied compiling Keeps D b.book
  pub since : IsTrue D.honest → AreSince D b.book b.since
  pub opened : IsTrue D.honest → IsSinceOpening D from left b.book
  pub ordered : IsTrue D.honest → IsInOrder D b.book

-- What a crash leaves of a book's disk recovers to the library that a prefix of the commands, in commit order, makes. These are first some
-- commands that led to the base, then the changes of the history, then the one in which the device failed. The prefix has each acknowledged
-- command, as often as it was acknowledged: those of the base, and those of the history. Each unit in the library was found at the opening,
-- or its image agrees with its source.
pub record SurvivesCrash {D : Type 0} (book : BookView D) (image : List ℕ) : Type 0 where
  pub earlier : List LibraryCommand
  pub base : library_of earlier ≡ book.base
  pub order : List Numbered
  pub acknowledged : List Numbered
  pub in_order : commands order ≡ earlier ++ (changes book.history ++ book.failed)
  pub acked : commands acknowledged ≡ earlier ++ changes book.history
  pub survives : Survives image order acknowledged
  pub right : (library : Units) → Recovers image library → EachUnit (IsRightOr is_right book.base) library

-- What a crash left at some moment while the service ran recovers to the base after a prefix of the history, or to the map with the change
-- in which the device failed. Each unit in that library was found at the opening, or its image agrees with its source.
pub record HoldsPrefix {D : Type 0} (book : BookView D) (image : List ℕ) : Type 0 where
  pub holds : HoldsFrom book 0 image
  pub right : (library : Units) → Recovers image library → EachUnit (IsRightOr is_right book.base) library

-- What holds for a book at any time, in whatever order the calls of all threads took the lock. The parameter of its service names the base,
-- a moment up to the opening, and what a crash from that moment until the opening had left.
pub record IsSound {Disk : Type 0} (D : Ghosts Disk) (base : Units) (from : ℕ) (left : List ℕ → Type 0) (book : BookView Disk) : Type 0 where
  pub base_is : IsTrue D.honest → book.base ≡ base
  -- each answer is that of a single thread at that point; the map is the base with the changes; each unit is the base's or was compiled
  pub legal : IsLegal book.base book.history
  pub map : book.library.units ≡ units_after book.base book.history
  pub agrees : EachAgrees book.base book.library.units
  pub agrees_failed : AllAgreed book.failed
  pub idle : book.library.closed ≡ false → book.failed ≡ []
  -- what a crash leaves now, and what a crash has left since the moment `from`
  pub images : IsTrue D.honest → (image : List ℕ) → D.may_leave book.library.disk image → RecoversTo book.library.units book.failed image
  pub survives : IsTrue D.honest → (image : List ℕ) → D.may_leave book.library.disk image → SurvivesCrash book image
  pub since : IsTrue D.honest → (image : List ℕ) → D.left_since book.library.disk from image → left image ⊎ HoldsPrefix book image
  -- Once the history has the entry of a call, whatever a crash leaves has that call.
  pub ordered : IsTrue D.honest → IsInOrder D book

-- What is left of a service that was given up with these clients: its book was on this disk, and each client has receipts of its own calls,
-- in order. If `are_all` is true, each of their receipts is in the book's history, and each entry has a receipt; if it is false, `why` says
-- what is wrong.
pub record IsGivenUp {Disk : Type 0} (D : Ghosts Disk) (failures : ℕ) (base : Units) (from : ℕ) (left : List ℕ → Type 0) (clients : List MemberView) (are_all : Bool) (disk : Disk) : Type 0 where
  pub book : BookView Disk
  pub disk_is : book.library.disk ≡ disk
  pub sound : IsSound D base from left book
  pub blamed : FailedByDevice D failures book
  pub own : AreOwn clients
  pub closed : IsTrue are_all → IsClosed book.history clients
  pub why : are_all ≡ false → IsNotWhole book.history clients
