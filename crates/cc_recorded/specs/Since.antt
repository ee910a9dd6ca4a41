-- What a crash at any moment since an earlier call, or since the opening, has left.
use Rattle.std.specs.Prelude.{◌≡◌, ◌⊎◌, ℕ, ◌≤◌, List, [], ◌∷◌, ◌++◌, length, take, Some, slice_get, refl}
use Rattle.std.specs.Coded.{Coded, code_by, coded×, coded_list}
use Rattle.cc_disk.specs.declared.disk.Disk.{Ghosts}
use Rattle.cc_library.specs.Change.{LibraryCommand}
use Rattle.cc_library.specs.Apply.{after}
use Rattle.cc_library.specs.Recovered.{RecoversAlone}
use Rattle.cc_history.specs.declared.entry.Entry.{Entry}
use Rattle.cc_history.specs.History.{units_after}
use Rattle.cc_recorded.specs.Book.{BookView}

-- what contracts see of the value of the lock: the book, and the book as it was at the opening and after each call, the newest last
pub record BookSince (D : Type 0) : Type 0 where
  pub book : BookView D
  pub since : List (BookView D)

-- this value is stored as the pair of its fields
abbrev pub since_code : {D : Type 0} → Coded (BookView D) → Coded (BookSince D)
since_code {D} book =
    code_by (BookView D × List (BookView D)) (coded× book (coded_list book)) (λ b. (b.book, b.since)) (λ p. record { book = p.0; since = p.1 }) (λ _. refl)

module _ {Disk : Type 0} where
  -- The image recovers to the base after a prefix of the history that has at least this many entries; or to the map with the change in which
  -- the device failed.
  abbrev pub HoldsFrom : BookView Disk → ℕ → List ℕ → Type 0
  HoldsFrom book entries image =
      ((j : ℕ) × (entries ≤ j) × (j ≤ length book.history) × RecoversAlone image (units_after book.base (take j book.history)))
      ⊎ ((c : LibraryCommand) × (book.failed ≡ c ∷ []) × RecoversAlone image (after book.library.units c))

  -- an image of the disk when the history had this many entries: it recovers to the base after these, or to the map with the failed change
  abbrev pub HoldsJust : BookView Disk → ℕ → List ℕ → Type 0
  HoldsJust book entries image =
      RecoversAlone image (units_after book.base (take entries book.history))
      ⊎ ((c : LibraryCommand) × (book.failed ≡ c ∷ []) × RecoversAlone image (after book.library.units c))

module _ {Disk : Type 0} (D : Ghosts Disk) where
  -- Whatever a crash has left since the book was `old` has all calls that were in the history then.
  pub record IsSince (book old : BookView Disk) : Type 0 where
    pub rest : List Entry
    pub grows : book.history ≡ old.history ++ rest
    pub past : D.moment old.library.disk ≤ D.moment book.library.disk
    pub holds : (image : List ℕ) → D.left_since book.library.disk (D.moment old.library.disk) image → HoldsFrom book (length old.history) image

  -- `from` is a moment up to now, and `left` holds of whatever a crash has left since then.
  pub record IsPast (from : ℕ) (left : List ℕ → Type 0) (disk : Disk) : Type 0 where
    pub past : from ≤ D.moment disk
    pub all : (image : List ℕ) → D.left_since disk from image → left image

  -- Whatever a crash has left since the moment `from` could have been left before the opening, or has a prefix of the calls.
  pub record IsSinceOpening (from : ℕ) (left : List ℕ → Type 0) (book : BookView Disk) : Type 0 where
    pub past : from ≤ D.moment book.library.disk
    pub holds : (image : List ℕ) → D.left_since book.library.disk from image → left image ⊎ HoldsFrom book 0 image

  abbrev pub AreSince : BookView Disk → List (BookView Disk) → Type 0
  AreSince book since = (k : ℕ) (old : BookView Disk) → slice_get since k ≡ Some old → IsSince book old

  -- `disk` is the disk as it was when the history had this many entries, each of them answered: a crash at that moment left exactly these
  -- entries, and whatever a crash has left since has them.
  pub record StoodWith (book : BookView Disk) (entries : ℕ) (disk : Disk) : Type 0 where
    pub past : D.moment disk ≤ D.moment book.library.disk
    pub just : (image : List ℕ) → D.may_leave disk image → HoldsJust book entries image
    pub holds : (image : List ℕ) → D.left_since book.library.disk (D.moment disk) image → HoldsFrom book entries image

  -- the entries came one by one: for each number of entries, up to all, there was a disk that stood with that many
  abbrev pub IsInOrder : BookView Disk → Type 0
  IsInOrder book = (entries : ℕ) → entries ≤ length book.history → (disk : Disk) × StoodWith book entries disk
