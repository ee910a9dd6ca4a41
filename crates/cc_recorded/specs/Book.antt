-- What contracts see of a book, the value of a service's lock, and what its type keeps.
use Rattle.std.specs.Prelude.{◌≡◌, ℕ, ◌≤◌, false, IsTrue, List, [], ◌∷◌, length, Some, slice_get, refl}
use Rattle.std.specs.Coded.{Coded, code_by, coded×, coded_list}
use Rattle.cc_disk.specs.declared.disk.Disk.{Ghosts}
use Rattle.cc_library.specs.Change.{LibraryCommand}
use Rattle.cc_library.specs.Apply.{Units, after}
use Rattle.cc_library.specs.Recovered.{View, RecoversAlone, RecoversOneOf, view_code}
use Rattle.cc_history.specs.declared.entry.Entry.{Entry}
use Rattle.cc_history.specs.Calls.{HasAgreed}
use Rattle.cc_history.specs.History.{Chronicle, Replays, HaveAgreed}

-- the map with which the service began, the library (its disk, its records, its map, whether it is closed), the history of the calls, and
-- the change in whose call the device failed, if there was one
pub record BookView (D : Type 0) : Type 0 where
  pub base : Units
  pub library : View D
  pub history : List Entry
  pub failed : List LibraryCommand

-- a book is stored as the tuple of its fields
abbrev pub book_code : {D : Type 0} → Coded D → Coded Units → Coded Entry → Coded LibraryCommand → Coded (BookView D)
book_code {D} disk units entry command =
    code_by (Units × (View D × (List Entry × List LibraryCommand))) (coded× units (coded× (view_code disk units) (coded× (coded_list entry) (coded_list command))))
    (λ b. (b.base, (b.library, (b.history, b.failed)))) (λ p. record { base = p.0; library = p.1.0; history = p.1.1.0; failed = p.1.1.1 }) (λ _. refl)

module _ {D : Type 0} where
  -- the history of a book, which leads from the base to the map
  abbrev pub chronicle_of : BookView D → Chronicle
  chronicle_of book = record { base = book.base; units = book.library.units; history = book.history }

-- the unit of each of these changes, if the change has one, was compiled
abbrev pub AllAgreed : List LibraryCommand → Type 0
AllAgreed changes = (k : ℕ) (c : LibraryCommand) → slice_get changes k ≡ Some c → HasAgreed c

-- an image of the disk recovers to the map; after a change that failed, to the map with or without that change
abbrev pub RecoversTo : Units → (failed : List LibraryCommand) → List ℕ → Type 0
RecoversTo units [] image = RecoversAlone image units
RecoversTo units (failed ∷ others) image = RecoversOneOf units (after units failed) image

-- What the type of a book keeps. While the library is not closed, every image of an honest disk recovers to the library's map; once the
-- device has failed in a change, to that map with or without the change.
pub record IsRecordedLibrary {Disk : Type 0} (D : Ghosts Disk) (named : Units) (total : ℕ) (book : BookView Disk) : Type 0 where
  pub replays : Replays (chronicle_of book)
  pub agreed : HaveAgreed book.history
  pub agreed_failed : AllAgreed book.failed
  pub counted : total ≡ length book.history
  pub base : IsTrue D.honest → book.base ≡ named
  pub idle : book.library.closed ≡ false → book.failed ≡ []
  pub one : length book.failed ≤ 1
  pub images : IsTrue D.honest → (image : List ℕ) → D.may_leave book.library.disk image → RecoversTo book.library.units book.failed image
