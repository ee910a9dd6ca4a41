-- How a change that was answered has changed the book under the lock at that moment. No client can name that book, so a clause says that
-- there was one.
use Rattle.std.specs.Prelude.{◌≡◌, ℕ, IsTrue, List, Some}
use Rattle.cc_disk.specs.declared.disk.Disk.{Ghosts}
use Rattle.cc_library.specs.Apply.{Units}
use Rattle.cc_library.specs.Recovered.{RecoversAlone}
use Rattle.cc_history.specs.declared.entry.Receipt.{Receipt}
use Rattle.cc_history.specs.History.{entry_at, units_after}
use Rattle.cc_recorded.specs.Book.{BookView}
use Rattle.cc_recorded.specs.Promise.{IsSound}

-- At the moment of the answer there was a book of this service, which keeps what every book of the service keeps, and the call was one of
-- its entries. What a crash left at that moment recovers to the first map with the changes of all these entries, and to no other map.
pub record IsStored {Disk : Type 0} (D : Ghosts Disk) (base : Units) (from : ℕ) (left : List ℕ → Type 0) (receipt : Receipt) : Type 0 where
  pub book : BookView Disk
  pub sound : IsSound D base from left book
  pub entered : entry_at book.history receipt.number ≡ Some receipt.entry
  pub images : IsTrue D.honest → (image : List ℕ) → D.may_leave book.library.disk image → RecoversAlone image (units_after book.base book.history)
