-- The answer to how much of its area the library takes.
use Rattle.std.specs.Prelude.{◌≡◌, ℕ, IsTrue, List, Result, Ok, Err}
use Rattle.cc_disk.specs.declared.disk.Disk.{Ghosts}
use Rattle.cc_journal.specs.Format.{AllHold}
use Rattle.cc_library.specs.Apply.{Units}
use Rattle.cc_library.specs.Space.{IsSpace}
use Rattle.cc_library.specs.declared.space.SpaceUse.{SpaceUse}
use Rattle.cc_recorded.specs.Book.{BookView}
use Rattle.cc_recorded.specs.Promise.{IsSound}
use Rattle.cc_recorded.specs.declared.fault.BookFault.TheVariants.{Closed}
use Rattle.cc_service.specs.declared.fault.ServiceFault.{ServiceFault}
use Rattle.cc_service.specs.declared.fault.ServiceFault.TheVariants.{Book}

-- the figures are those of an area, some records in it, and some map; the only refusal is 36
abbrev pub SpaceAnswers : Result SpaceUse ServiceFault → Type 0
SpaceAnswers (Ok space) = (area : ℕ) × (bodies : List (List ℕ)) × (map : Units) × IsSpace area bodies map space
SpaceAnswers (Err fault) = fault ≡ Book Closed

-- At the moment of the answer there was a book of this service, which keeps what every book of the service keeps, and the figures are those of its
-- library: of the records that every crash left then, and of its map.
pub record IsSpaceThen {Disk : Type 0} (D : Ghosts Disk) (base : Units) (from : ℕ) (left : List ℕ → Type 0) (space : SpaceUse) : Type 0 where
  pub book : BookView Disk
  pub sound : IsSound D base from left book
  pub figures : IsSpace book.library.area book.library.bodies book.library.units space
  pub images : IsTrue D.honest → AllHold (D.may_leave book.library.disk) book.library.area book.library.bodies
