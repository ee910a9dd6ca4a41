-- How a book is tied to the theorem of the protocol core: some run of the core, starting from an opened disk, leads to a state that the
-- book shows. Every call keeps this tie, so it holds in whatever order the calls of several threads take the lock.
use Rattle.std.specs.Prelude.{◌≡◌, ℕ, ◌≤◌, true, List, None}
use Rattle.std.specs.FinMap.{get}
use Rattle.cc_disk.specs.declared.disk.Disk.{Ghosts}
use Rattle.cc_core.specs.declared.contents.Contents.{Contents}
use Rattle.cc_core.specs.declared.event.Event.{Event}
use Rattle.cc_core.specs.Rules.{Rules}
use Rattle.cc_core.specs.Run.{IsOpened, Run}
use Rattle.cc_recorded.specs.Book.{BookView}
use Rattle.cc_recorded.specs.Core.{Shows}

-- The core's state `first` is one in which opening a disk with the base leaves the core. From there `events` lead to a state that the book
-- shows. In that state clients from number `clients` on have no job, and worker 0 is idle: the run goes on with those.
pub record IsTied {Disk P : Type 0} (rules : Rules P) (keeps : P → Type 0) (D : Ghosts Disk) (book : BookView Disk) : Type 0 where
  pub first : Contents P
  pub opened : IsOpened first
  pub begun : first.core.library ≡ book.base
  pub events : List (Event P)
  pub now : Contents P
  pub run : Run rules keeps first events now
  pub shows : Shows (record D { honest = true }) book now
  pub clients : ℕ
  pub fresh : (k : ℕ) → clients ≤ k → get now.jobs k ≡ None
  pub idle : get now.workers 0 ≡ None
