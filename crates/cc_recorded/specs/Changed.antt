-- The whole promise of a change of a book, and of a compaction, on this kind of disk.
use Rattle.std.specs.Prelude.{◌≡◌, ℕ, false, IsTrue, List, Result}
use Rattle.cc_disk.specs.declared.disk.Disk.{Ghosts}
use Rattle.cc_disk.specs.Images.{LeavesOnly}
use Rattle.cc_library.specs.Apply as library
use Rattle.cc_library.specs.Recovered.{RecoversAlone, RecoversOneOf}
use Rattle.cc_history.specs.declared.entry.Receipt.{Receipt}
use Rattle.cc_history.specs.Calls.{Command}
use Rattle.cc_history.specs.History.{MemberView}
use Rattle.cc_recorded.specs.Answers.{CommitAnswers, CompactAnswers}
use Rattle.cc_recorded.specs.Book.{BookView, RecoversTo}
use Rattle.cc_recorded.specs.Disk.{ChangesDisk, CompactsDisk}
use Rattle.cc_recorded.specs.declared.fault.BookFault.{BookFault}

module _ {Disk : Type 0} (D : Ghosts Disk) where
  -- every image recovers to the book's map; after a change that failed, to the map with or without that change
  abbrev pub AllRecover : BookView Disk → Type 0
  AllRecover book = IsTrue D.honest → (image : List ℕ) → D.may_leave book.library.disk image → RecoversTo book.library.units book.failed image

  -- a crash at any moment from `before` to `after` leaves the earlier map or the map after the command
  abbrev pub ChangesAtOnce : Command → (before after : BookView Disk) → Type 0
  ChangesAtOnce command before after = IsTrue D.honest → before.library.closed ≡ false
      → LeavesOnly D.moment D.left_since before.library.disk after.library.disk (RecoversOneOf before.library.units (library.after before.library.units command))

  -- a change
  pub record IsBookChanged (before : BookView Disk) (old : MemberView) (command : Command) (after : BookView Disk) (new : MemberView) (result : Result Receipt BookFault) : Type 0 where
    pub answers : CommitAnswers D.failures before old command after new result
    -- how the disk's bytes change
    pub disk : IsTrue D.honest → ChangesDisk D command before.library after.library result
    pub moments : ChangesAtOnce command before after
    -- after Ok every image recovers to the map after the command, and to no other map
    pub kept : AllRecover after

  -- a compaction
  pub record IsBookCompacted (before after : BookView Disk) (result : Result (Unit {0}) BookFault) : Type 0 where
    pub answers : CompactAnswers D.failures before after result
    -- how the disk's bytes change
    pub disk : IsTrue D.honest → CompactsDisk D before.library after.library result
    -- a crash at any moment leaves the map, and no other map
    pub moments : IsTrue D.honest → before.library.closed ≡ false
        → LeavesOnly D.moment D.left_since before.library.disk after.library.disk (λ image. RecoversAlone image before.library.units)
    pub kept : AllRecover after
