-- What a commit that may compact first answers, and what it leaves: the answer is 34 only if the record would not fit even after a
-- compaction, or if the compaction was refused.
use Rattle.std.specs.Prelude.{◌≡◌, ◌≢◌, ◌⊎◌, ◌<◌, IsTrue, Result, Ok, Err}
use Rattle.cc_disk.specs.declared.disk.Disk.{Ghosts}
use Rattle.cc_library.specs.Answers.{IsMended}
use Rattle.cc_library.specs.Compact.{room_compacted}
use Rattle.cc_history.specs.declared.entry.Receipt.{Receipt}
use Rattle.cc_history.specs.Calls.{Command}
use Rattle.cc_history.specs.History.{MemberView, LastStands}
use Rattle.cc_recorded.specs.Answers.{CommitAnswers, CompactAnswers}
use Rattle.cc_recorded.specs.Book.{BookView}
use Rattle.cc_recorded.specs.Disk.{ChangesDisk, CompactsDisk}
use Rattle.cc_recorded.specs.declared.fault.BookFault.{BookFault}
use Rattle.cc_recorded.specs.declared.fault.BookFault.TheVariants.{Full}

module _ {Disk : Type 0} (D : Ghosts Disk) where
  -- What follows a compaction: the commit, on the book that the compaction leaves, with an answer other than 34. If the compaction was
  -- refused, nothing follows, and the answer is 34.
  abbrev pub CommitsBehind : Command → (between : BookView Disk) (old : MemberView) (after : BookView Disk) (new : MemberView) → Result (Unit {0}) BookFault → Result Receipt BookFault → Type 0
  CommitsBehind command between old after new (Ok done) result =
      CommitAnswers D.failures between old command after new result × (result ≢ Err Full)
      × (IsTrue D.honest → ChangesDisk D command between.library after.library result)
  CommitsBehind command between old after new (Err fault) result = (result ≡ Err Full) × (after ≡ between) × (new ≡ old)

  -- The change would be refused with 34 now, but not after a compaction, so the library is compacted. This makes no entry and keeps
  -- the map.
  pub record IsCompactedFor (before : BookView Disk) (old : MemberView) (command : Command) (after : BookView Disk) (new : MemberView) (result : Result Receipt BookFault) : Type 0 where
    pub mended : IsMended before.library command
    pub stands : LastStands before.history old.receipts
    pub compacted : Result (Unit {0}) BookFault
    pub between : BookView Disk
    pub answers : CompactAnswers D.failures before between compacted
    pub rewritten : IsTrue D.honest → CompactsDisk D before.library between.library compacted
    pub commits : CommitsBehind command between old after new compacted result

  -- the answer is that of a commit, and 34 only if a compaction would not make enough room; or the library is compacted first
  abbrev pub CompactingAnswers : (before : BookView Disk) (old : MemberView) → Command → (after : BookView Disk) (new : MemberView) → Result Receipt BookFault → Type 0
  CompactingAnswers before old command after new result =
      (CommitAnswers D.failures before old command after new result
      × (result ≡ Err Full → before.library.area < room_compacted before.library.units command)
      × (IsTrue D.honest → ChangesDisk D command before.library after.library result))
      ⊎ IsCompactedFor before old command after new result
