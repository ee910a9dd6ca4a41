-- Changes failed only because the device did: only a device call that fails adds a failed change.
use Rattle.std.proofs.Common.{◌≡◌, ◌+◌, ◌≤◌, ℕ, List, [], ◌∷◌, length, Result, Ok, Err, refl, sym, ap, subst, arith}
use Rattle.cc_disk.specs.declared.disk.Disk.{Ghosts}
use Rattle.cc_library.specs.Change.{LibraryCommand}
use Rattle.cc_library.specs.Recovered.{View}
use Rattle.cc_history.specs.declared.command.Asked.{Asked}
use Rattle.cc_history.specs.declared.entry.Receipt.{Receipt}
use Rattle.cc_history.specs.Calls.{Command}
use Rattle.cc_history.specs.History.{MemberView}
use Rattle.cc_recorded.specs.declared.fault.BookFault.{BookFault}
use Rattle.cc_recorded.specs.declared.fault.BookFault.TheVariants.{Exists, Absent, Full, DiskFault, Closed, Estranged, OutOfMemory}
use Rattle.cc_recorded.specs.Book.{BookView}
use Rattle.cc_recorded.specs.Answers.{CommitAnswers, CompactAnswers, LookAnswers}
use Rattle.cc_recorded.specs.Promise.{FailedByDevice}

module _ {Disk : Type 0} (D : Ghosts Disk) (failures : ℕ) where
  -- at the opening no change has failed
  pub none_failed : (book : BookView Disk) → book.failed ≡ [] → failures ≤ D.failures book.library.disk → FailedByDevice D failures book
  none_failed book none most = let few = ap (λ (l : List LibraryCommand). length l) none in omega (arith, few, most)

  module _ (before after_it : BookView Disk) (kept : FailedByDevice D failures before) where
    -- if nothing was done, the count stays right
    same : after_it ≡ before → FailedByDevice D failures after_it
    same stays = subst (λ (b : BookView Disk). FailedByDevice D failures b) (sym stays) kept

    -- if no further change failed, and no further device call, the count stays right
    as_many : after_it.failed ≡ before.failed → D.failures after_it.library.disk ≡ D.failures before.library.disk → FailedByDevice D failures after_it
    as_many failed device = let few = ap (λ (l : List LibraryCommand). length l) failed in omega (arith, few, device, kept)

    -- if one device call failed, and at most one change, the count stays right
    one_more : (c : LibraryCommand) → after_it.failed ≡ c ∷ [] → D.failures after_it.library.disk ≡ D.failures before.library.disk + 1 → FailedByDevice D failures after_it
    one_more c failed device = let few = ap (λ (l : List LibraryCommand). length l) failed in omega (arith, few, device, kept)

    not_one : after_it.failed ≡ before.failed → D.failures after_it.library.disk ≡ D.failures before.library.disk + 1 → FailedByDevice D failures after_it
    not_one failed device = let few = ap (λ (l : List LibraryCommand). length l) failed in omega (arith, few, device, kept)

    beside : after_it.library ≡ before.library → after_it.failed ≡ before.failed → FailedByDevice D failures after_it
    beside library failed = as_many failed (ap (λ (v : View Disk). D.failures v.disk) library)

    pub commit_blames : (old new : MemberView) (command : Command) (result : Result Receipt BookFault) → CommitAnswers D.failures before old command after_it new result → FailedByDevice D failures after_it
    commit_blames old new command (Ok receipt) (done, device) = as_many done.failed device
    commit_blames old new command (Err (Exists receipt)) refused = beside refused.library refused.failed
    commit_blames old new command (Err (Absent receipt)) refused = beside refused.library refused.failed
    commit_blames old new command (Err Closed) (_, stays, _) = same stays
    commit_blames old new command (Err (Estranged number found)) (_, _, stays, _) = same stays
    commit_blames old new command (Err Full) (_, _, stays, _) = same stays
    commit_blames old new command (Err OutOfMemory) (_, stays, _) = same stays
    commit_blames old new command (Err DiskFault) (_, _, device, stays, _) = one_more command (ap (λ (b : BookView Disk). b.failed) stays) device

    pub look_blames : (old new : MemberView) (asked : Asked) (result : Result Receipt BookFault) → LookAnswers before old asked after_it new result → FailedByDevice D failures after_it
    look_blames old new asked (Ok receipt) (_, library, failed) = beside library failed
    look_blames old new asked (Err (Estranged number found)) (_, stays, _) = same stays
    look_blames old new asked (Err OutOfMemory) (stays, _) = same stays
    look_blames old new asked (Err (Exists receipt)) answers = absurd answers
    look_blames old new asked (Err (Absent receipt)) answers = absurd answers
    look_blames old new asked (Err Full) answers = absurd answers
    look_blames old new asked (Err Closed) answers = absurd answers
    look_blames old new asked (Err DiskFault) answers = absurd answers

    pub compact_blames : (result : Result (Unit {0}) BookFault) → CompactAnswers D.failures before after_it result → FailedByDevice D failures after_it
    compact_blames (Ok done) (_, _, device, is) = as_many (ap (λ (b : BookView Disk). b.failed) is) device
    compact_blames (Err DiskFault) (_, _, device, is) = not_one (ap (λ (b : BookView Disk). b.failed) is) device
    compact_blames (Err Closed) (_, stays) = same stays
    compact_blames (Err Full) (_, _, stays) = same stays
    compact_blames (Err OutOfMemory) (_, stays) = same stays
    compact_blames (Err (Exists receipt)) answers = absurd answers
    compact_blames (Err (Absent receipt)) answers = absurd answers
    compact_blames (Err (Estranged number found)) answers = absurd answers
