-- A commit after a compaction: the book in between is what the compaction leaves, so 34 does not come.
use Rattle.std.proofs.Common.{◌≡◌, ◌≢◌, inl, inr, ℕ, ◌<◌, ◌≤◌, Bool, IsTrue, List, [], ◌∷◌, ◌++◌, Result, Ok, Err, refl, sym, ap, ◌∙◌, subst, arith, append_assoc}
use Rattle.cc_disk.specs.declared.disk.Disk.{Ghosts}
use Rattle.cc_library.specs.Change.{LibraryCommand}
use Rattle.cc_library.specs.Answers.{IsMended, room_with}
use Rattle.cc_library.specs.Compact.{room_compacted}
use Rattle.cc_history.specs.declared.entry.Receipt.{Receipt}
use Rattle.cc_history.specs.Calls.{Command}
use Rattle.cc_history.specs.History.{MemberView, LastStands}
use Rattle.cc_recorded.specs.Answers.{CommitAnswers, CompactAnswers}
use Rattle.cc_recorded.specs.Book.{BookView}
use Rattle.cc_recorded.specs.Compacting.{CompactingAnswers}
use Rattle.cc_recorded.specs.Disk.{ChangesDisk, CompactsDisk}
use Rattle.cc_recorded.specs.declared.fault.BookFault.{BookFault}
use Rattle.cc_recorded.specs.declared.fault.BookFault.TheVariants.{Full}

not_within : (n m : ℕ) → (n ≤ m → ⊥) → m < n
not_within n m not = omega (arith, not)

module _ {Disk : Type 0} (D : Ghosts Disk) where
  -- ---- without a compaction

  -- if a commit answers 34, and a compaction would not change that, the record would not fit even after a
  -- compaction
  no_room : (before after_it : BookView Disk) (old new : MemberView) (command : Command) → (IsMended before.library command → ⊥) → CommitAnswers D.failures before old command after_it new (Err Full) → before.library.area < room_compacted before.library.units command
  no_room before after_it old new command not answers =
      not_within (room_compacted before.library.units command) before.library.area (λ fits. not ((answers.0.idle, answers.0.accepted), answers.1, fits))

  pub commits_at_once : (before after_it : BookView Disk) (old new : MemberView) (command : Command) (result : Result Receipt BookFault) → (IsMended before.library command → ⊥)
      → CommitAnswers D.failures before old command after_it new result → (IsTrue D.honest → ChangesDisk D command before.library after_it.library result)
      → CompactingAnswers D before old command after_it new result
  commits_at_once before after_it old new command result not answers disk =
      inl (answers, λ is. no_room before after_it old new command not (subst (λ (r : Result Receipt BookFault). CommitAnswers D.failures before old command after_it new r) is answers), disk)

  -- ---- after a compaction

  -- the record fits after the compaction
  fits_behind : (before between : BookView Disk) (change : LibraryCommand) → IsMended before.library change → CompactAnswers {T = Unit {0}} D.failures before between (Ok tt) → room_with between.library change ≤ between.library.area
  fits_behind before between change mended (_, _, _, is) = subst (λ (b : BookView Disk). room_with b.library change ≤ b.library.area) (sym is) mended.2

  not_full : (between after_it : BookView Disk) (old new : MemberView) (command : Command) (result : Result Receipt BookFault) → room_with between.library command ≤ between.library.area
      → CommitAnswers D.failures between old command after_it new result → result ≢ Err Full
  not_full between after_it old new command result fits answers is =
      let full = subst (λ (r : Result Receipt BookFault). CommitAnswers D.failures between old command after_it new r) is answers in
      omega (arith, fits, full.1)

  pub commits_behind : (before between after_it : BookView Disk) (old new : MemberView) (command : Command) (result : Result Receipt BookFault) → IsMended before.library command → LastStands before.history old.receipts
      → CompactAnswers {T = Unit {0}} D.failures before between (Ok tt) → (IsTrue D.honest → CompactsDisk {T = Unit {0}} D before.library between.library (Ok tt))
      → CommitAnswers D.failures between old command after_it new result → (IsTrue D.honest → ChangesDisk D command between.library after_it.library result)
      → CompactingAnswers D before old command after_it new result
  commits_behind before between after_it old new command result mended stands compacted rewritten answers disk =
      inr (record {
        mended = mended;
        stands = stands;
        compacted = Ok tt;
        between = between;
        answers = compacted;
        rewritten = rewritten;
        commits = (answers, not_full between after_it old new command result (fits_behind before between command mended compacted) answers, disk);
      })

  -- if the compaction is refused, a commit that may compact first answers 34
  pub not_compacted : (before after_it : BookView Disk) (client : MemberView) (command : Command) (fault : BookFault) → IsMended before.library command → LastStands before.history client.receipts
      → CompactAnswers {T = Unit {0}} D.failures before after_it (Err fault) → (IsTrue D.honest → CompactsDisk {T = Unit {0}} D before.library after_it.library (Err fault))
      → CompactingAnswers D before client command after_it client (Err Full)
  not_compacted before after_it client command fault mended stands refused rewritten =
      inr (record { mended = mended; stands = stands; compacted = Err fault; between = after_it; answers = refused; rewritten = rewritten; commits = (refl, refl, refl) })

-- ---- the earlier books

pub noted_twice : {A : Type 0} (since one two : List A) (between after_it : A) → one ≡ since ++ between ∷ [] → two ≡ one ++ after_it ∷ [] → two ≡ since ++ (between ∷ [] ++ after_it ∷ [])
noted_twice since one two between after_it first second = second ∙ ap (λ (l : List _). l ++ after_it ∷ []) first ∙ append_assoc since (between ∷ []) (after_it ∷ [])
