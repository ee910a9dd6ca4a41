-- A change that was answered is the newest entry of the book that was under the lock, and on its disk.
use Rattle.std.proofs.Common.{◌≡◌, ◌⊎◌, inl, inr, ℕ, ◌+◌, ◌-◌, IfOk, List, [], ◌∷◌, ◌++◌, length, None, Some, Result, Ok, Err, refl, ap, ◌∙◌, subst, arith}
use Rattle.std.specs.Prelude.{cond, slice_get}
use Rattle.std.proofs.lemmas.Bool.{ne_eqb}
use Rattle.cc_disk.specs.declared.disk.Disk.{Ghosts}
use Rattle.cc_library.specs.Change.{LibraryCommand}
use Rattle.cc_library.specs.Apply.{Units}
use Rattle.cc_library.specs.Recovered.{RecoversAlone, View}
use Rattle.cc_history.specs.Calls.{Command}
use Rattle.cc_history.specs.declared.entry.Entry.{Entry}
use Rattle.cc_history.specs.declared.entry.Receipt.{Receipt}
use Rattle.cc_history.specs.History.{MemberView, entry_at}
use Rattle.cc_recorded.specs.Answers.{CommitAnswers}
use Rattle.cc_recorded.specs.Book.{BookView, RecoversTo}
use Rattle.cc_recorded.specs.Changed.{IsBookChanged}
use Rattle.cc_recorded.specs.Compacting.{CommitsBehind, IsCompactedFor}
use Rattle.cc_recorded.specs.Promise.{IsSound}
use Rattle.cc_recorded.specs.declared.fault.BookFault.{BookFault}
use Rattle.cc_service.specs.Stored.{IsStored}

last_at : (history : List Entry) (entry : Entry) → slice_get (history ++ entry ∷ []) (length history) ≡ Some entry
last_at [] entry = refl
last_at (first ∷ history) entry = last_at history entry

pub newest : (history : List Entry) (entry : Entry) → entry_at (history ++ entry ∷ []) (length history + 1) ≡ Some entry
newest history entry =
    let one : length history + 1 - 1 ≡ length history = omega arith in
    (λ i. cond (ne_eqb (length history + 1) 0 (λ e. omega (arith, e)) i) None (slice_get (history ++ entry ∷ []) (one i))) ∙ last_at history entry

module _ {Disk : Type 0} (D : Ghosts Disk) (base : Units) (from : ℕ) (left : List ℕ → Type 0) where
  done_stored : (before after_it : BookView Disk) (old new : MemberView) (command : Command) (receipt : Receipt) → CommitAnswers D.failures before old command after_it new (Ok receipt)
      → IsSound D base from left after_it → IsStored D base from left receipt
  done_stored before after_it old new command receipt answers sound =
      let done = answers.0 in
      let none : after_it.failed ≡ [] = sound.idle (ap (λ (v : View Disk). v.closed) done.library) in
      record {
        book = after_it;
        sound = sound;
        entered = ap (λ (h : List Entry). entry_at h receipt.number) done.recorded.history
            ∙ (ap (λ (n : ℕ). entry_at (before.history ++ receipt.entry ∷ []) n) done.recorded.number ∙ newest before.history receipt.entry);
        images = λ honest image now.
            subst (λ (u : Units). RecoversAlone image u) sound.map
            (subst (λ (f : List LibraryCommand). RecoversTo after_it.library.units f image) none (sound.images honest image now));
      }

  pub stored : (before after_it : BookView Disk) (old new : MemberView) (command : Command) (result : Result Receipt BookFault)
      → IsBookChanged D before old command after_it new result ⊎ IsCompactedFor D before old command after_it new result → IsSound D base from left after_it
      → IfOk result (λ receipt. IsStored D base from left receipt)
  stored before after_it old new command (Ok receipt) (inl changed) sound = done_stored before after_it old new command receipt changed.answers sound
  stored before after_it old new command (Ok receipt) (inr twice) sound = behind twice.between twice.compacted twice.commits
    where
      behind : (between : BookView Disk) (compacted : Result (Unit {0}) BookFault) → CommitsBehind D command between old after_it new compacted (Ok receipt) → IsStored D base from left receipt
      behind between (Ok done) commits = done_stored between after_it old new command receipt commits.0 sound
      behind between (Err fault) commits = absurd (let is = commits.0 in cc)
  stored before after_it old new command (Err fault) changed sound = tt
