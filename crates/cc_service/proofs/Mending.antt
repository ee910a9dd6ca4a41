-- What the client sees of a commit that may compact first.
use Rattle.std.proofs.Common.{◌≡◌, ◌⊎◌, inl, inr, IfOk, IfErr, Result, Ok, Err, sym, subst}
use Rattle.cc_disk.specs.declared.disk.Disk.{Ghosts}
use Rattle.cc_history.specs.Calls.{Command}
use Rattle.cc_history.specs.declared.entry.Receipt.{Receipt}
use Rattle.cc_history.specs.declared.reply.Reply.TheVariants as reply
use Rattle.cc_history.specs.History.{MemberView}
use Rattle.cc_recorded.specs.Book.{BookView}
use Rattle.cc_recorded.specs.Changed.{AllRecover, ChangesAtOnce, IsBookChanged}
use Rattle.cc_recorded.specs.Compacting.{CommitsBehind, CompactingAnswers, IsCompactedFor}
use Rattle.cc_recorded.specs.declared.fault.BookFault.{BookFault}
use Rattle.cc_service.specs.Serving.{IsEntered, IsTurnedDown}
use Rattle.cc_service.proofs.Answering.{entered_where_ok, turned_down_where_err}

module _ {Disk : Type 0} (D : Ghosts Disk) where
  pub compacting_entered : (before after_it : BookView Disk) (old new : MemberView) (command : Command) (result : Result Receipt BookFault) → CompactingAnswers D before old command after_it new result
      → IfOk result (λ receipt. IsEntered (λ c. c ≡ command) old reply.Done new receipt)
  compacting_entered before after_it old new command result answers =
      elim answers [ inl once ↦ entered_where_ok D.failures before old command after_it new result once.0 | inr twice ↦ behind twice.between twice.compacted twice.commits ]
    where
      behind : (between : BookView Disk) (compacted : Result (Unit {0}) BookFault) → CommitsBehind D command between old after_it new compacted result → IfOk result (λ receipt. IsEntered (λ c. c ≡ command) old reply.Done new receipt)
      behind between (Ok done) commits = entered_where_ok D.failures between old command after_it new result commits.0
      behind between (Err fault) commits = subst (λ (r : Result Receipt BookFault). IfOk r (λ receipt. IsEntered (λ c. c ≡ command) old reply.Done new receipt)) (sym commits.0) tt

  pub compacting_turned_down : (before after_it : BookView Disk) (old new : MemberView) (command : Command) (result : Result Receipt BookFault) → CompactingAnswers D before old command after_it new result
      → IfErr result (λ fault. IsTurnedDown (λ c. c ≡ command) old new fault)
  compacting_turned_down before after_it old new command result answers =
      elim answers [ inl once ↦ turned_down_where_err D.failures before old command after_it new result once.0 | inr twice ↦ behind twice.between twice.compacted twice.commits ]
    where
      behind : (between : BookView Disk) (compacted : Result (Unit {0}) BookFault) → CommitsBehind D command between old after_it new compacted result → IfErr result (λ fault. IsTurnedDown (λ c. c ≡ command) old new fault)
      behind between (Ok done) commits = turned_down_where_err D.failures between old command after_it new result commits.0
      behind between (Err fault) commits = subst (λ (r : Result Receipt BookFault). IfErr r (λ f. IsTurnedDown (λ c. c ≡ command) old new f)) (sym commits.0) commits.2

  -- the book is changed as by a plain commit, or after a compaction
  pub changed_or_compacted : (before after_it : BookView Disk) (old new : MemberView) (command : Command) (result : Result Receipt BookFault) → CompactingAnswers D before old command after_it new result
      → ChangesAtOnce D command before after_it → AllRecover D after_it → IsBookChanged D before old command after_it new result ⊎ IsCompactedFor D before old command after_it new result
  changed_or_compacted before after_it old new command result answers moments kept =
      elim answers [ inl once ↦ inl (record { answers = once.0; disk = once.2; moments = moments; kept = kept }) | inr twice ↦ inr twice ]
