-- The records of the journal were on the disk before, since opening only reads the disk, and the disk is
-- honest.
use Rattle.std.proofs.Common.{ℕ, List, refl, ap, subst, ◌∙◌, length, true}
use Rattle.cc_disk.specs.Model.{bytes_of}
use Rattle.cc_disk.specs.internal.Laws.{bytes_are_image}
use Rattle.cc_journal.specs.Format.{HoldsAlone, records}
use Rattle.cc_library.specs.Answers.{ReplayFaults}
use Rattle.cc_library.specs.Recovered.{StandFor}
use Rattle.cc_library.proofs.Opening.{journal_refused, replay_refused}
use Rattle.cc_core.proofs.opening.find.Goals as goal

pub returns-in-Ok-replay-clause-answer : goal.returns-in-Ok-replay-clause-answer
returns-in-Ok-replay-clause-answer c =
    let library = c.in-Ok-replay.library in
    record {
      holds = c.in-Ok.ensures.records refl;
      stand = subst (λ (bs : List (List ℕ)). StandFor bs library) c.records.ensures.records c.in-Ok-replay.ensures.answer;
      used_is = c.bytes_taken-used.ensures ∙ ap (λ (bs : List (List ℕ)). length (records bs)) c.records-in-Ok-replay.ensures.records;
    }

pub returns-in-Err-replay-clause-refused : goal.returns-in-Err-replay-clause-refused
returns-in-Err-replay-clause-refused c =
    let j = c.in-Ok.journal in
    let image = bytes_of c.args.disk.cells in
    let fault = c.in-Err-replay.fault in
    replay_refused true image j.area j.bodies 0 0 fault
    (λ h. subst (λ (l : List ℕ). HoldsAlone l j.area j.bodies) (c.in-Ok.ensures.reads h).same (c.in-Ok.ensures.kept h (bytes_of j.disk.cells) (bytes_are_image j.disk.cells)))
    (subst (λ (bs : List (List ℕ)). ReplayFaults bs fault) c.records.ensures.records c.in-Err-replay.ensures.refused) refl

pub returns-in-Err-clause-refused : goal.returns-in-Err-clause-refused
returns-in-Err-clause-refused c = rw c.from.ensures (journal_refused true (bytes_of c.args.disk.cells) 0 0 c.in-Err.fault c.in-Err.ensures.refused)
