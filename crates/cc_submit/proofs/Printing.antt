-- What was printed, given what is known about `submit` of `cc_spool` and about the rest of the command.
use Rattle.std.proofs.Common.{◌≡◌, ◌++◌, ◌∷◌, ◌⊎◌, inl, inr, ℕ, Bool, true, false, IsTrue, List, [], Option, None, Some, Result, Ok, Err, Vec, Global, codes, refl, subst, sym, append_assoc}
use Rattle.std.specs.Io.KnownBytes.{Appends}
use Rattle.std.proofs.KnownBytes.{Appends-trans}
use Rattle.cc_spool.specs.Parts.{TellsFault}
use Rattle.cc_spool.specs.Submitted.{HasWrittenIfOk}
use Rattle.cc_spool.specs.declared.submission.Submission.{Submission}
use Rattle.cc_spool.specs.declared.submission.Submission.TheVariants.{Answered, CutShort, Lost, NotTaken, Unread, Unwritten}
use Rattle.cc_submit.specs.Printed.{EndsAs, Prints, Says, SaysRefused, Submits, fetches, is_command}
use Rattle.cc_submit.specs.internal.Finished.{Finishes, FinishesSource, came_of}
use Rattle.cc_submit.specs.internal.Sent.{is_fetch}
use Rattle.cc_submit.specs.declared.submitting.Ended.{Ended}
use Rattle.cc_submit.specs.declared.submitting.Sent.{Sent}
use Rattle.cc_submit.specs.declared.submitting.Sent.TheVariants.{Fetch, Line, Script, Source}

-- if a newline and a line are written after some text, the text, the newline and the line are printed
pub after : (old between new : Option (List ℕ)) (begun line : List ℕ) → Appends old between begun → Appends between new (10 ∷ line) → Appends old new ((begun ++ 10 ∷ []) ++ line)
after old between new begun line was is =
    subst (λ (text : List ℕ). Appends old new text) (sym (append_assoc begun (10 ∷ []) line)) (Appends-trans old between new begun (10 ∷ line) was is)

pub either_after : (old between new : Option (List ℕ)) (begun : List ℕ) → Appends old between begun
    → Appends between new (10 ∷ codes "fault 40 OutOfMemory\n") ⊎ Appends between new (10 ∷ codes "fault 56 FolderFault\n")
    → Appends old new ((begun ++ 10 ∷ []) ++ codes "fault 40 OutOfMemory\n") ⊎ Appends old new ((begun ++ 10 ∷ []) ++ codes "fault 56 FolderFault\n")
either_after old between new begun was (inl no_memory) = inl (after old between new begun (codes "fault 40 OutOfMemory\n") was no_memory)
either_after old between new begun was (inr folder) = inr (after old between new begun (codes "fault 56 FolderFault\n") was folder)

pub refused_after : (old between new : Option (List ℕ)) (begun : List ℕ) (is_written : Bool) → Appends old between begun → SaysRefused is_written between new (10 ∷ [])
    → SaysRefused is_written old new (begun ++ 10 ∷ [])
refused_after old between new begun is_written was says = λ (yes : IsTrue is_written). either_after old between new begun was (says yes)

-- the line for a fault is printed on a line of its own
pub either_in_line : (old between new : Option (List ℕ)) → Appends old between (10 ∷ [])
    → Appends between new (codes "fault 40 OutOfMemory\n") ⊎ Appends between new (codes "fault 56 FolderFault\n")
    → Appends old new (10 ∷ codes "fault 40 OutOfMemory\n") ⊎ Appends old new (10 ∷ codes "fault 56 FolderFault\n")
either_in_line old between new was (inl no_memory) = inl (Appends-trans old between new (10 ∷ []) (codes "fault 40 OutOfMemory\n") was no_memory)
either_in_line old between new was (inr folder) = inr (Appends-trans old between new (10 ∷ []) (codes "fault 56 FolderFault\n") was folder)

pub refused_in_line : (old between new : Option (List ℕ)) (is_written : Bool) → Appends old between (10 ∷ []) → SaysRefused is_written between new []
    → SaysRefused is_written old new (10 ∷ [])
refused_in_line old between new is_written was says = λ (yes : IsTrue is_written). either_in_line old between new was (says yes)

-- if what is handed back is `came`, what was printed for `came` was printed for it
pub handed : (fetches : Bool) (came : Option Submission) (old new : Option (List ℕ)) (ended : Ended) → ended.came ≡ came → Prints fetches came old new ended.is_written ended.status
    → Prints fetches ended.came old new ended.is_written ended.status
handed fetches came old new ended is prints = subst (λ (c : Option Submission). Prints fetches c old new ended.is_written ended.status) (sym is) prints

-- if the answer was kept because it is to be a source, what is printed is what `Prints` says
pub fetched : {E : Type 0} (done : Result Submission E) (answer : List ℕ) (old new : Option (List ℕ)) (ended : Ended) → HasWrittenIfOk (Some []) (Some answer) done
    → FinishesSource answer (came_of done) old new ended → Prints true ended.came old new ended.is_written ended.status
fetched (Ok (Answered None)) answer old new ended was is =
    handed true (Some (Answered None)) old new ended is.came_is (answer, subst (λ (l : List ℕ). ¬ TellsFault l) (sym was.written) was.tells, is.prints)
fetched (Ok (Answered (Some number))) answer old new ended was is =
    handed true (Some (Answered (Some number))) old new ended is.came_is (answer, subst TellsFault (sym was.written) was.tells, is.status_is)
fetched (Ok NotTaken) answer old new ended was is = handed true (Some NotTaken) old new ended is.came_is (is.status_is, is.ends)
fetched (Ok Unread) answer old new ended was is = handed true (Some Unread) old new ended is.came_is (is.status_is, is.ends)
fetched (Ok (Unwritten name)) answer old new ended was is = handed true (Some (Unwritten name)) old new ended is.came_is (is.status_is, is.ends)
fetched (Ok (CutShort name why)) answer old new ended was is = handed true (Some (Lost name why)) old new ended is.came_is (is.status_is, is.ends)
fetched (Ok (Lost name why)) answer old new ended was is = handed true (Some (Lost name why)) old new ended is.came_is (is.status_is, is.ends)
fetched (Err why) answer old new ended was is = handed true None old new ended is.came_is (is.status_is, is.ends)

-- if the writer is unchanged so far, `Finishes` also holds from its earlier contents
pub ended_from : (came : Option Submission) (old between new : Option (List ℕ)) (ended : Ended) → between ≡ old → Finishes came between new ended → Finishes came old new ended
ended_from came old between new ended same is = subst (λ (o : Option (List ℕ)). Finishes came o new ended) same is

pub printed : {E : Type 0} (done : Result Submission E) (old between new : Option (List ℕ)) (ended : Ended) → HasWrittenIfOk old between done
    → Finishes (came_of done) between new ended → Prints false ended.came old new ended.is_written ended.status
printed (Ok (Answered None)) old between new ended was is =
    handed false (Some (Answered None)) old new ended is.came_is (was.answer, was.tells, (is.status_is, subst (λ (o : Option (List ℕ)). Appends old o was.answer) (sym is.ends) was.written))
printed (Ok (Answered (Some number))) old between new ended was is =
    handed false (Some (Answered (Some number))) old new ended is.came_is (was.answer, was.tells, (is.status_is, subst (λ (o : Option (List ℕ)). Appends old o was.answer) (sym is.ends) was.written))
printed (Ok NotTaken) old between new ended was is =
    let from = ended_from (Some NotTaken) old between new ended was is in handed false (Some NotTaken) old new ended from.came_is (from.status_is, from.ends)
printed (Ok Unread) old between new ended was is =
    let from = ended_from (Some Unread) old between new ended was is in handed false (Some Unread) old new ended from.came_is (from.status_is, from.ends)
printed (Ok (Unwritten name)) old between new ended was is = handed false (Some (Unwritten name)) old new ended is.came_is (is.status_is, is.ends)
printed (Ok (CutShort name why)) old between new ended was is =
    handed false (Some (CutShort name why)) old new ended is.came_is (is.status_is, (was.0, refused_after old between new was.0 ended.is_written was.1 is.ends))
printed (Ok (Lost name why)) old between new ended was is =
    let from = ended_from (Some (Lost name why)) old between new ended was is in handed false (Some (Lost name why)) old new ended from.came_is (from.status_is, from.ends)
printed (Err why) old between new ended was is =
    let from = ended_from None old between new ended was is in handed false None old new ended from.came_is (from.status_is, from.ends)

-- if the source could not be read, and the line for 53 is written, the command ends as `Submits` says
pub unread : (line : Option (List ℕ)) (old new : Option (List ℕ)) (is_written : Bool) → is_command line ≡ true → Says is_written old new (codes "fault 53 ReadFault\n")
    → Submits line old new (record { came = Some Unread; status = 1; is_written = is_written })
unread line old new is_written is says =
    subst (λ (b : Bool). EndsAs b (fetches line) old new (record { came = Some Unread; status = 1; is_written = is_written })) (sym is) (refl, says)

-- if what is sent is not a Fetch, its answer is not to be a source
pub not_fetch : (sent : Sent) → ((bytes : Vec ℕ Global) → sent ≡ Fetch bytes → ⊥) → is_fetch sent ≡ false
not_fetch Script other = refl
not_fetch (Line bytes) other = refl
not_fetch (Fetch bytes) other = absurd (other bytes refl)
not_fetch (Source bytes count origin) other = refl
