-- What a task writes for what it reads.
use Rattle.std.proofs.Common.{◌≡◌, ◌∙◌, ◌++◌, append-nil, ℕ, Bool, List, [], take, Option, Some, None, Result, Ok, Err, OnOk, refl, sym, ap, subst, inl, inr}
use Rattle.std.specs.Prelude.{◌⊎◌, IfOk, IfErr, IsErrAnd}
use Rattle.std.proofs.KnownBytes.{Appends-kept}
use Rattle.std.specs.Io.KnownBytes.{Appends, Keeps, append_known}
use Rattle.cc_sources.specs.Reading.{IsTextOf}
use Rattle.cc_task.specs.declared.task.Task.{Task}
use Rattle.cc_task.specs.declared.task.Task.TheVariants as asked
use Rattle.cc_tasks.specs.Answer.{Answers, IsRefused}
use Rattle.cc_tasks.specs.Written.{IsAnswered, IsTurnedDown, IsPerformed, Writes, answer_status, answer_text, fault_text}
use Rattle.cc_tasks.specs.internal.Working.{Flushes, RefusesBy, IsAnsweredFor, IsRefusedFor, HasNoAnswer, TellsOf, IsDoneFor, is_told, matter_status, status_of, written_of}
use Rattle.cc_tasks.specs.declared.answer.Answer.{Answer}
use Rattle.cc_tasks.specs.declared.explain.Matter.{Matter}
use Rattle.cc_tasks.specs.declared.fault.Fault.{Fault}
use Rattle.cc_tasks.specs.declared.fault.Fault.TheVariants.{Text, Meaning, Piece, Link, UnknownFunction, OutOfMemory, Read, Write}

-- if a text was appended and the writer was then flushed, the text is written
pub written : {T E U : Type 0} (write : Result T E) (answer : Result U Fault) (a b c : Option (List ℕ)) (text : List ℕ) → OnOk write (Appends a b text) → Flushes write b c answer → Writes a c text answer
written (Ok done) (Ok sent) a b c text one two = Appends-kept a b c text one two
written (Err e) (Ok sent) a b c text one two = absurd two
written (Ok done) (Err fault) a b c text one two = two
written (Err e) (Err fault) a b c text one two = two

-- if a fault's line was appended and the writer was then flushed, the fault is reported
pub refused_by : {T E U : Type 0} (write : Result T E) (done : U) (a b c : Option (List ℕ)) (fault : Fault) (text : List ℕ)
    → OnOk write (Appends a b (fault_text text fault)) → Flushes write b c (let r : Result U Fault = Ok done in r) → RefusesBy fault text a c fault
refused_by (Ok d) done a b c fault text one two = inr (refl, Appends-kept a b c _ one two)
refused_by (Err e) done a b c fault text one two = absurd two

-- if the text of a task's answer was written, what `tell` promises holds
pub told_answer : (answer : Result Matter Fault) (task : Task) (text : List ℕ) (a b : Option (List ℕ)) (it : Answer) → Answers task text it → Writes a b (answer_text it) answer → IfOk answer (λ m. matter_status m ≡ answer_status it)
    → TellsOf task text a b answer
told_answer (Ok matter) task text a b it is written same = (record { answer = it; answers = is; written = written }, same)
told_answer (Err fault) task text a b it is written same = inl written

-- if a text has a fault and its line was written, the text is refused with that fault
pub told_fault : (task : Task) (text : List ℕ) (a b : Option (List ℕ)) (fault told : Fault) → IsRefused task text fault → RefusesBy fault text a b told → IsRefusedFor task text a b told
told_fault task text a b fault told why (inl unwritten) = inl unwritten
told_fault task text a b fault told why (inr by) = inr (subst (λ (f : Fault). IsRefused task text f × Appends a b (fault_text text f)) (sym by.0) (why, by.1))

-- the text of a reader if it is known, else the empty text
text_of : Option (List ℕ) → List ℕ
text_of None = []
text_of (Some bytes) = take 65537 bytes

is_text_of : (input : Option (List ℕ)) → IsTextOf input (text_of input)
unfolding text_of
is_text_of None = tt
is_text_of (Some bytes) = refl

-- every task may be refused for lack of memory
lacks_memory : (task : Task) (text : List ℕ) → IsRefused task text OutOfMemory
lacks_memory asked.Check text = tt
lacks_memory (asked.Interpret steps words) text = tt
lacks_memory (asked.Run kind steps words) text = tt
lacks_memory (asked.InterpretCounted steps words) text = tt
lacks_memory (asked.RunCounted kind steps words) text = tt
lacks_memory (asked.InterpretObserved steps words) text = tt
lacks_memory (asked.RunObserved kind steps words) text = tt
lacks_memory (asked.InterpretWithin steps most words) text = tt
lacks_memory (asked.RunWithin kind steps most words) text = tt
lacks_memory (asked.Asm kind) text = tt
lacks_memory (asked.Image kind) text = tt
lacks_memory (asked.Size kind) text = tt
lacks_memory (asked.SizedImage kind) text = tt
lacks_memory asked.Safe text = tt

-- if a text could not be read, and the fault's line was written, no task has an answer
pub unread : (input a b : Option (List ℕ)) (fault told : Fault) → (fault ≡ Read) ⊎ (fault ≡ OutOfMemory) → RefusesBy fault [] a b told → (task : Task) → HasNoAnswer task input a b told
unread input a b fault told why (inl unwritten) task = inl unwritten
unread input a b fault told (inl is) (inr by) task = inr (inl (by.0 ∙ is, subst (λ (f : Fault). Appends a b (fault_text [] f)) is by.1))
unread input a b fault told (inr is) (inr by) task = inr (inr (subst (λ (f : Fault). IsTurnedDown task input a b f) (sym (by.0 ∙ is)) (record {
  text = text_of input;
  read = is_text_of input;
  refused = lacks_memory task (text_of input);
  written = subst (λ (f : Fault). Appends a b (fault_text [] f)) is by.1;
})))

-- if memory ran out before there was a text, the task ended with that fault
pub undone : (answer : Result Matter Fault) (task : Task) (input a b : Option (List ℕ)) → IsErrAnd answer (λ told. RefusesBy OutOfMemory [] a b told) → IsDoneFor task input a b answer
undone (Ok did) task input a b by = absurd by
undone (Err told) task input a b by = unread input a b OutOfMemory told (inr refl) by task

-- if a task was done for the text that was read, it was done for the reader's text
pub done : (answer : Result Matter Fault) (task : Task) (input a b c : Option (List ℕ)) (text : List ℕ) → IsTextOf input text → b ≡ a → TellsOf task text b c answer → IsDoneFor task input a c answer
done (Ok matter) task input a b c text read same told =
    (record { text = text; read = read; answer = told.0.answer; answers = told.0.answers; written = subst (λ (o : Option (List ℕ)). Appends o c (answer_text told.0.answer)) same told.0.written }, told.1)
done (Err fault) task input a b c text read same (inl unwritten) = inl unwritten
done (Err fault) task input a b c text read same (inr by) =
    inr (inr (record { text = text; read = read; refused = by.0; written = subst (λ (o : Option (List ℕ)). Appends o c (fault_text text fault)) same by.1 }))

-- if a writer's bytes followed by those of an empty buffer are what was known, the writer's bytes alone are
kept_alone : (a b : Option (List ℕ)) (bs : List ℕ) → Keeps a (append_known b bs) → bs ≡ [] → Keeps a b
kept_alone None b bs same none = tt
kept_alone (Some x) None bs same none = absurd same
kept_alone (Some x) (Some y) bs same none = sym (append-nil y) ∙ ap (λ (l : List ℕ). y ++ l) (sym none) ∙ same

-- what was done over a buffer is done over its writer, once the buffer is empty
pub emptied : (answer : Result Matter Fault) (task : Task) (input a b c : Option (List ℕ)) (bs : List ℕ) → Keeps b (append_known c bs) → bs ≡ [] → IsDoneFor task input a b answer → IsDoneFor task input a c answer
emptied (Ok matter) task input a b c bs kept none it = (
  record {
    text = it.0.text;
    read = it.0.read;
    answer = it.0.answer;
    answers = it.0.answers;
    written = Appends-kept a b c (answer_text it.0.answer) it.0.written (kept_alone b c bs kept none);
  },
  it.1,
)
emptied (Err fault) task input a b c bs kept none (inl unwritten) = inl unwritten
emptied (Err fault) task input a b c bs kept none (inr (inl is)) = inr (inl (is.0, Appends-kept a b c (fault_text [] Read) is.1 (kept_alone b c bs kept none)))
emptied (Err fault) task input a b c bs kept none (inr (inr is)) = inr (inr (record {
  text = is.text;
  read = is.read;
  refused = is.refused;
  written = Appends-kept a b c (fault_text is.text fault) is.written (kept_alone b c bs kept none);
}))

-- an empty buffer adds nothing to what its writer holds
nothing_more : (a : Option (List ℕ)) (bs : List ℕ) → bs ≡ [] → append_known a bs ≡ a
nothing_more None bs none = refl
nothing_more (Some x) bs none = ap Some (ap (λ (l : List ℕ). x ++ l) none ∙ append-nil x)

-- what was done over a new buffer is done for what its writer held
pub from_new : (answer : Result Matter Fault) (task : Task) (input a b : Option (List ℕ)) (bs : List ℕ) → bs ≡ [] → IsDoneFor task input (append_known a bs) b answer → IsDoneFor task input a b answer
from_new answer task input a b bs none it = subst (λ (o : Option (List ℕ)). IsDoneFor task input o b answer) (nothing_more a bs none) it

-- if a task has no answer, and its status is 1, then it was performed with that status
of_fault : (task : Task) (input a b : Option (List ℕ)) (status : ℕ) (fault : Fault) → HasNoAnswer task input a b fault → status ≡ 1 → IsPerformed task input a b status (is_told fault)
of_fault task input a b status Write is it = it
of_fault task input a b status (Text f) (inl e) it = absurd (cc)
of_fault task input a b status (Text f) (inr is) it = inr (it, (Text f, is))
of_fault task input a b status (Meaning f) (inl e) it = absurd (cc)
of_fault task input a b status (Meaning f) (inr is) it = inr (it, (Meaning f, is))
of_fault task input a b status (Piece f) (inl e) it = absurd (cc)
of_fault task input a b status (Piece f) (inr is) it = inr (it, (Piece f, is))
of_fault task input a b status (Link f) (inl e) it = absurd (cc)
of_fault task input a b status (Link f) (inr is) it = inr (it, (Link f, is))
of_fault task input a b status UnknownFunction (inl e) it = absurd (cc)
of_fault task input a b status UnknownFunction (inr is) it = inr (it, (UnknownFunction, is))
of_fault task input a b status OutOfMemory (inl e) it = absurd (cc)
of_fault task input a b status OutOfMemory (inr is) it = inr (it, (OutOfMemory, is))
of_fault task input a b status Read (inl e) it = absurd (cc)
of_fault task input a b status Read (inr is) it = inr (it, (Read, is))

-- a task that was done was performed, with that status, and with all written if `written` says so
pub performed : (answer : Result Matter Fault) (task : Task) (input a b : Option (List ℕ)) (status : ℕ) (written : Bool) → IsDoneFor task input a b answer → status ≡ status_of answer → written ≡ written_of answer
    → IsPerformed task input a b status written
performed (Ok matter) task input a b status written is it whole = subst (λ (w : Bool). IsPerformed task input a b status w) (sym whole) (inl (is.0, it ∙ is.1))
performed (Err fault) task input a b status written is it whole = subst (λ (w : Bool). IsPerformed task input a b status w) (sym whole) (of_fault task input a b status fault is it)
