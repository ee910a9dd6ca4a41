-- A line with bytes after it is a step.
use Rattle.std.proofs.Common.{◌≡◌, ◌∙◌, ℕ, List, [], ◌∷◌, ◌++◌, Option, Some, None, Result, Ok, Err, Vec, Global, refl, sym, subst, arith, inl, inr}
use Rattle.std.specs.Prelude.{◌⊎◌, ◌≢◌, IfErr, IfSome, OnOk, length, take}
use Rattle.std.specs.Io.KnownBytes.{Appends}
use Rattle.std.proofs.lemmas.List.Elements.{All-cons, All-nil}
use Rattle.cc_answers.specs.Telling.{Tells, script_fault_text}
use Rattle.cc_script.specs.Reading.{Ahead, Between, IsLine, IsNotRead, IsNoSource}
use Rattle.cc_script.specs.declared.fault.ScriptFault.{ScriptFault}
use Rattle.cc_script.specs.declared.fault.ScriptFault.TheVariants.{BadLine, EndOfScript, ScriptTooLong, ReadFault, WriteFault, Stopped}
use Rattle.cc_c_semantics.specs.declared.mode.Mode.{Mode}
use Rattle.cc_history.specs.declared.entry.Receipt.{Receipt}
use Rattle.cc_history.specs.History.{MemberView}
use Rattle.cc_service.specs.Serving.{PutAnswers, Puts}
use Rattle.cc_service.specs.Updating.{UpdateAnswers}
use Rattle.cc_service.specs.declared.fault.ServiceFault.{ServiceFault}
use Rattle.cc_service.specs.declared.fault.ServiceFault.TheVariants.{OutOfMemory, WorkersGone}
use Rattle.cc_service.specs.declared.service.Put.{Put}
use Rattle.cc_session.specs.Playing.{CallsAndWrites, IsBegun, IsSentTo, IsSentTwice, IsShortOfTwo, IsUnended, IsUnendedOfTwo, Talk, Writes, talk}
use Rattle.cc_session.specs.Telling.{SaysChange, no_memory_text}
use Rattle.cc_session.specs.internal.Calls.{CallsAndTells, DoesAndTells, DoesOr, UpdatesIf}
use Rattle.cc_session.specs.internal.Steps.{HasSent, IsDone, IsNotDone, IsShortOf}
use Rattle.cc_session.specs.declared.reading.Sent.TheVariants.{NoRoom, Source, Unended}
use Rattle.cc_session.proofs.Playing.{between_map, between_then, done_of, known_by, known_map, known_then, line_behind, more_before, skipped}

-- ---- one source

sent_as : (Does : List ℕ → Talk → Talk → Type 0) (bytes : Vec ℕ Global) (sent : List ℕ) → sent ≡ bytes.items → (count : ℕ) (b a : List ℕ) (old new : Talk) → HasSent b count (Source bytes) a
    → DoesOr (Does sent) old new → IsSentTo Does count b a old new
sent_as Does bytes sent same count b a old new has it = record {
  source = has.0;
  rest = has.1;
  prefix = has.2;
  count_is = has.3;
  called = inl (has.4, subst (λ (k : List ℕ). Does k old new ⊎ Writes no_memory_text old new) (same ∙ has.5) it);
}

-- if the bytes that were sent were handed to `Does`, the line's step was done
pub sent_step : {T : Type 0} (answer : Result T ScriptFault) (Does : List ℕ → Talk → Talk → Type 0) (bytes : Vec ℕ Global) (sent : List ℕ) → sent ≡ bytes.items
    → (count : ℕ) (x y : Ahead) (old new : Talk) → Between x y (λ b a. HasSent b count (Source bytes) a) → DoesAndTells (DoesOr (Does sent)) old new answer
    → IsDone (λ b a o n. IsSentTo Does count b a o n) (IsShortOf count) (IsUnended count) x y old new answer
sent_step (Ok done) Does bytes sent same count x y old new read it =
    between_map x y (λ b a. HasSent b count (Source bytes) a) (λ b a. IsSentTo Does count b a old new) read (λ b a has. sent_as Does bytes sent same count b a old new has it)
sent_step (Err fault) Does bytes sent same count x y old new read it =
    subst (λ (f : ScriptFault). IsNotDone (λ b a o n. IsSentTo Does count b a o n) (IsShortOf count) (IsUnended count) x old new f) (sym it.0)
    (known_by x y (λ b a. HasSent b count (Source bytes) a) (λ b. (new.client ≡ old.client) ⊎ ((a : List ℕ) × (w : Option (List ℕ)) × IsSentTo Does count b a old (talk new.client w))) read
    (λ b a has. inr (a, it.1, sent_as Does bytes sent same count b a old (talk new.client it.1) has it.2)))

-- if the bytes that were sent are followed by something other than a newline, the step only writes 50
pub skip_step : {T : Type 0} (answer : Result T ScriptFault) (Does : List ℕ → Talk → Talk → Type 0) (count : ℕ) (x y z : Ahead) (left : ℕ) (old new : Talk)
    → new.client ≡ old.client → Between x y (λ b a. HasSent b count Unended a) → OnOk answer (Between y z (λ b a. (rest : List ℕ) × IsLine b rest a))
    → OnOk answer (Appends old.written new.written (script_fault_text BadLine))
    → IfErr answer (λ fault. (fault ≡ WriteFault) ⊎ (Appends old.written new.written (script_fault_text BadLine) × IsNotRead y left fault))
    → IsDone (λ b a o n. IsSentTo Does count b a o n) (IsShortOf count) (IsUnended count) x z old new answer
skip_step answer Does count x y z left old new same read skips wrote why =
    skipped answer (λ b a o n. IsSentTo Does count b a o n) (IsShortOf count) (IsUnended count) x y z left old new (λ b a. HasSent b count Unended a) same read skips wrote why
    (λ b m it. (it.0, it.1, m, it.2, it.3, it.4)) (λ b m a it line writes. record {
      source = it.0;
      rest = it.1 ∷ m;
      prefix = it.2;
      count_is = it.3;
      called = inr (
        (it.1 ∷ []) ++ line.0,
        omega arith,
        line_behind (it.1 ∷ m) (it.1 ∷ []) m line.0 a refl (All-cons (λ (byte : ℕ). byte ≢ 10) it.1 [] it.4 (All-nil (λ (byte : ℕ). byte ≢ 10))) line.1,
        writes,
      );
    })

-- if there was no room for the bytes that were sent, the step only writes 40
pub unsent_step : {T : Type 0} (answer : Result T ScriptFault) (Does : List ℕ → Talk → Talk → Type 0) (count : ℕ) (x y : Ahead) (old new : Talk)
    → new.client ≡ old.client → Between x y (λ b a. HasSent b count NoRoom a) → Tells old.written new.written no_memory_text answer
    → IsDone (λ b a o n. IsSentTo Does count b a o n) (IsShortOf count) (IsUnended count) x y old new answer
unsent_step answer Does count x y old new same read told =
    done_of answer (λ b a o n. IsSentTo Does count b a o n) (IsShortOf count) (IsUnended count) x y old new no_memory_text told (λ written wrote.
    between_map x y (λ b a. HasSent b count NoRoom a) (λ b a. IsSentTo Does count b a old (talk new.client written)) read (λ b a it. record {
      source = it.0;
      rest = it.1;
      prefix = it.2;
      count_is = it.3;
      called = inl (it.4, inr (same, wrote));
    }))

-- if the bytes were read, but there was no room for another source, the step only writes 40
pub unasked_step : {T : Type 0} (answer : Result T ScriptFault) (Does : List ℕ → Talk → Talk → Type 0) (bytes : Vec ℕ Global) (count : ℕ) (x y : Ahead) (old new : Talk)
    → new.client ≡ old.client → Between x y (λ b a. HasSent b count (Source bytes) a) → Tells old.written new.written no_memory_text answer
    → IsDone (λ b a o n. IsSentTo Does count b a o n) (IsShortOf count) (IsUnended count) x y old new answer
unasked_step answer Does bytes count x y old new same read told =
    unsent_step answer Does count x y old new same
    (between_map x y (λ b a. HasSent b count (Source bytes) a) (λ b a. HasSent b count NoRoom a) read (λ b a it. (it.0, it.1, it.2, it.3, it.4))) told

-- ---- one source after another

begun_before : (x y : Ahead) (One : List ℕ → List ℕ → Type 0) (Bad First : List ℕ → Type 0) (old new : Talk) → Between x y One → ((b m : List ℕ) → One b m → Bad m → First b)
    → IsBegun (IfSome y.rest Bad) old new → IsBegun (IfSome x.rest First) old new
begun_before x y One Bad First old new read on (inl same) = inl same
begun_before x y One Bad First old new read on (inr it) = inr (known_then x y One Bad First read it.0 on, it.1)

-- if a step was done after a part that was read, the two are one step
pub done_then : {T : Type 0} (answer : Result T ScriptFault) (One : List ℕ → List ℕ → Type 0) (Does : List ℕ → List ℕ → Talk → Talk → Type 0) (Short Bad : List ℕ → Type 0)
    (Whole : List ℕ → List ℕ → Talk → Talk → Type 0) (ShortWhole BadWhole : List ℕ → Type 0) (x y z : Ahead) (old new : Talk) → Between x y One → IsDone Does Short Bad y z old new answer
    → ((b m a : List ℕ) (n : Talk) → One b m → Does m a old n → Whole b a old n) → ((b m : List ℕ) → One b m → Short m → ShortWhole b) → ((b m : List ℕ) → One b m → Bad m → BadWhole b)
    → IsDone Whole ShortWhole BadWhole x z old new answer
done_then (Ok done) One Does Short Bad Whole ShortWhole BadWhole x y z old new read it on short bad =
    between_then x y z One (λ b a. Does b a old new) (λ b a. Whole b a old new) read it (λ b m a one two. on b m a new one two)
done_then (Err BadLine) One Does Short Bad Whole ShortWhole BadWhole x y z old new read it on short bad = absurd it
done_then (Err EndOfScript) One Does Short Bad Whole ShortWhole BadWhole x y z old new read it on short bad = (it.0, known_then x y One Short ShortWhole read it.1 short)
done_then (Err ScriptTooLong) One Does Short Bad Whole ShortWhole BadWhole x y z old new read it on short bad =
    (begun_before x y One Bad BadWhole old new read bad it.0, more_before x y One read it.1)
done_then (Err ReadFault) One Does Short Bad Whole ShortWhole BadWhole x y z old new read it on short bad = begun_before x y One Bad BadWhole old new read bad it
done_then (Err WriteFault) One Does Short Bad Whole ShortWhole BadWhole x y z old new read it on short bad =
    known_then x y One (λ b. (new.client ≡ old.client) ⊎ ((a : List ℕ) × (w : Option (List ℕ)) × Does b a old (talk new.client w)))
    (λ b. (new.client ≡ old.client) ⊎ ((a : List ℕ) × (w : Option (List ℕ)) × Whole b a old (talk new.client w))) read it
    (λ b m one it. elim it [ inl same ↦ inl same | inr done ↦ inr (done.0, done.1, on b m done.0 (talk new.client done.1) one done.2) ])
done_then (Err Stopped) One Does Short Bad Whole ShortWhole BadWhole x y z old new read it on short bad = absurd it

sent_map : (First Second : List ℕ → Talk → Talk → Type 0) (count : ℕ) (b a : List ℕ) (old new : Talk) → ((s : List ℕ) → First s old new → Second s old new) → IsSentTo First count b a old new
    → IsSentTo Second count b a old new
sent_map First Second count b a old new on it = record {
  source = it.source;
  rest = it.rest;
  prefix = it.prefix;
  count_is = it.count_is;
  called = elim it.called [
    | inl sent ↦ inl (sent.0, elim sent.1 [ inl done ↦ inl (on (take 65537 it.source) done) | inr none ↦ inr none ])
    | inr other ↦ inr other
  ];
}

updates_as : (mode : Mode) (name expected : List ℕ) (given : Option (List ℕ)) (source : List ℕ) (old new : Talk) → IfSome given (λ e. e ≡ take 65537 expected) → UpdatesIf mode name given source old new
    → CallsAndWrites (UpdateAnswers mode name (take 65537 expected) source) (SaysChange source) old new
updates_as mode name expected (Some e) source old new is it = subst (λ (k : List ℕ). CallsAndWrites (UpdateAnswers mode name k source) (SaysChange source) old new) is it
updates_as mode name expected None source old new is it = absurd it

-- if both sources of an update were read, and the second was handed on with the first (if there was room for that), both
-- were sent
sent_twice : (mode : Mode) (name expected rest between : List ℕ) (many count : ℕ) (given : Option (List ℕ)) (b a : List ℕ) (old new : Talk) → b ≡ expected ++ rest → length expected ≡ many
    → IsLine rest [] between → IfSome given (λ e. e ≡ take 65537 expected) → IsSentTo (λ source o n. UpdatesIf mode name given source o n) count between a old new
    → IsSentTwice mode name many count b a old new
sent_twice mode name expected rest between many count given b a old new prefix counted line is it = record {
  expected = expected;
  rest = rest;
  prefix = prefix;
  count_is = counted;
  called = inl (
    between,
    line,
    sent_map (λ source o n. UpdatesIf mode name given source o n) (λ source o n. CallsAndWrites (UpdateAnswers mode name (take 65537 expected) source) (SaysChange source) o n) count between a old new
        (λ source done. updates_as mode name expected given source old new is done) it,
  );
}

pub twice_step : (mode : Mode) → {T : Type 0} (answer : Result T ScriptFault) (name : List ℕ) (bytes : Vec ℕ Global) (sent : List ℕ) → sent ≡ bytes.items → (many count : ℕ) (x y z : Ahead) (old new : Talk)
    → Between x y (λ b a. HasSent b many (Source bytes) a)
    → IsDone (λ b a o n. IsSentTo (λ source p q. UpdatesIf mode name (Some sent) source p q) count b a o n) (IsShortOf count) (IsUnended count) y z old new answer
    → IsDone (λ b a o n. IsSentTwice mode name many count b a o n) (IsShortOfTwo many count) (IsUnendedOfTwo many count) x z old new answer
twice_step mode answer name bytes sent same many count x y z old new read it =
    done_then answer (λ b a. HasSent b many (Source bytes) a) (λ b a o n. IsSentTo (λ source p q. UpdatesIf mode name (Some sent) source p q) count b a o n) (IsShortOf count) (IsUnended count)
    (λ b a o n. IsSentTwice mode name many count b a o n) (IsShortOfTwo many count) (IsUnendedOfTwo many count) x y z old new read it
    (λ b m a n one two. sent_twice mode name one.0 one.1 m many count (Some sent) b a old n one.2 one.3 one.4 (same ∙ one.5) two)
    (λ b m one two. inr (one.0, one.1, m, one.2, one.3, one.4, two)) (λ b m one two. inr (one.0, one.1, m, one.2, one.3, one.4, two))

-- if there was no room for the first source of an update, the step was done once the second was read
pub twice_unasked : (mode : Mode) → {T : Type 0} (answer : Result T ScriptFault) (name : List ℕ) (many count : ℕ) (x y z : Ahead) (old new : Talk) → Between x y (λ b a. HasSent b many NoRoom a)
    → IsDone (λ b a o n. IsSentTo (λ source p q. UpdatesIf mode name None source p q) count b a o n) (IsShortOf count) (IsUnended count) y z old new answer
    → IsDone (λ b a o n. IsSentTwice mode name many count b a o n) (IsShortOfTwo many count) (IsUnendedOfTwo many count) x z old new answer
twice_unasked mode answer name many count x y z old new read it =
    done_then answer (λ b a. HasSent b many NoRoom a) (λ b a o n. IsSentTo (λ source p q. UpdatesIf mode name None source p q) count b a o n) (IsShortOf count) (IsUnended count)
    (λ b a o n. IsSentTwice mode name many count b a o n) (IsShortOfTwo many count) (IsUnendedOfTwo many count) x y z old new read it
    (λ b m a n one two. sent_twice mode name one.0 one.1 m many count None b a old n one.2 one.3 one.4 tt two)
    (λ b m one two. inr (one.0, one.1, m, one.2, one.3, one.4, two)) (λ b m one two. inr (one.0, one.1, m, one.2, one.3, one.4, two))

-- if the first source of an update is followed by something other than a newline, the step only writes 50
pub twice_skip : (mode : Mode) → {T : Type 0} (answer : Result T ScriptFault) (name : List ℕ) (many count : ℕ) (x y z : Ahead) (left : ℕ) (old new : Talk)
    → new.client ≡ old.client → Between x y (λ b a. HasSent b many Unended a) → OnOk answer (Between y z (λ b a. (rest : List ℕ) × IsLine b rest a))
    → OnOk answer (Appends old.written new.written (script_fault_text BadLine))
    → IfErr answer (λ fault. (fault ≡ WriteFault) ⊎ (Appends old.written new.written (script_fault_text BadLine) × IsNotRead y left fault))
    → IsDone (λ b a o n. IsSentTwice mode name many count b a o n) (IsShortOfTwo many count) (IsUnendedOfTwo many count) x z old new answer
twice_skip mode answer name many count x y z left old new same read skips wrote why =
    skipped answer (λ b a o n. IsSentTwice mode name many count b a o n) (IsShortOfTwo many count) (IsUnendedOfTwo many count) x y z left old new (λ b a. HasSent b many Unended a) same read skips wrote why
    (λ b m it. inl (it.0, it.1, m, it.2, it.3, it.4)) (λ b m a it line writes. record {
      expected = it.0;
      rest = it.1 ∷ m;
      prefix = it.2;
      count_is = it.3;
      called = inr (
        (it.1 ∷ []) ++ line.0,
        omega arith,
        line_behind (it.1 ∷ m) (it.1 ∷ []) m line.0 a refl (All-cons (λ (byte : ℕ). byte ≢ 10) it.1 [] it.4 (All-nil (λ (byte : ℕ). byte ≢ 10))) line.1,
        writes,
      );
    })

-- if the first source of an update could not be read, the step was not done
pub twice_unread : (mode : Mode) → (name : List ℕ) (many count : ℕ) (x : Ahead) (left : ℕ) (h : Talk) (fault : ScriptFault) → IsNoSource x many left fault
    → IsNotDone (λ b a o n. IsSentTwice mode name many count b a o n) (IsShortOfTwo many count) (IsUnendedOfTwo many count) x h h fault
twice_unread mode name many count x left h BadLine why = absurd why
twice_unread mode name many count x left h EndOfScript why = (refl, known_map x.rest (IsShortOf many) (IsShortOfTwo many count) why (λ b short. inl short))
twice_unread mode name many count x left h ScriptTooLong why = (inl refl, why.1)
twice_unread mode name many count x left h ReadFault why = inl refl
twice_unread mode name many count x left h WriteFault why = absurd why
twice_unread mode name many count x left h Stopped why = absurd why

-- ---- a unit that is put

-- if a prepared text has the mode and the bytes that were asked for, and the client made no call meanwhile, putting it is
-- putting that source
pub put_as : (put : Put) (name : List ℕ) (its mode : Mode) (text source : List ℕ) (before old new : MemberView) (answer : Result Receipt ServiceFault) → its ≡ mode → text ≡ source → before ≡ old
    → PutAnswers its (Puts put its name text) name text before new answer → PutAnswers mode (Puts put mode name source) name source old new answer
put_as put name its mode text source before old new answer one two three it =
    subst (λ (h : MemberView). PutAnswers mode (Puts put mode name source) name source h new answer) three
    (subst (λ (t : List ℕ). PutAnswers mode (Puts put mode name t) name t before new answer) two (subst (λ (m : Mode). PutAnswers m (Puts put m name text) name text before new answer) one it))

-- if a unit was put, and the client made no call before that, the answer is that of a change
pub put_from : {T : Type 0} (result : Result T ScriptFault) (mode : Mode) (put : Put) (name source : List ℕ) (before old new : MemberView) (one two : Option (List ℕ)) → before ≡ old
    → CallsAndTells (PutAnswers mode (Puts put mode name source) name source) (SaysChange source) (talk before one) (talk new two) result
    → CallsAndTells (PutAnswers mode (Puts put mode name source) name source) (SaysChange source) (talk old one) (talk new two) result
put_from result mode put name source before old new one two same it =
    subst (λ (h : MemberView). CallsAndTells (PutAnswers mode (Puts put mode name source) name source) (SaysChange source) (talk h one) (talk new two) result) same it

-- if a unit was not put because memory was refused or a worker is gone, the client is unchanged
pub put_not : (mode : Mode) (put : Put) (name source : List ℕ) (old new : MemberView) (answer : Result Receipt ServiceFault) → (answer ≡ Err OutOfMemory) ⊎ (answer ≡ Err WorkersGone)
    → PutAnswers mode (Puts put mode name source) name source old new answer → new ≡ old
put_not mode put name source old new answer (inl is) it = (subst (λ (a : Result Receipt ServiceFault). PutAnswers mode (Puts put mode name source) name source old new a) is it).1
put_not mode put name source old new answer (inr is) it = (subst (λ (a : Result Receipt ServiceFault). PutAnswers mode (Puts put mode name source) name source old new a) is it).2
