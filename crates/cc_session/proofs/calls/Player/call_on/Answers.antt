-- The words are those that the bytes spell, or the bytes are not words.
use Rattle.std.proofs.Common.{List, ℕ, Option, Some, None, Result, inl, inr, refl, sym, ap, subst, ◌≡◌, ◌∙◌, ◌≤◌, ◌<◌, arith, length}
use Rattle.std.proofs.lemmas.Bool.Decides.{nat_tests}
use Rattle.cc_runs.specs.Words.{input_in}
use Rattle.cc_script.specs.declared.fault.ScriptFault.{ScriptFault}
use Rattle.cc_script.specs.declared.fault.ScriptFault.TheVariants.{BadLine}
use Rattle.cc_answers.specs.Telling.{Tells, script_fault_text}
use Rattle.cc_history.specs.History.{MemberView}
use Rattle.cc_service.specs.Serving.{GetAnswers}
use Rattle.cc_session.specs.Playing.{CallsAndWrites, CallsOn, Talk, Writes, talk, words_of}
use Rattle.cc_session.specs.Telling.{SaysRunOn, no_memory_text}
use Rattle.cc_session.specs.internal.Calls.{CallsAndTells, DoesAndTells, DoesOr}
use Rattle.cc_session.proofs.Growing.{get_grows, grows_same}
use Rattle.cc_session.proofs.Obeying.{tells_call, tells_more, tells_only}
use Rattle.cc_session.proofs.calls.Player.call_on.Goals as goal

words_short : (bytes : List ℕ) → length bytes ≤ 65536 → words_of bytes ≡ input_in bytes
words_short bytes short = grind (arith, nat_tests)

words_long : (bytes : List ℕ) → 65536 < length bytes → words_of bytes ≡ None
words_long bytes long = grind (arith, nat_tests)

-- if the bytes are words, the unit is run on these words
on_words : {T : Type 0} (result : Result T ScriptFault) (name : List ℕ) (steps : ℕ) (words : List ℕ) (given : Option (List ℕ)) (old new : Talk) → given ≡ Some words
    → CallsAndTells (GetAnswers name) (SaysRunOn words steps) old new result → DoesAndTells (DoesOr (CallsOn name steps given)) old new result
on_words result name steps words given old new is it =
    subst (λ (w : Option (List ℕ)). DoesAndTells (DoesOr (CallsOn name steps w)) old new result) (sym is)
    (tells_more result (CallsAndWrites (GetAnswers name) (SaysRunOn words steps)) (DoesOr (CallsOn name steps (Some words))) old new (λ n done. inl done)
    (tells_call result (GetAnswers name) (SaysRunOn words steps) old new it))

-- if the bytes are not words, only 50 is written
on_none : {T : Type 0} (result : Result T ScriptFault) (name : List ℕ) (steps : ℕ) (given : Option (List ℕ)) (client : MemberView) (old new : Option (List ℕ)) → given ≡ None
    → Tells old new (script_fault_text BadLine) result → DoesAndTells (DoesOr (CallsOn name steps given)) (talk client old) (talk client new) result
on_none result name steps given client old new is told =
    subst (λ (w : Option (List ℕ)). DoesAndTells (DoesOr (CallsOn name steps w)) (talk client old) (talk client new) result) (sym is)
    (tells_more result (Writes (script_fault_text BadLine)) (DoesOr (CallsOn name steps None)) (talk client old) (talk client new) (λ n done. inl done)
    (tells_only result client old new (script_fault_text BadLine) told))

-- if there was no memory for the words, only 40 is written
on_no_memory : {T : Type 0} (result : Result T ScriptFault) (name : List ℕ) (steps : ℕ) (given : Option (List ℕ)) (client : MemberView) (old new : Option (List ℕ))
    → Tells old new no_memory_text result → DoesAndTells (DoesOr (CallsOn name steps given)) (talk client old) (talk client new) result
on_no_memory result name steps given client old new told =
    tells_more result (Writes no_memory_text) (DoesOr (CallsOn name steps given)) (talk client old) (talk client new) (λ n done. inr done) (tells_only result client old new no_memory_text told)

pub returns-then-input-gt-MOST_INPUT-clause-done : goal.returns-then-input-gt-MOST_INPUT-clause-done
returns-then-input-gt-MOST_INPUT-clause-done g c =
    let W = g.W.Write.contents in
    on_none c.tell_fault.result c.args.name.now c.args.steps (words_of c.args.input.now) c.args.client.now.member (W c.args.answers.now) (W c.tell_fault.new.answers) (words_long c.args.input.now (omega arith)) c.tell_fault.ensures

pub returns-in-Ok-Some-clause-done : goal.returns-in-Ok-Some-clause-done
returns-in-Ok-Some-clause-done g c =
    let W = g.W.Write.contents in
    let are : Some c.in-Ok-Some.words.items ≡ input_in c.args.input.now = rw c.in-Ok-Some.field-0-is at c.in-Ok-Some.ensures in
    on_words c.call_words.result c.args.name.now c.args.steps c.as_slice.result.now (words_of c.args.input.now) (talk c.args.client.now.member (W c.args.answers.now)) (talk c.call_words.new.client.member (W c.call_words.new.answers))
    (words_short c.args.input.now (omega arith) ∙ (sym are ∙ ap (λ (w : List ℕ). Some w) (sym c.as_slice.ensures.value))) c.call_words.ensures

pub returns-in-Ok-Some-clause-grows : goal.returns-in-Ok-Some-clause-grows
returns-in-Ok-Some-clause-grows g c = get_grows c.args.name.now c.args.client.now.member c.call_words.new.client.member c.call_words.ensures.0 c.call_words.ensures.1

pub returns-in-Ok-None-clause-done : goal.returns-in-Ok-None-clause-done
returns-in-Ok-None-clause-done g c =
    let W = g.W.Write.contents in
    let are : ◌≡◌ {A = Option (List ℕ)} None (input_in c.args.input.now) = rw c.in-Ok-None.field-0-is at c.in-Ok-None.ensures in
    on_none c.tell_fault-in-Ok-None.result c.args.name.now c.args.steps (words_of c.args.input.now) c.args.client.now.member (W c.args.answers.now) (W c.tell_fault-in-Ok-None.new.answers)
    (words_short c.args.input.now (omega arith) ∙ sym are) c.tell_fault-in-Ok-None.ensures

pub returns-in-Err-clause-done : goal.returns-in-Err-clause-done
returns-in-Err-clause-done g c =
    let W = g.W.Write.contents in
    on_no_memory c.tell_no_memory.result c.args.name.now c.args.steps (words_of c.args.input.now) c.args.client.now.member (W c.args.answers.now) (W c.tell_no_memory.new.answers) c.tell_no_memory.ensures
