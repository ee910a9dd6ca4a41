-- What was called and written is what the line asks for.
use Rattle.std.proofs.Common.{◌≡◌, List, ℕ, Option, Result, Ok, Err, refl, subst}
use Rattle.std.specs.Io.KnownBytes.{append_known}
use Rattle.cc_answers.specs.Telling.{Tells}
use Rattle.cc_script.specs.Line.{ScriptRequest}
use Rattle.cc_script.specs.Reading.{Ahead}
use Rattle.cc_script.specs.declared.fault.ScriptFault.{ScriptFault}
use Rattle.cc_script.specs.declared.fault.ScriptFault.TheVariants.{BadLine, EndOfScript, ScriptTooLong, ReadFault, WriteFault, Stopped}
use Rattle.cc_library.specs.declared.space.SpaceUse.{SpaceUse}
use Rattle.cc_history.specs.declared.entry.Receipt.{Receipt}
use Rattle.cc_history.specs.History.{MemberView}
use Rattle.cc_c_semantics.specs.declared.mode.Mode.{Mode}
use Rattle.cc_service.specs.Space.{SpaceAnswers}
use Rattle.cc_service.specs.declared.fault.ServiceFault.{ServiceFault}
use Rattle.cc_session.specs.Playing.{CallsAndWrites, Compacts, HasUnended, IsCompacted, IsCutShort, Measures, Obeys, Talk, Writes, talk}
use Rattle.cc_session.specs.Telling.{done_text, room_text}
use Rattle.cc_session.specs.internal.Calls.{CallsAndTells, DoesAndTells}
use Rattle.cc_session.specs.internal.Steps.{IsDone, IsObeyed}
use Rattle.cc_session.proofs.Playing.{appended, does_of}

-- if a step was done, its line was obeyed; if the step was not done, the line was not obeyed
obeyed_from : (mode : Mode) → {T : Type 0} (answer : Result T ScriptFault) (most : Option ℕ) (asked : Option ScriptRequest) (x z : Ahead) (old new : Talk)
    → IsDone (λ b a o n. Obeys mode asked b a o n) (λ rest. IsCutShort asked rest) (λ rest. HasUnended asked rest) x z old new answer → IsObeyed mode most asked x z old new answer
obeyed_from mode (Ok done) most asked x z old new it = it
obeyed_from mode (Err BadLine) most asked x z old new it = it
obeyed_from mode (Err EndOfScript) most asked x z old new it = it
obeyed_from mode (Err ScriptTooLong) most asked x z old new it = it
obeyed_from mode (Err ReadFault) most asked x z old new it = it
obeyed_from mode (Err WriteFault) most asked x z old new it = it
obeyed_from mode (Err Stopped) most asked x z old new it = absurd it

-- if a step was for what the line asks for, the line was obeyed exactly if the step was done
pub obeyed_as : (mode : Mode) → {T : Type 0} (most : Option ℕ) (answer : Result T ScriptFault) (asked wanted : Option ScriptRequest) (x z : Ahead) (old new : Talk) → wanted ≡ asked
    → IsDone (λ b a o n. Obeys mode wanted b a o n) (λ rest. IsCutShort wanted rest) (λ rest. HasUnended wanted rest) x z old new answer → IsObeyed mode most asked x z old new answer
obeyed_as mode most answer asked wanted x z old new same it =
    subst (λ (it : Option ScriptRequest). IsObeyed mode most it x z old new answer) same (obeyed_from mode answer most wanted x z old new it)

-- a line without a source was obeyed if its call was made and the answer written
pub called_as : (mode : Mode) → {T : Type 0} (most : Option ℕ) (answer : Result T ScriptFault) (asked wanted : Option ScriptRequest) (x : Ahead) (old new : Talk) (Does : Talk → Talk → Type 0)
    → wanted ≡ asked → DoesAndTells Does old new answer → ((b : List ℕ) (n : Talk) → Does old n → Obeys mode wanted b b old n) → IsObeyed mode most asked x x old new answer
called_as mode most answer asked wanted x old new Does same it gives =
    obeyed_as mode most answer asked wanted x x old new same
    (does_of answer Does (λ b a o n. Obeys mode wanted b a o n) (λ rest. IsCutShort wanted rest) (λ rest. HasUnended wanted rest) x old new it gives)

-- ---- calls whose text is that of an answer

-- a call
pub tells_call : {T : Type 0} (result : Result T ScriptFault) (Answers : MemberView → MemberView → Result Receipt ServiceFault → Type 0) (Says : Result Receipt ServiceFault → List ℕ → Type 0)
    (old new : Talk) → CallsAndTells Answers Says old new result → DoesAndTells (CallsAndWrites Answers Says) old new result
tells_call (Ok done) Answers Says old new it = (it.0, it.1, it.2, it.3, it.4.1)
tells_call (Err fault) Answers Says old new it = (it.4.0, append_known old.written it.2, (it.0, it.1, it.2, it.3, appended old.written it.2))

-- if `First` implies `Second`, and `First` was done and its text written, then `Second` was done and its text
-- written
pub tells_more : {T : Type 0} (result : Result T ScriptFault) (First Second : Talk → Talk → Type 0) (old new : Talk) → ((n : Talk) → First old n → Second old n) → DoesAndTells First old new result
    → DoesAndTells Second old new result
tells_more (Ok done) First Second old new on it = on new it
tells_more (Err fault) First Second old new on it = (it.0, it.1, on (talk new.client it.1) it.2)

-- a text was written, or could not be, without a call
pub tells_only : {T : Type 0} (result : Result T ScriptFault) (client : MemberView) (old new : Option (List ℕ)) (text : List ℕ) → Tells old new text result
    → DoesAndTells (Writes text) (talk client old) (talk client new) result
tells_only (Ok done) client old new text it = (refl, it.1)
tells_only (Err fault) client old new text it = (it.0, append_known old text, (refl, appended old text))

-- if the answer to a compaction was written, or could not be, the line for `compact` was done
pub tells_done : {T : Type 0} (result : Result T ScriptFault) (client : MemberView) (old new : Option (List ℕ)) (answer : Result (Unit {0}) ServiceFault) → IsCompacted answer → Tells old new (done_text answer) result
    → DoesAndTells Compacts (talk client old) (talk client new) result
tells_done (Ok done) client old new answer is it = (answer, is, (refl, it.1))
tells_done (Err fault) client old new answer is it = (it.0, append_known old (done_text answer), (answer, is, (refl, appended old (done_text answer))))

-- if the answer to `space` was written, or could not be, the line for `space` was done
pub tells_room : {T : Type 0} (result : Result T ScriptFault) (client : MemberView) (old new : Option (List ℕ)) (answer : Result SpaceUse ServiceFault) → SpaceAnswers answer → Tells old new (room_text answer) result
    → DoesAndTells Measures (talk client old) (talk client new) result
tells_room (Ok done) client old new answer is it = (answer, is, (refl, it.1))
tells_room (Err fault) client old new answer is it = (it.0, append_known old (room_text answer), (answer, is, (refl, appended old (room_text answer))))
