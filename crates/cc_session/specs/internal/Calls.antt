-- What a command of a script does and writes.
use Rattle.std.specs.Prelude.{◌≡◌, ◌⊎◌, ◌<◌, ◌≤◌, ℕ, Bool, true, false, List, [], length, Option, Some, None, IsSome, Result, Ok, Err}
use Rattle.std.specs.Io.KnownBytes.{Appends}
use Rattle.cc_answers.specs.Telling.{Tells}
use Rattle.cc_script.specs.declared.fault.ScriptFault.{ScriptFault}
use Rattle.cc_script.specs.declared.fault.ScriptFault.TheVariants.{WriteFault, Stopped}
use Rattle.cc_history.specs.declared.entry.Receipt.{Receipt}
use Rattle.cc_history.specs.History.{MemberView}
use Rattle.cc_c_semantics.specs.declared.mode.Mode.{Mode}
use Rattle.cc_service.specs.Serving.{GetAnswers}
use Rattle.cc_service.specs.declared.fault.ServiceFault.{ServiceFault}
use Rattle.cc_rv32.specs.Machine.{machine_behavior}
use Rattle.cc_rv32.specs.Simulation.{Simulation}
use Rattle.cc_rv32.specs.declared.image.Image.{Image}
use Rattle.cc_rv32.specs.declared.outcome.MachineOutcome.TheVariants.{Going}
use Rattle.cc_session.specs.declared.patience.RunEnd.{RunEnd}
use Rattle.cc_session.specs.declared.patience.RunEnd.TheVariants as end
use Rattle.cc_service.specs.Updating.{UpdateAnswers}
use Rattle.cc_session.specs.Telling.{IsCutRun, SaysAudit, SaysChange, SaysRunOn, no_memory_text}
use Rattle.cc_session.specs.Playing.{AuditsEach, CallsAndWrites, CutsRun, Talk, Writes, talk}

-- what `Does` says was done, and its text was written; or the text could not be written, 54, and the client is as if it had been written
abbrev pub DoesAndTells : {T : Type 0} → (Does : Talk → Talk → Type 0) (old new : Talk) → Result T ScriptFault → Type 0
DoesAndTells Does old new (Ok done) = Does old new
DoesAndTells Does old new (Err fault) = (fault ≡ WriteFault) × (written : Option (List ℕ)) × Does old (talk new.client written)

-- the client made a call, and the text of the answer was written, or could not be written: 54
abbrev pub CallsAndTells : {T : Type 0} → (Answers : MemberView → MemberView → Result Receipt ServiceFault → Type 0) (Says : Result Receipt ServiceFault → List ℕ → Type 0)
    (old new : Talk) → Result T ScriptFault → Type 0
CallsAndTells Answers Says old new result =
    (answer : Result Receipt ServiceFault) × Answers old.client new.client answer × (text : List ℕ) × Says answer text × Tells old.written new.written text result

-- the line of an audit was written for this answer, and the result is whether the audit says anything; or the line could not be written: 54
abbrev pub TellsAudit : Mode → (name : List ℕ) → Result Receipt ServiceFault → (old new : Option (List ℕ)) → Result Bool ScriptFault → Type 0
TellsAudit mode name answer old new (Ok is_said) = (text : List ℕ) × SaysAudit mode name is_said answer text × Appends old new text
TellsAudit mode name answer old new (Err fault) = fault ≡ WriteFault

-- the unit under a name was fetched and audited
abbrev pub AuditsName : Mode → (name : List ℕ) (old new : Talk) → Result Bool ScriptFault → Type 0
AuditsName mode name old new result = (answer : Result Receipt ServiceFault) × GetAnswers name old.client new.client answer × TellsAudit mode name answer old.written new.written result

-- the units under these names were fetched and audited, up to the first whose audit says nothing
abbrev pub AuditsNames : Mode → (names : List (List ℕ)) (old new : Talk) → Result Bool ScriptFault → Type 0
AuditsNames mode names old new (Ok all) = AuditsEach mode names all old new
AuditsNames mode names old new (Err fault) = (fault ≡ WriteFault) × (written : Option (List ℕ)) × AuditsEach mode names false old (talk new.client written)

-- ---- what is done with the bytes after a line

-- what `Does` says was done, or there was no room for the bytes
abbrev pub DoesOr : (Does : Talk → Talk → Type 0) (old new : Talk) → Type 0
DoesOr Does old new = Does old new ⊎ Writes no_memory_text old new

-- the unit under the name is updated, if there was room for the expected source
abbrev pub UpdatesIf : Mode → (name : List ℕ) → (expected : Option (List ℕ)) → (source : List ℕ) (old new : Talk) → Type 0
UpdatesIf mode name (Some expected) source old new = CallsAndWrites (UpdateAnswers mode name expected source) (SaysChange source) old new
UpdatesIf mode name None source old new = ⊥

-- ---- runs

-- after some of the steps, fewer than `steps`, the image is not at its end
abbrev pub IsGoingOn : Image → (words : List ℕ) (steps : ℕ) → Type 0
IsGoingOn image words steps = (done : ℕ) × (done < steps) × ((machine_behavior image words done).outcome ≡ Going)

-- within the steps the image writes more words than an answer of 16 MiB has room for
abbrev pub IsTooLong : Image → (words : List ℕ) (steps : ℕ) → Type 0
IsTooLong image words steps = (done : ℕ) × (done ≤ steps) × (8388608 < length (machine_behavior image words done).output)

-- how the run of an image on these words came to its end: what the machine has written, and this outcome, are what the image does
-- within the steps; or it was stopped, which is possible only if `may_stop` is true, and the image is not at its end; or it was ended
-- since it writes too much, which is possible only if `is_short` is true
abbrev pub IsRunEnd : (may_stop is_short : Bool) → Image → (words : List ℕ) (steps : ℕ) → Simulation → RunEnd → Type 0
IsRunEnd may_stop is_short image words steps machine (end.Done outcome) = machine_behavior image words steps ≡ record { outcome = outcome; output = machine.output }
IsRunEnd may_stop is_short image words steps machine end.Stopped = (may_stop ≡ true) × IsGoingOn image words steps
IsRunEnd may_stop is_short image words steps machine end.TooLong = (is_short ≡ true) × IsTooLong image words steps

-- the run of the unit that was found was not written: either it was cut off, 61, or it could not be written, 54
abbrev pub TellsRunNot : (most : Option ℕ) (steps : ℕ) → Receipt → (old new : Option (List ℕ)) → ScriptFault → Type 0
TellsRunNot most steps receipt old new Stopped = IsSome most × IsCutRun steps receipt.entry.reply × (new ≡ old)
TellsRunNot most steps receipt old new fault = (fault ≡ WriteFault) × (text : List ℕ) × SaysRunOn [] steps (Ok receipt) text

-- the run was written, if the result is Ok
abbrev pub TellsRun : {T : Type 0} → (most : Option ℕ) (steps : ℕ) → Receipt → (old new : Option (List ℕ)) → Result T ScriptFault → Type 0
TellsRun most steps receipt old new (Ok done) = (text : List ℕ) × SaysRunOn [] steps (Ok receipt) text × Appends old new text
TellsRun most steps receipt old new (Err fault) = TellsRunNot most steps receipt old new fault

-- the unit under the name was fetched, and its run was not written
abbrev pub RunsNot : (most : Option ℕ) (name : List ℕ) (steps : ℕ) (old new : Talk) → ScriptFault → Type 0
RunsNot most name steps old new Stopped = IsSome most × CutsRun name steps old new
RunsNot most name steps old new fault = (fault ≡ WriteFault) × (written : Option (List ℕ)) × CallsAndWrites (GetAnswers name) (SaysRunOn [] steps) old (talk new.client written)

abbrev pub RunsAndTells : {T : Type 0} → (most : Option ℕ) (name : List ℕ) (steps : ℕ) (old new : Talk) → Result T ScriptFault → Type 0
RunsAndTells most name steps old new (Ok done) = CallsAndWrites (GetAnswers name) (SaysRunOn [] steps) old new
RunsAndTells most name steps old new (Err fault) = RunsNot most name steps old new fault
