-- A `run` that was cut off, and one that was done to its end.
use Rattle.std.proofs.Common.{◌≡◌, ◌++◌, List, [], ℕ, Option, Some, None, Result, Ok, Err, refl, sym, ap, subst, inl, inr}
use Rattle.std.specs.Prelude.{◌⊎◌}
use Rattle.std.specs.Io.KnownBytes.{Appends, append_known}
use Rattle.std.proofs.KnownBytes.{Appends-trans}
use Rattle.cc_rv32.specs.Machine.{machine_behavior}
use Rattle.cc_rv32.specs.Simulation.{Simulation}
use Rattle.cc_rv32.specs.declared.outcome.MachineOutcome.{MachineOutcome}
use Rattle.cc_answers.specs.Telling.{Tells}
use Rattle.cc_answers.specs.Text.{machine_outcome_text, words_text}
use Rattle.cc_history.specs.declared.reply.Reply.TheVariants as reply
use Rattle.cc_library.specs.unit.StoredUnit.{StoredUnit}
use Rattle.cc_script.specs.Line.{ScriptRequest, Add, Replace, Withdraw, Names, Run, Compact, Audit, Image, Source, AuditOne, Update, Call, Space}
use Rattle.cc_script.specs.Reading.{Ahead}
use Rattle.cc_script.specs.declared.fault.ScriptFault.{ScriptFault}
use Rattle.cc_script.specs.declared.fault.ScriptFault.TheVariants.{BadLine, EndOfScript, ScriptTooLong, ReadFault, WriteFault, Stopped}
use Rattle.cc_history.specs.declared.entry.Receipt.{Receipt}
use Rattle.cc_history.specs.History.{MemberView}
use Rattle.cc_c_semantics.specs.declared.mode.Mode.{Mode}
use Rattle.cc_service.specs.Serving.{GetAnswers}
use Rattle.cc_service.specs.declared.fault.ServiceFault.{ServiceFault}
use Rattle.cc_session.specs.Playing.{CutsLine, Grows, Obeys, Talk, talk}
use Rattle.cc_session.specs.Telling.{SaysRunOn, behavior_text, no_memory_text, refusal_text}
use Rattle.cc_session.specs.internal.Calls.{RunsAndTells, RunsNot, TellsRun, TellsRunNot}
use Rattle.cc_session.specs.internal.Steps.{IsObeyed, IsObeyedNot}
use Rattle.cc_session.proofs.Growing.{get_grows}
use Rattle.cc_session.proofs.Playing.{appended, between_none, known}

-- 61 is not 54
abbrev IsOther : ScriptFault → Type 0
IsOther WriteFault = ⊥
IsOther fault = Unit {0}

not_stopped : {A : Type 0} → Stopped ≡ WriteFault → A
not_stopped {A} is = absurd (subst (λ (f : ScriptFault). IsOther f) is tt)

-- ---- what is written for a unit that was found

-- two texts, one written after the other, are one text
pub told_on : {T : Type 0} (result : Result T ScriptFault) (a b c : Option (List ℕ)) (xs ys : List ℕ) → Appends a b xs → Tells b c ys result → Tells a c (xs ++ ys) result
told_on (Ok done) a b c xs ys one two = (tt, Appends-trans a b c xs ys one two.1)
told_on (Err fault) a b c xs ys one two = (two.0, tt)

told_not : (fault : ScriptFault) (most : Option ℕ) (steps : ℕ) (receipt : Receipt) (old new : Option (List ℕ)) (text : List ℕ) → SaysRunOn [] steps (Ok receipt) text → fault ≡ WriteFault
    → TellsRunNot most steps receipt old new fault
told_not BadLine most steps receipt old new text says is = (is, text, says)
told_not EndOfScript most steps receipt old new text says is = (is, text, says)
told_not ScriptTooLong most steps receipt old new text says is = (is, text, says)
told_not ReadFault most steps receipt old new text says is = (is, text, says)
told_not WriteFault most steps receipt old new text says is = (is, text, says)
told_not Stopped most steps receipt old new text says is = not_stopped is

pub told_run : {T : Type 0} (result : Result T ScriptFault) (most : Option ℕ) (steps : ℕ) (receipt : Receipt) (old new : Option (List ℕ)) (text : List ℕ) → SaysRunOn [] steps (Ok receipt) text
    → Tells old new text result → TellsRun most steps receipt old new result
told_run (Ok done) most steps receipt old new text says told = (text, says, told.1)
told_run (Err fault) most steps receipt old new text says told = told_not fault most steps receipt old new text says told.0

-- what a machine has written after all steps of its run, and how it ended, is the text for a run of the unit
pub says_machine : (words : List ℕ) (steps : ℕ) (receipt : Receipt) (unit : StoredUnit) (machine : Simulation) (outcome : MachineOutcome) → receipt.entry.reply ≡ reply.Unit unit
    → machine_behavior unit.image words steps ≡ record { outcome = outcome; output = machine.output } → SaysRunOn words steps (Ok receipt) (words_text machine.output ++ machine_outcome_text outcome)
says_machine words steps receipt unit machine outcome found ran = inl (record { unit = unit; found = found; text_is = ap behavior_text (sym ran) })

-- ---- what is written for a name

runs_not : (fault : ScriptFault) (most : Option ℕ) (name : List ℕ) (steps : ℕ) (receipt : Receipt) (old new : Talk) → GetAnswers name old.client new.client (Ok receipt)
    → TellsRunNot most steps receipt old.written new.written fault → RunsNot most name steps old new fault
runs_not BadLine most name steps receipt old new get it = (it.0, append_known old.written it.1, (Ok receipt, get, it.1, it.2, appended old.written it.1))
runs_not EndOfScript most name steps receipt old new get it = (it.0, append_known old.written it.1, (Ok receipt, get, it.1, it.2, appended old.written it.1))
runs_not ScriptTooLong most name steps receipt old new get it = (it.0, append_known old.written it.1, (Ok receipt, get, it.1, it.2, appended old.written it.1))
runs_not ReadFault most name steps receipt old new get it = (it.0, append_known old.written it.1, (Ok receipt, get, it.1, it.2, appended old.written it.1))
runs_not WriteFault most name steps receipt old new get it = (it.0, append_known old.written it.1, (Ok receipt, get, it.1, it.2, appended old.written it.1))
runs_not Stopped most name steps receipt old new get it = (it.0, (receipt, get, it.1, it.2))

pub runs : {T : Type 0} (result : Result T ScriptFault) (most : Option ℕ) (name : List ℕ) (steps : ℕ) (receipt : Receipt) (old new : Talk) → GetAnswers name old.client new.client (Ok receipt)
    → TellsRun most steps receipt old.written new.written result → RunsAndTells most name steps old new result
runs (Ok done) most name steps receipt old new get it = (Ok receipt, get, it.0, it.1, it.2)
runs (Err fault) most name steps receipt old new get it = runs_not fault most name steps receipt old new get it

refused_not : (fault : ScriptFault) (most : Option ℕ) (name : List ℕ) (steps : ℕ) (why : ServiceFault) (old new : Talk) → GetAnswers name old.client new.client (Err why)
    → fault ≡ WriteFault → RunsNot most name steps old new fault
refused_not BadLine most name steps why old new get is = (is, append_known old.written (refusal_text [] why), (Err why, get, refusal_text [] why, refl, appended old.written (refusal_text [] why)))
refused_not EndOfScript most name steps why old new get is = (is, append_known old.written (refusal_text [] why), (Err why, get, refusal_text [] why, refl, appended old.written (refusal_text [] why)))
refused_not ScriptTooLong most name steps why old new get is = (is, append_known old.written (refusal_text [] why), (Err why, get, refusal_text [] why, refl, appended old.written (refusal_text [] why)))
refused_not ReadFault most name steps why old new get is = (is, append_known old.written (refusal_text [] why), (Err why, get, refusal_text [] why, refl, appended old.written (refusal_text [] why)))
refused_not WriteFault most name steps why old new get is = (is, append_known old.written (refusal_text [] why), (Err why, get, refusal_text [] why, refl, appended old.written (refusal_text [] why)))
refused_not Stopped most name steps why old new get is = not_stopped is

pub run_refused : {T : Type 0} (result : Result T ScriptFault) (most : Option ℕ) (name : List ℕ) (steps : ℕ) (why : ServiceFault) (old new : Talk) → GetAnswers name old.client new.client (Err why)
    → Tells old.written new.written (refusal_text [] why) result → RunsAndTells most name steps old new result
run_refused (Ok done) most name steps why old new get told = (Err why, get, refusal_text [] why, refl, told.1)
run_refused (Err fault) most name steps why old new get told = refused_not fault most name steps why old new get told.0

-- ---- the line that asks for the `run`

obeyed_not : (mode : Mode) → (fault : ScriptFault) (most : Option ℕ) (name : List ℕ) (steps : ℕ) (x : Ahead) (old new : Talk) → RunsNot most name steps old new fault
    → IsObeyedNot mode most (Some (Run name steps)) x old new fault
obeyed_not mode Stopped most name steps x old new it = it
obeyed_not mode WriteFault most name steps x old new it =
    known x.rest (λ b. (new.client ≡ old.client) ⊎ ((a : List ℕ) × (w : Option (List ℕ)) × Obeys mode (Some (Run name steps)) b a old (talk new.client w))) (λ b. inr (b, it.1, (refl, it.2)))
obeyed_not mode BadLine most name steps x old new it = absurd (subst (λ (f : ScriptFault). IsOther f) it.0 tt)
obeyed_not mode EndOfScript most name steps x old new it = absurd (subst (λ (f : ScriptFault). IsOther f) it.0 tt)
obeyed_not mode ScriptTooLong most name steps x old new it = absurd (subst (λ (f : ScriptFault). IsOther f) it.0 tt)
obeyed_not mode ReadFault most name steps x old new it = absurd (subst (λ (f : ScriptFault). IsOther f) it.0 tt)

obeyed_by : (mode : Mode) → {T : Type 0} (result : Result T ScriptFault) (most : Option ℕ) (name : List ℕ) (steps : ℕ) (x : Ahead) (old new : Talk) → RunsAndTells most name steps old new result
    → IsObeyed mode most (Some (Run name steps)) x x old new result
obeyed_by mode (Ok done) most name steps x old new it = between_none x (λ b a. Obeys mode (Some (Run name steps)) b a old new) (λ b. (refl, it))
obeyed_by mode (Err fault) most name steps x old new it = obeyed_not mode fault most name steps x old new it

pub obeyed_run : (mode : Mode) → {T : Type 0} (result : Result T ScriptFault) (most : Option ℕ) (asked : Option ScriptRequest) (name : List ℕ) (steps : ℕ) (x : Ahead) (old new : Talk) → Some (Run name steps) ≡ asked
    → RunsAndTells most name steps old new result → IsObeyed mode most asked x x old new result
obeyed_run mode result most asked name steps x old new same it =
    subst (λ (it : Option ScriptRequest). IsObeyed mode most it x x old new result) same (obeyed_by mode result most name steps x old new it)

-- if a `run` was not written, its client keeps its receipts
grows_not : (fault : ScriptFault) (most : Option ℕ) (name : List ℕ) (steps : ℕ) (old new : Talk) → RunsNot most name steps old new fault → Grows old.client new.client
grows_not BadLine most name steps old new it = get_grows name old.client new.client it.2.0 it.2.1
grows_not EndOfScript most name steps old new it = get_grows name old.client new.client it.2.0 it.2.1
grows_not ScriptTooLong most name steps old new it = get_grows name old.client new.client it.2.0 it.2.1
grows_not ReadFault most name steps old new it = get_grows name old.client new.client it.2.0 it.2.1
grows_not WriteFault most name steps old new it = get_grows name old.client new.client it.2.0 it.2.1
grows_not Stopped most name steps old new it = get_grows name old.client new.client (Ok it.1.0) it.1.1

pub run_grows : {T : Type 0} (result : Result T ScriptFault) (most : Option ℕ) (name : List ℕ) (steps : ℕ) (old new : Talk) → RunsAndTells most name steps old new result → Grows old.client new.client
run_grows (Ok done) most name steps old new it = get_grows name old.client new.client it.0 it.1
run_grows (Err fault) most name steps old new it = grows_not fault most name steps old new it

-- if a run was cut off, the client made the same call as if the answer had been that memory ran out
pub cut_obeyed : (mode : Mode) → (asked : Option ScriptRequest) (rest : List ℕ) (old last new : Talk) → new.client ≡ last.client → CutsLine asked old last
    → (w : Option (List ℕ)) × Obeys mode asked rest rest old (talk new.client w)
cut_obeyed mode (Some (Run name steps)) rest old last new same (receipt, get, cut, written) = (
  append_known old.written no_memory_text,
  (refl, (Ok receipt, subst (λ (c : MemberView). GetAnswers name old.client c (Ok receipt)) (sym same) get, no_memory_text, inr refl, appended old.written no_memory_text)),
)
cut_obeyed mode None rest old last new same it = absurd it
cut_obeyed mode (Some (Add name count)) rest old last new same it = absurd it
cut_obeyed mode (Some (Replace name count)) rest old last new same it = absurd it
cut_obeyed mode (Some (Withdraw name)) rest old last new same it = absurd it
cut_obeyed mode (Some Names) rest old last new same it = absurd it
cut_obeyed mode (Some Compact) rest old last new same it = absurd it
cut_obeyed mode (Some Audit) rest old last new same it = absurd it
cut_obeyed mode (Some (Image name)) rest old last new same it = absurd it
cut_obeyed mode (Some (Source name)) rest old last new same it = absurd it
cut_obeyed mode (Some (AuditOne name)) rest old last new same it = absurd it
cut_obeyed mode (Some (Update name expected count)) rest old last new same it = absurd it
cut_obeyed mode (Some (Call name steps count)) rest old last new same it = absurd it
cut_obeyed mode (Some Space) rest old last new same it = absurd it
