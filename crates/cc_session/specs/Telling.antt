-- How an answer of a service is written, byte for byte.
use Rattle.std.specs.Prelude.{◌≡◌, ◌⊎◌, ◌<◌, ◌++◌, ℕ, Bool, true, false, List, [], Result, Ok, Err, codes}
use Rattle.cc_link.specs.Text.{text_fault_place}
use Rattle.cc_link.specs.declared.audit_answer.Audit.{Audit}
use Rattle.cc_library.specs.unit.StoredUnit.{StoredUnit}
use Rattle.cc_library.specs.declared.space.SpaceUse.{SpaceUse}
use Rattle.cc_history.specs.declared.entry.Receipt.{Receipt}
use Rattle.cc_history.specs.declared.reply.Reply.{Reply}
use Rattle.cc_history.specs.declared.reply.Reply.TheVariants.{Unit, Names}
use Rattle.cc_rv32.specs.Machine.{Behavior, machine_behavior}
use Rattle.cc_rv32.specs.declared.image.Image.{Image}
use Rattle.cc_rv32.specs.declared.outcome.MachineOutcome.TheVariants.{Going}
use Rattle.cc_task.specs.declared.part.Part.{Part}
use Rattle.cc_answers.specs.Text.{fault_line, function_text, line, machine_outcome_text, place_text, words_text}
use Rattle.cc_answers.specs.Telling.{audit_text, names_text, number_text, space_text}
use Rattle.cc_c_semantics.specs.declared.mode.Mode.{Mode}
use Rattle.cc_service.specs.Fault.{fault_number}
use Rattle.cc_service.specs.declared.fault.ServiceFault.{ServiceFault}
use Rattle.cc_service.specs.declared.fault.ServiceFault.TheVariants as service
use Rattle.cc_session.specs.Auditing.{IsSaidOf}
use Rattle.cc_session.specs.Showing.{IsShownOf}

-- ---- refusals

-- the place of a fault in the source that was sent, or the function that has the fault
abbrev pub where_text : (source : List ℕ) → ServiceFault → List ℕ
where_text source (service.Text f) = place_text (text_fault_place f)
where_text source (service.Piece function f) = function_text source f
where_text source fault = []

-- the line for a refusal of the service
abbrev pub refusal_text : (source : List ℕ) → ServiceFault → List ℕ
refusal_text source fault = fault_line (fault_number fault) (where_text source fault)

-- the line for 40: the service answered, but there was no memory for what follows
abbrev pub no_memory_text : List ℕ
no_memory_text = fault_line 40 []

-- ---- the text of each answer

-- for a change: the number of its receipt, or why there is none
abbrev pub change_text : (source : List ℕ) → Result Receipt ServiceFault → List ℕ
change_text source (Ok receipt) = number_text receipt.number
change_text source (Err fault) = refusal_text source fault

abbrev pub SaysChange : (source : List ℕ) → Result Receipt ServiceFault → (text : List ℕ) → Type 0
SaysChange source answer text = text ≡ change_text source answer

-- for a compaction
abbrev pub done_text : {T : Type 0} → Result T ServiceFault → List ℕ
done_text (Ok done) = line (codes "ok")
done_text (Err fault) = refusal_text [] fault

-- for `space`, how much of its area the library takes: the figures, or the refusal
abbrev pub room_text : Result SpaceUse ServiceFault → List ℕ
room_text (Ok space) = space_text space
room_text (Err fault) = refusal_text [] fault

-- for a list: the names of the reply, and the number of its receipt
abbrev pub SaysNames : Result Receipt ServiceFault → (text : List ℕ) → Type 0
SaysNames (Ok receipt) text = (names : List (List ℕ)) × (receipt.entry.reply ≡ Names names) × (text ≡ names_text names receipt.number)
SaysNames (Err fault) text = text ≡ refusal_text [] fault

-- what a machine has written, one word on each line, and how its run ended
abbrev pub behavior_text : Behavior → List ℕ
behavior_text behavior = words_text behavior.output ++ machine_outcome_text behavior.outcome

-- what the image of the reply's unit does on the input words within the steps
pub record IsRunText (words : List ℕ) (steps : ℕ) (reply : Reply) (text : List ℕ) : Type 0 where
  pub unit : StoredUnit
  pub found : reply ≡ Unit unit
  pub text_is : text ≡ behavior_text (machine_behavior unit.image words steps)

-- after some of the steps, fewer than `steps`, the image is not at its end
abbrev pub IsCutOff : Image → (steps : ℕ) → Type 0
IsCutOff image steps = (done : ℕ) × (done < steps) × ((machine_behavior image [] done).outcome ≡ Going)

-- after some of the steps, fewer than `steps`, the image of the reply's unit is not at its end
pub record IsCutRun (steps : ℕ) (reply : Reply) : Type 0 where
  pub unit : StoredUnit
  pub found : reply ≡ Unit unit
  pub cut : IsCutOff unit.image steps

-- for a run on input words, none for `run`: what the image of the unit that was found does; or that memory ran out
abbrev pub SaysRunOn : (words : List ℕ) (steps : ℕ) → Result Receipt ServiceFault → (text : List ℕ) → Type 0
SaysRunOn words steps (Ok receipt) text = IsRunText words steps receipt.entry.reply text ⊎ (text ≡ no_memory_text)
SaysRunOn words steps (Err fault) text = text ≡ refusal_text [] fault

-- for a part: the image or the source of the unit that was found; or that memory ran out
abbrev pub SaysShown : Part → Result Receipt ServiceFault → (text : List ℕ) → Type 0
SaysShown part (Ok receipt) text = IsShownOf part receipt.entry.reply text ⊎ (text ≡ no_memory_text)
SaysShown part (Err fault) text = text ≡ refusal_text [] fault

-- the line that an audit in a mode writes about the reply's unit
pub record IsAuditText (mode : Mode) (name : List ℕ) (reply : Reply) (text : List ℕ) : Type 0 where
  pub audit : Audit
  pub said : IsSaidOf mode reply audit
  pub text_is : text ≡ audit_text name audit

-- for an audit of one unit: what it says, if the unit was found and there was memory for it; if not, why not
abbrev pub SaysAudit : Mode → (name : List ℕ) (is_said : Bool) → Result Receipt ServiceFault → (text : List ℕ) → Type 0
SaysAudit mode name true (Ok receipt) text = IsAuditText mode name receipt.entry.reply text
SaysAudit mode name true (Err fault) text = ⊥
SaysAudit mode name false (Ok receipt) text = text ≡ no_memory_text
SaysAudit mode name false (Err fault) text = text ≡ refusal_text [] fault

-- for a call that was refused: the line for the refusal
abbrev pub SaysRefusal : Result Receipt ServiceFault → (text : List ℕ) → Type 0
SaysRefusal (Ok receipt) text = ⊥
SaysRefusal (Err fault) text = text ≡ refusal_text [] fault
