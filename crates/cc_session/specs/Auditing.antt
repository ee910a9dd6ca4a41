-- What an audit says about a unit that was found.
use Rattle.cc_link.specs.Audit.{AuditSaysIn}
use Rattle.cc_link.specs.declared.audit_answer.Audit.{Audit}
use Rattle.cc_history.specs.declared.reply.Reply.{Reply}
use Rattle.cc_history.specs.declared.reply.Reply.TheVariants.{Done, Exists, Absent, Unit, Names}
use Rattle.cc_c_semantics.specs.declared.mode.Mode.{Mode}

-- what an audit in a mode says about the unit of a reply
abbrev pub IsSaidOf : Mode → Reply → Audit → Type 0
IsSaidOf mode (Unit unit) audit = AuditSaysIn mode unit.source unit.certificate unit.image audit
IsSaidOf mode Done audit = ⊥
IsSaidOf mode Exists audit = ⊥
IsSaidOf mode Absent audit = ⊥
IsSaidOf mode (Names names) audit = ⊥
