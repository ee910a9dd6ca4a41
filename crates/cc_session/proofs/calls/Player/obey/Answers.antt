-- For each kind of line, what the line asks for is done.
use Rattle.std.proofs.Common.{[], None, Some, refl}
use Rattle.cc_answers.specs.Telling.{script_fault_text}
use Rattle.cc_script.specs.Line.{Add, Replace, Withdraw, Names, Compact, Audit, Image, Source, AuditOne, Update, Call, Space, asked_of}
use Rattle.cc_script.specs.declared.fault.ScriptFault.TheVariants.{BadLine}
use Rattle.cc_task.specs.declared.part.Part.TheVariants as part
use Rattle.cc_service.specs.Serving.{GetAnswers, ListAnswers, WithdrawAnswers}
use Rattle.cc_session.specs.Playing.{Audits, AuditsOne, CallsAndWrites, Compacts, Measures, Writes, talk}
use Rattle.cc_session.specs.Telling.{SaysChange, SaysNames, SaysShown}
use Rattle.cc_session.proofs.Cutting.{obeyed_run, run_grows}
use Rattle.cc_session.proofs.Growing.{audit_grows, audit_one_grows, get_grows, grows_same, list_grows, withdraw_grows}
use Rattle.cc_session.proofs.Obeying.{called_as, obeyed_as, tells_call, tells_only}
use Rattle.cc_session.proofs.calls.Player.obey.Goals as goal

pub returns-in-Some-Add-clause-done : goal.returns-in-Some-Add-clause-done
returns-in-Some-Add-clause-done g c =
    obeyed_as c.args.self.now.mode c.args.self.now.most c.put.result (asked_of c.args.dialect c.args.line.now) (Some (Add c.in-Some-Add.name.now c.in-Some-Add.length)) c.args.script.now c.put.new.script (talk c.args.client.now.member (g.W.Write.contents c.args.answers.now)) (talk c.put.new.client.member (g.W.Write.contents c.put.new.answers))
    (rw c.in-Some-Add.field-0-is at c.in-Some-Add.ensures) c.put.ensures.done

pub returns-in-Some-Replace-clause-done : goal.returns-in-Some-Replace-clause-done
returns-in-Some-Replace-clause-done g c =
    obeyed_as c.args.self.now.mode c.args.self.now.most c.put-in-Some-Replace.result (asked_of c.args.dialect c.args.line.now) (Some (Replace c.in-Some-Replace.name.now c.in-Some-Replace.length)) c.args.script.now c.put-in-Some-Replace.new.script (talk c.args.client.now.member (g.W.Write.contents c.args.answers.now)) (talk c.put-in-Some-Replace.new.client.member (g.W.Write.contents c.put-in-Some-Replace.new.answers))
    (rw c.in-Some-Replace.field-0-is at c.in-Some-Replace.ensures) c.put-in-Some-Replace.ensures.done

pub returns-in-Some-Withdraw-clause-done : goal.returns-in-Some-Withdraw-clause-done
returns-in-Some-Withdraw-clause-done g c =
    called_as c.args.self.now.mode c.args.self.now.most c.withdraw.result (asked_of c.args.dialect c.args.line.now) (Some (Withdraw c.in-Some-Withdraw.name.now)) c.args.script.now (talk c.args.client.now.member (g.W.Write.contents c.args.answers.now)) (talk c.withdraw.new.client.member (g.W.Write.contents c.withdraw.new.answers))
    (CallsAndWrites (WithdrawAnswers c.in-Some-Withdraw.name.now) (SaysChange [])) (rw c.in-Some-Withdraw.field-0-is at c.in-Some-Withdraw.ensures)
    (tells_call c.withdraw.result (WithdrawAnswers c.in-Some-Withdraw.name.now) (SaysChange []) (talk c.args.client.now.member (g.W.Write.contents c.args.answers.now)) (talk c.withdraw.new.client.member (g.W.Write.contents c.withdraw.new.answers)) c.withdraw.ensures) (λ b n it. (refl, it))

pub returns-in-Some-Withdraw-clause-grows : goal.returns-in-Some-Withdraw-clause-grows
returns-in-Some-Withdraw-clause-grows g c = withdraw_grows c.in-Some-Withdraw.name.now c.args.client.now.member c.withdraw.new.client.member c.withdraw.ensures.0 c.withdraw.ensures.1

pub returns-in-Some-List-clause-done : goal.returns-in-Some-List-clause-done
returns-in-Some-List-clause-done g c =
    called_as c.args.self.now.mode c.args.self.now.most c.list.result (asked_of c.args.dialect c.args.line.now) (Some Names) c.args.script.now (talk c.args.client.now.member (g.W.Write.contents c.args.answers.now)) (talk c.list.new.client.member (g.W.Write.contents c.list.new.answers))
    (CallsAndWrites ListAnswers SaysNames) (rw c.in-Some-List.field-0-is at c.in-Some-List.ensures)
    (tells_call c.list.result ListAnswers SaysNames (talk c.args.client.now.member (g.W.Write.contents c.args.answers.now)) (talk c.list.new.client.member (g.W.Write.contents c.list.new.answers)) c.list.ensures) (λ b n it. (refl, it))

pub returns-in-Some-List-clause-grows : goal.returns-in-Some-List-clause-grows
returns-in-Some-List-clause-grows g c = list_grows c.args.client.now.member c.list.new.client.member c.list.ensures.0 c.list.ensures.1

pub returns-in-Some-Run-clause-done : goal.returns-in-Some-Run-clause-done
returns-in-Some-Run-clause-done g c =
    obeyed_run c.args.self.now.mode c.run.result c.args.self.now.most (asked_of c.args.dialect c.args.line.now) c.in-Some-Run.name.now c.in-Some-Run.steps c.args.script.now
    (talk c.args.client.now.member (g.W.Write.contents c.args.answers.now)) (talk c.run.new.client.member (g.W.Write.contents c.run.new.answers))
    (rw c.in-Some-Run.field-0-is at c.in-Some-Run.ensures) c.run.ensures

pub returns-in-Some-Run-clause-grows : goal.returns-in-Some-Run-clause-grows
returns-in-Some-Run-clause-grows g c =
    run_grows c.run.result c.args.self.now.most c.in-Some-Run.name.now c.in-Some-Run.steps
    (talk c.args.client.now.member (g.W.Write.contents c.args.answers.now)) (talk c.run.new.client.member (g.W.Write.contents c.run.new.answers)) c.run.ensures

pub returns-in-Some-Image-clause-done : goal.returns-in-Some-Image-clause-done
returns-in-Some-Image-clause-done g c =
    called_as c.args.self.now.mode c.args.self.now.most c.show.result (asked_of c.args.dialect c.args.line.now) (Some (Image c.in-Some-Image.name.now)) c.args.script.now (talk c.args.client.now.member (g.W.Write.contents c.args.answers.now)) (talk c.show.new.client.member (g.W.Write.contents c.show.new.answers))
    (CallsAndWrites (GetAnswers c.in-Some-Image.name.now) (SaysShown part.Image)) (rw c.in-Some-Image.field-0-is at c.in-Some-Image.ensures)
    (tells_call c.show.result (GetAnswers c.in-Some-Image.name.now) (SaysShown part.Image) (talk c.args.client.now.member (g.W.Write.contents c.args.answers.now)) (talk c.show.new.client.member (g.W.Write.contents c.show.new.answers)) c.show.ensures) (λ b n it. (refl, it))

pub returns-in-Some-Image-clause-grows : goal.returns-in-Some-Image-clause-grows
returns-in-Some-Image-clause-grows g c = get_grows c.in-Some-Image.name.now c.args.client.now.member c.show.new.client.member c.show.ensures.0 c.show.ensures.1

pub returns-in-Some-Source-clause-done : goal.returns-in-Some-Source-clause-done
returns-in-Some-Source-clause-done g c =
    called_as c.args.self.now.mode c.args.self.now.most c.show-in-Some-Source.result (asked_of c.args.dialect c.args.line.now) (Some (Source c.in-Some-Source.name.now)) c.args.script.now (talk c.args.client.now.member (g.W.Write.contents c.args.answers.now)) (talk c.show-in-Some-Source.new.client.member (g.W.Write.contents c.show-in-Some-Source.new.answers))
    (CallsAndWrites (GetAnswers c.in-Some-Source.name.now) (SaysShown part.Source)) (rw c.in-Some-Source.field-0-is at c.in-Some-Source.ensures)
    (tells_call c.show-in-Some-Source.result (GetAnswers c.in-Some-Source.name.now) (SaysShown part.Source) (talk c.args.client.now.member (g.W.Write.contents c.args.answers.now)) (talk c.show-in-Some-Source.new.client.member (g.W.Write.contents c.show-in-Some-Source.new.answers)) c.show-in-Some-Source.ensures) (λ b n it. (refl, it))

pub returns-in-Some-Source-clause-grows : goal.returns-in-Some-Source-clause-grows
returns-in-Some-Source-clause-grows g c = get_grows c.in-Some-Source.name.now c.args.client.now.member c.show-in-Some-Source.new.client.member c.show-in-Some-Source.ensures.0 c.show-in-Some-Source.ensures.1

pub returns-in-Some-Audit-clause-done : goal.returns-in-Some-Audit-clause-done
returns-in-Some-Audit-clause-done g c =
    called_as c.args.self.now.mode c.args.self.now.most c.audit.result (asked_of c.args.dialect c.args.line.now) (Some Audit) c.args.script.now (talk c.args.client.now.member (g.W.Write.contents c.args.answers.now)) (talk c.audit.new.client.member (g.W.Write.contents c.audit.new.answers))
    (Audits c.args.self.now.mode) (rw c.in-Some-Audit.field-0-is at c.in-Some-Audit.ensures) c.audit.ensures (λ b n it. (refl, it))

pub returns-in-Some-Audit-clause-grows : goal.returns-in-Some-Audit-clause-grows
returns-in-Some-Audit-clause-grows g c = audit_grows c.args.self.now.mode c.audit.result (talk c.args.client.now.member (g.W.Write.contents c.args.answers.now)) (talk c.audit.new.client.member (g.W.Write.contents c.audit.new.answers)) c.audit.ensures

pub returns-in-Some-Compact-clause-done : goal.returns-in-Some-Compact-clause-done
returns-in-Some-Compact-clause-done g c =
    called_as c.args.self.now.mode c.args.self.now.most c.compact.result (asked_of c.args.dialect c.args.line.now) (Some Compact) c.args.script.now (talk c.args.client.now.member (g.W.Write.contents c.args.answers.now)) (talk c.args.client.now.member (g.W.Write.contents c.compact.new.answers))
    Compacts (rw c.in-Some-Compact.field-0-is at c.in-Some-Compact.ensures) (c.compact.ensures c.args.client.now.member) (λ b n it. (refl, it))

pub returns-in-Some-Compact-clause-grows : goal.returns-in-Some-Compact-clause-grows
returns-in-Some-Compact-clause-grows g c = grows_same c.args.client.now.member c.args.client.now.member refl

pub returns-in-Some-Space-clause-done : goal.returns-in-Some-Space-clause-done
returns-in-Some-Space-clause-done g c =
    called_as c.args.self.now.mode c.args.self.now.most c.space.result (asked_of c.args.dialect c.args.line.now) (Some Space) c.args.script.now (talk c.args.client.now.member (g.W.Write.contents c.args.answers.now)) (talk c.args.client.now.member (g.W.Write.contents c.space.new.answers))
    Measures (rw c.in-Some-Space.field-0-is at c.in-Some-Space.ensures) (c.space.ensures c.args.client.now.member) (λ b n it. (refl, it))

pub returns-in-Some-Space-clause-grows : goal.returns-in-Some-Space-clause-grows
returns-in-Some-Space-clause-grows g c = grows_same c.args.client.now.member c.args.client.now.member refl

pub returns-in-None-clause-done : goal.returns-in-None-clause-done
returns-in-None-clause-done g c =
    called_as c.args.self.now.mode c.args.self.now.most c.tell_fault.result (asked_of c.args.dialect c.args.line.now) None c.args.script.now (talk c.args.client.now.member (g.W.Write.contents c.args.answers.now)) (talk c.args.client.now.member (g.W.Write.contents c.tell_fault.new.answers))
    (Writes (script_fault_text BadLine)) c.in-None.ensures
    (tells_only c.tell_fault.result c.args.client.now.member (g.W.Write.contents c.args.answers.now) (g.W.Write.contents c.tell_fault.new.answers) (script_fault_text BadLine) c.tell_fault.ensures)
    (λ b n it. (refl, it))

pub returns-in-None-clause-grows : goal.returns-in-None-clause-grows
returns-in-None-clause-grows g c = grows_same c.args.client.now.member c.args.client.now.member refl

pub returns-in-Some-AuditOne-clause-done : goal.returns-in-Some-AuditOne-clause-done
returns-in-Some-AuditOne-clause-done g c =
    called_as c.args.self.now.mode c.args.self.now.most c.audit_one.result (asked_of c.args.dialect c.args.line.now) (Some (AuditOne c.in-Some-AuditOne.name.now)) c.args.script.now (talk c.args.client.now.member (g.W.Write.contents c.args.answers.now)) (talk c.audit_one.new.client.member (g.W.Write.contents c.audit_one.new.answers))
    (AuditsOne c.args.self.now.mode c.in-Some-AuditOne.name.now) (rw c.in-Some-AuditOne.field-0-is at c.in-Some-AuditOne.ensures) c.audit_one.ensures (λ b n it. (refl, it))

pub returns-in-Some-AuditOne-clause-grows : goal.returns-in-Some-AuditOne-clause-grows
returns-in-Some-AuditOne-clause-grows g c =
    audit_one_grows c.args.self.now.mode c.audit_one.result c.in-Some-AuditOne.name.now (talk c.args.client.now.member (g.W.Write.contents c.args.answers.now)) (talk c.audit_one.new.client.member (g.W.Write.contents c.audit_one.new.answers)) c.audit_one.ensures

pub returns-in-Some-Update-clause-done : goal.returns-in-Some-Update-clause-done
returns-in-Some-Update-clause-done g c =
    obeyed_as c.args.self.now.mode c.args.self.now.most c.update.result (asked_of c.args.dialect c.args.line.now) (Some (Update c.in-Some-Update.name.now c.in-Some-Update.expected c.in-Some-Update.length)) c.args.script.now c.update.new.script
    (talk c.args.client.now.member (g.W.Write.contents c.args.answers.now)) (talk c.update.new.client.member (g.W.Write.contents c.update.new.answers)) (rw c.in-Some-Update.field-0-is at c.in-Some-Update.ensures) c.update.ensures.done

pub returns-in-Some-Call-clause-done : goal.returns-in-Some-Call-clause-done
returns-in-Some-Call-clause-done g c =
    obeyed_as c.args.self.now.mode c.args.self.now.most c.call.result (asked_of c.args.dialect c.args.line.now) (Some (Call c.in-Some-Call.name.now c.in-Some-Call.steps c.in-Some-Call.length)) c.args.script.now c.call.new.script
    (talk c.args.client.now.member (g.W.Write.contents c.args.answers.now)) (talk c.call.new.client.member (g.W.Write.contents c.call.new.answers)) (rw c.in-Some-Call.field-0-is at c.in-Some-Call.ensures) c.call.ensures.done
