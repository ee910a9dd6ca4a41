-- Each arm answers as its handler does; only `begin` puts a command in the order, and only `finish` hands in a piece.
use Rattle.std.proofs.Common.{refl, sym, subst}
use Rattle.cc_core.specs.declared.contents.Due.TheVariants as due
use Rattle.cc_core.specs.declared.contents.RewriteDue.TheVariants as left
use Rattle.cc_core.specs.declared.event.Event.TheVariants as event
use Rattle.cc_core.specs.internal.Answers.{Answers}
use Rattle.cc_core.specs.Step.{Step, Advances, RewritesAll, RewriteAdvances, Reopens}
use Rattle.cc_core.proofs.Possible.{core_answers, puts_none}
use Rattle.cc_core.proofs.events.take_step.Goals as goal

pub returns-in-Submit-clause-answers : goal.returns-in-Submit-clause-answers
returns-in-Submit-clause-answers g c =
    subst (λ e. Answers (Step g.B.Build.rules c.args.contents.now e) c.submit.result c.args.contents.now c.submit.new.contents) (sym c.in-Submit.is) (c.submit.ensures)

pub returns-in-Submit-clause-puts : goal.returns-in-Submit-clause-puts
returns-in-Submit-clause-puts g c = puts_none g.B.Build.rules c.args.contents.now (event.Submit c.in-Submit.client c.in-Submit.call c.in-Submit.request) c.submit.result c.submit.new.contents tt (c.submit.ensures)

pub returns-in-Take-clause-answers : goal.returns-in-Take-clause-answers
returns-in-Take-clause-answers g c =
    subst (λ e. Answers (Step g.B.Build.rules c.args.contents.now e) c.take.result c.args.contents.now c.take.new.contents) (sym c.in-Take.is) (c.take.ensures)

pub returns-in-Take-clause-puts : goal.returns-in-Take-clause-puts
returns-in-Take-clause-puts g c = puts_none g.B.Build.rules c.args.contents.now (event.Take c.in-Take.worker c.in-Take.client c.in-Take.part) c.take.result c.take.new.contents tt (c.take.ensures)

pub returns-in-Done-clause-answers : goal.returns-in-Done-clause-answers
returns-in-Done-clause-answers g c =
    subst (λ e. Answers (Step g.B.Build.rules c.args.contents.now e) c.finish.result c.args.contents.now c.finish.new.contents) (sym c.in-Done.is) (c.finish.ensures.answers)

pub returns-in-Done-clause-puts : goal.returns-in-Done-clause-puts
returns-in-Done-clause-puts g c = puts_none g.B.Build.rules c.args.contents.now (event.Done c.in-Done.worker c.in-Done.piece) c.finish.result c.finish.new.contents tt (c.finish.ensures.answers)

pub returns-in-Refuse-clause-answers : goal.returns-in-Refuse-clause-answers
returns-in-Refuse-clause-answers g c =
    subst (λ e. Answers (Step g.B.Build.rules c.args.contents.now e) c.refuse.result c.args.contents.now c.refuse.new.contents) (sym c.in-Refuse.is) (c.refuse.ensures)

pub returns-in-Refuse-clause-puts : goal.returns-in-Refuse-clause-puts
returns-in-Refuse-clause-puts g c = puts_none g.B.Build.rules c.args.contents.now (event.Refuse c.in-Refuse.worker c.in-Refuse.number) c.refuse.result c.refuse.new.contents tt (c.refuse.ensures)

pub returns-in-Begin-clause-answers : goal.returns-in-Begin-clause-answers
returns-in-Begin-clause-answers g c =
    subst (λ e. Answers (Step g.B.Build.rules c.args.contents.now e) c.begin.result c.args.contents.now c.begin.new.contents) (sym c.in-Begin.is) (c.begin.ensures.answers)

pub returns-in-WriteBody-clause-answers : goal.returns-in-WriteBody-clause-answers
returns-in-WriteBody-clause-answers g c =
    subst (λ e. Answers (Step g.B.Build.rules c.args.contents.now e) c.write_body.result c.args.contents.now (record c.args.contents.now { core = c.write_body.new.core })) (sym c.in-WriteBody.is) (core_answers (Advances due.WriteBody) c.args.contents.now (record c.args.contents.now { core = c.write_body.new.core }) c.write_body.result c.write_body.ensures refl refl)

pub returns-in-WriteBody-clause-puts : goal.returns-in-WriteBody-clause-puts
returns-in-WriteBody-clause-puts g c = puts_none g.B.Build.rules c.args.contents.now event.WriteBody c.write_body.result (record c.args.contents.now { core = c.write_body.new.core }) tt (core_answers (Advances due.WriteBody) c.args.contents.now (record c.args.contents.now { core = c.write_body.new.core }) c.write_body.result c.write_body.ensures refl refl)

pub returns-in-SyncBody-clause-answers : goal.returns-in-SyncBody-clause-answers
returns-in-SyncBody-clause-answers g c =
    subst (λ e. Answers (Step g.B.Build.rules c.args.contents.now e) c.sync_body.result c.args.contents.now (record c.args.contents.now { core = c.sync_body.new.core })) (sym c.in-SyncBody.is) (core_answers (Advances due.SyncBody) c.args.contents.now (record c.args.contents.now { core = c.sync_body.new.core }) c.sync_body.result c.sync_body.ensures refl refl)

pub returns-in-SyncBody-clause-puts : goal.returns-in-SyncBody-clause-puts
returns-in-SyncBody-clause-puts g c = puts_none g.B.Build.rules c.args.contents.now event.SyncBody c.sync_body.result (record c.args.contents.now { core = c.sync_body.new.core }) tt (core_answers (Advances due.SyncBody) c.args.contents.now (record c.args.contents.now { core = c.sync_body.new.core }) c.sync_body.result c.sync_body.ensures refl refl)

pub returns-in-WriteGate-clause-answers : goal.returns-in-WriteGate-clause-answers
returns-in-WriteGate-clause-answers g c =
    subst (λ e. Answers (Step g.B.Build.rules c.args.contents.now e) c.write_gate.result c.args.contents.now (record c.args.contents.now { core = c.write_gate.new.core })) (sym c.in-WriteGate.is) (core_answers (Advances due.WriteGate) c.args.contents.now (record c.args.contents.now { core = c.write_gate.new.core }) c.write_gate.result c.write_gate.ensures refl refl)

pub returns-in-WriteGate-clause-puts : goal.returns-in-WriteGate-clause-puts
returns-in-WriteGate-clause-puts g c = puts_none g.B.Build.rules c.args.contents.now event.WriteGate c.write_gate.result (record c.args.contents.now { core = c.write_gate.new.core }) tt (core_answers (Advances due.WriteGate) c.args.contents.now (record c.args.contents.now { core = c.write_gate.new.core }) c.write_gate.result c.write_gate.ensures refl refl)

pub returns-in-SyncGate-clause-answers : goal.returns-in-SyncGate-clause-answers
returns-in-SyncGate-clause-answers g c =
    subst (λ e. Answers (Step g.B.Build.rules c.args.contents.now e) c.sync_gate.result c.args.contents.now (record c.args.contents.now { core = c.sync_gate.new.core })) (sym c.in-SyncGate.is) (core_answers (Advances due.SyncGate) c.args.contents.now (record c.args.contents.now { core = c.sync_gate.new.core }) c.sync_gate.result c.sync_gate.ensures refl refl)

pub returns-in-SyncGate-clause-puts : goal.returns-in-SyncGate-clause-puts
returns-in-SyncGate-clause-puts g c = puts_none g.B.Build.rules c.args.contents.now event.SyncGate c.sync_gate.result (record c.args.contents.now { core = c.sync_gate.new.core }) tt (core_answers (Advances due.SyncGate) c.args.contents.now (record c.args.contents.now { core = c.sync_gate.new.core }) c.sync_gate.result c.sync_gate.ensures refl refl)

pub returns-in-RewriteAll-clause-answers : goal.returns-in-RewriteAll-clause-answers
returns-in-RewriteAll-clause-answers g c =
    subst (λ e. Answers (Step g.B.Build.rules c.args.contents.now e) c.rewrite_all.result c.args.contents.now (record c.args.contents.now { core = c.rewrite_all.new.core })) (sym c.in-RewriteAll.is) (core_answers RewritesAll c.args.contents.now (record c.args.contents.now { core = c.rewrite_all.new.core }) c.rewrite_all.result c.rewrite_all.ensures refl refl)

pub returns-in-RewriteAll-clause-puts : goal.returns-in-RewriteAll-clause-puts
returns-in-RewriteAll-clause-puts g c = puts_none g.B.Build.rules c.args.contents.now event.RewriteAll c.rewrite_all.result (record c.args.contents.now { core = c.rewrite_all.new.core }) tt (core_answers RewritesAll c.args.contents.now (record c.args.contents.now { core = c.rewrite_all.new.core }) c.rewrite_all.result c.rewrite_all.ensures refl refl)

pub returns-in-SyncAll-clause-answers : goal.returns-in-SyncAll-clause-answers
returns-in-SyncAll-clause-answers g c =
    subst (λ e. Answers (Step g.B.Build.rules c.args.contents.now e) c.sync_all.result c.args.contents.now (record c.args.contents.now { core = c.sync_all.new.core })) (sym c.in-SyncAll.is) (core_answers (RewriteAdvances left.SyncAll) c.args.contents.now (record c.args.contents.now { core = c.sync_all.new.core }) c.sync_all.result c.sync_all.ensures refl refl)

pub returns-in-SyncAll-clause-puts : goal.returns-in-SyncAll-clause-puts
returns-in-SyncAll-clause-puts g c = puts_none g.B.Build.rules c.args.contents.now event.SyncAll c.sync_all.result (record c.args.contents.now { core = c.sync_all.new.core }) tt (core_answers (RewriteAdvances left.SyncAll) c.args.contents.now (record c.args.contents.now { core = c.sync_all.new.core }) c.sync_all.result c.sync_all.ensures refl refl)

pub returns-in-WriteArea-clause-answers : goal.returns-in-WriteArea-clause-answers
returns-in-WriteArea-clause-answers g c =
    subst (λ e. Answers (Step g.B.Build.rules c.args.contents.now e) c.write_area.result c.args.contents.now (record c.args.contents.now { core = c.write_area.new.core })) (sym c.in-WriteArea.is) (core_answers (RewriteAdvances left.WriteArea) c.args.contents.now (record c.args.contents.now { core = c.write_area.new.core }) c.write_area.result c.write_area.ensures refl refl)

pub returns-in-WriteArea-clause-puts : goal.returns-in-WriteArea-clause-puts
returns-in-WriteArea-clause-puts g c = puts_none g.B.Build.rules c.args.contents.now event.WriteArea c.write_area.result (record c.args.contents.now { core = c.write_area.new.core }) tt (core_answers (RewriteAdvances left.WriteArea) c.args.contents.now (record c.args.contents.now { core = c.write_area.new.core }) c.write_area.result c.write_area.ensures refl refl)

pub returns-in-SyncArea-clause-answers : goal.returns-in-SyncArea-clause-answers
returns-in-SyncArea-clause-answers g c =
    subst (λ e. Answers (Step g.B.Build.rules c.args.contents.now e) c.sync_area.result c.args.contents.now (record c.args.contents.now { core = c.sync_area.new.core })) (sym c.in-SyncArea.is) (core_answers (RewriteAdvances left.SyncArea) c.args.contents.now (record c.args.contents.now { core = c.sync_area.new.core }) c.sync_area.result c.sync_area.ensures refl refl)

pub returns-in-SyncArea-clause-puts : goal.returns-in-SyncArea-clause-puts
returns-in-SyncArea-clause-puts g c = puts_none g.B.Build.rules c.args.contents.now event.SyncArea c.sync_area.result (record c.args.contents.now { core = c.sync_area.new.core }) tt (core_answers (RewriteAdvances left.SyncArea) c.args.contents.now (record c.args.contents.now { core = c.sync_area.new.core }) c.sync_area.result c.sync_area.ensures refl refl)

pub returns-in-Fail-clause-answers : goal.returns-in-Fail-clause-answers
returns-in-Fail-clause-answers g c =
    subst (λ e. Answers (Step g.B.Build.rules c.args.contents.now e) c.fail.result c.args.contents.now c.fail.new.contents) (sym c.in-Fail.is) (c.fail.ensures)

pub returns-in-Fail-clause-puts : goal.returns-in-Fail-clause-puts
returns-in-Fail-clause-puts g c = puts_none g.B.Build.rules c.args.contents.now event.Fail c.fail.result c.fail.new.contents tt (c.fail.ensures)

pub returns-in-Ack-clause-answers : goal.returns-in-Ack-clause-answers
returns-in-Ack-clause-answers g c =
    subst (λ e. Answers (Step g.B.Build.rules c.args.contents.now e) c.acknowledge.result c.args.contents.now c.acknowledge.new.contents) (sym c.in-Ack.is) (c.acknowledge.ensures)

pub returns-in-Ack-clause-puts : goal.returns-in-Ack-clause-puts
returns-in-Ack-clause-puts g c = puts_none g.B.Build.rules c.args.contents.now (event.Ack c.in-Ack.client) c.acknowledge.result c.acknowledge.new.contents tt (c.acknowledge.ensures)

pub returns-in-Crash-clause-answers : goal.returns-in-Crash-clause-answers
returns-in-Crash-clause-answers g c =
    subst (λ e. Answers (Step g.B.Build.rules c.args.contents.now e) c.crash.result c.args.contents.now c.crash.new.contents) (sym c.in-Crash.is) (c.crash.ensures)

pub returns-in-Crash-clause-puts : goal.returns-in-Crash-clause-puts
returns-in-Crash-clause-puts g c = puts_none g.B.Build.rules c.args.contents.now (event.Crash c.in-Crash.choice) c.crash.result c.crash.new.contents tt (c.crash.ensures)

pub returns-in-Recover-clause-answers : goal.returns-in-Recover-clause-answers
returns-in-Recover-clause-answers g c =
    subst (λ e. Answers (Step g.B.Build.rules c.args.contents.now e) c.recover.result c.args.contents.now (record c.args.contents.now { core = c.recover.new.core })) (sym c.in-Recover.is) (core_answers Reopens c.args.contents.now (record c.args.contents.now { core = c.recover.new.core }) c.recover.result c.recover.ensures refl refl)

pub returns-in-Recover-clause-puts : goal.returns-in-Recover-clause-puts
returns-in-Recover-clause-puts g c = puts_none g.B.Build.rules c.args.contents.now event.Recover c.recover.result (record c.args.contents.now { core = c.recover.new.core }) tt (core_answers Reopens c.args.contents.now (record c.args.contents.now { core = c.recover.new.core }) c.recover.result c.recover.ensures refl refl)
