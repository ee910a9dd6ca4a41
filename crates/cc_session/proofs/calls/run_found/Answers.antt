-- What is written is what the image of the unit that was found does; or the run was ended early.
use Rattle.std.proofs.Common.{◌++◌, [], inr, refl, rules}
use Rattle.cc_answers.specs.Text.{machine_outcome_text, words_text}
use Rattle.cc_session.specs.Telling.{no_memory_text}
use Rattle.cc_session.proofs.Cutting.{says_machine, told_run}
use Rattle.cc_session.proofs.calls.run_found.Goals as goal

pub returns-in-Done : goal.returns-in-Done
returns-in-Done g c =
    let W = g.W.Write.contents in
    told_run c.tell_machine.result c.args.most c.args.steps c.args.found (W c.args.answers.now) (W c.tell_machine.new.answers) (words_text c.in-Ok.machine.output ++ machine_outcome_text c.in-Done.outcome)
    (says_machine [] c.args.steps c.args.found c.unit.result.now c.in-Ok.machine c.in-Done.outcome c.unit.ensures (search rules)) c.tell_machine.ensures

pub returns-in-Ok : goal.returns-in-Ok
returns-in-Ok g c = (refl, no_memory_text, inr refl)

pub returns : goal.returns
returns g c =
    let W = g.W.Write.contents in
    told_run c.tell_no_memory.result c.args.most c.args.steps c.args.found (W c.args.answers.now) (W c.tell_no_memory.new.answers) no_memory_text (inr refl) c.tell_no_memory.ensures
