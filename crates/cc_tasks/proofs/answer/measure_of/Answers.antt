use Rattle.cc_tasks.proofs.answer.measure_of.Goals as goal

pub returns-in-Err-clause-refused : goal.returns-in-Err-clause-refused
returns-in-Err-clause-refused c = c.fault_of_build.ensures c.args.mode c.args.text.now c.in-Err.ensures.refused
