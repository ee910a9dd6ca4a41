use Rattle.cc_c_semantics.proofs.Mains as law
use Rattle.cc_c_semantics.proofs.laws.programs_call_main.Goals as goal

pub returns-clause-main : goal.returns-clause-main
returns-clause-main c = law.typed_units_have_main

pub returns-clause-run : goal.returns-clause-run
returns-clause-run c = law.programs_call_main
