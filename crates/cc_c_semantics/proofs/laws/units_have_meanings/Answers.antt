use Rattle.cc_c_semantics.proofs.ByNumber as law
use Rattle.cc_c_semantics.proofs.laws.units_have_meanings.Goals as goal

pub returns-clause-meaning : goal.returns-clause-meaning
returns-clause-meaning c = law.typed_units_have_meanings

pub returns-clause-calls : goal.returns-clause-calls
returns-clause-calls c = law.calls_are_numbered

pub returns-clause-programs : goal.returns-clause-programs
returns-clause-programs c = law.programs_are_numbered
