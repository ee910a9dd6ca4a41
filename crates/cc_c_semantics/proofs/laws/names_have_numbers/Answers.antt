use Rattle.cc_c_semantics.proofs.Numbers as law
use Rattle.cc_c_semantics.proofs.laws.names_have_numbers.Goals as goal

pub returns-clause-functions : goal.returns-clause-functions
returns-clause-functions c = law.functions_are_numbered

pub returns-clause-objects : goal.returns-clause-objects
returns-clause-objects c = law.objects_are_numbered

pub returns-clause-sizes : goal.returns-clause-sizes
returns-clause-sizes c = law.objects_are_sized
