use Rattle.cc_range_table.specs.Inductive.{first_facts}
use Rattle.cc_range_check.proofs.Covering.{covered_at}
use Rattle.cc_range_check.proofs.laws.covers_if_none_is_listed.Goals as goal

pub returns : goal.returns
returns c = λ sizes table row s. covered_at sizes table row.notes 0 0 (first_facts table row) s
