use Rattle.cc_syntax.proofs.Verdict.{trees_are_one, spelled_have_no_fault}
use Rattle.cc_syntax.proofs.parser.trees_are_determined.Goals as goal

pub returns : goal.returns
returns c = record { one = trees_are_one; no_fault = spelled_have_no_fault }
