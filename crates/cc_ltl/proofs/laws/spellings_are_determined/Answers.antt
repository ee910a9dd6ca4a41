use Rattle.std.proofs.Common.{◌∙◌, sym}
use Rattle.cc_ltl.proofs.Spelled as Spelled
use Rattle.cc_ltl.proofs.laws.spellings_are_determined.Goals as goal

pub returns : goal.returns
returns c = record { one_function = λ bytes l m p q. Spelled.one_function bytes l m p q; one_spelling = λ a b l p q. p.spelled ∙ sym q.spelled }
