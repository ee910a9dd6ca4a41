-- The map has the number of each name.
use Rattle.std.proofs.Common.{◌∙◌, ap}
use Rattle.cc_scope.specs.Numberings.{number_of_name}
use Rattle.cc_scope.proofs.NameNumbers.{get-numbered}
use Rattle.cc_scope.proofs.numbering.Numbering.find.Goals as goal

pub returns : goal.returns
returns c = c.copied.ensures ∙ c.get.ensures.value ∙ get-numbered c.self.inside.numbers c.args.name ∙ ap (λ v. number_of_name v c.args.name.now) c.self.view_is
