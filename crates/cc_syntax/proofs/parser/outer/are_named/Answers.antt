use Rattle.std.proofs.Common.{is_some, sym, ◌∙◌, rules, tests}
use Rattle.std.proofs.lemmas.Iterator.{YieldsList-from_slice}
use Rattle.std.proofs.lemmas.Iterator.Search.{all_from_yields_List}
use Rattle.cc_syntax.proofs.ParserLoops.{all_named-trees}
use Rattle.cc_syntax.proofs.parser.outer.are_named.Goals as goal

pub returns : goal.returns
returns c =
    let xs = c.args.parameters.now in
    all_from_yields_List (λ p. is_some p.name) _ _ _ c.all.ensures.ran (YieldsList-from_slice xs cc) (λ x b q k. search (rules, tests))
    ∙ sym (all_named-trees xs)
