-- If code is too large, its definition is long.
use Rattle.cc_c_semantics.specs.Numbered.{objects_in}
use Rattle.cc_cminor_language.specs.Pair.{tree_of, code_of}
use Rattle.cc_cminor_language.specs.Variables.{above_statement}
use Rattle.cc_mode.proofs.Tokens.{nodes_long, variables_long}
use Rattle.cc_mode.proofs.guarding.checked.Goals as goal

pub returns-in-Err-clause-large : goal.returns-in-Err-clause-large
returns-in-Err-clause-large c = λ large.
    let p = c.args.pair in
    variables_long (tree_of p) p.function (code_of p) (objects_in (tree_of p)) c.requires.operations c.guards_set_few.ensures c.requires.lowered (c.in-Err.ensures.large large)

pub returns-in-Ok-clause-small : goal.returns-in-Ok-clause-small
returns-in-Ok-clause-small c = λ large.
    let p = c.args.pair in
    nodes_long (tree_of p) p.function (code_of p) (objects_in (tree_of p)) c.requires.operations c.requires.small (above_statement 0 (code_of p)) (code_of c.in-Ok.made) c.in-Ok.ensures.code large
