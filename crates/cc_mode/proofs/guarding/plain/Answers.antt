-- If code is too large, its definition is long.
use Rattle.cc_cminor_language.specs.Pair.{tree_of, code_of}
use Rattle.cc_mode.proofs.Tokens.{plain_long}
use Rattle.cc_mode.proofs.guarding.plain.Goals as goal

pub returns-clause-small : goal.returns-clause-small
returns-clause-small c = plain_long (tree_of c.args.pair) c.args.pair.function (code_of c.args.pair) c.requires
