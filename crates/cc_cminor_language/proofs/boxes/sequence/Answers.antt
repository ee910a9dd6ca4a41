use Rattle.std.proofs.Common.{◌∙◌, ap}
use Rattle.cc_cminor_language.specs.Code.{statement_of}
use Rattle.cc_cminor_language.proofs.Codes.{if_ok, sequence_is}
use Rattle.cc_cminor_language.proofs.boxes.sequence.Goals as goal

pub returns : goal.returns
returns c = if_ok _ _ c.boxed_statement.result (λ s e. ap statement_of e ∙ sequence_is c.args.all) c.boxed_statement.ensures
