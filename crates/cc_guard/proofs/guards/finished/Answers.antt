use Rattle.std.proofs.Common.{◌∙◌, ap}
use Rattle.cc_cminor_language.specs.Code.{in_sequence}
use Rattle.cc_cminor_language.specs.Statements.{statements_of}
use Rattle.cc_cminor_language.proofs.Codes.{if_ok, statements_push}
use Rattle.cc_guard.proofs.guards.finished.Goals as goal

pub returns : goal.returns
returns c = if_ok _ _ c.sequence.result (λ s e. e ∙ ap in_sequence (ap statements_of c.in_ok-push.ensures.items ∙ statements_push c.args.guards.before.items c.args.last)) c.sequence.ensures
