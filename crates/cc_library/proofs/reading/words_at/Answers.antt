use Rattle.std.proofs.lemmas.Result.{err_from_is_err_and}
use Rattle.cc_library.proofs.Words.{not_enough}
use Rattle.cc_library.proofs.reading.words_at.Goals as goal

pub returns-in_err-rest-clause-given : goal.returns-in_err-rest-clause-given
returns-in_err-rest-clause-given c =
    let p = err_from_is_err_and c.from_residual.result c.from_residual.ensures.1 in
    rw (p.1, p.2) (not_enough c.in_err-rest.field-0.0 c.args.count c.args.bytes.now c.in_err-rest.ensures.given)
