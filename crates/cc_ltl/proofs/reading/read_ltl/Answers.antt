-- If a function is read, the bytes spell it; if none is read, they spell none.
use Rattle.std.proofs.Common.{refl, arith}
use Rattle.std.proofs.lemmas.Result.{err_from_is_err_and}
use Rattle.cc_ltl.proofs.Fields.{from_index}
use Rattle.cc_ltl.proofs.Spelled.{is_read, is_refused, is_fault}
use Rattle.cc_ltl.proofs.reading.read_ltl.Goals as goal

pub returns-in_err-parts : goal.returns-in_err-parts
returns-in_err-parts c =
    let p = err_from_is_err_and c.from_residual.result c.from_residual.ensures.1 in
    record { answers = rw (p.1, p.2) (is_fault c.args.bytes.now c.in_err-parts.field-0.0 c.in_err-parts.ensures) }

pub returns-in-Ok : goal.returns-in-Ok
returns-in-Ok c =
    let are = from_index c.args.bytes.now (λ i. omega (arith, c.type_inv.bytes i)) in
    record { answers = is_read c.args.bytes.now c.in-Ok.ltl _ are c.in_ok-parts.ensures (c.in-Ok.ensures.fits.0 refl) c.in-Ok.ensures.hands_back }

pub returns : goal.returns
returns c = record { answers = is_refused c.args.bytes.now _ c.in_ok-parts.ensures (λ is. absurd (cc (c.in-Err.ensures.fits.1 is))) }
