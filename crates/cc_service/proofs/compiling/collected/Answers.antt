use Rattle.std.proofs.Common.{◌≡◌, subst}
use Rattle.cc_pool.specs.Fault.{IsJobRefusal}
use Rattle.cc_pool.specs.declared.fault.PoolFault.{PoolFault}
use Rattle.cc_pool.specs.declared.fault.PoolFault.TheVariants as pool
use Rattle.cc_service.proofs.compiling.collected.Goals as goal

pub returns-in-Err-Piece-clause-refused : goal.returns-in-Err-Piece-clause-refused
returns-in-Err-Piece-clause-refused g c =
    let named : c.in-Err-Piece.field-0 ≡ pool.Piece c.in-Err-Piece.function c.in-Err-Piece.fault = cc in
    (c.requires.program, subst (λ (f : PoolFault). IsJobRefusal c.args.ticket.mode c.args.ticket.text f) named c.in-Err-Piece.ensures.refused)
