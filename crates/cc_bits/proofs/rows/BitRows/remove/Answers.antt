-- The bit's number is removed, if there is one.
use Rattle.std.proofs.Common.{◌∙◌, ◌&&◌, ◌==◌, not, ap}
use Rattle.cc_bits.specs.Rows.{has, Table}
use Rattle.cc_bits.proofs.Tables.{removed_bit}
use Rattle.cc_bits.proofs.rows.BitRows.remove.Goals as goal

pub returns-then-c-self : goal.returns-then-c-self
returns-then-c-self c i j =
    removed_bit c.self.inside.width c.args.r c.args.c c.self.inside.bits c.remove.new.self c.if-c-self.true c.remove.ensures.removed i j
    ∙ ap (λ (t : Table). has t i j && not (c.args.r == i && c.args.c == j)) c.self.view_is
