-- The words hold exactly the bits of the rows.
use Rattle.std.proofs.Common.{◌≡◌, subst, ℕ}
use Rattle.cc_bits.specs.Rows.{has, Table, column_moved}
use Rattle.cc_bits.specs.internal.Holding.{bit}
use Rattle.cc_bits.proofs.rows.BitRows.move_within.Goals as goal

pub returns : goal.returns
returns c =
    let new = bit c.self.inside.width c.move_column.new.self in
    subst (λ (t : Table). (r i : ℕ) → new r i ≡ column_moved c.args.from c.args.to (has t) r i) c.self.view_is c.in_ok-move_column.ensures.moved
