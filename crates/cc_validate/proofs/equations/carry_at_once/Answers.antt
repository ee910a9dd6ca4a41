-- The bits of all rows are in the new table.
use Rattle.std.proofs.Common.{ℕ, ◌<◌, List, get_or, sym, subst, arith}
use Rattle.cc_validate.specs.internal.Room.{most_places}
use Rattle.cc_validate.proofs.Sending.{origins_low, rows_sent, sent_equations, sent_carried}
use Rattle.cc_validate.proofs.equations.carry_at_once.Goals as goal

pub put_row-requires-clause-places : goal.put_row-requires-clause-places
put_row-requires-clause-places c k =
    subst (λ (xs : List ℕ). get_or xs k 0 < most_places) (sym c.as_slice.ensures.value) (origins_low c.args.moves.now c.in_ok-origins.origins.items c.in_ok-origins.ensures k)

pub returns-clause-bits : goal.returns-clause-bits
returns-clause-bits c =
    let old = c.args.bits.now in
    let made = c.loop-r.made in
    let origins = c.in_ok-origins.origins.items in
    sent_equations c.args.moves.now origins old made c.in_ok-origins.ensures c.requires
    (rows_sent old origins c.loop-r.r made (λ r i h. c.rows-r-end.ensures.past r i (let t = c.loop-r-test.false in omega (arith, t, h))) c.loop-r.invariant)

pub returns-clause-carried : goal.returns-clause-carried
returns-clause-carried c =
    let old = c.args.bits.now in
    let made = c.loop-r.made in
    let origins = c.in_ok-origins.origins.items in
    sent_carried c.args.moves.now origins old made c.in_ok-origins.ensures c.requires
    (rows_sent old origins c.loop-r.r made (λ r i h. c.rows-r-end.ensures.past r i (let t = c.loop-r-test.false in omega (arith, t, h))) c.loop-r.invariant)
