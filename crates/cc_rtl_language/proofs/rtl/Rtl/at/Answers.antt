-- The label that equals a position has the position's node.
use Rattle.std.proofs.Common.{ap, subst, length, arith}
use Rattle.cc_rtl_language.specs.Rtl.{Rtl}
use Rattle.cc_rtl_language.specs.Positions.{AreNumbered}
use Rattle.cc_rtl_language.proofs.Places.{length_labelled, at_position}
use Rattle.cc_rtl_language.proofs.rtl.Rtl.at.Goals as goal

pub overflow_cast-position : goal.overflow_cast-position
overflow_cast-position c = let e = c.len.ensures in let l = length_labelled c.self.inside.nodes.entries in let f = c.self.invariant.0.few in let t = c.if-position-len.true in omega (arith, e, l, f, t)

pub returns-then-position-len : goal.returns-then-position-len
returns-then-position-len c =
    at_position (λ r. r.now) c.at.result c.self.inside.nodes.entries c.args.self.now.nodes c.args.position (ap (λ (r : Rtl). r.nodes) c.self.view_is) (subst (λ (r : Rtl). AreNumbered 0 r.nodes) c.self.view_is c.self.invariant.1)
    (let e = c.len.ensures in let t = c.if-position-len.true in omega (arith, e, t)) c.at.ensures

pub returns-else-position-len : goal.returns-else-position-len
returns-else-position-len c =
    let e = c.len.ensures in
    let l = length_labelled c.self.inside.nodes.entries in
    let n = ap (λ (r : Rtl). length r.nodes) c.self.view_is in
    let t = c.if-position-len.false in
    omega (arith, e, l, n, t)
