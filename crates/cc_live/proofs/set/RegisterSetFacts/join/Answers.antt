-- The joined set holds what either set holds, and if it grew, at least one register more.
use Rattle.std.proofs.Common.{◌∙◌, ap, subst, ◌||◌, ◌≤◌, List, ℕ, length, IsTrue, IsFalse}
use Rattle.cc_bits.specs.Rows.{holds}
use Rattle.cc_bits.specs.internal.Holding.{within_row}
use Rattle.cc_live.specs.internal.Room.{most_words}
use Rattle.cc_live.proofs.Joining.{HoldsEither, join_made, room_less}
use Rattle.cc_live.proofs.set.RegisterSetFacts.join.Goals as goal

made : (c : goal.In_ok-rose) → HoldsEither c.join.new.self c.args.self.now c.args.other.now
made c r =
    c.in_ok-rose.ensures.both r
    ∙ (ap (λ (x : List ℕ). holds x r || holds c.other.inside.row r) c.self.view_is ∙ ap (λ (y : List ℕ). holds c.args.self.now r || holds y r) c.other.view_is)

pub invariant_of-self : goal.invariant_of-self
invariant_of-self c = c.join.ensures.few most_words c.self.invariant c.other.invariant

pub invariant_of-self-2 : goal.invariant_of-self-2
invariant_of-self-2 c = c.join.ensures.few most_words c.self.invariant c.other.invariant

pub returns-clause-joined : goal.returns-clause-joined
returns-clause-joined c = join_made c.join.new.self c.args.self.now c.args.other.now (made c)

pub returns-clause-rises : goal.returns-clause-rises
returns-clause-rises c rose =
    let k = c.in_ok-rose.ensures.rises rose in
    let there : IsTrue (holds c.args.other.now k.0) = subst (λ (y : List ℕ). IsTrue (holds y k.0)) c.other.view_is k.1 in
    room_less c.join.new.self c.args.self.now c.args.other.now (made c) (subst (λ (y : List ℕ). length y ≤ most_words) c.other.view_is c.other.invariant)
    (k.0, within_row c.args.other.now k.0 there, there, subst (λ (x : List ℕ). IsFalse (holds x k.0)) c.self.view_is k.2)
