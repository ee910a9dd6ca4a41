-- One more move: a move between locations is a move between columns.
use Rattle.std.proofs.Common.{◌≡◌, ◌∙◌, ◌-◌, ◌<◌, ◌∷◌, length, drop, get_or, sym, ap, subst, arith, ℕ}
use Rattle.std.proofs.lemmas.List.{get_or_read}
use Rattle.cc_ltl.specs.Ltl.{target, source}
use Rattle.cc_bits.specs.Rows.{has, column_moved}
use Rattle.cc_validate.specs.Equations.{before_move, before_moves}
use Rattle.cc_validate.specs.internal.Room.{IsPlace, most_places}
use Rattle.cc_validate.specs.internal.Table.{number, listed}
use Rattle.cc_validate.specs.internal.Carried.{AreCarried}
use Rattle.cc_validate.proofs.Carried.{carried_twice, move_carried, column_equations, number_below}
use Rattle.cc_validate.proofs.Carrying.{drop_more}
use Rattle.cc_validate.proofs.equations.carry_bits.Goals as goal

pub loop-left-preserved : goal.loop-left-preserved
loop-left-preserved c =
    let moves = c.args.moves.now in
    let left = c.loop-left.left in
    let m = c.index-moves-left.result in
    let here : left - 1 < length moves = omega arith in
    let item : get_or moves (left - 1) m ≡ m = sym (get_or_read moves (left - 1) m here c.index-moves-left.is m) in
    let e : drop (left - 1) moves ≡ m ∷ drop left moves = drop_more moves left m c.loop-left.invariant.within c.loop-left-test.true ∙ ap (λ x. x ∷ drop left moves) item in
    let old = c.loop-left.bits in
    let new = c.move_column.new.self in
    let from : c.number.result ≡ number (target m) = c.number.ensures.number ∙ ap number c.target.ensures in
    let to : c.number-in-loop-left.result ≡ number (source m) = c.number-in-loop-left.ensures.number ∙ ap number c.source.ensures in
    let moved = subst (λ x. (r i : ℕ) → has new r i ≡ column_moved (number (target m)) x (has old) r i) to
    (subst (λ x. (r i : ℕ) → has new r i ≡ column_moved x c.number-in-loop-left.result (has old) r i) from c.in_ok-move_column.ensures) in
    let one : AreCarried (before_move m) (listed old) (listed new) = move_carried old new m (subst IsPlace c.target.ensures c.number.ensures.place) (subst IsPlace c.source.ensures c.number-in-loop-left.ensures.place) moved in
    record {
      within = omega arith;
      bits = column_equations old new c.number.result c.number-in-loop-left.result c.loop-left.invariant.bits
          (subst (λ n. n < most_places) (sym c.number-in-loop-left.ensures.number) (number_below _ c.number-in-loop-left.ensures.place)) c.in_ok-move_column.ensures;
      so_far = subst (λ xs. AreCarried (before_moves xs) (listed c.args.bits.now) (listed new)) (sym e)
          (carried_twice (before_moves (drop left moves)) (before_move m) (listed c.args.bits.now) (listed old) (listed new) c.loop-left.invariant.so_far one);
    }

pub returns-clause-carried : goal.returns-clause-carried
returns-clause-carried c =
    subst (λ n. AreCarried (before_moves (drop n c.args.moves.now)) (listed c.args.bits.now) (listed c.loop-left.bits)) (let z : c.loop-left.left ≡ 0 = omega arith in z) c.loop-left.invariant.so_far
