-- What was opened is a beginning, and its units are those that the bytes recover to.
use Rattle.std.proofs.Common.{inr, sym, subst, ◌∙◌}
use Rattle.cc_disk.specs.Model.{bytes_of}
use Rattle.cc_core.specs.Run.{IsOpened, IsOrderOf}
use Rattle.cc_core.proofs.Beginnings.{opened_begins, order_of, recovers_to}
use Rattle.cc_core.proofs.state.State.open.Goals as goal

pub idle-requires-clause-begins : goal.idle-requires-clause-begins
idle-requires-clause-begins g c =
    inr (opened_begins {P = g.row.B-Piece.Denot} (bytes_of c.args.disk.cells) c.in-Ok.opened c.in-Ok.ensures.answer c.in-Ok.opened.acknowledged c.in-Ok.ensures.answer.acknowledged)

pub idle-requires-clause-right : goal.idle-requires-clause-right
idle-requires-clause-right g c = c.requires.right c.in-Ok.opened.library (recovers_to (bytes_of c.args.disk.cells) c.in-Ok.opened c.in-Ok.ensures.answer)

pub returns-in-Ok-clause-answer : goal.returns-in-Ok-clause-answer
returns-in-Ok-clause-answer g c =
    subst (IsOpened {P = g.row.B-Piece.Denot}) (sym c.idle.ensures)
    (opened_begins {P = g.row.B-Piece.Denot} (bytes_of c.args.disk.cells) c.in-Ok.opened c.in-Ok.ensures.answer c.in-Ok.opened.acknowledged c.in-Ok.ensures.answer.acknowledged)

pub returns-in-Ok-clause-order : goal.returns-in-Ok-clause-order
returns-in-Ok-clause-order g c = λ area bodies holds.
    subst (λ s. IsOrderOf bodies s.core.order s.core.upcoming) (sym c.idle.ensures)
    (order_of (bytes_of c.args.disk.cells) c.in-Ok.opened c.in-Ok.ensures.answer area bodies holds)
