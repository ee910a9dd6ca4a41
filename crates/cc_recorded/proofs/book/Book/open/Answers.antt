-- What the library's opening says about the disk that was handed in holds for the disk handed out, whose bytes are the
-- same.
use Rattle.std.proofs.Common.{◌∙◌, ◌≤◌, List, ℕ, ap, sym, subst}
use Rattle.cc_journal.specs.Format.{HoldsRecords}
use Rattle.cc_recorded.specs.Book.{BookView}
use Rattle.cc_recorded.proofs.Sinces.{past_on}
use Rattle.cc_recorded.proofs.book.Book.open.Goals as goal

pub over-requires-clause-opened : goal.over-requires-clause-opened
over-requires-clause-opened g c =
    let opening = c.in-Ok.ensures in
    record {
      usable = opening.open;
      stand = opening.stand;
      records = λ h. subst (λ (b : List ℕ). HoldsRecords b c.in-Ok.library.area c.in-Ok.library.bodies) (sym (opening.reads h).same) (opening.records h);
      settled = opening.settled;
      images = opening.kept;
    }

pub over-requires-clause-failures : goal.over-requires-clause-failures
over-requires-clause-failures g c = subst (λ (n : ℕ). g.N.Based.failures ≤ n) (sym c.in-Ok.ensures.sound) c.requires.failures

pub over-requires-clause-past : goal.over-requires-clause-past
over-requires-clause-past g c = λ h.
    let D = g.D.Disk in
    past_on D g.N.Based.from g.N.Based.left c.args.disk c.in-Ok.library.disk (c.requires.past h) (c.in-Ok.ensures.reads h)

pub returns-in-Ok-over-clause-fresh : goal.returns-in-Ok-over-clause-fresh
returns-in-Ok-over-clause-fresh g c = λ h area holds.
    ap (λ (b : BookView g.row.D.Denot). b.base) c.in-Ok-over.ensures.book ∙ (c.in-Ok.ensures.fresh h area holds).1
