-- What the library's opening says about the disk that was handed in, stated for the library's disk, whose bytes are the same.
use Rattle.std.proofs.Common.{List, ℕ, sym, subst}
use Rattle.cc_journal.specs.Format.{HoldsRecords}
use Rattle.cc_session.proofs.Ends.{past_at}
use Rattle.cc_session.proofs.running.begin.Goals as goal

pub returns-in-Ok-new-clause-opened : goal.returns-in-Ok-new-clause-opened
returns-in-Ok-new-clause-opened g c =
    let opening = c.in-Ok.ensures in
    record {
      usable = opening.open;
      stand = opening.stand;
      records = λ h. subst (λ (b : List ℕ). HoldsRecords b c.in-Ok.library.area c.in-Ok.library.bodies) (sym (opening.reads h).same) (opening.records h);
      settled = opening.settled;
      images = opening.kept;
    }

pub returns-in-Ok-new-clause-recovered : goal.returns-in-Ok-new-clause-recovered
returns-in-Ok-new-clause-recovered g c = λ h.
    let D = g.D.Disk in
    let disk = c.in-Ok.library.disk in
    (c.in-Ok.ensures.kept h (D.seen disk) (g.met.D.Disk.seen_is_image disk h)).recovers

pub returns-in-Ok-new-clause-past : goal.returns-in-Ok-new-clause-past
returns-in-Ok-new-clause-past g c = λ h.
    let D = g.D.Disk in
    past_at D c.of-before.result.value c.args.disk c.in-Ok.library.disk (λ image left. g.met.D.Disk.only_now c.args.disk image h left) c.of-before.ensures (c.in-Ok.ensures.reads h)
