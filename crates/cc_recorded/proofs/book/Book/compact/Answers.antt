use Rattle.std.proofs.Common.{IsTrue, List, sym, subst}
use Rattle.cc_headline.specs.Compiling.{compiling, Keeps}
use Rattle.cc_recorded.specs.Book.{BookView}
use Rattle.cc_recorded.specs.Changed.{IsBookCompacted}
use Rattle.cc_recorded.specs.Since.{AreSince, BookSince}
use Rattle.cc_recorded.proofs.Blaming.{compact_blames}
use Rattle.cc_recorded.proofs.Tying.{TurnLaw, compact_tied}
use Rattle.cc_recorded.proofs.Sinces.{Goes, compact_goes, one_more, opening_goes, ordered_goes, since_goes}
use Rattle.cc_recorded.proofs.book.Book.compact.Goals as goal

pub invariant_of-self : goal.invariant_of-self
invariant_of-self g c =
    let D = g.D.Disk in
    let before : BookView g.row.D.Denot = c.self.inside.recorded in
    let after_it : BookView g.row.D.Denot = c.compact-result.new.self in
    let done = c.compact-result.ensures.compacted in
    let law : TurnLaw compiling Keeps = record { turn = c.turn_law.ensures.turn; goes_on = c.turn_law.ensures.goes_on; no_job = c.turn_law.ensures.no_job; no_work = c.turn_law.ensures.no_work; ready = c.turn_law.ensures.ready } in
    let goes : IsTrue D.honest → Goes D before after_it = λ h.
    compact_goes D before after_it c.kept.ensures.replays c.kept-2.ensures.replays c.kept.ensures.idle c.compact-result.result done.answers (done.moments h) in
    record {
      blamed = compact_blames D g.N.Based.failures before after_it c.self.invariant.blamed c.compact-result.result done.answers;
      tied = λ h. compact_tied compiling Keeps law D before after_it c.compact-result.result done.answers (done.disk h) (c.self.invariant.tied h);
      since = λ h. subst (λ (l : List (BookView g.row.D.Denot)). AreSince D after_it l) (sym c.and-self-inside.ensures)
          (one_more D after_it c.self.inside.since.items c.kept-2.ensures.replays c.kept-2.ensures.one (λ image left. g.met.D.Disk.only_now after_it.library.disk image h left) (c.kept-2.ensures.images h)
          (λ k old at. since_goes D before after_it old (goes h) (c.self.invariant.since h k old at)));
      opened = λ h. opening_goes D before after_it (goes h) g.N.Based.from g.N.Based.left (c.self.invariant.opened h);
      ordered = λ h. ordered_goes D after_it c.kept-2.ensures.replays c.kept-2.ensures.one (λ image left. g.met.D.Disk.only_now after_it.library.disk image h left) (c.kept-2.ensures.images h) before (goes h)
          (c.self.invariant.ordered h);
    }

pub returns-clause-compacted : goal.returns-clause-compacted
returns-clause-compacted g c =
    subst (λ (b : BookSince g.row.D.Denot). IsBookCompacted g.D.Disk b.book c.compact-result.new.self c.compact-result.result) c.self.view_is c.compact-result.ensures.compacted
