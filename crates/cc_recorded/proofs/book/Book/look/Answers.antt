use Rattle.std.proofs.Common.{List, sym, subst}
use Rattle.cc_headline.specs.Compiling.{compiling, Keeps}
use Rattle.cc_recorded.specs.Book.{BookView}
use Rattle.cc_recorded.specs.Since.{AreSince}
use Rattle.cc_recorded.proofs.Blaming.{look_blames}
use Rattle.cc_recorded.proofs.Tying.{look_tied}
use Rattle.cc_recorded.proofs.Sinces.{Goes, look_goes, one_more, opening_goes, ordered_goes, since_goes}
use Rattle.cc_recorded.proofs.book.Book.look.Goals as goal

pub invariant_of-self : goal.invariant_of-self
invariant_of-self g c =
    let D = g.D.Disk in
    let before : BookView g.row.D.Denot = c.self.inside.recorded in
    let after_it : BookView g.row.D.Denot = c.look-result.new.self in
    let goes : Goes D before after_it =
    look_goes D before after_it c.kept.ensures.replays c.kept-2.ensures.replays c.kept.ensures.idle
    c.args.client.now c.look-result.new.client c.args.asked c.look-result.result c.look-result.ensures in
    record {
      blamed = look_blames D g.N.Based.failures before after_it c.self.invariant.blamed c.args.client.now c.look-result.new.client c.args.asked c.look-result.result c.look-result.ensures;
      tied = λ h. look_tied compiling Keeps D before after_it c.args.client.now c.look-result.new.client c.args.asked c.look-result.result c.requires c.look-result.ensures (c.self.invariant.tied h);
      since = λ h. subst (λ (l : List (BookView g.row.D.Denot)). AreSince D after_it l) (sym c.and-self-inside.ensures)
          (one_more D after_it c.self.inside.since.items c.kept-2.ensures.replays c.kept-2.ensures.one (λ image left. g.met.D.Disk.only_now after_it.library.disk image h left) (c.kept-2.ensures.images h)
          (λ k old at. since_goes D before after_it old goes (c.self.invariant.since h k old at)));
      opened = λ h. opening_goes D before after_it goes g.N.Based.from g.N.Based.left (c.self.invariant.opened h);
      ordered = λ h. ordered_goes D after_it c.kept-2.ensures.replays c.kept-2.ensures.one (λ image left. g.met.D.Disk.only_now after_it.library.disk image h left) (c.kept-2.ensures.images h) before (goes)
          (c.self.invariant.ordered h);
    }
