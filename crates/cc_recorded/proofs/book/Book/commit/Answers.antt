-- The contract of the library with its history says what the core and a crash see of a call; everything that the type keeps
-- follows.
use Rattle.std.proofs.Common.{IsTrue, List, sym, subst}
use Rattle.cc_headline.specs.Compiling.{compiling, Keeps}
use Rattle.cc_recorded.specs.Book.{BookView}
use Rattle.cc_recorded.specs.Changed.{IsBookChanged}
use Rattle.cc_recorded.specs.Since.{AreSince, BookSince}
use Rattle.cc_core.specs.Rules.{HasBuilt}
use Rattle.cc_recorded.proofs.Blaming.{commit_blames}
use Rattle.cc_recorded.proofs.Tying.{TurnLaw, commit_tied}
use Rattle.cc_recorded.proofs.Putting.{built_of}
use Rattle.cc_recorded.proofs.Sinces.{Goes, commit_goes, one_more, opening_goes, ordered_goes, since_goes}
use Rattle.cc_recorded.proofs.book.Book.commit.Goals as goal

pub invariant_of-self : goal.invariant_of-self
invariant_of-self g c =
    let D = g.D.Disk in
    let before : BookView g.row.D.Denot = c.self.inside.recorded in
    let after_it : BookView g.row.D.Denot = c.commit-result.new.self in
    let done = c.commit-result.ensures.changed in
    let law : TurnLaw compiling Keeps = record { turn = c.turn_law.ensures.turn; goes_on = c.turn_law.ensures.goes_on; no_job = c.turn_law.ensures.no_job; no_work = c.turn_law.ensures.no_work; ready = c.turn_law.ensures.ready } in
    let goes : IsTrue D.honest → Goes D before after_it = λ h.
    commit_goes D before after_it c.kept.ensures.replays c.kept-2.ensures.replays c.kept.ensures.idle
    c.args.client.now c.commit-result.new.client c.args.command c.commit-result.result done.answers (done.moments h) in
    let built : HasBuilt compiling Keeps c.args.command = built_of c.made_units_are_built.ensures c.args.command c.command_kept.ensures.source c.command_kept.ensures.made in
    record {
      blamed = commit_blames D g.N.Based.failures before after_it c.self.invariant.blamed c.args.client.now c.commit-result.new.client c.args.command c.commit-result.result done.answers;
      tied = λ h. commit_tied compiling Keeps law D (λ d. g.met.D.Disk.seen_is_image d h) before after_it
          c.args.client.now c.commit-result.new.client c.args.command c.commit-result.result done.answers (done.disk h) c.command_kept.ensures.command built (c.self.invariant.tied h);
      since = λ h. subst (λ (l : List (BookView g.row.D.Denot)). AreSince D after_it l) (sym c.and-self-inside.ensures)
          (one_more D after_it c.self.inside.since.items c.kept-2.ensures.replays c.kept-2.ensures.one (λ image left. g.met.D.Disk.only_now after_it.library.disk image h left) (c.kept-2.ensures.images h)
          (λ k old at. since_goes D before after_it old (goes h) (c.self.invariant.since h k old at)));
      opened = λ h. opening_goes D before after_it (goes h) g.N.Based.from g.N.Based.left (c.self.invariant.opened h);
      ordered = λ h. ordered_goes D after_it c.kept-2.ensures.replays c.kept-2.ensures.one (λ image left. g.met.D.Disk.only_now after_it.library.disk image h left) (c.kept-2.ensures.images h) before (goes h)
          (c.self.invariant.ordered h);
    }

pub returns-clause-changed : goal.returns-clause-changed
returns-clause-changed g c =
    let D = g.D.Disk in
    let new : BookView g.row.D.Denot = c.commit-result.new.self in
    let client = c.commit-result.new.client in
    subst (λ (b : BookSince g.row.D.Denot). IsBookChanged D b.book c.args.client.now c.args.command new client c.commit-result.result) c.self.view_is c.commit-result.ensures.changed
