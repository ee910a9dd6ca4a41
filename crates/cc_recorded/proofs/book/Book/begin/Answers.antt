use Rattle.std.proofs.Common.{◌≡◌, ◌≤◌, List, [], Some, None, refl, sym, ap, subst, ◌∙◌}
use Rattle.std.specs.Prelude.{slice_get}
use Rattle.cc_headline.specs.Compiling.{compiling, Keeps}
use Rattle.cc_recorded.specs.Book.{BookView}
use Rattle.cc_recorded.specs.Since.{AreSince, IsSinceOpening}
use Rattle.cc_recorded.specs.Tie.{IsTied}
use Rattle.cc_recorded.proofs.Tying.{opening_tied}
use Rattle.cc_recorded.proofs.Blaming.{none_failed}
use Rattle.cc_recorded.proofs.Sinces.{one_more, opening_now, ordered_begins}
use Rattle.cc_recorded.proofs.book.Book.begin.Goals as goal

pub invariant_of-result : goal.invariant_of-result
invariant_of-result g c =
    let D = g.D.Disk in
    let book : BookView g.row.D.Denot = c.new-recorded.result in
    let first : BookView g.row.D.Denot = record { base = c.args.base; library = c.args.library; history = []; failed = [] } in
    record {
      tied = λ h. subst (λ (b : BookView g.row.D.Denot). IsTied compiling Keeps D b) (sym c.new-recorded.ensures)
          (opening_tied compiling Keeps D first refl refl c.requires.opened.usable c.requires.same c.requires.opened.stand (c.requires.opened.records h) (c.requires.opened.settled h));
      since = λ h. subst (λ (l : List (BookView g.row.D.Denot)). AreSince D book l) (sym c.and-since.ensures)
          (one_more D book c.new.result.items c.kept.ensures.replays c.kept.ensures.one (λ image left. g.met.D.Disk.only_now book.library.disk image h left) (c.kept.ensures.images h)
          (λ k old at. let none : None ≡ Some old = sym (ap (λ (l : List (BookView g.row.D.Denot)). slice_get l k) c.new.ensures) ∙ at in absurd (cc)));
      opened = λ h. subst (λ (b : BookView g.row.D.Denot). IsSinceOpening D g.N.Based.from g.N.Based.left b) (sym c.new-recorded.ensures)
          (opening_now D first g.N.Based.from g.N.Based.left (c.requires.past h));
      blamed = none_failed D g.N.Based.failures book (ap (λ (b : BookView g.row.D.Denot). b.failed) c.new-recorded.ensures)
          (subst (λ (b : BookView g.row.D.Denot). g.N.Based.failures ≤ D.failures b.library.disk) (sym c.new-recorded.ensures) c.requires.failures);
      ordered = λ h. ordered_begins D book c.kept.ensures.replays c.kept.ensures.one (λ image left. g.met.D.Disk.only_now book.library.disk image h left) (c.kept.ensures.images h)
          (ap (λ (b : BookView g.row.D.Denot). b.history) c.new-recorded.ensures);
    }
