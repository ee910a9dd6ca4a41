use Rattle.std.proofs.Common.{◌≡◌, ℕ, List, IsTrue, Some, length, subst}
use Rattle.std.specs.Prelude.{slice_get}
use Rattle.cc_headline.specs.Compiling.{compiling, Keeps, is_right}
use Rattle.cc_recorded.specs.Book.{BookView}
use Rattle.cc_recorded.specs.Promise.{FailedByDevice, IsSound}
use Rattle.cc_recorded.specs.Since.{BookSince, HoldsFrom}
use Rattle.cc_recorded.specs.Tie.{IsTied}
use Rattle.cc_recorded.proofs.Surviving.{held_agrees, map_agrees, or_prefix, tied_survives}
use Rattle.cc_core.specs.Run.{EachUnit, IsRightOr}
use Rattle.cc_library.specs.Apply.{Units}
use Rattle.cc_library.specs.Recovered.{Recovers}
use Rattle.cc_recorded.proofs.book.Book.survives.Goals as goal

pub returns-clause-reached : goal.returns-clause-reached
returns-clause-reached g c =
    let D = g.D.Disk in
    subst (λ (b : BookSince g.row.D.Denot). IsTrue D.honest → IsTied compiling Keeps D b.book) c.self.view_is c.self.invariant.tied

pub returns-clause-sound : goal.returns-clause-sound
returns-clause-sound g c =
    let D = g.D.Disk in
    let N = g.N.Based in
    let book : BookView g.row.D.Denot = c.self.inside.recorded in
    let kept = c.kept.ensures in
    subst (λ (b : BookSince g.row.D.Denot). IsSound D N.base N.from N.left b.book) c.self.view_is
    (record {
      base_is = kept.base;
      legal = kept.replays.legal;
      map = kept.replays.units;
      agrees = map_agrees c.units_agree.ensures book kept.replays kept.agreed;
      agrees_failed = kept.agreed_failed;
      idle = kept.idle;
      images = kept.images;
      survives = λ h image left. tied_survives compiling Keeps c.crash_law.ensures.survives c.crash_law.ensures.units D book (c.self.invariant.tied h) image left;
      since = λ h image left.
          or_prefix book N.left image (held_agrees c.units_agree.ensures c.units_law.ensures.found book kept.replays kept.agreed kept.agreed_failed 0 image) ((c.self.invariant.opened h).holds image left);
      ordered = λ h. c.self.invariant.ordered h;
    })

pub returns-clause-blamed : goal.returns-clause-blamed
returns-clause-blamed g c =
    subst (λ (b : BookSince g.row.D.Denot). FailedByDevice g.D.Disk g.N.Based.failures b.book) c.self.view_is c.self.invariant.blamed

pub returns-clause-since : goal.returns-clause-since
returns-clause-since g c =
    let D = g.D.Disk in
    subst (λ (b : BookSince g.row.D.Denot). IsTrue D.honest → (k : ℕ) (then' : BookView g.row.D.Denot) → slice_get b.since k ≡ Some then' → (image : List ℕ)
    → D.left_since b.book.library.disk (D.moment then'.library.disk) image → HoldsFrom b.book (length then'.history) image) c.self.view_is
    (λ h k then' at image left. (c.self.invariant.since h k then' at).holds image left)

pub returns-clause-units : goal.returns-clause-units
returns-clause-units g c =
    subst (λ (b : BookSince g.row.D.Denot). (entries : ℕ) (image : List ℕ) (library : Units) → HoldsFrom b.book entries image → Recovers image library → EachUnit (IsRightOr is_right b.book.base) library) c.self.view_is
    (held_agrees c.units_agree.ensures c.units_law.ensures.found c.self.inside.recorded c.kept.ensures.replays c.kept.ensures.agreed c.kept.ensures.agreed_failed)
