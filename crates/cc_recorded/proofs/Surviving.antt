-- The core's theorem, for the state that a book shows.
use Rattle.std.proofs.Common.{◌≡◌, ◌⊎◌, ℕ, zero, suc, inl, inr, List, [], ◌∷◌, ◌++◌, take, Some, None, refl, sym, ap, subst, ◌∙◌, append_assoc}
use Rattle.std.specs.Prelude.{slice_get}
use Rattle.std.proofs.lemmas.List.{map-append}
use Rattle.cc_disk.specs.declared.disk.Disk.{Ghosts}
use Rattle.cc_library.specs.Change.{LibraryCommand}
use Rattle.cc_core.specs.declared.command.Numbered.{Numbered}
use Rattle.cc_core.specs.Rules.{Rules}
use Rattle.cc_core.specs.Step.{commands}
use Rattle.cc_core.specs.declared.contents.Contents.{Contents}
use Rattle.cc_core.specs.declared.event.Event.{Event}
use Rattle.cc_core.specs.Run.{EachImageIsRight, EachImageSurvives, EachUnit, IsBeginning, IsRightCommand, IsRightOr, Run}
use Rattle.cc_library.specs.declared.command.Change.TheVariants as change
use Rattle.cc_library.specs.Apply.{Units, after}
use Rattle.cc_library.specs.Recovered.{Recovers}
use Rattle.cc_history.specs.declared.entry.Entry.{Entry}
use Rattle.cc_history.specs.Calls.{HasAgreed}
use Rattle.cc_history.specs.History.{EachAgrees, HaveAgreed, Replays, units_after}
use Rattle.cc_history.specs.History.{changes}
use Rattle.cc_recorded.specs.Book.{AllAgreed, BookView, chronicle_of}
use Rattle.cc_headline.specs.Compiling.{is_right}
use Rattle.cc_recorded.specs.Promise.{HoldsPrefix, SurvivesCrash}
use Rattle.cc_recorded.specs.Since.{HoldsFrom}
use Rattle.cc_recorded.specs.Tie.{IsTied}

module _ {Disk P : Type 0} (rules : Rules P) (keeps : P → Type 0)
    (survives : (first new : Contents P) (events : List (Event P)) → IsBeginning first → Run rules keeps first events new → EachImageSurvives new.core)
    (units : (first new : Contents P) (events : List (Event P)) → IsBeginning first → Run rules keeps first events new → EachImageIsRight (IsRightOr is_right first.core.library) new.core)
    (D : Ghosts Disk) where
  pub tied_survives : (book : BookView Disk) → IsTied rules keeps D book → (image : List ℕ) → D.may_leave book.library.disk image → SurvivesCrash book image
  tied_survives book tied image left =
      let order = tied.shows.order in
      let here = tied.shows.disk.images refl image left in
      record {
        earlier = order.earlier;
        base = order.base;
        order = tied.now.core.order;
        acknowledged = tied.now.core.acknowledged;
        in_order =
            ap commands order.in_order ∙ map-append (λ (n : Numbered). n.command) tied.now.core.acknowledged order.failing
            ∙ (λ i. order.acked i ++ order.failed i) ∙ append_assoc order.earlier (changes book.history) book.failed;
        acked = order.acked;
        survives = survives tied.first tied.now tied.events (inr tied.opened) tied.run image here;
        right = λ library recovered.
            subst (λ (u : Units). EachUnit (IsRightOr is_right u) library) tied.begun (units tied.first tied.now tied.events (inr tied.opened) tied.run image library here recovered);
      }

-- ---- the units of what a crash has left since an earlier call

got_before : {A : Type 0} (j : ℕ) (l : List A) (k : ℕ) (x : A) → slice_get (take j l) k ≡ Some x → slice_get l k ≡ Some x
got_before zero l k x at = absurd (let none : None ≡ Some x = at in cc)
got_before (suc j) [] k x at = at
got_before (suc j) (y ∷ l) zero x at = at
got_before (suc j) (y ∷ l) (suc k) x at = got_before j l k x at

right_change : (base : Units) (c : LibraryCommand) → HasAgreed c → IsRightCommand (IsRightOr is_right base) c
right_change base (change.Add name unit) agreed = inr agreed
right_change base (change.Replace name unit) agreed = inr agreed
right_change base (change.Withdraw name) agreed = tt

each_right : (base units : Units) → EachAgrees base units → EachUnit (IsRightOr is_right base) units
each_right base units each name unit at = elim (each name unit at) [ inl there ↦ inl (name, there) | inr agreed ↦ inr agreed ]

pub held_agrees : {Disk : Type 0} → ((base : Units) (history : List Entry) → HaveAgreed history → EachAgrees base (units_after base history))
    → ((base library : Units) (c : LibraryCommand) → EachUnit (IsRightOr is_right base) library → IsRightCommand (IsRightOr is_right base) c → EachUnit (IsRightOr is_right base) (after library c))
    → (book : BookView Disk) → Replays (chronicle_of book) → HaveAgreed book.history → AllAgreed book.failed
    → (entries : ℕ) (image : List ℕ) (library : Units) → HoldsFrom book entries image → Recovers image library → EachUnit (IsRightOr is_right book.base) library
held_agrees law stays book replays agreed failed entries image library (inl (j, _, _, alone)) recovers =
    subst (λ (u : Units). EachUnit (IsRightOr is_right book.base) u) (sym (alone.alone library recovers))
    (each_right book.base (units_after book.base (take j book.history)) (law book.base (take j book.history) (λ k e at. agreed k e (got_before j book.history k e at))))
held_agrees law stays book replays agreed failed entries image library (inr (c, is, alone)) recovers =
    let one : HasAgreed c = failed 0 c (ap (λ (l : List LibraryCommand). slice_get l 0) is) in
    let map : EachUnit (IsRightOr is_right book.base) book.library.units =
    subst (λ (u : Units). EachUnit (IsRightOr is_right book.base) u) (sym replays.units) (each_right book.base (units_after book.base book.history) (law book.base book.history agreed)) in
    subst (λ (u : Units). EachUnit (IsRightOr is_right book.base) u) (sym (alone.alone library recovers))
    (stays book.base book.library.units c map (right_change book.base c one))

-- each unit of the map is in the base, or was compiled
pub map_agrees : {Disk : Type 0} → ((base : Units) (history : List Entry) → HaveAgreed history → EachAgrees base (units_after base history)) → (book : BookView Disk) → Replays (chronicle_of book) → HaveAgreed book.history
    → EachAgrees book.base book.library.units
map_agrees law book replays agreed = subst (λ (u : Units). EachAgrees book.base u) (sym replays.units) (law book.base book.history agreed)

-- if an image was left before the opening or has a prefix of the calls, its units are right in the second
-- case
pub or_prefix : {Disk : Type 0} (book : BookView Disk) (left : List ℕ → Type 0) (image : List ℕ)
    → ((library : Units) → HoldsFrom book 0 image → Recovers image library → EachUnit (IsRightOr is_right book.base) library) → left image ⊎ HoldsFrom book 0 image → left image ⊎ HoldsPrefix book image
or_prefix book left image right (inl early) = inl early
or_prefix book left image right (inr held) = inr (record { holds = held; right = λ library recovers. right library held recovers })
