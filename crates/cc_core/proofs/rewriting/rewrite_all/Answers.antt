-- What is written is the journal with one Add per name. That it fits is part of what the type of the state keeps for
-- an idle state.
use Rattle.std.proofs.Common.{◌≡◌, ◌≤◌, List, ℕ, refl, sym, ap, subst, ◌∙◌, arith}
use Rattle.cc_journal.specs.Commit.{rewrite_commit}
use Rattle.cc_journal.specs.Format.{room_of}
use Rattle.cc_library.specs.Compact.{compacted}
use Rattle.cc_library.proofs.Compacting.{spelled_compacted}
use Rattle.cc_core.specs.declared.contents.RewriteDue.TheVariants as left
use Rattle.cc_core.specs.declared.contents.Phase.{Phase}
use Rattle.cc_core.specs.declared.contents.Phase.TheVariants.{Rewriting}
use Rattle.cc_core.specs.internal.Ready.{IsReadyIn}
use Rattle.cc_core.specs.Store.{first_written, rewrite_of}
use Rattle.cc_core.specs.Step.{RewritesAll}
use Rattle.cc_core.proofs.Possible.{rewrites_all, memory_answers}
use Rattle.cc_core.proofs.rewriting.rewrite_all.Goals as goal

pub bodies-requires : goal.bodies-requires
bodies-requires c =
    let old = c.args.core.now in
    let fits = subst (λ (phase : Phase). IsReadyIn phase old.library old.store old.order) c.in-Idle.is c.requires in
    omega (arith, fits, c.used-kept.ensures.small)

pub returns-in_err-bodies : goal.returns-in_err-bodies
returns-in_err-bodies c =
    let old = c.args.core.now in
    let fits = subst (λ (phase : Phase). IsReadyIn phase old.library old.store old.order) c.in-Idle.is c.requires in
    let e = c.from_residual.ensures in
    memory_answers (RewritesAll old) c.from_residual.result old old e.0 e.1 (rewrites_all old c.in-Idle.is fits) refl

pub rewrite-requires : goal.rewrite-requires
rewrite-requires c =
    let old = c.args.core.now in
    let fits = subst (λ (phase : Phase). IsReadyIn phase old.library old.store old.order) c.in-Idle.is c.requires in
    let is : c.deref.result.now ≡ compacted old.library = c.deref.ensures.value ∙ spelled_compacted c.in_ok-bodies.bodies.items old.library c.in_ok-bodies.ensures in
    subst (λ (l : List (List ℕ)). room_of l ≤ old.store.area) (sym is) fits

pub returns-in_err-commit : goal.returns-in_err-commit
returns-in_err-commit c =
    let old = c.args.core.now in
    let fits = subst (λ (phase : Phase). IsReadyIn phase old.library old.store old.order) c.in-Idle.is c.requires in
    let e = c.from_residual-in_err-commit.ensures in
    memory_answers (RewritesAll old) c.from_residual-in_err-commit.result old old e.0 e.1 (rewrites_all old c.in-Idle.is fits) refl

pub returns : goal.returns
returns c =
    let old = c.args.core.now in
    let fits = subst (λ (phase : Phase). IsReadyIn phase old.library old.store old.order) c.in-Idle.is c.requires in
    let is : c.deref.result.now ≡ compacted old.library = c.deref.ensures.value ∙ spelled_compacted c.in_ok-bodies.bodies.items old.library c.in_ok-bodies.ensures in
    let commit = c.in_ok-commit.commit in
    let commit_is : commit ≡ rewrite_of old.store old.library = c.in_ok-commit.ensures.commit ∙ ap (λ (l : List (List ℕ)). rewrite_commit old.store.area_byte old.store.area l) is in (
      record {
        idle = c.in-Idle.is;
        fits = fits;
        silent = refl;
        new_is = c.enter.ensures ∙ (λ i. record old { store = c.write_first.ensures i; phase = Rewriting commit left.SyncAll })
            ∙ (λ i. record old { store = first_written (commit_is i) old.store; phase = Rewriting (commit_is i) left.SyncAll });
      },
      λ e. absurd (cc),
      λ e. absurd (cc),
      tt,
    )
