-- One more function is examined.
use Rattle.std.proofs.Common.{ℕ, ◌+◌, ◌<◌, ◌⊎◌, ◌∙◌, List, [], ◌∷◌, ◌++◌, ap, sym, subst, inl, inr, arith, length, Contains}
use Rattle.std.proofs.lemmas.List.Elements.{All-push, Contains-push}
use Rattle.std.specs.Prelude.{All}
use Rattle.std.specs.Arc.{arc_value}
use Rattle.cc_ast.specs.Source.{source}
use Rattle.cc_types.specs.Typed.{defined_names}
use Rattle.cc_cminor_language.specs.Cminor.{Statement}
use Rattle.cc_guard.specs.Safe.{NeedsNoGuard}
use Rattle.cc_safe.specs.Safe.{NeedsGuard}
use Rattle.cc_link.proofs.Deciding.{defined_long}
use Rattle.cc_safe.proofs.Numbers.{below_next, still}
use Rattle.cc_safe.proofs.guards.guarded.Goals as goal
use Rattle.cc_safe.proofs.guards.guarded.Goals.{then-branch+in_ok-push, else-branch}

pub loop-function-preserved : goal.loop-function-preserved
loop-function-preserved c =
    let unit = (source (arc_value c.args.unit.now)).externals in
    let i = c.loop-function.function in
    let items = c.loop-function.found.items in
    let before = c.loop-function.invariant in
    let Spared : ℕ → Type 0 = λ f. (s : Statement) × NeedsNoGuard unit f s in
    elim c.if-branch.branch [
      | then-branch+in_ok-push w ↦
          let grown = ap (λ v. v.items) w.found-is ∙ w.in_ok-push.ensures.items in (
            subst (λ (l : List ℕ). All (NeedsGuard unit) l) (sym grown) (All-push (NeedsGuard unit) items i before.0 (c.in_ok-needs_guard.ensures.needs w.if-branch.true)),
            subst (λ (l : List ℕ). (f : ℕ) → f < i + 1 → Contains l f ⊎ Spared f) (sym grown)
                (below_next (λ f. Contains (items ++ i ∷ []) f ⊎ Spared f) i (λ f k. still Spared items i f (before.1 f k)) (inl (Contains-push items i))),
          )
      | else-branch w ↦
          let same = ap (λ v. v.items) w.found-is in (
            subst (λ (l : List ℕ). All (NeedsGuard unit) l) (sym same) before.0,
            subst (λ (l : List ℕ). (f : ℕ) → f < i + 1 → Contains l f ⊎ Spared f) (sym same)
                (below_next (λ f. Contains items f ⊎ Spared f) i before.1 (inr (c.in_ok-needs_guard.ensures.none w.if-branch.false))),
          )
    ]

pub returns : goal.returns
returns c =
    let s = source (arc_value c.args.unit.now) in
    let count = c.functions-count.ensures ∙ ap (λ u. length (defined_names (source u))) c.deref.ensures ∙ defined_long s in
    record { each = c.loop-function.invariant.0; others = λ f below. c.loop-function.invariant.1 f (omega (arith, below, count, c.loop-function-test.false)) }
