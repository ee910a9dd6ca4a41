-- Two cases: the next bound is kept, or it is dropped.
use Rattle.std.proofs.Common.{◌+◌, ◌∙◌, Bool, List, ◌++◌, drop, sym, ap, subst}
use Rattle.cc_cminor_language.specs.Code.{statement_of}
use Rattle.cc_guard.specs.declared.known.Limit.{Limit}
use Rattle.cc_guard.specs.Guard.{sets, unset, kept}
use Rattle.cc_guard.specs.internal.Marks.{IsMarked}
use Rattle.cc_guard.proofs.Marking.{kept_then, kept_else}
use Rattle.cc_guard.proofs.changed.kept_set.Goals.{then-changes+in_ok-push, else-changes}
use Rattle.cc_guard.proofs.changed.kept_set.Goals as goal

pub loop-limit-preserved : goal.loop-limit-preserved
loop-limit-preserved c =
    let n = c.args.first in
    let p = unset (statement_of c.args.s.now) in
    let known = c.args.known.now in
    let i = c.loop-limit.limit-index in
    let rest = kept n p (drop (i + 1) known) in
    let is = c.changes.ensures n (sets (statement_of c.args.s.now)) (subst (λ (ms : List Bool). IsMarked n (sets (statement_of c.args.s.now)) ms) (sym c.as_slice.ensures.value) c.in_ok-marks.ensures) in
    elim c.if-changes.branch [
      | then-changes+in_ok-push w ↦ ap (λ l. l.items ++ rest) w.limits-is ∙ ap (λ (l : List Limit). l ++ rest) w.in_ok-push.ensures.items ∙ kept_then n p known i _ c.loop-limit.limits.items (kept n p known) c.loop-limit-test.true (sym is ∙ w.if-changes.true) c.loop-limit.invariant
      | else-changes w ↦ ap (λ l. l.items ++ rest) w.limits-is ∙ kept_else n p known i _ c.loop-limit.limits.items (kept n p known) c.loop-limit-test.true (sym is ∙ w.if-changes.false) c.loop-limit.invariant
    ]
