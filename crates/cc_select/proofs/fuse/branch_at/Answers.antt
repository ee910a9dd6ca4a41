use Rattle.std.proofs.Common.{◌≡◌, ◌<◌, ◌+◌, sym, ap, ◌∙◌, get_or}
use Rattle.cc_select.specs.internal.Sets.{holds}
use Rattle.cc_select.specs.internal.Passes.{shown}
use Rattle.cc_select.proofs.Passing.{Tested, last_none, no_test, live_behind, live_there}
use Rattle.cc_select.proofs.fuse.branch_at.Goals.{then-has-via-then-has, then-has-via-else-has+then-has-2}
use Rattle.cc_select.proofs.fuse.branch_at.Goals as goal

pub returns-in_err-get : goal.returns-in_err-get
returns-in_err-get c t h b = c.from_residual.ensures ∙ last_none t c.args.steps.now c.args.at c.in_err-get.ensures.lookup.3

pub returns-in_err-test : goal.returns-in_err-test
returns-in_err-test c t h b = c.from_residual-in_err-test.ensures ∙ no_test t c.args.steps.now c.args.at c.in_ok-get.field-0.now c.in_ok-get.ensures.lookup.3.0 c.in_ok-get.ensures.lookup.1 c.in_err-test.ensures

pub returns-then-has : goal.returns-then-has
returns-then-has c t h b =
    let steps = c.args.steps.now in
    let at = c.args.at in
    let v = shown c.in_ok-test.test in
    let n = c.number-register.result in
    let low : v.register < 32 = c.number-register.ensures.allocatable.1 in
    let same : n ≡ v.register = c.number-register.ensures.number in
    let tested : Tested t steps at c.in_ok-get.field-0.now v = record { inside = c.in_ok-get.ensures.lookup.3.0; next_is = c.in_ok-get.ensures.lookup.1; test_is = c.in_ok-test.ensures } in
    elim c.then-has.branch [
      | then-has-via-then-has w ↦
          live_behind t steps at c.in_ok-get.field-0.now v tested
          (sym (b (at + 1) (record { bits = 0 }) c.in_ok-get.ensures.lookup.3.0 v.register low) ∙ sym (ap (λ r. holds (get_or c.args.behind.now (at + 1) (record { bits = 0 })) r) same) ∙ sym c.has.ensures ∙ w.if-has.true)
      | then-has-via-else-has+then-has-2 w ↦
          live_there t steps at c.in_ok-get.field-0.now v tested
          (sym (h v.to v.register low) ∙ ap (λ s. holds s v.register) (sym w.row.ensures) ∙ sym (ap (λ r. holds w.row.result r) same) ∙ sym w.has-else-has.ensures ∙ w.if-has-2.true)
    ]
