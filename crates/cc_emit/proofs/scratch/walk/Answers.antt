use Rattle.std.proofs.Common.{rules, ◌+◌, nat_lt, refl, sym, ap, ◌∙◌, subst, arith}
use Rattle.std.specs.Prelude.{if◌then◌else◌}
use Rattle.cc_emit.specs.declared.scratch.Scratch.{Scratch}
use Rattle.cc_emit.specs.Scratch.{loop_weight}
use Rattle.cc_emit.specs.internal.Bases.{base_in}
use Rattle.cc_emit.proofs.Addressing.{so_far_more, so_far_all, known_is, Sized, sized_first, sized_more, sized_all, sized_few}
use Rattle.cc_emit.proofs.scratch.walk.Goals as goal

pub loop-step-init : goal.loop-step-init
loop-step-init c = record {
  noted = search rules;
  sized = subst (λ (k : Scratch). Sized (base_in c.args.bases.now) c.args.sets_pointer c.args.code.now 0 k 0 0) (sym c.nothing-scratch.ensures) (sized_first (base_in c.args.bases.now) c.args.sets_pointer c.args.code.now);
  counted = refl;
  many = search rules;
  room = search rules;
}

pub loop-step-preserved : goal.loop-step-preserved
loop-step-preserved c =
    let base = base_in c.args.bases.now in
    let known = c.remembered-known.ensures in
    let behind = c.go_behind.ensures c.args.sets_pointer known in
    let so_far = c.loop-step.invariant in
    record {
      noted =
          so_far_more base c.args.sets_pointer c.args.code.now c.loop-step.step-index c.loop-step.scratch _ c.step-item.result _ c.loop-step.steps.items _ c.loop-step-test.true c.step-item.is
          (known_is base c.args.sets_pointer c.loop-step.scratch c.step-item.result _ known) c.push_reserved.ensures.items behind so_far.noted;
      sized =
          sized_more base c.args.sets_pointer c.args.code.now c.args.last.now c.loop-step.step-index c.loop-step.scratch _ c.step-item.result _ c.loop-step.accesses _ _ _ c.loop-step.reach _ c.requires.last c.requires.labels c.loop-step-test.true c.step-item.is known behind
          c.step_access_size.ensures.answer c.step_access_size.ensures.few (c.weight.ensures.answer ∙ ap (λ n. if nat_lt n c.loop-step.reach then loop_weight else 1) so_far.counted) refl c.reach_past-reach.ensures so_far.sized;
      counted = ap (λ n. n + 1) so_far.counted;
      many = omega (arith, c.push_reserved.ensures.len, so_far.many);
      room = omega (arith, c.push_reserved.ensures.capacity, so_far.room);
    }

pub returns-clause-steps : goal.returns-clause-steps
returns-clause-steps c = so_far_all (base_in c.args.bases.now) c.args.sets_pointer c.args.code.now c.loop-step.step-index c.loop-step.scratch c.loop-step.steps.items c.loop-step-test.false c.loop-step.invariant.noted

pub returns-clause-accesses : goal.returns-clause-accesses
returns-clause-accesses c = sized_all (base_in c.args.bases.now) c.args.sets_pointer c.args.code.now c.loop-step.step-index c.loop-step.scratch c.loop-step.reach c.loop-step.accesses c.loop-step-test.false c.loop-step.invariant.sized

pub returns-clause-few : goal.returns-clause-few
returns-clause-few c = sized_few (base_in c.args.bases.now) c.args.sets_pointer c.args.code.now c.loop-step.step-index c.loop-step.scratch c.loop-step.reach c.loop-step.accesses c.requires.few c.loop-step.invariant.sized
