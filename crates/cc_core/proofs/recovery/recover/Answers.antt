-- The disk of a crashed state can be opened, and what is found on it agrees with the state.
use Rattle.std.proofs.Common.{refl, ◌∙◌}
use Rattle.cc_core.specs.declared.contents.Phase.TheVariants.{Idle}
use Rattle.cc_core.specs.Step.{Reopens}
use Rattle.cc_core.proofs.Possible.{reopens, memory_answers}
use Rattle.cc_core.proofs.Reopening.{recoverable_of, recovers_of, found_reopens}
use Rattle.cc_core.proofs.recovery.recover.Goals as goal

pub reopen-requires-clause-recovers : goal.reopen-requires-clause-recovers
reopen-requires-clause-recovers c =
    let r = recoverable_of c.args.core.now c.requires c.in-Crashed.is in
    (r.library, recovers_of c.args.core.now.store c.args.core.now.order r)

pub returns : goal.returns
returns c =
    let old = c.args.core.now in
    let library = c.in-Ok.library in
    let found = c.in-Ok.ensures.answer in (
      found_reopens old c.enter.new.self library c.in-Ok.used found.0 found.1 c.drop_undone.new.order c.requires c.in-Crashed.is
          found.2 c.in-Ok.area_byte found.3 c.drop_undone.ensures
          (c.enter.ensures ∙ (λ i. record {
            library = library;
            order = c.drop_undone.new.order;
            acknowledged = old.acknowledged;
            phase = Idle;
            store = c.take_area.ensures i;
            upcoming = old.upcoming;
          })),
      λ e. absurd (cc),
      λ e. absurd (cc),
      tt,
    )

pub returns-in_default-reopen : goal.returns-in_default-reopen
returns-in_default-reopen c =
    memory_answers (Reopens c.args.core.now) _ c.args.core.now c.args.core.now refl refl (reopens c.args.core.now c.in-Crashed.is (recoverable_of c.args.core.now c.requires c.in-Crashed.is)) refl
