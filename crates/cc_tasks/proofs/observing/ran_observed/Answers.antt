use Rattle.std.proofs.Common.{subst, ap, ◌∙◌}
use Rattle.std.specs.Arc.{arc_value}
use Rattle.cc_ast.specs.Source.{source}
use Rattle.cc_ast.specs.declared.unit.Unit as parsed
use Rattle.cc_c_semantics.specs.Meaning.{observed_behavior}
use Rattle.cc_steps.specs.Observed.{IsExchanged}
use Rattle.cc_tasks.proofs.observing.ran_observed.Goals as goal

pub returns-in-Ok-interpret_exchanges-clause-answer : goal.returns-in-Ok-interpret_exchanges-clause-answer
returns-in-Ok-interpret_exchanges-clause-answer c =
    let done = c.in-Ok-interpret_exchanges.done in
    let words = c.args.words.now in (
      record {
        program = source (arc_value c.in-Ok.program);
        whose = c.in-Ok.ensures.text;
        is = c.in-Ok.ensures.program;
      },
      c.in-Ok-interpret_exchanges.ensures.stop ∙ ap (λ (u : parsed.Unit). (observed_behavior (source u) words c.args.steps).stop) c.deref.ensures,
      subst (λ (u : parsed.Unit). IsExchanged (observed_behavior (source u) words c.args.steps).output words done.exchanges.items) c.deref.ensures c.in-Ok-interpret_exchanges.ensures.exchanges,
    )
