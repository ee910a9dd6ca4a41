-- If the fault is 59, it comes from the stages of the text's unit.
use Rattle.std.proofs.Common.{◌≡◌, Err, ap}
use Rattle.std.specs.Arc.{arc_value}
use Rattle.cc_ast.specs.Source.{source}
use Rattle.cc_stages.specs.declared.fault.StagesFault.TheVariants as stages
use Rattle.cc_tasks.proofs.Showing.{unknown_stage, unknown_in}
use Rattle.cc_tasks.proofs.stages.show.Goals as goal

pub returns-clause-unknown : goal.returns-clause-unknown
returns-clause-unknown g c = λ is.
    let told : c.in-Err-stages.fault ≡ stages.UnknownFunction = unknown_stage c.in-Err-stages.fault (let made = c.fault_of.ensures in let h = is in cc) in
    unknown_in c.args.text.now (source (arc_value c.in-Ok.unit)) (λ name. name.now) c.in-Ok.ensures.text c.in-Ok.ensures.program c.args.function (c.in-Err-stages.ensures.unknown_only (ap Err told))
