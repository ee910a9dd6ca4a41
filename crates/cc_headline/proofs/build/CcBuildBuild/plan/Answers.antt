use Rattle.std.proofs.Common.{◌≡◌, ℕ, ◌∙◌, length, Ok, sym, ap, subst, arith}
use Rattle.std.specs.Arc.{arc_value}
use Rattle.cc_ast.specs.Source.{source}
use Rattle.cc_ast.specs.declared.unit.Unit.{Unit as Parsed}
use Rattle.cc_types.specs.Typed.{defined_names}
use Rattle.cc_core.specs.declared.fault.BuildRefusal.{BuildRefusal}
use Rattle.cc_core.specs.Fault.{RefusesPlan}
use Rattle.cc_headline.specs.Plan.{IsPlan}
use Rattle.cc_headline.specs.internal.Refusals.{refused_by}
use Rattle.cc_headline.proofs.Plans.{refused, program_planned, few_functions}
use Rattle.cc_headline.proofs.build.CcBuildBuild.plan.Goals as goal

pub returns-in-Err-clause-refused : goal.returns-in-Err-clause-refused
returns-in-Err-clause-refused c =
    subst (λ (z : BuildRefusal). RefusesPlan z (IsPlan c.args.source.now)) (sym (c.refusal.ensures ∙ ap refused_by c.number.ensures)) (refused c.args.source.now c.in-Err.fault c.in-Err.ensures.refused)

pub overflow_cast-functions : goal.overflow_cast-functions
overflow_cast-functions c =
    let few = few_functions (source (arc_value c.in-Ok.unit)) c.in-Ok.ensures.program.limits in
    let unit = ap (λ (u : Parsed). length (defined_names (source u))) c.deref.ensures in
    let is = c.functions-functions.ensures in
    omega arith

pub returns-in-Ok-clause-answer : goal.returns-in-Ok-clause-answer
returns-in-Ok-clause-answer c =
    let s = source (arc_value c.in-Ok.unit) in
    let count : c.functions-functions.result ≡ length (defined_names s) = c.functions-functions.ensures ∙ ap (λ (u : Parsed). length (defined_names (source u))) c.deref.ensures in
    subst (λ (n : ℕ). IsPlan c.args.source.now (Ok n)) (sym count) (program_planned c.args.source.now s c.in-Ok.ensures.fits c.in-Ok.ensures.program)
