-- Whatever a run reaches from a beginning is sound, with "right, or found at the beginning" as the property
-- of units.
use Rattle.std.proofs.Common.{inl, inr}
use Rattle.cc_core.specs.Run.{IsRightOr}
use Rattle.cc_core.proofs.Sound.{run_IsSound, beginning-IsSound, puts_source}
use Rattle.cc_core.proofs.Whole.{IsLawful, lawful, of_source}
use Rattle.cc_core.proofs.Anyhow.{run_anyhow}
use Rattle.cc_core.proofs.laws.crash_law.Goals as goal

pub returns-clause-survives : goal.returns-clause-survives
returns-clause-survives g c = λ first new events started run.
    c.survival_law.ensures.survives first new events started (run_anyhow g.B.Build.rules g.B.Build.keeps first events new run)

pub returns-clause-units : goal.returns-clause-units
returns-clause-units g c = λ first new events started run.
    let rules = g.B.Build.rules in
    let keeps = g.B.Build.keeps in
    let has = IsRightOr g.B.Build.is_right first.core.library in
    let law : IsLawful rules keeps has = λ source pieces unit whole kept is. inr (g.met.B.Build.law source pieces unit whole kept is).1 in
    (run_IsSound rules keeps has law first events new (beginning-IsSound rules keeps has law first started (λ name unit at. inl (name, at))) run).core.right

pub returns-clause-right : goal.returns-clause-right
returns-clause-right g c = λ first new events started units run.
    let rules = g.B.Build.rules in
    let keeps = g.B.Build.keeps in
    let is_right = g.B.Build.is_right in
    let law = lawful rules keeps is_right g.met.B.Build.law in
    (run_IsSound rules keeps is_right law first events new (beginning-IsSound rules keeps is_right law first started units) run).core.right

pub returns-clause-source : goal.returns-clause-source
returns-clause-source g c = λ first new after events client started run.
    let rules = g.B.Build.rules in
    let keeps = g.B.Build.keeps in
    let has = IsRightOr g.B.Build.is_right first.core.library in
    let law : IsLawful rules keeps has = λ source pieces unit whole kept is. inr (g.met.B.Build.law source pieces unit whole kept is).1 in
    let sound = run_IsSound rules keeps has law first events new (beginning-IsSound rules keeps has law first started (λ name unit at. inl (name, at))) run in
    puts_source rules keeps has law (of_source rules keeps g.B.Build.is_right g.met.B.Build.law) client new after sound
