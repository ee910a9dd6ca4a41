-- A step begins at reachable contents, which meet what a step requires; an error leaves the contents unchanged.
use Rattle.cc_core.proofs.Runs.{Reached-step}
use Rattle.cc_core.proofs.Sound.{reached_IsSound, sound_ready}
use Rattle.cc_core.proofs.Whole.{lawful}
use Rattle.cc_core.proofs.state.State.step.Goals as goal

pub take_step-requires : goal.take_step-requires
take_step-requires g c =
    let rules = g.B.Build.rules in
    let keeps = g.B.Build.keeps in
    let is_right = g.B.Build.is_right in
    let law = lawful rules keeps is_right g.met.B.Build.law in
    let s = c.self.inside.contents in
    sound_ready rules keeps is_right law s.core (reached_IsSound rules keeps is_right law s c.self.invariant).core

pub invariant_of-self : goal.invariant_of-self
invariant_of-self g c =
    Reached-step g.B.Build.rules g.B.Build.keeps g.B.Build.is_right c.self.inside.contents c.args.event c.take_step.result c.take_step.new.contents c.self.invariant c.take_step.ensures.answers
    c.take_step.ensures.puts c.take_step.ensures.hands
