-- This state is reached, so what holds for all reached contents holds for it.
use Rattle.std.proofs.Common.{◌≡◌, subst}
use Rattle.std.specs.FinMap.{empty}
use Rattle.cc_library.specs.Apply.{AreAccepted}
use Rattle.cc_core.specs.Step.{commands}
use Rattle.cc_core.specs.Run.{EachUnit, live}
use Rattle.cc_core.proofs.Sound.{reached_IsSound}
use Rattle.cc_core.proofs.Whole.{lawful}
use Rattle.cc_core.proofs.state.State.library.Goals as goal

pub returns-clause-replay : goal.returns-clause-replay
returns-clause-replay g c =
    subst (λ s. s.core.library ≡ live s.core.phase s.core.order) c.self.view_is
    (reached_IsSound g.B.Build.rules g.B.Build.keeps g.B.Build.is_right (lawful g.B.Build.rules g.B.Build.keeps g.B.Build.is_right g.met.B.Build.law) c.self.inside.contents c.self.invariant).core.replay

pub returns-clause-units : goal.returns-clause-units
returns-clause-units g c =
    subst (λ s. EachUnit g.B.Build.is_right s.core.library) c.self.view_is
    (reached_IsSound g.B.Build.rules g.B.Build.keeps g.B.Build.is_right (lawful g.B.Build.rules g.B.Build.keeps g.B.Build.is_right g.met.B.Build.law) c.self.inside.contents c.self.invariant).core.units

pub returns-clause-accepted : goal.returns-clause-accepted
returns-clause-accepted g c =
    subst (λ s. AreAccepted empty (commands s.core.order)) c.self.view_is
    (reached_IsSound g.B.Build.rules g.B.Build.keeps g.B.Build.is_right (lawful g.B.Build.rules g.B.Build.keeps g.B.Build.is_right g.met.B.Build.law) c.self.inside.contents c.self.invariant).core.accepted
