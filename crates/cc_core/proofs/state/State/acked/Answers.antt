-- This state is reached, so what holds for all reached contents holds for it.
use Rattle.std.proofs.Common.{subst, All, Contains}
use Rattle.cc_core.specs.Run.{AreRising, EachImageSurvives, EachImageIsRight}
use Rattle.cc_core.proofs.Sound.{reached_IsSound, sound_survives}
use Rattle.cc_core.proofs.Whole.{lawful}
use Rattle.cc_core.proofs.state.State.acked.Goals as goal

pub returns-clause-in_order : goal.returns-clause-in_order
returns-clause-in_order g c =
    subst (λ s. All (Contains s.core.order) s.core.acknowledged) c.self.view_is
    (reached_IsSound g.B.Build.rules g.B.Build.keeps g.B.Build.is_right (lawful g.B.Build.rules g.B.Build.keeps g.B.Build.is_right g.met.B.Build.law) c.self.inside.contents c.self.invariant).core.acked

pub returns-clause-rising : goal.returns-clause-rising
returns-clause-rising g c =
    subst (λ s. AreRising s.core.order) c.self.view_is
    (reached_IsSound g.B.Build.rules g.B.Build.keeps g.B.Build.is_right (lawful g.B.Build.rules g.B.Build.keeps g.B.Build.is_right g.met.B.Build.law) c.self.inside.contents c.self.invariant).core.rising

pub returns-clause-survives : goal.returns-clause-survives
returns-clause-survives g c =
    let rules = g.B.Build.rules in
    let keeps = g.B.Build.keeps in
    let is_right = g.B.Build.is_right in
    let law = lawful rules keeps is_right g.met.B.Build.law in
    let s = c.self.inside.contents in
    subst (λ s. EachImageSurvives s.core) c.self.view_is (sound_survives rules keeps is_right law s.core (reached_IsSound rules keeps is_right law s c.self.invariant).core)

pub returns-clause-right : goal.returns-clause-right
returns-clause-right g c =
    subst (λ s. EachImageIsRight g.B.Build.is_right s.core) c.self.view_is
    (reached_IsSound g.B.Build.rules g.B.Build.keeps g.B.Build.is_right (lawful g.B.Build.rules g.B.Build.keeps g.B.Build.is_right g.met.B.Build.law) c.self.inside.contents c.self.invariant).core.right

pub returns-clause-rising_acked : goal.returns-clause-rising_acked
returns-clause-rising_acked g c =
    subst (λ s. AreRising s.core.acknowledged) c.self.view_is
    (reached_IsSound g.B.Build.rules g.B.Build.keeps g.B.Build.is_right (lawful g.B.Build.rules g.B.Build.keeps g.B.Build.is_right g.met.B.Build.law) c.self.inside.contents c.self.invariant).core.rising_acked
