use Rattle.std.proofs.Common.{◌≡◌, true, sym, ap, ◌∙◌, subst}
use Rattle.cc_rv32.specs.Simulation.{Simulation}
use Rattle.cc_rv32.specs.InPlace.{is_in_place}
use Rattle.cc_rv32.proofs.InPlace.{stays_after, stays_on}
use Rattle.cc_rv32.proofs.machine.Machine.is_in_place.Goals as goal

pub returns-clause-exact : goal.returns-clause-exact
returns-clause-exact c = c.is_in_place.ensures ∙ ap is_in_place c.self.view_is

pub returns-clause-for_ever : goal.returns-clause-for_ever
returns-clause-for_ever c = λ yes image input done more a.
    stays_after image input done more c.args.self.now (subst (λ (s : Simulation). is_in_place s ≡ true) c.self.view_is (sym c.is_in_place.ensures ∙ yes)) a

pub returns-clause-fed : goal.returns-clause-fed
returns-clause-fed c = λ yes image input given done more a.
    stays_on image input given done more c.args.self.now (subst (λ (s : Simulation). is_in_place s ≡ true) c.self.view_is (sym c.is_in_place.ensures ∙ yes)) a
