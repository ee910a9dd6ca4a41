use Rattle.std.proofs.Common.{ap, ◌∙◌, subst}
use Rattle.cc_pool.specs.declared.rule.Hand.{Hand}
use Rattle.cc_pool.specs.Queue.{known}
use Rattle.cc_pool.specs.Rule.{is_live}
use Rattle.cc_pool.specs.internal.AllTaken.{AllTaken}
use Rattle.cc_pool.proofs.Rules.{takes, sees, all_taken}
use Rattle.cc_pool.proofs.ends.Ends.try_take.Goals as goal
use Rattle.cc_pool.proofs.ends.Ends.try_take.Goals.{in-Ok, in-Err}

pub try_recv_as-requires-clause-rule : goal.try_recv_as-requires-clause-rule
try_recv_as-requires-clause-rule g c = (takes _ _ (ap (λ v. is_live v.role) c.seat.view_is ∙ c.requires), sees _ _)

pub returns-clause-none : goal.returns-clause-none
returns-clause-none g c =
    elim c.match-try_recv_as.branch [
      | in-Ok w ↦ rw w.result-is tt
      | in-Err w ↦ let r = w.in-Err.ensures.rule in rw w.result-is (r.0 ∙ c.seat.view_is, subst (λ (v : Hand). AllTaken v) c.seat.view_is (all_taken (known c.seat.inside.pass) r.1))
    ]
