-- A run goes on by one turn, and a step from contents that are reached leads to contents that are reached.
use Rattle.std.proofs.Common.{inl, List, [], ◌∷◌, ◌++◌, Option, Result, Ok, Err, refl, sym, subst}
use Rattle.std.specs.Prelude.{OnOk}
use Rattle.cc_unit.specs.declared.unit.StoredUnit.{StoredUnit}
use Rattle.cc_core.specs.declared.command.Reply.{Reply}
use Rattle.cc_core.specs.declared.contents.Contents.{Contents}
use Rattle.cc_core.specs.declared.event.Event.{Event}
use Rattle.cc_core.specs.declared.fault.CoreFault.{CoreFault}
use Rattle.cc_core.specs.Rules.{Rules}
use Rattle.cc_core.specs.Step.{Step}
use Rattle.cc_core.specs.Run.{Turn, Run, Reached, PutsCommand, HandsIn}
use Rattle.cc_core.specs.internal.Answers.{Answers}

module _ {P : Type 0} (rules : Rules P) (keeps : P → Type 0) where
  -- a run followed by one more turn is a run
  pub Run-push : (old : Contents P) (events : List (Event P)) (mid : Contents P) (e : Event P) (new : Contents P) → Run rules keeps old events mid → Turn rules keeps mid e new → Run rules keeps old (events ++ e ∷ []) new
  Run-push old [] mid e new run turn = (new, (subst (λ s. Turn rules keeps s e new) run turn, refl))
  Run-push old (first ∷ events) mid e new run turn = (run.0, (run.1.0, Run-push run.0 events mid e new run.1.1 turn))

  -- a step from contents that are reached leads to contents that are reached; a refused event changes nothing
  pub Reached-step : (is_right : StoredUnit → Type 0) (old : Contents P) (e : Event P) (result : Result (Option Reply) CoreFault) (new : Contents P)
      → Reached rules keeps is_right old → Answers (Step rules old e) result old new → OnOk result (PutsCommand old.core new.core) → OnOk result (HandsIn keeps e) → Reached rules keeps is_right new
  Reached-step is_right old e (Ok reply) new reached a puts hands = record {
    first = reached.first;
    started = reached.started;
    right = reached.right;
    events = reached.events ++ e ∷ [];
    run = Run-push _ reached.events old e new reached.run (inl (reply, a.0, puts, hands));
  }
  Reached-step is_right old e (Err fault) new reached a puts hands = subst (Reached rules keeps is_right) (sym a.3) reached
