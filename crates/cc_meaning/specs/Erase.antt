-- The code's result, in terms of the definitions.
use Rattle.std.specs.Prelude.{ℕ, List, [], ◌∷◌}
use Rattle.cc_words.specs.Observed.{read_mark}
use Rattle.cc_c_semantics.specs.Outcome as outcome
use Rattle.cc_meaning.specs.declared.outcome.Stop.{Stop}
use Rattle.cc_meaning.specs.declared.outcome.Stop.TheVariants.{Going, Ended, Wrong}
use Rattle.cc_meaning.specs.declared.outcome.Outcome.{Outcome}
use Rattle.cc_meaning.specs.declared.outcome.Event.{Event}
use Rattle.cc_meaning.specs.declared.outcome.Event.TheVariants.{Read, Wrote}
use Rattle.cc_meaning.specs.declared.outcome.Observed.{Observed}

-- how the run stopped
abbrev pub stop_tree : Stop → outcome.Stop ℕ
stop_tree Going = outcome.Going
stop_tree (Ended w) = outcome.Ended w
stop_tree (Wrong c) = outcome.Wrong c

-- the outcome
abbrev pub outcome_tree : Outcome → outcome.Outcome ℕ
outcome_tree o = record { stop = stop_tree o.stop; output = o.output }

-- what an event is in an output: the word that is written, or the mark of a read
abbrev pub event_tree : Event → ℕ
event_tree Read = read_mark
event_tree (Wrote w) = w

-- the output that shows these events
abbrev pub events_tree : List Event → List ℕ
events_tree [] = []
events_tree (e ∷ es) = event_tree e ∷ events_tree es

-- the outcome, with its reads
abbrev pub observed_tree : Observed → outcome.Outcome ℕ
observed_tree o = record { stop = stop_tree o.stop; output = events_tree o.events }
