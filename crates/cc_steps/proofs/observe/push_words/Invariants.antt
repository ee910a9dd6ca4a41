-- The words so far have been appended.
use Rattle.std.proofs.Common.{◌≡◌, ◌++◌, map, take}
use Rattle.cc_meaning.specs.declared.outcome.Event.TheVariants.{Wrote}
use Rattle.cc_steps.proofs.observe.push_words.Given as goal

abbrev pub invariant-loop-word : goal.invariant-loop-word
invariant-loop-word l = l.events.items ≡ l.initial.events.items ++ map Wrote (take l.word-index l.words)
