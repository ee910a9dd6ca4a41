use Rattle.std.proofs.Common.{◌≡◌, drop}
use Rattle.cc_guard.specs.Held.{held_word}
use Rattle.cc_guard.proofs.held.held_word.Given as goal

-- none of the words so far was the one sought, so a search of the rest, from this variable on, gives what a search of all
-- words gives
abbrev pub invariant-loop-held : goal.invariant-loop-held
invariant-loop-held l = held_word (drop l.held-index l.words) l.variable l.word ≡ held_word l.words l.first l.word
