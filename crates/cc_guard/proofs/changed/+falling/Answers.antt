-- Control reaches the end of a sequence exactly if it reaches the end of the last statement of its list.
use Rattle.std.proofs.Common.{◌∙◌, ap}
use Rattle.cc_cminor_language.specs.Cminor as cminor
use Rattle.cc_cminor_language.specs.Statements.{statements_of}
use Rattle.cc_guard.specs.Guard.{falls}
use Rattle.cc_guard.proofs.Writing.{last_is, same_sequence}
use Rattle.cc_guard.proofs.changed.+falling.Goals as goal

pub falls-returns-in-Sequence : goal.falls-returns-in-Sequence
falls-returns-in-Sequence t c = c.last_falls.ensures ∙ ap (λ (x : cminor.Statement). falls x) (same_sequence c.args.s.now c.in-Sequence.all c.as_slice.result.now c.in-Sequence.is c.as_slice.ensures.value)

pub last_falls-loop-s-init : goal.last_falls-loop-s-init
last_falls-loop-s-init t c = last_is (statements_of c.args.all.now)
