-- An exit in a sequence leaves the block exactly if an exit in one of the statements of its list does.
use Rattle.std.proofs.Common.{◌∙◌, ap}
use Rattle.cc_cminor_language.specs.Cminor as cminor
use Rattle.cc_cminor_language.proofs.Codes.{if_ok}
use Rattle.cc_guard.specs.Guard.{leaves}
use Rattle.cc_guard.proofs.Writing.{same_sequence}
use Rattle.cc_guard.proofs.changed.+leaving.Goals as goal

pub leaves-returns-in-Sequence : goal.leaves-returns-in-Sequence
leaves-returns-in-Sequence t c =
    let same = same_sequence c.args.s.now c.in-Sequence.all c.as_slice.result.now c.in-Sequence.is c.as_slice.ensures.value in
    if_ok _ _ c.any_leaves.result (λ s h. h ∙ ap (λ (x : cminor.Statement). leaves c.args.outer x) same) c.any_leaves.ensures
