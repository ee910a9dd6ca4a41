-- What is known after a sequence is what is known after the list of its statements.
use Rattle.std.proofs.Common.{◌∙◌, ap}
use Rattle.cc_cminor_language.specs.Cminor as cminor
use Rattle.cc_cminor_language.proofs.Codes.{if_ok}
use Rattle.cc_guard.specs.Guard.{known_after}
use Rattle.cc_guard.specs.internal.Written.{sizes_of}
use Rattle.cc_guard.proofs.Writing.{same_sequence}
use Rattle.cc_guard.proofs.after.+after.Goals as goal

pub after-returns-in-Sequence : goal.after-returns-in-Sequence
after-returns-in-Sequence t c =
    let same = same_sequence c.args.s.now c.in-Sequence.all c.as_slice-in-Sequence.result.now c.in-Sequence.is c.as_slice-in-Sequence.ensures.value in
    if_ok _ _ c.after_all.result (λ s h. h ∙ ap (λ (x : cminor.Statement). known_after (sizes_of c.args.sizes.now) c.args.first c.args.known.now x) same) c.after_all.ensures
