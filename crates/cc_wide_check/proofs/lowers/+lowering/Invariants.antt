-- The rest passes if and only if all do.
use Rattle.std.proofs.Common.{◌≡◌, drop}
use Rattle.cc_wide_check.specs.internal.Lowers.{all_lower, unlabelled_lower}
use Rattle.cc_wide_check.specs.internal.Views.{around_of, wide_of}
use Rattle.cc_wide_check.proofs.lowers.+lowering.Given as goal

abbrev pub invariant-all_lower-loop-s : goal.invariant-all_lower-loop-s
invariant-all_lower-loop-s l =
    all_lower l.most (around_of l.around) l.depth (wide_of (drop l.s-index l.all)) ≡ all_lower l.most (around_of l.around) l.depth (wide_of l.all)

abbrev pub invariant-unlabelled_lower-loop-s : goal.invariant-unlabelled_lower-loop-s
invariant-unlabelled_lower-loop-s l =
    unlabelled_lower l.most (around_of l.around) l.depth (wide_of (drop l.s-index l.all)) ≡ unlabelled_lower l.most (around_of l.around) l.depth (wide_of l.all)
