-- The nodes of this many labels, if they are pure, are nops.
use Rattle.std.proofs.Common.{◌≡◌, take}
use Rattle.cc_rtl_language.specs.Code.{labelled_of}
use Rattle.cc_rtl_language.specs.Live.{with_nops}
use Rattle.cc_rtl_language.proofs.Nops.{these}
use Rattle.cc_rtl_language.proofs.dead.make_all_nops.Given as goal

abbrev pub invariant-loop-label : goal.invariant-loop-label
invariant-loop-label l = labelled_of l.nodes.entries ≡ with_nops (these (take l.label-index l.labels)) (labelled_of l.initial.nodes.entries)
