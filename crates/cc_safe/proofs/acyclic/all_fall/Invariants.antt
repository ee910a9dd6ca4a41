-- If the rest of the declarations pass, all pass.
use Rattle.std.proofs.Common.{drop}
use Rattle.cc_safe.specs.internal.Ranks.{AllFall, rank_by}
use Rattle.cc_safe.proofs.acyclic.all_fall.Given as goal

abbrev pub invariant-loop-external : goal.invariant-loop-external
invariant-loop-external l = AllFall (rank_by l.layout l.table) (drop l.external-index l.externals) → AllFall (rank_by l.layout l.table) l.externals
