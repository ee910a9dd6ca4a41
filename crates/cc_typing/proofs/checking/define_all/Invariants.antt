use Rattle.std.proofs.Common.{◌≡◌, drop}
use Rattle.cc_ast.specs.Erase.{external_trees}
use Rattle.cc_typing.specs.internal.Counts.{all_defined}
use Rattle.cc_typing.proofs.checking.define_all.Given as goal

abbrev pub invariant-loop-external : goal.invariant-loop-external
invariant-loop-external l = record {
  defined : all_defined (external_trees (drop l.external-index l.externals)) l.functions.defined ≡ all_defined (external_trees l.externals) l.fn.functions.defined;
  before : l.functions.before ≡ l.fn.functions.before;
}
