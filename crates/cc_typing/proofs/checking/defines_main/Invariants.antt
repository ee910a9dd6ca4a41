use Rattle.std.proofs.Common.{◌≡◌, drop}
use Rattle.cc_ast.specs.Erase.{external_trees}
use Rattle.cc_types.specs.Rules.{defines_main}
use Rattle.cc_typing.proofs.checking.defines_main.Given as goal

abbrev pub invariant-loop-external : goal.invariant-loop-external
invariant-loop-external l = defines_main (external_trees (drop l.external-index l.externals)) ≡ defines_main (external_trees l.externals)
