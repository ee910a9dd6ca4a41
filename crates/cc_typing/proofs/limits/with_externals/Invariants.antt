use Rattle.std.proofs.Common.{◌≡◌, drop}
use Rattle.cc_ast.specs.Erase.{external_trees}
use Rattle.cc_typing.specs.internal.Findings.{noted}
use Rattle.cc_types.specs.Limits.{externals_excesses}
use Rattle.cc_typing.proofs.limits.with_externals.Given as goal

abbrev pub invariant-loop-external : goal.invariant-loop-external
invariant-loop-external l = noted l.first (externals_excesses (external_trees (drop l.external-index l.externals))) ≡ noted l.fn.first (externals_excesses (external_trees l.externals))
