use Rattle.std.proofs.Common.{◌≡◌, drop, None}
use Rattle.cc_ast.specs.Erase.{external_trees}
use Rattle.cc_types.specs.Counts.{count_after}
use Rattle.cc_types.specs.Limits.{function_names}
use Rattle.cc_typing.proofs.limits.past_functions.Given as goal

abbrev pub invariant-loop-external : goal.invariant-loop-external
invariant-loop-external l =
    count_after l.count (function_names (external_trees (drop l.external-index l.externals))) ≡ count_after (record { most = 64; names = 0; past = None }) (function_names (external_trees l.externals))
