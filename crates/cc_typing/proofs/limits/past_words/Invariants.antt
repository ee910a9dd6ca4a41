use Rattle.std.proofs.Common.{◌≡◌, drop, None}
use Rattle.cc_ast.specs.Erase.{external_trees}
use Rattle.cc_typing.specs.internal.Counts.{word_count, words_after}
use Rattle.cc_types.specs.Limits.{objects}
use Rattle.cc_typing.proofs.limits.past_words.Given as goal

abbrev pub invariant-loop-external : goal.invariant-loop-external
invariant-loop-external l =
    words_after (word_count l.words) (objects (external_trees (drop l.external-index l.externals))) ≡ words_after (record { taken = 0; past = None }) (objects (external_trees l.externals))
