use Rattle.std.proofs.Common.{◌≡◌, drop}
use Rattle.cc_ast.specs.Erase.{object_trees}
use Rattle.cc_typing.specs.internal.Counts.{word_count, words_after}
use Rattle.cc_typing.proofs.limits.Words.add_all.Given as goal

abbrev pub invariant-loop-object : goal.invariant-loop-object
invariant-loop-object l = words_after (word_count l.self) (object_trees (drop l.object-index l.objects)) ≡ words_after (word_count l.fn.self) (object_trees l.objects)
