use Rattle.std.proofs.Common.{◌≡◌, length, drop, reverse}
use Rattle.cc_rtl.specs.internal.Generating.{made_at}
use Rattle.cc_rtl.proofs.Making.{Goes_back}
use Rattle.cc_rtl.proofs.generate.statements.+code.Given as goal

abbrev pub invariant-sequence-loop-s : goal.invariant-sequence-loop-s
invariant-sequence-loop-s l =
    Goes_back l.count l.fn.exits.items (reverse l.all) (made_at l.exit l.fn.graph) l.entry l.graph (drop (length l.yielded) (reverse l.all)) × (l.exits.items ≡ l.fn.exits.items)
