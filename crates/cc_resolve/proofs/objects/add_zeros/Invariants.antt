use Rattle.std.proofs.Common.{◌≡◌, ◌-◌, ◌++◌, replicate}
use Rattle.cc_resolve.proofs.objects.add_zeros.Given as goal

abbrev pub invariant-loop : goal.invariant-loop
invariant-loop l = l.words.items ++ replicate (l.count - l.counter) 0 ≡ l.fn.words.items ++ replicate l.count 0
