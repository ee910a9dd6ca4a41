use Rattle.std.proofs.Common.{arith}
use Rattle.std.proofs.lemmas.Int.{ints}
use Rattle.cc_range.proofs.Sound.{half_power}
use Rattle.cc_range.proofs.bits.highest.Goals as goal

pub overflow_cast-result : goal.overflow_cast-result
overflow_cast-result c = let lt = half_power 4294967295 c.args.k (omega arith) c.requires.some in omega (arith, ints, lt)

pub returns : goal.returns
returns c = let lt = half_power 4294967295 c.args.k (omega arith) c.requires.some in grind (arith, ints, lt)
