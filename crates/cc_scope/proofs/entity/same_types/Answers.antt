-- The types are compared parameter by parameter; lists of different lengths differ.
use Rattle.std.proofs.Common.{sym, refl}
use Rattle.cc_scope.proofs.SameTypes.{types-of-other-lengths}
use Rattle.cc_scope.proofs.entity.same_types.Goals as goal

pub returns-then-one-other : goal.returns-then-one-other
returns-then-one-other c = sym (types-of-other-lengths c.args.one.now c.args.other.now c.if-one-other.true)

pub loop-index-init : goal.loop-index-init
loop-index-init c = refl
