-- Each expression needs at least one node.
use Rattle.std.proofs.Common.{arith}
use Rattle.cc_cminor_language.specs.Code.{expression_of}
use Rattle.cc_rtl.proofs.Sizes.{some_nodes}
use Rattle.cc_rtl.proofs.size.+values.Goals as goal

pub room_behind-returns-then-room-eq0 : goal.room_behind-returns-then-room-eq0
room_behind-returns-then-room-eq0 t c = let some = some_nodes (expression_of c.args.e.now) in let none = c.if-room-eq0.true in omega arith
