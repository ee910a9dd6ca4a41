-- If a command's unit is right, each unit of the map stays right; the same holds for "right or found". The empty map has no
-- units.
use Rattle.cc_core.specs.Run.{IsRightOr}
use Rattle.cc_core.proofs.Orders.{EachUnit-after, EachUnit-empty}
use Rattle.cc_core.proofs.laws.units_law.Goals as goal

pub returns-clause-right : goal.returns-clause-right
returns-clause-right g c = EachUnit-after g.B.Build.is_right

pub returns-clause-found : goal.returns-clause-found
returns-clause-found g c = λ base. EachUnit-after (IsRightOr g.B.Build.is_right base)

pub returns-clause-none : goal.returns-clause-none
returns-clause-none g c = EachUnit-empty g.B.Build.is_right
