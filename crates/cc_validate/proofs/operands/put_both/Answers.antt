-- One equation is added, and then the other.
use Rattle.std.proofs.Common.{◌∷◌, []}
use Rattle.cc_ltl.specs.declared.location.Location.TheVariants.{Register}
use Rattle.cc_validate.specs.Equations.{equation}
use Rattle.cc_validate.proofs.Carried.{with_more}
use Rattle.cc_validate.proofs.operands.put_both.Goals as goal

pub returns : goal.returns
returns c =
    with_more (equation c.args.one (Register c.args.one_place) ∷ []) c.args.before.now c.put.new.before c.put-2.new.before (equation c.args.other (Register c.args.other_place)) c.in_ok-put.ensures c.in_ok-put-2.ensures
