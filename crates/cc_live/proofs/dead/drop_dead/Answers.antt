-- Live sets are strongly live.
use Rattle.std.proofs.Common.{sym, subst, List, ℕ}
use Rattle.cc_live.specs.Rows.{rows_at}
use Rattle.cc_live.specs.Liveness.{AreStronglyLive}
use Rattle.cc_live.proofs.Dropped.{are_strongly}
use Rattle.cc_live.proofs.dead.drop_dead.Goals as goal

pub drop_by-requires : goal.drop_by-requires
drop_by-requires c =
    let nodes = c.args.pair.now.rtl.nodes in
    subst (λ (rows : List (List ℕ)). AreStronglyLive nodes (rows_at nodes rows)) (sym c.as_slice.ensures) (are_strongly nodes (rows_at nodes c.args.live.now) c.requires)
