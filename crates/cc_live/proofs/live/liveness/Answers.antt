-- The answer is the solver's, for plain live sets.
use Rattle.std.proofs.Common.{sym, subst, ℕ, List}
use Rattle.cc_rtl_language.specs.Live.{AreLive}
use Rattle.cc_live.specs.Rows.{rows_at}
use Rattle.cc_live.specs.Liveness.{LieWithin}
use Rattle.cc_live.proofs.Solved.{plainly, as_plain}
use Rattle.cc_live.proofs.live.liveness.Goals as goal

pub returns-clause-live : goal.returns-clause-live
returns-clause-live c =
    let nodes = c.args.rtl.now.nodes in
    subst (λ (rows : List (List ℕ)). AreLive nodes (rows_at nodes rows)) (sym c.new.ensures) (plainly nodes (rows_at nodes c.in_ok-solve.field-0.items) c.in_ok-solve.ensures.least.are_live)

pub returns-clause-least : goal.returns-clause-least
returns-clause-least c other are =
    let nodes = c.args.rtl.now.nodes in
    subst (λ (rows : List (List ℕ)). LieWithin (rows_at nodes rows) other) (sym c.new.ensures) (c.in_ok-solve.ensures.least.least other (as_plain nodes other are))
