-- The ranks of the table fall from call to call, and the rank of `main` is low enough.
use Rattle.std.proofs.Common.{ℕ, ◌<◌, List, subst, arith}
use Rattle.std.specs.List.{AllByRecursion}
use Rattle.cc_ast.specs.Tree.{External}
use Rattle.cc_c_semantics.specs.Meaning.{functions, most_open}
use Rattle.cc_depth.specs.Cycles.{CallsLower}
use Rattle.cc_safe.specs.internal.Ranks.{rank_by}
use Rattle.cc_safe.proofs.acyclic.is_acyclic.Goals as goal

pub returns : goal.returns
returns c =
    let rank = rank_by c.in_ok-layout.layout c.as_slice-rows.result.now in
    let low : c.rank_of-main.result < most_open = omega (arith, c.if-main-ge-MOST_OPEN.false) in
    λ is. record {
      rank = rank;
      falls = subst (λ (es : List External). AllByRecursion (CallsLower rank) (functions es)) c.externals-externals.ensures.tree (c.all_fall.ensures is);
      low = subst (λ (n : ℕ). n < most_open) c.rank_of-main.ensures low;
    }
