-- One row changes, seen as a list.
use Rattle.std.proofs.Common.{◌≡◌, ◌++◌, ◌∷◌, [], ap, ◌∙◌, rules}
use Rattle.cc_flow.specs.Flow.{successors_of, rows_of}
use Rattle.cc_flow.proofs.Edges.{row_is, row_set, row_kept}
use Rattle.cc_flow.proofs.graph.push_in.Goals as goal

pub returns-in_err-push-clause-leaves : goal.returns-in_err-push-clause-leaves
returns-in_err-push-clause-leaves c =
    let old : c.index_mut.result.now.items ≡ successors_of (rows_of c.args.rows.now.items) c.args.at = ap (λ v. v.items) c.index_mut.ensures.value ∙ row_is c.args.rows.now.items c.args.at c.index_mut.result.now c.requires in
    let kept = row_kept c.args.rows.now.items c.args.at c.push.new.self (ap (λ v. v.items) c.in_err-push.ensures.err ∙ old) in
    search rules

pub returns-clause-added : goal.returns-clause-added
returns-clause-added c =
    let old : c.index_mut.result.now.items ≡ successors_of (rows_of c.args.rows.now.items) c.args.at = ap (λ v. v.items) c.index_mut.ensures.value ∙ row_is c.args.rows.now.items c.args.at c.index_mut.result.now c.requires in
    row_set c.args.rows.now.items c.args.at c.push.new.self (successors_of (rows_of c.args.rows.now.items) c.args.at ++ c.args.node ∷ []) (c.in_ok-push.ensures.ok ∙ ap (λ xs. xs ++ c.args.node ∷ []) old)
