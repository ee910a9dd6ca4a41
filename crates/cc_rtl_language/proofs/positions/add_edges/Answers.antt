-- Two edges are added to one row.
use Rattle.std.proofs.Common.{◌∷◌, [], ◌++◌, sym, ap, ◌∙◌, map, set, get_or}
use Rattle.cc_rtl_language.specs.Code.{node_of}
use Rattle.cc_rtl_language.specs.Rtl.{successors}
use Rattle.cc_rtl_language.specs.Positions.{position_of}
use Rattle.cc_rtl_language.proofs.Places.{two_edges}
use Rattle.cc_rtl_language.proofs.positions.add_edges.Goals as goal

pub returns-in_ok-add_edge-in-Branch-2 : goal.returns-in_ok-add_edge-in-Branch-2
returns-in_ok-add_edge-in-Branch-2 c =
    let old = c.args.graph.now in
    let at = c.args.at in
    let place = position_of c.args.rtl.now.nodes in
    let first = c.in_ok-add_edge-in-Branch.ensures.added ∙ ap (λ p. set old at (get_or old at [] ++ p ∷ [])) c.position.ensures.position in
    let second = c.in_ok-add_edge-in-Branch-2.ensures.added ∙ ap (λ p. set c.add_edge.new.self at (get_or c.add_edge.new.self at [] ++ p ∷ [])) c.position-in-Branch.ensures.position in
    two_edges old c.add_edge.new.self c.add_edge-in-Branch.new.self at (place c.in-Branch.if_nonzero) (place c.in-Branch.if_zero) c.requires.at first second
    ∙ ap (λ n. set old at (get_or old at [] ++ map place (successors (node_of n)))) (sym c.in-Branch.is)
