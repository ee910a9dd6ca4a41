-- Each turn lists one more label if its node is dead.
use Rattle.std.proofs.Common.{◌∙◌, ap, sym, refl, arith}
use Rattle.std.proofs.lemmas.List.{take_all}
use Rattle.cc_rtl_language.specs.Rtl.{Labelled}
use Rattle.cc_rtl_language.specs.Code.{node_of}
use Rattle.cc_live.specs.Rows.{rows_at}
use Rattle.cc_live.specs.internal.Dead.{dead_labels}
use Rattle.cc_live.proofs.Listing.{leads_on, dead_more, alive_more}
use Rattle.cc_live.proofs.dead.dead_labels.Goals as goal
use Rattle.cc_live.proofs.dead.dead_labels.Goals.{then-is_dead+in_ok-push, else-is_dead}

pub is_dead-requires : goal.is_dead-requires
is_dead-requires c =
    let n : Labelled = record { label = c.loop-at.at; node = node_of c.node.result.now } in
    leads_on c.args.rtl.now.nodes c.loop-at.at n c.node.ensures c.args.rtl.now c.len-at-end.ensures.rtl refl

pub loop-at-preserved : goal.loop-at-preserved
loop-at-preserved c =
    let ns = c.args.rtl.now.nodes in
    let i = c.loop-at.at in
    let n : Labelled = record { label = i; node = node_of c.node.result.now } in
    let live = rows_at ns c.args.live.now in
    elim c.if-is_dead.branch [
      | then-is_dead+in_ok-push w ↦
          dead_more ns i n c.node.ensures live c.loop-at.labels.items c.if-is_dead.labels.items c.loop-at.invariant
          (sym c.is_dead.ensures ∙ w.if-is_dead.true) (ap (λ v. v.items) w.labels-is ∙ w.in_ok-push.ensures.items)
      | else-is_dead w ↦ ap (λ v. v.items) w.labels-is ∙ alive_more ns i n c.node.ensures live c.loop-at.labels.items c.loop-at.invariant (sym c.is_dead.ensures ∙ w.if-is_dead.false)
    ]

pub returns : goal.returns
returns c =
    let ns = c.args.rtl.now.nodes in
    let e = c.len-at-end.ensures.count in
    let t = c.loop-at-test.false in
    c.loop-at.invariant ∙ ap (dead_labels (rows_at ns c.args.live.now)) (take_all c.loop-at.at ns (omega (arith, e, t)))
