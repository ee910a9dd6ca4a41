-- The dead nodes may become nops, and the labels name exactly these.
use Rattle.std.proofs.Common.{◌≡◌, ◌∙◌, ap, sym, subst, List, All}
use Rattle.std.specs.Prelude.{IsSome}
use Rattle.cc_rtl_language.specs.Rtl.{Rtl, Labelled, node_at}
use Rattle.cc_rtl_language.specs.Live.{MayBecomeNops, with_nops}
use Rattle.cc_rtl_language.specs.Pair.{Pair}
use Rattle.cc_rtl_language.proofs.Nops.{these}
use Rattle.cc_live.specs.Rows.{rows_at}
use Rattle.cc_live.specs.internal.Dead.{dead_labels}
use Rattle.cc_live.proofs.Dropped.{may_go, dead_there, without_labels}
use Rattle.cc_live.proofs.dead.drop_by.Goals as goal

pub make_nops-requires-clause-there : goal.make_nops-requires-clause-there
make_nops-requires-clause-there c =
    let nodes = c.args.pair.now.rtl.nodes in
    let live = rows_at nodes c.args.live.now in
    let named : c.as_slice.result.now ≡ dead_labels live nodes = c.as_slice.ensures.value ∙ (c.in_ok-labels.ensures ∙ ap (λ (r : Rtl). dead_labels (rows_at r.nodes c.args.live.now) r.nodes) c.code.ensures.code) in
    subst (λ ls. All (λ l. IsSome (node_at nodes l)) ls) (sym named) (dead_there live nodes)

pub make_nops-requires-clause-dead : goal.make_nops-requires-clause-dead
make_nops-requires-clause-dead c =
    let nodes = c.args.pair.now.rtl.nodes in
    let live = rows_at nodes c.args.live.now in
    let named : c.as_slice.result.now ≡ dead_labels live nodes = c.as_slice.ensures.value ∙ (c.in_ok-labels.ensures ∙ ap (λ (r : Rtl). dead_labels (rows_at r.nodes c.args.live.now) r.nodes) c.code.ensures.code) in
    subst (λ ls. MayBecomeNops nodes (these ls)) (sym named) (may_go live nodes c.code.ensures.rtl.ascend c.requires)

pub returns-clause-dropped : goal.returns-clause-dropped
returns-clause-dropped c =
    let pair = c.args.pair.now in
    let nodes = pair.rtl.nodes in
    let live = rows_at nodes c.args.live.now in
    let named : c.as_slice.result.now ≡ dead_labels live nodes = c.as_slice.ensures.value ∙ (c.in_ok-labels.ensures ∙ ap (λ (r : Rtl). dead_labels (rows_at r.nodes c.args.live.now) r.nodes) c.code.ensures.code) in
    c.make_nops.ensures
    ∙ ap {B = Pair} (λ (ns : List Labelled). record { mode = pair.mode; unit = pair.unit; function = pair.function; rtl = record { parameters = pair.rtl.parameters; entry = pair.rtl.entry; nodes = ns } })
    (ap (λ ls. with_nops (these ls) nodes) named ∙ without_labels live nodes c.code.ensures.rtl.ascend)
