-- Each turn makes one node a nop, if it is pure.
use Rattle.std.proofs.Common.{◌∙◌, ap, sym, subst, take, get_or}
use Rattle.std.specs.Prelude.{IsSome}
use Rattle.std.proofs.lemmas.List.{take_all}
use Rattle.cc_rtl_language.specs.Rtl.{Ascend, node_at}
use Rattle.cc_rtl_language.specs.Code.{labelled_of}
use Rattle.cc_rtl_language.specs.Live.{with_nops}
use Rattle.cc_rtl_language.proofs.Nops.{these, none_yet, ascend_turned, some_turned, turn_more}
use Rattle.cc_rtl_language.proofs.dead.make_all_nops.Goals as goal

pub loop-label-init : goal.loop-label-init
loop-label-init c = sym (none_yet (labelled_of c.args.nodes.now.entries))

pub make_nop-requires-clause-ascend : goal.make_nop-requires-clause-ascend
make_nop-requires-clause-ascend c = subst Ascend (sym c.loop-label.invariant) (ascend_turned (these (take c.loop-label.label-index c.args.labels.now)) (labelled_of c.args.nodes.now.entries) c.requires.ascend)

pub make_nop-requires-clause-there : goal.make_nop-requires-clause-there
make_nop-requires-clause-there c =
    let label = get_or c.args.labels.now c.loop-label.label-index 0 in
    subst (λ ms. IsSome (node_at ms label)) (sym c.loop-label.invariant)
    (some_turned (these (take c.loop-label.label-index c.args.labels.now)) (labelled_of c.args.nodes.now.entries) label (c.requires.there c.loop-label.label-index 0 c.loop-label-test.true))

pub loop-label-preserved : goal.loop-label-preserved
loop-label-preserved c =
    turn_more (labelled_of c.args.nodes.now.entries) (labelled_of c.loop-label.nodes.entries) (labelled_of c.make_nop.new.nodes.entries) c.args.labels.now c.loop-label.label-index c.loop-label.invariant c.make_nop.ensures c.loop-label-test.true

pub returns : goal.returns
returns c = c.loop-label.invariant ∙ ap (λ ls. with_nops (these ls) (labelled_of c.args.nodes.now.entries)) (take_all c.loop-label.label-index c.args.labels.now c.loop-label-test.false)
