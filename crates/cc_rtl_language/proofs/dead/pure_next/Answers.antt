-- The answer is that of the node under the label, compared with its nop.
use Rattle.std.proofs.Common.{◌≡◌, ◌∙◌, ap, sym, subst, refl, option_map}
use Rattle.cc_rtl_language.specs.Rtl.{node_at}
use Rattle.cc_rtl_language.specs.Code.{node_of, labelled_of}
use Rattle.cc_rtl_language.specs.Live.{as_nop}
use Rattle.cc_rtl_language.proofs.Places.{node_of_label}
use Rattle.cc_rtl_language.proofs.Nops.{nop_found}
use Rattle.cc_rtl_language.proofs.dead.pure_next.Goals as goal

pub returns-in-Some : goal.returns-in-Some
returns-in-Some c =
    let es = c.args.nodes.now.entries in
    nop_found c.next_of_pure.result (node_at (labelled_of es) c.args.label) (node_of c.in-Some.node.now) (node_of_label es c.args.label ∙ ap (option_map node_of) c.in-Some.ensures) c.next_of_pure.ensures

pub returns-in-None : goal.returns-in-None
returns-in-None c = let es = c.args.nodes.now.entries in subst (λ o. option_map as_nop o ≡ o) (sym (node_of_label es c.args.label ∙ ap (option_map node_of) c.in-None.ensures)) refl
