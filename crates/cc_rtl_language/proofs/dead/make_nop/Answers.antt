-- The node under the label is replaced by its nop, or stays if it is a nop already or is not pure.
use Rattle.std.proofs.Common.{ap, sym, ◌∙◌}
use Rattle.cc_rtl_language.specs.Code.{labelled_of}
use Rattle.cc_rtl_language.specs.declared.node.Node.TheVariants.{Nop}
use Rattle.cc_rtl_language.proofs.Places.{item_there}
use Rattle.cc_rtl_language.proofs.Nops.{turn_one, turn_none}
use Rattle.cc_rtl_language.proofs.dead.make_nop.Goals as goal

pub replace-requires : goal.replace-requires
replace-requires c = item_there c.args.nodes.now.entries c.args.label c.requires.there

pub returns-in-Some : goal.returns-in-Some
returns-in-Some c = ap (λ v. labelled_of v.entries) c.replace.ensures.list ∙ turn_one c.args.nodes.now.entries c.args.label (Nop c.in-Some.next) c.requires.ascend c.in-Some.ensures

pub returns-in_default : goal.returns-in_default
returns-in_default c = sym (turn_none (labelled_of c.args.nodes.now.entries) c.args.label c.requires.ascend c.in_default.ensures)
