use Rattle.std.proofs.Common.{subst, sym}
use Rattle.cc_emit.specs.declared.item.PieceItem.{PieceItem}
use Rattle.cc_link.specs.internal.Filling.{Leads}
use Rattle.cc_link.proofs.Filling.{leads_at}
use Rattle.cc_link.proofs.words.add_function.Goals as goal

pub instruction-requires-clause-leads : goal.instruction-requires-clause-leads
instruction-requires-clause-leads c =
    subst (λ (i : PieceItem). Leads c.args.places.now c.args.place i) (sym c.item-item.is)
    (leads_at c.args.places.now c.args.place c.loop-item.item-index c.args.items.now c.item-item.result c.requires.places c.requires.stand c.loop-item-test.true)
