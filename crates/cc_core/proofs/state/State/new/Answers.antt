-- Nothing has happened yet, and the disk is formatted.
use Rattle.std.proofs.Common.{inl, refl, sym, ap, subst, ◌∙◌}
use Rattle.cc_core.specs.Run.{EachUnit}
use Rattle.cc_core.proofs.Orders.{EachUnit-empty}
use Rattle.cc_core.specs.declared.sequence_number.SequenceNumber.{SequenceNumber}
use Rattle.cc_core.proofs.state.State.new.Goals as goal

pub idle-requires-clause-begins : goal.idle-requires-clause-begins
idle-requires-clause-begins g c = inl (
  c.args.area,
  record {
    library = c.new-2.ensures;
    order = c.new-4.ensures ∙ c.new-3.ensures.items;
    acknowledged = c.new-6.ensures ∙ c.new-5.ensures.items;
    jobs = refl;
    workers = refl;
    phase = refl;
    formatted = c.in_ok-store.ensures;
    upcoming = ap (λ (p : SequenceNumber). p.value) c.first.ensures;
  },
)

pub idle-requires-clause-right : goal.idle-requires-clause-right
idle-requires-clause-right g c = subst (EachUnit g.B.Build.is_right) (sym c.new-2.ensures) (EachUnit-empty g.B.Build.is_right)
