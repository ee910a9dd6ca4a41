-- The answer is 32, 60, or that of the change.
use Rattle.std.proofs.Common.{Err, Ok, inl, inr, refl, rules}
use Rattle.cc_library.specs.declared.command.Change.TheVariants.{Replace}
use Rattle.cc_service.proofs.Updating.{nothing_at_once}
use Rattle.cc_service.proofs.client.Client.update_seen.Goals as goal

pub returns-in-NoUnit-clause-answers : goal.returns-in-NoUnit-clause-answers
returns-in-NoUnit-clause-answers g c = inl (c.in-NoUnit.ensures, refl, refl, refl)

pub returns-in-Other-clause-answers : goal.returns-in-Other-clause-answers
returns-in-Other-clause-answers g c = inr (inl (c.in-Other.ensures, refl, refl, refl))

pub returns-in-Ok-clause-answers : goal.returns-in-Ok-clause-answers
returns-in-Ok-clause-answers g c = inr (inr (c.in-Same.ensures, Ok c.in-Ok.receipt, refl, c.in-Ok.ensures.answers))

pub returns-in-Err-clause-answers : goal.returns-in-Err-clause-answers
returns-in-Err-clause-answers g c = inr (inr (c.in-Same.ensures, Err c.in-Err.fault, refl, c.in-Err.ensures.answers))

pub returns-in-NoUnit-clause-moments : goal.returns-in-NoUnit-clause-moments
returns-in-NoUnit-clause-moments g c =
    let before = c.args.book.now.book in
    nothing_at_once g.D.Disk before before (Replace c.args.name c.args.unit) refl (λ h image left. g.met.D.Disk.only_now before.library.disk image h left) c.kept.ensures.images c.kept.ensures.idle

pub returns-in-Other-clause-moments : goal.returns-in-Other-clause-moments
returns-in-Other-clause-moments g c =
    let before = c.args.book.now.book in
    nothing_at_once g.D.Disk before before (Replace c.args.name c.args.unit) refl (λ h image left. g.met.D.Disk.only_now before.library.disk image h left) c.kept.ensures.images c.kept.ensures.idle
