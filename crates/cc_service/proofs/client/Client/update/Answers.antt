-- The name is looked up; what follows depends on what was found.
use Rattle.std.proofs.Common.{◌≡◌, List, ℕ, [], inr, Err, Ok, refl, rules, subst, sym}
use Rattle.cc_history.specs.declared.command.Asked.TheVariants.{Fetch}
use Rattle.cc_library.specs.declared.command.Change.TheVariants.{Replace}
use Rattle.cc_recorded.specs.Answers.{LookAnswers}
use Rattle.cc_recorded.specs.Book.{BookView}
use Rattle.cc_recorded.specs.Changed.{AllRecover}
use Rattle.cc_service.proofs.Updating.{at_once_after, look_leaves, look_refused, nothing_at_once, seen_updates, since_after}
use Rattle.cc_service.proofs.client.Client.update.Goals as goal

pub returns-in-Ok-look-clause-answers : goal.returns-in-Ok-look-clause-answers
returns-in-Ok-look-clause-answers g c =
    let before = c.args.book.now.book in
    let old = c.args.self.now.member in
    let same : c.in-Ok.asked ≡ c.args.name = search rules in
    seen_updates g.D.Disk before c.look.new.book.book c.update_seen.new.book.book old c.look.new.self.member c.update_seen.new.self.member c.args.name c.args.expected.now c.args.unit c.in-Ok-look.seen (search rules)
    (subst (λ (n : List ℕ). LookAnswers before old (Fetch n) c.look.new.book.book c.look.new.self.member (Ok c.in-Ok-look.seen)) same c.in-Ok-look.ensures.answers) c.update_seen.result c.update_seen.ensures.answers

pub returns-in-Err-clause-answers : goal.returns-in-Err-clause-answers
returns-in-Err-clause-answers g c =
    let before = c.args.book.now.book in
    let old = c.args.self.now.member in
    let same : c.in-Ok.asked ≡ c.args.name = search rules in
    look_refused g.D.Disk before c.look.new.book.book old c.look.new.self.member c.args.name c.args.expected.now (Replace c.args.name c.args.unit) c.in-Err.fault (search rules)
    (subst (λ (n : List ℕ). LookAnswers before old (Fetch n) c.look.new.book.book c.look.new.self.member (Err c.in-Err.fault)) same c.in-Err.ensures.answers)

-- ---- what an update leaves on the disk

pub returns-then-is_closed-clause-moments : goal.returns-then-is_closed-clause-moments
returns-then-is_closed-clause-moments g c =
    let before = c.args.book.now.book in
    nothing_at_once g.D.Disk before before (Replace c.args.name c.args.unit) refl (λ h image left. g.met.D.Disk.only_now before.library.disk image h left) c.kept.ensures.images c.kept.ensures.idle

pub returns-in_default-clause-moments : goal.returns-in_default-clause-moments
returns-in_default-clause-moments g c =
    let before = c.args.book.now.book in
    nothing_at_once g.D.Disk before before (Replace c.args.name c.args.unit) refl (λ h image left. g.met.D.Disk.only_now before.library.disk image h left) c.kept.ensures.images c.kept.ensures.idle

pub returns-in-Ok-look-clause-since : goal.returns-in-Ok-look-clause-since
returns-in-Ok-look-clause-since g c = since_after g.D.Disk c.args.book.now c.look.new.book c.update_seen.new.book c.look.ensures.since c.update_seen.ensures.since

pub returns-in-Ok-look-clause-moments : goal.returns-in-Ok-look-clause-moments
returns-in-Ok-look-clause-moments g c =
    at_once_after g.D.Disk c.args.book.now.book c.look.new.book.book c.update_seen.new.book.book (Replace c.args.name c.args.unit) c.in-Ok-look.ensures.answers.1 c.update_seen.ensures.moments

pub returns-in-Err-clause-since : goal.returns-in-Err-clause-since
returns-in-Err-clause-since g c = inr ([], c.look.ensures.since)

pub returns-in-Err-clause-moments : goal.returns-in-Err-clause-moments
returns-in-Err-clause-moments g c =
    let before = c.args.book.now.book in
    let same = look_leaves g.D.Disk before c.look.new.book.book c.args.self.now.member c.look.new.self.member (Fetch c.in-Ok.asked) c.in-Err.fault c.in-Err.ensures.answers in
    nothing_at_once g.D.Disk before c.look.new.book.book (Replace c.args.name c.args.unit) same (λ h image left. g.met.D.Disk.only_now before.library.disk image h left) c.kept.ensures.images c.kept.ensures.idle

pub returns-in-Err-clause-kept : goal.returns-in-Err-clause-kept
returns-in-Err-clause-kept g c =
    let before = c.args.book.now.book in
    let same = look_leaves g.D.Disk before c.look.new.book.book c.args.self.now.member c.look.new.self.member (Fetch c.in-Ok.asked) c.in-Err.fault c.in-Err.ensures.answers in
    subst (λ (b : BookView g.row.D.Denot). AllRecover g.D.Disk b) (sym same) c.kept.ensures.images
