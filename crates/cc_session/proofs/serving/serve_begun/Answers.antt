-- If no service was opened, an honest disk was at most read, and no spool was asked. If one was opened, each
-- client did what its spool gave, in threads that share the service and the meter; at 30 no client did
-- anything.
use denote.Param.Send.{sendable}
use Rattle.std.proofs.Common.{◌≡◌, ◌∙◌, ℕ, ap, arith, get_or, inr, length, map, refl, rules, subst, sym}
use Rattle.std.proofs.Crossing.{crosses}
use Rattle.cc_service.proofs.Sharing.{service_sync}
use Rattle.cc_service.specs.Client.{members}
use Rattle.cc_session.specs.Spooling.{HasDone, HaveServed, given_by}
use Rattle.cc_session.specs.declared.end.SessionEnd.{SessionEnd}
use Rattle.cc_session.proofs.Ends.{HasEnded, not_over, reads_back, recovers_base, unserved_by}
use Rattle.cc_session.proofs.Sharing.{meter_sync}
use Rattle.cc_session.proofs.Spooling.{Each, have_done_by, none_of}
use Rattle.cc_session.proofs.serving.serve_begun.Goals as goal

pub for_each_mut-requires-sync-F : goal.for_each_mut-requires-sync-F
for_each_mut-requires-sync-F g c κs within =
    let n = c.type_bounds.send-N in
    let y = c.type_bounds.sync-N in
    let r = c.type_bounds.sync-H in
    let d = c.type_bounds.send-D in
    search (sendable, crosses, service_sync, meter_sync) depth 40 fits 40000

pub returns-in-Ok-staff : goal.returns-in-Ok-staff
returns-in-Ok-staff g c =
    let D = g.D.Disk in
    let N = g.N.Based in
    let by = given_by g.S.Spool.taken g.S.Spool.ended in
    let library = c.args.begun.library in
    let worked = c.done-worked.result in
    let left = c.end_service.result in
    let before = map by c.args.spools.items in
    let olds = c.staff.new.room.posts in
    let news = c.for_each_mut.new.s in
    let were = c.as_mut_slice.result.now in
    let each : Each c.args.mode (λ p. by p.spool) (λ p. p.client.member) were news = λ i d within.
    let it = (c.for_each_mut.ensures i d within).1 in
    let done : HasDone c.args.mode (by it.argument.now.spool) it.argument.now.client.member (by it.after_call.now.spool) it.after_call.now.client.member = search rules in
    subst (λ p. HasDone c.args.mode (by (get_or were i d).spool) (get_or were i d).client.member (by p.spool) p.client.member) it.left
    (subst (λ p. HasDone c.args.mode (by p.spool) p.client.member (by it.after_call.now.spool) it.after_call.now.client.member) it.argument_is done) in
    let all = have_done_by c.args.mode (λ p. p.spool) (λ p. p.client) by (λ c. c.member) olds.items news _ c.args.spools.items worked.spools.items worked.clients.items
    olds.len c.in-Ok-staff.ensures.paired (omega (arith, c.for_each_mut.auto.s, c.as_mut_slice.ensures.len))
    (sym (ap (λ l. length l) c.as_mut_slice.ensures.value) ∙ c.as_mut_slice.ensures.len) c.in-Ok-staff.ensures.fresh
    (subst (λ os. Each c.args.mode (λ p. by p.spool) (λ p. p.client.member) os news) c.as_mut_slice.ensures.value each)
    c.done-worked.ensures.spools c.done-worked.ensures.clients in
    let served = subst (λ (e : SessionEnd). HaveServed c.args.mode before (map by worked.spools.items) (members worked.clients.items) e) (sym c.done-worked.ensures.end) all in
    let these = subst (λ spools. HaveServed c.args.mode before (map by spools.items) (members worked.clients.items) worked.end) (sym c.end_service.ensures.spools) served in
    inr
    (subst (λ (n : ℕ). HasEnded D n (D.seen library.disk) N.from N.left (HaveServed c.args.mode before (map by left.spools.items)) left.end left.disk) c.requires.failures
    (members worked.clients.items, worked.end, these, c.end_service.ensures.ended (D.seen library.disk) (recovers_base D N.base library c.requires.recovered c.requires.named)))

pub returns-in-Ok : goal.returns-in-Ok
returns-in-Ok g c =
    let D = g.D.Disk in
    let N = g.N.Based in
    let by = given_by g.S.Spool.taken g.S.Spool.ended in
    let library = c.args.begun.library in
    let worked = c.unhired-worked.result in
    let left = c.end_service-in-Err-staff.result in
    let before = map by c.args.spools.items in
    let back = ap (λ v. map by v.items) (c.end_service-in-Err-staff.ensures.spools ∙ (c.unhired-worked.ensures.spools ∙ c.in-Err-staff.ensures.back)) in
    let none = none_of (λ c. c.member) c.staff.new.room.clients.items c.in-Err-staff.ensures.unused in
    let unused = subst (λ clients. HaveServed c.args.mode before (map by left.spools.items) (members clients.items) worked.end) (sym c.unhired-worked.ensures.clients)
    (subst (λ (e : SessionEnd). HaveServed c.args.mode before (map by left.spools.items) (members c.staff.new.room.clients.items) e) (sym c.unhired-worked.ensures.end) (refl, back, none)) in
    inr
    (subst (λ (n : ℕ). HasEnded D n (D.seen library.disk) N.from N.left (HaveServed c.args.mode before (map by left.spools.items)) left.end left.disk) c.requires.failures
    (members worked.clients.items, worked.end, unused, c.end_service-in-Err-staff.ensures.ended (D.seen library.disk) (recovers_base D N.base library c.requires.recovered c.requires.named)))

pub returns : goal.returns
returns g c =
    let D = g.D.Disk in
    let N = g.N.Based in
    let by = given_by g.S.Spool.taken g.S.Spool.ended in
    let u = c.unserved.ensures in
    let left = c.unserved.result in
    let before = map by c.args.spools.items in
    let after = map by left.spools.items in
    unserved_by D N.from N.left (after ≡ before) (HaveServed c.args.mode before after) N.base c.in-Err.fault c.args.begun.library.disk
    c.in-Err.disk left.disk left.end u.disk u.end
    (not_over D N.base c.args.begun.library c.in-Err.disk c.in-Err.fault c.requires.recovered c.requires.named c.in-Err.ensures.refused c.in-Err.ensures.back)
    (λ h. reads_back D c.args.begun.library.disk c.in-Err.disk c.in-Err.ensures.back) (ap (λ v. map by v.items) u.spools)
