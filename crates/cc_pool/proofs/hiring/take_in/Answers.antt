use Rattle.std.proofs.Common.{rules, arith, ◌++◌, ◌∷◌, [], ap, ◌∙◌, sym, refl, append_assoc, append-nil, length-append}
use Rattle.std.proofs.lemmas.List.{map-id}
use Rattle.std.proofs.lemmas.Iterator.Adapters.{YieldsList-from_vec}
use Rattle.std.proofs.lemmas.Iterator.Consumers.{YieldsList-end}
use Rattle.cc_pool.specs.Shared.{sent_by}
use Rattle.cc_pool.proofs.Lists.{sent_more}
use Rattle.cc_pool.proofs.hiring.take_in.Goals as goal

pub loop-pass-init : goal.loop-pass-init
loop-pass-init g c = record { role = c.requires; splits = refl; joins = omega arith; sent = sym (append-nil c.args.seat.now.sent) }

pub loop-pass-preserved : goal.loop-pass-preserved
loop-pass-preserved g c =
    let e = c.join.ensures in
    let h = c.loop-pass.invariant in
    let all = c.loop-pass.yielded in
    let old = c.args.seat.now.sent in
    record {
      role = ap (λ v. v.role) e ∙ h.role;
      splits = ap (λ v. v.splits) e ∙ h.splits;
      joins = omega (arith, ap (λ v. v.joins) e, h.joins, length-append all (c.in-Some.pass ∷ []));
      sent =
          ap (λ v. v.sent) e
          ∙ (λ i. h.sent i ++ c.into_seat.ensures.sent i)
          ∙ append_assoc old (sent_by all) c.in-Some.pass.sent
          ∙ ap (λ l. old ++ l) (sym (sent_more all c.in-Some.pass));
    }

pub returns-clause-sent : goal.returns-clause-sent
returns-clause-sent g c =
    let end = YieldsList-end (YieldsList-from_vec {s = c.into_iter-pass-iterator.result} c.args.passes.items (search rules) (search rules)) c.loop-pass.yielded c.loop-pass.pass-iterator c.loop-pass.yielded_by c.next.result c.next.new.self c.in-None.is c.next.ensures.steps in
    c.loop-pass.invariant.sent ∙ ap (λ l. c.args.seat.now.sent ++ sent_by l) (sym (map-id c.loop-pass.yielded) ∙ end.0)
