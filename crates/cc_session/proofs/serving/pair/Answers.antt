-- In each turn one more spool gets a client, the last of those that are left.
use Rattle.std.proofs.Common.{◌≡◌, ◌∙◌, [], ◌∷◌, ◌++◌, map, ap, arith}
use Rattle.std.proofs.lemmas.List.{length-append, map-append}
use Rattle.std.proofs.lemmas.List.Elements.{All-pop, All-push, All-same}
use Rattle.cc_session.proofs.serving.pair.Goals as goal

pub loop-spool-preserved : goal.loop-spool-preserved
loop-spool-preserved g c =
    let l = c.loop-spool in
    let popped = All-pop (λ c. c.member.receipts ≡ []) l.clients.items c.pop.new.self.items c.pop.result c.pop.ensures.items l.invariant.rest in
    let fresh = rw c.in-Some-pop.is at popped.1 in
    let longer = length-append l.yielded (c.in-Some.spool ∷ []) in
    record {
      all = ap (λ ps. map (λ p. p.spool) ps) c.push_reserved.ensures.items ∙ (map-append (λ p. p.spool) l.posts.items _ ∙ ap (λ ss. ss ++ c.in-Some.spool ∷ []) l.invariant.all);
      fresh = All-same (λ p. p.client.member.receipts ≡ []) c.push_reserved.new.self.items _ c.push_reserved.ensures.items
          (All-push (λ p. p.client.member.receipts ≡ []) l.posts.items _ l.invariant.fresh fresh);
      rest = popped.0;
      left = omega (arith, longer, c.in-Some-pop.ensures.cases, l.invariant.left);
      many = omega (arith, longer, c.push_reserved.ensures.len, l.invariant.many);
      room = c.push_reserved.ensures.capacity ∙ l.invariant.room;
      kept = c.pop.ensures.capacity ∙ l.invariant.kept;
    }
