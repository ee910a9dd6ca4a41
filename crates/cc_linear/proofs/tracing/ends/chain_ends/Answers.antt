use Rattle.std.proofs.Common.{rules, arith, sym, subst, ◌<◌, length, All}
use Rattle.std.proofs.lemmas.List.Elements.{All-push}
use Rattle.cc_linear.proofs.Settling.{own_ends, are_ends, ends_inside, all_prefix, all_last}
use Rattle.cc_linear.proofs.tracing.ends.chain_ends.Goals as goal

pub loop-start-init : goal.loop-start-init
loop-start-init c = record {
  ends_long = search rules;
  known_long = search rules;
  seen_long = search rules;
  path = search rules;
  sound = own_ends c.args.next.now c.in_ok-known.known.items c.loop-label.ends.items (λ k below. c.loop-label.invariant.own k 0 (omega arith));
}

pub loop-seen-preserved : goal.loop-seen-preserved
loop-seen-preserved c = record {
  at = c.requires.inside c.loop-seen.at 0 c.loop-seen.invariant.at;
  seen_long = search (rules, c.loop-seen.invariant.seen_long);
  path = subst (All (λ x. x < length c.args.next.now)) (sym c.in_ok-push-2.ensures.items) (All-push (λ x. x < length c.args.next.now) c.loop-seen.path.items c.loop-seen.at c.loop-seen.invariant.path c.loop-seen.invariant.at);
}

pub settle-requires-clause-label : goal.settle-requires-clause-label
settle-requires-clause-label c = all_last (length c.args.next.now) c.pop.new.self.items c.in-Some.label (subst (All (λ x. x < length c.args.next.now)) c.in-Some.ensures.items c.loop-label-2.invariant.path)

pub loop-label-2-preserved : goal.loop-label-2-preserved
loop-label-2-preserved c = record {
  ends_long = c.settle.ensures.ends_long;
  known_long = c.settle.ensures.known_long;
  path = all_prefix (length c.args.next.now) c.pop.new.self.items c.in-Some.label (subst (All (λ x. x < length c.args.next.now)) c.in-Some.ensures.items c.loop-label-2.invariant.path);
  sound = c.settle.ensures.sound;
}

pub returns-clause-ends : goal.returns-clause-ends
returns-clause-ends c = are_ends c.args.next.now c.loop-start.known.items c.loop-start.ends.items c.loop-start.invariant.sound

pub returns-clause-inside : goal.returns-clause-inside
returns-clause-inside c =
    ends_inside c.args.next.now c.loop-start.ends.items c.loop-start.invariant.ends_long c.requires.inside (are_ends c.args.next.now c.loop-start.known.items c.loop-start.ends.items c.loop-start.invariant.sound)
