use Rattle.std.proofs.Common.{sym, ◌∙◌, arith}
use Rattle.cc_select.proofs.Passing.{join_one, join_two, join_ends}
use Rattle.cc_select.proofs.fuse.fused.Goals as goal

pub loop-at-preserved-in-Some : goal.loop-at-preserved-in-Some
loop-at-preserved-in-Some c = record {
  joined = λ t h b.
      join_two t c.args.steps.now c.loop-at.at c.in-Some.branch c.loop-at.found.items c.push_reserved.new.self.items c.loop-at-test.true (sym c.in-Some.is ∙ c.branch_at.ensures t h b) c.push_reserved.ensures.items (c.loop-at.invariant.joined t h b);
  many = omega (arith, c.push_reserved.ensures.len, c.loop-at.invariant.many);
  room = omega (arith, c.push_reserved.ensures.capacity, c.loop-at.invariant.room);
}

pub loop-at-preserved : goal.loop-at-preserved
loop-at-preserved c = record {
  joined = λ t h b.
      join_one t c.args.steps.now c.loop-at.at c.index-steps-at.result c.loop-at.found.items c.push_reserved-in-None.new.self.items c.loop-at-test.true c.index-steps-at.is (sym c.in-None.is ∙ c.branch_at.ensures t h b) c.push_reserved-in-None.ensures.items
      (c.loop-at.invariant.joined t h b);
  many = omega (arith, c.push_reserved-in-None.ensures.len, c.loop-at.invariant.many);
  room = omega (arith, c.push_reserved-in-None.ensures.capacity, c.loop-at.invariant.room);
}

pub returns : goal.returns
returns c t h b = join_ends t c.args.steps.now c.loop-at.at c.loop-at.found.items c.loop-at-test.false (c.loop-at.invariant.joined t h b)
