-- In each turn one more spool is asked whether it is over.
use Rattle.std.proofs.Common.{◌∙◌, arith, sym, true≢false}
use Rattle.std.proofs.Math.Seq.{map-set_same}
use Rattle.std.proofs.lemmas.List.Elements.{AllWithin-more_set, AllWithin-upto, All-from_all_within}
use Rattle.cc_session.specs.Spooling.{given_by}
use Rattle.cc_session.proofs.Chains.{same_given}
use Rattle.cc_session.proofs.generations.are_over.Goals as goal

pub loop-i-preserved : goal.loop-i-preserved
loop-i-preserved g c =
    let S = g.S.Spool in
    record {
      over = AllWithin-more_set c.loop-i.spools c.loop-i.i c.is_over.new.self (omega arith) S.over c.loop-i.invariant.over (c.is_over.ensures.said c.if-not-is_over.false);
      given = map-set_same (given_by S.taken S.ended) c.loop-i.spools c.loop-i.i c.is_over.new.self c.index-spools-i.result
          (same_given S.taken S.ended c.is_over.new.self _ c.is_over.ensures.taken c.is_over.ensures.ended)
          ∙ c.loop-i.invariant.given;
    }

pub returns-then-not-is_over : goal.returns-then-not-is_over
returns-then-not-is_over g c =
    let S = g.S.Spool in
    record {
      over = λ is. absurd (true≢false (sym is));
      spools = map-set_same (given_by S.taken S.ended) c.loop-i.spools c.loop-i.i c.is_over.new.self c.index-spools-i.result
          (same_given S.taken S.ended c.is_over.new.self _ c.is_over.ensures.taken c.is_over.ensures.ended)
          ∙ c.loop-i.invariant.given;
    }

pub returns : goal.returns
returns g c =
    let S = g.S.Spool in
    record {
      over = λ is. All-from_all_within S.over c.loop-i.spools (AllWithin-upto S.over c.loop-i.spools 0 c.loop-i.i _ (omega arith) c.loop-i.invariant.over);
      spools = c.loop-i.invariant.given;
    }
