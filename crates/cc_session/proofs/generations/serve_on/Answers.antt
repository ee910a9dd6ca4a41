-- The first generation ended; then, in each turn, one more did.
use Rattle.std.proofs.Common.{◌∙◌, zero, suc, map, refl}
use Rattle.cc_session.specs.Spooling.{ServingEnds, given_by}
use Rattle.cc_session.proofs.Chains.{goes_on_by, serves_one_more, serves_still}
use Rattle.cc_session.proofs.generations.serve_on.Goals as goal

pub returns-then-not-is_well : goal.returns-then-not-is_well
returns-then-not-is_well g c = record {
  generations = (zero, c.serve_quietly-left.ensures.answers);
  over = λ finished. absurd (c.is_well.ensures.not c.if-not-is_well.true finished);
  still = c.tell_end.ensures;
}

pub loop-init : goal.loop-init
loop-init g c = (zero, c.serve_quietly-left.ensures.answers, c.is_well.ensures.well c.if-not-is_well.false, refl)

pub loop-preserved : goal.loop-preserved
loop-preserved g c =
    let D = g.D.Disk in
    let by = given_by g.S.Spool.taken g.S.Spool.ended in
    let Ends = ServingEnds c.args.mode D in
    let so_far = c.loop.invariant in
    let looked = c.goes_on.ensures in
    let now = c.goes_on.new.left in
    let next = c.serve_quietly-left-in-loop.result in (
      suc so_far.0,
      serves_one_more Ends so_far.0 (map by c.args.spools.items) (map by c.loop.left.spools.items) (map by now.spools.items) (map by next.spools.items) c.args.disk c.loop.left.disk now.disk
          next.disk c.loop.left.end next.end (goes_on_by so_far.0 c.loop.left.end so_far.2 (looked.may c.if-not-goes_on.false)) looked.spools looked.disk so_far.1
          c.serve_quietly-left-in-loop.ensures.answers,
      tt,
      so_far.3,
    )

pub returns-then-not-goes_on : goal.returns-then-not-goes_on
returns-then-not-goes_on g c =
    let D = g.D.Disk in
    let by = given_by g.S.Spool.taken g.S.Spool.ended in
    let Ends = ServingEnds c.args.mode D in
    let so_far = c.loop.invariant in
    let left = c.loop.left in
    let looked = c.goes_on.ensures in
    let now = c.goes_on.new.left in
    record {
      generations = (
        so_far.0,
        serves_still Ends so_far.0 (map by c.args.spools.items) (map by left.spools.items) (map by now.spools.items) c.args.disk left.disk now.disk left.end now.end looked.spools looked.disk looked.end so_far.1,
      );
      over = looked.over c.if-not-goes_on.true;
      still = λ finished. c.tell_end-then-not-goes_on.ensures finished ∙ so_far.3;
    }
