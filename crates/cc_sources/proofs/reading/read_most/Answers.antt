-- The text is as long as it may be, or the reader is at its end.
use Rattle.std.proofs.Common.{rules, ◌≡◌, ◌≤◌, ◌<◌, length, refl}
use Rattle.cc_sources.proofs.Pieces.{at_end, read_full, read_whole}
use Rattle.cc_sources.proofs.reading.read_most.Goals.{else-loop-piece-test, then-loop-piece-test+in-Ok+then-count-eq0}
use Rattle.cc_sources.proofs.reading.read_most.Goals as goal

pub returns-clause-text : goal.returns-clause-text
returns-clause-text g c =
    let so_far = c.loop-piece.invariant in
    let few : length c.loop-piece.text.items ≤ c.args.most = search rules in
    elim c.loop-piece-test.branch [
      | else-loop-piece-test w ↦ let full : length c.loop-piece.text.items ≡ c.args.most = search rules in read_full c.args.most _ _ c.loop-piece.text.items so_far.1 full
      | then-loop-piece-test+in-Ok+then-count-eq0 w ↦
          let last = rw w.if-count-eq0.true at w.in-Ok.ensures.bytes in
          let some : 0 < length w.read.new.buf = search rules in
          read_whole c.args.most _ _ c.loop-piece.text.items (at_end _ _ _ c.loop-piece.text.items so_far.1 last.0) (last.1 refl some) few
    ]
