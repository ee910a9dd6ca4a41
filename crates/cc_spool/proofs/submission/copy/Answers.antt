-- In each turn one more piece is copied and read.
use Rattle.std.proofs.Common.{◌++◌, ◌∙◌, None, ap, arith, sym}
use Rattle.std.proofs.KnownBytes.{Appends-trans, Consumes-trans}
use Rattle.std.proofs.lemmas.List.{length-append}
use Rattle.cc_spool.specs.Answer.{between, read_bytes}
use Rattle.cc_spool.specs.declared.lines.Lines.{Lines}
use Rattle.cc_spool.proofs.Skipping.{read_on}
use Rattle.cc_spool.proofs.submission.copy.Goals as goal

pub loop-preserved : goal.loop-preserved
loop-preserved g c =
    let S = g.S.Read in
    let W = g.W.Write in
    let so_far = c.loop.invariant in
    let passed = c.in-Ok.ensures.passes in
    let both = length-append so_far.0 passed.bytes in
    let many = passed.many in
    let turns = so_far.1.turns in
    let asked = so_far.1.asked in (
      so_far.0 ++ passed.bytes,
      record {
        given = Consumes-trans (S.remaining c.args.reader.now) (S.remaining c.loop.reader) (S.remaining c.pass_on.new.reader) so_far.0 passed.bytes so_far.1.given passed.given;
        written = Appends-trans (W.contents c.args.writer.now) (W.contents c.loop.writer) (W.contents c.pass_on.new.writer) so_far.0 passed.bytes so_far.1.written passed.written;
        read = passed.read ∙ (ap (λ (l : Lines). read_bytes l passed.bytes) so_far.1.read ∙ sym (read_on (between None) so_far.0 passed.bytes));
        turns = omega (arith, both, many, turns);
        asked = omega (arith, both, many, asked);
        room = c.in-Ok.ensures.room ∙ so_far.1.room;
      },
    )
