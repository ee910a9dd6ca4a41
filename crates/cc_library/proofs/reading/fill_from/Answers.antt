-- Each turn reads one more word.
use Rattle.std.proofs.Common.{◌≡◌, ◌*◌, Some, length, take, drop, ◌∙◌, arith}
use Rattle.std.proofs.lemmas.List.{take_all}
use Rattle.cc_library.specs.internal.Reading.{words_in}
use Rattle.cc_library.proofs.Words.{is_done, sets_on}
use Rattle.cc_library.proofs.reading.fill_from.Goals as goal

pub loop-i-preserved : goal.loop-i-preserved
loop-i-preserved c = sets_on c.loop-i.words c.args.bytes.now (length c.args.words.now) c.loop-i.i c.from_le_bytes.result (words_in (length c.args.words.now) c.args.bytes.now) (omega arith) (omega arith) (omega arith)
    c.from_le_bytes.ensures c.loop-i.invariant

pub returns-clause-read : goal.returns-clause-read
returns-clause-read c =
    let bytes = c.args.bytes.now in
    let n : c.loop-i.i ≡ length c.args.words.now = omega arith in
    let all : take c.loop-i.i c.loop-i.words ≡ c.loop-i.words = take_all c.loop-i.i c.loop-i.words (omega arith) in
    is_done (take c.loop-i.i c.loop-i.words) (length c.args.words.now) c.loop-i.i (drop (4 * c.loop-i.i) bytes) (words_in (length c.args.words.now) bytes) (omega arith) c.loop-i.invariant
    ∙ (λ j. Some (all j, drop (4 * n j) bytes))
