-- Each digit comes after the ones before it; after eight, all are written.
use Rattle.std.proofs.Common.{◌≡◌, arith}
use Rattle.cc_rv32.proofs.Digits.{digit_written, digits_written}
use Rattle.cc_rv32.proofs.listing.push_hexadecimal.Goals as goal

pub loop-index-preserved : goal.loop-index-preserved
loop-index-preserved c =
    digit_written _ _ _ _ _ _ _ (omega arith) c.loop-index.invariant c.digit.ensures.value (c.in_ok-push.ensures.ascii c.digit.ensures.ascii) c.in_ok-push.ensures.bytes

pub returns : goal.returns
returns c =
    let all : c.loop-index.index ≡ 8 = omega arith in
    digits_written c.loop-index.index c.args.word _ _ all c.loop-index.invariant
