use Rattle.std.proofs.Common.{rules, arith, ◌<◌, ◌≤◌, ◌≡◌, ◌≢◌, ◌∙◌, Some, None, length, take}
use Rattle.std.proofs.lemmas.List.{length-set, length-take-le}
use Rattle.cc_script.specs.Reading.{IsNext}
use Rattle.cc_script.specs.declared.script.NextLine.TheVariants.{Line}
use Rattle.cc_script.proofs.Rests.{consumed_more, line_at_end, line_with_newline, plain_more, too_long}
use Rattle.cc_script.proofs.script.Script.next_line.Goals as goal

pub loop-length-preserved : goal.loop-length-preserved
loop-length-preserved g c =
    let next = rw c.in-Some.is at c.in_ok-byte.ensures.bytes in
    let within : c.loop-length.length < length c.loop-length.line = search rules in
    record {
      whole = length-set c.loop-length.line c.loop-length.length c.in-Some.byte ∙ c.loop-length.invariant.whole;
      none = plain_more c.loop-length.line c.loop-length.length c.in-Some.byte within c.loop-length.invariant.none (search rules);
      left = omega (arith, next.1, c.loop-length.invariant.left);
      bytes = consumed_more _ _ _ c.loop-length.line c.loop-length.length c.in-Some.byte within c.loop-length.invariant.bytes next.0;
    }

pub returns-in-Some-2-clause-bytes : goal.returns-in-Some-2-clause-bytes
returns-in-Some-2-clause-bytes g c =
    let next = rw c.in-Some-2.is at c.in_ok-byte-2.ensures.bytes in
    let whole : c.loop-length.length ≡ 128 = omega (arith, c.loop-length.auto.length-end, c.loop-length-test.false) in
    let different : c.in-Some-2.field-0 ≢ 10 = search rules in
    too_long _ _ _ _ _ _ c.loop-length.line c.in-Some-2.field-0 c.loop-length.invariant.whole (rw whole at c.loop-length.invariant.none) different (rw whole at c.loop-length.invariant.bytes)
    (rw whole at c.loop-length.invariant.left) next.0 next.1 c.loop-length.line

pub returns-in-None-3-clause-bytes : goal.returns-in-None-3-clause-bytes
returns-in-None-3-clause-bytes g c =
    let whole : c.loop-length.length ≡ 128 = omega (arith, c.loop-length.auto.length-end, c.loop-length-test.false) in
    let is : c.in_ok-byte-2.field-0 ≡ None = search rules in
    let over = rw is at c.in_ok-byte-2.ensures.bytes in
    let long : length (take 128 c.loop-length.line) ≡ 128 = length-take-le 128 c.loop-length.line (omega (arith, c.loop-length.invariant.whole)) in
    line_at_end _ _ _ _ _ _ (take 128 c.loop-length.line) (λ b a. IsNext b (Line 128) c.loop-length.line a) (rw whole at c.loop-length.invariant.none) (rw whole at c.loop-length.invariant.bytes)
    (omega (arith, c.loop-length.invariant.left, whole, long)) over (λ b a some line. (some (omega (arith, long)), line))

pub returns-in-None-3-2-clause-bytes : goal.returns-in-None-3-2-clause-bytes
returns-in-None-3-2-clause-bytes g c =
    let whole : c.loop-length.length ≡ 128 = omega (arith, c.loop-length.auto.length-end, c.loop-length-test.false) in
    let is : c.in_ok-byte-2.field-0 ≡ Some 10 = search rules in
    let next = rw is at c.in_ok-byte-2.ensures.bytes in
    let long : length (take 128 c.loop-length.line) ≡ 128 = length-take-le 128 c.loop-length.line (omega (arith, c.loop-length.invariant.whole)) in
    line_with_newline _ _ _ _ _ _ (take 128 c.loop-length.line) (λ b a. IsNext b (Line 128) c.loop-length.line a) (rw whole at c.loop-length.invariant.none) (rw whole at c.loop-length.invariant.bytes)
    (omega (arith, c.loop-length.invariant.left, whole, long)) next.0 next.1 (λ b a some line. (some, line))

pub returns-in-None-2-clause-bytes : goal.returns-in-None-2-clause-bytes
returns-in-None-2-clause-bytes g c =
    let is : c.in_ok-byte.field-0 ≡ None = search rules in
    let over = rw is at c.in_ok-byte.ensures.bytes in
    let within : c.loop-length.length ≤ length c.loop-length.line = search rules in
    let long : length (take c.loop-length.length c.loop-length.line) ≡ c.loop-length.length = length-take-le c.loop-length.length c.loop-length.line within in
    line_at_end _ _ _ _ _ _ (take c.loop-length.length c.loop-length.line) (λ b a. IsNext b (Line c.loop-length.length) c.loop-length.line a) c.loop-length.invariant.none c.loop-length.invariant.bytes
    (omega (arith, c.loop-length.invariant.left, long)) over (λ b a some line. (some (search (rules, long)), line))

pub returns-in-None-2-2-clause-bytes : goal.returns-in-None-2-2-clause-bytes
returns-in-None-2-2-clause-bytes g c =
    let is : c.in_ok-byte.field-0 ≡ Some 10 = search rules in
    let next = rw is at c.in_ok-byte.ensures.bytes in
    let within : c.loop-length.length ≤ length c.loop-length.line = search rules in
    let long : length (take c.loop-length.length c.loop-length.line) ≡ c.loop-length.length = length-take-le c.loop-length.length c.loop-length.line within in
    line_with_newline _ _ _ _ _ _ (take c.loop-length.length c.loop-length.line) (λ b a. IsNext b (Line c.loop-length.length) c.loop-length.line a) c.loop-length.invariant.none c.loop-length.invariant.bytes
    (omega (arith, c.loop-length.invariant.left, long)) next.0 next.1 (λ b a some line. (some, line))
