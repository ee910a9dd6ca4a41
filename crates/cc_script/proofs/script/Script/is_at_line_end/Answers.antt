-- The byte that comes next ends a line, or it does not.
use Rattle.std.proofs.Common.{rules, ◌≡◌, ◌≢◌, Some, [], true, arith}
use Rattle.std.proofs.lemmas.List.Elements.{All-nil}
use Rattle.cc_script.specs.Reading.{IsLineEnd}
use Rattle.cc_script.proofs.Rests.{consumed_none, line_with_newline, other_byte}
use Rattle.cc_script.proofs.script.Script.is_at_line_end.Goals as goal

pub returns-in-Some-clause-bytes : goal.returns-in-Some-clause-bytes
returns-in-Some-clause-bytes g c =
    let next = rw c.in-Some.is at c.in_ok-byte.ensures.bytes in
    let other : c.in-Some.field-0 ≢ 10 = search rules in
    other_byte _ _ _ _ c.in-Some.field-0 other next.0 next.1

pub returns-in-None-2-clause-bytes : goal.returns-in-None-2-clause-bytes
returns-in-None-2-clause-bytes g c =
    let is : c.in_ok-byte.field-0 ≡ Some 10 = search rules in
    let next = rw is at c.in_ok-byte.ensures.bytes in
    line_with_newline _ _ _ c.args.self.now.left c.args.self.now.left c.byte.new.self.left [] (λ b a. IsLineEnd b true a) (All-nil (λ b. b ≢ 10)) (consumed_none _) (omega arith) next.0 next.1 (λ b a some line. line)
