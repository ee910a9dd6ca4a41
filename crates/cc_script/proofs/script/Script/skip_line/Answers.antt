use Rattle.std.proofs.Common.{arith, ◌≢◌, ◌++◌, ◌∷◌, [], ℕ, List, refl}
use Rattle.std.proofs.lemmas.List.Elements.{All-push}
use Rattle.cc_script.specs.Reading.{IsLine}
use Rattle.cc_script.proofs.Rests.{consumed_on, length_one_more, line_with_newline}
use Rattle.cc_script.proofs.script.Script.skip_line.Goals as goal

pub loop-byte-preserved : goal.loop-byte-preserved
loop-byte-preserved g c =
    let next = rw c.in-Some.is at c.in_ok-byte.ensures.bytes in
    let before = c.loop-byte.invariant in
    let long = length_one_more before.0 c.in-Some.byte _ refl in (
      before.0 ++ c.in-Some.byte ∷ [],
      All-push (λ b. b ≢ 10) before.0 c.in-Some.byte before.1 c.if-byte-eq10.false,
      consumed_on _ _ _ before.0 (c.in-Some.byte ∷ []) before.2 next.0,
      omega (arith, before.3, next.1, long),
    )

pub returns-then-byte-eq10-clause-bytes : goal.returns-then-byte-eq10-clause-bytes
returns-then-byte-eq10-clause-bytes g c =
    let next = rw (c.in-Some.is, c.if-byte-eq10.true) at c.in_ok-byte.ensures.bytes in
    let before = c.loop-byte.invariant in
    line_with_newline _ _ _ _ _ _ before.0 (λ b a. (rest : List ℕ) × IsLine b rest a) before.1 before.2 before.3 next.0 next.1 (λ b a some line. (before.0, line))
