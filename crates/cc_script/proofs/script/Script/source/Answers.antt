use Rattle.std.proofs.Common.{rules, arith, ◌≤◌, ◌∙◌, ℕ, length, ap, sym, ◌++◌, ◌∷◌, [], Vec, Global}
use Rattle.std.proofs.lemmas.Bool.{false≢true}
use Rattle.cc_script.specs.Reading.{IsNoSource, ahead_of}
use Rattle.cc_script.proofs.Rests.{consumed_on, fewer_left, kept_full, kept_next, length_one_more, no_source, source_read}
use Rattle.cc_script.proofs.script.Script.source.Goals.{then-is_kept+then-len-lt-KEPT_BYTES, else-is_kept, else-is_kept-via-then-is_kept+else-len-lt-KEPT_BYTES, else-is_kept-via-else-is_kept}
use Rattle.cc_script.proofs.script.Script.source.Goals.{then-is_kept-2, else-is_kept-2}
use Rattle.cc_script.proofs.script.Script.source.Goals as goal

pub returns-in_default-clause-refused : goal.returns-in_default-clause-refused
returns-in_default-clause-refused g c =
    let over = rw c.in_default.is at c.in_ok-byte.ensures.bytes in
    let whole = c.loop.invariant.bytes in
    fewer_left _ _ ((ahead_of c.byte.new.self (g.R.Read.remaining c.byte.new.reader)).rest) whole.0 c.args.length whole.1 over.0 over.1 (omega (arith, whole.2, c.loop-test.true))

pub returns-in_err-byte-clause-refused : goal.returns-in_err-byte-clause-refused
returns-in_err-byte-clause-refused g c =
    let whole = c.loop.invariant.bytes in
    let why : IsNoSource (ahead_of c.args.self.now (g.R.Read.remaining c.args.reader.now)) c.args.length c.byte.new.self.left c.in_err-byte.field-0.0 =
    no_source (ahead_of c.args.self.now (g.R.Read.remaining c.args.reader.now)) (ahead_of c.loop.self (g.R.Read.remaining c.loop.reader)) whole.0 c.args.length _ _ whole.1 (omega (arith, whole.2, c.loop.invariant.left)) c.in_err-byte.ensures.refused in
    search (rules, why)

pub loop-preserved : goal.loop-preserved
loop-preserved g c =
    let next = rw c.in-Some.is at c.in_ok-byte.ensures.bytes in
    let whole = c.loop.invariant.bytes in
    record {
      left = search rules;
      many = search rules;
      bytes = (
        whole.0 ++ c.in-Some.byte ∷ [],
        consumed_on _ _ _ whole.0 (c.in-Some.byte ∷ []) whole.1 next.0,
        length_one_more whole.0 c.in-Some.byte c.loop.counter whole.2,
        elim c.if-is_kept.branch [
          | then-is_kept+then-len-lt-KEPT_BYTES w ↦ λ kept.
              ap (λ (v : Vec ℕ Global). v.items) w.source-is ∙ kept_next _ _ c.loop.source.items whole.0 c.in-Some.byte (sym w.is_ok-is_kept.ensures.value ∙ (sym w.is_kept-is ∙ kept))
              w.push.ensures.items (whole.3 w.if-is_kept.true) (omega (arith, whole.2, c.loop.invariant.many w.if-is_kept.true, w.len.ensures, w.if-len-lt-KEPT_BYTES.true))
          | else-is_kept w ↦ λ kept. elim w.else-is_kept.branch [
            | else-is_kept-via-then-is_kept+else-len-lt-KEPT_BYTES v ↦
                let full : 65537 ≤ length whole.0 = omega (arith, whole.2, c.loop.invariant.many v.if-is_kept.true, v.len.ensures, v.if-len-lt-KEPT_BYTES.false) in
                ap (λ (v : Vec ℕ Global). v.items) w.source-is ∙ (whole.3 v.if-is_kept.true ∙ sym (kept_full whole.0 c.in-Some.byte full))
            | else-is_kept-via-else-is_kept v ↦ absurd (false≢true (sym v.if-is_kept.false ∙ (sym w.is_kept-is ∙ kept)))
          ]
        ],
      );
    }

pub returns-clause-bytes : goal.returns-clause-bytes
returns-clause-bytes g c =
    let whole = c.loop.invariant.bytes in
    source_read _ _ _ _ whole.0 c.args.length _ whole.1 (omega (arith, c.loop.invariant.left, c.loop-test.false, c.loop.auto.counter-end)) (omega (arith, whole.2, c.loop-test.false, c.loop.auto.counter-end))
    (elim c.if-is_kept-2.branch [ then-is_kept-2 w ↦ rw w.result-is (whole.3 w.if-is_kept-2.true) | else-is_kept-2 w ↦ rw w.result-is tt ])
