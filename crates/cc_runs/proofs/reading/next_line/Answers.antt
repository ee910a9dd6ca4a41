-- How the bytes that were read make a line.
use Rattle.std.proofs.Common.{◌≡◌, ◌≢◌, ◌∙◌, ℕ, ◌+◌, ◌∷◌, ◌++◌, List, [], Some, None, length, ap, rules, arith}
use Rattle.std.proofs.lemmas.List.{length-append}
use Rattle.std.proofs.lemmas.List.Elements.{All-push}
use Rattle.std.proofs.KnownBytes.{Consumes-trans}
use Rattle.std.specs.Io.KnownBytes.{Consumes}
use Rattle.cc_runs.proofs.FirstLine.{line_at_end, line_ended, line_too_long, no_line}
use Rattle.cc_runs.proofs.reading.next_line.Goals as goal

pub loop-length-preserved : goal.loop-length-preserved
loop-length-preserved g c =
    let R = g.R.Read in
    let line = c.loop-length.line.items in
    let next = rw c.in-Some.is at c.in_ok-next_byte.ensures in
    let more = c.in_ok-push-in-Some.ensures.items in
    let read : Consumes (R.remaining c.args.reader.now) (R.remaining c.next_byte.new.reader) (line ++ c.in-Some.byte ∷ []) =
    Consumes-trans _ _ _ line (c.in-Some.byte ∷ []) c.loop-length.invariant.bytes next in
    record {
      whole = ap (λ (l : List ℕ). length l) more ∙ length-append line (c.in-Some.byte ∷ []) ∙ ap (λ (n : ℕ). n + 1) c.loop-length.invariant.whole;
      plain = rw more (All-push (λ b. b ≢ 10) line c.in-Some.byte c.loop-length.invariant.plain (search rules));
      bytes = rw more read;
    }

pub returns-in-None : goal.returns-in-None
returns-in-None g c =
    let is : c.in_ok-next_byte.field-0 ≡ None = search rules in
    let next = rw is at c.in_ok-next_byte.ensures in
    no_line _ _ _ c.loop-length.line.items c.loop-length.line.items (search rules) c.loop-length.invariant.bytes next

pub returns-in-None-2 : goal.returns-in-None-2
returns-in-None-2 g c =
    let is : c.in_ok-next_byte.field-0 ≡ None = search rules in
    let next = rw is at c.in_ok-next_byte.ensures in
    line_at_end c.loop-length.line.items c.loop-length.invariant.plain _ _ _ (omega arith) (search rules) c.loop-length.invariant.bytes next

pub returns-in-None-2-2 : goal.returns-in-None-2-2
returns-in-None-2-2 g c =
    let is : c.in_ok-next_byte.field-0 ≡ Some 10 = search rules in
    let next = rw is at c.in_ok-next_byte.ensures in
    line_ended c.loop-length.line.items c.loop-length.invariant.plain _ _ _ (omega arith) c.loop-length.invariant.bytes next

pub returns-in-None-3 : goal.returns-in-None-3
returns-in-None-3 g c =
    let whole : length c.loop-length.line.items ≡ 16777216 = omega (arith, c.loop-length.invariant.whole, c.loop-length.auto.length-end, c.loop-length-test.false) in
    let is : c.in_ok-next_byte-2.field-0 ≡ None = search rules in
    let next = rw is at c.in_ok-next_byte-2.ensures in
    line_at_end c.loop-length.line.items c.loop-length.invariant.plain _ _ _ (omega (arith, whole)) (λ none. omega (arith, whole, none)) c.loop-length.invariant.bytes next

pub returns-in-None-3-2 : goal.returns-in-None-3-2
returns-in-None-3-2 g c =
    let whole : length c.loop-length.line.items ≡ 16777216 = omega (arith, c.loop-length.invariant.whole, c.loop-length.auto.length-end, c.loop-length-test.false) in
    let is : c.in_ok-next_byte-2.field-0 ≡ Some 10 = search rules in
    let next = rw is at c.in_ok-next_byte-2.ensures in
    line_ended c.loop-length.line.items c.loop-length.invariant.plain _ _ _ (omega (arith, whole)) c.loop-length.invariant.bytes next

pub returns-in_ok-skip_until-in-Some-2 : goal.returns-in_ok-skip_until-in-Some-2
returns-in_ok-skip_until-in-Some-2 g c =
    let R = g.R.Read in
    let line = c.loop-length.line.items in
    let byte = c.in-Some-2.field-0 in
    let whole : length line ≡ 16777216 = omega (arith, c.loop-length.invariant.whole, c.loop-length.auto.length-end, c.loop-length-test.false) in
    let next = rw c.in-Some-2.is at c.in_ok-next_byte-2.ensures in
    let different : byte ≢ 10 = search rules in
    line_too_long (line ++ byte ∷ []) (All-push (λ b. b ≢ 10) line byte c.loop-length.invariant.plain different) _ _ _ line (omega (arith, whole, length-append line (byte ∷ [])))
    (Consumes-trans _ _ _ line (byte ∷ []) c.loop-length.invariant.bytes next) c.in_ok-skip_until-in-Some-2.ensures.rest
