-- The place that is found is that of the byte of the whole.
use Rattle.std.proofs.Common.{rules, ◌≡◌, ◌+◌, ◌<◌, ◌≤◌, ℕ, suc, length, inl, inr, arith, get_or}
use Rattle.std.specs.Prelude.{◌⊎◌}
use Rattle.cc_sources.specs.Joined.{newline_after}
use Rattle.cc_sources.proofs.Texts.{lies, moved}
use Rattle.cc_sources.proofs.place.place_in.Goals.{then-number-texts-via-then-number-texts, then-number-texts-via-else-number-texts+then-is_within}
use Rattle.cc_sources.proofs.place.place_in.Goals as goal

pub returns-then-number-texts : goal.returns-then-number-texts
returns-then-number-texts c =
    let text = c.text-item.result in
    let bytes : c.as_slice-bytes.result.now ≡ text.bytes.items = search rules in
    let number : c.loop-text.number ≡ c.loop-text.text-index = c.loop-text.invariant.number in
    let here : c.loop-text.number < length c.args.texts.now = omega (arith, number, c.loop-text-test.true) in
    let why : (suc c.loop-text.number ≡ length c.args.texts.now) ⊎ (c.loop-text.left < length text.bytes.items + length (newline_after text.bytes.items)) =
    elim c.then-number-texts.branch [
      | then-number-texts-via-then-number-texts w ↦ inl (omega (arith, w.if-number-texts.true))
      | then-number-texts-via-else-number-texts+then-is_within w ↦ inr (search rules)
    ] in
    lies c.args.texts.now c.loop-text.number c.args.at c.loop-text.left text c.found.result here (search rules) c.loop-text.invariant.begins why
    c.found.ensures.number (search rules) (search rules) (search rules)

pub loop-text-preserved : goal.loop-text-preserved
loop-text-preserved c =
    let text = c.text-item.result in
    let number : c.loop-text.number ≡ c.loop-text.text-index = c.loop-text.invariant.number in
    record {
      number = omega (arith, number);
      begins = moved c.args.texts.now c.loop-text.number (c.loop-text.number + 1) c.args.at c.loop-text.left c.after-left.result text (omega arith)
          (omega (arith, number, c.if-number-texts.false, c.loop-text-test.true)) (search rules) c.loop-text.invariant.begins (search rules);
    }
