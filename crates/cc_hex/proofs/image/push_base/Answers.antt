-- The base address moves if a block of 65,536 addresses begins here; otherwise nothing is written.
use Rattle.std.proofs.Common.{◌≡◌, ℕ, List, ◌++◌, ◌/◌, ◌%◌, Result, Ok, Err, OnOk, ap, sym, ◌∙◌}
use Rattle.std.proofs.lemmas.List.{append-nil}
use Rattle.std.specs.Int.{w16, to_be_bytes}
use Rattle.cc_hex.specs.Layout.{base_line, record_line}
use Rattle.cc_hex.proofs.Bases.{base_line_is, no_base_line}
use Rattle.cc_hex.proofs.image.push_base.Goals as goal

-- if a block begins here, what is written is its base line
moved : {T E : Type 0} (r : Result T E) (a : ℕ) (old new bytes : List ℕ) → a % 65536 ≡ 0 → bytes ≡ to_be_bytes w16 (a / 65536) →
    OnOk r (new ≡ old ++ record_line 4 0 bytes) → OnOk r (new ≡ old ++ base_line a)
moved (Ok x) a old new bytes e b h = h ∙ ap (λ bs. old ++ record_line 4 0 bs) b ∙ ap (λ line. old ++ line) (sym (base_line_is a e))
moved (Err x) a old new bytes e b h = tt

pub returns : goal.returns
returns c = moved c.push_record.result c.args.address c.args.text.now.items c.push_record.new.text.items c.to_be_bytes.result c.if-address-ne0.false c.to_be_bytes.ensures c.push_record.ensures

pub returns-then-address-ne0 : goal.returns-then-address-ne0
returns-then-address-ne0 c = sym (ap (λ line. c.args.text.now.items ++ line) (no_base_line c.args.address c.if-address-ne0.true) ∙ append-nil c.args.text.now.items)
