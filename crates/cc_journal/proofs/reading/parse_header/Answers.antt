use Rattle.std.proofs.Common.{◌≡◌, ℕ, get_or, sym, ◌∙◌, ap, subst, arith}
use Rattle.std.proofs.lemmas.Bool.{false≢true}
use Rattle.cc_journal.specs.Format.{header, IsArea}
use Rattle.cc_journal.proofs.Bytes.{differ, agree, header_area, begins_even, begins_odd}
use Rattle.cc_journal.proofs.reading.parse_header.Goals as goal

pub returns-then-ne-clause-wrong : goal.returns-then-ne-clause-wrong
returns-then-ne-clause-wrong c = λ _ area_byte area same is_area.
    let bytes = c.args.bytes.now in
    let size : c.from_le_bytes-area.result ≡ area = c.from_le_bytes-area.ensures ∙ header_area bytes area_byte area same (omega (arith, is_area.most)) in
    let first : get_or bytes 0 0 ≡ area_byte = ap (λ l. get_or l 0 0) same in
    let wanted : c.header_bytes-wanted.result ≡ header area_byte area = c.header_bytes-wanted.ensures ∙ (λ i. header (first i) (size i)) in
    differ c.as_slice.result.now c.as_slice-2.result.now c.ne.result c.ne.ensures c.if-ne.true (c.as_slice.ensures ∙ same ∙ sym wanted ∙ sym c.as_slice-2.ensures)

pub returns-then-area_byte-eq0-clause-right : goal.returns-then-area_byte-eq0-clause-right
returns-then-area_byte-eq0-clause-right c =
    let bytes = c.args.bytes.now in
    let same = sym c.as_slice.ensures ∙ agree c.as_slice.result.now c.as_slice-2.result.now c.ne.result c.ne.ensures c.if-ne.false ∙ c.as_slice-2.ensures ∙ c.header_bytes-wanted.ensures in
    (c.is_area.ensures.0 c.if-not-is_area.false, omega arith, begins_even bytes (get_or bytes 0 0) c.from_le_bytes-area.result same c.if-area_byte-eq0.true)

pub returns-else-area_byte-eq0-clause-right : goal.returns-else-area_byte-eq0-clause-right
returns-else-area_byte-eq0-clause-right c =
    let bytes = c.args.bytes.now in
    let same = sym c.as_slice.ensures ∙ agree c.as_slice.result.now c.as_slice-2.result.now c.ne.result c.ne.ensures c.if-ne.false ∙ c.as_slice-2.ensures ∙ c.header_bytes-wanted.ensures in
    (c.is_area.ensures.0 c.if-not-is_area.false, omega arith, begins_odd bytes (get_or bytes 0 0) c.from_le_bytes-area.result same c.if-area_byte-eq0.false)

pub returns-then-not-is_area-clause-wrong : goal.returns-then-not-is_area-clause-wrong
returns-then-not-is_area-clause-wrong c = λ _ area_byte area same is_area.
    let size : c.from_le_bytes-area.result ≡ area = c.from_le_bytes-area.ensures ∙ header_area c.args.bytes.now area_byte area same (omega (arith, is_area.most)) in
    false≢true (sym c.if-not-is_area.true ∙ c.is_area.ensures.1 (subst (λ (n : ℕ). IsArea c.args.size n) (sym size) is_area))
