-- The length of a function's written LTL fits in four bytes.
use Rattle.std.proofs.Common.{◌≡◌, ℕ, List, length, sym, ap, ◌∙◌, arith}
use Rattle.std.proofs.lemmas.Result.{on_ok_weaker}
use Rattle.cc_ltl.specs.Bytes.{ltl_bytes, word_bytes}
use Rattle.cc_link.proofs.Certified.{field_added, put_ok}
use Rattle.cc_link.proofs.Short.{ltl_short}
use Rattle.cc_link.proofs.certificate.add_ltl.Goals as goal

pub overflow_cast-len : goal.overflow_cast-len
overflow_cast-len c =
    let l = c.args.ltl.now in
    let long : length c.in_ok-written.written.items ≡ length (ltl_bytes l) = ap (λ (b : List ℕ). length b) c.in_ok-written.ensures.spelled.spelled in
    let short = ltl_short l c.requires.is_ltl c.requires.few in
    omega (arith, long, short, c.in_ok-written.written.ok)

pub returns : goal.returns
returns c =
    let l = c.args.ltl.now in
    on_ok_weaker c.extend_from_slice-2.result (λ added. field_added c.args.bytes.now.items c.extend_from_slice.new.self.items c.extend_from_slice-2.new.self.items _ c.as_slice.result.now l
    c.in_ok-extend_from_slice.ensures.items (c.to_le_bytes.ensures ∙ ap (λ n. word_bytes n) (c.len.ensures ∙ sym c.as_slice.ensures.len)) (c.as_slice.ensures.value ∙ c.in_ok-written.ensures.spelled.spelled) added) (put_ok c.extend_from_slice-2.result _ _ _ c.extend_from_slice-2.ensures.items)
