use Rattle.std.proofs.Common.{◌≡◌, ◌++◌, ℕ, List, codes, append_assoc, ap, ◌∙◌}
use Rattle.cc_ast.specs.Source.{source}
use Rattle.cc_wide_text.specs.Numbers.{declaration}
use Rattle.cc_wide_text.proofs.Values.{constant_read, constant_none}
use Rattle.cc_wide_text.proofs.numbers.constant_of.Goals as goal

-- what is written is the declaration
written : (value text a b c : List ℕ) → text ≡ c → c ≡ b ++ codes "; " → b ≡ a ++ value → a ≡ codes "int __enum = " → text ≡ declaration value
written value text a b c t e d f =
    t ∙ e ∙ ap (λ (l : List ℕ). l ++ codes "; ") (d ∙ ap (λ (l : List ℕ). l ++ value) f) ∙ append_assoc (codes "int __enum = ") value (codes "; ")

pub returns-in-Ok : goal.returns-in-Ok
returns-in-Ok c =
    constant_read c.args.value.now c.as_slice.result.now (source c.in-Ok.unit).externals c.word_of_unit.result
    (written c.args.value.now c.as_slice.result.now c.in_ok-text.text.items c.extend_from_slice.new.self.items c.extend_from_slice-2.new.self.items c.as_slice.ensures.value
    c.in_ok-extend_from_slice-2.ensures.items c.in_ok-extend_from_slice.ensures.items c.in_ok-text.ensures.items)
    c.in-Ok.ensures.fits c.in-Ok.ensures.spelled c.in-Ok.ensures.only c.word_of_unit.ensures

pub returns : goal.returns
returns c =
    constant_none c.args.value.now c.as_slice.result.now c.in-Err.fault c.no_number.result
    (written c.args.value.now c.as_slice.result.now c.in_ok-text.text.items c.extend_from_slice.new.self.items c.extend_from_slice-2.new.self.items c.as_slice.ensures.value
    c.in_ok-extend_from_slice-2.ensures.items c.in_ok-extend_from_slice.ensures.items c.in_ok-text.ensures.items)
    c.in-Err.ensures.only c.no_number.ensures
