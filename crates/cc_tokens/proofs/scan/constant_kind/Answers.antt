use Rattle.std.proofs.Common.{arith, take, drop, length, ◌-◌, ◌≡◌, ◌==◌, ◌&&◌, not, false, ap, sym, ◌∙◌, ⊎_elim}
use Rattle.std.proofs.lemmas.Bool.{ne_eqb, eq-eqb, and_left, and_right, not_from_true}
use Rattle.std.proofs.lemmas.List.{take_rest}
use Rattle.cc_tokens.proofs.ConstantValue.{kind_from_behind}
use Rattle.cc_tokens.proofs.scan.constant_kind.Goals as goal

pub returns-in-Some : goal.returns-in-Some
returns-in-Some c =
    let number = c.args.number.now in
    let p = c.prefix_of_base.result in
    let base = c.base_of-base.result in
    let n = c.digits_len-n.result in
    let behind = take (length number - p) (drop p number) in
    let digits : (n == 0 && not (base == 8)) ≡ false
    = ⊎_elim (λ w. and_right (n == 0) _ (not_from_true _ (eq-eqb base 8 w.1))) (λ w. and_left _ _ (ne_eqb n 0 w)) c.else-n-eq0.either in
    kind_from_behind number behind base n c.value_of.result c.in-Some.suffixed c.typed.result c.base_of-base.ensures.value (omega (arith, c.base_of-base.ensures.low)) (take_rest number p ∙ ap (λ k. drop k number) c.prefix_of_base.ensures) c.digits_len-n.ensures.value digits (sym (rw (take_rest behind n) at c.in-Some.ensures)) c.value_of.ensures c.typed.ensures
