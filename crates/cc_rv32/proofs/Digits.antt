-- The hexadecimal digits of a word, one at a time: after the highest digits of a word comes the next one, and eight of them are
-- the whole word.
use Rattle.std.proofs.Common.{◌≡◌, ℕ, ◌+◌, ◌-◌, ◌*◌, ◌/◌, ◌%◌, ◌^◌, ◌<◌, List, [], ◌∷◌, ◌++◌, sym, ◌∙◌, ap, arith, add-one, append_assoc, bit_and}
use Rattle.std.proofs.Math.Nat.{div-div-eq-div-mul, div-one}
use Rattle.std.proofs.lemmas.Nat.{pow-add, and_mask}
use Rattle.cc_rv32.specs.Listing.{hexadecimal, hexadecimal_digit}

-- the highest p + 1 digits of a word, without the last of them, are its highest p digits
shorter : (p w : ℕ) → p < 8 → w / 2 ^ (28 - 4 * p) / 16 ≡ w / 2 ^ (32 - 4 * p)
shorter p w h =
    let shift : 28 - 4 * p + 4 ≡ 32 - 4 * p = omega arith in
    let power : 2 ^ (28 - 4 * p) * 16 ≡ 2 ^ (32 - 4 * p) = sym (pow-add 2 (28 - 4 * p) 4) ∙ ap (λ n. 2 ^ n) shift in
    div-div-eq-div-mul w (2 ^ (28 - 4 * p)) 16 ∙ ap (λ n. w / n) power

hexadecimal_more : (p w : ℕ) → p < 8 →
    hexadecimal p (w / 2 ^ (32 - 4 * p)) ++ hexadecimal_digit (w / 2 ^ (28 - 4 * p) % 16) ∷ [] ≡ hexadecimal (p + 1) (w / 2 ^ (32 - 4 * (p + 1)))
hexadecimal_more p w h =
    let index : 32 - 4 * (p + 1) ≡ 28 - 4 * p = omega arith in
    ap (λ v. hexadecimal p v ++ hexadecimal_digit (w / 2 ^ (28 - 4 * p) % 16) ∷ []) (sym (shorter p w h))
    ∙ ap (λ q. hexadecimal q (w / 2 ^ (28 - 4 * p))) (sym (add-one p))
    ∙ ap (λ k. hexadecimal (p + 1) (w / 2 ^ k)) (sym index)

-- the next digit is written after the ones before it
pub digit_written : (p w d : ℕ) (before text written new : List ℕ) → p < 8 →
    text ≡ before ++ hexadecimal p (w / 2 ^ (32 - 4 * p)) →
    d ≡ hexadecimal_digit (bit_and (w / 2 ^ (28 - 4 * p)) 15) →
    written ≡ d ∷ [] →
    new ≡ text ++ written →
    new ≡ before ++ hexadecimal (p + 1) (w / 2 ^ (32 - 4 * (p + 1)))
digit_written p w d before text written new h so_far digit one all =
    let value : d ≡ hexadecimal_digit (w / 2 ^ (28 - 4 * p) % 16) = digit ∙ ap (λ n. hexadecimal_digit n) (and_mask (w / 2 ^ (28 - 4 * p)) 4) in
    all ∙ ap (λ t. t ++ written) so_far ∙ ap (λ s. (before ++ hexadecimal p (w / 2 ^ (32 - 4 * p))) ++ s) (one ∙ ap (λ n. n ∷ []) value)
    ∙ append_assoc before (hexadecimal p (w / 2 ^ (32 - 4 * p))) (hexadecimal_digit (w / 2 ^ (28 - 4 * p) % 16) ∷ [])
    ∙ ap (λ t. before ++ t) (hexadecimal_more p w h)

-- eight digits are all digits of the word
pub digits_written : (p w : ℕ) (before text : List ℕ) → p ≡ 8 →
    text ≡ before ++ hexadecimal p (w / 2 ^ (32 - 4 * p)) → text ≡ before ++ hexadecimal 8 w
digits_written p w before text e so_far =
    so_far ∙ ap (λ q. before ++ hexadecimal q (w / 2 ^ (32 - 4 * q))) e ∙ ap (λ v. before ++ hexadecimal 8 v) (div-one w)
