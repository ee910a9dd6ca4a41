-- The value of a constant. The scanner caps it at 2^32; no type holds that value or a larger one, so the scanner finds the right
-- type.
use Rattle.std.proofs.Common.{◌≡◌, ℕ, ◌+◌, ◌*◌, ◌<◌, ◌≤◌, Bool, false, not, ◌&&◌, ◌||◌, ◌==◌, List, [], ◌∷◌, take, drop, min, refl, sym, ap, ◌∙◌, arith, ⊎_elim, Some, None, Result}
use Rattle.std.specs.Prelude.{nat_le}
use Rattle.std.specs.List.{fold, prefix_len}
use Rattle.std.specs.Char.{digit_value}
use Rattle.std.proofs.lemmas.Bool.{cond-false, cases_lt, lt-leb, and_right}
use Rattle.cc_tokens.specs.declared.lexical_error.LexicalError.{LexicalError}
use Rattle.cc_tokens.specs.declared.token.TokenKind.{TokenKind}
use Rattle.cc_tokens.specs.Constant.{is_digit_of, type_of_value}
use Rattle.cc_tokens.specs.internal.Scan.{typed, constant_kind, constant_spelled, constant_behind, base_of, prefix_of_base, suffix_of, with_suffix}

-- capping the sum before a step (times the base, plus a digit) does not change the capped sum after it
capped_step : (a base d : ℕ) → 1 ≤ base → min (min a 4294967296 * base + d) 4294967296 ≡ min (a * base + d) 4294967296
capped_step a base d some = ⊎_elim
    (λ (small : a < 4294967296). let e : min a 4294967296 ≡ a = omega arith in ap (λ v. min (v * base + d) 4294967296) e)
    (λ (large : 4294967296 ≤ a).
    let e : min a 4294967296 ≡ 4294967296 = omega arith in
    let past : 4294967296 ≤ a * base = grind arith in
    let left : min (4294967296 * base + d) 4294967296 ≡ 4294967296 = omega arith in
    let right : min (a * base + d) 4294967296 ≡ 4294967296 = omega arith in
    ap (λ v. min (v * base + d) 4294967296) e ∙ left ∙ sym right)
    (cases_lt a 4294967296)

capped_fold : (base : ℕ) → 1 ≤ base → (a : ℕ) (ds : List ℕ) → fold (λ v b. min (v * base + digit_value b) 4294967296) (min a 4294967296) ds ≡ min (fold (λ v b. v * base + digit_value b) a ds) 4294967296
capped_fold base some a [] = refl
capped_fold base some a (d ∷ ds) =
    ap (λ v. fold (λ v' b. min (v' * base + digit_value b) 4294967296) v ds) (capped_step a base (digit_value d) some) ∙ capped_fold base some (a * base + digit_value d) ds

pub capped_value : (base : ℕ) → 1 ≤ base → (ds : List ℕ) → fold (λ v b. min (v * base + digit_value b) 4294967296) 0 ds ≡ min (fold (λ v b. v * base + digit_value b) 0 ds) 4294967296
capped_value base some ds = capped_fold base some 0 ds

-- a value of 2^32 or more has no type
no_type : (base : ℕ) (suffixed : Bool) (v : ℕ) → 4294967296 ≤ v → type_of_value base suffixed v ≡ None
no_type base suffixed v large =
    let small : nat_le v 2147483647 ≡ false = lt-leb v 2147483647 (omega arith) in
    let unsigned : nat_le v 4294967295 ≡ false = lt-leb v 4294967295 (omega arith) in
    cond-false _ _ _ (and_right (not suffixed) _ small) ∙ cond-false _ _ _ (and_right (suffixed || not (base == 10)) _ unsigned)

pub capped_type : (base : ℕ) (suffixed : Bool) (v : ℕ) → typed (type_of_value base suffixed (min v 4294967296)) (min v 4294967296) ≡ typed (type_of_value base suffixed v) v
capped_type base suffixed v = ⊎_elim
    (λ (small : v < 4294967296). let e : min v 4294967296 ≡ v = omega arith in ap (λ w. typed (type_of_value base suffixed w) w) e)
    (λ (large : 4294967296 ≤ v).
    let e : min v 4294967296 ≡ 4294967296 = omega arith in
    ap (λ w. typed (type_of_value base suffixed w) w) e ∙ ap (λ t. typed t 4294967296) (no_type base suffixed 4294967296 (omega arith)) ∙ sym (ap (λ t. typed t v) (no_type base suffixed v large)))
    (cases_lt v 4294967296)

-- the parts that the scanner finds in a number are the parts of the constant that the number spells
pub kind_from_parts : (number : List ℕ) (base n : ℕ) (suffixed : Bool) → base ≡ base_of number → 1 ≤ base
    → n ≡ prefix_len (is_digit_of base) (drop (prefix_of_base base) number)
    → (n == 0 && not (base == 8)) ≡ false
    → suffix_of (drop n (drop (prefix_of_base base) number)) ≡ Some suffixed
    → typed (type_of_value base suffixed (fold (λ v b. min (v * base + digit_value b) 4294967296) 0 (take n (drop (prefix_of_base base) number)))) (fold (λ v b. min (v * base + digit_value b) 4294967296) 0 (take n (drop (prefix_of_base base) number))) ≡ constant_kind (constant_spelled number)
unfolding constant_spelled
kind_from_parts number base n suffixed base_is some n_is digits suffix_is =
    let behind = drop (prefix_of_base base) number in
    let capped = capped_value base some (take n behind) in
    let spelled : constant_behind base n behind ≡ Some (record { base = base; digits = take n behind; suffixed = suffixed })
    = cond-false _ _ _ digits ∙ ap (with_suffix base (take n behind)) suffix_is in
    let whole : constant_behind base (prefix_len (is_digit_of base) behind) behind ≡ Some (record { base = base; digits = take n behind; suffixed = suffixed }) = ap (λ k. constant_behind base k behind) (sym n_is) ∙ spelled in
    ap (λ v. typed (type_of_value base suffixed v) v) capped ∙ capped_type base suffixed (fold (λ v b. v * base + digit_value b) 0 (take n behind))
    ∙ sym (ap constant_kind (ap (λ b. constant_behind b (prefix_len (is_digit_of b) (drop (prefix_of_base b) number)) (drop (prefix_of_base b) number)) (sym base_is) ∙ whole))

-- the values that the code has computed are the parts of the constant that the number spells
pub kind_from_behind : (number behind : List ℕ) (base n v : ℕ) (suffixed : Bool) (r : Result TokenKind LexicalError) → base ≡ base_of number → 1 ≤ base
    → behind ≡ drop (prefix_of_base base) number
    → n ≡ prefix_len (is_digit_of base) behind
    → (n == 0 && not (base == 8)) ≡ false
    → suffix_of (drop n behind) ≡ Some suffixed
    → v ≡ fold (λ v b. min (v * base + digit_value b) 4294967296) 0 (take n behind)
    → r ≡ typed (type_of_value base suffixed v) v
    → r ≡ constant_kind (constant_spelled number)
kind_from_behind number behind base n v suffixed r base_is some behind_is n_is digits suffix_is v_is r_is =
    r_is ∙ ap (λ w. typed (type_of_value base suffixed w) w) (v_is ∙ ap (λ bs. fold (λ v b. min (v * base + digit_value b) 4294967296) 0 (take n bs)) behind_is)
    ∙ kind_from_parts number base n suffixed base_is some (n_is ∙ ap (λ bs. prefix_len (is_digit_of base) bs) behind_is) digits (ap (λ bs. suffix_of (drop n bs)) (sym behind_is) ∙ suffix_is)
