-- The constant that the scanner finds in a number is the one that the number spells, and the scanner finds none if the number
-- spells none. One direction goes through the three bases, the other through the three prefixes and the two suffixes.
use Rattle.std.proofs.Common.{◌≡◌, ℕ, suc, zero, ◌+◌, ◌≤◌, ◌⊎◌, Bool, true, false, not, ◌&&◌, ◌||◌, ◌==◌, List, [], ◌∷◌, ◌++◌, length, get_or, take, drop, refl, sym, ap, ◌∙◌, arith, subst, ⊎_elim, inl, inr, Option, Some, None}
use Rattle.std.specs.Prelude.{IsTrue}
use Rattle.std.specs.List.{prefix_len, AllByRecursion}
use Rattle.std.specs.Char.{digit_value, is_ascii_digit}
use Rattle.std.proofs.lemmas.Bool.{cond-true, cond-false, cond_both, false≢true, eqb-true, eq-eqb, ne_eqb, or_cases, or_left, or_right, and_cases, and_left, and_right, or_from, le-ltb, not_from_true, not-false, cases_Bool, cases_eq}
use Rattle.std.proofs.Math.Numerals.{one-add}
use Rattle.std.proofs.lemmas.List.{take-append-drop, take_at, drop_at}
use Rattle.std.proofs.lemmas.Bool.Decides.{nat_tests}
use Rattle.std.proofs.lemmas.List.Sums.{prefix_len-le-length}
use Rattle.cc_tokens.specs.Constant.{Constant, is_digit_of, IsPrefix, decimal, octal, hexadecimal, IsSuffix, none, unsigned, SpellsConstant}
use Rattle.cc_tokens.specs.internal.Scan.{constant_spelled, constant_behind, base_of, prefix_of_base, suffix_of, with_suffix}

-- `Some x` equals `Some y` only if x equals y, and `Some x` is not None
some_same : {A : Type 0} (x y : A) → Some x ≡ Some y → x ≡ y
some_same x y e = cc

none_some : {A : Type 0} (x : A) → None ≡ Some x → ⊥
none_some x e = cc

-- the bytes that are counted as digits are digits
head_digits : (p : ℕ → Bool) (bs : List ℕ) → AllByRecursion (λ b. IsTrue (p b)) (take (prefix_len p bs) bs)
head_digits p [] = tt
head_digits p (b ∷ bs) =
    let ih = head_digits p bs in
    let e = one-add (prefix_len p bs) in
    cond_both (p b) (1 + prefix_len p bs) 0 (λ n. AllByRecursion (λ x. IsTrue (p x)) (take n (b ∷ bs))) (λ yes. subst (λ n. AllByRecursion (λ x. IsTrue (p x)) (take n (b ∷ bs))) (sym e) (yes, ih)) (λ no. tt)

-- all digits are counted, if what follows begins with none
prefix_len_cut : (p : ℕ → Bool) (digits rest : List ℕ) → AllByRecursion (λ b. IsTrue (p b)) digits → prefix_len p rest ≡ 0 → prefix_len p (digits ++ rest) ≡ length digits
prefix_len_cut p [] rest all stops = stops
prefix_len_cut p (d ∷ digits) rest all stops =
    let ih = prefix_len_cut p digits rest all.1 stops in
    cond-true (p d) _ _ all.0 ∙ one-add _ ∙ ap suc ih

-- two or more bytes are not a suffix
long_suffix : (a b : ℕ) (bs : List ℕ) → suffix_of (a ∷ b ∷ bs) ≡ None
unfolding suffix_of
long_suffix a b bs = cond-false _ _ _ (ne_eqb (length (a ∷ b ∷ bs)) 0 (λ e. omega arith)) ∙ cond-false _ _ _ (and_left _ _ (ne_eqb (length (a ∷ b ∷ bs)) 1 (λ e. omega arith)))

-- what is accepted as a suffix is a suffix
suffix_found : (bs : List ℕ) (s : Bool) → suffix_of bs ≡ Some s → IsSuffix bs s
unfolding suffix_of
suffix_found [] true e = absurd (false≢true (some_same _ _ e))
suffix_found [] false e = none
suffix_found (a ∷ []) s e = cond_both (a == 117 || a == 85) (Some true) None (λ o. o ≡ Some s → IsSuffix (a ∷ []) s) (λ is_suffix e'. subst (IsSuffix (a ∷ [])) (some_same _ _ e') (unsigned (⊎_elim (λ x. inl (eqb-true a 117 x)) (λ x. inr (eqb-true a 85 x)) (or_cases (a == 117) (a == 85) is_suffix)))) (λ no e'. absurd (none_some _ e')) e
suffix_found (a ∷ b ∷ bs) s e = absurd (none_some _ (sym (long_suffix a b bs) ∙ e))

-- what follows the prefix: digits, as many as possible, and a suffix
record IsBehind (base n : ℕ) (behind : List ℕ) (c : Constant) : Type 0 where
  base_is : c.base ≡ base
  digits_are : c.digits ≡ take n behind
  some : n ≡ 0 → base ≡ 8
  ended : IsSuffix (drop n behind) c.suffixed

behind_found_by : (base n : ℕ) (behind : List ℕ) (o : Option Bool) (c : Constant) → suffix_of (drop n behind) ≡ o → (n ≡ 0 → base ≡ 8) → with_suffix base (take n behind) o ≡ Some c → IsBehind base n behind c
behind_found_by base n behind None c suffix some e = absurd (none_some _ e)
behind_found_by base n behind (Some s) c suffix some e =
    let same = some_same _ _ e in
    record {
      base_is = ap (λ (k : Constant). k.base) (sym same);
      digits_are = ap (λ (k : Constant). k.digits) (sym same);
      some = some;
      ended = subst (λ (k : Constant). IsSuffix (drop n behind) k.suffixed) same (suffix_found (drop n behind) s suffix);
    }

behind_found : (base n : ℕ) (behind : List ℕ) (c : Constant) → constant_behind base n behind ≡ Some c → IsBehind base n behind c
behind_found base n behind c =
    cond_both (n == 0 && not (base == 8)) None (with_suffix base (take n behind) (suffix_of (drop n behind))) (λ o. o ≡ Some c → IsBehind base n behind c)
    (λ bare e. absurd (none_some _ e))
    (λ digits e. behind_found_by base n behind (suffix_of (drop n behind)) c refl
    (λ zero_digits. ⊎_elim
    (λ apart. absurd (false≢true (sym apart ∙ eq-eqb n 0 zero_digits)))
    (λ apart. eqb-true base 8 (not-false _ apart))
    (and_cases (n == 0) (not (base == 8)) digits))
    e)

-- if the first decimal digit is not 0, the prefix before the digits is empty
decimal_digits : (b : ℕ) (bs : List ℕ) (n : ℕ) → (b ≡ 48 → ⊥) → (n ≡ 0 → ◌≡◌ {A = ℕ} 10 8) → IsPrefix [] 10 (take n (b ∷ bs))
decimal_digits b bs zero apart some = absurd (let e = some refl in omega arith)
decimal_digits b bs (suc n) apart some = decimal apart

hexadecimal_digits : (x : ℕ) (bs : List ℕ) (n : ℕ) → n ≤ length bs → (x ≡ 120) ⊎ (x ≡ 88) → (n ≡ 0 → ◌≡◌ {A = ℕ} 16 8) → IsPrefix (48 ∷ x ∷ []) 16 (take n bs)
hexadecimal_digits x bs zero fits letter some = absurd (let e = some refl in omega arith)
hexadecimal_digits x [] (suc n) fits letter some = absurd (omega arith)
hexadecimal_digits x (b ∷ bs) (suc n) fits letter some = hexadecimal letter

-- the prefix and what follows it spell the constant
spelled_behind : (c : Constant) (text prefix behind : List ℕ) (base : ℕ) → text ≡ prefix ++ behind
    → IsBehind base (prefix_len (is_digit_of base) behind) behind c
    → IsPrefix prefix base (take (prefix_len (is_digit_of base) behind) behind)
    → SpellsConstant c text
spelled_behind c text prefix behind base whole parts prefixed =
    let n = prefix_len (is_digit_of base) behind in
    let digits_are = parts.digits_are in
    let base_is = parts.base_is in
    record {
      prefix = prefix;
      suffix = drop n behind;
      parts = whole ∙ ap (λ bs. prefix ++ bs) (sym (take-append-drop n behind) ∙ ap (λ ds. ds ++ drop n behind) (sym digits_are));
      prefixed = subst (λ ds. IsPrefix prefix c.base ds) (sym digits_are) (subst (λ b. IsPrefix prefix b (take n behind)) (sym base_is) prefixed);
      all_digits = subst (λ ds. AllByRecursion (λ b. IsTrue (is_digit_of c.base b)) ds) (sym digits_are) (subst (λ k. AllByRecursion (λ b. IsTrue (is_digit_of k b)) (take n behind)) (sym base_is) (head_digits (is_digit_of base) behind));
      ended = parts.ended;
    }

-- the constant that the scanner finds if the base is this one
spelled_at : ℕ → List ℕ → Option Constant
spelled_at base text = constant_behind base (prefix_len (is_digit_of base) (drop (prefix_of_base base) text)) (drop (prefix_of_base base) text)

constant_spelled_at : (text : List ℕ) (base : ℕ) → base_of text ≡ base → constant_spelled text ≡ spelled_at base text
unfolding constant_spelled spelled_at
constant_spelled_at text base e = ap (λ b. constant_behind b (prefix_len (is_digit_of b) (drop (prefix_of_base b) text)) (drop (prefix_of_base b) text)) e

base_is_10 : (b : ℕ) (bs : List ℕ) → (b ≡ 48 → ⊥) → base_of (b ∷ bs) ≡ 10
unfolding base_of
base_is_10 b bs apart = cond-false _ _ _ (ne_eqb b 48 apart)

base_is_8 : (bs : List ℕ) → (get_or bs 0 0 == 120 || get_or bs 0 0 == 88) ≡ false → base_of (48 ∷ bs) ≡ 8
unfolding base_of
base_is_8 bs no_letter = cond-false _ _ _ no_letter

base_is_16 : (x : ℕ) (bs : List ℕ) → (x == 120 || x == 88) ≡ true → base_of (48 ∷ x ∷ bs) ≡ 16
unfolding base_of
base_is_16 x bs letter = cond-true _ _ _ letter

-- **a constant that is found is spelled**
sound_at_48 : (bs : List ℕ) (c : Constant) → constant_spelled (48 ∷ bs) ≡ Some c → SpellsConstant c (48 ∷ bs)
unfolding spelled_at
sound_at_48 [] c e =
    spelled_behind c _ (48 ∷ []) [] 8 refl (behind_found 8 _ [] c (sym (constant_spelled_at (48 ∷ []) 8 (base_is_8 [] refl)) ∙ e)) octal
sound_at_48 (x ∷ bs) c e = ⊎_elim
    (λ letter.
    let parts = behind_found 16 _ bs c (sym (constant_spelled_at (48 ∷ x ∷ bs) 16 (base_is_16 x bs letter)) ∙ e) in
    spelled_behind c _ (48 ∷ x ∷ []) bs 16 refl parts (hexadecimal_digits x bs _ (prefix_len-le-length (is_digit_of 16) bs) (⊎_elim (λ y. inl (eqb-true x 120 y)) (λ y. inr (eqb-true x 88 y)) (or_cases (x == 120) (x == 88) letter)) parts.some))
    (λ no_letter.
    spelled_behind c _ (48 ∷ []) (x ∷ bs) 8 refl (behind_found 8 _ (x ∷ bs) c (sym (constant_spelled_at (48 ∷ x ∷ bs) 8 (base_is_8 (x ∷ bs) no_letter)) ∙ e)) octal)
    (cases_Bool (x == 120 || x == 88))

pub constant_sound : (b : ℕ) (bs : List ℕ) (c : Constant) → constant_spelled (b ∷ bs) ≡ Some c → SpellsConstant c (b ∷ bs)
unfolding spelled_at
constant_sound b bs c e = ⊎_elim
    (λ is_zero. subst (λ d. constant_spelled (d ∷ bs) ≡ Some c → SpellsConstant c (d ∷ bs)) (sym is_zero) (sound_at_48 bs c) e)
    (λ apart.
    let parts = behind_found 10 _ (b ∷ bs) c (sym (constant_spelled_at (b ∷ bs) 10 (base_is_10 b bs apart)) ∙ e) in
    spelled_behind c _ [] (b ∷ bs) 10 refl parts (decimal_digits b bs _ apart parts.some))
    (cases_eq b 48)

-- a suffix does not begin with a digit
suffix_letter : (x : ℕ) → (x ≡ 117) ⊎ (x ≡ 85) → 16 ≤ digit_value x
suffix_letter x letter = ⊎_elim (λ e. subst (λ y. 16 ≤ digit_value y) (sym e) (omega arith)) (λ e. subst (λ y. 16 ≤ digit_value y) (sym e) (omega arith)) letter

suffix_stops : (base : ℕ) (bs : List ℕ) (s : Bool) → base ≤ 16 → IsSuffix bs s → prefix_len (is_digit_of base) bs ≡ 0
suffix_stops base _ _ small none = refl
suffix_stops base _ _ small (unsigned {x} letter) = let far = suffix_letter x letter in cond-false _ _ _ (le-ltb (digit_value x) base (omega arith))

suffix_is : (bs : List ℕ) (s : Bool) → IsSuffix bs s → suffix_of bs ≡ Some s
unfolding suffix_of
suffix_is _ _ none = refl
suffix_is _ _ (unsigned {x} letter) =
    let is_letter : (x == 117 || x == 85) ≡ true = ⊎_elim (λ e. or_left (x == 117) (x == 85) (eq-eqb x 117 e)) (λ e. or_right (x == 117) (x == 85) (eq-eqb x 85 e)) letter in
    cond-true (x == 117 || x == 85) (Some true) None is_letter

-- the scanner finds the digits and the suffix after a prefix
behind_is_found : (base : ℕ) (digits suffix : List ℕ) (s : Bool) → base ≤ 16 → (length digits ≡ 0 → base ≡ 8)
    → AllByRecursion (λ b. IsTrue (is_digit_of base b)) digits → IsSuffix suffix s
    → constant_behind base (prefix_len (is_digit_of base) (digits ++ suffix)) (digits ++ suffix) ≡ Some (record { base = base; digits = digits; suffixed = s })
behind_is_found base digits suffix s small some all ended =
    let n_is = prefix_len_cut (is_digit_of base) digits suffix all (suffix_stops base suffix s small ended) in
    let enough : (length digits == 0 && not (base == 8)) ≡ false
    = ⊎_elim (λ (e : length digits ≡ 0). and_right (length digits == 0) _ (not_from_true _ (eq-eqb base 8 (some e)))) (λ (apart : length digits ≡ 0 → ⊥). and_left _ _ (ne_eqb (length digits) 0 apart)) (cases_eq (length digits) 0) in
    ap (λ n. constant_behind base n (digits ++ suffix)) n_is
    ∙ cond-false _ _ _ enough
    ∙ ap (λ ds. with_suffix base ds (suffix_of (drop (length digits) (digits ++ suffix)))) (take_at digits suffix (length digits) refl)
    ∙ ap (with_suffix base digits) (ap suffix_of (drop_at digits suffix (length digits) refl) ∙ suffix_is suffix s ended)

-- octal digits and a suffix after `0` do not begin with x
no_hexadecimal : (digits suffix : List ℕ) (s : Bool) → AllByRecursion (λ b. IsTrue (is_digit_of 8 b)) digits → IsSuffix suffix s → (get_or (digits ++ suffix) 0 0 == 120 || get_or (digits ++ suffix) 0 0 == 88) ≡ false
no_hexadecimal [] _ _ all none = refl
no_hexadecimal [] _ _ all (unsigned {x} letter) = ⊎_elim (λ e. subst (λ y. (y == 120 || y == 88) ≡ false) (sym e) refl) (λ e. subst (λ y. (y == 120 || y == 88) ≡ false) (sym e) refl) letter
no_hexadecimal (d ∷ digits) suffix s all ended =
    or_from _ _ (ne_eqb d 120 (λ e. false≢true (subst (λ y. is_digit_of 8 y ≡ true) e all.0))) (ne_eqb d 88 (λ e. false≢true (subst (λ y. is_digit_of 8 y ≡ true) e all.0)))

found_by : (prefix : List ℕ) (base : ℕ) (digits suffix : List ℕ) (s : Bool) → IsPrefix prefix base digits
    → AllByRecursion (λ b. IsTrue (is_digit_of base b)) digits → IsSuffix suffix s
    → constant_spelled (prefix ++ (digits ++ suffix)) ≡ Some (record { base = base; digits = digits; suffixed = s })
unfolding spelled_at
found_by _ _ _ suffix s (decimal {d} {ds} apart) all ended =
    constant_spelled_at (d ∷ (ds ++ suffix)) 10 (base_is_10 d (ds ++ suffix) apart) ∙ behind_is_found 10 (d ∷ ds) suffix s (omega arith) (λ e. absurd (omega arith)) all ended
found_by _ _ _ suffix s (octal {ds}) all ended =
    constant_spelled_at (48 ∷ (ds ++ suffix)) 8 (base_is_8 (ds ++ suffix) (no_hexadecimal ds suffix s all ended)) ∙ behind_is_found 8 ds suffix s (omega arith) (λ e. refl) all ended
found_by _ _ _ suffix s (hexadecimal {x} {d} {ds} letter) all ended =
    constant_spelled_at (48 ∷ x ∷ d ∷ (ds ++ suffix)) 16 (base_is_16 x (d ∷ (ds ++ suffix)) (⊎_elim (λ e. or_left _ _ (eq-eqb x 120 e)) (λ e. or_right _ _ (eq-eqb x 88 e)) letter)) ∙ behind_is_found 16 (d ∷ ds) suffix s (omega arith) (λ e. absurd (omega arith)) all ended

-- **a constant that is spelled is found**
pub constant_complete : (c : Constant) (text : List ℕ) → SpellsConstant c text → constant_spelled text ≡ Some c
constant_complete c text spelled = ap constant_spelled spelled.parts ∙ found_by spelled.prefix c.base c.digits spelled.suffix c.suffixed spelled.prefixed spelled.all_digits spelled.ended

-- a constant begins with a digit
digit_below_10 : (b : ℕ) → is_digit_of 10 b ≡ true → is_ascii_digit b ≡ true
digit_below_10 b digit = grind (arith, nat_tests)

prefix_begins : (prefix : List ℕ) (base : ℕ) (digits suffix : List ℕ) → IsPrefix prefix base digits → AllByRecursion (λ b. IsTrue (is_digit_of base b)) digits → is_ascii_digit (get_or (prefix ++ (digits ++ suffix)) 0 0) ≡ true
prefix_begins _ _ _ suffix (decimal {d} {ds} apart) all = digit_below_10 d all.0
prefix_begins _ _ _ suffix (octal {ds}) all = refl
prefix_begins _ _ _ suffix (hexadecimal {x} {d} {ds} letter) all = refl

pub constant_begins : (c : Constant) (text : List ℕ) → SpellsConstant c text → is_ascii_digit (get_or text 0 0) ≡ true
constant_begins c text spelled = ap (λ bs. is_ascii_digit (get_or bs 0 0)) spelled.parts ∙ prefix_begins spelled.prefix c.base c.digits spelled.suffix spelled.prefixed spelled.all_digits
