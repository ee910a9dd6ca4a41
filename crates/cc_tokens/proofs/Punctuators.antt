-- The punctuator that the scanner finds is the longest one that the bytes begin with, because the longest come first in the
-- table.
use Rattle.std.proofs.Common.{◌≡◌, ◌≢◌, ℕ, ◌≤◌, Bool, true, false, ◌&&◌, ◌==◌, List, [], ◌∷◌, ◌++◌, length, take, drop, refl, sym, ap, ◌∙◌, arith, subst, Some, None}
use Rattle.std.specs.Prelude.{nat_le}
use Rattle.std.specs.List.{find, starts_with, AllByRecursion}
use Rattle.std.proofs.lemmas.Bool.{cond_both, false≢true, and_parts, leb-true}
use Rattle.std.proofs.lemmas.Bool.Decides.{Decides-eqb}
use Rattle.std.proofs.lemmas.Slice.Eq.{starts_is}
use Rattle.std.proofs.lemmas.List.{take_at}
use Rattle.cc_tokens.specs.declared.token.Punctuator.{Punctuator}
use Rattle.cc_tokens.specs.declared.token.TheConstants.{PUNCTUATORS}
use Rattle.cc_tokens.specs.Spelling.{punctuator_bytes}
use Rattle.cc_tokens.specs.internal.Scan.{punctuator_at}
use Rattle.cc_tokens.proofs.Tables.{of_each_punctuator, punctuator_at-bytes}
use Rattle.cc_tokens.proofs.Words.{found_passes, missing_fails}

-- no punctuator is longer than the one before it
abbrev pub is_descending : ℕ → List Punctuator → Bool
is_descending most [] = true
is_descending most (p ∷ ps) = nat_le (length (punctuator_bytes p)) most && is_descending (length (punctuator_bytes p)) ps

none_longer : (test : Punctuator → Bool) (most top : ℕ) (ps : List Punctuator) → is_descending most ps ≡ true → most ≤ top → AllByRecursion (λ q. test q ≡ true → length (punctuator_bytes q) ≤ top) ps
none_longer test most top [] descends le = tt
none_longer test most top (p ∷ ps) descends le =
    let both = and_parts (nat_le (length (punctuator_bytes p)) most) (is_descending (length (punctuator_bytes p)) ps) descends in
    let first : length (punctuator_bytes p) ≤ most = leb-true _ _ both.0 in
    let ih = none_longer test (length (punctuator_bytes p)) top ps both.1 (omega arith) in
    ((λ passes. omega arith), ih)

pub longest_first : (test : Punctuator → Bool) (most : ℕ) (ps : List Punctuator) (p : Punctuator) → is_descending most ps ≡ true → find test ps ≡ Some p → AllByRecursion (λ q. test q ≡ true → length (punctuator_bytes q) ≤ length (punctuator_bytes p)) ps
longest_first test most [] p descends e = tt
longest_first test most (x ∷ ps) p descends e =
    let both = and_parts (nat_le (length (punctuator_bytes x)) most) (is_descending (length (punctuator_bytes x)) ps) descends in
    let ih = longest_first test (length (punctuator_bytes x)) ps p both.1 in
    cond_both (test x) (Some x) (find test ps) (λ o. o ≡ Some p → AllByRecursion (λ q. test q ≡ true → length (punctuator_bytes q) ≤ length (punctuator_bytes p)) (x ∷ ps))
    (λ here e'.
    let same : x ≡ p = cc in
    subst (λ y. AllByRecursion (λ q. test q ≡ true → length (punctuator_bytes q) ≤ length (punctuator_bytes y)) (x ∷ ps)) same ((λ passes. omega arith), none_longer test (length (punctuator_bytes x)) (length (punctuator_bytes x)) ps both.1 (omega arith)))
    (λ not_here e'. ((λ passes. absurd (false≢true (sym not_here ∙ passes))), ih e'))
    e

-- a punctuator passes the test of the table exactly if the bytes begin with it
pub head_test : (bytes : List ℕ) (p : Punctuator) → (starts_with (λ a b. a == b) bytes (punctuator_bytes p) ≡ true → bytes ≡ punctuator_bytes p ++ drop (length (punctuator_bytes p)) bytes) × ((rest : List ℕ) → bytes ≡ punctuator_bytes p ++ rest → starts_with (λ a b. a == b) bytes (punctuator_bytes p) ≡ true)
head_test bytes p = starts_is Decides-eqb bytes (punctuator_bytes p) (starts_with (λ a b. a == b) bytes (punctuator_bytes p)) refl

pub punctuator_found : (bytes : List ℕ) (p : Punctuator) → punctuator_at bytes ≡ Some p → bytes ≡ punctuator_bytes p ++ drop (length (punctuator_bytes p)) bytes
unfolding punctuator_at
punctuator_found bytes p e = (head_test bytes p).0 (found_passes (λ q. starts_with (λ a b. a == b) bytes (punctuator_bytes q)) PUNCTUATORS p e)

pub punctuator_longest : (bytes : List ℕ) (p q : Punctuator) (rest : List ℕ) → punctuator_at bytes ≡ Some p → bytes ≡ punctuator_bytes q ++ rest → length (punctuator_bytes q) ≤ length (punctuator_bytes p)
unfolding punctuator_at
punctuator_longest bytes p q rest e prefix =
    of_each_punctuator (λ r. starts_with (λ a b. a == b) bytes (punctuator_bytes r) ≡ true → length (punctuator_bytes r) ≤ length (punctuator_bytes p)) (longest_first (λ r. starts_with (λ a b. a == b) bytes (punctuator_bytes r)) 3 PUNCTUATORS p refl e) q ((head_test bytes q).1 rest prefix)

pub punctuator_missing : (bytes : List ℕ) (q : Punctuator) (rest : List ℕ) → punctuator_at bytes ≡ None → bytes ≢ punctuator_bytes q ++ rest
unfolding punctuator_at
punctuator_missing bytes q rest e prefix =
    false≢true (sym (of_each_punctuator (λ r. starts_with (λ a b. a == b) bytes (punctuator_bytes r) ≡ false) (missing_fails (λ r. starts_with (λ a b. a == b) bytes (punctuator_bytes r)) PUNCTUATORS e) q) ∙ (head_test bytes q).1 rest prefix)

-- two punctuators of the same length that the bytes begin with are the same
pub punctuator_one : (p q : Punctuator) (a b : List ℕ) → punctuator_bytes p ++ a ≡ punctuator_bytes q ++ b → length (punctuator_bytes p) ≡ length (punctuator_bytes q) → p ≡ q
punctuator_one p q a b e sizes =
    let bytes : punctuator_bytes p ≡ punctuator_bytes q = sym (take_at (punctuator_bytes p) a (length (punctuator_bytes p)) refl) ∙ ap (take (length (punctuator_bytes p))) e ∙ take_at (punctuator_bytes q) b (length (punctuator_bytes p)) (sym sizes) in
    let named : Some p ≡ Some q = sym (punctuator_at-bytes p) ∙ ap punctuator_at bytes ∙ punctuator_at-bytes q in
    cc
