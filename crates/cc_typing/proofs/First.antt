-- The error that is recorded is the first of all errors.
use Rattle.std.proofs.Common.{◌≡◌, ℕ, ◌<◌, ◌≤◌, ◌⊎◌, inl, inr, Bool, true, false, ◌&&◌, ◌||◌, ◌==◌, if◌then◌else◌, nat_lt, List, [], ◌∷◌, Some, None, Contains, refl, sym, subst, ◌∙◌, arith}
use Rattle.std.specs.List.{AllByRecursion}
use Rattle.std.proofs.lemmas.Bool.Decides.{nat_tests}
use Rattle.std.proofs.lemmas.List.Elements.{Contains-append_right}
use Rattle.cc_types.specs.Fault.{rule_number}
use Rattle.cc_types.specs.Typed.{NotAfter, IsFirst}
use Rattle.cc_typing.specs.internal.Findings.{is_before, earlier, noted}
use Rattle.cc_types.specs.declared.rule.RuleError.{RuleError}

-- the test for the order of errors decides how their offsets and numbers are related
order-true : (a b m n : ℕ) → (nat_lt a b || (a == b && nat_lt m n)) ≡ true → (a < b) ⊎ ((a ≡ b) × (m ≤ n))
order-true a b m n h = grind (arith, nat_tests)

order-false : (a b m n : ℕ) → (nat_lt a b || (a == b && nat_lt m n)) ≡ false → (b < a) ⊎ ((b ≡ a) × (n ≤ m))
order-false a b m n h = grind (arith, nat_tests)

order-trans : (a b c k m n : ℕ) → (a < b) ⊎ ((a ≡ b) × (k ≤ m)) → (b < c) ⊎ ((b ≡ c) × (m ≤ n)) → (a < c) ⊎ ((a ≡ c) × (k ≤ n))
order-trans a b c k m n (inl h) (inl g) = inl (omega arith)
order-trans a b c k m n (inl h) (inr g) = inl (omega arith)
order-trans a b c k m n (inr h) (inl g) = inl (omega arith)
order-trans a b c k m n (inr h) (inr g) = inr (omega arith, omega arith)

not_after-trans : (o p q : RuleError) → NotAfter o p → NotAfter p q → NotAfter o q
not_after-trans o p q = order-trans o.at p.at q.at (rule_number o.rule) (rule_number p.rule) (rule_number q.rule)

not_after-itself : (o : RuleError) → NotAfter o o
not_after-itself o = inr (refl, omega arith)

-- the earlier of two errors comes after neither of them
earlier-first : (p x : RuleError) → NotAfter (earlier (Some p) x) p × NotAfter (earlier (Some p) x) x
earlier-first p x = by (is_before x p) refl
  where
    by : (b : Bool) → is_before x p ≡ b → NotAfter (if b then x else p) p × NotAfter (if b then x else p) x
    by true e = (order-true x.at p.at (rule_number x.rule) (rule_number p.rule) e, not_after-itself x)
    by false e = (not_after-itself p, order-false x.at p.at (rule_number x.rule) (rule_number p.rule) e)

earlier-either : (p x : RuleError) → (earlier (Some p) x ≡ p) ⊎ (earlier (Some p) x ≡ x)
earlier-either p x = by (is_before x p)
  where
    by : (b : Bool) → ((if b then x else p) ≡ p) ⊎ ((if b then x else p) ≡ x)
    by true = inr refl
    by false = inl refl

contains-first : (x : RuleError) (xs : List RuleError) (o : RuleError) → o ≡ x → Contains (x ∷ xs) o
contains-first x xs o e = (0, omega arith, sym e)

-- if an error is recorded and then some more, the first of them all is kept
noted-first : (p : RuleError) (xs : List RuleError) (o : RuleError) → noted (Some p) xs ≡ Some o → ((o ≡ p) ⊎ Contains xs o) × NotAfter o p × AllByRecursion (NotAfter o) xs
noted-first p [] o e = let same : o ≡ p = cc in (inl same, subst (λ q. NotAfter q p) (sym same) (not_after-itself p), tt)
noted-first p (x ∷ xs) o e =
    let q = earlier (Some p) x in
    let h = noted-first q xs o e in
    let among : (o ≡ q) ⊎ Contains xs o → ((o ≡ p) ⊎ Contains (x ∷ xs) o) = λ w.
    elim w [
      | inl same ↦ elim (earlier-either p x) [ inl old ↦ inl (same ∙ old) | inr new ↦ inr (contains-first x xs o (same ∙ new)) ]
      | inr later ↦ inr (Contains-append_right (x ∷ []) xs o later)
    ] in
    (among h.0, not_after-trans o q p h.1 (earlier-first p x).0, (not_after-trans o q x h.1 (earlier-first p x).1, h.2))

pub IsFirst-noted : (xs : List RuleError) (o : RuleError) → noted None xs ≡ Some o → IsFirst o xs
IsFirst-noted [] o e = absurd (let c : ⊥ = cc in c)
IsFirst-noted (x ∷ xs) o e =
    let h = noted-first x xs o e in
    let among : Contains (x ∷ xs) o = elim h.0 [ inl same ↦ contains-first x xs o same | inr later ↦ Contains-append_right (x ∷ []) xs o later ] in
    (among, (h.1, h.2))

noted-some : (p : RuleError) (xs : List RuleError) → noted (Some p) xs ≡ None → ⊥
noted-some p [] e = cc
noted-some p (x ∷ xs) e = noted-some (earlier (Some p) x) xs e

pub noted-none : (xs : List RuleError) → noted None xs ≡ None → xs ≡ []
noted-none [] e = refl
noted-none (x ∷ xs) e = absurd (noted-some x xs e)
