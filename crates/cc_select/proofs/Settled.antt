-- The table of a function's labels is settled: it was checked (`fits`), or everything is live at each label. A row has only the 32
-- registers, so a number above them counts as live in each row.
use Rattle.std.proofs.Common.{◌≡◌, ℕ, zero, suc, ◌<◌, ◌≤◌, ◌⊎◌, List, [], ◌∷◌, true, false, Bool, refl, ap, ◌∙◌, subst, inl, inr, arith}
use Rattle.std.proofs.lemmas.Bool.{cases_lt}
use Rattle.std.proofs.lemmas.Bool.Decides.{nat_tests, eqb_tells}
use Rattle.std.specs.Prelude.{if◌then◌else◌, ◌==◌, ◌||◌, not, nat_le}
use Rattle.cc_linear_language.specs.declared.item.LinearItem.TheVariants.{Label}
use Rattle.cc_select.specs.declared.step.Step.{Step}
use Rattle.cc_select.specs.declared.step.Step.TheVariants.{One}
use Rattle.cc_select.specs.Selected.{place}
use Rattle.cc_select.specs.Live.{Registers, nothing, live}
use Rattle.cc_select.specs.internal.Settled.{IsSettled}
use Rattle.cc_select.specs.Table.{Table, row, rows, swept, all_below, fits, nowhere, settled_in, most_sweeps, table}
use Rattle.cc_select.proofs.Basics.{eqb_says, both_hold, implied}

all_says : (n : ℕ) (f : ℕ → Bool) → all_below n f ≡ true → (r : ℕ) → r < n → f r ≡ true
all_says zero f e r lt = absurd (omega arith)
all_says (suc n) f e r lt = by (both_hold (f n) (all_below n f) e) (last r n lt) (λ a lt. all_says n f a r lt)
  where
    last : (r n : ℕ) → r < suc n → (r ≡ n) ⊎ (r < n)
    last r n lt = elim (eqb_tells r n) [ inl t ↦ inl t.1 | inr t ↦ (let m = t.1 in inr (omega arith)) ]

    by : (f n ≡ true) × (all_below n f ≡ true) → (r ≡ n) ⊎ (r < n) → (all_below n f ≡ true → r < n → f r ≡ true) → f r ≡ true
    by p (inl q) ih = ap f q ∙ p.0
    by p (inr q) ih = ih p.1 q

-- the rows count all registers above the 32 as live
abbrev pub IsHigh : Table → Type 0
IsHigh t = (l r : ℕ) → 32 ≤ r → t l r ≡ true

above : (s : Registers) (r : ℕ) → 32 ≤ r → row s r ≡ true
above s r le = ap (λ b. b || s r) (says r le)
  where
    says : (r : ℕ) → 32 ≤ r → nat_le 32 r ≡ true
    says r le = grind (arith, nat_tests)

row_has : (t : Table) (l : ℕ) (s : Registers) → ((r : ℕ) → 32 ≤ r → t l r ≡ true) → all_below 32 (λ r. not (s r) || t l r) ≡ true → (r : ℕ) → s r ≡ true → t l r ≡ true
row_has t l s high e r i = by (cases r)
  where
    cases : (r : ℕ) → (r < 32) ⊎ (32 ≤ r)
    cases r = cases_lt r 32

    by : (r < 32) ⊎ (32 ≤ r) → t l r ≡ true
    by (inl lt) = implied (s r) (t l r) (all_says 32 (λ r. not (s r) || t l r) e r lt) i
    by (inr le) = high r le

-- what is live before the steps is live at the label
abbrev Has : Table → ℕ → List Step → Type 0
Has t l steps = (r : ℕ) → live t steps r ≡ true → t l r ≡ true

has_if : (t : Table) (l n : ℕ) (b : Bool) (steps others : List Step) → (n == l) ≡ b → Has t n steps → Has t l others → Has t l (if b then One (Label n) ∷ steps else others)
has_if t l n true steps others e p q = λ r i. subst (λ m. t m r ≡ true) (eqb_says n l e) (p r i)
has_if t l n false steps others e p q = q

pub fits_says : (t : Table) (steps : List Step) (l : ℕ) → IsHigh t → fits t steps ≡ true → Has t l (place steps l)
fits_says t [] l high e = λ r i. absurd (let z : false ≡ true = i in cc)
fits_says t (One (Label n) ∷ steps) l high e =
    let two = both_hold (all_below 32 (λ r. not (live t steps r) || t n r)) (fits t steps) e in
    has_if t l n (n == l) steps (place steps l) refl (row_has t n (live t steps) (high n) two.0) (fits_says t steps l high two.1)
fits_says t (s ∷ steps) l high e = fits_says t steps l high e

pub rows_high : (t : Table) (steps : List Step) → IsHigh t → IsHigh (rows t steps)
rows_high t [] high l r le = high l r le
rows_high t (One (Label n) ∷ steps) high l r le = by (n == l) (rows_high t steps high l r le)
  where
    by : (b : Bool) → rows t steps l r ≡ true → (if b then row (swept t steps).0 else rows t steps l) r ≡ true
    by true e = above (swept t steps).0 r le
    by false e = e
rows_high t (s ∷ steps) high l r le = rows_high t steps high l r le

nowhere_high : IsHigh nowhere
nowhere_high l r le = above nothing r le

pub settled_is_settled : (n : ℕ) (t : Table) (code : List Step) → IsHigh t → IsSettled (settled_in n t code) code
settled_is_settled zero t code high = λ l r i. refl
settled_is_settled (suc n) t code high = by (fits (rows t code) code) refl (settled_is_settled n (rows t code) code (rows_high t code high))
  where
    by : (b : Bool) → fits (rows t code) code ≡ b → IsSettled (settled_in n (rows t code) code) code → IsSettled (if b then rows t code else settled_in n (rows t code) code) code
    by true e ih = λ l r i. fits_says (rows t code) code l (rows_high t code high) e r i
    by false e ih = ih

pub is_settled : (code : List Step) → IsSettled (table code) code
unfolding table
is_settled code = settled_is_settled most_sweeps nowhere code nowhere_high
