-- Tests that go before labels: each is directly after its label, if that is the first occurrence; what a test does, and what replaces it if
-- its word is known.
use Rattle.std.proofs.Common.{◌≡◌, ◌≢◌, ℕ, suc, ◌<◌, List, [], ◌∷◌, length, Option, Some, None, Bool, true, false, refl, sym, ap, ◌∙◌, subst, inl, inr, arith}
use Rattle.std.proofs.lemmas.Bool.Decides.{eqb_tells}
use Rattle.std.specs.Prelude.{if◌then◌else◌, ◌==◌, not, Contains}
use Rattle.std.specs.List.{AllPairs}
use Rattle.cc_simulation.specs.World.{World}
use Rattle.cc_simulation.specs.Run.{Goes}
use Rattle.cc_ltl.specs.declared.location.Location.TheVariants.{Register}
use Rattle.cc_ltl.specs.Ltl.{Locations}
use Rattle.cc_linear_language.specs.declared.item.LinearItem.{LinearItem}
use Rattle.cc_linear_language.specs.declared.item.LinearItem.TheVariants.{Label, Jump, IfNonzero, IfZero}
use Rattle.cc_linear_language.specs.Linear.{labels, place, at_items, does}
use Rattle.cc_select.specs.Known.{Known, is_taken}
use Rattle.cc_select.specs.Threading.{Tests, branches_to, first_test, test_behind, tests, way, before_jump}
use Rattle.cc_select.proofs.Basics.{none_some, eqb_yes, eqb_says, not_holds, or_left, or_right, either_way}
use Rattle.cc_select.proofs.Choosing.{Holds}

-- ---- a test

abbrev pub IsTest : LinearItem → Type 0
IsTest (IfNonzero r m) = Unit {0}
IsTest (IfZero r m) = Unit {0}
IsTest i = ⊥

-- where a test leads
abbrev pub target_of : LinearItem → ℕ
target_of (IfNonzero r m) = m
target_of (IfZero r m) = m
target_of i = 0

-- whether a test leads to its label
abbrev pub leads : LinearItem → Locations → Bool
leads (IfNonzero r m) l = not (l (Register r) == 0)
leads (IfZero r m) l = l (Register r) == 0
leads i l = false

pub test_does : (arity : ℕ → ℕ) (code : List LinearItem) (t : LinearItem) (items : List LinearItem) (l : Locations) (h : World) (ws : List ℕ) → IsTest t → does arity code (t ∷ items) l h ws ≡ Goes (at_items (if leads t l then place code (target_of t) else items) l h ws)
test_does arity code (IfNonzero r m) items l h ws is = ap (λ xs. Goes (at_items xs l h ws)) (turned (l (Register r) == 0))
  where
    turned : (b : Bool) → (if b then items else place code m) ≡ (if not b then place code m else items)
    turned true = refl
    turned false = refl
test_does arity code (IfZero r m) items l h ws is = refl
test_does arity code i items l h ws is = absurd is

-- ---- what replaces a test

nonzero_known : (z : Option ℕ) → is_taken true z ≡ true → (w : ℕ) × (z ≡ Some w) × ((w == 0) ≡ false)
nonzero_known None e = absurd (let z : false ≡ true = e in cc)
nonzero_known (Some w) e = (w, refl, not_holds (w == 0) e)

zero_known : (z : Option ℕ) → is_taken false z ≡ true → (w : ℕ) × (z ≡ Some w) × ((w == 0) ≡ true)
zero_known None e = absurd (let z : false ≡ true = e in cc)
zero_known (Some w) e = (w, refl, e)

module _ (P : LinearItem → Type 0) (k : Known) (l : Locations) (holds : Holds k l) (n : ℕ) where
  one_of : (b c out : Bool) (m : ℕ) (t : LinearItem) → (b ≡ true → out ≡ true) → (c ≡ true → out ≡ false) → (out ≡ true → P (Jump m)) → (out ≡ false → P (Jump n)) → P t → P (if b then Jump m else (if c then Jump n else t))
  one_of true c out m t there on f g p = f (there refl)
  one_of false true out m t there on f g p = g (on refl)
  one_of false false out m t there on f g p = p

  pub way_gives : (t : LinearItem) → IsTest t → (leads t l ≡ true → P (Jump (target_of t))) → (leads t l ≡ false → P (Jump n)) → P t → P (way k t n)
  way_gives (IfNonzero r m) is f g p =
      one_of (is_taken true (k r)) (is_taken false (k r)) (not (l (Register r) == 0)) m (IfNonzero r m)
      (λ e. let c = nonzero_known (k r) e in ap (λ v. not (v == 0)) (holds r c.0 c.1) ∙ ap not c.2)
      (λ e. let c = zero_known (k r) e in ap (λ v. not (v == 0)) (holds r c.0 c.1) ∙ ap not c.2) f g p
  way_gives (IfZero r m) is f g p =
      one_of (is_taken false (k r)) (is_taken true (k r)) (l (Register r) == 0) m (IfZero r m)
      (λ e. let c = zero_known (k r) e in ap (λ v. v == 0) (holds r c.0 c.1) ∙ c.2)
      (λ e. let c = nonzero_known (k r) e in ap (λ v. v == 0) (holds r c.0 c.1) ∙ c.2) f g p
  way_gives i is f g p = absurd is

-- what replaces a test is a jump or the test, whatever is known
pub way_is : (P : LinearItem → Type 0) (k : Known) (t : LinearItem) (n : ℕ) → IsTest t → P (Jump (target_of t)) → P (Jump n) → P t → P (way k t n)
way_is P k (IfNonzero r m) n is f g p = either_way P (is_taken true (k r)) (Jump m) (if is_taken false (k r) then Jump n else IfNonzero r m) f (either_way P (is_taken false (k r)) (Jump n) (IfNonzero r m) g p)
way_is P k (IfZero r m) n is f g p = either_way P (is_taken false (k r)) (Jump m) (if is_taken true (k r) then Jump n else IfZero r m) f (either_way P (is_taken true (k r)) (Jump n) (IfZero r m) g p)
way_is P k i n is f g p = absurd is

pub test_before_jump : (t : LinearItem) (n : ℕ) → IsTest t → before_jump t n ≡ t ∷ Jump n ∷ []
test_before_jump (IfNonzero r m) n is = refl
test_before_jump (IfZero r m) n is = refl
test_before_jump i n is = absurd is

-- ---- where a test is

-- at the label's place the test is after the label
pub record Gone (code : List LinearItem) (n : ℕ) (t : LinearItem) : Type 0 where
  pub rest : List LinearItem
  pub at : place code n ≡ Label n ∷ t ∷ rest
  pub test : IsTest t

first_says : (items : List LinearItem) (t : LinearItem) → first_test items ≡ Some t → (rest : List LinearItem) × (items ≡ t ∷ rest) × IsTest t
first_says [] t e = none_some t e
first_says (IfNonzero r m ∷ items) t e = let q : IfNonzero r m ≡ t = cc in (items, ap (λ x. x ∷ items) q, subst IsTest q tt)
first_says (IfZero r m ∷ items) t e = let q : IfZero r m ≡ t = cc in (items, ap (λ x. x ∷ items) q, subst IsTest q tt)
first_says (i ∷ items) t e = none_some t e

found_behind : (items : List LinearItem) (n : ℕ) (t : LinearItem) → test_behind items n ≡ Some t → Gone items n t
found_behind [] n t e = none_some t e
found_behind (Label m ∷ items) n t e = by (m == n) refl e (λ x. found_behind items n t x)
  where
    here : (rest : List LinearItem) × (items ≡ t ∷ rest) × IsTest t → m ≡ n → place (Label m ∷ items) n ≡ Label m ∷ items → Gone (Label m ∷ items) n t
    here (rest, is, test) same at = record { rest = rest; at = at ∙ ap (λ l. Label l ∷ items) same ∙ ap (λ xs. Label n ∷ xs) is; test = test }

    by : (b : Bool) → (m == n) ≡ b → (if b then first_test items else test_behind items n) ≡ Some t → (test_behind items n ≡ Some t → Gone items n t) → Gone (Label m ∷ items) n t
    by true q x ih = here (first_says items t x) (eqb_says m n q) (ap (λ (b : Bool). if b then Label m ∷ items else place items n) q)
    by false q x ih = let g = ih x in record { rest = g.rest; at = ap (λ (b : Bool). if b then Label m ∷ items else place items n) q ∙ g.at; test = g.test }
found_behind (i ∷ items) n t e = let g = found_behind items n t e in record { rest = g.rest; at = g.at; test = g.test }

pub gone_tests : (code : List LinearItem) (n : ℕ) (t : LinearItem) → tests code n ≡ Some t → Gone code n t
gone_tests code n t e = by (branches_to code n) e
  where
    by : (b : Bool) → (if b then None else test_behind code n) ≡ Some t → Gone code n t
    by true x = none_some t x
    by false x = found_behind code n t x

-- ---- items whose labels are the first, and whose branches lead to labels before which no test goes

abbrev pub Fine : (code : List LinearItem) (ts : Tests) → List LinearItem → Type 0
Fine code ts [] = Unit {0}
Fine code ts (Label n ∷ items) = (place code n ≡ Label n ∷ items) × Fine code ts items
Fine code ts (IfNonzero r n ∷ items) = (ts n ≡ None) × Fine code ts items
Fine code ts (IfZero r n ∷ items) = (ts n ≡ None) × Fine code ts items
Fine code ts (i ∷ items) = Fine code ts items

pub fine_place : (code : List LinearItem) (ts : Tests) (items : List LinearItem) (n : ℕ) → Fine code ts items → Fine code ts (place items n)
fine_place code ts [] n f = tt
fine_place code ts (Label m ∷ items) n f = either_way (Fine code ts) (m == n) (Label m ∷ items) (place items n) f (fine_place code ts items n f.1)
fine_place code ts (IfNonzero r m ∷ items) n f = fine_place code ts items n f.1
fine_place code ts (IfZero r m ∷ items) n f = fine_place code ts items n f.1
fine_place code ts (i ∷ items) n f = fine_place code ts items n f

abbrev pub Distinct : List ℕ → Type 0
Distinct ls = AllPairs (λ (a b : ℕ). a ≢ b) ls

pub contains_first : (x : ℕ) (xs : List ℕ) → Contains (x ∷ xs) x
contains_first x xs = (0, (let z : 0 < suc (length xs) = omega arith in z), refl)

pub contains_more : (x l : ℕ) (xs : List ℕ) → Contains xs l → Contains (x ∷ xs) l
contains_more x l xs (k, lt, e) = (suc k, (let z : suc k < suc (length xs) = omega arith in z), e)

distinct_first : (x : ℕ) (xs : List ℕ) → Distinct (x ∷ xs) → (l : ℕ) → Contains xs l → x ≢ l
distinct_first x xs h l (k, lt, e) same = h 0 (suc k) l (omega arith) (let z : suc k < suc (length xs) = omega arith in z) (same ∙ sym e)

distinct_rest : (x : ℕ) (xs : List ℕ) → Distinct (x ∷ xs) → Distinct xs
distinct_rest x xs h = λ i j d lt below. h (suc i) (suc j) d (omega arith) (let z : suc j < suc (length xs) = omega arith in z)

place_here : (m : ℕ) (items : List LinearItem) → place (Label m ∷ items) m ≡ Label m ∷ items
place_here m items = ap (λ (b : Bool). if b then Label m ∷ items else place items m) (eqb_yes m m refl)

place_on : (m n : ℕ) (items : List LinearItem) → m ≢ n → place (Label m ∷ items) n ≡ place items n
place_on m n items f = elim (eqb_tells m n) [ inl q ↦ absurd (f q.1) | inr q ↦ ap (λ (b : Bool). if b then Label m ∷ items else place items n) q.0 ]

module _ (code : List LinearItem) where
  none_there : (m : ℕ) → branches_to code m ≡ true → tests code m ≡ None
  none_there m e = ap (λ (b : Bool). if b then None else test_behind code m) e

  fine_from : (items : List LinearItem) → Distinct (labels items) → ((n : ℕ) → Contains (labels items) n → place code n ≡ place items n) → ((n : ℕ) → branches_to items n ≡ true → branches_to code n ≡ true) → Fine code (tests code) items
  fine_from [] d p b = tt
  fine_from (Label m ∷ items) d p b = (
    p m (contains_first m (labels items)) ∙ place_here m items,
    fine_from items (distinct_rest m (labels items) d) (λ n c. p n (contains_more m n (labels items) c) ∙ place_on m n items (distinct_first m (labels items) d n c)) b,
  )
  fine_from (IfNonzero r m ∷ items) d p b = (none_there m (b m (or_left (m == m) (branches_to items m) (eqb_yes m m refl))), fine_from items d p (λ n e. b n (or_right (m == n) (branches_to items n) e)))
  fine_from (IfZero r m ∷ items) d p b = (none_there m (b m (or_left (m == m) (branches_to items m) (eqb_yes m m refl))), fine_from items d p (λ n e. b n (or_right (m == n) (branches_to items n) e)))
  fine_from (i ∷ items) d p b = fine_from items d p b

  pub fine_tests : Distinct (labels code) → Fine code (tests code) code
  fine_tests d = fine_from code d (λ n c. refl) (λ n e. e)
