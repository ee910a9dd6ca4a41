-- Where words come from through many moves: one more move in the table, and bits that are put where the table says, one by one and all
-- together.
use Rattle.std.proofs.Common.{◌≡◌, ℕ, zero, suc, ◌+◌, ◌^◌, ◌<◌, ◌≤◌, List, [], ◌∷◌, ◌++◌, length, get_or, set, refl, sym, ap, ◌∙◌, subst, Bool, true, false, ◌==◌, ◌&&◌, ◌||◌, if◌then◌else◌, ◌⊎◌, inl, inr, arith, Contains, IsTrue}
use Rattle.std.specs.List.{range_with_len}
use Rattle.std.proofs.lemmas.Bool.{cases_eq, cases_lt, eq-eqb, eqb-true, and_parts, and_from, or_cases, or_left, or_right}
use Rattle.std.proofs.lemmas.List.{get_or-set_same, get_or-set_other, length-set, get_or_past}
use Rattle.std.proofs.lemmas.List.FromFn.{length-range_with_len, get_or-range_with_len}
use Rattle.cc_ltl.specs.Ltl.{same_location, target, source}
use Rattle.cc_ltl.specs.declared.operation.Move.{Move}
use Rattle.cc_bits.specs.Rows.{Table, has}
use Rattle.cc_validate.specs.declared.equation.Equation.{Equation}
use Rattle.cc_validate.specs.Equations.{equation, before_move, before_moves}
use Rattle.cc_validate.specs.internal.Room.{place, IsPlace, most_places}
use Rattle.cc_validate.specs.internal.Table.{number, listed, AreEquations}
use Rattle.cc_validate.specs.internal.Carried.{AreCarried}
use Rattle.cc_validate.specs.internal.Origins.{AreOrigins, AreSent}
use Rattle.cc_validate.proofs.Members.{same_place_is}
use Rattle.cc_validate.proofs.Listed.{listed_has, listed_fits, has_listed, bit_listed, number_place, place_fits}
use Rattle.cc_validate.proofs.Carried.{same_number, same_test, number_below}

-- ---- the table

-- to carry back through moves with one more at the end is to carry through that one first
before_more : (moves : List Move) (m : Move) (e : Equation) → before_moves (moves ++ m ∷ []) e ≡ before_moves moves (before_move m e)
before_more [] m e = refl
before_more (x ∷ moves) m e = ap (before_move x) (before_more moves m e)

-- moves change no pseudo-register
same_register : (moves : List Move) (e : Equation) → (before_moves moves e).register ≡ e.register
same_register [] e = refl
same_register (m ∷ moves) e = same_register moves e

range_from : (a n : ℕ) → range_with_len a (suc n) ≡ range_with_len a n ++ (a + n) ∷ []
range_from a zero = ap (λ k. k ∷ []) (let e : a ≡ a + 0 = omega arith in e)
range_from a (suc n) = ap (λ xs. a ∷ xs) (range_from (a + 1) n ∙ ap (λ k. range_with_len (a + 1) n ++ k ∷ []) (let e : a + 1 + n ≡ a + suc n = omega arith in e))

pub range_more : (n : ℕ) → range_with_len 0 (n + 1) ≡ range_with_len 0 n ++ n ∷ []
range_more n = ap (range_with_len 0) (let e : n + 1 ≡ suc n = omega arith in e) ∙ (range_from 0 n ∙ ap (λ k. range_with_len 0 n ++ k ∷ []) (let e : 0 + n ≡ n = omega arith in e))

pub origins_none : AreOrigins [] (range_with_len 0 most_places)
origins_none = record {
  long = length-range_with_len 0 most_places;
  places = λ e h. h;
  each = λ e h. get_or-range_with_len 0 most_places (number e.location) 0 (number_below e.location h) ∙ (let z : 0 + number e.location ≡ number e.location = omega arith in z);
}

module _ (moves : List Move) (origins : List ℕ) (m : Move) (to : IsPlace (target m)) (from : IsPlace (source m)) (are : AreOrigins moves origins) where
  abbrev next : List ℕ
  next = set origins (number (target m)) (get_or origins (number (source m)) 0)

  -- the new entry of a location is the old entry of the location that an equation on it has before the move
  said : (e : Equation) → IsPlace e.location → IsPlace (before_move m e).location × (get_or next (number e.location) 0 ≡ get_or origins (number (before_move m e).location) 0)
  said e h = go (same_location (target m) e.location) refl
    where
      go : (b : Bool) → same_location (target m) e.location ≡ b → IsPlace (before_move m e).location × (get_or next (number e.location) 0 ≡ get_or origins (number (before_move m e).location) 0)
      go true t =
          let here : before_move m e ≡ equation e.register (source m) = ap (λ b. equation e.register (if b then source m else e.location)) t in
          let at : number e.location ≡ number (target m) = ap number (sym (same_place_is (target m) e.location t)) in
          subst (λ (x : Equation). IsPlace x.location × (get_or next (number e.location) 0 ≡ get_or origins (number x.location) 0)) (sym here)
          (from, ap (λ n. get_or next n 0) at ∙ get_or-set_same origins (number (target m)) (get_or origins (number (source m)) 0) 0 (subst (λ n. number (target m) < n) (sym are.long) (number_below (target m) to)))
      go false t =
          let here : before_move m e ≡ e = ap (λ b. equation e.register (if b then source m else e.location)) t in
          subst (λ (x : Equation). IsPlace x.location × (get_or next (number e.location) 0 ≡ get_or origins (number x.location) 0)) (sym here)
          (h, get_or-set_other origins (number (target m)) (number e.location) (get_or origins (number (source m)) 0) 0 (λ k. absurd (let s = same_test (target m) e.location (same_number (target m) e.location to h (sym k)) in cc)))

  pub origins_more : AreOrigins (moves ++ m ∷ []) next
  origins_more = record {
    long = length-set origins (number (target m)) (get_or origins (number (source m)) 0) ∙ are.long;
    places = λ e h. subst (λ (x : Equation). IsPlace x.location) (sym (before_more moves m e)) (are.places (before_move m e) (said e h).0);
    each = λ e h. (said e h).1 ∙ (are.each (before_move m e) (said e h).0 ∙ ap (λ (x : Equation). number x.location) (sym (before_more moves m e)));
  }

-- the entries of the table are numbers of locations
pub origins_low : (moves : List Move) (origins : List ℕ) → AreOrigins moves origins → (c : ℕ) → get_or origins c 0 < most_places
origins_low moves origins are c = elim (cases_lt c (length origins)) [
  | inl lt ↦
      (let e = equation 0 (place c) in
      let low : c < most_places = subst (λ n. c < n) are.long lt in
      let fits = place_fits c low in
      subst (λ n. n < most_places) (sym (ap (λ n. get_or origins n 0) (sym (number_place c)) ∙ are.each e fits)) (number_below (before_moves moves e).location (are.places e fits)))
  | inr ge ↦ subst (λ n. n < most_places) (sym (get_or_past origins c 0 ge)) (omega arith)
]

-- ---- the bits

-- `AreSent` also holds for an equivalent description of the bits
pub sent_as : (some same : (r c : ℕ) → Type 0) (origins : List ℕ) (new : Table) → ((r c : ℕ) → same r c → some r c) → ((r c : ℕ) → some r c → same r c) → AreSent some origins new → AreSent same origins new
sent_as some same origins new to from h = record {
  there = λ r c i. h.there r c (to r c i);
  only = λ r p i. (let o = h.only r p i in (o.0, from r o.0 o.1, o.2));
}

-- `AreSent` holds after one more bit is set
pub sent_more : (from : (r c : ℕ) → Type 0) (origins : List ℕ) (old new : Table) (r c : ℕ) → AreSent from origins old
    → ((i j : ℕ) → has new i j ≡ ((r == i && get_or origins c 0 == j) || has old i j)) → AreSent (λ i k. from i k ⊎ ((i ≡ r) × (k ≡ c))) origins new
sent_more from origins old new r c h more = record { there = there; only = only }
  where
    there : (i k : ℕ) → from i k ⊎ ((i ≡ r) × (k ≡ c)) → IsTrue (has new i (get_or origins k 0))
    there i k (inl early) = more i (get_or origins k 0) ∙ or_right (r == i && get_or origins c 0 == get_or origins k 0) (has old i (get_or origins k 0)) (h.there i k early)
    there i k (inr (row, column)) =
        more i (get_or origins k 0) ∙ or_left (r == i && get_or origins c 0 == get_or origins k 0) (has old i (get_or origins k 0))
        (and_from (r == i) (get_or origins c 0 == get_or origins k 0) (eq-eqb r i (sym row)) (eq-eqb (get_or origins c 0) (get_or origins k 0) (ap (λ n. get_or origins n 0) (sym column))))

    only : (i p : ℕ) → IsTrue (has new i p) → (k : ℕ) × (from i k ⊎ ((i ≡ r) × (k ≡ c))) × (get_or origins k 0 ≡ p)
    only i p t = elim (or_cases (r == i && get_or origins c 0 == p) (has old i p) (sym (more i p) ∙ t)) [
      | inl is ↦ (let b = and_parts (r == i) (get_or origins c 0 == p) is in (c, inr (sym (eqb-true r i b.0), refl), eqb-true (get_or origins c 0) p b.1))
      | inr early ↦ (let o = h.only i p early in (o.0, inl o.1, o.2))
    ]

-- the bits of the rows before r, and of the first c columns of row r
abbrev Columns : (old : Table) (r c : ℕ) → (i j : ℕ) → Type 0
Columns old r c i j = ((i < r) ⊎ ((i ≡ r) × (j < c))) × IsTrue (has old i j)

-- `AreSent` holds with one more column, if its bit is set; then, if its bit is clear
pub column_sent : (old : Table) (origins : List ℕ) (r c : ℕ) (mid new : Table) → has old r c ≡ true → ((i j : ℕ) → has new i j ≡ ((r == i && get_or origins c 0 == j) || has mid i j))
    → AreSent (Columns old r c) origins mid → AreSent (Columns old r (c + 1)) origins new
column_sent old origins r c mid new set more h = sent_as (λ i k. Columns old r c i k ⊎ ((i ≡ r) × (k ≡ c))) (Columns old r (c + 1)) origins new to from (sent_more (Columns old r c) origins mid new r c h more)
  where
    to : (i j : ℕ) → Columns old r (c + 1) i j → Columns old r c i j ⊎ ((i ≡ r) × (j ≡ c))
    to i j (inl early, bit) = inl (inl early, bit)
    to i j (inr (row, low), bit) = elim (cases_eq j c) [ inl same ↦ inr (row, same) | inr other ↦ inl (inr (row, (let l : j < c = omega (arith, low, other) in l)), bit) ]

    from : (i j : ℕ) → Columns old r c i j ⊎ ((i ≡ r) × (j ≡ c)) → Columns old r (c + 1) i j
    from i j (inl (inl early, bit)) = (inl early, bit)
    from i j (inl (inr (row, low), bit)) = (inr (row, (let l : j < c + 1 = omega (arith, low) in l)), bit)
    from i j (inr (row, column)) = (inr (row, (let l : j < c + 1 = omega (arith, column) in l)), ap (λ n. has old n j) row ∙ (ap (has old r) column ∙ set))

pub column_skipped : (old : Table) (origins : List ℕ) (r c : ℕ) (new : Table) → has old r c ≡ false → AreSent (Columns old r c) origins new → AreSent (Columns old r (c + 1)) origins new
column_skipped old origins r c new clear h = sent_as (Columns old r c) (Columns old r (c + 1)) origins new to from h
  where
    to : (i j : ℕ) → Columns old r (c + 1) i j → Columns old r c i j
    to i j (inl early, bit) = (inl early, bit)
    to i j (inr (row, low), bit) = elim (cases_eq j c) [
      | inl same ↦ absurd (let there : has old r c ≡ true = sym (ap (λ n. has old n j) row ∙ ap (has old r) same) ∙ bit in cc)
      | inr other ↦ (inr (row, (let l : j < c = omega (arith, low, other) in l)), bit)
    ]

    from : (i j : ℕ) → Columns old r c i j → Columns old r (c + 1) i j
    from i j (inl early, bit) = (inl early, bit)
    from i j (inr (row, low), bit) = (inr (row, (let l : j < c + 1 = omega (arith, low) in l)), bit)

-- all rows
pub rows_sent : (old : Table) (origins : List ℕ) (n : ℕ) (new : Table) → ((r c : ℕ) → n ≤ r → has old r c ≡ false) → AreSent (λ i j. (i < n) × IsTrue (has old i j)) origins new → AreSent (λ i j. IsTrue (has old i j)) origins new
rows_sent old origins n new past h = sent_as (λ i j. (i < n) × IsTrue (has old i j)) (λ i j. IsTrue (has old i j)) origins new to (λ i j k. k.1) h
  where
    to : (i j : ℕ) → IsTrue (has old i j) → (i < n) × IsTrue (has old i j)
    to i j bit = elim (cases_lt i n) [ inl low ↦ (low, bit) | inr high ↦ absurd (let none = past i j high in cc) ]

module _ (moves : List Move) (origins : List ℕ) (old new : Table) (are : AreOrigins moves origins) (bits : AreEquations old) (sent : AreSent (λ r c. IsTrue (has old r c)) origins new) where
  pub sent_equations : AreEquations new
  sent_equations = record {
    registers = λ r p i. (let o = sent.only r p i in bits.registers r o.0 o.1);
    places = λ r p i. (let o = sent.only r p i in subst (λ n. n < most_places) o.2 (origins_low moves origins are o.0));
  }

  sent_there : (e : Equation) → Contains (listed old) e → Contains (listed new) (before_moves moves e)
  sent_there e i =
      let fits = listed_fits old e i in
      let x = before_moves moves e in
      let register : x.register ≡ e.register = same_register moves e in
      has_listed new x (subst (λ r. r < 2 ^ 32) (sym register) fits.0) (are.places e fits.1)
      (ap (λ r. has new r (number x.location)) register ∙ (ap (has new e.register) (sym (are.each e fits.1)) ∙ sent.there e.register (number e.location) (listed_has old e i)))

  sent_only : (x : Equation) → Contains (listed new) x → (e : Equation) × Contains (listed old) e × (before_moves moves e ≡ x)
  sent_only x i =
      let fits = listed_fits new x i in
      let o = sent.only x.register (number x.location) (listed_has new x i) in
      let e = equation x.register (place o.0) in
      let here = place_fits o.0 (bits.places x.register o.0 o.1) in
      let y = before_moves moves e in
      let at : number y.location ≡ number x.location = sym (are.each e here) ∙ (ap (λ n. get_or origins n 0) (number_place o.0) ∙ o.2) in
      let l : y.location ≡ x.location = same_number y.location x.location (are.places e here) fits.1 at in
      (e, bit_listed old bits x.register o.0 o.1, ap {B = Equation} (λ n. equation n y.location) (same_register moves e) ∙ ap {B = Equation} (equation x.register) l)

  pub sent_carried : AreCarried (before_moves moves) (listed old) (listed new)
  sent_carried = record { there = sent_there; only = sent_only }
