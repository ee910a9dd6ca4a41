-- The numbers of names: a name that has a number keeps it, and no other name gets it.
use Rattle.std.proofs.Common.{◌≡◌, ℕ, suc, ◌<◌, ◌≤◌, ◌+◌, Bool, true, false, cond, List, [], ◌∷◌, length, Option, Some, None, is_some, refl, sym, ap, ◌∙◌, Bor, nat_eq, arith}
use Rattle.std.specs.Cmp.Lexicographic.{bytes_decides, nat_list_eq_equiv}
use Rattle.std.proofs.lemmas.Bool.Decides.{nat_tests}
use Rattle.std.specs.Map.{lookup}
use Rattle.std.specs.BTreeMap.{BTreeMap, get}
use Rattle.cc_types.specs.Names.{same_name}
use Rattle.cc_scope.specs.Numberings.{numbered_in, number_of_name, number_or_next, at_number, AreNumbers, IsNumbered}
use Rattle.std.specs.Ordering.{is_eq}
use Rattle.cc_scope.proofs.KeyOrder.{same_key, key_cmp, same_key-ties, lookup-get}

-- a look-up of a name in the map's entries finds the name's number
pub lookup-numbered : (entries : List (Bor (List ℕ) × ℕ)) (q : Bor (List ℕ)) → lookup (same_key q) entries ≡ number_of_name (numbered_in entries) q.now
lookup-numbered [] q = refl
lookup-numbered (e ∷ es) q = ap (cond (same_name q.now e.0.now) (Some e.1)) (lookup-numbered es q)

pub get-numbered : (m : BTreeMap (Bor (List ℕ)) ℕ) (q : Bor (List ℕ)) → get key_cmp m q ≡ number_of_name (numbered_in m.entries) q.now
get-numbered m q = sym (lookup-get m q) ∙ lookup-numbered m.entries q

pub length-numbered : (entries : List (Bor (List ℕ) × ℕ)) → length (numbered_in entries) ≡ length entries
length-numbered [] = refl
length-numbered (e ∷ es) = ap suc (length-numbered es)

pub AreNumbers-none : AreNumbers []
AreNumbers-none = record { one = λ x y n e f. absurd cc; below = λ x n e. absurd cc }

-- ---- one more name

module _ (old new : List (List ℕ × ℕ)) (x : List ℕ) (n : ℕ) (numbers : AreNumbers old) (is : n ≡ number_or_next old x)
    (found : (y : List ℕ) → number_of_name new y ≡ cond (same_name x y) (Some n) (number_of_name old y))
    (long : length new ≡ length old + cond (is_some (number_of_name old x)) 0 1) where
  inside : n < length new
  inside = by (number_of_name old x) refl
    where
      by : (r : Option ℕ) → number_of_name old x ≡ r → n < length new
      by None e =
          let next : n ≡ length old = is ∙ ap (λ r. elim r [ None ↦ length old | Some m ↦ m ]) e in
          let more : length new ≡ length old + 1 = long ∙ ap (λ r. length old + cond (is_some r) 0 1) e in
          omega (arith, next, more)
      by (Some m) e =
          let same : n ≡ m = is ∙ ap (λ r. elim r [ None ↦ length old | Some m ↦ m ]) e in
          let few : m < length old = numbers.below x m e in
          let more : length new ≡ length old + 0 = long ∙ ap (λ r. length old + cond (is_some r) 0 1) e in
          omega (arith, same, few, more)

  longer : length old ≤ length new
  longer = by (is_some (number_of_name old x)) long
    where
      by : (b : Bool) → length new ≡ length old + cond b 0 1 → length old ≤ length new
      by true e = omega (arith, e)
      by false e = omega (arith, e)

  below : (y : List ℕ) (m : ℕ) → number_of_name new y ≡ Some m → m < length new
  below y m e = by (same_name x y) (sym (found y) ∙ e)
    where
      by : (b : Bool) → cond b (Some n) (number_of_name old y) ≡ Some m → m < length new
      by true h = let same : n ≡ m = cc in let within = inside in omega (arith, same, within)
      by false h = let few : m < length old = numbers.below y m h in let more = longer in omega (arith, few, more)

  -- no other name had the number `n`
  apart : (z : List ℕ) → same_name x z ≡ false → number_of_name old z ≡ Some n → true ≡ false
  apart z h e = by (number_of_name old x) refl
    where
      by : (r : Option ℕ) → number_of_name old x ≡ r → true ≡ false
      by None k =
          let next : n ≡ length old = is ∙ ap (λ r. elim r [ None ↦ length old | Some m ↦ m ]) k in
          let few : n < length old = numbers.below z n e in
          absurd (omega (arith, next, few))
      by (Some m) k =
          let same : n ≡ m = is ∙ ap (λ r. elim r [ None ↦ length old | Some m ↦ m ]) k in
          sym (numbers.one x z n (k ∙ ap Some (sym same)) e) ∙ h

  one : (y z : List ℕ) (m : ℕ) → number_of_name new y ≡ Some m → number_of_name new z ≡ Some m → same_name y z ≡ true
  one y z m e f = by (same_name x y) (same_name x z) refl refl (sym (found y) ∙ e) (sym (found z) ∙ f)
    where
      by : (b c : Bool) → same_name x y ≡ b → same_name x z ≡ c → cond b (Some n) (number_of_name old y) ≡ Some m → cond c (Some n) (number_of_name old z) ≡ Some m → same_name y z ≡ true
      by true true h k p q = ap (λ w. same_name w z) (sym ((bytes_decides x y).0 h)) ∙ k
      by true false h k p q = let same : m ≡ n = cc in absurd (let no : true ≡ false = apart z k (q ∙ ap Some same) in cc)
      by false true h k p q = let same : m ≡ n = cc in absurd (let no : true ≡ false = apart y h (p ∙ ap Some same) in cc)
      by false false h k p q = numbers.one y z m p q

  pub IsNumbered-is : IsNumbered old new x n
  IsNumbered-is = record { number = is; found = found; numbers = record { one = one; below = below }; longer = longer }

-- once a name gets a number, its own or the next, the names in the map are numbered as `IsNumbered` says
module _ (old new : BTreeMap (Bor (List ℕ)) ℕ) (k : Bor (List ℕ)) (n : ℕ) (numbers : AreNumbers (numbered_in old.entries)) where
  IsNumbered-map : n ≡ number_or_next (numbered_in old.entries) k.now → ((q : Bor (List ℕ)) → get key_cmp new q ≡ cond (is_eq (key_cmp k q)) (Some n) (get key_cmp old q))
      → length new.entries ≡ length old.entries + cond (is_some (get key_cmp old k)) 0 1 → IsNumbered (numbered_in old.entries) (numbered_in new.entries) k.now n
  IsNumbered-map value updates long =
      IsNumbered-is (numbered_in old.entries) (numbered_in new.entries) k.now n numbers value
      (λ y. let q : Bor (List ℕ) = record k { now = y } in
      sym (get-numbered new q) ∙ updates q ∙ ap (λ b. cond b (Some n) (get key_cmp old q)) (sym (same_key-ties k q)) ∙ ap (cond (same_name k.now y) (Some n)) (get-numbered old q))
      (length-numbered new.entries ∙ long ∙ ap (λ r. length old.entries + cond (is_some r) 0 1) (get-numbered old k) ∙ ap (λ l. l + cond (is_some (number_of_name (numbered_in old.entries) k.now)) 0 1) (sym (length-numbered old.entries)))

  -- a new name
  pub IsNumbered-new : n ≡ length old.entries → None ≡ get key_cmp old k → ((q : Bor (List ℕ)) → get key_cmp new q ≡ cond (is_eq (key_cmp k q)) (Some n) (get key_cmp old q)) → length new.entries ≡ length old.entries + 1
      → IsNumbered (numbered_in old.entries) (numbered_in new.entries) k.now n
  IsNumbered-new next none updates long =
      IsNumbered-map
      (next ∙ sym (length-numbered old.entries) ∙ ap (λ r. elim r [ None ↦ length (numbered_in old.entries) | Some m ↦ m ]) (none ∙ get-numbered old k))
      updates (long ∙ ap (λ r. length old.entries + cond (is_some r) 0 1) none)

-- a name that has a number keeps it
pub IsNumbered-again : (names : List (List ℕ × ℕ)) (x : List ℕ) (n : ℕ) → AreNumbers names → number_of_name names x ≡ Some n → IsNumbered names names x n
IsNumbered-again names x n numbers own = record {
  number = sym (ap (λ r. elim r [ None ↦ length names | Some m ↦ m ]) own);
  found = λ y. by y (same_name x y) refl;
  numbers = numbers;
  longer = omega arith;
}
  where
    by : (y : List ℕ) (c : Bool) → same_name x y ≡ c → number_of_name names y ≡ cond c (Some n) (number_of_name names y)
    by y true h = sym (ap (number_of_name names) ((bytes_decides x y).0 h)) ∙ own
    by y false h = refl

-- ---- tables indexed by the numbers of names

-- once the name is numbered `n`, that is its number
pub number-own : (old new : List (List ℕ × ℕ)) (x : List ℕ) (n : ℕ) → IsNumbered old new x n → number_of_name new x ≡ Some n
number-own old new x n is = is.found x ∙ ap (λ c. cond c (Some n) (number_of_name old x)) (nat_list_eq_equiv.refl x)

module _ {A : Type 0} where
  -- once one more name has a number, a table still has for each name what it had before
  pub at-numbered : (old new : List (List ℕ × ℕ)) (x : List ℕ) (n : ℕ) (table : ℕ → Option A) → ((m : ℕ) → length old ≤ m → table m ≡ None) → IsNumbered old new x n
      → (y : List ℕ) → at_number table (number_of_name new y) ≡ at_number table (number_of_name old y)
  at-numbered old new x n table rest is y = ap (at_number table) (is.found y) ∙ by (same_name x y) refl
    where
      at-own : (r : Option ℕ) → number_of_name old x ≡ r → at_number table (Some n) ≡ at_number table r
      at-own None e =
          let next : n ≡ length old = is.number ∙ ap (λ r. elim r [ None ↦ length old | Some k ↦ k ]) e in
          rest n (omega (arith, next))
      at-own (Some m) e = ap table (is.number ∙ ap (λ r. elim r [ None ↦ length old | Some k ↦ k ]) e)

      by : (c : Bool) → same_name x y ≡ c → at_number table (cond c (Some n) (number_of_name old y)) ≡ at_number table (number_of_name old y)
      by true h = at-own (number_of_name old x) refl ∙ ap (λ z. at_number table (number_of_name old z)) ((bytes_decides x y).0 h)
      by false h = refl

  pub rest-numbered : (old new : List (List ℕ × ℕ)) (x : List ℕ) (n : ℕ) (table : ℕ → Option A) → ((m : ℕ) → length old ≤ m → table m ≡ None) → IsNumbered old new x n
      → (m : ℕ) → length new ≤ m → table m ≡ None
  rest-numbered old new x n table rest is m h = rest m (let l = is.longer in omega (arith, h, l))

  -- a table that was changed at the number of one name:
  module _ (names : List (List ℕ × ℕ)) (x : List ℕ) (n : ℕ) (own : number_of_name names x ≡ Some n) (numbers : AreNumbers names)
      (old new : ℕ → Option A) (w : Option A) (updates : (m : ℕ) → new m ≡ cond (nat_eq n m) w (old m)) where
    -- the table has the new value for that name, and the old value for every other name
    pub at-changed : (y : List ℕ) → at_number new (number_of_name names y) ≡ cond (same_name x y) w (at_number old (number_of_name names y))
    at-changed y = by (number_of_name names y) (same_name x y) refl refl
      where
        by : (r : Option ℕ) (c : Bool) → number_of_name names y ≡ r → same_name x y ≡ c → at_number new r ≡ cond c w (at_number old r)
        by None true e h = absurd (let no : Some n ≡ None = sym own ∙ ap (number_of_name names) ((bytes_decides x y).0 h) ∙ e in cc)
        by None false e h = refl
        by (Some m) true e h =
            let same : Some n ≡ Some m = sym own ∙ ap (number_of_name names) ((bytes_decides x y).0 h) ∙ e in
            let at : n ≡ m = cc in
            let is : nat_eq n m ≡ true = grind (arith, nat_tests, at) in
            updates m ∙ ap (λ c. cond c w (old m)) is
        by (Some m) false e h = updates m ∙ ap (λ c. cond c w (old m)) (other (nat_eq n m) refl)
          where
            other : (c : Bool) → nat_eq n m ≡ c → nat_eq n m ≡ false
            other true k =
                let at : n ≡ m = grind (arith, nat_tests, k) in
                absurd (let no : true ≡ false = sym (numbers.one x y m (own ∙ ap Some at) e) ∙ h in cc)
            other false k = k

    -- the table still has nothing at a number that no name has
    pub rest-changed : ((m : ℕ) → length names ≤ m → old m ≡ None) → (m : ℕ) → length names ≤ m → new m ≡ None
    rest-changed rest m h =
        updates m ∙ ap (λ c. cond c w (old m)) (let few = numbers.below x n own in let is : nat_eq n m ≡ false = grind (arith, nat_tests, few, h) in is) ∙ rest m h
