-- What names refer to: the number of a name's first place in a list, and the number of the newest local with a name.
use Rattle.std.proofs.Common.{◌≡◌, ℕ, suc, ◌+◌, ◌<◌, Bool, true, false, cond, List, [], ◌∷◌, ◌++◌, length, Option, Some, None, is_some, option_map, Result, Ok, Err, OnOk, is_err, refl, sym, ap, ◌∙◌, Bor, get_or, nat_eq, arith}
use Rattle.std.proofs.lemmas.List.{map-append}
use Rattle.std.specs.Cmp.Lexicographic.{bytes_decides}
use Rattle.cc_scope.proofs.NameNumbers.{at-numbered, rest-numbered, at-changed, rest-changed}
use Rattle.cc_scope.specs.Numberings.{IsNumbered, number_of_name, at_number}
use Rattle.cc_types.specs.Names.{same_name}
use Rattle.cc_scope.specs.Entities.{names_in}
use Rattle.cc_types.specs.Scope as scope
use Rattle.cc_scope.specs.Bindings as bindings
use Rattle.cc_words.specs.declared.operators.Width.TheVariants.{Word}
use Rattle.cc_resolve.specs.Numberings.{first_of, ArePlaces, laid_objects, local_names}
use Rattle.cc_layout.specs.Layout.{LaidObject, extent_of, object_number, names_before}
use Rattle.cc_layout.specs.Environment.{number_in}
use Rattle.cc_layout.specs.declared.layout.Extent.{Extent}

-- ---- a name is added

-- the place that was found for a name already; if none was found, the last place, provided the last name is that
-- name
abbrev pub or_last : Option ℕ → ℕ → Bool → Option ℕ
or_last None n b = cond b (Some n) None
or_last (Some i) n b = Some i

or_last-suc : (r : Option ℕ) (n : ℕ) (b : Bool) → option_map suc (or_last r n b) ≡ or_last (option_map suc r) (suc n) b
or_last-suc None n true = refl
or_last-suc None n false = refl
or_last-suc (Some i) n b = refl

or_last-other : (r : Option ℕ) (n : ℕ) → r ≡ or_last r n false
or_last-other None n = refl
or_last-other (Some i) n = refl

first_of-push : (xs : List (List ℕ)) (y x : List ℕ) → first_of (xs ++ y ∷ []) x ≡ or_last (first_of xs x) (length xs) (same_name y x)
first_of-push [] y x = refl
first_of-push (z ∷ zs) y x = by (same_name z x) (first_of-push zs y x)
  where
    by : (c : Bool) → first_of (zs ++ y ∷ []) x ≡ or_last (first_of zs x) (length zs) (same_name y x)
        → cond c (Some 0) (option_map suc (first_of (zs ++ y ∷ []) x)) ≡ or_last (cond c (Some 0) (option_map suc (first_of zs x))) (suc (length zs)) (same_name y x)
    by true e = refl
    by false e = ap (option_map suc) e ∙ or_last-suc (first_of zs x) (length zs) (same_name y x)

length-names_in : (ks : List (Bor (List ℕ))) → length (names_in ks) ≡ length ks
length-names_in [] = refl
length-names_in (k ∷ ks) = ap suc (length-names_in ks)

pushed : (names : List (Bor (List ℕ))) (y : Bor (List ℕ)) (x : List ℕ) → first_of (names_in (names ++ y ∷ [])) x ≡ or_last (first_of (names_in names) x) (length names) (same_name y.now x)
pushed names y x =
    ap (λ l. first_of l x) (map-append (λ (k : Bor (List ℕ)). k.now) names (y ∷ [])) ∙ first_of-push (names_in names) y.now x
    ∙ ap (λ n. or_last (first_of (names_in names) x) n (same_name y.now x)) (length-names_in names)

-- the table stays right when one more name gets a number
pub ArePlaces-numbered : (list : List (Bor (List ℕ))) (old new : List (List ℕ × ℕ)) (x : List ℕ) (n : ℕ) (table : ℕ → Option ℕ) → ArePlaces list old table → IsNumbered old new x n → ArePlaces list new table
ArePlaces-numbered list old new x n table before is = record {
  numbers = is.numbers;
  found = λ y. at-numbered old new x n table before.rest is y ∙ before.found y;
  rest = rest-numbered old new x n table before.rest is;
}

module _ (list : List (Bor (List ℕ))) (y : Bor (List ℕ)) (names : List (List ℕ × ℕ)) (n : ℕ) (own : number_of_name names y.now ≡ Some n) where
  -- the table has the name's first place at the name's number
  place-is : (table : ℕ → Option ℕ) → ArePlaces list names table → table n ≡ first_of (names_in list) y.now
  place-is table before = sym (ap (at_number table) own) ∙ before.found y.now

  place-same : (table : ℕ → Option ℕ) → ArePlaces list names table → (q : List ℕ) → same_name y.now q ≡ true → first_of (names_in list) q ≡ table n
  place-same table before q h = sym (ap (first_of (names_in list)) ((bytes_decides y.now q).0 h)) ∙ sym (place-is table before)

  -- a name that is in the list already keeps its place
  pub ArePlaces-again : (table : ℕ → Option ℕ) → ArePlaces list names table → (r : Option ℕ) → r ≡ table n → is_some r ≡ true → ArePlaces (list ++ y ∷ []) names table
  ArePlaces-again table before None er h = absurd (let no : false ≡ true = h in cc)
  ArePlaces-again table before (Some i) er h = record {
    numbers = before.numbers;
    found = λ q. before.found q ∙ by q (same_name y.now q) refl ∙ sym (pushed list y q);
    rest = before.rest;
  }
    where
      by : (q : List ℕ) (c : Bool) → same_name y.now q ≡ c → first_of (names_in list) q ≡ or_last (first_of (names_in list) q) (length list) c
      by q true e = let there : first_of (names_in list) q ≡ Some i = place-same table before q e ∙ sym er in there ∙ sym (ap (λ k. or_last k (length list) true) there)
      by q false e = or_last-other (first_of (names_in list) q) (length list)

  -- a new name gets the next place
  pub ArePlaces-new : (old new : ℕ → Option ℕ) → ArePlaces list names old → (r : Option ℕ) → r ≡ old n → is_some r ≡ false → (i : ℕ) → i ≡ length list → ((m : ℕ) → new m ≡ cond (nat_eq n m) (Some i) (old m)) → ArePlaces (list ++ y ∷ []) names new
  ArePlaces-new old new before (Some k) er h i ei updates = absurd (let no : true ≡ false = h in cc)
  ArePlaces-new old new before None er h i ei updates = record {
    numbers = before.numbers;
    found = λ q. at-changed names y.now n own before.numbers old new (Some i) updates q ∙ ap (cond (same_name y.now q) (Some i)) (before.found q) ∙ by q (same_name y.now q) refl ∙ sym (pushed list y q);
    rest = rest-changed names y.now n own before.numbers old new (Some i) updates before.rest;
  }
    where
      by : (q : List ℕ) (c : Bool) → same_name y.now q ≡ c → cond c (Some i) (first_of (names_in list) q) ≡ or_last (first_of (names_in list) q) (length list) c
      by q true e = let gone : first_of (names_in list) q ≡ None = place-same old before q e ∙ sym er in ap Some ei ∙ sym (ap (λ k. or_last k (length list) true) gone)
      by q false e = or_last-other (first_of (names_in list) q) (length list)

-- ---- functions

-- the number of a function, or how many functions there are if none has the name
abbrev pub or_length : Option ℕ → ℕ → ℕ
or_length None n = n
or_length (Some i) n = i

or_length-suc : (r : Option ℕ) (n : ℕ) → 1 + or_length r n ≡ or_length (option_map suc r) (suc n)
or_length-suc None n = let k : 1 + n ≡ suc n = omega arith in k
or_length-suc (Some i) n = let k : 1 + i ≡ suc i = omega arith in k

names_before-first : (xs : List (List ℕ)) (x : List ℕ) → names_before xs x ≡ or_length (first_of xs x) (length xs)
names_before-first [] x = refl
names_before-first (y ∷ ys) x = by (same_name y x) (names_before-first ys x)
  where
    by : (c : Bool) → names_before ys x ≡ or_length (first_of ys x) (length ys) → cond c 0 (1 + names_before ys x) ≡ or_length (cond c (Some 0) (option_map suc (first_of ys x))) (suc (length ys))
    by true e = refl
    by false e = ap (λ k. 1 + k) e ∙ or_length-suc (first_of ys x) (length ys)

pub names_before-is : (xs : List (List ℕ)) (x : List ℕ) (r : Option ℕ) → r ≡ first_of xs x → or_length r (length xs) ≡ names_before xs x
names_before-is xs x r e = ap (λ k. or_length k (length xs)) e ∙ sym (names_before-first xs x)

-- ---- objects

pub laid_objects-push : (xs : List (List ℕ)) (es : List Extent) (x : List ℕ) (e : Extent) → length xs ≡ length es → laid_objects (xs ++ x ∷ []) (es ++ e ∷ []) ≡ laid_objects xs es ++ record { name = x; extent = e } ∷ []
laid_objects-push [] [] x e h = refl
laid_objects-push [] (k ∷ es) x e h = absurd (omega arith)
laid_objects-push (y ∷ xs) [] x e h = absurd (omega arith)
laid_objects-push (y ∷ xs) (k ∷ es) x e h = ap (λ (l : List LaidObject). record { name = y; extent = k } ∷ l) (laid_objects-push xs es x e (omega arith))

-- the words of the object with this number
abbrev pub extent_at : List Extent → Option ℕ → Extent
extent_at es None = record { offset = 0; length = 0; width = Word }
extent_at es (Some i) = get_or es i (record { offset = 0; length = 0; width = Word })

extent_at-suc : (e : Extent) (es : List Extent) (r : Option ℕ) → extent_at es r ≡ extent_at (e ∷ es) (option_map suc r)
extent_at-suc e es None = refl
extent_at-suc e es (Some i) = refl

extent_of-first : (xs : List (List ℕ)) (es : List Extent) (x : List ℕ) → length xs ≡ length es → extent_of (laid_objects xs es) x ≡ extent_at es (first_of xs x)
extent_of-first [] es x h = refl
extent_of-first (y ∷ xs) [] x h = absurd (omega arith)
extent_of-first (y ∷ xs) (e ∷ es) x h = by (same_name y x) (extent_of-first xs es x (omega arith))
  where
    by : (c : Bool) → extent_of (laid_objects xs es) x ≡ extent_at es (first_of xs x) → cond c e (extent_of (laid_objects xs es) x) ≡ extent_at (e ∷ es) (cond c (Some 0) (option_map suc (first_of xs x)))
    by true k = refl
    by false k = k ∙ extent_at-suc e es (first_of xs x)

pub extent_of-is : (xs : List (List ℕ)) (es : List Extent) (x : List ℕ) (r : Option ℕ) → length xs ≡ length es → r ≡ first_of xs x → extent_at es r ≡ extent_of (laid_objects xs es) x
extent_of-is xs es x r h e = ap (extent_at es) e ∙ sym (extent_of-first xs es x h)

-- the number of an object depends only on the names
pub object_number-is : (xs : List (List ℕ)) (es : List Extent) (x : List ℕ) → length xs ≡ length es → first_of xs x ≡ object_number (laid_objects xs es) x
object_number-is [] es x h = refl
object_number-is (y ∷ xs) [] x h = absurd (omega arith)
object_number-is (y ∷ xs) (e ∷ es) x h = ap (λ r. cond (same_name y x) (Some 0) (option_map suc r)) (object_number-is xs es x (omega arith))

first_of-below : (xs : List (List ℕ)) (x : List ℕ) (i : ℕ) → Some i ≡ first_of xs x → i < length xs
first_of-below [] x i h = absurd cc
first_of-below (y ∷ ys) x i h = by (same_name y x) (first_of ys x) (first_of-below ys x) h
  where
    by : (c : Bool) (r : Option ℕ) → ((j : ℕ) → Some j ≡ r → j < length ys) → Some i ≡ cond c (Some 0) (option_map suc r) → i < suc (length ys)
    by true r f e = let zero_is : i ≡ 0 = cc in omega arith
    by false None f e = absurd cc
    by false (Some j) f e = let below : j < length ys = f j refl in let k : i ≡ suc j = cc in omega arith

pub extent-inside : (xs : List (List ℕ)) (es : List Extent) (x : List ℕ) (i : ℕ) → length xs ≡ length es → Some i ≡ first_of xs x → i < length es
extent-inside xs es x i h e = let below : i < length xs = first_of-below xs x i e in omega arith

-- ---- locals

-- the numbers of the locals depend only on their names
pub number_in-names : (bs : List scope.Binding) (x : List ℕ) → bindings.number_in bs x ≡ number_in (local_names bs) x
number_in-names [] x = refl
number_in-names (b ∷ bs) x = by (same_name b.name x) (number_in-names bs x)
  where
    long : (cs : List scope.Binding) → length cs ≡ length (local_names cs)
    long [] = refl
    long (c ∷ cs) = ap suc (long cs)

    by : (c : Bool) → bindings.number_in bs x ≡ number_in (local_names bs) x → cond c (Some (length bs)) (bindings.number_in bs x) ≡ cond c (Some (length (local_names bs))) (number_in (local_names bs) x)
    by true e = ap Some (long bs)
    by false e = e

-- if P holds on success, and the result is not an error, P holds
pub when_ok : {A E : Type 0} {P : Type 0} (r : Result A E) → OnOk r P → is_err r ≡ false → P
when_ok (Ok a) p h = p
when_ok (Err e) p h = absurd (let no : true ≡ false = h in cc)
