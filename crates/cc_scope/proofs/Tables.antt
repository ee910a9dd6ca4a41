-- The table of names: what a binding hides comes back when the binding is removed.
use Rattle.std.proofs.Common.{◌≡◌, ℕ, suc, ◌+◌, ◌<◌, Bool, true, false, cond, List, [], ◌∷◌, ◌++◌, length, map, reverse, get_or, Option, Some, None, IfSome, Result, Ok, Err, OnOk, OnErr, refl, sym, ap, subst, ◌∙◌, nat_eq, arith}
use Rattle.std.specs.Cmp.Lexicographic.{bytes_decides, nat_list_eq_equiv}
use Rattle.std.proofs.lemmas.List.{reverse-append, reverse-reverse, length-append, length-reverse, get_or_append_left}
use Rattle.std.proofs.Math.Seq.{get_or-append_seam}
use Rattle.indexmap.specs.IndexMap.{IndexMap, get, Updates}
use Rattle.cc_types.specs.Scope as scope
use Rattle.cc_types.specs.Names.{same_name}
use Rattle.cc_scope.specs.Numberings.{IsNumbered, number_of_name, at_number}
use Rattle.cc_scope.specs.Entities.{entity_of}
use Rattle.cc_scope.specs.Bindings.{binding_of, bindings_of, AreHidden, IsTable, number_in, number_of, entity_found}
use Rattle.cc_scope.specs.declared.bindings.Binding.{Binding}
use Rattle.cc_scope.specs.declared.bindings.Newest.{Newest}
use Rattle.cc_scope.proofs.NameNumbers.{at-numbered, rest-numbered, at-changed, rest-changed, number-own}

same-itself : (x : List ℕ) → same_name x x ≡ true
same-itself = nat_list_eq_equiv.refl

length-bindings : (bs : List Binding) → length (map binding_of bs) ≡ length bs
length-bindings [] = refl
length-bindings (b ∷ bs) = ap suc (length-bindings bs)

reverse-push : (bs : List Binding) (b : Binding) → reverse (bs ++ b ∷ []) ≡ b ∷ reverse bs
reverse-push bs b = reverse-append bs (b ∷ [])

-- ---- the newest binding of a name, at the name's number

record IsAt (rs : List Binding) (x : List ℕ) (i : ℕ) : Type 0 where
  within : i < length rs
  entity : (d : Binding) → scope.found (map binding_of rs) x ≡ Some (entity_of (get_or (reverse rs) i d).entity)

at-reverse : (rs : List Binding) (x : List ℕ) (i : ℕ) → number_in (map binding_of rs) x ≡ Some i → IsAt rs x i
at-reverse [] x i h = absurd cc
at-reverse (b ∷ rs) x i h = by (same_name b.name.now x) refl h (at-reverse rs x i)
  where
    onto : reverse (b ∷ rs) ≡ reverse rs ++ b ∷ []
    onto = reverse-append (b ∷ []) rs

    by : (c : Bool) → same_name b.name.now x ≡ c → cond c (Some (length (map binding_of rs))) (number_in (map binding_of rs) x) ≡ Some i → (number_in (map binding_of rs) x ≡ Some i → IsAt rs x i) → IsAt (b ∷ rs) x i
    by true e k before =
        let at : length (map binding_of rs) ≡ i = cc in
        let last : i ≡ length (reverse rs) = sym at ∙ length-bindings rs ∙ sym (length-reverse rs) in
        let size = length-reverse rs in
        record {
          within = omega (arith, last, size);
          entity = λ d. ap (λ c. cond c (Some (entity_of b.entity)) (scope.found (map binding_of rs) x)) e
              ∙ ap (λ (v : Binding). Some (entity_of v.entity)) (sym (ap (λ l. get_or l i d) onto ∙ ap (λ j. get_or (reverse rs ++ b ∷ []) j d) last ∙ get_or-append_seam (reverse rs) b [] d));
        }
    by false e k before =
        let there = before k in
        let size = length-reverse rs in
        let inside : i < length (reverse rs) = let w = there.within in omega (arith, w, size) in
        record {
          within = let w = there.within in omega (arith, w);
          entity = λ d. ap (λ c. cond c (Some (entity_of b.entity)) (scope.found (map binding_of rs) x)) e ∙ there.entity d
              ∙ ap (λ (v : Binding). Some (entity_of v.entity)) (sym (ap (λ l. get_or l i d) onto ∙ get_or_append_left (reverse rs) (b ∷ []) d i inside));
        }

pub number_in-within : (bs : List Binding) (x : List ℕ) (r : Option ℕ) → r ≡ number_in (bindings_of bs) x → IfSome r (λ i. i < length bs)
number_in-within bs x None e = tt
number_in-within bs x (Some i) e = let w = (at-reverse (reverse bs) x i (sym e)).within in let size = length-reverse bs in omega (arith, w, size)

not-found : (bs : List scope.Binding) (x : List ℕ) → number_in bs x ≡ None → scope.found bs x ≡ None
not-found [] x e = refl
not-found (b ∷ bs) x e = by (same_name b.name x) (not-found bs x) e
  where
    by : (c : Bool) → (number_in bs x ≡ None → scope.found bs x ≡ None) → cond c (Some (length bs)) (number_in bs x) ≡ None → cond c (Some b.entity) (scope.found bs x) ≡ None
    by true f k = absurd cc
    by false f k = f k

-- if a look-up of a name returns the number of the name's newest binding, it finds what the name denotes
pub entity_found-is : (bs : List Binding) (x : List ℕ) (r : Option Newest) → number_of r ≡ number_in (bindings_of bs) x → IfSome r (λ n. (d : Binding) → n.entity ≡ (get_or bs n.number d).entity)
    → entity_found r ≡ scope.found (bindings_of bs) x
entity_found-is bs x None e h = sym (not-found (bindings_of bs) x (sym e))
entity_found-is [] x (Some n) e h = absurd cc
entity_found-is (b ∷ bs) x (Some n) e h =
    ap (λ a. Some (entity_of a)) (h b) ∙ ap (λ (l : List Binding). Some (entity_of (get_or l n.number b).entity)) (sym (reverse-reverse (b ∷ bs)))
    ∙ sym ((at-reverse (reverse (b ∷ bs)) x n.number (sym e)).entity b)

-- a look-up finds what the name denotes even if the entity is read from a list with one more binding at its
-- end
pub entity_found-pushed : (bs : List Binding) (b : Binding) (x : List ℕ) (r : Option Newest) → number_of r ≡ number_in (bindings_of bs) x
    → IfSome r (λ n. (d : Binding) → n.entity ≡ (get_or (bs ++ b ∷ []) n.number d).entity) → entity_found r ≡ scope.found (bindings_of bs) x
entity_found-pushed bs b x None e h = entity_found-is bs x None e tt
entity_found-pushed bs b x (Some n) e h =
    entity_found-is bs x (Some n) e (λ d. h d ∙ ap (λ (v : Binding). v.entity) (get_or_append_left bs (b ∷ []) d n.number (number_in-within bs x (Some n.number) e)))

-- ---- names that have numbers

numbered-kept : (old new : List (List ℕ × ℕ)) (x : List ℕ) (n : ℕ) → IsNumbered old new x n → (y : List ℕ) (m : ℕ) → number_of_name old y ≡ Some m → number_of_name new y ≡ Some m
numbered-kept old new x n is y m e = is.found y ∙ by (same_name x y) refl
  where
    by : (c : Bool) → same_name x y ≡ c → cond c (Some n) (number_of_name old y) ≡ Some m
    by true h = ap Some (is.number ∙ ap (λ r. elim r [ None ↦ length old | Some k ↦ k ]) (ap (number_of_name old) ((bytes_decides x y).0 h) ∙ e))
    by false h = e

AreHidden-kept : (old new : List (List ℕ × ℕ)) (x : List ℕ) (n : ℕ) → IsNumbered old new x n → (rs : List Binding) → AreHidden old rs → AreHidden new rs
AreHidden-kept old new x n is [] h = tt
AreHidden-kept old new x n is (b ∷ rs) h = (numbered-kept old new x n is b.name.now b.number h.0, h.1, AreHidden-kept old new x n is rs h.2)

-- the table stays right when one more name gets a number
pub IsTable-numbered : (bs : List Binding) (old new : List (List ℕ × ℕ)) (x : List ℕ) (n : ℕ) (table : ℕ → Option ℕ) → IsTable bs old table → IsNumbered old new x n → IsTable bs new table
IsTable-numbered bs old new x n table before is = record {
  numbers = is.numbers;
  found = λ y. at-numbered old new x n table before.rest is y ∙ before.found y;
  hidden = AreHidden-kept old new x n is (reverse bs) before.hidden;
  rest = rest-numbered old new x n table before.rest is;
}

-- at the number of a name, the table has the name's newest binding
pub table-at : (bs : List Binding) (names : List (List ℕ × ℕ)) (table : ℕ → Option ℕ) → IsTable bs names table → (x : List ℕ) (n : ℕ) → number_of_name names x ≡ Some n → table n ≡ number_in (bindings_of bs) x
table-at bs names table is x n e = sym (ap (at_number table) e) ∙ is.found x

-- the table also has the newest binding of a name that has just been given its number
pub hidden-is : (bs : List Binding) (old new : List (List ℕ × ℕ)) (x : List ℕ) (n : ℕ) (table : ℕ → Option ℕ) → IsTable bs old table → IsNumbered old new x n → (r : Option ℕ) → r ≡ table n → r ≡ number_in (bindings_of bs) x
hidden-is bs old new x n table before is r e = e ∙ table-at bs new table (IsTable-numbered bs old new x n table before is) x n (number-own old new x n is)

pub hidden-within : (bs : List Binding) (b : Binding) (x : List ℕ) (r : Option ℕ) → r ≡ number_in (bindings_of bs) x → IfSome r (λ n. n < length (bs ++ b ∷ []))
hidden-within bs b x None e = tt
hidden-within bs b x (Some n) e = let within = number_in-within bs x (Some n) e in let size : length (bs ++ b ∷ []) ≡ length bs + 1 = length-append bs (b ∷ []) in omega (arith, within, size)

-- ---- one binding more, and one less

pub IsTable-pushed : (bs : List Binding) (b : Binding) (names : List (List ℕ × ℕ)) (old new : ℕ → Option ℕ) → IsTable bs names old → number_of_name names b.name.now ≡ Some b.number
    → b.hidden ≡ old b.number → ((m : ℕ) → new m ≡ cond (nat_eq b.number m) (Some (length bs)) (old m)) → IsTable (bs ++ b ∷ []) names new
IsTable-pushed bs b names old new before own hides updates = record {
  numbers = before.numbers;
  found = λ y. at-changed names b.name.now b.number own before.numbers old new (Some (length bs)) updates y ∙ ap (cond (same_name b.name.now y) (Some (length bs))) (before.found y)
      ∙ ap (λ n. cond (same_name b.name.now y) (Some n) (number_in (bindings_of bs) y)) (sym (length-bindings (reverse bs) ∙ length-reverse bs))
      ∙ ap (λ l. number_in (map binding_of l) y) (sym (reverse-push bs b));
  hidden = subst (AreHidden names) (sym (reverse-push bs b)) (own, hides ∙ table-at bs names old before b.name.now b.number own, before.hidden);
  rest = rest-changed names b.name.now b.number own before.numbers old new (Some (length bs)) updates before.rest;
}

module _ (bs : List Binding) (b : Binding) (names : List (List ℕ × ℕ)) (old new : ℕ → Option ℕ) (before : IsTable (bs ++ b ∷ []) names old) where
  hidden_is : AreHidden names (b ∷ reverse bs)
  hidden_is = subst (AreHidden names) (reverse-push bs b) before.hidden

  found_is : (y : List ℕ) → at_number old (number_of_name names y) ≡ number_in (map binding_of (b ∷ reverse bs)) y
  found_is y = before.found y ∙ ap (λ l. number_in (map binding_of l) y) (reverse-push bs b)

  -- the table after the newest binding is removed: what it hid comes back
  pub IsTable-popped : (w : Option ℕ) → b.hidden ≡ w → ((m : ℕ) → new m ≡ cond (nat_eq b.number m) w (old m)) → IsTable bs names new
  IsTable-popped w ew updates = record {
    numbers = before.numbers;
    found = λ y. at-changed names b.name.now b.number hidden_is.0 before.numbers old new w updates y ∙ ap (cond (same_name b.name.now y) w) (found_is y) ∙ restored y (same_name b.name.now y) refl;
    hidden = hidden_is.2;
    rest = rest-changed names b.name.now b.number hidden_is.0 before.numbers old new w updates before.rest;
  }
    where
      restored : (y : List ℕ) (c : Bool) → same_name b.name.now y ≡ c → cond c w (cond c (Some (length (map binding_of (reverse bs)))) (number_in (bindings_of bs) y)) ≡ number_in (bindings_of bs) y
      restored y true h = sym ew ∙ hidden_is.1 ∙ ap (number_in (bindings_of bs)) ((bytes_decides b.name.now y).0 h)
      restored y false h = refl

  -- the newest binding's number is in the table, so restoring what it hides needs no memory
  pub newest-there : old b.number ≡ Some (length (map binding_of (reverse bs)))
  newest-there = sym (ap (at_number old) hidden_is.0) ∙ found_is b.name.now ∙ ap (λ c. cond c (Some (length (map binding_of (reverse bs)))) (number_in (bindings_of bs) b.name.now)) (same-itself b.name.now)

pub IsTable-put : (bs : List Binding) (b : Binding) (names : List (List ℕ × ℕ)) {S : Type 0} (old new : IndexMap ℕ ℕ S) → IsTable (bs ++ b ∷ []) names (get nat_eq old) → {A E : Type 0} (r : Result A E) (n : ℕ)
    → b.hidden ≡ Some n → OnOk r (Updates nat_eq old new b.number (Some n)) → OnErr r (get nat_eq old b.number ≡ None) → IsTable bs names (get nat_eq new)
IsTable-put bs b names old new before (Ok o) n en updates absent = IsTable-popped bs b names (get nat_eq old) (get nat_eq new) before (Some n) en updates.0
IsTable-put bs b names old new before (Err e) n en updates absent =
    let there = newest-there bs b names (get nat_eq old) (get nat_eq new) before in
    absurd (let no : Some (length (map binding_of (reverse bs))) ≡ None = sym there ∙ absent in cc)
