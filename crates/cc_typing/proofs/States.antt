-- The table of functions after a change.
use Rattle.std.proofs.Common.{◌≡◌, ℕ, Bool, true, false, ◌||◌, cond, List, [], ◌∷◌, ◌++◌, Bor, Option, Some, refl, sym, ap, ◌∙◌, nat_eq}
use Rattle.std.specs.Cmp.Lexicographic.{bytes_decides}
use Rattle.std.proofs.lemmas.List.{reverse-append}
use Rattle.cc_scope.specs.Entities.{names_in}
use Rattle.cc_types.specs.Names.{same_name}
use Rattle.cc_types.specs.Scope.{has_name}
use Rattle.cc_scope.specs.Numberings.{IsNumbered, number_of_name, at_number}
use Rattle.cc_typing.specs.declared.functions.State.{State}
use Rattle.cc_typing.specs.internal.Functions.{AreStates, newest_first, is_defined, stands_before}
use Rattle.cc_scope.proofs.NameNumbers.{at-numbered, rest-numbered, at-changed, rest-changed}

-- the table stays right if one more name gets a number
pub AreStates-numbered : (old new : List (List ℕ × ℕ)) (x : List ℕ) (n : ℕ) (table : ℕ → Option State) (defined before : List (List ℕ)) → AreStates old table defined before → IsNumbered old new x n
    → AreStates new table defined before
AreStates-numbered old new x n table defined before are is = record {
  numbers = is.numbers;
  defined = λ y. ap is_defined (at-numbered old new x n table are.rest is y) ∙ are.defined y;
  before = λ y. ap stands_before (at-numbered old new x n table are.rest is y) ∙ are.before y;
  rest = rest-numbered old new x n table are.rest is;
}

module _ (names : List (List ℕ × ℕ)) (x : List ℕ) (n : ℕ) (own : number_of_name names x ≡ Some n) (old new : ℕ → Option State) (s : State) (updates : (m : ℕ) → new m ≡ cond (nat_eq n m) (Some s) (old m))
    (defined before : List (List ℕ)) (are : AreStates names old defined before) where
  changed : (y : List ℕ) → at_number new (number_of_name names y) ≡ cond (same_name x y) (Some s) (at_number old (number_of_name names y))
  changed = at-changed names x n own are.numbers old new (Some s) updates

  -- if the name gets the mark, the mark is right for every name
  marked : (mark : Option State → Bool) (marks : List (List ℕ)) → ((y : List ℕ) → mark (at_number old (number_of_name names y)) ≡ has_name marks y) → mark (Some s) ≡ true
      → (y : List ℕ) → mark (at_number new (number_of_name names y)) ≡ has_name (x ∷ marks) y
  marked mark marks h e y = ap mark (changed y) ∙ by (same_name x y)
    where
      by : (c : Bool) → mark (cond c (Some s) (at_number old (number_of_name names y))) ≡ (c || has_name marks y)
      by true = e
      by false = h y

  -- if the mark does not change for the name, it is still right for every name
  kept : (mark : Option State → Bool) (marks : List (List ℕ)) → ((y : List ℕ) → mark (at_number old (number_of_name names y)) ≡ has_name marks y) → mark (Some s) ≡ mark (old n)
      → (y : List ℕ) → mark (at_number new (number_of_name names y)) ≡ has_name marks y
  kept mark marks h e y = ap mark (changed y) ∙ by (same_name x y) refl
    where
      there : same_name x y ≡ true → old n ≡ at_number old (number_of_name names y)
      there k = sym (ap (at_number old) own) ∙ ap (λ z. at_number old (number_of_name names z)) ((bytes_decides x y).0 k)

      by : (c : Bool) → same_name x y ≡ c → mark (cond c (Some s) (at_number old (number_of_name names y))) ≡ has_name marks y
      by true k = e ∙ ap mark (there k) ∙ h y
      by false k = h y

  pub AreStates-defined : s.defined ≡ true → s.before ≡ stands_before (old n) → AreStates names new (x ∷ defined) before
  AreStates-defined ed eb = record {
    numbers = are.numbers;
    defined = marked is_defined defined are.defined ed;
    before = kept stands_before before are.before eb;
    rest = rest-changed names x n own are.numbers old new (Some s) updates are.rest;
  }

  pub AreStates-before : s.before ≡ true → s.defined ≡ is_defined (old n) → AreStates names new defined (x ∷ before)
  AreStates-before eb ed = record {
    numbers = are.numbers;
    defined = kept is_defined defined are.defined ed;
    before = marked stands_before before are.before eb;
    rest = rest-changed names x n own are.numbers old new (Some s) updates are.rest;
  }

-- a name added at the end is the newest
pub newest_first-push : (ks : List (Bor (List ℕ))) (k : Bor (List ℕ)) → newest_first (ks ++ k ∷ []) ≡ k.now ∷ newest_first ks
newest_first-push ks k = ap names_in (reverse-append ks (k ∷ []))
