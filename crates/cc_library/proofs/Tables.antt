-- A `BTreeMap` seen as a finite map, with its look-up, its insertion and its removal. Finite maps are equal if their look-ups
-- agree, and the clauses of `BTreeMap` say what its look-ups answer.
use Rattle.std.proofs.Common.{◌≡◌, List, [], ◌∷◌, refl, sym, ap, ◌∙◌, cond, Option, Some, None, false, map}
use Rattle.std.specs.Prelude.{is_some}
use Rattle.std.specs.declared.cmp.Ordering.{Ordering}
use Rattle.std.specs.declared.cmp.Ordering.TheVariants.{Less, Equal, Greater}
use Rattle.std.specs.Ordering.{eq_by_cmp, is_eq}
use Rattle.std.specs.Cmp.{IsTotalOrder, eq_by_cmp_equiv}
use Rattle.std.specs.Map.{lookup, keys_of}
use Rattle.std.specs.List.Sorted.{IsStrictlySortedBy}
use Rattle.std.specs.BTreeMap.{BTreeMap, is_at}
use Rattle.std.specs.FinMap.{FinMap, get, insert, remove, contains_key, get_tied, find, from_entries, get-from_entries, get-insert, get-remove, same_map, IsAntisymmetric, entries, entries-insert, empty, len-entries, len-empty, put, keys}
use Rattle.std.proofs.lemmas.List.{nil_from_length}
use Rattle.std.specs.FinMap.Entries.{by_order}
use Rattle.std.specs.BTreeMap as tree

module _ {K X : Type 0} {R : K → K → Ordering} (o : IsTotalOrder R) where
  find-lookup : (es : List (K × X)) (q : K) → find R q es ≡ lookup (is_at (R q)) es
  find-lookup [] q = refl
  find-lookup (e ∷ es) q = ap (cond (eq_by_cmp R q e.0) (Some e.1)) (find-lookup es q)

  pub get-map : (m : BTreeMap K X) (q : K) → get (from_entries {R = R} m.entries) q ≡ tree.get R m q
  get-map m q = get-from_entries o m.entries q ∙ find-lookup m.entries q

  module _ (same : IsAntisymmetric R) where
    pub insert-map : (m n : BTreeMap K X) (k : K) (v : X) → ((q : K) → tree.get R n q ≡ cond (is_at (R k) q) (Some v) (tree.get R m q)) → from_entries {R = R} n.entries ≡ insert (from_entries m.entries) k v
    insert-map m n k v u = same_map o same _ _ (λ q.
        get-map n q ∙ u q ∙ ap (λ b. cond b (Some v) (tree.get R m q)) ((eq_by_cmp_equiv o).symm k q)
        ∙ ap (cond (eq_by_cmp R q k) (Some v)) (sym (get-map m q)) ∙ sym (get-insert o (from_entries m.entries) k v q))

    pub remove-map : (m n : BTreeMap K X) (k : K) → ((q : K) → tree.get R n q ≡ cond (is_at (R k) q) None (tree.get R m q)) → from_entries {R = R} n.entries ≡ remove (from_entries m.entries) k
    remove-map m n k u = same_map o same _ _ (λ q.
        get-map n q ∙ u q ∙ ap (λ b. cond b None (tree.get R m q)) ((eq_by_cmp_equiv o).symm k q)
        ∙ ap (cond (eq_by_cmp R q k) None) (sym (get-map m q)) ∙ sym (get-remove o (from_entries m.entries) k q))

  pub no_entries : entries (empty {K = K} {X = X} {R = R}) ≡ []
  no_entries = nil_from_length (entries empty) (sym (len-entries empty) ∙ len-empty R X)

  -- the entries of a map made from a list with ascending keys are that list
  pub entries-map : (es : List (K × X)) → IsStrictlySortedBy R (keys_of es) → entries (from_entries {R = R} es) ≡ es
  unfolding IsStrictlySortedBy
  entries-map [] rises = no_entries
  entries-map (e ∷ []) rises = entries-insert o (from_entries []) e.0 e.1 ∙ ap (put R e.0 e.1) no_entries
  entries-map (e ∷ (f ∷ es)) rises =
      entries-insert o (from_entries (f ∷ es)) e.0 e.1 ∙ ap (put R e.0 e.1) (entries-map (f ∷ es) rises.1)
      ∙ ap (λ r. by_order r ((e.0, e.1) ∷ f ∷ es) ((f.0, e.1) ∷ es) (f ∷ put R e.0 e.1 es)) rises.0.0

  pub keys-map : (m : BTreeMap K X) → tree.IsOrdered R m → keys (from_entries {R = R} m.entries) ≡ tree.keys m
  keys-map m rises = ap (map (λ e. e.0)) (entries-map m.entries rises)

  nothing_there : (x : Option X) → is_some x ≡ false → x ≡ None
  nothing_there (Some v) e = cc e
  nothing_there None e = refl

  taken_at : (m : FinMap R X) (k : K) (v : X) (q : K) (r : Ordering) → R q k ≡ r → get m k ≡ None → cond (is_eq r) None (cond (is_eq r) (Some v) (get m q)) ≡ get m q
  taken_at m k v q Less e absent = refl
  taken_at m k v q Equal e absent = sym absent ∙ get_tied o m q k e
  taken_at m k v q Greater e absent = refl

  -- if an absent key is set and removed again, the map is as it was
  pub put_and_taken : IsAntisymmetric R → (m : FinMap R X) (k : K) (v : X) → contains_key m k ≡ false → remove (insert m k v) k ≡ m
  put_and_taken same m k v absent = same_map o same _ _ (λ q.
      get-remove o (insert m k v) k q ∙ ap (cond (eq_by_cmp R q k) None) (get-insert o m k v q)
      ∙ taken_at m k v q (R q k) refl (nothing_there (get m k) absent))
