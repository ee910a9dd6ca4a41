-- A look-up in a map ordered by its keys' bytes finds exactly the key that is the same name.
use Rattle.std.proofs.Common.{◌≡◌, ℕ, Bool, cond, List, Option, sym, ap, ◌∙◌, Bor}
use Rattle.std.specs.Cmp.Lexicographic.{slice_cmp, texts_ties}
use Rattle.std.specs.declared.cmp.Ordering.{Ordering}
use Rattle.std.specs.Ordering.{is_eq, nat_cmp}
use Rattle.std.specs.Map.{lookup}
use Rattle.std.specs.BTreeMap.{BTreeMap, get, Updates}
use Rattle.cc_types.specs.Names.{same_name}

-- whether two keys are the same name
abbrev pub same_key : Bor (List ℕ) → Bor (List ℕ) → Bool
same_key a b = same_name a.now b.now

-- the order of the keys
abbrev pub key_cmp : Bor (List ℕ) → Bor (List ℕ) → Ordering
key_cmp a b = slice_cmp nat_cmp a.now b.now

-- keys are equal in this order exactly if they are the same name
pub same_key-ties : (x q : Bor (List ℕ)) → same_key x q ≡ is_eq (key_cmp x q)
same_key-ties x q = texts_ties x.now q.now

module _ {X : Type 0} where
  -- the map finds by this order what a search for the same name finds among its entries
  pub lookup-get : (m : BTreeMap (Bor (List ℕ)) X) (x : Bor (List ℕ)) → lookup (same_key x) m.entries ≡ get key_cmp m x
  lookup-get m x = λ i. lookup (λ k. same_key-ties x k i) m.entries

  -- after a change at a name, the map has the new value for that name, and the old value for every other name
  pub lookup-updated : (old new : BTreeMap (Bor (List ℕ)) X) (k : Bor (List ℕ)) (w : Option X) → Updates key_cmp old new k w
      → (q : Bor (List ℕ)) → lookup (same_key q) new.entries ≡ cond (same_key k q) w (lookup (same_key q) old.entries)
  lookup-updated old new k w u q =
      lookup-get new q ∙ u.0 q ∙ ap (λ c. cond c w (get key_cmp old q)) (sym (same_key-ties k q)) ∙ ap (cond (same_key k q) w) (sym (lookup-get old q))
