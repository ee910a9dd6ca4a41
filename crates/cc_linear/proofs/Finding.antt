-- One more label is marked as found.
use Rattle.std.proofs.Common.{◌≡◌, ℕ, zero, suc, ◌+◌, ◌<◌, ◌≤◌, List, [], ◌∷◌, ◌++◌, length, get_or, refl, sym, ap, ◌∙◌, subst, inl, inr, arith, length-append, append_assoc, All}
use Rattle.std.specs.Prelude.{Bool, true, false, set}
use Rattle.std.specs.List.{Contains}
use Rattle.std.proofs.lemmas.List.{get_or-set_other, get_or_append_left, get_or_default, get_or-replicate, get_or_past, length-replicate}
use Rattle.std.proofs.lemmas.Bool.{cases_lt}
use Rattle.std.specs.Prelude.{replicate, ◌↔◌}
use Rattle.std.proofs.lemmas.List.Elements.{Contains-append_left, Contains-push, Contains-get_or, All-push, All-contains}
use Rattle.std.proofs.lemmas.Bool.Decides.{eqb_tells}
use Rattle.std.proofs.Math.ListN.{length-set}
use Rattle.cc_linear.specs.internal.Reached.{Ways, Leaves, One, Two, HasWays, ClosedTo, IsClosed, unmarked, Found, Grew}

pub unmarked_less : (seen : List Bool) (l : ℕ) → l < length seen → get_or seen l false ≡ false → suc (unmarked (set seen l true)) ≡ unmarked seen
unmarked_less [] l below e = absurd (omega arith)
unmarked_less (true ∷ bs) zero below e = absurd (cc)
unmarked_less (false ∷ bs) zero below e = refl
unmarked_less (true ∷ bs) (suc l) below e = unmarked_less bs l (omega arith) e
unmarked_less (false ∷ bs) (suc l) below e = ap suc (unmarked_less bs l (omega arith) e)

pub unmarked_low : (seen : List Bool) → unmarked seen ≤ length seen
unmarked_low [] = omega arith
unmarked_low (true ∷ bs) = let h = unmarked_low bs in omega arith
unmarked_low (false ∷ bs) = let h = unmarked_low bs in omega arith

pub found_none : (seen : List Bool) → ((l : ℕ) → get_or seen l false ≡ false) → Found seen []
found_none seen h = record {
  marks = λ l e. absurd (let f : false ≡ true = sym (h l) ∙ e in cc);
  inside = λ k d below. absurd (omega arith);
  count = let u = unmarked_low seen in omega arith;
}

pub found_more : (seen : List Bool) (found : List ℕ) (l : ℕ) → l < length seen → get_or seen l false ≡ false → Found seen found → Found (set seen l true) (found ++ l ∷ [])
found_more seen found l below e f =
    let long = length-set seen l true in
    record {
      marks = λ x m. elim (eqb_tells x l) [
        | inl h ↦ subst (Contains (found ++ l ∷ [])) (sym h.1) (Contains-push found l)
        | inr h ↦ Contains-append_left found (l ∷ []) x (f.marks x (sym (get_or-set_other seen l x true false h.1) ∙ m))
      ];
      inside = subst (λ n. All (λ x. x < n) (found ++ l ∷ [])) (sym long) (All-push (λ x. x < length seen) found l f.inside below);
      count = let u = unmarked_less seen l below e in let a = length-append found (l ∷ []) in let c = f.count in omega arith;
    }

pub grew_none : (xs : List ℕ) → xs ≡ xs ++ [] → Grew xs xs
grew_none xs e = record { rest = []; is = e }

pub grew_then : (xs ys zs : List ℕ) → Grew xs ys → Grew ys zs → Grew xs zs
grew_then xs ys zs g h = record { rest = g.rest ++ h.rest; is = h.is ∙ ap (λ v. v ++ h.rest) g.is ∙ append_assoc xs g.rest h.rest }

pub still_found : (xs ys : List ℕ) (l : ℕ) → Grew xs ys → Contains xs l → Contains ys l
still_found xs ys l g c = subst (λ v. Contains v l) (sym g.is) (Contains-append_left xs g.rest l c)

still_ways : (xs ys : List ℕ) (w : Ways) → Grew xs ys → HasWays xs w → HasWays ys w
still_ways xs ys Leaves g h = tt
still_ways xs ys (One a) g h = still_found xs ys a g h
still_ways xs ys (Two a b) g h = (still_found xs ys a g h.0, still_found xs ys b g h.1)

grew_at : (xs ys : List ℕ) (k : ℕ) → Grew xs ys → k < length xs → get_or ys k 0 ≡ get_or xs k 0
grew_at xs ys k g below = ap (λ v. get_or v k 0) g.is ∙ get_or_append_left xs g.rest 0 k below

pub grew_long : (xs ys : List ℕ) → Grew xs ys → length xs ≤ length ys
grew_long xs ys g = let e = ap length g.is in let a = length-append xs g.rest in omega arith

pub closed_more : (graph : List Ways) (xs ys : List ℕ) (i : ℕ) (w : Ways) → i < length xs → Grew xs ys → w ≡ get_or graph (get_or xs i 0) Leaves → HasWays ys w → ClosedTo graph xs i → ClosedTo graph ys (i + 1)
closed_more graph xs ys i w below g is has closed k lt = elim (eqb_tells k i) [
  | inl h ↦ subst (HasWays ys) (is ∙ ap (λ x. get_or graph x Leaves) (sym (grew_at xs ys i g below)) ∙ ap (λ x. get_or graph (get_or ys x 0) Leaves) (sym h.1)) has
  | inr h ↦ (let n = h.1 in let less = below_of k i lt n in subst (λ x. HasWays ys (get_or graph x Leaves)) (sym (grew_at xs ys k g (omega arith))) (still_ways xs ys (get_or graph (get_or xs k 0) Leaves) g (closed k less)))
]
  where
    below_of : (k i : ℕ) → k < i + 1 → (k ≡ i → ⊥) → k < i
    below_of k i lt n = omega arith

pub all_false : (n : ℕ) (xs : List Bool) → xs ≡ replicate n false → (l : ℕ) → get_or xs l false ≡ false
all_false n xs e l = ap (λ v. get_or v l false) e ∙ elim (cases_lt l n) [ inl h ↦ get_or-replicate n l false false h | inr h ↦ get_or_past (replicate n false) l false (let g = length-replicate n false in omega arith) ]

ways_in : (xs ys : List ℕ) (w : Ways) → ((l : ℕ) → Contains xs l → Contains ys l) → HasWays xs w → HasWays ys w
ways_in xs ys Leaves f h = tt
ways_in xs ys (One a) f h = f a h
ways_in xs ys (Two a b) f h = (f a h.0, f b h.1)

pub closed_order : (graph : List Ways) (found order : List ℕ) → ((l : ℕ) → Contains order l ↔ Contains found l) → ClosedTo graph found (length found) → IsClosed graph order
closed_order graph found order same closed l c =
    let k = (same l).0 c in
    let here : get_or found k.0 0 ≡ l = get_or_default found k.0 0 l k.1 ∙ k.2 in
    ways_in found order (get_or graph l Leaves) (λ x d. (same x).1 d) (subst (λ x. HasWays found (get_or graph x Leaves)) here (closed k.0 k.1))

pub all_inside : (n : ℕ) (found order : List ℕ) → ((l : ℕ) → Contains order l ↔ Contains found l) → All (λ l. l < n) found → All (λ l. l < n) order
all_inside n found order same all i d lt = All-contains (λ l. l < n) found (get_or order i d) all ((same (get_or order i d)).0 (Contains-get_or order i d lt))
