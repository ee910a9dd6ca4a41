-- Each of the six kinds of step keeps the rule of the queue, and the pool's own pass sees everything once it is the only one. All
-- proofs are about sums over the views of the passes; a step changes one or two views.
use Rattle.std.proofs.Common.{◌≡◌, ◌≢◌, ℕ, zero, suc, ◌+◌, ◌≤◌, List, [], ◌∷◌, ◌++◌, length, set, sym, refl, ap, subst, ⊎_elim, ◌∙◌, append-nil, arith}
use Rattle.std.specs.List.{sum_by}
use Rattle.std.proofs.lemmas.List.Sums.{sum_by-cons, sum_by_push, sum_by-append}
use mathlib.Core.Option.{some, some-ne-none, some-injective}
use lib.ListN.{get_elem?}
use Rattle.crossbeam_channel.specs.Fifo.{Pushes, Pops, Forks, Merges, Learns, Held}
use Rattle.atomic_table.proofs.Lists.{at_set, at_snoc}
use Rattle.cc_pool.specs.declared.item.Item.{Item}
use Rattle.cc_pool.specs.declared.rule.Role.{Role}
use Rattle.cc_pool.specs.declared.rule.Role.TheVariants.{Owner, Out, Joined}
use Rattle.cc_pool.specs.declared.rule.Hand.{Hand}
use Rattle.cc_pool.proofs.Multisets.{permuted}
use Rattle.cc_pool.specs.internal.AllTaken.{AllTaken}
use Rattle.cc_pool.specs.Rule.{Kept, SeesAll, owns, is_out, is_live, first_hand, new_hand, joined_hand, sends_one, takes_one, splits_one, joins_one}

-- ---- sums over views

-- if one view changes, the sum changes by the difference of the two views
changed : (f : Hand → ℕ) (views : List Hand) (k : ℕ) (v w : Hand) → get_elem? views k ≡ some v → sum_by f (set views k w) + f v ≡ sum_by f views + f w
changed f [] k v w e = absurd (some-ne-none v (sym e))
changed f (x ∷ xs) zero v w e = omega (arith, sum_by-cons f x xs, sum_by-cons f w xs, ap f (some-injective x v e))
changed f (x ∷ xs) (suc k) v w e = omega (arith, sum_by-cons f x xs, sum_by-cons f x (set xs k w), changed f xs k v w e)

-- one view counts at most as much as all views together
part : (f : Hand → ℕ) (views : List Hand) (k : ℕ) (v : Hand) → get_elem? views k ≡ some v → f v ≤ sum_by f views
part f [] k v e = absurd (some-ne-none v (sym e))
part f (x ∷ xs) zero v e = omega (arith, sum_by-cons f x xs, ap f (some-injective x v e))
part f (x ∷ xs) (suc k) v e = omega (arith, sum_by-cons f x xs, part f xs k v e)

both_sums : (f g : Hand → ℕ) (views : List Hand) → sum_by (λ v. f v + g v) views ≡ sum_by f views + sum_by g views
both_sums f g [] = refl
both_sums f g (x ∷ xs) = omega (arith, sum_by-cons (λ v. f v + g v) x xs, sum_by-cons f x xs, sum_by-cons g x xs, both_sums f g xs)

abbrev Each : (Hand → Type 0) → List Hand → Type 0
Each P views = (k : ℕ) (v : Hand) → get_elem? views k ≡ some v → P v

-- if `p` is 0 for all views together, so is `f`
nothing : (p f : Hand → ℕ) (views : List Hand) → Each (λ u. p u ≡ 0 → f u ≡ 0) views → sum_by p views ≡ 0 → sum_by f views ≡ 0
nothing p f [] each none = refl
nothing p f (x ∷ xs) each none =
    let s = sum_by-cons p x xs in
    omega (arith, sum_by-cons f x xs, each 0 x refl (omega (arith, s, none)), nothing p f xs (λ k v e. each (suc k) v e) (omega (arith, s, none)))

-- if one view has the whole sum of `p`, it has the whole sum of `f`
lone : (p f : Hand → ℕ) (views : List Hand) (k : ℕ) (v : Hand) → Each (λ u. p u ≡ 0 → f u ≡ 0) views → get_elem? views k ≡ some v → sum_by p views ≡ p v → sum_by f views ≡ f v
lone p f [] k v each e all = absurd (some-ne-none v (sym e))
lone p f (x ∷ xs) zero v each e all =
    let is = some-injective x v e in
    omega (arith, sum_by-cons f x xs, ap f is, nothing p f xs (λ k u a. each (suc k) u a) (omega (arith, sum_by-cons p x xs, ap p is, all)))
lone p f (x ∷ xs) (suc k) v each e all =
    let s = sum_by-cons p x xs in
    let least = part p xs k v e in
    omega (arith, sum_by-cons f x xs, each 0 x refl (omega (arith, s, least, all)), lone p f xs k v (λ j u a. each (suc j) u a) e (omega (arith, s, least, all)))

-- ---- a fact about each view

each_set : (P : Hand → Type 0) (views : List Hand) (k : ℕ) (w : Hand) → Each P views → P w → Each P (set views k w)
each_set P views k w each p j u e = ⊎_elim (λ (t : (j ≡ k) × (w ≡ u)). subst P t.1 p) (λ (t : (j ≢ k) × (get_elem? views j ≡ some u)). each j u t.1) (at_set views k j w u e)

each_more : (P : Hand → Type 0) (views : List Hand) (w : Hand) → Each P views → P w → Each P (views ++ w ∷ [])
each_more P views w each p j u e = ⊎_elim (λ (t : get_elem? views j ≡ some u). each j u t) (λ (t : w ≡ u). subst P t p) (at_snoc views w u j e)

each_one : (P : Hand → Type 0) (w : Hand) → P w → Each P (w ∷ [])
each_one P w p zero u e = subst P (some-injective w u e) p
each_one P w p (suc k) u e = absurd (some-ne-none u (sym e))

abbrev Alone : Hand → Type 0
Alone v = owns v.role ≡ 0 → (v.splits ≡ 0) × (v.joins ≡ 0)

abbrev Empty : Hand → Type 0
Empty v = is_live v.role ≡ 0 → (v.sent ≡ []) × (v.taken ≡ [])

live_is : (r : Role) → is_live r ≡ owns r + is_out r
live_is Owner = refl
live_is Out = refl
live_is Joined = refl

-- ---- the steps

pub begins : Kept [] (first_hand ∷ [])
begins = record {
  one = refl;
  counted = refl;
  alone = each_one Alone first_hand (λ _. (refl, refl));
  empty = each_one Empty first_hand (λ _. (refl, refl));
  balanced = λ h. refl;
}

pub sends : (n k : ℕ) (v : Hand) (x : Item) → is_live v.role ≡ 1 → Pushes Kept n k v x (λ w. w ≡ sends_one v x)
sends n k v x live items views _ kept at =
    let w = sends_one v x in (
      w,
      record {
        one = omega (arith, changed (λ u. owns u.role) views k v w at, kept.one);
        counted = omega (arith, changed (λ u. is_out u.role) views k v w at, changed (λ u. u.joins) views k v w at, changed (λ u. u.splits) views k v w at, kept.counted);
        alone = each_set Alone views k w kept.alone (kept.alone k v at);
        empty = each_set Empty views k w kept.empty (λ dead. absurd (omega (arith, live, dead)));
        balanced = λ h. omega (arith, changed (λ u. sum_by h u.sent) views k v w at, changed (λ u. sum_by h u.taken) views k v w at, kept.balanced h, sum_by_push h v.sent x, sum_by_push h items x);
      },
      refl,
    )

pub takes : (k : ℕ) (v : Hand) → is_live v.role ≡ 1 → Pops Kept k v (λ x w. w ≡ takes_one v x)
takes k v live x items views kept at =
    let w = takes_one v x in (
      w,
      record {
        one = omega (arith, changed (λ u. owns u.role) views k v w at, kept.one);
        counted = omega (arith, changed (λ u. is_out u.role) views k v w at, changed (λ u. u.joins) views k v w at, changed (λ u. u.splits) views k v w at, kept.counted);
        alone = each_set Alone views k w kept.alone (kept.alone k v at);
        empty = each_set Empty views k w kept.empty (λ dead. absurd (omega (arith, live, dead)));
        balanced = λ h. omega (arith, changed (λ u. sum_by h u.sent) views k v w at, changed (λ u. sum_by h u.taken) views k v w at, kept.balanced h, sum_by_push h v.taken x, sum_by-cons h x items);
      },
      refl,
    )

pub splits : (k : ℕ) (v : Hand) → v.role ≡ Owner → Forks Kept k v (splits_one v) new_hand
splits k v own items views kept at =
    let w = splits_one v in
    let vs : List Hand = set views k w in
    let owner : owns v.role ≡ 1 = ap owns own in
    let live : is_live v.role ≡ 1 = ap is_live own in
    let more : (f : Hand → ℕ) → sum_by f (vs ++ new_hand ∷ []) + f v ≡ sum_by f views + f w + f new_hand =
    λ f. omega (arith, sum_by_push f vs new_hand, changed f views k v w at)
    in record {
      one = omega (arith, more (λ u. owns u.role), kept.one);
      counted = omega (arith, more (λ u. is_out u.role), more (λ u. u.joins), more (λ u. u.splits), kept.counted);
      alone = each_more Alone vs new_hand (each_set Alone views k w kept.alone (λ other. absurd (omega (arith, owner, other)))) (λ _. (refl, refl));
      empty = each_more Empty vs new_hand (each_set Empty views k w kept.empty (λ dead. absurd (omega (arith, live, dead)))) (λ _. (refl, refl));
      balanced = λ h. omega (arith, more (λ u. sum_by h u.sent), more (λ u. sum_by h u.taken), kept.balanced h);
    }

pub joins : (k : ℕ) (v : Hand) (other : ℕ) (u : Hand) → v.role ≡ Owner → u.role ≡ Out → Merges Kept k v other u (joins_one v u) joined_hand
joins k v other u own out items views kept at apart at' =
    let w = joins_one v u in
    let vs : List Hand = set views k w in
    let owner : owns v.role ≡ 1 = ap owns own in
    let live : is_live v.role ≡ 1 = ap is_live own in
    let was : get_elem? views other ≡ some u = ⊎_elim (λ (t : (other ≡ k) × (w ≡ u)). absurd (apart t.0)) (λ (t : (other ≢ k) × (get_elem? views other ≡ some u)). t.1) (at_set views k other w u at') in
    let none : owns u.role ≡ 0 = ap owns out in
    let is : is_out u.role ≡ 1 = ap is_out out in
    let bare = kept.alone other u was none in
    let two : (f : Hand → ℕ) → sum_by f (set vs other joined_hand) + f v + f u ≡ sum_by f views + f w + f joined_hand =
    λ f. omega (arith, changed f views k v w at, changed f vs other u joined_hand at')
    in record {
      one = omega (arith, two (λ y. owns y.role), kept.one, none);
      counted = omega (arith, two (λ y. is_out y.role), two (λ y. y.joins), two (λ y. y.splits), kept.counted, is, bare.0, bare.1);
      alone = each_set Alone vs other joined_hand (each_set Alone views k w kept.alone (λ none'. absurd (omega (arith, owner, none')))) (λ _. (refl, refl));
      empty = each_set Empty vs other joined_hand (each_set Empty views k w kept.empty (λ dead. absurd (omega (arith, live, dead)))) (λ _. (refl, refl));
      balanced = λ h. omega (arith, two (λ y. sum_by h y.sent), two (λ y. sum_by h y.taken), kept.balanced h, sum_by-append h v.sent u.sent, sum_by-append h v.taken u.taken);
    }

-- ---- what the pool's own pass sees

pub sees : (k : ℕ) (v : Hand) → Learns Kept k v (SeesAll v)
sees k v items views kept at own same h =
    let owner : owns v.role ≡ 1 = ap owns own in
    let live : is_live v.role ≡ 1 = ap is_live own in
    let p : Hand → ℕ = λ u. owns u.role in
    let q : Hand → ℕ = λ u. is_live u.role in
    let all : sum_by p views ≡ p v = omega (arith, kept.one, owner) in
    let split = lone p (λ u. u.splits) views k v (λ j u e none. (kept.alone j u e none).0) at all in
    let join = lone p (λ u. u.joins) views k v (λ j u e none. (kept.alone j u e none).1) at all in
    let out : sum_by (λ u. is_out u.role) views ≡ 0 = omega (arith, kept.counted, split, join, same) in
    let lives : sum_by q views ≡ q v = omega (arith, ap (λ (f : Hand → ℕ). sum_by f views) (λ i u. live_is u.role i), both_sums p (λ u. is_out u.role) views, kept.one, out, live) in
    let sent = lone q (λ u. sum_by h u.sent) views k v (λ j u e dead. ap (sum_by h) (kept.empty j u e dead).0) at lives in
    let taken = lone q (λ u. sum_by h u.taken) views k v (λ j u e dead. ap (sum_by h) (kept.empty j u e dead).1) at lives in
    omega (arith, kept.balanced h, sent, taken, sum_by-append h v.taken items)

empty_is : (queue : List Item) → length queue ≡ 0 → queue ≡ []
empty_is [] none = refl
empty_is (x ∷ xs) none = absurd (omega (arith, none))

-- if the pool's own pass saw the queue empty, and no other pass was left, all that was sent has been taken
pub all_taken : (v : Hand) → Held 0 (SeesAll v) → AllTaken v
all_taken v h own same =
    let none : v.taken ++ h.0 ≡ v.taken = ap (λ l. v.taken ++ l) (empty_is h.0 h.1) ∙ append-nil v.taken in
    permuted v.sent v.taken (λ f. h.2 own same f ∙ ap (sum_by f) none)
