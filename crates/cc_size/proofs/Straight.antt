-- A way of calls can be cut so that it leads to no function twice. Then it has no more calls than there are functions.
use Rattle.std.proofs.Common.{◌≡◌, ℕ, zero, suc, ◌<◌, ◌≤◌, List, [], ◌∷◌, Bool, true, false, eqb, length, refl, sym, subst, inl, inr, arith}
use Rattle.std.specs.Prelude.{◌||◌}
use Rattle.std.specs.List.{AllByRecursion, IsDistinct, list_any}
use Rattle.std.proofs.lemmas.Bool.Decides.{eqb_tells}
use Rattle.std.proofs.lemmas.Map.Steps.{length-le_from_distinct_below}
use Rattle.cc_emit.specs.declared.item.PieceItem.{PieceItem}
use Rattle.cc_size.specs.declared.recursion.Recursion.{Recursion}
use Rattle.cc_size.specs.Cycles.{DoesCall, IsCyclic, LeadsBy}

-- ---- a caller is a function

pub called_within : (bodies : List (List PieceItem)) (f g : ℕ) → DoesCall bodies f g → f < length bodies
called_within [] f g (k, lt, e) = absurd (omega arith)
called_within (items ∷ bodies) zero g c = omega arith
called_within (items ∷ bodies) (suc f) g c = (let h = called_within bodies f g c in omega arith)

pub leads_within : (bodies : List (List PieceItem)) (way : List ℕ) (f t : ℕ) → t < length bodies → LeadsBy bodies way f t → f < length bodies
leads_within bodies [] f t lt p = (let e : f ≡ t = p in omega arith)
leads_within bodies (h ∷ way) f t lt p = called_within bodies f h p.0

-- each number on a way is that of a function
all_within : (bodies : List (List PieceItem)) (way : List ℕ) (f t : ℕ) → t < length bodies → LeadsBy bodies way f t → (q : ℕ) → list_any (eqb q) way ≡ true → q < length bodies
all_within bodies [] f t lt p q e = absurd (let n : false ≡ true = e in cc)
all_within bodies (h ∷ way) f t lt p q e = elim (eqb_tells q h) [
  | inl y ↦ (let same = y.1 in let within = leads_within bodies way h t lt p.1 in omega arith)
  | inr n ↦ all_within bodies way h t lt p.1 q (later (eqb q h) (list_any (eqb q) way) n.0 e)
]
  where
    later : (a b : Bool) → a ≡ false → (a || b) ≡ true → b ≡ true
    later false b p e = e
    later true b p e = absurd (let n : true ≡ false = p in cc)

-- ---- ways that lead to no function twice

pub record Straight (bodies : List (List PieceItem)) (f t : ℕ) : Type 0 where
  pub way : List ℕ
  pub leads : LeadsBy bodies way f t
  pub apart : IsDistinct eqb way

none_is : (h : ℕ) (way : List ℕ) → list_any (eqb h) way ≡ false → AllByRecursion (λ (y : ℕ). eqb h y ≡ false) way
none_is h [] e = tt
none_is h (x ∷ way) e = (let n = neither (eqb h x) (list_any (eqb h) way) e in (n.0, none_is h way n.1))
  where
    neither : (a b : Bool) → (a || b) ≡ false → (a ≡ false) × (b ≡ false)
    neither false b e = (refl, e)
    neither true b e = absurd (let n : true ≡ false = e in cc)

-- what is left of a way after it has reached the function h
pub record After (bodies : List (List PieceItem)) (h t : ℕ) : Type 0 where
  pub way : List ℕ
  pub leads : LeadsBy bodies way h t
  pub apart : IsDistinct eqb (h ∷ way)

after : (bodies : List (List PieceItem)) (h t : ℕ) (way : List ℕ) (f : ℕ) → LeadsBy bodies way f t → IsDistinct eqb way → list_any (eqb h) way ≡ true → After bodies h t
unfolding IsDistinct
after bodies h t [] f p d e = absurd (let n : false ≡ true = e in cc)
after bodies h t (x ∷ way) f p d e = elim (eqb_tells h x) [
  | inl y ↦ record {
    way = way;
    leads = subst (λ (n : ℕ). LeadsBy bodies way n t) (sym y.1) p.1;
    apart = subst (λ (n : ℕ). IsDistinct eqb (n ∷ way)) (sym y.1) d;
  }
  | inr n ↦ after bodies h t way x p.1 d.1 (later (eqb h x) (list_any (eqb h) way) n.0 e)
]
  where
    later : (a b : Bool) → a ≡ false → (a || b) ≡ true → b ≡ true
    later false b p e = e
    later true b p e = absurd (let n : true ≡ false = p in cc)

with_first : (bodies : List (List PieceItem)) (h f t : ℕ) → DoesCall bodies f h → (rest : Straight bodies h t) → (is : Bool) → list_any (eqb h) rest.way ≡ is → Straight bodies f t
unfolding IsDistinct
with_first bodies h f t c rest true e = (let left = after bodies h t rest.way h rest.leads rest.apart e in record { way = h ∷ left.way; leads = (c, left.leads); apart = left.apart })
with_first bodies h f t c rest false e = record { way = h ∷ rest.way; leads = (c, rest.leads); apart = (none_is h rest.way e, rest.apart) }

straighten : (bodies : List (List PieceItem)) (way : List ℕ) (f t : ℕ) → LeadsBy bodies way f t → Straight bodies f t
unfolding IsDistinct
straighten bodies [] f t p = record { way = []; leads = p; apart = tt }
straighten bodies (h ∷ way) f t p = (let rest = straighten bodies way h t p.1 in with_first bodies h f t p.0 rest (list_any (eqb h) rest.way) refl)

-- ---- a cycle with few enough calls

pub record Few (bodies : List (List PieceItem)) (it : Recursion) : Type 0 where
  pub cycle : IsCyclic bodies it
  pub few : length cycle.way ≤ length bodies

pub few_calls : (bodies : List (List PieceItem)) (it : Recursion) → IsCyclic bodies it → Few bodies it
few_calls bodies it cycle =
    let within : it.caller < length bodies = called_within bodies it.caller it.called cycle.calls in
    let straight = straighten bodies cycle.way it.called it.caller cycle.back in record {
      cycle = record { calls = cycle.calls; way = straight.way; back = straight.leads };
      few = length-le_from_distinct_below straight.way (length bodies) straight.apart (all_within bodies straight.way it.called it.caller within straight.leads);
    }
