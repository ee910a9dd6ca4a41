-- What a walk over a statement passes, after what it passed before.
use Rattle.std.proofs.Common.{◌≡◌, ℕ, zero, suc, ◌+◌, Bool, true, false, List, [], ◌∷◌, ◌++◌, Some, None, map, reverse, refl, sym, ap, ◌∙◌, subst, append-nil, append_assoc, arith}
use Rattle.std.specs.Prelude.{◌&&◌, take, length}
use Rattle.std.proofs.Math.Bool.{and_assoc}
use Rattle.std.proofs.Math.Seq.{take-append_seam}
use Rattle.std.proofs.lemmas.List.{reverse-append}
use Rattle.cc_simulation.specs.World.{Size}
use Rattle.cc_cminor_language.specs.Cminor.{Expression, Statement, Skip, Sequence, If, Loop, Block}
use Rattle.cc_cminor_language.specs.Code.{in_sequence}
use Rattle.cc_range_table.specs.Table.{Facts, State, Row, Table, note_at}
use Rattle.cc_range_table.specs.Inductive.{then_facts, for_facts, state_within, learned_within, joined_states, places, known_after, is_inductive_at}
use Rattle.cc_range_check.specs.declared.places.Place.{Place}
use Rattle.cc_range_check.specs.declared.places.Found.{Found}
use Rattle.cc_range_check.specs.declared.walk.Walk.{Walk}
use Rattle.cc_range_check.specs.Places.{operations_of, operations_in, uncovered, from_facts, uncovered_at}
use Rattle.cc_range_check.specs.internal.Walked.{Finds, FindsIn, FindsAt, FindsFrom, ends_of, Passes, PassesAt, PassesFrom, Enters, Skips, known_from}
use Rattle.cc_range_check.proofs.Finding.{finds_next}

pub and_true : (a : Bool) → (a && true) ≡ a
and_true true = refl
and_true false = refl

-- ---- one more test

pub passes_then : (n m : ℕ) (a b : Bool) (x y z : Walk) → Passes n a x y → Passes m b y z → Passes (n + m) (a && b) x z
passes_then n m a b x y z p q = record {
  place = let e = p.place in let f = q.place in omega arith;
  exits = q.exits ∙ p.exits;
  inductive = q.inductive ∙ ap (λ c. c && b) p.inductive ∙ and_assoc x.is_inductive a b;
}

-- ---- a state

all_facts : (S : State) → then_facts S (λ G. Some G) ≡ S
all_facts None = refl
all_facts (Some F) = refl

no_test : (a : Bool) (S : State) → a ≡ (a && for_facts S (λ G. true))
no_test true None = refl
no_test true (Some F) = refl
no_test false S = refl

no_place : (ps : List Place) (S : State) → ps ≡ ps ++ from_facts S (λ G. [])
no_place ps None = sym (append-nil ps)
no_place ps (Some F) = sym (append-nil ps)

-- ---- the first statement of a list

pub first_places : (s : Statement) (rest : List Statement) → places (in_sequence (s ∷ rest)) ≡ places s + places (in_sequence rest)
first_places s [] = omega arith
first_places s (t ∷ rest) = refl

pub first_operations : (s : Statement) (rest : List Statement) → operations_in (in_sequence (s ∷ rest)) ≡ operations_in s + operations_in (in_sequence rest)
first_operations s [] = omega arith
first_operations s (t ∷ rest) = refl

module _ (sizes : List Size) (table : Table) (row : Row) where
  abbrev after : ℕ → Facts → Statement → State
  after k F s = known_after sizes table row.notes k F s

  abbrev tests : List State → ℕ → Facts → Statement → Bool
  tests X k F s = is_inductive_at sizes table row X k F s

  abbrev places_of : ℕ → ℕ → Facts → Statement → List Place
  places_of k n F s = uncovered_at sizes table row.notes k n F s

  -- ---- the first statement of a list

  first_after : (k : ℕ) (F : Facts) (s : Statement) (rest : List Statement) → after k F (in_sequence (s ∷ rest)) ≡ then_facts (after k F s) (λ G. after (k + places s) G (in_sequence rest))
  first_after k F s [] = sym (all_facts (after k F s))
  first_after k F s (t ∷ rest) = refl

  first_tests : (X : List State) (k : ℕ) (F : Facts) (s : Statement) (rest : List Statement)
      → tests X k F (in_sequence (s ∷ rest)) ≡ (tests X k F s && for_facts (after k F s) (λ G. tests X (k + places s) G (in_sequence rest)))
  first_tests X k F s [] = no_test (tests X k F s) (after k F s)
  first_tests X k F s (t ∷ rest) = refl

  first_uncovered : (k n : ℕ) (F : Facts) (s : Statement) (rest : List Statement)
      → places_of k n F (in_sequence (s ∷ rest)) ≡ places_of k n F s ++ from_facts (after k F s) (λ G. places_of (k + places s) (n + operations_in s) G (in_sequence rest))
  first_uncovered k n F s [] = no_place (places_of k n F s) (after k F s)
  first_uncovered k n F s (t ∷ rest) = refl

  -- ---- the same from a state

  pub next_after : (k : ℕ) (S : State) (s : Statement) (rest : List Statement) → known_from sizes table row.notes k S (in_sequence (s ∷ rest)) ≡ known_from sizes table row.notes (k + places s) (known_from sizes table row.notes k S s) (in_sequence rest)
  next_after k None s rest = refl
  next_after k (Some F) s rest = first_after k F s rest

  tests_from : (X : List State) (k : ℕ) (S : State) (s : Statement) (rest : List Statement)
      → for_facts S (λ F. tests X k F (in_sequence (s ∷ rest))) ≡ (for_facts S (λ F. tests X k F s) && for_facts (known_from sizes table row.notes k S s) (λ G. tests X (k + places s) G (in_sequence rest)))
  tests_from X k None s rest = refl
  tests_from X k (Some F) s rest = first_tests X k F s rest

  uncovered_from : (k n : ℕ) (S : State) (s : Statement) (rest : List Statement)
      → from_facts S (λ F. places_of k n F (in_sequence (s ∷ rest))) ≡ from_facts S (λ F. places_of k n F s) ++ from_facts (known_from sizes table row.notes k S s) (λ G. places_of (k + places s) (n + operations_in s) G (in_sequence rest))
  uncovered_from k n None s rest = refl
  uncovered_from k n (Some F) s rest = first_uncovered k n F s rest

  pub next_passes : (S T : State) (s : Statement) (rest : List Statement) (x y z : Walk) → T ≡ known_from sizes table row.notes x.place S s → PassesFrom sizes table row S s x y → PassesFrom sizes table row T (in_sequence rest) y z → PassesFrom sizes table row S (in_sequence (s ∷ rest)) x z
  next_passes S T s rest x y z e p q =
      let X = ends_of row.notes x.exits.items in
      let a = for_facts S (λ F. tests X x.place F s) in
      let moved : Passes (places (in_sequence rest)) (for_facts (known_from sizes table row.notes x.place S s) (λ G. tests X (x.place + places s) G (in_sequence rest))) y z =
      subst (λ (U : State). Passes (places (in_sequence rest)) (for_facts U (λ G. tests X (x.place + places s) G (in_sequence rest))) y z) e
      (subst (λ (k : ℕ). Passes (places (in_sequence rest)) (for_facts T (λ G. tests X k G (in_sequence rest))) y z) p.place
      (subst (λ (ks : List ℕ). Passes (places (in_sequence rest)) (for_facts T (λ G. tests (ends_of row.notes ks) y.place G (in_sequence rest))) y z) p.exits q)) in
      let b = for_facts (known_from sizes table row.notes x.place S s) (λ G. tests X (x.place + places s) G (in_sequence rest)) in
      subst (λ (c : Bool). Passes (places (in_sequence (s ∷ rest))) c x z) (sym (tests_from X x.place S s rest))
      (subst (λ (n : ℕ). Passes n (a && b) x z) (sym (first_places s rest)) (passes_then (places s) (places (in_sequence rest)) a b x y z p moved))

  pub next_finds : (k : ℕ) (S T : State) (s : Statement) (rest : List Statement) (x y z : Found) → T ≡ known_from sizes table row.notes k S s → FindsFrom sizes table row.notes k S s x y → FindsFrom sizes table row.notes (k + places s) T (in_sequence rest) y z
      → FindsFrom sizes table row.notes k S (in_sequence (s ∷ rest)) x z
  next_finds k S T s rest x y z e p q =
      let moved = subst (λ (U : State). FindsFrom sizes table row.notes (k + places s) U (in_sequence rest) y z) e q in
      let all = finds_next (operations_in s) (operations_in (in_sequence rest)) (from_facts S (λ F. places_of k x.operation F s))
      (λ n. from_facts (known_from sizes table row.notes k S s) (λ G. places_of (k + places s) n G (in_sequence rest))) x y z p moved in
      record {
        operation = all.operation ∙ ap (λ n. x.operation + n) (sym (first_operations s rest));
        uncovered = all.uncovered ∙ ap (λ l. x.uncovered.items ++ l) (sym (uncovered_from k x.operation S s rest));
      }

  -- ---- statements that are never reached

  pub skipped_passes : (s : Statement) (x y : Walk) (f g : Found) → Skips s x y f g → PassesFrom sizes table row None s x y
  skipped_passes s x y f g k = record { place = k.place; exits = k.exits; inductive = k.inductive ∙ sym (and_true x.is_inductive) }

  pub skipped_finds : (place : ℕ) (s : Statement) (x y : Walk) (f g : Found) → Skips s x y f g → FindsFrom sizes table row.notes place None s f g
  skipped_finds place s x y f g k = record { operation = k.operation; uncovered = k.uncovered ∙ sym (append-nil f.uncovered.items) }

  -- ---- one turn of the loop over a list

  pub record Turn (S T : State) (s : Statement) (x y : Walk) (f g : Found) : Type 0 where
    pub state : T ≡ known_from sizes table row.notes x.place S s
    pub walk : PassesFrom sizes table row S s x y
    pub found : FindsFrom sizes table row.notes x.place S s f g

  pub some_turn : (F : Facts) (S T U : State) (s : Statement) (x y z : Walk) (f g h : Found) → S ≡ Some F → T ≡ U → y ≡ z → g ≡ h
      → U ≡ after x.place F s → PassesAt sizes table row F s x z → FindsAt sizes table row.notes x.place F s f h → Turn S T s x y f g
  some_turn F S T U s x y z f g h e t v u a p q = record {
    state = t ∙ a ∙ ap (λ (V : State). known_from sizes table row.notes x.place V s) (sym e);
    walk = subst (λ (w : Walk). PassesFrom sizes table row S s x w) (sym v) (subst (λ (V : State). PassesFrom sizes table row V s x z) (sym e) p);
    found = subst (λ (w : Found). FindsFrom sizes table row.notes x.place S s f w) (sym u) (subst (λ (V : State). FindsFrom sizes table row.notes x.place V s f h) (sym e) q);
  }

  pub none_turn : (S T : State) (s : Statement) (x y z : Walk) (f g h : Found) → S ≡ None → T ≡ None → y ≡ z → g ≡ h → Skips s x z f h → Turn S T s x y f g
  none_turn S T s x y z f g h e t v u k = record {
    state = t ∙ ap (λ (V : State). known_from sizes table row.notes x.place V s) (sym e);
    walk = subst (λ (w : Walk). PassesFrom sizes table row S s x w) (sym v) (subst (λ (V : State). PassesFrom sizes table row V s x z) (sym e) (skipped_passes s x z f h k));
    found = subst (λ (w : Found). FindsFrom sizes table row.notes x.place S s f w) (sym u) (subst (λ (V : State). FindsFrom sizes table row.notes x.place V s f h) (sym e) (skipped_finds x.place s x z f h k));
  }

  pub turn_known : (S T : State) (s : Statement) (rest : List Statement) (x y : Walk) (f g : Found) → Turn S T s x y f g
      → known_from sizes table row.notes y.place T (in_sequence rest) ≡ known_from sizes table row.notes x.place S (in_sequence (s ∷ rest))
  turn_known S T s rest x y f g t =
      ap (λ (k : ℕ). known_from sizes table row.notes k T (in_sequence rest)) t.walk.place ∙ ap (λ (V : State). known_from sizes table row.notes (x.place + places s) V (in_sequence rest)) t.state ∙ sym (next_after x.place S s rest)

  pub turn_passes : (S T : State) (s : Statement) (rest : List Statement) (x y z : Walk) (f g : Found) → Turn S T s x y f g → PassesFrom sizes table row T (in_sequence rest) y z → PassesFrom sizes table row S (in_sequence (s ∷ rest)) x z
  turn_passes S T s rest x y z f g t h = next_passes S T s rest x y z t.state t.walk h

  pub turn_finds : (S T : State) (s : Statement) (rest : List Statement) (x y : Walk) (f g h : Found) → Turn S T s x y f g → FindsFrom sizes table row.notes y.place T (in_sequence rest) g h
      → FindsFrom sizes table row.notes x.place S (in_sequence (s ∷ rest)) f h
  turn_finds S T s rest x y f g h t k = next_finds x.place S T s rest f g h t.state t.found (subst (λ (n : ℕ). FindsFrom sizes table row.notes n T (in_sequence rest) g h) t.walk.place k)

  -- ---- the end of a list

  pub end_passes : (S : State) (x : Walk) → PassesFrom sizes table row S Skip x x
  end_passes S x = record { place = omega arith; exits = refl; inductive = no_test x.is_inductive S }

  pub end_finds : (place : ℕ) (S : State) (f : Found) → FindsFrom sizes table row.notes place S Skip f f
  end_finds place S f = record { operation = omega arith; uncovered = no_place f.uncovered.items S }
