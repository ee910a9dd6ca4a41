-- All operations are covered exactly if none is listed.
use Rattle.std.proofs.Common.{◌≡◌, ℕ, suc, ◌+◌, Bool, true, false, List, [], ◌∷◌, ◌++◌, Some, None, refl, sym, ap, ◌∙◌}
use Rattle.std.specs.Prelude.{◌&&◌}
use Rattle.cc_simulation.specs.World.{Size}
use Rattle.cc_cminor_language.specs.Cminor.{Expression, Constant, Local, Unary, Binary, Load, Statement, Skip, Set, Store, Call, Read, Write, Sequence, If, Loop, Block, Exit, Return}
use Rattle.cc_guard.specs.Guard.{elements_in}
use Rattle.cc_range.specs.Range.{is_covered, is_index}
use Rattle.cc_range_table.specs.Table.{Facts, State, Table, note_at}
use Rattle.cc_range_table.specs.Inductive.{range_of, learned_within, for_facts, places, known_after, covers, covers_all, covers_at}
use Rattle.cc_range_check.specs.declared.places.Place.{Place}
use Rattle.cc_range_check.specs.declared.places.Need.{Need}
use Rattle.cc_range_check.specs.declared.places.Need.TheVariants.{Operands, Index}
use Rattle.cc_range_check.specs.Places.{operations_of, operations_in, unless, unless_inside, uncovered, uncovered_all, from_facts, uncovered_at}
use Rattle.cc_range_check.specs.Checking.{is_empty}

empty_append : (xs ys : List Place) → is_empty (xs ++ ys) ≡ (is_empty xs && is_empty ys)
empty_append [] ys = refl
empty_append (x ∷ xs) ys = refl

empty_unless : (b : Bool) (n : ℕ) (need : Need) → b ≡ is_empty (unless b n need)
empty_unless true n need = refl
empty_unless false n need = refl

both_empty : (a b : Bool) (xs ys : List Place) → a ≡ is_empty xs → b ≡ is_empty ys → (a && b) ≡ is_empty (xs ++ ys)
both_empty a b xs ys p q = ap (λ k. k && b) p ∙ ap (λ k. is_empty xs && k) q ∙ sym (empty_append xs ys)

exchanged : (a b c : Bool) → (a && b && c) ≡ (a && c && b)
exchanged true true true = refl
exchanged true true false = refl
exchanged true false true = refl
exchanged true false false = refl
exchanged false b c = refl

module _ (sizes : List Size) where
  inside_empty : (n : ℕ) (width : _) (o : ℕ) (r : _) → is_index r (elements_in sizes width o) ≡ is_empty (unless_inside sizes n width o r)
  inside_empty n width o r = empty_unless (is_index r (elements_in sizes width o)) n (Index (elements_in sizes width o) r)

  covered : (n : ℕ) (F : Facts) (e : Expression) → covers sizes F e ≡ is_empty (uncovered sizes n F e)
  covered n F (Constant w) = refl
  covered n F (Local x) = refl
  covered n F (Unary op e) = covered n F e
  covered n F (Binary op a b) =
      let A = uncovered sizes n F a in
      let B = uncovered sizes (n + operations_of a) F b in
      let k = is_covered op (range_of F a) (range_of F b) in
      let m = n + operations_of a + operations_of b in
      let need = Operands op (range_of F a) (range_of F b) in
      both_empty (covers sizes F a && covers sizes F b) k (A ++ B) (unless k m need) (both_empty (covers sizes F a) (covers sizes F b) A B (covered n F a) (covered (n + operations_of a) F b)) (empty_unless k m need)
  covered n F (Load width o i) =
      both_empty (covers sizes F i) (is_index (range_of F i) (elements_in sizes width o)) (uncovered sizes n F i) (unless_inside sizes (n + operations_of i) width o (range_of F i)) (covered n F i)
      (inside_empty (n + operations_of i) width o (range_of F i))

  covered_all : (n : ℕ) (F : Facts) (es : List Expression) → covers_all sizes F es ≡ is_empty (uncovered_all sizes n F es)
  covered_all n F [] = refl
  covered_all n F (e ∷ es) = both_empty (covers sizes F e) (covers_all sizes F es) (uncovered sizes n F e) (uncovered_all sizes (n + operations_of e) F es) (covered n F e) (covered_all (n + operations_of e) F es)

  from_empty : (S : State) (f : Facts → Bool) (g : Facts → List Place) → ((G : Facts) → f G ≡ is_empty (g G)) → for_facts S f ≡ is_empty (from_facts S g)
  from_empty None f g h = refl
  from_empty (Some G) f g h = h G

  module _ (table : Table) (notes : List State) where
    pub covered_at : (k n : ℕ) (F : Facts) (s : Statement) → covers_at sizes table notes k F s ≡ is_empty (uncovered_at sizes table notes k n F s)
    covered_at k n F Skip = refl
    covered_at k n F (Set x e) = covered n F e
    covered_at k n F (Store width o i e) =
        let c = is_index (range_of F i) (elements_in sizes width o) in
        let I = uncovered sizes n F i in
        let X = unless_inside sizes (n + operations_of i) width o (range_of F i) in
        exchanged (covers sizes F i) (covers sizes F e) c
        ∙ both_empty (covers sizes F i && c) (covers sizes F e) (I ++ X) (uncovered sizes (n + operations_of i + 1) F e)
        (both_empty (covers sizes F i) c I X (covered n F i) (inside_empty (n + operations_of i) width o (range_of F i))) (covered (n + operations_of i + 1) F e)
    covered_at k n F (Call to f es) = covered_all n F es
    covered_at k n F (Read to) = refl
    covered_at k n F (Write e) = covered n F e
    covered_at k n F (Sequence a b) =
        let S = known_after sizes table notes k F a in
        let f = λ (G : Facts). covers_at sizes table notes (k + places a) G b in
        let g = λ (G : Facts). uncovered_at sizes table notes (k + places a) (n + operations_in a) G b in
        both_empty (covers_at sizes table notes k F a) (for_facts S f) (uncovered_at sizes table notes k n F a) (from_facts S g) (covered_at k n F a) (from_empty S f g (λ G. covered_at (k + places a) (n + operations_in a) G b))
    covered_at k n F (If e a b) =
        let A = uncovered_at sizes table notes k (n + operations_of e) (learned_within sizes true F e) a in
        let B = uncovered_at sizes table notes (k + places a) (n + operations_of e + operations_in a) (learned_within sizes false F e) b in
        let p = covers_at sizes table notes k (learned_within sizes true F e) a in
        let q = covers_at sizes table notes (k + places a) (learned_within sizes false F e) b in
        both_empty (covers sizes F e && p) q (uncovered sizes n F e ++ A) B (both_empty (covers sizes F e) p (uncovered sizes n F e) A (covered n F e) (covered_at k (n + operations_of e) (learned_within sizes true F e) a))
        (covered_at (k + places a) (n + operations_of e + operations_in a) (learned_within sizes false F e) b)
    covered_at k n F (Loop a) =
        from_empty (note_at notes k) (λ G. covers_at sizes table notes (suc k) G a) (λ G. uncovered_at sizes table notes (suc k) n G a) (λ G. covered_at (suc k) n G a)
    covered_at k n F (Block a) = covered_at (suc k) n F a
    covered_at k n F (Exit j) = refl
    covered_at k n F (Return e) = covered n F e
