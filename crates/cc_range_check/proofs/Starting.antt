-- If the test of the words before the run succeeds, the call of main is in the table.
use Rattle.std.proofs.Common.{◌≡◌, ℕ, zero, suc, ◌+◌, ◌<◌, ◌^◌, Bool, true, false, List, [], ◌∷◌, length, map, get_or, Some, None, slice_get, refl, sym, ap, ◌∙◌, subst, arith}
use Rattle.std.specs.Prelude.{◌&&◌}
use Rattle.cc_ast.specs.Tree.{Object, External}
use Rattle.cc_types.specs.Types.{initial_words}
use Rattle.cc_types.specs.Limits.{objects}
use Rattle.cc_c_semantics.specs.Meaning.{initial_global}
use Rattle.cc_c_semantics.specs.Calls.{main_of, first_shared}
use Rattle.cc_c_semantics.specs.Numbered.{objects_in, objects_of, world_of}
use Rattle.cc_simulation.specs.Behavior.{AreWords}
use Rattle.cc_simulation.specs.World as world
use Rattle.cc_simulation.specs.World.{IsWorld, object_words}
use Rattle.cc_words.specs.declared.operators.Width.TheVariants.{Word}
use Rattle.cc_range.specs.declared.range.Range.{Range}
use Rattle.cc_range.specs.Range.{Has, only}
use Rattle.cc_range.specs.Laws.{WordsAreInRange, WithinIsSound}
use Rattle.cc_range_table.specs.Table.{Table, at, row_of, HoldObjects}
use Rattle.cc_range_table.specs.Calls.{Enters}
use Rattle.cc_range_check.specs.Checking.{is_in, each_in, start_within, is_empty, starts_in_table}
use Rattle.cc_range_check.specs.Laws.{StartsAreInTable}

both : (a b : Bool) → (a && b) ≡ true → (a ≡ true) × (b ≡ true)
both true true e = (refl, refl)
both true false e = absurd (let f : false ≡ true = e in cc)
both false b e = absurd (let f : false ≡ true = e in cc)

some_is : (v w : ℕ) → Some v ≡ Some w → v ≡ w
some_is v w e = cc

no_some : {A : Type 0} (w : ℕ) → None ≡ Some w → A
no_some w e = absurd (let f : None ≡ Some w = e in cc)

word_in : (ws : List ℕ) (i v : ℕ) → AreWords ws → slice_get ws i ≡ Some v → v < 2 ^ 32
word_in [] i v h e = no_some v e
word_in (w ∷ ws) zero v h e = subst (λ x. x < 2 ^ 32) (some_is w v e) h.0
word_in (w ∷ ws) (suc i) v h e = word_in ws i v h.1 e

empty_long : {A : Type 0} (xs : List A) → is_empty xs ≡ true → 0 ≡ length xs
empty_long [] e = refl
empty_long (x ∷ xs) e = absurd (let f : false ≡ true = e in cc)

each_is : (r : Range) (ws : List ℕ) → each_in r ws ≡ true → (i w : ℕ) → slice_get ws i ≡ Some w → is_in r w ≡ true
each_is r [] e i w g = no_some w g
each_is r (v ∷ ws) e zero w g = subst (λ x. is_in r x ≡ true) (some_is v w g) (both (is_in r v) (each_in r ws) e).0
each_is r (v ∷ ws) e (suc i) w g = each_is r ws (both (is_in r v) (each_in r ws) e).1 i w g

abbrev none : world.Object
none = record { width = Word; words = [] }

start_is : (k : ℕ) (rs : List Range) (os : List Object) → start_within k rs os ≡ true → (o i w : ℕ) → slice_get ((get_or (objects_of (map initial_global os)) o none).words) i ≡ Some w → is_in (at rs (k + o)) w ≡ true
start_is k rs [] e o i w g = no_some w g
start_is k rs (x ∷ os) e zero i w g = subst (λ n. is_in (at rs n) w ≡ true) (let f : k ≡ k + 0 = omega arith in f) (each_is (at rs k) (initial_words x) (both (each_in (at rs k) (initial_words x)) (start_within (suc k) rs os) e).0 i w g)
start_is k rs (x ∷ os) e (suc o) i w g =
    subst (λ n. is_in (at rs n) w ≡ true) (let f : suc k + o ≡ k + suc o = omega arith in f) (start_is (suc k) rs os (both (each_in (at rs k) (initial_words x)) (start_within (suc k) rs os) e).1 o i w g)

pub starts : WordsAreInRange → WithinIsSound → StartsAreInTable
starts words within unit table input is e =
    let t = both (is_empty (row_of table (main_of unit)).parameters) (start_within 0 table.objects (objects unit)) e in
    record {
      count = empty_long (row_of table (main_of unit)).parameters t.0;
      arguments = λ k w f. no_some w f;
      objects = λ o i w f.
          let lt = word_in (object_words (world_of (first_shared unit input)) o) i w (is.globals o) f in
          let in_it : is_in (at table.objects o) w ≡ true = subst (λ n. is_in (at table.objects n) w ≡ true) (let z : 0 + o ≡ o = omega arith in z) (start_is 0 table.objects (objects unit) t.1 o i w f) in
          within (only w) (at table.objects o) w in_it (words w lt).1;
    }
