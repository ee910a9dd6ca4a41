-- With tests before labels a run keeps up as it does without them. When the run jumps to a label before which a test goes, the jump is
-- made together with the test, so one of the two moves is matched by nothing (`Waiting`). Any other move is matched by one, with what
-- is known (`Normal`).
use Rattle.std.proofs.Common.{◌≡◌, ℕ, ◌<◌, ◌≤◌, ◌⊎◌, List, [], ◌∷◌, ◌++◌, Option, Some, None, Bool, true, false, refl, sym, ap, ◌∙◌, subst, inl, inr, arith}
use Rattle.std.specs.Prelude.{if◌then◌else◌, ◌==◌}
use Rattle.cc_words.specs.Operators.{apply_unary, apply_binary}
use Rattle.cc_simulation.specs.World.{World, element, stored, next_word, after_read, after_write}
use Rattle.cc_simulation.specs.Run.{Move as Moving, Goes, Calls, Returns, Fails, tried}
use Rattle.cc_simulation.specs.Unknown.{unknown_word, left_after_entry, left_after_call, left_after_word}
use Rattle.cc_simulation.specs.Meaning.{Meaning}
use Rattle.cc_simulation.specs.Tracks.{TracksForAll}
use Rattle.cc_simulation.specs.internal.Simulation.{Advances, Asks, Ending, Simulation, Alike}
use Rattle.cc_simulation.proofs.Simulating.{coarser, tracks_on_for_all}
use Rattle.cc_ltl.specs.declared.location.Location.TheVariants.{Register, Slot}
use Rattle.cc_ltl.specs.declared.operation.Move.TheVariants.{Between, Reload, Spill}
use Rattle.cc_ltl.specs.Ltl.{Locations, put, at_entry}
use Rattle.cc_linear_language.specs.declared.item.LinearItem.{LinearItem}
use Rattle.cc_linear_language.specs.declared.item.LinearItem.TheVariants.{Label, Jump, IfNonzero, IfZero, Copy, Const, Unary, Binary, Load, Store, Call, Read, Write, Return}
use Rattle.cc_linear_language.specs.Linear.{Configuration, at_items, labels, place, does, linear_move, linear_output, linear_start}
use Rattle.cc_select.specs.Known.{Known, unknown, forget, learn, known_behind}
use Rattle.cc_select.specs.Threading.{Tests, tests, way, is_jump, before_label, before_jump, in_jump, is_some, threaded_by, threaded}
use Rattle.cc_select.proofs.Basics.{eqb_says, if_alike}
use Rattle.cc_select.proofs.Choosing.{Holds, unknown_holds, forget_holds, learn_holds, call_holds}
use Rattle.cc_select.proofs.Tests.{IsTest, target_of, leads, test_does, way_gives, way_is, test_before_jump, Gone, gone_tests, Fine, fine_place, Distinct, fine_tests}

-- ---- places

-- an item that is not a label
abbrev IsNone : LinearItem → Type 0
IsNone (Label n) = ⊥
IsNone i = Unit {0}

none_place : (i : LinearItem) (items : List LinearItem) (n : ℕ) → IsNone i → place (i ∷ items) n ≡ place items n
none_place (Label m) items n is = absurd is
none_place i items n is = refl

way_none : (k : Known) (t : LinearItem) (n : ℕ) → IsTest t → IsNone (way k t n)
way_none k t n is = way_is IsNone k t n is tt tt (test_none t is)
  where
    test_none : (t : LinearItem) → IsTest t → IsNone t
    test_none (IfNonzero r m) is = tt
    test_none (IfZero r m) is = tt
    test_none i is = absurd is

jump_place : (w : LinearItem) (m n : ℕ) (items : List LinearItem) → IsNone w → place (before_jump w m ++ items) n ≡ place items n
jump_place w m n items is = none_place w ((if is_jump w then [] else Jump m ∷ []) ++ items) n is ∙ behind (is_jump w)
  where
    behind : (b : Bool) → place ((if b then [] else Jump m ∷ []) ++ items) n ≡ place items n
    behind true = refl
    behind false = refl

none_labels : (i : LinearItem) (items : List LinearItem) → IsNone i → labels (i ∷ items) ≡ labels items
none_labels (Label m) items is = absurd is
none_labels i items is = refl

jump_labels : (w : LinearItem) (m : ℕ) (items : List LinearItem) → IsNone w → labels (before_jump w m ++ items) ≡ labels items
jump_labels w m items is = none_labels w ((if is_jump w then [] else Jump m ∷ []) ++ items) is ∙ behind (is_jump w)
  where
    behind : (b : Bool) → labels ((if b then [] else Jump m ∷ []) ++ items) ≡ labels items
    behind true = refl
    behind false = refl

if_place : (b : Bool) (u v u' v' : List LinearItem) → (b ≡ true → u ≡ u') → (b ≡ false → v ≡ v') → (if b then u else v) ≡ (if b then u' else v')
if_place true u v u' v' f g = f refl
if_place false u v u' v' f g = g refl

if_both : (b : Bool) (f : List LinearItem → List LinearItem) (u v : List LinearItem) → (if b then f u else f v) ≡ f (if b then u else v)
if_both true f u v = refl
if_both false f u v = refl

abbrev rest_of : List LinearItem → List LinearItem
rest_of [] = []
rest_of (i ∷ items) = items

module _ (code : List LinearItem) (ts : Tests) (stands : (n : ℕ) (t : LinearItem) → ts n ≡ Some t → Gone code n t) where
  -- the items begin with a test if one was moved before their label
  abbrev Begins : Bool → List LinearItem → Type 0
  Begins false items = Unit {0}
  Begins true [] = Unit {0}
  Begins true (i ∷ items) = IsTest i

  behind_label : (n : ℕ) (t : LinearItem) (items : List LinearItem) (e : ts n ≡ Some t) → place code n ≡ Label n ∷ items → items ≡ t ∷ (stands n t e).rest
  behind_label n t items e at = ap rest_of (sym at ∙ (stands n t e).at)

  begins : (n : ℕ) (items : List LinearItem) → place code n ≡ Label n ∷ items → Begins (is_some (ts n)) items
  begins n items at = by (ts n) refl
    where
      by : (z : Option LinearItem) → ts n ≡ z → Begins (is_some z) items
      by None e = tt
      by (Some t) e = subst (λ xs. Begins true xs) (sym (behind_label n t items e at)) (stands n t e).test

  -- what the items at a label's place become
  abbrev seen : Option LinearItem → List LinearItem → List LinearItem
  seen None items = threaded_by ts unknown false items
  seen (Some t) [] = []
  seen (Some t) (i ∷ items) = i ∷ threaded_by ts unknown true items

  seen_nothing : (z : Option LinearItem) → [] ≡ seen z []
  seen_nothing None = refl
  seen_nothing (Some t) = refl

  at_label : (n m : ℕ) (k : Known) (items : List LinearItem) (z : Option LinearItem) → ts m ≡ z → place (threaded_by ts unknown (is_some z) items) n ≡ seen (ts n) (place items n)
      → place (before_label k z m ++ threaded_by ts unknown (is_some z) items) n ≡ seen (ts n) (if m == n then Label m ∷ items else place items n)
  at_label n m k items None e ih =
      if_place (m == n) (Label m ∷ threaded_by ts unknown false items) (place (threaded_by ts unknown false items) n) (seen (ts n) (Label m ∷ items)) (seen (ts n) (place items n))
      (λ q.
      sym (ap (λ (z : Option LinearItem). before_label unknown z m ++ threaded_by ts unknown (is_some z) items) e)
      ∙ sym (ap (λ (z : Option LinearItem). seen z (Label m ∷ items)) (ap ts (sym (eqb_says m n q)) ∙ e)))
      (λ q. ih)
      ∙ if_both (m == n) (seen (ts n)) (Label m ∷ items) (place items n)
  at_label n m k items (Some t) e ih =
      none_place (way k t m) (Label m ∷ threaded_by ts unknown true items) n (way_none k t m (stands m t e).test)
      ∙ if_place (m == n) (Label m ∷ threaded_by ts unknown true items) (place (threaded_by ts unknown true items) n) (seen (ts n) (Label m ∷ items)) (seen (ts n) (place items n))
      (λ q. sym (ap (λ (z : Option LinearItem). seen z (Label m ∷ items)) (ap ts (sym (eqb_says m n q)) ∙ e)))
      (λ q. ih)
      ∙ if_both (m == n) (seen (ts n)) (Label m ∷ items) (place items n)

  at_jump : (n m : ℕ) (k : Known) (items : List LinearItem) (z : Option LinearItem) → ts m ≡ z → place (in_jump k z m ++ items) n ≡ place items n
  at_jump n m k items None e = refl
  at_jump n m k items (Some t) e = jump_place (way k t m) m n items (way_none k t m (stands m t e).test)

  place_is : (n : ℕ) (k : Known) (b : Bool) (items : List LinearItem) → Fine code ts items → Begins b items → place (threaded_by ts k b items) n ≡ seen (ts n) (place items n)
  place_is n k b [] f g = seen_nothing (ts n)
  place_is n k true (IfNonzero r m ∷ items) f g = place_is n k false items f.1 tt
  place_is n k true (IfZero r m ∷ items) f g = place_is n k false items f.1 tt
  place_is n k true (i ∷ items) f g = absurd g
  place_is n k false (Label m ∷ items) f g = at_label n m k items (ts m) refl (place_is n unknown (is_some (ts m)) items f.1 (begins m items f.0))
  place_is n k false (Jump m ∷ items) f g = at_jump n m k (threaded_by ts unknown false items) (ts m) refl ∙ place_is n unknown false items f tt
  place_is n k false (IfNonzero r m ∷ items) f g = place_is n k false items f.1 tt
  place_is n k false (IfZero r m ∷ items) f g = place_is n k false items f.1 tt
  place_is n k false (i ∷ items) f g = place_is n (known_behind i k) false items f tt

  -- the labels stay the same, in the same order
  label_labels : (m : ℕ) (k : Known) (items : List LinearItem) (z : Option LinearItem) → ts m ≡ z → labels (threaded_by ts unknown (is_some z) items) ≡ labels items → labels (before_label k z m ++ threaded_by ts unknown (is_some z) items) ≡ m ∷ labels items
  label_labels m k items None e ih = ap (λ (ls : List ℕ). m ∷ ls) ih
  label_labels m k items (Some t) e ih = none_labels (way k t m) (Label m ∷ threaded_by ts unknown true items) (way_none k t m (stands m t e).test) ∙ ap (λ (ls : List ℕ). m ∷ ls) ih

  in_jump_labels : (m : ℕ) (k : Known) (items : List LinearItem) (z : Option LinearItem) → ts m ≡ z → labels (in_jump k z m ++ items) ≡ labels items
  in_jump_labels m k items None e = refl
  in_jump_labels m k items (Some t) e = jump_labels (way k t m) m items (way_none k t m (stands m t e).test)

  pub labels_are : (k : Known) (b : Bool) (items : List LinearItem) → Fine code ts items → Begins b items → labels (threaded_by ts k b items) ≡ labels items
  labels_are k b [] f g = refl
  labels_are k true (IfNonzero r m ∷ items) f g = labels_are k false items f.1 tt
  labels_are k true (IfZero r m ∷ items) f g = labels_are k false items f.1 tt
  labels_are k true (i ∷ items) f g = absurd g
  labels_are k false (Label m ∷ items) f g = label_labels m k items (ts m) refl (labels_are unknown (is_some (ts m)) items f.1 (begins m items f.0))
  labels_are k false (Jump m ∷ items) f g = in_jump_labels m k (threaded_by ts unknown false items) (ts m) refl ∙ labels_are unknown false items f tt
  labels_are k false (IfNonzero r m ∷ items) f g = labels_are k false items f.1 tt
  labels_are k false (IfZero r m ∷ items) f g = labels_are k false items f.1 tt
  labels_are k false (i ∷ items) f g = labels_are (known_behind i k) false items f tt

  -- ---- the simulation

  module _ (arity : ℕ → ℕ) (all_fine : Fine code ts code) where
    abbrev made : List LinearItem
    made = threaded_by ts unknown false code

    abbrev old : Configuration → Moving Configuration
    old = linear_move arity code

    abbrev new : Configuration → Moving Configuration
    new = linear_move arity made

    place_made : (n : ℕ) → place made n ≡ seen (ts n) (place code n)
    place_made n = place_is n unknown false code all_fine tt

    -- a configuration whose steps are made from another's items
    pub record Exact (c d : Configuration) : Type 0 where
      pub known : Known
      pub holds : Holds known c.locations
      pub fine : Fine code ts c.items
      pub items : d.items ≡ threaded_by ts known false c.items
      pub locations : d.locations ≡ c.locations
      pub world : d.world ≡ c.world
      pub words : d.words ≡ c.words

    -- a configuration that moves as an `Exact` one does
    pub record Normal (c d : Configuration) : Type 0 where
      pub known : Known
      pub holds : Holds known c.locations
      pub fine : Fine code ts c.items
      pub moves : new d ≡ does arity made (threaded_by ts known false c.items) c.locations c.world c.words
      pub world : d.world ≡ c.world

    -- the old run is at a label before which a test goes; the new run is still at the jump
    pub record Waiting (c d : Configuration) : Type 0 where
      pub known : Known
      pub holds : Holds known c.locations
      pub label : ℕ
      pub test : LinearItem
      pub gone : ts label ≡ Some test
      pub at : c.items ≡ place code label
      pub behind : List LinearItem
      pub moves : new d ≡ does arity made (before_jump (way known test label) label ++ behind) c.locations c.world c.words
      pub world : d.world ≡ c.world

    abbrev Related : Configuration → Configuration → Type 0
    Related c d = Normal c d ⊎ Waiting c d

    exact : (k : Known) (items : List LinearItem) (l : Locations) (h : World) (ws : List ℕ) → Holds k l → Fine code ts items → Exact (at_items items l h ws) (at_items (threaded_by ts k false items) l h ws)
    exact k items l h ws p f = record { known = k; holds = p; fine = f; items = refl; locations = refl; world = refl; words = refl }

    exact_place : (n : ℕ) (l : Locations) (h : World) (ws : List ℕ) → ts n ≡ None → Exact (at_items (place code n) l h ws) (at_items (place made n) l h ws)
    exact_place n l h ws e = record {
      known = unknown;
      holds = unknown_holds l;
      fine = fine_place code ts code n all_fine;
      items = place_made n ∙ ap (λ (z : Option LinearItem). seen z (place code n)) e;
      locations = refl;
      world = refl;
      words = refl;
    }

    normal_of : (c d : Configuration) → Exact c d → Normal c d
    normal_of c d s = record { known = s.known; holds = s.holds; fine = s.fine; moves = λ i. does arity made (s.items i) (s.locations i) (s.world i) (s.words i); world = s.world }

    -- ---- what a move owes

    abbrev Moves : Configuration → Configuration → Type 0
    Moves c d = Advances old linear_output new linear_output Related 1 c d

    -- the measure: 1 if the next move is a jump
    abbrev rank : List LinearItem → ℕ
    rank [] = 0
    rank (Label n ∷ items) = rank items
    rank (Jump n ∷ items) = 1
    rank (i ∷ items) = 0

    low : (items : List LinearItem) → rank items ≤ 1
    low [] = omega arith
    low (Label n ∷ items) = low items
    low (Jump n ∷ items) = omega arith
    low (i ∷ items) = omega arith

    abbrev Owes : Moving Configuration → ℕ → World → Configuration → Type 0
    Owes (Goes c) m h d = Moves c d ⊎ (Related c d × (rank c.items < m))
    Owes (Calls q f) m h d = Asks old linear_output new linear_output Related 1 q f d
    Owes (Returns r) m h d = Ending old linear_output new linear_output 1 r h.output d
    Owes Fails m h d = Unit {0}

    advance : (c e d : Configuration) → new d ≡ Goes e → Normal c e → Moves c d
    advance c e d eq r = record { moves = 1; to = e; one = omega arith; few = omega arith; way = (e, eq, (refl, refl)); related = inl r }

    both : (m n : Moving Configuration) (r : ℕ) (h : World) (d : Configuration) → d.world ≡ h → Alike Exact m n → new d ≡ n → Owes m r h d
    both (Goes c) (Goes e) r h d w a eq = inl (advance c e d eq (normal_of c e a))
    both (Calls q f) (Calls p g) r h d w (e, a) eq = record { moves = 0; to = d; resume' = g; few = omega arith; way = (refl, refl); calls = eq ∙ ap (λ z. Calls z g) (sym e); related = λ x. inl (normal_of (f x) (g x) (a x)) }
    both (Returns r) (Returns s) n h d w a eq = record { moves = 0; to = d; few = omega arith; way = (refl, refl); returns = eq ∙ ap Returns (sym a); output = ap (λ (x : World). x.output) w }
    both Fails n r h d w a eq = tt
    both m n r h d w a eq = absurd a

    -- ---- an item that stays

    abbrev Stays : LinearItem → Type 0
    Stays (Label n) = ⊥
    Stays (Jump n) = ⊥
    Stays i = Unit {0}

    tried_alike : {X : Type 0} (x : Option X) (f g : X → Moving Configuration) → ((v : X) → Alike Exact (f v) (g v)) → Alike Exact (tried x f) (tried x g)
    tried_alike {X} None f g b = tt
    tried_alike {X} (Some v) f g b = b v

    put_alike : (x : Option ℕ) (to : ℕ) (k : Known) (items : List LinearItem) (l : Locations) (h : World) (ws : List ℕ) → Holds k l → Fine code ts items
        → Alike Exact (tried x (λ w. Goes (at_items items (put (Register to) w l) h ws))) (tried x (λ w. Goes (at_items (threaded_by ts (forget to k) false items) (put (Register to) w l) h ws)))
    put_alike x to k items l h ws p f =
        tried_alike x (λ w. Goes (at_items items (put (Register to) w l) h ws)) (λ w. Goes (at_items (threaded_by ts (forget to k) false items) (put (Register to) w l) h ws))
        (λ v. exact (forget to k) items (put (Register to) v l) h ws (forget_holds to v k l p) f)

    if_exact : (b : Bool) (xs ys us vs : List LinearItem) (l : Locations) (h : World) (ws : List ℕ) → Exact (at_items xs l h ws) (at_items us l h ws) → Exact (at_items ys l h ws) (at_items vs l h ws)
        → Exact (at_items (if b then xs else ys) l h ws) (at_items (if b then us else vs) l h ws)
    if_exact b xs ys us vs l h ws p q = if_alike (λ (ms ns : List LinearItem). Exact (at_items ms l h ws) (at_items ns l h ws)) b xs ys us vs p q

    stays_alike : (i : LinearItem) (k : Known) (items : List LinearItem) (l : Locations) (h : World) (ws : List ℕ) → Stays i → Holds k l → Fine code ts (i ∷ items)
        → Alike Exact (does arity code (i ∷ items) l h ws) (does arity made (i ∷ threaded_by ts (known_behind i k) false items) l h ws)
    stays_alike (Label n) k items l h ws s p f = absurd s
    stays_alike (Jump n) k items l h ws s p f = absurd s
    stays_alike (IfNonzero r n) k items l h ws s p f = if_exact (l (Register r) == 0) items (place code n) (threaded_by ts k false items) (place made n) l h ws (exact k items l h ws p f.1) (exact_place n l h ws f.0)
    stays_alike (IfZero r n) k items l h ws s p f = if_exact (l (Register r) == 0) (place code n) items (place made n) (threaded_by ts k false items) l h ws (exact_place n l h ws f.0) (exact k items l h ws p f.1)
    stays_alike (Copy (Between to from)) k items l h ws s p f = exact (forget to k) items _ h ws (forget_holds to (l (Register from)) k l p) f
    stays_alike (Copy (Reload to slot)) k items l h ws s p f = exact (forget to k) items _ h ws (forget_holds to (l (Slot slot)) k l p) f
    stays_alike (Copy (Spill slot from)) k items l h ws s p f = exact k items _ h ws (λ r w e. p r w e) f
    stays_alike (Const to w) k items l h ws s p f = exact (learn to w k) items _ h ws (learn_holds to w k l p) f
    stays_alike (Unary o to a) k items l h ws s p f = exact (forget to k) items _ h ws (forget_holds to (apply_unary o (l (Register a))) k l p) f
    stays_alike (Binary o to a b) k items l h ws s p f = put_alike (apply_binary o (l (Register a)) (l (Register b))) to k items l h ws p f
    stays_alike (Load width g to i) k items l h ws s p f = put_alike (element h width g (l (Register i))) to k items l h ws p f
    stays_alike (Store width g i a) k items l h ws s p f =
        tried_alike (stored h width g (l (Register i)) (l (Register a))) (λ w. Goes (at_items items l w ws)) (λ w. Goes (at_items (threaded_by ts k false items) l w ws)) (λ v. exact k items l v ws p f)
    stays_alike (Call g) k items l h ws s p f = (refl, λ a. exact (known_behind (Call g) k) items _ a.world (left_after_call ws) (call_holds a.value ws k l p) f)
    stays_alike Read k items l h ws s p f =
        exact (known_behind Read k) items _ (after_read h) (left_after_word ws) (forget_holds 10 (next_word h) (forget 17 k) (put (Register 17) (unknown_word ws) l) (forget_holds 17 (unknown_word ws) k l p)) f
    stays_alike Write k items l h ws s p f = exact (known_behind Write k) items _ (after_write (l (Register 10)) h) (left_after_word ws) (forget_holds 17 (unknown_word ws) k l p) f
    stays_alike Return k items l h ws s p f = refl

    -- ---- a test that goes before its label

    fine_test : (t : LinearItem) (rest : List LinearItem) → IsTest t → Fine code ts (t ∷ rest) → (ts (target_of t) ≡ None) × Fine code ts rest
    fine_test (IfNonzero r m) rest is f = f
    fine_test (IfZero r m) rest is f = f
    fine_test i rest is f = absurd is

    module _ (n : ℕ) (t : LinearItem) (e : ts n ≡ Some t) (k : Known) (l : Locations) (holds : Holds k l) (h : World) (ws : List ℕ) where
      abbrev rest : List LinearItem
      rest = (stands n t e).rest

      is : IsTest t
      is = (stands n t e).test

      fits : Fine code ts (t ∷ rest)
      fits = (subst (Fine code ts) (stands n t e).at (fine_place code ts code n all_fine)).1

      place_behind : place made n ≡ Label n ∷ threaded_by ts unknown false rest
      place_behind = place_made n ∙ ap (λ (z : Option LinearItem). seen z (place code n)) e ∙ ap (seen (Some t)) (stands n t e).at

      there : Normal (at_items (place code (target_of t)) l h ws) (at_items (place made (target_of t)) l h ws)
      there = normal_of _ _ (exact_place (target_of t) l h ws (fine_test t rest is fits).0)

      on : (items : List LinearItem) → does arity made items l h ws ≡ does arity made (threaded_by ts unknown false rest) l h ws → Normal (at_items rest l h ws) (at_items items l h ws)
      on items same = record { known = unknown; holds = unknown_holds l; fine = (fine_test t rest is fits).1; moves = same; world = refl }

      on_at_label : Normal (at_items rest l h ws) (at_items (place made n) l h ws)
      on_at_label = on (place made n) (ap (λ xs. does arity made xs l h ws) place_behind)

      -- where the test leads
      abbrev led : Bool → Configuration
      led b = at_items (if b then place code (target_of t) else rest) l h ws

      by_jump_there : (d : Configuration) → leads t l ≡ true → new d ≡ Goes (at_items (place made (target_of t)) l h ws) → Moves (led (leads t l)) d
      by_jump_there d q m = subst (λ b. Moves (led b) d) (sym q) (advance (led true) (at_items (place made (target_of t)) l h ws) d m there)

      by_jump_on : (d : Configuration) → leads t l ≡ false → new d ≡ Goes (at_items (place made n) l h ws) → Moves (led (leads t l)) d
      by_jump_on d q m = subst (λ b. Moves (led b) d) (sym q) (advance (led false) (at_items (place made n) l h ws) d m on_at_label)

      -- the new run makes the test that comes before the label
      entered : (d : Configuration) → new d ≡ does arity made (way k t n ∷ Label n ∷ threaded_by ts unknown false rest) l h ws → Moves (led (leads t l)) d
      entered d =
          way_gives (λ w. new d ≡ does arity made (w ∷ Label n ∷ threaded_by ts unknown false rest) l h ws → Moves (led (leads t l)) d) k l holds n t is (by_jump_there d) (by_jump_on d)
          (λ m. by (leads t l) (m ∙ test_does arity made t (Label n ∷ threaded_by ts unknown false rest) l h ws is))
        where
          by : (b : Bool) → new d ≡ Goes (at_items (if b then place made (target_of t) else Label n ∷ threaded_by ts unknown false rest) l h ws) → Moves (led b) d
          by true m = advance (led true) _ d m there
          by false m = advance (led false) _ d m (on (Label n ∷ threaded_by ts unknown false rest) refl)

      -- the new run makes the test that comes before a jump to the label
      passed : (d : Configuration) (behind : List LinearItem) → new d ≡ does arity made (before_jump (way k t n) n ++ behind) l h ws → Moves (led (leads t l)) d
      passed d behind =
          way_gives (λ w. new d ≡ does arity made (before_jump w n ++ behind) l h ws → Moves (led (leads t l)) d) k l holds n t is (by_jump_there d) (by_jump_on d)
          (λ m. by (leads t l) (m ∙ ap (λ xs. does arity made (xs ++ behind) l h ws) (test_before_jump t n is) ∙ test_does arity made t (Jump n ∷ behind) l h ws is))
        where
          by : (b : Bool) → new d ≡ Goes (at_items (if b then place made (target_of t) else Jump n ∷ behind) l h ws) → Moves (led b) d
          by true m = advance (led true) _ d m there
          by false m = record {
            moves = 2;
            to = at_items (place made n) l h ws;
            one = omega arith;
            few = omega arith;
            way = (at_items (Jump n ∷ behind) l h ws, m, (at_items (place made n) l h ws, refl, (refl, refl)));
            related = inl on_at_label;
          }

      -- the old run reaches the label and makes the test
      enters : (items : List LinearItem) (m : ℕ) (d : Configuration) → place code n ≡ Label n ∷ items → new d ≡ does arity made (way k t n ∷ Label n ∷ threaded_by ts unknown true items) l h ws → Owes (does arity code items l h ws) m h d
      enters items m d at moves =
          let q : items ≡ t ∷ rest = behind_label n t items e at in
          subst (λ xs. Owes (does arity code xs l h ws) m h d) (sym q)
          (subst (λ x. Owes x m h d) (sym (test_does arity code t rest l h ws is))
          (inl (entered d (moves ∙ ap (λ xs. does arity made (way k t n ∷ Label n ∷ threaded_by ts unknown true xs) l h ws) q))))

      waits : (items behind : List LinearItem) (m : ℕ) (d : Configuration) → items ≡ place code n → new d ≡ does arity made (before_jump (way k t n) n ++ behind) l h ws → Owes (does arity code items l h ws) m h d
      waits items behind m d at moves =
          subst (λ xs. Owes (does arity code xs l h ws) m h d) (sym (at ∙ (stands n t e).at)) (subst (λ x. Owes x m h d) (sym (test_does arity code t rest l h ws is)) (inl (passed d behind moves)))

      -- there is no jump at the label's place
      still : rank (place code n) ≡ 0
      still = ap rank (stands n t e).at ∙ by t is
        where
          by : (u : LinearItem) → IsTest u → rank (u ∷ rest) ≡ 0
          by (IfNonzero r m) v = refl
          by (IfZero r m) v = refl
          by i v = absurd v

    -- ---- each move

    at_a_label : (n : ℕ) (items : List LinearItem) (k : Known) (l : Locations) (h : World) (ws : List ℕ) (d : Configuration) (z : Option LinearItem) → ts n ≡ z → place code n ≡ Label n ∷ items → Holds k l
        → (new d ≡ does arity made (threaded_by ts unknown false items) l h ws → Owes (does arity code items l h ws) (rank items) h d)
        → new d ≡ does arity made (before_label k z n ++ threaded_by ts unknown (is_some z) items) l h ws → Owes (does arity code items l h ws) (rank items) h d
    at_a_label n items k l h ws d None e at p ih m = ih m
    at_a_label n items k l h ws d (Some t) e at p ih m = enters n t e k l p h ws items (rank items) d at m

    at_a_jump : (n : ℕ) (behind : List LinearItem) (k : Known) (l : Locations) (h : World) (ws : List ℕ) (d : Configuration) (z : Option LinearItem) → ts n ≡ z → Holds k l → d.world ≡ h
        → new d ≡ does arity made (in_jump k z n ++ behind) l h ws → Moves (at_items (place code n) l h ws) d ⊎ (Related (at_items (place code n) l h ws) d × (rank (place code n) < 1))
    at_a_jump n behind k l h ws d None e p w m = inl (advance _ _ d m (normal_of _ _ (exact_place n l h ws e)))
    at_a_jump n behind k l h ws d (Some t) e p w m =
        let r = still n t e k l p h ws in
        inr (inr (record { known = k; holds = p; label = n; test = t; gone = e; at = refl; behind = behind; moves = m; world = w }), omega arith)

    owes : (items : List LinearItem) (k : Known) (l : Locations) (h : World) (ws : List ℕ) (d : Configuration) → Fine code ts items → Holds k l → d.world ≡ h → new d ≡ does arity made (threaded_by ts k false items) l h ws
        → Owes (does arity code items l h ws) (rank items) h d
    owes [] k l h ws d f p w m = tt
    owes (Label n ∷ items) k l h ws d f p w m = at_a_label n items k l h ws d (ts n) refl f.0 p (owes items unknown l h ws d f.1 (unknown_holds l) w) m
    owes (Jump n ∷ items) k l h ws d f p w m = at_a_jump n (threaded_by ts unknown false items) k l h ws d (ts n) refl p w m
    owes (i ∷ items) k l h ws d f p w m = both (does arity code (i ∷ items) l h ws) (does arity made (i ∷ threaded_by ts (known_behind i k) false items) l h ws) 0 h d w (stays_alike i k items l h ws tt p f) m

    owes_related : (c d : Configuration) → Related c d → Owes (old c) (rank c.items) c.world d
    owes_related c d (inl r) = owes c.items r.known c.locations c.world c.words d r.fine r.holds r.world r.moves
    owes_related c d (inr r) = waits r.label r.test r.gone r.known c.locations r.holds c.world c.words c.items r.behind (rank c.items) d r.at r.moves

    by_move : (m : Moving Configuration) (c d : Configuration) → old c ≡ m → Owes (old c) (rank c.items) c.world d → Owes m (rank c.items) c.world d
    by_move m c d e x = subst (λ y. Owes y (rank c.items) c.world d) e x

    same_world : (c d : Configuration) → Related c d → d.world ≡ c.world
    same_world c d (inl r) = r.world
    same_world c d (inr r) = r.world

    pub simulation : Simulation old linear_output new linear_output Related (λ c. rank c.items) 1 1
    simulation = record {
      low = λ c d r. low c.items;
      outputs = λ c d r. ap (λ (h : World). h.output) (same_world c d r);
      goes = λ c c' d r e. by_move (Goes c') c d e (owes_related c d r);
      asks = λ c q resume d r e. by_move (Calls q resume) c d e (owes_related c d r);
      ends = λ c r d x e. by_move (Returns r) c d e (owes_related c d x);
    }

    started : (slots : ℕ) (words ws : List ℕ) (h : World) → Related (linear_start slots code words ws h) (linear_start slots made words ws h)
    started slots words ws h =
        let l = at_entry slots words ws in
        inl (normal_of (linear_start slots code words ws h) (linear_start slots made words ws h) (exact unknown code l h (left_after_entry slots words) (unknown_holds l) all_fine))

    pub made_tracks : (meaning : Meaning) (f rate slots : ℕ) → TracksForAll meaning f rate old linear_output (linear_start slots code) → TracksForAll meaning f (coarser rate 1) new linear_output (linear_start slots made)
    made_tracks meaning f rate slots keeps =
        tracks_on_for_all meaning f rate old linear_output new linear_output Related (λ c. rank c.items) 1 1 simulation (linear_start slots code) (linear_start slots made) (λ words are ws h call. started slots words ws h) keeps

pub threaded_labels : (code : List LinearItem) → Distinct (labels code) → labels (threaded code) ≡ labels code
threaded_labels code distinct = labels_are code (tests code) (gone_tests code) unknown false code (fine_tests code distinct) tt

-- if code keeps up with a function, it still does with tests before labels, at a slower rate
pub threaded_tracks : (meaning : Meaning) (f rate slots : ℕ) (code : List LinearItem) → Distinct (labels code) → TracksForAll meaning f rate (linear_move meaning.arity code) linear_output (linear_start slots code)
    → TracksForAll meaning f (coarser rate 1) (linear_move meaning.arity (threaded code)) linear_output (linear_start slots (threaded code))
threaded_tracks meaning f rate slots code distinct keeps = made_tracks code (tests code) (gone_tests code) meaning.arity (fine_tests code distinct) meaning f rate slots keeps
