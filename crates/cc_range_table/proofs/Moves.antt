-- What is known after one move: one case for each statement. If the operations of the code are covered, the move is possible.
use Rattle.std.proofs.Common.{◌≡◌, ℕ, zero, suc, ◌+◌, ◌<◌, ◌^◌, Bool, true, false, ◌==◌, List, [], ◌∷◌, get_or, Option, Some, None, option_map, slice_get, ◌⊎◌, inl, inr, refl, sym, ap, ◌∙◌, subst, arith}
use Rattle.std.specs.Prelude.{if◌then◌else◌, ◌&&◌, ◌||◌, not, set}
use Rattle.std.proofs.lemmas.Bool.Decides.{nat_tests}
use Rattle.cc_words.specs.declared.operators.Width.{Width}
use Rattle.cc_words.specs.declared.operators.Width.TheVariants.{Byte, Word}
use Rattle.cc_words.specs.Widths.{same_width, kept}
use Rattle.cc_ast.specs.Tree.{External}
use Rattle.cc_c_semantics.specs.Numbered.{objects_in}
use Rattle.cc_simulation.specs.Behavior.{AreWords}
use Rattle.cc_simulation.specs.World.{Object, Size, World, IsWorld, object_of, object_words, object_with, with_element, stored, first_or_zero, next_word, after_read, after_write}
use Rattle.cc_simulation.specs.Run.{Move, Goes, Calls, Returns, tried}
use Rattle.cc_cminor_language.specs.Cminor.{Expression, Statement, Skip, Set, Store, Call, Read, Write, Sequence, If, Loop, Block, Exit, Return, Continuation, Ends, Then, Again, Leaving, Variables, value, values, put, put_result, Config, config, chosen, skips, exits, moves, cminor_move, cminor_start}
use Rattle.cc_guard.specs.Guard.{elements_in}
use Rattle.cc_guard.proofs.Tests.{found}
use Rattle.cc_guard.proofs.Words.{HoldWords, IsOfWords, value_word}
use Rattle.cc_range.specs.declared.range.Range.{Range}
use Rattle.cc_range.specs.Range.{Has, all_words, only, is_within, joined, of_kept, is_index}
use Rattle.cc_range_table.specs.Table.{Facts, State, Row, Table, at, row_of, note_at, is_written, HoldObjects}
use Rattle.cc_range_table.specs.Inductive.{are_within, facts_within, state_within, joined_facts, joined_states, for_facts, range_of, is_scalar, covers, set_variable, learned_within, places, after_store, set_result, after_changes, after_call, changes_within, are_arguments, known_after, is_boundary, ends_well, is_inductive_at, covers_at, first_facts, is_inductive, covers_code}
use Rattle.cc_range_table.specs.Calls.{Enters, Leaves}
use Rattle.cc_range_table.specs.internal.Known.{RangesAreSound, Holds, HoldsIn, ForFacts, AllWords, Entails, Fits, Continues, Known, Onward}
use Rattle.cc_range_table.proofs.Lists.{both, no_true, no_some, word_in, in_all, set_in, within_in, joined_in, changes_in, first_in, written_in, no_object, object_set_in, set_get, one_stored}
use Rattle.cc_range_table.proofs.Expressions.{scalar_long, range_sound, arguments_in, covered_value, covered_values, learned_holds}

-- ---- states

for_is : (s : State) (test : Facts → Bool) → for_facts s test ≡ true → ForFacts s (λ F. test F ≡ true)
for_is None test e = tt
for_is (Some F) test e = e

for_both : (s : State) (P Q : Facts → Type 0) → ForFacts s P → ForFacts s Q → ForFacts s (λ F. P F × Q F)
for_both None P Q p q = tt
for_both (Some F) P Q p q = (p, q)

for_as : (s : State) (P Q : Facts → Type 0) → ((F : Facts) → P F → Q F) → ForFacts s P → ForFacts s Q
for_as None P Q f p = tt
for_as (Some F) P Q f p = f F p

holds_in : (s : State) (l : Variables) (h : World) → HoldsIn s l h → (G : Facts) × (s ≡ Some G) × Holds G l h
holds_in None l h p = absurd p
holds_in (Some G) l h p = (G, refl, p)

kept_word : (width : Width) (w : ℕ) → w < 2 ^ 32 → kept width w < 2 ^ 32
kept_word Byte w h = omega arith
kept_word Word w h = h

first_word : (ws : List ℕ) → AreWords ws → first_or_zero ws < 2 ^ 32
first_word [] h = omega arith
first_word (w ∷ ws) h = h.0

module _ (r : RangesAreSound) where
  element_word : (h : World) → ((o : ℕ) → AreWords (object_words h o)) → (o i w : ℕ) → slice_get (object_words h o) i ≡ Some w → w < 2 ^ 32
  element_word h words o i w e = word_in (object_words h o) i w (words o) e

  pub facts_entail : (F G : Facts) → facts_within F G ≡ true → (l : Variables) (h : World) → AllWords l h → Holds F l h → Holds G l h
  facts_entail F G e l h words p =
      let u = both (are_within F.variables G.variables) (are_within F.objects G.objects) e in
      record { variables = λ x. within_in r F.variables G.variables x (l x) (words.0 x) u.0 (p.variables x); objects = λ o i w f. within_in r F.objects G.objects o w (element_word h words.1 o i w f) u.1 (p.objects o i w f) }

  pub state_entails : (s t : State) → state_within s t ≡ true → Entails s t
  state_entails None t e l h words p = absurd p
  state_entails (Some F) None e l h words p = no_true (sym e)
  state_entails (Some F) (Some G) e l h words p = facts_entail F G e l h words p

  joined_hold : (F G : Facts) (l : Variables) (h : World) → AllWords l h → Holds F l h ⊎ Holds G l h → Holds (joined_facts F G) l h
  joined_hold F G l h words (inl p) = record { variables = λ x. joined_in r F.variables G.variables x (l x) (words.0 x) (inl (p.variables x)); objects = λ o i w f. joined_in r F.objects G.objects o w (element_word h words.1 o i w f) (inl (p.objects o i w f)) }
  joined_hold F G l h words (inr p) = record { variables = λ x. joined_in r F.variables G.variables x (l x) (words.0 x) (inr (p.variables x)); objects = λ o i w f. joined_in r F.objects G.objects o w (element_word h words.1 o i w f) (inr (p.objects o i w f)) }

  join_first : (s t : State) → Entails s (joined_states s t)
  join_first None t l h words p = absurd p
  join_first (Some F) None l h words p = p
  join_first (Some F) (Some G) l h words p = joined_hold F G l h words (inl p)

  join_second : (s t : State) → Entails t (joined_states s t)
  join_second None t l h words p = p
  join_second (Some F) None l h words p = absurd p
  join_second (Some F) (Some G) l h words p = joined_hold F G l h words (inr p)

  boundary_holds : (table : Table) (F : Facts) (l : Variables) (h : World) → ((o : ℕ) → AreWords (object_words h o)) → is_boundary table F ≡ true → Holds F l h → HoldObjects table.objects h
  boundary_holds table F l h words e p o i w f = within_in r F.objects table.objects o w (element_word h words o i w f) e (p.objects o i w f)

  -- ---- a store

  module _ (sizes : List Size) (l : Variables) (h g : World) (is : IsWorld sizes h) where
    element_after : (F : Facts) → Holds F l h → (width : Width) (o j v u : ℕ) (s : Range) → v < 2 ^ 32 → Has s v → slice_get (object_words h o) j ≡ Some u → (b : Bool) → is_scalar sizes o ≡ b
        → (i w : ℕ) → slice_get (set (object_words h o) j (kept width v)) i ≡ Some w → Has (if b then of_kept width s else joined (at F.objects o) (of_kept width s)) w
    element_after F p width o j v u s k q old true one i w e =
        subst (λ z. Has (of_kept width s) z) (sym (one_stored (object_words h o) j i u (kept width v) w (scalar_long sizes h o is.sizes one) old e)) (r.kept width s v k q)
    element_after F p width o j v u s k q old false one i w e = r.joined (at F.objects o) (of_kept width s) w (by (set_get (object_words h o) j i (kept width v) w e))
      where
        by : (w ≡ kept width v) ⊎ (slice_get (object_words h o) i ≡ Some w) → Has (at F.objects o) w ⊎ Has (of_kept width s) w
        by (inl f) = inr (subst (λ z. Has (of_kept width s) z) (sym f) (r.kept width s v k q))
        by (inr f) = inl (p.objects o i w f)

    stored_holds : (F : Facts) → Holds F l h → (width : Width) (o j v u : ℕ) (s : Range) → v < 2 ^ 32 → Has s v → slice_get (object_words h o) j ≡ Some u → with_element h o j (kept width v) ≡ g → Holds (after_store sizes F width o s) l g
    stored_holds F p width o j v u s k q old made = record { variables = p.variables; objects = objects }
      where
        new_word : (i w : ℕ) → slice_get (set (object_words h o) j (kept width v)) i ≡ Some w → w < 2 ^ 32
        new_word i w e = by (set_get (object_words h o) j i (kept width v) w e)
          where
            by : (w ≡ kept width v) ⊎ (slice_get (object_words h o) i ≡ Some w) → w < 2 ^ 32
            by (inl f) = subst (λ z. z < 2 ^ 32) (sym f) (kept_word width v k)
            by (inr f) = element_word h is.globals o i w f

        objects : HoldObjects (set F.objects o (if is_scalar sizes o then of_kept width s else joined (at F.objects o) (of_kept width s))) g
        objects z i w e =
            let S = if is_scalar sizes o then of_kept width s else joined (at F.objects o) (of_kept width s) in
            object_set_in h.globals o z (object_with (object_of h o) j (kept width v)) (λ (x : Object). slice_get x.words i ≡ Some w → Has (at (set F.objects o S) z) w)
            (λ same f. set_in r F.objects o z S w (new_word i w f) (λ _. element_after F p width o j v u s k q old (is_scalar sizes o) refl i w f) (λ n. absurd (n same)))
            (λ n f. set_in r F.objects o z S w (element_word h is.globals z i w f) (λ same. absurd (n same)) (λ _. p.objects z i w f))
            (λ f. no_some w f)
            (subst (λ (x : World). slice_get (object_words x z) i ≡ Some w) (sym made) e)

  -- the word that was in the element
  store_was : (h g : World) (width : Width) (o j v : ℕ) → stored h width o j v ≡ Some g → (u : ℕ) × (slice_get (object_words h o) j ≡ Some u) × (with_element h o j (kept width v) ≡ g)
  store_was h g width o j v e = by (same_width (object_of h o).width width) e
    where
      by_word : (s : Option ℕ) → option_map (λ old. with_element h o j (kept width v)) s ≡ Some g → (u : ℕ) × (s ≡ Some u) × (with_element h o j (kept width v) ≡ g)
      by_word None f = absurd (let z : None ≡ Some g = f in cc)
      by_word (Some u) f = (u, refl, let z : Some (with_element h o j (kept width v)) ≡ Some g = f in cc)

      by : (b : Bool) → option_map (λ old. with_element h o j (kept width v)) (if b then slice_get (object_words h o) j else None) ≡ Some g → (u : ℕ) × (slice_get (object_words h o) j ≡ Some u) × (with_element h o j (kept width v) ≡ g)
      by true f = by_word (slice_get (object_words h o) j) f
      by false f = absurd (let z : None ≡ Some g = f in cc)

-- a store changes no other object
other_at : (gs : List Object) (o z : ℕ) (x : Object) → (o ≡ z → ⊥) → get_or (set gs o x) z no_object ≡ get_or gs z no_object
other_at [] o z x n = refl
other_at (y ∷ gs) zero zero x n = absurd (n refl)
other_at (y ∷ gs) zero (suc z) x n = refl
other_at (y ∷ gs) (suc o) zero x n = refl
other_at (y ∷ gs) (suc o) (suc z) x n = other_at gs o z x (λ e. n (ap suc e))

other_object : (h g : World) (width : Width) (o j v z : ℕ) → with_element h o j (kept width v) ≡ g → (o ≡ z → ⊥) → object_words g z ≡ object_words h z
other_object h g width o j v z made n =
    ap (λ (x : World). object_words x z) (sym made) ∙ ap (λ (x : Object). x.words) (other_at h.globals o z (object_with (object_of h o) j (kept width v)) n)

-- ---- variables

put_same : (l : Variables) (x y v : ℕ) → x ≡ y → put l x v y ≡ v
put_same l x y v e = let t : (x == y) ≡ true = grind (arith, nat_tests) in ap (λ b. if b then v else l y) t

put_other : (l : Variables) (x y v : ℕ) → (x ≡ y → ⊥) → put l x v y ≡ l y
put_other l x y v n = let t : (x == y) ≡ false = grind (arith, nat_tests) in ap (λ b. if b then v else l y) t

put_word : (l : Variables) (x v : ℕ) → HoldWords l → v < 2 ^ 32 → HoldWords (put l x v)
put_word l x v h k y = by (x == y)
  where
    by : (b : Bool) → (if b then v else l y) < 2 ^ 32
    by true = k
    by false = h y

-- a function that ends well and may be called gives what its row says
ended : (b t : Bool) → (not b || t) ≡ true → b ≡ true → t ≡ true
ended true t e f = e
ended false t e f = no_true (sym f)

module _ (r : RangesAreSound) where
  put_holds : (F : Facts) (l : Variables) (h : World) → HoldWords l → Holds F l h → (x v : ℕ) (s : Range) → v < 2 ^ 32 → Has s v → Holds (set_variable F x s) (put l x v) h
  put_holds F l h words p x v s k q = record {
    variables = λ y. set_in r F.variables x y s (put l x v y) (put_word l x v words k y) (λ e. subst (λ w. Has s w) (sym (put_same l x y v e)) q) (λ n. subst (λ w. Has (at F.variables y) w) (sym (put_other l x y v n)) (p.variables y));
    objects = p.objects;
  }

  result_holds : (F : Facts) (l : Variables) (h : World) → HoldWords l → Holds F l h → (to : Option ℕ) (v : ℕ) (s : Range) → v < 2 ^ 32 → Has s v → Holds (set_result F to s) (put_result l to v) h
  result_holds F l h words p None v s k q = p
  result_holds F l h words p (Some x) v s k q = put_holds F l h words p x v s k q

  module _ (unit : List External) (table : Table) (f : ℕ) (start : World) (quiet : Bool) where
    abbrev sizes : List Size
    sizes = objects_in unit

    abbrev mine : Row
    mine = row_of table f

    abbrev Knows : Config → Type 0
    Knows c = Known sizes table f start quiet c

    abbrev Goes_on : Move Config → Type 0
    Goes_on m = Onward sizes table f start quiet m

    abbrev Fitting : List State → ℕ → Facts → Statement → Type 0
    Fitting X k F s = Fits sizes table f start quiet X k F s

    abbrev Continuing : State → List State → Continuation → Type 0
    Continuing s X κ = Continues sizes table f start quiet s X κ

    abbrev then_known : ℕ → Facts → Statement → State
    then_known k F s = known_after sizes table mine.notes k F s

    abbrev Unchanged : World → Type 0
    Unchanged h = (o : ℕ) → is_written mine.writes o ≡ false → object_words h o ≡ object_words start o

    for_quiet : (s : State) (test : Facts → Bool) → (quiet ≡ true → for_facts s test ≡ true) → ForFacts s (λ F. quiet ≡ true → test F ≡ true)
    for_quiet None test g = tt
    for_quiet (Some F) test g = g

    same_state : (s t : State) → s ≡ t → Entails s t
    same_state s t e l h words p = subst (λ (u : State). HoldsIn u l h) e p

    none_continues : (s : State) (X : List State) (κ : Continuation) → Continuing s X κ → Continuing None X κ
    none_continues s X Ends c = (c.0, tt)
    none_continues s X (Then t κ) c = (c.0, None, tt, λ l h words p. p, none_continues c.1 X κ c.4)
    none_continues s X (Again t κ) c = (c.0, c.1, λ l h words p. absurd p, c.3, c.4)
    none_continues s X (Leaving κ) c = (c.0, c.1, c.2, c.3, λ l h words p. absurd p, c.5, c.6)

    leaves : (F : Facts) (l : Variables) (h : World) → AllWords l h → Holds F l h → Unchanged h → (s : Range) (w : ℕ) → w < 2 ^ 32 → Has s w → ends_well table mine F s ≡ true → Leaves table f start (record { value = w; world = h })
    leaves F l h words p changed s w k q e = record {
      result = λ called. r.within s mine.result w (both (is_within s mine.result) (is_boundary table F) (ended mine.is_called (is_within s mine.result && is_boundary table F) e called)).0 q;
      objects = λ called. boundary_holds r table F l h words.1 (both (is_within s mine.result) (is_boundary table F) (ended mine.is_called (is_within s mine.result && is_boundary table F) e called)).1 p;
      changed = changed;
    }

    -- at the end of a block
    ends_block : (κ : Continuation) (l : Variables) (h : World) (end : State) (Y : List State) → HoldsIn end l h → Continuing end Y κ → Unchanged h → Knows (config Skip κ l h)
    ends_block κ l h end Y p c changed =
        let q = holds_in end l h p in
        record { facts = q.0; place = 0; exits = Y; holds = q.2; fits = (refl, λ _. refl); next = end; leads = same_state (Some q.0) end (sym q.1); continues = c; changed = changed }

    skip_known : (κ : Continuation) (l : Variables) (h : World) (G : Facts) (X : List State) → AllWords l h → Holds G l h → Continuing (Some G) X κ → Unchanged h → Goes_on (skips κ l h)
    skip_known Ends l h G X words p c changed = leaves G l h words p changed (only 0) 0 (omega arith) (r.words 0 (omega arith)).1 c.1
    skip_known (Then t κ) l h G X words p c changed = record { facts = G; place = c.0; exits = X; holds = p; fits = c.2; next = c.1; leads = c.3; continues = c.4; changed = changed }
    skip_known (Again t κ) l h G X words p c changed =
        let q = holds_in c.1 l h (c.2 l h words p) in
        let body = subst (λ (s : State). ForFacts s (λ H. Fitting X (suc c.0) H t × Entails (then_known (suc c.0) H t) c.1)) q.1 c.3 in
        record { facts = q.0; place = suc c.0; exits = X; holds = q.2; fits = body.0; next = c.1; leads = body.1; continues = (c.0, c.1, λ m g w e. e, c.3, c.4); changed = changed }
    skip_known (Leaving κ) l h G X words p c changed = ends_block κ l h c.2 c.1 (c.4 l h words p) c.6 changed

    exit_known : (j : ℕ) (κ : Continuation) (l : Variables) (h : World) (F : Facts) (X : List State) → AllWords l h → Holds F l h → state_within (Some F) (get_or X j None) ≡ true → Continuing None X κ → Unchanged h → Goes_on (exits j κ l h)
    exit_known j Ends l h F X words p e c changed = λ _. no_true (sym (subst (λ (Z : List State). state_within (Some F) (get_or Z j None) ≡ true) c.0 e))
    exit_known j (Then t κ) l h F X words p e c changed = record { facts = F; place = 0; exits = X; holds = p; fits = (e, λ _. refl); next = None; leads = λ m g w q. q; continues = none_continues c.1 X κ c.4; changed = changed }
    exit_known j (Again t κ) l h F X words p e c changed = record { facts = F; place = 0; exits = X; holds = p; fits = (e, λ _. refl); next = None; leads = λ m g w q. q; continues = c.4; changed = changed }
    exit_known zero (Leaving κ) l h F X words p e c changed =
        let f = subst (λ (Z : List State). state_within (Some F) (get_or Z 0 None) ≡ true) c.3 e in
        ends_block κ l h c.2 c.1 (c.5 l h words (state_entails r (Some F) c.0 f l h words p)) c.6 changed
    exit_known (suc j) (Leaving κ) l h F X words p e c changed =
        let f = subst (λ (Z : List State). state_within (Some F) (get_or Z (suc j) None) ≡ true) c.3 e in
        record { facts = F; place = 0; exits = c.1; holds = p; fits = (f, λ _. refl); next = None; leads = λ m g w q. q; continues = none_continues c.2 c.1 κ c.6; changed = changed }

    -- ---- statements

    tried_on : {A : Type 0} (o : Option A) (go : A → Move Config) → (quiet ≡ true → (a : A) × (o ≡ Some a)) → ((a : A) → o ≡ Some a → Goes_on (go a)) → Goes_on (tried o go)
    tried_on {A} None go can g = λ q. let e : ◌≡◌ {A = Option A} None (Some (can q).0) = (can q).1 in cc
    tried_on (Some a) go can g = g a refl

    -- a statement that only changes facts
    goes : (κ : Continuation) (l m : Variables) (h g : World) (s : Statement) (k : Known sizes table f start quiet (config s κ l h)) (G : Facts) → then_known k.place k.facts s ≡ Some G → Holds G m g → Unchanged g → Knows (config Skip κ m g)
    goes κ l m h g s k G e p changed = record { facts = G; place = 0; exits = k.exits; holds = p; fits = (refl, λ _. refl); next = k.next; leads = λ n w u q. k.leads n w u (subst (λ (t : State). HoldsIn t n w) (sym e) q); continues = k.continues; changed = changed }

    module _ (κ : Continuation) (l : Variables) (h : World) where
      words_of : (s : Statement) → IsOfWords unit (config s κ l h) → AllWords l h
      words_of s p = (p.holds, p.world.globals)

      store_on : (width : Width) (o : ℕ) (i e : Expression) → IsOfWords unit (config (Store width o i e) κ l h) → Knows (config (Store width o i e) κ l h) → Goes_on (moves (Store width o i e) κ l h)
      store_on width o i e p k =
          let words = words_of (Store width o i e) p in
          let F = k.facts in
          let split = λ (q : quiet ≡ true). both (covers sizes F i && covers sizes F e) (is_index (range_of F i) (elements_in sizes width o)) (k.fits.1 q) in
          tried_on (value i l h) (λ j. tried (value e l h) (λ w. tried (stored h width o j w) (λ g. Goes (config Skip κ l g))))
          (λ q. covered_value r sizes l h p.holds p.world F k.holds i p.constants.0 (both (covers sizes F i) (covers sizes F e) (split q).0).0)
          (λ j vi. tried_on (value e l h) (λ w. tried (stored h width o j w) (λ g. Goes (config Skip κ l g)))
          (λ q. covered_value r sizes l h p.holds p.world F k.holds e p.constants.1 (both (covers sizes F i) (covers sizes F e) (split q).0).1)
          (λ w ve. tried_on (stored h width o j w) (λ g. Goes (config Skip κ l g))
          (λ q. let lt = r.indexes (range_of F i) (elements_in sizes width o) j (value_word sizes l h p.holds p.world i p.constants.0 j vi) (split q).1 (range_sound r sizes l h p.holds p.world F k.holds i p.constants.0 j vi) in
          let u = found h sizes p.world.sizes width o j lt in
          (with_element h o j (kept width w), ap (λ (s : Option ℕ). option_map (λ old. with_element h o j (kept width w)) s) u.1))
          (λ g st. let was = store_was r h g width o j w st in
          let word = value_word sizes l h p.holds p.world e p.constants.1 w ve in
          goes κ l l h g (Store width o i e) k (after_store sizes F width o (range_of F e)) refl
          (stored_holds r sizes l h g p.world F k.holds width o j w was.0 (range_of F e) word (range_sound r sizes l h p.holds p.world F k.holds e p.constants.1 w ve) was.1 was.2)
          (λ z n. other_object h g width o j w z was.2 (λ same. no_true (sym (subst (λ y. is_written mine.writes y ≡ true) same k.fits.0) ∙ n)) ∙ k.changed z n))))

      call_on : (to : Option ℕ) (g : ℕ) (es : List Expression) → IsOfWords unit (config (Call to g es) κ l h) → Knows (config (Call to g es) κ l h) → Goes_on (moves (Call to g es) κ l h)
      call_on to g es p k =
          let F = k.facts in
          let called = row_of table g in
          let u = both (called.is_called && are_arguments F es called.parameters && is_boundary table F) (changes_within called.writes mine.writes) k.fits.0 in
          let v = both (called.is_called && are_arguments F es called.parameters) (is_boundary table F) u.0 in
          let t = both called.is_called (are_arguments F es called.parameters) v.0 in
          tried_on (values es l h) (λ ws. Calls (record { function = g; arguments = ws; world = h }) (λ a. config Skip κ (put_result l to a.value) a.world))
          (λ q. covered_values r sizes l h p.holds p.world F k.holds es p.constants (k.fits.1 q))
          (λ ws e. let given = arguments_in r sizes l h p.holds p.world F k.holds es called.parameters ws p.constants t.1 e in (
            t.0,
            record { count = given.0; arguments = given.1; objects = boundary_holds r table F l h p.world.globals v.1 k.holds },
            λ a word words left.
                let G : Facts = record { variables = F.variables; objects = after_changes called.writes F.objects table.objects } in
                let holds : Holds G l a.world = record {
                  variables = k.holds.variables;
                  objects = λ o i w x. changes_in r called.writes F.objects table.objects o w (element_word r a.world words o i w x) (λ _. left.objects t.0 o i w x) (λ n. k.holds.objects o i w (subst (λ (ys : List ℕ). slice_get ys i ≡ Some w) (left.changed o n) x));
                } in
                goes κ l (put_result l to a.value) h a.world (Call to g es) k (after_call table F to called) refl (result_holds G l a.world p.holds holds to a.value called.result word (left.result t.0))
                (λ o n. left.changed o (written_in called.writes mine.writes o u.1 n) ∙ k.changed o n),
          ))

      if_by : (e : Expression) (a b : Statement) → IsOfWords unit (config (If e a b) κ l h) → Knows (config (If e a b) κ l h) → (w : ℕ) → value e l h ≡ Some w → Knows (config (chosen w a b) κ l h)
      if_by e a b p k zero v =
          let F = k.facts in
          let yes = learned_within sizes true F e in
          let no = learned_within sizes false F e in
          let m = k.place + places a in
          let u = both (is_inductive_at sizes table mine k.exits k.place yes a) (is_inductive_at sizes table mine k.exits m no b) k.fits.0 in
          record {
            facts = no;
            place = m;
            exits = k.exits;
            holds = learned_holds r sizes l h p.holds p.world e false F k.holds p.constants.0 0 v refl;
            fits = (u.1, λ q. (both (covers sizes F e && covers_at sizes table mine.notes k.place yes a) (covers_at sizes table mine.notes m no b) (k.fits.1 q)).1);
            next = k.next;
            leads = λ n w x q. k.leads n w x (join_second r (then_known k.place yes a) (then_known m no b) n w x q);
            continues = k.continues;
            changed = k.changed;
          }
      if_by e a b p k (suc w) v =
          let F = k.facts in
          let yes = learned_within sizes true F e in
          let no = learned_within sizes false F e in
          let m = k.place + places a in
          let u = both (is_inductive_at sizes table mine k.exits k.place yes a) (is_inductive_at sizes table mine k.exits m no b) k.fits.0 in
          record {
            facts = yes;
            place = k.place;
            exits = k.exits;
            holds = learned_holds r sizes l h p.holds p.world e true F k.holds p.constants.0 (suc w) v (λ z. omega arith);
            fits = (u.0, λ q. (both (covers sizes F e) (covers_at sizes table mine.notes k.place yes a) (both (covers sizes F e && covers_at sizes table mine.notes k.place yes a) (covers_at sizes table mine.notes m no b) (k.fits.1 q)).0).1);
            next = k.next;
            leads = λ n z x q. k.leads n z x (join_first r (then_known k.place yes a) (then_known m no b) n z x q);
            continues = k.continues;
            changed = k.changed;
          }

      if_on : (e : Expression) (a b : Statement) → IsOfWords unit (config (If e a b) κ l h) → Knows (config (If e a b) κ l h) → Goes_on (moves (If e a b) κ l h)
      if_on e a b p k =
          let F = k.facts in
          let yes = learned_within sizes true F e in
          let no = learned_within sizes false F e in
          let m = k.place + places a in
          tried_on (value e l h) (λ w. Goes (config (chosen w a b) κ l h))
          (λ q. covered_value r sizes l h p.holds p.world F k.holds e p.constants.0 (both (covers sizes F e) (covers_at sizes table mine.notes k.place yes a) (both (covers sizes F e && covers_at sizes table mine.notes k.place yes a) (covers_at sizes table mine.notes m no b) (k.fits.1 q)).0).0)
          (λ w v. if_by e a b p k w v)

      on : (s : Statement) → IsOfWords unit (config s κ l h) → Knows (config s κ l h) → Goes_on (moves s κ l h)
      on Skip p k =
          let words = words_of Skip p in
          let q = holds_in k.next l h (k.leads l h words k.holds) in
          skip_known κ l h q.0 k.exits words q.2 (subst (λ (s : State). Continuing s k.exits κ) q.1 k.continues) k.changed
      on (Set x e) p k =
          tried_on (value e l h) (λ w. Goes (config Skip κ (put l x w) h)) (λ q. covered_value r sizes l h p.holds p.world k.facts k.holds e p.constants (k.fits.1 q))
          (λ w v. goes κ l (put l x w) h h (Set x e) k (set_variable k.facts x (range_of k.facts e)) refl
          (put_holds k.facts l h p.holds k.holds x w (range_of k.facts e) (value_word sizes l h p.holds p.world e p.constants w v) (range_sound r sizes l h p.holds p.world k.facts k.holds e p.constants w v)) k.changed)
      on (Store width o i e) p k = store_on width o i e p k
      on (Call to g es) p k = call_on to g es p k
      on (Read to) p k =
          let word = first_word h.input p.world.input in
          goes κ l (put_result l to (next_word h)) h (after_read h) (Read to) k (set_result k.facts to all_words) refl
          (let q = result_holds k.facts l h p.holds k.holds to (next_word h) all_words word (in_all r (next_word h) word) in record { variables = q.variables; objects = q.objects }) k.changed
      on (Write e) p k =
          tried_on (value e l h) (λ w. Goes (config Skip κ l (after_write w h))) (λ q. covered_value r sizes l h p.holds p.world k.facts k.holds e p.constants (k.fits.1 q))
          (λ w v. goes κ l l h (after_write w h) (Write e) k k.facts refl (record { variables = k.holds.variables; objects = k.holds.objects }) k.changed)
      on (Sequence a b) p k =
          let F = k.facts in
          let s = then_known k.place F a in
          let m = k.place + places a in
          let u = both (is_inductive_at sizes table mine k.exits k.place F a) (for_facts s (λ G. is_inductive_at sizes table mine k.exits m G b)) k.fits.0 in
          let split = λ (q : quiet ≡ true). both (covers_at sizes table mine.notes k.place F a) (for_facts s (λ G. covers_at sizes table mine.notes m G b)) (k.fits.1 q) in
          record {
            facts = F;
            place = k.place;
            exits = k.exits;
            holds = k.holds;
            fits = (u.0, λ q. (split q).0);
            next = s;
            leads = λ n w x q. q;
            continues = (m, k.next, for_both s (λ G. is_inductive_at sizes table mine k.exits m G b ≡ true) (λ G. quiet ≡ true → covers_at sizes table mine.notes m G b ≡ true) (for_is s (λ G. is_inductive_at sizes table mine k.exits m G b) u.1) (for_quiet s (λ G. covers_at sizes table mine.notes m G b) (λ q. (split q).1)), k.leads, k.continues);
            changed = k.changed;
          }
      on (If e a b) p k = if_on e a b p k
      on (Loop a) p k =
          let F = k.facts in
          let n = note_at mine.notes k.place in
          let words = words_of (Loop a) p in
          let u = both (state_within (Some F) n) (for_facts n (λ G. is_inductive_at sizes table mine k.exits (suc k.place) G a && state_within (then_known (suc k.place) G a) n)) k.fits.0 in
          let body = for_as n (λ G. ((is_inductive_at sizes table mine k.exits (suc k.place) G a && state_within (then_known (suc k.place) G a) n) ≡ true) × (quiet ≡ true → covers_at sizes table mine.notes (suc k.place) G a ≡ true)) (λ G. Fitting k.exits (suc k.place) G a × Entails (then_known (suc k.place) G a) n)
          (λ G t. let v = both (is_inductive_at sizes table mine k.exits (suc k.place) G a) (state_within (then_known (suc k.place) G a) n) t.0 in ((v.0, t.1), state_entails r (then_known (suc k.place) G a) n v.1))
          (for_both n (λ G. (is_inductive_at sizes table mine k.exits (suc k.place) G a && state_within (then_known (suc k.place) G a) n) ≡ true) (λ G. quiet ≡ true → covers_at sizes table mine.notes (suc k.place) G a ≡ true) (for_is n (λ G. is_inductive_at sizes table mine k.exits (suc k.place) G a && state_within (then_known (suc k.place) G a) n) u.1) (for_quiet n (λ G. covers_at sizes table mine.notes (suc k.place) G a) k.fits.1)) in
          let q = holds_in n l h (state_entails r (Some F) n u.0 l h words k.holds) in
          let here = subst (λ (s : State). ForFacts s (λ G. Fitting k.exits (suc k.place) G a × Entails (then_known (suc k.place) G a) n)) q.1 body in
          record {
            facts = q.0;
            place = suc k.place;
            exits = k.exits;
            holds = q.2;
            fits = here.0;
            next = n;
            leads = here.1;
            continues = (k.place, n, λ m w x y. y, body, none_continues k.next k.exits κ k.continues);
            changed = k.changed;
          }
      on (Block a) p k =
          let F = k.facts in
          let n = note_at mine.notes k.place in
          let u = both (is_inductive_at sizes table mine (n ∷ k.exits) (suc k.place) F a) (state_within (then_known (suc k.place) F a) n) k.fits.0 in
          record {
            facts = F;
            place = suc k.place;
            exits = n ∷ k.exits;
            holds = k.holds;
            fits = (u.0, k.fits.1);
            next = n;
            leads = state_entails r (then_known (suc k.place) F a) n u.1;
            continues = (n, k.exits, k.next, refl, k.leads, k.leads, k.continues);
            changed = k.changed;
          }
      on (Exit j) p k = exit_known j κ l h k.facts k.exits (words_of (Exit j) p) k.holds k.fits.0 (none_continues k.next k.exits κ k.continues) k.changed
      on (Return e) p k =
          tried_on (value e l h) (λ w. Returns (record { value = w; world = h })) (λ q. covered_value r sizes l h p.holds p.world k.facts k.holds e p.constants (k.fits.1 q))
          (λ w v. leaves k.facts l h (words_of (Return e) p) k.holds k.changed (range_of k.facts e) w (value_word sizes l h p.holds p.world e p.constants w v) (range_sound r sizes l h p.holds p.world k.facts k.holds e p.constants w v) k.fits.0)

    pub moves_on : (c : Config) → IsOfWords unit c → Knows c → Goes_on (cminor_move c)
    moves_on c p k = on c.next c.variables c.world c.statement p k

    -- ---- the start of a function

    pub starts_on : (s : Statement) (ws : List ℕ) → is_inductive sizes table mine s ≡ true → (quiet ≡ true → covers_code sizes table mine s ≡ true) → Enters table f ws start → Knows (cminor_start s ws start)
    starts_on s ws e c given =
        let first = first_facts table mine in
        let last = known_after sizes table mine.notes 0 first s in
        let u = both (is_inductive_at sizes table mine [] 0 first s) (for_facts last (λ F. ends_well table mine F (only 0))) e in
        record {
          facts = first;
          place = 0;
          exits = [];
          holds = record { variables = λ x. first_in r mine.parameters ws mine.locals x given.count given.arguments; objects = given.objects };
          fits = (u.0, c);
          next = last;
          leads = λ n w x q. q;
          continues = (refl, for_is last (λ F. ends_well table mine F (only 0)) u.1);
          changed = λ o n. refl;
        }
