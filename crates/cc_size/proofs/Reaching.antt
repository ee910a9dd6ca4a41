-- The functions from which calls lead to a function, and which calls are part of cycles.
use Rattle.std.proofs.Common.{◌≡◌, ℕ, zero, suc, ◌+◌, ◌<◌, ◌≤◌, ◌⊎◌, List, [], ◌∷◌, ◌++◌, Bool, true, false, length, get_or, drop, replicate, refl, sym, ap, ap₂, ◌∙◌, subst, inl, inr, append_assoc, arith}
use Rattle.std.specs.Prelude.{◌&&◌, ◌||◌, ◌==◌, Contains}
use Rattle.std.specs.Borrow.{Bor}
use Rattle.std.proofs.Math.ListN.{set}
use Rattle.std.proofs.lemmas.Bool.Decides.{eqb_tells, nat_tests}
use Rattle.std.proofs.lemmas.List.{drop_more, get_or-set_same, get_or-set_other, length-replicate, length-set}
use Rattle.std.proofs.lemmas.List.Elements.{Contains-append_left, Contains-push, Contains-push_cases}
use Rattle.cc_emit.specs.declared.item.PieceItem.{PieceItem}
use Rattle.cc_emit.specs.declared.item.PieceItem.TheVariants.{Plain, Call, Go}
use Rattle.cc_emit.specs.Piece.{Piece}
use Rattle.cc_link.specs.Linked.{all_items, lent_pieces}
use Rattle.cc_size.specs.declared.recursion.Recursion.{Recursion}
use Rattle.cc_size.specs.Cycles.{AreCyclic, DoesCall, IsCyclic, LeadsBy}
use Rattle.cc_size.proofs.Straight.{called_within, few_calls, leads_within}
use Rattle.cc_size.specs.internal.Reached.{FoundUpTo, added, item_calls, items_call, nearer, reaches}

-- ---- tests

eqb_yes : (a b : ℕ) → a ≡ b → (a == b) ≡ true
eqb_yes a b e = grind (arith, nat_tests)

eqb_says : (a b : ℕ) → (a == b) ≡ true → a ≡ b
eqb_says a b e = grind (arith, nat_tests)

eqb_not : (a b : ℕ) → (a ≡ b → ⊥) → (a == b) ≡ false
eqb_not a b e = elim (eqb_tells a b) [ inl h ↦ absurd (e h.1) | inr h ↦ h.0 ]

or_left : (a b : Bool) → a ≡ true → (a || b) ≡ true
or_left true b e = refl
or_left false b e = absurd (let n : false ≡ true = e in cc)

or_right : (a b : Bool) → b ≡ true → (a || b) ≡ true
or_right true b e = refl
or_right false b e = e

-- ---- which items call

items_whole : (is : ℕ → Bool) (items : List PieceItem) (g : ℕ) → Contains items (Call g) → is g ≡ true → items_call is items ≡ true
items_whole is [] g (k, lt, e) y = absurd (omega arith)
items_whole is (i ∷ items) g (zero, lt, e) y =
    let first : Call g ≡ i = sym e in
    or_left (item_calls is i) (items_call is items) (subst (λ (x : PieceItem). item_calls is x ≡ true) first y)
items_whole is (i ∷ items) g (suc k, lt, e) y = or_right (item_calls is i) (items_call is items) (items_whole is items g (k, omega arith, e) y)

item_found : (is : ℕ → Bool) (i : PieceItem) (items : List PieceItem) → item_calls is i ≡ true → (g : ℕ) × Contains (i ∷ items) (Call g) × (is g ≡ true)
item_found is (Plain w) items e = absurd (let n : false ≡ true = e in cc)
item_found is (Call g) items e = (g, (0, omega arith, refl), e)
item_found is (Go n) items e = absurd (let n : false ≡ true = e in cc)

found_in : (is : ℕ → Bool) (i : PieceItem) (items : List PieceItem) (b : Bool) → item_calls is i ≡ b → (items_call is items ≡ true → (g : ℕ) × Contains items (Call g) × (is g ≡ true)) → (b || items_call is items) ≡ true → (g : ℕ) × Contains (i ∷ items) (Call g) × (is g ≡ true)
found_in is i items true q again p = item_found is i items q
found_in is i items false q again p = (let r = again p in let c = r.1 in (r.0, (suc c.0, (let lt = c.1 in omega arith), c.2), r.2))

items_found : (is : ℕ → Bool) (items : List PieceItem) → items_call is items ≡ true → (g : ℕ) × Contains items (Call g) × (is g ≡ true)
items_found is [] e = absurd (let n : false ≡ true = e in cc)
items_found is (i ∷ items) e = found_in is i items (item_calls is i) refl (λ p. items_found is items p) e

-- ---- the functions from which calls lead to the target

reach_by : (bodies : List (List PieceItem)) (t f : ℕ) (is : ℕ → Bool) (b : Bool) → is f ≡ b → ((g : ℕ) → is g ≡ true → (way : List ℕ) × LeadsBy bodies way g t) → (b || items_call is (get_or bodies f [])) ≡ true → (way : List ℕ) × LeadsBy bodies way f t
reach_by bodies t f is true q again p = again f q
reach_by bodies t f is false q again p = (let r = items_found is (get_or bodies f []) p in let w = again r.0 r.2 in (r.0 ∷ w.0, (r.1, w.1)))

pub reach_sound : (bodies : List (List PieceItem)) (t k f : ℕ) → reaches bodies t k f ≡ true → (way : List ℕ) × LeadsBy bodies way f t
unfolding reaches
reach_sound bodies t zero f e = ([], eqb_says f t e)
reach_sound bodies t (suc k) f e = reach_by bodies t f (reaches bodies t k) (reaches bodies t k f) refl (λ g p. reach_sound bodies t k g p) e

pub reach_whole : (bodies : List (List PieceItem)) (t k f : ℕ) (way : List ℕ) → LeadsBy bodies way f t → length way ≤ k → reaches bodies t k f ≡ true
unfolding reaches
reach_whole bodies t zero f [] p le = eqb_yes f t p
reach_whole bodies t (suc k) f [] p le = or_left (reaches bodies t k f) (items_call (reaches bodies t k) (get_or bodies f [])) (reach_whole bodies t k f [] p (omega arith))
reach_whole bodies t zero f (h ∷ way) p le = absurd (omega arith)
reach_whole bodies t (suc k) f (h ∷ way) p le =
    or_right (reaches bodies t k f) (items_call (reaches bodies t k) (get_or bodies f [])) (items_whole (reaches bodies t k) (get_or bodies f []) h p.0 (reach_whole bodies t k h way p.1 (omega arith)))

-- ---- the table

pub bodies_long : (ps : List (Bor Piece)) → length (all_items (lent_pieces ps)) ≡ length ps
bodies_long [] = refl
bodies_long (p ∷ ps) = ap suc (bodies_long ps)

pub reach_first : (bodies : List (List PieceItem)) (t n : ℕ) (table : List Bool) → t < n → table ≡ set (replicate n false) t true → (f : ℕ) → get_or table f false ≡ reaches bodies t 0 f
unfolding reaches
reach_first bodies t n table lt e f = elim (eqb_tells f t) [
  | inl h ↦ (ap (λ (xs : List Bool). get_or xs f false) e ∙ ap (λ k. get_or (set (replicate n false) t true) k false) h.1 ∙ get_or-set_same (replicate n false) t true false (let long = length-replicate n false in omega arith) ∙ sym h.0)
  | inr h ↦ (ap (λ (xs : List Bool). get_or xs f false) e ∙ get_or-set_other (replicate n false) t f true false h.1 ∙ none n f ∙ sym h.0)
]
  where
    none : (n k : ℕ) → get_or (replicate n false) k false ≡ false
    none zero k = refl
    none (suc n) zero = refl
    none (suc n) (suc k) = none n k

pub first_long : (n t : ℕ) (table : List Bool) → table ≡ set (replicate n false) t true → length table ≡ n
first_long n t table e = ap (λ (xs : List Bool). length xs) e ∙ length-set (replicate n false) t true ∙ length-replicate n false

nearer_at : (is : ℕ → Bool) (bs : List Bool) (bodies : List (List PieceItem)) → length bs ≡ length bodies → (f : ℕ) → get_or (nearer is bs bodies) f false ≡ (get_or bs f false || items_call is (get_or bodies f []))
nearer_at is [] [] e f = refl
nearer_at is [] (items ∷ rest) e f = absurd (omega (arith, e))
nearer_at is (b ∷ bs) [] e f = absurd (omega (arith, e))
nearer_at is (b ∷ bs) (items ∷ rest) e zero = refl
nearer_at is (b ∷ bs) (items ∷ rest) e (suc f) = nearer_at is bs rest (omega (arith, e)) f

pub nearer_long : (is : ℕ → Bool) (bs : List Bool) (bodies : List (List PieceItem)) → length bs ≡ length bodies → length (nearer is bs bodies) ≡ length bs
nearer_long is [] bodies e = refl
nearer_long is (b ∷ bs) [] e = absurd (omega (arith, e))
nearer_long is (b ∷ bs) (items ∷ rest) e = ap suc (nearer_long is bs rest (omega (arith, e)))

pub reach_next : (bodies : List (List PieceItem)) (t calls : ℕ) (table more : List Bool) → length table ≡ length bodies → ((g : ℕ) → get_or table g false ≡ reaches bodies t calls g) → more ≡ nearer (λ g. get_or table g false) table bodies
    → (f : ℕ) → get_or more f false ≡ reaches bodies t (calls + 1) f
unfolding reaches
reach_next bodies t calls table more count same made f =
    let one : suc calls ≡ calls + 1 = omega arith in
    ap (λ (l : List Bool). get_or l f false) made ∙ nearer_at (λ g. get_or table g false) table bodies count f
    ∙ ap₂ (λ (b : Bool) (is : ℕ → Bool). b || items_call is (get_or bodies f [])) (same f) (λ i. λ g. same g i) ∙ ap (λ (k : ℕ). reaches bodies t k f) one

-- once the entry of one more function is added, the entries so far and the rest still make up the table
pub nearer_next : (is : ℕ → Bool) (table : List Bool) (ps : List (Bor Piece)) (at : ℕ) (d : Bor Piece) (before new all : List Bool) (b : Bool) → at < length table → length table ≡ length ps → d ≡ get_or ps at d → b ≡ (get_or table at false || items_call is d.now.items) → new ≡ before ++ b ∷ []
    → before ++ nearer is (drop at table) (all_items (lent_pieces (drop at ps))) ≡ all → new ++ nearer is (drop (at + 1) table) (all_items (lent_pieces (drop (at + 1) ps))) ≡ all
nearer_next is table ps at d before new all b lt count is_d whose pushed h =
    let rest : List Bool = nearer is (drop (at + 1) table) (all_items (lent_pieces (drop (at + 1) ps))) in
    let left : drop at table ≡ get_or table at false ∷ drop (at + 1) table = drop_more table at false lt in
    let split : drop at ps ≡ d ∷ drop (at + 1) ps = drop_more ps at d (omega (arith, lt, count)) ∙ ap (λ (x : Bor Piece). x ∷ drop (at + 1) ps) (sym is_d) in
    let first : nearer is (drop at table) (all_items (lent_pieces (drop at ps))) ≡ b ∷ rest =
    ap (λ (ws : List Bool). nearer is ws (all_items (lent_pieces (drop at ps)))) left ∙ ap (λ (l : List (Bor Piece)). nearer is (get_or table at false ∷ drop (at + 1) table) (all_items (lent_pieces l))) split ∙ ap (λ (w : Bool). w ∷ rest) (sym whose) in
    ap (λ (l : List Bool). l ++ rest) pushed ∙ append_assoc before (b ∷ []) rest ∙ ap (λ (l : List Bool). before ++ l) (sym first) ∙ h

-- ---- what is found

pub found_first : (bodies : List (List PieceItem)) (found : List Recursion) → found ≡ [] → FoundUpTo bodies 0 0 found
found_first bodies found e = record {
  each = λ it c. absurd (none (subst (λ (xs : List Recursion). Contains xs it) e c));
  all = λ it cycle few before. absurd (nowhere it before);
}
  where
    none : {it : Recursion} → Contains [] it → ⊥
    none (k, lt, e) = omega arith

    nowhere : (it : Recursion) → (it.caller < 0) ⊎ ((it.caller ≡ 0) × (it.called < 0)) → ⊥
    nowhere it (inl lt) = omega arith
    nowhere it (inr p) = (let lt = p.1 in omega arith)

-- `FoundUpTo` holds with one more call that was looked at, if it is part of a cycle; then, if it is not
found_yes : (bodies : List (List PieceItem)) (f m : ℕ) (old : List Recursion) → items_call (λ g. g == m) (get_or bodies f []) ≡ true → reaches bodies f (length bodies) m ≡ true → FoundUpTo bodies f m old → FoundUpTo bodies f (m + 1) (old ++ record { caller = f; called = m } ∷ [])
found_yes bodies f m old calls back o = record {
  each = λ other c. by_case other (Contains-push_cases old it other c);
  all = found_by;
}
  where
    it : Recursion
    it = record { caller = f; called = m }

    does_call : DoesCall bodies f m
    does_call = (let r = items_found (λ g. g == m) (get_or bodies f []) calls in subst (DoesCall bodies f) (eqb_says r.0 m r.2) r.1)

    cyclic : IsCyclic bodies it
    cyclic = (let w = reach_sound bodies f (length bodies) m back in record { calls = does_call; way = w.0; back = w.1 })

    by_case : (other : Recursion) → Contains old other ⊎ (it ≡ other) → IsCyclic bodies other
    by_case other (inl c) = o.each other c
    by_case other (inr e) = subst (IsCyclic bodies) e cyclic

    same : (other : Recursion) → other.caller ≡ f → other.called ≡ m → it ≡ other
    same other e d = ap₂ (λ (a b : ℕ). record { caller = a; called = b }) (sym e) (sym d)

    found_by : (other : Recursion) (cycle : IsCyclic bodies other) → length cycle.way ≤ length bodies → (other.caller < f) ⊎ ((other.caller ≡ f) × (other.called < m + 1)) → Contains (old ++ it ∷ []) other
    found_by other cycle few (inl lt) = Contains-append_left old (it ∷ []) other (o.all other cycle few (inl lt))
    found_by other cycle few (inr p) = elim (eqb_tells other.called m) [
      | inl h ↦ subst (Contains (old ++ it ∷ [])) (same other p.0 h.1) (Contains-push old it)
      | inr h ↦ Contains-append_left old (it ∷ []) other (o.all other cycle few (inr (p.0, (let lt = p.1 in let ne = h.1 in omega arith))))
    ]

found_no : (bodies : List (List PieceItem)) (f m : ℕ) (found : List Recursion) → (items_call (λ g. g == m) (get_or bodies f []) && reaches bodies f (length bodies) m) ≡ false → FoundUpTo bodies f m found → FoundUpTo bodies f (m + 1) found
found_no bodies f m found not o = record { each = o.each; all = found_by }
  where
    refused : (a b : Bool) → a ≡ true → b ≡ true → (a && b) ≡ false → ⊥
    refused true true p q n = (let z : true ≡ false = n in cc)
    refused true false p q n = (let z : false ≡ true = q in cc)
    refused false b p q n = (let z : false ≡ true = p in cc)

    found_by : (other : Recursion) (cycle : IsCyclic bodies other) → length cycle.way ≤ length bodies → (other.caller < f) ⊎ ((other.caller ≡ f) × (other.called < m + 1)) → Contains found other
    found_by other cycle few (inl lt) = o.all other cycle few (inl lt)
    found_by other cycle few (inr p) = elim (eqb_tells other.called m) [
      | inl h ↦ absurd (refused (items_call (λ g. g == m) (get_or bodies f [])) (reaches bodies f (length bodies) m)
          (items_whole (λ g. g == m) (get_or bodies f []) m (subst (λ n. DoesCall bodies n m) p.0 (subst (DoesCall bodies other.caller) h.1 cycle.calls)) (eqb_yes m m refl))
          (reach_whole bodies f (length bodies) m cycle.way (subst (λ n. LeadsBy bodies cycle.way n f) h.1 (subst (LeadsBy bodies cycle.way other.called) p.0 cycle.back)) few) not)
      | inr h ↦ o.all other cycle few (inr (p.0, (let lt = p.1 in let ne = h.1 in omega arith)))
    ]

found_next_by : (bodies : List (List PieceItem)) (f m : ℕ) (old : List Recursion) (a b is : Bool) → items_call (λ g. g == m) (get_or bodies f []) ≡ a → reaches bodies f (length bodies) m ≡ b → is ≡ (a && b) → FoundUpTo bodies f m old → FoundUpTo bodies f (m + 1) (old ++ added is f m)
found_next_by bodies f m old a b true ea eb e o = (let t = two a b (sym e) in found_yes bodies f m old (ea ∙ t.0) (eb ∙ t.1) o)
  where
    two : (a b : Bool) → (a && b) ≡ true → (a ≡ true) × (b ≡ true)
    two true true p = (refl, refl)
    two true false p = absurd (let z : false ≡ true = p in cc)
    two false b p = absurd (let z : false ≡ true = p in cc)
found_next_by bodies f m old a b false ea eb e o = subst (FoundUpTo bodies f (m + 1)) (sym (append_none old)) (found_no bodies f m old (ap₂ (λ (x y : Bool). x && y) ea eb ∙ sym e) o)
  where
    append_none : (xs : List Recursion) → xs ++ [] ≡ xs
    append_none [] = refl
    append_none (x ∷ xs) = ap (λ l. x ∷ l) (append_none xs)

pub found_next : (bodies : List (List PieceItem)) (f m : ℕ) (old new : List Recursion) (is : Bool) → new ≡ old ++ added is f m → is ≡ (items_call (λ g. g == m) (get_or bodies f []) && reaches bodies f (length bodies) m) → FoundUpTo bodies f m old → FoundUpTo bodies f (m + 1) new
found_next bodies f m old new is put e o =
    subst (FoundUpTo bodies f (m + 1)) (sym put) (found_next_by bodies f m old (items_call (λ g. g == m) (get_or bodies f [])) (reaches bodies f (length bodies) m) is refl refl e o)

-- once all calls of one function were looked at, `FoundUpTo` holds up to the next function
pub found_row : (bodies : List (List PieceItem)) (f m : ℕ) (found : List Recursion) → f < length bodies → length bodies ≤ m → FoundUpTo bodies f m found → FoundUpTo bodies (f + 1) 0 found
found_row bodies f m found lt le o = record {
  each = o.each;
  all = found_by;
}
  where
    found_by : (other : Recursion) (cycle : IsCyclic bodies other) → length cycle.way ≤ length bodies → (other.caller < f + 1) ⊎ ((other.caller ≡ f + 1) × (other.called < 0)) → Contains found other
    found_by other cycle few (inr p) = absurd (let z = p.1 in omega arith)
    found_by other cycle few (inl less) = elim (eqb_tells other.caller f) [
      | inl h ↦ (let same = h.1 in let within = leads_within bodies cycle.way other.called other.caller (omega arith) cycle.back in o.all other cycle few (inr (h.1, omega arith)))
      | inr h ↦ o.all other cycle few (inl (let ne = h.1 in omega arith))
    ]

pub found_all : (bodies : List (List PieceItem)) (f : ℕ) (found : List Recursion) → length bodies ≤ f → FoundUpTo bodies f 0 found → AreCyclic bodies found
found_all bodies f found le o = record {
  each = o.each;
  all = λ it cycle. (let short = few_calls bodies it cycle in let within = called_within bodies it.caller it.called cycle.calls in o.all it short.cycle short.few (inl (omega arith)));
}

-- the items at a position are those of the piece at that position
pub body_at : (ps : List (Bor Piece)) (at : ℕ) (d : Bor Piece) → at < length ps → d ≡ get_or ps at d → get_or (all_items (lent_pieces ps)) at [] ≡ d.now.items
body_at [] at d lt is = absurd (omega arith)
body_at (p ∷ ps) zero d lt is = ap (λ (b : Bor Piece). b.now.items) (sym is)
body_at (p ∷ ps) (suc at) d lt is = body_at ps at d (omega arith) is

pub asked : (ps : List (Bor Piece)) (f m : ℕ) (d : Bor Piece) (items : List PieceItem) (table : List Bool) (is calls : Bool) → f < length ps → d ≡ get_or ps f d → items ≡ d.now.items → calls ≡ items_call (λ g. g == m) items → ((g : ℕ) → get_or table g false ≡ reaches (all_items (lent_pieces ps)) f (length ps) g) → is ≡ (calls && get_or table m false)
    → is ≡ (items_call (λ g. g == m) (get_or (all_items (lent_pieces ps)) f []) && reaches (all_items (lent_pieces ps)) f (length (all_items (lent_pieces ps))) m)
asked ps f m d items table is calls lt is_d ei ec each e =
    e ∙ ap₂ (λ (a b : Bool). a && b) (ec ∙ ap (items_call (λ g. g == m)) (ei ∙ sym (body_at ps f d lt is_d))) (each m ∙ ap (λ k. reaches (all_items (lent_pieces ps)) f k m) (sym (bodies_long ps)))
