-- A function in which dead nodes became nops keeps up as before: the two runs move in lockstep, and agree on the registers that
-- are live. If the old run goes wrong (a missing quotient or element), nothing is required.
use Rattle.std.proofs.Common.{◌≡◌, ◌≢◌, ℕ, suc, List, [], ◌∷◌, map, refl, sym, ap, ◌∙◌, subst, Bool, true, false, ◌==◌, ◌||◌, not, if◌then◌else◌, IsTrue, arith, inl, Contains}
use Rattle.std.specs.Prelude.{Option, Some, None}
use Rattle.std.proofs.lemmas.Bool.Decides.{Decides-eqb}
use Rattle.cc_words.specs.Operators.{apply_unary, apply_binary}
use Rattle.cc_ast.specs.Tree.{External}
use Rattle.cc_simulation.specs.World.{World, Question, Answer, element, stored, next_word, after_read, after_write}
use Rattle.cc_simulation.specs.Run.{Move as Moving, Goes, Calls, Returns, Fails, tried}
use Rattle.cc_simulation.specs.internal.Simulation.{Advances, Asks, Ending, Simulation}
use Rattle.cc_simulation.proofs.Simulating.{coarser, tracks_on}
use Rattle.cc_rtl_language.specs.Rtl.{Rtl, Node, Nop, Const, Move, Unary, Binary, Load, Store, Call, Read, Write, Branch, Return, Registers, Configuration, at, put, answered, branched, node_at, node_move, rtl_move, rtl_output, rtl_start, successors}
use Rattle.cc_rtl_language.specs.Live.{Sets, in_some, result, Carries, is_dead, is_nop, as_nop, with_nops, MayBecomeNops, MayGo, among, without}
use Rattle.cc_c_semantics.specs.declared.mode.Mode.{Mode}
use Rattle.cc_rtl_language.specs.Pair.{Pair, tree_of, IsCallOf, KeepsUp, IsPair}
use Rattle.cc_rtl_language.proofs.Nops.{Which, turned, these, node_turned, turned_from, is_rtl}

or_left : (a b : Bool) → IsTrue a → IsTrue (a || b)
or_left true b h = h
or_left false b h = absurd cc

or_right : (a b : Bool) → IsTrue b → IsTrue (a || b)
or_right true b h = refl
or_right false b h = h

not_true : (a : Bool) → IsTrue (not a) → IsTrue a → ⊥
not_true true h i = cc
not_true false h i = cc

module _ (live : Sets) where
  -- the same label and world, and the same words in the registers that are live
  pub record Related (c d : Configuration) : Type 0 where
    pub label : d.label ≡ c.label
    pub world : d.world ≡ c.world
    pub agree : (x : ℕ) → IsTrue (live c.label x) → d.registers x ≡ c.registers x

  -- if the old run makes the first move and does not go wrong, the new run makes one like it
  abbrev pub Matches : Moving Configuration → Moving Configuration → Type 0
  Matches Fails m = Unit {0}
  Matches (Goes c) (Goes d) = Related c d
  Matches (Calls q f) (Calls p g) = (p ≡ q) × ((a : Answer) → Related (f a) (g a))
  Matches (Returns a) (Returns b) = b ≡ a
  Matches m n = ⊥

  -- ---- one node, from registers that agree on what is live before it
  module _ (own : ℕ → Bool) (r r' : Registers) (h : World) (agree : (x : ℕ) → IsTrue (own x) → r' x ≡ r x) where
    -- if the same result is put into a register in both runs, they stay related
    put_both : (to w w' next : ℕ) (h' : World) → w' ≡ w → ((x : ℕ) → IsTrue (live next x) → to ≢ x → r' x ≡ r x) → Related (at next (put to w r) h') (at next (put to w' r') h')
    put_both to w w' next h' same others = record { label = refl; world = refl; agree = λ x l. go x (to == x) refl l }
      where
        go : (x : ℕ) (b : Bool) → (to == x) ≡ b → IsTrue (live next x) → (if b then w' else r' x) ≡ (if b then w else r x)
        go x true t l = same
        go x false t l = others x l (λ e. absurd (let u = (Decides-eqb to x).1 e in cc))

    -- both runs agree on a register that is live after a node, if the node does not set it
    behind_next : (n : Node) (next x : ℕ) → Carries live n own → successors n ≡ next ∷ [] → result n ≢ Some x → IsTrue (live next x) → r' x ≡ r x
    behind_next n next x c one other l = agree x (c.inherited x (subst (λ ss. IsTrue (in_some live ss x)) (sym one) (or_left (live next x) false l)) other)

    some_other : (to x : ℕ) → to ≢ x → Some to ≢ Some x
    some_other to x d e = d (let z : Some to ≡ Some x = e in cc)

    -- a node whose result can lack a value is matched
    tried_both : (o o' : Option ℕ) (to next : ℕ) → o' ≡ o → ((x : ℕ) → IsTrue (live next x) → to ≢ x → r' x ≡ r x)
        → Matches (tried o (λ word. Goes (at next (put to word r) h))) (tried o' (λ word. Goes (at next (put to word r') h)))
    tried_both o o' to next same others = subst (λ p. Matches (tried o (λ word. Goes (at next (put to word r) h))) (tried p (λ word. Goes (at next (put to word r') h)))) (sym same) (go o)
      where
        go : (o : Option ℕ) → Matches (tried o (λ word. Goes (at next (put to word r) h))) (tried o (λ word. Goes (at next (put to word r') h)))
        go None = tt
        go (Some w) = put_both to w w next h refl others

    stored_both : (o o' : Option World) (next : ℕ) → o' ≡ o → ((x : ℕ) → IsTrue (live next x) → r' x ≡ r x) → Matches (tried o (λ changed. Goes (at next r changed))) (tried o' (λ changed. Goes (at next r' changed)))
    stored_both o o' next same others = subst (λ p. Matches (tried o (λ changed. Goes (at next r changed))) (tried p (λ changed. Goes (at next r' changed)))) (sym same) (go o)
      where
        go : (o : Option World) → Matches (tried o (λ changed. Goes (at next r changed))) (tried o (λ changed. Goes (at next r' changed)))
        go None = tt
        go (Some changed) = record { label = refl; world = refl; agree = others }

    same_words : (args : List ℕ) → ((x : ℕ) → Contains args x → r' x ≡ r x) → map r' args ≡ map r args
    same_words [] f = refl
    same_words (a ∷ args) f = ap (λ w. w ∷ map r' args) (f a (0, omega arith, refl)) ∙ ap (λ ws. r a ∷ ws) (same_words args (λ x i. f x (suc i.0, (let l = i.1 in omega arith), i.2)))

    answers_both : (to : Option ℕ) (next : ℕ) (a : Answer) → ((x : ℕ) → IsTrue (live next x) → to ≢ Some x → r' x ≡ r x) → Related (answered to next r a) (answered to next r' a)
    answers_both None next a others = record { label = refl; world = refl; agree = λ x l. others x l (λ e. absurd (let z : None ≡ Some x = e in cc)) }
    answers_both (Some to) next a others = put_both to a.value a.value next a.world refl (λ x l d. others x l (some_other to x d))

    one : (x : ℕ) (rest : List ℕ) → Contains (x ∷ rest) x
    one x rest = (0, omega arith, refl)

    two : (x y : ℕ) (rest : List ℕ) → Contains (y ∷ x ∷ rest) x
    two x y rest = (1, omega arith, refl)

    -- a node that remains is matched by itself
    kept : (n : Node) → Carries live n own → Matches (node_move n r h) (node_move n r' h)
    kept (Nop next) c = record { label = refl; world = refl; agree = λ x l. behind_next (Nop next) next x c refl (λ e. absurd (let z : None ≡ Some x = e in cc)) l }
    kept (Const to word next) c = put_both to word word next h refl (λ x l d. behind_next (Const to word next) next x c refl (some_other to x d) l)
    kept (Move to from next) c = put_both to (r from) (r' from) next h (agree from (c.needed from (one from []))) (λ x l d. behind_next (Move to from next) next x c refl (some_other to x d) l)
    kept (Unary operator to from next) c =
        put_both to (apply_unary operator (r from)) (apply_unary operator (r' from)) next h (ap (apply_unary operator) (agree from (c.needed from (one from []))))
        (λ x l d. behind_next (Unary operator to from next) next x c refl (some_other to x d) l)
    kept (Binary operator to left right next) c =
        let a = agree left (c.needed left (one left (right ∷ []))) in
        let b = agree right (c.needed right (two right left [])) in
        tried_both (apply_binary operator (r left) (r right)) (apply_binary operator (r' left) (r' right)) to next (ap (λ w. apply_binary operator w (r' right)) a ∙ ap (apply_binary operator (r left)) b)
        (λ x l d. behind_next (Binary operator to left right next) next x c refl (some_other to x d) l)
    kept (Load width object to index next) c =
        tried_both (element h width object (r index)) (element h width object (r' index)) to next (ap (element h width object) (agree index (c.needed index (one index []))))
        (λ x l d. behind_next (Load width object to index next) next x c refl (some_other to x d) l)
    kept (Store width object index from next) c =
        let a = agree index (c.needed index (one index (from ∷ []))) in
        let b = agree from (c.needed from (two from index [])) in
        stored_both (stored h width object (r index) (r from)) (stored h width object (r' index) (r' from)) next (ap (λ w. stored h width object w (r' from)) a ∙ ap (stored h width object (r index)) b)
        (λ x l. behind_next (Store width object index from next) next x c refl (λ e. absurd (let z : None ≡ Some x = e in cc)) l)
    kept (Call function arguments to next) c = (
      ap (λ (ws : List ℕ). record { function = function; arguments = ws; world = h }) (same_words arguments (λ x i. agree x (c.needed x i))),
      λ a. answers_both to next a (λ x l d. behind_next (Call function arguments to next) next x c refl d l),
    )
    kept (Read to next) c = put_both to (next_word h) (next_word h) next (after_read h) refl (λ x l d. behind_next (Read to next) next x c refl (some_other to x d) l)
    kept (Write from next) c = record {
      label = refl;
      world = ap (λ w. after_write w h) (agree from (c.needed from (one from [])));
      agree = λ x l. behind_next (Write from next) next x c refl (λ e. absurd (let z : None ≡ Some x = e in cc)) l;
    }
    kept (Branch from if_nonzero if_zero) c = record {
      label = ap (λ w. branched w if_nonzero if_zero) (agree from (c.needed from (one from [])));
      world = refl;
      agree = λ x l. agree x (c.inherited x (either_way (r from == 0) x l) (λ e. absurd (let z : None ≡ Some x = e in cc)));
    }
      where
        either_way : (b : Bool) (x : ℕ) → IsTrue (live (if b then if_zero else if_nonzero) x) → IsTrue (live if_nonzero x || (live if_zero x || false))
        either_way true x l = or_right (live if_nonzero x) (live if_zero x || false) (or_left (live if_zero x) false l)
        either_way false x l = or_left (live if_nonzero x) (live if_zero x || false) l
    kept (Return from) c = ap (λ w. record { value = w; world = h }) (agree from (c.needed from (one from [])))

    -- the runs stay related if only the old one gets a result that is not live
    unread : (to w next : ℕ) → IsTrue (not (live next to || false)) → Carries live (Nop next) own → Related (at next (put to w r) h) (at next r' h)
    unread to w next dead c = record { label = refl; world = refl; agree = λ x l. go x (to == x) refl l }
      where
        go : (x : ℕ) (b : Bool) → (to == x) ≡ b → IsTrue (live next x) → r' x ≡ (if b then w else r x)
        go x true t l = absurd (not_true (live next to || false) dead (or_left (live next to) false (subst (λ y. IsTrue (live next y)) (sym ((Decides-eqb to x).0 t)) l)))
        go x false t l = behind_next (Nop next) next x c refl (λ e. absurd (let z : None ≡ Some x = e in cc)) l

    unread_tried : (o : Option ℕ) (to next : ℕ) → IsTrue (not (live next to || false)) → Carries live (Nop next) own → Matches (tried o (λ word. Goes (at next (put to word r) h))) (Goes (at next r' h))
    unread_tried None to next dead c = tt
    unread_tried (Some w) to next dead c = unread to w next dead c

    -- a dead node is matched by its nop
    gone : (n : Node) → IsTrue (is_nop n || is_dead live n) → Carries live (as_nop n) own → Matches (node_move n r h) (node_move (as_nop n) r' h)
    gone (Const to word next) dead c = unread to word next dead c
    gone (Move to from next) dead c = unread to (r from) next dead c
    gone (Unary operator to from next) dead c = unread to (apply_unary operator (r from)) next dead c
    gone (Binary operator to left right next) dead c = unread_tried (apply_binary operator (r left) (r right)) to next dead c
    gone (Load width object to index next) dead c = unread_tried (element h width object (r index)) to next dead c
    gone (Nop next) dead c = kept (Nop next) c
    gone (Store width object index from next) dead c = absurd cc
    gone (Call function arguments to next) dead c = absurd cc
    gone (Read to next) dead c = absurd cc
    gone (Write from next) dead c = absurd cc
    gone (Branch from if_nonzero if_zero) dead c = absurd cc
    gone (Return from) dead c = absurd cc

    either_way : (b : Bool) (n : Node) → (IsTrue b → IsTrue (is_nop n || is_dead live n)) → Carries live (turned b n) own → Matches (node_move n r h) (node_move (turned b n) r' h)
    either_way true n dead c = gone n (dead refl) c
    either_way false n dead c = kept n c

-- ---- the runs

module _ (r : Rtl) (which : Which) (may : MayBecomeNops r.nodes which) where
  abbrev pub less : Rtl
  less = record r { nodes = with_nops which r.nodes }

  abbrev Same : Configuration → Configuration → Type 0
  Same = Related may.live

  matches : (c d : Configuration) → Same c d → Matches may.live (rtl_move r c) (rtl_move less d)
  matches c d same = go (node_at r.nodes c.label) refl
    where
      go : (o : Option Node) → node_at r.nodes c.label ≡ o → Matches may.live (rtl_move r c) (rtl_move less d)
      go None e = subst (λ o. Matches may.live (tried o (λ n. node_move n c.registers c.world)) (rtl_move less d)) (sym e) tt
      go (Some n) e =
          let b = which c.label n in
          let there : node_at less.nodes d.label ≡ Some (turned b n) = ap (node_at less.nodes) same.label ∙ node_turned which r.nodes c.label n e in
          let one : Matches may.live (node_move n c.registers c.world) (node_move (turned b n) d.registers c.world) =
          either_way may.live (may.live c.label) c.registers d.registers c.world same.agree b n (λ t. may.dead c.label n e t) (may.are_live c.label (turned b n) (node_turned which r.nodes c.label n e)) in
          subst (λ o. Matches may.live (tried o (λ m. node_move m c.registers c.world)) (rtl_move less d)) (sym e)
          (subst (λ o. Matches may.live (node_move n c.registers c.world) (tried o (λ m. node_move m d.registers d.world))) (sym there)
          (subst (λ w. Matches may.live (node_move n c.registers c.world) (node_move (turned b n) d.registers w)) (sym same.world) one))

  goes : (c c' d : Configuration) → Same c d → rtl_move r c ≡ Goes c' → Advances (rtl_move r) rtl_output (rtl_move less) rtl_output Same 0 c' d
  goes c c' d same e = go (rtl_move less d) refl (subst (λ m. Matches may.live m (rtl_move less d)) e (matches c d same))
    where
      go : (m : Moving Configuration) → rtl_move less d ≡ m → Matches may.live (Goes c') m → Advances (rtl_move r) rtl_output (rtl_move less) rtl_output Same 0 c' d
      go (Goes u) f rel = record { moves = 1; to = u; one = omega arith; few = omega arith; way = (u, f, (refl, refl)); related = rel }
      go (Calls q resume) f rel = absurd rel
      go (Returns a) f rel = absurd rel
      go Fails f rel = absurd rel

  asks : (c : Configuration) (q : Question) (resume : Answer → Configuration) (d : Configuration) → Same c d → rtl_move r c ≡ Calls q resume → Asks (rtl_move r) rtl_output (rtl_move less) rtl_output Same 0 q resume d
  asks c q resume d same e = go (rtl_move less d) refl (subst (λ m. Matches may.live m (rtl_move less d)) e (matches c d same))
    where
      go : (m : Moving Configuration) → rtl_move less d ≡ m → Matches may.live (Calls q resume) m → Asks (rtl_move r) rtl_output (rtl_move less) rtl_output Same 0 q resume d
      go (Calls p next) f rel = record { moves = 0; to = d; resume' = next; few = omega arith; way = (refl, refl); calls = f ∙ ap (λ (x : Question). Calls x next) rel.0; related = rel.1 }
      go (Goes u) f rel = absurd rel
      go (Returns a) f rel = absurd rel
      go Fails f rel = absurd rel

  ends : (c : Configuration) (a : Answer) (d : Configuration) → Same c d → rtl_move r c ≡ Returns a → Ending (rtl_move r) rtl_output (rtl_move less) rtl_output 0 a (rtl_output c) d
  ends c a d same e = go (rtl_move less d) refl (subst (λ m. Matches may.live m (rtl_move less d)) e (matches c d same))
    where
      go : (m : Moving Configuration) → rtl_move less d ≡ m → Matches may.live (Returns a) m → Ending (rtl_move r) rtl_output (rtl_move less) rtl_output 0 a (rtl_output c) d
      go (Returns b) f rel = record { moves = 0; to = d; few = omega arith; way = (refl, refl); returns = f ∙ ap (λ (x : Answer). Returns x) rel; output = ap (λ (w : World). w.output) same.world }
      go (Goes u) f rel = absurd rel
      go (Calls p next) f rel = absurd rel
      go Fails f rel = absurd rel

  simulation : Simulation (rtl_move r) rtl_output (rtl_move less) rtl_output Same (λ c. 0) 0 0
  simulation = record {
    low = λ c d same. omega arith;
    outputs = λ c d same. ap (λ (w : World). w.output) same.world;
    goes = λ c c' d same e. inl (goes c c' d same e);
    asks = asks;
    ends = ends;
  }

  pub keeps_up : (mode : Mode) (unit : List External) (f : ℕ) → KeepsUp mode unit f r → KeepsUp mode unit f less
  keeps_up mode unit f (rate, keeps) = (
    coarser rate 0,
    λ meaning is. tracks_on meaning f rate (rtl_move r) rtl_output (rtl_move less) rtl_output Same (λ c. 0) 0 0 simulation (rtl_start r) (rtl_start less)
        (λ ws h call. record { label = refl; world = refl; agree = λ x l. refl }) (keeps meaning is),
  )

-- ---- a pair

calls_nop : (unit : List External) (n : Node) → IsCallOf unit n → IsCallOf unit (as_nop n)
calls_nop unit (Nop next) h = tt
calls_nop unit (Const to word next) h = tt
calls_nop unit (Move to from next) h = tt
calls_nop unit (Unary operator to from next) h = tt
calls_nop unit (Binary operator to left right next) h = tt
calls_nop unit (Load width object to index next) h = tt
calls_nop unit (Store width object index from next) h = tt
calls_nop unit (Call function arguments to next) h = h
calls_nop unit (Read to next) h = tt
calls_nop unit (Write from next) h = tt
calls_nop unit (Branch from if_nonzero if_zero) h = tt
calls_nop unit (Return from) h = tt

calls_turned : (unit : List External) (b : Bool) (n : Node) → IsCallOf unit n → IsCallOf unit (turned b n)
calls_turned unit true n h = calls_nop unit n h
calls_turned unit false n h = h

pub pair_without : (p : Pair) (labels : List ℕ) → MayGo labels p.rtl → IsPair p → IsPair (record p { rtl = without labels p.rtl })
pair_without p labels may is = record {
  typed = is.typed;
  function = is.function;
  rtl = is_rtl (these labels) p.rtl is.rtl;
  parameters = is.parameters;
  calls = λ label n e. let old = turned_from (these labels) p.rtl.nodes label n e in subst (IsCallOf (tree_of p)) (sym old.2) (calls_turned (tree_of p) (among labels label) old.0 (is.calls label old.0 old.1));
  keeps_up = keeps_up p.rtl (these labels) may p.mode (tree_of p) p.function is.keeps_up;
}
