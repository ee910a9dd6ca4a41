-- A function whose dead nodes became nops: its live sets, the labels of these nodes, and why no node is dead any more if the sets
-- were the least strongly live ones.
use Rattle.std.proofs.Common.{◌≡◌, ◌≢◌, ℕ, zero, suc, ◌<◌, List, [], ◌∷◌, get_or, refl, sym, ap, ◌∙◌, subst, Bool, true, false, ◌==◌, ◌&&◌, ◌||◌, not, if◌then◌else◌, IsTrue, arith, inl, inr, Contains, All}
use Rattle.std.specs.Prelude.{Some, None, IsSome}
use Rattle.std.proofs.lemmas.Bool.{or_cases, or_right, not-true, and_parts, and_from, ne_eqb, eq-eqb}
use Rattle.std.proofs.lemmas.List.Elements.{All-weaker, All-contains_itself}
use Rattle.std.proofs.lemmas.Option.{slice_get_within, get_or_from_slice_get}
use Rattle.cc_rtl_language.specs.Rtl.{Rtl, Labelled, Node, Nop, Const, Move, Unary, Binary, Load, Store, Call, Read, Write, Branch, Return, Ascend, IsBelowFirst, node_at, successors}
use Rattle.cc_rtl_language.specs.Live.{Sets, in_some, live_behind, Carries, AreLive, is_dead, result, is_nop, as_nop, with_nops, MayBecomeNops, among}
use Rattle.cc_rtl_language.specs.Positions.{position_of}
use Rattle.cc_rtl_language.proofs.Nops.{Which, turned, these, node_turned, turned_from, successors_turned, same_turned}
use Rattle.cc_rtl_language.proofs.Places.{placed}
use Rattle.cc_bits.specs.Rows.{holds}
use Rattle.cc_live.specs.Rows.{rows_at}
use Rattle.cc_live.specs.Liveness.{LieWithin, AreLeastLive, CarriesStrongly, AreStronglyLive, AreLeastStronglyLive, without_dead, IsWithoutFaint, NothingIsDead}
use Rattle.cc_live.specs.internal.Dead.{dead_labels}
use Rattle.cc_live.specs.internal.Facts.{AreLeastAs}
use Rattle.cc_live.specs.internal.Holding.{list_in}
use Rattle.cc_live.proofs.Behind.{in_one, one_in, behind_less, read_behind_less}
use Rattle.cc_live.proofs.Solved.{strongly, as_strong}

abbrev pub dead : Sets → Which
dead live label node = is_dead live node

-- live sets are strongly live
pub are_strongly : (ns : List Labelled) (live : Sets) → AreLive ns live → AreStronglyLive ns live
are_strongly ns live h label node e = let c = h label node e in record { needed = λ stays. c.needed; inherited = c.inherited }

-- ---- strongly live sets are live sets once the dead nodes are nops

module _ (live : Sets) (own : ℕ → Bool) where
  -- a nop can replace a node whose result is not live after it
  nop_carries : (to next : ℕ) → IsTrue (not (in_some live (next ∷ []) to)) → ((r : ℕ) → IsTrue (in_some live (next ∷ []) r) → Some to ≢ Some r → IsTrue (own r)) → Carries live (Nop next) own
  nop_carries to next unread inherited = record {
    needed = λ r i. absurd (let l = i.1 in omega arith);
    inherited = λ r h d. inherited r h (λ e. let z : Some to ≡ Some r = e in let same : to ≡ r = cc in let f = not-true (in_some live (next ∷ []) to) unread in absurd (let g : in_some live (next ∷ []) to ≡ true = ap (in_some live (next ∷ [])) same ∙ h in cc));
  }

  dead_carries : (n : Node) → is_dead live n ≡ true → CarriesStrongly live n own → Carries live (as_nop n) own
  dead_carries (Const to word next) d c = nop_carries to next d c.inherited
  dead_carries (Move to from next) d c = nop_carries to next d c.inherited
  dead_carries (Unary operator to from next) d c = nop_carries to next d c.inherited
  dead_carries (Binary operator to left right next) d c = nop_carries to next d c.inherited
  dead_carries (Load width object to index next) d c = nop_carries to next d c.inherited
  dead_carries (Nop next) d c = absurd cc
  dead_carries (Store width object index from next) d c = absurd cc
  dead_carries (Call function arguments to next) d c = absurd cc
  dead_carries (Read to next) d c = absurd cc
  dead_carries (Write from next) d c = absurd cc
  dead_carries (Branch from nonzero other) d c = absurd cc
  dead_carries (Return from) d c = absurd cc

  turned_carries : (n : Node) (b : Bool) → is_dead live n ≡ b → CarriesStrongly live n own → Carries live (turned b n) own
  turned_carries n true d c = dead_carries n d c
  turned_carries n false d c = record { needed = c.needed d; inherited = c.inherited }

pub live_without : (ns : List Labelled) (live : Sets) → AreStronglyLive ns live → AreLive (with_nops (dead live) ns) live
live_without ns live h label node e =
    let old = turned_from (dead live) ns label node e in
    subst (λ n. Carries live n (live label)) (sym old.2) (turned_carries live (live label) old.0 (is_dead live old.0) refl (h label old.0 old.1))

-- ---- the labels of dead nodes

-- a label below all others is not the label of any of them
below_each : (l : ℕ) (ns : List Labelled) (n : Labelled) → IsBelowFirst l ns → Ascend ns → Contains ns n → l < n.label
below_each l [] n b a (k, lt, e) = absurd (omega arith)
below_each l (m ∷ ns) n b a (zero, lt, e) = subst (λ (x : Labelled). l < x.label) e b
below_each l (m ∷ ns) n b a (suc k, lt, e) = let h = below_each m.label ns n a.0 a.1 (k, omega arith, e) in let f : l < m.label = b in omega (arith, h, f)

none_among : (live : Sets) (l : ℕ) (ns : List Labelled) → IsBelowFirst l ns → Ascend ns → among (dead_labels live ns) l ≡ false
none_among live l [] b a = refl
none_among live l (m ∷ ns) b a = go (is_dead live m.node) (none_among live l ns (further ns b a.0) a.1)
  where
    further : (ms : List Labelled) → l < m.label → IsBelowFirst m.label ms → IsBelowFirst l ms
    further [] lt below = tt
    further (k ∷ ms) lt below = omega arith

    go : (d : Bool) → among (dead_labels live ns) l ≡ false → among (if d then m.label ∷ dead_labels live ns else dead_labels live ns) l ≡ false
    go true rest = ap (λ x. x || among (dead_labels live ns) l) (ne_eqb m.label l (λ e. let f : l < m.label = b in absurd (omega arith))) ∙ rest
    go false rest = rest

-- a node's label is among those of the dead nodes exactly if the node is dead
pub among_dead : (live : Sets) (ns : List Labelled) (n : Labelled) → Ascend ns → Contains ns n → among (dead_labels live ns) n.label ≡ is_dead live n.node
among_dead live [] n a (k, lt, e) = absurd (omega arith)
among_dead live (m ∷ ns) n a (zero, lt, e) = subst (λ (x : Labelled). among (dead_labels live (m ∷ ns)) x.label ≡ is_dead live x.node) e (go (is_dead live m.node))
  where
    go : (d : Bool) → among (if d then m.label ∷ dead_labels live ns else dead_labels live ns) m.label ≡ d
    go true = ap (λ x. x || among (dead_labels live ns) m.label) (eq-eqb m.label m.label refl)
    go false = none_among live m.label ns a.0 a.1
among_dead live (m ∷ ns) n a (suc k, lt, e) = go (is_dead live m.node) (among_dead live ns n a.1 (k, omega arith, e))
  where
    go : (d : Bool) → among (dead_labels live ns) n.label ≡ is_dead live n.node → among (if d then m.label ∷ dead_labels live ns else dead_labels live ns) n.label ≡ is_dead live n.node
    go true rest = ap (λ x. x || among (dead_labels live ns) n.label) (ne_eqb m.label n.label (λ f. let l = below_each m.label ns n a.0 a.1 (k, omega arith, e) in absurd (omega arith))) ∙ rest
    go false rest = rest

among_there : (live : Sets) (ns : List Labelled) (l : ℕ) → IsTrue (among (dead_labels live ns) l) → IsSome (node_at ns l)
among_there live [] l h = absurd cc
among_there live (m ∷ ns) l h = go (m.label == l) refl (is_dead live m.node) h (among_there live ns l)
  where
    go : (b : Bool) → (m.label == l) ≡ b → (d : Bool) → IsTrue (among (if d then m.label ∷ dead_labels live ns else dead_labels live ns) l) → (IsTrue (among (dead_labels live ns) l) → IsSome (node_at ns l)) → IsSome (if b then Some m.node else node_at ns l)
    go true t d i rest = refl
    go false t false i rest = rest i
    go false t true i rest = elim (or_cases (m.label == l) (among (dead_labels live ns) l) i) [ inl here ↦ absurd cc | inr later ↦ rest later ]

pub dead_there : (live : Sets) (ns : List Labelled) → All (λ l. IsSome (node_at ns l)) (dead_labels live ns)
dead_there live ns = All-weaker (Contains (dead_labels live ns)) (λ l. IsSome (node_at ns l)) (λ l i. among_there live ns l (list_in (dead_labels live ns) l i)) (dead_labels live ns) (All-contains_itself (dead_labels live ns))

pub without_labels : (live : Sets) (ns : List Labelled) → Ascend ns → with_nops (these (dead_labels live ns)) ns ≡ with_nops (dead live) ns
without_labels live ns a = same_turned (these (dead_labels live ns)) (dead live) ns (λ n i. among_dead live ns n a i)

pub may_go : (live : Sets) (ns : List Labelled) → Ascend ns → AreStronglyLive ns live → MayBecomeNops ns (these (dead_labels live ns))
may_go live ns a h = record {
  live = live;
  are_live = subst (λ ms. AreLive ms live) (sym (without_labels live ns a)) (live_without ns live h);
  dead = λ label node e i.
      let p = placed ns label node e in
      let there : Contains ns p.0 = (position_of ns label, slice_get_within ns (position_of ns label) p.0 p.1, get_or_from_slice_get ns (position_of ns label) p.0 p.0 p.1) in
      let d : among (dead_labels live ns) label ≡ is_dead live node = ap (among (dead_labels live ns)) (sym p.3) ∙ (among_dead live ns p.0 a there ∙ ap (is_dead live) p.2) in
      or_right (is_nop node) (is_dead live node) (sym d ∙ i);
}

-- ---- what is left without the nodes that nothing needs

none_apart : (r : ℕ) → None ≢ Some r
none_apart r e = absurd (let z : None ≡ Some r = e in cc)

-- a nop has no result
result_nop : (n : Node) (r : ℕ) → result n ≢ Some r → result (as_nop n) ≢ Some r
result_nop (Const to word next) r d = none_apart r
result_nop (Move to from next) r d = none_apart r
result_nop (Unary operator to from next) r d = none_apart r
result_nop (Binary operator to left right next) r d = none_apart r
result_nop (Load width object to index next) r d = none_apart r
result_nop (Nop next) r d = d
result_nop (Store width object index from next) r d = d
result_nop (Call function arguments to next) r d = d
result_nop (Read to next) r d = d
result_nop (Write from next) r d = d
result_nop (Branch from nonzero other) r d = d
result_nop (Return from) r d = d

result_turned : (b : Bool) (n : Node) (r : ℕ) → result n ≢ Some r → result (turned b n) ≢ Some r
result_turned true n r d = result_nop n r d
result_turned false n r d = d

-- what both sets hold
abbrev pub both : Sets → Sets → Sets
both live other label r = live label r && other label r

module _ (ns : List Labelled) (live other : Sets) (strong : AreStronglyLive ns live) (after : AreLive (with_nops (dead live) ns) other) where
  less : LieWithin (both live other) live
  less label r h = (and_parts (live label r) (other label r) h).0

  -- live sets of what is left, intersected with the strongly live ones, are strongly live
  pub both_strongly : AreStronglyLive ns (both live other)
  both_strongly label node e =
      let mine = strong label node e in
      let theirs = after label (turned (is_dead live node) node) (node_turned (dead live) ns label node e) in
      record {
        needed = λ stays r read.
            let kept = read_behind_less (both live other) live node (behind_less (both live other) live less node) stays in
            and_from (live label r) (other label r) (mine.needed kept r read) ((subst (λ b. Carries other (turned b node) (other label)) kept theirs).needed r read);
        inherited = λ r h d.
            let s = in_one (both live other) (successors node) r h in
            let held = and_parts (live s.0 r) (other s.0 r) s.2 in
            and_from (live label r) (other label r) (mine.inherited r (one_in live (successors node) s.0 r s.1 held.0) d) (from_nop (is_dead live node) theirs r (one_in other (successors node) s.0 r s.1 held.1) d);
      }
    where
      from_nop : (b : Bool) → Carries other (turned b node) (other label) → (r : ℕ) → IsTrue (live_behind other node r) → result node ≢ Some r → IsTrue (other label r)
      from_nop b c r h d = c.inherited r (subst (λ ss. IsTrue (in_some other ss r)) (sym (successors_turned b node)) h) (result_turned b node r d)

pub least_without : (ns : List Labelled) (live : Sets) → AreLeastStronglyLive ns live → AreLeastLive (with_nops (dead live) ns) live
least_without ns live h = record {
  are_live = live_without ns live h.are_live;
  least = λ other after label r held. (and_parts (live label r) (other label r) (h.least (both live other) (both_strongly ns live other h.are_live after) label r held)).1;
}

pub least_strongly : (ns : List Labelled) (live : Sets) → AreLeastAs true ns live → AreLeastStronglyLive ns live
least_strongly ns live h = record { are_live = strongly ns live h.are_live; least = λ other s. h.least other (as_strong ns other s) }

pub is_without_faint : (old new : Rtl) (live : Sets) → AreLeastAs true old.nodes live → new ≡ without_dead live old → IsWithoutFaint old new
is_without_faint old new live h e = record {
  live = live;
  strongly = least_strongly old.nodes live h;
  is = e;
  least = subst (λ (r : Rtl). AreLeastLive r.nodes live) (sym e) (least_without old.nodes live (least_strongly old.nodes live h));
}

-- ---- the live sets of what is left, as rows

-- nodes keep their positions when some become nops
position_without : (which : Which) (ns : List Labelled) (label : ℕ) → position_of (with_nops which ns) label ≡ position_of ns label
position_without which [] label = refl
position_without which (n ∷ ns) label = ap (λ p. if n.label == label then 0 else suc p) (position_without which ns label)

-- sets that hold the same as the least live sets are least live sets
same_least : (ns : List Labelled) (live same : Sets) → LieWithin live same → LieWithin same live → AreLeastLive ns live → AreLeastLive ns same
same_least ns live same there back h = record {
  are_live = λ label node e. let c = h.are_live label node e in record {
    needed = λ r i. there label r (c.needed r i);
    inherited = λ r i d. there label r (c.inherited r (behind_less same live back node r i) d);
  };
  least = λ other after label r held. h.least other after label r (back label r held);
}

-- the rows of the strongly live sets are the least live sets of the nodes that are left
pub least_rows : (old new : Rtl) (rows : List (List ℕ)) → AreLeastAs true old.nodes (rows_at old.nodes rows) → new ≡ without_dead (rows_at old.nodes rows) old → AreLeastLive new.nodes (rows_at new.nodes rows)
least_rows old new rows h e = subst (λ (r : Rtl). AreLeastLive r.nodes (rows_at r.nodes rows)) (sym e) (same_least left live (rows_at left rows) (λ label r i. at label r ∙ i) (λ label r i. sym (at label r) ∙ i) (least_without old.nodes live (least_strongly old.nodes live h)))
  where
    live : Sets
    live = rows_at old.nodes rows

    left : List Labelled
    left = with_nops (dead live) old.nodes

    at : (label r : ℕ) → rows_at left rows label r ≡ live label r
    at label r = ap (λ p. holds (get_or rows p []) r) (position_without (dead live) old.nodes label)

-- no node of what is left is dead
pub nothing_dead : (old new : Rtl) → IsWithoutFaint old new → NothingIsDead new
nothing_dead old new h other are label node e =
    let from = turned_from (dead h.live) old.nodes label node (subst (λ (r : Rtl). node_at r.nodes label ≡ Some node) h.is e) in
    subst (λ n. is_dead other n ≡ false) (sym from.2) (go from.0 (is_dead h.live from.0) refl)
  where
    nop : (n : Node) → is_dead h.live n ≡ true → is_dead other (as_nop n) ≡ false
    nop (Const to word next) d = refl
    nop (Move to from next) d = refl
    nop (Unary operator to from next) d = refl
    nop (Binary operator to left right next) d = refl
    nop (Load width object to index next) d = refl
    nop (Nop next) d = refl
    nop (Store width object index from next) d = refl
    nop (Call function arguments to next) d = refl
    nop (Read to next) d = refl
    nop (Write from next) d = refl
    nop (Branch from nonzero other_way) d = refl
    nop (Return from) d = refl

    go : (n : Node) (b : Bool) → is_dead h.live n ≡ b → is_dead other (turned b n) ≡ false
    go n true d = nop n d
    go n false d = read_behind_less h.live other n (behind_less h.live other (h.least.least other are) n) d
