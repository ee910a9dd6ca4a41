-- Nodes that became nops: what is at a label then, that the graph keeps its form, and several changes one after another.
use Rattle.std.proofs.Common.{◌≡◌, ℕ, suc, ◌+◌, ◌<◌, List, [], ◌∷◌, ◌++◌, length, take, get_or, refl, sym, ap, ◌∙◌, subst, Bool, true, false, ◌==◌, ◌||◌, if◌then◌else◌, arith, Contains}
use Rattle.std.specs.Prelude.{Option, Some, None, IsSome, option_map, MatchOption}
use Rattle.std.proofs.lemmas.Option.{same_Some}
use Rattle.std.proofs.lemmas.Bool.Decides.{Decides-eqb}
use Rattle.cc_rtl_language.specs.Rtl.{Rtl, Labelled, Node, Nop, Const, Move, Unary, Binary, Load, Store, Call, Read, Write, Branch, Return, Ascend, IsBelowFirst, IsRtl, node_at, successors}
use Rattle.cc_rtl_language.specs.Live.{as_nop, with_nops, among}
use Rattle.cc_rtl_language.specs.Positions.{AreNumbered}
use Rattle.std.proofs.lemmas.List.{take_more}
use Rattle.cc_rtl_language.specs.Code.{node_of, labelled_of}
use Rattle.cc_rtl_language.specs.declared.node.Node as code
use Rattle.cc_instr_list.specs.List.{Entry, entry, with_item}
use Rattle.cc_rtl_language.proofs.Places.{same_test, other_test}

abbrev pub Which : Type 0
Which = (label : ℕ) → Node → Bool

-- the nop of the node if b, else the node
abbrev pub turned : Bool → Node → Node
turned b n = if b then as_nop n else n

-- ---- what is at a label

pub node_turned : (which : Which) (ns : List Labelled) (l : ℕ) (n : Node) → node_at ns l ≡ Some n → node_at (with_nops which ns) l ≡ Some (turned (which l n) n)
node_turned which [] l n e = absurd cc
node_turned which (m ∷ ns) l n e = go (m.label == l) refl e (node_turned which ns l n)
  where
    go : (b : Bool) → (m.label == l) ≡ b → (if b then Some m.node else node_at ns l) ≡ Some n → (node_at ns l ≡ Some n → node_at (with_nops which ns) l ≡ Some (turned (which l n) n))
        → (if b then Some (turned (which m.label m.node) m.node) else node_at (with_nops which ns) l) ≡ Some (turned (which l n) n)
    go true t f rest =
        let node : m.node ≡ n = same_Some m.node n f in
        let label : m.label ≡ l = (Decides-eqb m.label l).0 t in
        ap (λ k. Some (turned (which k m.node) m.node)) label ∙ ap (λ x. Some (turned (which l x) x)) node
    go false t f rest = rest f

pub none_turned : (which : Which) (ns : List Labelled) (l : ℕ) → node_at ns l ≡ None → node_at (with_nops which ns) l ≡ None
none_turned which [] l e = refl
none_turned which (m ∷ ns) l e = go (m.label == l) e (none_turned which ns l)
  where
    go : (b : Bool) → (if b then Some m.node else node_at ns l) ≡ None → (node_at ns l ≡ None → node_at (with_nops which ns) l ≡ None) → (if b then Some (turned (which m.label m.node) m.node) else node_at (with_nops which ns) l) ≡ None
    go true f rest = absurd cc
    go false f rest = rest f

-- the node at a label is now the one that was there, or its nop
pub turned_from : (which : Which) (ns : List Labelled) (l : ℕ) (n : Node) → node_at (with_nops which ns) l ≡ Some n → (m : Node) × (node_at ns l ≡ Some m) × (n ≡ turned (which l m) m)
turned_from which ns l n e = go (node_at ns l) refl
  where
    go : (o : Option Node) → node_at ns l ≡ o → (m : Node) × (node_at ns l ≡ Some m) × (n ≡ turned (which l m) m)
    go None f = absurd (let z : None ≡ Some n = sym (none_turned which ns l f) ∙ e in cc)
    go (Some m) f = (m, f, same_Some n (turned (which l m) m) (sym e ∙ node_turned which ns l m f))

pub some_turned : (which : Which) (ns : List Labelled) (l : ℕ) → IsSome (node_at ns l) → IsSome (node_at (with_nops which ns) l)
some_turned which ns l h = go (node_at ns l) refl h
  where
    go : (o : Option Node) → node_at ns l ≡ o → IsSome o → IsSome (node_at (with_nops which ns) l)
    go None f s = absurd cc
    go (Some m) f s = subst IsSome (sym (node_turned which ns l m f)) refl

-- ---- the form of the graph

successors_nop : (n : Node) → successors (as_nop n) ≡ successors n
successors_nop (Nop next) = refl
successors_nop (Const to word next) = refl
successors_nop (Move to from next) = refl
successors_nop (Unary operator to from next) = refl
successors_nop (Binary operator to left right next) = refl
successors_nop (Load width object to index next) = refl
successors_nop (Store width object index from next) = refl
successors_nop (Call function arguments to next) = refl
successors_nop (Read to next) = refl
successors_nop (Write from next) = refl
successors_nop (Branch from if_nonzero if_zero) = refl
successors_nop (Return from) = refl

pub successors_turned : (b : Bool) (n : Node) → successors (turned b n) ≡ successors n
successors_turned true n = successors_nop n
successors_turned false n = refl

pub length_turned : (which : Which) (ns : List Labelled) → length (with_nops which ns) ≡ length ns
length_turned which [] = refl
length_turned which (n ∷ ns) = ap suc (length_turned which ns)

below_turned : (which : Which) (l : ℕ) (ns : List Labelled) → IsBelowFirst l ns → IsBelowFirst l (with_nops which ns)
below_turned which l [] h = tt
below_turned which l (n ∷ ns) h = h

pub ascend_turned : (which : Which) (ns : List Labelled) → Ascend ns → Ascend (with_nops which ns)
ascend_turned which [] h = tt
ascend_turned which (n ∷ ns) h = (below_turned which n.label ns h.0, ascend_turned which ns h.1)

nop_turned : (b : Bool) (next : ℕ) → turned b (Nop next) ≡ Nop next
nop_turned true next = refl
nop_turned false next = refl

pub is_rtl : (which : Which) (r : Rtl) → IsRtl r → IsRtl (record r { nodes = with_nops which r.nodes })
is_rtl which r is = record {
  few = let l = length_turned which r.nodes in let f = is.few in omega (arith, l, f);
  ascend = ascend_turned which r.nodes is.ascend;
  begins = (is.begins.0, node_turned which r.nodes r.entry (Nop is.begins.0) is.begins.1 ∙ ap Some (nop_turned (which r.entry (Nop is.begins.0)) is.begins.0));
  leads = λ label node next e among.
      let old = turned_from which r.nodes label node e in
      let same : successors node ≡ successors old.0 = ap successors old.2 ∙ successors_turned (which label old.0) old.0 in
      let there = is.leads label old.0 next old.1 (subst (λ ss. Contains ss next) same among) in
      (some_turned which r.nodes next there.0, there.1);
}

-- ---- one label after others

nop_twice : (n : Node) → as_nop (as_nop n) ≡ as_nop n
nop_twice (Nop next) = refl
nop_twice (Const to word next) = refl
nop_twice (Move to from next) = refl
nop_twice (Unary operator to from next) = refl
nop_twice (Binary operator to left right next) = refl
nop_twice (Load width object to index next) = refl
nop_twice (Store width object index from next) = refl
nop_twice (Call function arguments to next) = refl
nop_twice (Read to next) = refl
nop_twice (Write from next) = refl
nop_twice (Branch from if_nonzero if_zero) = refl
nop_twice (Return from) = refl

abbrev pub these : List ℕ → Which
these labels label node = among labels label

abbrev pub this : ℕ → Which
this l label node = l == label

among_push : (ls : List ℕ) (l label : ℕ) → among (ls ++ l ∷ []) label ≡ (among ls label || l == label)
among_push [] l label = or_none (l == label)
  where
    or_none : (b : Bool) → (b || false) ≡ b
    or_none true = refl
    or_none false = refl
among_push (x ∷ ls) l label = ap (λ b. (x == label) || b) (among_push ls l label) ∙ regroup (x == label) (among ls label) (l == label)
  where
    regroup : (a b c : Bool) → (a || (b || c)) ≡ ((a || b) || c)
    regroup true b c = refl
    regroup false b c = refl

turned_both : (a b : Bool) (n : Node) → turned b (turned a n) ≡ turned (a || b) n
turned_both true true n = nop_twice n
turned_both true false n = refl
turned_both false true n = refl
turned_both false false n = refl

pub one_more : (ls : List ℕ) (l : ℕ) (ns : List Labelled) → with_nops (this l) (with_nops (these ls) ns) ≡ with_nops (these (ls ++ l ∷ [])) ns
one_more ls l [] = refl
one_more ls l (n ∷ ns) =
    ap (λ (m : Node). record { label = n.label; node = m } ∷ with_nops (this l) (with_nops (these ls) ns)) (turned_both (among ls n.label) (l == n.label) n.node ∙ ap (λ b. turned b n.node) (sym (among_push ls l n.label)))
    ∙ ap (λ rest. record { label = n.label; node = turned (among (ls ++ l ∷ []) n.label) n.node } ∷ rest) (one_more ls l ns)

pub none_yet : (ns : List Labelled) → with_nops (these []) ns ≡ ns
none_yet [] = refl
none_yet (n ∷ ns) = ap (λ rest. n ∷ rest) (none_yet ns)

-- if the first of the ascending labels is above this one, nothing is turned
none_behind : (l : ℕ) (ns : List Labelled) → IsBelowFirst l ns → Ascend ns → with_nops (this l) ns ≡ ns
none_behind l [] below ascend = refl
none_behind l (n ∷ ns) below ascend =
    let t : (l == n.label) ≡ false = other_test l n.label (λ e. absurd (omega arith)) in
    ap (λ b. record { label = n.label; node = turned b n.node } ∷ with_nops (this l) ns) t
    ∙ ap (λ rest. n ∷ rest) (none_behind l ns (further ns below ascend.0) ascend.1)
  where
    further : (ms : List Labelled) → l < n.label → IsBelowFirst n.label ms → IsBelowFirst l ms
    further [] h b = tt
    further (m ∷ ms) h b = omega arith

-- two tests that agree on the nodes turn the same ones
pub same_turned : (which other : Which) (ns : List Labelled) → ((n : Labelled) → Contains ns n → which n.label n.node ≡ other n.label n.node) → with_nops which ns ≡ with_nops other ns
same_turned which other [] h = refl
same_turned which other (n ∷ ns) h =
    ap (λ b. record { label = n.label; node = turned b n.node } ∷ with_nops which ns) (h n (0, omega arith, refl))
    ∙ ap (λ rest. record { label = n.label; node = turned (other n.label n.node) n.node } ∷ rest) (same_turned which other ns (λ m i. h m (suc i.0, (let l = i.1 in omega arith), i.2)))

-- labels do not change
pub numbered_turned : (which : Which) (from : ℕ) (ns : List Labelled) → AreNumbered from ns → AreNumbered from (with_nops which ns)
numbered_turned which from [] a = tt
numbered_turned which from (n ∷ ns) a = (a.0, numbered_turned which (suc from) ns a.1)

-- ---- as the code makes them

-- to put a node's nop under its label is to turn that node
pub turn_one : (es : List (Entry code.Node)) (l : ℕ) (x : code.Node) → Ascend (labelled_of es) → option_map as_nop (node_at (labelled_of es) l) ≡ Some (node_of x) → labelled_of (with_item l x es) ≡ with_nops (this l) (labelled_of es)
turn_one [] l x ascend h = refl
turn_one (e ∷ es) l x ascend h =
    elim (e.label == l) as (λ t. (e.label == l) ≡ t → option_map as_nop (if t then Some (node_of e.item) else node_at (labelled_of es) l) ≡ Some (node_of x)
    → labelled_of (if t then entry e.label x ∷ es else e ∷ with_item l x es) ≡ record { label = e.label; node = turned (l == e.label) (node_of e.item) } ∷ with_nops (this l) (labelled_of es)) [
      | true ↦ λ q f.
          let label : e.label ≡ l = (Decides-eqb e.label l).0 q in
          let u : (l == e.label) ≡ true = same_test l e.label (sym label) in
          ap (λ (m : Node). record { label = e.label; node = m } ∷ labelled_of es) (sym (same_Some (as_nop (node_of e.item)) (node_of x) f))
          ∙ ap (λ (ms : List Labelled). record { label = e.label; node = as_nop (node_of e.item) } ∷ ms) (sym (none_behind l (labelled_of es) (subst (λ k. IsBelowFirst k (labelled_of es)) label ascend.0) ascend.1))
          ∙ ap (λ b. record { label = e.label; node = turned b (node_of e.item) } ∷ with_nops (this l) (labelled_of es)) (sym u)
      | false ↦ λ q f.
          let u : (l == e.label) ≡ false = other_test l e.label (λ s. absurd (let v = same_test e.label l (sym s) in cc)) in
          ap (λ (ms : List Labelled). record { label = e.label; node = node_of e.item } ∷ ms) (turn_one es l x ascend.1 f)
          ∙ ap (λ b. record { label = e.label; node = turned b (node_of e.item) } ∷ with_nops (this l) (labelled_of es)) (sym u)
    ] refl h

-- if the node at a label is its own nop, turning it changes nothing
pub turn_none : (ns : List Labelled) (l : ℕ) → Ascend ns → option_map as_nop (node_at ns l) ≡ node_at ns l → with_nops (this l) ns ≡ ns
turn_none [] l ascend h = refl
turn_none (n ∷ ns) l ascend h =
    elim (n.label == l) as (λ t. (n.label == l) ≡ t → option_map as_nop (if t then Some n.node else node_at ns l) ≡ (if t then Some n.node else node_at ns l)
    → record { label = n.label; node = turned (l == n.label) n.node } ∷ with_nops (this l) ns ≡ n ∷ ns) [
      | true ↦ λ q f.
          let label : n.label ≡ l = (Decides-eqb n.label l).0 q in
          let u : (l == n.label) ≡ true = same_test l n.label (sym label) in
          ap (λ b. record { label = n.label; node = turned b n.node } ∷ with_nops (this l) ns) u
          ∙ ap (λ (m : Node). record { label = n.label; node = m } ∷ with_nops (this l) ns) (same_Some (as_nop n.node) n.node f)
          ∙ ap (λ (ms : List Labelled). n ∷ ms) (none_behind l ns (subst (λ k. IsBelowFirst k ns) label ascend.0) ascend.1)
      | false ↦ λ q f.
          let u : (l == n.label) ≡ false = other_test l n.label (λ s. absurd (let v = same_test n.label l (sym s) in cc)) in
          ap (λ b. record { label = n.label; node = turned b n.node } ∷ with_nops (this l) ns) u ∙ ap (λ (ms : List Labelled). n ∷ ms) (turn_none ns l ascend.1 f)
    ] refl h

-- what matches a node and its nop also matches the node at a label and its nop
pub nop_found : (r : Option ℕ) (o : Option Node) (n : Node) → o ≡ Some n → MatchOption r (as_nop n ≡ n) (λ next. as_nop n ≡ Nop next) → MatchOption r (option_map as_nop o ≡ o) (λ next. option_map as_nop o ≡ Some (Nop next))
nop_found None o n e m = ap (option_map as_nop) e ∙ (ap (λ (x : Node). Some x) m ∙ sym e)
nop_found (Some next) o n e m = ap (option_map as_nop) e ∙ ap (λ (x : Node). Some x) m

-- to turn the node at one more label is to turn those at all the labels so far
pub turn_more : (start now after : List Labelled) (labels : List ℕ) (i : ℕ) → now ≡ with_nops (these (take i labels)) start → after ≡ with_nops (this (get_or labels i 0)) now → i < length labels → after ≡ with_nops (these (take (i + 1) labels)) start
turn_more start now after labels i so_far is h =
    is ∙ (ap (with_nops (this (get_or labels i 0))) so_far ∙ (one_more (take i labels) (get_or labels i 0) start ∙ ap (λ ls. with_nops (these ls) start) (sym (take_more labels i 0 h))))
