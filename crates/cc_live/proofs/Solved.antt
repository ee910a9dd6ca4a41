-- The solution that lies below every other one is the least live sets: what comes back to a node is what the node reads and what
-- is live after it, except the node's result. Other live sets, cut down to the registers that some node reads, are a solution
-- too.
use Rattle.std.proofs.Common.{◌≡◌, ℕ, ◌<◌, List, [], ◌∷◌, length, map, get_or, refl, sym, ap, ◌∙◌, subst, Bool, true, false, ◌&&◌, ◌||◌, IsTrue, arith, inl, inr}
use Rattle.std.specs.Prelude.{Option, Some, None, IsSome, slice_get}
use Rattle.std.proofs.lemmas.Option.{slice_get_within, slice_get-get_or}
use Rattle.std.proofs.lemmas.List.{length-map, get_or_past}
use Rattle.cc_flow.specs.Flow.{joined, facts_at, successors_of, Solves, LiesUnder}
use Rattle.cc_rtl_language.specs.Rtl.{Rtl, Labelled, Node, IsRtl, node_at, successors}
use Rattle.cc_rtl_language.specs.Live.{Sets, in_some, live_behind, AreLive}
use Rattle.cc_rtl_language.specs.Positions.{position_of, graph_of}
use Rattle.cc_rtl_language.proofs.Places.{placed, past, node_of_position}
use Rattle.cc_bits.specs.Rows.{holds}
use Rattle.cc_live.specs.Rows.{rows_at}
use Rattle.cc_live.specs.Liveness.{LieWithin, AreStronglyLive}
use Rattle.cc_live.specs.internal.Facts.{Below, nothing, either, with_all, those, live_before, carries, AreLiveAs, AreLeastAs}
use Rattle.cc_bits.specs.internal.Holding.{holds-nothing}
use Rattle.cc_live.specs.internal.Holding.{holds-either, in_those, those_in, with_all_first, list_in, live_before_cases, read_live_before, behind_live_before}
use Rattle.cc_live.proofs.Behind.{in_one, one_in, read_less, read_same}
use Rattle.cc_live.proofs.Nodes.{nobody, carries_at, row_at, label_at, label_of_position, all_reads, read_among}

-- facts as sets of labels
abbrev by_label : (facts : ℕ → List ℕ) → List Labelled → Sets
by_label facts ns label = holds (facts (position_of ns label))

-- the join of the facts at some labels holds what one of them holds
holds-joined : (facts : ℕ → List ℕ) (ns : List Labelled) (labels : List ℕ) (r : ℕ) → holds (joined nothing either facts (map (position_of ns) labels)) r ≡ in_some (by_label facts ns) labels r
holds-joined facts ns [] r = holds-nothing r
holds-joined facts ns (s ∷ ss) r =
    holds-either (facts (position_of ns s)) (joined nothing either facts (map (position_of ns) ss)) r
    ∙ ap (λ b. holds (facts (position_of ns s)) r || b) (holds-joined facts ns ss r)

abbrev SolvesBy : Bool → List Labelled → (ℕ → List ℕ) → Type 0
SolvesBy strong ns facts = Solves Below nothing either (carries strong ns) (graph_of ns) facts

-- the join of what a position's successors have
abbrev behind : List Labelled → (ℕ → List ℕ) → (position : ℕ) → List ℕ
behind ns facts i = joined nothing either facts (successors_of (graph_of ns) i)

behind_is : (ns : List Labelled) (facts : ℕ → List ℕ) (i : ℕ) (n : Labelled) → slice_get ns i ≡ Some n → (r : ℕ) → holds (behind ns facts i) r ≡ live_behind (by_label facts ns) n.node r
behind_is ns facts i n e r = ap (λ row. holds (joined nothing either facts row) r) (row_at ns i n e) ∙ holds-joined facts ns (successors n.node) r

pub graph_length : (ns : List Labelled) → length (graph_of ns) ≡ length ns
graph_length ns = length-map ns (λ (n : Labelled). map (position_of ns) (successors n.node))

-- ---- a solution yields live sets

pub solved : (strong : Bool) (ns : List Labelled) (rows : List (List ℕ)) → SolvesBy strong ns (facts_at nothing rows) → AreLiveAs strong ns (rows_at ns rows)
solved strong ns rows solves label node e =
    let facts = facts_at nothing rows in
    let i = position_of ns label in
    let p = placed ns label node e in
    let row = behind ns facts i in
    let within : i < length (graph_of ns) = (let l = graph_length ns in let h = slice_get_within ns i p.0 p.1 in omega (arith, l, h)) in
    let own : Below (live_before strong node row) (facts i) = subst (λ x. Below x (facts i)) (carries_at strong ns i p.0 row p.1 ∙ ap (λ (m : Node). live_before strong m row) p.2) (solves i within) in
    let same : (r : ℕ) → holds row r ≡ live_behind (rows_at ns rows) node r = λ r. behind_is ns facts i p.0 p.1 r ∙ ap (λ (m : Node). live_behind (rows_at ns rows) m r) p.2 in
    record {
      needed = λ stays r read. own r (read_live_before strong node row r (ap (λ b. strong && b) (read_same row (rows_at ns rows) node same) ∙ stays) read);
      inherited = λ r h d. own r (behind_live_before strong node row r (same r ∙ h) d);
    }

-- ---- other live sets, cut down

bound : List Labelled → List ℕ
bound ns = with_all (all_reads ns) []

cut : List Labelled → Sets → ℕ → List ℕ
cut ns other i = those (other (label_at ns i)) (bound ns)

module _ (strong : Bool) (rtl : Rtl) (is : IsRtl rtl) (other : Sets) (live : AreLiveAs strong rtl.nodes other) where
  -- what the cut-down sets have after a node is live after the node, and some node reads it
  held : (i : ℕ) (n : Labelled) → slice_get rtl.nodes i ≡ Some n → node_at rtl.nodes n.label ≡ Some n.node → (r : ℕ) → IsTrue (holds (behind rtl.nodes (cut rtl.nodes other) i) r) → IsTrue (live_behind other n.node r) × IsTrue (holds (bound rtl.nodes) r)
  unfolding cut
  held i n e here r h =
      let s = in_one (by_label (cut rtl.nodes other) rtl.nodes) (successors n.node) r (sym (behind_is rtl.nodes (cut rtl.nodes other) i n e r) ∙ h) in
      let both = in_those (other (label_at rtl.nodes (position_of rtl.nodes s.0))) (bound rtl.nodes) r s.2 in
      let label = label_of_position rtl.nodes s.0 (is.leads n.label n.node s.0 here s.1).0 in
      (one_in other (successors n.node) s.0 r s.1 (subst (λ l. IsTrue (other l r)) label both.1), both.0)

  cut_solves : SolvesBy strong rtl.nodes (cut rtl.nodes other)
  unfolding cut bound
  cut_solves i lt r h =
      let n = get_or rtl.nodes i nobody in
      let e : slice_get rtl.nodes i ≡ Some n = slice_get-get_or rtl.nodes i nobody (let l = graph_length rtl.nodes in omega (arith, l, lt)) in
      let here = (node_of_position rtl.nodes is.ascend i n e).0 in
      let row = behind rtl.nodes (cut rtl.nodes other) i in
      let own = live n.label n.node here in
      elim (live_before_cases strong n.node row r (ap (λ x. holds x r) (sym (carries_at strong rtl.nodes i n row e)) ∙ h)) [
        | inl (stays, read) ↦
            those_in (other n.label) (bound rtl.nodes) r (with_all_first (all_reads rtl.nodes) [] r (list_in (all_reads rtl.nodes) r (read_among rtl.nodes i n r e read)))
            (own.needed (read_less row other n.node strong (λ x k. (held i n e here x k).0) stays) r read)
        | inr (after, d) ↦ (let b = held i n e here r after in those_in (other n.label) (bound rtl.nodes) r b.1 (own.inherited r b.0 d))
      ]

  -- what lies below every solution lies within the other live sets
  pub within_other : (rows : List (List ℕ)) → length rows ≡ length rtl.nodes → ((facts : ℕ → List ℕ) → SolvesBy strong rtl.nodes facts → LiesUnder Below (facts_at nothing rows) facts) → LieWithin (rows_at rtl.nodes rows) other
  unfolding cut
  within_other rows long under label r h = go (node_at rtl.nodes label) refl
    where
      go : (o : Option Node) → node_at rtl.nodes label ≡ o → IsTrue (other label r)
      go None e = absurd (
          let empty = get_or_past rows (position_of rtl.nodes label) [] (let p = past rtl.nodes label e in omega (arith, p, long)) in
          let none : holds (get_or rows (position_of rtl.nodes label) []) r ≡ false = ap (λ x. holds x r) empty ∙ holds-nothing r in
          cc
          )
      go (Some node) e =
          let both = in_those (other (label_at rtl.nodes (position_of rtl.nodes label))) (bound rtl.nodes) r (under (cut rtl.nodes other) cut_solves (position_of rtl.nodes label) r h) in
          subst (λ l. IsTrue (other l r)) (label_of_position rtl.nodes label (subst IsSome (sym e) refl)) both.1

-- the solution that lies below every other yields the least live sets
pub least_solved : (strong : Bool) (rtl : Rtl) → IsRtl rtl → (rows : List (List ℕ)) → length rows ≡ length rtl.nodes → SolvesBy strong rtl.nodes (facts_at nothing rows)
    → ((facts : ℕ → List ℕ) → SolvesBy strong rtl.nodes facts → LiesUnder Below (facts_at nothing rows) facts) → AreLeastAs strong rtl.nodes (rows_at rtl.nodes rows)
least_solved strong rtl is rows long solves under = record {
  are_live = solved strong rtl.nodes rows solves;
  least = λ other live. within_other strong rtl is other live rows long under;
}

-- ---- the two kinds

pub plainly : (ns : List Labelled) (live : Sets) → AreLiveAs false ns live → AreLive ns live
plainly ns live h label node e = let c = h label node e in record { needed = c.needed refl; inherited = c.inherited }

pub as_plain : (ns : List Labelled) (live : Sets) → AreLive ns live → AreLiveAs false ns live
as_plain ns live h label node e = let c = h label node e in record { needed = λ stays. c.needed; inherited = c.inherited }

pub strongly : (ns : List Labelled) (live : Sets) → AreLiveAs true ns live → AreStronglyLive ns live
strongly ns live h label node e = let c = h label node e in record { needed = c.needed; inherited = c.inherited }

pub as_strong : (ns : List Labelled) (live : Sets) → AreStronglyLive ns live → AreLiveAs true ns live
as_strong ns live h label node e = let c = h label node e in record { needed = c.needed; inherited = c.inherited }
