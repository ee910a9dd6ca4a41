-- The nodes, by their positions: the step at a position, its row of the graph, its label, and what the nodes read.
use Rattle.std.proofs.Common.{◌≡◌, ℕ, zero, suc, ◌≤◌, List, [], ◌∷◌, ◌++◌, length, map, get_or, refl, sym, ap, ◌∙◌, subst, arith, Contains, Bool, IsTrue, ◌↔◌, Result, Ok, Err, IfOk}
use Rattle.std.specs.Prelude.{Some, IsSome, slice_get}
use Rattle.std.proofs.lemmas.Option.{same_Some, slice_get_within, get_or_from_slice_get}
use Rattle.std.proofs.lemmas.List.{get_or-map}
use Rattle.std.proofs.lemmas.List.Elements.{Contains-append_left, Contains-append_right}
use Rattle.cc_rtl_language.specs.Rtl.{Labelled, Nop, node_at, successors}
use Rattle.cc_rtl_language.specs.Live.{reads}
use Rattle.cc_rtl_language.specs.Positions.{position_of, graph_of}
use Rattle.cc_rtl_language.proofs.Places.{position_is}
use Rattle.cc_flow.specs.Lattice.{Equivalent}
use Rattle.cc_bits.specs.Rows.{holds}
use Rattle.cc_live.specs.internal.Facts.{Below, nothing, live_before, carries}
use Rattle.cc_live.specs.internal.Laws.{laws}

pub nobody : Labelled
nobody = record { label = 0; node = Nop 0 }

pub carries_at : (strong : Bool) (ns : List Labelled) (i : ℕ) (n : Labelled) (row : List ℕ) → slice_get ns i ≡ Some n → carries strong ns i row ≡ live_before strong n.node row
carries_at strong [] i n row e = absurd cc
carries_at strong (m ∷ ns) zero n row e = ap (λ (x : Labelled). live_before strong x.node row) (same_Some m n e)
carries_at strong (m ∷ ns) (suc i) n row e = carries_at strong ns i n row e

pub carries_past : (strong : Bool) (ns : List Labelled) (i : ℕ) (row : List ℕ) → length ns ≤ i → carries strong ns i row ≡ nothing
carries_past strong [] i row h = refl
carries_past strong (n ∷ ns) zero row h = absurd (omega arith)
carries_past strong (n ∷ ns) (suc i) row h = carries_past strong ns i row (omega arith)

pub row_at : (ns : List Labelled) (i : ℕ) (n : Labelled) → slice_get ns i ≡ Some n → get_or (graph_of ns) i [] ≡ map (position_of ns) (successors n.node)
row_at ns i n e =
    get_or-map (λ (m : Labelled). map (position_of ns) (successors m.node)) ns i n [] (slice_get_within ns i n e)
    ∙ ap (λ (m : Labelled). map (position_of ns) (successors m.node)) (get_or_from_slice_get ns i n n e)

-- ---- the result of a call, if it succeeded

pub least_same : {E : Type 0} (r : Result (List ℕ) E) → IfOk r (λ made. made ≡ nothing) → IfOk r (λ made. Equivalent Below made nothing)
least_same (Ok made) e = subst (λ x. Equivalent Below x nothing) (sym e) (laws.reflexive nothing, laws.reflexive nothing)
least_same (Err e) h = h

pub same_both_ways : {E : Type 0} (r : Result (List ℕ) E) (row : List ℕ) → IfOk r (λ made. (x : ℕ) → IsTrue (holds made x) ↔ IsTrue (holds row x)) → IfOk r (λ made. Equivalent Below made row)
same_both_ways (Ok made) row h = (λ x. (h x).0, λ x. (h x).1)
same_both_ways (Err e) row h = h

-- ---- the label at a position

abbrev pub label_at : List Labelled → ℕ → ℕ
label_at ns i = (get_or ns i nobody).label

pub label_of_position : (ns : List Labelled) (l : ℕ) → IsSome (node_at ns l) → label_at ns (position_of ns l) ≡ l
label_of_position ns l h = (position_is ns l nobody h).1

-- ---- all that is read

pub all_reads : List Labelled → List ℕ
all_reads [] = []
all_reads (n ∷ ns) = reads n.node ++ all_reads ns

pub read_among : (ns : List Labelled) (i : ℕ) (n : Labelled) (r : ℕ) → slice_get ns i ≡ Some n → Contains (reads n.node) r → Contains (all_reads ns) r
unfolding all_reads
read_among [] i n r e h = absurd cc
read_among (m ∷ ns) zero n r e h = Contains-append_left (reads m.node) (all_reads ns) r (subst (λ (x : Labelled). Contains (reads x.node) r) (sym (same_Some m n e)) h)
read_among (m ∷ ns) (suc i) n r e h = Contains-append_right (reads m.node) (all_reads ns) r (read_among ns i n r e h)
