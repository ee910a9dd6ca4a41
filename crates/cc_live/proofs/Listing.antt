-- The nodes as the code walks over them: each node leads to existing nodes, and the labels of the dead nodes are listed in
-- order.
use Rattle.std.proofs.Common.{◌≡◌, ℕ, ◌+◌, ◌<◌, List, [], ◌∷◌, ◌++◌, length, take, get_or, sym, ap, ◌∙◌, subst, Bool, true, false, if◌then◌else◌, All}
use Rattle.std.specs.Prelude.{Some, IsSome, slice_get}
use Rattle.std.proofs.lemmas.Option.{slice_get_within, get_or_from_slice_get}
use Rattle.std.proofs.lemmas.List.{take_more}
use Rattle.cc_rtl_language.specs.Rtl.{Rtl, Labelled, IsRtl, node_at, successors}
use Rattle.cc_rtl_language.specs.Live.{Sets, is_dead}
use Rattle.cc_rtl_language.proofs.Places.{lead_inside}
use Rattle.cc_live.specs.internal.Dead.{dead_labels}

-- ---- one more node at the end

dead_push : (live : Sets) (ns : List Labelled) (n : Labelled) → is_dead live n.node ≡ true → dead_labels live (ns ++ n ∷ []) ≡ dead_labels live ns ++ n.label ∷ []
dead_push live [] n d = ap (λ b. if b then n.label ∷ [] else []) d
dead_push live (m ∷ ns) n d = go (is_dead live m.node) (dead_push live ns n d)
  where
    go : (b : Bool) → dead_labels live (ns ++ n ∷ []) ≡ dead_labels live ns ++ n.label ∷ []
        → (if b then m.label ∷ dead_labels live (ns ++ n ∷ []) else dead_labels live (ns ++ n ∷ [])) ≡ (if b then m.label ∷ dead_labels live ns else dead_labels live ns) ++ n.label ∷ []
    go true rest = ap (λ ls. m.label ∷ ls) rest
    go false rest = rest

alive_push : (live : Sets) (ns : List Labelled) (n : Labelled) → is_dead live n.node ≡ false → dead_labels live (ns ++ n ∷ []) ≡ dead_labels live ns
alive_push live [] n d = ap (λ b. if b then n.label ∷ [] else []) d
alive_push live (m ∷ ns) n d = go (is_dead live m.node) (alive_push live ns n d)
  where
    go : (b : Bool) → dead_labels live (ns ++ n ∷ []) ≡ dead_labels live ns
        → (if b then m.label ∷ dead_labels live (ns ++ n ∷ []) else dead_labels live (ns ++ n ∷ [])) ≡ (if b then m.label ∷ dead_labels live ns else dead_labels live ns)
    go true rest = ap (λ ls. m.label ∷ ls) rest
    go false rest = rest

-- ---- one more position

module _ (ns : List Labelled) (i : ℕ) (n : Labelled) (item : slice_get ns i ≡ Some n) where
  within : i < length ns
  within = slice_get_within ns i n item

  pub leads_on : (rtl : Rtl) → IsRtl rtl → ns ≡ rtl.nodes → All (λ s. IsSome (node_at rtl.nodes s)) (successors n.node)
  leads_on rtl is e =
      subst (λ (m : Labelled). All (λ s. IsSome (node_at rtl.nodes s)) (successors m.node)) (ap (λ (ms : List Labelled). get_or ms i n) (sym e) ∙ get_or_from_slice_get ns i n n item)
      (lead_inside rtl is i n (subst (λ (ms : List Labelled). i < length ms) e within))

  one_more : take (i + 1) ns ≡ take i ns ++ n ∷ []
  one_more = take_more ns i n within ∙ ap (λ x. take i ns ++ x ∷ []) (get_or_from_slice_get ns i n n item)

  pub dead_more : (live : Sets) (labels more : List ℕ) → labels ≡ dead_labels live (take i ns) → is_dead live n.node ≡ true → more ≡ labels ++ n.label ∷ [] → more ≡ dead_labels live (take (i + 1) ns)
  dead_more live labels more so_far d e = e ∙ (ap (λ ls. ls ++ n.label ∷ []) so_far ∙ (sym (dead_push live (take i ns) n d) ∙ ap (dead_labels live) (sym one_more)))

  pub alive_more : (live : Sets) (labels : List ℕ) → labels ≡ dead_labels live (take i ns) → is_dead live n.node ≡ false → labels ≡ dead_labels live (take (i + 1) ns)
  alive_more live labels so_far d = so_far ∙ (sym (alive_push live (take i ns) n d) ∙ ap (dead_labels live) (sym one_more))
