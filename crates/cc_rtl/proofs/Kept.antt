-- What the type of a function requires of the generated graph: it has the counted number of nodes, labels ascend, it begins with
-- a nop, each node leads to nodes, and none leads to the entry.
use Rattle.std.proofs.Common.{◌≡◌, ◌≢◌, ℕ, zero, suc, ◌-◌, ◌<◌, ◌≤◌, List, [], ◌∷◌, length, map, Contains, IsSome, refl, sym, ap, ◌∙◌, subst, arith, Some}
use Rattle.std.specs.Prelude.{is_some}
use Rattle.cc_cminor_language.specs.Cminor.{Statement}
use Rattle.cc_rtl_language.specs.Rtl as rtl
use Rattle.cc_rtl.specs.Size.{function_nodes}
use Rattle.cc_rtl.specs.internal.Generate.{IsFormed, renamed, labelled_from, nodes_back, generated_rtl}
use Rattle.cc_rtl.proofs.Function.{places, last, long, filled, generated_code}
use Rattle.cc_rtl.proofs.Generated.{function_right}
use Rattle.cc_rtl.proofs.Inside.{AllBelow, none_leads_to_entry}
use Rattle.cc_rtl.proofs.Labels.{as_many, placed, filled_at, turned_node}

long_labelled : (final from : ℕ) (ns : List rtl.Node) → length (labelled_from final from ns) ≡ length ns
long_labelled final from [] = refl
long_labelled final from (n ∷ ns) = ap suc (long_labelled final (suc from) ns)

ascends : (final from : ℕ) (ns : List rtl.Node) → rtl.Ascend (labelled_from final from ns)
ascends final from [] = tt
ascends final from (n ∷ []) = (tt, tt)
ascends final from (n ∷ m ∷ ns) = (omega arith, ascends final (suc from) (m ∷ ns))

successors_renamed : (t : ℕ → ℕ) (n : rtl.Node) → rtl.successors (renamed t n) ≡ map t (rtl.successors n)
successors_renamed t (rtl.Nop n) = refl
successors_renamed t (rtl.Const to w n) = refl
successors_renamed t (rtl.Move to r n) = refl
successors_renamed t (rtl.Unary op to r n) = refl
successors_renamed t (rtl.Binary op to r s n) = refl
successors_renamed t (rtl.Load width o to r n) = refl
successors_renamed t (rtl.Store width o r s n) = refl
successors_renamed t (rtl.Call f rs to n) = refl
successors_renamed t (rtl.Read to n) = refl
successors_renamed t (rtl.Write r n) = refl
successors_renamed t (rtl.Branch r n m) = refl
successors_renamed t (rtl.Return r) = refl

below_of : (t : ℕ → ℕ) (bound : ℕ) (xs : List ℕ) (next : ℕ) → AllBelow bound xs → Contains (map t xs) next → (s : ℕ) × (s < bound) × (next ≡ t s)
below_of t bound [] next all (k, lt, e) = absurd (omega arith)
below_of t bound (x ∷ xs) next (low, all) (zero, lt, e) = (x, low, sym e)
below_of t bound (x ∷ xs) next (low, all) (suc k, lt, e) = below_of t bound xs next all (k, omega arith, e)

module _ (parameters count : ℕ) (body : Statement) (formed : IsFormed count body) where
  -- each node leads to nodes, but not to the entry
  leads : (label : ℕ) (node : rtl.Node) (next : ℕ) → rtl.node_at (generated_rtl parameters count body).nodes label ≡ Some node → Contains (rtl.successors node) next
      → IsSome (rtl.node_at (generated_rtl parameters count body).nodes next) × (next ≢ 0)
  leads label node next e in_it =
      let g = places parameters count body formed in
      let l = last parameters count body formed in
      let full = filled parameters count body formed in
      let p = placed g l full label node e in
      let among : Contains (map (λ k. l - k) (rtl.successors p.node)) next = subst (λ ns. Contains ns next) (ap rtl.successors p.is ∙ successors_renamed (λ k. l - k) p.node) in_it in
      let s = below_of (λ k. l - k) l (rtl.successors p.node) next (none_leads_to_entry count body p.place p.node p.stands) among in
      let far = long parameters count body formed in
      let low = s.1 in
      let within : s.0 < length g = omega arith in
      let there = filled_at g full s.0 within in
      let back = s.2 in
      let found : rtl.node_at (generated_rtl parameters count body).nodes next ≡ Some (renamed (λ k. l - k) there.0) = ap (rtl.node_at (generated_rtl parameters count body).nodes) back ∙ turned_node g l full far s.0 there.0 within there.1 in
      (ap is_some found, λ (z : next ≡ 0). omega arith)

  -- the function has the counted number of nodes
  pub many : length (generated_rtl parameters count body).nodes ≡ function_nodes body
  many = long_labelled (last parameters count body formed) 0 (nodes_back (places parameters count body formed)) ∙ as_many (places parameters count body formed) (filled parameters count body formed) ∙ (function_right count body formed).1

  pub is_rtl : function_nodes body ≤ rtl.most_nodes → rtl.IsRtl (generated_rtl parameters count body)
  is_rtl few =
      let is = generated_code parameters count body formed in
      record {
        few = subst (λ n. n ≤ rtl.most_nodes) (sym many) few;
        ascend = ascends (last parameters count body formed) 0 (nodes_back (places parameters count body formed));
        begins = (is.first, is.nop);
        leads = leads;
      }
