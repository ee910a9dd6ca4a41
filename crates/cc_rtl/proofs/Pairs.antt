-- What is generated from a function's Cminor is a pair of RTL.
use Rattle.std.proofs.Common.{◌≡◌, ℕ, suc, ◌<◌, ◌≤◌, List, length, Some, slice_get, sym, ap, ◌∙◌, subst}
use Rattle.cc_ast.specs.declared.unit.Unit as parsed
use Rattle.cc_types.specs.Typed.{IsTyped}
use Rattle.cc_c_semantics.specs.Meaning.{functions}
use Rattle.cc_c_semantics.specs.Resolved.{arities}
use Rattle.cc_c_semantics.specs.declared.mode.Mode.{Mode}
use Rattle.cc_simulation.proofs.Simulating.{coarser}
use Rattle.cc_cminor_language.specs.Code.{statement_of}
use Rattle.cc_cminor_language.specs.Pair as cminor
use Rattle.cc_cminor_language.specs.declared.code.Statement as written
use Rattle.cc_rtl_language.specs.Rtl as rtl
use Rattle.cc_rtl_language.specs.Pair.{IsPair, AreCalls, KeepsUp}
use Rattle.cc_rtl.specs.Size.{function_nodes}
use Rattle.cc_rtl.specs.internal.Generate.{IsFormed, generated_rtl}
use Rattle.cc_rtl.specs.internal.Generating.{generated_nodes}
use Rattle.cc_cminor_language.specs.Variables.{above_statement}
use Rattle.cc_rtl.proofs.Called.{generated_calls}
use Rattle.cc_rtl.proofs.Function.{generated_tracks}
use Rattle.cc_rtl.proofs.Kept.{many, is_rtl}
use Rattle.cc_rtl.proofs.Sizes.{formed_above}
use Rattle.cc_rtl.proofs.Statements.{size}

-- the nodes that the code made for a pair of Cminor
module _ (p : cminor.Pair) (s : written.Statement) (parameters count : ℕ) (nodes : List rtl.Labelled) (code_is : s ≡ p.statement) (count_is : count ≡ above_statement parameters (statement_of s))
    (nodes_are : nodes ≡ generated_nodes count (statement_of s)) (few : function_nodes (statement_of s) ≤ rtl.most_nodes) where
  formed : IsFormed count (statement_of s)
  formed = subst (λ k. IsFormed k (statement_of s)) (sym count_is) (formed_above parameters (statement_of s))

  same : generated_rtl parameters count (statement_of s) ≡ record { parameters = parameters; entry = 0; nodes = nodes }
  same = ap {B = rtl.Rtl} (λ ns. record { parameters = parameters; entry = 0; nodes = ns }) (sym nodes_are)

  pub rtl_made : rtl.IsRtl (record { parameters = parameters; entry = 0; nodes = nodes })
  rtl_made = subst rtl.IsRtl same (is_rtl parameters count (statement_of s) formed few)

  pub as_many_nodes : length nodes ≡ function_nodes (cminor.code_of p)
  as_many_nodes = ap {A = rtl.Rtl} (λ r. length r.nodes) (sym same) ∙ many parameters count (statement_of s) formed ∙ ap (λ t. function_nodes (statement_of t)) code_is

  pub pair_made : (mode : Mode) (unit : parsed.Unit) (f : ℕ) → mode ≡ p.mode → unit ≡ p.unit → f ≡ p.function → IsTyped (cminor.tree_of p) → p.function < length (functions (cminor.tree_of p)) → slice_get (arities (cminor.tree_of p)) p.function ≡ Some parameters
      → cminor.AreCalls (cminor.tree_of p) (cminor.code_of p) → cminor.KeepsUp p.mode (cminor.tree_of p) p.function (cminor.code_of p)
      → IsPair (record { mode = mode; unit = unit; function = f; rtl = record { parameters = parameters; entry = 0; nodes = nodes } })
  pair_made mode unit f mode_is unit_is function_is typed below parameters_are calls keeps =
      let made : IsPair (record { mode = p.mode; unit = p.unit; function = p.function; rtl = record { parameters = parameters; entry = 0; nodes = nodes } }) = record {
        typed = typed;
        function = below;
        rtl = rtl_made;
        parameters = parameters_are;
        calls = subst (AreCalls (cminor.tree_of p)) same (generated_calls (cminor.tree_of p) parameters count (statement_of s) formed (subst (λ t. cminor.AreCalls (cminor.tree_of p) (statement_of t)) (sym code_is) calls));
        keeps_up =
            subst (KeepsUp p.mode (cminor.tree_of p) p.function) same
            (coarser 1 (suc (size (statement_of s))), λ meaning is. generated_tracks parameters count (statement_of s) formed meaning p.function 1 (subst (λ t. cminor.KeepsUp p.mode (cminor.tree_of p) p.function (statement_of t)) (sym code_is) keeps meaning is));
      } in
      subst (λ m. IsPair (record { mode = m; unit = unit; function = f; rtl = record { parameters = parameters; entry = 0; nodes = nodes } })) (sym mode_is)
      (subst (λ u. IsPair (record { mode = p.mode; unit = u; function = f; rtl = record { parameters = parameters; entry = 0; nodes = nodes } })) (sym unit_is)
      (subst (λ k. IsPair (record { mode = p.mode; unit = p.unit; function = k; rtl = record { parameters = parameters; entry = 0; nodes = nodes } })) (sym function_is) made))
