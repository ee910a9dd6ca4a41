-- From a pair of Linear to a pair of Selected: the run of the steps made from a function's items keeps up with the function. Its
-- rate is twice that of the items, times the number of steps before constants were left out, and again times the number before
-- comparisons were joined.
use Rattle.std.proofs.Common.{ℕ, ◌≤◌, List, length, None}
use Rattle.cc_ast.specs.Tree.{External}
use Rattle.cc_types.specs.Typed.{IsWithinLimits}
use Rattle.cc_linear_language.specs.Meaning.{functions}
use Rattle.cc_c_semantics.specs.declared.mode.Mode.{Mode}
use Rattle.cc_simulation.specs.Meaning.{Meaning}
use Rattle.cc_simulation.specs.Tracks.{TracksForAll}
use Rattle.cc_simulation.proofs.Simulating.{coarser}
use Rattle.cc_linear_language.specs.declared.item.LinearItem.{LinearItem}
use Rattle.cc_linear_language.specs.Linear.{labels, linear_move, linear_output, linear_start}
use Rattle.cc_linear_language.specs.Pair as above
use Rattle.cc_select.specs.declared.step.Step.{Step}
use Rattle.cc_select.specs.Selected.{selected_move, selected_output, selected_start}
use Rattle.cc_select.specs.Known.{unknown, chosen}
use Rattle.cc_select.specs.Near.{nearer}
use Rattle.cc_select.specs.Threading.{threaded}
use Rattle.cc_select.specs.Table.{table}
use Rattle.cc_select.specs.Selection.{lean, trimmed, selected}
use Rattle.cc_select.specs.Pair.{IsPair, KeepsUp}
use Rattle.cc_select.proofs.Settled.{is_settled}
use Rattle.cc_select.proofs.Tests.{Distinct}
use Rattle.cc_select.proofs.Threaded.{threaded_tracks}
use Rattle.cc_select.proofs.Choosing.{chosen_tracks}
use Rattle.cc_select.proofs.Nearing.{near_tracks}
use Rattle.cc_select.proofs.Lean.{lean_settled, lean_tracks}
use Rattle.cc_select.proofs.Fused.{fused_tracks}
use Rattle.cc_select.proofs.Fit.{is_selected}
use Rattle.cc_select.proofs.Parameters.{few_of_meaning}

-- the rate of the steps without dead constants, with comparisons joined
abbrev trimmed_rate : (rate : ℕ) → List Step → ℕ
trimmed_rate rate steps = coarser (coarser rate (length steps)) (length (lean (table steps) steps))

trimmed_tracks : (meaning : Meaning) (f rate slots : ℕ) (steps : List Step) → ((g : ℕ) → meaning.arity g ≤ 8) → TracksForAll meaning f rate (selected_move meaning.arity steps) selected_output (selected_start slots steps)
    → TracksForAll meaning f (trimmed_rate rate steps) (selected_move meaning.arity (trimmed steps)) selected_output (selected_start slots (trimmed steps))
trimmed_tracks meaning f rate slots steps few keeps =
    let at = table steps in
    let settled = is_settled steps in
    fused_tracks meaning f (coarser rate (length steps)) slots (lean at steps) at (lean_settled at steps settled) few (lean_tracks meaning f rate slots steps at settled few keeps)

abbrev selected_rate : (rate : ℕ) → List LinearItem → ℕ
selected_rate rate items = trimmed_rate (coarser rate 1) (nearer None (chosen unknown (threaded items)))

pub selected_tracks : (meaning : Meaning) (f rate slots : ℕ) (items : List LinearItem) → Distinct (labels items) → ((g : ℕ) → meaning.arity g ≤ 8)
    → TracksForAll meaning f rate (linear_move meaning.arity items) linear_output (linear_start slots items)
    → TracksForAll meaning f (selected_rate rate items) (selected_move meaning.arity (selected items)) selected_output (selected_start slots (selected items))
selected_tracks meaning f rate slots items distinct few keeps =
    trimmed_tracks meaning f (coarser rate 1) slots (nearer None (chosen unknown (threaded items))) few
    (near_tracks meaning f (coarser rate 1) slots (chosen unknown (threaded items)) (chosen_tracks meaning f (coarser rate 1) slots (threaded items) (threaded_tracks meaning f rate slots items distinct keeps)))

pub keeps_up_selected : (mode : Mode) (unit : List External) (f slots : ℕ) (items : List LinearItem) → IsWithinLimits unit → Distinct (labels items) → above.KeepsUp mode unit f slots items → KeepsUp mode unit f slots (selected items)
keeps_up_selected mode unit f slots items limits distinct (rate, keeps) = (
  selected_rate rate items,
  λ meaning is. selected_tracks meaning f rate slots items distinct (few_of_meaning unit meaning limits is) (keeps meaning is),
)

-- a pair of Linear becomes a pair of Selected, given what `TypedUnit::externals` says about the unit's limits
pub pair_selected : (p : above.Pair) → above.IsPair p → IsWithinLimits (above.tree_of p) → IsPair (record { mode = p.mode; unit = p.unit; function = p.function; ltl = p.ltl; code = selected p.code })
pair_selected p is limits =
    let unit = above.tree_of p in
    record {
      typed = is.typed;
      function = is.function;
      ltl = is.ltl;
      few = is.few;
      ltl_keeps_up = is.ltl_keeps_up;
      selected = is_selected p.ltl.slots (length (functions unit)) p.code is.linear;
      keeps_up = keeps_up_selected p.mode unit p.function p.ltl.slots p.code limits is.linear.distinct is.keeps_up;
    }
