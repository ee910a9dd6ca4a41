-- The piece that `emit` returns is that of the pair that it was given.
use Rattle.std.proofs.Common.{◌≡◌, ℕ, false, List, refl, sym, ap, ◌∙◌, subst}
use Rattle.std.specs.List.{AllByRecursion}
use Rattle.cc_ast.specs.Tree.{External}
use Rattle.cc_ast.specs.declared.unit.Unit as parsed
use Rattle.cc_c_semantics.specs.declared.mode.Mode.{Mode}
use Rattle.cc_c_semantics.specs.Numbered.{objects_in}
use Rattle.cc_ltl.specs.Ltl.{Ltl}
use Rattle.cc_select.specs.declared.step.Step.{Step}
use Rattle.cc_select.specs.Selected.{labels, IsStep, IsSelected}
use Rattle.cc_select.specs.Pair as above
use Rattle.cc_emit.specs.declared.item.PieceItem.{PieceItem}
use Rattle.cc_emit.specs.Objects.{object_address}
use Rattle.cc_emit.specs.Frames.{frame_of, frame_size}
use Rattle.cc_emit.specs.Function.{pair_frame, pair_items, function_items}
use Rattle.cc_emit.specs.Piece.{IsPieceOfUnit}
use Rattle.cc_emit.specs.internal.Bases.{base_in}
use Rattle.cc_emit.proofs.Pieces.{frame_for, items_for}

pub fit_handed : (p : above.Pair) (n slots : ℕ) (code : List Step) → slots ≡ p.ltl.slots → code ≡ p.code → IsSelected p.ltl.slots n p.code → (functions : ℕ) × AllByRecursion (IsStep slots functions (labels code)) code
fit_handed p n slots code es ec is = (n, subst (λ s. AllByRecursion (IsStep s n (labels code)) code) (sym es) (subst (λ steps. AllByRecursion (IsStep p.ltl.slots n (labels steps)) steps) (sym ec) is.fit))

pub items_handed : (p : above.Pair) (bases : List ℕ) (slots : ℕ) (code : List Step) (items : List PieceItem) (tree : List External) → tree ≡ above.tree_of p → ((g : ℕ) → base_in bases g ≡ object_address (objects_in tree) g) → slots ≡ p.ltl.slots → code ≡ p.code
    → items ≡ function_items (base_in bases) slots code → items ≡ items_for p
items_handed p bases slots code items tree et same es ec e =
    let base : base_in bases ≡ object_address (objects_in (above.tree_of p)) = λ i g. (same g ∙ ap (λ t. object_address (objects_in t) g) et) i in
    e ∙ ap (λ (b : ℕ → ℕ). function_items b slots code) base ∙ ap (λ n. function_items (object_address (objects_in (above.tree_of p))) n code) es ∙ ap (function_items (object_address (objects_in (above.tree_of p))) p.ltl.slots) ec

pub frame_handed : (p : above.Pair) (slots : ℕ) (code : List Step) (n : ℕ) → slots ≡ p.ltl.slots → code ≡ p.code → n ≡ frame_size (frame_of false slots code) → n ≡ frame_for p
frame_handed p slots code n es ec en = en ∙ ap (λ k. frame_size (frame_of false k code)) es ∙ ap (λ (steps : List Step). frame_size (frame_of false p.ltl.slots steps)) ec

pub items_are : (p : above.Pair) → items_for p ≡ pair_items p
unfolding pair_items
items_are p = refl

pub frame_is : (p : above.Pair) → frame_for p ≡ pair_frame p
unfolding pair_frame
frame_is p = refl

pub piece_handed : (p : above.Pair) (m : Mode) (u : parsed.Unit) (f : ℕ) (ltl : Ltl) (frame : ℕ) (items : List PieceItem) → m ≡ p.mode → u ≡ p.unit → f ≡ p.function → ltl ≡ p.ltl → frame ≡ frame_for p → items ≡ items_for p
    → IsPieceOfUnit (record { mode = p.mode; unit = p.unit; function = p.function; ltl = p.ltl; frame = frame_for p; items = items_for p }) → IsPieceOfUnit (record { mode = m; unit = u; function = f; ltl = ltl; frame = frame; items = items })
piece_handed p m u f ltl frame items em eu ef el er ei is =
    let same : record { mode = m; unit = u; function = f; ltl = ltl; frame = frame; items = items } ≡ record { mode = p.mode; unit = p.unit; function = p.function; ltl = p.ltl; frame = frame_for p; items = items_for p } = λ i. record { mode = em i; unit = eu i; function = ef i; ltl = el i; frame = er i; items = ei i } in
    subst IsPieceOfUnit (sym same) is
