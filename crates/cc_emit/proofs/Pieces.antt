-- The code that a pair of selected steps becomes is a piece of its unit.
use Rattle.std.proofs.Common.{◌≡◌, ℕ, zero, suc, ◌+◌, ◌<◌, ◌≤◌, Bool, true, false, cond, Option, Some, None, List, [], ◌∷◌, ◌++◌, length, map, unwrap_or, slice_get, nat_lt, refl, sym, ap, ◌∙◌, subst, arith}
use Rattle.std.proofs.lemmas.Bool.Decides.{nat_tests}
use Rattle.std.specs.List.{AllByRecursion}
use Rattle.cc_ast.specs.Tree.{Parameter, Signature, External, Declaration, Definition, Objects}
use Rattle.cc_types.specs.Limits.{too_many, most_parameters, parameter_excesses, external_excesses, externals_excesses}
use Rattle.cc_types.specs.Typed.{IsTyped, IsWithinLimits}
use Rattle.cc_types.specs.Scope.{FileScope, file_scope_behind, first_file_scope}
use Rattle.cc_types.specs.declared.rule.RuleError.{RuleError}
use Rattle.cc_c_semantics.specs.Meaning.{Function, functions, functions_from, text_of}
use Rattle.cc_c_semantics.specs.Numbered.{arity_in, objects_in}
use Rattle.cc_simulation.specs.World.{Size}
use Rattle.cc_simulation.specs.Meaning.{Meaning}
use Rattle.cc_simulation.specs.Tracks.{TracksForAll}
use Rattle.cc_ltl.specs.Registers.{most_slots}
use Rattle.cc_select.specs.declared.step.Step.{Step}
use Rattle.cc_ltl.specs.Ltl.{IsLtl}
use Rattle.cc_linear_language.specs.Pair.{most_blocks, LtlKeepsUp}
use Rattle.cc_select.specs.Selected.{labels, IsStep, IsSelected, selected_move, selected_output, selected_start}
use Rattle.cc_select.specs.Pair as above
use Rattle.cc_emit.specs.declared.item.PieceItem.{PieceItem}
use Rattle.cc_emit.specs.Contract.{IsPiece, ObjectLayout}
use Rattle.cc_emit.specs.Early.{Early, early, early_from}
use Rattle.cc_emit.specs.Emission.{framed_items}
use Rattle.cc_emit.specs.Objects.{object_address}
use Rattle.cc_emit.specs.Frames.{Frame, frame_of, frame_size}
use Rattle.cc_emit.specs.Scratch.{nothing, addressed, gains}
use Rattle.cc_emit.specs.Function.{behind, early_items, function_items, whole_items}
use Rattle.cc_emit.specs.Piece.{AreOf, IsPieceOfUnit}
use Rattle.cc_emit.proofs.Choosing.{is_frame, are_fine}
use Rattle.cc_emit.proofs.Encoding.{framed_fit}
use Rattle.cc_emit.proofs.Emitted.{framed_meets}
use Rattle.cc_emit.proofs.Fine.{AreFine}
use Rattle.cc_emit.proofs.Headed.{early_says, head_fits, head_saves, rest_fits, saved_rest}
use Rattle.cc_emit.proofs.Earlier.{bare, bare_frame, behind_fit, early_meets}

-- ---- a function has at most eight parameters

prefix_none : (xs ys : List RuleError) → xs ++ ys ≡ [] → xs ≡ []
prefix_none [] ys e = refl
prefix_none (x ∷ xs) ys e = absurd (let z : x ∷ (xs ++ ys) ≡ [] = e in cc)

back_none : (xs ys : List RuleError) → xs ++ ys ≡ [] → ys ≡ []
back_none [] ys e = e
back_none (x ∷ xs) ys e = absurd (let z : x ∷ (xs ++ ys) ≡ [] = e in cc)

none_by : (b : Bool) (o : RuleError) → cond b (o ∷ []) [] ≡ [] → b ≡ false
none_by true o e = absurd (let z : o ∷ [] ≡ [] = e in cc)
none_by false o e = refl

few_of : (s : Signature) → parameter_excesses s ≡ [] → length s.parameters ≤ 8
few_of s e = let b = none_by (nat_lt most_parameters (length s.parameters)) (too_many s.name) e in grind (arith, nat_tests)

map_length : {A B : Type 0} (g : A → B) (xs : List A) → length (map g xs) ≡ length xs
map_length g [] = refl
map_length g (x ∷ xs) = ap suc (map_length g xs)

few_in : (externals : List External) (scope : FileScope) (g : ℕ) → externals_excesses externals ≡ [] → unwrap_or (slice_get (map (λ (h : Function). length h.parameters) (functions_from externals scope)) g) 0 ≤ 8
few_in [] scope g none = omega arith
few_in (Definition s body ∷ rest) scope zero none =
    subst (λ n. n ≤ 8) (sym (map_length (λ (p : Parameter). text_of p.name) s.parameters)) (few_of s (prefix_none (parameter_excesses s) _ (prefix_none (external_excesses (Definition s body)) (externals_excesses rest) none)))
few_in (Definition s body ∷ rest) scope (suc g) none = few_in rest (file_scope_behind (Definition s body) scope) g (back_none (external_excesses (Definition s body)) (externals_excesses rest) none)
few_in (Declaration s ∷ rest) scope g none = few_in rest (file_scope_behind (Declaration s) scope) g (back_none (external_excesses (Declaration s)) (externals_excesses rest) none)
few_in (Objects t os ∷ rest) scope g none = few_in rest (file_scope_behind (Objects t os) scope) g none

pub few_parameters : (unit : List External) → IsWithinLimits unit → (g : ℕ) → arity_in unit g ≤ 8
few_parameters unit limits g = few_in unit first_file_scope g (prefix_none (externals_excesses unit) _ limits)

-- ---- the piece

-- the items of a pair's steps
abbrev pub items_for : above.Pair → List PieceItem
items_for p = function_items (object_address (objects_in (above.tree_of p))) p.ltl.slots p.code

-- the number of bytes of the frame of a pair's steps
abbrev pub frame_for : above.Pair → ℕ
frame_for p = frame_size (frame_of false p.ltl.slots p.code)

-- the steps of a function, all in their frame, do what the function does
whole_does : (meaning : Meaning) (layout : ObjectLayout meaning.objects) (f rate slots : ℕ) (ls : List ℕ) (code : List Step) → TracksForAll meaning f rate (selected_move meaning.arity code) selected_output (selected_start slots code) → ((g : ℕ) → meaning.arity g ≤ 8) → AllByRecursion (IsStep slots meaning.functions ls) code → slots ≤ most_slots
    → IsPiece meaning layout f (frame_size (frame_of false slots code)) (whole_items layout.base slots code)
whole_does meaning layout f rate slots ls code keeps few fits le =
    let sets_pointer = gains layout.base code in
    let frame = frame_of sets_pointer slots code in
    let fine = are_fine meaning ls sets_pointer slots code few fits in
    let framed = is_frame sets_pointer slots code le in
    record { rate = rate + rate; meets = framed_meets meaning layout f rate frame code keeps framed fine; small = (let z = framed.small in omega arith); fit = framed_fit meaning layout.base frame code framed fine }

-- the steps of a function, some of them before the frame, do what the function does
early_does : (meaning : Meaning) (layout : ObjectLayout meaning.objects) (f rate slots : ℕ) (ls : List ℕ) (code : List Step) (e : Early) → early_from code code ≡ Some e → TracksForAll meaning f rate (selected_move meaning.arity code) selected_output (selected_start slots code) → ((g : ℕ) → meaning.arity g ≤ 8)
    → AllByRecursion (IsStep slots meaning.functions ls) code → slots ≤ most_slots → IsPiece meaning layout f (frame_size (frame_of false slots code)) (early_items layout.base slots (Some e) code)
early_does meaning layout f rate slots ls code e is keeps few fits le =
    let sets_pointer = gains layout.base e.rest in
    let frame = frame_of sets_pointer slots e.rest in
    let fine = are_fine meaning ls sets_pointer slots e.rest few (rest_fits slots meaning.functions ls code code e is fits) in
    let framed = is_frame sets_pointer slots e.rest le in
    let none : frame_of false 0 e.head ≡ bare = ap (λ (rs : List ℕ). record { sets_pointer = false; slots = 0; saved = rs }) (head_saves code code e is) in
    let fine_head : AreFine meaning bare e.head = subst (λ (x : Frame). AreFine meaning x e.head) none (are_fine meaning ls false 0 e.head few (head_fits slots meaning.functions ls code e is fits)) in
    let head = framed_items layout.base bare (addressed layout.base false nothing e.head) in
    let rest = framed_items layout.base frame (addressed layout.base sets_pointer nothing e.rest) in
    let piece : IsPiece meaning layout f (frame_size frame) (behind head rest) = record {
      rate = rate + rate;
      meets = early_meets meaning layout f rate code e frame is keeps framed fine fine_head;
      small = (let z = framed.small in omega arith);
      fit = behind_fit meaning.functions head rest (framed_fit meaning layout.base bare e.head bare_frame fine_head) (framed_fit meaning layout.base frame e.rest framed fine);
    } in
    let size : frame_size frame ≡ frame_size (frame_of false slots code) = ap (λ (rs : List ℕ). frame_size (record { sets_pointer = false; slots = slots; saved = rs })) (sym (saved_rest code code e is)) in
    subst (λ n. IsPiece meaning layout f n (early_items layout.base slots (Some e) code)) size
    (subst (λ (x : Frame). IsPiece meaning layout f (frame_size frame) (behind (framed_items layout.base x (addressed layout.base false nothing e.head)) rest)) (sym none) piece)

function_does : (meaning : Meaning) (layout : ObjectLayout meaning.objects) (f rate slots : ℕ) (ls : List ℕ) (code : List Step) → TracksForAll meaning f rate (selected_move meaning.arity code) selected_output (selected_start slots code) → ((g : ℕ) → meaning.arity g ≤ 8) → AllByRecursion (IsStep slots meaning.functions ls) code
    → slots ≤ most_slots → IsPiece meaning layout f (frame_size (frame_of false slots code)) (function_items layout.base slots code)
function_does meaning layout f rate slots ls code keeps few fits le = by (early slots code) refl
  where
    by : (z : Option Early) → early slots code ≡ z → IsPiece meaning layout f (frame_size (frame_of false slots code)) (early_items layout.base slots z code)
    by None q = whole_does meaning layout f rate slots ls code keeps few fits le
    by (Some e) q = early_does meaning layout f rate slots ls code e (early_says slots code e q) keeps few fits le

items_do : (p : above.Pair) → IsWithinLimits (above.tree_of p) → IsSelected p.ltl.slots (length (functions (above.tree_of p))) p.code → above.KeepsUp p.mode (above.tree_of p) p.function p.ltl.slots p.code
    → AreOf p.mode (above.tree_of p) p.function (frame_for p) (items_for p)
items_do p limits selected keeps meaning is layout in_order =
    let tree = above.tree_of p in
    let base : layout.base ≡ object_address (objects_in tree) = λ i g. (in_order g ∙ ap (λ (o : List Size). object_address o g) is.objects) i in
    let fits : AllByRecursion (IsStep p.ltl.slots meaning.functions (labels p.code)) p.code = subst (λ n. AllByRecursion (IsStep p.ltl.slots n (labels p.code)) p.code) (sym is.functions) selected.fit in
    let few : (g : ℕ) → meaning.arity g ≤ 8 = λ g. subst (λ (arity : ℕ → ℕ). arity g ≤ 8) (sym is.arity) (few_parameters tree limits g) in
    let piece = function_does meaning layout p.function keeps.0 p.ltl.slots (labels p.code) p.code (keeps.1 meaning is) few fits selected.few in
    subst (λ (b : ℕ → ℕ). IsPiece meaning layout p.function (frame_for p) (function_items b p.ltl.slots p.code)) base piece

frame_small : (p : above.Pair) → IsSelected p.ltl.slots (length (functions (above.tree_of p))) p.code → frame_for p ≤ 2032
frame_small p selected = let z = (is_frame false p.ltl.slots p.code selected.few).small in omega arith

-- what a pair becomes is a piece, given what `SelectedPair::code` and `into_parts` say about the pair, and the limits of its unit
pub piece_of : (p : above.Pair) → IsLtl p.ltl → length p.ltl.blocks ≤ most_blocks → LtlKeepsUp p.mode (above.tree_of p) p.function p.ltl → IsTyped (above.tree_of p) → IsWithinLimits (above.tree_of p) → p.function < length (functions (above.tree_of p)) → IsSelected p.ltl.slots (length (functions (above.tree_of p))) p.code → above.KeepsUp p.mode (above.tree_of p) p.function p.ltl.slots p.code
    → IsPieceOfUnit (record { mode = p.mode; unit = p.unit; function = p.function; ltl = p.ltl; frame = frame_for p; items = items_for p })
piece_of p is_ltl few ltl_keeps typed limits lt selected keeps = record { typed = typed; function = lt; ltl = is_ltl; few = few; small = frame_small p selected; ltl_keeps_up = ltl_keeps; items = items_do p limits selected keeps }
