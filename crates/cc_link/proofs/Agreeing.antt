-- An image of the pieces of a unit agrees with the unit's text.
use Rattle.std.proofs.Common.{◌≡◌, ℕ, ◌-◌, ◌<◌, ◌≤◌, List, [], length, get_or, unwrap_or, refl, sym, ap, ◌∙◌, subst, arith}
use Rattle.cc_ast.specs.Tree.{External}
use Rattle.cc_types.specs.Typed.{IsTyped, IsWithinLimits}
use Rattle.cc_types.specs.Limits.{objects}
use Rattle.cc_types.specs.Verdict.{source_with}
use Rattle.cc_c_semantics.specs.Meaning.{functions, initial_globals}
use Rattle.cc_c_semantics.specs.declared.mode.Mode.{Mode}
use Rattle.cc_c_semantics.specs.Calls.{HasMain, main_of, first_shared, TypedUnitsHaveMain, ObjectsAreSized}
use Rattle.cc_c_semantics.specs.Numbered.{IsMeaning, objects_of, world_of, outcome_by_number, TypedUnitsHaveMeanings, ProgramsAreNumbered}
use Rattle.cc_simulation.specs.Behavior.{Outcome, AreWords, Follows}
use Rattle.cc_simulation.specs.Meaning.{Meaning}
use Rattle.cc_simulation.specs.World.{Size}
use Rattle.cc_emit.specs.declared.item.PieceItem.{PieceItem}
use Rattle.cc_emit.specs.Piece.{AreOf}
use Rattle.cc_link.specs.Agree.{image_behavior, behavior_in}
use Rattle.cc_rv32.specs.Machine.{stack_from, stack_to}
use Rattle.cc_link.specs.Stack.{backed_image_behavior, need}
use Rattle.cc_link.proofs.Enough.{need_enough, stack_with}
use Rattle.cc_link.specs.Link.{code_words, most_code}
use Rattle.cc_link.specs.Linked.{image_of}
use Rattle.cc_link.proofs.Laying.{laid_in_order, laid_out, total}
use Rattle.cc_link.proofs.Image.{called_behavior, linked_agrees, linked_backed}
use Rattle.cc_link.proofs.Sizes.{AllKept, few_words, image_are_words, kept_at, words_in_order}

module _ (meanings : TypedUnitsHaveMeanings) (mains : TypedUnitsHaveMain) (programs : ProgramsAreNumbered) (sized : ObjectsAreSized) where
  -- what a program shows in a mode is what the call of its main by number shows
  same_program : (mode : Mode) (text : List ℕ) (unit : List External) (main : HasMain unit) (meaning : Meaning) → IsMeaning mode unit meaning → (input : List ℕ) (n : ℕ)
      → called_behavior meaning (main_of unit) (objects_of (initial_globals unit)) input n ≡ behavior_in mode (source_with text unit) input n
  same_program mode text unit main meaning is input n =
      ap (λ (call : (n opened f : ℕ) → List ℕ → _ → _). outcome_by_number (call n 0 (main_of unit) [] (world_of (first_shared unit input)))) is.call
      ∙ sym (programs mode (source_with text unit) main input n)

  -- if there are items of each function, the image that they make follows what the program shows in the mode
  pub unit_follows : (mode : Mode) (text : List ℕ) (unit : List External) → IsTyped unit → IsWithinLimits unit → AllKept (objects unit) → (frames : List ℕ) (fs : List (List PieceItem)) → length fs ≡ length (functions unit) → code_words fs ≤ most_code
      → ((f : ℕ) → f < length (functions unit) → AreOf mode unit f (get_or frames f 0) (get_or fs f []))
      → (input : List ℕ) → AreWords input → Follows (behavior_in mode (source_with text unit) input) (image_behavior (image_of unit fs) input)
  unit_follows mode text unit typed limits kept frames fs count fits all input are =
      let made = meanings mode unit typed in
      let meaning = made.0 in
      let is = made.1 in
      let main = mains unit typed in
      let few : total meaning.objects ≤ 65536 = subst (λ (os : List Size). total os ≤ 65536) (sym is.objects) (few_words sized unit typed limits) in
      let below : main_of unit < meaning.functions = subst (λ n. main_of unit < n) (sym is.functions) main.below in
      let bare : meaning.arity (main_of unit) ≡ 0 = ap (λ (a : ℕ → ℕ). a (main_of unit)) is.arity ∙ ap (λ o. unwrap_or o 0) main.arity in
      subst (λ (a : ℕ → Outcome ℕ). Follows a (image_behavior (image_of unit fs) input)) (λ i. λ n. same_program mode text unit main meaning is input n i)
      (linked_agrees meaning few (main_of unit) fs below bare (count ∙ sym is.functions) fits (λ f. get_or frames f 0)
      (λ f lt. all f (subst (λ n. f < n) is.functions lt) meaning is (laid_out meaning.objects few) (laid_in_order meaning.objects few))
      (objects_of (initial_globals unit)) (sym is.objects) (kept_at (objects unit) kept) (image_of unit fs) refl (words_in_order unit) (image_are_words (objects unit) kept) input are)

  -- the image follows the program also on a board that backs only the stack that the image takes
  pub unit_backed : (mode : Mode) (text : List ℕ) (unit : List External) → IsTyped unit → IsWithinLimits unit → AllKept (objects unit) → (frames : List ℕ) (fs : List (List PieceItem)) → length fs ≡ length (functions unit) → code_words fs ≤ most_code
      → ((f : ℕ) → f < length (functions unit) → AreOf mode unit f (get_or frames f 0) (get_or fs f []))
      → (bytes : ℕ) → need frames fs 1024 (main_of unit) ≤ bytes → bytes ≤ stack_to - stack_from → (input : List ℕ) → AreWords input → Follows (behavior_in mode (source_with text unit) input) (backed_image_behavior bytes (image_of unit fs) input)
  unit_backed mode text unit typed limits kept frames fs count fits all bytes enough few_bytes input are =
      let made = meanings mode unit typed in
      let meaning = made.0 in
      let is = made.1 in
      let main = mains unit typed in
      let few : total meaning.objects ≤ 65536 = subst (λ (os : List Size). total os ≤ 65536) (sym is.objects) (few_words sized unit typed limits) in
      let below : main_of unit < meaning.functions = subst (λ n. main_of unit < n) (sym is.functions) main.below in
      let bare : meaning.arity (main_of unit) ≡ 0 = ap (λ (a : ℕ → ℕ). a (main_of unit)) is.arity ∙ ap (λ o. unwrap_or o 0) main.arity in
      subst (λ (a : ℕ → Outcome ℕ). Follows a (backed_image_behavior bytes (image_of unit fs) input)) (λ i. λ n. same_program mode text unit main meaning is input n i)
      (linked_backed meaning few (main_of unit) fs below bare (count ∙ sym is.functions) fits (stack_with bytes few_bytes frames fs) (λ f. get_or frames f 0)
      (λ f lt. all f (subst (λ n. f < n) is.functions lt) meaning is (laid_out meaning.objects few) (laid_in_order meaning.objects few))
      (λ f lt. need_enough frames fs f) (omega arith)
      (objects_of (initial_globals unit)) (sym is.objects) (kept_at (objects unit) kept) (image_of unit fs) refl (words_in_order unit) (image_are_words (objects unit) kept) input are)
