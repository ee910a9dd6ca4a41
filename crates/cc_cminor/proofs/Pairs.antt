-- What a pair guarantees, and how small its code is, by the laws of the meaning for typed units.
use Rattle.std.proofs.Common.{◌≡◌, ℕ, ◌+◌, ◌*◌, ◌<◌, ◌≤◌, List, [], length, map, Some, slice_get, refl, sym, ap, subst, ◌∙◌, arith}
use Rattle.std.proofs.lemmas.List.{length-map}
use Rattle.cc_ast.specs.Tree.{Name, External, Definition}
use Rattle.cc_ast.specs.Source.{source}
use Rattle.cc_ast.specs.Grammar.{SpellsExternal}
use Rattle.cc_ast.specs.Parse.{SpellsText}
use Rattle.cc_types.specs.Limits.{locals, function_names}
use Rattle.cc_types.specs.Typed.{IsTyped, IsWithinLimits, defined_names}
use Rattle.cc_layout.specs.Layout.{layout_of}
use Rattle.cc_c_semantics.specs.Meaning.{Function, functions}
use Rattle.cc_c_semantics.specs.Calls.{CallsAreEffects, CallsKeepObjects, FunctionsAreNumbered, ObjectsAreNumbered, ObjectsAreSized}
use Rattle.cc_c_semantics.specs.declared.mode.Mode.{Mode}
use Rattle.cc_c_semantics.specs.declared.mode.Mode.TheVariants.{Plain}
use Rattle.cc_c_semantics.specs.Numbered.{CallsAreNumbered}
use Rattle.cc_c_semantics.specs.Resolved.{arities, FunctionsAreResolved}
use Rattle.cc_cminor_language.specs.Cminor.{Statement}
use Rattle.cc_cminor_language.specs.Pair.{Pair, tree_of, code_of, AreCalls, KeepsUp, FailsAlike, GoesWrong, IsPair}
use Rattle.cc_cminor_language.specs.Numbers.{most_variables, most_lowered, StatementBelow, StatementFits}
use Rattle.cc_cminor_language.specs.Exits.{ExitsFit}
use Rattle.cc_cminor_language.specs.Size.{statement_size, code_partials, AtMostTwelveAToken, AtMostOnePartialAToken}
use Rattle.cc_cminor.specs.internal.Lowering.{body_code}
use Rattle.cc_cminor.specs.internal.Lowered.{IsLowered}
use Rattle.cc_cminor.proofs.LoweredCalls.{body_calls}
use Rattle.cc_cminor.proofs.Counts.{body_size}
use Rattle.cc_cminor.proofs.Tokens.{definition_long}
use Rattle.cc_cminor.proofs.Longest.{text_short}
use Rattle.cc_cminor.proofs.Limits.{few_names, few_functions, few_objects}
use Rattle.cc_cminor.proofs.Fits.{body_fits, parameters_many}
use Rattle.cc_cminor.proofs.Below.{statement_below}
use Rattle.cc_cminor.proofs.Exits.{body_exits}
use Rattle.cc_cminor.proofs.Operations.{body_ops}
use Rattle.cc_cminor.proofs.Bodies.{lowered_keeps_up, lowered_fails_alike, lowered_goes_wrong}

module _ (functions_are : FunctionsAreNumbered) (resolved : FunctionsAreResolved) where
  -- the number of a defined function is below the number of functions in the unit
  numbered : (unit : List External) (f n : ℕ) → n ≡ length (layout_of unit).functions → f < n → f < length (functions unit)
  numbered unit f n e below =
      let many : length (functions unit) ≡ length (layout_of unit).functions =
      sym (length-map (functions unit) (λ (g : Function). g.name)) ∙ ap (λ (xs : List (List ℕ)). length xs) (functions_are unit) in
      omega arith

  many : (unit : List External) → length (arities unit) ≡ length (function_names unit)
  many unit =
      length-map (functions unit) (λ (g : Function). length g.parameters) ∙ sym (length-map (functions unit) (λ (g : Function). g.name))
      ∙ ap (λ (xs : List (List ℕ)). length xs) (functions_are unit) ∙ length-map (function_names unit) (λ (x : Name). x.text)

  lowered_fits : (text : List ℕ) (unit : List External) → ∥ SpellsText text unit ∥₁ → IsTyped unit → IsWithinLimits unit → (f : ℕ) → f < length (functions unit) → (s : Statement) → IsLowered unit f s → StatementBelow most_lowered s
  lowered_fits text unit spelled typed limits f below s low =
      let r = resolved unit typed f below in
      let names = few_names unit limits f r.signature r.body r.definition in
      let few = few_functions unit limits in
      let same = many unit in
      let start = ap (λ (xs : List (List ℕ)). length xs) r.locals ∙ parameters_many r.signature.parameters [] in
      subst (StatementBelow most_lowered) (sym (low r))
      (body_fits unit (layout_of unit) (omega arith) (few_objects unit typed limits) r.environment r.body r.layout r.resolved (omega (arith, names.0, names.1))
      (text_short text unit f r.signature r.body spelled r.definition))

  pub lowered_below : (text : List ℕ) (unit : List External) → ∥ SpellsText text unit ∥₁ → IsTyped unit → IsWithinLimits unit → (f : ℕ) → f < length (layout_of unit).functions → (s : Statement) → IsLowered unit f s → StatementBelow most_lowered s
  lowered_below text unit spelled typed limits f below s low = lowered_fits text unit spelled typed limits f (numbered unit f (length (layout_of unit).functions) refl below) s low

  pub lowered_operations : (unit : List External) → IsTyped unit → (f : ℕ) → f < length (layout_of unit).functions → (s : Statement) → IsLowered unit f s → AtMostOnePartialAToken unit f s
  lowered_operations unit typed f below s low = λ definition e tokens h.
      let r = resolved unit typed f (numbered unit f (length (layout_of unit).functions) refl below) in
      let is : ◌≡◌ {A = External} definition (Definition r.signature r.body) = let d = r.definition in cc in
      let long = definition_long r.signature r.body tokens (subst (λ (x : External). SpellsExternal tokens x) is h) in
      let few = body_ops (layout_of unit) r.environment r.body in
      subst (λ (x : Statement). code_partials x ≤ length tokens) (sym (low r)) (omega arith)

  pub lowered_is_small : (unit : List External) → IsTyped unit → (f : ℕ) → f < length (layout_of unit).functions → (s : Statement) → IsLowered unit f s → AtMostTwelveAToken unit f s
  lowered_is_small unit typed f below s low = λ definition e tokens h.
      let r = resolved unit typed f (numbered unit f (length (layout_of unit).functions) refl below) in
      let is : ◌≡◌ {A = External} definition (Definition r.signature r.body) = let d = r.definition in cc in
      let long = definition_long r.signature r.body tokens (subst (λ (x : External). SpellsExternal tokens x) is h) in
      let few = body_size (layout_of unit) r.environment r.body in
      subst (λ (x : Statement). statement_size x ≤ 12 * length tokens) (sym (low r)) (omega arith)

  pub lowered_exits : (unit : List External) → IsTyped unit → (f : ℕ) → f < length (layout_of unit).functions → (s : Statement) → IsLowered unit f s → ExitsFit 0 s
  lowered_exits unit typed f below s low =
      let r = resolved unit typed f (numbered unit f (length (layout_of unit).functions) refl below) in
      subst (ExitsFit 0) (sym (low r)) (body_exits (layout_of unit) r.environment r.body)

  module _ (effects : CallsAreEffects) (keep : CallsKeepObjects) (objects_are : ObjectsAreNumbered) (sized : ObjectsAreSized) (by_numbers : CallsAreNumbered) where
    pub pair_is : (p : Pair) → p.mode ≡ Plain → ∥ SpellsText (source p.unit).text (tree_of p) ∥₁ → IsTyped (tree_of p) → IsWithinLimits (tree_of p) → p.function < length (defined_names (source p.unit)) → IsLowered (tree_of p) p.function (code_of p) → IsPair p
    pair_is p plain spelled typed limits below low =
        let under = numbered (tree_of p) p.function (length (defined_names (source p.unit))) refl below in
        let r = resolved (tree_of p) typed p.function under in
        let same : body_code (layout_of (tree_of p)) r.environment r.body ≡ code_of p = sym (low r) in
        record {
          typed = typed;
          function = under;
          calls = subst (λ (x : Statement). AreCalls (tree_of p) x) same (body_calls (tree_of p) (layout_of (tree_of p)) r.environment r.body r.layout r.resolved);
          numbers = statement_below most_lowered most_variables (omega arith) (code_of p) (lowered_fits (source p.unit).text (tree_of p) spelled typed limits p.function under (code_of p) low);
          keeps_up = subst (λ (m : Mode). KeepsUp m (tree_of p) p.function (code_of p)) (sym plain) (subst (λ (x : Statement). KeepsUp Plain (tree_of p) p.function x) same (lowered_keeps_up effects keep functions_are objects_are sized by_numbers (tree_of p) typed p.function r));
        }

    pub lowered_alike : (unit : List External) → IsTyped unit → (f : ℕ) → f < length (layout_of unit).functions → (s : Statement) → IsLowered unit f s → FailsAlike unit f s × GoesWrong unit f s
    lowered_alike unit typed f below s low =
        let r = resolved unit typed f (numbered unit f (length (layout_of unit).functions) refl below) in
        subst (λ (x : Statement). FailsAlike unit f x × GoesWrong unit f x) (sym (low r))
        (lowered_fails_alike effects keep functions_are objects_are sized by_numbers unit typed f r, lowered_goes_wrong effects keep functions_are objects_are sized by_numbers unit typed f r)
