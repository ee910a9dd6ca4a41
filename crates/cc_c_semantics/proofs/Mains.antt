-- A program's run is the call of main, which a typed unit defines without parameters.
use Rattle.std.proofs.Common.{◌≡◌, ℕ, suc, ◌<◌, [], length, Some, codes, refl, sym, ap, ◌∙◌, arith}
use Rattle.cc_c_semantics.specs.Meaning.{Run, Gives, Going, Wrong, functions, calls, initial_globals, outcome_of}
use Rattle.cc_c_semantics.specs.Function.{effect_of}
use Rattle.cc_c_semantics.specs.Calls.{main_of, outcome_of_effect, TypedUnitsHaveMain, ProgramsCallMain}
use Rattle.cc_layout.specs.Layout.{layout_of}
use Rattle.cc_c_semantics.proofs.Numbers.{as_many_names, name_of_number, number_below, function_of_name, arity_of_number}
use Rattle.cc_c_semantics.proofs.Bodies.{main_named, main_parameters}

outcome_effect : (r : Run ℕ) → outcome_of r ≡ outcome_of_effect (effect_of r)
outcome_effect (Gives w s) = refl
outcome_effect (Going output) = refl
outcome_effect (Wrong cause output) = refl

pub programs_call_main : ProgramsCallMain
programs_call_main source main input n =
    let unit = source.externals in
    outcome_effect (calls (suc n) (functions unit) 0 (codes "main") [] (record { locals = []; globals = initial_globals unit; input = input; output = []; steps = n }))
    ∙ ap (λ x. outcome_of_effect (effect_of (calls (suc n) (functions unit) 0 x [] (record { locals = []; globals = initial_globals unit; input = input; output = []; steps = n })))) (sym main.name)

pub typed_units_have_main : TypedUnitsHaveMain
typed_units_have_main unit typed =
    let has = main_named unit typed.1 in
    let g = function_of_name unit (codes "main") has in
    let below : main_of unit < length (functions unit) = omega (arith, number_below (layout_of unit).functions (codes "main") has, as_many_names unit) in
    record {
      below = below;
      name = name_of_number unit (codes "main") below;
      arity = arity_of_number unit (codes "main") g.0 g.1 ∙ ap Some (main_parameters unit typed g.0 g.1);
    }
