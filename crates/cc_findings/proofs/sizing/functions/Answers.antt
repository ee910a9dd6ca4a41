-- The one new function is the one that was pushed, and the next place is the one after it.
use Rattle.std.proofs.Common.{◌≡◌, ◌∙◌, ◌+◌, ◌*◌, ◌<◌, ℕ, List, [], ◌∷◌, ◌++◌, length, get_or, slice_get, Some, sym, ap, subst, rules, arith}
use Rattle.std.proofs.lemmas.Option.{slice_get-get_or}
use Rattle.cc_ast.specs.Source.{source}
use Rattle.cc_size.specs.declared.size.FunctionSize.{FunctionSize}
use Rattle.cc_findings.specs.Measured.{IsFunction, place_by}
use Rattle.cc_findings.specs.declared.sizing.SizedFunction.{SizedFunction}
use Rattle.cc_findings.proofs.Placing.{place_next, each_more}
use Rattle.cc_findings.proofs.sizing.functions.Goals as goal

-- the size that is read past the end of a list
abbrev none : FunctionSize
none = record { words = 0; frame = 0; stack = 0; calls = 0 }

pub loop-function-preserved : goal.loop-function-preserved
loop-function-preserved c =
    let i = c.loop-function.invariant in
    let f = c.loop-function.function in
    let sizes = c.args.sizes.now in
    let within : f < length sizes = search rules in
    let new : SizedFunction = record { name = c.in_ok-name.name; address = c.loop-function.address; size = get_or sizes f none } in
    let Is = IsFunction (source c.args.unit.now) sizes in record {
      count = search rules;
      each = subst (λ (all : List SizedFunction). (g : ℕ) (one : SizedFunction) → slice_get all g ≡ Some one → Is g one) (sym c.in_ok-push.ensures.items)
          (each_more Is c.loop-function.functions.items new i.each (subst (λ (k : ℕ). Is k new) (sym i.count) (record {
            name = c.function_name.ensures ∙ ap (λ (t : List ℕ). Some t) (sym c.in_ok-name.ensures.items);
            size = slice_get-get_or sizes f none within;
            address = i.address;
          })));
      address = c.in-Some.ensures ∙ ap (λ (a : ℕ). a + 4 * (get_or sizes f none).words) i.address ∙ sym (place_next sizes f none within);
    }
