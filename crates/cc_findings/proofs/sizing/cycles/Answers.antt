-- The one new call is the one that was pushed.
use Rattle.std.proofs.Common.{◌≡◌, ◌<◌, ℕ, List, get_or, length, slice_get, Some, sym, subst, rules}
use Rattle.std.proofs.lemmas.Option.{slice_get-get_or}
use Rattle.cc_ast.specs.Source.{source}
use Rattle.cc_size.specs.declared.recursion.Recursion.{Recursion}
use Rattle.cc_findings.specs.Measured.{IsCycle}
use Rattle.cc_findings.specs.declared.sizing.CyclicCall.{CyclicCall}
use Rattle.cc_findings.proofs.Placing.{each_more}
use Rattle.cc_findings.proofs.sizing.cycles.Goals as goal

-- the call that is read past the end of a list
abbrev none : Recursion
none = record { caller = 0; called = 0 }

pub loop-call-preserved : goal.loop-call-preserved
loop-call-preserved c =
    let i = c.loop-call.invariant in
    let k = c.loop-call.call-index in
    let calls = c.args.calls.now in
    let within : k < length calls = search rules in
    let new : CyclicCall = record { caller = c.in_ok-caller.caller; called = c.in_ok-called.called } in
    let Is = IsCycle (source c.args.unit.now) calls in record {
      count = search rules;
      each = subst (λ (all : List CyclicCall). (g : ℕ) (one : CyclicCall) → slice_get all g ≡ Some one → Is g one) (sym c.in_ok-push.ensures.items)
          (each_more Is c.loop-call.cycles.items new i.each (subst (λ (n : ℕ). Is n new) (sym i.count) (record {
            of = get_or calls k none;
            call = slice_get-get_or calls k none within;
            caller = c.in_ok-caller.ensures;
            called = c.in_ok-called.ensures;
          })));
    }
