-- The guard pass puts a test into the code of the pair.
use Rattle.std.proofs.Common.{ℕ, ◌<◌, ◌∙◌, length, sym, subst}
use Rattle.std.proofs.lemmas.Bool.{not-false, not-true}
use Rattle.std.specs.Arc.{arc_value}
use Rattle.cc_ast.specs.Source.{source}
use Rattle.cc_ast.specs.declared.unit.Unit as parsed
use Rattle.cc_c_semantics.specs.Meaning.{functions}
use Rattle.cc_c_semantics.specs.Numbered.{objects_in}
use Rattle.cc_cminor_language.specs.Pair.{code_of, tree_of}
use Rattle.cc_cminor_language.specs.Variables.{above_statement}
use Rattle.cc_guard.specs.Guard.{has_guards}
use Rattle.cc_link.proofs.Deciding.{defined_long}
use Rattle.cc_safe.specs.Safe.{NeedsGuard}
use Rattle.cc_safe.proofs.guards.needs_guard.Goals as goal

pub returns-clause-needs : goal.returns-clause-needs
returns-clause-needs c = λ needs.
    let pair = c.in-Ok.pair in
    let unit = arc_value c.args.unit.now in
    let tests = has_guards (objects_in (tree_of pair)) (above_statement 0 (code_of pair)) (code_of pair) in
    let below : c.args.function < length (functions (source unit).externals) = subst (λ (n : ℕ). c.args.function < n) (defined_long (source unit)) c.requires in
    let of_pair : pair.function < length (functions (source unit).externals) =
    subst (λ (f : ℕ). f < length (functions (source unit).externals)) (sym c.in-Ok.ensures.function) below in
    let found : NeedsGuard (tree_of pair) pair.function = record {
      is_function = subst (λ (u : parsed.Unit). pair.function < length (functions (source u).externals)) (sym c.in-Ok.ensures.unit) of_pair;
      code = code_of pair;
      fails_alike = c.in-Ok.ensures.fails_alike;
      goes_wrong = c.in-Ok.ensures.goes_wrong;
      operations = c.in-Ok.ensures.operations;
      guards = not-false tests (sym c.in_ok-none.ensures.answer ∙ not-true c.in_ok-none.field-0 needs);
    } in
    subst (λ (u : parsed.Unit). NeedsGuard (source u).externals c.args.function) c.in-Ok.ensures.unit (subst (λ (f : ℕ). NeedsGuard (tree_of pair) f) c.in-Ok.ensures.function found)
