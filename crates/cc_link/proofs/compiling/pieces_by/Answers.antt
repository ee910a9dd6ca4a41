use Rattle.std.proofs.Common.{inl, inr, rules, arith, ◌≡◌, ◌<◌, ◌+◌, List, [], ◌∷◌, ◌++◌, length, sym, ap, subst, ◌∙◌}
use Rattle.std.proofs.lemmas.Bool.{cases_lt}
use Rattle.std.proofs.lemmas.List.Elements.{All-push}
use Rattle.std.specs.Prelude.{All}
use Rattle.std.specs.Arc.{arc_value}
use Rattle.cc_ast.specs.Source.{source}
use Rattle.cc_ast.specs.declared.unit.Unit.{Unit}
use Rattle.cc_ast.specs.Parse.{SpellsText}
use Rattle.cc_types.specs.Checked.{IsChecked}
use Rattle.cc_types.specs.Typed.{defined_names}
use Rattle.cc_c_semantics.specs.Meaning.{functions}
use Rattle.cc_emit.specs.Piece.{Piece}
use Rattle.cc_link.specs.Made.{IsCompiled}
use Rattle.cc_link.specs.Pieces.{AreFromIn}
use Rattle.cc_link.proofs.Deciding.{defined_long}
use Rattle.cc_link.proofs.Own.{one_from}
use Rattle.cc_link.proofs.Ordering.{compiled_of}
use Rattle.cc_link.proofs.compiling.pieces_by.Goals as goal

pub returns-in-Err-clause-refused : goal.returns-in-Err-clause-refused
returns-in-Err-clause-refused c =
    let s = source (arc_value c.args.unit.now) in
    let count : c.functions-count.result ≡ length (functions s.externals) = c.functions-count.ensures ∙ ap (λ (u : Unit). length (defined_names (source u))) c.deref.ensures ∙ defined_long s in
    let below : c.loop-function.function < c.functions-count.result = search rules in
    (c.loop-function.function, omega (arith, count, below), c.in-Err.ensures.refused, c.loop-function.invariant.made)

pub returns-then-is_err-clause-refused : goal.returns-then-is_err-clause-refused
returns-then-is_err-clause-refused c =
    let s = source (arc_value c.args.unit.now) in
    let count : c.functions-count.result ≡ length (functions s.externals) = c.functions-count.ensures ∙ ap (λ (u : Unit). length (defined_names (source u))) c.deref.ensures ∙ defined_long s in
    let below : c.loop-function.function < c.functions-count.result = search rules in
    (c.loop-function.function, omega (arith, count, below), tt, c.loop-function.invariant.made)

pub loop-function-preserved : goal.loop-function-preserved
loop-function-preserved c =
    let text = (source (arc_value c.args.unit.now)).text in
    let items : c.push.new.self.items ≡ c.loop-function.pieces.items ++ c.in-Ok.piece ∷ [] = search rules in
    let whose : (source c.in-Ok.piece.unit).text ≡ text = ap (λ u. (source u).text) c.in-Ok.ensures.unit in
    let compiled : IsCompiled c.in-Ok.piece =
    compiled_of (arc_value c.args.unit.now) c.in-Ok.piece c.in-Ok.ensures.unit (subst (λ (u : Unit). ∥ SpellsText (source u).text (source u).externals ∥₁) c.deref-2.ensures c.externals-kept.ensures.spelled)
    (subst (λ (u : Unit). IsChecked (source u)) c.deref-2.ensures (record { typed = c.externals-kept.ensures.typed; limits = c.externals-kept.ensures.limits })) c.items-kept.ensures.piece in
    let which : c.in-Ok.piece.function ≡ 0 + length c.loop-function.pieces.items = let f = c.in-Ok.ensures.function in let n = c.loop-function.invariant.count in omega (arith, f, n) in
    record {
      own = subst (λ (ps : List Piece). AreFromIn c.args.mode text 0 ps) (sym items) (one_from c.args.mode text 0 c.loop-function.pieces.items c.in-Ok.piece c.loop-function.invariant.own c.in-Ok.ensures.mode whose which);
      count = search rules;
      compiled = subst (λ (ps : List Piece). All IsCompiled ps) (sym items) (All-push IsCompiled c.loop-function.pieces.items c.in-Ok.piece c.loop-function.invariant.compiled compiled);
      made = λ g less. elim (cases_lt g c.loop-function.function) [
        | inl lower ↦ c.loop-function.invariant.made g lower
        | inr here ↦ record {
          piece = c.in-Ok.piece;
          compiled = compiled;
          mode_is = c.in-Ok.ensures.mode;
          text_is = whose;
          function_is = c.in-Ok.ensures.function ∙ omega (arith, here, less);
        }
      ];
    }

pub returns-clause-count : goal.returns-clause-count
returns-clause-count c =
    let s = source (arc_value c.args.unit.now) in
    let count : c.functions-count.result ≡ length (functions s.externals) = c.functions-count.ensures ∙ ap (λ (u : Unit). length (defined_names (source u))) c.deref.ensures ∙ defined_long s in
    let all : c.loop-function.function ≡ c.functions-count.result = search rules in
    c.loop-function.invariant.count ∙ all ∙ count
