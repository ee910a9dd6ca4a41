use Rattle.std.proofs.Common.{arith, ◌≡◌, List, [], ◌∷◌, ◌++◌, length, sym, ap, subst, ◌∙◌, length-append, rules}
use Rattle.std.proofs.lemmas.List.Elements.{All-nil, All-push}
use Rattle.std.specs.Prelude.{All}
use Rattle.cc_ast.specs.Parse.{SpellsText}
use Rattle.cc_ast.specs.Source.{source}
use Rattle.cc_ast.specs.declared.unit.Unit as parsed
use Rattle.cc_types.specs.Checked.{IsChecked}
use Rattle.cc_emit.specs.Piece.{Piece}
use Rattle.cc_link.specs.Made.{IsCompiled}
use Rattle.cc_link.specs.Pieces.{AreFromIn}
use Rattle.cc_pool.proofs.Pieces.{one_from, refusal_of}
use Rattle.cc_pool.proofs.ordering.in_order.Goals as goal

pub loop-function-init : goal.loop-function-init
loop-function-init c =
    let none : c.new-pieces.result.items ≡ [] = search rules in
    record {
      count = ap length none;
      own = subst (λ (ps : List Piece). AreFromIn c.args.mode c.args.text.now 0 ps) (sym none) tt;
      compiled = subst (λ (ps : List Piece). All IsCompiled ps) (sym none) (All-nil IsCompiled);
    }

pub loop-function-preserved : goal.loop-function-preserved
loop-function-preserved c =
    let text = c.args.text.now in
    let h = c.loop-function.invariant in
    let p = c.in-Some.piece in
    let is = c.in-Some.ensures in
    let one : c.deref-other.result.now ≡ p.unit = c.deref-other.ensures ∙ c.unit.ensures.answer in
    let tree = c.externals-kept.ensures in
    let compiled : IsCompiled p = record {
      spelled = subst (λ (u : parsed.Unit). ∥ SpellsText (source u).text (source u).externals ∥₁) one tree.spelled;
      checked = subst (λ (u : parsed.Unit). IsChecked (source u)) one (record { typed = tree.typed; limits = tree.limits });
      of_unit = c.items-kept.ensures.piece;
    } in
    let items : c.push.new.self.items ≡ c.loop-function.pieces.items ++ p ∷ [] = search rules in
    record {
      count = ap length items ∙ omega (arith, length-append c.loop-function.pieces.items (p ∷ []), h.count);
      own = subst (λ (ps : List Piece). AreFromIn c.args.mode text 0 ps) (sym items) (one_from c.args.mode text 0 c.loop-function.pieces.items p h.own is.0 (is.1 ∙ omega (arith, h.count)));
      compiled = subst (λ (ps : List Piece). All IsCompiled ps) (sym items) (All-push IsCompiled c.loop-function.pieces.items p h.compiled compiled);
    }

pub returns-in_default-clause-refused : goal.returns-in_default-clause-refused
returns-in_default-clause-refused c =
    let h = c.loop-function.invariant in
    refusal_of c.args.mode c.args.text.now c.loop-function.function c.loop-function.pieces.items c.reason.result h.own h.compiled h.count c.reason.ensures
