use Rattle.std.proofs.Common.{◌≡◌, sym, subst, ◌∙◌}
use Rattle.cc_ast.specs.Parse.{SpellsText}
use Rattle.cc_types.specs.Checked.{IsChecked}
use Rattle.cc_emit.specs.Piece.{IsPieceOfUnit}
use Rattle.cc_link.specs.Made.{IsCompiled}
use Rattle.cc_ast.specs.Source.{source}
use Rattle.cc_ast.specs.declared.unit.Unit as parsed
use Rattle.cc_link.proofs.Ordering.{stranger_next, kept_next}
use Rattle.cc_link.proofs.order.stranger.Goals as goal

pub loop-at-preserved : goal.loop-at-preserved
loop-at-preserved c =
    let one : c.deref-other.result.now ≡ c.index-pieces-at.result.now.unit = c.deref-other.ensures ∙ c.unit.ensures.answer in
    let tree = c.externals-kept.ensures in
    record {
      left = c.loop-at.invariant.left ∙ stranger_next c.args.mode c.args.text.now c.loop-at.at c.args.pieces.now c.index-pieces-at.result c.loop-at-test.true c.index-pieces-at.is (sym c.is_own.ensures ∙ c.if-not-is_own.false);
      kept = kept_next IsPieceOfUnit c.args.pieces.now c.loop-at.at c.index-pieces-at.result c.loop-at-test.true c.index-pieces-at.is c.items-kept.ensures.piece c.loop-at.invariant.kept;
      compiled = kept_next IsCompiled c.args.pieces.now c.loop-at.at c.index-pieces-at.result c.loop-at-test.true c.index-pieces-at.is
          (record {
            spelled = subst (λ (u : parsed.Unit). ∥ SpellsText (source u).text (source u).externals ∥₁) one tree.spelled;
            checked = subst (λ (u : parsed.Unit). IsChecked (source u)) one (record { typed = tree.typed; limits = tree.limits });
            of_unit = c.items-kept.ensures.piece;
          }) c.loop-at.invariant.compiled;
    }
