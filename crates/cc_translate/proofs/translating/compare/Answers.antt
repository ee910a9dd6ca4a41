use Rattle.std.proofs.Common.{List, ℕ, inl, inr, subst}
use Rattle.cc_ast.specs.Erase.{external_trees}
use Rattle.cc_ast.specs.Source.{source}
use Rattle.cc_ast.specs.Tree.{External}
use Rattle.cc_types.specs.Typed.{IsTypeRefusal}
use Rattle.cc_types.specs.Verdict.{source_with}
use Rattle.cc_wide.specs.Laws.{IsTranslation}
use Rattle.cc_wide_text.specs.Forms.{wide_unit}
use Rattle.cc_translate.proofs.translating.compare.Goals as goal

pub returns-in-Err-check-clause-refused : goal.returns-in-Err-check-clause-refused
returns-in-Err-check-clause-refused c =
    let marked = external_trees c.args.marked.now in
    let s = source c.in-Ok.unit in
    let t : IsTranslation (wide_unit marked) s.externals = subst (λ (z : List External). IsTranslation (wide_unit marked) z) c.externals.ensures.tree (c.is_translation.ensures.0 c.if-not-is_translation.false) in
    elim c.in-Err-check.ensures.refused [
      | inl e ↦ inl e
      | inr r ↦ inr (record {
        labels = c.keeps_labels.ensures.0 c.if-not-keeps_labels.false;
        tree = s.externals;
        spelled = c.in-Ok.ensures.spelled;
        translation = t;
        refused = subst (λ (x : List ℕ). IsTypeRefusal (source_with x s.externals) c.in-Err-check.fault) c.in-Ok.ensures.text r;
      })
    ]
