use Rattle.std.proofs.Common.{inl, inr, ℕ, List, subst}
use Rattle.cc_ast.specs.Source.{source}
use Rattle.cc_types.specs.Typed.{IsTypeRefusal}
use Rattle.cc_types.specs.Verdict.{source_with}
use Rattle.cc_link.proofs.text.typed_unit.Goals as goal

pub returns-in-Err-check-clause-refused : goal.returns-in-Err-check-clause-refused
returns-in-Err-check-clause-refused c =
    let s = source c.in-Ok.parsed in
    elim c.in-Err-check.ensures.refused [
      | inl e ↦ inl e
      | inr r ↦ inr (record {
        tree = s.externals;
        fits = c.in-Ok.ensures.fits;
        spelled = c.in-Ok.ensures.spelled;
        refused = subst (λ (t : List ℕ). IsTypeRefusal (source_with t s.externals) c.in-Err-check.fault) c.in-Ok.ensures.text r;
      })
    ]
