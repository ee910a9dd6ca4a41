-- The part that fails differs from the same part of the unit that was made.
use Rattle.std.proofs.Common.{◌≡◌, false, true, refl, sym, ap, ◌∙◌, inl}
use Rattle.cc_unit.specs.declared.unit.StoredUnit.{StoredUnit}
use Rattle.cc_link.proofs.auditing.made_along.Goals as goal

pub returns-then-not-has_certificate-clause-failed : goal.returns-then-not-has_certificate-clause-failed
returns-then-not-has_certificate-clause-failed c = record {
  made = c.in-Ok.made;
  whole = c.in-Ok.ensures.whole;
  other = λ have. let d : false ≡ true = c.if-not-has_certificate.ensures.1 (ap (λ (u : StoredUnit). u.certificate) (c.deref.ensures ∙ c.stored.ensures.answer) ∙ have) in cc;
}

pub returns-then-not-has_image-clause-failed : goal.returns-then-not-has_image-clause-failed
returns-then-not-has_image-clause-failed c = inl (
    record {
      made = c.in-Ok.made;
      whole = c.in-Ok.ensures.whole;
      along = sym (ap (λ (u : StoredUnit). u.certificate) (c.deref.ensures ∙ c.stored.ensures.answer)) ∙ c.if-not-has_certificate.ensures.0 refl;
      other = λ have. let d : false ≡ true = c.if-not-has_image.ensures.1 (ap (λ (u : StoredUnit). u.image) (c.deref-2.ensures ∙ c.stored-2.ensures.answer) ∙ have) in cc;
    }
    )
