-- The names whose units were audited.
use Rattle.std.specs.Prelude.{◌≡◌, ℕ, List}
use Rattle.cc_link.specs.declared.audit_answer.Audit.{Audit}
use Rattle.cc_library.specs.Apply.{Units}
use Rattle.cc_copy.specs.declared.judging.Judged.{Judged}
use Rattle.cc_copy.specs.Choice.{AreAudits, confirmed_of, left_out_of}

-- each name is among the confirmed ones, or is left out with the audit's result for its unit
pub record IsJudged (units : Units) (names : List (List ℕ)) (judged : Judged) : Type 0 where
  pub audits : List Audit
  pub says : AreAudits units names audits
  pub confirmed : judged.confirmed.items ≡ confirmed_of names audits
  pub left_out : judged.left_out.items ≡ left_out_of names audits
