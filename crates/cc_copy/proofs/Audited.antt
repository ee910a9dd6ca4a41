-- What is known about the audited names after one more name.
use Rattle.std.proofs.Common.{◌≡◌, ℕ, ◌+◌, ◌<◌, List, [], ◌∷◌, ◌++◌, length, take, get_or, sym, ap, subst, ◌∙◌, append_assoc, append-nil}
use Rattle.std.proofs.lemmas.List.{take_more}
use Rattle.cc_link.specs.declared.audit_answer.Audit.{Audit}
use Rattle.cc_library.specs.Apply.{Units}
use Rattle.cc_copy.specs.declared.judging.Judged.{Judged}
use Rattle.cc_copy.specs.Choice.{AreAudits, IsAuditOf, confirmed_of, if_confirmed, if_left_out, left_out_of}
use Rattle.cc_copy.specs.internal.Judged.{IsJudged}

audits_push : (units : Units) (names : List (List ℕ)) (audits : List Audit) (name : List ℕ) (audit : Audit) → AreAudits units names audits → IsAuditOf units name audit
    → AreAudits units (names ++ name ∷ []) (audits ++ audit ∷ [])
audits_push units [] [] name audit all one = (one, tt)
audits_push units [] (a ∷ audits) name audit all one = absurd all
audits_push units (n ∷ names) [] name audit all one = absurd all
audits_push units (n ∷ names) (a ∷ audits) name audit all one = (all.0, audits_push units names audits name audit all.1 one)

confirmed_push : (units : Units) (names : List (List ℕ)) (audits : List Audit) (name : List ℕ) (audit : Audit) → AreAudits units names audits
    → confirmed_of (names ++ name ∷ []) (audits ++ audit ∷ []) ≡ confirmed_of names audits ++ if_confirmed name audit
confirmed_push units [] [] name audit all = append-nil (if_confirmed name audit)
confirmed_push units [] (a ∷ audits) name audit all = absurd all
confirmed_push units (n ∷ names) [] name audit all = absurd all
confirmed_push units (n ∷ names) (a ∷ audits) name audit all =
    ap (λ l. if_confirmed n a ++ l) (confirmed_push units names audits name audit all.1) ∙ sym (append_assoc (if_confirmed n a) (confirmed_of names audits) (if_confirmed name audit))

left_out_push : (units : Units) (names : List (List ℕ)) (audits : List Audit) (name : List ℕ) (audit : Audit) → AreAudits units names audits
    → left_out_of (names ++ name ∷ []) (audits ++ audit ∷ []) ≡ left_out_of names audits ++ if_left_out name audit
left_out_push units [] [] name audit all = append-nil (if_left_out name audit)
left_out_push units [] (a ∷ audits) name audit all = absurd all
left_out_push units (n ∷ names) [] name audit all = absurd all
left_out_push units (n ∷ names) (a ∷ audits) name audit all =
    ap (λ l. if_left_out n a ++ l) (left_out_push units names audits name audit all.1) ∙ sym (append_assoc (if_left_out n a) (left_out_of names audits) (if_left_out name audit))

-- if one more name is put according to the audit of its unit, the names so far are judged
pub judged_more : (units : Units) (names : List (List ℕ)) (i : ℕ) (name : List ℕ) (audit : Audit) (old new : Judged) → i < length names → name ≡ get_or names i name → IsAuditOf units name audit
    → new.confirmed.items ≡ old.confirmed.items ++ if_confirmed name audit → new.left_out.items ≡ old.left_out.items ++ if_left_out name audit
    → IsJudged units (take i names) old → IsJudged units (take (i + 1) names) new
judged_more units names i name audit old new within is one confirmed left_out before =
    let more : take i names ++ name ∷ [] ≡ take (i + 1) names = ap (λ x. take i names ++ x ∷ []) is ∙ sym (take_more names i name within) in
    subst (λ (l : List (List ℕ)). IsJudged units l new) more (record {
      audits = before.audits ++ audit ∷ [];
      says = audits_push units (take i names) before.audits name audit before.says one;
      confirmed = confirmed ∙ (ap (λ l. l ++ if_confirmed name audit) before.confirmed ∙ sym (confirmed_push units (take i names) before.audits name audit before.says));
      left_out = left_out ∙ (ap (λ l. l ++ if_left_out name audit) before.left_out ∙ sym (left_out_push units (take i names) before.audits name audit before.says));
    })
