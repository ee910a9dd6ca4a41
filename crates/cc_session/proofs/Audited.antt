-- Auditing the listed names one by one is an audit of all units.
use Rattle.std.proofs.Common.{◌≡◌, ◌∙◌, ℕ, ◌+◌, ◌<◌, Bool, true, false, List, [], ◌∷◌, length, drop, get_or, Option, Result, Ok, Err, refl, sym, ap, subst, inl, inr}
use Rattle.std.specs.Prelude.{codes}
use Rattle.std.specs.Io.KnownBytes.{append_known}
use Rattle.std.proofs.lemmas.List.{drop_more}
use Rattle.cc_answers.specs.Text.{line}
use Rattle.cc_answers.specs.Telling.{Tells}
use Rattle.cc_script.specs.declared.fault.ScriptFault.{ScriptFault}
use Rattle.cc_script.specs.declared.fault.ScriptFault.TheVariants.{WriteFault}
use Rattle.cc_history.specs.declared.entry.Receipt.{Receipt}
use Rattle.cc_history.specs.declared.reply.Reply.TheVariants as reply
use Rattle.cc_history.specs.History.{MemberView}
use Rattle.cc_c_semantics.specs.declared.mode.Mode.{Mode}
use Rattle.cc_service.specs.Serving.{GetAnswers, ListAnswers}
use Rattle.cc_service.specs.declared.fault.ServiceFault.{ServiceFault}
use Rattle.cc_session.specs.Playing.{Audits, AuditsEach, AuditsOne, CallsAndWrites, Talk, talk}
use Rattle.cc_session.specs.Telling.{SaysAudit, no_memory_text, refusal_text}
use Rattle.cc_session.specs.internal.Calls.{AuditsName, DoesAndTells}
use Rattle.cc_session.proofs.Playing.{appended}

-- the names from index `i` on are the name at `i` and the names after it
from_name : (names : List (List ℕ)) (i : ℕ) (name : List ℕ) → i < length names → name ≡ get_or names i name → drop i names ≡ name ∷ drop (i + 1) names
from_name names i name within is = drop_more names i name within ∙ ap (λ (n : List ℕ). n ∷ drop (i + 1) names) (sym is)

-- for a unit that is not audited, some text says why not
not_audited : (mode : Mode) → (name : List ℕ) (answer : Result Receipt ServiceFault) → (text : List ℕ) × SaysAudit mode name false answer text
not_audited mode name (Ok receipt) = (no_memory_text, refl)
not_audited mode name (Err fault) = (refusal_text [] fault, refl)

-- if the audit of the name at `i` says nothing, it is the last audit
pub audited_last : (mode : Mode) → (names : List (List ℕ)) (i : ℕ) (name bytes : List ℕ) → i < length names → name ≡ get_or names i name → bytes ≡ name → (old new : Talk)
    → CallsAndWrites (GetAnswers bytes) (SaysAudit mode bytes false) old new → AuditsEach mode (drop i names) false old new
audited_last mode names i name bytes within is same old new called =
    subst (λ (l : List (List ℕ)). AuditsEach mode l false old new) (sym (from_name names i name within is))
    (inl (refl, subst (λ (n : List ℕ). CallsAndWrites (GetAnswers n) (SaysAudit mode n false) old new) same called))

-- if the answer for the name at `i` could not be written, the client is as after a last audit that says nothing
pub audited_unwritten : (mode : Mode) → (names : List (List ℕ)) (i : ℕ) (name bytes : List ℕ) → i < length names → name ≡ get_or names i name → bytes ≡ name → (old new : Talk) (fault : ScriptFault)
    → AuditsName mode bytes old new (let r : Result Bool ScriptFault = Err fault in r) → (fault ≡ WriteFault) × (written : Option (List ℕ)) × AuditsEach mode (drop i names) false old (talk new.client written)
audited_unwritten mode names i name bytes within is same old new fault it =
    let says = not_audited mode bytes it.0 in
    let written = append_known old.written says.0 in
    (it.2, written, audited_last mode names i name bytes within is same old (talk new.client written) (it.0, it.1, says.0, says.1, appended old.written says.0))

-- if the audit of the name at `i` says something, and the units under the names after it are audited, the units under
-- all names from `i` on are audited
pub audited_on : (mode : Mode) → (names : List (List ℕ)) (i : ℕ) (name bytes : List ℕ) → i < length names → name ≡ get_or names i name → bytes ≡ name → (all : Bool) (old between new : Talk)
    → CallsAndWrites (GetAnswers bytes) (SaysAudit mode bytes true) old between → AuditsEach mode (drop (i + 1) names) all between new → AuditsEach mode (drop i names) all old new
audited_on mode names i name bytes within is same all old between new found behind =
    subst (λ (l : List (List ℕ)). AuditsEach mode l all old new) (sym (from_name names i name within is))
    (inr (between, subst (λ (n : List ℕ). CallsAndWrites (GetAnswers n) (SaysAudit mode n true) old between) same found, behind))

-- if the names are listed and all their units are audited, then all units are audited
pub audits_all : (mode : Mode) → {T : Type 0} (answer : Result T ScriptFault) (receipt : Receipt) (names : List (List ℕ)) (heard : MemberView) (old new : Talk) (last : Option (List ℕ))
    → ListAnswers old.client heard (Ok receipt) → receipt.entry.reply ≡ reply.Names names → AuditsEach mode names true (talk heard old.written) (talk new.client last)
    → Tells last new.written (line (codes "ok")) answer → DoesAndTells (Audits mode) old new answer
audits_all mode (Ok done) receipt names heard old new last listed are each told =
    inr (record { receipt = receipt; names = names; all = true; heard = heard; last = talk new.client last; listed = listed; names_are = are; audited = each; ended = (refl, told.1) })
audits_all mode (Err fault) receipt names heard old new last listed are each told = (
  told.0,
  append_known last (line (codes "ok")),
  inr (record { receipt = receipt; names = names; all = true; heard = heard; last = talk new.client last; listed = listed; names_are = are; audited = each; ended = (refl, appended last (line (codes "ok"))) }),
)

-- if the names are listed and the units are audited up to one whose audit says nothing, that is what `audit` does
pub audits_some : (mode : Mode) → (receipt : Receipt) (names : List (List ℕ)) (heard : MemberView) (old new : Talk)
    → ListAnswers old.client heard (Ok receipt) → receipt.entry.reply ≡ reply.Names names → AuditsEach mode names false (talk heard old.written) new → Audits mode old new
audits_some mode receipt names heard old new listed are each =
    inr (record { receipt = receipt; names = names; all = false; heard = heard; last = new; listed = listed; names_are = are; audited = each; ended = refl })

-- if the list is refused and the refusal is written, that is what `audit` does
pub audits_none : (mode : Mode) → {T : Type 0} (answer : Result T ScriptFault) (fault : ServiceFault) (old new : Talk) → ListAnswers old.client new.client (Err fault)
    → Tells old.written new.written (refusal_text [] fault) answer → DoesAndTells (Audits mode) old new answer
audits_none mode (Ok done) fault old new listed told = inl (Err fault, listed, refusal_text [] fault, refl, told.1)
audits_none mode (Err unwritten) fault old new listed told =
    (told.0, append_known old.written (refusal_text [] fault), inl (Err fault, listed, refusal_text [] fault, refl, appended old.written (refusal_text [] fault)))

-- ---- one unit

-- if an audit of one name says something, and `ok` is written, that is what `audit NAME` does
pub audited_one : (mode : Mode) → {T : Type 0} (answer : Result T ScriptFault) (name : List ℕ) (old new : Talk) (last : Option (List ℕ))
    → CallsAndWrites (GetAnswers name) (SaysAudit mode name true) old (talk new.client last) → Tells last new.written (line (codes "ok")) answer → DoesAndTells (AuditsOne mode name) old new answer
audited_one mode (Ok done) name old new last called told = (true, talk new.client last, inr (talk new.client last, called, refl), (refl, told.1))
audited_one mode (Err fault) name old new last called told = (
  told.0,
  append_known last (line (codes "ok")),
  (true, talk new.client last, inr (talk new.client last, called, refl), (refl, appended last (line (codes "ok")))),
)

-- if an audit of one name says nothing, that is what `audit NAME` does
pub audited_none : (mode : Mode) → (name : List ℕ) (old new : Talk) → CallsAndWrites (GetAnswers name) (SaysAudit mode name false) old new → AuditsOne mode name old new
audited_none mode name old new called = (false, new, inl (refl, called), refl)

-- if the line of an audit of one name could not be written, the client is as if it had been
pub audited_not : (mode : Mode) → (name : List ℕ) (old new : Talk) (fault : ScriptFault) → AuditsName mode name old new (let r : Result Bool ScriptFault = Err fault in r)
    → (fault ≡ WriteFault) × (written : Option (List ℕ)) × AuditsOne mode name old (talk new.client written)
audited_not mode name old new fault it =
    let says = not_audited mode name it.0 in
    let written = append_known old.written says.0 in
    (it.2, written, audited_none mode name old (talk new.client written) (it.0, it.1, says.0, says.1, appended old.written says.0))
