-- Without a device call every image recovers to the old map; during the `append` it recovers to the old map or to the
-- one after the change.
use Rattle.std.proofs.Common.{◌≡◌, ◌+◌, ◌≤◌, length, List, [], ◌∷◌, ◌++◌, ℕ, false, refl, sym, ◌∙◌, ap, subst}
use Rattle.std.specs.Prelude.{IsOk, Result, Ok, Err}
use Rattle.std.proofs.lemmas.Result.{err_from_is_err_and}
use Rattle.cc_disk.specs.Images.{LeavesAlone}
use Rattle.cc_journal.specs.Answers.{AppendAnswers}
use Rattle.cc_journal.specs.Commit.{FailsIn, IsCommitted, append_commit, area_begin}
use Rattle.cc_journal.specs.Format.{HasAreaByte, records, room_of}
use Rattle.cc_journal.specs.declared.fault.JournalFault.{JournalFault}
use Rattle.cc_journal.specs.declared.fault.JournalFault.TheVariants as journal
use Rattle.cc_library.specs.Change.{LibraryCommand}
use Rattle.cc_library.specs.declared.fault.LibraryFault.{LibraryFault}
use Rattle.cc_library.specs.declared.fault.LibraryFault.TheVariants.{Exists, Absent, OutOfMemory}
use Rattle.cc_library.specs.Fault.{fault_of}
use Rattle.cc_library.specs.Apply.{apply, after, absent, exists}
use Rattle.cc_library.specs.Answers.{ChangeAnswers, ChangesDisk, IsAsked, IsChangedAs, commit_of}
use Rattle.cc_library.specs.Body.{body_of}
use Rattle.cc_library.specs.Recovered.{View}
use Rattle.cc_library.specs.internal.Steps.{IsOldOrNew}
use Rattle.cc_library.proofs.Changing.{is_accepted, refused_by, refused_absent, done_is, back_is}
use Rattle.cc_library.proofs.Commands.{spells_as_written}
use Rattle.cc_library.proofs.Standing.{appended, stands_after, stands_still, holds_recovers}
use Rattle.cc_library.proofs.Refused.{seen_as, change_refused, closed_is, leaves_err}
use Rattle.cc_library.proofs.Whole.{changed_as, quiet_changed, refused_changed}
use Rattle.cc_library.proofs.library.Library.append_change.Goals as goal

-- ---- without a device call

pub returns-in-Some-eq31 : goal.returns-in-Some-eq31
returns-in-Some-eq31 g c =
    let D = g.D.Disk in
    let i = c.self.inside in
    let old = c.args.self.now in
    let answers : ChangeAnswers {T = Unit {0}} old c.args.command (D.failures old.disk) (D.failures old.disk) (Err Exists) = (
      subst (λ (v : View g.row.D.Denot). v.closed ≡ false) c.self.view_is c.if-self.false,
      subst (λ (v : View g.row.D.Denot). apply v.units c.args.command ≡ Err exists) c.self.view_is
          (refused_by (apply i.units c.args.command) c.in-Some-eq31.field-0 (sym c.in-Some-eq31.is ∙ c.refusal.ensures) ∙ ap Err c.in-Some-eq31.field-0-test),
      refl,
    ) in
    record {
      changed = quiet_changed D i.log i.units i.closed old c.args.command Exists c.self.view_is c.self.invariant.stand c.self.invariant.same c.is_closed-kept.ensures.kept
          (λ h image left. g.met.D.Disk.only_now i.log.disk image h left) (g.met.D.Disk.counts_now old.disk) (λ p. cc p) answers;
    }

pub returns-in-Some : goal.returns-in-Some
returns-in-Some g c =
    let D = g.D.Disk in
    let i = c.self.inside in
    let old = c.args.self.now in
    let answers : ChangeAnswers {T = Unit {0}} old c.args.command (D.failures old.disk) (D.failures old.disk) (Err Absent) = (
      subst (λ (v : View g.row.D.Denot). v.closed ≡ false) c.self.view_is c.if-self.false,
      subst (λ (v : View g.row.D.Denot). apply v.units c.args.command ≡ Err absent) c.self.view_is
          (refused_absent i.units c.args.command c.in-Some.field-0 (sym c.in-Some.is ∙ c.refusal.ensures) c.in-Some.field-0-test.1),
      refl,
    ) in
    record {
      changed = quiet_changed D i.log i.units i.closed old c.args.command Absent c.self.view_is c.self.invariant.stand c.self.invariant.same c.is_closed-kept.ensures.kept
          (λ h image left. g.met.D.Disk.only_now i.log.disk image h left) (g.met.D.Disk.counts_now old.disk) (λ p. cc p) answers;
    }

-- if the log does not take the record
pub returns-in-Err : goal.returns-in-Err
returns-in-Err g c =
    let D = g.D.Disk in
    let i = c.self.inside in
    let old = c.args.self.now in
    let command = c.args.command in
    let ok : IsOk (apply i.units command) = is_accepted (apply i.units command) (sym c.refusal.ensures ∙ c.in-None.is) in
    let long = sym c.body_length.ensures.length in
    record {
      changed = subst (λ (f : LibraryFault). IsChangedAs D command old old (Err f) (IsOldOrNew old.area old.bodies old.units (old.bodies ++ body_of command ∷ []) (after old.units command))) (sym c.from.ensures)
          (refused_changed D i.log i.units i.closed old command c.in-Err.fault c.self.view_is c.self.invariant.stand c.self.invariant.same c.is_closed-kept.ensures.kept
          (λ h image left. g.met.D.Disk.only_now i.log.disk image h left) (g.met.D.Disk.counts_now old.disk) ok (λ failures. c.in-Err.ensures.answers (body_of command) failures long));
    }

-- if memory ran out
pub returns-in_err-body : goal.returns-in_err-body
returns-in_err-body g c =
    let D = g.D.Disk in
    let i = c.self.inside in
    let old = c.args.self.now in
    let command = c.args.command in
    let p = err_from_is_err_and c.from_residual.result c.from_residual.ensures.1 in
    let is : c.from_residual.result ≡ Err OutOfMemory = p.1 ∙ ap Err p.2 in
    let ok : IsOk (apply i.units command) = is_accepted (apply i.units command) (sym c.refusal.ensures ∙ c.in-None.is) in
    let asked : IsAsked old command = subst (λ (v : View g.row.D.Denot). IsAsked v command) c.self.view_is (c.if-self.false, ok) in
    record {
      changed = subst (λ (r : Result (Unit {0}) LibraryFault). IsChangedAs D command old old r (IsOldOrNew old.area old.bodies old.units (old.bodies ++ body_of command ∷ []) (after old.units command))) (sym is)
          (quiet_changed D i.log i.units i.closed old command OutOfMemory c.self.view_is c.self.invariant.stand c.self.invariant.same c.is_closed-kept.ensures.kept
          (λ h image left. g.met.D.Disk.only_now i.log.disk image h left) (g.met.D.Disk.counts_now old.disk) (λ q. cc q) (asked, refl));
    }

pub returns-in_err-begin : goal.returns-in_err-begin
returns-in_err-begin g c =
    let D = g.D.Disk in
    let i = c.self.inside in
    let old = c.args.self.now in
    let command = c.args.command in
    let p = err_from_is_err_and c.from_residual-in_err-begin.result c.from_residual-in_err-begin.ensures.1 in
    let is : c.from_residual-in_err-begin.result ≡ Err OutOfMemory = p.1 ∙ ap Err p.2 in
    let ok : IsOk (apply i.units command) = is_accepted (apply i.units command) (sym c.refusal.ensures ∙ c.in-None.is) in
    let asked : IsAsked old command = subst (λ (v : View g.row.D.Denot). IsAsked v command) c.self.view_is (c.if-self.false, ok) in
    let new : View g.row.D.Denot = seen_as i.log c.begin.new.self i.closed in
    let still : old ≡ new = sym c.self.view_is ∙ (λ k. seen_as i.log (sym c.in_err-begin.ensures.err k) i.closed) in
    record {
      changed = subst (λ (r : Result (Unit {0}) LibraryFault). IsChangedAs D command old new r (IsOldOrNew old.area old.bodies old.units (old.bodies ++ body_of command ∷ []) (after old.units command))) (sym is)
          (subst (λ (v : View g.row.D.Denot). IsChangedAs D command old v (Err OutOfMemory) (IsOldOrNew old.area old.bodies old.units (old.bodies ++ body_of command ∷ []) (after old.units command))) still
          (quiet_changed D i.log i.units i.closed old command OutOfMemory c.self.view_is c.self.invariant.stand c.self.invariant.same c.is_closed-kept.ensures.kept
          (λ h image left. g.met.D.Disk.only_now i.log.disk image h left) (g.met.D.Disk.counts_now old.disk) (λ q. cc q) (asked, refl)));
    }

-- ---- the record was added

pub invariant_of-self-in-Ok : goal.invariant_of-self-in-Ok
invariant_of-self-in-Ok g c =
    let i = c.self.inside in
    let ok : IsOk (apply i.units c.args.command) = is_accepted (apply i.units c.args.command) (sym c.refusal.ensures ∙ c.in-None.is) in
    let done = done_is i.units c.begin.new.self c.finish.new.self c.args.command ok c.in_ok-begin.ensures.ok c.finish.ensures in
    record {
      stand = stands_after i.log.bodies i.units c.in_ok-body.body c.args.command c.append.new.self.bodies c.finish.new.self c.self.invariant.stand (spells_as_written c.in_ok-body.body c.args.command c.in_ok-body.ensures.written c.in_ok-body.ensures.command) ok
          c.in-Ok.ensures.added done;
      same = c.if-self.false ∙ sym c.in-Ok.ensures.open;
    }

pub returns-in-Ok : goal.returns-in-Ok
returns-in-Ok g c =
    let D = g.D.Disk in
    let i = c.self.inside in
    let a = c.append.new.self in
    let command = c.args.command in
    let body = c.in_ok-body.body in
    let written : body ≡ body_of command = c.in_ok-body.ensures.written in
    let before : View g.row.D.Denot = seen_as i.log i.units i.closed in
    let new : View g.row.D.Denot = seen_as a c.finish.new.self i.closed in
    let ok : IsOk (apply i.units command) = is_accepted (apply i.units command) (sym c.refusal.ensures ∙ c.in-None.is) in
    let done = done_is i.units c.begin.new.self c.finish.new.self command ok c.in_ok-begin.ensures.ok c.finish.ensures in
    let stand = stands_after i.log.bodies i.units body command a.bodies c.finish.new.self c.self.invariant.stand (spells_as_written body command written c.in_ok-body.ensures.command) ok
    c.in-Ok.ensures.added done in
    let added : a.bodies ≡ i.log.bodies ++ body_of command ∷ [] = c.in-Ok.ensures.added ∙ (λ k. i.log.bodies ++ written k ∷ []) in
    record {
      changed = subst (λ (v : View g.row.D.Denot). IsChangedAs D command v new (Ok tt) (IsOldOrNew v.area v.bodies v.units (v.bodies ++ body_of command ∷ []) (after v.units command))) c.self.view_is
          (changed_as D command before new (Ok tt) (IsOldOrNew i.log.area i.log.bodies i.units (i.log.bodies ++ body_of command ∷ []) (after i.units command)) (g.met.D.Disk.counts_now a.disk)
          ((c.if-self.false, ok), subst (λ (b : List ℕ). room_of (i.log.bodies ++ b ∷ []) ≤ i.log.area) written c.in-Ok.ensures.answers.1, c.in-Ok.ensures.answers.2)
          (λ k. record { disk = a.disk; area = c.append.ensures.area k; bodies = added k; units = done k; closed = c.if-self.false k })
          c.append.ensures.size
          (λ h. (
            (c.in-Ok.ensures.kept h (D.seen a.disk) (g.met.D.Disk.seen_is_image a.disk h)).holds,
            λ area_byte has. subst (λ (b : List ℕ). IsCommitted (append_commit (area_begin area_byte i.log.area + length (records i.log.bodies)) b) (D.seen i.log.disk) (D.seen a.disk) × LeavesAlone (D.seen a.disk) (D.may_leave a.disk))
                written (c.in-Ok.ensures.committed h area_byte has),
          ))
          (λ h image now. holds_recovers image a.area a.bodies c.finish.new.self (c.in-Ok.ensures.kept h image now) stand)
          (λ h not_closed. appended D.moment D.left_since i.log.disk a.disk i.log.area i.log.bodies body i.units command c.self.invariant.stand written c.in_ok-body.ensures.command ok
          (c.append.ensures.moments h (sym c.self.invariant.same ∙ not_closed))));
    }

-- ---- the journal refused

pub invariant_of-self-in-Err-append : goal.invariant_of-self-in-Err-append
invariant_of-self-in-Err-append g c =
    let i = c.self.inside in
    let ok : IsOk (apply i.units c.args.command) = is_accepted (apply i.units c.args.command) (sym c.refusal.ensures ∙ c.in-None.is) in
    let back = back_is i.units c.begin.new.self c.undo.new.self c.args.command ok c.in_ok-begin.ensures.ok c.undo.ensures in
    record {
      stand = stands_still i.log.bodies i.units c.append.new.self.bodies c.undo.new.self c.self.invariant.stand c.in-Err-append.ensures.leaves back;
      same = closed_is c.in-Err-append.fault c.eq-self-inside.result i.log c.append.new.self c.eq-self-inside.ensures (sym c.self.invariant.same ∙ c.if-self.false) c.in-Err-append.ensures.untouched (λ p. c.in-Err-append.ensures.closes (ap Err p));
    }

disk_err : {D : Type 0} (seen : D → List ℕ) (may_leave : D → List ℕ → Type 0) (command : LibraryCommand) (old new : View D) (f : JournalFault)
    → (f ≡ journal.DiskFault → (area_byte : ℕ) → HasAreaByte (seen old.disk) area_byte old.area → FailsIn (commit_of area_byte old command) (seen old.disk) (may_leave new.disk))
    → ChangesDisk {T = Unit {0}} seen may_leave command old new (Err (fault_of f))
disk_err seen may_leave command old new journal.DiskFault fails = fails refl
disk_err seen may_leave command old new journal.Full fails = tt
disk_err seen may_leave command old new journal.Closed fails = tt
disk_err seen may_leave command old new journal.Damaged fails = tt
disk_err seen may_leave command old new journal.NotALibrary fails = tt
disk_err seen may_leave command old new journal.OutOfMemory fails = tt

pub returns-in-Err-append : goal.returns-in-Err-append
returns-in-Err-append g c =
    let D = g.D.Disk in
    let i = c.self.inside in
    let a = c.append.new.self in
    let command = c.args.command in
    let body = c.in_ok-body.body in
    let fault = c.in-Err-append.fault in
    let written : body ≡ body_of command = c.in_ok-body.ensures.written in
    let before : View g.row.D.Denot = seen_as i.log i.units i.closed in
    let new : View g.row.D.Denot = seen_as a c.undo.new.self c.eq-self-inside.result in
    let ok : IsOk (apply i.units command) = is_accepted (apply i.units command) (sym c.refusal.ensures ∙ c.in-None.is) in
    let back = back_is i.units c.begin.new.self c.undo.new.self command ok c.in_ok-begin.ensures.ok c.undo.ensures in
    record {
      changed = subst (λ (f : LibraryFault). IsChangedAs D command c.args.self.now new (Err f)
          (IsOldOrNew c.args.self.now.area c.args.self.now.bodies c.args.self.now.units (c.args.self.now.bodies ++ body_of command ∷ []) (after c.args.self.now.units command))) (sym c.from-in-Err-append.ensures)
          (subst (λ (v : View g.row.D.Denot). IsChangedAs D command v new (Err (fault_of fault)) (IsOldOrNew v.area v.bodies v.units (v.bodies ++ body_of command ∷ []) (after v.units command))) c.self.view_is
          (changed_as D command before new (Err (fault_of fault)) (IsOldOrNew i.log.area i.log.bodies i.units (i.log.bodies ++ body_of command ∷ []) (after i.units command)) (g.met.D.Disk.counts_now a.disk)
          (change_refused fault i.log i.units i.closed command (D.failures i.log.disk) (D.failures a.disk) c.self.invariant.same ok
          (subst (λ (b : List ℕ). AppendAnswers {T = Unit {0}} i.log.closed i.log.area i.log.bodies b (D.failures i.log.disk) (D.failures a.disk) (Err fault)) written c.in-Err-append.ensures.answers))
          (leaves_err fault command i.log a i.units c.undo.new.self i.closed c.eq-self-inside.result back c.in-Err-append.ensures.untouched c.in-Err-append.ensures.leaves c.append.ensures.area
          c.eq-self-inside.ensures c.if-self.false)
          c.append.ensures.size
          (λ h. disk_err D.seen D.may_leave command before new fault
          (λ p area_byte has. subst (λ (b : List ℕ). FailsIn (append_commit (area_begin area_byte i.log.area + length (records i.log.bodies)) b) (D.seen i.log.disk) (D.may_leave a.disk))
          written (c.in-Err-append.ensures.failed (ap Err p) h area_byte has)))
          tt
          (λ h not_closed. appended D.moment D.left_since i.log.disk a.disk i.log.area i.log.bodies body i.units command c.self.invariant.stand written c.in_ok-body.ensures.command ok
          (c.append.ensures.moments h (sym c.self.invariant.same ∙ not_closed)))));
    }
