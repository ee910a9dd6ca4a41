-- Without a device call every image still recovers to the map; during the `rewrite` an image has the old records or the new ones,
-- and both represent the map.
use Rattle.std.proofs.Common.{◌≡◌, ◌<◌, ◌≤◌, ℕ, Bool, IsTrue, List, false, refl, sym, ◌∙◌, ap, subst, arith}
use Rattle.std.specs.Prelude.{Result, Ok, Err}
use Rattle.std.proofs.lemmas.Result.{err_from_is_err_and}
use Rattle.cc_disk.specs.Images.{LeavesAlone, LeavesOnly}
use Rattle.cc_journal.specs.Commit.{FailsIn, IsCommitted, rewrite_commit}
use Rattle.cc_journal.specs.declared.fault.JournalFault.{JournalFault}
use Rattle.cc_journal.specs.declared.fault.JournalFault.TheVariants as journal
use Rattle.cc_journal.specs.Format.{HasAreaByte, room_of}
use Rattle.cc_library.specs.declared.fault.LibraryFault.{LibraryFault}
use Rattle.cc_library.specs.declared.fault.LibraryFault.TheVariants.{Full, OutOfMemory}
use Rattle.cc_library.specs.Fault.{fault_of}
use Rattle.cc_library.specs.Compact.{compacted}
use Rattle.cc_library.specs.Answers.{CompactAnswers, CompactLeaves, CompactsDisk, IsCompactedAs, rewrites_in}
use Rattle.cc_library.specs.Recovered.{StandFor, View}
use Rattle.cc_library.specs.internal.Steps.{IsOldOrNew}
use Rattle.cc_library.proofs.Compacting.{adds_stand, spelled_compacted}
use Rattle.cc_library.proofs.Standing.{rewritten}
use Rattle.cc_library.proofs.Refused.{seen_as, compact_leaves_err, compact_refused}
use Rattle.cc_library.proofs.Whole.{compacted_as, quiet_compacted}
use Rattle.cc_library.proofs.library.Library.write_anew.Goals as goal

no_room : (room area asked : ℕ) (fits : Bool) → asked ≡ area → fits ≡ false → (room ≤ asked → IsTrue fits) → area < room
no_room room area asked fits is denied says =
    let not : room ≤ area → ⊥ = λ (le : room ≤ area). let yes : IsTrue fits = says (omega (arith, is, le)) in absurd (cc (yes, denied)) in
    omega (arith, not)

pub returns-then-not-fits : goal.returns-then-not-fits
returns-then-not-fits g c =
    let D = g.D.Disk in
    let i = c.self.inside in
    let old = c.args.self.now in
    let answers : CompactAnswers {T = Unit {0}} old (D.failures old.disk) (D.failures old.disk) (Err Full) =
    subst (λ (v : View g.row.D.Denot). (v.closed ≡ false) × (v.area < room_of (compacted v.units)) × (D.failures v.disk ≡ D.failures v.disk)) c.self.view_is
    (c.if-self.false, no_room (room_of (compacted i.units)) i.log.area c.area.result c.fits.result c.area.ensures.area c.if-not-fits.true c.fits.ensures.1, refl) in
    record {
      compacted = quiet_compacted D i.log i.units i.closed old Full c.self.view_is c.self.invariant.stand c.self.invariant.same c.is_closed-kept.ensures.kept
          (λ h image left. g.met.D.Disk.only_now i.log.disk image h left) (g.met.D.Disk.counts_now old.disk) (λ p. cc p) answers;
    }

pub returns-in_err-bodies : goal.returns-in_err-bodies
returns-in_err-bodies g c =
    let D = g.D.Disk in
    let i = c.self.inside in
    let old = c.args.self.now in
    let p = err_from_is_err_and c.from_residual.result c.from_residual.ensures.1 in
    let is : c.from_residual.result ≡ Err OutOfMemory = p.1 ∙ ap Err p.2 in
    let usable : old.closed ≡ false = subst (λ (v : View g.row.D.Denot). v.closed ≡ false) c.self.view_is c.if-self.false in
    record {
      compacted = subst (λ (r : Result (Unit {0}) LibraryFault). IsCompactedAs D old old r (IsOldOrNew old.area old.bodies old.units (compacted old.units) old.units)) (sym is)
          (quiet_compacted D i.log i.units i.closed old OutOfMemory c.self.view_is c.self.invariant.stand c.self.invariant.same c.is_closed-kept.ensures.kept
          (λ h image left. g.met.D.Disk.only_now i.log.disk image h left) (g.met.D.Disk.counts_now old.disk) (λ q. cc q) (usable, refl));
    }

pub invariant_of-self : goal.invariant_of-self
invariant_of-self g c =
    let i = c.self.inside in
    record {
      stand = subst (λ (l : List (List ℕ)). StandFor l i.units) (sym c.in-Ok.ensures.rewritten) (adds_stand i.units c.in_ok-bodies.bodies.items c.in_ok-bodies.ensures);
      same = c.if-self.false ∙ sym c.in-Ok.ensures.open;
    }

pub returns-in-Ok : goal.returns-in-Ok
returns-in-Ok g c =
    let D = g.D.Disk in
    let i = c.self.inside in
    let a = c.rewrite.new.self in
    let items = c.in_ok-bodies.bodies.items in
    let is : items ≡ compacted i.units = spelled_compacted items i.units c.in_ok-bodies.ensures in
    let before : View g.row.D.Denot = seen_as i.log i.units i.closed in
    let new : View g.row.D.Denot = seen_as a i.units i.closed in
    let bodies : a.bodies ≡ compacted i.units = c.in-Ok.ensures.rewritten ∙ is in
    record {
      compacted = subst (λ (v : View g.row.D.Denot). IsCompactedAs D v new (Ok tt) (IsOldOrNew v.area v.bodies v.units (compacted v.units) v.units)) c.self.view_is
          (compacted_as D before new (Ok tt) (IsOldOrNew i.log.area i.log.bodies i.units (compacted i.units) i.units) (g.met.D.Disk.counts_now a.disk)
          (c.if-self.false, subst (λ (l : List (List ℕ)). room_of l ≤ i.log.area) is c.in-Ok.ensures.answers.1, c.in-Ok.ensures.answers.2)
          (λ k. record { disk = a.disk; area = c.rewrite.ensures.area k; bodies = bodies k; units = i.units; closed = c.if-self.false k })
          c.rewrite.ensures.size
          (λ h. (
            (c.in-Ok.ensures.kept h (D.seen a.disk) (g.met.D.Disk.seen_is_image a.disk h)).holds,
            λ area_byte has. subst (λ (l : List (List ℕ)). IsCommitted (rewrite_commit area_byte i.log.area l) (D.seen i.log.disk) (D.seen a.disk) × LeavesAlone (D.seen a.disk) (D.may_leave a.disk)) is (c.in-Ok.ensures.committed h area_byte has),
          ))
          (λ h not_closed. subst (λ (l : List (List ℕ)). LeavesOnly D.moment D.left_since i.log.disk a.disk (IsOldOrNew i.log.area i.log.bodies i.units l i.units)) is
          (rewritten D.moment D.left_since i.log.disk a.disk i.log.area i.log.bodies items i.units c.self.invariant.stand (adds_stand i.units items c.in_ok-bodies.ensures)
          (c.in-Ok.ensures.moments h (sym c.self.invariant.same ∙ not_closed)))));
    }

-- ---- the journal refused

disk_err : {D : Type 0} (seen : D → List ℕ) (may_leave : D → List ℕ → Type 0) (old new : View D) (f : JournalFault)
    → (f ≡ journal.DiskFault → (area_byte : ℕ) → HasAreaByte (seen old.disk) area_byte old.area → FailsIn (rewrites_in area_byte old) (seen old.disk) (may_leave new.disk))
    → CompactsDisk {T = Unit {0}} seen may_leave old new (Err (fault_of f))
disk_err seen may_leave old new journal.DiskFault fails = fails refl
disk_err seen may_leave old new journal.Full fails = tt
disk_err seen may_leave old new journal.Closed fails = tt
disk_err seen may_leave old new journal.Damaged fails = tt
disk_err seen may_leave old new journal.NotALibrary fails = tt
disk_err seen may_leave old new journal.OutOfMemory fails = tt

pub returns-in-Err : goal.returns-in-Err
returns-in-Err g c =
    let D = g.D.Disk in
    let i = c.self.inside in
    let a = c.rewrite.new.self in
    let fault = c.in-Err.fault in
    let items = c.in_ok-bodies.bodies.items in
    let is : items ≡ compacted i.units = spelled_compacted items i.units c.in_ok-bodies.ensures in
    let before : View g.row.D.Denot = seen_as i.log i.units i.closed in
    let new : View g.row.D.Denot = seen_as a i.units c.eq-self-inside.result in
    let leaves : CompactLeaves {T = Unit {0}} before new (Err (fault_of fault)) =
    compact_leaves_err fault i.log a i.units i.closed c.eq-self-inside.result c.in-Err.ensures.untouched c.in-Err.ensures.leaves c.rewrite.ensures.area c.eq-self-inside.ensures c.if-self.false in
    record {
      compacted = subst (λ (f : LibraryFault). IsCompactedAs D c.args.self.now new (Err f)
          (IsOldOrNew c.args.self.now.area c.args.self.now.bodies c.args.self.now.units (compacted c.args.self.now.units) c.args.self.now.units)) (sym c.from.ensures)
          (subst (λ (v : View g.row.D.Denot). IsCompactedAs D v new (Err (fault_of fault)) (IsOldOrNew v.area v.bodies v.units (compacted v.units) v.units)) c.self.view_is
          (compacted_as D before new (Err (fault_of fault)) (IsOldOrNew i.log.area i.log.bodies i.units (compacted i.units) i.units) (g.met.D.Disk.counts_now a.disk)
          (compact_refused fault i.log i.units i.closed items (D.failures i.log.disk) (D.failures a.disk) is c.self.invariant.same c.in-Err.ensures.answers)
          leaves
          c.rewrite.ensures.size
          (λ h. disk_err D.seen D.may_leave before new fault
          (λ p area_byte has. subst (λ (l : List (List ℕ)). FailsIn (rewrite_commit area_byte i.log.area l) (D.seen i.log.disk) (D.may_leave a.disk)) is (c.in-Err.ensures.failed (ap Err p) h area_byte has)))
          (λ h not_closed. subst (λ (l : List (List ℕ)). LeavesOnly D.moment D.left_since i.log.disk a.disk (IsOldOrNew i.log.area i.log.bodies i.units l i.units)) is
          (rewritten D.moment D.left_since i.log.disk a.disk i.log.area i.log.bodies items i.units c.self.invariant.stand (adds_stand i.units items c.in_ok-bodies.ensures)
          (c.in-Err.ensures.moments h (sym c.self.invariant.same ∙ not_closed))))));
    }
