-- The record fits after the compacted records exactly if these leave enough room; a `compact` leaves exactly these
-- records.
use Rattle.std.proofs.Common.{◌≡◌, ℕ, ◌-◌, ◌≤◌, IsTrue, Bool, false, sym, ◌∙◌, ap, subst, arith}
use Rattle.cc_library.specs.Answers.{room_with}
use Rattle.cc_library.specs.Body.{body_of}
use Rattle.cc_library.specs.Compact.{compacted, room_compacted}
use Rattle.cc_library.specs.Recovered.{View}
use Rattle.cc_library.specs.Change.{LibraryCommand}
use Rattle.cc_library.proofs.Compacting.{no_room_left, room_left}
use Rattle.cc_library.proofs.library.Library.has_room_compacted.Given.{Over}
use Rattle.cc_library.proofs.library.Library.has_room_compacted.Goals as goal

-- an answer about the room after the compacted records is an answer about the library that a `compact` leaves
of_compacted : {D : Type 0} (old new : View D) (command : LibraryCommand) (b : Bool) → new ≡ record { disk = new.disk; area = old.area; bodies = compacted old.units; units = old.units; closed = false }
    → (IsTrue b → room_compacted old.units command ≤ old.area) × (room_compacted old.units command ≤ old.area → IsTrue b)
    → (IsTrue b → room_with new command ≤ new.area) × (room_with new command ≤ new.area → IsTrue b)
of_compacted {D} old new command b is said = subst (λ (v : View D). (IsTrue b → room_with v command ≤ v.area) × (room_with v command ≤ v.area → IsTrue b)) (sym is) said

none : (g : Over) (c : goal.Then-room-body g) → (IsTrue false → room_compacted c.args.self.now.units c.args.command.now ≤ c.args.self.now.area) × (room_compacted c.args.self.now.units c.args.command.now ≤ c.args.self.now.area → IsTrue false)
none g c =
    let area : c.area-room.result ≡ c.args.self.now.area = c.area-room.ensures.area ∙ ap (λ (v : View g.row.D.Denot). v.area) c.self.view_is in
    (λ yes. absurd (cc), λ fits. absurd (no_room_left (compacted c.args.self.now.units) (body_of c.args.command.now) c.args.self.now.area c.body_length-body.result c.body_length-body.ensures.length (omega (arith, area, c.if-room-body.true)) fits))

some : (g : Over) (c : goal.After-fits g) → (IsTrue c.fits.result → room_compacted c.args.self.now.units c.args.command.now ≤ c.args.self.now.area) × (room_compacted c.args.self.now.units c.args.command.now ≤ c.args.self.now.area → IsTrue c.fits.result)
some g c =
    let i = c.self.inside in
    let n = c.body_length-body.result in
    let area = c.area-room.ensures.area in
    let left = room_left (compacted i.units) (body_of c.args.command.now) i.log.area n (c.area-room.result - 5 - n) c.body_length-body.ensures.length (omega (arith, area, c.if-room-body.false)) (ap (λ (a : ℕ). a - 5 - n) area) in
    subst (λ (v : View g.row.D.Denot). (IsTrue c.fits.result → room_compacted v.units c.args.command.now ≤ v.area) × (room_compacted v.units c.args.command.now ≤ v.area → IsTrue c.fits.result)) c.self.view_is
    (λ yes. left.0 (c.fits.ensures.0 yes), λ le. c.fits.ensures.1 (left.1 le))

pub returns-then-room-body-clause-room : goal.returns-then-room-body-clause-room
returns-then-room-body-clause-room g c = none g c

pub returns-then-room-body-clause-compacted : goal.returns-then-room-body-clause-compacted
returns-then-room-body-clause-compacted g c = λ new is. of_compacted c.args.self.now new c.args.command.now false is (none g c)

pub returns-clause-room : goal.returns-clause-room
returns-clause-room g c = some g c

pub returns-clause-compacted : goal.returns-clause-compacted
returns-clause-compacted g c = λ new is. of_compacted c.args.self.now new c.args.command.now c.fits.result is (some g c)
