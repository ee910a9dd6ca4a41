-- If no call is made, the records stay. One more record fits exactly if the area still has room for its body and 6 more bytes,
-- one of them the closed gate.
use Rattle.std.proofs.Common.{◌≡◌, ◌<◌, ◌≤◌, ℕ, List, [], ◌∷◌, ◌++◌, false, IsTrue, refl, subst, arith}
use Rattle.cc_disk.specs.Images.{LeavesOnly}
use Rattle.cc_journal.specs.Format.{HoldsOldOrNew, room_of}
use Rattle.cc_journal.specs.Journal.{View}
use Rattle.cc_journal.proofs.Kept.{room_push, still}
use Rattle.cc_journal.proofs.log.Log.takes.Goals as goal

pub returns-then-left-lt6-clause-answers : goal.returns-then-left-lt6-clause-answers
returns-then-left-lt6-clause-answers g c = λ body failures long.
    let i = c.self.inside in
    let room = room_push i.bodies.items body i.used c.self.invariant.taken in
    subst (λ (v : View g.row.D.Denot). (v.closed ≡ false) × (v.area < room_of (v.bodies ++ body ∷ [])) × (failures ≡ failures)) c.self.view_is
    (c.if-self.false, omega (arith, room, long, c.self.invariant.fits, c.self.invariant.taken), refl)

pub returns-then-left-lt6-clause-still : goal.returns-then-left-lt6-clause-still
returns-then-left-lt6-clause-still g c =
    let D = g.D.Disk in
    let i = c.self.inside in
    subst (λ (v : View g.row.D.Denot). IsTrue D.honest → v.closed ≡ false → (body : List ℕ) → LeavesOnly D.moment D.left_since v.disk v.disk (HoldsOldOrNew v.area v.bodies body)) c.self.view_is
    (λ h not_closed body. still D.honest D.size D.seen D.may_leave D.moment D.left_since i.disk i.start i.area i.used i.bodies.items i.closed c.self.invariant body (λ image left. g.met.D.Disk.only_now i.disk image h left) h not_closed)

pub returns-then-left-count-clause-answers : goal.returns-then-left-count-clause-answers
returns-then-left-count-clause-answers g c = λ body failures long.
    let i = c.self.inside in
    let room = room_push i.bodies.items body i.used c.self.invariant.taken in
    subst (λ (v : View g.row.D.Denot). (v.closed ≡ false) × (v.area < room_of (v.bodies ++ body ∷ [])) × (failures ≡ failures)) c.self.view_is
    (c.if-self.false, omega (arith, room, long, c.self.invariant.fits, c.self.invariant.taken), refl)

pub returns-then-left-count-clause-still : goal.returns-then-left-count-clause-still
returns-then-left-count-clause-still g c =
    let D = g.D.Disk in
    let i = c.self.inside in
    subst (λ (v : View g.row.D.Denot). IsTrue D.honest → v.closed ≡ false → (body : List ℕ) → LeavesOnly D.moment D.left_since v.disk v.disk (HoldsOldOrNew v.area v.bodies body)) c.self.view_is
    (λ h not_closed body. still D.honest D.size D.seen D.may_leave D.moment D.left_since i.disk i.start i.area i.used i.bodies.items i.closed c.self.invariant body (λ image left. g.met.D.Disk.only_now i.disk image h left) h not_closed)

pub returns-clause-answers : goal.returns-clause-answers
returns-clause-answers g c = λ body failures long.
    let i = c.self.inside in
    let room = room_push i.bodies.items body i.used c.self.invariant.taken in
    subst (λ (v : View g.row.D.Denot). (v.closed ≡ false) × (room_of (v.bodies ++ body ∷ []) ≤ v.area) × (failures ≡ failures)) c.self.view_is
    (c.if-self.false, omega (arith, room, long, c.self.invariant.fits, c.self.invariant.taken), refl)

pub returns-clause-still : goal.returns-clause-still
returns-clause-still g c =
    let D = g.D.Disk in
    let i = c.self.inside in
    subst (λ (v : View g.row.D.Denot). IsTrue D.honest → v.closed ≡ false → (body : List ℕ) → LeavesOnly D.moment D.left_since v.disk v.disk (HoldsOldOrNew v.area v.bodies body)) c.self.view_is
    (λ h not_closed body. still D.honest D.size D.seen D.may_leave D.moment D.left_since i.disk i.start i.area i.used i.bodies.items i.closed c.self.invariant body (λ image left. g.met.D.Disk.only_now i.disk image h left) h not_closed)

pub returns-clause-short : goal.returns-clause-short
returns-clause-short g c = omega (arith, c.self.invariant.is_area.most)
