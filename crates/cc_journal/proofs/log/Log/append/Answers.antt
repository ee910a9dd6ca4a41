use Rattle.std.proofs.Common.{◌≡◌, ◌+◌, ◌<◌, ◌≤◌, ℕ, List, [], ◌∷◌, ◌++◌, length, false, IsTrue, refl, ap, ◌∙◌, subst, arith}
use Rattle.std.proofs.lemmas.Result.{err_from_is_err_and}
use Rattle.cc_disk.specs.Images.{IsWritten, LeavesOnly}
use Rattle.cc_journal.specs.Format.{HoldsOldOrNew, record_bytes, room_of}
use Rattle.cc_journal.specs.Commit.{append_commit}
use Rattle.cc_journal.specs.Journal.{View}
use Rattle.cc_journal.proofs.Kept.{kept_alone, room_push, still, in_commit, appended_bytes, kept_more}
use Rattle.cc_journal.proofs.log.Log.append.Goals as goal

-- no device call was made

pub returns-then-self-length-clause-answers : goal.returns-then-self-length-clause-answers
returns-then-self-length-clause-answers g c =
    let i = c.self.inside in
    let long : length c.as_slice-length.result.now ≡ length c.args.body = ap length c.as_slice-length.ensures in
    let body = c.args.body in
    let room = room_push i.bodies.items body i.used c.self.invariant.taken in
    subst (λ (v : View g.row.D.Denot). (v.closed ≡ false) × (v.area < room_of (v.bodies ++ body ∷ [])) × (g.D.Disk.failures v.disk ≡ g.D.Disk.failures v.disk)) c.self.view_is
    (c.if-self.false, omega (arith, room, long, c.self.invariant.fits, c.self.invariant.taken), refl)

pub returns-then-self-length-clause-moments : goal.returns-then-self-length-clause-moments
returns-then-self-length-clause-moments g c =
    let D = g.D.Disk in
    let i = c.self.inside in
    subst (λ (v : View g.row.D.Denot). IsTrue D.honest → v.closed ≡ false → LeavesOnly D.moment D.left_since v.disk v.disk (HoldsOldOrNew v.area v.bodies c.args.body)) c.self.view_is
    (λ h not_closed. still D.honest D.size D.seen D.may_leave D.moment D.left_since i.disk i.start i.area i.used i.bodies.items i.closed c.self.invariant c.args.body (λ image left. g.met.D.Disk.only_now i.disk image h left) h not_closed)

pub returns-in_err-commit-clause-answers : goal.returns-in_err-commit-clause-answers
returns-in_err-commit-clause-answers g c =
    let i = c.self.inside in
    let long : length c.as_slice-length.result.now ≡ length c.args.body = ap length c.as_slice-length.ensures in
    let body = c.args.body in
    let room = room_push i.bodies.items body i.used c.self.invariant.taken in
    let p = err_from_is_err_and c.from_residual.result c.from_residual.ensures.1 in
    rw (p.1, p.2)
    (subst (λ (v : View g.row.D.Denot). (v.closed ≡ false) × (room_of (v.bodies ++ body ∷ []) ≤ v.area) × (g.D.Disk.failures v.disk ≡ g.D.Disk.failures v.disk)) c.self.view_is (c.if-self.false, omega (arith, room, long), refl))

pub returns-in_err-commit-clause-moments : goal.returns-in_err-commit-clause-moments
returns-in_err-commit-clause-moments g c =
    let D = g.D.Disk in
    let i = c.self.inside in
    subst (λ (v : View g.row.D.Denot). IsTrue D.honest → v.closed ≡ false → LeavesOnly D.moment D.left_since v.disk v.disk (HoldsOldOrNew v.area v.bodies c.args.body)) c.self.view_is
    (λ h not_closed. still D.honest D.size D.seen D.may_leave D.moment D.left_since i.disk i.start i.area i.used i.bodies.items i.closed c.self.invariant c.args.body (λ image left. g.met.D.Disk.only_now i.disk image h left) h not_closed)

-- the device failed

pub returns-in-Err-clause-answers : goal.returns-in-Err-clause-answers
returns-in-Err-clause-answers g c =
    let i = c.self.inside in
    let long : length c.as_slice-length.result.now ≡ length c.args.body = ap length c.as_slice-length.ensures in
    let body = c.args.body in
    let room = room_push i.bodies.items body i.used c.self.invariant.taken in
    subst (λ (v : View g.row.D.Denot). (v.closed ≡ false) × (room_of (v.bodies ++ body ∷ []) ≤ v.area) × (g.D.Disk.failures c.make.new.disk ≡ g.D.Disk.failures v.disk + 1)) c.self.view_is
    (c.if-self.false, omega (arith, room, long), c.in-Err.ensures.failures)

pub returns-in-Err-clause-moments : goal.returns-in-Err-clause-moments
returns-in-Err-clause-moments g c =
    let D = g.D.Disk in
    let i = c.self.inside in
    let long : length c.as_slice-length.result.now ≡ length c.args.body = ap length c.as_slice-length.ensures in
    let is : c.in_ok-commit.commit ≡ append_commit (i.start + i.used) c.args.body = c.in_ok-commit.ensures in
    subst (λ (v : View g.row.D.Denot). IsTrue D.honest → v.closed ≡ false → LeavesOnly D.moment D.left_since v.disk c.make.new.disk (HoldsOldOrNew v.area v.bodies c.args.body)) c.self.view_is
    (λ h not_closed. in_commit D.honest D.size D.seen D.may_leave D.moment D.left_since i.disk i.start i.area i.used i.bodies.items i.closed c.self.invariant c.args.body c.make.new.disk c.in_ok-commit.commit is (omega (arith, long)) h not_closed (c.in-Err.ensures.moments h))

-- the record was added

pub returns-in-Ok-clause-answers : goal.returns-in-Ok-clause-answers
returns-in-Ok-clause-answers g c =
    let i = c.self.inside in
    let long : length c.as_slice-length.result.now ≡ length c.args.body = ap length c.as_slice-length.ensures in
    let body = c.args.body in
    let room = room_push i.bodies.items body i.used c.self.invariant.taken in
    subst (λ (v : View g.row.D.Denot). (v.closed ≡ false) × (room_of (v.bodies ++ body ∷ []) ≤ v.area) × (g.D.Disk.failures c.make.new.disk ≡ g.D.Disk.failures v.disk)) c.self.view_is
    (c.if-self.false, omega (arith, room, long), c.in-Ok.ensures.failures)

pub returns-in-Ok-clause-moments : goal.returns-in-Ok-clause-moments
returns-in-Ok-clause-moments g c =
    let D = g.D.Disk in
    let i = c.self.inside in
    let long : length c.as_slice-length.result.now ≡ length c.args.body = ap length c.as_slice-length.ensures in
    let is : c.in_ok-commit.commit ≡ append_commit (i.start + i.used) c.args.body = c.in_ok-commit.ensures in
    subst (λ (v : View g.row.D.Denot). IsTrue D.honest → v.closed ≡ false → LeavesOnly D.moment D.left_since v.disk c.make.new.disk (HoldsOldOrNew v.area v.bodies c.args.body)) c.self.view_is
    (λ h not_closed. in_commit D.honest D.size D.seen D.may_leave D.moment D.left_since i.disk i.start i.area i.used i.bodies.items i.closed c.self.invariant c.args.body c.make.new.disk c.in_ok-commit.commit is (omega (arith, long)) h not_closed (c.in-Ok.ensures.moments h))

pub invariant_of-self : goal.invariant_of-self
invariant_of-self g c =
    let D = g.D.Disk in
    let i = c.self.inside in
    let long : length c.as_slice-length.result.now ≡ length c.args.body = ap length c.as_slice-length.ensures in
    let is : c.in_ok-commit.commit ≡ append_commit (i.start + i.used) c.args.body = c.in_ok-commit.ensures in
    let back : c.into_body-kept.result ≡ c.args.body = c.into_body-kept.ensures (i.start + i.used) c.args.body is in
    let pushed : c.and-self-inside.result.items ≡ i.bodies.items ++ c.args.body ∷ [] = c.and-self-inside.ensures ∙ ap (λ (b : List ℕ). i.bodies.items ++ b ∷ []) back in
    kept_more D.honest D.size D.seen D.may_leave D.moment D.left_since i.disk i.start i.area i.used i.bodies.items i.closed c.self.invariant c.args.body c.make.new.disk c.in_ok-commit.commit c.and-self-inside.result.items _ is pushed (omega (arith, long)) (omega (arith, long)) c.make.ensures.size c.if-self.false c.in-Ok.ensures.committed c.in-Ok.ensures.alone

pub returns-in-Ok-clause-added : goal.returns-in-Ok-clause-added
returns-in-Ok-clause-added g c =
    let i = c.self.inside in
    let is : c.in_ok-commit.commit ≡ append_commit (i.start + i.used) c.args.body = c.in_ok-commit.ensures in
    let back : c.into_body-kept.result ≡ c.args.body = c.into_body-kept.ensures (i.start + i.used) c.args.body is in
    let pushed : c.and-self-inside.result.items ≡ i.bodies.items ++ c.args.body ∷ [] = c.and-self-inside.ensures ∙ ap (λ (b : List ℕ). i.bodies.items ++ b ∷ []) back in
    subst (λ (v : View g.row.D.Denot). c.and-self-inside.result.items ≡ v.bodies ++ c.args.body ∷ []) c.self.view_is pushed

pub returns-in-Ok-clause-handed : goal.returns-in-Ok-clause-handed
returns-in-Ok-clause-handed g c = c.into_body-kept.ensures (c.self.inside.start + c.self.inside.used) c.args.body c.in_ok-commit.ensures

pub returns-in-Ok-clause-kept : goal.returns-in-Ok-clause-kept
returns-in-Ok-clause-kept g c =
    let D = g.D.Disk in
    let i = c.self.inside in
    let long : length c.as_slice-length.result.now ≡ length c.args.body = ap length c.as_slice-length.ensures in
    let is : c.in_ok-commit.commit ≡ append_commit (i.start + i.used) c.args.body = c.in_ok-commit.ensures in
    let back : c.into_body-kept.result ≡ c.args.body = c.into_body-kept.ensures (i.start + i.used) c.args.body is in
    let pushed : c.and-self-inside.result.items ≡ i.bodies.items ++ c.args.body ∷ [] = c.and-self-inside.ensures ∙ ap (λ (b : List ℕ). i.bodies.items ++ b ∷ []) back in
    let kept = kept_more D.honest D.size D.seen D.may_leave D.moment D.left_since i.disk i.start i.area i.used i.bodies.items i.closed c.self.invariant c.args.body c.make.new.disk c.in_ok-commit.commit c.and-self-inside.result.items (i.used + (length c.args.body + 5)) is pushed refl (omega (arith, long)) c.make.ensures.size c.if-self.false c.in-Ok.ensures.committed c.in-Ok.ensures.alone in
    λ h image now. kept_alone _ _ _ (D.may_leave c.make.new.disk) _ _ _ _ _ kept h c.if-self.false image now

pub returns-in-Ok-clause-bytes : goal.returns-in-Ok-clause-bytes
returns-in-Ok-clause-bytes g c =
    let D = g.D.Disk in
    let i = c.self.inside in
    let long : length c.as_slice-length.result.now ≡ length c.args.body = ap length c.as_slice-length.ensures in
    let is : c.in_ok-commit.commit ≡ append_commit (i.start + i.used) c.args.body = c.in_ok-commit.ensures in
    let body = c.args.body in
    subst (λ (v : View g.row.D.Denot). IsTrue D.honest → (offset : ℕ) × IsWritten (D.seen v.disk) offset (record_bytes body ++ 0 ∷ []) (D.seen c.make.new.disk)) c.self.view_is
    (λ h. (
      i.start + i.used,
      appended_bytes D.honest D.size D.seen D.may_leave D.moment D.left_since i.disk i.start i.area i.used i.bodies.items i.closed c.self.invariant body
          c.make.new.disk c.in_ok-commit.commit is (omega (arith, long)) h c.if-self.false (c.in-Ok.ensures.committed h),
    ))
