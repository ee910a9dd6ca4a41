use Rattle.std.proofs.Common.{◌≡◌, ◌≤◌, ℕ, List, false, IsTrue, length, sym, ap, ◌∙◌, subst}
use Rattle.cc_disk.specs.Images.{LeavesAlone, LeavesOnly}
use Rattle.cc_journal.specs.Format.{HasAreaByte, HoldsAlone, HoldsOneOf, records, room_of}
use Rattle.cc_journal.specs.Commit.{Commit, FailsIn, IsCommitted, rewrite_commit}
use Rattle.cc_journal.specs.Journal.{IsKept, View}
use Rattle.cc_journal.proofs.Kept.{kept_alone, still_either, in_rewrite, rewritten_bytes, kept_rewritten, at_byte}
use Rattle.cc_journal.proofs.log.Log.rewrite.Goals as goal

-- no device call was made

pub returns-in_default-clause-moments : goal.returns-in_default-clause-moments
returns-in_default-clause-moments g c =
    let D = g.D.Disk in
    let i = c.self.inside in
    subst (λ (v : View g.row.D.Denot). IsTrue D.honest → v.closed ≡ false → LeavesOnly D.moment D.left_since v.disk v.disk (HoldsOneOf v.area v.bodies c.args.bodies.items)) c.self.view_is
    (λ h not_closed. still_either D.honest D.size D.seen D.may_leave D.moment D.left_since i.disk i.start i.area i.used i.bodies.items i.closed c.self.invariant c.args.bodies.items (λ image left. g.met.D.Disk.only_now i.disk image h left) h not_closed)

pub returns-in_err-commit-clause-moments : goal.returns-in_err-commit-clause-moments
returns-in_err-commit-clause-moments g c =
    let D = g.D.Disk in
    let i = c.self.inside in
    subst (λ (v : View g.row.D.Denot). IsTrue D.honest → v.closed ≡ false → LeavesOnly D.moment D.left_since v.disk v.disk (HoldsOneOf v.area v.bodies c.args.bodies.items)) c.self.view_is
    (λ h not_closed. still_either D.honest D.size D.seen D.may_leave D.moment D.left_since i.disk i.start i.area i.used i.bodies.items i.closed c.self.invariant c.args.bodies.items (λ image left. g.met.D.Disk.only_now i.disk image h left) h not_closed)

-- the commit was made, or begun

pub invariant_of-self : goal.invariant_of-self
invariant_of-self g c =
    let D = g.D.Disk in
    let i = c.self.inside in
    let more = c.args.bodies.items in
    let is : c.in_ok-commit.commit ≡ rewrite_commit c.side.result i.area more = c.in_ok-commit.ensures ∙ ap (λ (l : List (List ℕ)). rewrite_commit c.side.result i.area l) c.deref-2.ensures.value in
    let room : room_of more ≤ i.area = subst (λ (l : List (List ℕ)). room_of l ≤ i.area) c.deref.ensures.value c.in-Some.ensures.taken.1 in
    let taken : c.in-Some.used ≡ length (records more) = c.in-Some.ensures.taken.0 ∙ ap (λ (l : List (List ℕ)). length (records l)) c.deref.ensures.value in
    let told_is : c.told-self-inside.result.items ≡ more = c.told-self-inside.ensures ∙ c.deref-in-Ok.ensures.value in
    subst (λ (l : List (List ℕ)). IsKept D.honest (D.size c.make.new.disk) (D.seen c.make.new.disk) (D.may_leave c.make.new.disk) c.offset-self-inside.result i.area c.in-Some.used l i.closed) (sym told_is)
    (kept_rewritten D.honest D.size D.seen D.may_leave D.moment D.left_since i.disk i.start i.area i.used i.bodies.items i.closed c.self.invariant more c.make.new.disk c.in_ok-commit.commit c.side.result is c.side.ensures.first c.side.ensures.second room c.if-self.false
    c.offset-self-inside.result c.in-Some.used c.offset-self-inside.ensures taken c.make.ensures.size c.in-Ok.ensures.committed c.in-Ok.ensures.alone)

pub returns-in-Ok-clause-kept : goal.returns-in-Ok-clause-kept
returns-in-Ok-clause-kept g c =
    let D = g.D.Disk in
    let i = c.self.inside in
    let more = c.args.bodies.items in
    let is : c.in_ok-commit.commit ≡ rewrite_commit c.side.result i.area more = c.in_ok-commit.ensures ∙ ap (λ (l : List (List ℕ)). rewrite_commit c.side.result i.area l) c.deref-2.ensures.value in
    let room : room_of more ≤ i.area = subst (λ (l : List (List ℕ)). room_of l ≤ i.area) c.deref.ensures.value c.in-Some.ensures.taken.1 in
    let taken : c.in-Some.used ≡ length (records more) = c.in-Some.ensures.taken.0 ∙ ap (λ (l : List (List ℕ)). length (records l)) c.deref.ensures.value in
    let told_is : c.told-self-inside.result.items ≡ more = c.told-self-inside.ensures ∙ c.deref-in-Ok.ensures.value in
    let kept = kept_rewritten D.honest D.size D.seen D.may_leave D.moment D.left_since i.disk i.start i.area i.used i.bodies.items i.closed c.self.invariant more c.make.new.disk c.in_ok-commit.commit c.side.result is c.side.ensures.first c.side.ensures.second room c.if-self.false
    c.offset-self-inside.result c.in-Some.used c.offset-self-inside.ensures taken c.make.ensures.size c.in-Ok.ensures.committed c.in-Ok.ensures.alone in
    λ h image now. subst (λ (l : List (List ℕ)). HoldsAlone image i.area l) (sym told_is) (kept_alone _ _ _ (D.may_leave c.make.new.disk) _ _ _ _ _ kept h c.if-self.false image now)

pub returns-in-Ok-clause-bytes : goal.returns-in-Ok-clause-bytes
returns-in-Ok-clause-bytes g c =
    let D = g.D.Disk in
    let i = c.self.inside in
    let more = c.args.bodies.items in
    let is : c.in_ok-commit.commit ≡ rewrite_commit c.side.result i.area more = c.in_ok-commit.ensures ∙ ap (λ (l : List (List ℕ)). rewrite_commit c.side.result i.area l) c.deref-2.ensures.value in
    let room : room_of more ≤ i.area = subst (λ (l : List (List ℕ)). room_of l ≤ i.area) c.deref.ensures.value c.in-Some.ensures.taken.1 in
    subst (λ (v : View g.row.D.Denot). IsTrue D.honest → (area_byte : ℕ) × HasAreaByte (D.seen v.disk) area_byte v.area × IsCommitted (rewrite_commit area_byte v.area more) (D.seen v.disk) (D.seen c.make.new.disk)) c.self.view_is
    (λ h. rewritten_bytes D.honest D.size D.seen D.may_leave D.moment D.left_since i.disk i.start i.area i.used i.bodies.items i.closed c.self.invariant more c.make.new.disk c.in_ok-commit.commit c.side.result is c.side.ensures.first c.side.ensures.second room c.if-self.false h (c.in-Ok.ensures.committed h))

pub returns-in-Ok-clause-moments : goal.returns-in-Ok-clause-moments
returns-in-Ok-clause-moments g c =
    let D = g.D.Disk in
    let i = c.self.inside in
    let more = c.args.bodies.items in
    let is : c.in_ok-commit.commit ≡ rewrite_commit c.side.result i.area more = c.in_ok-commit.ensures ∙ ap (λ (l : List (List ℕ)). rewrite_commit c.side.result i.area l) c.deref-2.ensures.value in
    let room : room_of more ≤ i.area = subst (λ (l : List (List ℕ)). room_of l ≤ i.area) c.deref.ensures.value c.in-Some.ensures.taken.1 in
    subst (λ (v : View g.row.D.Denot). IsTrue D.honest → v.closed ≡ false → LeavesOnly D.moment D.left_since v.disk c.make.new.disk (HoldsOneOf v.area v.bodies more)) c.self.view_is
    (λ h not_closed. in_rewrite D.honest D.size D.seen D.may_leave D.moment D.left_since i.disk i.start i.area i.used i.bodies.items i.closed c.self.invariant more c.make.new.disk c.in_ok-commit.commit c.side.result is c.side.ensures.first c.side.ensures.second room c.if-self.false h (c.in-Ok.ensures.moments h))

pub returns-in-Err-clause-moments : goal.returns-in-Err-clause-moments
returns-in-Err-clause-moments g c =
    let D = g.D.Disk in
    let i = c.self.inside in
    let more = c.args.bodies.items in
    let is : c.in_ok-commit.commit ≡ rewrite_commit c.side.result i.area more = c.in_ok-commit.ensures ∙ ap (λ (l : List (List ℕ)). rewrite_commit c.side.result i.area l) c.deref-2.ensures.value in
    let room : room_of more ≤ i.area = subst (λ (l : List (List ℕ)). room_of l ≤ i.area) c.deref.ensures.value c.in-Some.ensures.taken.1 in
    subst (λ (v : View g.row.D.Denot). IsTrue D.honest → v.closed ≡ false → LeavesOnly D.moment D.left_since v.disk c.make.new.disk (HoldsOneOf v.area v.bodies more)) c.self.view_is
    (λ h not_closed. in_rewrite D.honest D.size D.seen D.may_leave D.moment D.left_since i.disk i.start i.area i.used i.bodies.items i.closed c.self.invariant more c.make.new.disk c.in_ok-commit.commit c.side.result is c.side.ensures.first c.side.ensures.second room c.if-self.false h (c.in-Err.ensures.moments h))

-- ---- what became of the bytes

pub returns-in-Ok-clause-committed : goal.returns-in-Ok-clause-committed
returns-in-Ok-clause-committed g c =
    let D = g.D.Disk in
    let i = c.self.inside in
    let more = c.args.bodies.items in
    let is : c.in_ok-commit.commit ≡ rewrite_commit c.side.result i.area more = c.in_ok-commit.ensures ∙ ap (λ (l : List (List ℕ)). rewrite_commit c.side.result i.area l) c.deref-2.ensures.value in
    let room : room_of more ≤ i.area = subst (λ (l : List (List ℕ)). room_of l ≤ i.area) c.deref.ensures.value c.in-Some.ensures.taken.1 in
    subst (λ (v : View g.row.D.Denot). IsTrue D.honest → (area_byte : ℕ) → HasAreaByte (D.seen v.disk) area_byte v.area → IsCommitted (rewrite_commit area_byte v.area more) (D.seen v.disk) (D.seen c.make.new.disk) × LeavesAlone (D.seen c.make.new.disk) (D.may_leave c.make.new.disk)) c.self.view_is
    (λ h area_byte has. (
      at_byte D.honest D.size D.seen D.may_leave D.moment D.left_since i.disk i.start i.area i.used i.bodies.items i.closed c.self.invariant more c.make.new.disk c.in_ok-commit.commit c.side.result is c.side.ensures.first c.side.ensures.second room c.if-self.false h area_byte
          (λ (k : Commit). IsCommitted k (D.seen i.disk) (D.seen c.make.new.disk)) has (c.in-Ok.ensures.committed h),
      c.in-Ok.ensures.alone h,
    ))

pub returns-in-Err-clause-failed : goal.returns-in-Err-clause-failed
returns-in-Err-clause-failed g c =
    let D = g.D.Disk in
    let i = c.self.inside in
    let more = c.args.bodies.items in
    let is : c.in_ok-commit.commit ≡ rewrite_commit c.side.result i.area more = c.in_ok-commit.ensures ∙ ap (λ (l : List (List ℕ)). rewrite_commit c.side.result i.area l) c.deref-2.ensures.value in
    let room : room_of more ≤ i.area = subst (λ (l : List (List ℕ)). room_of l ≤ i.area) c.deref.ensures.value c.in-Some.ensures.taken.1 in
    λ failed. subst (λ (v : View g.row.D.Denot). IsTrue D.honest → (area_byte : ℕ) → HasAreaByte (D.seen v.disk) area_byte v.area → FailsIn (rewrite_commit area_byte v.area more) (D.seen v.disk) (D.may_leave c.make.new.disk)) c.self.view_is
    (λ h area_byte has. at_byte D.honest D.size D.seen D.may_leave D.moment D.left_since i.disk i.start i.area i.used i.bodies.items i.closed c.self.invariant more c.make.new.disk c.in_ok-commit.commit c.side.result is c.side.ensures.first c.side.ensures.second room c.if-self.false h area_byte
    (λ (k : Commit). FailsIn k (D.seen i.disk) (D.may_leave c.make.new.disk)) has (c.in-Err.ensures.failed h (c.self.invariant.alone h c.if-self.false)))
