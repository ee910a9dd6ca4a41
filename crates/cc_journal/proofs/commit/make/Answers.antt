-- The calls of a commit one after the other, with the commit's bytes and offsets.
use Rattle.std.proofs.Common.{◌≡◌, subst}
use Rattle.cc_disk.specs.Images.{LeavesOnly}
use Rattle.cc_journal.specs.Commit.{Commit}
use Rattle.cc_journal.specs.internal.Commit.{IsMidCommit}
use Rattle.cc_journal.proofs.Steps.{through_last, through_sync}
use Rattle.cc_journal.proofs.commit.make.Goals as goal

pub returns-in_err-write_at-2-clause-moments : goal.returns-in_err-write_at-2-clause-moments
returns-in_err-write_at-2-clause-moments g c = λ h alone.
    let D = g.D.Disk in
    let made : Commit = record { offset = c.offset.result; bytes = c.bytes.result.now; deciding_offset = c.deciding_offset.result; deciding_byte = c.deciding_byte.result } in
    let same : made ≡ c.args.commit.now = λ i. record { offset = c.offset.ensures i; bytes = c.bytes.ensures i; deciding_offset = c.deciding_offset.ensures i; deciding_byte = c.deciding_byte.ensures i } in
    subst (λ (k : Commit). LeavesOnly D.moment D.left_since c.args.disk.now c.write_at-2.new.self (IsMidCommit k (D.seen c.args.disk.now))) same
    (through_last D.seen D.may_leave D.moment D.left_since made c.args.disk.now c.write_at.new.self c.sync.new.self c.write_at-2.new.self
    (λ image left. g.met.D.Disk.only_now c.args.disk.now image h left) alone
    (c.write_at.ensures.images h) (c.write_at.ensures.time h) (c.in_ok-write_at.ensures.written h)
    (c.in_ok-sync.ensures.settled h) (c.sync.ensures.images h) (c.sync.ensures.time h)
    (c.write_at-2.ensures.images h) (c.write_at-2.ensures.time h))

pub returns-clause-moments : goal.returns-clause-moments
returns-clause-moments g c = λ h alone.
    let D = g.D.Disk in
    let made : Commit = record { offset = c.offset.result; bytes = c.bytes.result.now; deciding_offset = c.deciding_offset.result; deciding_byte = c.deciding_byte.result } in
    let same : made ≡ c.args.commit.now = λ i. record { offset = c.offset.ensures i; bytes = c.bytes.ensures i; deciding_offset = c.deciding_offset.ensures i; deciding_byte = c.deciding_byte.ensures i } in
    subst (λ (k : Commit). LeavesOnly D.moment D.left_since c.args.disk.now c.sync-2.new.self (IsMidCommit k (D.seen c.args.disk.now))) same
    (through_sync D.seen D.may_leave D.moment D.left_since made c.args.disk.now c.write_at.new.self c.sync.new.self c.write_at-2.new.self
    (λ image left. g.met.D.Disk.only_now c.args.disk.now image h left) alone
    (c.write_at.ensures.images h) (c.write_at.ensures.time h) (c.in_ok-write_at.ensures.written h)
    (c.in_ok-sync.ensures.settled h) (c.sync.ensures.images h) (c.sync.ensures.time h)
    (c.write_at-2.ensures.images h) (c.write_at-2.ensures.time h) c.sync-2.new.self (c.sync-2.ensures.images h) (c.sync-2.ensures.time h))
