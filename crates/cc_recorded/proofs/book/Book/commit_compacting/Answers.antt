-- Each call keeps what the book's type keeps. A commit after a compaction is made on the book that the compaction
-- left.
use Rattle.std.proofs.Common.{inr, [], ◌∷◌}
use Rattle.cc_recorded.proofs.Mending.{commits_at_once, commits_behind, not_compacted, noted_twice}
use Rattle.cc_recorded.proofs.book.Book.commit_compacting.Goals as goal

pub returns-in-Ok-false-clause-answers : goal.returns-in-Ok-false-clause-answers
returns-in-Ok-false-clause-answers g c =
    let D = g.D.Disk in
    commits_at_once D c.args.self.now.book c.commit.new.self.book c.args.client.now c.commit.new.client c.args.command c.commit.result
    (c.in-Ok-false.ensures.not c.in-Ok-false.field-0-test) c.commit.ensures.changed.answers c.commit.ensures.changed.disk

pub returns-in-Ok-clause-answers : goal.returns-in-Ok-clause-answers
returns-in-Ok-clause-answers g c =
    let D = g.D.Disk in
    let test = c.in-Ok-true.field-0-test in
    commits_behind D c.args.self.now.book c.compact.new.self.book c.commit-in-Ok.new.self.book c.args.client.now c.commit-in-Ok.new.client c.args.command c.commit-in-Ok.result
    (c.in-Ok-true.ensures.mended test) (c.in-Ok-true.ensures.stands test) c.in-Ok.ensures.compacted.answers c.in-Ok.ensures.compacted.disk c.commit-in-Ok.ensures.changed.answers c.commit-in-Ok.ensures.changed.disk

pub returns-in-Ok-clause-since : goal.returns-in-Ok-clause-since
returns-in-Ok-clause-since g c =
    inr (
      c.compact.new.self.book ∷ [],
      noted_twice c.args.self.now.since c.compact.new.self.since c.commit-in-Ok.new.self.since c.compact.new.self.book c.commit-in-Ok.new.self.book c.compact.ensures.since c.commit-in-Ok.ensures.since,
    )

pub returns-in-Err-compact-clause-answers : goal.returns-in-Err-compact-clause-answers
returns-in-Err-compact-clause-answers g c =
    let D = g.D.Disk in
    let test = c.in-Ok-true.field-0-test in
    not_compacted D c.args.self.now.book c.compact.new.self.book c.args.client.now c.args.command c.in-Err-compact.field-0
    (c.in-Ok-true.ensures.mended test) (c.in-Ok-true.ensures.stands test) c.in-Err-compact.ensures.compacted.answers c.in-Err-compact.ensures.compacted.disk
