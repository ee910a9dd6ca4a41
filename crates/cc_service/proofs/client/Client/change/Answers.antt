-- A change that may compact first is a plain change, or comes after a compaction.
use Rattle.std.proofs.Common.{◌⊎◌, subst}
use Rattle.cc_recorded.specs.Changed.{IsBookChanged}
use Rattle.cc_recorded.specs.Compacting.{IsCompactedFor}
use Rattle.cc_service.specs.Client.{ClientView}
use Rattle.cc_service.proofs.Mending.{changed_or_compacted}
use Rattle.cc_service.proofs.client.Client.change.Goals as goal

pub returns-then-compacts-clause-answers : goal.returns-then-compacts-clause-answers
returns-then-compacts-clause-answers g c =
    let D = g.D.Disk in
    let before = c.args.book.now.book in
    let after_it = c.commit_compacting.new.self.book in
    let new = c.commit_compacting.new.client in
    let command = c.args.command in
    let result = c.commit_compacting.result in
    let done = c.commit_compacting.ensures in
    subst (λ (v : ClientView). IsBookChanged D before v.member command after_it new result ⊎ IsCompactedFor D before v.member command after_it new result) c.self.view_is
    (changed_or_compacted D before after_it c.self.inside.member new command result done.answers done.moments done.kept)
