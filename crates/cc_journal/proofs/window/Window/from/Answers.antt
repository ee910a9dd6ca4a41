use Rattle.std.proofs.Common.{◌-◌, List, ℕ, length, sym, subst, arith}
use Rattle.cc_journal.specs.internal.Reading.{Shows}
use Rattle.cc_journal.proofs.Ahead.{shows_from}
use Rattle.cc_journal.proofs.window.Window.from.Goals as goal

pub returns-clause-shows : goal.returns-clause-shows
returns-clause-shows c = λ seen shown.
    shows_from c.args.self.now.offset c.args.offset (length c.deref.result.now - (c.args.offset - c.args.self.now.offset)) c.deref.result.now seen (omega arith)
    (subst (λ (l : List ℕ). Shows c.args.self.now.offset l seen) (sym c.deref.ensures.value) shown)
