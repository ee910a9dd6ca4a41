-- The answer is about the book's library.
use Rattle.std.proofs.Common.{IfOk, IsTrue, subst}
use Rattle.cc_journal.specs.Format.{AllHold}
use Rattle.cc_recorded.specs.Answers.{SpaceAnswers}
use Rattle.cc_recorded.specs.Since.{BookSince}
use Rattle.cc_recorded.proofs.book.Book.space.Goals as goal

pub returns-clause-answers : goal.returns-clause-answers
returns-clause-answers g c = subst (λ (b : BookSince g.row.D.Denot). SpaceAnswers b.book c.space.result) c.self.view_is c.space.ensures.answers

pub returns-clause-kept : goal.returns-clause-kept
returns-clause-kept g c =
    let D = g.D.Disk in
    subst (λ (b : BookSince g.row.D.Denot). IfOk c.space.result (λ _. IsTrue D.honest → AllHold (D.may_leave b.book.library.disk) b.book.library.area b.book.library.bodies)) c.self.view_is c.space.ensures.kept
