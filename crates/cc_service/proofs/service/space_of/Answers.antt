-- The figures are those of the book's library.
use Rattle.std.proofs.Common.{ap}
use Rattle.cc_service.specs.declared.fault.ServiceFault.TheVariants.{Book}
use Rattle.cc_service.proofs.service.space_of.Goals as goal

pub returns-in-Ok-clause-answers : goal.returns-in-Ok-clause-answers
returns-in-Ok-clause-answers g c =
    let library = c.args.book.now.book.library in
    (library.area, library.bodies, library.units, c.in-Ok.ensures.answers.1)

pub returns-in-Ok-clause-moment : goal.returns-in-Ok-clause-moment
returns-in-Ok-clause-moment g c = record { book = c.args.book.now.book; sound = c.survives.ensures.sound; figures = c.in-Ok.ensures.answers.1; images = c.in-Ok.ensures.kept }

pub returns-in-Err-clause-answers : goal.returns-in-Err-clause-answers
returns-in-Err-clause-answers g c = ap Book c.in-Err.ensures.answers.0
