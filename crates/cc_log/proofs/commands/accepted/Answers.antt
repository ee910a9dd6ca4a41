use Rattle.cc_library.specs.Recovered.{AreSpelled}
use Rattle.cc_log.specs.internal.Reading.{IsUnread}
use Rattle.cc_log.proofs.Reading.{of_ok, of_err, read_of, unread_stand}
use Rattle.cc_log.proofs.commands.accepted.Goals as goal

pub returns-clause-commands : goal.returns-clause-commands
returns-clause-commands c =
    of_ok {P = λ commands. AreSpelled c.args.bodies.now commands.items} (λ commands spelled. read_of c.args.bodies.now c.in-Ok.units commands.items c.in-Ok.ensures.answer spelled) c.spelled.result c.spelled.ensures.commands

pub returns-clause-refused : goal.returns-clause-refused
returns-clause-refused c =
    of_err {P = λ fault. IsUnread c.args.bodies.now fault} (λ fault why. unread_stand c.args.bodies.now fault why) c.spelled.result c.spelled.ensures.refused
