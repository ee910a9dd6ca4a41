use Rattle.cc_script.proofs.Words.{too_many}
use Rattle.cc_script.proofs.command.command_of.Goals as goal

pub returns-in-Some-rest-3 : goal.returns-in-Some-rest-3
returns-in-Some-rest-3 c =
    let one = rw c.in-Some.is at c.cut.ensures in
    let two = rw c.in-Some-rest.is at c.cut-2.ensures in
    let three = rw c.in-Some-rest-2.is at c.cut-3.ensures in
    let four = rw c.in-Some-rest-3.is at c.cut-4.ensures in
    too_many c.args.dialect c.args.line.now c.cut.result.0.now c.cut-2.result.0.now c.cut-3.result.0.now c.cut-4.result.0.now c.in-Some-rest-3.field-0.now c.in-Some.rest.now c.in-Some-rest.rest.now c.in-Some-rest-2.rest.now one two three four
