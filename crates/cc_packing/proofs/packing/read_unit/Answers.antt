-- The body of a file is one, and what is read from it is no Add.
use Rattle.cc_packing.proofs.Unread.{no_command, no_replace, no_withdraw}
use Rattle.cc_packing.proofs.packing.read_unit.Goals as goal

pub returns-in-Ok-Replace-clause-refused : goal.returns-in-Ok-Replace-clause-refused
returns-in-Ok-Replace-clause-refused c =
    no_replace c.args.file.now c.in-Ok.packed.body.now c.in-Ok.packed.confirmed c.in-Ok-Replace.name c.in-Ok-Replace.unit c.in-Ok.ensures.read (rw c.in-Ok-Replace.field-0-is at c.in-Ok-Replace.ensures.only)

pub returns-in-Ok-Withdraw-clause-refused : goal.returns-in-Ok-Withdraw-clause-refused
returns-in-Ok-Withdraw-clause-refused c =
    no_withdraw c.args.file.now c.in-Ok.packed.body.now c.in-Ok.packed.confirmed c.in-Ok-Withdraw.name c.in-Ok.ensures.read (rw c.in-Ok-Withdraw.field-0-is at c.in-Ok-Withdraw.ensures.only)

pub returns-in-Err-NoCommand-clause-refused : goal.returns-in-Err-NoCommand-clause-refused
returns-in-Err-NoCommand-clause-refused c =
    no_command c.args.file.now c.in-Ok.packed.body.now c.in-Ok.packed.confirmed c.in-Ok.ensures.read (rw c.in-Err-NoCommand.field-0-is at c.in-Err-NoCommand.ensures.only)
