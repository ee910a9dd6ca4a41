-- The bytes are no file in any of the four modes.
use Rattle.cc_pack.proofs.Files.{is_unread}
use Rattle.cc_pack.proofs.file.read_file.Goals as goal

pub returns-clause-refused : goal.returns-clause-refused
returns-clause-refused c =
    is_unread _ (rw c.in-None.is at c.in_ok-plain.ensures) (rw c.in-None-checked.is at c.in_ok-checked.ensures)
    (rw c.in-None-both.is at c.in_ok-both.ensures) (rw c.in-None-neither.is at c.in_ok-neither.ensures)
