use Rattle.std.proofs.lemmas.Nat.{le_bytes_4}
use Rattle.cc_journal.proofs.reading.length_of.Goals as goal

pub returns-clause-bytes : goal.returns-clause-bytes
returns-clause-bytes c = le_bytes_4 c.args.bytes.now c.from_le_bytes.result c.told-bytes c.fits-bytes c.from_le_bytes.ensures
