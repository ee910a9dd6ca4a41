-- The elements of a slice of bytes are below 256.
use Rattle.std.proofs.Common.{arith}
use Rattle.cc_library.proofs.Fields.{from_index}
use Rattle.cc_library.proofs.body.field_length.Goals as goal

pub returns-clause-bytes : goal.returns-clause-bytes
returns-clause-bytes c = from_index 256 c.args.bytes.now (λ i. omega (arith, c.type_inv.bytes i))
