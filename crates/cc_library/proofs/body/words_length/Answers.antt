-- The elements of a slice of words are below 2^32.
use Rattle.std.proofs.Common.{arith}
use Rattle.cc_library.proofs.Fields.{from_index}
use Rattle.cc_library.proofs.body.words_length.Goals as goal

pub returns-clause-words : goal.returns-clause-words
returns-clause-words c = from_index 4294967296 c.args.words.now (λ i. omega (arith, c.type_inv.words i))
