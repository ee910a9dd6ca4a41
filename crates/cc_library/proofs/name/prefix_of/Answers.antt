use Rattle.std.proofs.Common.{arith}
use Rattle.cc_library.proofs.Prefix.{prefix_is}
use Rattle.cc_library.proofs.name.prefix_of.Goals as goal

pub returns : goal.returns
returns c = omega (
  arith,
  prefix_is c.args.bytes.now,
  c.from_be_bytes.ensures,
  c.byte_or_zero.ensures,
  c.byte_or_zero-2.ensures,
  c.byte_or_zero-3.ensures,
  c.byte_or_zero-4.ensures,
  c.byte_or_zero-5.ensures,
  c.byte_or_zero-6.ensures,
  c.byte_or_zero-7.ensures,
  c.byte_or_zero-8.ensures,
)
