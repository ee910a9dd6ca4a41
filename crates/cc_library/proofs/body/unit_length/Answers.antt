-- The unit's type keeps the limits of all fields except the certificate.
use Rattle.std.proofs.Common.{length, ap, subst, arith}
use Rattle.cc_library.specs.Body.{AreBelow}
use Rattle.cc_library.proofs.Sizes.{unit_parts}
use Rattle.cc_library.proofs.body.unit_length.Goals as goal

pub returns-clause-length : goal.returns-clause-length
returns-clause-length c = omega (
  arith,
  unit_parts c.args.unit.now,
  c.field_length-of_source.ensures.length,
  c.words_length-of_code.ensures.length,
  c.words_length-of_globals.ensures.length,
  c.certificate_length-of_certificate.ensures.length,
  ap length c.bytes-source.ensures.bytes,
  ap length c.words-code.ensures.words,
  ap length c.words-globals.ensures.words,
)

pub returns-clause-unit : goal.returns-clause-unit
returns-clause-unit c = λ few. record {
  source = c.bytes-source.ensures.few;
  bytes = subst (AreBelow 256) c.bytes-source.ensures.bytes c.field_length-of_source.ensures.bytes;
  some = c.words-code.ensures.some;
  code = c.words-code.ensures.few;
  code_words = subst (AreBelow 4294967296) c.words-code.ensures.words c.words_length-of_code.ensures.words;
  globals = c.words-globals.ensures.few;
  global_words = subst (AreBelow 4294967296) c.words-globals.ensures.words c.words_length-of_globals.ensures.words;
  certificate = c.certificate_length-of_certificate.ensures.certificate (omega (arith, few));
}
