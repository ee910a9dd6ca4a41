-- If there is a certificate, its part of the body has its length and its bytes.
use Rattle.std.proofs.Common.{◌≡◌, ℕ, ◌<◌, List, length, Some, sym, ap, subst, ◌∙◌, arith}
use Rattle.cc_library.specs.Body.{IsCertificate, certificate_part}
use Rattle.cc_library.proofs.Sizes.{certificate_long}
use Rattle.cc_library.proofs.body.certificate_length.Goals as goal

pub returns-in-Some-clause-length : goal.returns-in-Some-clause-length
returns-in-Some-clause-length c =
    let bytes : List ℕ = c.bytes.result.now in
    let is : c.args.certificate.now ≡ Some bytes = c.in-Some.is ∙ ap Some (sym c.bytes.ensures) in
    omega (arith, c.field_length.ensures.length, certificate_long bytes, ap (λ p. length (certificate_part p)) is)

pub returns-in-Some-clause-certificate : goal.returns-in-Some-clause-certificate
returns-in-Some-clause-certificate c = λ few.
    let bytes : List ℕ = c.bytes.result.now in
    let is : c.args.certificate.now ≡ Some bytes = c.in-Some.is ∙ ap Some (sym c.bytes.ensures) in
    let short : length bytes < 4294967296 = omega (arith, few, c.field_length.ensures.length) in
    subst IsCertificate (sym is) (short, c.field_length.ensures.bytes)
