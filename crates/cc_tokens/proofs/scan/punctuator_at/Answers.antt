-- It is enough to search the punctuators that begin with the first byte.
use Rattle.std.proofs.Common.{◌∙◌, ◌==◌, ap}
use Rattle.std.specs.List.{find, starts_with}
use Rattle.cc_tokens.specs.Spelling.{punctuator_bytes}
use Rattle.cc_tokens.specs.internal.Scan.{punctuators_with}
use Rattle.cc_tokens.proofs.Few.{punctuator_among_few}
use Rattle.cc_tokens.proofs.scan.punctuator_at.Goals as goal

pub returns : goal.returns
returns c =
    c.punctuator_in.ensures ∙ ap (find (λ p. starts_with (λ a b. a == b) c.args.bytes.now (punctuator_bytes p))) (c.punctuators_with.ensures ∙ ap punctuators_with c.byte_at.ensures.value)
    ∙ punctuator_among_few c.args.bytes.now
