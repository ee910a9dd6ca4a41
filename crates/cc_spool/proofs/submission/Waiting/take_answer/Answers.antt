-- What was copied is the answer. Its last fault is the one that was read last.
use Rattle.std.proofs.Common.{◌∙◌, ℕ, Option, ap, subst, sym}
use Rattle.cc_spool.specs.Parts.{Tells}
use Rattle.cc_spool.specs.internal.Telling.{last_told}
use Rattle.cc_spool.proofs.Faults.{tells_so}
use Rattle.cc_spool.proofs.submission.Waiting.take_answer.Goals as goal

pub returns-in-Ok : goal.returns-in-Ok
returns-in-Ok g c =
    let copied = c.in-Ok.ensures in
    record {
      answer = copied.bytes;
      written = copied.written;
      tells = subst (λ (told : Option ℕ). Tells copied.bytes told) (sym (c.last.ensures ∙ ap last_told copied.read)) (tells_so copied.bytes);
    }
