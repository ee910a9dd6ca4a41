use Rattle.std.proofs.Common.{List, refl, subst}
use Rattle.cc_history.specs.Closing.{AreApart}
use Rattle.cc_recorded.specs.Answers.{IsNotClosed}
use Rattle.cc_service.specs.Client.{ClientView, members}
use Rattle.cc_service.proofs.service.Service.finish.Goals as goal

pub end-closed-requires-clause-apart : goal.end-closed-requires-clause-apart
end-closed-requires-clause-apart g c = subst (λ (l : List ClientView). AreApart (members l)) c.as_slice.ensures.value c.in-Ok.ensures.apart

pub returns-in-Err-clause-refused : goal.returns-in-Err-clause-refused
returns-in-Err-clause-refused g c =
    let book = c.into_inner-book.result.book in
    let sound = c.survives.ensures.sound in
    let made = c.made.inside.made in
    record {
      found = book.base;
      found_is = sound.base_is;
      history = book.history;
      legal = sound.legal;
      made = made;
      refusal = c.in-Err.fault;
      fault_is = refl;
      why = subst (λ (l : List ClientView). IsNotClosed book.history made (members l) c.in-Err.fault) c.as_slice.ensures.value c.in-Err.ensures.err;
    }
