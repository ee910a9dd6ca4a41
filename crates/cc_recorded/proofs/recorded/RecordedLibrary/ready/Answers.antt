use Rattle.std.proofs.Common.{◌≡◌, ◌≢◌, ◌⊎◌, inr, true, false, None, length, sym, ap, ◌∙◌, rules, map}
use Rattle.cc_history.specs.Closing.{AreApart}
use Rattle.cc_recorded.specs.Answers.{IsNotClosed}
use Rattle.cc_recorded.specs.declared.fault.BookFault.TheVariants.{Estranged}
use Rattle.cc_recorded.specs.internal.Apart.{HaveOwnNumbers}
use Rattle.cc_recorded.proofs.Holding.{apart, not_all}
use Rattle.cc_recorded.proofs.recorded.RecordedLibrary.ready.Goals as goal
use Rattle.cc_recorded.proofs.recorded.RecordedLibrary.ready.Goals.{then-clients-made-via-then-clients-made, then-clients-made-via-else-clients-made+then-not-are_apart}

pub returns-in-Err-clause-err : goal.returns-in-Err-clause-err
returns-in-Err-clause-err g c = c.in-Err.ensures.err c.args.made

pub returns-then-clients-made-clause-err : goal.returns-then-clients-made-clause-err
returns-then-clients-made-clause-err g c =
    let clients = c.args.clients.now in
    let sum : (length (map g.C.HasReceipts.member clients) ≢ c.args.made) ⊎ (¬ AreApart (map g.C.HasReceipts.member clients)) =
    elim c.then-clients-made.branch [
      | then-clients-made-via-then-clients-made w ↦ not_all g.C.HasReceipts.member clients c.args.made (λ many own. w.if-clients-made.true many)
      | then-clients-made-via-else-clients-made+then-not-are_apart w ↦
          not_all g.C.HasReceipts.member clients c.args.made (λ many own. let is = w.are_apart.ensures.1 own in let not : w.are_apart.result ≡ false = w.if-not-are_apart.true in let d : false ≡ true = sym not ∙ is in cc)
    ] in
    inr (inr (ap (λ n. Estranged n None) c.entries.ensures, sum))

pub returns-clause-apart : goal.returns-clause-apart
returns-clause-apart g c = apart g.C.HasReceipts.member c.args.clients.now (let own : HaveOwnNumbers g.C.HasReceipts.member c.args.clients.now = search rules in own)
