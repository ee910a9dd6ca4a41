-- If all receipts match and there are as many receipts as entries, the rest follows from `receipts_count_up`. If the numbers
-- differ, there are fewer receipts, since each receipt has an entry of its own.
use Rattle.std.proofs.Common.{◌≡◌, ◌≢◌, inl, inr, true, false, length, sym, ap, ◌∙◌, rules, map}
use Rattle.std.proofs.lemmas.Bool.{eq-eqb, eqb-true}
use Rattle.cc_history.specs.Closing.{AreApart, ReceiptsStand, receipts_of}
use Rattle.cc_recorded.specs.internal.Apart.{HaveOwnNumbers}
use Rattle.cc_recorded.proofs.Holding.{apart, more_entries, not_apart}
use Rattle.cc_recorded.proofs.recorded.RecordedLibrary.is_whole.Goals as goal

pub returns-in-Err-clause-why : goal.returns-in-Err-clause-why
returns-in-Err-clause-why g c same = inl c.in-Err.ensures.astray

pub returns-then-not-are_apart-clause-why : goal.returns-then-not-are_apart-clause-why
returns-then-not-are_apart-clause-why g c same =
    inr (inl (not_apart g.C.HasReceipts.member c.args.clients.now (λ own. let is = c.are_apart.ensures.1 own in let not : c.are_apart.result ≡ false = c.if-not-are_apart.true in let d : false ≡ true = sym not ∙ is in cc)))

pub returns-clause-closed : goal.returns-clause-closed
returns-clause-closed g c all =
    let clients = c.args.clients.now in
    let same = eqb-true c.count_receipts-receipts.result c.from.result all in
    let own = c.count_receipts-receipts.ensures in
    let total : receipts_of (map g.C.HasReceipts.member clients) ≡ length c.args.self.now.history = sym own.count ∙ same ∙ c.from.ensures ∙ c.entries.ensures in
    c.receipts_count_up.ensures c.args.self.now.history (map g.C.HasReceipts.member clients) own.own (apart g.C.HasReceipts.member clients (c.are_apart.ensures.0 c.if-not-are_apart.false)) c.in-Ok.ensures.stand total

pub returns-clause-why : goal.returns-clause-why
returns-clause-why g c differ =
    let clients = c.args.clients.now in
    let history = c.args.self.now.history in
    let own = c.count_receipts-receipts.ensures in
    let entries : c.from.result ≡ length history = c.from.ensures ∙ c.entries.ensures in
    let not : receipts_of (map g.C.HasReceipts.member clients) ≢ length history = λ total.
    let d : false ≡ true = sym differ ∙ eq-eqb c.count_receipts-receipts.result c.from.result (own.count ∙ total ∙ sym entries) in
    cc
    in
    let stand = c.in-Ok.ensures.stand in
    inr (inr (stand, more_entries history (map g.C.HasReceipts.member clients) own.own (apart g.C.HasReceipts.member clients (c.are_apart.ensures.0 c.if-not-are_apart.false)) stand not))
