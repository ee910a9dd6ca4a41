use Rattle.std.proofs.Common.{◌≡◌, inl, inr, length, get_or, take, Some, refl, sym, ap, ◌∙◌, subst, arith, map}
use Rattle.std.specs.Prelude.{slice_get}
use Rattle.std.proofs.lemmas.Bool.{cases_lt}
use Rattle.std.proofs.lemmas.List.{length-map, take_all}
use Rattle.std.proofs.lemmas.List.Sums.{sum_by_more}
use Rattle.std.proofs.lemmas.Option.{get_or_from_slice_get, slice_get_read, slice_get_within}
use Rattle.cc_history.specs.Closing.{receipts_of}
use Rattle.cc_history.specs.History.{MemberView, IsOwn}
use Rattle.cc_recorded.proofs.Holding.{client_at, member_at}
use Rattle.cc_recorded.proofs.closing.count_receipts.Goals as goal

pub loop-client-preserved : goal.loop-client-preserved
loop-client-preserved g c =
    let all = c.args.clients.now in
    let k = c.loop-client.client-index in
    let one = c.client-item.result in
    let here : slice_get all k ≡ Some one = slice_get_read all (length all) k one refl (omega arith) c.client-item.is in
    let many : length (map g.C.HasReceipts.member all) ≡ length all = length-map all g.C.HasReceipts.member in
    let its : get_or (map g.C.HasReceipts.member all) k (g.C.HasReceipts.member one) ≡ (g.C.HasReceipts.member one) = get_or_from_slice_get (map g.C.HasReceipts.member all) k (g.C.HasReceipts.member one) (g.C.HasReceipts.member one) (member_at g.C.HasReceipts.member all k one here) in
    let more = sum_by_more (λ (h : MemberView). length h.receipts) (map g.C.HasReceipts.member all) k (g.C.HasReceipts.member one) (omega (arith, many)) in
    let new = ap (λ (h : MemberView). length h.receipts) its in
    record {
      counted = omega (arith, c.loop-client.invariant.counted, more, new, ap length c.receipts.ensures.answer);
      below = omega (arith, c.loop-client.invariant.below);
      own = λ j earlier less at.
          elim (cases_lt j k) [
            | inl below ↦ c.loop-client.invariant.own j earlier below at
            | inr above ↦
                let same : j ≡ k = omega arith in
                let both : Some earlier ≡ Some one = sym at ∙ ap (slice_get all) same ∙ here in
                let is : earlier ≡ one = cc in
                subst (λ (h : g.row.C.Denot). IsOwn (g.C.HasReceipts.member h)) (sym is) c.receipts.ensures.own
          ];
    }

pub returns-clause-count : goal.returns-clause-count
returns-clause-count g c =
    let all = c.args.clients.now in
    let many : length (map g.C.HasReceipts.member all) ≡ length all = length-map all g.C.HasReceipts.member in
    c.loop-client.invariant.counted ∙ ap receipts_of (take_all c.loop-client.client-index (map g.C.HasReceipts.member all) (omega (arith, many)))

pub returns-clause-own : goal.returns-clause-own
returns-clause-own g c i client at =
    let all = c.args.clients.now in
    let its = client_at g.C.HasReceipts.member all i client at in
    subst (λ (h : MemberView). IsOwn h) its.2 (c.loop-client.invariant.own i its.0 (omega (arith, slice_get_within all i its.0 its.1)) its.1)
