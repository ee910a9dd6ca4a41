use Rattle.std.proofs.Common.{◌≡◌, inl, inr, length, List, Some, refl, sym, ap, ◌∙◌, subst, arith, map}
use Rattle.std.specs.Prelude.{slice_get}
use Rattle.std.proofs.lemmas.Bool.{cases_lt}
use Rattle.std.proofs.lemmas.Option.{slice_get_read, slice_get_within}
use Rattle.cc_history.specs.declared.entry.Receipt.{Receipt}
use Rattle.cc_history.specs.History.{MemberView, AllStand}
use Rattle.cc_history.specs.Standing.{IsFirstAstray, SomeAstray}
use Rattle.cc_recorded.specs.Answers.{IsNotClosed}
use Rattle.cc_recorded.specs.declared.fault.BookFault.{BookFault}
use Rattle.cc_recorded.specs.Fault.{fault_of}
use Rattle.cc_recorded.proofs.Holding.{client_at, member_at}
use Rattle.cc_recorded.proofs.closing.stand_in.Goals as goal

pub returns-in-Err-clause-err : goal.returns-in-Err-clause-err
returns-in-Err-clause-err g c made =
    let all = c.args.clients.now in
    let k = c.loop-client.client-index in
    let one = c.client-item.result in
    let here : slice_get all k ≡ Some one = slice_get_read all (length all) k one refl (omega arith) c.client-item.is in
    subst (λ (f : BookFault). IsNotClosed c.args.history.now made (map g.C.HasReceipts.member all) f) (sym c.from.ensures)
    (elim c.in-Err.ensures.err [
      | inl none ↦ inl (ap fault_of none)
      | inr at ↦ inr (inl (
        k,
        (g.C.HasReceipts.member one),
        c.in-Err.fault,
        member_at g.C.HasReceipts.member all k one here,
        refl,
        (λ j earlier less there. let its = client_at g.C.HasReceipts.member all j earlier there in subst (λ (h : MemberView). AllStand c.args.history.now h.receipts) its.2 (c.loop-client.invariant j its.0 less its.1)),
        subst (λ (r : List Receipt). IsFirstAstray c.args.history.now r c.in-Err.fault) c.receipts.ensures.answer at,
      ))
    ])

pub returns-in-Err-clause-astray : goal.returns-in-Err-clause-astray
returns-in-Err-clause-astray g c =
    let all = c.args.clients.now in
    let k = c.loop-client.client-index in
    let one = c.client-item.result in
    let here : slice_get all k ≡ Some one = slice_get_read all (length all) k one refl (omega arith) c.client-item.is in
    (k, (g.C.HasReceipts.member one), member_at g.C.HasReceipts.member all k one here, subst (λ (r : List Receipt). SomeAstray c.args.history.now r) c.receipts.ensures.answer c.in-Err.ensures.astray)

pub loop-client-preserved : goal.loop-client-preserved
loop-client-preserved g c j earlier less at =
    let all = c.args.clients.now in
    let k = c.loop-client.client-index in
    let one = c.client-item.result in
    let here : slice_get all k ≡ Some one = slice_get_read all (length all) k one refl (omega arith) c.client-item.is in
    let stand : AllStand c.args.history.now (g.C.HasReceipts.member one).receipts = subst (λ (r : List Receipt). AllStand c.args.history.now r) c.receipts.ensures.answer c.in-Ok.ensures.ok in
    elim (cases_lt j k) [
      | inl below ↦ c.loop-client.invariant j earlier below at
      | inr above ↦
          let same : j ≡ k = omega arith in
          let both : Some earlier ≡ Some one = sym at ∙ ap (slice_get all) same ∙ here in
          let is : earlier ≡ one = cc in
          subst (λ (h : g.row.C.Denot). AllStand c.args.history.now (g.C.HasReceipts.member h).receipts) (sym is) stand
    ]

pub returns-clause-stand : goal.returns-clause-stand
returns-clause-stand g c i client at =
    let all = c.args.clients.now in
    let its = client_at g.C.HasReceipts.member all i client at in
    subst (λ (h : MemberView). AllStand c.args.history.now h.receipts) its.2 (c.loop-client.invariant i its.0 (omega (arith, slice_get_within all i its.0 its.1)) its.1)
