-- One more body was read, and its command was added at the end.
use Rattle.std.proofs.Common.{◌≡◌, ℕ, ◌+◌, suc, List, [], ◌∷◌, ◌++◌, drop, drop-cons, sym, ap, subst, ◌∙◌, arith}
use Rattle.std.proofs.lemmas.List.{drop_all}
use Rattle.cc_library.specs.Body.{Spells}
use Rattle.cc_core.specs.declared.command.Numbered.{Numbered}
use Rattle.cc_core.specs.declared.sequence_number.SequenceNumber.{SequenceNumber}
use Rattle.cc_core.proofs.Beginnings.{IsReadTo, read_more, read_all}
use Rattle.cc_core.proofs.opening.read_order.Goals as goal

pub loop-body-preserved : goal.loop-body-preserved
loop-body-preserved c =
    let i = c.loop-body.body-index in
    let bodies = c.args.bodies.now in
    let order = c.loop-body.order in
    let upcoming = c.loop-body.upcoming in
    let body : List ℕ = c.body-item.result in
    let last : Numbered = record { number = c.same.result; command = c.in-Ok.command } in
    let within = c.loop-body-test.true in
    let behind : suc i ≡ i + 1 = omega arith in
    let split : drop i bodies ≡ body ∷ drop (i + 1) bodies = drop-cons bodies i body within ∙ ap (λ (b : List ℕ). b ∷ drop (suc i) bodies) (sym c.body-item.is) ∙ ap (λ (k : ℕ). body ∷ drop k bodies) behind in
    let spelled : Spells body c.in-Ok.command = subst (λ (b : List ℕ). Spells b c.in-Ok.command) c.as_slice.ensures c.in-Ok.ensures.answer in
    let more : IsReadTo bodies (drop (i + 1) bodies) (order ++ last ∷ []) (upcoming.value + 1) =
    read_more bodies body (drop (i + 1) bodies) order upcoming.value last
    (subst (λ (l : List (List ℕ)). IsReadTo bodies l order upcoming.value) split c.loop-body.invariant) spelled (ap (λ (n : SequenceNumber). n.value) c.same.ensures) in
    subst (λ (n : ℕ). IsReadTo bodies (drop (i + 1) bodies) c.push.new.self n) (sym (ap (λ (n : SequenceNumber). n.value) c.next-upcoming.ensures))
    (subst (λ (l : List Numbered). IsReadTo bodies (drop (i + 1) bodies) l (upcoming.value + 1)) (sym c.in_ok-push.ensures.ok) more)

pub returns-clause-order : goal.returns-clause-order
returns-clause-order c =
    let bodies = c.args.bodies.now in
    let at_end = c.loop-body-test.false in
    read_all bodies c.loop-body.order c.loop-body.upcoming
    (subst (λ (l : List (List ℕ)). IsReadTo bodies l c.loop-body.order c.loop-body.upcoming.value) (drop_all c.loop-body.body-index bodies at_end) c.loop-body.invariant)
