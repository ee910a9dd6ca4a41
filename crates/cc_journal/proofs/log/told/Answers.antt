use Rattle.std.proofs.Common.{◌≡◌, ◌+◌, ◌<◌, ◌++◌, ◌∷◌, [], ℕ, List, length, drop, sym, ap, ◌∙◌, append_assoc, arith}
use Rattle.std.proofs.lemmas.List.{append-nil, drop_all}
use Rattle.cc_journal.proofs.Records.{next_body}
use Rattle.cc_journal.proofs.log.told.Goals as goal

pub loop-body-preserved : goal.loop-body-preserved
loop-body-preserved c =
    let bodies : List (List ℕ) = c.args.bodies.now in
    let i = c.loop-body.body-index in
    let within : i < length bodies = omega arith in
    let so_far = c.loop-body.history.items in
    let body = c.body-item.result in
    let behind = drop (i + 1) bodies in
    ap (λ (l : List (List ℕ)). l ++ behind) c.and-history.ensures ∙ append_assoc so_far (body ∷ []) behind
    ∙ ap (λ (l : List (List ℕ)). so_far ++ l) (sym (next_body bodies i body within c.body-item.is)) ∙ c.loop-body.invariant

pub returns : goal.returns
returns c =
    let bodies : List (List ℕ) = c.args.bodies.now in
    let none : drop c.loop-body.body-index bodies ≡ [] = drop_all c.loop-body.body-index bodies (omega arith) in
    sym (append-nil c.loop-body.history.items) ∙ ap (λ (l : List (List ℕ)). c.loop-body.history.items ++ l) (sym none) ∙ c.loop-body.invariant
