-- The table after one more move.
use Rattle.std.proofs.Common.{◌≡◌, ◌∙◌, ◌+◌, ◌++◌, ◌∷◌, [], List, take, get_or, length, set, sym, ap, subst, arith, ◌<◌}
use Rattle.std.proofs.lemmas.List.{get_or_read, take_more, take_all}
use Rattle.cc_ltl.specs.Ltl.{target, source}
use Rattle.cc_ltl.specs.declared.operation.Move.{Move}
use Rattle.cc_validate.specs.internal.Room.{IsPlace, most_places}
use Rattle.cc_validate.specs.internal.Table.{number}
use Rattle.cc_validate.specs.internal.Origins.{AreOrigins}
use Rattle.cc_validate.proofs.Carried.{number_below}
use Rattle.cc_validate.proofs.Sending.{origins_more}
use Rattle.cc_validate.proofs.origins.origins.Goals as goal

pub loop-m-preserved : goal.loop-m-preserved
loop-m-preserved c =
    let moves = c.args.moves.now in
    let i = c.loop-m.m-index in
    let m = c.m-item.result in
    let item : get_or moves i m ≡ m = sym (get_or_read moves i m c.loop-m-test.true c.m-item.is m) in
    let to : c.number-in-loop-m.result ≡ number (target m) = c.number-in-loop-m.ensures.number ∙ ap number c.target.ensures in
    let from : c.number.result ≡ number (source m) = c.number.ensures.number ∙ ap number c.source.ensures in
    let old = c.loop-m.origins.items in
    let low : c.number.result < length old = subst (λ n. c.number.result < n) (sym c.loop-m.invariant.long) (subst (λ n. n < most_places) (sym c.number.ensures.number) (number_below _ c.number.ensures.place)) in
    let word : c.index.result.now ≡ get_or old (number (source m)) 0 = get_or_read old c.number.result c.index.result.now low c.index.ensures 0 ∙ ap (λ n. get_or old n 0) from in
    let more : take (i + 1) moves ≡ take i moves ++ m ∷ [] = take_more moves i m c.loop-m-test.true ∙ ap (λ (x : Move). take i moves ++ x ∷ []) item in
    subst (λ (xs : List Move). AreOrigins xs (set old c.number-in-loop-m.result c.index.result.now)) (sym more)
    (subst (λ n. AreOrigins (take i moves ++ m ∷ []) (set old n c.index.result.now)) (sym to)
    (subst (λ n. AreOrigins (take i moves ++ m ∷ []) (set old (number (target m)) n)) (sym word)
    (origins_more (take i moves) old m (subst IsPlace c.target.ensures c.number-in-loop-m.ensures.place) (subst IsPlace c.source.ensures c.number.ensures.place) c.loop-m.invariant)))

pub returns : goal.returns
returns c =
    subst (λ (xs : List Move). AreOrigins xs c.loop-m.origins.items) (take_all c.loop-m.m-index c.args.moves.now (let t = c.loop-m-test.false in omega (arith, t))) c.loop-m.invariant
