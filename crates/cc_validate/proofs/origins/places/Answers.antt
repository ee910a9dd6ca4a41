-- One more number is added; at the end, all of them are in the table.
use Rattle.std.proofs.Common.{◌≡◌, ◌∙◌, ◌++◌, ◌∷◌, [], List, ℕ, ap, sym, subst, arith}
use Rattle.std.specs.List.{range_with_len}
use Rattle.cc_validate.specs.internal.Origins.{AreOrigins}
use Rattle.cc_validate.specs.internal.Room.{most_places}
use Rattle.cc_validate.proofs.Sending.{range_more, origins_none}
use Rattle.cc_validate.proofs.origins.places.Goals as goal

pub loop-place-preserved : goal.loop-place-preserved
loop-place-preserved c = c.in_ok-push.ensures.items ∙ (ap (λ (xs : List ℕ). xs ++ c.loop-place.place ∷ []) c.loop-place.invariant ∙ sym (range_more c.loop-place.place))

pub returns : goal.returns
returns c = subst (AreOrigins []) (ap (range_with_len 0) (let all : most_places ≡ c.loop-place.place = (let t = c.loop-place-test.false in let e = c.loop-place.auto.place-end in omega (arith, t, e)) in all) ∙ sym c.loop-place.invariant) origins_none
