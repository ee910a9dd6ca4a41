-- At each turn, all records lead to the same maps as the remaining ones do from the map so far.
use Rattle.std.proofs.Common.{◌≡◌, ℕ, suc, ◌+◌, ◌<◌, List, [], ◌∷◌, length, drop, get_or, sym, ap, subst, ◌∙◌, drop-cons, arith}
use Rattle.std.proofs.lemmas.List.{drop_all}
use Rattle.std.proofs.lemmas.Result.{err_from_is_err_and}
use Rattle.cc_library.specs.Apply.{Units}
use Rattle.cc_library.specs.Recovered.{LeadTo}
use Rattle.cc_library.proofs.Standing.{step_before, step_behind, none_left, fails_here}
use Rattle.cc_library.proofs.replaying.replay.Goals as goal

next_body : (bodies : List (List ℕ)) (i : ℕ) (body : List ℕ) → i < length bodies → body ≡ get_or bodies i body → drop i bodies ≡ body ∷ drop (i + 1) bodies
next_body bodies i body within is =
    let k : suc i ≡ i + 1 = omega arith in
    drop-cons bodies i body within ∙ ap (λ (b : List ℕ). b ∷ drop (suc i) bodies) (sym is) ∙ ap (λ (n : ℕ). body ∷ drop n bodies) k

pub loop-body-init : goal.loop-body-init
loop-body-init c = record {
  onward = λ made l. subst (λ (m : Units). LeadTo m c.args.bodies.now made) c.new-units.ensures l;
  back = λ made l. subst (λ (m : Units). LeadTo m c.args.bodies.now made) (sym c.new-units.ensures) l;
}

pub loop-body-preserved : goal.loop-body-preserved
loop-body-preserved c =
    let bodies : List (List ℕ) = c.args.bodies.now in
    let i = c.loop-body.body-index in
    let within : i < length bodies = omega arith in
    let parts = next_body bodies i c.body-item.result within c.body-item.is in
    record {
      onward = λ made l. c.loop-body.invariant.onward made
          (subst (λ (bs : List (List ℕ)). LeadTo c.loop-body.units bs made) (sym parts)
          (step_before c.loop-body.units c.in_ok-units.units c.body-item.result (drop (i + 1) bodies) made c.in_ok-units.ensures l));
      back = λ made l. step_behind c.loop-body.units c.in_ok-units.units c.body-item.result (drop (i + 1) bodies) made c.in_ok-units.ensures
          (subst (λ (bs : List (List ℕ)). LeadTo c.loop-body.units bs made) parts (c.loop-body.invariant.back made l));
    }

pub returns-in_err-units-clause-refused : goal.returns-in_err-units-clause-refused
returns-in_err-units-clause-refused c =
    let bodies : List (List ℕ) = c.args.bodies.now in
    let i = c.loop-body.body-index in
    let within : i < length bodies = omega arith in
    let parts = next_body bodies i c.body-item.result within c.body-item.is in
    let p = err_from_is_err_and c.from_residual.result c.from_residual.ensures.1 in
    rw (p.1, p.2) (fails_here bodies c.loop-body.units c.body-item.result (drop (i + 1) bodies) c.in_err-units.field-0.0 c.in_err-units.ensures
    (λ made l. subst (λ (bs : List (List ℕ)). LeadTo c.loop-body.units bs made) parts (c.loop-body.invariant.back made l)))

pub returns-clause-answer : goal.returns-clause-answer
returns-clause-answer c =
    let bodies : List (List ℕ) = c.args.bodies.now in
    let nothing : drop c.loop-body.body-index bodies ≡ [] = drop_all c.loop-body.body-index bodies (omega arith) in
    c.loop-body.invariant.onward c.loop-body.units (subst (λ (bs : List (List ℕ)). LeadTo c.loop-body.units bs c.loop-body.units) (sym nothing) (none_left c.loop-body.units))
