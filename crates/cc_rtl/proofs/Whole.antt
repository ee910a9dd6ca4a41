-- From a function's entry: what Cminor's run guarantees about the source's meaning, RTL's run guarantees at a larger rate.
use Rattle.std.proofs.Common.{◌≡◌, ℕ, suc, ◌*◌, ◌≤◌, List, [], refl, sym, ap, ◌∙◌, subst, arith, get_or}
use Rattle.std.proofs.Math.Nat.{mul-le-mul_left}
use Rattle.cc_simulation.specs.Behavior.{Outcome}
use Rattle.cc_simulation.specs.World.{World, Answer, Effect, Gives, Unfinished, Failed}
use Rattle.cc_simulation.specs.Run.{Move, Goes, run, work, act, work_act, tried}
use Rattle.cc_simulation.specs.Meaning.{Meaning, call_effect}
use Rattle.cc_simulation.specs.Tracks.{Keeps, Tracks}
use Rattle.cc_simulation.proofs.Simulating.{tracks_on, coarser}
use Rattle.cc_cminor_language.specs.Cminor.{Statement, cminor_move, cminor_output, cminor_start}
use Rattle.cc_rtl_language.specs.Rtl.{at, node_move, rtl_output}
use Rattle.cc_rtl_language.specs.internal.Moves.{Graph, graph_move}
use Rattle.cc_rtl.specs.internal.Translates.{IsCodeOf}
use Rattle.cc_rtl.proofs.Statements.{size, measure, Related, generated}

-- what is kept is still kept if one more move is counted
keeps_more : (rate n : ℕ) (e : Effect) (w : ℕ) (y z : Outcome Answer) → z ≡ y → Keeps rate n e w y → Keeps rate n e (suc w) z
keeps_more rate n (Gives a left) w y z same (is, le) = (same ∙ is, (let g : rate * suc w ≤ rate * suc (suc w) = mul-le-mul_left rate (let o : suc w ≤ suc (suc w) = omega arith in o) in omega arith))
keeps_more rate n (Unfinished o) w y z same (is, le) = (same ∙ is, (let g : rate * suc w ≤ rate * suc (suc w) = mul-le-mul_left rate (let o : suc w ≤ suc (suc w) = omega arith in o) in omega arith))
keeps_more rate n (Failed o) w y z same kept = tt

-- a run that keeps up still does with one more move before it
tracks_behind : (meaning : Meaning) (f rate : ℕ) {C : Type 0} (move : C → Move C) (output : C → List ℕ) (start before : List ℕ → World → C) → ((ws : List ℕ) (h : World) → move (before ws h) ≡ Goes (start ws h))
    → Tracks meaning f rate move output start → Tracks meaning f rate move output before
tracks_behind meaning f rate {C} move output start before goes tracks d below ws h is_call n =
    let t = tracks d below ws h is_call n in
    let k = t.2 in
    let effect = call_effect meaning (suc d) in
    let same : run move output effect (suc k.moves) k.steps (before ws h) ≡ run move output effect k.moves k.steps (start ws h) = ap (λ v. act effect v (output (before ws h)) k.steps (run move output effect k.moves)) (goes ws h) in
    let did : work move effect (suc k.moves) k.steps (before ws h) ≡ suc (work move effect k.moves k.steps (start ws h)) = ap (λ v. work_act effect v k.steps (work move effect k.moves)) (goes ws h) in (
      suc t.0,
      t.1,
      record {
        moves = suc k.moves;
        steps = k.steps;
        few = let a = k.few in omega arith;
        few_steps = k.few_steps;
        keeps = subst (λ w. Keeps rate n (meaning.body n d f ws h) w (run move output effect (suc k.moves) k.steps (before ws h))) (sym did) (keeps_more rate n (meaning.body n d f ws h) _ _ _ same k.keeps);
      },
    )

module _ (nodes : Graph) (count : ℕ) (body : Statement) (entry : ℕ) (is : IsCodeOf nodes count body entry) where
  -- how much coarser the rate becomes
  abbrev most : ℕ
  most = suc (size body)

  pub rtl_tracks : (meaning : Meaning) (f rate : ℕ) → Tracks meaning f rate cminor_move cminor_output (cminor_start body)
      → Tracks meaning f (coarser rate most) (graph_move nodes) rtl_output (λ ws h. at entry (λ r. get_or ws r 0) h)
  rtl_tracks meaning f rate tracks =
      tracks_behind meaning f (coarser rate most) (graph_move nodes) rtl_output (λ ws h. at is.first (λ r. get_or ws r 0) h) (λ ws h. at entry (λ r. get_or ws r 0) h)
      (λ ws h. ap (λ x. tried x (λ node. node_move node (λ r. get_or ws r 0) h)) is.nop)
      (tracks_on meaning f rate cminor_move cminor_output (graph_move nodes) rtl_output (Related nodes count most) measure most most (generated nodes count most)
      (cminor_start body) (λ ws h. at is.first (λ r. get_or ws r 0) h)
      (λ ws h c. record { exit = is.exit; exits = []; code = is.translates; next = is.finishes; holds = λ x lt. refl; world = refl; low = omega arith; turns = tt }) tracks)
