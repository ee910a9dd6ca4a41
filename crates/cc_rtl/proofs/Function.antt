-- The whole function: the generated code keeps up with Cminor's, has the counted number of nodes, and each node leads to nodes
-- but not to the entry.
use Rattle.std.proofs.Common.{◌≡◌, ℕ, zero, suc, ◌+◌, ◌-◌, ◌<◌, [], ◌∷◌, length, ◌∙◌, subst, arith, length-append, Some, None}
use Rattle.cc_simulation.specs.Meaning.{Meaning}
use Rattle.cc_simulation.specs.Tracks.{Tracks}
use Rattle.cc_simulation.proofs.Simulating.{coarser}
use Rattle.cc_cminor_language.specs.Cminor.{Statement, cminor_move, cminor_output, cminor_start}
use Rattle.cc_rtl_language.specs.Rtl as rtl
use Rattle.cc_rtl_language.specs.Rtl.{rtl_move, rtl_output, rtl_start}
use Rattle.cc_rtl.specs.internal.Translates.{IsCodeOf}
use Rattle.cc_rtl.specs.internal.Generate.{Places, place_at, made, made_function, IsFormed, generated_rtl}
use Rattle.cc_rtl.proofs.Statements.{size}
use Rattle.cc_rtl.proofs.Generated.{function_right}
use Rattle.cc_rtl.proofs.Inside.{function_filled}
use Rattle.cc_rtl.proofs.Labels.{AreFilled, filled_all, turned_node}
use Rattle.cc_rtl.proofs.Turning.{code_turns}
use Rattle.cc_rtl.proofs.Whole.{rtl_tracks}

module _ (parameters count : ℕ) (body : Statement) (formed : IsFormed count body) where
  abbrev pub places : Places
  places = (made_function count body).places

  abbrev pub last : ℕ
  last = (made_function count body).entry

  pub long : length places ≡ suc last
  long = length-append (made count body 1 [] _).places (_ ∷ []) ∙ (let e : last + 1 ≡ suc last = omega arith in e)

  pub filled : AreFilled places
  filled = filled_all places (function_filled count body)

  place_within : (g : Places) (l : ℕ) (n : rtl.Node) → place_at g l ≡ Some n → l < length g
  place_within [] l n e = absurd (let z : None ≡ Some n = e in cc)
  place_within (x ∷ g) zero n e = omega arith
  place_within (x ∷ g) (suc l) n e = let r = place_within g l n e in omega arith

  -- the graph that is returned is the code of the body
  pub generated_code : IsCodeOf (rtl.node_at (generated_rtl parameters count body).nodes) count body 0
  generated_code =
      let z : last - last ≡ 0 = omega arith in
      subst (IsCodeOf (rtl.node_at (generated_rtl parameters count body).nodes) count body) z
      (code_turns (λ l. last - l) (place_at places) (rtl.node_at (generated_rtl parameters count body).nodes) (λ l n e. turned_node places last filled long l n (place_within places l n e) e) count body last (function_right count body formed).0)

  -- its run keeps up with the source if Cminor's does
  pub generated_tracks : (meaning : Meaning) (f rate : ℕ) → Tracks meaning f rate cminor_move cminor_output (cminor_start body)
      → Tracks meaning f (coarser rate (suc (size body))) (rtl_move (generated_rtl parameters count body)) rtl_output (rtl_start (generated_rtl parameters count body))
  generated_tracks meaning f rate tracks = rtl_tracks (rtl.node_at (generated_rtl parameters count body).nodes) count body 0 generated_code meaning f rate tracks
