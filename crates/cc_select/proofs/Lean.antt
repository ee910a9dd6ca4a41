-- Without the constants that no step reads, a run keeps up as it does with them. What is live is the same without them, so a settled
-- table stays settled. A constant that is left out is not a move of the new run, and the register that it wrote is not live.
use Rattle.std.proofs.Common.{◌≡◌, ℕ, ◌≤◌, List, [], ◌∷◌, ◌++◌, Option, Some, None, true, false, Bool, length, refl, sym, ap, ◌∙◌, subst, inr, arith}
use Rattle.std.specs.Prelude.{if◌then◌else◌, ◌==◌, ◌&&◌, ◌||◌, not}
use Rattle.cc_simulation.specs.World.{World}
use Rattle.cc_simulation.specs.Run.{Move as Moving, Goes, tried}
use Rattle.cc_simulation.specs.Meaning.{Meaning}
use Rattle.cc_simulation.specs.Tracks.{TracksForAll}
use Rattle.cc_simulation.proofs.Simulating.{coarser}
use Rattle.cc_ltl.specs.declared.location.Location.TheVariants.{Register}
use Rattle.cc_ltl.specs.Ltl.{Locations, put}
use Rattle.cc_linear_language.specs.declared.item.LinearItem.TheVariants.{Label, Const}
use Rattle.cc_select.specs.declared.step.Step.{Step}
use Rattle.cc_select.specs.declared.step.Step.TheVariants.{One, Immediate}
use Rattle.cc_select.specs.Selected.{Configuration, at_steps, place, does, selected_move, selected_output, selected_start}
use Rattle.cc_select.specs.Immediates.{apply_immediate}
use Rattle.cc_select.specs.Live.{Registers, without, live_before, live}
use Rattle.cc_select.specs.internal.Settled.{IsSettled}
use Rattle.cc_select.specs.Selection.{lean}
use Rattle.cc_select.proofs.Basics.{eqb_says, either_way}
use Rattle.cc_select.proofs.Unread.{Agree, agree_behind, put_beside}
use Rattle.cc_select.proofs.Places.{IsThere}
use Rattle.cc_select.proofs.Making.{labelled, Plain, Owes, owes_kept, owes_label, tracks_made}

-- ---- the list

-- without the constants that no step reads, the same registers are live before the steps
pub lean_live : (at : ℕ → Registers) (steps : List Step) (r : ℕ) → live at (lean at steps) r ≡ live at steps r
lean_live at [] r = refl
lean_live at (One (Const to w) ∷ steps) r = by (live at steps to) refl (lean_live at steps r)
  where
    gone : (b : Bool) → (to == r) ≡ b → live at steps to ≡ false → live at steps r ≡ (not b && live at steps r)
    gone true e dead = ap (live at steps) (sym (eqb_says to r e)) ∙ dead
    gone false e dead = refl

    by : (b : Bool) → live at steps to ≡ b → live at (lean at steps) r ≡ live at steps r → live at (if b then One (Const to w) ∷ lean at steps else lean at steps) r ≡ (not (to == r) && live at steps r)
    by true e ih = ap (λ b. not (to == r) && b) ih
    by false e ih = ih ∙ gone (to == r) refl e
lean_live at (Immediate o to a w ∷ steps) r = by (live at steps to || not (live at steps a)) refl (lean_live at steps r)
  where
    unread : (b c : Bool) → (b || not c) ≡ false → (b ≡ false) × (c ≡ true)
    unread true c e = absurd (let z : true ≡ false = e in cc)
    unread false true e = (refl, refl)
    unread false false e = absurd (let z : true ≡ false = e in cc)

    gone : (b c : Bool) → (a == r) ≡ b → (to == r) ≡ c → (live at steps to ≡ false) × (live at steps a ≡ true) → live at steps r ≡ (b || (not c && live at steps r))
    gone true c p q d = ap (live at steps) (sym (eqb_says a r p)) ∙ d.1
    gone false true p q d = ap (live at steps) (sym (eqb_says to r q)) ∙ d.0
    gone false false p q d = refl

    by : (b : Bool) → (live at steps to || not (live at steps a)) ≡ b → live at (lean at steps) r ≡ live at steps r
        → live at (if b then Immediate o to a w ∷ lean at steps else lean at steps) r ≡ ((a == r) || (not (to == r) && live at steps r))
    by true e ih = ap (λ b. (a == r) || (not (to == r) && b)) ih
    by false e ih = ih ∙ gone (a == r) (to == r) refl refl (unread (live at steps to) (live at steps a) e)
lean_live at (s ∷ steps) r = ap (λ (x : Registers). live_before s at x r) (λ i x. lean_live at steps x i)

lean_if : (at : ℕ → Registers) (b : Bool) (xs ys zs : List Step) → zs ≡ lean at ys → (if b then lean at xs else zs) ≡ lean at (if b then xs else ys)
lean_if at true xs ys zs e = refl
lean_if at false xs ys zs e = e

-- each label keeps its place
pub lean_place : (at : ℕ → Registers) (steps : List Step) (l : ℕ) → place (lean at steps) l ≡ lean at (place steps l)
lean_place at [] l = refl
lean_place at (One (Label n) ∷ steps) l = lean_if at (n == l) (One (Label n) ∷ steps) (place steps l) (place (lean at steps) l) (lean_place at steps l)
lean_place at (One (Const to w) ∷ steps) l =
    either_way (λ (xs : List Step). place xs l ≡ lean at (place steps l)) (live at steps to) (One (Const to w) ∷ lean at steps) (lean at steps) (lean_place at steps l) (lean_place at steps l)
lean_place at (Immediate o to a w ∷ steps) l =
    either_way (λ (xs : List Step). place xs l ≡ lean at (place steps l)) (live at steps to || not (live at steps a)) (Immediate o to a w ∷ lean at steps) (lean at steps) (lean_place at steps l) (lean_place at steps l)
lean_place at (s ∷ steps) l = lean_place at steps l

-- a table that is settled for the code is settled for the code without these constants too
pub lean_settled : (at : ℕ → Registers) (code : List Step) → IsSettled at code → IsSettled at (lean at code)
lean_settled at code settled label r i =
    settled label r (sym (lean_live at (place code label) r) ∙ ap (λ (xs : List Step). live at xs r) (sym (lean_place at code label)) ∙ i)

-- ---- the simulation

module _ (arity : ℕ → ℕ) (code : List Step) (at : ℕ → Registers) (settled : IsSettled at code) (few : (g : ℕ) → arity g ≤ 8) where
  abbrev make : List Step → List Step
  make steps = lean at steps

  places : (l : ℕ) → place (make code) l ≡ make (place code l)
  places l = lean_place at code l

  abbrev Related : Configuration → Configuration → Type 0
  Related = Plain arity code make places at settled few

  abbrev Owed : Moving Configuration → List Step → World → Configuration → Type 0
  Owed = Owes arity code make places at settled few Related (λ c d p. p)

  kept : (s : Step) (steps : List Step) (ns : List ℕ) (l k : Locations) (h : World) (ws : List ℕ) → IsThere s → length (s ∷ steps) ≤ length code → Agree (live at (s ∷ steps)) l k
      → Owed (does arity code (s ∷ steps) l h ws) (s ∷ steps) h (at_steps (labelled ns (s ∷ make steps)) k h ws)
  kept = owes_kept arity code make places at settled few Related (λ c d p. p)

  owes : (steps : List Step) (ns : List ℕ) (l k : Locations) (h : World) (ws : List ℕ) → length steps ≤ length code → Agree (live at steps) l k → Owed (does arity code steps l h ws) steps h (at_steps (labelled ns (make steps)) k h ws)
  owes [] ns l k h ws le g = tt
  owes (One (Label n) ∷ steps) ns l k h ws le g = owes_label arity code make places at settled few Related (λ c d p. p) n steps (make steps) ns l k h ws (owes steps (ns ++ n ∷ []) l k h ws (omega arith) g)
  owes (One (Const to w) ∷ steps) ns l k h ws le g = by (live at steps to) refl
    where
      by : (b : Bool) → live at steps to ≡ b
          → Owed (Goes (at_steps steps (put (Register to) w l) h ws)) (One (Const to w) ∷ steps) h (at_steps (labelled ns (if b then One (Const to w) ∷ make steps else make steps)) k h ws)
      by true e = kept (One (Const to w)) steps ns l k h ws tt le g
      by false e = inr (record { before = ns; steps = refl; agree = put_beside to w (live at steps) l k e g; world = refl; words = refl; short = omega arith }, omega arith)
  owes (Immediate o to a w ∷ steps) ns l k h ws le g = by (live at steps to || not (live at steps a)) refl
    where
      unread : (b c : Bool) → (b || c) ≡ false → b ≡ false
      unread true c e = absurd (let z : true ≡ false = e in cc)
      unread false c e = refl

      gone : (x : Option ℕ) → live at steps to ≡ false
          → Owed (tried x (λ v. Goes (at_steps steps (put (Register to) v l) h ws))) (Immediate o to a w ∷ steps) h (at_steps (labelled ns (make steps)) k h ws)
      gone None e = tt
      gone (Some v) e = inr (record { before = ns; steps = refl; agree = put_beside to v (live at steps) l k e (agree_behind a (without to (live at steps)) l k g); world = refl; words = refl; short = omega arith }, omega arith)

      by : (b : Bool) → (live at steps to || not (live at steps a)) ≡ b
          → Owed (tried (apply_immediate o (l (Register a)) w) (λ v. Goes (at_steps steps (put (Register to) v l) h ws))) (Immediate o to a w ∷ steps) h (at_steps (labelled ns (if b then Immediate o to a w ∷ make steps else make steps)) k h ws)
      by true e = kept (Immediate o to a w) steps ns l k h ws tt le g
      by false e = gone (apply_immediate o (l (Register a)) w) (unread (live at steps to) (not (live at steps a)) e)
  owes (s ∷ steps) ns l k h ws le g = kept s steps ns l k h ws tt le g

  -- what a move owes from any related configuration
  owes_related : (c d : Configuration) → Related c d → Owed (selected_move arity code c) c.steps c.world d
  owes_related c d r =
      let e : at_steps (labelled r.before (make c.steps)) d.locations c.world c.words ≡ d = λ i. record { steps = sym r.steps i; locations = d.locations; world = r.world i; words = r.words i } in
      subst (Owed (selected_move arity code c) c.steps c.world) e (owes c.steps r.before c.locations d.locations c.world c.words r.short r.agree)

-- if code keeps up with a function, it still does without the constants that no step reads, at a slower rate
pub lean_tracks : (meaning : Meaning) (f rate slots : ℕ) (code : List Step) (at : ℕ → Registers) → IsSettled at code → ((g : ℕ) → meaning.arity g ≤ 8)
    → TracksForAll meaning f rate (selected_move meaning.arity code) selected_output (selected_start slots code)
    → TracksForAll meaning f (coarser rate (length code)) (selected_move meaning.arity (lean at code)) selected_output (selected_start slots (lean at code))
lean_tracks meaning f rate slots code at settled few keeps =
    tracks_made meaning.arity code (λ steps. lean at steps) (places meaning.arity code at settled few) at settled few (Related meaning.arity code at settled few) (λ c d p. p)
    (owes_related meaning.arity code at settled few) (λ c d r. r.short) (λ c d r. r.world) meaning f rate slots keeps
