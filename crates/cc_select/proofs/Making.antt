-- Steps that are made from steps, as `lean` and `fused` make them: what both need for a simulation from the old ones to the new ones. Each
-- label keeps its place, so each step that is kept does what it did, between places that correspond. A label is not a move, so the new
-- steps may be after labels that the run has passed already (`labelled`).
use Rattle.std.proofs.Common.{◌≡◌, ℕ, ◌<◌, ◌≤◌, ◌⊎◌, List, [], ◌∷◌, ◌++◌, Option, Some, None, true, false, Bool, length, refl, sym, ap, ◌∙◌, subst, inl, inr, arith}
use Rattle.cc_words.specs.Words.{add}
use Rattle.cc_words.specs.Operators.{apply_binary}
use Rattle.cc_simulation.specs.World.{World, element, stored}
use Rattle.cc_simulation.specs.Run.{Move as Moving, Goes, Calls, Returns, Fails, tried}
use Rattle.cc_simulation.specs.Meaning.{Meaning}
use Rattle.cc_simulation.specs.Tracks.{TracksForAll}
use Rattle.cc_simulation.specs.internal.Simulation.{Advances, Asks, Ending, Simulation, Alike}
use Rattle.cc_simulation.proofs.Simulating.{coarser, tracks_on_for_all}
use Rattle.cc_ltl.specs.declared.location.Location.TheVariants.{Register}
use Rattle.cc_ltl.specs.Ltl.{Locations, put}
use Rattle.cc_linear_language.specs.declared.item.LinearItem.TheVariants.{Label, Jump, IfNonzero, IfZero, Copy, Const, Unary, Binary, Load, Store, Call, Read, Write, Return}
use Rattle.cc_select.specs.declared.step.Step.{Step}
use Rattle.cc_select.specs.declared.step.Step.TheVariants.{One, Immediate, LoadAt, StoreAt, LoadNear, StoreNear, Branch, BranchImmediate}
use Rattle.cc_select.specs.Immediates.{apply_immediate}
use Rattle.cc_select.specs.Selected.{Configuration, at_steps, place, led, does, selected_move, selected_output, selected_start}
use Rattle.cc_select.specs.Live.{Registers, live}
use Rattle.cc_select.specs.internal.Settled.{IsSettled}
use Rattle.cc_select.proofs.Places.{led_alike, IsThere, IsShort, short_move}
use Rattle.cc_select.proofs.Unread.{Agree, Same, does_alike}

-- ---- labels before steps

abbrev pub labelled : List ℕ → List Step → List Step
labelled [] steps = steps
labelled (n ∷ ns) steps = One (Label n) ∷ labelled ns steps

pub labelled_more : (ns : List ℕ) (n : ℕ) (steps : List Step) → labelled ns (One (Label n) ∷ steps) ≡ labelled (ns ++ n ∷ []) steps
labelled_more [] n steps = refl
labelled_more (m ∷ ns) n steps = ap (λ (xs : List Step). One (Label m) ∷ xs) (labelled_more ns n steps)

pub through : (arity : ℕ → ℕ) (code : List Step) (ns : List ℕ) (steps : List Step) (l : Locations) (h : World) (ws : List ℕ) → does arity code (labelled ns steps) l h ws ≡ does arity code steps l h ws
through arity code [] steps l h ws = refl
through arity code (n ∷ ns) steps l h ws = through arity code ns steps l h ws

module _ (arity : ℕ → ℕ) (code : List Step) (make : List Step → List Step) (places : (l : ℕ) → place (make code) l ≡ make (place code l)) where
  -- ---- a step that is kept

  abbrev pub maker : Configuration → Configuration
  maker c = at_steps (make c.steps) c.locations c.world c.words

  abbrev pub made_of : Moving Configuration → Moving Configuration
  made_of (Goes c) = Goes (maker c)
  made_of (Calls q f) = Calls q (λ a. maker (f a))
  made_of (Returns r) = Returns r
  made_of Fails = Fails

  made_tried : {X : Type 0} (x : Option X) (f g : X → Moving Configuration) → ((v : X) → g v ≡ made_of (f v)) → tried x g ≡ made_of (tried x f)
  made_tried {X} None f g e = refl
  made_tried {X} (Some v) f g e = e v

  made_goes : (steps made : List Step) (l : Locations) (h : World) (ws : List ℕ) → made ≡ make steps → Goes (at_steps made l h ws) ≡ made_of (Goes (at_steps steps l h ws))
  made_goes steps made l h ws e = ap (λ (xs : List Step). Goes (at_steps xs l h ws)) e

  pub made_led : (nonzero : Bool) (w n : ℕ) (steps : List Step) → led nonzero w (make steps) (place (make code) n) ≡ make (led nonzero w steps (place code n))
  made_led nonzero w n steps = led_alike (λ (xs ys : List Step). ys ≡ make xs) nonzero w steps (place code n) (make steps) (place (make code) n) refl (places n)

  led_goes : (nonzero : Bool) (w n : ℕ) (steps : List Step) (l : Locations) (h : World) (ws : List ℕ)
      → Goes (at_steps (led nonzero w (make steps) (place (make code) n)) l h ws) ≡ made_of (Goes (at_steps (led nonzero w steps (place code n)) l h ws))
  led_goes nonzero w n steps l h ws = made_goes (led nonzero w steps (place code n)) (led nonzero w (make steps) (place (make code) n)) l h ws (made_led nonzero w n steps)

  put_made : (x : Option ℕ) (to : ℕ) (steps : List Step) (l : Locations) (h : World) (ws : List ℕ)
      → tried x (λ w. Goes (at_steps (make steps) (put (Register to) w l) h ws)) ≡ made_of (tried x (λ w. Goes (at_steps steps (put (Register to) w l) h ws)))
  put_made x to steps l h ws = made_tried x (λ w. Goes (at_steps steps (put (Register to) w l) h ws)) (λ w. Goes (at_steps (make steps) (put (Register to) w l) h ws)) (λ v. refl)

  stored_made : (x : Option World) (steps : List Step) (l : Locations) (ws : List ℕ) → tried x (λ w. Goes (at_steps (make steps) l w ws)) ≡ made_of (tried x (λ w. Goes (at_steps steps l w ws)))
  stored_made x steps l ws = made_tried x (λ w. Goes (at_steps steps l w ws)) (λ w. Goes (at_steps (make steps) l w ws)) (λ v. refl)

  branch_made : (x : Option ℕ) (nonzero : Bool) (n : ℕ) (steps : List Step) (l : Locations) (h : World) (ws : List ℕ)
      → tried x (λ w. Goes (at_steps (led nonzero w (make steps) (place (make code) n)) l h ws)) ≡ made_of (tried x (λ w. Goes (at_steps (led nonzero w steps (place code n)) l h ws)))
  branch_made x nonzero n steps l h ws =
      made_tried x (λ w. Goes (at_steps (led nonzero w steps (place code n)) l h ws)) (λ w. Goes (at_steps (led nonzero w (make steps) (place (make code) n)) l h ws)) (λ v. led_goes nonzero v n steps l h ws)

  pub kept_does : (s : Step) (steps : List Step) (l : Locations) (h : World) (ws : List ℕ) → IsThere s → does arity (make code) (s ∷ make steps) l h ws ≡ made_of (does arity code (s ∷ steps) l h ws)
  kept_does (One (Label n)) steps l h ws t = absurd t
  kept_does (One (Jump n)) steps l h ws t = made_goes (place code n) (place (make code) n) l h ws (places n)
  kept_does (One (IfNonzero r n)) steps l h ws t = led_goes true (l (Register r)) n steps l h ws
  kept_does (One (IfZero r n)) steps l h ws t = led_goes false (l (Register r)) n steps l h ws
  kept_does (One (Copy m)) steps l h ws t = refl
  kept_does (One (Const to w)) steps l h ws t = refl
  kept_does (One (Unary o to a)) steps l h ws t = refl
  kept_does (One (Binary o to a b)) steps l h ws t = put_made (apply_binary o (l (Register a)) (l (Register b))) to steps l h ws
  kept_does (One (Load width g to i)) steps l h ws t = put_made (element h width g (l (Register i))) to steps l h ws
  kept_does (One (Store width g i a)) steps l h ws t = stored_made (stored h width g (l (Register i)) (l (Register a))) steps l ws
  kept_does (One (Call g)) steps l h ws t = refl
  kept_does (One Read) steps l h ws t = refl
  kept_does (One Write) steps l h ws t = refl
  kept_does (One Return) steps l h ws t = refl
  kept_does (Immediate o to a w) steps l h ws t = put_made (apply_immediate o (l (Register a)) w) to steps l h ws
  kept_does (LoadAt width g to i) steps l h ws t = put_made (element h width g i) to steps l h ws
  kept_does (StoreAt width g i a) steps l h ws t = stored_made (stored h width g i (l (Register a))) steps l ws
  kept_does (LoadNear width g to i w) steps l h ws t = put_made (element h width g (add (l (Register i)) w)) to steps l h ws
  kept_does (StoreNear width g i w a) steps l h ws t = stored_made (stored h width g (add (l (Register i)) w) (l (Register a))) steps l ws
  kept_does (Branch o nonzero a b n) steps l h ws t = branch_made (apply_binary o (l (Register a)) (l (Register b))) nonzero n steps l h ws
  kept_does (BranchImmediate o nonzero a w n) steps l h ws t = branch_made (apply_immediate o (l (Register a)) w) nonzero n steps l h ws

  -- ---- the simulation

  module _ (at : ℕ → Registers) (settled : IsSettled at code) (few : (g : ℕ) → arity g ≤ 8) where
    abbrev pub old : Configuration → Moving Configuration
    old = selected_move arity code

    abbrev pub new : Configuration → Moving Configuration
    new = selected_move arity (make code)

    abbrev pub same : Configuration → Configuration → Type 0
    same = Same arity code at settled few

    -- the new run is at the steps made from those of the old one, after some labels, and the locations agree on what is live
    pub record Plain (c d : Configuration) : Type 0 where
      pub before : List ℕ
      pub steps : d.steps ≡ labelled before (make c.steps)
      pub agree : Agree (live at c.steps) c.locations d.locations
      pub world : c.world ≡ d.world
      pub words : c.words ≡ d.words
      pub short : length c.steps ≤ length code

    pub plain_of : (c e : Configuration) → same c e → length c.steps ≤ length code → Plain c (maker e)
    plain_of c e s le = record { before = []; steps = ap (λ (xs : List Step). make xs) (sym s.steps); agree = s.agree; world = s.world; words = s.words; short = le }

    module _ (Related : Configuration → Configuration → Type 0) (plain : (c d : Configuration) → Plain c d → Related c d) where
      -- what a move of the old run owes
      abbrev pub Owes : Moving Configuration → List Step → World → Configuration → Type 0
      Owes (Goes c) steps h d = Advances old selected_output new selected_output Related 0 c d ⊎ (Related c d × (length c.steps < length steps))
      Owes (Calls q f) steps h d = Asks old selected_output new selected_output Related 0 q f d
      Owes (Returns r) steps h d = Ending old selected_output new selected_output 0 r h.output d
      Owes Fails steps h d = Unit {0}

      -- a move that both runs make
      both : (m n : Moving Configuration) (steps : List Step) (h : World) (d : Configuration) → d.world ≡ h → IsShort arity code m → Alike same m n → new d ≡ made_of n → Owes m steps h d
      both (Goes c) (Goes e) steps h d w le a eq = inl (record { moves = 1; to = maker e; one = omega arith; few = omega arith; way = (maker e, eq, (refl, refl)); related = plain c (maker e) (plain_of c e a le) })
      both (Calls q f) (Calls p g) steps h d w le (e, a) eq = record {
        moves = 0;
        to = d;
        resume' = λ x. maker (g x);
        few = omega arith;
        way = (refl, refl);
        calls = eq ∙ ap (λ z. Calls z (λ x. maker (g x))) (sym e);
        related = λ x. plain (f x) (maker (g x)) (plain_of (f x) (g x) (a x) (le x));
      }
      both (Returns r) (Returns s) steps h d w le a eq = record { moves = 0; to = d; few = omega arith; way = (refl, refl); returns = eq ∙ ap Returns (sym a); output = ap (λ (x : World). x.output) w }
      both Fails n steps h d w le a eq = tt
      both m n steps h d w le a eq = absurd a

      pub owes_kept : (s : Step) (steps : List Step) (ns : List ℕ) (l k : Locations) (h : World) (ws : List ℕ) → IsThere s → length (s ∷ steps) ≤ length code → Agree (live at (s ∷ steps)) l k
          → Owes (does arity code (s ∷ steps) l h ws) (s ∷ steps) h (at_steps (labelled ns (s ∷ make steps)) k h ws)
      owes_kept s steps ns l k h ws t le g =
          both (does arity code (s ∷ steps) l h ws) (does arity code (s ∷ steps) k h ws) (s ∷ steps) h _ refl (short_move arity code (s ∷ steps) l h ws le) (does_alike arity code at settled few (s ∷ steps) l k h ws g)
          (through arity (make code) ns (s ∷ make steps) k h ws ∙ kept_does s steps k h ws t)

      longer : (m : Moving Configuration) (n : ℕ) (steps : List Step) (h : World) (d : Configuration) → Owes m steps h d → Owes m (One (Label n) ∷ steps) h d
      longer (Goes c) n steps h d (inl x) = inl x
      longer (Goes c) n steps h d (inr (r, lt)) = inr (r, omega arith)
      longer (Calls q f) n steps h d x = x
      longer (Returns r) n steps h d x = x
      longer Fails n steps h d x = tt

      -- what is owed after a label is owed at it
      pub owes_label : (n : ℕ) (steps made : List Step) (ns : List ℕ) (l k : Locations) (h : World) (ws : List ℕ) → Owes (does arity code steps l h ws) steps h (at_steps (labelled (ns ++ n ∷ []) made) k h ws)
          → Owes (does arity code (One (Label n) ∷ steps) l h ws) (One (Label n) ∷ steps) h (at_steps (labelled ns (One (Label n) ∷ made)) k h ws)
      owes_label n steps made ns l k h ws x =
          longer (does arity code steps l h ws) n steps h _ (subst (λ (xs : List Step). Owes (does arity code steps l h ws) steps h (at_steps xs k h ws)) (sym (labelled_more ns n made)) x)

      by_move : (m : Moving Configuration) (c d : Configuration) → old c ≡ m → Owes (old c) c.steps c.world d → Owes m c.steps c.world d
      by_move m c d e x = subst (λ y. Owes y c.steps c.world d) e x

      module _ (owes : (c d : Configuration) → Related c d → Owes (old c) c.steps c.world d) (short : (c d : Configuration) → Related c d → length c.steps ≤ length code) (world : (c d : Configuration) → Related c d → c.world ≡ d.world) where
        pub simulation : Simulation old selected_output new selected_output Related (λ c. length c.steps) (length code) 0
        simulation = record {
          low = short;
          outputs = λ c d r. ap (λ (h : World). h.output) (sym (world c d r));
          goes = λ c c' d r e. by_move (Goes c') c d e (owes c d r);
          asks = λ c q resume d r e. by_move (Calls q resume) c d e (owes c d r);
          ends = λ c r d x e. by_move (Returns r) c d e (owes c d x);
        }

        started : (slots : ℕ) (words ws : List ℕ) (h : World) → Related (selected_start slots code words ws h) (selected_start slots (make code) words ws h)
        started slots words ws h =
            plain (selected_start slots code words ws h) (selected_start slots (make code) words ws h)
            (record { before = []; steps = refl; agree = record { registers = λ r e. refl; slots = λ i. refl }; world = refl; words = refl; short = omega arith })

        -- if code keeps up with a function, what is made from the code does too, at a slower rate
        pub tracks_made : (meaning : Meaning) (f rate slots : ℕ) → TracksForAll meaning f rate old selected_output (selected_start slots code)
            → TracksForAll meaning f (coarser rate (length code)) new selected_output (selected_start slots (make code))
        tracks_made meaning f rate slots keeps =
            tracks_on_for_all meaning f rate old selected_output new selected_output Related (λ c. length c.steps) (length code) 0 simulation (selected_start slots code) (selected_start slots (make code))
            (λ words are ws h call. started slots words ws h) keeps
