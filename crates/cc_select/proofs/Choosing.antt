-- The chosen steps do, one for one, what the items do. What is known about a register holds (`Holds`), so an operand that is known may be
-- replaced by its word. At a label nothing is known, so the steps of a place are those that are chosen there with nothing known.
use Rattle.std.proofs.Common.{◌≡◌, ℕ, suc, List, [], ◌∷◌, Option, Some, None, true, false, Bool, refl, sym, ap, ◌∙◌, subst}
use Rattle.std.specs.Prelude.{if◌then◌else◌, ◌==◌}
use Rattle.cc_words.specs.Operators.{apply_unary, apply_binary}
use Rattle.cc_words.specs.declared.operators.Width.{Width}
use Rattle.cc_words.specs.declared.operators.Binary as binary
use Rattle.cc_simulation.specs.World.{World, element, stored, next_word, after_read, after_write}
use Rattle.cc_simulation.specs.Run.{Move as Moving, Goes, tried, run, work}
use Rattle.cc_simulation.specs.Unknown.{survives, unknown_word, unknown_register, left_after_call, left_after_word}
use Rattle.cc_simulation.specs.Meaning.{Meaning, call_effect}
use Rattle.cc_simulation.specs.Tracks.{Keeps, TracksForAll}
use Rattle.cc_simulation.specs.internal.Simulation.{Alike, Lockstep}
use Rattle.cc_simulation.proofs.Lockstep.{same_run, same_work}
use Rattle.cc_ltl.specs.declared.location.Location.TheVariants.{Register, Slot}
use Rattle.cc_ltl.specs.declared.operation.Move.TheVariants.{Between, Reload, Spill}
use Rattle.cc_ltl.specs.Ltl.{Locations, put, after_call}
use Rattle.cc_linear_language.specs.declared.item.LinearItem.{LinearItem}
use Rattle.cc_linear_language.specs.declared.item.LinearItem.TheVariants.{Label, Jump, IfNonzero, IfZero, Copy, Const, Unary, Binary, Load, Store, Call, Read, Write, Return}
use Rattle.cc_linear_language.specs.Linear as above
use Rattle.cc_linear_language.specs.Linear.{at_items, linear_move, linear_output, linear_start}
use Rattle.cc_select.specs.declared.step.Step.{Step}
use Rattle.cc_select.specs.declared.step.Step.TheVariants.{One}
use Rattle.cc_select.specs.Selected.{Configuration, at_steps, place, does, selected_move, selected_output, selected_start}
use Rattle.cc_select.specs.Known.{Known, unknown, forget, learn, known_behind, choose, chosen}
use Rattle.cc_select.proofs.Basics.{none_some, eqb_says, if_alike}
use Rattle.cc_select.proofs.Places.{there_place}
use Rattle.cc_select.proofs.Forms.{right_is, left_is}
use Rattle.cc_select.proofs.Choices.{nonzero_gives, zero_gives, binary_gives, load_gives, store_gives, nonzero_there, zero_there, binary_there, load_there, store_there}

-- ---- what is known holds

abbrev pub Holds : Known → Locations → Type 0
Holds k l = (r w : ℕ) → k r ≡ Some w → l (Register r) ≡ w

pub unknown_holds : (l : Locations) → Holds unknown l
unknown_holds l r w e = none_some w e

pub forget_holds : (to v : ℕ) (k : Known) (l : Locations) → Holds k l → Holds (forget to k) (put (Register to) v l)
forget_holds to v k l h r w e = by (to == r) e
  where
    by : (b : Bool) → (if b then None else k r) ≡ Some w → (if b then v else l (Register r)) ≡ w
    by true e = none_some w e
    by false e = h r w e

pub learn_holds : (to v : ℕ) (k : Known) (l : Locations) → Holds k l → Holds (learn to v k) (put (Register to) v l)
learn_holds to v k l h r w e = by (to == r) e
  where
    by : (b : Bool) → (if b then Some v else k r) ≡ Some w → (if b then v else l (Register r)) ≡ w
    by true e = cc
    by false e = h r w e

pub call_holds : (v : ℕ) (ws : List ℕ) (k : Known) (l : Locations) → Holds k l → Holds (λ r. if survives r then k r else None) (put (Register 10) v (after_call ws l))
call_holds v ws k l h r w e = by (10 == r) refl (survives r) refl e
  where
    ten : survives 10 ≡ false
    ten = refl

    by : (b : Bool) → (10 == r) ≡ b → (c : Bool) → survives r ≡ c → (if c then k r else None) ≡ Some w → (if b then v else (if c then l (Register r) else unknown_register ws r)) ≡ w
    by true p true q e = absurd (let z : false ≡ true = sym ten ∙ ap survives (eqb_says 10 r p) ∙ q in cc)
    by true p false q e = none_some w e
    by false p true q e = h r w e
    by false p false q e = none_some w e

-- ---- places

chosen_if : (b : Bool) (n : ℕ) (is js : List LinearItem) (ss : List Step) → ss ≡ chosen unknown js → (if b then One (Label n) ∷ chosen unknown is else ss) ≡ chosen unknown (if b then Label n ∷ is else js)
chosen_if true n is js ss e = refl
chosen_if false n is js ss e = e

pub chosen_place : (k : Known) (is : List LinearItem) (l : ℕ) → place (chosen k is) l ≡ chosen unknown (above.place is l)
chosen_place k [] l = refl
chosen_place k (Label n ∷ is) l = chosen_if (n == l) n is (above.place is l) (place (chosen unknown is) l) (chosen_place unknown is l)
chosen_place k (IfNonzero r n ∷ is) l = there_place (choose k (IfNonzero r n)) (chosen k is) l (nonzero_there k r n) ∙ chosen_place k is l
chosen_place k (IfZero r n ∷ is) l = there_place (choose k (IfZero r n)) (chosen k is) l (zero_there k r n) ∙ chosen_place k is l
chosen_place k (Binary o to b c ∷ is) l = there_place (choose k (Binary o to b c)) (chosen (forget to k) is) l (binary_there k o to b c) ∙ chosen_place (forget to k) is l
chosen_place k (Load width g to i ∷ is) l = there_place (choose k (Load width g to i)) (chosen (forget to k) is) l (load_there k width g to i) ∙ chosen_place (forget to k) is l
chosen_place k (Store width g i b ∷ is) l = there_place (choose k (Store width g i b)) (chosen k is) l (store_there k width g i b) ∙ chosen_place k is l
chosen_place k (i ∷ is) l = chosen_place (known_behind i k) is l

-- ---- hand in hand

module _ (arity : ℕ → ℕ) (code : List LinearItem) where
  abbrev steps : List Step
  steps = chosen unknown code

  pub record Same (c : above.Configuration) (d : Configuration) : Type 0 where
    pub known : Known
    pub holds : Holds known c.locations
    pub steps : d.steps ≡ chosen known c.items
    pub locations : d.locations ≡ c.locations
    pub world : d.world ≡ c.world
    pub words : d.words ≡ c.words

  abbrev Both : Moving above.Configuration → Moving Configuration → Type 0
  Both m n = Alike Same m n

  same : (k : Known) (is : List LinearItem) (ss : List Step) (l : Locations) (h : World) (ws : List ℕ) → Holds k l → ss ≡ chosen k is → Same (at_items is l h ws) (at_steps ss l h ws)
  same k is ss l h ws p e = record { known = k; holds = p; steps = e; locations = refl; world = refl; words = refl }

  same_place : (n : ℕ) (l : Locations) (h : World) (ws : List ℕ) → Same (at_items (above.place code n) l h ws) (at_steps (place steps n) l h ws)
  same_place n l h ws = same unknown (above.place code n) (place steps n) l h ws (unknown_holds l) (chosen_place unknown code n)

  either_alike : (b : Bool) (is js : List LinearItem) (ss ts : List Step) (l : Locations) (h : World) (ws : List ℕ) → Same (at_items is l h ws) (at_steps ss l h ws) → Same (at_items js l h ws) (at_steps ts l h ws)
      → Same (at_items (if b then is else js) l h ws) (at_steps (if b then ss else ts) l h ws)
  either_alike b is js ss ts l h ws p q = if_alike (λ (xs : List LinearItem) (ys : List Step). Same (at_items xs l h ws) (at_steps ys l h ws)) b is js ss ts p q

  tried_alike : {X : Type 0} (x y : Option X) (f : X → Moving above.Configuration) (g : X → Moving Configuration) → x ≡ y → ((v : X) → Both (f v) (g v)) → Both (tried x f) (tried y g)
  tried_alike {X} x y f g e b = subst (λ z. Both (tried x f) (tried z g)) e (by x)
    where
      by : (z : Option X) → Both (tried z f) (tried z g)
      by None = tt
      by (Some v) = b v

  -- if both runs compute the same word, they stay alike when they write it to a register
  put_alike : (x y : Option ℕ) (to : ℕ) (k : Known) (is : List LinearItem) (l : Locations) (h : World) (ws : List ℕ) → Holds k l → x ≡ y
      → Both (tried x (λ w. Goes (at_items is (put (Register to) w l) h ws))) (tried y (λ w. Goes (at_steps (chosen (forget to k) is) (put (Register to) w l) h ws)))
  put_alike x y to k is l h ws p e =
      tried_alike x y (λ w. Goes (at_items is (put (Register to) w l) h ws)) (λ w. Goes (at_steps (chosen (forget to k) is) (put (Register to) w l) h ws)) e
      (λ v. same (forget to k) is (chosen (forget to k) is) (put (Register to) v l) h ws (forget_holds to v k l p) refl)

  stored_alike : (x y : Option World) (k : Known) (is : List LinearItem) (l : Locations) (ws : List ℕ) → Holds k l → x ≡ y → Both (tried x (λ w. Goes (at_items is l w ws))) (tried y (λ w. Goes (at_steps (chosen k is) l w ws)))
  stored_alike x y k is l ws p e = tried_alike x y (λ w. Goes (at_items is l w ws)) (λ w. Goes (at_steps (chosen k is) l w ws)) e (λ v. same k is (chosen k is) l v ws p refl)

  -- what a step for an operation has to do
  abbrev Right : (o : binary.Binary) (to b c : ℕ) (k : Known) (is : List LinearItem) (l : Locations) (h : World) (ws : List ℕ) → Step → Type 0
  Right o to b c k is l h ws s = Both (above.does arity code (Binary o to b c ∷ is) l h ws) (does arity steps (s ∷ chosen (forget to k) is) l h ws)

  binary_alike : (o : binary.Binary) (to b c : ℕ) (k : Known) (is : List LinearItem) (l : Locations) (h : World) (ws : List ℕ) → Holds k l → Right o to b c k is l h ws (choose k (Binary o to b c))
  binary_alike o to b c k is l h ws p =
      binary_gives (Right o to b c k is l h ws) k o to b c
      (λ w f known is_f has. put_alike _ _ to k is l h ws p (ap (λ n. apply_binary o (l (Register b)) n) (p c w known) ∙ (right_is o w f is_f).same (l (Register b)) has))
      (λ w f known is_f has. put_alike _ _ to k is l h ws p (ap (λ n. apply_binary o n (l (Register c))) (p b w known) ∙ (left_is o w f is_f).same (l (Register c)) has))
      (put_alike (apply_binary o (l (Register b)) (l (Register c))) (apply_binary o (l (Register b)) (l (Register c))) to k is l h ws p refl)

  -- a branch that is certain leads where the jump does
  certain_alike : (b c : Bool) (is js there : List LinearItem) (ss : List Step) (l : Locations) (h : World) (ws : List ℕ) → b ≡ c → (if c then is else js) ≡ there → Same (at_items there l h ws) (at_steps ss l h ws)
      → Same (at_items (if b then is else js) l h ws) (at_steps ss l h ws)
  certain_alike b c is js there ss l h ws e leads same = subst (λ (xs : List LinearItem). Same (at_items xs l h ws) (at_steps ss l h ws)) (sym (ap (λ (x : Bool). if x then is else js) e ∙ leads)) same

  nonzero_alike : (r n : ℕ) (k : Known) (is : List LinearItem) (l : Locations) (h : World) (ws : List ℕ) → Holds k l
      → Both (above.does arity code (IfNonzero r n ∷ is) l h ws) (does arity steps (choose k (IfNonzero r n) ∷ chosen k is) l h ws)
  nonzero_alike r n k is l h ws p =
      nonzero_gives (λ s. Both (above.does arity code (IfNonzero r n ∷ is) l h ws) (does arity steps (s ∷ chosen k is) l h ws)) k r n
      (λ w known e. certain_alike (l (Register r) == 0) false is (above.place code n) (above.place code n) (place steps n) l h ws (ap (λ v. v == 0) (p r w known) ∙ e) refl (same_place n l h ws))
      (either_alike (l (Register r) == 0) is (above.place code n) (chosen k is) (place steps n) l h ws (same k is (chosen k is) l h ws p refl) (same_place n l h ws))

  zero_alike : (r n : ℕ) (k : Known) (is : List LinearItem) (l : Locations) (h : World) (ws : List ℕ) → Holds k l
      → Both (above.does arity code (IfZero r n ∷ is) l h ws) (does arity steps (choose k (IfZero r n) ∷ chosen k is) l h ws)
  zero_alike r n k is l h ws p =
      zero_gives (λ s. Both (above.does arity code (IfZero r n ∷ is) l h ws) (does arity steps (s ∷ chosen k is) l h ws)) k r n
      (λ w known e. certain_alike (l (Register r) == 0) true (above.place code n) is (above.place code n) (place steps n) l h ws (ap (λ v. v == 0) (p r w known) ∙ e) refl (same_place n l h ws))
      (either_alike (l (Register r) == 0) (above.place code n) is (place steps n) (chosen k is) l h ws (same_place n l h ws) (same k is (chosen k is) l h ws p refl))

  load_alike : (width : Width) (g to i : ℕ) (k : Known) (is : List LinearItem) (l : Locations) (h : World) (ws : List ℕ) → Holds k l
      → Both (above.does arity code (Load width g to i ∷ is) l h ws) (does arity steps (choose k (Load width g to i) ∷ chosen (forget to k) is) l h ws)
  load_alike width g to i k is l h ws p =
      load_gives (λ s. Both (above.does arity code (Load width g to i ∷ is) l h ws) (does arity steps (s ∷ chosen (forget to k) is) l h ws)) k width g to i
      (λ w known. put_alike (element h width g (l (Register i))) (element h width g w) to k is l h ws p (ap (element h width g) (p i w known)))
      (put_alike (element h width g (l (Register i))) (element h width g (l (Register i))) to k is l h ws p refl)

  store_alike : (width : Width) (g i b : ℕ) (k : Known) (is : List LinearItem) (l : Locations) (h : World) (ws : List ℕ) → Holds k l
      → Both (above.does arity code (Store width g i b ∷ is) l h ws) (does arity steps (choose k (Store width g i b) ∷ chosen k is) l h ws)
  store_alike width g i b k is l h ws p =
      store_gives (λ s. Both (above.does arity code (Store width g i b ∷ is) l h ws) (does arity steps (s ∷ chosen k is) l h ws)) k width g i b
      (λ w known. stored_alike (stored h width g (l (Register i)) (l (Register b))) (stored h width g w (l (Register b))) k is l ws p (ap (λ n. stored h width g n (l (Register b))) (p i w known)))
      (stored_alike (stored h width g (l (Register i)) (l (Register b))) (stored h width g (l (Register i)) (l (Register b))) k is l ws p refl)

  pub does_alike : (k : Known) (is : List LinearItem) (l : Locations) (h : World) (ws : List ℕ) → Holds k l → Both (above.does arity code is l h ws) (does arity steps (chosen k is) l h ws)
  does_alike k [] l h ws p = tt
  does_alike k (Label n ∷ is) l h ws p = does_alike unknown is l h ws (unknown_holds l)
  does_alike k (Jump n ∷ is) l h ws p = same_place n l h ws
  does_alike k (IfNonzero r n ∷ is) l h ws p = nonzero_alike r n k is l h ws p
  does_alike k (IfZero r n ∷ is) l h ws p = zero_alike r n k is l h ws p
  does_alike k (Copy (Between to from) ∷ is) l h ws p = same (forget to k) is _ _ h ws (forget_holds to (l (Register from)) k l p) refl
  does_alike k (Copy (Reload to slot) ∷ is) l h ws p = same (forget to k) is _ _ h ws (forget_holds to (l (Slot slot)) k l p) refl
  does_alike k (Copy (Spill slot from) ∷ is) l h ws p = same k is _ _ h ws (λ r w e. p r w e) refl
  does_alike k (Const to w ∷ is) l h ws p = same (learn to w k) is _ _ h ws (learn_holds to w k l p) refl
  does_alike k (Unary o to b ∷ is) l h ws p = same (forget to k) is _ _ h ws (forget_holds to (apply_unary o (l (Register b))) k l p) refl
  does_alike k (Binary o to b c ∷ is) l h ws p = binary_alike o to b c k is l h ws p
  does_alike k (Load width g to i ∷ is) l h ws p = load_alike width g to i k is l h ws p
  does_alike k (Store width g i b ∷ is) l h ws p = store_alike width g i b k is l h ws p
  does_alike k (Call g ∷ is) l h ws p = (refl, λ a. same (known_behind (Call g) k) is _ _ a.world (left_after_call ws) (call_holds a.value ws k l p) refl)
  does_alike k (Read ∷ is) l h ws p =
      same (known_behind Read k) is _ _ (after_read h) (left_after_word ws) (forget_holds 10 (next_word h) (forget 17 k) (put (Register 17) (unknown_word ws) l) (forget_holds 17 (unknown_word ws) k l p)) refl
  does_alike k (Write ∷ is) l h ws p = same (known_behind Write k) is _ _ (after_write (l (Register 10)) h) (left_after_word ws) (forget_holds 17 (unknown_word ws) k l p) refl
  does_alike k (Return ∷ is) l h ws p = refl

  moves_alike : (c : above.Configuration) (d : Configuration) → Same c d → Both (linear_move arity code c) (selected_move arity steps d)
  moves_alike c d s =
      let e : at_steps (chosen s.known c.items) c.locations c.world c.words ≡ d = λ i. record { steps = sym s.steps i; locations = sym s.locations i; world = sym s.world i; words = sym s.words i } in
      subst (λ x. Both (linear_move arity code c) (selected_move arity steps x)) e (does_alike s.known c.items c.locations c.world c.words s.holds)

  pub lockstep : Lockstep (linear_move arity code) linear_output (selected_move arity steps) selected_output Same
  lockstep = record { outputs = λ c d s. ap (λ (h : World). h.output) s.world; alike = moves_alike }

-- ---- the whole

-- if code keeps up with a function, the steps chosen for it do too, at the same rate
pub chosen_tracks : (meaning : Meaning) (f rate slots : ℕ) (code : List LinearItem)
    → TracksForAll meaning f rate (linear_move meaning.arity code) linear_output (linear_start slots code)
    → TracksForAll meaning f rate (selected_move meaning.arity (chosen unknown code)) selected_output (selected_start slots (chosen unknown code))
chosen_tracks meaning f rate slots code keeps d below ws h is_call n =
    let t = keeps d below ws h is_call n in
    let old = linear_move meaning.arity code in
    let new = selected_move meaning.arity (chosen unknown code) in
    let lock = lockstep meaning.arity code in
    let e = call_effect meaning (suc d) in (
      t.0,
      t.1,
      λ words are.
          let k = t.2 words are in
          let c = linear_start slots code words ws h in
          let s = selected_start slots (chosen unknown code) words ws h in
          let x : Same meaning.arity code c s = record { known = unknown; holds = unknown_holds c.locations; steps = refl; locations = refl; world = refl; words = refl } in
          let r = same_run (Same meaning.arity code) old linear_output new selected_output e lock k.moves k.steps c s x in
          let w = same_work (Same meaning.arity code) old linear_output new selected_output e lock k.moves k.steps c s x in
          record {
            moves = k.moves;
            steps = k.steps;
            few = k.few;
            few_steps = k.few_steps;
            keeps = subst (λ v. Keeps rate n (meaning.body n d f ws h) v (run new selected_output e k.moves k.steps s)) w (subst (Keeps rate n (meaning.body n d f ws h) (work old e k.moves k.steps c)) r k.keeps);
          },
    )
