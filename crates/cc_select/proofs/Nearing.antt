-- The steps with accesses to nearby elements do, one for one, what the steps without them do. The known sum holds (`Holds`), so an access
-- whose register has the sum may use the other register and the word instead. At a label nothing is known, so the steps of a place are
-- those that are made there with nothing known.
use Rattle.std.proofs.Common.{◌≡◌, ℕ, suc, ◌+◌, ◌<◌, ◌≤◌, List, [], ◌∷◌, ◌++◌, Option, Some, None, true, false, Bool, length, get_or, drop, refl, sym, ap, ap₂, ◌∙◌, subst, append_assoc, arith}
use Rattle.std.proofs.lemmas.Int.{ints}
use Rattle.std.proofs.lemmas.List.{drop_more, drop_all, append-nil}
use Rattle.std.specs.Prelude.{if◌then◌else◌, ◌==◌, ◌||◌}
use Rattle.cc_words.specs.Words.{add, sub, neg}
use Rattle.cc_words.specs.Operators.{apply_unary, apply_binary}
use Rattle.cc_words.specs.declared.operators.Width.{Width}
use Rattle.cc_simulation.specs.World.{World, element, stored, next_word, after_read, after_write}
use Rattle.cc_simulation.specs.Run.{Move as Moving, Goes, tried, run, work}
use Rattle.cc_simulation.specs.Unknown.{unknown_word, left_after_call, left_after_word}
use Rattle.cc_simulation.specs.Meaning.{Meaning, call_effect}
use Rattle.cc_simulation.specs.Tracks.{Keeps, TracksForAll}
use Rattle.cc_simulation.specs.internal.Simulation.{Alike, Lockstep}
use Rattle.cc_simulation.proofs.Lockstep.{same_run, same_work}
use Rattle.cc_ltl.specs.declared.location.Location.TheVariants.{Register, Slot}
use Rattle.cc_ltl.specs.declared.operation.Move.TheVariants.{Between, Reload, Spill}
use Rattle.cc_ltl.specs.Ltl.{Locations, put, after_call}
use Rattle.cc_linear_language.specs.declared.item.LinearItem.TheVariants.{Label, Jump, IfNonzero, IfZero, Copy, Const, Unary, Binary, Load, Store, Call, Read, Write, Return}
use Rattle.cc_select.specs.declared.near.Sum.{Sum}
use Rattle.cc_select.specs.declared.step.Step.{Step}
use Rattle.cc_select.specs.declared.step.Step.TheVariants.{One, Immediate, LoadAt, StoreAt, LoadNear, StoreNear, Branch, BranchImmediate}
use Rattle.cc_select.specs.declared.step.WordOperator.{WordOperator}
use Rattle.cc_select.specs.declared.step.WordOperator.TheVariants.{Add, Sub}
use Rattle.cc_select.specs.Immediates.{apply_immediate}
use Rattle.cc_select.specs.Selected.{Configuration, at_steps, place, led, does, selected_move, selected_output, selected_start}
use Rattle.cc_select.specs.Near.{unless, summed, sum_immediate, sum_behind, sum_in, with_sum, near, nearer}
use Rattle.cc_select.proofs.Basics.{none_some, eqb_yes, eqb_says}
use Rattle.cc_select.proofs.Places.{IsThere, there_place, led_alike}

-- ---- the known sum holds

abbrev pub Holds : Option Sum → Locations → Type 0
Holds None l = Unit {0}
Holds (Some s) l = l (Register s.to) ≡ add (l (Register s.from)) s.word

unless_holds : (r v : ℕ) (z : Option Sum) (l : Locations) → Holds z l → Holds (unless r z) (put (Register r) v l)
unless_holds r v None l h = tt
unless_holds r v (Some s) l h = by (r == s.to) (r == s.from) refl refl
  where
    by : (b c : Bool) → (r == s.to) ≡ b → (r == s.from) ≡ c → Holds (if b || c then None else Some s) (put (Register r) v l)
    by true c p q = tt
    by false true p q = tt
    by false false p q = ap (λ b. if b then v else l (Register s.to)) p ∙ h ∙ sym (ap (λ b. add (if b then v else l (Register s.from)) s.word) q)

slot_holds : (i v : ℕ) (z : Option Sum) (l : Locations) → Holds z l → Holds z (put (Slot i) v l)
slot_holds i v None l h = tt
slot_holds i v (Some s) l h = h

summed_holds : (to from w v : ℕ) (l : Locations) → v ≡ add (l (Register from)) w → Holds (summed to from w) (put (Register to) v l)
summed_holds to from w v l e = by (to == from) refl
  where
    by : (b : Bool) → (to == from) ≡ b → Holds (if b then None else Some (record { to = to; from = from; word = w })) (put (Register to) v l)
    by true p = tt
    by false p = ap (λ b. if b then v else l (Register to)) (eqb_yes to to refl) ∙ e ∙ sym (ap (λ b. add (if b then v else l (Register from)) w) p)

-- a difference is the sum with the word's negative
sub_turned : (a w : ℕ) → sub a w ≡ add a (neg w)
sub_turned a w = grind (arith, ints)

immediate_holds : (o : WordOperator) (to from w v : ℕ) (z : Option Sum) (l : Locations) → Holds z l → apply_immediate o (l (Register from)) w ≡ Some v → Holds (sum_immediate o to from w z) (put (Register to) v l)
immediate_holds Add to from w v z l h e = summed_holds to from w v l (let q : add (l (Register from)) w ≡ v = cc in sym q)
immediate_holds Sub to from w v z l h e = summed_holds to from (neg w) v l (let q : sub (l (Register from)) w ≡ v = cc in sym q ∙ sub_turned (l (Register from)) w)
immediate_holds o to from w v z l h e = unless_holds to v z l h

-- if a register has a known sum, its word is that of the other register plus the added word
sum_says : (z : Option Sum) (r : ℕ) (l : Locations) (s : Sum) → Holds z l → sum_in z r ≡ Some s → l (Register r) ≡ add (l (Register s.from)) s.word
sum_says None r l s h e = none_some s e
sum_says (Some t) r l s h e = by (r == t.to) (eqb_says r t.to) e
  where
    by : (b : Bool) → (b ≡ true → r ≡ t.to) → (if b then Some t else None) ≡ Some s → l (Register r) ≡ add (l (Register s.from)) s.word
    by true p e = (let q : t ≡ s = cc in ap (λ n. l (Register n)) (p refl) ∙ subst (λ (x : Sum). l (Register t.to) ≡ add (l (Register x.from)) x.word) q h)
    by false p e = none_some s e

-- ---- what an access becomes

module _ (P : Step → Type 0) where
  with_sum_gives : (z : Option Sum) (other : Step) (f : Sum → Step) → ((s : Sum) → z ≡ Some s → P (f s)) → P other → P (with_sum z other f)
  with_sum_gives None other f g x = x
  with_sum_gives (Some s) other f g x = g s refl

  pub load_near_gives : (z : Option Sum) (width : Width) (g to i : ℕ) → ((s : Sum) → sum_in z i ≡ Some s → P (LoadNear width g to s.from s.word)) → P (One (Load width g to i)) → P (near z (One (Load width g to i)))
  load_near_gives z width g to i f x = with_sum_gives (sum_in z i) (One (Load width g to i)) (λ s. LoadNear width g to s.from s.word) f x

  pub store_near_gives : (z : Option Sum) (width : Width) (g i a : ℕ) → ((s : Sum) → sum_in z i ≡ Some s → P (StoreNear width g s.from s.word a)) → P (One (Store width g i a)) → P (near z (One (Store width g i a)))
  store_near_gives z width g i a f x = with_sum_gives (sum_in z i) (One (Store width g i a)) (λ s. StoreNear width g s.from s.word a) f x

pub load_near_there : (z : Option Sum) (width : Width) (g to i : ℕ) → IsThere (near z (One (Load width g to i)))
load_near_there z width g to i = load_near_gives IsThere z width g to i (λ s e. tt) tt

pub store_near_there : (z : Option Sum) (width : Width) (g i a : ℕ) → IsThere (near z (One (Store width g i a)))
store_near_there z width g i a = store_near_gives IsThere z width g i a (λ s e. tt) tt

-- ---- places

near_if : (b : Bool) (n : ℕ) (ss ts rs : List Step) → rs ≡ nearer None ts → (if b then One (Label n) ∷ nearer None ss else rs) ≡ nearer None (if b then One (Label n) ∷ ss else ts)
near_if true n ss ts rs e = refl
near_if false n ss ts rs e = e

near_place : (z : Option Sum) (ss : List Step) (l : ℕ) → place (nearer z ss) l ≡ nearer None (place ss l)
near_place z [] l = refl
near_place z (One (Label n) ∷ ss) l = near_if (n == l) n ss (place ss l) (place (nearer None ss) l) (near_place None ss l)
near_place z (One (Load width g to i) ∷ ss) l = there_place (near z (One (Load width g to i))) (nearer (unless to z) ss) l (load_near_there z width g to i) ∙ near_place (unless to z) ss l
near_place z (One (Store width g i a) ∷ ss) l = there_place (near z (One (Store width g i a))) (nearer z ss) l (store_near_there z width g i a) ∙ near_place z ss l
near_place z (s ∷ ss) l = near_place (sum_behind s z) ss l

-- ---- hand in hand

module _ (arity : ℕ → ℕ) (code : List Step) where
  abbrev made : List Step
  made = nearer None code

  pub record Same (c d : Configuration) : Type 0 where
    pub known : Option Sum
    pub holds : Holds known c.locations
    pub steps : d.steps ≡ nearer known c.steps
    pub locations : d.locations ≡ c.locations
    pub world : d.world ≡ c.world
    pub words : d.words ≡ c.words

  abbrev Both : Moving Configuration → Moving Configuration → Type 0
  Both m n = Alike Same m n

  same : (z : Option Sum) (ss : List Step) (l : Locations) (h : World) (ws : List ℕ) → Holds z l → Same (at_steps ss l h ws) (at_steps (nearer z ss) l h ws)
  same z ss l h ws p = record { known = z; holds = p; steps = refl; locations = refl; world = refl; words = refl }

  same_place : (n : ℕ) (l : Locations) (h : World) (ws : List ℕ) → Same (at_steps (place code n) l h ws) (at_steps (place made n) l h ws)
  same_place n l h ws = record { known = None; holds = tt; steps = near_place None code n; locations = refl; world = refl; words = refl }

  same_led : (nonzero : Bool) (w n : ℕ) (z : Option Sum) (ss : List Step) (l : Locations) (h : World) (ws : List ℕ) → Holds z l → Same (at_steps (led nonzero w ss (place code n)) l h ws) (at_steps (led nonzero w (nearer z ss) (place made n)) l h ws)
  same_led nonzero w n z ss l h ws p = led_alike (λ (xs ys : List Step). Same (at_steps xs l h ws) (at_steps ys l h ws)) nonzero w ss (place code n) (nearer z ss) (place made n) (same z ss l h ws p) (same_place n l h ws)

  tried_alike : {X : Type 0} (x y : Option X) (f g : X → Moving Configuration) → x ≡ y → ((v : X) → x ≡ Some v → Both (f v) (g v)) → Both (tried x f) (tried y g)
  tried_alike {X} x y f g e b = subst (λ z. Both (tried x f) (tried z g)) e (by x refl)
    where
      by : (z : Option X) → x ≡ z → Both (tried z f) (tried z g)
      by None q = tt
      by (Some v) q = b v q

  put_alike : (x y : Option ℕ) (to : ℕ) (z : Option Sum) (ss : List Step) (l : Locations) (h : World) (ws : List ℕ) → Holds z l → x ≡ y
      → Both (tried x (λ w. Goes (at_steps ss (put (Register to) w l) h ws))) (tried y (λ w. Goes (at_steps (nearer (unless to z) ss) (put (Register to) w l) h ws)))
  put_alike x y to z ss l h ws p e =
      tried_alike x y (λ w. Goes (at_steps ss (put (Register to) w l) h ws)) (λ w. Goes (at_steps (nearer (unless to z) ss) (put (Register to) w l) h ws)) e
      (λ v q. same (unless to z) ss (put (Register to) v l) h ws (unless_holds to v z l p))

  stored_alike : (x y : Option World) (z : Option Sum) (ss : List Step) (l : Locations) (ws : List ℕ) → Holds z l → x ≡ y → Both (tried x (λ h. Goes (at_steps ss l h ws))) (tried y (λ h. Goes (at_steps (nearer z ss) l h ws)))
  stored_alike x y z ss l ws p e = tried_alike x y (λ h. Goes (at_steps ss l h ws)) (λ h. Goes (at_steps (nearer z ss) l h ws)) e (λ h q. same z ss l h ws p)

  branch_alike : (x : Option ℕ) (nonzero : Bool) (n : ℕ) (z : Option Sum) (ss : List Step) (l : Locations) (h : World) (ws : List ℕ) → Holds z l
      → Both (tried x (λ w. Goes (at_steps (led nonzero w ss (place code n)) l h ws))) (tried x (λ w. Goes (at_steps (led nonzero w (nearer z ss) (place made n)) l h ws)))
  branch_alike x nonzero n z ss l h ws p =
      tried_alike x x (λ w. Goes (at_steps (led nonzero w ss (place code n)) l h ws)) (λ w. Goes (at_steps (led nonzero w (nearer z ss) (place made n)) l h ws)) refl (λ w q. same_led nonzero w n z ss l h ws p)

  load_alike : (width : Width) (g to i : ℕ) (z : Option Sum) (ss : List Step) (l : Locations) (h : World) (ws : List ℕ) → Holds z l
      → Both (does arity code (One (Load width g to i) ∷ ss) l h ws) (does arity made (near z (One (Load width g to i)) ∷ nearer (unless to z) ss) l h ws)
  load_alike width g to i z ss l h ws p =
      load_near_gives (λ s. Both (does arity code (One (Load width g to i) ∷ ss) l h ws) (does arity made (s ∷ nearer (unless to z) ss) l h ws)) z width g to i
      (λ s e. put_alike (element h width g (l (Register i))) (element h width g (add (l (Register s.from)) s.word)) to z ss l h ws p (ap (element h width g) (sum_says z i l s p e)))
      (put_alike (element h width g (l (Register i))) (element h width g (l (Register i))) to z ss l h ws p refl)

  store_alike : (width : Width) (g i a : ℕ) (z : Option Sum) (ss : List Step) (l : Locations) (h : World) (ws : List ℕ) → Holds z l
      → Both (does arity code (One (Store width g i a) ∷ ss) l h ws) (does arity made (near z (One (Store width g i a)) ∷ nearer z ss) l h ws)
  store_alike width g i a z ss l h ws p =
      store_near_gives (λ s. Both (does arity code (One (Store width g i a) ∷ ss) l h ws) (does arity made (s ∷ nearer z ss) l h ws)) z width g i a
      (λ s e. stored_alike (stored h width g (l (Register i)) (l (Register a))) (stored h width g (add (l (Register s.from)) s.word) (l (Register a))) z ss l ws p (ap (λ n. stored h width g n (l (Register a))) (sum_says z i l s p e)))
      (stored_alike (stored h width g (l (Register i)) (l (Register a))) (stored h width g (l (Register i)) (l (Register a))) z ss l ws p refl)

  does_alike : (z : Option Sum) (ss : List Step) (l : Locations) (h : World) (ws : List ℕ) → Holds z l → Both (does arity code ss l h ws) (does arity made (nearer z ss) l h ws)
  does_alike z [] l h ws p = tt
  does_alike z (One (Label n) ∷ ss) l h ws p = does_alike None ss l h ws tt
  does_alike z (One (Jump n) ∷ ss) l h ws p = same_place n l h ws
  does_alike z (One (IfNonzero r n) ∷ ss) l h ws p = same_led true (l (Register r)) n z ss l h ws p
  does_alike z (One (IfZero r n) ∷ ss) l h ws p = same_led false (l (Register r)) n z ss l h ws p
  does_alike z (One (Copy (Between to from)) ∷ ss) l h ws p = same (unless to z) ss _ h ws (unless_holds to (l (Register from)) z l p)
  does_alike z (One (Copy (Reload to slot)) ∷ ss) l h ws p = same (unless to z) ss _ h ws (unless_holds to (l (Slot slot)) z l p)
  does_alike z (One (Copy (Spill slot from)) ∷ ss) l h ws p = same z ss _ h ws (slot_holds slot (l (Register from)) z l p)
  does_alike z (One (Const to w) ∷ ss) l h ws p = same (unless to z) ss _ h ws (unless_holds to w z l p)
  does_alike z (One (Unary o to a) ∷ ss) l h ws p = same (unless to z) ss _ h ws (unless_holds to (apply_unary o (l (Register a))) z l p)
  does_alike z (One (Binary o to a b) ∷ ss) l h ws p = put_alike (apply_binary o (l (Register a)) (l (Register b))) (apply_binary o (l (Register a)) (l (Register b))) to z ss l h ws p refl
  does_alike z (One (Load width g to i) ∷ ss) l h ws p = load_alike width g to i z ss l h ws p
  does_alike z (One (Store width g i a) ∷ ss) l h ws p = store_alike width g i a z ss l h ws p
  does_alike z (One (Call g) ∷ ss) l h ws p = (refl, λ a. same None ss _ a.world (left_after_call ws) tt)
  does_alike z (One Read ∷ ss) l h ws p =
      same (unless 10 (unless 17 z)) ss _ (after_read h) (left_after_word ws) (unless_holds 10 (next_word h) (unless 17 z) (put (Register 17) (unknown_word ws) l) (unless_holds 17 (unknown_word ws) z l p))
  does_alike z (One Write ∷ ss) l h ws p = same (unless 17 z) ss _ (after_write (l (Register 10)) h) (left_after_word ws) (unless_holds 17 (unknown_word ws) z l p)
  does_alike z (One Return ∷ ss) l h ws p = refl
  does_alike z (Immediate o to a w ∷ ss) l h ws p =
      tried_alike (apply_immediate o (l (Register a)) w) (apply_immediate o (l (Register a)) w) (λ v. Goes (at_steps ss (put (Register to) v l) h ws)) (λ v. Goes (at_steps (nearer (sum_immediate o to a w z) ss) (put (Register to) v l) h ws)) refl
      (λ v e. same (sum_immediate o to a w z) ss (put (Register to) v l) h ws (immediate_holds o to a w v z l p e))
  does_alike z (LoadAt width g to n ∷ ss) l h ws p = put_alike (element h width g n) (element h width g n) to z ss l h ws p refl
  does_alike z (StoreAt width g n a ∷ ss) l h ws p = stored_alike (stored h width g n (l (Register a))) (stored h width g n (l (Register a))) z ss l ws p refl
  does_alike z (LoadNear width g to i w ∷ ss) l h ws p = put_alike (element h width g (add (l (Register i)) w)) (element h width g (add (l (Register i)) w)) to z ss l h ws p refl
  does_alike z (StoreNear width g i w a ∷ ss) l h ws p = stored_alike (stored h width g (add (l (Register i)) w) (l (Register a))) (stored h width g (add (l (Register i)) w) (l (Register a))) z ss l ws p refl
  does_alike z (Branch o nonzero a b n ∷ ss) l h ws p = branch_alike (apply_binary o (l (Register a)) (l (Register b))) nonzero n z ss l h ws p
  does_alike z (BranchImmediate o nonzero a w n ∷ ss) l h ws p = branch_alike (apply_immediate o (l (Register a)) w) nonzero n z ss l h ws p

  moves_alike : (c d : Configuration) → Same c d → Both (selected_move arity code c) (selected_move arity made d)
  moves_alike c d s =
      let e : at_steps (nearer s.known c.steps) c.locations c.world c.words ≡ d = λ i. record { steps = sym s.steps i; locations = sym s.locations i; world = sym s.world i; words = sym s.words i } in
      subst (λ x. Both (selected_move arity code c) (selected_move arity made x)) e (does_alike s.known c.steps c.locations c.world c.words s.holds)

  pub lockstep : Lockstep (selected_move arity code) selected_output (selected_move arity made) selected_output Same
  lockstep = record { outputs = λ c d s. ap (λ (h : World). h.output) s.world; alike = moves_alike }

-- ---- the whole

-- if code keeps up with a function, it still does with accesses to nearby elements, at the same rate
pub near_tracks : (meaning : Meaning) (f rate slots : ℕ) (code : List Step) → TracksForAll meaning f rate (selected_move meaning.arity code) selected_output (selected_start slots code)
    → TracksForAll meaning f rate (selected_move meaning.arity (nearer None code)) selected_output (selected_start slots (nearer None code))
near_tracks meaning f rate slots code keeps d below ws h is_call n =
    let t = keeps d below ws h is_call n in
    let old = selected_move meaning.arity code in
    let new = selected_move meaning.arity (nearer None code) in
    let lock = lockstep meaning.arity code in
    let e = call_effect meaning (suc d) in (
      t.0,
      t.1,
      λ words are.
          let k = t.2 words are in
          let c = selected_start slots code words ws h in
          let s = selected_start slots (nearer None code) words ws h in
          let x : Same meaning.arity code c s = record { known = None; holds = tt; steps = refl; locations = refl; world = refl; words = refl } in
          let r = same_run (Same meaning.arity code) old selected_output new selected_output e lock k.moves k.steps c s x in
          let w = same_work (Same meaning.arity code) old selected_output new selected_output e lock k.moves k.steps c s x in
          record {
            moves = k.moves;
            steps = k.steps;
            few = k.few;
            few_steps = k.few_steps;
            keeps = subst (λ v. Keeps rate n (meaning.body n d f ws h) v (run new selected_output e k.moves k.steps s)) w (subst (Keeps rate n (meaning.body n d f ws h) (work old e k.moves k.steps c)) r k.keeps);
          },
    )

-- ---- the code: the steps so far, and those of the rest

abbrev pub Made : (steps : List Step) → (index : ℕ) → Option Sum → List Step → Type 0
Made steps i z made = made ++ nearer z (drop i steps) ≡ nearer None steps

pub made_more : (steps : List Step) (i : ℕ) (z z' : Option Sum) (step now : Step) (old new : List Step) → i < length steps → step ≡ get_or steps i step → now ≡ near z step → z' ≡ sum_behind step z → new ≡ old ++ now ∷ [] → Made steps i z old → Made steps (i + 1) z' new
made_more steps i z z' step now old new lt is here next put o =
    let rest = drop (i + 1) steps in
    let split : drop i steps ≡ step ∷ rest = drop_more steps i step lt ∙ ap (λ x. x ∷ rest) (sym is) in
    ap (λ (k : Option Sum). new ++ nearer k rest) next ∙ ap (λ xs. xs ++ nearer (sum_behind step z) rest) put ∙ append_assoc old (now ∷ []) (nearer (sum_behind step z) rest)
    ∙ ap (λ (x : Step). old ++ (x ∷ nearer (sum_behind step z) rest)) here ∙ sym (ap (λ xs. old ++ nearer z xs) split) ∙ o

pub made_all : (steps : List Step) (i : ℕ) (z : Option Sum) (made : List Step) → length steps ≤ i → Made steps i z made → made ≡ nearer None steps
made_all steps i z made le o = sym (append-nil made) ∙ sym (ap (λ xs. made ++ nearer z xs) (drop_all i steps le)) ∙ o
