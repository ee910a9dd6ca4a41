-- For any settled table, a run is the same whatever is in the registers that are not live: two configurations at the same steps
-- that agree on what is live there make the same move, and agree again after it (`does_alike`).
use Rattle.std.proofs.Common.{◌≡◌, ℕ, zero, suc, ◌+◌, ◌<◌, ◌≤◌, List, [], ◌∷◌, Option, Some, None, true, false, Bool, refl, sym, ap, ap₂, ◌∙◌, subst, arith}
use Rattle.std.proofs.lemmas.Bool.Decides.{nat_tests}
use Rattle.std.specs.Prelude.{if◌then◌else◌, ◌==◌, ◌&&◌, ◌||◌, not, nat_le}
use Rattle.cc_words.specs.Words.{add}
use Rattle.cc_words.specs.Operators.{apply_unary, apply_binary}
use Rattle.cc_simulation.specs.World.{World, element, stored, next_word, after_read, after_write}
use Rattle.cc_simulation.specs.Run.{Move as Moving, Goes, tried}
use Rattle.cc_simulation.specs.Unknown.{survives, unknown_word, unknown_register, left_after_call, left_after_word}
use Rattle.cc_simulation.specs.internal.Simulation.{Alike}
use Rattle.cc_ltl.specs.declared.location.Location.TheVariants.{Register, Slot}
use Rattle.cc_ltl.specs.declared.operation.Move.TheVariants.{Between, Reload, Spill}
use Rattle.cc_ltl.specs.Ltl.{Locations, put, words_from, after_call}
use Rattle.cc_linear_language.specs.declared.item.LinearItem.TheVariants.{Label, Jump, IfNonzero, IfZero, Copy, Const, Unary, Binary, Load, Store, Call, Read, Write, Return}
use Rattle.cc_select.specs.declared.step.Step.{Step}
use Rattle.cc_select.specs.declared.step.Step.TheVariants.{One, Immediate, LoadAt, StoreAt, LoadNear, StoreNear, Branch, BranchImmediate}
use Rattle.cc_select.specs.Immediates.{apply_immediate}
use Rattle.cc_select.specs.Selected.{Configuration, at_steps, place, led, does}
use Rattle.cc_select.specs.Live.{Registers, with, without, either, is_argument, live}
use Rattle.cc_select.specs.internal.Settled.{IsSettled}
use Rattle.cc_select.proofs.Basics.{eqb_yes, eqb_says, or_left, or_right}
use Rattle.cc_select.proofs.Places.{led_either}

-- ---- sets

-- a register is in a set
abbrev pub In : Registers → ℕ → Type 0
In s r = s r ≡ true

pub in_with : (a : ℕ) (s : Registers) → In (with a s) a
in_with a s = or_left (a == a) (s a) (eqb_yes a a refl)

pub in_more : (a r : ℕ) (s : Registers) → In s r → In (with a s) r
in_more a r s e = or_right (a == r) (s r) e

-- ---- locations that agree on a set of registers, and in all slots

pub record Agree (s : Registers) (l k : Locations) : Type 0 where
  pub registers : (r : ℕ) → In s r → l (Register r) ≡ k (Register r)
  pub slots : (i : ℕ) → l (Slot i) ≡ k (Slot i)

pub agree_less : (s t : Registers) (l k : Locations) → ((r : ℕ) → In t r → In s r) → Agree s l k → Agree t l k
agree_less s t l k f g = record { registers = λ r e. g.registers r (f r e); slots = g.slots }

pub agree_behind : (a : ℕ) (s : Registers) (l k : Locations) → Agree (with a s) l k → Agree s l k
agree_behind a s l k g = agree_less (with a s) s l k (λ r e. in_more a r s e) g

-- if the same word is written to the same register on both sides, the locations agree on that register too
put_agrees : (to v w : ℕ) (s : Registers) (l k : Locations) → v ≡ w → Agree (without to s) l k → Agree s (put (Register to) v l) (put (Register to) w k)
put_agrees to v w s l k e g = record { registers = λ r i. at r i (to == r) refl; slots = g.slots }
  where
    at : (r : ℕ) → In s r → (b : Bool) → (to == r) ≡ b → (if b then v else l (Register r)) ≡ (if b then w else k (Register r))
    at r i true q = e
    at r i false q = g.registers r (ap (λ c. not c && s r) q ∙ i)

-- a register that is not in the set may be written on one side
pub put_beside : (to v : ℕ) (s : Registers) (l k : Locations) → s to ≡ false → Agree (without to s) l k → Agree s (put (Register to) v l) k
put_beside to v s l k dead g = record { registers = λ r i. at r i (to == r) refl; slots = g.slots }
  where
    at : (r : ℕ) → In s r → (b : Bool) → (to == r) ≡ b → (if b then v else l (Register r)) ≡ k (Register r)
    at r i true q = absurd (let z : false ≡ true = sym dead ∙ ap s (eqb_says to r q) ∙ i in cc)
    at r i false q = g.registers r (ap (λ c. not c && s r) q ∙ i)

slot_agrees : (to v w : ℕ) (s : Registers) (l k : Locations) → v ≡ w → Agree s l k → Agree s (put (Slot to) v l) (put (Slot to) w k)
slot_agrees to v w s l k e g = record { registers = g.registers; slots = λ i. at i (to == i) }
  where
    at : (i : ℕ) (b : Bool) → (if b then v else l (Slot i)) ≡ (if b then w else k (Slot i))
    at i true = e
    at i false = g.slots i

-- ---- arguments

same_arguments : (n r : ℕ) (l k : Locations) → ((x : ℕ) → r ≤ x → x < r + n → l (Register x) ≡ k (Register x)) → words_from r n l ≡ words_from r n k
same_arguments zero r l k f = refl
same_arguments (suc n) r l k f = ap₂ (λ (w : ℕ) (ws : List ℕ). w ∷ ws) (f r (omega arith) (omega arith)) (same_arguments n (suc r) l k (λ x a b. f x (omega arith) (omega arith)))

argument_is : (r : ℕ) → 10 ≤ r → r ≤ 17 → is_argument r ≡ true
argument_is r lo hi = by (nat_le 10 r) (nat_le r 17) refl refl
  where
    by : (a b : Bool) → nat_le 10 r ≡ a → nat_le r 17 ≡ b → (a && b) ≡ true
    by true true p q = refl
    by true false p q = absurd (grind (arith, nat_tests))
    by false b p q = absurd (grind (arith, nat_tests))

-- ---- configurations that do the same

module _ (arity : ℕ → ℕ) (code : List Step) (at : ℕ → Registers) (settled : IsSettled at code) (few : (g : ℕ) → arity g ≤ 8) where
  pub record Same (c d : Configuration) : Type 0 where
    pub steps : c.steps ≡ d.steps
    pub agree : Agree (live at c.steps) c.locations d.locations
    pub world : c.world ≡ d.world
    pub words : c.words ≡ d.words

  abbrev Both : Moving Configuration → Moving Configuration → Type 0
  Both m n = Alike Same m n

  abbrev Agreeing : List Step → Locations → Locations → Type 0
  Agreeing ss l k = Agree (live at ss) l k

  same : (ss : List Step) (l k : Locations) (h : World) (ws : List ℕ) → Agreeing ss l k → Same (at_steps ss l h ws) (at_steps ss k h ws)
  same ss l k h ws g = record { steps = refl; agree = g; world = refl; words = refl }

  -- locations that agree on what the table has at a label agree at the label's place
  pub there : (n : ℕ) (l k : Locations) → Agree (at n) l k → Agreeing (place code n) l k
  there n l k g = agree_less (at n) (live at (place code n)) l k (λ r i. settled n r i) g

  -- both runs go on where the branch leads
  led_same : (nonzero : Bool) (w n : ℕ) (ss : List Step) (l k : Locations) (h : World) (ws : List ℕ) → Agree (either (at n) (live at ss)) l k
      → Same (at_steps (led nonzero w ss (place code n)) l h ws) (at_steps (led nonzero w ss (place code n)) k h ws)
  led_same nonzero w n ss l k h ws g =
      let s = live at ss in
      led_either (λ (xs : List Step). Same (at_steps xs l h ws) (at_steps xs k h ws)) nonzero w ss (place code n)
      (same ss l k h ws (agree_less (either (at n) s) s l k (λ x i. or_right (at n x) (s x) i) g))
      (same (place code n) l k h ws (there n l k (agree_less (either (at n) s) (at n) l k (λ x i. or_left (at n x) (s x) i) g)))

  led_by : (nonzero : Bool) (v w n : ℕ) (ss : List Step) (l k : Locations) (h : World) (ws : List ℕ) → v ≡ w → Agree (either (at n) (live at ss)) l k
      → Same (at_steps (led nonzero v ss (place code n)) l h ws) (at_steps (led nonzero w ss (place code n)) k h ws)
  led_by nonzero v w n ss l k h ws e g =
      subst (λ x. Same (at_steps (led nonzero v ss (place code n)) l h ws) (at_steps (led nonzero x ss (place code n)) k h ws)) e (led_same nonzero v n ss l k h ws g)

  tried_alike : {X : Type 0} (x y : Option X) (f g : X → Moving Configuration) → x ≡ y → ((v : X) → Both (f v) (g v)) → Both (tried x f) (tried y g)
  tried_alike {X} x y f g e b = subst (λ z. Both (tried x f) (tried z g)) e (by x)
    where
      by : (z : Option X) → Both (tried z f) (tried z g)
      by None = tt
      by (Some v) = b v

  -- if both runs compute the same word, they stay alike when they write it to a register
  made_alike : (x y : Option ℕ) (to : ℕ) (ss : List Step) (l k : Locations) (h : World) (ws : List ℕ) → x ≡ y → Agree (without to (live at ss)) l k
      → Both (tried x (λ w. Goes (at_steps ss (put (Register to) w l) h ws))) (tried y (λ w. Goes (at_steps ss (put (Register to) w k) h ws)))
  made_alike x y to ss l k h ws e g = tried_alike x y (λ w. Goes (at_steps ss (put (Register to) w l) h ws)) (λ w. Goes (at_steps ss (put (Register to) w k) h ws)) e (λ v. same ss _ _ h ws (put_agrees to v v (live at ss) l k refl g))

  stored_alike : (x y : Option World) (ss : List Step) (l k : Locations) (ws : List ℕ) → x ≡ y → Agree (live at ss) l k → Both (tried x (λ w. Goes (at_steps ss l w ws))) (tried y (λ w. Goes (at_steps ss k w ws)))
  stored_alike x y ss l k ws e g = tried_alike x y (λ w. Goes (at_steps ss l w ws)) (λ w. Goes (at_steps ss k w ws)) e (λ v. same ss l k v ws g)

  branch_alike : (x y : Option ℕ) (nonzero : Bool) (n : ℕ) (ss : List Step) (l k : Locations) (h : World) (ws : List ℕ) → x ≡ y → Agree (either (at n) (live at ss)) l k
      → Both (tried x (λ w. Goes (at_steps (led nonzero w ss (place code n)) l h ws))) (tried y (λ w. Goes (at_steps (led nonzero w ss (place code n)) k h ws)))
  branch_alike x y nonzero n ss l k h ws e g =
      tried_alike x y (λ w. Goes (at_steps (led nonzero w ss (place code n)) l h ws)) (λ w. Goes (at_steps (led nonzero w ss (place code n)) k h ws)) e (λ v. led_same nonzero v n ss l k h ws g)

  -- if locations agree on the two registers that an item reads, the item reads the same words
  first_of_two : (a b : ℕ) (s : Registers) (l k : Locations) → Agree (with a (with b s)) l k → l (Register a) ≡ k (Register a)
  first_of_two a b s l k g = g.registers a (in_with a (with b s))

  second_of_two : (a b : ℕ) (s : Registers) (l k : Locations) → Agree (with a (with b s)) l k → l (Register b) ≡ k (Register b)
  second_of_two a b s l k g = g.registers b (in_more a b (with b s) (in_with b s))

  behind_two : (a b : ℕ) (s : Registers) (l k : Locations) → Agree (with a (with b s)) l k → Agree s l k
  behind_two a b s l k g = agree_behind b s l k (agree_behind a (with b s) l k g)

  after_called : (ss : List Step) (l k : Locations) (ws : List ℕ) → Agree (λ r. is_argument r || (survives r && live at ss r)) l k → Agree (live at ss) (after_call ws l) (after_call ws k)
  after_called ss l k ws g = record { registers = λ r i. kept r i (survives r) refl; slots = g.slots }
    where
      kept : (r : ℕ) → In (live at ss) r → (b : Bool) → survives r ≡ b → (if b then l (Register r) else unknown_register ws r) ≡ (if b then k (Register r) else unknown_register ws r)
      kept r i true e = g.registers r (or_right (is_argument r) (survives r && live at ss r) (ap (λ c. c && live at ss r) e ∙ i))
      kept r i false e = refl

  less : (to x : ℕ) (s : Registers) → In (without to s) x → In s x
  less to x s i = by (to == x) i
    where
      by : (b : Bool) → (not b && s x) ≡ true → s x ≡ true
      by true e = absurd (let z : false ≡ true = e in cc)
      by false e = e

  -- the order of two registers makes no difference
  turned : (a b x : ℕ) (s : Registers) → In (without a (without b s)) x → In (without b (without a s)) x
  turned a b x s i = by (a == x) (b == x) (s x) i
    where
      by : (p q c : Bool) → (not p && (not q && c)) ≡ true → (not q && (not p && c)) ≡ true
      by true true c e = e
      by true false c e = e
      by false true c e = e
      by false false c e = e

  pub does_alike : (ss : List Step) (l k : Locations) (h : World) (ws : List ℕ) → Agreeing ss l k → Both (does arity code ss l h ws) (does arity code ss k h ws)
  does_alike [] l k h ws g = tt
  does_alike (One (Label n) ∷ ss) l k h ws g = does_alike ss l k h ws g
  does_alike (One (Jump n) ∷ ss) l k h ws g = same (place code n) l k h ws (there n l k g)
  does_alike (One (IfNonzero r n) ∷ ss) l k h ws g =
      let s = either (at n) (live at ss) in
      led_by true (l (Register r)) (k (Register r)) n ss l k h ws (g.registers r (in_with r s)) (agree_behind r s l k g)
  does_alike (One (IfZero r n) ∷ ss) l k h ws g =
      let s = either (at n) (live at ss) in
      led_by false (l (Register r)) (k (Register r)) n ss l k h ws (g.registers r (in_with r s)) (agree_behind r s l k g)
  does_alike (One (Copy (Between to from)) ∷ ss) l k h ws g =
      let s = without to (live at ss) in
      same ss _ _ h ws (put_agrees to _ _ (live at ss) l k (g.registers from (in_with from s)) (agree_behind from s l k g))
  does_alike (One (Copy (Reload to slot)) ∷ ss) l k h ws g = same ss _ _ h ws (put_agrees to _ _ (live at ss) l k (g.slots slot) g)
  does_alike (One (Copy (Spill slot from)) ∷ ss) l k h ws g =
      let s = live at ss in
      same ss _ _ h ws (slot_agrees slot _ _ s l k (g.registers from (in_with from s)) (agree_behind from s l k g))
  does_alike (One (Const to w) ∷ ss) l k h ws g = same ss _ _ h ws (put_agrees to w w (live at ss) l k refl g)
  does_alike (One (Unary o to a) ∷ ss) l k h ws g =
      let s = without to (live at ss) in
      same ss _ _ h ws (put_agrees to _ _ (live at ss) l k (ap (apply_unary o) (g.registers a (in_with a s))) (agree_behind a s l k g))
  does_alike (One (Binary o to a b) ∷ ss) l k h ws g =
      let s = without to (live at ss) in
      made_alike _ _ to ss l k h ws (ap₂ (apply_binary o) (first_of_two a b s l k g) (second_of_two a b s l k g)) (behind_two a b s l k g)
  does_alike (One (Load width o to i) ∷ ss) l k h ws g =
      let s = without to (live at ss) in
      made_alike _ _ to ss l k h ws (ap (element h width o) (g.registers i (in_with i s))) (agree_behind i s l k g)
  does_alike (One (Store width o i a) ∷ ss) l k h ws g =
      let s = live at ss in
      stored_alike _ _ ss l k ws (ap₂ (stored h width o) (first_of_two i a s l k g) (second_of_two i a s l k g)) (behind_two i a s l k g)
  does_alike (One (Call f) ∷ ss) l k h ws g =
      let s = live at ss in (
        ap (λ xs. record { function = f; arguments = xs; world = h }) (same_arguments (arity f) 10 l k (λ x a b. let le = few f in g.registers x (or_left (is_argument x) (survives x && s x) (argument_is x a (omega arith))))),
        λ a. same ss _ _ a.world (left_after_call ws) (put_agrees 10 a.value a.value s (after_call ws l) (after_call ws k) refl (agree_less s (without 10 s) _ _ (λ x i. less 10 x s i) (after_called ss l k ws g))),
      )
  does_alike (One Read ∷ ss) l k h ws g =
      let s = live at ss in
      same ss _ _ (after_read h) (left_after_word ws) (put_agrees 10 (next_word h) (next_word h) s _ _ refl (put_agrees 17 (unknown_word ws) (unknown_word ws) (without 10 s) l k refl (agree_less _ _ l k (λ x i. turned 17 10 x s i) g)))
  does_alike (One Write ∷ ss) l k h ws g =
      let s = without 17 (live at ss) in
      let e = g.registers 10 (in_with 10 s) in
      subst (λ n. Same (at_steps ss (put (Register 17) (unknown_word ws) l) (after_write (l (Register 10)) h) (left_after_word ws)) (at_steps ss (put (Register 17) (unknown_word ws) k) (after_write n h) (left_after_word ws))) e
      (same ss _ _ (after_write (l (Register 10)) h) (left_after_word ws) (put_agrees 17 (unknown_word ws) (unknown_word ws) (live at ss) l k refl (agree_behind 10 s l k g)))
  does_alike (One Return ∷ ss) l k h ws g = ap (λ v. record { value = v; world = h }) (g.registers 10 (eqb_yes 10 10 refl))
  does_alike (Immediate o to a w ∷ ss) l k h ws g =
      let s = without to (live at ss) in
      made_alike _ _ to ss l k h ws (ap (λ x. apply_immediate o x w) (g.registers a (in_with a s))) (agree_behind a s l k g)
  does_alike (LoadAt width o to i ∷ ss) l k h ws g = made_alike (element h width o i) (element h width o i) to ss l k h ws refl g
  does_alike (StoreAt width o i a ∷ ss) l k h ws g =
      let s = live at ss in
      stored_alike _ _ ss l k ws (ap (stored h width o i) (g.registers a (in_with a s))) (agree_behind a s l k g)
  does_alike (LoadNear width o to i w ∷ ss) l k h ws g =
      let s = without to (live at ss) in
      made_alike _ _ to ss l k h ws (ap (λ n. element h width o (add n w)) (g.registers i (in_with i s))) (agree_behind i s l k g)
  does_alike (StoreNear width o i w a ∷ ss) l k h ws g =
      let s = live at ss in
      stored_alike _ _ ss l k ws (ap₂ (λ n v. stored h width o (add n w) v) (first_of_two i a s l k g) (second_of_two i a s l k g)) (behind_two i a s l k g)
  does_alike (Branch o nonzero a b n ∷ ss) l k h ws g =
      let s = either (at n) (live at ss) in
      branch_alike _ _ nonzero n ss l k h ws (ap₂ (apply_binary o) (first_of_two a b s l k g) (second_of_two a b s l k g)) (behind_two a b s l k g)
  does_alike (BranchImmediate o nonzero a w n ∷ ss) l k h ws g =
      let s = either (at n) (live at ss) in
      branch_alike _ _ nonzero n ss l k h ws (ap (λ x. apply_immediate o x w) (g.registers a (in_with a s))) (agree_behind a s l k g)
