-- Lists of steps: what holds where a branch leads; that places and labels lie after a step that is not a label; and that no step leads to
-- more steps than the code has.
use Rattle.std.proofs.Common.{◌≡◌, ℕ, ◌≤◌, List, [], ◌∷◌, Option, Some, None, true, false, Bool, length, refl, arith}
use Rattle.std.specs.Prelude.{◌==◌}
use Rattle.cc_words.specs.Words.{add}
use Rattle.cc_words.specs.Operators.{apply_binary}
use Rattle.cc_simulation.specs.World.{World, Answer, element, stored}
use Rattle.cc_simulation.specs.Run.{Move as Moving, Goes, Calls, Returns, Fails, tried}
use Rattle.cc_ltl.specs.declared.location.Location.TheVariants.{Register}
use Rattle.cc_ltl.specs.Ltl.{Locations}
use Rattle.cc_linear_language.specs.declared.item.LinearItem.TheVariants.{Label, Jump, IfNonzero, IfZero, Copy, Const, Unary, Binary, Load, Store, Call, Read, Write, Return}
use Rattle.cc_select.specs.declared.step.Step.{Step}
use Rattle.cc_select.specs.declared.step.Step.TheVariants.{One, Immediate, LoadAt, StoreAt, LoadNear, StoreNear, Branch, BranchImmediate}
use Rattle.cc_select.specs.Immediates.{apply_immediate}
use Rattle.cc_select.specs.Selected.{Configuration, labels, place, led, does}
use Rattle.cc_select.proofs.Basics.{either_way, if_alike}

-- ---- branches

-- a property of both lists holds of the list to which a branch leads
pub led_either : (P : List Step → Type 0) (nonzero : Bool) (w : ℕ) (on there : List Step) → P on → P there → P (led nonzero w on there)
led_either P true w on there p q = either_way P (w == 0) on there p q
led_either P false w on there p q = either_way P (w == 0) there on q p

pub led_alike : (P : List Step → List Step → Type 0) (nonzero : Bool) (w : ℕ) (on there on' there' : List Step) → P on on' → P there there' → P (led nonzero w on there) (led nonzero w on' there')
led_alike P true w on there on' there' p q = if_alike P (w == 0) on there on' there' p q
led_alike P false w on there on' there' p q = if_alike P (w == 0) there on there' on' q p

-- ---- a step that is not a label

abbrev pub IsThere : Step → Type 0
IsThere (One (Label l)) = ⊥
IsThere s = Unit {0}

pub there_place : (s : Step) (steps : List Step) (l : ℕ) → IsThere s → place (s ∷ steps) l ≡ place steps l
there_place (One (Label n)) steps l t = absurd t
there_place s steps l t = refl

pub there_labels : (s : Step) (steps : List Step) → IsThere s → labels (s ∷ steps) ≡ labels steps
there_labels (One (Label n)) steps t = absurd t
there_labels s steps t = refl

-- ---- no step leads to more steps than the code has

module _ (arity : ℕ → ℕ) (code : List Step) where
  abbrev pub IsShort : Moving Configuration → Type 0
  IsShort (Goes c) = length c.steps ≤ length code
  IsShort (Calls q f) = (a : Answer) → length (f a).steps ≤ length code
  IsShort (Returns r) = Unit {0}
  IsShort Fails = Unit {0}

  short_in : (steps : List Step) (l : ℕ) → length steps ≤ length code → length (place steps l) ≤ length code
  short_in [] l le = le
  short_in (One (Label n) ∷ steps) l le = either_way (λ (xs : List Step). length xs ≤ length code) (n == l) (One (Label n) ∷ steps) (place steps l) le (short_in steps l (omega arith))
  short_in (s ∷ steps) l le = short_in steps l (omega arith)

  pub short_place : (l : ℕ) → length (place code l) ≤ length code
  short_place l = short_in code l (omega arith)

  short_led : (nonzero : Bool) (w : ℕ) (steps : List Step) (n : ℕ) → length steps ≤ length code → length (led nonzero w steps (place code n)) ≤ length code
  short_led nonzero w steps n le = led_either (λ (xs : List Step). length xs ≤ length code) nonzero w steps (place code n) le (short_place n)

  short_tried : {X : Type 0} (x : Option X) (f : X → Moving Configuration) → ((v : X) → IsShort (f v)) → IsShort (tried x f)
  short_tried {X} None f e = tt
  short_tried {X} (Some v) f e = e v

  pub short_move : (steps : List Step) (l : Locations) (h : World) (ws : List ℕ) → length steps ≤ length code → IsShort (does arity code steps l h ws)
  short_move [] l h ws le = tt
  short_move (One (Label n) ∷ steps) l h ws le = short_move steps l h ws (omega arith)
  short_move (One (Jump n) ∷ steps) l h ws le = short_place n
  short_move (One (IfNonzero r n) ∷ steps) l h ws le = short_led true (l (Register r)) steps n (omega arith)
  short_move (One (IfZero r n) ∷ steps) l h ws le = short_led false (l (Register r)) steps n (omega arith)
  short_move (One (Copy m) ∷ steps) l h ws le = omega arith
  short_move (One (Const to w) ∷ steps) l h ws le = omega arith
  short_move (One (Unary o to a) ∷ steps) l h ws le = omega arith
  short_move (One (Binary o to a b) ∷ steps) l h ws le = let lt : length steps ≤ length code = omega arith in short_tried (apply_binary o (l (Register a)) (l (Register b))) _ (λ v. lt)
  short_move (One (Load width g to i) ∷ steps) l h ws le = let lt : length steps ≤ length code = omega arith in short_tried (element h width g (l (Register i))) _ (λ v. lt)
  short_move (One (Store width g i a) ∷ steps) l h ws le = let lt : length steps ≤ length code = omega arith in short_tried (stored h width g (l (Register i)) (l (Register a))) _ (λ v. lt)
  short_move (One (Call g) ∷ steps) l h ws le = λ a. (let lt : length steps ≤ length code = omega arith in lt)
  short_move (One Read ∷ steps) l h ws le = omega arith
  short_move (One Write ∷ steps) l h ws le = omega arith
  short_move (One Return ∷ steps) l h ws le = tt
  short_move (Immediate o to a w ∷ steps) l h ws le = let lt : length steps ≤ length code = omega arith in short_tried (apply_immediate o (l (Register a)) w) _ (λ v. lt)
  short_move (LoadAt width g to i ∷ steps) l h ws le = let lt : length steps ≤ length code = omega arith in short_tried (element h width g i) _ (λ v. lt)
  short_move (StoreAt width g i a ∷ steps) l h ws le = let lt : length steps ≤ length code = omega arith in short_tried (stored h width g i (l (Register a))) _ (λ v. lt)
  short_move (LoadNear width g to i w ∷ steps) l h ws le = let lt : length steps ≤ length code = omega arith in short_tried (element h width g (add (l (Register i)) w)) _ (λ v. lt)
  short_move (StoreNear width g i w a ∷ steps) l h ws le = let lt : length steps ≤ length code = omega arith in short_tried (stored h width g (add (l (Register i)) w) (l (Register a))) _ (λ v. lt)
  short_move (Branch o nonzero a b n ∷ steps) l h ws le =
      let lt : length steps ≤ length code = omega arith in
      short_tried (apply_binary o (l (Register a)) (l (Register b))) _ (λ v. short_led nonzero v steps n lt)
  short_move (BranchImmediate o nonzero a w n ∷ steps) l h ws le =
      let lt : length steps ≤ length code = omega arith in
      short_tried (apply_immediate o (l (Register a)) w) _ (λ v. short_led nonzero v steps n lt)
