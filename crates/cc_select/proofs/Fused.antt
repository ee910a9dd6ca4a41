-- A run in which a comparison and the test after it are one branch keeps up as the run does in which they are two steps. The comparison is
-- then not a move, and the branch does both. Between them (`Middle`) the branch is known to lead where the test does, and the truth value's
-- register may be anything, since nothing reads it after the test.
use Rattle.std.proofs.Common.{◌≡◌, ℕ, ◌≤◌, ◌⊎◌, List, [], ◌∷◌, ◌++◌, Option, Some, None, true, false, Bool, length, bit_xor, refl, sym, ap, ap₂, ◌∙◌, subst, inl, inr, arith}
use Rattle.std.proofs.lemmas.Bool.Decides.{nat_tests}
use Rattle.std.specs.Int.Bits.{xor_self, xor_zero_l, xor_zero_r, xor_assoc}
use Rattle.std.specs.Prelude.{if◌then◌else◌, ◌==◌, ◌&&◌, not, Contains}
use Rattle.cc_words.specs.declared.operators.Unary.TheVariants.{IsZero}
use Rattle.cc_words.specs.declared.operators.Binary as binary
use Rattle.cc_words.specs.declared.operators.Binary.TheVariants.{Xor, Ne}
use Rattle.cc_words.specs.Words.{truth_value, is_zero, ne, xor}
use Rattle.cc_words.specs.Operators.{apply_binary}
use Rattle.cc_simulation.specs.World.{World}
use Rattle.cc_simulation.specs.Run.{Move as Moving, Goes, tried}
use Rattle.cc_simulation.specs.Meaning.{Meaning}
use Rattle.cc_simulation.specs.Tracks.{TracksForAll}
use Rattle.cc_simulation.proofs.Simulating.{coarser}
use Rattle.cc_ltl.specs.declared.location.Location.TheVariants.{Register}
use Rattle.cc_ltl.specs.Registers.{IsAllocatable}
use Rattle.cc_ltl.specs.Ltl.{Locations, put}
use Rattle.cc_linear_language.specs.declared.item.LinearItem.TheVariants.{Label, IfNonzero, IfZero, Unary, Binary}
use Rattle.cc_select.specs.declared.step.WordOperator.{WordOperator}
use Rattle.cc_select.specs.declared.step.WordOperator.TheVariants as immediate_operators
use Rattle.cc_select.specs.declared.step.Step.{Step}
use Rattle.cc_select.specs.declared.step.Step.TheVariants.{One, Immediate, Branch, BranchImmediate}
use Rattle.cc_select.specs.Immediates.{operator_of, apply_immediate, is_comparison, gains}
use Rattle.cc_select.specs.Selected.{Configuration, IsStep, at_steps, place, led, does, selected_move, selected_output, selected_start}
use Rattle.cc_select.specs.Live.{Registers, with, without, either, live_before, live}
use Rattle.cc_select.specs.internal.Settled.{IsSettled}
use Rattle.cc_select.specs.Selection.{Test, test_of, behind, Truth, if_so, truth_of, is_alone, joined, fused}
use Rattle.cc_select.proofs.Basics.{none_some, eqb_yes, eqb_says, both_hold, not_holds, or_left, or_right, either_way}
use Rattle.cc_select.proofs.Places.{led_either, IsThere, there_place, short_place}
use Rattle.cc_select.proofs.Unread.{In, in_with, in_more, Agree, agree_less, put_beside, there}
use Rattle.cc_select.proofs.Making.{labelled, through, made_led, Plain, Owes, owes_kept, owes_label, tracks_made}

-- ---- tests

-- what is made from the steps after a test follows the test
pub test_head : (at : ℕ → Registers) (steps : List Step) (t : Test) → test_of steps ≡ Some t → behind (fused at steps) ≡ fused at (behind steps)
test_head at [] t e = refl
test_head at (One (IfNonzero r n) ∷ steps) t e = refl
test_head at (One (IfZero r n) ∷ steps) t e = refl
test_head at (s ∷ steps) t e = none_some t e

-- a test is not a label, so no label's place changes without it
test_place : (at : ℕ → Registers) (steps : List Step) (t : Test) (l : ℕ) → test_of steps ≡ Some t → place (behind (fused at steps)) l ≡ place (fused at steps) l
test_place at [] t l e = refl
test_place at (One (IfNonzero r n) ∷ steps) t l e = refl
test_place at (One (IfZero r n) ∷ steps) t l e = refl
test_place at (s ∷ steps) t l e = none_some t e

-- what is live where the test leads is live before it
test_live : (at : ℕ → Registers) (steps : List Step) (t : Test) → test_of steps ≡ Some t → (r : ℕ) → In (either (at t.to) (live at (behind steps))) r → In (live at steps) r
test_live at [] t e = none_some t e
test_live at (One (IfNonzero a n) ∷ steps) t e =
    let er : record { register = a; nonzero = true; to = n } ≡ t = cc in
    subst (λ (u : Test). (r : ℕ) → In (either (at u.to) (live at steps)) r → In (live at (One (IfNonzero a n) ∷ steps)) r) er (λ r i. in_more a r (either (at n) (live at steps)) i)
test_live at (One (IfZero a n) ∷ steps) t e =
    let er : record { register = a; nonzero = false; to = n } ≡ t = cc in
    subst (λ (u : Test). (r : ℕ) → In (either (at u.to) (live at steps)) r → In (live at (One (IfZero a n) ∷ steps)) r) er (λ r i. in_more a r (either (at n) (live at steps)) i)
test_live at (s ∷ steps) t e = none_some t e

-- the test leads to its label or to the next step, as its register's word says
test_does : (arity : ℕ → ℕ) (code steps : List Step) (t : Test) (l : Locations) (h : World) (ws : List ℕ) → test_of steps ≡ Some t
    → does arity code steps l h ws ≡ Goes (at_steps (led t.nonzero (l (Register t.register)) (behind steps) (place code t.to)) l h ws)
test_does arity code [] t l h ws e = none_some t e
test_does arity code (One (IfNonzero a n) ∷ steps) t l h ws e =
    let er : record { register = a; nonzero = true; to = n } ≡ t = cc in
    subst (λ (u : Test). does arity code (One (IfNonzero a n) ∷ steps) l h ws ≡ Goes (at_steps (led u.nonzero (l (Register u.register)) steps (place code u.to)) l h ws)) er refl
test_does arity code (One (IfZero a n) ∷ steps) t l h ws e =
    let er : record { register = a; nonzero = false; to = n } ≡ t = cc in
    subst (λ (u : Test). does arity code (One (IfZero a n) ∷ steps) l h ws ≡ Goes (at_steps (led u.nonzero (l (Register u.register)) steps (place code u.to)) l h ws)) er refl
test_does arity code (s ∷ steps) t l h ws e = none_some t e

-- ---- the words that steps make

-- a step whose word is used only by a test for 0, and the branch that replaces the step and the test: the word depends only on what is live
-- before the step, and the branch leads where the word says
pub record IsTruth (s : Step) (v : Truth) : Type 0 where
  pub value : Locations → Option ℕ
  pub makes : (arity : ℕ → ℕ) (code steps : List Step) (l : Locations) (h : World) (ws : List ℕ) → does arity code (s ∷ steps) l h ws ≡ tried (value l) (λ w. Goes (at_steps steps (put (Register v.register) w l) h ws))
  pub same : (at : ℕ → Registers) (x : Registers) (l k : Locations) → Agree (live_before s at x) l k → value l ≡ value k
  pub less : (at : ℕ → Registers) (x : Registers) (r : ℕ) → In (without v.register x) r → In (live_before s at x) r
  pub there : IsThere s
  pub no_label : (nonzero : Bool) (n : ℕ) → IsThere (v.branch nonzero n)
  pub fits : (slots functions : ℕ) (labels : List ℕ) (nonzero : Bool) (n : ℕ) → IsStep slots functions labels s → Contains labels n → IsStep slots functions labels (v.branch nonzero n)
  pub branches : (arity : ℕ → ℕ) (code steps : List Step) (l : Locations) (h : World) (ws : List ℕ) (nonzero : Bool) (n w : ℕ) → value l ≡ Some w
      → does arity code (v.branch nonzero n ∷ steps) l h ws ≡ Goes (at_steps (led nonzero w steps (place code n)) l h ws)

-- a branch on whether a word is zero leads where the truth value says
zero_led : (b : Bool) (on there : List Step) → (if b then there else on) ≡ led true (truth_value b) on there
zero_led true on there = refl
zero_led false on there = refl

nonzero_led : (b : Bool) (on there : List Step) → (if b then on else there) ≡ led false (truth_value b) on there
nonzero_led true on there = refl
nonzero_led false on there = refl

zero_truth : (to a : ℕ) → IsTruth (One (Unary IsZero to a)) (record { register = to; branch = λ nonzero n. One (if nonzero then IfZero a n else IfNonzero a n) })
zero_truth to a = record {
  value = λ l. Some (is_zero (l (Register a)));
  makes = λ arity code steps l h ws. refl;
  same = λ at x l k g. ap (λ n. Some (is_zero n)) (g.registers a (in_with a (without to x)));
  less = λ at x r i. in_more a r (without to x) i;
  there = tt;
  no_label = no_label;
  fits = fits;
  branches = branches;
}
  where
    no_label : (nonzero : Bool) (n : ℕ) → IsThere (One (if nonzero then IfZero a n else IfNonzero a n))
    no_label true n = tt
    no_label false n = tt

    fits : (slots functions : ℕ) (labels : List ℕ) (nonzero : Bool) (n : ℕ) → IsAllocatable to × IsAllocatable a → Contains labels n → IsStep slots functions labels (One (if nonzero then IfZero a n else IfNonzero a n))
    fits slots functions labels true n f c = (f.1, c)
    fits slots functions labels false n f c = (f.1, c)

    branches : (arity : ℕ → ℕ) (code steps : List Step) (l : Locations) (h : World) (ws : List ℕ) (nonzero : Bool) (n w : ℕ) → Some (is_zero (l (Register a))) ≡ Some w
        → does arity code (One (if nonzero then IfZero a n else IfNonzero a n) ∷ steps) l h ws ≡ Goes (at_steps (led nonzero w steps (place code n)) l h ws)
    branches arity code steps l h ws true n w e =
        let q : is_zero (l (Register a)) ≡ w = cc in
        ap (λ (xs : List Step). Goes (at_steps xs l h ws)) (zero_led (l (Register a) == 0) steps (place code n) ∙ ap (λ v. led true v steps (place code n)) q)
    branches arity code steps l h ws false n w e =
        let q : is_zero (l (Register a)) ≡ w = cc in
        ap (λ (xs : List Step). Goes (at_steps xs l h ws)) (nonzero_led (l (Register a) == 0) steps (place code n) ∙ ap (λ v. led false v steps (place code n)) q)

same_value : (o : binary.Binary) (to a b : ℕ) (x : Registers) (l k : Locations) → Agree (with a (with b (without to x))) l k → apply_binary o (l (Register a)) (l (Register b)) ≡ apply_binary o (k (Register a)) (k (Register b))
same_value o to a b x l k g = ap₂ (apply_binary o) (g.registers a (in_with a (with b (without to x)))) (g.registers b (in_more a b (with b (without to x)) (in_with b (without to x))))

binary_truth : (o : binary.Binary) (to a b : ℕ) → is_comparison o ≡ true → IsTruth (One (Binary o to a b)) (record { register = to; branch = λ nonzero n. Branch o nonzero a b n })
binary_truth o to a b is = record {
  value = λ l. apply_binary o (l (Register a)) (l (Register b));
  makes = λ arity code steps l h ws. refl;
  same = λ at x l k g. same_value o to a b x l k g;
  less = λ at x r i. in_more a r (with b (without to x)) (in_more b r (without to x) i);
  there = tt;
  no_label = λ nonzero n. tt;
  fits = λ slots functions labels nonzero n f c. (is, f.1, f.2, c);
  branches = λ arity code steps l h ws nonzero n w e. ap (λ z. tried z (λ v. Goes (at_steps (led nonzero v steps (place code n)) l h ws))) e;
}

-- words whose xor is 0 are the same
xor_same : (a b : ℕ) → xor a b ≡ 0 → a ≡ b
xor_same a b e = sym (xor_zero_r a) ∙ ap (λ x. bit_xor a x) (sym (xor_self b)) ∙ sym (xor_assoc a b b) ∙ ap (λ x. bit_xor x b) e ∙ xor_zero_l b

xor_tests : (a b : ℕ) → (xor a b == 0) ≡ (a == b)
xor_tests a b = grind (arith, nat_tests, xor_same a b, xor_self a)

truth_tests : (b : Bool) → (truth_value (not b) == 0) ≡ b
truth_tests true = refl
truth_tests false = refl

differ_tests : (a b : ℕ) → (ne a b == 0) ≡ (xor a b == 0)
differ_tests a b = truth_tests (a == b) ∙ sym (xor_tests a b)

same_led : (nonzero : Bool) (v w : ℕ) (on there : List Step) → (v == 0) ≡ (w == 0) → led nonzero v on there ≡ led nonzero w on there
same_led true v w on there e = ap (λ b. if b then on else there) e
same_led false v w on there e = ap (λ b. if b then there else on) e

xor_truth : (to a b : ℕ) → IsTruth (One (Binary Xor to a b)) (record { register = to; branch = λ nonzero n. Branch Ne nonzero a b n })
xor_truth to a b = record {
  value = λ l. apply_binary Xor (l (Register a)) (l (Register b));
  makes = λ arity code steps l h ws. refl;
  same = λ at x l k g. same_value Xor to a b x l k g;
  less = λ at x r i. in_more a r (with b (without to x)) (in_more b r (without to x) i);
  there = tt;
  no_label = λ nonzero n. tt;
  fits = λ slots functions labels nonzero n f c. (refl, f.1, f.2, c);
  branches = λ arity code steps l h ws nonzero n w e.
      let x = l (Register a) in
      let y = l (Register b) in
      let q : xor x y ≡ w = cc in
      ap (λ (xs : List Step). Goes (at_steps xs l h ws)) (same_led nonzero (ne x y) (xor x y) steps (place code n) (differ_tests x y) ∙ ap (λ v. led nonzero v steps (place code n)) q);
}

gains_test : (o : WordOperator) (w : ℕ) → gains o w ≡ true → is_comparison (operator_of o) ≡ true
gains_test immediate_operators.Eq w e = refl
gains_test immediate_operators.Ne w e = refl
gains_test immediate_operators.LtS w e = refl
gains_test immediate_operators.LtU w e = refl
gains_test immediate_operators.LeS w e = refl
gains_test immediate_operators.LeU w e = refl
gains_test immediate_operators.GtS w e = refl
gains_test immediate_operators.GtU w e = refl
gains_test immediate_operators.GeS w e = refl
gains_test immediate_operators.GeU w e = refl
gains_test o w e = absurd (let z : false ≡ true = e in cc)

immediate_truth : (o : WordOperator) (to a w : ℕ) → gains o w ≡ true → IsTruth (Immediate o to a w) (record { register = to; branch = λ nonzero n. BranchImmediate o nonzero a w n })
immediate_truth o to a w gains = record {
  value = λ l. apply_immediate o (l (Register a)) w;
  makes = λ arity code steps l h ws. refl;
  same = λ at x l k g. ap (λ n. apply_immediate o n w) (g.registers a (in_with a (without to x)));
  less = λ at x r i. in_more a r (without to x) i;
  there = tt;
  no_label = λ nonzero n. tt;
  fits = λ slots functions labels nonzero n f c. (gains_test o w gains, f.1, f.2, f.3, c);
  branches = λ arity code steps l h ws nonzero n u e. ap (λ z. tried z (λ v. Goes (at_steps (led nonzero v steps (place code n)) l h ws))) e;
}

-- if `if_so b u` is `v`, and `u` has a property if b is true, `v` has that property
if_is : (P : Truth → Type 0) (b : Bool) (u v : Truth) → (b ≡ true → P u) → if_so b u ≡ Some v → P v
if_is P true u v p e = let q : u ≡ v = cc in subst P q (p refl)
if_is P false u v p e = none_some v e

pub is_truth : (s : Step) (v : Truth) → truth_of s ≡ Some v → IsTruth s v
is_truth (One (Unary IsZero to a)) v e =
    let q : record { register = to; branch = λ nonzero n. One (if nonzero then IfZero a n else IfNonzero a n) } ≡ v = cc in
    subst (IsTruth (One (Unary IsZero to a))) q (zero_truth to a)
is_truth (One (Binary Xor to a b)) v e =
    let q : record { register = to; branch = λ nonzero n. Branch Ne nonzero a b n } ≡ v = cc in
    subst (IsTruth (One (Binary Xor to a b))) q (xor_truth to a b)
is_truth (One (Binary o to a b)) v e = if_is (IsTruth (One (Binary o to a b))) (is_comparison o) (record { register = to; branch = λ nonzero n. Branch o nonzero a b n }) v (binary_truth o to a b) e
is_truth (Immediate o to a w) v e = if_is (IsTruth (Immediate o to a w)) (gains o w) (record { register = to; branch = λ nonzero n. BranchImmediate o nonzero a w n }) v (immediate_truth o to a w) e
is_truth s v e = none_some v e

-- ---- places

joined_place : (at : ℕ → Registers) (s : Step) (z : Option Truth) (y : Option Test) (steps : List Step) (l : ℕ) → truth_of s ≡ z → test_of steps ≡ y → IsThere s
    → place (joined at s z y steps (fused at steps)) l ≡ place (fused at steps) l
joined_place at s None y steps l e q is = there_place s (fused at steps) l is
joined_place at s (Some v) None steps l e q is = there_place s (fused at steps) l is
joined_place at s (Some v) (Some t) steps l e q is =
    either_way (λ (xs : List Step). place xs l ≡ place (fused at steps) l) (is_alone at v.register t steps) (v.branch t.nonzero t.to ∷ behind (fused at steps)) (s ∷ fused at steps)
    (there_place (v.branch t.nonzero t.to) (behind (fused at steps)) l ((is_truth s v e).no_label t.nonzero t.to) ∙ test_place at steps t l q) (there_place s (fused at steps) l is)

fused_if : (at : ℕ → Registers) (b : Bool) (n : ℕ) (steps others made : List Step) → made ≡ fused at others → (if b then One (Label n) ∷ fused at steps else made) ≡ fused at (if b then One (Label n) ∷ steps else others)
fused_if at true n steps others made e = refl
fused_if at false n steps others made e = e

pub fused_place : (at : ℕ → Registers) (steps : List Step) (l : ℕ) → place (fused at steps) l ≡ fused at (place steps l)
fused_place at [] l = refl
fused_place at (One (Label n) ∷ steps) l = fused_if at (n == l) n steps (place steps l) (place (fused at steps) l) (fused_place at steps l)
fused_place at (s ∷ steps) l = joined_place at s (truth_of s) (test_of steps) steps l refl refl tt ∙ fused_place at steps l

-- ---- the simulation

without_more : (to : ℕ) (s t : Registers) → ((r : ℕ) → In s r → In t r) → (r : ℕ) → In (without to s) r → In (without to t) r
without_more to s t f r i = by (to == r) (f r) i
  where
    by : (b : Bool) → (s r ≡ true → t r ≡ true) → (not b && s r) ≡ true → (not b && t r) ≡ true
    by true g e = e
    by false g e = g e

module _ (arity : ℕ → ℕ) (code : List Step) (at : ℕ → Registers) (settled : IsSettled at code) (few : (g : ℕ) → arity g ≤ 8) where
  abbrev make : List Step → List Step
  make steps = fused at steps

  places : (l : ℕ) → place (make code) l ≡ make (place code l)
  places l = fused_place at code l

  abbrev old : Configuration → Moving Configuration
  old = selected_move arity code

  abbrev new : Configuration → Moving Configuration
  new = selected_move arity (make code)

  abbrev IsPlain : Configuration → Configuration → Type 0
  IsPlain = Plain arity code make places at settled few

  -- the old run is between a comparison and its test, and the new one is at the branch that replaces both
  pub record Middle (c d : Configuration) : Type 0 where
    pub before : List ℕ
    pub test : Test
    pub is_comparison : test_of c.steps ≡ Some test
    pub branch : Step
    pub value : ℕ
    pub steps : d.steps ≡ labelled before (branch ∷ make (behind c.steps))
    pub branches : (xs : List Step) (h : World) (ws : List ℕ) → does arity (make code) (branch ∷ xs) d.locations h ws ≡ Goes (at_steps (led test.nonzero value xs (place (make code) test.to)) d.locations h ws)
    pub holds : c.locations (Register test.register) ≡ value
    pub on : Agree (live at (behind c.steps)) c.locations d.locations
    pub there : Agree (at test.to) c.locations d.locations
    pub world : c.world ≡ d.world
    pub words : c.words ≡ d.words
    pub short : length c.steps ≤ length code

  abbrev Related : Configuration → Configuration → Type 0
  Related c d = IsPlain c d ⊎ Middle c d

  plain : (c d : Configuration) → IsPlain c d → Related c d
  plain c d p = inl p

  abbrev Owed : Moving Configuration → List Step → World → Configuration → Type 0
  Owed = Owes arity code make places at settled few Related plain

  kept : (s : Step) (steps : List Step) (ns : List ℕ) (l k : Locations) (h : World) (ws : List ℕ) → IsThere s → length (s ∷ steps) ≤ length code → Agree (live at (s ∷ steps)) l k
      → Owed (does arity code (s ∷ steps) l h ws) (s ∷ steps) h (at_steps (labelled ns (s ∷ make steps)) k h ws)
  kept = owes_kept arity code make places at settled few Related plain

  -- a comparison that is joined with its test is not a move of the new run yet
  owes_truth : (s : Step) (v : Truth) (x : IsTruth s v) (t : Test) (steps : List Step) (ns : List ℕ) (l k : Locations) (h : World) (ws : List ℕ) → length steps ≤ length code → test_of steps ≡ Some t
      → is_alone at v.register t steps ≡ true → Agree (live at (s ∷ steps)) l k → (z : Option ℕ) → x.value l ≡ z
      → Owed (tried z (λ w. Goes (at_steps steps (put (Register v.register) w l) h ws))) (s ∷ steps) h (at_steps (labelled ns (v.branch t.nonzero t.to ∷ behind (make steps))) k h ws)
  owes_truth s v x t steps ns l k h ws le e alone g None z = tt
  owes_truth s v x t steps ns l k h ws le e alone g (Some w) z =
      let to = v.register in
      let one = both_hold (to == t.register) _ alone in
      let two = both_hold (not (live at (behind steps) to)) (not (at t.to to)) one.1 in
      let r : to ≡ t.register = eqb_says to t.register one.0 in
      let rest : Agree (without to (live at steps)) l k = agree_less (live at (s ∷ steps)) (without to (live at steps)) l k (λ n i. x.less at (live at steps) n i) g in
      inr (
        inr (record {
          before = ns;
          test = t;
          is_comparison = e;
          branch = v.branch t.nonzero t.to;
          value = w;
          steps = ap (λ (xs : List Step). labelled ns (v.branch t.nonzero t.to ∷ xs)) (test_head at steps t e);
          branches = λ xs h' ws'. x.branches arity (make code) xs k h' ws' t.nonzero t.to w (sym (x.same at (live at steps) l k g) ∙ z);
          holds = ap (λ n. put (Register to) w l (Register n)) (sym r) ∙ ap (λ q. if q then w else l (Register to)) (eqb_yes to to refl);
          on = put_beside to w (live at (behind steps)) l k (not_holds _ two.0)
              (agree_less (without to (live at steps)) (without to (live at (behind steps))) l k (without_more to (live at (behind steps)) (live at steps) (λ n i. test_live at steps t e n (or_right (at t.to n) _ i))) rest);
          there = put_beside to w (at t.to) l k (not_holds _ two.1)
              (agree_less (without to (live at steps)) (without to (at t.to)) l k (without_more to (at t.to) (live at steps) (λ n i. test_live at steps t e n (or_left (at t.to n) _ i))) rest);
          world = refl;
          words = refl;
          short = le;
        }),
        omega arith,
      )

  owes_joined : (s : Step) (steps : List Step) (ns : List ℕ) (l k : Locations) (h : World) (ws : List ℕ) → IsThere s → length (s ∷ steps) ≤ length code → Agree (live at (s ∷ steps)) l k
      → (z : Option Truth) (y : Option Test) → truth_of s ≡ z → test_of steps ≡ y → Owed (does arity code (s ∷ steps) l h ws) (s ∷ steps) h (at_steps (labelled ns (joined at s z y steps (make steps))) k h ws)
  owes_joined s steps ns l k h ws is le g None y e q = kept s steps ns l k h ws is le g
  owes_joined s steps ns l k h ws is le g (Some v) None e q = kept s steps ns l k h ws is le g
  owes_joined s steps ns l k h ws is le g (Some v) (Some t) e q = by (is_alone at v.register t steps) refl
    where
      by : (b : Bool) → is_alone at v.register t steps ≡ b
          → Owed (does arity code (s ∷ steps) l h ws) (s ∷ steps) h (at_steps (labelled ns (if b then v.branch t.nonzero t.to ∷ behind (make steps) else s ∷ make steps)) k h ws)
      by true alone =
          let x = is_truth s v e in
          subst (λ m. Owed m (s ∷ steps) h (at_steps (labelled ns (v.branch t.nonzero t.to ∷ behind (make steps))) k h ws)) (sym (x.makes arity code steps l h ws))
          (owes_truth s v x t steps ns l k h ws (omega arith) q alone g (x.value l) refl)
      by false alone = kept s steps ns l k h ws is le g

  owes : (steps : List Step) (ns : List ℕ) (l k : Locations) (h : World) (ws : List ℕ) → length steps ≤ length code → Agree (live at steps) l k → Owed (does arity code steps l h ws) steps h (at_steps (labelled ns (make steps)) k h ws)
  owes [] ns l k h ws le g = tt
  owes (One (Label n) ∷ steps) ns l k h ws le g = owes_label arity code make places at settled few Related plain n steps (make steps) ns l k h ws (owes steps (ns ++ n ∷ []) l k h ws (omega arith) g)
  owes (s ∷ steps) ns l k h ws le g = owes_joined s steps ns l k h ws tt le g (truth_of s) (test_of steps) refl refl

  -- the steps after the test are no more than the code has
  short_behind : (steps : List Step) → length steps ≤ length code → length (behind steps) ≤ length code
  short_behind [] le = le
  short_behind (s ∷ steps) le = omega arith

  pub record AreRelated (l k : Locations) (steps : List Step) : Type 0 where
    pub agree : Agree (live at steps) l k
    pub short : length steps ≤ length code

  owes_test : (steps : List Step) (t : Test) (branch : Step) (value : ℕ) (ns : List ℕ) (l k : Locations) (h : World) (ws : List ℕ) → length steps ≤ length code → test_of steps ≡ Some t
      → ((xs : List Step) → does arity (make code) (branch ∷ xs) k h ws ≡ Goes (at_steps (led t.nonzero value xs (place (make code) t.to)) k h ws)) → l (Register t.register) ≡ value
      → Agree (live at (behind steps)) l k → Agree (at t.to) l k → Owed (does arity code steps l h ws) steps h (at_steps (labelled ns (branch ∷ make (behind steps))) k h ws)
  owes_test steps t branch value ns l k h ws le e branches holds on at_label =
      let next = led t.nonzero value (behind steps) (place code t.to) in
      let goes : does arity code steps l h ws ≡ Goes (at_steps next l h ws) =
      test_does arity code steps t l h ws e ∙ ap (λ w. Goes (at_steps (led t.nonzero w (behind steps) (place code t.to)) l h ws)) holds in
      let moved : does arity (make code) (labelled ns (branch ∷ make (behind steps))) k h ws ≡ Goes (at_steps (make next) k h ws) =
      through arity (make code) ns (branch ∷ make (behind steps)) k h ws ∙ branches (make (behind steps)) ∙ ap (λ (xs : List Step). Goes (at_steps xs k h ws)) (made_led arity code make places t.nonzero value t.to (behind steps)) in
      let r = led_either (AreRelated l k) t.nonzero value (behind steps) (place code t.to) (record { agree = on; short = short_behind steps le })
      (record { agree = there arity code at settled few t.to l k at_label; short = short_place arity code t.to }) in
      subst (λ m. Owed m steps h (at_steps (labelled ns (branch ∷ make (behind steps))) k h ws)) (sym goes) (inl (record {
        moves = 1;
        to = at_steps (make next) k h ws;
        one = omega arith;
        few = omega arith;
        way = (at_steps (make next) k h ws, moved, (refl, refl));
        related = inl (record { before = []; steps = refl; agree = r.agree; world = refl; words = refl; short = r.short });
      }))

  -- what a move owes from any related configuration
  owes_related : (c d : Configuration) → Related c d → Owed (old c) c.steps c.world d
  owes_related c d (inl r) =
      let e : at_steps (labelled r.before (make c.steps)) d.locations c.world c.words ≡ d = λ i. record { steps = sym r.steps i; locations = d.locations; world = r.world i; words = r.words i } in
      subst (Owed (old c) c.steps c.world) e (owes c.steps r.before c.locations d.locations c.world c.words r.short r.agree)
  owes_related c d (inr r) =
      let e : at_steps (labelled r.before (r.branch ∷ make (behind c.steps))) d.locations c.world c.words ≡ d = λ i. record { steps = sym r.steps i; locations = d.locations; world = r.world i; words = r.words i } in
      subst (Owed (old c) c.steps c.world) e
      (owes_test c.steps r.test r.branch r.value r.before c.locations d.locations c.world c.words r.short r.is_comparison (λ xs. r.branches xs c.world c.words) r.holds r.on r.there)

  short_of : (c d : Configuration) → Related c d → length c.steps ≤ length code
  short_of c d (inl r) = r.short
  short_of c d (inr r) = r.short

  world_of : (c d : Configuration) → Related c d → c.world ≡ d.world
  world_of c d (inl r) = r.world
  world_of c d (inr r) = r.world

-- if code keeps up with a function, it still does with comparisons and tests joined, at a slower rate
pub fused_tracks : (meaning : Meaning) (f rate slots : ℕ) (code : List Step) (at : ℕ → Registers) → IsSettled at code → ((g : ℕ) → meaning.arity g ≤ 8)
    → TracksForAll meaning f rate (selected_move meaning.arity code) selected_output (selected_start slots code)
    → TracksForAll meaning f (coarser rate (length code)) (selected_move meaning.arity (fused at code)) selected_output (selected_start slots (fused at code))
fused_tracks meaning f rate slots code at settled few keeps =
    tracks_made meaning.arity code (λ steps. fused at steps) (places meaning.arity code at settled few) at settled few (Related meaning.arity code at settled few) (plain meaning.arity code at settled few)
    (owes_related meaning.arity code at settled few) (short_of meaning.arity code at settled few) (world_of meaning.arity code at settled few) meaning f rate slots keeps
