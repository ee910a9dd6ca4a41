-- The steps that are made from a function of Linear form a function of Selected: the labels are the same list, jumps and branches
-- lead to labels of it, registers stay registers, and each word and number is one that the step's instructions can encode. Known
-- words are words, since they come from items.
use Rattle.std.proofs.Common.{◌≡◌, ℕ, List, [], ◌∷◌, Option, Some, None, true, false, Bool, ◌≢◌, refl, sym, ap, ◌∙◌, subst}
use Rattle.std.specs.Prelude.{if◌then◌else◌, ◌==◌, ◌||◌, not, Contains}
use Rattle.std.specs.List.{AllByRecursion, AllPairs}
use Rattle.cc_simulation.specs.Unknown.{survives}
use Rattle.cc_ltl.specs.declared.operation.Move.TheVariants.{Between, Reload, Spill}
use Rattle.cc_ltl.specs.Ltl.{IsWord}
use Rattle.cc_linear_language.specs.declared.item.LinearItem.{LinearItem}
use Rattle.cc_linear_language.specs.declared.item.LinearItem.TheVariants.{Label, Jump, IfNonzero, IfZero, Copy, Const, Unary, Binary, Load, Store, Call, Read, Write, Return}
use Rattle.cc_linear_language.specs.Linear as above
use Rattle.cc_linear_language.specs.Linear.{IsItem, IsLinear}
use Rattle.cc_select.specs.declared.step.Step.{Step}
use Rattle.cc_select.specs.declared.step.Step.TheVariants.{One, Immediate, LoadAt, StoreAt, LoadNear, StoreNear, Branch, BranchImmediate}
use Rattle.cc_select.specs.declared.step.WordOperator.{WordOperator}
use Rattle.cc_select.specs.declared.step.WordOperator.TheVariants.{Add, Sub}
use Rattle.cc_select.specs.declared.near.Sum.{Sum}
use Rattle.cc_words.specs.Words.{neg}
use Rattle.cc_words.proofs.Laws.{IsWord-neg}
use Rattle.cc_ltl.specs.Registers.{IsAllocatable}
use Rattle.cc_select.specs.Selected.{labels, IsStep, IsSelected}
use Rattle.cc_select.specs.Known.{Known, unknown, forget, learn, known_behind, choose, chosen}
use Rattle.cc_select.specs.Near.{unless, summed, sum_immediate, sum_item, sum_behind, sum_in, near, nearer}
use Rattle.cc_select.specs.Threading.{threaded}
use Rattle.cc_select.specs.Live.{Registers, live}
use Rattle.cc_select.specs.Table.{table}
use Rattle.cc_select.specs.Selection.{lean, Test, test_of, behind, Truth, truth_of, is_alone, joined, fused, trimmed, selected}
use Rattle.cc_select.proofs.Basics.{none_some, either_way}
use Rattle.cc_select.proofs.Places.{IsThere, there_labels}
use Rattle.cc_select.proofs.Forms.{right_is, left_is}
use Rattle.cc_select.proofs.Nearing.{load_near_gives, store_near_gives, load_near_there, store_near_there}
use Rattle.cc_select.proofs.Choices.{nonzero_gives, zero_gives, binary_gives, load_gives, store_gives, nonzero_there, zero_there, binary_there, load_there, store_there}
use Rattle.cc_select.proofs.Fused.{is_truth}
use Rattle.cc_select.proofs.Threading_fits.{threaded_linear}

-- ---- labels

chosen_labels : (k : Known) (is : List LinearItem) → labels (chosen k is) ≡ above.labels is
chosen_labels k [] = refl
chosen_labels k (Label n ∷ is) = ap (λ (ls : List ℕ). n ∷ ls) (chosen_labels unknown is)
chosen_labels k (IfNonzero r n ∷ is) = there_labels (choose k (IfNonzero r n)) (chosen k is) (nonzero_there k r n) ∙ chosen_labels k is
chosen_labels k (IfZero r n ∷ is) = there_labels (choose k (IfZero r n)) (chosen k is) (zero_there k r n) ∙ chosen_labels k is
chosen_labels k (Binary o to a b ∷ is) = there_labels (choose k (Binary o to a b)) (chosen (forget to k) is) (binary_there k o to a b) ∙ chosen_labels (forget to k) is
chosen_labels k (Load width g to i ∷ is) = there_labels (choose k (Load width g to i)) (chosen (forget to k) is) (load_there k width g to i) ∙ chosen_labels (forget to k) is
chosen_labels k (Store width g i a ∷ is) = there_labels (choose k (Store width g i a)) (chosen k is) (store_there k width g i a) ∙ chosen_labels k is
chosen_labels k (i ∷ is) = chosen_labels (known_behind i k) is

lean_labels : (at : ℕ → Registers) (steps : List Step) → labels (lean at steps) ≡ labels steps
lean_labels at [] = refl
lean_labels at (One (Label n) ∷ steps) = ap (λ (ls : List ℕ). n ∷ ls) (lean_labels at steps)
lean_labels at (One (Const to w) ∷ steps) =
    either_way (λ (xs : List Step). labels xs ≡ labels steps) (live at steps to) (One (Const to w) ∷ lean at steps) (lean at steps) (lean_labels at steps) (lean_labels at steps)
lean_labels at (Immediate o to a w ∷ steps) =
    either_way (λ (xs : List Step). labels xs ≡ labels steps) (live at steps to || not (live at steps a)) (Immediate o to a w ∷ lean at steps) (lean at steps) (lean_labels at steps) (lean_labels at steps)
lean_labels at (s ∷ steps) = lean_labels at steps

near_labels : (z : Option Sum) (steps : List Step) → labels (nearer z steps) ≡ labels steps
near_labels z [] = refl
near_labels z (One (Label n) ∷ steps) = ap (λ (ls : List ℕ). n ∷ ls) (near_labels None steps)
near_labels z (One (Load width g to i) ∷ steps) = there_labels (near z (One (Load width g to i))) (nearer (unless to z) steps) (load_near_there z width g to i) ∙ near_labels (unless to z) steps
near_labels z (One (Store width g i a) ∷ steps) = there_labels (near z (One (Store width g i a))) (nearer z steps) (store_near_there z width g i a) ∙ near_labels z steps
near_labels z (s ∷ steps) = near_labels (sum_behind s z) steps

test_labels : (at : ℕ → Registers) (steps : List Step) (t : Test) → test_of steps ≡ Some t → labels (behind (fused at steps)) ≡ labels (fused at steps)
test_labels at [] t e = refl
test_labels at (One (IfNonzero r n) ∷ steps) t e = refl
test_labels at (One (IfZero r n) ∷ steps) t e = refl
test_labels at (s ∷ steps) t e = none_some t e

joined_labels : (at : ℕ → Registers) (s : Step) (z : Option Truth) (y : Option Test) (steps : List Step) → truth_of s ≡ z → test_of steps ≡ y → IsThere s → labels (joined at s z y steps (fused at steps)) ≡ labels (fused at steps)
joined_labels at s None y steps e q is = there_labels s (fused at steps) is
joined_labels at s (Some v) None steps e q is = there_labels s (fused at steps) is
joined_labels at s (Some v) (Some t) steps e q is =
    either_way (λ (xs : List Step). labels xs ≡ labels (fused at steps)) (is_alone at v.register t steps) (v.branch t.nonzero t.to ∷ behind (fused at steps)) (s ∷ fused at steps)
    (there_labels (v.branch t.nonzero t.to) (behind (fused at steps)) ((is_truth s v e).no_label t.nonzero t.to) ∙ test_labels at steps t q) (there_labels s (fused at steps) is)

fused_labels : (at : ℕ → Registers) (steps : List Step) → labels (fused at steps) ≡ labels steps
fused_labels at [] = refl
fused_labels at (One (Label n) ∷ steps) = ap (λ (ls : List ℕ). n ∷ ls) (fused_labels at steps)
fused_labels at (s ∷ steps) = joined_labels at s (truth_of s) (test_of steps) steps refl refl tt ∙ fused_labels at steps

trimmed_labels : (is : List LinearItem) → labels (trimmed (nearer None (chosen unknown is))) ≡ above.labels is
trimmed_labels is =
    let steps = nearer None (chosen unknown is) in
    fused_labels (table steps) (lean (table steps) steps) ∙ lean_labels (table steps) steps ∙ near_labels None (chosen unknown is) ∙ chosen_labels unknown is

-- ---- known words are words

abbrev AreWords : Known → Type 0
AreWords k = (r w : ℕ) → k r ≡ Some w → IsWord w

words_unknown : AreWords unknown
words_unknown r w e = none_some w e

words_forget : (to : ℕ) (k : Known) → AreWords k → AreWords (forget to k)
words_forget to k p r w e = by (to == r) e
  where
    by : (b : Bool) → (if b then None else k r) ≡ Some w → IsWord w
    by true e = none_some w e
    by false e = p r w e

words_learn : (to v : ℕ) (k : Known) → IsWord v → AreWords k → AreWords (learn to v k)
words_learn to v k is p r w e = by (to == r) e
  where
    by : (b : Bool) → (if b then Some v else k r) ≡ Some w → IsWord w
    by true e = let q : v ≡ w = cc in subst IsWord q is
    by false e = p r w e

words_called : (k : Known) → AreWords k → AreWords (λ r. if survives r then k r else None)
words_called k p r w e = by (survives r) e
  where
    by : (b : Bool) → (if b then k r else None) ≡ Some w → IsWord w
    by true e = p r w e
    by false e = none_some w e

-- ---- each step fits

module _ (slots functions : ℕ) (all : List ℕ) where
  abbrev Fits : Step → Type 0
  Fits s = IsStep slots functions all s

  abbrev AreFit : List Step → Type 0
  AreFit steps = AllByRecursion (IsStep slots functions all) steps

  words_behind : (i : LinearItem) (k : Known) → IsItem slots functions all i → AreWords k → AreWords (known_behind i k)
  words_behind (Label n) k f p = words_unknown
  words_behind (Jump n) k f p = words_unknown
  words_behind (IfNonzero r n) k f p = p
  words_behind (IfZero r n) k f p = p
  words_behind (Copy (Between to from)) k f p = words_forget to k p
  words_behind (Copy (Reload to slot)) k f p = words_forget to k p
  words_behind (Copy (Spill slot from)) k f p = p
  words_behind (Const to w) k f p = words_learn to w k f.1 p
  words_behind (Unary o to a) k f p = words_forget to k p
  words_behind (Binary o to a b) k f p = words_forget to k p
  words_behind (Load width g to i) k f p = words_forget to k p
  words_behind (Store width g i a) k f p = p
  words_behind (Call g) k f p = words_called k p
  words_behind Read k f p = words_forget 10 (forget 17 k) (words_forget 17 k p)
  words_behind Write k f p = words_forget 17 k p
  words_behind Return k f p = words_unknown

  choose_fits : (i : LinearItem) (k : Known) → IsItem slots functions all i → AreWords k → Fits (choose k i)
  choose_fits (IfNonzero r n) k f p = nonzero_gives Fits k r n (λ w known is. f.1) f
  choose_fits (IfZero r n) k f p = zero_gives Fits k r n (λ w known is. f.1) f
  choose_fits (Binary o to a b) k f p =
      binary_gives Fits k o to a b (λ w g known is has. (f.0, f.1, (right_is o w g is).word (p b w known), has)) (λ w g known is has. (f.0, f.2, (left_is o w g is).word (p a w known), has)) f
  choose_fits (Load width g to i) k f p = load_gives Fits k width g to i (λ w known. (f.0, f.1, p i w known)) f
  choose_fits (Store width g i a) k f p = store_gives Fits k width g i a (λ w known. (f.0, p i w known, f.2)) f
  choose_fits i k f p = f

  chosen_fits : (is : List LinearItem) (k : Known) → AllByRecursion (IsItem slots functions all) is → AreWords k → AreFit (chosen k is)
  chosen_fits [] k f p = tt
  chosen_fits (i ∷ is) k f p = (choose_fits i k f.0 p, chosen_fits is (known_behind i k) f.1 (words_behind i k f.0 p))

  lean_fits : (at : ℕ → Registers) (steps : List Step) → AreFit steps → AreFit (lean at steps)
  lean_fits at [] f = tt
  lean_fits at (One (Const to w) ∷ steps) f = either_way AreFit (live at steps to) (One (Const to w) ∷ lean at steps) (lean at steps) (f.0, lean_fits at steps f.1) (lean_fits at steps f.1)
  lean_fits at (Immediate o to a w ∷ steps) f = either_way AreFit (live at steps to || not (live at steps a)) (Immediate o to a w ∷ lean at steps) (lean at steps) (f.0, lean_fits at steps f.1) (lean_fits at steps f.1)
  lean_fits at (s ∷ steps) f = (f.0, lean_fits at steps f.1)

  -- a known sum is of registers, with a word
  abbrev IsSum : Option Sum → Type 0
  IsSum None = Unit {0}
  IsSum (Some s) = IsAllocatable s.from × IsWord s.word

  sum_unless : (r : ℕ) (z : Option Sum) → IsSum z → IsSum (unless r z)
  sum_unless r None p = tt
  sum_unless r (Some s) p = either_way IsSum ((r == s.to) || (r == s.from)) None (Some s) tt p

  sum_summed : (to from w : ℕ) → IsAllocatable from → IsWord w → IsSum (summed to from w)
  sum_summed to from w u p = either_way IsSum (to == from) None (Some (record { to = to; from = from; word = w })) tt (u, p)

  sum_of_immediate : (o : WordOperator) (to from w : ℕ) (z : Option Sum) → IsAllocatable from → IsWord w → IsSum z → IsSum (sum_immediate o to from w z)
  sum_of_immediate Add to from w z u p q = sum_summed to from w u p
  sum_of_immediate Sub to from w z u p q = sum_summed to from (neg w) u (IsWord-neg w)
  sum_of_immediate o to from w z u p q = sum_unless to z q

  sum_of_item : (i : LinearItem) (z : Option Sum) → IsSum z → IsSum (sum_item i z)
  sum_of_item (Label n) z p = tt
  sum_of_item (Jump n) z p = tt
  sum_of_item (IfNonzero r n) z p = p
  sum_of_item (IfZero r n) z p = p
  sum_of_item (Copy (Between to from)) z p = sum_unless to z p
  sum_of_item (Copy (Reload to slot)) z p = sum_unless to z p
  sum_of_item (Copy (Spill slot from)) z p = p
  sum_of_item (Const to w) z p = sum_unless to z p
  sum_of_item (Unary o to a) z p = sum_unless to z p
  sum_of_item (Binary o to a b) z p = sum_unless to z p
  sum_of_item (Load width g to i) z p = sum_unless to z p
  sum_of_item (Store width g i a) z p = p
  sum_of_item (Call g) z p = tt
  sum_of_item Read z p = sum_unless 10 (unless 17 z) (sum_unless 17 z p)
  sum_of_item Write z p = sum_unless 17 z p
  sum_of_item Return z p = tt

  sum_of : (s : Step) (z : Option Sum) → Fits s → IsSum z → IsSum (sum_behind s z)
  sum_of (One i) z f p = sum_of_item i z p
  sum_of (Immediate o to from w) z f p = sum_of_immediate o to from w z f.1 f.2 p
  sum_of (LoadAt width g to n) z f p = sum_unless to z p
  sum_of (StoreAt width g n a) z f p = p
  sum_of (LoadNear width g to i w) z f p = sum_unless to z p
  sum_of (StoreNear width g i w a) z f p = p
  sum_of (Branch o nonzero a b n) z f p = p
  sum_of (BranchImmediate o nonzero a w n) z f p = p

  sum_found : (z : Option Sum) (r : ℕ) → IsSum z → IsSum (sum_in z r)
  sum_found None r p = tt
  sum_found (Some s) r p = either_way IsSum (r == s.to) (Some s) None p tt

  near_step_fits : (s : Step) (z : Option Sum) → Fits s → IsSum z → Fits (near z s)
  near_step_fits (One (Load width g to i)) z f p = load_near_gives Fits z width g to i (λ s known. let q = subst IsSum known (sum_found z i p) in (f.0, f.1, q.0, q.1)) f
  near_step_fits (One (Store width g i a)) z f p = store_near_gives Fits z width g i a (λ s known. let q = subst IsSum known (sum_found z i p) in (f.0, q.0, q.1, f.2)) f
  near_step_fits s z f p = f

  near_fits : (z : Option Sum) (steps : List Step) → AreFit steps → IsSum z → AreFit (nearer z steps)
  near_fits z [] f p = tt
  near_fits z (s ∷ steps) f p = (near_step_fits s z f.0 p, near_fits (sum_behind s z) steps f.1 (sum_of s z f.0 p))

  -- a test leads to a label of the list
  test_fits : (steps : List Step) (t : Test) → test_of steps ≡ Some t → AreFit steps → Contains all t.to
  test_fits [] t e f = none_some t e
  test_fits (One (IfNonzero r n) ∷ steps) t e f = let er : record { register = r; nonzero = true; to = n } ≡ t = cc in subst (λ (u : Test). Contains all u.to) er f.0.1
  test_fits (One (IfZero r n) ∷ steps) t e f = let er : record { register = r; nonzero = false; to = n } ≡ t = cc in subst (λ (u : Test). Contains all u.to) er f.0.1
  test_fits (s ∷ steps) t e f = none_some t e

  behind_fits : (steps : List Step) → AreFit steps → AreFit (behind steps)
  behind_fits [] f = tt
  behind_fits (s ∷ steps) f = f.1

  joined_fits : (at : ℕ → Registers) (s : Step) (z : Option Truth) (y : Option Test) (steps done : List Step) → truth_of s ≡ z → test_of steps ≡ y → Fits s → AreFit steps → AreFit done → AreFit (joined at s z y steps done)
  joined_fits at s None y steps done e q f g d = (f, d)
  joined_fits at s (Some v) None steps done e q f g d = (f, d)
  joined_fits at s (Some v) (Some t) steps done e q f g d =
      either_way AreFit (is_alone at v.register t steps) (v.branch t.nonzero t.to ∷ behind done) (s ∷ done) ((is_truth s v e).fits slots functions all t.nonzero t.to f (test_fits steps t q g), behind_fits done d) (f, d)

  fused_fits : (at : ℕ → Registers) (steps : List Step) → AreFit steps → AreFit (fused at steps)
  fused_fits at [] f = tt
  fused_fits at (s ∷ steps) f = joined_fits at s (truth_of s) (test_of steps) steps (fused at steps) refl refl f.0 f.1 (fused_fits at steps f.1)

  trimmed_fits : (is : List LinearItem) → AllByRecursion (IsItem slots functions all) is → AreFit (trimmed (nearer None (chosen unknown is)))
  trimmed_fits is f =
      let steps = nearer None (chosen unknown is) in
      fused_fits (table steps) (lean (table steps) steps) (lean_fits (table steps) steps (near_fits None (chosen unknown is) (chosen_fits is unknown f words_unknown) tt))

-- ---- the whole

are_trimmed : (slots functions : ℕ) (is : List LinearItem) → IsLinear slots functions is → IsSelected slots functions (trimmed (nearer None (chosen unknown is)))
are_trimmed slots functions is p =
    let e = sym (trimmed_labels is) in
    record {
      few = p.few;
      distinct = subst (λ (ls : List ℕ). AllPairs (λ (a b : ℕ). a ≢ b) ls) e p.distinct;
      fit = subst (λ (ls : List ℕ). AllByRecursion (IsStep slots functions ls) (trimmed (nearer None (chosen unknown is)))) e (trimmed_fits slots functions (above.labels is) is p.fit);
    }

pub is_selected : (slots functions : ℕ) (is : List LinearItem) → IsLinear slots functions is → IsSelected slots functions (selected is)
is_selected slots functions is p = are_trimmed slots functions (threaded is) (threaded_linear slots functions is p)
