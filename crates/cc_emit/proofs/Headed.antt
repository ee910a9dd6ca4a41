-- What comes before a frame is the code of a function without a frame, and its steps satisfy what the function's steps satisfy. The
-- rest saves what the function saves.
use Rattle.std.proofs.Common.{◌≡◌, ℕ, ◌+◌, ◌*◌, ◌<◌, List, [], ◌∷◌, ◌++◌, Option, Some, None, true, false, Bool, refl, sym, ap, ap₂, ◌∙◌, subst, arith}
use Rattle.std.specs.Prelude.{if◌then◌else◌, ◌==◌, ◌&&◌, ◌||◌, not, option_map, nat_lt}
use Rattle.std.specs.List.{AllByRecursion}
use Rattle.std.proofs.lemmas.Bool.Decides.{nat_tests}
use Rattle.cc_words.specs.Operators.{apply_binary}
use Rattle.cc_simulation.specs.World.{World}
use Rattle.cc_simulation.specs.Run.{Goes, tried}
use Rattle.cc_ltl.specs.declared.location.Location.TheVariants.{Register}
use Rattle.cc_ltl.specs.declared.operation.Move.TheVariants.{Between}
use Rattle.cc_ltl.specs.Ltl.{Locations}
use Rattle.cc_linear_language.specs.declared.item.LinearItem.TheVariants.{Label, Jump, IfNonzero, IfZero, Copy, Const, Unary, Binary, Return}
use Rattle.cc_select.specs.declared.step.Step.{Step}
use Rattle.cc_select.specs.declared.step.Step.TheVariants.{One, Immediate, Branch, BranchImmediate}
use Rattle.cc_select.specs.Immediates.{apply_immediate}
use Rattle.cc_select.specs.Selected.{at_steps, does, labels, led, place, IsStep}
use Rattle.cc_select.proofs.Places.{there_labels, there_place}
use Rattle.cc_emit.specs.Contract.{IsKept}
use Rattle.cc_emit.specs.Frames.{kept_registers, frame_of, frame_size, writes, is_written, written, is_call, calls, saved_by}
use Rattle.cc_emit.specs.declared.addressed.Remembered.{Remembered}
use Rattle.cc_emit.specs.declared.scratch.Scratch.{Scratch}
use Rattle.cc_emit.specs.Emission.{label_of_step, pointer_size}
use Rattle.cc_emit.specs.Scratch.{nothing, remembered, behind_step, step_access_size, weight, labels_past, accesses_size, gains}
use Rattle.cc_emit.specs.declared.early.Fork.{Fork}
use Rattle.cc_emit.specs.Early.{Early, early, is_lost, is_light, is_return, fork_of, last_one, last_of, ending, early_at, early_by, early_from, with_first}
use Rattle.cc_emit.proofs.Basics.{eqb_not}
use Rattle.cc_emit.proofs.Choosing.{AreKept, all_kept}
use Rattle.cc_emit.proofs.Bridging.{contained_below}
use Rattle.cc_emit.proofs.Heads.{both, fork_there, lit, lit_there, none_says, turned_there}

-- ---- a run is the same in two lists of steps in which each label has the same place

pub does_same : (arity : ℕ → ℕ) (c d : List Step) → ((n : ℕ) → place c n ≡ place d n) → (ops : List Step) (l : Locations) (h : World) (ws : List ℕ) → does arity c ops l h ws ≡ does arity d ops l h ws
does_same arity c d same [] l h ws = refl
does_same arity c d same (One (Label n) ∷ ops) l h ws = does_same arity c d same ops l h ws
does_same arity c d same (One (Jump n) ∷ ops) l h ws = ap (λ p. Goes (at_steps p l h ws)) (same n)
does_same arity c d same (One (IfNonzero r n) ∷ ops) l h ws = ap (λ p. Goes (at_steps (led true (l (Register r)) ops p) l h ws)) (same n)
does_same arity c d same (One (IfZero r n) ∷ ops) l h ws = ap (λ p. Goes (at_steps (led false (l (Register r)) ops p) l h ws)) (same n)
does_same arity c d same (Branch o nonzero a b n ∷ ops) l h ws = ap (λ p. tried (apply_binary o (l (Register a)) (l (Register b))) (λ v. Goes (at_steps (led nonzero v ops p) l h ws))) (same n)
does_same arity c d same (BranchImmediate o nonzero a w n ∷ ops) l h ws = ap (λ p. tried (apply_immediate o (l (Register a)) w) (λ v. Goes (at_steps (led nonzero v ops p) l h ws))) (same n)
does_same arity c d same (_ ∷ ops) l h ws = refl

-- ---- the steps of an early function: light ones, a test, and the rest

-- `part` does not change if a light step or a test is put in front of the steps
module _ {A : Type 0} (part : List Step → A) (light : (s : Step) (steps : List Step) → is_light s ≡ true → part (s ∷ steps) ≡ part steps) (test : (s : Step) (f : Fork) (steps : List Step) → fork_of s ≡ Some f → part (s ∷ steps) ≡ part steps) (code : List Step) where
  rest_first : (s : Step) (steps : List Step) (e : Early) → ((d : Early) → early_from code steps ≡ Some d → part steps ≡ part d.rest) → early_from code (s ∷ steps) ≡ Some e → part (s ∷ steps) ≡ part e.rest
  rest_first s steps e again is = by (is_light s) refl is
    where
      first_by : (z : Option Early) → early_from code steps ≡ z → is_light s ≡ true → option_map (with_first s) z ≡ Some e → part (s ∷ steps) ≡ part e.rest
      first_by None q p m = none_says e m
      first_by (Some d) q p m = (let is_e : with_first s d ≡ e = cc in light s steps p ∙ again d q ∙ ap (λ (y : Early). part y.rest) is_e)

      test_by : (f : Fork) → fork_of s ≡ Some f → (z : Option (List Step)) → early_at z f steps ≡ Some e → part (s ∷ steps) ≡ part e.rest
      test_by f q None m = none_says e m
      test_by f q (Some last) m = (let is_e : record { head = f.turned ∷ (last ++ One Return ∷ One (Label f.to) ∷ []); rest = steps } ≡ e = cc in test s f steps q ∙ ap (λ (y : Early). part y.rest) is_e)

      fork_by : (z : Option Fork) → fork_of s ≡ z → early_by code z steps ≡ Some e → part (s ∷ steps) ≡ part e.rest
      fork_by None q m = none_says e m
      fork_by (Some f) q m = test_by f q (ending (place code f.to)) m

      by : (b : Bool) → is_light s ≡ b → (if b then option_map (with_first s) (early_from code steps) else early_by code (fork_of s) steps) ≡ Some e → part (s ∷ steps) ≡ part e.rest
      by true p m = first_by (early_from code steps) refl p m
      by false p m = fork_by (fork_of s) refl m

  pub rest_has : (steps : List Step) (e : Early) → early_from code steps ≡ Some e → part steps ≡ part e.rest
  rest_has [] e is = none_says e is
  rest_has (s ∷ steps) e is = rest_first s steps e (λ d q. rest_has steps d q) is

pub rest_places : (code steps : List Step) (e : Early) → early_from code steps ≡ Some e → (n : ℕ) → place steps n ≡ place e.rest n
rest_places code steps e is n =
    rest_has (λ (xs : List Step). place xs n) (λ s xs p. (let to = lit s p in there_place s xs n (lit_there s to.0 to.1))) (λ s f xs q. there_place s xs n (fork_there s f q)) code steps e is

-- ---- what is saved

lost_not_kept : (r : ℕ) → is_lost r ≡ true → IsKept r → ⊥
lost_not_kept r e k = grind (arith, nat_tests)

pub record Quiet (s : Step) : Type 0 where
  pub calls : is_call s ≡ false
  pub writes : (r : ℕ) → IsKept r → writes r s ≡ false

light_quiet : (s : Step) → is_light s ≡ true → Quiet s
light_quiet (One (Copy (Between to b))) e = record { calls = refl; writes = λ r k. eqb_not to r (λ q. lost_not_kept r (subst (λ n. is_lost n ≡ true) q e) k) }
light_quiet (One (Const to w)) e = record { calls = refl; writes = λ r k. eqb_not to r (λ q. lost_not_kept r (subst (λ n. is_lost n ≡ true) q e) k) }
light_quiet (One (Unary o to b)) e = record { calls = refl; writes = λ r k. eqb_not to r (λ q. lost_not_kept r (subst (λ n. is_lost n ≡ true) q e) k) }
light_quiet (One (Binary o to b c)) e = record { calls = refl; writes = λ r k. eqb_not to r (λ q. lost_not_kept r (subst (λ n. is_lost n ≡ true) q e) k) }
light_quiet (Immediate o to b w) e = record { calls = refl; writes = λ r k. eqb_not to r (λ q. lost_not_kept r (subst (λ n. is_lost n ≡ true) q e) k) }
light_quiet _ e = absurd (let n : false ≡ true = e in cc)

fork_quiet : (s : Step) (f : Fork) → fork_of s ≡ Some f → Quiet s
fork_quiet (One (IfNonzero r n)) f e = record { calls = refl; writes = λ r k. refl }
fork_quiet (One (IfZero r n)) f e = record { calls = refl; writes = λ r k. refl }
fork_quiet (Branch o nonzero a b n) f e = record { calls = refl; writes = λ r k. refl }
fork_quiet (BranchImmediate o nonzero a w n) f e = record { calls = refl; writes = λ r k. refl }
fork_quiet _ f e = absurd (cc)

turned_quiet : (s : Step) (f : Fork) → fork_of s ≡ Some f → Quiet f.turned
turned_quiet (One (IfNonzero r n)) f e = (let q : record { to = n; turned = One (IfZero r n) } ≡ f = cc in subst (λ (z : Fork). Quiet z.turned) q (record { calls = refl; writes = λ r k. refl }))
turned_quiet (One (IfZero r n)) f e = (let q : record { to = n; turned = One (IfNonzero r n) } ≡ f = cc in subst (λ (z : Fork). Quiet z.turned) q (record { calls = refl; writes = λ r k. refl }))
turned_quiet (Branch o nonzero a b n) f e = (let q : record { to = n; turned = Branch o (not nonzero) a b n } ≡ f = cc in subst (λ (z : Fork). Quiet z.turned) q (record { calls = refl; writes = λ r k. refl }))
turned_quiet (BranchImmediate o nonzero a w n) f e = (let q : record { to = n; turned = BranchImmediate o (not nonzero) a w n } ≡ f = cc in subst (λ (z : Fork). Quiet z.turned) q (record { calls = refl; writes = λ r k. refl }))
turned_quiet _ f e = absurd (cc)

abbrev AreQuiet : List Step → Type 0
AreQuiet steps = AllByRecursion Quiet steps

-- if two lists of steps write the same kept registers, they write the same registers of `rs`
same_written : (steps more : List Step) (rs : List ℕ) → AreKept rs → ((r : ℕ) → IsKept r → is_written steps r ≡ is_written more r) → written steps rs ≡ written more rs
same_written steps more [] k e = refl
same_written steps more (r ∷ rs) k e = ap₂ (λ (b : Bool) (xs : List ℕ). if b then r ∷ xs else xs) (e r k.0) (same_written steps more rs k.1 e)

same_saved : (steps more : List Step) → calls steps ≡ calls more → ((r : ℕ) → IsKept r → is_written steps r ≡ is_written more r) → saved_by steps ≡ saved_by more
same_saved steps more c e = ap₂ (λ (b : Bool) (xs : List ℕ). if b then 1 ∷ xs else xs) c (same_written steps more kept_registers all_kept e)

pub saved_rest : (code steps : List Step) (e : Early) → early_from code steps ≡ Some e → saved_by steps ≡ saved_by e.rest
saved_rest code steps e is =
    same_saved steps e.rest
    (rest_has calls (λ s xs p. ap (λ b. b || calls xs) (light_quiet s p).calls) (λ s f xs q. ap (λ b. b || calls xs) (fork_quiet s f q).calls) code steps e is)
    (λ r k. rest_has (λ (xs : List Step). is_written xs r) (λ s xs p. ap (λ b. b || is_written xs r) ((light_quiet s p).writes r k)) (λ s f xs q. ap (λ b. b || is_written xs r) ((fork_quiet s f q).writes r k)) code steps e is)

quiet_calls : (steps : List Step) → AreQuiet steps → calls steps ≡ false
quiet_calls [] q = refl
quiet_calls (s ∷ steps) q = ap₂ (λ a b. a || b) q.0.calls (quiet_calls steps q.1)

quiet_writes : (steps : List Step) (r : ℕ) → IsKept r → AreQuiet steps → is_written steps r ≡ false
quiet_writes [] r k q = refl
quiet_writes (s ∷ steps) r k q = ap₂ (λ a b. a || b) (q.0.writes r k) (quiet_writes steps r k q.1)

-- ---- what comes before the frame

-- if all steps of the code satisfy `Q`, those of a head satisfy `P`
module _ (P Q : Step → Type 0) (code : List Step) (all : AllByRecursion Q code) (light : (s : Step) → is_light s ≡ true → Q s → P s) (turned : (s : Step) (f : Fork) → fork_of s ≡ Some f → Q s → P f.turned) (ends : P (One Return)) (label : (n : ℕ) → P (One (Label n))) where
  last_has : (ss last : List Step) (n : ℕ) → AllByRecursion Q ss → last_of ss ≡ Some last → AllByRecursion P (last ++ One Return ∷ One (Label n) ∷ [])
  last_has [] last n q e = none_says last e
  last_has (s ∷ ss) last n q e = by (is_return s) e
    where
      if_so : (b : Bool) (next : Step) → (is_light s && is_return next) ≡ b → (if b then Some (s ∷ []) else None) ≡ Some last → AllByRecursion P (last ++ One Return ∷ One (Label n) ∷ [])
      if_so false next t p = none_says last p
      if_so true next t p = (let alone : s ∷ [] ≡ last = cc in subst (λ (xs : List Step). AllByRecursion P (xs ++ One Return ∷ One (Label n) ∷ [])) alone (light s (both (is_light s) (is_return next) t).0 q.0, (ends, (label n, tt))))

      one_more : (ss : List Step) → last_one s ss ≡ Some last → AllByRecursion P (last ++ One Return ∷ One (Label n) ∷ [])
      one_more [] e = none_says last e
      one_more (next ∷ ss) e = if_so (is_light s && is_return next) next refl e

      by : (b : Bool) → (if b then Some [] else last_one s ss) ≡ Some last → AllByRecursion P (last ++ One Return ∷ One (Label n) ∷ [])
      by true p = (let none : [] ≡ last = cc in subst (λ (xs : List Step). AllByRecursion P (xs ++ One Return ∷ One (Label n) ∷ [])) none (ends, (label n, tt)))
      by false p = one_more ss p

  ending_has : (ss last : List Step) (n : ℕ) → AllByRecursion Q ss → ending ss ≡ Some last → AllByRecursion P (last ++ One Return ∷ One (Label n) ∷ [])
  ending_has [] last n q e = none_says last e
  ending_has (One (Label m) ∷ ss) last n q e = last_has ss last n q.1 e
  ending_has (_ ∷ ss) last n q e = none_says last e

  either : (b : Bool) (xs ys : List Step) → AllByRecursion Q xs → AllByRecursion Q ys → AllByRecursion Q (if b then xs else ys)
  either true xs ys q r = q
  either false xs ys q r = r

  place_has : (ss : List Step) (n : ℕ) → AllByRecursion Q ss → AllByRecursion Q (place ss n)
  place_has [] n q = tt
  place_has (One (Label m) ∷ ss) n q = either (m == n) (One (Label m) ∷ ss) (place ss n) q (place_has ss n q.1)
  place_has (_ ∷ ss) n q = place_has ss n q.1

  head_first : (s : Step) (steps : List Step) (e : Early) → ((d : Early) → early_from code steps ≡ Some d → AllByRecursion P d.head) → Q s → early_from code (s ∷ steps) ≡ Some e → AllByRecursion P e.head
  head_first s steps e again qs is = by (is_light s) refl is
    where
      first_by : (z : Option Early) → early_from code steps ≡ z → is_light s ≡ true → option_map (with_first s) z ≡ Some e → AllByRecursion P e.head
      first_by None t p m = none_says e m
      first_by (Some d) t p m = (let is_e : with_first s d ≡ e = cc in subst (λ (y : Early). AllByRecursion P y.head) is_e (light s p qs, again d t))

      test_by : (f : Fork) → fork_of s ≡ Some f → (z : Option (List Step)) → ending (place code f.to) ≡ z → early_at z f steps ≡ Some e → AllByRecursion P e.head
      test_by f t None p m = none_says e m
      test_by f t (Some last) p m =
          let is_e : record { head = f.turned ∷ (last ++ One Return ∷ One (Label f.to) ∷ []); rest = steps } ≡ e = cc in
          subst (λ (y : Early). AllByRecursion P y.head) is_e (turned s f t qs, ending_has (place code f.to) last f.to (place_has code f.to all) p)

      fork_by : (z : Option Fork) → fork_of s ≡ z → early_by code z steps ≡ Some e → AllByRecursion P e.head
      fork_by None t m = none_says e m
      fork_by (Some f) t m = test_by f t (ending (place code f.to)) refl m

      by : (b : Bool) → is_light s ≡ b → (if b then option_map (with_first s) (early_from code steps) else early_by code (fork_of s) steps) ≡ Some e → AllByRecursion P e.head
      by true p m = first_by (early_from code steps) refl p m
      by false p m = fork_by (fork_of s) refl m

  pub head_has : (steps : List Step) (e : Early) → AllByRecursion Q steps → early_from code steps ≡ Some e → AllByRecursion P e.head
  head_has [] e q is = none_says e is
  head_has (s ∷ steps) e q is = head_first s steps e (λ d t. head_has steps d q.1 t) q.0 is

any : (steps : List Step) → AllByRecursion (λ (s : Step). Unit {0}) steps
any [] = tt
any (s ∷ steps) = (tt, any steps)

pub head_saves : (code steps : List Step) (e : Early) → early_from code steps ≡ Some e → saved_by e.head ≡ []
head_saves code steps e is =
    let quiet : AreQuiet e.head = head_has Quiet (λ (s : Step). Unit {0}) code (any code) (λ s p q. light_quiet s p) (λ s f t q. turned_quiet s f t) (record { calls = refl; writes = λ r k. refl }) (λ n. record { calls = refl; writes = λ r k. refl }) steps e (any steps) is in
    same_saved e.head [] (quiet_calls e.head quiet) (λ r k. quiet_writes e.head r k quiet)

-- ---- each step of the head is a step of a function without slots, and each of the rest is one of the whole function

module _ (slots functions : ℕ) (all : List ℕ) where
  abbrev Fits : Step → Type 0
  Fits s = IsStep slots functions all s

  light_fits : (s : Step) → is_light s ≡ true → Fits s → IsStep 0 functions all s
  light_fits (One (Copy (Between to b))) e u = u
  light_fits (One (Const to w)) e u = u
  light_fits (One (Unary o to b)) e u = u
  light_fits (One (Binary o to b c)) e u = u
  light_fits (Immediate o to b w) e u = u
  light_fits _ e u = absurd (let n : false ≡ true = e in cc)

  turned_fits : (s : Step) (f : Fork) → fork_of s ≡ Some f → Fits s → IsStep 0 functions all f.turned
  turned_fits (One (IfNonzero r n)) f e u = (let q : record { to = n; turned = One (IfZero r n) } ≡ f = cc in subst (λ (z : Fork). IsStep 0 functions all z.turned) q u)
  turned_fits (One (IfZero r n)) f e u = (let q : record { to = n; turned = One (IfNonzero r n) } ≡ f = cc in subst (λ (z : Fork). IsStep 0 functions all z.turned) q u)
  turned_fits (Branch o nonzero a b n) f e u = (let q : record { to = n; turned = Branch o (not nonzero) a b n } ≡ f = cc in subst (λ (z : Fork). IsStep 0 functions all z.turned) q u)
  turned_fits (BranchImmediate o nonzero a w n) f e u = (let q : record { to = n; turned = BranchImmediate o (not nonzero) a w n } ≡ f = cc in subst (λ (z : Fork). IsStep 0 functions all z.turned) q u)
  turned_fits _ f e u = absurd (cc)

  pub head_fits : (code : List Step) (e : Early) → early_from code code ≡ Some e → AllByRecursion (IsStep slots functions all) code → AllByRecursion (IsStep 0 functions all) e.head
  head_fits code e is fits = head_has (IsStep 0 functions all) Fits code fits light_fits turned_fits tt (λ n. tt) code e fits is

  fits_first : (code : List Step) (s : Step) (steps : List Step) (e : Early) → ((d : Early) → early_from code steps ≡ Some d → AllByRecursion (IsStep slots functions all) d.rest) → AllByRecursion (IsStep slots functions all) steps → early_from code (s ∷ steps) ≡ Some e → AllByRecursion (IsStep slots functions all) e.rest
  fits_first code s steps e again fits is = by (is_light s) is
    where
      first_by : (z : Option Early) → early_from code steps ≡ z → option_map (with_first s) z ≡ Some e → AllByRecursion (IsStep slots functions all) e.rest
      first_by None q m = none_says e m
      first_by (Some d) q m = (let is_e : with_first s d ≡ e = cc in subst (λ (y : Early). AllByRecursion (IsStep slots functions all) y.rest) is_e (again d q))

      test_by : (f : Fork) (z : Option (List Step)) → early_at z f steps ≡ Some e → AllByRecursion (IsStep slots functions all) e.rest
      test_by f None m = none_says e m
      test_by f (Some last) m = (let is_e : record { head = f.turned ∷ (last ++ One Return ∷ One (Label f.to) ∷ []); rest = steps } ≡ e = cc in subst (λ (y : Early). AllByRecursion (IsStep slots functions all) y.rest) is_e fits)

      fork_by : (z : Option Fork) → early_by code z steps ≡ Some e → AllByRecursion (IsStep slots functions all) e.rest
      fork_by None m = none_says e m
      fork_by (Some f) m = test_by f (ending (place code f.to)) m

      by : (b : Bool) → (if b then option_map (with_first s) (early_from code steps) else early_by code (fork_of s) steps) ≡ Some e → AllByRecursion (IsStep slots functions all) e.rest
      by true m = first_by (early_from code steps) refl m
      by false m = fork_by (fork_of s) m

  pub rest_fits : (code steps : List Step) (e : Early) → early_from code steps ≡ Some e → AllByRecursion (IsStep slots functions all) steps → AllByRecursion (IsStep slots functions all) e.rest
  rest_fits code [] e is fits = none_says e is
  rest_fits code (s ∷ steps) e is fits = fits_first code s steps e (λ d q. rest_fits code steps d q fits.1) fits.1 is

pub rest_labels : (code steps : List Step) (e : Early) → early_from code steps ≡ Some e → labels steps ≡ labels e.rest
rest_labels code steps e is = rest_has labels (λ s xs p. (let to = lit s p in there_labels s xs (lit_there s to.0 to.1))) (λ s f xs q. there_labels s xs (fork_there s f q)) code steps e is

last_labels : (ss last : List Step) (l : ℕ) → ending ss ≡ Some last → labels (last ++ One Return ∷ One (Label l) ∷ []) ≡ l ∷ []
last_labels [] last l e = none_says last e
last_labels (One (Label n) ∷ ss) last l e = behind ss e
  where
    behind : (ss : List Step) → last_of ss ≡ Some last → labels (last ++ One Return ∷ One (Label l) ∷ []) ≡ l ∷ []
    behind [] e = none_says last e
    behind (s ∷ ss) e = by (is_return s) e
      where
        if_so : (b : Bool) (next : Step) → (is_light s && is_return next) ≡ b → (if b then Some (s ∷ []) else None) ≡ Some last → labels (last ++ One Return ∷ One (Label l) ∷ []) ≡ l ∷ []
        if_so false next t p = none_says last p
        if_so true next t p =
            let alone : s ∷ [] ≡ last = cc in
            let to = lit s (both (is_light s) (is_return next) t).0 in
            subst (λ (xs : List Step). labels (xs ++ One Return ∷ One (Label l) ∷ []) ≡ l ∷ []) alone (there_labels s (One Return ∷ One (Label l) ∷ []) (lit_there s to.0 to.1))

        one_more : (ss : List Step) → last_one s ss ≡ Some last → labels (last ++ One Return ∷ One (Label l) ∷ []) ≡ l ∷ []
        one_more [] e = none_says last e
        one_more (next ∷ ss) e = if_so (is_light s && is_return next) next refl e

        by : (b : Bool) → (if b then Some [] else last_one s ss) ≡ Some last → labels (last ++ One Return ∷ One (Label l) ∷ []) ≡ l ∷ []
        by true p = (let none : [] ≡ last = cc in subst (λ (xs : List Step). labels (xs ++ One Return ∷ One (Label l) ∷ []) ≡ l ∷ []) none refl)
        by false p = one_more ss p
last_labels (_ ∷ ss) last l e = none_says last e

-- a test leads to a label that exists
fork_below : (count slots functions : ℕ) (all : List ℕ) (s : Step) (f : Fork) → fork_of s ≡ Some f → AllByRecursion (λ label. label < count) all → IsStep slots functions all s → f.to < count
fork_below count slots functions all (One (IfNonzero r n)) f e below u = (let q : record { to = n; turned = One (IfZero r n) } ≡ f = cc in subst (λ (z : Fork). z.to < count) q (contained_below count all n u.1 below))
fork_below count slots functions all (One (IfZero r n)) f e below u = (let q : record { to = n; turned = One (IfNonzero r n) } ≡ f = cc in subst (λ (z : Fork). z.to < count) q (contained_below count all n u.1 below))
fork_below count slots functions all (Branch o nonzero a b n) f e below u = (let q : record { to = n; turned = Branch o (not nonzero) a b n } ≡ f = cc in subst (λ (z : Fork). z.to < count) q (contained_below count all n u.3 below))
fork_below count slots functions all (BranchImmediate o nonzero a w n) f e below u = (let q : record { to = n; turned = BranchImmediate o (not nonzero) a w n } ≡ f = cc in subst (λ (z : Fork). z.to < count) q (contained_below count all n u.4 below))
fork_below count slots functions all _ f e below u = absurd (cc)

labels_first : (count slots functions : ℕ) (all : List ℕ) (code : List Step) (s : Step) (steps : List Step) (e : Early) → ((d : Early) → early_from code steps ≡ Some d → AllByRecursion (λ label. label < count) (labels d.head)) → AllByRecursion (λ label. label < count) all → IsStep slots functions all s → early_from code (s ∷ steps) ≡ Some e
    → AllByRecursion (λ label. label < count) (labels e.head)
labels_first count slots functions all code s steps e again below fits is = by (is_light s) refl is
  where
    first_by : (z : Option Early) → early_from code steps ≡ z → is_light s ≡ true → option_map (with_first s) z ≡ Some e → AllByRecursion (λ label. label < count) (labels e.head)
    first_by None q p m = none_says e m
    first_by (Some d) q p m =
        let is_e : with_first s d ≡ e = cc in
        let to = lit s p in
        subst (λ (y : Early). AllByRecursion (λ label. label < count) (labels y.head)) is_e
        (subst (λ (ls : List ℕ). AllByRecursion (λ label. label < count) ls) (sym (there_labels s d.head (lit_there s to.0 to.1))) (again d q))

    test_by : (f : Fork) → fork_of s ≡ Some f → (z : Option (List Step)) → ending (place code f.to) ≡ z → early_at z f steps ≡ Some e → AllByRecursion (λ label. label < count) (labels e.head)
    test_by f q None p m = none_says e m
    test_by f q (Some last) p m =
        let is_e : record { head = f.turned ∷ (last ++ One Return ∷ One (Label f.to) ∷ []); rest = steps } ≡ e = cc in
        let ls : labels (f.turned ∷ (last ++ One Return ∷ One (Label f.to) ∷ [])) ≡ f.to ∷ [] = there_labels f.turned (last ++ One Return ∷ One (Label f.to) ∷ []) (turned_there s f q) ∙ last_labels (place code f.to) last f.to p in
        subst (λ (y : Early). AllByRecursion (λ label. label < count) (labels y.head)) is_e
        (subst (λ (ls : List ℕ). AllByRecursion (λ label. label < count) ls) (sym ls) (fork_below count slots functions all s f q below fits, tt))

    fork_by : (z : Option Fork) → fork_of s ≡ z → early_by code z steps ≡ Some e → AllByRecursion (λ label. label < count) (labels e.head)
    fork_by None q m = none_says e m
    fork_by (Some f) q m = test_by f q (ending (place code f.to)) refl m

    by : (b : Bool) → is_light s ≡ b → (if b then option_map (with_first s) (early_from code steps) else early_by code (fork_of s) steps) ≡ Some e → AllByRecursion (λ label. label < count) (labels e.head)
    by true p m = first_by (early_from code steps) refl p m
    by false p m = fork_by (fork_of s) refl m

pub head_labels : (count slots functions : ℕ) (all : List ℕ) (code steps : List Step) (e : Early) → early_from code steps ≡ Some e → AllByRecursion (λ label. label < count) all → AllByRecursion (IsStep slots functions all) steps → AllByRecursion (λ label. label < count) (labels e.head)
head_labels count slots functions all code [] e is below fits = none_says e is
head_labels count slots functions all code (s ∷ steps) e is below fits = labels_first count slots functions all code s steps e (λ d q. head_labels count slots functions all code steps d q below fits.1) below fits.0 is

-- ---- a function has a head only if it has a frame

pub early_says : (slots : ℕ) (code : List Step) (e : Early) → early slots code ≡ Some e → early_from code code ≡ Some e
early_says slots code e = by (frame_size (frame_of false slots code) == 0)
  where
    by : (b : Bool) → (if b then None else early_from code code) ≡ Some e → early_from code code ≡ Some e
    by true m = none_says e m
    by false m = m

-- ---- a head reads and writes no object, so it does not gain by x3

abbrev HasNoAccess : Step → Type 0
HasNoAccess s = (known : Remembered) → step_access_size known s ≡ 0

light_no_access : (s : Step) → is_light s ≡ true → HasNoAccess s
light_no_access (One (Copy (Between to b))) e = λ k. refl
light_no_access (One (Const to w)) e = λ k. refl
light_no_access (One (Unary o to b)) e = λ k. refl
light_no_access (One (Binary o to b c)) e = λ k. refl
light_no_access (Immediate o to b w) e = λ k. refl
light_no_access _ e = absurd (let n : false ≡ true = e in cc)

turned_no_access : (s : Step) (f : Fork) → fork_of s ≡ Some f → HasNoAccess f.turned
turned_no_access (One (IfNonzero r n)) f e = (let q : record { to = n; turned = One (IfZero r n) } ≡ f = cc in subst (λ (z : Fork). HasNoAccess z.turned) q (λ k. refl))
turned_no_access (One (IfZero r n)) f e = (let q : record { to = n; turned = One (IfNonzero r n) } ≡ f = cc in subst (λ (z : Fork). HasNoAccess z.turned) q (λ k. refl))
turned_no_access (Branch o nonzero a b n) f e = (let q : record { to = n; turned = Branch o (not nonzero) a b n } ≡ f = cc in subst (λ (z : Fork). HasNoAccess z.turned) q (λ k. refl))
turned_no_access (BranchImmediate o nonzero a w n) f e = (let q : record { to = n; turned = BranchImmediate o (not nonzero) a w n } ≡ f = cc in subst (λ (z : Fork). HasNoAccess z.turned) q (λ k. refl))
turned_no_access _ f e = absurd (cc)

none_taken : (n m k : ℕ) → m ≡ 0 → k ≡ 0 → n * m + k ≡ 0
none_taken n m k e d = ap₂ (λ x y. n * x + y) e d ∙ (let z : n * 0 + 0 ≡ 0 = omega arith in z)

accesses_none : (base : ℕ → ℕ) (b : Bool) (k : Scratch) (ls : List ℕ) (steps : List Step) → AllByRecursion HasNoAccess steps → accesses_size base b k ls steps ≡ 0
accesses_none base b k ls [] q = refl
accesses_none base b k ls (s ∷ steps) q =
    none_taken (weight ls (s ∷ steps)) (step_access_size (remembered base b k s) s) (accesses_size base b (behind_step base b s k) (labels_past (label_of_step s) ls) steps) (q.0 (remembered base b k s)) (accesses_none base b (behind_step base b s k) (labels_past (label_of_step s) ls) steps q.1)

pub head_gains : (base : ℕ → ℕ) (code : List Step) (e : Early) → early_from code code ≡ Some e → gains base e.head ≡ false
head_gains base code e is =
    let none : AllByRecursion HasNoAccess e.head = head_has HasNoAccess (λ (s : Step). Unit {0}) code (any code) (λ s p q. light_no_access s p) (λ s f t q. turned_no_access s f t) (λ k. refl) (λ n k. refl) code e (any code) is in
    ap₂ (λ m n. nat_lt (pointer_size true + m) n) (accesses_none base true nothing [] e.head none) (accesses_none base false nothing [] e.head none)
