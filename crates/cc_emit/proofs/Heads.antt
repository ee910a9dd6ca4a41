-- What comes before a function's frame. From the function's entry, this part returns as the function does, or the machine arrives at the
-- part's end when the run arrives at the rest of the function's steps. The part is code of its own, that of a function without a frame;
-- the run is that of the whole function.
use Rattle.std.proofs.Common.{◌≡◌, ℕ, zero, suc, ◌+◌, ◌*◌, ◌%◌, ◌≤◌, ◌⊎◌, List, [], ◌∷◌, ◌++◌, Option, Some, None, true, false, Bool, refl, sym, ap, ◌∙◌, subst, inl, inr, arith}
use Rattle.std.specs.Prelude.{if◌then◌else◌, ◌==◌, ◌&&◌, not, option_map}
use Rattle.cc_words.specs.Operators.{apply_unary, apply_binary}
use Rattle.cc_simulation.specs.Behavior.{Going, Outcome}
use Rattle.cc_simulation.specs.World.{Answer, World, Effect, Question}
use Rattle.cc_simulation.specs.Run.{Fails, Goes, Move, act, run, tried, work, work_act}
use Rattle.cc_simulation.specs.Meaning.{call_effect}
use Rattle.cc_ltl.specs.declared.location.Location.{Location}
use Rattle.cc_ltl.specs.declared.location.Location.TheVariants.{Register, Slot}
use Rattle.cc_ltl.specs.declared.operation.Move.TheVariants.{Between}
use Rattle.cc_ltl.specs.Ltl.{Locations, put}
use Rattle.cc_linear_language.specs.declared.item.LinearItem.TheVariants.{Label, IfNonzero, IfZero, Copy, Const, Unary, Binary, Return}
use Rattle.cc_select.specs.declared.step.Step.{Step}
use Rattle.cc_select.specs.declared.step.Step.TheVariants.{One, Immediate, Branch, BranchImmediate}
use Rattle.cc_select.specs.Immediates.{apply_immediate}
use Rattle.cc_select.specs.Selected.{Configuration, at_steps, does, led, place, selected_move, selected_output}
use Rattle.cc_rv32.specs.Machine.{State}
use Rattle.cc_emit.specs.Contract.{ComesBack, IsSound, Path}
use Rattle.cc_emit.specs.declared.early.Fork.{Fork}
use Rattle.cc_emit.specs.Early.{Early, is_light, is_into_lost, is_return, written_by, fork_of, last_one, last_of, ending, early_at, early_by, early_from, with_first}
use Rattle.cc_emit.specs.declared.scratch.Scratch.{Scratch}
use Rattle.cc_select.proofs.Places.{IsThere, there_place}
use Rattle.cc_emit.proofs.Basics.{eqb_yes}
use Rattle.cc_emit.proofs.Standing.{Site, Standing, end_of, path_then}
use Rattle.cc_emit.proofs.Within.{Within}
use Rattle.cc_emit.proofs.Cases.{Case, Given, Reaches, StandsWhole, Stepped, binary_case, const_case, copy_case, if_nonzero_case, if_zero_case, unary_case}
use Rattle.cc_emit.proofs.Steps.{branch_case, branch_immediate_case, immediate_case}
use Rattle.cc_emit.proofs.Returning.{return_path}
use Rattle.cc_emit.proofs.Emitted.{Does, DoesBy, one_move}

pub none_says : {A B : Type 0} (b : B) → None ≡ Some b → A
none_says {A} b e = absurd (cc)

-- ---- what light steps and tests do, in any code

-- the word that a light step computes
abbrev gives : Step → Locations → Option ℕ
gives (One (Copy (Between to from))) l = Some (l (Register from))
gives (One (Const to word)) l = Some word
gives (One (Unary operator to from)) l = Some (apply_unary operator (l (Register from)))
gives (One (Binary operator to left right)) l = apply_binary operator (l (Register left)) (l (Register right))
gives (Immediate operator to from word) l = apply_immediate operator (l (Register from)) word
gives step l = None

-- the word that a test examines, and whether the test jumps if that word is not 0
abbrev asks : Step → Locations → Option ℕ
asks (One (IfNonzero from to)) l = Some (l (Register from))
asks (One (IfZero from to)) l = Some (l (Register from))
asks (Branch operator nonzero left right to) l = apply_binary operator (l (Register left)) (l (Register right))
asks (BranchImmediate operator nonzero from word to) l = apply_immediate operator (l (Register from)) word
asks step l = None

abbrev sense : Step → Bool
sense (One (IfNonzero from to)) = true
sense (Branch operator nonzero left right to) = nonzero
sense (BranchImmediate operator nonzero from word to) = nonzero
sense step = false

light_does : (arity : ℕ → ℕ) (code : List Step) (s : Step) (to : ℕ) → written_by s ≡ Some to → (ops : List Step) (l : Locations) (h : World) (ws : List ℕ) → does arity code (s ∷ ops) l h ws ≡ tried (gives s l) (λ v. Goes (at_steps ops (put (Register to) v l) h ws))
light_does arity code (One (Copy (Between t b))) to e ops l h ws = (let q : t ≡ to = cc in ap (λ r. Goes (at_steps ops (put (Register r) (l (Register b)) l) h ws)) q)
light_does arity code (One (Const t w)) to e ops l h ws = (let q : t ≡ to = cc in ap (λ r. Goes (at_steps ops (put (Register r) w l) h ws)) q)
light_does arity code (One (Unary o t b)) to e ops l h ws = (let q : t ≡ to = cc in ap (λ r. Goes (at_steps ops (put (Register r) (apply_unary o (l (Register b))) l) h ws)) q)
light_does arity code (One (Binary o t b d)) to e ops l h ws = (let q : t ≡ to = cc in ap (λ r. tried (apply_binary o (l (Register b)) (l (Register d))) (λ v. Goes (at_steps ops (put (Register r) v l) h ws))) q)
light_does arity code (Immediate o t b w) to e ops l h ws = (let q : t ≡ to = cc in ap (λ r. tried (apply_immediate o (l (Register b)) w) (λ v. Goes (at_steps ops (put (Register r) v l) h ws))) q)
light_does arity code _ to e ops l h ws = absurd (cc)

fork_does : (arity : ℕ → ℕ) (code : List Step) (s : Step) (k : Fork) → fork_of s ≡ Some k → (ops : List Step) (l : Locations) (h : World) (ws : List ℕ) → does arity code (s ∷ ops) l h ws ≡ tried (asks s l) (λ v. Goes (at_steps (led (sense s) v ops (place code k.to)) l h ws))
fork_does arity code (One (IfNonzero r n)) k e ops l h ws = (let q : record { to = n; turned = One (IfZero r n) } ≡ k = cc in ap (λ (z : Fork). Goes (at_steps (led true (l (Register r)) ops (place code z.to)) l h ws)) q)
fork_does arity code (One (IfZero r n)) k e ops l h ws = (let q : record { to = n; turned = One (IfNonzero r n) } ≡ k = cc in ap (λ (z : Fork). Goes (at_steps (led false (l (Register r)) ops (place code z.to)) l h ws)) q)
fork_does arity code (Branch o nonzero a b n) k e ops l h ws =
    (let q : record { to = n; turned = Branch o (not nonzero) a b n } ≡ k = cc in ap (λ (z : Fork). tried (apply_binary o (l (Register a)) (l (Register b))) (λ v. Goes (at_steps (led nonzero v ops (place code z.to)) l h ws))) q)
fork_does arity code (BranchImmediate o nonzero a w n) k e ops l h ws =
    (let q : record { to = n; turned = BranchImmediate o (not nonzero) a w n } ≡ k = cc in ap (λ (z : Fork). tried (apply_immediate o (l (Register a)) w) (λ v. Goes (at_steps (led nonzero v ops (place code z.to)) l h ws))) q)
fork_does arity code _ k e ops l h ws = absurd (cc)

turned_does : (arity : ℕ → ℕ) (code : List Step) (s : Step) (k : Fork) → fork_of s ≡ Some k → (ops : List Step) (l : Locations) (h : World) (ws : List ℕ)
    → does arity code (k.turned ∷ ops) l h ws ≡ tried (asks s l) (λ v. Goes (at_steps (led (not (sense s)) v ops (place code k.to)) l h ws))
turned_does arity code (One (IfNonzero r n)) k e ops l h ws = (let q : record { to = n; turned = One (IfZero r n) } ≡ k = cc in subst (λ (z : Fork). does arity code (z.turned ∷ ops) l h ws ≡ Goes (at_steps (led false (l (Register r)) ops (place code z.to)) l h ws)) q refl)
turned_does arity code (One (IfZero r n)) k e ops l h ws = (let q : record { to = n; turned = One (IfNonzero r n) } ≡ k = cc in subst (λ (z : Fork). does arity code (z.turned ∷ ops) l h ws ≡ Goes (at_steps (led true (l (Register r)) ops (place code z.to)) l h ws)) q refl)
turned_does arity code (Branch o nonzero a b n) k e ops l h ws =
    (let q : record { to = n; turned = Branch o (not nonzero) a b n } ≡ k = cc in
    subst (λ (z : Fork). does arity code (z.turned ∷ ops) l h ws ≡ tried (apply_binary o (l (Register a)) (l (Register b))) (λ v. Goes (at_steps (led (not nonzero) v ops (place code z.to)) l h ws))) q refl)
turned_does arity code (BranchImmediate o nonzero a w n) k e ops l h ws =
    (let q : record { to = n; turned = BranchImmediate o (not nonzero) a w n } ≡ k = cc in
    subst (λ (z : Fork). does arity code (z.turned ∷ ops) l h ws ≡ tried (apply_immediate o (l (Register a)) w) (λ v. Goes (at_steps (led (not nonzero) v ops (place code z.to)) l h ws))) q refl)
turned_does arity code _ k e ops l h ws = absurd (cc)

-- ---- locations with other slots

abbrev pub merge : Locations → (slots : ℕ → ℕ) → Locations
merge l slots (Register r) = l (Register r)
merge l slots (Slot i) = slots i

gives_merged : (s : Step) (l : Locations) (slots : ℕ → ℕ) → gives s (merge l slots) ≡ gives s l
gives_merged (One (Copy (Between to from))) l slots = refl
gives_merged (One (Const to word)) l slots = refl
gives_merged (One (Unary o to a)) l slots = refl
gives_merged (One (Binary o to a b)) l slots = refl
gives_merged (Immediate o to a w) l slots = refl
gives_merged _ l slots = refl

asks_merged : (s : Step) (l : Locations) (slots : ℕ → ℕ) → asks s (merge l slots) ≡ asks s l
asks_merged (One (IfNonzero r n)) l slots = refl
asks_merged (One (IfZero r n)) l slots = refl
asks_merged (Branch o nonzero a b n) l slots = refl
asks_merged (BranchImmediate o nonzero a w n) l slots = refl
asks_merged _ l slots = refl

put_merged : (to v : ℕ) (l : Locations) (slots : ℕ → ℕ) → put (Register to) v (merge l slots) ≡ merge (put (Register to) v l) slots
put_merged to v l slots = λ i k. at k i
  where
    at : (k : Location) → put (Register to) v (merge l slots) k ≡ merge (put (Register to) v l) slots k
    at (Register r) = refl
    at (Slot n) = refl

-- ---- the machine

-- if a step makes these moves, the machine arrives at the steps that follow
stepped_to : (x : Site) (ops next : List Step) (l k : Locations) (h : World) (u : State) → ((ws : List ℕ) → selected_move x.meaning.arity x.steps (at_steps ops l h ws) ≡ Goes (at_steps next k h ws)) → Stepped x ops l h u → Reaches x next k h u
stepped_to x ops next l k h u f z =
    let e : Goes (at_steps next k h (z.prefix ++ [])) ≡ Goes (at_steps z.next z.locations z.world []) = sym (f (z.prefix ++ [])) ∙ z.moves [] in
    let q : at_steps next k h (z.prefix ++ []) ≡ at_steps z.next z.locations z.world [] = cc in
    subst (λ (c : Configuration). Reaches x c.steps c.locations c.world u) (sym q) z.reaches

light_case : (x : Site) {held : Scratch} (w a : ℕ) (s : Step) (to : ℕ) (ops : List Step) (l : Locations) (h : World) (u : State) → written_by s ≡ Some to → Given x held w a (s ∷ ops) l h u → Case x (s ∷ ops) l h u
light_case x w a (One (Copy (Between t b))) to ops l h u e given = inl (copy_case x w a (Between t b) ops l h u given)
light_case x w a (One (Const t v)) to ops l h u e given = inl (const_case x w a t v ops l h u given)
light_case x w a (One (Unary o t b)) to ops l h u e given = inl (unary_case x w a t b o ops l h u given)
light_case x w a (One (Binary o t b d)) to ops l h u e given = binary_case x w a t b d o ops l h u given
light_case x w a (Immediate o t b v) to ops l h u e given = inl (immediate_case x w a o t b v ops l h u given)
light_case x w a _ to ops l h u e given = absurd (cc)

turned_case : (x : Site) {held : Scratch} (w a : ℕ) (s : Step) (k : Fork) (ops : List Step) (l : Locations) (h : World) (u : State) → fork_of s ≡ Some k → Given x held w a (k.turned ∷ ops) l h u → StandsWhole x → Stepped x (k.turned ∷ ops) l h u
turned_case x {held} w a (One (IfNonzero r n)) k ops l h u e given all =
    (let q : record { to = n; turned = One (IfZero r n) } ≡ k = cc in subst (λ (z : Fork). Given x held w a (z.turned ∷ ops) l h u → Stepped x (z.turned ∷ ops) l h u) q (λ g. if_zero_case x w a r n ops l h u g all) given)
turned_case x {held} w a (One (IfZero r n)) k ops l h u e given all =
    (let q : record { to = n; turned = One (IfNonzero r n) } ≡ k = cc in subst (λ (z : Fork). Given x held w a (z.turned ∷ ops) l h u → Stepped x (z.turned ∷ ops) l h u) q (λ g. if_nonzero_case x w a r n ops l h u g all) given)
turned_case x {held} w a (Branch o nonzero b d n) k ops l h u e given all =
    (let q : record { to = n; turned = Branch o (not nonzero) b d n } ≡ k = cc in subst (λ (z : Fork). Given x held w a (z.turned ∷ ops) l h u → Stepped x (z.turned ∷ ops) l h u) q (λ g. branch_case x w a o (not nonzero) b d n ops l h u g all) given)
turned_case x {held} w a (BranchImmediate o nonzero b v n) k ops l h u e given all =
    (let q : record { to = n; turned = BranchImmediate o (not nonzero) b v n } ≡ k = cc in subst (λ (z : Fork). Given x held w a (z.turned ∷ ops) l h u → Stepped x (z.turned ∷ ops) l h u) q (λ g. branch_immediate_case x w a o (not nonzero) b v n ops l h u g all) given)
turned_case x w a _ k ops l h u e given all = absurd (cc)

-- ---- which steps are light, and which are tests

pub lit : (s : Step) → is_light s ≡ true → (to : ℕ) × (written_by s ≡ Some to)
lit s e = by (written_by s) refl e
  where
    by : (z : Option ℕ) → written_by s ≡ z → is_into_lost z ≡ true → (to : ℕ) × (written_by s ≡ Some to)
    by None q p = absurd (let n : false ≡ true = p in cc)
    by (Some to) q p = (to, q)

pub returning : (s : Step) → is_return s ≡ true → s ≡ One Return
returning (One Return) e = refl
returning _ e = absurd (let n : false ≡ true = e in cc)

pub both : (a b : Bool) → (a && b) ≡ true → (a ≡ true) × (b ≡ true)
both true true e = (refl, refl)
both true false e = absurd (let n : false ≡ true = e in cc)
both false b e = absurd (let n : false ≡ true = e in cc)

-- the reversed test goes one way exactly if the test goes the other way
ways : (H G : List Step → Type 0) (nonzero : Bool) (v : ℕ) (on there on' there' : List Step) → (H on' → G there) → (H there' → G on) → H (led (not nonzero) v on' there') → G (led nonzero v on there)
ways H G true v on there on' there' f g = by (v == 0)
  where
    by : (b : Bool) → H (if b then there' else on') → G (if b then on else there)
    by true = g
    by false = f
ways H G false v on there on' there' f g = by (v == 0)
  where
    by : (b : Bool) → H (if b then on' else there') → G (if b then there else on)
    by true = f
    by false = g

-- no step of a head except the last is a label
pub lit_there : (s : Step) (to : ℕ) → written_by s ≡ Some to → IsThere s
lit_there (One (Label n)) to e = absurd (cc)
lit_there _ to e = tt

pub fork_there : (s : Step) (f : Fork) → fork_of s ≡ Some f → IsThere s
fork_there (One (Label n)) f e = absurd (cc)
fork_there _ f e = tt

pub turned_there : (s : Step) (f : Fork) → fork_of s ≡ Some f → IsThere f.turned
turned_there (One (IfNonzero r n)) f e = (let q : record { to = n; turned = One (IfZero r n) } ≡ f = cc in subst (λ (z : Fork). IsThere z.turned) q tt)
turned_there (One (IfZero r n)) f e = (let q : record { to = n; turned = One (IfNonzero r n) } ≡ f = cc in subst (λ (z : Fork). IsThere z.turned) q tt)
turned_there (Branch o nonzero a b n) f e = (let q : record { to = n; turned = Branch o (not nonzero) a b n } ≡ f = cc in subst (λ (z : Fork). IsThere z.turned) q tt)
turned_there (BranchImmediate o nonzero a w n) f e = (let q : record { to = n; turned = BranchImmediate o (not nonzero) a w n } ≡ f = cc in subst (λ (z : Fork). IsThere z.turned) q tt)
turned_there _ f e = absurd (cc)

label_alone : (l : ℕ) → place (One (Label l) ∷ []) l ≡ One (Label l) ∷ []
label_alone l = ap (λ b. if b then One (Label l) ∷ [] else []) (eqb_yes l l refl)

last_place : (ss last : List Step) (l : ℕ) → ending ss ≡ Some last → place (last ++ One Return ∷ One (Label l) ∷ []) l ≡ One (Label l) ∷ []
last_place [] last l e = none_says last e
last_place (One (Label n) ∷ ss) last l e = behind ss e
  where
    behind : (ss : List Step) → last_of ss ≡ Some last → place (last ++ One Return ∷ One (Label l) ∷ []) l ≡ One (Label l) ∷ []
    behind [] e = none_says last e
    behind (s ∷ ss) e = by (is_return s) e
      where
        one_more : (ss : List Step) → last_one s ss ≡ Some last → place (last ++ One Return ∷ One (Label l) ∷ []) l ≡ One (Label l) ∷ []
        one_more [] e = none_says last e
        one_more (next ∷ ss) e = if_so (is_light s && is_return next) refl e
          where
            if_so : (b : Bool) → (is_light s && is_return next) ≡ b → (if b then Some (s ∷ []) else None) ≡ Some last → place (last ++ One Return ∷ One (Label l) ∷ []) l ≡ One (Label l) ∷ []
            if_so false q p = none_says last p
            if_so true q p =
                let alone : s ∷ [] ≡ last = cc in
                let to = lit s (both (is_light s) (is_return next) q).0 in
                subst (λ (xs : List Step). place (xs ++ One Return ∷ One (Label l) ∷ []) l ≡ One (Label l) ∷ []) alone (there_place s (One Return ∷ One (Label l) ∷ []) l (lit_there s to.0 to.1) ∙ label_alone l)

        by : (b : Bool) → (if b then Some [] else last_one s ss) ≡ Some last → place (last ++ One Return ∷ One (Label l) ∷ []) l ≡ One (Label l) ∷ []
        by true p = (let none : [] ≡ last = cc in subst (λ (xs : List Step). place (xs ++ One Return ∷ One (Label l) ∷ []) l ≡ One (Label l) ∷ []) none (label_alone l))
        by false p = one_more ss p
last_place (_ ∷ ss) last l e = none_says last e

-- ---- the run of a whole function whose head is the site's

module _ (x : Site) (c : ℕ) (code : List Step) (k j : ℕ) where
  abbrev pub effect : ℕ → Question → Effect
  effect = call_effect x.meaning (suc x.opened)

  abbrev pub moves : Configuration → Move Configuration
  moves = selected_move x.meaning.arity code

  abbrev pub runs : ℕ → ℕ → Configuration → Outcome Answer
  runs i n q = run moves selected_output effect i n q

  abbrev pub works : ℕ → ℕ → Configuration → ℕ
  works i n q = work moves effect i n q

  abbrev pub Follows : Configuration → State → Type 0
  Follows q s = (i n : ℕ) → i ≤ k → n ≤ j → Does x.layout x.code (c + c) x.from s (runs i n q) (works i n q)

  -- the machine does what the run does, whatever the slots hold
  abbrev pub Ended : (ss : List Step) (l : Locations) (h : World) (u : State) → Type 0
  Ended ss l h u = (slots : ℕ → ℕ) (words : List ℕ) → Follows (at_steps ss (merge l slots) h words) u

  -- the machine arrives at the end of the head, and the run at the rest
  pub record Passed (steps rest : List Step) (l : Locations) (h : World) (u : State) : Type 0 where
    pub more : ℕ
    pub to : State
    pub held : Scratch
    pub locations : Locations
    pub path : Path x.code more u to
    pub at : to.pc ≡ x.place + 4 * end_of x
    pub within : Within x held locations h to
    pub follows : (slots : ℕ → ℕ) (words : List ℕ) → Follows (at_steps rest (merge locations slots) h words) to → Follows (at_steps steps (merge l slots) h words) u

  abbrev pub Goal : (steps rest : List Step) (l : Locations) (h : World) (u : State) → Type 0
  Goal steps rest l h u = Ended steps l h u ⊎ Passed steps rest l h u

module _ (x : Site) (c : ℕ) (one : 1 ≤ c) (all : StandsWhole x) (sound : IsSound x.from) (back : x.from.registers 1 % 4 ≡ 0) (code : List Step) (k j : ℕ) where
  abbrev steps_on : Configuration → Move Configuration
  steps_on = selected_move x.meaning.arity code

  abbrev Owes : (i n : ℕ) → List ℕ → State → Move Configuration → Type 0
  Owes i n o s mv = Does x.layout x.code (c + c) x.from s (act (call_effect x.meaning (suc x.opened)) mv o n (runs x c code k j i)) (work_act (call_effect x.meaning (suc x.opened)) mv n (works x c code k j i))

  two : 1 ≤ c + c
  two = omega arith

  here : (s : State) (o : List ℕ) → s.output ≡ o → DoesBy x.layout x.code (c + c) x.from s Going o 0
  here s o e = (0, s, refl, e, omega arith)

  goes : (q r : Configuration) (s t : State) (m : ℕ) → s.output ≡ q.world.output → steps_on q ≡ Goes r → Path x.code (suc m) s t → Follows x c code k j r t → Follows x c code k j q s
  goes q r s t m o e p f zero n le les = here s q.world.output o
  goes q r s t m o e p f (suc i) n le les = subst (Owes i n q.world.output s) (sym e) (one_move x.layout x.code (c + c) x.from s t (runs x c code k j i n r) (works x c code k j i n r) m two p (f i n (omega arith) les))

  fails : (q : Configuration) (s : State) → s.output ≡ q.world.output → steps_on q ≡ Fails → Follows x c code k j q s
  fails q s o e zero n le les = here s q.world.output o
  fails q s o e (suc i) n le les = subst (Owes i n q.world.output s) (sym e) tt

  returns : (ss : List Step) (l : Locations) (h : World) (words : List ℕ) (s : State) → s.output ≡ h.output → (n : ℕ) × (t : State) × Path x.code n s t × ComesBack x.layout x.from (record { value = l (Register 10); world = h }) t → Follows x c code k j (at_steps (One Return ∷ ss) l h words) s
  returns ss l h words s o p zero n le les = here s h.output o
  returns ss l h words s o p (suc i) n le les = (p.0, p.1, p.2, p.3, omega arith)

  -- a label needs no move
  labelled : (n : ℕ) (ss : List Step) (l : Locations) (h : World) (words : List ℕ) (s : State) → Follows x c code k j (at_steps ss l h words) s → Follows x c code k j (at_steps (One (Label n) ∷ ss) l h words) s
  labelled n ss l h words s f zero m le les = f zero m le les
  labelled n ss l h words s f (suc i) m le les = f (suc i) m le les

  -- ---- a light step

  -- a light step goes wrong, or both the machine and the run execute it, whatever the slots hold
  pub record Lit (s : Step) (ops ss : List Step) (l : Locations) (h : World) (u : State) : Type 0 where
    pub locations : Locations
    pub reaches : Reaches x ops locations h u
    pub moves_on : (slots : ℕ → ℕ) (words : List ℕ) → steps_on (at_steps (s ∷ ss) (merge l slots) h words) ≡ Goes (at_steps ss (merge locations slots) h words)

  light : {held : Scratch} (w a : ℕ) (s : Step) (to : ℕ) (ops ss : List Step) (l : Locations) (h : World) (u : State) → written_by s ≡ Some to → Given x held w a (s ∷ ops) l h u
      → ((slots : ℕ → ℕ) (words : List ℕ) → steps_on (at_steps (s ∷ ss) (merge l slots) h words) ≡ Fails) ⊎ Lit s ops ss l h u
  light {held} w a s to ops ss l h u e given = by (gives s l) refl
    where
      made : (z : Option ℕ) → gives s l ≡ z → (slots : ℕ → ℕ) (words : List ℕ) → steps_on (at_steps (s ∷ ss) (merge l slots) h words) ≡ tried z (λ v. Goes (at_steps ss (put (Register to) v (merge l slots)) h words))
      made z is slots words = light_does x.meaning.arity code s to e ss (merge l slots) h words ∙ ap (λ y. tried y (λ v. Goes (at_steps ss (put (Register to) v (merge l slots)) h words))) (gives_merged s l slots ∙ is)

      own : (v : ℕ) → gives s l ≡ Some v → (ws : List ℕ) → selected_move x.meaning.arity x.steps (at_steps (s ∷ ops) l h ws) ≡ Goes (at_steps ops (put (Register to) v l) h ws)
      own v is ws = light_does x.meaning.arity x.steps s to e ops l h ws ∙ ap (λ y. tried y (λ v. Goes (at_steps ops (put (Register to) v l) h ws))) is

      lit_by : (v : ℕ) → gives s l ≡ Some v → Case x (s ∷ ops) l h u → Lit s ops ss l h u
      lit_by v is (inl z) = record {
        locations = put (Register to) v l;
        reaches = stepped_to x (s ∷ ops) ops l (put (Register to) v l) h u (own v is) z;
        moves_on = λ slots words. made (Some v) is slots words ∙ ap (λ (m : Locations). Goes (at_steps ss m h words)) (put_merged to v l slots);
      }
      lit_by v is (inr f) = absurd (let n : Goes (at_steps ops (put (Register to) v l) h []) ≡ Fails = sym (own v is []) ∙ f [] in cc)

      by : (z : Option ℕ) → gives s l ≡ z → ((slots : ℕ → ℕ) (words : List ℕ) → steps_on (at_steps (s ∷ ss) (merge l slots) h words) ≡ Fails) ⊎ Lit s ops ss l h u
      by None is = inl (made None is)
      by (Some v) is = inr (lit_by v is (light_case x w a s to ops l h u e given))

  -- ---- after the test's label: the return comes at once, or after one step

  at_return : {held : Scratch} (w a : ℕ) (tail ss : List Step) (l : Locations) (h : World) (u : State) → Given x held w a (One Return ∷ tail) l h u → Ended x c code k j (One Return ∷ ss) l h u
  at_return w a tail ss l h u (e, st, inside) slots words = returns ss (merge l slots) h words u inside.shares.output (return_path x w a tail l h u sound back e st inside)

  return_by : {held : Scratch} (w a : ℕ) (s : Step) (last tail ss : List Step) (l : Locations) (h : World) (u : State) → is_return s ≡ true → Some [] ≡ Some last → Given x held w a (last ++ One Return ∷ tail) l h u → Ended x c code k j (s ∷ ss) l h u
  return_by {held} w a s last tail ss l h u is e given =
      let none : [] ≡ last = cc in
      let g : Given x held w a (One Return ∷ tail) l h u = subst (λ (xs : List Step). Given x held w a (xs ++ One Return ∷ tail) l h u) (sym none) given in
      subst (λ (y : Step). Ended x c code k j (y ∷ ss) l h u) (sym (returning s is)) (at_return w a tail ss l h u g)

  one_by : {held : Scratch} (w a : ℕ) (s : Step) (last tail ss : List Step) (l : Locations) (h : World) (u : State) → last_one s ss ≡ Some last → Given x held w a (last ++ One Return ∷ tail) l h u → Ended x c code k j (s ∷ ss) l h u
  one_by w a s last tail [] l h u e given = none_says last e
  one_by {held} w a s last tail (next ∷ ss) l h u e given = by (is_light s && is_return next) refl e
    where
      onward : is_return next ≡ true → u.output ≡ h.output → ((slots : ℕ → ℕ) (words : List ℕ) → steps_on (at_steps (s ∷ next ∷ ss) (merge l slots) h words) ≡ Fails) ⊎ Lit s (One Return ∷ tail) (next ∷ ss) l h u → Ended x c code k j (s ∷ next ∷ ss) l h u
      onward is out (inl f) = λ slots words. fails (at_steps (s ∷ next ∷ ss) (merge l slots) h words) u out (f slots words)
      onward is out (inr z) =
          let r = z.reaches in
          let end : Ended x c code k j (next ∷ ss) z.locations h r.to = return_by r.long r.offset next [] tail ss z.locations h r.to is refl (r.at, r.standing, r.within) in
          (λ slots words. goes (at_steps (s ∷ next ∷ ss) (merge l slots) h words) (at_steps (next ∷ ss) (merge z.locations slots) h words) u r.to r.more out (z.moves_on slots words) r.path (end slots words))

      by : (b : Bool) → (is_light s && is_return next) ≡ b → (if b then Some (s ∷ []) else None) ≡ Some last → Ended x c code k j (s ∷ next ∷ ss) l h u
      by false q p = none_says last p
      by true q p =
          let two = both (is_light s) (is_return next) q in
          let to = lit s two.0 in
          let alone : s ∷ [] ≡ last = cc in
          let g : Given x held w a (s ∷ One Return ∷ tail) l h u = subst (λ (xs : List Step). Given x held w a (xs ++ One Return ∷ tail) l h u) (sym alone) given in
          onward two.1 g.2.shares.output (light w a s to.0 (One Return ∷ tail) (next ∷ ss) l h u to.1 g)

  ends : {held : Scratch} (w a : ℕ) (ss last tail : List Step) (l : Locations) (h : World) (u : State) → last_of ss ≡ Some last → Given x held w a (last ++ One Return ∷ tail) l h u → Ended x c code k j ss l h u
  ends w a [] last tail l h u e given = none_says last e
  ends {held} w a (s ∷ ss) last tail l h u e given = by (is_return s) refl e
    where
      by : (b : Bool) → is_return s ≡ b → (if b then Some [] else last_one s ss) ≡ Some last → Ended x c code k j (s ∷ ss) l h u
      by true q p = return_by w a s last tail ss l h u q p given
      by false q p = one_by w a s last tail ss l h u p given

  place_ends : {held : Scratch} (w a : ℕ) (ss last tail : List Step) (l : Locations) (h : World) (u : State) → ending ss ≡ Some last → Given x held w a (last ++ One Return ∷ tail) l h u → Ended x c code k j ss l h u
  place_ends w a [] last tail l h u e given = none_says last e
  place_ends w a (One (Label n) ∷ ss) last tail l h u e given = λ slots words. labelled n ss (merge l slots) h words u (ends w a ss last tail l h u e given slots words)
  place_ends w a (_ ∷ ss) last tail l h u e given = none_says last e

  -- ---- before the test's label

  at_test : {held : Scratch} (w a : ℕ) (s : Step) (f : Fork) (last rest : List Step) (l : Locations) (h : World) (u : State) → fork_of s ≡ Some f → ending (place code f.to) ≡ Some last → place x.steps f.to ≡ One (Label f.to) ∷ []
      → Given x held w a (f.turned ∷ (last ++ One Return ∷ One (Label f.to) ∷ [])) l h u → Goal x c code k j (s ∷ rest) rest l h u
  at_test {held} w a s f last rest l h u e ended alone given = by (asks s l) refl
    where
      ops : List Step
      ops = last ++ One Return ∷ One (Label f.to) ∷ []

      asked : (z : Option ℕ) → asks s l ≡ z → (slots : ℕ → ℕ) (words : List ℕ) → steps_on (at_steps (s ∷ rest) (merge l slots) h words) ≡ tried z (λ v. Goes (at_steps (led (sense s) v rest (place code f.to)) (merge l slots) h words))
      asked z is slots words = fork_does x.meaning.arity code s f e rest (merge l slots) h words ∙ ap (λ y. tried y (λ v. Goes (at_steps (led (sense s) v rest (place code f.to)) (merge l slots) h words))) (asks_merged s l slots ∙ is)

      own : (v : ℕ) → asks s l ≡ Some v → (ws : List ℕ) → selected_move x.meaning.arity x.steps (at_steps (f.turned ∷ ops) l h ws) ≡ Goes (at_steps (led (not (sense s)) v ops (place x.steps f.to)) l h ws)
      own v is ws = turned_does x.meaning.arity x.steps s f e ops l h ws ∙ ap (λ y. tried y (λ v. Goes (at_steps (led (not (sense s)) v ops (place x.steps f.to)) l h ws))) is

      out : u.output ≡ h.output
      out = given.2.shares.output

      Next : List Step → Type 0
      Next ss = ((slots : ℕ → ℕ) (words : List ℕ) → steps_on (at_steps (s ∷ rest) (merge l slots) h words) ≡ Goes (at_steps ss (merge l slots) h words)) → Goal x c code k j (s ∷ rest) rest l h u

      to_end : Reaches x ops l h u → Next (place code f.to)
      to_end r on =
          let end : Ended x c code k j (place code f.to) l h r.to = place_ends r.long r.offset (place code f.to) last (One (Label f.to) ∷ []) l h r.to ended (r.at, r.standing, r.within) in
          inl (λ slots words. goes (at_steps (s ∷ rest) (merge l slots) h words) (at_steps (place code f.to) (merge l slots) h words) u r.to r.more out (on slots words) r.path (end slots words))

      to_rest : Reaches x (place x.steps f.to) l h u → Next rest
      to_rest r on =
          let st : Standing x r.held r.long r.offset (One (Label f.to) ∷ []) = subst (Standing x r.held r.long r.offset) alone r.standing in
          let end : r.offset + 0 ≡ end_of x = st.last in
          let there : r.offset ≡ end_of x = omega arith in
          let passed : Passed x c code k j (s ∷ rest) rest l h u = record {
            more = suc r.more;
            to = r.to;
            held = r.held;
            locations = l;
            path = r.path;
            at = r.at ∙ ap (λ n. x.place + 4 * n) there;
            within = r.within;
            follows = λ slots words g. goes (at_steps (s ∷ rest) (merge l slots) h words) (at_steps rest (merge l slots) h words) u r.to r.more out (on slots words) r.path g;
          } in
          inr passed

      by : (z : Option ℕ) → asks s l ≡ z → Goal x c code k j (s ∷ rest) rest l h u
      by None is = inl (λ slots words. fails (at_steps (s ∷ rest) (merge l slots) h words) u out (asked None is slots words))
      by (Some v) is =
          ways (λ (xs : List Step). Reaches x xs l h u) Next (sense s) v rest (place code f.to) ops (place x.steps f.to) to_end to_rest
          (stepped_to x (f.turned ∷ ops) (led (not (sense s)) v ops (place x.steps f.to)) l l h u (own v is) (turned_case x w a s f ops l h u e given all))
          (asked (Some v) is)

  -- the machine follows the head of these steps
  abbrev Onward : List Step → Type 0
  Onward steps = (held : Scratch) (w a : ℕ) (e : Early) (l : Locations) (h : World) (u : State) → early_from code steps ≡ Some e → ((n : ℕ) → place x.steps n ≡ place e.head n) → Given x held w a e.head l h u → Goal x c code k j steps e.rest l h u

  heads_first : (held : Scratch) (w a : ℕ) (s : Step) (steps : List Step) (e : Early) (l : Locations) (h : World) (u : State) → Onward steps → early_from code (s ∷ steps) ≡ Some e → ((n : ℕ) → place x.steps n ≡ place e.head n) → Given x held w a e.head l h u → Goal x c code k j (s ∷ steps) e.rest l h u
  heads_first held w a s steps e l h u onward is same given = by (is_light s) refl is
    where
      on_by : (d : Early) (z : Lit s d.head steps l h u) → u.output ≡ h.output → Goal x c code k j steps d.rest z.locations h z.reaches.to → Goal x c code k j (s ∷ steps) d.rest l h u
      on_by d z out (inl f) =
          inl (λ slots words. goes (at_steps (s ∷ steps) (merge l slots) h words) (at_steps steps (merge z.locations slots) h words) u z.reaches.to z.reaches.more out (z.moves_on slots words) z.reaches.path (f slots words))
      on_by d z out (inr p) =
          let passed : Passed x c code k j (s ∷ steps) d.rest l h u = record {
            more = suc z.reaches.more + p.more;
            to = p.to;
            held = p.held;
            locations = p.locations;
            path = path_then x.code (suc z.reaches.more) p.more u z.reaches.to p.to z.reaches.path p.path;
            at = p.at;
            within = p.within;
            follows = λ slots words g. goes (at_steps (s ∷ steps) (merge l slots) h words) (at_steps steps (merge z.locations slots) h words) u z.reaches.to z.reaches.more out (z.moves_on slots words) z.reaches.path (p.follows slots words g);
          } in
          inr passed

      lit_by : (d : Early) → early_from code steps ≡ Some d → ((n : ℕ) → place x.steps n ≡ place d.head n) → u.output ≡ h.output → ((slots : ℕ → ℕ) (words : List ℕ) → steps_on (at_steps (s ∷ steps) (merge l slots) h words) ≡ Fails) ⊎ Lit s d.head steps l h u
          → Goal x c code k j (s ∷ steps) d.rest l h u
      lit_by d q same_d out (inl f) = inl (λ slots words. fails (at_steps (s ∷ steps) (merge l slots) h words) u out (f slots words))
      lit_by d q same_d out (inr z) = on_by d z out (onward z.reaches.held z.reaches.long z.reaches.offset d z.locations h z.reaches.to q same_d (z.reaches.at, z.reaches.standing, z.reaches.within))

      first_by : (z : Option Early) → early_from code steps ≡ z → is_light s ≡ true → option_map (with_first s) z ≡ Some e → Goal x c code k j (s ∷ steps) e.rest l h u
      first_by None q p m = none_says e m
      first_by (Some d) q p m =
          let to = lit s p in
          let is_e : with_first s d ≡ e = cc in
          let g : Given x held w a (s ∷ d.head) l h u = subst (λ (y : Early). Given x held w a y.head l h u) (sym is_e) given in
          let same_d : (n : ℕ) → place x.steps n ≡ place d.head n = λ n. same n ∙ ap (λ (y : Early). place y.head n) (sym is_e) ∙ there_place s d.head n (lit_there s to.0 to.1) in
          subst (λ (y : Early). Goal x c code k j (s ∷ steps) y.rest l h u) is_e (lit_by d q same_d g.2.shares.output (light w a s to.0 d.head steps l h u to.1 g))

      test_by : (f : Fork) → fork_of s ≡ Some f → (z : Option (List Step)) → ending (place code f.to) ≡ z → early_at z f steps ≡ Some e → Goal x c code k j (s ∷ steps) e.rest l h u
      test_by f q None p m = none_says e m
      test_by f q (Some last) p m =
          let d : Early = record { head = f.turned ∷ (last ++ One Return ∷ One (Label f.to) ∷ []); rest = steps } in
          let is_e : d ≡ e = cc in
          let g : Given x held w a d.head l h u = subst (λ (y : Early). Given x held w a y.head l h u) (sym is_e) given in
          let alone : place x.steps f.to ≡ One (Label f.to) ∷ [] =
          same f.to ∙ ap (λ (y : Early). place y.head f.to) (sym is_e) ∙ there_place f.turned (last ++ One Return ∷ One (Label f.to) ∷ []) f.to (turned_there s f q) ∙ last_place (place code f.to) last f.to p in
          subst (λ (y : Early). Goal x c code k j (s ∷ steps) y.rest l h u) is_e (at_test w a s f last steps l h u q p alone g)

      fork_by : (z : Option Fork) → fork_of s ≡ z → early_by code z steps ≡ Some e → Goal x c code k j (s ∷ steps) e.rest l h u
      fork_by None q m = none_says e m
      fork_by (Some f) q m = test_by f q (ending (place code f.to)) refl m

      by : (b : Bool) → is_light s ≡ b → (if b then option_map (with_first s) (early_from code steps) else early_by code (fork_of s) steps) ≡ Some e → Goal x c code k j (s ∷ steps) e.rest l h u
      by true p m = first_by (early_from code steps) refl p m
      by false p m = fork_by (fork_of s) refl m

  pub heads : (held : Scratch) (w a : ℕ) (steps : List Step) (e : Early) (l : Locations) (h : World) (u : State) → early_from code steps ≡ Some e → ((n : ℕ) → place x.steps n ≡ place e.head n) → Given x held w a e.head l h u → Goal x c code k j steps e.rest l h u
  heads held w a [] e l h u is same given = none_says e is
  heads held w a (s ∷ steps) e l h u is same given = heads_first held w a s steps e l h u (λ held w a d l h u. heads held w a steps d l h u) is same given
