-- The code of a function does what its steps do. The proof goes by induction on the moves of the steps' run; the unknown words are chosen
-- as those that the machine's registers and memory hold.
use Rattle.std.proofs.Common.{◌≡◌, ℕ, zero, suc, ◌+◌, ◌-◌, ◌*◌, ◌%◌, ◌^◌, ◌<◌, ◌≤◌, List, [], ◌∷◌, ◌++◌, length, get_or, take, drop, refl, sym, ap, ap₂, ◌∙◌, subst, inl, inr, arith}
use Rattle.std.specs.Prelude.{if◌then◌else◌, nat_le}
use Rattle.std.proofs.Math.Nat.{mul-suc, mul-le-mul_left, mul-add, add-mul, mul_assoc}
use Rattle.std.proofs.lemmas.List.{length-append}
use Rattle.cc_simulation.specs.Behavior.{AreWords, Ended, Going, Outcome, Stop, Wrong}
use Rattle.cc_simulation.specs.World.{Answer, Effect, Failed, Gives, Size, Unfinished, World}
use Rattle.cc_simulation.specs.Run.{Fails, Move, act, resumed, run, work, work_act, work_resumed}
use Rattle.cc_simulation.specs.Meaning.{Later as Lasts, Meaning, call_effect}
use Rattle.cc_simulation.specs.Tracks.{Keeps, TracksForAll}
use Rattle.cc_simulation.specs.Unknown.{survives}
use Rattle.cc_ltl.specs.declared.location.Location.{Location}
use Rattle.cc_ltl.specs.declared.location.Location.TheVariants.{Register, Slot}
use Rattle.cc_ltl.specs.Ltl.{Locations, put, words_from, after_call, at_entry}
use Rattle.cc_linear_language.specs.declared.item.LinearItem.TheVariants.{Label, Jump, IfNonzero, IfZero, Copy, Const, Unary, Binary, Load, Store, Call, Read, Write, Return}
use Rattle.cc_select.specs.declared.step.Step.{Step}
use Rattle.cc_select.specs.declared.step.Step.TheVariants.{One, Immediate, LoadAt, StoreAt, LoadNear, StoreNear, Branch, BranchImmediate}
use Rattle.cc_select.specs.Selected.{Configuration, at_steps, steps_after_answer, selected_move, selected_output, selected_start}
use Rattle.cc_rv32.specs.Machine.{Continues, State}
use Rattle.cc_emit.specs.Contract.{CallsMeet, Code, ComesBack, EachCalled, Enters, IsPlace, IsSound, ObjectLayout, Meets, Path, PieceMeets, Placed}
use Rattle.cc_emit.specs.Frames.{Frame, frame_size}
use Rattle.cc_emit.specs.Emission.{pointer_items, emitted, framed_items, prologue, prologue_size, saving, stack_moved}
use Rattle.cc_emit.specs.declared.scratch.Scratch.{Scratch}
use Rattle.cc_emit.specs.Scratch.{nothing, addressed}
use Rattle.cc_emit.proofs.Fine.{AreFine, IsFrame, Member}
use Rattle.cc_emit.proofs.Basics.{words_append, listed, listed_words, take_listed, drop_listed}
use Rattle.cc_emit.proofs.Places.{length_pointer_items, length_saving, length_stack_moved, seen_first}
use Rattle.cc_emit.proofs.Standing.{Site, Standing, Stands, HasRoom, each_append, each_map, first_calls, all_addressed, near, labels, machine_step, path_then, first_items, standing_tail, placed_append, between}
use Rattle.cc_emit.proofs.Within.{Within, within_nothing}
use Rattle.cc_emit.proofs.Cases.{Stepped, Case, StandsWhole, jump_case, if_zero_case, if_nonzero_case, const_case, copy_case, unary_case, binary_case, load_case, store_case, read_case, write_case}
use Rattle.cc_emit.proofs.Steps.{immediate_case, load_at_case, store_at_case, load_near_case, store_near_case, branch_case, branch_immediate_case}
use Rattle.cc_emit.proofs.Returning.{return_path, called, called_step, enters_callee, return_place, regained, within_behind, framed, prologue_path, framed_pc, found, framed_within}

abbrev pub DoesBy : {b : List Size} (y : ObjectLayout b) (code : Code) (rate : ℕ) (from s : State) → Stop Answer → List ℕ → ℕ → Type 0
DoesBy y code rate from s Going o done = (m : ℕ) × (t : State) × Path code m s t × (t.output ≡ o) × (done ≤ rate * m)
DoesBy y code rate from s (Ended r) o done = (m : ℕ) × (t : State) × Path code m s t × ComesBack y from r t × (done ≤ rate * m)
DoesBy y code rate from s Wrong o done = Unit {0}

-- what the machine does for an outcome of the run, with `done` moves paid for
abbrev pub Does : {b : List Size} (y : ObjectLayout b) (code : Code) (rate : ℕ) (from s : State) → Outcome Answer → ℕ → Type 0
Does y code rate from s z done = DoesBy y code rate from s z.stop z.output done

-- if a path leads from s to t and the machine does this from t, it also does this from s, and more moves are paid for
pub does_then : {b : List Size} (y : ObjectLayout b) (code : Code) (rate : ℕ) (from s t : State) (stop : Stop Answer) (o : List ℕ) (v m more : ℕ) → Path code m s t → more ≤ rate * m → DoesBy y code rate from t stop o v → DoesBy y code rate from s stop o (more + v)
does_then y code rate from s t Going o v m more p b (k, u, q, e, c) = (m + k, u, path_then code m k s t u p q, e, (let f = mul-add rate m k in omega arith))
does_then y code rate from s t (Ended r) o v m more p b (k, u, q, e, c) = (m + k, u, path_then code m k s t u p q, e, (let f = mul-add rate m k in omega arith))
does_then y code rate from s t Wrong o v m more p b x = tt

-- one move is paid for by at least one instruction
pub one_move : {b : List Size} (y : ObjectLayout b) (code : Code) (rate : ℕ) (from s t : State) (z : Outcome Answer) (v m : ℕ) → 1 ≤ rate → Path code (suc m) s t → Does y code rate from t z v → Does y code rate from s z (suc v)
one_move y code rate from s t z v m one p x =
    let f : 1 + v ≡ suc v = omega arith in
    let g : 1 ≤ rate * suc m = let h = mul-suc rate m in omega arith in
    subst (Does y code rate from s z) f (does_then y code rate from s t z.stop z.output v (suc m) 1 p g x)

call_paid : (c m n : ℕ) → 1 ≤ c → n ≤ c + c * m → suc n ≤ (c + c) * suc m
call_paid c m n one h = let f = mul-suc (c + c) m in let g = add-mul c c m in omega arith

module _ (x : Site) (c : ℕ) (one : 1 ≤ c) (all_places : (g : ℕ) → g < x.meaning.functions → IsPlace (x.places g)) (calls : CallsMeet x.meaning x.layout x.code x.places c (suc x.opened))
    (sound : IsSound x.from) (back : x.from.registers 1 % 4 ≡ 0) (all : StandsWhole x) where
  abbrev pub rate : ℕ
  rate = c + c

  abbrev pub Done : State → Outcome Answer → ℕ → Type 0
  Done s z done = Does x.layout x.code rate x.from s z done

  abbrev pub lrun : ℕ → ℕ → Configuration → Outcome Answer
  lrun k j q = run (selected_move x.meaning.arity x.steps) selected_output (call_effect x.meaning (suc x.opened)) k j q

  abbrev pub lwork : ℕ → ℕ → Configuration → ℕ
  lwork k j q = work (selected_move x.meaning.arity x.steps) (call_effect x.meaning (suc x.opened)) k j q

  abbrev pub FollowsWith : (k j : ℕ) → Configuration → State → Type 0
  FollowsWith k j q s = (i steps : ℕ) → i ≤ k → steps ≤ j → Done s (lrun i steps q) (lwork i steps q)

  -- the machine follows the run with some words, for all smaller bounds at once
  abbrev pub Simulated : (k j : ℕ) → List Step → Locations → World → State → Type 0
  Simulated k j ops l h s = (words : List ℕ) × AreWords words × FollowsWith k j (at_steps ops l h words) s

  two : 1 ≤ rate
  two = omega arith

  here : (s : State) (o : List ℕ) → s.output ≡ o → DoesBy x.layout x.code rate x.from s Going o 0
  here s o e = (0, s, refl, e, omega arith)

  -- what has to be shown for a move
  abbrev Owes : (i steps : ℕ) → List ℕ → State → Move Configuration → Type 0
  Owes i steps o s mv = Done s (act (call_effect x.meaning (suc x.opened)) mv o steps (lrun i)) (work_act (call_effect x.meaning (suc x.opened)) mv steps (lwork i))

  stepped_follows : (k j : ℕ) (ops : List Step) (l : Locations) (h : World) (s : State) → s.output ≡ h.output → (z : Stepped x ops l h s) → (words : List ℕ) → FollowsWith k j (at_steps z.next z.locations z.world words) z.reaches.to
      → FollowsWith (suc k) j (at_steps ops l h (z.prefix ++ words)) s
  stepped_follows k j ops l h s o z words f zero steps le les = here s h.output o
  stepped_follows k j ops l h s o z words f (suc i) steps le les =
      let q = at_steps z.next z.locations z.world words in
      subst (Owes i steps h.output s) (sym (z.moves words)) (one_move x.layout x.code rate x.from s z.reaches.to (lrun i steps q) (lwork i steps q) z.reaches.more two z.reaches.path (f i steps (omega arith) les))

  fails_follows : (k j : ℕ) (ops : List Step) (l : Locations) (h : World) (s : State) → s.output ≡ h.output → (words : List ℕ) → selected_move x.meaning.arity x.steps (at_steps ops l h words) ≡ Fails → FollowsWith k j (at_steps ops l h words) s
  fails_follows k j ops l h s o words e zero steps le les = here s h.output o
  fails_follows k j ops l h s o words e (suc i) steps le les = subst (Owes i steps h.output s) (sym e) tt

  -- ---- what holds for everything that is still to come

  abbrev pub Later : ℕ → Type 0
  Later k = (j w a : ℕ) (held : Scratch) (ops : List Step) (l : Locations) (h : World) (s : State) → s.pc ≡ x.place + 4 * a → Standing x held w a ops → Within x held l h s → Simulated k j ops l h s

  at_stepped : (k j : ℕ) (ops : List Step) (l : Locations) (h : World) (s : State) → Later k → s.output ≡ h.output → Stepped x ops l h s → Simulated (suc k) j ops l h s
  at_stepped k j ops l h s later o z =
      let r = z.reaches in
      let next = later j r.long r.offset r.held z.next z.locations z.world r.to r.at r.standing r.within in
      (z.prefix ++ next.0, words_append z.prefix next.0 z.are_words next.1, stepped_follows k j ops l h s o z next.0 next.2)

  at_case : (k j : ℕ) (ops : List Step) (l : Locations) (h : World) (s : State) → Later k → s.output ≡ h.output → Case x ops l h s → Simulated (suc k) j ops l h s
  at_case k j ops l h s later o (inl z) = at_stepped k j ops l h s later o z
  at_case k j ops l h s later o (inr e) = ([], tt, fails_follows (suc k) j ops l h s o [] (e []))

  -- ---- calls

  abbrev effect : ℕ → (g : ℕ) → Locations → World → Effect
  effect j g l h = x.meaning.call j (suc x.opened) g (words_from 10 (x.meaning.arity g) l) h

  abbrev Comes : ℕ → (ops : List Step) (l : Locations) → State → List ℕ → ℕ → Effect → Type 0
  Comes i ops l s words steps e = Done s (resumed e (steps_after_answer ops l words) (lrun i)) (suc (work_resumed e (steps_after_answer ops l words) steps (lwork i)))

  -- after the call, the run finds in its locations what the machine's locations hold
  same_call : (l : Locations) (t : State) (words : List ℕ) → after_call (listed 32 0 t.registers ++ words) l ≡ regained l t
  same_call l t words = λ i k. at_location k i
    where
      at_location : (k : Location) → after_call (listed 32 0 t.registers ++ words) l k ≡ regained l t k
      at_location (Register r) = ap (λ xs. if survives r then l (Register r) else get_or xs r 0) (take_listed 32 0 t.registers words)
      at_location (Slot i) = refl

  same_configuration : (ops : List Step) (l : Locations) (a : Answer) (t : State) (words : List ℕ) → steps_after_answer ops l (listed 32 0 t.registers ++ words) a ≡ at_steps ops (put (Register 10) a.value (regained l t)) a.world words
  same_configuration ops l a t words =
      ap₂ (λ (k : Locations) (xs : List ℕ). at_steps ops (put (Register 10) a.value k) a.world xs) (same_call l t words) (drop_listed 32 0 t.registers words)

  -- the machine follows a call that returns an answer
  answers : (i steps left n : ℕ) (s : State) (ops : List Step) (l : Locations) (g : ℕ) (a : Answer) (t : State) (words : List ℕ) → machine_step x.code s ≡ Continues (called s (x.places g)) → Path x.code n (called s (x.places g)) t → steps ≤ left + c + c * n
      → Done t (lrun i left (at_steps ops (put (Register 10) a.value (regained l t)) a.world words)) (lwork i left (at_steps ops (put (Register 10) a.value (regained l t)) a.world words))
      → Comes i ops l s (listed 32 0 t.registers ++ words) steps (Gives a left)
  answers i steps left n s ops l g a t words to p le z =
      let P : Configuration → Type 0 = λ q. Done t (lrun i left q) (lwork i left q) in
      let q = steps_after_answer ops l (listed 32 0 t.registers ++ words) a in
      let y : P q = subst P (sym (same_configuration ops l a t words)) z in
      let v = lwork i left q in
      let e : suc (steps - left) + v ≡ suc (steps - left + v) = omega arith in
      let r = lrun i left q in
      subst (Done s r) e (does_then x.layout x.code rate x.from s t r.stop r.output v (suc n) (suc (steps - left)) (called s (x.places g), to, p) (call_paid c n (steps - left) one (omega arith)) y)

  -- the machine follows a call that returns no answer within these steps
  unfinished : (s : State) (ops : List Step) (l : Locations) (g i steps : ℕ) (words o : List ℕ) → machine_step x.code s ≡ Continues (called s (x.places g)) → Meets x.layout x.code c c steps (called s (x.places g)) (Unfinished o) → Comes i ops l s words steps (Unfinished o)
  unfinished s ops l g i steps words o to (n, t, p, q, b) = (suc n, t, (called s (x.places g), to, p), q, call_paid c n steps one b)

  abbrev EntersBy : (g : ℕ) → Locations → World → State → Type 0
  EntersBy g l h s = Enters x.meaning x.layout x.code g (suc x.opened) (x.places g) (words_from 10 (x.meaning.arity g) l) h (called s (x.places g))

  at_call : (s : State) (ops : List Step) (l : Locations) (h : World) (g i steps : ℕ) (words : List ℕ) → machine_step x.code s ≡ Continues (called s (x.places g)) → g < x.meaning.functions → EntersBy g l h s
      → ((a : Answer) (left : ℕ) → effect steps g l h ≡ Gives a left → Comes i ops l s words steps (Gives a left)) → (e : Effect) → effect steps g l h ≡ e → Comes i ops l s words steps e
  at_call s ops l h g i steps words to lt enter f (Gives a left) eq = f a left eq
  at_call s ops l h g i steps words to lt enter f (Unfinished o) eq =
      unfinished s ops l g i steps words o to (subst (Meets x.layout x.code c c steps (called s (x.places g))) eq (calls g (words_from 10 (x.meaning.arity g) l) h (called s (x.places g)) steps lt enter))
  at_call s ops l h g i steps words to lt enter f (Failed o) eq = tt

  call_follows : (k j : ℕ) (s : State) (ops : List Step) (l : Locations) (h : World) (g : ℕ) (words : List ℕ) → s.output ≡ h.output → machine_step x.code s ≡ Continues (called s (x.places g)) → g < x.meaning.functions → EntersBy g l h s
      → ((i steps : ℕ) → i ≤ k → steps ≤ j → (a : Answer) (left : ℕ) → effect steps g l h ≡ Gives a left → Comes i ops l s words steps (Gives a left))
      → FollowsWith (suc k) j (at_steps (One (Call g) ∷ ops) l h words) s
  call_follows k j s ops l h g words o to lt enter f zero steps le les = here s h.output o
  call_follows k j s ops l h g words o to lt enter f (suc i) steps le les = at_call s ops l h g i steps words to lt enter (f i steps (omega arith) les) (effect steps g l h) refl

  -- if the call returns no answer within j steps, it returns none within fewer
  none_fewer : (j steps g left : ℕ) (l : Locations) (h : World) (a : Answer) → steps ≤ j → effect steps g l h ≡ Gives a left → effect j g l h ≡ Gives a (left + (j - steps))
  none_fewer j steps g left l h a le eq =
      let e : steps + (j - steps) ≡ j = omega arith in
      ap (λ q. effect q g l h) (sym e) ∙ subst (λ e. Lasts (j - steps) e (effect (steps + (j - steps)) g l h)) eq (x.meaning.later steps (j - steps) (suc x.opened) g (words_from 10 (x.meaning.arity g) l) h)

  call_simulated : (k j w a0 : ℕ) {held : Scratch} (s : State) (ops : List Step) (l : Locations) (h : World) (g : ℕ) → Member 1 x.frame.saved → Within x held l h s → s.pc ≡ x.place + 4 * a0 → Standing x nothing w (a0 + 1) ops → machine_step x.code s ≡ Continues (called s (x.places g)) → g < x.meaning.functions → EntersBy g l h s → Later k
      → (e : Effect) → effect j g l h ≡ e → Simulated (suc k) j (One (Call g) ∷ ops) l h s
  call_simulated k j w a0 s ops l h g saves inside here_at st to lt enter later (Gives a left) eq =
      let met : Meets x.layout x.code c c j (called s (x.places g)) (Gives a left) = subst (Meets x.layout x.code c c j (called s (x.places g))) eq (calls g (words_from 10 (x.meaning.arity g) l) h (called s (x.places g)) j lt enter) in
      let p = met.0 in
      let t = met.1 in
      let back = met.3 in
      let paid = met.4 in
      let to_next : t.pc ≡ x.place + 4 * (a0 + 1) = back.at ∙ return_place s (x.places g) ∙ ap (λ b. b + 4) here_at ∙ (let e : x.place + 4 * a0 + 4 ≡ x.place + 4 * (a0 + 1) = omega arith in e) in
      let onward = later left w (a0 + 1) nothing ops (put (Register 10) a.value (regained l t)) a.world t to_next st (within_behind x l h s (x.places g) a t saves inside back) in
      let mine = listed 32 0 t.registers in (
        mine ++ onward.0,
        words_append mine onward.0 (listed_words 32 0 t.registers (λ r lo hi. back.sound.registers r)) onward.1,
        call_follows k j s ops l h g (mine ++ onward.0) inside.shares.output to lt enter (λ i steps le les b rest e.
            let same : Gives a left ≡ Gives b (rest + (j - steps)) = sym eq ∙ none_fewer j steps g rest l h b les e in
            let a_b : a ≡ b = cc in
            let lefts : left ≡ rest + (j - steps) = cc in
            let fewer = (x.meaning.exact (suc x.opened) g (words_from 10 (x.meaning.arity g) l) h steps rest b e).0 in
            subst (λ q. Comes i ops l s (mine ++ onward.0) steps (Gives q rest)) a_b (answers i steps rest p s ops l g a t onward.0 to met.2 (omega arith) (onward.2 i rest le (omega arith)))),
      )
  call_simulated k j w a0 s ops l h g saves inside here_at st to lt enter later (Unfinished o) eq =
      ([], tt, call_follows k j s ops l h g [] inside.shares.output to lt enter (λ i steps le les b rest e. absurd (let same : Unfinished o ≡ Gives b (rest + (j - steps)) = sym eq ∙ none_fewer j steps g rest l h b les e in cc)))
  call_simulated k j w a0 s ops l h g saves inside here_at st to lt enter later (Failed o) eq =
      ([], tt, call_follows k j s ops l h g [] inside.shares.output to lt enter (λ i steps le les b rest e. absurd (let same : Failed o ≡ Gives b (rest + (j - steps)) = sym eq ∙ none_fewer j steps g rest l h b les e in cc)))

  -- ---- the other steps

  return_follows : (k j : ℕ) (s : State) (ops : List Step) (l : Locations) (h : World) → s.output ≡ h.output → (n : ℕ) × (t : State) × Path x.code n s t × ComesBack x.layout x.from (record { value = l (Register 10); world = h }) t → FollowsWith (suc k) j (at_steps (One Return ∷ ops) l h []) s
  return_follows k j s ops l h o p zero steps le les = here s h.output o
  return_follows k j s ops l h o p (suc i) steps le les = (p.0, p.1, p.2, p.3, omega arith)

  -- a label needs no move
  label_follows : (k j n : ℕ) (s : State) (ops : List Step) (l : Locations) (h : World) (words : List ℕ) → FollowsWith k j (at_steps ops l h words) s → FollowsWith k j (at_steps (One (Label n) ∷ ops) l h words) s
  label_follows k j n s ops l h words f zero steps le les = f zero steps le les
  label_follows k j n s ops l h words f (suc i) steps le les = f (suc i) steps le les

  at_none : (j : ℕ) (ops : List Step) (l : Locations) (h : World) (s : State) → s.output ≡ h.output → FollowsWith 0 j (at_steps ops l h []) s
  at_none j ops l h s o zero steps le les = here s h.output o
  at_none j ops l h s o (suc i) steps le les = absurd (omega arith)

  simulate_next : (k : ℕ) → Later k → Later (suc k)
  simulate_next k later j w a held [] l h s e st inside = ([], tt, fails_follows (suc k) j [] l h s inside.shares.output [] refl)
  simulate_next k later j w a held (One (Label n) ∷ ops) l h s e st inside =
      let z : a + 0 ≡ a = omega arith in
      let r = simulate_next k later j (w + 0) a nothing ops l h s e (subst (λ b. Standing x nothing (w + 0) b ops) z (standing_tail x w a (One (Label n)) ops st)) (within_nothing x l h s inside) in
      (r.0, r.1, label_follows (suc k) j n s ops l h r.0 r.2)
  simulate_next k later j w a held (One (Jump n) ∷ ops) l h s e st inside = at_stepped k j (One (Jump n) ∷ ops) l h s later inside.shares.output (jump_case x w a n ops l h s (e, st, inside) all)
  simulate_next k later j w a held (One (IfZero r n) ∷ ops) l h s e st inside = at_stepped k j (One (IfZero r n) ∷ ops) l h s later inside.shares.output (if_zero_case x w a r n ops l h s (e, st, inside) all)
  simulate_next k later j w a held (One (IfNonzero r n) ∷ ops) l h s e st inside = at_stepped k j (One (IfNonzero r n) ∷ ops) l h s later inside.shares.output (if_nonzero_case x w a r n ops l h s (e, st, inside) all)
  simulate_next k later j w a held (One (Copy m) ∷ ops) l h s e st inside = at_stepped k j (One (Copy m) ∷ ops) l h s later inside.shares.output (copy_case x w a m ops l h s (e, st, inside))
  simulate_next k later j w a held (One (Const to v) ∷ ops) l h s e st inside = at_stepped k j (One (Const to v) ∷ ops) l h s later inside.shares.output (const_case x w a to v ops l h s (e, st, inside))
  simulate_next k later j w a held (One (Unary o to b) ∷ ops) l h s e st inside = at_stepped k j (One (Unary o to b) ∷ ops) l h s later inside.shares.output (unary_case x w a to b o ops l h s (e, st, inside))
  simulate_next k later j w a held (One (Binary o to b c) ∷ ops) l h s e st inside = at_case k j (One (Binary o to b c) ∷ ops) l h s later inside.shares.output (binary_case x w a to b c o ops l h s (e, st, inside))
  simulate_next k later j w a held (One (Load width g to i) ∷ ops) l h s e st inside = at_case k j (One (Load width g to i) ∷ ops) l h s later inside.shares.output (load_case x w a width g to i ops l h s (e, st, inside))
  simulate_next k later j w a held (One (Store width g i b) ∷ ops) l h s e st inside = at_case k j (One (Store width g i b) ∷ ops) l h s later inside.shares.output (store_case x w a width g i b ops l h s (e, st, inside))
  simulate_next k later j w a held (One Read ∷ ops) l h s e st inside = at_stepped k j (One Read ∷ ops) l h s later inside.shares.output (read_case x w a ops l h s (e, st, inside))
  simulate_next k later j w a held (One Write ∷ ops) l h s e st inside = at_stepped k j (One Write ∷ ops) l h s later inside.shares.output (write_case x w a ops l h s (e, st, inside))
  simulate_next k later j w a held (One (Call g) ∷ ops) l h s e st inside =
      let fine = st.fine.0 in
      let on_s : IsPlace s.pc = subst IsPlace (sym e) st.from in
      call_simulated k j _ a s ops l h g fine.2 inside e (standing_tail x w a (One (Call g)) ops st) (called_step x.code s (x.place + 4 * a) (x.places g) e st.from (all_places g fine.0) (first_items x w a (One (Call g)) ops st).0) fine.0 (enters_callee x g l h s (first_calls x w a (One (Call g)) ops st).0 fine.1 on_s inside) later (effect j g l h) refl
  simulate_next k later j w a held (Immediate o to b v ∷ ops) l h s e st inside = at_stepped k j (Immediate o to b v ∷ ops) l h s later inside.shares.output (immediate_case x w a o to b v ops l h s (e, st, inside))
  simulate_next k later j w a held (LoadAt width g to n ∷ ops) l h s e st inside = at_case k j (LoadAt width g to n ∷ ops) l h s later inside.shares.output (load_at_case x w a width g to n ops l h s (e, st, inside))
  simulate_next k later j w a held (StoreAt width g n b ∷ ops) l h s e st inside = at_case k j (StoreAt width g n b ∷ ops) l h s later inside.shares.output (store_at_case x w a width g n b ops l h s (e, st, inside))
  simulate_next k later j w a held (LoadNear width g to i n ∷ ops) l h s e st inside = at_case k j (LoadNear width g to i n ∷ ops) l h s later inside.shares.output (load_near_case x w a width g to i n ops l h s (e, st, inside))
  simulate_next k later j w a held (StoreNear width g i n b ∷ ops) l h s e st inside = at_case k j (StoreNear width g i n b ∷ ops) l h s later inside.shares.output (store_near_case x w a width g i n b ops l h s (e, st, inside))
  simulate_next k later j w a held (Branch o nonzero b c n ∷ ops) l h s e st inside = at_stepped k j (Branch o nonzero b c n ∷ ops) l h s later inside.shares.output (branch_case x w a o nonzero b c n ops l h s (e, st, inside) all)
  simulate_next k later j w a held (BranchImmediate o nonzero b v n ∷ ops) l h s e st inside = at_stepped k j (BranchImmediate o nonzero b v n ∷ ops) l h s later inside.shares.output (branch_immediate_case x w a o nonzero b v n ops l h s (e, st, inside) all)
  simulate_next k later j w a held (One Return ∷ ops) l h s e st inside = ([], tt, return_follows k j s ops l h inside.shares.output (return_path x w a ops l h s sound back e st inside))

  pub simulate : (k : ℕ) → Later k
  simulate zero j w a held ops l h s e st inside = ([], tt, at_none j ops l h s inside.shares.output)
  simulate (suc k) j w a held ops l h s e st inside = simulate_next k (simulate k) j w a held ops l h s e st inside

-- ---- the whole function

-- the run starts with what the machine's registers and memory hold
same_locations : (f : Frame) (ws : List ℕ) (t : State) (words : List ℕ) → at_entry f.slots (listed 32 0 t.registers ++ (listed f.slots 0 (λ k. t.memory (t.registers 2 + 4 * k)) ++ words)) ws ≡ found f t ws
same_locations f ws t words = λ i k. at_location k i
  where
    mine : List ℕ
    mine = listed 32 0 t.registers

    slots : List ℕ
    slots = listed f.slots 0 (λ k. t.memory (t.registers 2 + 4 * k))

    at_location : (k : Location) → at_entry f.slots (mine ++ (slots ++ words)) ws k ≡ found f t ws k
    at_location (Register r) = ap (λ xs. if nat_le 10 r then get_or ws (r - 10) (get_or xs r 0) else get_or xs r 0) (take_listed 32 0 t.registers (slots ++ words))
    at_location (Slot i) = ap (λ xs. get_or (take f.slots xs) i 0) (drop_listed 32 0 t.registers (slots ++ words)) ∙ ap (λ xs. get_or xs i 0) (take_listed f.slots 0 (λ k. t.memory (t.registers 2 + 4 * k)) words)

same_start : (f : Frame) (ops : List Step) (ws : List ℕ) (h : World) (t : State) (words : List ℕ)
    → selected_start f.slots ops (listed 32 0 t.registers ++ (listed f.slots 0 (λ k. t.memory (t.registers 2 + 4 * k)) ++ words)) ws h ≡ at_steps ops (found f t ws) h words
same_start f ops ws h t words =
    let slots = listed f.slots 0 (λ k. t.memory (t.registers 2 + 4 * k)) in
    ap₂ (λ (k : Locations) (xs : List ℕ). at_steps ops k h xs) (same_locations f ws t words)
    (ap (λ xs. drop f.slots xs) (drop_listed 32 0 t.registers (slots ++ words)) ∙ drop_listed f.slots 0 (λ k. t.memory (t.registers 2 + 4 * k)) words)

rate_paid : (r c v p m n left : ℕ) → 1 ≤ c → n ≤ left + r * suc v → v ≤ (c + c) * m → n ≤ left + (r + r) * c + (r + r) * c * (p + m)
rate_paid r c v p m n left one a b =
    let j : (c + c) * m ≤ (c + c) * (p + m) = mul-le-mul_left (c + c) (let z : m ≤ p + m = omega arith in z) in
    let e : r * v ≤ r * ((c + c) * (p + m)) = mul-le-mul_left r (let z : v ≤ (c + c) * (p + m) = omega arith in z) in
    let f : r * ((c + c) * (p + m)) ≡ r * (c + c) * (p + m) = sym (mul_assoc r (c + c) (p + m)) in
    let g : r * (c + c) ≡ (r + r) * c = mul-add r c c ∙ sym (add-mul r r c) in
    let i : r * (c + c) * (p + m) ≡ (r + r) * c * (p + m) = ap (λ x. x * (p + m)) g in
    let s : r * suc v ≡ r * v + r = mul-suc r v in
    let u : r * 1 ≤ r * c = mul-le-mul_left r one in
    let t : (r + r) * c ≡ r * c + r * c = add-mul r r c in
    let y : r * 1 ≡ r = omega arith in
    omega arith

pub meets_of : {b : List Size} (y : ObjectLayout b) (code : Code) (r c p n : ℕ) (s t : State) (e : Effect) (v : ℕ) (z : Outcome Answer) → 1 ≤ c → Path code p s t → Keeps r n e v z → Does y code (c + c) s t z v → Meets y code ((r + r) * c) ((r + r) * c) n s e
meets_of y code r c p n s t (Gives a left) v z one path (e, b) does =
    let does' = subst (λ x. Does y code (c + c) s t x v) e does in
    (p + does'.0, does'.1, path_then code p does'.0 s t does'.1 path does'.2, does'.3, rate_paid r c v p does'.0 n left one b does'.4)
meets_of y code r c p n s t (Unfinished o) v z one path (e, b) does =
    let does' = subst (λ x. Does y code (c + c) s t x v) e does in
    (p + does'.0, does'.1, path_then code p does'.0 s t does'.1 path does'.2, does'.3, (let f = rate_paid r c v p does'.0 n 0 one (omega arith) does'.4 in omega arith))
meets_of y code r c p n s t (Failed o) v z one path k does = tt

-- the function's items come after its prologue
pub standing_all : (x : Site) → IsPlace x.place → IsPlace (x.place + 4 * length (framed_items x.layout.base x.frame (all_addressed x))) → Stands x x.place (framed_items x.layout.base x.frame (all_addressed x)) → EachCalled (HasRoom x) (framed_items x.layout.base x.frame (all_addressed x)) → AreFine x.meaning x.frame x.steps → Stands x x.place (prologue x.frame) × StandsWhole x
standing_all x from to placed calls fine =
    let f = x.frame in
    let first = prologue f in
    let rest = emitted x.layout.base f (near x) (labels x) 0 (prologue_size f) (all_addressed x) in
    let both = placed_append x.code x.places x.place x.place first rest placed in
    let move = stack_moved f (2 ^ 32 - frame_size f) in
    let m : length (move ++ saving (4 * f.slots) f.saved) ≡ _ = length-append move (saving (4 * f.slots) f.saved) ∙ ap₂ (λ i k. i + k) (length_stack_moved f _) (length_saving (4 * f.slots) f.saved) in
    let n : length first ≡ prologue_size f = length-append (pointer_items f) (move ++ saving (4 * f.slots) f.saved) ∙ ap₂ (λ i k. i + k) (length_pointer_items f) m in
    let long : length (first ++ rest) ≡ length first + length rest = length-append first rest in
    let e : x.place + 4 * length first ≡ x.place + 4 * prologue_size f = omega arith in
    let end : x.place + 4 * length (first ++ rest) ≡ x.place + 4 * prologue_size f + 4 * length rest = omega arith in
    let last : IsPlace (x.place + 4 * prologue_size f + 4 * length rest) = subst IsPlace end to in
    let z = from.aligned in (
      both.0,
      record {
        placed = subst (λ b. Stands x b rest) e both.1;
        from = between x.place (x.place + 4 * prologue_size f) _ from last (omega arith) (omega arith) (omega arith);
        to = last;
        last = refl;
        calls = (each_append (HasRoom x) first rest calls).1;
        fine = fine;
        seen = seen_first f (all_addressed x);
      },
    )

-- what is emitted in a frame meets a piece's contract
pub framed_meets : (meaning : Meaning) (layout : ObjectLayout meaning.objects) (f rate : ℕ) (frame : Frame) (ops : List Step) → TracksForAll meaning f rate (selected_move meaning.arity ops) selected_output (selected_start frame.slots ops) → IsFrame frame → AreFine meaning frame ops
    → PieceMeets meaning layout f (frame_size frame) (rate + rate) (framed_items layout.base frame (addressed layout.base frame.sets_pointer nothing ops))
framed_meets meaning layout f rate frame ops keeps is_frame fine code places place from to placed enough all_places d c below one calls ws h s n enters =
    let small = is_frame.small in
    let own = enough.own d below in
    let entered = enters.room in
    let x : Site = record { meaning = meaning; layout = layout; frame = frame; steps = ops; code = code; places = places; place = place; from = s; opened = d; is_frame = is_frame; aligned = enters.aligned; room = omega arith; top = enters.top } in
    let bound = keeps d below ws h enters.is_call n in
    let most = bound.0 in
    let most_steps = bound.1 in
    let stand = standing_all x from to placed (each_map (λ g. frame_size frame + code.need g (suc d) ≤ code.need f d) (HasRoom x) (λ g (le : frame_size frame + code.need g (suc d) ≤ code.need f d). omega arith) (framed_items layout.base frame (addressed layout.base frame.sets_pointer nothing ops)) (enough.calls d below)) fine in
    let t = framed frame s in
    let on_s : Placed code places place s.pc (prologue frame) = subst (λ b. Placed code places place b (prologue frame)) (sym enters.at) stand.0 in
    let path : Path code (prologue_size frame) s t = prologue_path code places place frame s enters.aligned x.room enters.top small on_s in
    let within = framed_within x f d ws h enters in
    let sim = simulate x c one all_places calls enters.sound enters.back stand.1 most most_steps 0 (prologue_size frame) nothing ops (found frame t ws) h t (framed_pc frame s place enters.at) stand.1 within in
    let mine = listed 32 0 t.registers in
    let slots = listed frame.slots 0 (λ k. t.memory (t.registers 2 + 4 * k)) in
    let words = mine ++ (slots ++ sim.0) in
    let are : AreWords words = words_append mine (slots ++ sim.0) (listed_words 32 0 t.registers (λ r lo hi. within.sound.registers r)) (words_append slots sim.0 (listed_words frame.slots 0 _ (λ i lo hi. within.sound.memory (t.registers 2 + 4 * i))) sim.1) in
    let k = bound.2 words are in
    let q = selected_start frame.slots ops words ws h in
    let outcome = run (selected_move meaning.arity ops) selected_output (call_effect meaning (suc d)) k.moves k.steps q in
    let done = work (selected_move meaning.arity ops) (call_effect meaning (suc d)) k.moves k.steps q in
    let does = subst (λ q. Does layout code (c + c) s t (run (selected_move meaning.arity ops) selected_output (call_effect meaning (suc d)) k.moves k.steps q) (work (selected_move meaning.arity ops) (call_effect meaning (suc d)) k.moves k.steps q)) (sym (same_start frame ops ws h t sim.0)) (sim.2 k.moves k.steps k.few k.few_steps) in
    meets_of layout code rate c (prologue_size frame) n s t (meaning.body n d f ws h) done outcome one path k.keeps does
