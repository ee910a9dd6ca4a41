-- The instructions of a loop do what the source's turns do.
use Rattle.std.proofs.Common.{◌≡◌, ℕ, zero, suc, ◌+◌, ◌-◌, ◌<◌, ◌≤◌, List, [], ◌∷◌, ◌++◌, length, Some, slice_get, refl, ap, ◌∙◌, arith, length-append}
use Rattle.std.proofs.lemmas.Bool.{le-leb}
use Rattle.cc_meaning.specs.declared.form.Instruction.{Instruction}
use Rattle.cc_meaning.specs.declared.form.Instruction.TheVariants as instruction
use Rattle.cc_meaning.specs.internal.Form.{FormTree, turns_code}
use Rattle.cc_layout.specs.Environment.{Environment}
use Rattle.cc_layout.specs.Layout.{Layout}
use Rattle.cc_c_semantics.specs.Outcome as outcome
use Rattle.cc_c_semantics.specs.Meaning.{State, Run, Gives, Flow, Falls, Breaks, Continues, Returns, then_do, choose, spend_of, behind_body, begin_body, turns}
use Rattle.cc_meaning.specs.internal.FormMeaning.{Activation, Configuration, Goes, only_if, jump, stepped}
use Rattle.cc_meaning.proofs.Moves.{Leads, conf, Meets, meets_then, Stands, stands_left, stands_right, instructed, instructed_last, may_jump}
use Rattle.cc_meaning.proofs.Fits.{Fits}
use Rattle.cc_meaning.proofs.Expressions.{Value, Part}
use Rattle.cc_meaning.proofs.Actions.{Acted}
use Rattle.cc_meaning.proofs.Blocks.{Reaches, Done, done_after, reaches_after}

-- the places of a loop's parts: its step, its body, what follows the body, its test, and the backward jump
pub record Loop (code : List Instruction) (body following test : List Instruction) (p : ℕ) : Type 0 where
  pub begins : slice_get code p ≡ Some instruction.Step
  pub has_body : Stands code (p + 1) body
  pub has_following : Stands code (p + 1 + length body) following
  pub has_test : Stands code (p + 1 + length body + length following) test
  pub repeats : slice_get code (p + 1 + length body + length following + length test) ≡ Some (instruction.Repeat (1 + length body + length following + length test))
  pub ends : p + 1 + length body + length following + length test + 1 ≤ length code

pub turns_length : (body following test : List Instruction) → length (turns_code body following test) ≡ 1 + length body + length following + length test + 1
turns_length body following test =
    let a = length-append (((instruction.Step ∷ body) ++ following) ++ test) (instruction.Repeat (1 + length body + length following + length test) ∷ []) in
    let b = length-append ((instruction.Step ∷ body) ++ following) test in
    let c = length-append (instruction.Step ∷ body) following in
    omega arith

pub loop_stands : (code body following test : List Instruction) (p : ℕ) → Stands code p (turns_code body following test) → Loop code body following test p
loop_stands code body following test p st =
    let last = instruction.Repeat (1 + length body + length following + length test) ∷ [] in
    let one = instruction.Step ∷ body in
    let b = length-append (one ++ following) test in
    let c = length-append one following in
    let in_three = stands_left code p ((one ++ following) ++ test) last st in
    let in_two = stands_left code p (one ++ following) test in_three in
    let in_one = stands_left code p one following in_two in
    let at_last = stands_right code p (p + 1 + length body + length following + length test) ((one ++ following) ++ test) last (omega arith) st in
    record {
      begins = in_one.0;
      has_body = in_one.1;
      has_following = stands_right code p (p + 1 + length body) one following (omega arith) in_two;
      has_test = stands_right code p (p + 1 + length body + length following) (one ++ following) test (omega arith) in_three;
      repeats = at_last.0;
      ends = at_last.1;
    }

module _ (form : FormTree) (cs : List Activation) (total n : ℕ) (layout : Layout) (v : Environment) (laid : v.layout ≡ layout) (body following test : List Instruction) (p : ℕ) (loop : Loop form.code body following test p)
    (condition : State → Run ℕ) (inside behind : State → Run Flow) where
  abbrev body_at : ℕ
  body_at = p + 1

  abbrev following_at : ℕ
  following_at = p + 1 + length body

  abbrev test_at : ℕ
  test_at = p + 1 + length body + length following

  abbrev repeat_at : ℕ
  repeat_at = p + 1 + length body + length following + length test

  abbrev end_at : ℕ
  end_at = p + 1 + length body + length following + length test + 1

  -- how a loop ends: it falls through or returns
  abbrev Ends : Configuration → ℕ → (b k : State → Type 0) → Flow → State → Type 0
  Ends c most b k = Done form cs total layout c most (Reaches form cs total c v most end_at) b k

  -- once the body has ended, the loop goes on, or ends as the source's loop does
  behind_body_meets : (c : Configuration) (most : ℕ) (b k : State → Type 0) (go : State → Run Flow) (flow : Flow) (t : State)
      → ((vs : List ℕ) (u : State) → Fits v total most vs u → Meets form (conf following_at vs [] cs u) (Ends (conf following_at vs [] cs u) most b k) (go u))
      → Done form cs total layout c most (Reaches form cs total c v most following_at) (Reaches form cs total c v most end_at) (Reaches form cs total c v most following_at) flow t
      → Meets form c (Ends c most b k) (behind_body flow go t)
  behind_body_meets c most b k go Falls t f h =
      done_after form cs total layout c (conf following_at h.variables [] cs t) most most (Reaches form cs total (conf following_at h.variables [] cs t) v most end_at) b k (Reaches form cs total c v most end_at) b k (go t) h.leads (omega arith)
      (λ u x. reaches_after form cs total c (conf following_at h.variables [] cs t) v v most most end_at end_at u h.leads refl refl (omega arith) refl x) (λ u x. x) (λ u x. x) (f h.variables t h.fits)
  behind_body_meets c most b k go Breaks t f h = h
  behind_body_meets c most b k go Continues t f h =
      done_after form cs total layout c (conf following_at h.variables [] cs t) most most (Reaches form cs total (conf following_at h.variables [] cs t) v most end_at) b k (Reaches form cs total c v most end_at) b k (go t) h.leads (omega arith)
      (λ u x. reaches_after form cs total c (conf following_at h.variables [] cs t) v v most most end_at end_at u h.leads refl refl (omega arith) refl x) (λ u x. x) (λ u x. x) (f h.variables t h.fits)
  behind_body_meets c most b k go (Returns w) t f h = h

  -- the instructions of the body do what the body of a turn does, with any locals
  abbrev pub BodyDoes : Type 0
  BodyDoes = (most : ℕ) (vs : List ℕ) (t : State) → most < n → Fits v total most vs t
      → Meets form (conf body_at vs [] cs t)
      (Done form cs total layout (conf body_at vs [] cs t) most (Reaches form cs total (conf body_at vs [] cs t) v most following_at) (Reaches form cs total (conf body_at vs [] cs t) v most end_at) (Reaches form cs total (conf body_at vs [] cs t) v most following_at))
      (inside t)

  -- a step is spent, and then the body runs
  step_by : (left most : ℕ) (b k : State → Type 0) (vs : List ℕ) (go : State → Run Flow) (t : State) → BodyDoes → t.steps ≡ left → most < n → Fits v total most vs t
      → ((less : ℕ) (vs : List ℕ) (u : State) → less < most → Fits v total less vs u → Meets form (conf following_at vs [] cs u) (Ends (conf following_at vs [] cs u) less b k) (go u))
      → Meets form (conf p vs [] cs t) (Ends (conf p vs [] cs t) most b k) (spend_of left (λ u. then_do (inside u) (λ flow x. behind_body flow go x)) t)
  step_by zero most b k vs go t does e lt h f =
      instructed_last form instruction.Step p vs [] cs t outcome.Going loop.begins
      (ap (λ l. stepped l (λ m. Goes (conf (p + 1) vs [] cs (record t { steps = m })))) e)
  step_by (suc left) most b k vs go t does e lt h f =
      let u : State = record t { steps = left } in
      let c = conf p vs [] cs t in
      let d = conf body_at vs [] cs u in
      let to : Leads form c d =
      instructed form instruction.Step p vs [] cs t d loop.begins (ap (λ l. stepped l (λ m. Goes (conf (p + 1) vs [] cs (record t { steps = m })))) e) in
      let fewer : left < most = let k = h.steps in omega arith in
      let fits : Fits v total left vs u = record { names = h.names; laid = h.laid; junk = h.junk; holds = h.holds; room = h.room; steps = omega arith } in
      done_after form cs total layout c d left most (Reaches form cs total d v left end_at) b k (Reaches form cs total c v most end_at) b k (then_do (inside u) (λ flow x. behind_body flow go x)) to (omega arith)
      (λ x y. reaches_after form cs total c d v v left most end_at end_at x to refl refl (omega arith) refl y) (λ x y. y) (λ x y. y)
      (meets_then form d (Done form cs total layout d left (Reaches form cs total d v left following_at) (Reaches form cs total d v left end_at) (Reaches form cs total d v left following_at)) (Ends d left b k) (inside u)
      (λ flow x. behind_body flow go x) (does left vs u (omega arith) fits) (λ flow x got. behind_body_meets d left b k go flow x (λ vs' y fits'. f left vs' y fewer fits') got))

  pub begins_meet : (most : ℕ) (b k : State → Type 0) (vs : List ℕ) (go : State → Run Flow) (t : State) → BodyDoes → most < n → Fits v total most vs t
      → ((less : ℕ) (vs : List ℕ) (u : State) → less < most → Fits v total less vs u → Meets form (conf following_at vs [] cs u) (Ends (conf following_at vs [] cs u) less b k) (go u))
      → Meets form (conf p vs [] cs t) (Ends (conf p vs [] cs t) most b k) (begin_body inside go t)
  begins_meet most b k vs go t does lt h f = step_by t.steps most b k vs go t does refl lt h f

  -- if the word is not 0, the backward jump leads to the step
  goes_back : (vs : List ℕ) (w : ℕ) (t : State) → Leads form (conf repeat_at vs (suc w ∷ []) cs t) (conf p vs [] cs t)
  goes_back vs w t =
      let size = 1 + length body + length following + length test in
      let back_to : repeat_at + 1 - (size + 1) ≡ p = omega arith in
      let ends = loop.ends in
      instructed form (instruction.Repeat size) repeat_at vs (suc w ∷ []) cs t (conf p vs [] cs t) loop.repeats
      (ap (λ b. only_if b (jump form (repeat_at + 1 - (size + 1)) (conf (repeat_at + 1) vs [] cs t))) (le-leb (size + 1) (repeat_at + 1) (omega arith))
      ∙ ap (λ q. jump form q (conf (repeat_at + 1) vs [] cs t)) back_to ∙ may_jump form p (Goes (conf p vs [] cs t)) (omega arith))

  abbrev pub TestDoes : Type 0
  TestDoes = (most : ℕ) (vs : List ℕ) → most < n → Part form cs total v most vs test condition

  abbrev pub FollowingDoes : Type 0
  FollowingDoes = (most : ℕ) (vs : List ℕ) (t : State) → most < n → Fits v total most vs t
      → Meets form (conf following_at vs [] cs t) (Acted form cs total (conf following_at vs [] cs t) v most test_at) (behind t)

  -- after the test, the loop takes another turn, or ends
  tested : (i most w : ℕ) (b k : State → Type 0) (vs : List ℕ) (t : State) → BodyDoes → FollowingDoes → most < suc i → most < n → Fits v total most vs t
      → ((less : ℕ) (vs : List ℕ) (u : State) → less < i → less < n → Fits v total less vs u → Meets form (conf test_at vs [] cs u) (Ends (conf test_at vs [] cs u) less b k) (turns i condition inside behind u))
      → Meets form (conf repeat_at vs (w ∷ []) cs t) (Ends (conf repeat_at vs (w ∷ []) cs t) most b k)
      (choose w (begin_body inside (λ u. then_do (behind u) (λ flow x. turns i condition inside behind x))) (λ u. Gives Falls u) t)
  tested i most zero b k vs t does follows lt less h ih = record {
    variables = vs;
    fits = h;
    leads = instructed form (instruction.Repeat (1 + length body + length following + length test)) repeat_at vs (zero ∷ []) cs t (conf end_at vs [] cs t) loop.repeats refl;
  }
  tested i most (suc w) b k vs t does follows lt less h ih =
      let c = conf repeat_at vs (suc w ∷ []) cs t in
      let d = conf p vs [] cs t in
      let go : State → Run Flow = λ u. then_do (behind u) (λ flow x. turns i condition inside behind x) in
      let to = goes_back vs w t in
      done_after form cs total layout c d most most (Reaches form cs total d v most end_at) b k (Reaches form cs total c v most end_at) b k (begin_body inside go t) to (omega arith)
      (λ x y. reaches_after form cs total c d v v most most end_at end_at x to refl refl (omega arith) refl y) (λ x y. y) (λ x y. y)
      (begins_meet most b k vs go t does less h
      (λ fewer vs' u lt' fits.
      let e = conf following_at vs' [] cs u in
      meets_then form e (Acted form cs total e v fewer test_at) (Ends e fewer b k) (behind u) (λ flow x. turns i condition inside behind x) (follows fewer vs' u (omega arith) fits)
      (λ flow x got.
      let g = conf test_at got.variables [] cs x in
      done_after form cs total layout e g fewer fewer (Reaches form cs total g v fewer end_at) b k (Reaches form cs total e v fewer end_at) b k (turns i condition inside behind x) got.leads (omega arith)
      (λ y z. reaches_after form cs total e g v v fewer fewer end_at end_at y got.leads refl refl (omega arith) refl z) (λ y z. z) (λ y z. z)
      (ih fewer got.variables x (omega arith) (omega arith) got.fits))))

  pub turns_meet : (i most : ℕ) (b k : State → Type 0) (vs : List ℕ) (t : State) → TestDoes → BodyDoes → FollowingDoes → most < i → most < n → Fits v total most vs t
      → Meets form (conf test_at vs [] cs t) (Ends (conf test_at vs [] cs t) most b k) (turns i condition inside behind t)
  turns_meet zero most b k vs t tests does follows lt less h = absurd (omega arith)
  turns_meet (suc i) most b k vs t tests does follows lt less h =
      let c = conf test_at vs [] cs t in
      meets_then form c (Value form cs total c v most vs repeat_at []) (Ends c most b k) (condition t)
      (λ w u. choose w (begin_body inside (λ x. then_do (behind x) (λ flow y. turns i condition inside behind y))) (λ x. Gives Falls x) u) (tests most vs less test_at [] t loop.has_test h)
      (λ w u got.
      let d = conf repeat_at vs (w ∷ []) cs u in
      done_after form cs total layout c d most most (Reaches form cs total d v most end_at) b k (Reaches form cs total c v most end_at) b k
      (choose w (begin_body inside (λ x. then_do (behind x) (λ flow y. turns i condition inside behind y))) (λ x. Gives Falls x) u) got.leads (omega arith)
      (λ y z. reaches_after form cs total c d v v most most end_at end_at y got.leads refl refl (omega arith) refl z) (λ y z. z) (λ y z. z)
      (tested i most w b k vs u does follows lt less got.fits (λ fewer vs' x lt' less' fits. turns_meet i fewer b k vs' x tests does follows lt' less' fits)))
