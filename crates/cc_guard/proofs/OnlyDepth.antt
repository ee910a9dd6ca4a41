-- If code, unchanged, keeps up with the checked function, and goes wrong if the function does, then the function goes wrong only
-- because calls are nested too deep. For if it went wrong for another cause, the checked function would run for ever, so a run
-- of the code would go wrong at no bound. But the code goes wrong in the plain meaning, and the two meanings agree on every
-- function that it calls. So, by induction on the number of open calls, the plain and the checked meaning of such a unit are the
-- same.
use Rattle.std.proofs.Common.{◌≡◌, ℕ, zero, suc, ◌+◌, ◌-◌, ◌<◌, Bool, true, false, List, [], length, unwrap_or, refl, sym, ap, ◌∙◌, subst, inl, inr, arith}
use Rattle.std.specs.Prelude.{if◌then◌else◌}
use Rattle.std.proofs.lemmas.Bool.{cases_lt}
use Rattle.cc_ast.specs.Tree.{External}
use Rattle.cc_c_semantics.specs.Outcome as outcome
use Rattle.cc_c_semantics.specs.Outcome.{Wrong}
use Rattle.cc_c_semantics.specs.Meaning.{functions}
use Rattle.cc_c_semantics.specs.Function as by_name
use Rattle.cc_c_semantics.specs.Function.{body_of_function}
use Rattle.cc_c_semantics.specs.Calls.{WithMoreSteps, BodiesGoOn, main_of, first_shared, HasMain, TypedUnitsHaveMain}
use Rattle.cc_c_semantics.specs.Checked.{stays, checked_stop, behavior}
use Rattle.cc_c_semantics.specs.declared.cause.Cause.{Cause}
use Rattle.cc_c_semantics.specs.declared.cause.Cause.TheVariants.{Division, Shift, Index, Depth}
use Rattle.cc_c_semantics.specs.declared.mode.Mode.{Mode}
use Rattle.cc_c_semantics.specs.declared.mode.Mode.TheVariants.{Plain, Checked}
use Rattle.cc_c_semantics.specs.Numbered.{world_of, shared_in, numbered, call_in, IsMeaning, TypedUnitsHaveMeanings, stop_without_cause, without_cause, outcome_by_number, ProgramsAreNumbered}
use Rattle.cc_simulation.specs.Behavior as runs
use Rattle.cc_simulation.specs.Behavior.{IsRight, Follows}
use Rattle.cc_simulation.specs.World.{World, Question, Answer, Effect, Gives, Unfinished, Failed, IsWorld}
use Rattle.cc_simulation.specs.Run.{Move, Goes, Calls, Returns, Fails, run, act, resumed, work}
use Rattle.cc_simulation.specs.Meaning.{Meaning, most_open, IsCall, call_effect, answered}
use Rattle.cc_simulation.specs.Tracks.{Keeps}
use Rattle.cc_cminor_language.specs.Cminor.{Statement, Config, cminor_move, cminor_output, cminor_start}
use Rattle.cc_cminor_language.proofs.Layer.{follows_of}
use Rattle.cc_guard.specs.Safe.{NeedsNoGuard, NoneNeedsGuard, OnlyDepthIsLeft}
use Rattle.cc_guard.proofs.Words.{IsAsked, IsOfWords, IsGiven, Onward, moves_on, starts_on}

-- a plain and a checked meaning of a unit
module _ (unit : List External) (each : NoneNeedsGuard unit) (go_on : BodiesGoOn) (p c : Meaning) (plain : IsMeaning Plain unit p) (checked : IsMeaning Checked unit c) where
  abbrev Fits : Effect → Type 0
  Fits (Gives a left) = IsGiven unit a
  Fits (Unfinished o) = Unit {0}
  Fits (Failed o) = Unit {0}

  is_call : (mode : Mode) (m : Meaning) → IsMeaning mode unit m → (f : ℕ) (ws : List ℕ) (h : World) → IsAsked unit f ws h → IsCall m f ws h
  is_call mode m is f ws h asked = record {
    count = asked.count ∙ sym (ap (λ (a : ℕ → ℕ). a f) is.arity);
    words = asked.words;
    world = subst (λ zs. IsWorld zs h) (sym is.objects) asked.world;
  }

  -- the two meanings are the same while this many calls are open
  abbrev Same : (opened : ℕ) → Type 0
  Same opened = (n f : ℕ) (ws : List ℕ) (h : World) → IsAsked unit f ws h → (p.call n opened f ws h ≡ c.call n opened f ws h) × Fits (c.call n opened f ws h)

  module _ (opened : ℕ) (up : Same (suc opened)) where
    abbrev plainly : ℕ → Question → Effect
    plainly j q = call_effect p (suc opened) j q

    abbrev checkedly : ℕ → Question → Effect
    checkedly j q = call_effect c (suc opened) j q

    abbrev runs_in : (ℕ → Question → Effect) → ℕ → ℕ → Config → runs.Outcome Answer
    runs_in effect k j x = run cminor_move cminor_output effect k j x

    -- ---- a run is the same in both meanings

    same_resumed : (k : ℕ) (e : Effect) (resume : Answer → Config) → Fits e → ((a : Answer) → IsGiven unit a → IsOfWords unit (resume a)) → ((j : ℕ) (x : Config) → IsOfWords unit x → runs_in plainly k j x ≡ runs_in checkedly k j x)
        → resumed e resume (runs_in plainly k) ≡ resumed e resume (runs_in checkedly k)
    same_resumed k (Gives a left) resume fits goes ih = ih left (resume a) (goes a fits)
    same_resumed k (Unfinished o) resume fits goes ih = refl
    same_resumed k (Failed o) resume fits goes ih = refl

    same_act : (k j : ℕ) (o : List ℕ) (m : Move Config) → Onward unit m → ((j : ℕ) (x : Config) → IsOfWords unit x → runs_in plainly k j x ≡ runs_in checkedly k j x)
        → act plainly m o j (runs_in plainly k) ≡ act checkedly m o j (runs_in checkedly k)
    same_act k j o (Goes x) on ih = ih j x on
    same_act k j o (Calls q resume) on ih =
        let s = up j q.function q.arguments q.world on.0 in
        ap (λ e. resumed e resume (runs_in plainly k)) s.0 ∙ same_resumed k (checkedly j q) resume s.1 on.1 ih
    same_act k j o (Returns r) on ih = refl
    same_act k j o Fails on ih = refl

    same_run : (k j : ℕ) (x : Config) → IsOfWords unit x → runs_in plainly k j x ≡ runs_in checkedly k j x
    same_run zero j x is = refl
    same_run (suc k) j x is = same_act k j (cminor_output x) (cminor_move x) (moves_on unit x is) (same_run k)

    -- ---- a run that ends gives a word

    given_resumed : (k : ℕ) (e : Effect) (resume : Answer → Config) → Fits e → ((a : Answer) → IsGiven unit a → IsOfWords unit (resume a)) → ((j : ℕ) (x : Config) (b : Answer) → IsOfWords unit x → (runs_in checkedly k j x).stop ≡ runs.Ended b → IsGiven unit b)
        → (b : Answer) → (resumed e resume (runs_in checkedly k)).stop ≡ runs.Ended b → IsGiven unit b
    given_resumed k (Gives a left) resume fits goes ih b e = ih left (resume a) b (goes a fits) e
    given_resumed k (Unfinished o) resume fits goes ih b e = absurd (let f : runs.Going ≡ runs.Ended b = e in cc)
    given_resumed k (Failed o) resume fits goes ih b e = absurd (let f : runs.Wrong ≡ runs.Ended b = e in cc)

    given_act : (k j : ℕ) (o : List ℕ) (m : Move Config) → Onward unit m → ((j : ℕ) (x : Config) (b : Answer) → IsOfWords unit x → (runs_in checkedly k j x).stop ≡ runs.Ended b → IsGiven unit b)
        → (b : Answer) → (act checkedly m o j (runs_in checkedly k)).stop ≡ runs.Ended b → IsGiven unit b
    given_act k j o (Goes x) on ih b e = ih j x b on e
    given_act k j o (Calls q resume) on ih b e = given_resumed k (checkedly j q) resume (up j q.function q.arguments q.world on.0).1 on.1 ih b e
    given_act k j o (Returns r) on ih b e = subst (λ a. IsGiven unit a) (let f : runs.Ended r ≡ runs.Ended b = e in cc) on
    given_act k j o Fails on ih b e = absurd (let f : runs.Wrong ≡ runs.Ended b = e in cc)

    given : (k j : ℕ) (x : Config) (b : Answer) → IsOfWords unit x → (runs_in checkedly k j x).stop ≡ runs.Ended b → IsGiven unit b
    given zero j x b is e = absurd (let f : runs.Going ≡ runs.Ended b = e in cc)
    given (suc k) j x b is e = given_act k j (cminor_output x) (cminor_move x) (moves_on unit x is) (given k) b e

    -- ---- a body

    module _ (below : opened < most_open) (f : ℕ) (ws : List ℕ) (h : World) (asked : IsAsked unit f ws h) where
      abbrev code : Statement
      code = (each f asked.below).0

      needs : NeedsNoGuard unit f code
      needs = (each f asked.below).1

      start : IsOfWords unit (cminor_start code ws h)
      start = starts_on unit code needs.calls needs.constants f ws h asked

      abbrev body : ℕ → by_name.Effect by_name.Answer
      body n = body_of_function unit n opened f ws (shared_in unit h)

      plain_is : (n : ℕ) → p.body n opened f ws h ≡ numbered Plain (body n)
      plain_is n = ap (λ (b : ℕ → ℕ → ℕ → List ℕ → World → Effect). b n opened f ws h) plain.body

      checked_is : (n : ℕ) → c.body n opened f ws h ≡ numbered Checked (body n)
      checked_is n = ap (λ (b : ℕ → ℕ → ℕ → List ℕ → World → Effect). b n opened f ws h) checked.body

      -- an answer of the body is a word and a world of words
      answer_given : (n left : ℕ) (a : Answer) → c.body n opened f ws h ≡ Gives a left → IsGiven unit a
      answer_given n left a e =
          let t = needs.keeps_up c checked opened below ws h (is_call Checked c checked f ws h asked) n in
          let k = subst (λ (x : Effect). Keeps 1 n x (work cminor_move checkedly t.2.moves t.2.steps (cminor_start code ws h)) (runs_in checkedly t.2.moves t.2.steps (cminor_start code ws h))) e t.2.keeps in
          given t.2.moves t.2.steps (cminor_start code ws h) a start (ap (λ (o : runs.Outcome Answer). o.stop) k.0)

      -- if the function went wrong for a cause other than depth, it would do so at all bounds, and the checked function at none
      stays_right : (cause : Cause) → stays Checked cause ≡ true → (x : by_name.Effect by_name.Answer) → ((d : Cause) (o : List ℕ) → x ≡ by_name.Failed d o → d ≡ cause) → IsRight (answered (numbered Checked x)).stop
      stays_right cause s (by_name.Answers a left) f = tt
      stays_right cause s (by_name.Unfinished o) f = tt
      stays_right cause s (by_name.Failed d o) f = subst (λ b. IsRight (answered (if b then Unfinished o else Failed o)).stop) (sym (ap (λ e. stays Checked e) (f d o refl) ∙ s)) tt

      failed_later : (cause d : Cause) (o q : List ℕ) (more n : ℕ) → body n ≡ by_name.Failed d o → body (n + more) ≡ by_name.Failed cause q → d ≡ cause
      failed_later cause d o q more n e g =
          let later : WithMoreSteps more (by_name.Failed d o) (body (n + more)) = subst (λ x. WithMoreSteps more x (body (n + more))) e ((go_on unit opened f ws).later n more (shared_in unit h)) in
          let z : ◌≡◌ {A = by_name.Effect by_name.Answer} (by_name.Failed d o) (by_name.Failed cause q) = sym later ∙ g in
          cc

      same_cause : (cause d : Cause) (o q : List ℕ) (n m : ℕ) → body m ≡ by_name.Failed cause q → body n ≡ by_name.Failed d o → d ≡ cause
      same_cause cause d o q n m e g = elim (cases_lt n m) [
        | inl lt ↦ by_more (m - n) (omega arith)
        | inr le ↦ from_more (n - m) (omega arith)
      ]
        where
          by_more : (more : ℕ) → n + more ≡ m → d ≡ cause
          by_more more same = failed_later cause d o q more n g (ap body same ∙ e)

          from_more : (more : ℕ) → m + more ≡ n → d ≡ cause
          from_more more same = sym (failed_later d cause q o more m e (ap body same ∙ g))

      no_other : (n : ℕ) (cause : Cause) (o : List ℕ) → body n ≡ by_name.Failed cause o → stays Checked cause ≡ true → ⊥
      no_other n cause o e s =
          let w = needs.goes_wrong Plain p plain opened below ws h (is_call Plain p plain f ws h asked) n o (plain_is n ∙ ap (λ x. numbered Plain x) e) in
          let wrong : runs_in checkedly w.0 w.1 (cminor_start code ws h) ≡ record { stop = runs.Wrong; output = o } = sym (same_run w.0 w.1 (cminor_start code ws h) start) ∙ w.2 in
          let follows = follows_of Checked unit f code needs.keeps_up c checked opened below ws h (is_call Checked c checked f ws h asked) in
          let right = follows.never_wrong (λ m. subst (λ x. IsRight (answered x).stop) (sym (checked_is m)) (stays_right cause s (body m) (λ d q g. same_cause cause d q o m n e g))) (w.0, w.1) in
          subst (λ (y : runs.Outcome Answer). IsRight y.stop) wrong right

      by_effect : (n : ℕ) (x : by_name.Effect by_name.Answer) → body n ≡ x → (numbered Plain x ≡ numbered Checked x) × Fits (numbered Checked x)
      by_effect n (by_name.Answers a left) e = (refl, answer_given n left (record { value = a.word; world = world_of a.shared }) (checked_is n ∙ ap (λ x. numbered Checked x) e))
      by_effect n (by_name.Unfinished o) e = (refl, tt)
      by_effect n (by_name.Failed cause o) e = by (stays Checked cause) refl
        where
          by : (b : Bool) → stays Checked cause ≡ b → (Failed o ≡ (if b then Unfinished o else Failed o)) × Fits (if b then Unfinished o else Failed o)
          by false s = (refl, tt)
          by true s = absurd (no_other n cause o e s)

      same_body : (n : ℕ) → (p.body n opened f ws h ≡ c.body n opened f ws h) × Fits (c.body n opened f ws h)
      same_body n =
          let x = by_effect n (body n) refl in
          (plain_is n ∙ x.0 ∙ sym (checked_is n), subst Fits (sym (checked_is n)) x.1)

  in_unit : (mode : Mode) (m : Meaning) → IsMeaning mode unit m → (f : ℕ) → f < length (functions unit) → f < m.functions
  in_unit mode m is f lt = subst (λ k. f < k) (sym is.functions) lt

  -- ---- calls

  deepest : Same most_open
  deepest zero f ws h asked =
      let e = p.none_left most_open f ws h (in_unit Plain p plain f asked.below) in
      let g = c.none_left most_open f ws h (in_unit Checked c checked f asked.below) in
      (e ∙ sym g, subst Fits (sym g) tt)
  deepest (suc n) f ws h asked =
      let e = p.too_deep n f ws h (in_unit Plain p plain f asked.below) in
      let g = c.too_deep n f ws h (in_unit Checked c checked f asked.below) in
      (e ∙ sym g, subst Fits (sym g) tt)

  less_deep : (opened : ℕ) → opened < most_open → Same (suc opened) → Same opened
  less_deep opened below up zero f ws h asked =
      let e = p.none_left opened f ws h (in_unit Plain p plain f asked.below) in
      let g = c.none_left opened f ws h (in_unit Checked c checked f asked.below) in
      (e ∙ sym g, subst Fits (sym g) tt)
  less_deep opened below up (suc n) f ws h asked =
      let e = p.spends n opened f ws h (in_unit Plain p plain f asked.below) below in
      let g = c.spends n opened f ws h (in_unit Checked c checked f asked.below) below in
      let x = same_body opened up below f ws h asked n in
      (e ∙ x.0 ∙ sym g, subst Fits (sym g) x.1)

  same_from : (more opened : ℕ) → opened + more ≡ most_open → Same opened
  same_from zero opened e = subst Same (let f : most_open ≡ opened = omega arith in f) deepest
  same_from (suc more) opened e = less_deep opened (omega arith) (same_from more (suc opened) (omega arith))

  pub same_calls : Same 0
  same_calls = same_from most_open 0 (omega arith)

-- ---- programs

-- if the cause is not depth, a run that goes wrong differs from one that runs for ever, even if the cause is left out
differs : (cause : Cause) → stays Checked cause ≡ true → stop_without_cause (Wrong cause) ≡ stop_without_cause (checked_stop (Wrong cause)) → ⊥
differs cause s e =
    let f : runs.Wrong ≡ stop_without_cause (if stays Checked cause then outcome.Going else Wrong cause) = e in
    let g : stop_without_cause (if stays Checked cause then outcome.Going else Wrong cause) ≡ runs.Going = ap (λ b. stop_without_cause (if b then outcome.Going else Wrong cause)) s in
    let k : ◌≡◌ {A = runs.Stop ℕ} runs.Wrong runs.Going = f ∙ g in
    cc

only_depth : (cause : Cause) → (stays Checked cause ≡ true → ⊥) → cause ≡ Depth
only_depth Division f = absurd (f refl)
only_depth Shift f = absurd (f refl)
only_depth Index f = absurd (f refl)
only_depth Depth f = refl

pub only_depth_is_left : TypedUnitsHaveMeanings → TypedUnitsHaveMain → ProgramsAreNumbered → BodiesGoOn → OnlyDepthIsLeft
only_depth_is_left meanings mains programs go_on source typed each input world n cause wrong = only_depth cause (λ s. differs cause s alike)
  where
    unit : List External
    unit = source.externals

    main : HasMain unit
    main = mains unit typed

    asked : IsAsked unit (main_of unit) [] (world_of (first_shared unit input))
    asked = record { below = main.below; count = sym (ap (λ o. unwrap_or o 0) main.arity); words = tt; world = world }

    p : (m : Meaning) × IsMeaning Plain unit m
    p = meanings Plain unit typed

    c : (m : Meaning) × IsMeaning Checked unit m
    c = meanings Checked unit typed

    called : call_in Plain unit n 0 (main_of unit) [] (world_of (first_shared unit input)) ≡ call_in Checked unit n 0 (main_of unit) [] (world_of (first_shared unit input))
    called =
        let h = world_of (first_shared unit input) in
        sym (ap (λ (call : ℕ → ℕ → ℕ → List ℕ → World → Effect). call n 0 (main_of unit) [] h) p.1.call)
        ∙ (same_calls unit each go_on p.0 c.0 p.1 c.1 n (main_of unit) [] h asked).0
        ∙ ap (λ (call : ℕ → ℕ → ℕ → List ℕ → World → Effect). call n 0 (main_of unit) [] h) c.1.call

    alike : stop_without_cause (Wrong cause) ≡ stop_without_cause (checked_stop (Wrong cause))
    alike =
        let both : without_cause (behavior Plain source input n) ≡ without_cause (behavior Checked source input n) = programs Plain source main input n ∙ ap outcome_by_number called ∙ sym (programs Checked source main input n) in
        ap stop_without_cause (sym wrong) ∙ ap (λ (o : runs.Outcome ℕ). o.stop) both ∙ ap (λ t. stop_without_cause (checked_stop t)) wrong
