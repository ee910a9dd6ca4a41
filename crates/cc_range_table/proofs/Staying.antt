-- Calls of a unit whose table is inductive stay in the table, by induction on the number of open calls: a run of a function's code
-- stays in what is known, if the calls that it makes do. If all operations are covered, such a run never goes wrong by itself, so it
-- keeps up with the checked function. So a function goes wrong only because a call is nested too deep: if it went wrong for another
-- cause, the checked function would run for ever, and so would the code.
use Rattle.std.proofs.Common.{◌≡◌, ℕ, zero, suc, ◌+◌, ◌-◌, ◌<◌, ◌≤◌, Bool, true, false, List, [], length, Some, None, unwrap_or, refl, sym, ap, ◌∙◌, subst, ◌⊎◌, inl, inr, arith}
use Rattle.std.specs.Prelude.{if◌then◌else◌}
use Rattle.std.proofs.lemmas.Bool.{cases_lt}
use Rattle.cc_ast.specs.Tree.{External}
use Rattle.cc_c_semantics.specs.Outcome as outcome
use Rattle.cc_c_semantics.specs.Outcome.{Wrong}
use Rattle.cc_c_semantics.specs.Meaning.{functions}
use Rattle.cc_c_semantics.specs.Function as by_name
use Rattle.cc_c_semantics.specs.Function.{body_of_function}
use Rattle.cc_c_semantics.specs.Calls.{WithMoreSteps, BodiesGoOn, main_of, first_shared, HasMain, TypedUnitsHaveMain}
use Rattle.cc_c_semantics.specs.Checked.{stays, checked_stop, behavior}
use Rattle.cc_c_semantics.specs.declared.cause.Cause.{Cause}
use Rattle.cc_c_semantics.specs.declared.cause.Cause.TheVariants.{Division, Shift, Index, Depth}
use Rattle.cc_c_semantics.specs.declared.mode.Mode.{Mode}
use Rattle.cc_c_semantics.specs.declared.mode.Mode.TheVariants.{Plain, Checked}
use Rattle.cc_c_semantics.specs.Numbered.{world_of, shared_in, objects_in, numbered, call_in, IsMeaning, TypedUnitsHaveMeanings, stop_without_cause, without_cause, outcome_by_number, ProgramsAreNumbered}
use Rattle.cc_simulation.specs.Behavior as runs
use Rattle.cc_simulation.specs.Behavior.{AreWords, IsRight, Follows}
use Rattle.cc_simulation.specs.World.{World, Question, Answer, Effect, Gives, Unfinished, Failed, IsWorld}
use Rattle.cc_simulation.specs.Run.{Move, Goes, Calls, Returns, Fails, run, act, resumed}
use Rattle.cc_simulation.specs.Meaning.{Meaning, most_open, IsCall, call_effect, answered}
use Rattle.cc_simulation.specs.Tracks.{Keeping}
use Rattle.cc_simulation.proofs.Following.{follows, effects_of}
use Rattle.cc_cminor_language.specs.Cminor.{Statement, Config, cminor_move, cminor_output, cminor_start}
use Rattle.cc_cminor_language.specs.Breaks.{broken, broken_act, broken_resumed, BreaksAt}
use Rattle.cc_cminor_language.proofs.Layer.{cminor_is_layer}
use Rattle.cc_guard.proofs.Words as word_moves
use Rattle.cc_guard.proofs.Words.{IsAsked, IsOfWords, IsGiven, starts_on}
use Rattle.cc_range_table.specs.Table.{Table}
use Rattle.cc_range_table.specs.Calls.{Enters, Leaves}
use Rattle.cc_range_table.specs.Laws.{IsInductiveIn, IsInductive, CallsStayInTable, IsCoveredIn, IsCovered, OnlyDepthIsLeftByTable}
use Rattle.cc_range_table.specs.internal.Known.{RangesAreSound, Known, Onward}
use Rattle.cc_range_table.proofs.Moves as known_moves

in_unit : (unit : List External) (mode : Mode) (m : Meaning) → IsMeaning mode unit m → (f : ℕ) → f < length (functions unit) → f < m.functions
in_unit unit mode m is f lt = subst (λ k. f < k) (sym is.functions) lt

is_call : (unit : List External) (mode : Mode) (m : Meaning) → IsMeaning mode unit m → (f : ℕ) (ws : List ℕ) (h : World) → IsAsked unit f ws h → IsCall m f ws h
is_call unit mode m is f ws h asked = record {
  count = asked.count ∙ sym (ap (λ (a : ℕ → ℕ). a f) is.arity);
  words = asked.words;
  world = subst (λ zs. IsWorld zs h) (sym is.objects) asked.world;
}

-- ---- calls stay in the table

module _ (r : RangesAreSound) (unit : List External) (table : Table) where
  -- what an effect of a call gives is a word, a world of words, and in the table
  abbrev pub Stays : ℕ → World → Effect → Type 0
  Stays f h (Gives a left) = IsGiven unit a × Leaves table f h a
  Stays f h (Unfinished o) = Unit {0}
  Stays f h (Failed o) = Unit {0}

  -- a run is in what is known
  abbrev In : ℕ → World → Bool → Config → Type 0
  In f start quiet x = IsOfWords unit x × Known (objects_in unit) table f start quiet x

  module _ (f : ℕ) (start : World) (quiet : Bool) (effect : ℕ → Question → Effect) (up : (j : ℕ) (q : Question) → IsAsked unit q.function q.arguments q.world → Enters table q.function q.arguments q.world → Stays q.function q.world (effect j q)) where
    abbrev runs_in : ℕ → ℕ → Config → runs.Outcome Answer
    runs_in k j x = run cminor_move cminor_output effect k j x

    -- a run that ends gives what the function's row says
    ended_resumed : (k g : ℕ) (h : World) (e : Effect) (resume : Answer → Config) → Stays g h e → ((a : Answer) → IsGiven unit a → Leaves table g h a → In f start quiet (resume a)) → ((j : ℕ) (x : Config) (b : Answer) → In f start quiet x → (runs_in k j x).stop ≡ runs.Ended b → IsGiven unit b × Leaves table f start b)
        → (b : Answer) → (resumed e resume (runs_in k)).stop ≡ runs.Ended b → IsGiven unit b × Leaves table f start b
    ended_resumed k g h (Gives a left) resume fits goes ih b e = ih left (resume a) b (goes a fits.0 fits.1) e
    ended_resumed k g h (Unfinished o) resume fits goes ih b e = absurd (let z : runs.Going ≡ runs.Ended b = e in cc)
    ended_resumed k g h (Failed o) resume fits goes ih b e = absurd (let z : runs.Wrong ≡ runs.Ended b = e in cc)

    ended_act : (k j : ℕ) (o : List ℕ) (m : Move Config) → word_moves.Onward unit m → Onward (objects_in unit) table f start quiet m → ((j : ℕ) (x : Config) (b : Answer) → In f start quiet x → (runs_in k j x).stop ≡ runs.Ended b → IsGiven unit b × Leaves table f start b)
        → (b : Answer) → (act effect m o j (runs_in k)).stop ≡ runs.Ended b → IsGiven unit b × Leaves table f start b
    ended_act k j o (Goes x) words on ih b e = ih j x b (words, on) e
    ended_act k j o (Calls q resume) words on ih b e =
        ended_resumed k q.function q.world (effect j q) resume (up j q words.0 on.1) (λ a given left. (words.1 a given, on.2 a given.0 given.1.globals left)) ih b e
    ended_act k j o (Returns a) words on ih b e = subst (λ x. IsGiven unit x × Leaves table f start x) (let z : runs.Ended a ≡ runs.Ended b = e in cc) (words, on)
    ended_act k j o Fails words on ih b e = absurd (let z : runs.Wrong ≡ runs.Ended b = e in cc)

    pub ended : (k j : ℕ) (x : Config) (b : Answer) → In f start quiet x → (runs_in k j x).stop ≡ runs.Ended b → IsGiven unit b × Leaves table f start b
    ended zero j x b is e = absurd (let z : runs.Going ≡ runs.Ended b = e in cc)
    ended (suc k) j x b is e = ended_act k j (cminor_output x) (cminor_move x) (word_moves.moves_on unit x is.0) (known_moves.moves_on r unit table f start quiet x is.0 is.1) (ended k) b e

    -- if all operations are covered, a run never reaches something that it cannot do
    module _ (covered : quiet ≡ true) where
      unbroken_resumed : (k g : ℕ) (h : World) (e : Effect) (resume : Answer → Config) → Stays g h e → ((a : Answer) → IsGiven unit a → Leaves table g h a → In f start quiet (resume a)) → ((j : ℕ) (x : Config) → In f start quiet x → broken cminor_move cminor_output effect k j x ≡ None)
          → broken_resumed e resume (broken cminor_move cminor_output effect k) ≡ None
      unbroken_resumed k g h (Gives a left) resume fits goes ih = ih left (resume a) (goes a fits.0 fits.1)
      unbroken_resumed k g h (Unfinished o) resume fits goes ih = refl
      unbroken_resumed k g h (Failed o) resume fits goes ih = refl

      unbroken_act : (k j : ℕ) (o : List ℕ) (m : Move Config) → word_moves.Onward unit m → Onward (objects_in unit) table f start quiet m → ((j : ℕ) (x : Config) → In f start quiet x → broken cminor_move cminor_output effect k j x ≡ None)
          → broken_act effect m o j (broken cminor_move cminor_output effect k) ≡ None
      unbroken_act k j o (Goes x) words on ih = ih j x (words, on)
      unbroken_act k j o (Calls q resume) words on ih =
          unbroken_resumed k q.function q.world (effect j q) resume (up j q words.0 on.1) (λ a given left. (words.1 a given, on.2 a given.0 given.1.globals left)) ih
      unbroken_act k j o (Returns a) words on ih = refl
      unbroken_act k j o Fails words on ih = absurd (on covered)

      pub unbroken : (k j : ℕ) (x : Config) → In f start quiet x → broken cminor_move cminor_output effect k j x ≡ None
      unbroken zero j x is = refl
      unbroken (suc k) j x is = unbroken_act k j (cminor_output x) (cminor_move x) (word_moves.moves_on unit x is.0) (known_moves.moves_on r unit table f start quiet x is.0 is.1) (unbroken k)

      pub never_breaks : (e : Effect) (x : Config) → In f start quiet x → BreaksAt cminor_move cminor_output effect e x → ⊥
      never_breaks (Gives a left) x is p = p
      never_breaks (Unfinished o) x is p = let e : None ≡ Some o = sym (unbroken p.moves p.steps x is) ∙ p.breaks in cc
      never_breaks (Failed o) x is p = p

  -- ---- by induction on the number of open calls

  module _ (each : IsInductive unit table) (c : Meaning) (checked : IsMeaning Checked unit c) where
    abbrev pub StaysAt : (opened : ℕ) → Type 0
    StaysAt opened = (n f : ℕ) (ws : List ℕ) (h : World) → IsAsked unit f ws h → Enters table f ws h → Stays f h (c.call n opened f ws h)

    body_stays : (opened : ℕ) → opened < most_open → StaysAt (suc opened) → (n f : ℕ) (ws : List ℕ) (h : World) → IsAsked unit f ws h → Enters table f ws h → Stays f h (c.body n opened f ws h)
    body_stays opened below up n f ws h asked enters = by (c.body n opened f ws h) (has.1.fails_alike c checked opened below ws h (is_call unit Checked c checked f ws h asked) n)
      where
        has : (s : Statement) × IsInductiveIn unit table f s
        has = each f asked.below

        is : IsOfWords unit (cminor_start has.0 ws h) × Known (objects_in unit) table f h false (cminor_start has.0 ws h)
        is = (starts_on unit has.0 has.1.calls has.1.constants f ws h asked, known_moves.starts_on r unit table f h false has.0 ws has.1.inductive (λ q. absurd (let z : false ≡ true = q in cc)) enters)

        by : (e : Effect) → ((most : ℕ) × (most_steps : ℕ) × Keeping cminor_move cminor_output (call_effect c (suc opened)) 1 n e (cminor_start has.0 ws h) most most_steps) ⊎ BreaksAt cminor_move cminor_output (call_effect c (suc opened)) e (cminor_start has.0 ws h) → Stays f h e
        by (Gives a left) (inl t) = ended f h false (call_effect c (suc opened)) (λ j q. up j q.function q.arguments q.world) t.2.moves t.2.steps (cminor_start has.0 ws h) a is (ap (λ (o : runs.Outcome Answer). o.stop) t.2.keeps.0)
        by (Gives a left) (inr b) = absurd b
        by (Unfinished o) t = tt
        by (Failed o) t = tt

    deepest : StaysAt most_open
    deepest zero f ws h asked enters = subst (Stays f h) (sym (c.none_left most_open f ws h (in_unit unit Checked c checked f asked.below))) tt
    deepest (suc n) f ws h asked enters = subst (Stays f h) (sym (c.too_deep n f ws h (in_unit unit Checked c checked f asked.below))) tt

    less_deep : (opened : ℕ) → opened < most_open → StaysAt (suc opened) → StaysAt opened
    less_deep opened below up zero f ws h asked enters = subst (Stays f h) (sym (c.none_left opened f ws h (in_unit unit Checked c checked f asked.below))) tt
    less_deep opened below up (suc n) f ws h asked enters =
        subst (Stays f h) (sym (c.spends n opened f ws h (in_unit unit Checked c checked f asked.below) below)) (body_stays opened below up n f ws h asked enters)

    pub stays_from : (more opened : ℕ) → opened + more ≡ most_open → StaysAt opened
    stays_from zero opened e = subst StaysAt (let z : most_open ≡ opened = omega arith in z) deepest
    stays_from (suc more) opened e = less_deep opened (omega arith) (stays_from more (suc opened) (omega arith))

asked_of : (unit : List External) (c : Meaning) → IsMeaning Checked unit c → (f : ℕ) (ws : List ℕ) (h : World) → f < length (functions unit) → IsCall c f ws h → IsAsked unit f ws h
asked_of unit c is f ws h below call = record {
  below = below;
  count = call.count ∙ ap (λ (a : ℕ → ℕ). a f) is.arity;
  words = call.words;
  world = subst (λ zs. IsWorld zs h) is.objects call.world;
}

pub calls_stay_in_table : RangesAreSound → CallsStayInTable
calls_stay_in_table r unit table each c checked n opened f ws h few below call enters a left e =
    (subst (Stays r unit table f h) e (stays_from r unit table each c checked (most_open - opened) opened (omega arith) n f ws h (asked_of unit c checked f ws h below call) enters)).1

-- ---- units without an operation that is asked

module _ (r : RangesAreSound) (unit : List External) (table : Table) (each : IsCovered unit table) (go_on : BodiesGoOn) (p c : Meaning) (plain : IsMeaning Plain unit p) (checked : IsMeaning Checked unit c) where
  inductive : IsInductive unit table
  inductive f below = let s = each f below in (s.0, s.1.inductive)

  stay : (opened : ℕ) → opened ≤ most_open → StaysAt r unit table inductive c checked opened
  stay opened few = stays_from r unit table inductive c checked (most_open - opened) opened (omega arith)

  -- the two meanings are the same while this many calls are open
  abbrev Same : (opened : ℕ) → Type 0
  Same opened = (n f : ℕ) (ws : List ℕ) (h : World) → IsAsked unit f ws h → Enters table f ws h → p.call n opened f ws h ≡ c.call n opened f ws h

  module _ (opened : ℕ) (below : opened < most_open) (same : Same (suc opened)) (f : ℕ) (ws : List ℕ) (h : World) (asked : IsAsked unit f ws h) (enters : Enters table f ws h) where
    abbrev plainly : ℕ → Question → Effect
    plainly j q = call_effect p (suc opened) j q

    abbrev checkedly : ℕ → Question → Effect
    checkedly j q = call_effect c (suc opened) j q

    up : (j : ℕ) (q : Question) → IsAsked unit q.function q.arguments q.world → Enters table q.function q.arguments q.world → Stays r unit table q.function q.world (call_effect c (suc opened) j q)
    up j q asks given = stay (suc opened) below j q.function q.arguments q.world asks given

    abbrev runs_by : (ℕ → Question → Effect) → ℕ → ℕ → Config → runs.Outcome Answer
    runs_by effect k j x = run cminor_move cminor_output effect k j x

    abbrev Lies : Config → Type 0
    Lies x = IsOfWords unit x × Known (objects_in unit) table f h true x

    -- ---- a run is the same in both meanings

    same_resumed : (k g : ℕ) (w : World) (e : Effect) (resume : Answer → Config) → Stays r unit table g w e → ((a : Answer) → IsGiven unit a → Leaves table g w a → Lies (resume a)) → ((j : ℕ) (x : Config) → Lies x → runs_by plainly k j x ≡ runs_by checkedly k j x)
        → resumed e resume (runs_by plainly k) ≡ resumed e resume (runs_by checkedly k)
    same_resumed k g w (Gives a left) resume fits goes ih = ih left (resume a) (goes a fits.0 fits.1)
    same_resumed k g w (Unfinished o) resume fits goes ih = refl
    same_resumed k g w (Failed o) resume fits goes ih = refl

    same_act : (k j : ℕ) (o : List ℕ) (m : Move Config) → word_moves.Onward unit m → Onward (objects_in unit) table f h true m → ((j : ℕ) (x : Config) → Lies x → runs_by plainly k j x ≡ runs_by checkedly k j x)
        → act plainly m o j (runs_by plainly k) ≡ act checkedly m o j (runs_by checkedly k)
    same_act k j o (Goes x) words on ih = ih j x (words, on)
    same_act k j o (Calls q resume) words on ih =
        ap (λ e. resumed e resume (runs_by plainly k)) (same j q.function q.arguments q.world words.0 on.1)
        ∙ same_resumed k q.function q.world (checkedly j q) resume (up j q words.0 on.1) (λ a given left. (words.1 a given, on.2 a given.0 given.1.globals left)) ih
    same_act k j o (Returns a) words on ih = refl
    same_act k j o Fails words on ih = refl

    same_run : (k j : ℕ) (x : Config) → Lies x → runs_by plainly k j x ≡ runs_by checkedly k j x
    same_run zero j x is = refl
    same_run (suc k) j x is = same_act k j (cminor_output x) (cminor_move x) (word_moves.moves_on unit x is.0) (known_moves.moves_on r unit table f h true x is.0 is.1) (same_run k)

    -- ---- the body

    abbrev code : Statement
    code = (each f asked.below).0

    has : IsCoveredIn unit table f code
    has = (each f asked.below).1

    start : Lies (cminor_start code ws h)
    start = (starts_on unit code has.inductive.calls has.inductive.constants f ws h asked, known_moves.starts_on r unit table f h true code ws has.inductive.inductive (λ _. has.covered) enters)

    abbrev body : ℕ → by_name.Effect by_name.Answer
    body n = body_of_function unit n opened f ws (shared_in unit h)

    plain_is : (n : ℕ) → p.body n opened f ws h ≡ numbered Plain (body n)
    plain_is n = ap (λ (b : ℕ → ℕ → ℕ → List ℕ → World → Effect). b n opened f ws h) plain.body

    checked_is : (n : ℕ) → c.body n opened f ws h ≡ numbered Checked (body n)
    checked_is n = ap (λ (b : ℕ → ℕ → ℕ → List ℕ → World → Effect). b n opened f ws h) checked.body

    -- the code keeps up with the checked function, since it never breaks
    keeps : (n : ℕ) → (most : ℕ) × (most_steps : ℕ) × Keeping cminor_move cminor_output (call_effect c (suc opened)) 1 n (c.body n opened f ws h) (cminor_start code ws h) most most_steps
    keeps n = elim (has.inductive.fails_alike c checked opened below ws h (is_call unit Checked c checked f ws h asked) n) [
      | inl t ↦ t
      | inr b ↦ absurd (never_breaks r unit table f h true (call_effect c (suc opened)) up refl (c.body n opened f ws h) (cminor_start code ws h) start b)
    ]

    follow : Follows (λ n. answered (c.body n opened f ws h)) (λ (b : ℕ × ℕ). run cminor_move cminor_output (call_effect c (suc opened)) b.0 b.1 (cminor_start code ws h))
    follow = follows cminor_move cminor_output (call_effect c (suc opened)) (effects_of c cminor_move cminor_output cminor_is_layer (suc opened)) 1 (λ n. c.body n opened f ws h) (cminor_start code ws h) keeps

    -- if the function went wrong for a cause other than depth, it would do so at all bounds, and the checked function at none
    stays_right : (cause : Cause) → stays Checked cause ≡ true → (x : by_name.Effect by_name.Answer) → ((d : Cause) (o : List ℕ) → x ≡ by_name.Failed d o → d ≡ cause) → IsRight (answered (numbered Checked x)).stop
    stays_right cause s (by_name.Answers a left) g = tt
    stays_right cause s (by_name.Unfinished o) g = tt
    stays_right cause s (by_name.Failed d o) g = subst (λ b. IsRight (answered (if b then Unfinished o else Failed o)).stop) (sym (ap (λ e. stays Checked e) (g d o refl) ∙ s)) tt

    failed_later : (cause d : Cause) (o q : List ℕ) (more n : ℕ) → body n ≡ by_name.Failed d o → body (n + more) ≡ by_name.Failed cause q → d ≡ cause
    failed_later cause d o q more n e g =
        let later : WithMoreSteps more (by_name.Failed d o) (body (n + more)) = subst (λ x. WithMoreSteps more x (body (n + more))) e ((go_on unit opened f ws).later n more (shared_in unit h)) in
        let z : ◌≡◌ {A = by_name.Effect by_name.Answer} (by_name.Failed d o) (by_name.Failed cause q) = sym later ∙ g in
        cc

    same_cause : (cause d : Cause) (o q : List ℕ) (n m : ℕ) → body m ≡ by_name.Failed cause q → body n ≡ by_name.Failed d o → d ≡ cause
    same_cause cause d o q n m e g = elim (cases_lt n m) [
      | inl lt ↦ by_more (m - n) (omega arith)
      | inr le ↦ from_more (n - m) (omega arith)
    ]
      where
        by_more : (more : ℕ) → n + more ≡ m → d ≡ cause
        by_more more is = failed_later cause d o q more n g (ap body is ∙ e)

        from_more : (more : ℕ) → m + more ≡ n → d ≡ cause
        from_more more is = sym (failed_later d cause q o more m e (ap body is ∙ g))

    no_other : (n : ℕ) (cause : Cause) (o : List ℕ) → body n ≡ by_name.Failed cause o → stays Checked cause ≡ true → ⊥
    no_other n cause o e s =
        let w = has.goes_wrong Plain p plain opened below ws h (is_call unit Plain p plain f ws h asked) n o (plain_is n ∙ ap (λ x. numbered Plain x) e) in
        let wrong : runs_by checkedly w.0 w.1 (cminor_start code ws h) ≡ record { stop = runs.Wrong; output = o } = sym (same_run w.0 w.1 (cminor_start code ws h) start) ∙ w.2 in
        let right = follow.never_wrong (λ m. subst (λ x. IsRight (answered x).stop) (sym (checked_is m)) (stays_right cause s (body m) (λ d q g. same_cause cause d q o m n e g))) (w.0, w.1) in
        subst (λ (y : runs.Outcome Answer). IsRight y.stop) wrong right

    by_effect : (n : ℕ) (x : by_name.Effect by_name.Answer) → body n ≡ x → numbered Plain x ≡ numbered Checked x
    by_effect n (by_name.Answers a left) e = refl
    by_effect n (by_name.Unfinished o) e = refl
    by_effect n (by_name.Failed cause o) e = by (stays Checked cause) refl
      where
        by : (b : Bool) → stays Checked cause ≡ b → Failed o ≡ (if b then Unfinished o else Failed o)
        by false s = refl
        by true s = absurd (no_other n cause o e s)

    same_body : (n : ℕ) → p.body n opened f ws h ≡ c.body n opened f ws h
    same_body n = plain_is n ∙ by_effect n (body n) refl ∙ sym (checked_is n)

  -- ---- calls

  deepest_same : Same most_open
  deepest_same zero f ws h asked enters = p.none_left most_open f ws h (in_unit unit Plain p plain f asked.below) ∙ sym (c.none_left most_open f ws h (in_unit unit Checked c checked f asked.below))
  deepest_same (suc n) f ws h asked enters = p.too_deep n f ws h (in_unit unit Plain p plain f asked.below) ∙ sym (c.too_deep n f ws h (in_unit unit Checked c checked f asked.below))

  less_deep_same : (opened : ℕ) → opened < most_open → Same (suc opened) → Same opened
  less_deep_same opened below same zero f ws h asked enters = p.none_left opened f ws h (in_unit unit Plain p plain f asked.below) ∙ sym (c.none_left opened f ws h (in_unit unit Checked c checked f asked.below))
  less_deep_same opened below same (suc n) f ws h asked enters =
      p.spends n opened f ws h (in_unit unit Plain p plain f asked.below) below ∙ same_body opened below same f ws h asked enters n ∙ sym (c.spends n opened f ws h (in_unit unit Checked c checked f asked.below) below)

  same_from : (more opened : ℕ) → opened + more ≡ most_open → Same opened
  same_from zero opened e = subst Same (let z : most_open ≡ opened = omega arith in z) deepest_same
  same_from (suc more) opened e = less_deep_same opened (omega arith) (same_from more (suc opened) (omega arith))

  pub same_calls : Same 0
  same_calls = same_from most_open 0 (omega arith)

-- ---- programs

-- if the cause is not depth, a run that goes wrong differs from one that runs for ever, even if the cause is left out
differs : (cause : Cause) → stays Checked cause ≡ true → stop_without_cause (Wrong cause) ≡ stop_without_cause (checked_stop (Wrong cause)) → ⊥
differs cause s e =
    let f : runs.Wrong ≡ stop_without_cause (if stays Checked cause then outcome.Going else Wrong cause) = e in
    let g : stop_without_cause (if stays Checked cause then outcome.Going else Wrong cause) ≡ runs.Going = ap (λ b. stop_without_cause (if b then outcome.Going else Wrong cause)) s in
    let k : ◌≡◌ {A = runs.Stop ℕ} runs.Wrong runs.Going = f ∙ g in
    cc

only_depth : (cause : Cause) → (stays Checked cause ≡ true → ⊥) → cause ≡ Depth
only_depth Division f = absurd (f refl)
only_depth Shift f = absurd (f refl)
only_depth Index f = absurd (f refl)
only_depth Depth f = refl

pub only_depth_is_left : RangesAreSound → TypedUnitsHaveMeanings → TypedUnitsHaveMain → ProgramsAreNumbered → BodiesGoOn → OnlyDepthIsLeftByTable
only_depth_is_left r meanings mains programs go_on source typed table each input world enters n cause wrong = only_depth cause (λ s. differs cause s alike)
  where
    unit : List External
    unit = source.externals

    main : HasMain unit
    main = mains unit typed

    asked : IsAsked unit (main_of unit) [] (world_of (first_shared unit input))
    asked = record { below = main.below; count = sym (ap (λ o. unwrap_or o 0) main.arity); words = tt; world = world }

    p : (m : Meaning) × IsMeaning Plain unit m
    p = meanings Plain unit typed

    c : (m : Meaning) × IsMeaning Checked unit m
    c = meanings Checked unit typed

    called : call_in Plain unit n 0 (main_of unit) [] (world_of (first_shared unit input)) ≡ call_in Checked unit n 0 (main_of unit) [] (world_of (first_shared unit input))
    called =
        let h = world_of (first_shared unit input) in
        sym (ap (λ (call : ℕ → ℕ → ℕ → List ℕ → World → Effect). call n 0 (main_of unit) [] h) p.1.call)
        ∙ same_calls r unit table each go_on p.0 c.0 p.1 c.1 n (main_of unit) [] h asked enters
        ∙ ap (λ (call : ℕ → ℕ → ℕ → List ℕ → World → Effect). call n 0 (main_of unit) [] h) c.1.call

    alike : stop_without_cause (Wrong cause) ≡ stop_without_cause (checked_stop (Wrong cause))
    alike =
        let both : without_cause (behavior Plain source input n) ≡ without_cause (behavior Checked source input n) = programs Plain source main input n ∙ ap outcome_by_number called ∙ sym (programs Checked source main input n) in
        ap stop_without_cause (sym wrong) ∙ ap (λ (o : runs.Outcome ℕ). o.stop) both ∙ ap (λ t. stop_without_cause (checked_stop t)) wrong
