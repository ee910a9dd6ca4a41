-- The meaning of a typed unit by number satisfies the laws that the passes require of a meaning.
use Rattle.std.proofs.Common.{◌≡◌, ℕ, ◌+◌, ◌-◌, ◌≤◌, Bool, true, false, if◌then◌else◌, List, [], ◌∷◌, length, refl, sym, ap, ◌∙◌, subst, arith}
use Rattle.cc_ast.specs.Tree.{External}
use Rattle.cc_types.specs.Typed.{IsTyped}
use Rattle.cc_simulation.specs.Behavior.{IsPrefixOf}
use Rattle.cc_simulation.specs.World.{Answer, Effect, Gives, Unfinished, Failed}
use Rattle.cc_simulation.specs.Meaning.{Meaning, Later, written_by}
use Rattle.cc_simulation.proofs.Behaving.{begins_refl}
use Rattle.cc_c_semantics.specs.Outcome as outcome
use Rattle.cc_c_semantics.specs.Meaning.{Global, functions, initial_globals}
use Rattle.cc_c_semantics.specs.Checked.{stays, shown}
use Rattle.cc_c_semantics.specs.declared.cause.Cause.{Cause}
use Rattle.cc_c_semantics.specs.declared.cause.Cause.TheVariants.{Depth}
use Rattle.cc_c_semantics.specs.declared.mode.Mode.{Mode}
use Rattle.cc_c_semantics.specs.declared.mode.Mode.TheVariants.{Plain, Checked}
use Rattle.cc_c_semantics.specs.Function as by_name
use Rattle.cc_c_semantics.specs.Function.{Shared, call_function, body_of_function}
use Rattle.cc_c_semantics.specs.Calls as calls
use Rattle.cc_c_semantics.specs.Calls.{main_of, first_shared, outcome_of_effect}
use Rattle.cc_c_semantics.specs.Numbered.{names_of, objects_of, world_of, named, shared_in, objects_in, gone_wrong, numbered, call_in, body_in, arity_in, TypedUnitsHaveMeanings, CallsAreNumbered, without_cause, outcome_by_number, ProgramsAreNumbered}
use Rattle.cc_c_semantics.proofs.Named.{typed_units_have_meaning}
use Rattle.cc_c_semantics.proofs.Effects.{calls_go_on}
use Rattle.cc_c_semantics.proofs.Mains.{programs_call_main}

-- ---- names and numbers

renamed : (gs : List Global) → named (names_of gs) (objects_of gs) ≡ gs
renamed [] = refl
renamed (g ∷ gs) = ap (λ rest. g ∷ rest) (renamed gs)

same_shared : (unit : List External) (h : Shared) → names_of h.globals ≡ names_of (initial_globals unit) → shared_in unit (world_of h) ≡ h
same_shared unit h e =
    ap (λ gs. record { globals = gs; input = h.input; output = h.output }) (ap (λ xs. named xs (objects_of h.globals)) (sym e) ∙ renamed h.globals)

pub calls_are_numbered : CallsAreNumbered
calls_are_numbered mode unit n opened f ws h e = (
  ap (λ g. numbered mode (call_function unit n opened f ws g)) (same_shared unit h e),
  ap (λ g. numbered mode (body_of_function unit n opened f ws g)) (same_shared unit h e),
)

-- ---- the laws of calls

abbrev left_in : Effect → ℕ
left_in (Gives a left) = left
left_in (Unfinished o) = 0
left_in (Failed o) = 0

abbrev answer_in : Answer → Effect → Answer
answer_in b (Gives a left) = a
answer_in b (Unfinished o) = b
answer_in b (Failed o) = b

abbrev is_answer : Effect → Type 0
is_answer (Gives a left) = Unit {0}
is_answer (Unfinished o) = ⊥
is_answer (Failed o) = ⊥

no_answer : (b : Bool) (o : List ℕ) → is_answer (if b then Unfinished o else Failed o) → ⊥
no_answer true o h = h
no_answer false o h = h

wrong_written : (b : Bool) (o : List ℕ) → o ≡ written_by (if b then Unfinished o else Failed o)
wrong_written true o = refl
wrong_written false o = refl

-- with more steps, a call that went wrong does the same, and a call that runs for ever still shows the same
-- output
wrong_later : (b : Bool) (more : ℕ) (o : List ℕ) (z : Effect) → z ≡ (if b then Unfinished o else Failed o) → Later more (if b then Unfinished o else Failed o) z
wrong_later true more o z e = subst (λ y. IsPrefixOf o (written_by y)) (sym e) (begins_refl o)
wrong_later false more o z e = e

-- in each mode, a call with too many open calls goes wrong
too_deep_fails : (mode : Mode) (o : List ℕ) → gone_wrong mode Depth o ≡ Failed o
too_deep_fails Plain o = refl
too_deep_fails Checked o = refl

module _ (mode : Mode) where
  exact_at : (effect : ℕ → by_name.Effect by_name.Answer) → by_name.SpendsExactly effect → (n left : ℕ) (a : Answer) (e : by_name.Effect by_name.Answer) → effect n ≡ e → numbered mode e ≡ Gives a left
      → (left ≤ n) × ((more : ℕ) → numbered mode (effect (n - left + more)) ≡ Gives a more)
  exact_at effect exact n left a (by_name.Answers b l) e f =
      let same : l ≡ left = ap left_in f in
      let answer : record { value = b.word; world = world_of b.shared } ≡ a = ap (answer_in a) f in
      let x = exact n l b e in
      let le : l ≤ n = x.0 in
      (omega arith, λ more. ap (λ k. numbered mode (effect (n - k + more))) (sym same) ∙ ap (numbered mode) (x.1 more) ∙ ap (λ c. Gives c more) answer)
  exact_at effect exact n left a (by_name.Unfinished o) e f = absurd (subst is_answer (sym f) tt)
  exact_at effect exact n left a (by_name.Failed cause o) e f = absurd (no_answer (stays mode cause) o (subst is_answer (sym f) tt))

  same_written : (e : by_name.Effect by_name.Answer) → calls.output_of e ≡ written_by (numbered mode e)
  same_written (by_name.Answers a left) = refl
  same_written (by_name.Unfinished o) = refl
  same_written (by_name.Failed cause o) = wrong_written (stays mode cause) o

  later_at : (more : ℕ) (e z : by_name.Effect by_name.Answer) → calls.WithMoreSteps more e z → Later more (numbered mode e) (numbered mode z)
  later_at more (by_name.Answers a left) z h = ap (numbered mode) h
  later_at more (by_name.Unfinished o) z h = subst (IsPrefixOf o) (same_written z) h
  later_at more (by_name.Failed cause o) z h = wrong_later (stays mode cause) more o (numbered mode z) (ap (numbered mode) h)

  -- ---- the meaning

  meaning_in : (unit : List External) → IsTyped unit → Meaning
  meaning_in unit typed =
      let has = typed_units_have_meaning unit typed in
      record {
        functions = length (functions unit);
        arity = arity_in unit;
        objects = objects_in unit;
        call = call_in mode unit;
        body = body_in mode unit;
        none_left = λ opened f ws h lt. ap (numbered mode) (has.none_left opened f ws (shared_in unit h) lt);
        too_deep = λ n f ws h lt. ap (numbered mode) (has.too_deep n f ws (shared_in unit h) lt) ∙ too_deep_fails mode h.output;
        spends = λ n opened f ws h lt below. ap (numbered mode) (has.spends n opened f ws (shared_in unit h) lt below);
        grows = λ n opened f ws h. subst (IsPrefixOf h.output) (same_written (call_function unit n opened f ws (shared_in unit h))) ((calls_go_on unit opened f ws).grows n (shared_in unit h));
        later = λ n more opened f ws h.
            later_at more (call_function unit n opened f ws (shared_in unit h)) (call_function unit (n + more) opened f ws (shared_in unit h)) ((calls_go_on unit opened f ws).later n more (shared_in unit h));
        exact = λ opened f ws h n left a e.
            exact_at (λ n. call_function unit n opened f ws (shared_in unit h)) ((calls_go_on unit opened f ws).exact (shared_in unit h)) n left a (call_function unit n opened f ws (shared_in unit h)) refl e;
      }

pub typed_units_have_meanings : TypedUnitsHaveMeanings
unfolding meaning_in
typed_units_have_meanings mode unit typed = (meaning_in mode unit typed, record { functions = refl; arity = refl; objects = refl; call = refl; body = refl })

-- ---- programs

wrong_outcome : (b : Bool) (cause : Cause) (o : List ℕ) → without_cause (record { stop = if b then outcome.Going else outcome.Wrong cause; output = o }) ≡ outcome_by_number (if b then Unfinished o else Failed o)
wrong_outcome true cause o = refl
wrong_outcome false cause o = refl

same_outcome : (mode : Mode) (e : by_name.Effect by_name.Answer) → without_cause (shown mode (outcome_of_effect e)) ≡ outcome_by_number (numbered mode e)
same_outcome Plain (by_name.Answers a left) = refl
same_outcome Plain (by_name.Unfinished o) = refl
same_outcome Plain (by_name.Failed cause o) = refl
same_outcome Checked (by_name.Answers a left) = refl
same_outcome Checked (by_name.Unfinished o) = refl
same_outcome Checked (by_name.Failed cause o) = wrong_outcome (stays Checked cause) cause o

pub programs_are_numbered : ProgramsAreNumbered
programs_are_numbered mode source main input n =
    let unit = source.externals in
    let h = first_shared unit input in
    ap (λ o. without_cause (shown mode o)) (programs_call_main source main input n) ∙ same_outcome mode (call_function unit n 0 (main_of unit) [] h)
    ∙ ap outcome_by_number (sym (calls_are_numbered mode unit n 0 (main_of unit) [] h refl).0)
