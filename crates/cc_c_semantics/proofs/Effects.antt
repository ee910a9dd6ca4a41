-- A call in the tree has the effect of the function that its name refers to, for any bound on the recursion, and with more steps
-- it continues.
use Rattle.std.proofs.Common.{◌≡◌, ℕ, zero, suc, ◌+◌, ◌<◌, Bool, true, false, if◌then◌else◌, List, [], ◌∷◌, ◌++◌, length, nat_lt, Option, Some, None, slice_get, codes, refl, sym, ap, ◌∙◌, subst, arith, append-nil, length-append}
use Rattle.std.proofs.lemmas.List.{nil_from_length}
use Rattle.cc_ast.specs.Tree.{External}
use Rattle.cc_types.specs.Names.{same_name}
use Rattle.cc_layout.specs.Layout.{names_before, layout_of, callee}
use Rattle.cc_layout.specs.declared.layout.Callee.TheVariants.{WriteWord, ReadWord, Defined}
use Rattle.cc_c_semantics.specs.declared.cause.Cause.{Cause}
use Rattle.cc_c_semantics.specs.declared.cause.Cause.TheVariants.{Depth}
use Rattle.cc_simulation.specs.Behavior.{IsPrefixOf}
use Rattle.cc_c_semantics.specs.Meaning.{Local, State, Run, Gives, Going, Wrong, Flow, then_do, execute_all, spend_of, Calls, Function, functions, bound, result_of, run_optional, read_input, most_open, calls, function_named}
use Rattle.cc_c_semantics.specs.Function.{effect_of, state_within, name_of_function, call_function}
use Rattle.cc_c_semantics.specs.Resolved.{arities, IsCalled}
use Rattle.cc_c_semantics.specs.Calls.{shared_of, after_call, called, CallsAreEffects, output_of, WithMoreSteps, CallsGoOn, BodiesGoOn}
use Rattle.cc_c_semantics.proofs.Lasting.{at, written, Lasts, Under}
use Rattle.cc_c_semantics.proofs.Steps.{begun, body_part, calls_steady, run_optional_steady}
use Rattle.cc_c_semantics.proofs.Exact.{exact_call, exact_body}
use Rattle.cc_c_semantics.proofs.Named.{same_name_symm}
use Rattle.cc_c_semantics.proofs.Held.{get_below}
use Rattle.cc_c_semantics.proofs.Numbers.{as_many_arities, name_of_number}

-- ---- a larger bound changes nothing

begins_both : (xs ys : List ℕ) → IsPrefixOf xs ys → IsPrefixOf ys xs → xs ≡ ys
begins_both xs ys p q =
    let a : length ys ≡ length xs + length p.0 = sym (ap (λ (l : List ℕ). length l) p.1) ∙ length-append xs p.0 in
    let b : length xs ≡ length ys + length q.0 = sym (ap (λ (l : List ℕ). length l) q.1) ∙ length-append ys q.0 in
    let c : p.0 ≡ [] = nil_from_length p.0 (omega arith) in
    sym (append-nil xs) ∙ ap (λ (l : List ℕ). xs ++ l) (sym c) ∙ p.1

module _ {A : Type 0} (s : State) (go : ℕ → State → Run A) where
  gives_alike : (x : A) (t : State) (m : ℕ) → s.steps < m → Lasts Under s.steps (Gives x t) (λ b j. go b (at s j)) → go m s ≡ Gives x t
  gives_alike x t m lt h =
      let e : s.steps ≡ h.0 + t.steps = h.1 in
      ap (λ k. go m (at s k)) e ∙ h.2 t.steps m (omega arith)

  wrong_alike : (cause : Cause) (o : List ℕ) (m : ℕ) → s.steps < m → Lasts {A = A} Under s.steps (Wrong cause o) (λ b j. go b (at s j)) → go m s ≡ Wrong cause o
  wrong_alike cause o m lt h =
      let e : s.steps ≡ s.steps + 0 = omega arith in
      ap (λ k. go m (at s k)) e ∙ h 0 m (omega arith)

  going_begins : (o : List ℕ) (m : ℕ) → s.steps < m → Lasts {A = A} Under s.steps (Going o) (λ b j. go b (at s j)) → IsPrefixOf o (written (go m s))
  going_begins o m lt h =
      let e : s.steps + 0 ≡ s.steps = omega arith in
      subst (λ k. IsPrefixOf o (written (go m (at s k)))) e (h 0 m (omega arith))

  alike : (n m : ℕ) (r q : Run A) → go n s ≡ r → go m s ≡ q → s.steps < n → s.steps < m
      → Lasts Under s.steps r (λ b j. go b (at s j)) → Lasts Under s.steps q (λ b j. go b (at s j)) → r ≡ q
  alike n m (Gives x t) q e f lt lt' h h' = sym (gives_alike x t m lt' h) ∙ f
  alike n m (Wrong cause o) q e f lt lt' h h' = sym (wrong_alike cause o m lt' h) ∙ f
  alike n m (Going o) (Gives x t) e f lt lt' h h' = sym e ∙ gives_alike x t n lt h'
  alike n m (Going o) (Wrong cause p) e f lt lt' h h' = sym e ∙ wrong_alike cause p n lt h'
  alike n m (Going o) (Going p) e f lt lt' h h' =
      ap Going (begins_both o p (subst (λ r. IsPrefixOf o (written r)) f (going_begins o m lt' h)) (subst (λ r. IsPrefixOf p (written r)) e (going_begins p n lt h')))

calls_alike : (fs : List Function) (opened : ℕ) (f ws : List ℕ) (s : State) (n m : ℕ) → s.steps < n → s.steps < m → calls n fs opened f ws s ≡ calls m fs opened f ws s
calls_alike fs opened f ws s n m lt lt' =
    alike s (λ b t. calls b fs opened f ws t) n m _ _ refl refl lt lt' ((calls_steady fs opened f ws).lasts n s lt) ((calls_steady fs opened f ws).lasts m s lt')

-- ---- a call sees no locals

abbrev bare : State → State
bare s = record s { locals = [] }

locals_back : (ls : List Local) (r : Run Flow)
    → then_do r (λ flow t. Gives (result_of flow) (record t { locals = ls })) ≡ after_call ls (effect_of (then_do r (λ flow t. Gives (result_of flow) (record t { locals = [] }))))
locals_back ls (Gives flow t) = refl
locals_back ls (Going o) = refl
locals_back ls (Wrong cause o) = refl

body_bare : (o : Option Function) (n : ℕ) (call : Calls) (ws : List ℕ) (s : State) → run_optional o n call ws s ≡ after_call s.locals (effect_of (run_optional o n call ws (bare s)))
body_bare None n call ws s = refl
body_bare (Some f) n call ws s = locals_back s.locals (execute_all f.body n call f.visible (record s { locals = bound f.parameters ws [] }))

read_bare : (input : List ℕ) (s : State) → s.input ≡ input → read_input input s ≡ after_call s.locals (effect_of (read_input input (bare s)))
read_bare [] s e = refl
read_bare (w ∷ rest) s e = refl

spend_bare : (k : ℕ) (body : State → Run ℕ) (s : State) → ((t : State) → body t ≡ after_call t.locals (effect_of (body (bare t)))) → spend_of k body s ≡ after_call s.locals (effect_of (spend_of k body (bare s)))
spend_bare zero body s h = refl
spend_bare (suc k) body s h = h (record s { steps = k })

begun_bare : (writes reads allowed : Bool) (body : ℕ → State → Run ℕ) (ws : List ℕ) (n : ℕ) (s : State) → ((t : State) → body n t ≡ after_call t.locals (effect_of (body n (bare t))))
    → begun writes reads allowed body ws n s ≡ after_call s.locals (effect_of (begun writes reads allowed body ws n (bare s)))
begun_bare true reads allowed body ws n s h = refl
begun_bare false true allowed body ws n s h = read_bare s.input s refl
begun_bare false false true body ws n s h = spend_bare s.steps (body n) s h
begun_bare false false false body ws n s h = spend_bare s.steps (λ t. Wrong Depth t.output) s (λ t. refl)

calls_bare : (n : ℕ) (fs : List Function) (opened : ℕ) (f ws : List ℕ) (s : State) → calls n fs opened f ws s ≡ after_call s.locals (effect_of (calls n fs opened f ws (bare s)))
calls_bare zero fs opened f ws s = refl
calls_bare (suc n) fs opened f ws s =
    begun_bare (same_name f (codes "write_word")) (same_name f (codes "read_word")) (nat_lt opened most_open) (body_part fs opened f ws) ws n s
    (λ t. body_bare (function_named fs f) n (calls n fs (opened + 1)) ws t)

call_is_effect : (unit : List External) (n opened f : ℕ) (ws : List ℕ) (s : State) → s.steps < n
    → calls n (functions unit) opened (name_of_function unit f) ws s ≡ after_call s.locals (call_function unit s.steps opened f ws (shared_of s))
call_is_effect unit n opened f ws s lt =
    calls_alike (functions unit) opened (name_of_function unit f) ws s n (suc s.steps) lt (omega arith)
    ∙ calls_bare (suc s.steps) (functions unit) opened (name_of_function unit f) ws s

-- ---- more steps

written_effect : (r : Run ℕ) → written r ≡ output_of (effect_of r)
written_effect (Gives w s) = refl
written_effect (Going output) = refl
written_effect (Wrong cause output) = refl

later_of : (n extra : ℕ) (r : Run ℕ) (go : ℕ → ℕ → Run ℕ) → Lasts Under n r go → WithMoreSteps extra (effect_of r) (effect_of (go (suc (n + extra)) (n + extra)))
later_of n extra (Gives w t) go h =
    let n_is : n ≡ h.0 + t.steps = h.1 in
    let f : n + extra ≡ h.0 + (t.steps + extra) = omega arith in
    ap (λ k. effect_of (go (suc k) k)) f ∙ ap effect_of (h.2 (t.steps + extra) (suc (h.0 + (t.steps + extra))) (omega arith))
later_of n extra (Going output) go h =
    let b = h extra (suc (n + extra)) (omega arith) in (b.0, b.1 ∙ written_effect (go (suc (n + extra)) (n + extra)))
later_of n extra (Wrong cause output) go h = ap effect_of (h extra (suc (n + extra)) (omega arith))

pub calls_go_on : CallsGoOn
calls_go_on unit opened f ws = record {
  grows = λ n h.
      subst (λ o. IsPrefixOf h.output o) (written_effect (calls (suc n) (functions unit) opened (name_of_function unit f) ws (state_within n h)))
      ((calls_steady (functions unit) opened (name_of_function unit f) ws).grows (suc n) (state_within n h));
  later = λ n extra h.
      later_of n extra (calls (suc n) (functions unit) opened (name_of_function unit f) ws (state_within n h)) (λ m j. calls m (functions unit) opened (name_of_function unit f) ws (state_within j h))
      ((calls_steady (functions unit) opened (name_of_function unit f) ws).lasts (suc n) (state_within n h) (omega arith));
  exact = λ h. exact_call unit opened f ws h;
}

pub bodies_go_on : BodiesGoOn
bodies_go_on unit opened f ws = record {
  grows = λ n h.
      subst (λ o. IsPrefixOf h.output o) (written_effect (run_optional (slice_get (functions unit) f) (suc n) (calls (suc n) (functions unit) (opened + 1)) ws (state_within n h)))
      ((run_optional_steady (λ m. calls m (functions unit) (opened + 1)) (calls_steady (functions unit) (opened + 1)) (slice_get (functions unit) f) ws).grows (suc n) (state_within n h));
  later = λ n extra h.
      later_of n extra (run_optional (slice_get (functions unit) f) (suc n) (calls (suc n) (functions unit) (opened + 1)) ws (state_within n h))
      (λ m j. run_optional (slice_get (functions unit) f) m (calls m (functions unit) (opened + 1)) ws (state_within j h))
      ((run_optional_steady (λ m. calls m (functions unit) (opened + 1)) (calls_steady (functions unit) (opened + 1)) (slice_get (functions unit) f) ws).lasts (suc n) (state_within n h) (omega arith));
  exact = λ h. exact_body unit opened f ws h;
}

-- ---- for each thing that a name can refer to

called_by : (unit : List External) (m opened count : ℕ) (x ws : List ℕ) (s : State) (b c : Bool) → same_name (codes "write_word") x ≡ b → same_name (codes "read_word") x ≡ c
    → IsCalled (arities unit) (if b then WriteWord else (if c then ReadWord else Defined (names_before (layout_of unit).functions x))) count → s.steps < suc m
    → calls (suc m) (functions unit) opened x ws s ≡ called unit opened (if b then WriteWord else (if c then ReadWord else Defined (names_before (layout_of unit).functions x))) ws s
called_by unit m opened count x ws s true c p q h lt =
    ap (λ b. begun b (same_name x (codes "read_word")) (nat_lt opened most_open) (body_part (functions unit) opened x ws) ws m s) (same_name_symm x (codes "write_word") ∙ p)
called_by unit m opened count x ws s false true p q h lt =
    ap (λ b. begun b (same_name x (codes "read_word")) (nat_lt opened most_open) (body_part (functions unit) opened x ws) ws m s) (same_name_symm x (codes "write_word") ∙ p)
    ∙ ap (λ b. begun false b (nat_lt opened most_open) (body_part (functions unit) opened x ws) ws m s) (same_name_symm x (codes "read_word") ∙ q)
called_by unit m opened count x ws s false false p q h lt =
    let k : ℕ = names_before (layout_of unit).functions x in
    let below : k < length (functions unit) = omega (arith, get_below (arities unit) k count h, as_many_arities unit) in
    ap (λ y. calls (suc m) (functions unit) opened y ws s) (sym (name_of_number unit x below)) ∙ call_is_effect unit (suc m) opened k ws s lt

called_within : (unit : List External) (n opened count : ℕ) (x ws : List ℕ) (s : State) → IsCalled (arities unit) (callee (layout_of unit) x) count → s.steps < n
    → calls n (functions unit) opened x ws s ≡ called unit opened (callee (layout_of unit) x) ws s
called_within unit zero opened count x ws s h lt = absurd (omega arith)
called_within unit (suc m) opened count x ws s h lt = called_by unit m opened count x ws s (same_name (codes "write_word") x) (same_name (codes "read_word") x) refl refl h lt

pub calls_are_effects : CallsAreEffects
calls_are_effects = called_within
