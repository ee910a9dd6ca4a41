-- Functions, calls and programs: a lowered program does what the wide one does.
use Rattle.std.proofs.Common.{◌≡◌, ℕ, zero, suc, ◌+◌, ◌<◌, Bool, true, false, if◌then◌else◌, List, [], ◌∷◌, ◌++◌, length, map, nat_lt, Option, Some, None, is_some, ◌⊎◌, inl, inr, codes, refl, sym, ap, ◌∙◌, subst, arith}
use Rattle.cc_ast.specs.scalar.Scalar.TheVariants.{Unsigned}
use Rattle.cc_ast.specs.Tree.{Parameter, Object}
use Rattle.cc_types.specs.Names.{same_name}
use Rattle.cc_types.specs.Scope as scope
use Rattle.cc_types.specs.Scope.{Visible, in_scope, declared, all_declared, FileScope, first_file_scope, with_function, with_objects, body_scope, found}
use Rattle.cc_types.specs.Limits.{objects}
use Rattle.cc_c_semantics.specs.declared.cause.Cause.TheVariants.{Depth}
use Rattle.cc_c_semantics.specs.Meaning as plain
use Rattle.cc_c_semantics.specs.Meaning.{Local, State, Run, Gives, Going, Wrong, Flow, Falls, Breaks, Continues, Returns, then_do, Calls, local_word, with_local_word, stored, spend_of, spend, behind_flow, declare, text_of, bound, result_of, read_input, most_open, calls, function_named, run_optional, Function, functions, functions_from, initial_global, initial_globals, outcome_of, source_behavior}
use Rattle.cc_wide.specs.WideTree.{WideStmts, WideExternal, Declaration, Definition, Objects}
use Rattle.cc_wide.specs.WideMeaning.{execute_all, WideFunction, wide_functions_from, wide_functions, wide_function_named, wide_run_optional, wide_calls, wide_objects, wide_file_scope_behind}
use Rattle.cc_wide.specs.Lowering.{hidden_name, Outside, all_lowered, nesting_of_all, hidden_declarators, body_with, lowered_body, lowered_unit, AllLower, UnitLowers}
use Rattle.cc_wide.specs.Laws.{SwitchesAreLowered}
use Rattle.cc_wide.proofs.Locals.{apart, AllHidden}
use Rattle.cc_wide.proofs.Expressions.{at, Twin, SeesNone}
use Rattle.cc_wide.proofs.Landing.{Shape, Left, Any, Ran}
use Rattle.cc_wide.proofs.Statements.{AlikeIn}
use Rattle.cc_wide.proofs.Executing.{ran_all}
use Rattle.std.specs.Cmp.Lexicographic.{nat_list_eq_equiv}
use Rattle.std.proofs.lemmas.Bool.{cases_lt}

-- ---- the hidden locals of a function

-- this many hidden locals, each 0, in front of other locals
abbrev hidden_onto : ℕ → List Local → List Local
hidden_onto zero ls = ls
hidden_onto (suc d) ls = hidden_onto d (record { name = hidden_name d; word = 0 } ∷ ls)

hidden_apart_from : (m : ℕ) (H b : List Local) → hidden_onto m (H ++ b) ≡ hidden_onto m H ++ b
hidden_apart_from zero H b = refl
hidden_apart_from (suc d) H b = hidden_apart_from d (record { name = hidden_name d; word = 0 } ∷ H) b

all_hidden : (m : ℕ) (H : List Local) → AllHidden H → AllHidden (hidden_onto m H)
all_hidden zero H h = h
all_hidden (suc d) H h = all_hidden d (record { name = hidden_name d; word = 0 } ∷ H) (refl, h)

some_below : (d : ℕ) (H : List Local) (x : List ℕ) → is_some (local_word H x) ≡ true → is_some (local_word (hidden_onto d H) x) ≡ true
some_below zero H x h = h
some_below (suc d) H x h = some_below d (record { name = hidden_name d; word = 0 } ∷ H) x (by (same_name (hidden_name d) x) h)
  where
    by : (c : Bool) → is_some (local_word H x) ≡ true → is_some (if c then Some 0 else local_word H x) ≡ true
    by true k = refl
    by false k = k

split : (i d : ℕ) → i < suc d → (i < d) ⊎ (i ≡ d)
split i d lt = elim (cases_lt i d) [ inl h ↦ inl h | inr h ↦ inr (omega (arith, h, lt)) ]

there_by : (d i : ℕ) (H : List Local) → ((i < d) → is_some (local_word (hidden_onto d (record { name = hidden_name d; word = 0 } ∷ H)) (hidden_name i)) ≡ true) → i < suc d
    → is_some (local_word (hidden_onto d (record { name = hidden_name d; word = 0 } ∷ H)) (hidden_name i)) ≡ true
there_by d i H ih lt = cases (split i d lt)
  where
    cases : ((i < d) ⊎ (i ≡ d)) → is_some (local_word (hidden_onto d (record { name = hidden_name d; word = 0 } ∷ H)) (hidden_name i)) ≡ true
    cases (inl h) = ih h
    cases (inr e) =
        some_below d (record { name = hidden_name d; word = 0 } ∷ H) (hidden_name i)
        (ap (λ c. is_some (if c then Some 0 else local_word H (hidden_name i))) (ap (λ k. same_name (hidden_name d) (hidden_name k)) e ∙ nat_list_eq_equiv.refl (hidden_name d)))

there : (m i : ℕ) (H : List Local) → i < m → is_some (local_word (hidden_onto m H) (hidden_name i)) ≡ true
there zero i H lt = absurd (omega (arith, lt))
there (suc d) i H lt = there_by d i H (there d i (record { name = hidden_name d; word = 0 } ∷ H)) lt

-- their declaration puts them in front
store_newest : (x : List ℕ) (ls : List Local) → with_local_word x 0 (record { name = x; word = 0 } ∷ ls) ≡ record { name = x; word = 0 } ∷ ls
store_newest x ls = ap (λ c. if c then record { name = x; word = 0 } ∷ ls else record { name = x; word = 0 } ∷ with_local_word x 0 ls) (nat_list_eq_equiv.refl x)

stored_newest : (x : List ℕ) (ls : List Local) (s : State) → stored x 0 (at s (record { name = x; word = 0 } ∷ ls)) ≡ at s (record { name = x; word = 0 } ∷ ls)
stored_newest x ls s =
    ap (λ c. if is_some (if c then Some 0 else local_word ls x) then at s (with_local_word x 0 (record { name = x; word = 0 } ∷ ls)) else record (at s (record { name = x; word = 0 } ∷ ls)) { globals = plain.with_element x 0 0 s.globals }) (nat_list_eq_equiv.refl x)
    ∙ ap (λ (l : List Local). at s l) (store_newest x ls)

declares : (m : ℕ) (call : Calls) (v : Visible) (ls : List Local) (s : State) → declare Unsigned (hidden_declarators m) call v (at s ls) ≡ Gives Falls (at s (hidden_onto m ls))
declares zero call v ls s = refl
declares (suc d) call v ls s =
    ap (declare Unsigned (hidden_declarators d) call (declared (hidden_name d) (scope.Variable Unsigned) v)) (stored_newest (hidden_name d) ls s)
    ∙ declares d call (declared (hidden_name d) (scope.Variable Unsigned) v) (record { name = hidden_name d; word = 0 } ∷ ls) s

-- and hides no name of the program
alike_hidden : (m : ℕ) (v w : Visible) → AlikeIn v w → AlikeIn (all_declared Unsigned (hidden_declarators m) v) w
alike_hidden zero v w k = k
alike_hidden (suc d) v w k =
    alike_hidden d (declared (hidden_name d) (scope.Variable Unsigned) v) w
    (λ x q. ap (λ c. if c then Some (scope.Variable Unsigned) else found (in_scope v) x) (apart (hidden_name d) x refl q) ∙ k x q)

-- ---- the body of a function

module _ (call called : Calls) (sees : SeesNone call called) (n : ℕ) where
  -- what remains of a body is its value; its caller's locals are put back
  value_by : (z : Shape) (W : ℕ → Option ℕ) (L M : List Local) (r q : Run Flow) → Ran z Any Outside 0 W r q
      → Twin L M (then_do r (λ flow t. Gives (result_of flow) (record t { locals = L }))) (then_do q (λ flow t. Gives (result_of flow) (record t { locals = M })))
  value_by z W L M (Gives p t) q h = (refl, ap (λ y. then_do y (λ flow u. Gives (result_of flow) (record u { locals = M }))) h.5 ∙ ap (λ k. Gives k (at t M)) (same h.0 h.6))
    where
      same : (flow : Flow) → Left z Outside 0 W flow p h.1 h.2 h.3 → result_of flow ≡ result_of p
      same Falls l = sym (ap result_of l.0)
      same Breaks l = sym (ap result_of l.0)
      same Continues l = absurd l
      same (Returns w) l = sym (ap result_of l.0)
  value_by z W L M (Going output) q h = ap (λ y. then_do y (λ flow u. Gives (result_of flow) (record u { locals = M }))) h
  value_by z W L M (Wrong cause output) q h = ap (λ y. then_do y (λ flow u. Gives (result_of flow) (record u { locals = M }))) h

  -- a body with its hidden locals, on the same parameters
  body_ran : (m : ℕ) (body : WideStmts) → AllLower m Outside 0 body → (v : Visible) (b : List Local) (s : State)
      → Ran (record { names = m; hidden = length (hidden_onto m []); back = length b }) Any Outside 0 (λ i. None)
      (plain.execute_all (body_with m (all_lowered Outside 0 body)) n call v (at s b)) (execute_all body n called v (at s b))
  body_ran zero body h v b s =
      ran_all (record { names = 0; hidden = 0; back = length b }) call called sees n body Outside 0 (λ i. None) h tt v v (λ x q. refl) [] [] b s
      (record { own = tt; hidden = tt; many = refl; back = refl; there = λ i lt. absurd (omega (arith, lt)); held = λ i lt. absurd (omega (arith, lt)) }) tt
  body_ran (suc d) body h v b s =
      let m : ℕ = suc d in
      let H : List Local = hidden_onto m [] in
      let z : Shape = record { names = m; hidden = length H; back = length b } in
      let v' : Visible = all_declared Unsigned (hidden_declarators m) v in
      let rest : State → Run Flow = plain.execute_all (all_lowered Outside 0 body) n call v' in
      subst (λ (r : Run Flow). Ran z Any Outside 0 (λ i. None) (then_do r (λ flow t. behind_flow flow rest t)) (execute_all body n called v (at s b)))
      (sym (declares m call v b s ∙ ap (λ (ls : List Local). Gives Falls (at s ls)) (hidden_apart_from m [] b)))
      (ran_all z call called sees n body Outside 0 (λ i. None) h tt v' v (alike_hidden m v v (λ x q. refl)) [] H b s
      (record { own = tt; hidden = all_hidden m [] tt; many = refl; back = refl; there = λ i lt. there m i [] lt; held = λ i lt. absurd (omega (arith, lt)) }) tt)

-- ---- functions

abbrev lowered_function : WideFunction → Function
lowered_function g = record { name = g.name; parameters = g.parameters; body = lowered_body g.body; visible = g.visible }

-- each body can be lowered
abbrev AllFit : List WideFunction → Type 0
AllFit [] = Unit {0}
AllFit (g ∷ rest) = AllLower (nesting_of_all g.body) Outside 0 g.body × AllFit rest

-- a function of the unit, lowered and wide
abbrev Same : Option Function → Option WideFunction → Type 0
Same o None = o ≡ None
Same o (Some g) = (o ≡ Some (lowered_function g)) × AllLower (nesting_of_all g.body) Outside 0 g.body

same_named : (fs : List WideFunction) (x : List ℕ) → AllFit fs → Same (function_named (map lowered_function fs) x) (wide_function_named fs x)
same_named [] x h = refl
same_named (g ∷ rest) x h = by (same_name g.name x) (same_named rest x h.1)
  where
    by : (c : Bool) → Same (function_named (map lowered_function rest) x) (wide_function_named rest x)
        → Same (if c then Some (lowered_function g) else function_named (map lowered_function rest) x) (if c then Some g else wide_function_named rest x)
    by true ih = (refl, h.0)
    by false ih = ih

run_twin : (call called : Calls) → SeesNone call called → (n : ℕ) (o : Option Function) (p : Option WideFunction) → Same o p → (ws : List ℕ) (s : State) (L M : List Local)
    → Twin L M (run_optional o n call ws (at s L)) (wide_run_optional p n called ws (at s M))
run_twin call called sees n o None e ws s L M = subst (λ y. Twin L M (run_optional y n call ws (at s L)) (Gives 0 (at s M))) (sym e) (refl, refl)
run_twin call called sees n o (Some g) e ws s L M =
    subst (λ y. Twin L M (run_optional y n call ws (at s L)) (wide_run_optional (Some g) n called ws (at s M))) (sym e.0)
    (value_by call called sees n _ (λ i. None) L M _ _ (body_ran call called sees n (nesting_of_all g.body) g.body e.1 g.visible (bound g.parameters ws []) s))

-- ---- calls

twin_read : (input : List ℕ) (s : State) (L M : List Local) → Twin L M (read_input input (at s L)) (read_input input (at s M))
twin_read [] s L M = (refl, refl)
twin_read (w ∷ rest) s L M = (refl, refl)

twin_spend : (k : ℕ) (part was : State → Run ℕ) (s : State) (L M : List Local) → ((t : State) → Twin L M (part (at t L)) (was (at t M))) → Twin L M (spend_of k part (at s L)) (spend_of k was (at s M))
twin_spend zero part was s L M h = refl
twin_spend (suc k) part was s L M h = h (record s { steps = k })

twin_call : (writes reads allowed : Bool) (body was : State → Run ℕ) (ws : List ℕ) (s : State) (L M : List Local) → ((t : State) → Twin L M (body (at t L)) (was (at t M)))
    → Twin L M (elim writes [
      | true ↦ Gives 0 (record (at s L) { output = s.output ++ ws })
      | false ↦ elim reads [ true ↦ read_input s.input (at s L) | false ↦ spend (λ t. elim allowed [ true ↦ body t | false ↦ Wrong Depth t.output ]) (at s L) ]
    ]) (elim writes [
      | true ↦ Gives 0 (record (at s M) { output = s.output ++ ws })
      | false ↦ elim reads [ true ↦ read_input s.input (at s M) | false ↦ spend (λ t. elim allowed [ true ↦ was t | false ↦ Wrong Depth t.output ]) (at s M) ]
    ])
twin_call true reads allowed body was ws s L M h = (refl, refl)
twin_call false true allowed body was ws s L M h = twin_read s.input s L M
twin_call false false true body was ws s L M h = twin_spend s.steps body was s L M h
twin_call false false false body was ws s L M h = twin_spend s.steps (λ t. Wrong Depth t.output) (λ t. Wrong Depth t.output) s L M (λ t. refl)

calls_twin : (n : ℕ) (fs : List WideFunction) → AllFit fs → (opened : ℕ) → SeesNone (calls n (map lowered_function fs) opened) (wide_calls n fs opened)
calls_twin zero fs h opened = λ f ws s L M. refl
calls_twin (suc n) fs h opened = λ f ws s L M.
    twin_call (same_name f (codes "write_word")) (same_name f (codes "read_word")) (nat_lt opened most_open)
    (run_optional (function_named (map lowered_function fs) f) n (calls n (map lowered_function fs) (opened + 1)) ws)
    (wide_run_optional (wide_function_named fs f) n (wide_calls n fs (opened + 1)) ws) ws s L M
    (λ t. run_twin (calls n (map lowered_function fs) (opened + 1)) (wide_calls n fs (opened + 1)) (calls_twin n fs h (opened + 1)) n (function_named (map lowered_function fs) f) (wide_function_named fs f) (same_named fs f h) ws t L M)

-- ---- units

functions_lowered : (unit : List WideExternal) (f : FileScope) → functions_from (lowered_unit unit) f ≡ map lowered_function (wide_functions_from unit f)
functions_lowered [] f = refl
functions_lowered (Declaration s ∷ rest) f = functions_lowered rest (wide_file_scope_behind (Declaration s) f)
functions_lowered (Definition s body ∷ rest) f =
    ap (λ (fs : List Function). record { name = s.name.text; parameters = map (λ (p : Parameter). text_of p.name) s.parameters; body = lowered_body body; visible = body_scope s f } ∷ fs)
    (functions_lowered rest (wide_file_scope_behind (Definition s body) f))
functions_lowered (Objects t os ∷ rest) f = functions_lowered rest (wide_file_scope_behind (Objects t os) f)

functions_fit : (unit : List WideExternal) (f : FileScope) → UnitLowers unit → AllFit (wide_functions_from unit f)
functions_fit [] f h = tt
functions_fit (Declaration s ∷ rest) f h = functions_fit rest (wide_file_scope_behind (Declaration s) f) h
functions_fit (Definition s body ∷ rest) f h = (h.0, functions_fit rest (wide_file_scope_behind (Definition s body) f) h.1)
functions_fit (Objects t os ∷ rest) f h = functions_fit rest (wide_file_scope_behind (Objects t os) f) h

objects_lowered : (unit : List WideExternal) → objects (lowered_unit unit) ≡ wide_objects unit
objects_lowered [] = refl
objects_lowered (Declaration s ∷ rest) = objects_lowered rest
objects_lowered (Definition s body ∷ rest) = objects_lowered rest
objects_lowered (Objects t os ∷ rest) = ap (λ (l : List Object). os ++ l) (objects_lowered rest)

-- ---- programs

twin_outcome : (r q : Run ℕ) → Twin [] [] r q → outcome_of r ≡ outcome_of q
twin_outcome (Gives w s) q h = sym (ap outcome_of h.1)
twin_outcome (Going output) q h = sym (ap outcome_of h)
twin_outcome (Wrong cause output) q h = sym (ap outcome_of h)

pub switches_are_lowered : SwitchesAreLowered
switches_are_lowered text unit fits input n =
    let s : State = record { locals = []; globals = map initial_global (wide_objects unit); input = input; output = []; steps = n } in
    ap (λ (os : List Object). outcome_of (calls (suc n) (functions (lowered_unit unit)) 0 (codes "main") [] (record s { globals = map initial_global os }))) (objects_lowered unit)
    ∙ ap (λ (fs : List Function). outcome_of (calls (suc n) fs 0 (codes "main") [] s)) (functions_lowered unit first_file_scope)
    ∙ twin_outcome _ _ (calls_twin (suc n) (wide_functions unit) (functions_fit unit first_file_scope fits) 0 (codes "main") [] s [] [])
