-- The resolved form of a typed unit means the unit.
use Rattle.std.proofs.Common.{◌≡◌, ℕ, zero, suc, ◌+◌, Bool, true, false, true≢false, ◌||◌, if◌then◌else◌, List, [], ◌∷◌, ◌++◌, length, map, replicate, Some, slice_get, codes, refl, sym, ap, ◌∙◌, subst, arith, length-append, append_assoc}
use Rattle.std.proofs.lemmas.List.{nil_from_length}
use Rattle.cc_ast.specs.Tree.{Object, External, Declaration, Definition, Objects}
use Rattle.cc_types.specs.Names.{same_name}
use Rattle.cc_types.specs.Scope.{FileScope, has_name, first_file_scope, with_objects, file_scope_behind, file_scope_behind_all, body_scope}
use Rattle.cc_types.specs.Types.{object_elements, object_width, initial_words}
use Rattle.cc_types.specs.Rules.{broken_if, signature_errors, statements_errors, external_errors, externals_errors, undefined_among, called_in_statements, called_in_external, called}
use Rattle.cc_types.specs.declared.rule.Rule.TheVariants.{Redeclared}
use Rattle.cc_types.specs.Limits.{objects, object_name}
use Rattle.cc_types.specs.Typed.{IsTyped}
use Rattle.cc_meaning.specs.declared.form.Entry.{Entry}
use Rattle.cc_meaning.specs.declared.form.Instruction.{Instruction}
use Rattle.cc_layout.specs.Layout.{Layout, LaidObject, laid_from, names_before, layout_of, all_words}
use Rattle.cc_layout.specs.Environment.{environment_of}
use Rattle.cc_meaning.specs.internal.Form.{FunctionCode, functions_code, unit_functions, all_code, entries_from, resolved}
use Rattle.cc_c_semantics.specs.Outcome as outcome
use Rattle.cc_c_semantics.specs.Meaning.{State, Run, Gives, Going, Wrong, Function, functions_from, functions, function_named, run_body, run_optional, calls, initial_global, initial_globals, outcome_of, observed_behavior}
use Rattle.cc_meaning.specs.internal.FormMeaning.{Configuration, form_run, first_configuration, started, form_behavior, FormsMeanTheirUnits}
use Rattle.cc_c_semantics.proofs.Errors.{nil_left, nil_right, defined_left, defined_right}
use Rattle.cc_c_semantics.proofs.Held.{all_of, layout_from, get_right}
use Rattle.cc_meaning.proofs.Moves.{Halts, conf, Meets, Stands}
use Rattle.cc_c_semantics.proofs.Scopes.{AllFit, all_fit}
use Rattle.cc_meaning.proofs.Called.{Defined, Entered, main_meets}
use Rattle.cc_c_semantics.proofs.Bodies.{Takes, final_scope, names_in, body_scoped, main_named, main_parameters}

-- ---- what the whole code has at a place

stands_in : (prefix xs back : List Instruction) → Stands (prefix ++ (xs ++ back)) (length prefix) xs
stands_in prefix [] back = omega (arith, length-append prefix back)
stands_in prefix (i ∷ xs) back = (
  get_right prefix (i ∷ (xs ++ back)) 0 (length prefix) (omega arith),
  subst (λ code. Stands code (length prefix + 1) xs) (append_assoc prefix (i ∷ []) (xs ++ back))
      (subst (λ p. Stands ((prefix ++ i ∷ []) ++ (xs ++ back)) p xs) (length-append prefix (i ∷ [])) (stands_in (prefix ++ i ∷ []) xs back)),
)

-- ---- objects before the run

words_laid : (os : List Object) → all_of (map initial_global os) ≡ all_words os
words_laid [] = refl
words_laid (o ∷ rest) = ap (λ (l : List ℕ). initial_words o ++ l) (words_laid rest)

objects_laid : (at : ℕ) (os : List Object) → AllFit os → layout_from at (map initial_global os) ≡ laid_from at os
objects_laid at [] h = refl
objects_laid at (o ∷ rest) h =
    ap (λ k. record { name = (object_name o).text; extent = record { offset = at; length = k; width = object_width o } } ∷ layout_from (at + k) (map initial_global rest)) h.0
    ∙ ap (λ (ps : List LaidObject). record { name = (object_name o).text; extent = record { offset = at; length = object_elements o; width = object_width o } } ∷ ps) (objects_laid (at + object_elements o) rest h.1)

-- ---- the functions of a unit and their instructions

module _ (unit : List External) (typed : IsTyped unit) where
  abbrev layout : Layout
  layout = layout_of unit

  abbrev known : List (List ℕ)
  known = (final_scope unit).defined

  abbrev TakesHere : List ℕ → ℕ → Type 0
  TakesHere = Takes (names_in unit) (functions unit)

  -- the lists have functions, their instructions and their names, in the same order
  abbrev Matched : List Function → List FunctionCode → List (List ℕ) → Type 0
  Matched [] [] [] = Unit {0}
  Matched (g ∷ gs) (c ∷ cs) (x ∷ xs) = (g.name ≡ x) × Defined layout known (functions unit) g c × Matched gs cs xs
  Matched gs cs xs = ⊥

  matched : (ds : List External) (f : FileScope) → externals_errors ds f ≡ [] → undefined_among known (called ds) ≡ [] → file_scope_behind_all ds f ≡ final_scope unit
      → Matched (functions_from ds f) (functions_code layout f ds) (names_in ds)
  matched [] f o d whole = tt
  matched (Declaration s ∷ rest) f o d whole =
      matched rest (file_scope_behind (Declaration s) f) (nil_right (external_errors (Declaration s) f) (externals_errors rest (file_scope_behind (Declaration s) f)) o) d whole
  matched (Definition s body ∷ rest) f o d whole =
      let f' = file_scope_behind (Definition s body) f in
      let here = nil_left (external_errors (Definition s body) f) (externals_errors rest f') o in
      let of_body = statements_errors body (record { result = s.result; in_loop = false }) (body_scope s f) in
      let again = broken_if (has_name f.defined s.name.text) Redeclared s.name.at in (
        refl,
        record {
          parameters = s.parameters;
          named = refl;
          many = refl;
          environment = environment_of layout s f;
          names = refl;
          visible = refl;
          scoped = body_scoped unit typed s body rest f whole;
          around = record { result = s.result; in_loop = false };
          keeps_rules = nil_right again of_body (nil_right (signature_errors s f) (again ++ of_body) here);
          called = defined_left known (called_in_statements body) (called rest) d;
          code = refl;
          variables = refl;
        },
        matched rest f' (nil_right (external_errors (Definition s body) f) (externals_errors rest f') o) (defined_right known (called_in_statements body) (called rest) d) whole,
      )
  matched (Objects t os ∷ rest) f o d whole =
      matched rest (with_objects t os f) (nil_right (external_errors (Objects t os) f) (externals_errors rest (with_objects t os f)) o) (defined_right known (called_in_external (Objects t os)) (called rest) d) whole

  -- `x` is the name of one of these functions: the function, its number, and the place of its instructions
  record Listed (gs : List Function) (cs : List FunctionCode) (xs : List (List ℕ)) (code : List Instruction) (at : ℕ) (x : List ℕ) : Type 0 where
    function : Function
    instructions : FunctionCode
    is : function_named gs x ≡ Some function
    start : ℕ
    entry : slice_get (entries_from at cs) (names_before xs x) ≡ Some (record { start = start; parameters = instructions.parameters; variables = instructions.variables })
    stands : Stands code start instructions.code
    means : Defined layout known (functions unit) function instructions

  listed_by : (g : Function) (gs : List Function) (c : FunctionCode) (cs : List FunctionCode) (y : List ℕ) (xs : List (List ℕ)) (code : List Instruction) (at : ℕ) (x : List ℕ) (b : Bool) → same_name y x ≡ b → g.name ≡ y
      → Defined layout known (functions unit) g c → Stands code at c.code → (b || has_name xs x) ≡ true → (has_name xs x ≡ true → Listed gs cs xs code (at + length c.code) x) → Listed (g ∷ gs) (c ∷ cs) (y ∷ xs) code at x
  listed_by g gs c cs y xs code at x true e is d st has ih = record {
    function = g;
    instructions = c;
    is = ap (λ b. if b then Some g else function_named gs x) (ap (λ z. same_name z x) is ∙ e);
    start = at;
    entry = ap (λ b. slice_get (entries_from at (c ∷ cs)) (if b then 0 else 1 + names_before xs x)) e;
    stands = st;
    means = d;
  }
  listed_by g gs c cs y xs code at x false e is d st has ih =
      let r = ih has in
      record {
        function = r.function;
        instructions = r.instructions;
        is = ap (λ b. if b then Some g else function_named gs x) (ap (λ z. same_name z x) is ∙ e) ∙ r.is;
        start = r.start;
        entry =
            ap (λ b. slice_get (entries_from at (c ∷ cs)) (if b then 0 else 1 + names_before xs x)) e
            ∙ ap (λ k. slice_get (entries_from at (c ∷ cs)) k) (let z : 1 + names_before xs x ≡ suc (names_before xs x) = omega arith in z) ∙ r.entry;
        stands = r.stands;
        means = r.means;
      }

  listed : (gs : List Function) (cs : List FunctionCode) (xs : List (List ℕ)) (prefix : List Instruction) (at : ℕ) (x : List ℕ) → length prefix ≡ at → Matched gs cs xs → has_name xs x ≡ true → Listed gs cs xs (prefix ++ all_code cs) at x
  listed [] [] [] prefix at x e m has = absurd (true≢false (sym has))
  listed [] [] (y ∷ xs) prefix at x e m has = absurd m
  listed [] (c ∷ cs) xs prefix at x e m has = absurd m
  listed (g ∷ gs) [] xs prefix at x e m has = absurd m
  listed (g ∷ gs) (c ∷ cs) [] prefix at x e m has = absurd m
  listed (g ∷ gs) (c ∷ cs) (y ∷ xs) prefix at x e m has =
      listed_by g gs c cs y xs (prefix ++ (c.code ++ all_code cs)) at x (same_name y x) refl m.0 m.1
      (subst (λ p. Stands (prefix ++ (c.code ++ all_code cs)) p c.code) e (stands_in prefix c.code (all_code cs))) has
      (λ has'. subst (λ code. Listed gs cs xs code (at + length c.code) x) (append_assoc prefix c.code (all_code cs))
      (listed gs cs xs (prefix ++ c.code) (at + length c.code) x (length-append prefix c.code ∙ ap (λ k. k + length c.code) e) m.2 has'))

  table : (x : List ℕ) → has_name layout.functions x ≡ true → Entered (resolved unit) layout known (functions unit) x
  table x has =
      let r = listed (functions unit) (unit_functions unit) (names_in unit) [] 0 x refl (matched unit first_file_scope typed.0 typed.2 refl) has in
      record { function = r.function; code = r.instructions; is = r.is; start = r.start; entry = r.entry; stands = r.stands; means = r.means }

  -- ---- the run

  halts_as : (c : Configuration) (r : Run ℕ) → Meets (resolved unit) c (λ w u. Halts (resolved unit) c (record { stop = outcome.Ended w; output = u.output })) r → Halts (resolved unit) c (outcome_of r)
  halts_as c (Gives w u) h = h
  halts_as c (Going output) h = h
  halts_as c (Wrong cause output) h = h

  main_run : (input : List ℕ) (left : ℕ) (e : Entered (resolved unit) layout known (functions unit) (codes "main")) → e.function.parameters ≡ []
      → Halts (resolved unit) (conf e.start (replicate e.code.variables 0) [] [] (record { locals = []; globals = initial_globals unit; input = input; output = []; steps = left }))
      (outcome_of (run_body e.function (suc left) (calls (suc left) (functions unit) 1) [] (record { locals = []; globals = initial_globals unit; input = input; output = []; steps = left })))
  main_run input left e none =
      let t : State = record { locals = []; globals = initial_globals unit; input = input; output = []; steps = left } in
      halts_as (conf e.start (replicate e.code.variables 0) [] [] t) (run_body e.function (suc left) (calls (suc left) (functions unit) 1) [] t)
      (main_meets (resolved unit) layout known (functions unit) table (suc left) (codes "main", e) t 1 refl none (omega arith) (objects_laid 0 (objects unit) (all_fit unit first_file_scope typed.0)))

  no_parameters : (e : Entered (resolved unit) layout known (functions unit) (codes "main")) → e.function.parameters ≡ []
  no_parameters e = nil_from_length e.function.parameters (main_parameters unit typed e.function e.is)

  -- the form does what the unit does, with no step left and with at least one
  behaves : (text input : List ℕ) (n : ℕ) (e : Entered (resolved unit) layout known (functions unit) (codes "main"))
      → (k : ℕ) × (form_behavior k (resolved unit) input n ≡ Some (observed_behavior (record { text = text; externals = unit }) input n))
  behaves text input zero e = (
    0,
    ap (λ o. started 0 (resolved unit) o input 0) e.entry,
  )
  behaves text input (suc left) e =
      let t : State = record { locals = []; globals = initial_globals unit; input = input; output = []; steps = left } in
      let entry : Entry = record { start = e.start; parameters = e.code.parameters; variables = e.code.variables } in
      let h = main_run input left e (no_parameters e) in
      let first : conf e.start (replicate e.code.variables 0) [] [] t ≡ first_configuration (resolved unit) entry input left =
      ap (λ gs. record { now = record { next = e.start; variables = replicate e.code.variables 0; operands = [] }; callers = []; globals = gs; input = input; output = []; steps = left }) (words_laid (objects unit)) in (
        h.0,
        ap (λ o. started h.0 (resolved unit) o input (suc left)) e.entry ∙ ap (form_run h.0 (resolved unit)) (sym first) ∙ h.1
            ∙ ap (λ r. Some (outcome_of r)) (ap (λ o. run_optional o (suc left) (calls (suc left) (functions unit) 1) [] t) (sym e.is)),
      )

pub forms_mean_their_units : FormsMeanTheirUnits
forms_mean_their_units source input n typed within =
    behaves source.externals typed source.text input n (table source.externals typed (codes "main") (main_named source.externals typed.1))
