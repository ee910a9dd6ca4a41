-- What a program of wide C does: the clauses of `Rattle.cc_c_semantics.specs.Meaning` for statements, functions and programs, and those
-- for `switch`. Expressions, assignments, declarations and loops are as there. The numbers in parentheses are clauses of ISO/IEC
-- 9899:1999.
--
-- A switch spends a step when its body begins, as a loop does.
use Rattle.std.specs.Prelude.{ℕ, zero, suc, ◌+◌, ◌++◌, Bool, true, false, ◌==◌, List, [], ◌∷◌, map, nat_lt, nat_le, if◌then◌else◌, Option, Some, None, unwrap_or, codes}
use Rattle.cc_ast.specs.Tree.{ConstantExpr, Parameter, Object}
use Rattle.cc_types.specs.Names.{same_name}
use Rattle.cc_types.specs.Scope.{Visible, in_scope, opened, all_declared, scope_behind_beginning, with_function, with_objects, body_scope, FileScope, first_file_scope}
use Rattle.cc_types.specs.Types.{constant_word}
use Rattle.cc_c_semantics.specs.Outcome.{Outcome, in_words}
use Rattle.cc_c_semantics.specs.declared.cause.Cause.TheVariants.{Depth}
use Rattle.cc_c_semantics.specs.Meaning.{State, Run, Gives, Going, Wrong, Flow, Falls, Breaks, Continues, then_do, choose, Calls, evaluate, evaluate_or, perform_optional, spend, behind_flow, begin_body, turns, declare, start, in_block, return, text_of, bound, result_of, read_input, most_open, initial_global, outcome_of}
use Rattle.cc_wide.specs.WideTree.{Label, Case, Default, WideStmt, Block, Local, Perform, Return, Break, Continue, If, IfElse, While, DoWhile, For, Switch, WideStmts, end, next, Sections, last, section, WideExternal, Declaration, Definition, Objects}

-- ---- the section with which a switch goes on (6.8.4.2)

-- the word of a label's constant, which is converted to the type of the switch's expression: a conversion keeps the word (6.3.1.3)
abbrev pub label_word : ConstantExpr → ℕ
label_word c = unwrap_or (constant_word c) 0

-- one of these labels is a case with this word
abbrev pub has_case : ℕ → List Label → Bool
has_case w [] = false
has_case w (Case c ∷ rest) = if w == label_word c then true else has_case w rest
has_case w (Default ∷ rest) = has_case w rest

-- one of these labels is `default`
abbrev pub has_default : List Label → Bool
has_default [] = false
has_default (Case c ∷ rest) = has_default rest
has_default (Default ∷ rest) = true

-- the number of the first section whose labels pass the test, if the first one of these has number i; d if no section passes
abbrev pub section_with : (List Label → Bool) → (i : ℕ) → Sections → (d : ℕ) → ℕ
section_with test i last d = d
section_with test i (section ls body rest) d = if test ls then i else section_with test (suc i) rest d

-- one more than the number of the last section
abbrev pub past : (i : ℕ) → Sections → ℕ
past i last = i
past i (section ls body rest) = past (suc i) rest

-- the section after `default`, or past the last one
abbrev pub default_of : Sections → ℕ
default_of all = section_with has_default 1 all (past 1 all)

-- the section with which a switch on this word goes on: after the case with this word, or else after `default`; past the last one if there
-- is neither
abbrev pub entry : ℕ → Sections → ℕ
entry w all = section_with (has_case w) 1 all (default_of all)

-- ---- statements

-- a `break` in a switch ends the switch; a `continue` is one of the loop around it (6.8.6.2, 6.8.6.3)
abbrev pub behind_switch : Flow → Flow
behind_switch Breaks = Falls
behind_switch flow = flow

-- the scope after a statement
abbrev pub wide_scope_behind : WideStmt → Visible → Visible
wide_scope_behind (Local t ds) v = all_declared t ds v
wide_scope_behind s v = v

-- what a statement or a list of statements does, if at most n steps are left (6.8); and what the sections of a switch do, each a
-- scope: those from number k on, one after the other as long as each falls through to the next
abbrev mutual
  pub execute : WideStmt → ℕ → Calls → Visible → State → Run Flow
  execute (Block all) n call v s = in_block (execute_all all n call (opened v)) s
  execute (Local t ds) n call v s = declare t ds call v s
  execute (Perform a) n call v s = perform_optional a (in_scope v) call s
  execute (Return at e) n call v s = return e (in_scope v) call s
  execute (Break at) n call v s = Gives Breaks s
  execute (Continue at) n call v s = Gives Continues s
  execute (If c a) n call v s =
      then_do (evaluate c (in_scope v) call s) (λ w t. choose w (in_block (execute a n call (opened v))) (λ u. Gives Falls u) t)
  execute (IfElse c a b) n call v s =
      then_do (evaluate c (in_scope v) call s) (λ w t. choose w (in_block (execute a n call (opened v))) (in_block (execute b n call (opened v))) t)
  execute (While c body) n call v s =
      turns (suc n) (evaluate c (in_scope v) call) (in_block (execute body n call (opened v))) (λ t. Gives Falls t) s
  execute (DoWhile body c) n call v s =
      begin_body (in_block (execute body n call (opened v)))
      (turns (suc n) (evaluate c (in_scope v) call) (in_block (execute body n call (opened v))) (λ t. Gives Falls t)) s
  execute (For first c behind body) n call v s =
      in_block (λ t. then_do (start first call (opened v) t) (λ flow u.
      turns (suc n) (evaluate_or 1 c (in_scope (scope_behind_beginning first (opened v))) call)
      (in_block (execute body n call (opened (scope_behind_beginning first (opened v)))))
      (perform_optional behind (in_scope (scope_behind_beginning first (opened v))) call) u)) s
  execute (Switch e all) n call v s =
      then_do (evaluate e (in_scope v) call s) (λ w t.
      spend (λ u. then_do (execute_from all 1 (entry w all) n call (opened v) u) (λ flow r. Gives (behind_switch flow) r)) t)

  pub execute_all : WideStmts → ℕ → Calls → Visible → State → Run Flow
  execute_all end n call v s = Gives Falls s
  execute_all (next first rest) n call v s =
      then_do (execute first n call v s) (λ flow t. behind_flow flow (execute_all rest n call (wide_scope_behind first v)) t)

  pub execute_from : Sections → (i k : ℕ) → ℕ → Calls → Visible → State → Run Flow
  execute_from last i k n call v s = Gives Falls s
  execute_from (section ls body rest) i k n call v s =
      then_do ((if nat_le k i then in_block (execute_all body n call (opened v)) else (λ t. Gives Falls t)) s)
      (λ flow t. behind_flow flow (execute_from rest (suc i) k n call v) t)

-- ---- functions

-- a defined function: its name, the names of its parameters, its body, and the scope in which the body begins
pub record WideFunction : Type 0 where
  pub name : List ℕ
  pub parameters : List (List ℕ)
  pub body : WideStmts
  pub visible : Visible

-- file scope after an external declaration, and after all objects of one
abbrev pub wide_file_scope_behind : WideExternal → FileScope → FileScope
wide_file_scope_behind (Declaration s) f = with_function s f
wide_file_scope_behind (Definition s body) f = record (with_function s f) { defined = s.name.text ∷ f.defined }
wide_file_scope_behind (Objects t os) f = with_objects t os f

-- the functions that a unit defines, in the order of their definitions
abbrev pub wide_functions_from : List WideExternal → FileScope → List WideFunction
wide_functions_from [] f = []
wide_functions_from (Definition s body ∷ rest) f =
    record { name = s.name.text; parameters = map (λ (p : Parameter). text_of p.name) s.parameters; body = body; visible = body_scope s f }
    ∷ wide_functions_from rest (wide_file_scope_behind (Definition s body) f)
wide_functions_from (Declaration s ∷ rest) f = wide_functions_from rest (wide_file_scope_behind (Declaration s) f)
wide_functions_from (Objects t os ∷ rest) f = wide_functions_from rest (wide_file_scope_behind (Objects t os) f)

abbrev pub wide_functions : List WideExternal → List WideFunction
wide_functions unit = wide_functions_from unit first_file_scope

abbrev pub wide_function_named : List WideFunction → List ℕ → Option WideFunction
wide_function_named [] x = None
wide_function_named (f ∷ rest) x = if same_name f.name x then Some f else wide_function_named rest x

-- the body on the words of its arguments
abbrev pub wide_run_body : WideFunction → ℕ → Calls → List ℕ → State → Run ℕ
wide_run_body f n call ws s =
    then_do (execute_all f.body n call f.visible (record s { locals = bound f.parameters ws [] }))
    (λ flow t. Gives (result_of flow) (record t { locals = s.locals }))

abbrev pub wide_run_optional : Option WideFunction → ℕ → Calls → List ℕ → State → Run ℕ
wide_run_optional None n call ws s = Gives 0 s
wide_run_optional (Some f) n call ws s = wide_run_body f n call ws s

-- a call while this many calls are open, if fewer than n steps are left
abbrev pub wide_calls : ℕ → List WideFunction → ℕ → Calls
wide_calls zero fs opened f ws s = Going s.output
wide_calls (suc n) fs opened f ws s =
    elim (same_name f (codes "write_word")) [
      | true ↦ Gives 0 (record s { output = s.output ++ ws })
      | false ↦ elim (same_name f (codes "read_word")) [
        | true ↦ read_input s.input s
        | false ↦ spend (λ t. elim (nat_lt opened most_open) [
          | true ↦ wide_run_optional (wide_function_named fs f) n (wide_calls n fs (opened + 1)) ws t
          | false ↦ Wrong Depth t.output
        ]) s
      ]
    ]

-- ---- programs

-- the objects at file scope, in the order of their declarations
abbrev pub wide_objects : List WideExternal → List Object
wide_objects [] = []
wide_objects (Declaration s ∷ rest) = wide_objects rest
wide_objects (Definition s body ∷ rest) = wide_objects rest
wide_objects (Objects t os ∷ rest) = os ++ wide_objects rest

-- what a program does on an input within n steps, with the places of its reads among what it writes (5.1.2.2.1, 5.1.2.3)
abbrev pub observed_wide_behavior : List WideExternal → List ℕ → ℕ → Outcome ℕ
observed_wide_behavior unit input n =
    outcome_of (wide_calls (suc n) (wide_functions unit) 0 (codes "main") []
    (record { locals = []; globals = map initial_global (wide_objects unit); input = input; output = []; steps = n }))

-- the same with the words alone that it writes
abbrev pub wide_behavior : List WideExternal → List ℕ → ℕ → Outcome ℕ
wide_behavior unit input n = in_words (observed_wide_behavior unit input n)
