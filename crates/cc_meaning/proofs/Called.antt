-- A call in the resolved form does what a call in the source does, by recursion on the bound on calls.
use Rattle.std.proofs.Common.{◌≡◌, ℕ, zero, suc, ◌+◌, ◌<◌, ◌≤◌, Bool, true, false, if◌then◌else◌, List, [], ◌∷◌, ◌++◌, length, map, reverse, take, drop, replicate, nat_lt, Option, Some, None, slice_get, codes, refl, sym, ap, ◌∙◌, subst, arith, length-append, append-nil}
use Rattle.std.proofs.lemmas.Bool.{le-leb}
use Rattle.std.proofs.lemmas.List.{length-map, length-reverse, length-replicate, reverse-reverse, take_at, drop_at}
use Rattle.cc_words.specs.Observed.{read_mark}
use Rattle.cc_ast.specs.Tree.{Name, Parameter}
use Rattle.cc_types.specs.Names.{same_name}
use Rattle.cc_types.specs.Scope.{has_name}
use Rattle.cc_types.specs.Rules.{Around, statements_errors, undefined_among, called_in_statements}
use Rattle.cc_types.specs.Limits.{locals}
use Rattle.cc_meaning.specs.declared.form.Entry.{Entry}
use Rattle.cc_meaning.specs.declared.form.Instruction.{Instruction}
use Rattle.cc_meaning.specs.declared.form.Instruction.TheVariants as instruction
use Rattle.cc_meaning.specs.internal.Form.{FormTree, call_to, call_of, statements_code, FunctionCode}
use Rattle.cc_layout.specs.declared.layout.Callee.TheVariants as leads
use Rattle.cc_layout.specs.Environment.{Environment, parameter_names}
use Rattle.cc_layout.specs.Layout.{Layout, names_before}
use Rattle.cc_c_semantics.specs.Outcome as outcome
use Rattle.cc_c_semantics.specs.declared.cause.Cause.TheVariants.{Depth}
use Rattle.cc_c_semantics.specs.Meaning.{Local, State, Gives, Wrong, Flow, Falls, Breaks, Continues, Returns, Calls, spend_of, Function, text_of, function_named, bound, result_of, run_body, run_optional, read_input, most_open, calls, execute_all}
use Rattle.cc_meaning.specs.internal.FormMeaning.{Activation, Configuration, Move, Goes, Stops, instruction_move, call_move, stepped, entered, only_if, read_move}
use Rattle.cc_c_semantics.proofs.Named.{same_name_symm, call_begins}
use Rattle.cc_c_semantics.proofs.Steps.{begun, body_part}
use Rattle.cc_c_semantics.proofs.Held.{names_of, words_in, newest_last, layout_from}
use Rattle.cc_meaning.proofs.Moves.{Halts, Leads, leads_refl, leads_then, conf, Meets, meets_then, meets_after, meets_same, Stands, stands_end, stands_left, stands_right, instructed, instructed_last}
use Rattle.cc_meaning.proofs.Fits.{Fits}
use Rattle.cc_meaning.proofs.Expressions.{Value, CallsMeet}
use Rattle.cc_meaning.proofs.Blocks.{Leaves, Done}
use Rattle.cc_meaning.proofs.Executes.{execute_all_meets}
use Rattle.cc_c_semantics.proofs.Scoped.{Scoped}
use Rattle.cc_c_semantics.proofs.Bodies.{Takes, Writes, Reads, Enters}

-- ---- parameters

pub bound_names : (ps : List Parameter) (ws : List ℕ) (ls : List Local) → length ws ≡ length ps → names_of (bound (map (λ (p : Parameter). text_of p.name) ps) ws ls) ≡ parameter_names ps (names_of ls)
bound_names [] ws ls e = refl
bound_names (p ∷ rest) [] ls e = absurd (omega arith)
bound_names (p ∷ rest) (w ∷ ws) ls e =
    bound_names rest ws (record { name = text_of p.name; word = w } ∷ ls) (omega arith) ∙ ap (λ (x : List ℕ). parameter_names rest (x ∷ names_of ls)) (text_is p.name)
  where
    text_is : (o : Option Name) → text_of o ≡ elim o [ None ↦ [] | Some x ↦ x.text ]
    text_is None = refl
    text_is (Some x) = refl

pub bound_words : (xs : List (List ℕ)) (ws : List ℕ) (ls : List Local) → length ws ≡ length xs → words_in (bound xs ws ls) ≡ reverse ws ++ words_in ls
bound_words [] [] ls e = refl
bound_words [] (w ∷ ws) ls e = absurd (omega arith)
bound_words (x ∷ xs) [] ls e = absurd (omega arith)
bound_words (x ∷ xs) (w ∷ ws) ls e = bound_words xs ws (record { name = x; word = w } ∷ ls) (omega arith) ∙ sym (newest_last w ws (words_in ls))

pub bound_variables : (xs : List (List ℕ)) (ws : List ℕ) → length ws ≡ length xs → reverse (words_in (bound xs ws [])) ≡ ws
bound_variables xs ws e = ap (λ (l : List ℕ). reverse l) (bound_words xs ws [] e ∙ append-nil (reverse ws)) ∙ reverse-reverse ws

-- ---- functions

-- a function in the source and its instructions, in the environment at the beginning of its body
pub record Defined (layout : Layout) (defined : List (List ℕ)) (fs : List Function) (g : Function) (fc : FunctionCode) : Type 0 where
  pub parameters : List Parameter
  pub named : g.parameters ≡ map (λ (p : Parameter). text_of p.name) parameters
  pub many : fc.parameters ≡ length parameters
  pub environment : Environment
  pub names : environment.locals ≡ parameter_names parameters []
  pub visible : environment.visible ≡ g.visible
  pub scoped : Scoped layout defined (Takes layout.functions fs) environment
  pub around : Around
  pub keeps_rules : statements_errors g.body around environment.visible ≡ []
  pub called : undefined_among defined (called_in_statements g.body) ≡ []
  pub code : fc.code ≡ statements_code environment (record { breaks = 0; continues = 0 }) g.body ++ instruction.Constant 0 ∷ instruction.Return ∷ []
  pub variables : fc.variables ≡ length (locals g.body)

-- the function with a name, its number, and the place of its instructions
pub record Entered (form : FormTree) (layout : Layout) (defined : List (List ℕ)) (fs : List Function) (x : List ℕ) : Type 0 where
  pub function : Function
  pub code : FunctionCode
  pub is : function_named fs x ≡ Some function
  pub start : ℕ
  pub entry : slice_get form.functions (names_before layout.functions x) ≡ Some (record { start = start; parameters = code.parameters; variables = code.variables })
  pub stands : Stands form.code start code.code
  pub means : Defined layout defined fs function code

module _ (form : FormTree) (layout : Layout) (defined : List (List ℕ)) (fs : List Function) (table : (x : List ℕ) → has_name layout.functions x ≡ true → Entered form layout defined fs x) where
  abbrev TakesHere : List ℕ → ℕ → Type 0
  TakesHere = Takes layout.functions fs

  -- ---- the body of a function

  -- a body reaches a return of its word, with the calls around it unchanged
  record Returned (cs : List Activation) (c : Configuration) (most w : ℕ) (t : State) : Type 0 where
    offset : ℕ
    variables : List ℕ
    operands : List ℕ
    here : slice_get form.code offset ≡ Some instruction.Return
    leads : Leads form c (conf offset variables (w ∷ operands) cs t)
    laid : layout_from 0 t.globals ≡ layout.objects
    steps : t.steps ≤ most

  abbrev body_code : (g : Function) → Environment → List Instruction
  body_code g v = statements_code v (record { breaks = 0; continues = 0 }) g.body

  falls_off : (cs : List Activation) (total : ℕ) (c : Configuration) (v : Environment) (most q : ℕ) (t : State) → v.layout ≡ layout → slice_get form.code q ≡ Some (instruction.Constant 0) → slice_get form.code (q + 1) ≡ Some instruction.Return
      → Leaves form cs total c v most q t → Returned cs c most 0 t
  falls_off cs total c v most q t pl e e' h = record {
    offset = q + 1;
    variables = h.variables;
    operands = [];
    here = e';
    leads = leads_then form c (conf q h.variables [] cs t) (conf (q + 1) h.variables (0 ∷ []) cs t) h.leads (instructed form (instruction.Constant 0) q h.variables [] cs t (conf (q + 1) h.variables (0 ∷ []) cs t) e refl);
    laid = h.fits.laid ∙ ap (λ (p : Layout). p.objects) pl;
    steps = h.fits.steps;
  }

  flow_returns : (cs : List Activation) (total : ℕ) (c : Configuration) (v : Environment) (most q b k : ℕ) (flow : Flow) (t : State) → v.layout ≡ layout → slice_get form.code q ≡ Some (instruction.Constant 0) → slice_get form.code (q + 1) ≡ Some instruction.Return → b ≡ q → k ≡ q
      → Done form cs total layout c most (Leaves form cs total c v most q) (Leaves form cs total c v most b) (Leaves form cs total c v most k) flow t → Returned cs c most (result_of flow) t
  flow_returns cs total c v most q b k Falls t pl e e' eb ek h = falls_off cs total c v most q t pl e e' h
  flow_returns cs total c v most q b k Breaks t pl e e' eb ek h = falls_off cs total c v most q t pl e e' (subst (λ z. Leaves form cs total c v most z t) eb h)
  flow_returns cs total c v most q b k Continues t pl e e' eb ek h = falls_off cs total c v most q t pl e e' (subst (λ z. Leaves form cs total c v most z t) ek h)
  flow_returns cs total c v most q b k (Returns w) t pl e e' eb ek h =
      record { offset = h.offset; variables = h.variables; operands = h.operands; here = h.here; leads = h.leads; laid = h.laid; steps = h.steps }

  -- a body in its own frame does what the source's body does
  body_meets : (cs : List Activation) (n : ℕ) (call : Calls) → ((total : ℕ) → CallsMeet form layout TakesHere cs total n call) → (g : Function) (fc : FunctionCode) (d : Defined layout defined fs g fc) (p most : ℕ) (ws : List ℕ) (t : State)
      → length ws ≡ length g.parameters → Stands form.code p fc.code → most < n → t.steps ≤ most → layout_from 0 t.globals ≡ layout.objects
      → Meets form (conf p (ws ++ replicate fc.variables 0) [] cs t) (λ flow u. Returned cs (conf p (ws ++ replicate fc.variables 0) [] cs t) most (result_of flow) u)
      (execute_all g.body n call g.visible (record t { locals = bound g.parameters ws [] }))
  body_meets cs n call calls_meet g fc d p most ws t many st lt le laid =
      let v = d.environment in
      let vs = ws ++ replicate fc.variables 0 in
      let u : State = record t { locals = bound g.parameters ws [] } in
      let c = conf p vs [] cs t in
      let code = body_code g v in
      let last = instruction.Constant 0 ∷ instruction.Return ∷ [] in
      let total = length vs in
      let st' : Stands form.code p (code ++ last) = subst (λ xs. Stands form.code p xs) d.code st in
      let q = p + length code in
      let in_last = stands_right form.code p q code last refl st' in
      let in_code = stands_left form.code p code last st' in
      let end_at = stands_end form.code p code in_code in
      let many' : length ws ≡ length d.parameters = many ∙ ap (λ (xs : List (List ℕ)). length xs) d.named ∙ length-map d.parameters (λ (x : Parameter). text_of x.name) in
      let names : names_of (bound g.parameters ws []) ≡ v.locals =
      ap (λ xs. names_of (bound xs ws [])) d.named ∙ bound_names d.parameters ws [] many' ∙ sym d.names in
      let fits : Fits v total most vs u = record {
        names = names;
        laid = laid ∙ ap (λ (x : Layout). x.objects) (sym d.scoped.laid);
        junk = replicate fc.variables 0;
        holds = ap (λ (xs : List ℕ). xs ++ replicate fc.variables 0) (sym (bound_variables g.parameters ws many));
        room = refl;
        steps = le;
      } in
      let size : total ≡ length ws + length (locals g.body) = length-append ws (replicate fc.variables 0) ∙ ap (λ k. length ws + k) (length-replicate fc.variables 0 ∙ d.variables) in
      let few : length v.locals ≡ length ws =
      sym (ap (λ (xs : List (List ℕ)). length xs) names) ∙ length-map (bound g.parameters ws []) (λ (l : Local). l.name) ∙ sym (length-map (bound g.parameters ws []) (λ (l : Local). l.word))
      ∙ sym (length-reverse (words_in (bound g.parameters ws []))) ∙ ap (λ (xs : List ℕ). length xs) (bound_variables g.parameters ws many) in
      let zero_more : q ≡ q + 0 = omega arith in
      meets_after form c c (Done form cs total layout c most (Leaves form cs total c v most q) (Leaves form cs total c v most q) (Leaves form cs total c v most q)) (λ flow y. Returned cs c most (result_of flow) y)
      (execute_all g.body n call g.visible u) (leads_refl form c) (λ flow y h. flow_returns cs total c v most q q q flow y d.scoped.laid in_last.0 in_last.1.0 refl refl h)
      (subst (λ y. Meets form c (Done form cs total layout c most (Leaves form cs total c v most q) (Leaves form cs total c v most q) (Leaves form cs total c v most q)) (execute_all g.body n call y u)) d.visible
      (execute_all_meets form cs total layout defined TakesHere n call (calls_meet total) g.body v (record { breaks = 0; continues = 0 }) d.around most d.scoped lt d.keeps_rules d.called (omega arith)
      p q q vs u zero_more zero_more end_at end_at in_code fits))

  -- ---- builtins

  write_meets : (n : ℕ) (cs : List Activation) (total : ℕ) (v : Environment) (f ws : List ℕ) (p : ℕ) (vs ops : List ℕ) (s : State) (most : ℕ) → same_name f (codes "write_word") ≡ true → length ws ≡ 1
      → slice_get form.code p ≡ Some (call_of v f) → Fits v total most vs s
      → Meets form (conf p vs (reverse ws ++ ops) cs s) (Value form cs total (conf p vs (reverse ws ++ ops) cs s) v most vs (p + 1) ops) (Gives 0 (record s { output = s.output ++ ws }))
  write_meets n cs total v f [] p vs ops s most is one e h = absurd (omega arith)
  write_meets n cs total v f (w ∷ []) p vs ops s most is one e h =
      let called : call_of v f ≡ instruction.Write =
      ap (λ b. call_to (if b then leads.WriteWord else (if same_name (codes "read_word") f then leads.ReadWord else leads.Defined (names_before v.layout.functions f)))) (same_name_symm (codes "write_word") f ∙ is) in
      record {
        fits = record { names = h.names; laid = h.laid; junk = h.junk; holds = h.holds; room = h.room; steps = h.steps };
        leads = instructed form instruction.Write p vs (w ∷ ops) cs s (conf (p + 1) vs (0 ∷ ops) cs (record s { output = s.output ++ w ∷ [] })) (e ∙ ap Some called) refl;
      }
  write_meets n cs total v f (w ∷ x ∷ rest) p vs ops s most is one e h = absurd (omega arith)

  read_by : (cs : List Activation) (total : ℕ) (v : Environment) (p : ℕ) (vs ops : List ℕ) (s : State) (most : ℕ) (input : List ℕ) → s.input ≡ input → slice_get form.code p ≡ Some instruction.Read → Fits v total most vs s
      → Meets form (conf p vs ops cs s) (Value form cs total (conf p vs ops cs s) v most vs (p + 1) ops) (read_input input s)
  read_by cs total v p vs ops s most [] is e h = record {
    fits = record { names = h.names; laid = h.laid; junk = h.junk; holds = h.holds; room = h.room; steps = h.steps };
    leads = instructed form instruction.Read p vs ops cs s (conf (p + 1) vs (0 ∷ ops) cs (record s { output = s.output ++ read_mark ∷ [] })) e (ap (λ i. read_move i (conf (p + 1) vs ops cs s)) is);
  }
  read_by cs total v p vs ops s most (w ∷ rest) is e h = record {
    fits = record { names = h.names; laid = h.laid; junk = h.junk; holds = h.holds; room = h.room; steps = h.steps };
    leads = instructed form instruction.Read p vs ops cs s (conf (p + 1) vs (w ∷ ops) cs (record s { input = rest; output = s.output ++ read_mark ∷ [] })) e (ap (λ i. read_move i (conf (p + 1) vs ops cs s)) is);
  }

  read_meets : (cs : List Activation) (total : ℕ) (v : Environment) (f ws : List ℕ) (p : ℕ) (vs ops : List ℕ) (s : State) (most : ℕ) → same_name f (codes "write_word") ≡ false → same_name f (codes "read_word") ≡ true → length ws ≡ 0
      → slice_get form.code p ≡ Some (call_of v f) → Fits v total most vs s
      → Meets form (conf p vs (reverse ws ++ ops) cs s) (Value form cs total (conf p vs (reverse ws ++ ops) cs s) v most vs (p + 1) ops) (read_input s.input s)
  read_meets cs total v f [] p vs ops s most not_write is none e h =
      let called : call_of v f ≡ instruction.Read =
      ap (λ b. call_to (if b then leads.WriteWord else (if same_name (codes "read_word") f then leads.ReadWord else leads.Defined (names_before v.layout.functions f)))) (same_name_symm (codes "write_word") f ∙ not_write)
      ∙ ap (λ b. call_to (if b then leads.ReadWord else leads.Defined (names_before v.layout.functions f))) (same_name_symm (codes "read_word") f ∙ is) in
      read_by cs total v p vs ops s most s.input refl (e ∙ ap Some called) h
  read_meets cs total v f (w ∷ rest) p vs ops s most not_write is none e h = absurd (omega arith)

  -- ---- functions

  -- entering a function makes the arguments its first variables and gives the caller a frame
  entering : (start variables left p : ℕ) (ws vs ops : List ℕ) (cs : List Activation) (s : State) (count : ℕ) → count ≡ length ws
      → entered (record { start = start; parameters = count; variables = variables }) left (conf p vs (reverse ws ++ ops) cs s)
      ≡ Goes (conf start (ws ++ replicate variables 0) [] (record { next = p; variables = vs; operands = ops } ∷ cs) (record s { steps = left }))
  entering start variables left p ws vs ops cs s count e =
      let c = conf p vs (reverse ws ++ ops) cs s in
      let size = length-reverse ws in
      let t : State = record s { steps = left } in
      let made : List ℕ → List ℕ → Move = λ mine others. Goes (conf start (reverse mine ++ replicate variables 0) [] (record { next = p; variables = vs; operands = others } ∷ cs) t) in
      ap (λ k. entered (record { start = start; parameters = k; variables = variables }) left c) e
      ∙ ap (λ b. only_if b (made (take (length ws) (reverse ws ++ ops)) (drop (length ws) (reverse ws ++ ops)))) (le-leb (length ws) (length (reverse ws ++ ops)) (let z = length-append (reverse ws) ops in omega arith))
      ∙ ap (λ l. made l (drop (length ws) (reverse ws ++ ops))) (take_at (reverse ws) ops (length ws) size)
      ∙ ap (λ l. made (reverse ws) l) (drop_at (reverse ws) ops (length ws) size)
      ∙ ap (λ (l : List ℕ). Goes (conf start (l ++ replicate variables 0) [] (record { next = p; variables = vs; operands = ops } ∷ cs) t)) (reverse-reverse ws)

  -- a return pushes its word for the caller
  returns_to : (cs : List Activation) (total : ℕ) (v : Environment) (p most left w : ℕ) (vs ops : List ℕ) (s t : State) (c : Configuration) → v.layout ≡ layout → left ≤ most → Fits v total most vs s
      → Returned (record { next = p; variables = vs; operands = ops } ∷ cs) c left w t → Value form cs total c v most vs p ops w (record t { locals = s.locals })
  returns_to cs total v p most left w vs ops s t c pl le h r =
      let a : Activation = record { next = p; variables = vs; operands = ops } in
      record {
        fits = record { names = h.names; laid = r.laid ∙ ap (λ (x : Layout). x.objects) (sym pl); junk = h.junk; holds = h.holds; room = h.room; steps = (let z = r.steps in omega arith) };
        leads = leads_then form c (conf r.offset r.variables (w ∷ r.operands) (a ∷ cs) t) (conf p vs (w ∷ ops) cs (record t { locals = s.locals })) r.leads
            (instructed form instruction.Return r.offset r.variables (w ∷ r.operands) (a ∷ cs) t (conf p vs (w ∷ ops) cs (record t { locals = s.locals })) r.here refl);
      }

  -- the move of `Call` is that of a call of the named function
  call_moves : (x : List ℕ) (e : Entered form layout defined fs x) (v : Environment) (c : Configuration) → v.layout ≡ layout
      → instruction_move form (instruction.Call (names_before v.layout.functions x)) c
      ≡ call_move (Some (record { start = e.start; parameters = e.code.parameters; variables = e.code.variables })) c
  call_moves x e v c pl = ap (λ (q : Layout). call_move (slice_get form.functions (names_before q.functions x)) c) pl ∙ ap (λ o. call_move o c) e.entry

  -- once a call has spent its step, it does what the source's call does
  entered_by : (cs : List Activation) (total m : ℕ) (ih : (cs : List Activation) (total : ℕ) → CallsMeet form layout TakesHere cs total m (calls m fs (1 + length cs))) (v : Environment) (f ws : List ℕ) (p : ℕ) (vs ops : List ℕ) (s : State)
      (most left : ℕ) (allowed : Bool) (e : Entered form layout defined fs f) → v.layout ≡ layout → length e.function.parameters ≡ length ws → slice_get form.code p ≡ Some (instruction.Call (names_before v.layout.functions f))
      → Fits v total most vs s → most < suc m → s.steps ≡ suc left → nat_lt (1 + length cs) most_open ≡ allowed
      → Meets form (conf p vs (reverse ws ++ ops) cs s) (Value form cs total (conf p vs (reverse ws ++ ops) cs s) v most vs (p + 1) ops)
      (elim allowed [ true ↦ run_optional (function_named fs f) m (calls m fs (1 + length cs + 1)) ws (record s { steps = left }) | false ↦ Wrong Depth s.output ])
  entered_by cs total m ih v f ws p vs ops s most left false e pl many at h lt is deep =
      let c = conf (p + 1) vs (reverse ws ++ ops) cs s in
      let entry : Entry = record { start = e.start; parameters = e.code.parameters; variables = e.code.variables } in
      instructed_last form (instruction.Call (names_before v.layout.functions f)) p vs (reverse ws ++ ops) cs s (outcome.Wrong Depth) at
      (call_moves f e v c pl ∙ ap (λ k. stepped k (λ l. if nat_lt (1 + length cs) most_open then entered entry l c else Stops (outcome.Wrong Depth))) is
      ∙ ap (λ b. if b then entered entry left c else Stops (outcome.Wrong Depth)) deep)
  entered_by cs total m ih v f ws p vs ops s most left true e pl many at h lt is deep =
      let before = conf p vs (reverse ws ++ ops) cs s in
      let c = conf (p + 1) vs (reverse ws ++ ops) cs s in
      let entry : Entry = record { start = e.start; parameters = e.code.parameters; variables = e.code.variables } in
      let g = e.function in
      let fc = e.code in
      let d = e.means in
      let count : fc.parameters ≡ length ws = d.many ∙ sym (length-map d.parameters (λ (x : Parameter). text_of x.name)) ∙ ap (λ (xs : List (List ℕ)). length xs) (sym d.named) ∙ many in
      let a : Activation = record { next = p + 1; variables = vs; operands = ops } in
      let t : State = record s { steps = left } in
      let inside = conf e.start (ws ++ replicate fc.variables 0) [] (a ∷ cs) t in
      let to : Leads form before inside =
      instructed form (instruction.Call (names_before v.layout.functions f)) p vs (reverse ws ++ ops) cs s inside at
      (call_moves f e v c pl ∙ ap (λ k. stepped k (λ l. if nat_lt (1 + length cs) most_open then entered entry l c else Stops (outcome.Wrong Depth))) is
      ∙ ap (λ b. if b then entered entry left c else Stops (outcome.Wrong Depth)) deep ∙ entering e.start fc.variables left (p + 1) ws vs ops cs s fc.parameters count) in
      let call' : Calls = calls m fs (1 + length cs + 1) in
      let meets : (total' : ℕ) → CallsMeet form layout TakesHere (a ∷ cs) total' m call' =
      λ total'. subst (λ k. CallsMeet form layout TakesHere (a ∷ cs) total' m (calls m fs k)) (let z : 1 + length (a ∷ cs) ≡ 1 + length cs + 1 = omega arith in z) (ih (a ∷ cs) total') in
      let steps = h.steps in
      meets_same form before (Value form cs total before v most vs (p + 1) ops) (run_optional (function_named fs f) m call' ws t) (run_body g m call' ws t) (ap (λ o. run_optional o m call' ws t) e.is)
      (meets_then form before (λ flow u. Returned (a ∷ cs) before left (result_of flow) u) (Value form cs total before v most vs (p + 1) ops) (execute_all g.body m call' g.visible (record t { locals = bound g.parameters ws [] }))
      (λ flow u. Gives (result_of flow) (record u { locals = t.locals }))
      (meets_after form before inside (λ flow u. Returned (a ∷ cs) inside left (result_of flow) u) (λ flow u. Returned (a ∷ cs) before left (result_of flow) u) (execute_all g.body m call' g.visible (record t { locals = bound g.parameters ws [] })) to
      (λ flow u r. record {
        offset = r.offset;
        variables = r.variables;
        operands = r.operands;
        here = r.here;
        leads = leads_then form before inside (conf r.offset r.variables (result_of flow ∷ r.operands) (a ∷ cs) u) to r.leads;
        laid = r.laid;
        steps = r.steps;
      })
      (body_meets (a ∷ cs) m call' meets g fc d e.start left ws t (sym many) e.stands (omega arith) (omega arith) (h.laid ∙ ap (λ (x : Layout). x.objects) pl)))
      (λ flow u r. returns_to cs total v (p + 1) most left (result_of flow) vs ops s u before pl (omega arith) h r))

  spent_by : (cs : List Activation) (total m : ℕ) (ih : (cs : List Activation) (total : ℕ) → CallsMeet form layout TakesHere cs total m (calls m fs (1 + length cs))) (v : Environment) (f ws : List ℕ) (p : ℕ) (vs ops : List ℕ) (s : State)
      (most left : ℕ) (e : Entered form layout defined fs f) → v.layout ≡ layout → length e.function.parameters ≡ length ws → slice_get form.code p ≡ Some (instruction.Call (names_before v.layout.functions f))
      → Fits v total most vs s → most < suc m → s.steps ≡ left
      → Meets form (conf p vs (reverse ws ++ ops) cs s) (Value form cs total (conf p vs (reverse ws ++ ops) cs s) v most vs (p + 1) ops)
      (spend_of left (λ t. elim (nat_lt (1 + length cs) most_open) [ true ↦ body_part fs (1 + length cs) f ws m t | false ↦ Wrong Depth t.output ]) s)
  spent_by cs total m ih v f ws p vs ops s most zero e pl many at h lt is =
      let c = conf (p + 1) vs (reverse ws ++ ops) cs s in
      let entry : Entry = record { start = e.start; parameters = e.code.parameters; variables = e.code.variables } in
      instructed_last form (instruction.Call (names_before v.layout.functions f)) p vs (reverse ws ++ ops) cs s outcome.Going at
      (call_moves f e v c pl ∙ ap (λ k. stepped k (λ l. if nat_lt (1 + length cs) most_open then entered entry l c else Stops (outcome.Wrong Depth))) is)
  spent_by cs total m ih v f ws p vs ops s most (suc left) e pl many at h lt is =
      entered_by cs total m ih v f ws p vs ops s most left (nat_lt (1 + length cs) most_open) e pl many at h lt is refl

  call_by : (cs : List Activation) (total m : ℕ) (ih : (cs : List Activation) (total : ℕ) → CallsMeet form layout TakesHere cs total m (calls m fs (1 + length cs))) (v : Environment) (f ws : List ℕ) (p : ℕ) (vs ops : List ℕ) (s : State)
      (most : ℕ) → v.layout ≡ layout → TakesHere f (length ws) → slice_get form.code p ≡ Some (call_of v f) → Fits v total most vs s → most < suc m
      → Meets form (conf p vs (reverse ws ++ ops) cs s) (Value form cs total (conf p vs (reverse ws ++ ops) cs s) v most vs (p + 1) ops) (calls (suc m) fs (1 + length cs) f ws s)
  call_by cs total m ih v f ws p vs ops s most pl (Writes is one) at h lt =
      let c = conf p vs (reverse ws ++ ops) cs s in
      meets_same form c (Value form cs total c v most vs (p + 1) ops) (calls (suc m) fs (1 + length cs) f ws s) (Gives 0 (record s { output = s.output ++ ws }))
      (ap (λ b. begun b (same_name f (codes "read_word")) (nat_lt (1 + length cs) most_open) (body_part fs (1 + length cs) f ws) ws m s) is) (write_meets m cs total v f ws p vs ops s most is one at h)
  call_by cs total m ih v f ws p vs ops s most pl (Reads not_write is none) at h lt =
      let c = conf p vs (reverse ws ++ ops) cs s in
      meets_same form c (Value form cs total c v most vs (p + 1) ops) (calls (suc m) fs (1 + length cs) f ws s) (read_input s.input s)
      (ap (λ b. begun b (same_name f (codes "read_word")) (nat_lt (1 + length cs) most_open) (body_part fs (1 + length cs) f ws) ws m s) not_write
      ∙ ap (λ b. begun false b (nat_lt (1 + length cs) most_open) (body_part fs (1 + length cs) f ws) ws m s) is) (read_meets cs total v f ws p vs ops s most not_write is none at h)
  call_by cs total m ih v f ws p vs ops s most pl (Enters not_write other has many) at h lt =
      let c = conf p vs (reverse ws ++ ops) cs s in
      let e = table f has in
      let called : call_of v f ≡ instruction.Call (names_before v.layout.functions f) =
      ap (λ b. call_to (if b then leads.WriteWord else (if same_name (codes "read_word") f then leads.ReadWord else leads.Defined (names_before v.layout.functions f)))) (same_name_symm (codes "write_word") f ∙ not_write)
      ∙ ap (λ b. call_to (if b then leads.ReadWord else leads.Defined (names_before v.layout.functions f))) (same_name_symm (codes "read_word") f ∙ other) in
      meets_same form c (Value form cs total c v most vs (p + 1) ops) (calls (suc m) fs (1 + length cs) f ws s) (begun false false (nat_lt (1 + length cs) most_open) (body_part fs (1 + length cs) f ws) ws m s)
      (call_begins fs (1 + length cs) f ws m s not_write other) (spent_by cs total m ih v f ws p vs ops s most s.steps e pl (many e.function e.is) (at ∙ ap Some called) h lt refl)

  pub calls_meet : (n : ℕ) (cs : List Activation) (total : ℕ) → CallsMeet form layout TakesHere cs total n (calls n fs (1 + length cs))
  calls_meet zero cs total = λ v f ws p vs ops s most pl takes at h lt. absurd (omega arith)
  calls_meet (suc m) cs total = λ v f ws p vs ops s most pl takes at h lt. call_by cs total m (calls_meet m) v f ws p vs ops s most pl takes at h lt

  -- ---- main

  -- the run of a body whose call has no caller stops as the source does
  pub main_meets : (n : ℕ) (e : (x : List ℕ) × Entered form layout defined fs x) (t : State) (opened : ℕ) → opened ≡ 1 → (e.1).function.parameters ≡ [] → t.steps < n → layout_from 0 t.globals ≡ layout.objects
      → Meets form (conf (e.1).start (replicate (e.1).code.variables 0) [] [] t) (λ w u. Halts form (conf (e.1).start (replicate (e.1).code.variables 0) [] [] t) (record { stop = outcome.Ended w; output = u.output }))
      (run_body (e.1).function n (calls n fs opened) [] t)
  main_meets n e t opened one none lt laid =
      let x = e.1 in
      let g = x.function in
      let c = conf x.start (replicate x.code.variables 0) [] [] t in
      let meets : (total' : ℕ) → CallsMeet form layout TakesHere [] total' n (calls n fs opened) =
      λ total'. subst (λ k. CallsMeet form layout TakesHere [] total' n (calls n fs k)) (let z : 1 + 0 ≡ opened = omega arith in z) (calls_meet n [] total') in
      meets_then form c (λ flow u. Returned [] c t.steps (result_of flow) u) (λ w u. Halts form c (record { stop = outcome.Ended w; output = u.output })) (execute_all g.body n (calls n fs opened) g.visible (record t { locals = bound g.parameters [] [] }))
      (λ flow u. Gives (result_of flow) (record u { locals = t.locals }))
      (body_meets [] n (calls n fs opened) meets g x.code x.means x.start t.steps [] t (ap (λ (xs : List (List ℕ)). length xs) (sym none)) x.stands lt (omega arith) laid)
      (λ flow u r. (r.leads).goes (record { stop = outcome.Ended (result_of flow); output = u.output })
      (instructed_last form instruction.Return r.offset r.variables (result_of flow ∷ r.operands) [] u (outcome.Ended (result_of flow)) r.here refl))
