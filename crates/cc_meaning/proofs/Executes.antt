-- The instructions of each statement do what the source says, by recursion on the tree. What a call does is a parameter.
use Rattle.std.proofs.Common.{◌≡◌, ℕ, zero, suc, ◌+◌, ◌<◌, ◌≤◌, List, [], ◌∷◌, ◌++◌, length, Option, Some, None, slice_get, refl, sym, ap, ◌∙◌, subst, arith, length-append}
use Rattle.std.proofs.lemmas.List.{length-map}
use Rattle.cc_tokens.specs.declared.scalar.Scalar.{Scalar}
use Rattle.cc_ast.specs.Tree as tree
use Rattle.cc_ast.specs.Tree.{Expr, Declarator, Beginning, Declares, Performs, Stmt, Stmts, end, next, Block, Perform, Return, Break, Continue, If, IfElse, While, DoWhile, For}
use Rattle.cc_types.specs.Scope.{Binding, Visible, in_scope, opened, scope_behind, scope_behind_beginning}
use Rattle.cc_types.specs.Rules.{broken, void_errors, expression_errors, value_errors, optional_errors, optional_action_errors, beginning_errors, return_errors, Around, within_loop, statement_errors, statements_errors, undefined_among, called_in, called_in_optional, called_in_optional_action, called_in_beginning, called_in_statement, called_in_statements}
use Rattle.cc_types.specs.declared.rule.Rule.TheVariants.{BadReturn}
use Rattle.cc_types.specs.Limits.{beginning_names, locals_of, locals}
use Rattle.cc_meaning.specs.declared.form.Instruction.{Instruction}
use Rattle.cc_meaning.specs.declared.form.Instruction.TheVariants as instruction
use Rattle.cc_meaning.specs.internal.Form.{FormTree, expression_code, optional_action_code, Exits, further, declared_code, beginning_code, value_code, condition_code, turns_code, loop_code, exits_of_body, statement_code, statements_code}
use Rattle.cc_layout.specs.Environment.{Environment, types_in, inner, with_locals, behind, behind_beginning}
use Rattle.cc_layout.specs.Layout.{Layout}
use Rattle.cc_c_semantics.specs.Meaning.{State, Run, Gives, Flow, Falls, Breaks, Continues, Returns, then_do, choose, Calls, behind_flow, begin_body, turns, evaluate, evaluate_or, perform_optional, declare, start, in_block, return, execute, execute_all}
use Rattle.cc_meaning.specs.internal.FormMeaning.{Activation, Configuration}
use Rattle.cc_c_semantics.proofs.Errors.{nil_left, nil_right, defined_left, defined_right}
use Rattle.cc_meaning.proofs.Moves.{Leads, leads_refl, leads_then, conf, Meets, meets_then, meets_after, Stands, stands_end, stands_left, stands_right, jumps}
use Rattle.cc_meaning.proofs.Fits.{Fits}
use Rattle.cc_meaning.proofs.Expressions.{Value, CallsMeet, Part, pushes, branches, passes}
use Rattle.cc_meaning.proofs.Evaluates.{expression_meets}
use Rattle.cc_meaning.proofs.Actions.{Acted}
use Rattle.cc_meaning.proofs.Performs.{optional_meets, declare_meets}
use Rattle.cc_meaning.proofs.Blocks.{over, fits_env, Reaches, Leaves, Done, done_after, reaches_after, leaves_after, reaches_leaves, block_meets}
use Rattle.cc_meaning.proofs.Loops.{Loop, turns_length, loop_stands, turns_meet, begins_meet}
use Rattle.cc_c_semantics.proofs.Scoped.{Scoped, scoped_inner, with_locals_visible, with_locals_layout, with_locals_length, with_locals_over, scoped_locals, behind_is}

-- the environment after the first part of a `for` header
record BehindBeginning (layout : Layout) (defined : List (List ℕ)) (Takes : List ℕ → ℕ → Type 0) (s : Beginning) (v : Environment) : Type 0 where
  visible : (behind_beginning s v).visible ≡ scope_behind_beginning s v.visible
  laid : (behind_beginning s v).layout ≡ v.layout
  extra : List (List ℕ)
  locals : (behind_beginning s v).locals ≡ extra ++ v.locals
  room : length (behind_beginning s v).locals ≤ length v.locals + length (beginning_names s)
  scoped : Scoped layout defined Takes (behind_beginning s v)

behind_beginning_is : (layout : Layout) (defined : List (List ℕ)) (Takes : List ℕ → ℕ → Type 0) (s : Beginning) (v : Environment) → Scoped layout defined Takes v → BehindBeginning layout defined Takes s v
behind_beginning_is layout defined Takes (Declares t ds) v h =
    let e = with_locals_over t ds v in
    let l = with_locals_length t ds v in
    let m = length-map ds (λ (d : Declarator). d.name) in
    record {
      visible = with_locals_visible t ds v;
      laid = with_locals_layout t ds v;
      extra = e.0;
      locals = e.1;
      room = omega arith;
      scoped = scoped_locals layout defined Takes t ds v h;
    }
behind_beginning_is layout defined Takes (Performs a) v h = record { visible = refl; laid = refl; extra = []; locals = refl; room = omega arith; scoped = h }

-- the value of a return keeps the rules
return_value : (r : Option Scalar) (bs : List Binding) (at : ℕ) (e : Expr) → return_errors r bs at (Some e) ≡ [] → value_errors bs e ≡ []
return_value None bs at e h = nil_right (broken BadReturn at) (value_errors bs e) h
return_value (Some t) bs at e h = h

-- the condition for an ending that never happens
abbrev Never : State → Type 0
Never t = ⊥

module _ (form : FormTree) (cs : List Activation) (total : ℕ) (layout : Layout) (defined : List (List ℕ)) (Takes : List ℕ → ℕ → Type 0) (n : ℕ) (call : Calls) (calls_meet : CallsMeet form layout Takes cs total n call) where
  -- the instructions do what the statement does, at any place in the code; `falls` says what it means to fall through
  abbrev Does : (falls : Configuration → ℕ → State → Type 0) → Environment → Exits → (most : ℕ) → List Instruction → (State → Run Flow) → Type 0
  Does falls v x most code part =
      (p b k : ℕ) (vs : List ℕ) (t : State) → b ≡ p + length code + x.breaks → k ≡ p + length code + x.continues → b ≤ length form.code → k ≤ length form.code → Stands form.code p code → Fits v total most vs t
      → Meets form (conf p vs [] cs t)
      (Done form cs total layout (conf p vs [] cs t) most (falls (conf p vs [] cs t) (p + length code)) (Leaves form cs total (conf p vs [] cs t) v most b) (Leaves form cs total (conf p vs [] cs t) v most k)) (part t)

  -- the instructions do what a statement does, and `w` is the environment after it
  abbrev StatementDoes : Environment → Environment → Exits → ℕ → List Instruction → (State → Run Flow) → Type 0
  StatementDoes v w x most code part = Does (λ c q t. Reaches form cs total c w most q t) v x most code part

  -- the instructions do what a list of statements does
  abbrev ListDoes : Environment → Exits → ℕ → List Instruction → (State → Run Flow) → Type 0
  ListDoes v x most code part = Does (λ c q t. Leaves form cs total c v most q t) v x most code part

  -- the instructions do what a part in its own scope does: however it ends, only the earlier locals remain
  abbrev BlockDoes : Environment → Exits → ℕ → List Instruction → (State → Run Flow) → Type 0
  BlockDoes v x most code part =
      (p b k : ℕ) (vs : List ℕ) (t : State) → b ≡ p + length code + x.breaks → k ≡ p + length code + x.continues → b ≤ length form.code → k ≤ length form.code → Stands form.code p code → Fits v total most vs t
      → Meets form (conf p vs [] cs t)
      (Done form cs total layout (conf p vs [] cs t) most (Reaches form cs total (conf p vs [] cs t) v most (p + length code)) (Reaches form cs total (conf p vs [] cs t) v most b) (Reaches form cs total (conf p vs [] cs t) v most k)) (part t)

  block_of_list : (v : Environment) (x : Exits) (most : ℕ) (code : List Instruction) (part : State → Run Flow) → ListDoes (inner v) x most code part → BlockDoes v x most code (in_block part)
  block_of_list v x most code part f p b k vs t eb ek lb lk st h =
      let c = conf p vs [] cs t in
      let w = inner v in
      let q = p + length code in
      block_meets form cs total layout c v most q b k vs t part h
      (done_after form cs total layout c c most most (Leaves form cs total c w most q) (Leaves form cs total c w most b) (Leaves form cs total c w most k) (Leaves form cs total c v most q) (Leaves form cs total c v most b) (Leaves form cs total c v most k) (part t)
      (leads_refl form c) (omega arith)
      (λ u y. leaves_after form cs total c c w v [] most most q q u (leads_refl form c) refl refl (omega arith) refl y)
      (λ u y. leaves_after form cs total c c w v [] most most b b u (leads_refl form c) refl refl (omega arith) refl y)
      (λ u y. leaves_after form cs total c c w v [] most most k k u (leads_refl form c) refl refl (omega arith) refl y)
      (f p b k vs t eb ek lb lk st (fits_env v w total most vs t refl refl h)))

  list_of_statement : (v w : Environment) (extra : List (List ℕ)) (x : Exits) (most : ℕ) (code : List Instruction) (part : State → Run Flow) → w.locals ≡ extra ++ v.locals → w.layout ≡ v.layout
      → StatementDoes v w x most code part → ListDoes v x most code part
  list_of_statement v w extra x most code part e pl f p b k vs t eb ek lb lk st h =
      let c = conf p vs [] cs t in
      let q = p + length code in
      done_after form cs total layout c c most most (Reaches form cs total c w most q) (Leaves form cs total c v most b) (Leaves form cs total c v most k) (Leaves form cs total c v most q) (Leaves form cs total c v most b) (Leaves form cs total c v most k) (part t)
      (leads_refl form c) (omega arith) (λ u y. reaches_leaves form cs total c c w v extra most most q q u (leads_refl form c) e pl (omega arith) refl y) (λ u y. y) (λ u y. y) (f p b k vs t eb ek lb lk st h)

  -- the instructions of a branch's or a loop's body, which is a statement in its own scope, do what the body does
  block_of_statement : (s : Stmt) (v : Environment) (x : Exits) (most : ℕ) (code : List Instruction) (part : State → Run Flow) → Scoped layout defined Takes v → StatementDoes (inner v) (behind s (inner v)) x most code part
      → BlockDoes v x most code (in_block part)
  block_of_statement s v x most code part scoped f =
      let w = behind_is layout defined Takes s (inner v) (scoped_inner layout defined Takes v scoped) in
      block_of_list v x most code part (list_of_statement (inner v) (behind s (inner v)) w.extra x most code part w.locals w.laid f)

  statement_of_block : (v : Environment) (x : Exits) (most : ℕ) (code : List Instruction) (part : State → Run Flow) → BlockDoes v x most code part → StatementDoes v v x most code part
  statement_of_block v x most code part f p b k vs t eb ek lb lk st h =
      let c = conf p vs [] cs t in
      let q = p + length code in
      done_after form cs total layout c c most most (Reaches form cs total c v most q) (Reaches form cs total c v most b) (Reaches form cs total c v most k) (Reaches form cs total c v most q) (Leaves form cs total c v most b) (Leaves form cs total c v most k) (part t)
      (leads_refl form c) (omega arith) (λ u y. y) (λ u y. reaches_leaves form cs total c c v v [] most most b b u (leads_refl form c) refl refl (omega arith) refl y)
      (λ u y. reaches_leaves form cs total c c v v [] most most k k u (leads_refl form c) refl refl (omega arith) refl y) (f p b k vs t eb ek lb lk st h)

  -- a part that only falls through ends as a statement may
  falls_done : (c : Configuration) (v : Environment) (most q : ℕ) (b k : State → Type 0) (flow : Flow) (t : State) → Acted form cs total c v most q flow t → Done form cs total layout c most (Reaches form cs total c v most q) b k flow t
  falls_done c v most q b k flow t h =
      subst (λ f. Done form cs total layout c most (Reaches form cs total c v most q) b k f t) (sym h.falls) (record { variables = h.variables; fits = h.fits; leads = h.leads })

  acted_done : (v w : Environment) (x : Exits) (most : ℕ) (code : List Instruction) (part : State → Run Flow)
      → ((p : ℕ) (vs : List ℕ) (t : State) → Stands form.code p code → Fits v total most vs t → Meets form (conf p vs [] cs t) (Acted form cs total (conf p vs [] cs t) w most (p + length code)) (part t)) → StatementDoes v w x most code part
  acted_done v w x most code part f p b k vs t eb ek lb lk st h =
      let c = conf p vs [] cs t in
      let q = p + length code in
      meets_after form c c (Acted form cs total c w most q) (Done form cs total layout c most (Reaches form cs total c w most q) (Leaves form cs total c v most b) (Leaves form cs total c v most k)) (part t) (leads_refl form c)
      (λ flow u y. falls_done c w most q (Leaves form cs total c v most b) (Leaves form cs total c v most k) flow u y) (f p vs t st h)

  -- ---- parts of statements

  used : (e : Expr) (v : Environment) (most : ℕ) (vs : List ℕ) → Scoped layout defined Takes v → most < n → value_errors (types_in v) e ≡ [] → undefined_among defined (called_in e) ≡ []
      → Part form cs total v most vs (expression_code v e) (evaluate e (types_in v) call)
  used e v most vs scoped lt o d =
      expression_meets form cs total layout defined Takes n call calls_meet e v most vs scoped lt (nil_left (expression_errors (types_in v) e) (void_errors (types_in v) e) o) d

  condition_meets : (e : Option Expr) (v : Environment) (most : ℕ) (vs : List ℕ) → Scoped layout defined Takes v → most < n → optional_errors (types_in v) e ≡ [] → undefined_among defined (called_in_optional e) ≡ []
      → Part form cs total v most vs (condition_code v e) (evaluate_or 1 e (types_in v) call)
  condition_meets None v most vs scoped lt o d = λ p ops s st h. pushes form cs total v most vs ops ops p (p + 1) 1 s (instruction.Constant 1) st.0 h refl refl
  condition_meets (Some e) v most vs scoped lt o d = used e v most vs scoped lt o d

  value_meets : (r : Option Scalar) (at : ℕ) (e : Option Expr) (v : Environment) (most : ℕ) (vs : List ℕ) → Scoped layout defined Takes v → most < n → return_errors r (types_in v) at e ≡ [] → undefined_among defined (called_in_optional e) ≡ []
      → Part form cs total v most vs (value_code v e) (evaluate_or 0 e (types_in v) call)
  value_meets r at None v most vs scoped lt o d = λ p ops s st h. pushes form cs total v most vs ops ops p (p + 1) 0 s (instruction.Constant 0) st.0 h refl refl
  value_meets r at (Some e) v most vs scoped lt o d = used e v most vs scoped lt (return_value r (types_in v) at e o) d

  return_meets : (r : Option Scalar) (at : ℕ) (e : Option Expr) (v : Environment) (x : Exits) (most : ℕ) → Scoped layout defined Takes v → most < n → return_errors r (types_in v) at e ≡ [] → undefined_among defined (called_in_optional e) ≡ []
      → StatementDoes v v x most (value_code v e ++ instruction.Return ∷ []) (return e (types_in v) call)
  return_meets r at e v x most scoped lt o d p b k vs t eb ek lb lk st h =
      let c = conf p vs [] cs t in
      let code = value_code v e in
      let last = instruction.Return ∷ [] in
      let in_last = stands_right form.code p (p + length code) code last refl st in
      meets_then form c (Value form cs total c v most vs (p + length code) [])
      (Done form cs total layout c most (Reaches form cs total c v most (p + length (code ++ last))) (Leaves form cs total c v most b) (Leaves form cs total c v most k)) (evaluate_or 0 e (types_in v) call t) (λ w u. Gives (Returns w) u)
      (value_meets r at e v most vs scoped lt o d p [] t (stands_left form.code p code last st) h)
      (λ w u got. record {
        offset = p + length code;
        variables = vs;
        operands = [];
        here = in_last.0;
        leads = got.leads;
        laid = got.fits.laid ∙ ap (λ (q : Layout). q.objects) scoped.laid;
        steps = got.fits.steps;
      })

  jump_leaves : (v : Environment) (most n' p q : ℕ) (vs : List ℕ) (t : State) → slice_get form.code p ≡ Some (instruction.Jump n') → q ≡ p + 1 + n' → q ≤ length form.code → Fits v total most vs t
      → Leaves form cs total (conf p vs [] cs t) v most q t
  jump_leaves v most n' p q vs t e at le h = record { extra = []; variables = vs; fits = fits_env v (over [] v) total most vs t refl refl h; leads = jumps form n' p q vs [] cs t e at le }

  -- ---- if

  -- after its condition, an `if` without `else` does what the source says
  arm_meets : (v : Environment) (x : Exits) (most p b k w : ℕ) (vs : List ℕ) (arm : List Instruction) (part : State → Run Flow) (t : State) → BlockDoes v x most arm part
      → slice_get form.code p ≡ Some (instruction.JumpIfZero (length arm)) → Stands form.code (p + 1) arm → b ≡ p + 1 + length arm + x.breaks → k ≡ p + 1 + length arm + x.continues → b ≤ length form.code → k ≤ length form.code → Fits v total most vs t
      → Meets form (conf p vs (w ∷ []) cs t) (Done form cs total layout (conf p vs (w ∷ []) cs t) most (Reaches form cs total (conf p vs (w ∷ []) cs t) v most (p + 1 + length arm))
      (Reaches form cs total (conf p vs (w ∷ []) cs t) v most b) (Reaches form cs total (conf p vs (w ∷ []) cs t) v most k)) (choose w part (λ u. Gives Falls u) t)
  arm_meets v x most p b k zero vs arm part t f e st eb ek lb lk h = record {
    variables = vs;
    fits = h;
    leads = branches form cs total (length arm) p (p + 1 + length arm) vs [] t e refl (stands_end form.code (p + 1) arm st);
  }
  arm_meets v x most p b k (suc w) vs arm part t f e st eb ek lb lk h =
      let c = conf p vs (suc w ∷ []) cs t in
      let d = conf (p + 1) vs [] cs t in
      let q = p + 1 + length arm in
      let to = passes form cs total (length arm) p w vs [] t e in
      done_after form cs total layout c d most most (Reaches form cs total d v most q) (Reaches form cs total d v most b) (Reaches form cs total d v most k) (Reaches form cs total c v most q) (Reaches form cs total c v most b) (Reaches form cs total c v most k) (part t) to (omega arith)
      (λ u y. reaches_after form cs total c d v v most most q q u to refl refl (omega arith) refl y) (λ u y. reaches_after form cs total c d v v most most b b u to refl refl (omega arith) refl y)
      (λ u y. reaches_after form cs total c d v v most most k k u to refl refl (omega arith) refl y) (f (p + 1) b k vs t eb ek lb lk st h)

  if_meets : (v : Environment) (x : Exits) (most : ℕ) (test arm : List Instruction) (condition : State → Run ℕ) (part : State → Run Flow) → ((vs : List ℕ) → Part form cs total v most vs test condition) → BlockDoes v x most arm part
      → BlockDoes v x most (test ++ instruction.JumpIfZero (length arm) ∷ arm) (λ t. then_do (condition t) (λ w u. choose w part (λ y. Gives Falls y) u))
  if_meets v x most test arm condition part f g p b k vs t eb ek lb lk st h =
      let c = conf p vs [] cs t in
      let others = instruction.JumpIfZero (length arm) ∷ arm in
      let size = length-append test others in
      let q = p + length test in
      let end_at = p + length (test ++ others) in
      let in_arm = stands_right form.code p q test others refl st in
      meets_then form c (Value form cs total c v most vs q []) (Done form cs total layout c most (Reaches form cs total c v most end_at) (Reaches form cs total c v most b) (Reaches form cs total c v most k)) (condition t)
      (λ w u. choose w part (λ y. Gives Falls y) u) (f vs p [] t (stands_left form.code p test others st) h)
      (λ w u got.
      let d = conf q vs (w ∷ []) cs u in
      done_after form cs total layout c d most most (Reaches form cs total d v most (q + 1 + length arm)) (Reaches form cs total d v most b) (Reaches form cs total d v most k) (Reaches form cs total c v most end_at) (Reaches form cs total c v most b) (Reaches form cs total c v most k)
      (choose w part (λ y. Gives Falls y) u) got.leads (omega arith) (λ y z. reaches_after form cs total c d v v most most (q + 1 + length arm) end_at y got.leads refl refl (omega arith) (omega arith) z)
      (λ y z. reaches_after form cs total c d v v most most b b y got.leads refl refl (omega arith) refl z) (λ y z. reaches_after form cs total c d v v most most k k y got.leads refl refl (omega arith) refl z)
      (arm_meets v x most q b k w vs arm part u g in_arm.0 in_arm.1 (omega arith) (omega arith) lb lk got.fits))

  -- both branches
  arms_meet : (v : Environment) (x : Exits) (most p b k w : ℕ) (vs : List ℕ) (first second : List Instruction) (part other : State → Run Flow) (t : State) → BlockDoes v (further (length second + 1) x) most first part → BlockDoes v x most second other
      → slice_get form.code p ≡ Some (instruction.JumpIfZero (length first + 1)) → Stands form.code (p + 1) first → slice_get form.code (p + 1 + length first) ≡ Some (instruction.Jump (length second)) → Stands form.code (p + 1 + length first + 1) second
      → b ≡ p + 1 + length first + 1 + length second + x.breaks → k ≡ p + 1 + length first + 1 + length second + x.continues → b ≤ length form.code → k ≤ length form.code → Fits v total most vs t
      → Meets form (conf p vs (w ∷ []) cs t) (Done form cs total layout (conf p vs (w ∷ []) cs t) most (Reaches form cs total (conf p vs (w ∷ []) cs t) v most (p + 1 + length first + 1 + length second))
      (Reaches form cs total (conf p vs (w ∷ []) cs t) v most b) (Reaches form cs total (conf p vs (w ∷ []) cs t) v most k)) (choose w part other t)
  arms_meet v x most p b k zero vs first second part other t f g e st e' st' eb ek lb lk h =
      let c = conf p vs (zero ∷ []) cs t in
      let at = p + 1 + length first + 1 in
      let d = conf at vs [] cs t in
      let q = at + length second in
      let to = branches form cs total (length first + 1) p at vs [] t e (omega arith) (let z = stands_end form.code at second st' in omega arith) in
      done_after form cs total layout c d most most (Reaches form cs total d v most q) (Reaches form cs total d v most b) (Reaches form cs total d v most k) (Reaches form cs total c v most q) (Reaches form cs total c v most b) (Reaches form cs total c v most k) (other t) to (omega arith)
      (λ u y. reaches_after form cs total c d v v most most q q u to refl refl (omega arith) refl y) (λ u y. reaches_after form cs total c d v v most most b b u to refl refl (omega arith) refl y)
      (λ u y. reaches_after form cs total c d v v most most k k u to refl refl (omega arith) refl y) (g at b k vs t eb ek lb lk st' h)
  arms_meet v x most p b k (suc w) vs first second part other t f g e st e' st' eb ek lb lk h =
      let c = conf p vs (suc w ∷ []) cs t in
      let d = conf (p + 1) vs [] cs t in
      let mid = p + 1 + length first in
      let q = mid + 1 + length second in
      let to = passes form cs total (length first + 1) p w vs [] t e in
      done_after form cs total layout c d most most (Reaches form cs total d v most mid) (Reaches form cs total d v most b) (Reaches form cs total d v most k) (Reaches form cs total c v most q) (Reaches form cs total c v most b) (Reaches form cs total c v most k) (part t) to (omega arith)
      (λ u y. record {
        variables = y.variables;
        fits = y.fits;
        leads = leads_then form c d (conf q y.variables [] cs u) to (leads_then form d (conf mid y.variables [] cs u) (conf q y.variables [] cs u) y.leads
            (jumps form (length second) mid q y.variables [] cs u e' refl (stands_end form.code (mid + 1) second st')));
      })
      (λ u y. reaches_after form cs total c d v v most most b b u to refl refl (omega arith) refl y)
      (λ u y. reaches_after form cs total c d v v most most k k u to refl refl (omega arith) refl y) (f (p + 1) b k vs t (omega arith) (omega arith) lb lk st h)

  if_else_meets : (v : Environment) (x : Exits) (most : ℕ) (test first second : List Instruction) (condition : State → Run ℕ) (part other : State → Run Flow) → ((vs : List ℕ) → Part form cs total v most vs test condition)
      → BlockDoes v (further (length second + 1) x) most first part → BlockDoes v x most second other
      → BlockDoes v x most (test ++ instruction.JumpIfZero (length first + 1) ∷ first ++ instruction.Jump (length second) ∷ second) (λ t. then_do (condition t) (λ w u. choose w part other u))
  if_else_meets v x most test first second condition part other f g r p b k vs t eb ek lb lk st h =
      let c = conf p vs [] cs t in
      let prefix = test ++ instruction.JumpIfZero (length first + 1) ∷ first in
      let last = instruction.Jump (length second) ∷ second in
      let size = length-append prefix last in
      let size' = length-append test (instruction.JumpIfZero (length first + 1) ∷ first) in
      let q = p + length test in
      let end_at = p + length (prefix ++ last) in
      let in_front = stands_left form.code p prefix last st in
      let in_first = stands_right form.code p q test (instruction.JumpIfZero (length first + 1) ∷ first) refl in_front in
      let in_last = stands_right form.code p (q + 1 + length first) prefix last (omega arith) st in
      let z = q + 1 + length first + 1 + length second in
      meets_then form c (Value form cs total c v most vs q []) (Done form cs total layout c most (Reaches form cs total c v most end_at) (Reaches form cs total c v most b) (Reaches form cs total c v most k)) (condition t)
      (λ w u. choose w part other u) (f vs p [] t (stands_left form.code p test (instruction.JumpIfZero (length first + 1) ∷ first) in_front) h)
      (λ w u got.
      let d = conf q vs (w ∷ []) cs u in
      done_after form cs total layout c d most most (Reaches form cs total d v most z) (Reaches form cs total d v most b) (Reaches form cs total d v most k) (Reaches form cs total c v most end_at) (Reaches form cs total c v most b) (Reaches form cs total c v most k)
      (choose w part other u) got.leads (omega arith) (λ y m. reaches_after form cs total c d v v most most z end_at y got.leads refl refl (omega arith) (omega arith) m)
      (λ y m. reaches_after form cs total c d v v most most b b y got.leads refl refl (omega arith) refl m) (λ y m. reaches_after form cs total c d v v most most k k y got.leads refl refl (omega arith) refl m)
      (arms_meet v x most q b k w vs first second part other u g r in_first.0 in_first.1 in_last.0 in_last.1 (omega arith) (omega arith) lb lk got.fits))

  -- ---- loops

  abbrev TestDoes : Environment → List Instruction → (State → Run ℕ) → Type 0
  TestDoes v test condition = (most : ℕ) (vs : List ℕ) → most < n → Part form cs total v most vs test condition

  abbrev BodyDoes : Environment → Exits → List Instruction → (State → Run Flow) → Type 0
  BodyDoes v x body inside = (most : ℕ) → most < n → BlockDoes v x most body inside

  abbrev FollowingDoes : Environment → List Instruction → (State → Run Flow) → Type 0
  FollowingDoes v following part =
      (most : ℕ) → most < n → (p : ℕ) (vs : List ℕ) (t : State) → Stands form.code p following → Fits v total most vs t → Meets form (conf p vs [] cs t) (Acted form cs total (conf p vs [] cs t) v most (p + length following)) (part t)

  -- the turns of a loop at p, beginning with its test, do what the source's turns do
  turns_there : (v : Environment) (body following test : List Instruction) (condition : State → Run ℕ) (inside part : State → Run Flow) (p : ℕ) → v.layout ≡ layout → Loop form.code body following test p
      → TestDoes v test condition → BodyDoes v (exits_of_body following test) body inside → FollowingDoes v following part → (i most : ℕ) (vs : List ℕ) (t : State) → most < i → most < n → Fits v total most vs t
      → Meets form (conf (p + 1 + length body + length following) vs [] cs t)
      (Done form cs total layout (conf (p + 1 + length body + length following) vs [] cs t) most (Reaches form cs total (conf (p + 1 + length body + length following) vs [] cs t) v most (p + 1 + length body + length following + length test + 1)) Never Never)
      (turns i condition inside part t)
  turns_there v body following test condition inside part p pl loop tests bodies follows i most vs t lt less h =
      let ends = loop.ends in
      turns_meet form cs total n layout v pl body following test p loop condition inside part i most Never Never vs t tests
      (λ fewer vs' u lt' fits. bodies fewer lt' (p + 1) (p + 1 + length body + length following + length test + 1) (p + 1 + length body) vs' u (omega arith) (omega arith) (omega arith) (omega arith) loop.has_body fits)
      (λ fewer vs' u lt' fits. follows fewer lt' (p + 1 + length body) vs' u loop.has_following fits) lt less h

  -- a loop that is tested first does what the source's loop does
  loop_meets : (v : Environment) (body following test : List Instruction) (condition : State → Run ℕ) (inside part : State → Run Flow) → v.layout ≡ layout
      → TestDoes v test condition → BodyDoes v (exits_of_body following test) body inside → FollowingDoes v following part → (most p : ℕ) (vs : List ℕ) (t : State) → most < n → Stands form.code p (loop_code body following test) → Fits v total most vs t
      → Meets form (conf p vs [] cs t) (Done form cs total layout (conf p vs [] cs t) most (Reaches form cs total (conf p vs [] cs t) v most (p + length (loop_code body following test))) Never Never) (turns (suc n) condition inside part t)
  loop_meets v body following test condition inside part pl tests bodies follows most p vs t lt st h =
      let c = conf p vs [] cs t in
      let at = p + 1 in
      let loop = loop_stands form.code body following test at st.1 in
      let ends = loop.ends in
      let test_at = at + 1 + length body + length following in
      let d = conf test_at vs [] cs t in
      let q = at + 1 + length body + length following + length test + 1 in
      let end_at = p + length (loop_code body following test) in
      let size = turns_length body following test in
      let to = jumps form (1 + length body + length following) p test_at vs [] cs t st.0 (omega arith) (omega arith) in
      done_after form cs total layout c d most most (Reaches form cs total d v most q) Never Never (Reaches form cs total c v most end_at) Never Never (turns (suc n) condition inside part t) to (omega arith)
      (λ u y. reaches_after form cs total c d v v most most q end_at u to refl refl (omega arith) (omega arith) y) (λ u y. y) (λ u y. y)
      (turns_there v body following test condition inside part at pl loop tests bodies follows (suc n) most vs t (omega arith) lt h)

  -- a loop that is tested after its body does what the source's loop does
  do_meets : (v : Environment) (body test : List Instruction) (condition : State → Run ℕ) (inside : State → Run Flow) → v.layout ≡ layout
      → TestDoes v test condition → BodyDoes v (exits_of_body [] test) body inside → (most p : ℕ) (vs : List ℕ) (t : State) → most < n → Stands form.code p (turns_code body [] test) → Fits v total most vs t
      → Meets form (conf p vs [] cs t) (Done form cs total layout (conf p vs [] cs t) most (Reaches form cs total (conf p vs [] cs t) v most (p + length (turns_code body [] test))) Never Never)
      (begin_body inside (turns (suc n) condition inside (λ u. Gives Falls u)) t)
  do_meets v body test condition inside pl tests bodies most p vs t lt st h =
      let c = conf p vs [] cs t in
      let loop = loop_stands form.code body [] test p st in
      let ends = loop.ends in
      let q = p + 1 + length body + 0 + length test + 1 in
      let end_at = p + length (turns_code body [] test) in
      let size = turns_length body [] test in
      let nothing : FollowingDoes v [] (λ u. Gives Falls u) = λ most' lt' p' vs' u st' fits. record {
        falls = refl;
        variables = vs';
        fits = fits;
        leads = subst (λ m. Leads form (conf p' vs' [] cs u) (conf m vs' [] cs u)) (let z : p' ≡ p' + 0 = omega arith in z) (leads_refl form (conf p' vs' [] cs u));
      } in
      done_after form cs total layout c c most most (Reaches form cs total c v most q) Never Never (Reaches form cs total c v most end_at) Never Never (begin_body inside (turns (suc n) condition inside (λ u. Gives Falls u)) t) (leads_refl form c) (omega arith)
      (λ u y. reaches_after form cs total c c v v most most q end_at u (leads_refl form c) refl refl (omega arith) (omega arith) y) (λ u y. y) (λ u y. y)
      (begins_meet form cs total n layout v pl body [] test p loop condition inside (λ u. Gives Falls u) most Never Never vs (turns (suc n) condition inside (λ u. Gives Falls u)) t
      (λ fewer vs' u lt' fits. bodies fewer lt' (p + 1) q (p + 1 + length body) vs' u (omega arith) (omega arith) (omega arith) (omega arith) loop.has_body fits) lt h
      (λ fewer vs' u lt' fits.
      subst (λ m. Meets form (conf m vs' [] cs u) (Done form cs total layout (conf m vs' [] cs u) fewer (Reaches form cs total (conf m vs' [] cs u) v fewer q) Never Never) (turns (suc n) condition inside (λ y. Gives Falls y) u))
      (let z : p + 1 + length body + 0 ≡ p + 1 + length body = omega arith in z)
      (turns_there v body [] test condition inside (λ y. Gives Falls y) p pl loop tests bodies nothing (suc n) fewer vs' u (omega arith) (omega arith) fits)))

  -- a part that only falls through or returns ends like any statement
  never_leaves : (v w : Environment) (x : Exits) (most : ℕ) (code : List Instruction) (part : State → Run Flow)
      → ((p : ℕ) (vs : List ℕ) (t : State) → Stands form.code p code → Fits v total most vs t → Meets form (conf p vs [] cs t) (Done form cs total layout (conf p vs [] cs t) most (Reaches form cs total (conf p vs [] cs t) w most (p + length code)) Never Never) (part t))
      → StatementDoes v w x most code part
  never_leaves v w x most code part f p b k vs t eb ek lb lk st h =
      let c = conf p vs [] cs t in
      let q = p + length code in
      done_after form cs total layout c c most most (Reaches form cs total c w most q) Never Never (Reaches form cs total c w most q) (Leaves form cs total c v most b) (Leaves form cs total c v most k) (part t) (leads_refl form c) (omega arith)
      (λ u y. y) (λ u y. absurd y) (λ u y. absurd y) (f p vs t st h)

  -- the instructions of a part that only falls through, followed by those of a statement, do what the part and then the
  -- statement do
  first_then : (v w : Environment) (x : Exits) (most : ℕ) (code others : List Instruction) (part : State → Run Flow) (rest : State → Run Flow)
      → ((p : ℕ) (vs : List ℕ) (t : State) → Stands form.code p code → Fits v total most vs t → Meets form (conf p vs [] cs t) (Acted form cs total (conf p vs [] cs t) w most (p + length code)) (part t))
      → (extra : List (List ℕ)) → w.locals ≡ extra ++ v.locals → w.layout ≡ v.layout → StatementDoes w w x most others rest → ListDoes v x most (code ++ others) (λ t. then_do (part t) (λ flow u. rest u))
  first_then v w x most code others part rest f extra e pl g p b k vs t eb ek lb lk st h =
      let c = conf p vs [] cs t in
      let size = length-append code others in
      let q = p + length code in
      let end_at = p + length (code ++ others) in
      meets_then form c (Acted form cs total c w most q) (Done form cs total layout c most (Leaves form cs total c v most end_at) (Leaves form cs total c v most b) (Leaves form cs total c v most k)) (part t) (λ flow u. rest u)
      (f p vs t (stands_left form.code p code others st) h)
      (λ flow u got.
      let d = conf q got.variables [] cs u in
      let z = q + length others in
      done_after form cs total layout c d most most (Reaches form cs total d w most z) (Leaves form cs total d w most b) (Leaves form cs total d w most k) (Leaves form cs total c v most end_at) (Leaves form cs total c v most b) (Leaves form cs total c v most k) (rest u) got.leads (omega arith)
      (λ y m. reaches_leaves form cs total c d w v extra most most z end_at y got.leads e pl (omega arith) (omega arith) m)
      (λ y m. leaves_after form cs total c d w v extra most most b b y got.leads e pl (omega arith) refl m) (λ y m. leaves_after form cs total c d w v extra most most k k y got.leads e pl (omega arith) refl m)
      (g q b k got.variables u (omega arith) (omega arith) lb lk (stands_right form.code p q code others refl st) got.fits))

  -- once a statement has ended, the list ends as the source says: with the rest of the list, or at once
  flow_meets : (v w : Environment) (x : Exits) (most q end_at b k : ℕ) (others : List Instruction) (rest : State → Run Flow) (extra : List (List ℕ)) (c : Configuration) (flow : Flow) (u : State) → w.locals ≡ extra ++ v.locals → w.layout ≡ v.layout
      → ListDoes w x most others rest → q + length others ≡ end_at → b ≡ q + length others + x.breaks → k ≡ q + length others + x.continues → b ≤ length form.code → k ≤ length form.code → Stands form.code q others
      → Done form cs total layout c most (Reaches form cs total c w most q) (Leaves form cs total c v most b) (Leaves form cs total c v most k) flow u
      → Meets form c (Done form cs total layout c most (Leaves form cs total c v most end_at) (Leaves form cs total c v most b) (Leaves form cs total c v most k)) (behind_flow flow rest u)
  flow_meets v w x most q end_at b k others rest extra c Falls u e pl g at eb ek lb lk st got =
      let d = conf q got.variables [] cs u in
      let z = q + length others in
      done_after form cs total layout c d most most (Leaves form cs total d w most z) (Leaves form cs total d w most b) (Leaves form cs total d w most k) (Leaves form cs total c v most end_at) (Leaves form cs total c v most b) (Leaves form cs total c v most k) (rest u) got.leads (omega arith)
      (λ y m. leaves_after form cs total c d w v extra most most z end_at y got.leads e pl (omega arith) at m)
      (λ y m. leaves_after form cs total c d w v extra most most b b y got.leads e pl (omega arith) refl m) (λ y m. leaves_after form cs total c d w v extra most most k k y got.leads e pl (omega arith) refl m)
      (g q b k got.variables u eb ek lb lk st got.fits)
  flow_meets v w x most q end_at b k others rest extra c Breaks u e pl g at eb ek lb lk st got = got
  flow_meets v w x most q end_at b k others rest extra c Continues u e pl g at eb ek lb lk st got = got
  flow_meets v w x most q end_at b k others rest extra c (Returns r) u e pl g at eb ek lb lk st got = got

  -- the instructions of a statement, and then of a list, do what both do
  next_then : (v w : Environment) (x : Exits) (most : ℕ) (code others : List Instruction) (part rest : State → Run Flow) (extra : List (List ℕ)) → w.locals ≡ extra ++ v.locals → w.layout ≡ v.layout
      → StatementDoes v w (further (length others) x) most code part → ListDoes w x most others rest → ListDoes v x most (code ++ others) (λ t. then_do (part t) (λ flow u. behind_flow flow rest u))
  next_then v w x most code others part rest extra e pl f g p b k vs t eb ek lb lk st h =
      let c = conf p vs [] cs t in
      let size = length-append code others in
      let q = p + length code in
      let end_at = p + length (code ++ others) in
      meets_then form c (Done form cs total layout c most (Reaches form cs total c w most q) (Leaves form cs total c v most b) (Leaves form cs total c v most k))
      (Done form cs total layout c most (Leaves form cs total c v most end_at) (Leaves form cs total c v most b) (Leaves form cs total c v most k)) (part t) (λ flow u. behind_flow flow rest u)
      (f p b k vs t (omega arith) (omega arith) lb lk (stands_left form.code p code others st) h)
      (λ flow u got. flow_meets v w x most q end_at b k others rest extra c flow u e pl g (omega arith) (omega arith) (omega arith) lb lk (stands_right form.code p q code others refl st) got)

  -- ---- the first part of a `for` header

  start_meets : (first : Beginning) (v : Environment) (most : ℕ) → Scoped layout defined Takes v → most < n → beginning_errors first v.visible ≡ [] → undefined_among defined (called_in_beginning first) ≡ []
      → length v.locals + length (beginning_names first) ≤ total → (p : ℕ) (vs : List ℕ) (t : State) → Stands form.code p (beginning_code v first) → Fits v total most vs t
      → Meets form (conf p vs [] cs t) (Acted form cs total (conf p vs [] cs t) (behind_beginning first v) most (p + length (beginning_code v first))) (start first call v.visible t)
  start_meets (Declares t ds) v most scoped lt o d room =
      declare_meets form cs total layout defined Takes n call calls_meet t ds v most scoped lt o d (let m = length-map ds (λ (d : Declarator). d.name) in omega arith)
  start_meets (Performs a) v most scoped lt o d room = λ p vs t st h.
      optional_meets form cs total layout defined Takes n call calls_meet a v most vs scoped lt o d p t st h

  -- the empty list of instructions does what follows the body of a `while` or `do`: nothing
  nothing_follows : (v : Environment) → FollowingDoes v [] (λ u. Gives Falls u)
  nothing_follows v most lt p vs t st h = record {
    falls = refl;
    variables = vs;
    fits = h;
    leads = subst (λ m. Leads form (conf p vs [] cs t) (conf m vs [] cs t)) (let z : p ≡ p + 0 = omega arith in z) (leads_refl form (conf p vs [] cs t));
  }

  -- ---- statements

  mutual
    pub execute_meets : (s : Stmt) (v : Environment) (x : Exits) (a : Around) (most : ℕ) → Scoped layout defined Takes v → most < n → statement_errors s a v.visible ≡ [] → undefined_among defined (called_in_statement s) ≡ []
        → length v.locals + length (locals_of s) ≤ total → StatementDoes v (behind s v) x most (statement_code v x s) (execute s n call v.visible)
    execute_meets (Block all) v x a most scoped lt o d room =
        statement_of_block v x most (statements_code (inner v) x all) (in_block (execute_all all n call (opened v.visible)))
        (block_of_list v x most (statements_code (inner v) x all) (execute_all all n call (opened v.visible)) (execute_all_meets all (inner v) x a most (scoped_inner layout defined Takes v scoped) lt o d room))
    execute_meets (tree.Local t ds) v x a most scoped lt o d room =
        acted_done v (with_locals t ds v) x most (declared_code v t ds) (declare t ds call v.visible)
        (declare_meets form cs total layout defined Takes n call calls_meet t ds v most scoped lt o d (let m = length-map ds (λ (d : Declarator). d.name) in omega arith))
    execute_meets (Perform action) v x a most scoped lt o d room =
        acted_done v v x most (optional_action_code v action) (perform_optional action (types_in v) call)
        (λ p vs t st h. optional_meets form cs total layout defined Takes n call calls_meet action v most vs scoped lt o d p t st h)
    execute_meets (Return at e) v x a most scoped lt o d room = return_meets a.result at e v x most scoped lt o d
    execute_meets (Break at) v x a most scoped lt o d room = λ p b k vs t eb ek lb lk st h. jump_leaves v most x.breaks p b vs t st.0 eb lb h
    execute_meets (Continue at) v x a most scoped lt o d room = λ p b k vs t eb ek lb lk st h. jump_leaves v most x.continues p k vs t st.0 ek lk h
    execute_meets (If c s) v x a most scoped lt o d room =
        let code = statement_code (inner v) x s in
        let of_c = nil_left (value_errors (types_in v) c) (statement_errors s a (opened v.visible)) o in
        let of_s = nil_right (value_errors (types_in v) c) (statement_errors s a (opened v.visible)) o in
        statement_of_block v x most (expression_code v c ++ instruction.JumpIfZero (length code) ∷ code)
        (λ t. then_do (evaluate c (types_in v) call t) (λ w u. choose w (in_block (execute s n call (opened v.visible))) (λ y. Gives Falls y) u))
        (if_meets v x most (expression_code v c) code (evaluate c (types_in v) call) (in_block (execute s n call (opened v.visible)))
        (λ vs. used c v most vs scoped lt of_c (defined_left defined (called_in c) (called_in_statement s) d))
        (block_of_statement s v x most code (execute s n call (opened v.visible)) scoped
        (execute_meets s (inner v) x a most (scoped_inner layout defined Takes v scoped) lt of_s (defined_right defined (called_in c) (called_in_statement s) d) room)))
    execute_meets (IfElse c s r) v x a most scoped lt o d room =
        let second = statement_code (inner v) x r in
        let first = statement_code (inner v) (further (length second + 1) x) s in
        let of_c = nil_left (value_errors (types_in v) c) (statement_errors s a (opened v.visible) ++ statement_errors r a (opened v.visible)) o in
        let of_both = nil_right (value_errors (types_in v) c) (statement_errors s a (opened v.visible) ++ statement_errors r a (opened v.visible)) o in
        let d_both = defined_right defined (called_in c) (called_in_statement s ++ called_in_statement r) d in
        let names = length-append (locals_of s) (locals_of r) in
        let scoped' = scoped_inner layout defined Takes v scoped in
        statement_of_block v x most (expression_code v c ++ instruction.JumpIfZero (length first + 1) ∷ first ++ instruction.Jump (length second) ∷ second)
        (λ t. then_do (evaluate c (types_in v) call t) (λ w u. choose w (in_block (execute s n call (opened v.visible))) (in_block (execute r n call (opened v.visible))) u))
        (if_else_meets v x most (expression_code v c) first second (evaluate c (types_in v) call) (in_block (execute s n call (opened v.visible))) (in_block (execute r n call (opened v.visible)))
        (λ vs. used c v most vs scoped lt of_c (defined_left defined (called_in c) (called_in_statement s ++ called_in_statement r) d))
        (block_of_statement s v (further (length second + 1) x) most first (execute s n call (opened v.visible)) scoped
        (execute_meets s (inner v) (further (length second + 1) x) a most scoped' lt (nil_left (statement_errors s a (opened v.visible)) (statement_errors r a (opened v.visible)) of_both)
        (defined_left defined (called_in_statement s) (called_in_statement r) d_both) (omega arith)))
        (block_of_statement r v x most second (execute r n call (opened v.visible)) scoped
        (execute_meets r (inner v) x a most scoped' lt (nil_right (statement_errors s a (opened v.visible)) (statement_errors r a (opened v.visible)) of_both)
        (defined_right defined (called_in_statement s) (called_in_statement r) d_both) (omega arith))))
    execute_meets (While c s) v x a most scoped lt o d room =
        let test = expression_code v c in
        let out = exits_of_body [] test in
        let body = statement_code (inner v) out s in
        let of_c = nil_left (value_errors (types_in v) c) (statement_errors s (within_loop a) (opened v.visible)) o in
        let of_s = nil_right (value_errors (types_in v) c) (statement_errors s (within_loop a) (opened v.visible)) o in
        let inside : State → Run Flow = in_block (execute s n call (opened v.visible)) in
        never_leaves v v x most (loop_code body [] test) (turns (suc n) (evaluate c (types_in v) call) inside (λ u. Gives Falls u))
        (λ p vs t st h. loop_meets v body [] test (evaluate c (types_in v) call) inside (λ u. Gives Falls u) scoped.laid
        (λ most' vs' lt'. used c v most' vs' scoped lt' of_c (defined_left defined (called_in c) (called_in_statement s) d))
        (λ most' lt'. block_of_statement s v out most' body (execute s n call (opened v.visible)) scoped
        (execute_meets s (inner v) out (within_loop a) most' (scoped_inner layout defined Takes v scoped) lt' of_s (defined_right defined (called_in c) (called_in_statement s) d) room))
        (nothing_follows v) most p vs t lt st h)
    execute_meets (DoWhile s c) v x a most scoped lt o d room =
        let test = expression_code v c in
        let out = exits_of_body [] test in
        let body = statement_code (inner v) out s in
        let of_s = nil_left (statement_errors s (within_loop a) (opened v.visible)) (value_errors (types_in v) c) o in
        let of_c = nil_right (statement_errors s (within_loop a) (opened v.visible)) (value_errors (types_in v) c) o in
        let inside : State → Run Flow = in_block (execute s n call (opened v.visible)) in
        never_leaves v v x most (turns_code body [] test) (begin_body inside (turns (suc n) (evaluate c (types_in v) call) inside (λ u. Gives Falls u)))
        (λ p vs t st h. do_meets v body test (evaluate c (types_in v) call) inside scoped.laid
        (λ most' vs' lt'. used c v most' vs' scoped lt' of_c (defined_right defined (called_in_statement s) (called_in c) d))
        (λ most' lt'. block_of_statement s v out most' body (execute s n call (opened v.visible)) scoped
        (execute_meets s (inner v) out (within_loop a) most' (scoped_inner layout defined Takes v scoped) lt' of_s (defined_left defined (called_in_statement s) (called_in c) d) room))
        most p vs t lt st h)
    execute_meets (For first c following s) v x a most scoped lt o d room =
        let w = inner v in
        let scoped' = scoped_inner layout defined Takes v scoped in
        let within = behind_beginning first w in
        let i = behind_beginning_is layout defined Takes first w scoped' in
        let test = condition_code within c in
        let next_part = optional_action_code within following in
        let out = exits_of_body next_part test in
        let body = statement_code (inner within) out s in
        let code = beginning_code w first ++ loop_code body next_part test in
        let names = length-append (beginning_names first) (locals_of s) in
        let few = i.room in
        let vis : Visible = scope_behind_beginning first (opened v.visible) in
        let all_of_loop : Visible → List _ = λ y. optional_errors (in_scope y) c ++ (optional_action_errors (in_scope y) following ++ statement_errors s (within_loop a) (opened y)) in
        let of_start = nil_left (beginning_errors first (opened v.visible)) (all_of_loop vis) o in
        let of_loop : all_of_loop within.visible ≡ [] = subst (λ y. all_of_loop y ≡ []) (sym i.visible) (nil_right (beginning_errors first (opened v.visible)) (all_of_loop vis) o) in
        let of_c = nil_left (optional_errors (types_in within) c) (optional_action_errors (types_in within) following ++ statement_errors s (within_loop a) (opened within.visible)) of_loop in
        let of_rest = nil_right (optional_errors (types_in within) c) (optional_action_errors (types_in within) following ++ statement_errors s (within_loop a) (opened within.visible)) of_loop in
        let of_f = nil_left (optional_action_errors (types_in within) following) (statement_errors s (within_loop a) (opened within.visible)) of_rest in
        let of_s = nil_right (optional_action_errors (types_in within) following) (statement_errors s (within_loop a) (opened within.visible)) of_rest in
        let d_start = defined_left defined (called_in_beginning first) (called_in_optional c ++ (called_in_optional_action following ++ called_in_statement s)) d in
        let d_loop = defined_right defined (called_in_beginning first) (called_in_optional c ++ (called_in_optional_action following ++ called_in_statement s)) d in
        let d_rest = defined_right defined (called_in_optional c) (called_in_optional_action following ++ called_in_statement s) d_loop in
        let part_at : Visible → State → Run Flow = λ y t.
        then_do (start first call (opened v.visible) t) (λ flow u. turns (suc n) (evaluate_or 1 c (in_scope y) call) (in_block (execute s n call (opened y))) (perform_optional following (in_scope y) call) u) in
        let inside : State → Run Flow = in_block (execute s n call (opened within.visible)) in
        let looped : StatementDoes within within x most (loop_code body next_part test) (turns (suc n) (evaluate_or 1 c (types_in within) call) inside (perform_optional following (types_in within) call)) =
        never_leaves within within x most (loop_code body next_part test) (turns (suc n) (evaluate_or 1 c (types_in within) call) inside (perform_optional following (types_in within) call))
        (λ p vs t st h. loop_meets within body next_part test (evaluate_or 1 c (types_in within) call) inside (perform_optional following (types_in within) call) i.scoped.laid
        (λ most' vs' lt'. condition_meets c within most' vs' i.scoped lt' of_c (defined_left defined (called_in_optional c) (called_in_optional_action following ++ called_in_statement s) d_loop))
        (λ most' lt'. block_of_statement s within out most' body (execute s n call (opened within.visible)) i.scoped
        (execute_meets s (inner within) out (within_loop a) most' (scoped_inner layout defined Takes within i.scoped) lt' of_s (defined_right defined (called_in_optional_action following) (called_in_statement s) d_rest) (omega arith)))
        (λ most' lt' p' vs' u st' fits. optional_meets form cs total layout defined Takes n call calls_meet following within most' vs' i.scoped lt' of_f (defined_left defined (called_in_optional_action following) (called_in_statement s) d_rest) p' u st' fits)
        most p vs t lt st h) in
        statement_of_block v x most code (in_block (part_at vis))
        (block_of_list v x most code (part_at vis)
        (subst (λ y. ListDoes w x most code (part_at y)) i.visible
        (first_then w within x most (beginning_code w first) (loop_code body next_part test) (start first call w.visible) (turns (suc n) (evaluate_or 1 c (types_in within) call) inside (perform_optional following (types_in within) call))
        (start_meets first w most scoped' lt of_start d_start (omega arith)) i.extra i.locals i.laid looped)))

    pub execute_all_meets : (ss : Stmts) (v : Environment) (x : Exits) (a : Around) (most : ℕ) → Scoped layout defined Takes v → most < n → statements_errors ss a v.visible ≡ [] → undefined_among defined (called_in_statements ss) ≡ []
        → length v.locals + length (locals ss) ≤ total → ListDoes v x most (statements_code v x ss) (execute_all ss n call v.visible)
    execute_all_meets end v x a most scoped lt o d room = λ p b k vs t eb ek lb lk st h. record {
      extra = [];
      variables = vs;
      fits = fits_env v (over [] v) total most vs t refl refl h;
      leads = subst (λ m. Leads form (conf p vs [] cs t) (conf m vs [] cs t)) (let z : p ≡ p + 0 = omega arith in z) (leads_refl form (conf p vs [] cs t));
    }
    execute_all_meets (next first rest) v x a most scoped lt o d room =
        let w = behind first v in
        let i = behind_is layout defined Takes first v scoped in
        let others = statements_code w x rest in
        let code = statement_code v (further (length others) x) first in
        let of_first = nil_left (statement_errors first a v.visible) (statements_errors rest a (scope_behind first v.visible)) o in
        let of_rest : statements_errors rest a w.visible ≡ [] =
        subst (λ y. statements_errors rest a y ≡ []) (sym i.visible) (nil_right (statement_errors first a v.visible) (statements_errors rest a (scope_behind first v.visible)) o) in
        let names = length-append (locals_of first) (locals rest) in
        let few = i.room in
        subst (λ y. ListDoes v x most (code ++ others) (λ t. then_do (execute first n call v.visible t) (λ flow u. behind_flow flow (execute_all rest n call y) u))) i.visible
        (next_then v w x most code others (execute first n call v.visible) (execute_all rest n call w.visible) i.extra i.locals i.laid
        (execute_meets first v (further (length others) x) a most scoped lt of_first (defined_left defined (called_in_statement first) (called_in_statements rest) d) (omega arith))
        (execute_all_meets rest w x a most i.scoped lt of_rest (defined_right defined (called_in_statement first) (called_in_statements rest) d) (omega arith)))
