-- The instructions of each action and declaration do what the source says. What a call does is a parameter.
use Rattle.std.proofs.Common.{◌≡◌, ℕ, ◌+◌, ◌<◌, ◌≤◌, if◌then◌else◌, List, [], ◌∷◌, ◌++◌, length, reverse, drop, Option, Some, None, is_some, slice_get, slice_set, refl, sym, ap, ◌∙◌, subst, arith, length-append}
use Rattle.std.proofs.lemmas.Bool.{lt-ltb}
use Rattle.std.proofs.lemmas.List.{length-map, length-reverse}
use Rattle.cc_tokens.specs.declared.scalar.Scalar.{Scalar}
use Rattle.cc_tokens.specs.declared.scalar.Scalar.TheVariants.{Int}
use Rattle.cc_ast.specs.declared.ast.BinaryOperator.{BinaryOperator}
use Rattle.cc_ast.specs.Tree.{Expr, Target, AtVariable, AtElement, Action, Assign, Step, Evaluate, Declarator}
use Rattle.cc_types.specs.Operators.{applied_operator, step_operator}
use Rattle.cc_types.specs.Scope.{found, is_declared}
use Rattle.cc_types.specs.Types.{value_type, target_type}
use Rattle.cc_types.specs.Rules.{broken_if, array_errors, void_errors, expression_errors, value_errors, optional_errors, target_errors, action_errors, optional_action_errors, declared_errors, undefined_among, called_in, called_in_optional, called_in_target, called_in_action, called_in_optional_action, called_in_declared}
use Rattle.cc_types.specs.declared.rule.Rule.TheVariants.{BadAssign, Redeclared}
use Rattle.cc_meaning.specs.declared.form.Instruction.{Instruction}
use Rattle.cc_meaning.specs.declared.form.Instruction.TheVariants as instruction
use Rattle.cc_meaning.specs.internal.Form.{FormTree, expression_code, store_of, store_element_of, applied, assignment_code, action_code, optional_action_code, initial_code, declared_code}
use Rattle.cc_layout.specs.Environment.{Environment, types_in, with_local, with_locals, number_in}
use Rattle.cc_layout.specs.Layout.{Layout, extent_of}
use Rattle.cc_c_semantics.specs.Meaning as meaning
use Rattle.cc_c_semantics.specs.Meaning.{State, Run, Gives, Flow, Falls, then_do, Calls, with_local_word, with_element, stored, evaluate, evaluate_or, Destination, ToVariable, ToElement, write, new_value, perform, perform_optional, declare}
use Rattle.cc_meaning.specs.internal.FormMeaning.{Activation, Configuration, Goes, only_if}
use Rattle.cc_c_semantics.proofs.Errors.{nil_left, nil_right, defined_left, defined_right, variable_found}
use Rattle.cc_c_semantics.proofs.Named.{name_is_itself}
use Rattle.cc_c_semantics.proofs.Held.{words_in, set_right, newest_last, length_slice_set}
use Rattle.cc_meaning.proofs.Moves.{Leads, leads_refl, leads_then, conf, Meets, meets_then, meets_after, meets_same, Stands, stands_left, stands_right, instructed}
use Rattle.cc_meaning.proofs.Plain.{IsPlainIfAny, applied_is_plain, step_is_plain}
use Rattle.cc_meaning.proofs.Fits.{Fits}
use Rattle.cc_meaning.proofs.Expressions.{Value, CallsMeet, Part, pushes}
use Rattle.cc_meaning.proofs.Evaluates.{expression_meets}
use Rattle.cc_meaning.proofs.Actions.{Acted, acted_after, stores_local, store_meets, element_store_meets}
use Rattle.cc_c_semantics.proofs.Scoped.{Readable, Scoped, scoped_local}

-- a new variable, which is 0, occupies the first word that no name refers to
cleared_words : (ws junk : List ℕ) → 0 < length junk → slice_set (reverse ws ++ junk) (length ws) 0 ≡ reverse (0 ∷ ws) ++ drop 1 junk
cleared_words ws [] h = absurd (omega arith)
cleared_words ws (j ∷ junk) h = set_right (reverse ws) (j ∷ junk) 0 (length ws) 0 (let e = length-reverse ws in omega arith) ∙ sym (newest_last 0 ws junk)

module _ (form : FormTree) (cs : List Activation) (total : ℕ) (layout : Layout) (defined : List (List ℕ)) (Takes : List ℕ → ℕ → Type 0) (n : ℕ) (call : Calls) (calls_meet : CallsMeet form layout Takes cs total n call) where
  -- ---- assignments

  variable_assigned : (v : Environment) (most : ℕ) (vs : List ℕ) (op : Option BinaryOperator) (t u : Scalar) (x : List ℕ) (right : List Instruction) (part : State → Run ℕ) → IsPlainIfAny op → Readable v x
      → Part form cs total v most vs right part → (p : ℕ) (s : State) → Stands form.code p (right ++ store_of (applied op t u) v x ∷ []) → Fits v total most vs s
      → Meets form (conf p vs [] cs s) (Acted form cs total (conf p vs [] cs s) v most (p + length (right ++ store_of (applied op t u) v x ∷ [])))
      (then_do (part s) (λ w y. then_do (new_value op t u (ToVariable x) w y) (λ new z. write (ToVariable x) new z)))
  variable_assigned v most vs op t u x right part plain r f p s st h =
      let last = store_of (applied op t u) v x ∷ [] in
      let c = conf p vs [] cs s in
      let size = length-append right last in
      let in_last = stands_right form.code p (p + length right) right last refl st in
      meets_then form c (Value form cs total c v most vs (p + length right) []) (Acted form cs total c v most (p + length (right ++ last))) (part s)
      (λ w y. then_do (new_value op t u (ToVariable x) w y) (λ new z. write (ToVariable x) new z)) (f p [] s (stands_left form.code p right last st) h)
      (λ w y got. acted_after form cs total v most c (conf (p + length right) vs (w ∷ []) cs y) (p + length right + 1) (p + length (right ++ last))
      (then_do (new_value op t u (ToVariable x) w y) (λ new z. write (ToVariable x) new z)) got.leads (omega arith)
      (store_meets form cs total v most vs op t u x (p + length right) w y plain r got.fits in_last.0))

  -- the index of an element is found first
  record Indexed (c : Configuration) (v : Environment) (most : ℕ) (vs : List ℕ) (q : ℕ) (x : List ℕ) (d : Destination) (t : State) : Type 0 where
    index : ℕ
    is : d ≡ ToElement x index
    value : Value form cs total c v most vs q [] index t

  element_assigned : (v : Environment) (most : ℕ) (vs : List ℕ) (op : Option BinaryOperator) (t u : Scalar) (x : List ℕ) (left right : List Instruction) (index part : State → Run ℕ) → IsPlainIfAny op
      → Part form cs total v most vs left index → Part form cs total v most vs right part → (p : ℕ) (s : State) → Stands form.code p ((left ++ right) ++ store_element_of (applied op t u) v x ∷ []) → Fits v total most vs s
      → Meets form (conf p vs [] cs s) (Acted form cs total (conf p vs [] cs s) v most (p + length ((left ++ right) ++ store_element_of (applied op t u) v x ∷ [])))
      (then_do (then_do (index s) (λ i y. Gives (ToElement x i) y)) (λ d y. then_do (part y) (λ w z. then_do (new_value op t u d w z) (λ new k. write d new k))))
  element_assigned v most vs op t u x left right index part plain f g p s st h =
      let last = store_element_of (applied op t u) v x ∷ [] in
      let c = conf p vs [] cs s in
      let size = length-append (left ++ right) last in
      let size' = length-append left right in
      let in_both = stands_left form.code p (left ++ right) last st in
      let in_right = stands_right form.code p (p + length left) left right refl in_both in
      let in_last = stands_right form.code p (p + length left + length right) (left ++ right) last (omega arith) st in
      let end = p + length ((left ++ right) ++ last) in
      let rest : Destination → State → Run Flow = λ d y. then_do (part y) (λ w z. then_do (new_value op t u d w z) (λ new k. write d new k)) in
      meets_then form c (Indexed c v most vs (p + length left) x) (Acted form cs total c v most end) (then_do (index s) (λ i y. Gives (ToElement x i) y)) rest
      (meets_then form c (Value form cs total c v most vs (p + length left) []) (Indexed c v most vs (p + length left) x) (index s) (λ i y. Gives (ToElement x i) y)
      (f p [] s (stands_left form.code p left right in_both) h) (λ i y got. record { index = i; is = refl; value = got }))
      (λ d y got.
      let i = got.index in
      let e = conf (p + length left) vs (i ∷ []) cs y in
      meets_same form c (Acted form cs total c v most end) (rest d y) (rest (ToElement x i) y) (ap (λ k. rest k y) got.is)
      (acted_after form cs total v most c e end end (rest (ToElement x i) y) got.value.leads refl
      (meets_then form e (Value form cs total e v most vs (p + length left + length right) (i ∷ [])) (Acted form cs total e v most end) (part y)
      (λ w z. then_do (new_value op t u (ToElement x i) w z) (λ new k. write (ToElement x i) new k)) (g (p + length left) (i ∷ []) y in_right got.value.fits)
      (λ w z got'. acted_after form cs total v most e (conf (p + length left + length right) vs (w ∷ i ∷ []) cs z) (p + length left + length right + 1) end
      (then_do (new_value op t u (ToElement x i) w z) (λ new k. write (ToElement x i) new k)) got'.leads (omega arith)
      (element_store_meets form cs total v most vs op t u x i (p + length left + length right) w z plain got'.fits in_last.0)))))

  target_assigned : (v : Environment) (most : ℕ) (vs : List ℕ) (op : Option BinaryOperator) (t u : Scalar) (target : Target) (right : List Instruction) (part : State → Run ℕ) → Scoped layout defined Takes v → most < n → IsPlainIfAny op
      → target_errors (types_in v) target ≡ [] → undefined_among defined (called_in_target target) ≡ [] → Part form cs total v most vs right part
      → (p : ℕ) (s : State) → Stands form.code p (assignment_code (applied op t u) v target right) → Fits v total most vs s
      → Meets form (conf p vs [] cs s) (Acted form cs total (conf p vs [] cs s) v most (p + length (assignment_code (applied op t u) v target right)))
      (then_do (meaning.destination target (types_in v) call s) (λ d y. then_do (part y) (λ w z. then_do (new_value op t u d w z) (λ new k. write d new k))))
  target_assigned v most vs op t u (AtVariable x) right part scoped lt plain e d f =
      let is = variable_found BadAssign (found (types_in v) x.text) x.at e in
      variable_assigned v most vs op t u x.text right part plain (scoped.variable x.text is.0 is.1) f
  target_assigned v most vs op t u (AtElement x i) right part scoped lt plain e d f =
      let own = nil_right (array_errors (found (types_in v) x.text) x.at) (value_errors (types_in v) i) e in
      element_assigned v most vs op t u x.text (expression_code v i) right (evaluate i (types_in v) call) part plain
      (expression_meets form cs total layout defined Takes n call calls_meet i v most vs scoped lt (nil_left (expression_errors (types_in v) i) (void_errors (types_in v) i) own) d) f

  -- ---- actions

  -- the value of an expression is dropped
  dropped : (e : Expr) (v : Environment) (most : ℕ) (vs : List ℕ) → Part form cs total v most vs (expression_code v e) (evaluate e (types_in v) call)
      → (p : ℕ) (s : State) → Stands form.code p (action_code v (Evaluate e)) → Fits v total most vs s
      → Meets form (conf p vs [] cs s) (Acted form cs total (conf p vs [] cs s) v most (p + length (action_code v (Evaluate e)))) (perform (Evaluate e) (types_in v) call s)
  dropped e v most vs f p s st h =
      let code = expression_code v e in
      let last = instruction.Drop ∷ [] in
      let c = conf p vs [] cs s in
      let size = length-append code last in
      let in_last = stands_right form.code p (p + length code) code last refl st in
      meets_then form c (Value form cs total c v most vs (p + length code) []) (Acted form cs total c v most (p + length (code ++ last))) (evaluate e (types_in v) call s) (λ w t. Gives Falls t)
      (f p [] s (stands_left form.code p code last st) h)
      (λ w t got. record {
        falls = refl;
        variables = vs;
        fits = got.fits;
        leads = leads_then form c (conf (p + length code) vs (w ∷ []) cs t) (conf (p + length (code ++ last)) vs [] cs t) got.leads
            (instructed form instruction.Drop (p + length code) vs (w ∷ []) cs t (conf (p + length (code ++ last)) vs [] cs t) in_last.0
            (ap (λ k. Goes (conf k vs [] cs t)) (let z : p + length code + 1 ≡ p + length (code ++ last) = omega arith in z)));
      })

  pub perform_meets : (a : Action) (v : Environment) (most : ℕ) (vs : List ℕ) → Scoped layout defined Takes v → most < n → action_errors (types_in v) a ≡ [] → undefined_among defined (called_in_action a) ≡ []
      → (p : ℕ) (s : State) → Stands form.code p (action_code v a) → Fits v total most vs s
      → Meets form (conf p vs [] cs s) (Acted form cs total (conf p vs [] cs s) v most (p + length (action_code v a))) (perform a (types_in v) call s)
  perform_meets (Assign op target e) v most vs scoped lt o d =
      let bs = types_in v in
      let own = nil_right (target_errors bs target) (value_errors bs e) o in
      target_assigned v most vs (applied_operator op) (target_type bs target) (value_type bs e) target (expression_code v e) (evaluate e bs call) scoped lt (applied_is_plain op)
      (nil_left (target_errors bs target) (value_errors bs e) o) (defined_left defined (called_in_target target) (called_in e) d)
      (expression_meets form cs total layout defined Takes n call calls_meet e v most vs scoped lt (nil_left (expression_errors bs e) (void_errors bs e) own) (defined_right defined (called_in_target target) (called_in e) d))
  perform_meets (Step op target) v most vs scoped lt o d =
      target_assigned v most vs (applied_operator (step_operator op)) (target_type (types_in v) target) Int target (instruction.Constant 1 ∷ []) (λ s. Gives 1 s) scoped lt (step_is_plain op) o d
      (λ p ops s st h. pushes form cs total v most vs ops ops p (p + 1) 1 s (instruction.Constant 1) st.0 h refl refl)
  perform_meets (Evaluate e) v most vs scoped lt o d =
      dropped e v most vs (expression_meets form cs total layout defined Takes n call calls_meet e v most vs scoped lt o d)

  pub optional_meets : (a : Option Action) (v : Environment) (most : ℕ) (vs : List ℕ) → Scoped layout defined Takes v → most < n → optional_action_errors (types_in v) a ≡ [] → undefined_among defined (called_in_optional_action a) ≡ []
      → (p : ℕ) (s : State) → Stands form.code p (optional_action_code v a) → Fits v total most vs s
      → Meets form (conf p vs [] cs s) (Acted form cs total (conf p vs [] cs s) v most (p + length (optional_action_code v a))) (perform_optional a (types_in v) call s)
  optional_meets None v most vs scoped lt o d p s st h = record {
    falls = refl;
    variables = vs;
    fits = h;
    leads = subst (λ k. Leads form (conf p vs [] cs s) (conf k vs [] cs s)) (let z : p ≡ p + 0 = omega arith in z) (leads_refl form (conf p vs [] cs s));
  }
  optional_meets (Some a) v most vs scoped lt o d p s st h = perform_meets a v most vs scoped lt o d p s st h

  -- ---- declarations

  -- once a variable is set to 0 for a new local, the variables fit the state with that local
  new_local : (t : Scalar) (x : List ℕ) (v : Environment) (most : ℕ) (vs : List ℕ) (s : State) → Fits v total most vs s → length v.locals < total
      → Fits (with_local t x v) total most (slice_set vs (length v.locals) 0) (meaning.with_local x s)
  new_local t x v most vs s h lt =
      let ws = words_in s.locals in
      let many : length v.locals ≡ length ws = sym (ap length h.names) ∙ length-map s.locals (λ (l : meaning.Local). l.name) ∙ sym (length-map s.locals (λ (l : meaning.Local). l.word)) in
      let sizes : length vs ≡ length (reverse ws) + length h.junk = ap length h.holds ∙ length-append (reverse ws) h.junk in
      let size = length-reverse ws in
      let room = h.room in
      record {
        names = ap (λ (ns : List (List ℕ)). x ∷ ns) h.names;
        laid = h.laid;
        junk = drop 1 h.junk;
        holds = ap (λ k. slice_set vs k 0) many ∙ ap (λ (l : List ℕ). slice_set l (length ws) 0) h.holds ∙ cleared_words ws h.junk (omega arith);
        room = length_slice_set vs (length v.locals) 0 ∙ room;
        steps = h.steps;
      }

  clears : (t : Scalar) (x : List ℕ) (v : Environment) (most p : ℕ) (vs : List ℕ) (s : State) → Fits v total most vs s → length v.locals < total → slice_get form.code p ≡ Some (instruction.Clear (length v.locals))
      → Leads form (conf p vs [] cs s) (conf (p + 1) (slice_set vs (length v.locals) 0) [] cs (meaning.with_local x s))
  clears t x v most p vs s h lt e =
      instructed form (instruction.Clear (length v.locals)) p vs [] cs s (conf (p + 1) (slice_set vs (length v.locals) 0) [] cs (meaning.with_local x s)) e
      (ap (λ b. only_if b (Goes (conf (p + 1) (slice_set vs (length v.locals) 0) [] cs s))) (lt-ltb (length v.locals) (length vs) (let k = h.room in omega arith)))

  -- the initialiser is stored
  record Begun (c : Configuration) (v : Environment) (most q : ℕ) (x : List ℕ) (w : ℕ) (t : State) : Type 0 where
    variables : List ℕ
    fits : Fits v total most variables (stored x w t)
    leads : Leads form c (conf q variables [] cs (stored x w t))

  newest_number : (t : Scalar) (x : List ℕ) (v : Environment) → number_in (with_local t x v).locals x ≡ Some (length v.locals)
  newest_number t x v = ap (λ b. if b then Some (length v.locals) else number_in v.locals x) (name_is_itself x)

  -- storing 0 in a local that is 0 changes nothing
  stored_again : (x : List ℕ) (s : State) → stored x 0 (meaning.with_local x s) ≡ meaning.with_local x s
  stored_again x s =
      ap (λ b. if is_some (if b then Some 0 else meaning.local_word s.locals x)
      then record (meaning.with_local x s) { locals = if b then record { name = x; word = 0 } ∷ s.locals else record { name = x; word = 0 } ∷ with_local_word x 0 s.locals }
      else record (meaning.with_local x s) { globals = with_element x 0 0 s.globals }) (name_is_itself x)

  initial_value : (t : Scalar) (x : List ℕ) (e : Expr) (v : Environment) (most : ℕ) (vs : List ℕ) → Part form cs total (with_local t x v) most vs (expression_code (with_local t x v) e) (evaluate e (types_in (with_local t x v)) call)
      → (p : ℕ) (s : State) → Stands form.code p (expression_code (with_local t x v) e ++ instruction.SetLocal (length v.locals) ∷ []) → Fits (with_local t x v) total most vs s
      → Meets form (conf p vs [] cs s) (Begun (conf p vs [] cs s) (with_local t x v) most (p + length (expression_code (with_local t x v) e ++ instruction.SetLocal (length v.locals) ∷ [])) x) (evaluate e (types_in (with_local t x v)) call s)
  initial_value t x e v most vs f p s st h =
      let v' = with_local t x v in
      let i = length v.locals in
      let code = expression_code v' e in
      let last = instruction.SetLocal i ∷ [] in
      let c = conf p vs [] cs s in
      let size = length-append code last in
      let in_last = stands_right form.code p (p + length code) code last refl st in
      let setting : store_of None v' x ≡ instruction.SetLocal i =
      ap (λ (o : Option ℕ). elim o [ None ↦ instruction.SetGlobal (extent_of v'.layout.objects x).offset | Some k ↦ instruction.SetLocal k ]) (newest_number t x v) in
      meets_after form c c (Value form cs total c v' most vs (p + length code) []) (Begun c v' most (p + length (code ++ last)) x) (evaluate e (types_in v') call s) (leads_refl form c)
      (λ w y got.
      let q = stores_local form cs total v' most vs y x i got.fits (newest_number t x v) in
      record {
        variables = q.variables w;
        fits = q.fits w;
        leads = leads_then form c (conf (p + length code) vs (w ∷ []) cs y) (conf (p + length (code ++ last)) (q.variables w) [] cs (stored x w y)) got.leads
            (instructed form (store_of None v' x) (p + length code) vs (w ∷ []) cs y (conf (p + length (code ++ last)) (q.variables w) [] cs (stored x w y)) (in_last.0 ∙ ap Some (sym setting))
            (q.sets (p + length code + 1) w ∙ ap (λ k. Goes (conf k (q.variables w) [] cs (stored x w y))) (let z : p + length code + 1 ≡ p + length (code ++ last) = omega arith in z)));
      })
      (f p [] s (stands_left form.code p code last st) h)

  initial_meets : (t : Scalar) (x : List ℕ) (e : Option Expr) (v : Environment) (most : ℕ) (vs : List ℕ) → Scoped layout defined Takes (with_local t x v) → most < n
      → optional_errors (types_in (with_local t x v)) e ≡ [] → undefined_among defined (called_in_optional e) ≡ []
      → (p : ℕ) (s : State) → Stands form.code p (initial_code (with_local t x v) (length v.locals) e) → Fits (with_local t x v) total most vs (meaning.with_local x s)
      → Meets form (conf p vs [] cs (meaning.with_local x s)) (Begun (conf p vs [] cs (meaning.with_local x s)) (with_local t x v) most (p + length (initial_code (with_local t x v) (length v.locals) e)) x)
      (evaluate_or 0 e (types_in (with_local t x v)) call (meaning.with_local x s))
  initial_meets t x None v most vs scoped lt o d p s st h =
      let s' = meaning.with_local x s in
      let again = stored_again x s in
      record {
        variables = vs;
        fits = subst (λ y. Fits (with_local t x v) total most vs y) (sym again) h;
        leads = subst (λ k. Leads form (conf p vs [] cs s') (conf k vs [] cs (stored x 0 s'))) (let z : p ≡ p + 0 = omega arith in z)
            (subst (λ y. Leads form (conf p vs [] cs s') (conf p vs [] cs y)) (sym again) (leads_refl form (conf p vs [] cs s')));
      }
  initial_meets t x (Some e) v most vs scoped lt o d p s st h =
      let bs = types_in (with_local t x v) in
      initial_value t x e v most vs
      (expression_meets form cs total layout defined Takes n call calls_meet e (with_local t x v) most vs scoped lt (nil_left (expression_errors bs e) (void_errors bs e) o) d) p (meaning.with_local x s) st h

  pub declare_meets : (t : Scalar) (ds : List Declarator) (v : Environment) (most : ℕ) → Scoped layout defined Takes v → most < n → declared_errors t ds v.visible ≡ [] → undefined_among defined (called_in_declared ds) ≡ []
      → length v.locals + length ds ≤ total → (p : ℕ) (vs : List ℕ) (s : State) → Stands form.code p (declared_code v t ds) → Fits v total most vs s
      → Meets form (conf p vs [] cs s) (Acted form cs total (conf p vs [] cs s) (with_locals t ds v) most (p + length (declared_code v t ds))) (declare t ds call v.visible s)
  declare_meets t [] v most scoped lt o d room p vs s st h = record {
    falls = refl;
    variables = vs;
    fits = h;
    leads = subst (λ k. Leads form (conf p vs [] cs s) (conf k vs [] cs s)) (let z : p ≡ p + 0 = omega arith in z) (leads_refl form (conf p vs [] cs s));
  }
  declare_meets t (x ∷ rest) v most scoped lt o d room p vs s st h =
      let name : List ℕ = x.name.text in
      let v' = with_local t name v in
      let s' = meaning.with_local name s in
      let i = length v.locals in
      let vs' = slice_set vs i 0 in
      let first = initial_code v' i x.initial in
      let others = declared_code v' t rest in
      let code = (instruction.Clear i ∷ first) ++ others in
      let c = conf p vs [] cs s in
      let again = broken_if (is_declared v.visible.inner name) Redeclared x.name.at in
      let own = nil_right again (optional_errors (types_in v') x.initial ++ declared_errors t rest v'.visible) o in
      let scoped' = scoped_local layout defined Takes t name v scoped in
      let to = clears t name v most p vs s h (omega arith) st.0 in
      let fits' = new_local t name v most vs s h (omega arith) in
      let d' = conf (p + 1) vs' [] cs s' in
      let size = length-append first others in
      let end = p + length code in
      meets_after form c d' (Acted form cs total d' (with_locals t rest v') most end) (Acted form cs total c (with_locals t rest v') most end) (declare t (x ∷ rest) call v.visible s) to
      (λ flow y got. record { falls = got.falls; variables = got.variables; fits = got.fits; leads = leads_then form c d' (conf end got.variables [] cs y) to got.leads })
      (meets_then form d' (Begun d' v' most (p + 1 + length first) name) (Acted form cs total d' (with_locals t rest v') most end) (evaluate_or 0 x.initial (types_in v') call s')
      (λ w y. declare t rest call v'.visible (stored name w y))
      (initial_meets t name x.initial v most vs' scoped' lt (nil_left (optional_errors (types_in v') x.initial) (declared_errors t rest v'.visible) own) (defined_left defined (called_in_optional x.initial) (called_in_declared rest) d)
      (p + 1) s (stands_left form.code (p + 1) first others st.1) fits')
      (λ w y got. acted_after form cs total (with_locals t rest v') most d' (conf (p + 1 + length first) got.variables [] cs (stored name w y)) (p + 1 + length first + length others) end
      (declare t rest call v'.visible (stored name w y)) got.leads (omega arith)
      (declare_meets t rest v' most scoped' lt (nil_right (optional_errors (types_in v') x.initial) (declared_errors t rest v'.visible) own) (defined_right defined (called_in_optional x.initial) (called_in_declared rest) d)
      (omega arith) (p + 1 + length first) got.variables (stored name w y) (stands_right form.code (p + 1) (p + 1 + length first) first others refl st.1) got.fits)))
