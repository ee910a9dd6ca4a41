-- The instructions of each expression push its value, by recursion on the tree. What a call does is a parameter.
use Rattle.std.proofs.Common.{◌≡◌, ℕ, ◌+◌, ◌<◌, List, [], ◌∷◌, ◌++◌, length, reverse, refl, sym, subst, arith, length-append}
use Rattle.cc_ast.specs.Tree.{Name, Expr, Exprs, none, more, Number, Variable, Element, Call, Parenthesised, Unary, Cast, Binary, Conditional}
use Rattle.cc_types.specs.Operators.{working_type, unary_word}
use Rattle.cc_types.specs.Scope.{found}
use Rattle.cc_types.specs.Types.{value_type}
use Rattle.cc_types.specs.Rules.{array_errors, function_errors, count_of, void_errors, expression_errors, argument_errors, undefined_among, called_in, called_in_all}
use Rattle.cc_types.specs.declared.rule.Rule.TheVariants.{WrongKind}
use Rattle.cc_meaning.specs.declared.form.Instruction.TheVariants as instruction
use Rattle.cc_meaning.specs.internal.Form.{FormTree, unary_code, load, call_of, expression_code, arguments_code}
use Rattle.cc_layout.specs.Environment.{Environment, types_in}
use Rattle.cc_layout.specs.Layout.{Layout, extent_of}
use Rattle.cc_c_semantics.specs.Meaning.{State, Gives, then_do, Calls, variable_word, read_element, evaluate, evaluate_all}
use Rattle.cc_meaning.specs.internal.FormMeaning.{Activation}
use Rattle.cc_c_semantics.proofs.Errors.{nil_left, nil_right, defined_left, defined_right, is_defined, variable_found, function_found}
use Rattle.cc_c_semantics.proofs.Held.{newest_last}
use Rattle.cc_meaning.proofs.Moves.{Leads, leads_refl, leads_then, conf, Meets, meets_then, meets_after, Stands, stands_left, stands_right}
use Rattle.cc_meaning.proofs.Plain.{kind_of}
use Rattle.cc_meaning.proofs.Fits.{Fits, load_move}
use Rattle.cc_meaning.proofs.Expressions.{Value, Values, CallsMeet, Part, value_after, pushes, element_meets, unary_leads, binary_meets, conditional_meets}
use Rattle.cc_c_semantics.proofs.Scoped.{Scoped}

module _ (form : FormTree) (cs : List Activation) (total : ℕ) (layout : Layout) (defined : List (List ℕ)) (Takes : List ℕ → ℕ → Type 0) (n : ℕ) (call : Calls) (calls_meet : CallsMeet form layout Takes cs total n call) where
  -- the instructions of arguments push the arguments' values, one after another
  abbrev Arguments : Environment → (most : ℕ) (vs : List ℕ) → Exprs → Type 0
  Arguments v most vs es =
      (p : ℕ) (ops : List ℕ) (s : State) → Stands form.code p (arguments_code v es) → Fits v total most vs s
      → Meets form (conf p vs ops cs s) (Values form cs total (conf p vs ops cs s) v most vs (p + length (arguments_code v es)) (count_of es) ops) (evaluate_all es (types_in v) call s)

  -- if the instructions of an index push its value, those of the element push the element's value
  element_part : (e : Expr) (x : Name) (v : Environment) (most : ℕ) (vs : List ℕ) → Part form cs total v most vs (expression_code v e) (evaluate e (types_in v) call)
      → Part form cs total v most vs (expression_code v (Element x e)) (evaluate (Element x e) (types_in v) call)
  element_part e x v most vs f p ops s st h =
      let code = expression_code v e in
      let last = instruction.Element (extent_of v.layout.objects x.text) ∷ [] in
      let c = conf p vs ops cs s in
      let size = length-append code last in
      let in_last = stands_right form.code p (p + length code) code last refl st in
      meets_then form c (Value form cs total c v most vs (p + length code) ops) (Value form cs total c v most vs (p + length (code ++ last)) ops) (evaluate e (types_in v) call s)
      (λ i t. read_element x.text i t) (f p ops s (stands_left form.code p code last st) h)
      (λ i t got. value_after form cs total v most vs ops c (conf (p + length code) vs (i ∷ ops) cs t) (p + length code + 1) (p + length (code ++ last)) (read_element x.text i t) got.leads (omega arith)
      (element_meets form cs total v most vs ops (p + length code) i x.text t in_last.0 got.fits))

  unary_part : (e : Expr) (op : _) (v : Environment) (most : ℕ) (vs : List ℕ) → Part form cs total v most vs (expression_code v e) (evaluate e (types_in v) call)
      → Part form cs total v most vs (expression_code v (Unary op e)) (evaluate (Unary op e) (types_in v) call)
  unary_part e op v most vs f p ops s st h =
      let code = expression_code v e in
      let c = conf p vs ops cs s in
      let size = length-append code (unary_code op) in
      meets_then form c (Value form cs total c v most vs (p + length code) ops) (Value form cs total c v most vs (p + length (code ++ unary_code op)) ops) (evaluate e (types_in v) call s)
      (λ a t. Gives (unary_word op a) t) (f p ops s (stands_left form.code p code (unary_code op) st) h)
      (λ a t got. value_after form cs total v most vs ops c (conf (p + length code) vs (a ∷ ops) cs t) (p + length code + length (unary_code op)) (p + length (code ++ unary_code op)) (Gives (unary_word op a) t) got.leads (omega arith)
      (unary_leads form cs total v most vs ops (p + length code) a op t (stands_right form.code p (p + length code) code (unary_code op) refl st) got.fits))

  call_part : (f : Name) (es : Exprs) (v : Environment) (most : ℕ) (vs : List ℕ) → Scoped layout defined Takes v → most < n → Takes f.text (count_of es) → Arguments v most vs es
      → Part form cs total v most vs (expression_code v (Call f es)) (evaluate (Call f es) (types_in v) call)
  call_part f es v most vs scoped lt takes args p ops s st h =
      let code = arguments_code v es in
      let last = call_of v f.text ∷ [] in
      let c = conf p vs ops cs s in
      let size = length-append code last in
      let in_last = stands_right form.code p (p + length code) code last refl st in
      meets_then form c (Values form cs total c v most vs (p + length code) (count_of es) ops) (Value form cs total c v most vs (p + length (code ++ last)) ops) (evaluate_all es (types_in v) call s)
      (λ ws t. call f.text ws t) (args p ops s (stands_left form.code p code last st) h)
      (λ ws t got. value_after form cs total v most vs ops c (conf (p + length code) vs (reverse ws ++ ops) cs t) (p + length code + 1) (p + length (code ++ last)) (call f.text ws t) got.leads (omega arith)
      (calls_meet v f.text ws (p + length code) vs ops t most scoped.laid (subst (Takes f.text) (sym got.many) takes) in_last.0 got.fits lt))

  takes_of : (f : Name) (es : Exprs) (v : Environment) → Scoped layout defined Takes v → function_errors (found (types_in v) f.text) (count_of es) f.at ≡ []
      → undefined_among defined (called_in (Call f es)) ≡ [] → Takes f.text (count_of es)
  takes_of f es v scoped e d =
      let g = function_found (found (types_in v) f.text) (count_of es) f.at e in
      subst (Takes f.text) (sym g.3) (scoped.function f.text g.0 g.1 g.2 (is_defined defined f (called_in_all es) d))

  more_part : (e : Expr) (rest : Exprs) (v : Environment) (most : ℕ) (vs : List ℕ) → Part form cs total v most vs (expression_code v e) (evaluate e (types_in v) call) → Arguments v most vs rest → Arguments v most vs (more e rest)
  more_part e rest v most vs f g p ops s st h =
      let code = expression_code v e in
      let others = arguments_code v rest in
      let c = conf p vs ops cs s in
      let size = length-append code others in
      let q = p + length code in
      let end = p + length (code ++ others) in
      meets_then form c (Value form cs total c v most vs q ops) (Values form cs total c v most vs end (1 + count_of rest) ops) (evaluate e (types_in v) call s)
      (λ w t. then_do (evaluate_all rest (types_in v) call t) (λ ws u. Gives (w ∷ ws) u)) (f p ops s (stands_left form.code p code others st) h)
      (λ w t got.
      let d = conf q vs (w ∷ ops) cs t in
      meets_after form c d (Values form cs total d v most vs end (1 + count_of rest) ops) (Values form cs total c v most vs end (1 + count_of rest) ops) (then_do (evaluate_all rest (types_in v) call t) (λ ws u. Gives (w ∷ ws) u)) got.leads
      (λ ws u x. record { fits = x.fits; many = x.many; leads = leads_then form c d (conf end vs (reverse ws ++ ops) cs u) got.leads x.leads })
      (meets_then form d (Values form cs total d v most vs (q + length others) (count_of rest) (w ∷ ops)) (Values form cs total d v most vs end (1 + count_of rest) ops) (evaluate_all rest (types_in v) call t) (λ ws u. Gives (w ∷ ws) u)
      (g q (w ∷ ops) t (stands_right form.code p q code others refl st) got.fits)
      (λ ws u x. record {
        fits = x.fits;
        many = (let k = x.many in omega arith);
        leads = subst (λ (os : List ℕ). Leads form d (conf end vs os cs u)) (sym (newest_last w ws ops))
            (subst (λ k. Leads form d (conf k vs (reverse ws ++ (w ∷ ops)) cs u)) (let z : q + length others ≡ end = omega arith in z) x.leads);
      })))

  mutual
    pub expression_meets : (e : Expr) (v : Environment) (most : ℕ) (vs : List ℕ) → Scoped layout defined Takes v → most < n → expression_errors (types_in v) e ≡ [] → undefined_among defined (called_in e) ≡ []
        → Part form cs total v most vs (expression_code v e) (evaluate e (types_in v) call)
    expression_meets (Number t k) v most vs scoped lt e d = λ p ops s st h. pushes form cs total v most vs ops ops p (p + 1) k s (instruction.Constant k) st.0 h refl refl
    expression_meets (Variable x) v most vs scoped lt e d = λ p ops s st h.
        let f = variable_found WrongKind (found (types_in v) x.text) x.at e in
        pushes form cs total v most vs ops ops p (p + 1) (variable_word x.text s) s (load v x.text) st.0 h refl (load_move form v total most (p + 1) vs ops cs s x.text h (scoped.variable x.text f.0 f.1))
    expression_meets (Element x i) v most vs scoped lt e d =
        let own = nil_right (array_errors (found (types_in v) x.text) x.at) (expression_errors (types_in v) i ++ void_errors (types_in v) i) e in
        element_part i x v most vs (expression_meets i v most vs scoped lt (nil_left (expression_errors (types_in v) i) (void_errors (types_in v) i) own) d)
    expression_meets (Call f es) v most vs scoped lt e d =
        call_part f es v most vs scoped lt
        (takes_of f es v scoped (nil_left (function_errors (found (types_in v) f.text) (count_of es) f.at) (argument_errors (types_in v) es) e) d)
        (arguments_meet es v most vs scoped lt (nil_right (function_errors (found (types_in v) f.text) (count_of es) f.at) (argument_errors (types_in v) es) e) (defined_right defined (f ∷ []) (called_in_all es) d))
    expression_meets (Parenthesised i) v most vs scoped lt e d = expression_meets i v most vs scoped lt e d
    expression_meets (Unary op i) v most vs scoped lt e d =
        unary_part i op v most vs (expression_meets i v most vs scoped lt (nil_left (expression_errors (types_in v) i) (void_errors (types_in v) i) e) d)
    expression_meets (Cast t i) v most vs scoped lt e d = expression_meets i v most vs scoped lt (nil_left (expression_errors (types_in v) i) (void_errors (types_in v) i) e) d
    expression_meets (Binary op a b) v most vs scoped lt e d =
        let bs = types_in v in
        let of_a = nil_left (expression_errors bs a ++ void_errors bs a) (expression_errors bs b ++ void_errors bs b) e in
        let of_b = nil_right (expression_errors bs a ++ void_errors bs a) (expression_errors bs b ++ void_errors bs b) e in
        binary_meets form cs total v most vs op (working_type op (value_type bs a) (value_type bs b)) (expression_code v a) (expression_code v b) (evaluate a bs call) (evaluate b bs call) (kind_of op)
        (expression_meets a v most vs scoped lt (nil_left (expression_errors bs a) (void_errors bs a) of_a) (defined_left defined (called_in a) (called_in b) d))
        (expression_meets b v most vs scoped lt (nil_left (expression_errors bs b) (void_errors bs b) of_b) (defined_right defined (called_in a) (called_in b) d))
    expression_meets (Conditional c a b) v most vs scoped lt e d =
        let bs = types_in v in
        let of_c = nil_left (expression_errors bs c ++ void_errors bs c) ((expression_errors bs a ++ void_errors bs a) ++ (expression_errors bs b ++ void_errors bs b)) e in
        let of_ab = nil_right (expression_errors bs c ++ void_errors bs c) ((expression_errors bs a ++ void_errors bs a) ++ (expression_errors bs b ++ void_errors bs b)) e in
        let of_a = nil_left (expression_errors bs a ++ void_errors bs a) (expression_errors bs b ++ void_errors bs b) of_ab in
        let of_b = nil_right (expression_errors bs a ++ void_errors bs a) (expression_errors bs b ++ void_errors bs b) of_ab in
        let d_ab = defined_right defined (called_in c) (called_in a ++ called_in b) d in
        conditional_meets form cs total v most vs (expression_code v c) (expression_code v a) (expression_code v b) (evaluate c bs call) (evaluate a bs call) (evaluate b bs call)
        (expression_meets c v most vs scoped lt (nil_left (expression_errors bs c) (void_errors bs c) of_c) (defined_left defined (called_in c) (called_in a ++ called_in b) d))
        (expression_meets a v most vs scoped lt (nil_left (expression_errors bs a) (void_errors bs a) of_a) (defined_left defined (called_in a) (called_in b) d_ab))
        (expression_meets b v most vs scoped lt (nil_left (expression_errors bs b) (void_errors bs b) of_b) (defined_right defined (called_in a) (called_in b) d_ab))

    pub arguments_meet : (es : Exprs) (v : Environment) (most : ℕ) (vs : List ℕ) → Scoped layout defined Takes v → most < n → argument_errors (types_in v) es ≡ [] → undefined_among defined (called_in_all es) ≡ []
        → Arguments v most vs es
    arguments_meet none v most vs scoped lt e d = λ p ops s st h.
        record { fits = h; many = refl; leads = subst (λ k. Leads form (conf p vs ops cs s) (conf k vs ops cs s)) (let z : p ≡ p + 0 = omega arith in z) (leads_refl form (conf p vs ops cs s)) }
    arguments_meet (more i rest) v most vs scoped lt e d =
        let bs = types_in v in
        let of_i = nil_left (expression_errors bs i ++ void_errors bs i) (argument_errors bs rest) e in
        more_part i rest v most vs
        (expression_meets i v most vs scoped lt (nil_left (expression_errors bs i) (void_errors bs i) of_i) (defined_left defined (called_in i) (called_in_all rest) d))
        (arguments_meet rest v most vs scoped lt (nil_right (expression_errors bs i ++ void_errors bs i) (argument_errors bs rest) e) (defined_right defined (called_in i) (called_in_all rest) d))
