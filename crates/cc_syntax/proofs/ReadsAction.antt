-- The parser reads each action that tokens spell: an assignment, an increment or decrement, or an expression.
use Rattle.std.proofs.Common.{◌≡◌, ℕ, true, false, suc, List, [], ◌∷◌, ◌++◌, Some, Bool, refl, sym, ap, subst, ◌∙◌, arith, append_assoc, inl, inr}
use Rattle.cc_ast.specs.declared.ast.AssignmentOperator.{AssignmentOperator}
use Rattle.cc_ast.specs.declared.ast.AssignmentOperator.TheVariants as assignment
use Rattle.cc_ast.specs.declared.ast.StepOperator.{StepOperator}
use Rattle.cc_ast.specs.declared.ast.StepOperator.TheVariants as stepping
use Rattle.cc_tokens.specs.declared.token.Punctuator.TheVariants as punctuator
use Rattle.cc_tokens.specs.declared.token.TokenKind.{TokenKind}
use Rattle.cc_tokens.specs.declared.token.TokenKind.TheVariants as kind
use Rattle.cc_syntax.specs.declared.parser.role.Role.{Role}
use Rattle.cc_syntax.specs.declared.parser.role.Role.TheVariants as role
use Rattle.cc_tokens.specs.Token.{Lexeme}
use Rattle.cc_ast.specs.Tree.{Name, Expr, Variable, Element, Target, AtVariable, AtElement, Action, Assign, Step, Evaluate, Performs, Perform}
use Rattle.cc_syntax.specs.internal.Roles.{role_of, punctuator_role}
use Rattle.cc_ast.specs.Grammar.{Measured, outside, full, full_after, begins, identifier, assignment_punctuator, step_punctuator, SpellsExpression, SpellsTarget, SpellsAction}
use Rattle.cc_syntax.specs.internal.Parser.{State, Operand, ForTesting, InFor, in_body, inside_of, settled, InBody, InFull, Inside, Item, Stepping, StepNamed, Stepped, Context, OfBody, ToPerform, ToAssign, ToStep, Spot, AsStatement, AsStart, AsLast, Waiting, Index, Full, full_of, reduced, close, assign, step_target, acted, end_full, operator_step, operand_step, action_step, role_step, role_level, name_of, count_of}
use Rattle.cc_syntax.proofs.ParserRuns.{Runs, token, runs-append}
use Rattle.cc_syntax.proofs.Forms.{operand, operator, count_after, count_after-append, full_after-append, runs-full}
use Rattle.cc_syntax.proofs.Settles.{settled-count, none-some}
use Rattle.cc_syntax.proofs.ReadsExpression.{Read, read_expression}

-- if tokens spell a whole full expression, the parser reads it
pub read_full : (e : Expr) (xs : List Lexeme) (c : Context) (n : ℕ) → SpellsExpression 1 xs e → Read c n [] 1 xs e
read_full e xs c n h = read_expression e 1 xs c n [] h tt (omega arith)

-- the token closes a pending part, or ends the expression
abbrev pub Closes : TokenKind → Type 0
Closes k = (f : Full) (e : Expr) → operator_step f e (role_of k) ≡ close f (role_of k) (reduced 1 f.waiting e)

-- the parser reads a full expression and the token after it
pub read_ended : (c : Context) (n : ℕ) (xs : List Lexeme) (e : Expr) (x : Lexeme) (k : TokenKind) (m : State) (j : ℕ) → SpellsExpression 1 xs e → x.kind ≡ k → Closes k → end_full c (count_after n xs) e (role_of k) ≡ Some m → j ≡ count_of m → Runs (operand c n []) (full_after n xs ++ record { token = x; count = j; level = 0 } ∷ []) m
read_ended c n xs e x k m j h i closes ends counts =
    let r = read_full e xs c n h in
    let last = operator c (count_after n xs) r.waiting r.last in
    let f = full_of c r.waiting (count_after n xs) in
    runs-append _ last m (full_after n xs) (record { token = x; count = j; level = 0 } ∷ []) r.runs
    (token last m m x k j 0 [] i (closes f r.last ∙ ap (λ (z : Expr × List Waiting). close f (role_of k) z) (r.same 1 (omega arith)) ∙ ends) counts refl refl)

-- the operator after a target, if the target begins an action

assign_step : (op : AssignmentOperator) (f : Full) (e : Expr) → operator_step f e (punctuator_role (assignment_punctuator op)) ≡ assign f e op f.waiting
assign_step assignment.Plain f e = refl
assign_step assignment.Multiply f e = refl
assign_step assignment.Divide f e = refl
assign_step assignment.Remainder f e = refl
assign_step assignment.Add f e = refl
assign_step assignment.Subtract f e = refl
assign_step assignment.ShiftLeft f e = refl
assign_step assignment.ShiftRight f e = refl
assign_step assignment.And f e = refl
assign_step assignment.Xor f e = refl
assign_step assignment.Or f e = refl

step_step : (op : StepOperator) (f : Full) (e : Expr) → operator_step f e (punctuator_role (step_punctuator op)) ≡ step_target f e op f.waiting
step_step stepping.Increment f e = refl
step_step stepping.Decrement f e = refl

-- a target as an expression
abbrev expression_of : Target → Expr
expression_of (AtVariable v) = Variable v
expression_of (AtElement v e) = Element v e

-- the parser reads the target as an expression, and nothing is pending after it
record ReadTarget (c : Context) (n : ℕ) (xs : List Lexeme) (t : Target) : Type 0 where
  runs : Runs (operand c n []) (full_after n xs) (operator c (count_after n xs) [] (expression_of t))

read_target : (t : Target) (xs : List Lexeme) (c : Context) (n : ℕ) → SpellsTarget xs t → ReadTarget c n xs t
read_target (AtVariable v) xs c n h =
    let runs : Runs (operand c n []) (full_after n (identifier v ∷ [])) (operator c (suc n) [] (Variable v)) =
    token (operand c n []) (operator c (suc n) [] (Variable v)) _ (identifier v) kind.Identifier (suc n) 0 [] refl refl refl refl refl in
    subst (λ (z : List Lexeme). ReadTarget c n z (AtVariable v)) (sym h) (record { runs = runs })
read_target (AtElement v e) xs c n h =
    let inner = read_expression e 1 h.2 c (suc (suc n)) (Index v ∷ []) h.5 tt (omega arith) in
    let m = count_after (suc (suc n)) h.2 in
    let ends : Runs (operator c m inner.waiting inner.last) (full_after m (h.1 ∷ [])) (operator c (suc m) [] (Element v e)) =
    token (operator c m inner.waiting inner.last) (operator c (suc m) [] (Element v e)) _ h.1 (kind.Punctuator punctuator.CloseBracket) (suc m) 0 [] h.4 (ap (λ (r : Expr × List Waiting). close (full_of c inner.waiting m) role.CloseBracket r) (inner.same 1 (omega arith))) refl refl refl in
    let runs : Runs (operand c n []) (full_after n (identifier v ∷ h.0 ∷ h.2 ++ h.1 ∷ [])) (operator c (suc m) [] (Element v e)) =
    token (operand c n []) (operator c (suc n) [] (Variable v)) _ (identifier v) kind.Identifier (suc n) 0 (full_after (suc n) (h.0 ∷ h.2 ++ h.1 ∷ [])) refl refl refl refl
    (token (operator c (suc n) [] (Variable v)) (operand c (suc (suc n)) (Index v ∷ [])) _ h.0 (kind.Punctuator punctuator.OpenBracket) (suc (suc n)) 0 (full_after (suc (suc n)) (h.2 ++ h.1 ∷ [])) h.3 refl refl refl
    (runs-full _ _ _ (suc (suc n)) h.2 (h.1 ∷ []) inner.runs ends)) in
    subst (λ (z : List Lexeme). ReadTarget c n z (AtElement v e)) (sym h.6)
    (record { runs = subst (λ (j : ℕ). Runs (operand c n []) (full_after n (identifier v ∷ h.0 ∷ h.2 ++ h.1 ∷ [])) (operator c j [] (Element v e))) (sym (count_after-append (suc (suc n)) h.2 (h.1 ∷ []))) runs })

assigns_to : (t : Target) (b : Inside) (p : Spot) (k : ℕ) (op : AssignmentOperator) → operator_step (full_of (OfBody b (ToPerform p)) [] k) (expression_of t) (punctuator_role (assignment_punctuator op)) ≡ Some (operand (OfBody b (ToAssign op t p)) (suc k) [])
assigns_to (AtVariable v) b p k op = assign_step op (full_of (OfBody b (ToPerform p)) [] k) (Variable v)
assigns_to (AtElement v e) b p k op = assign_step op (full_of (OfBody b (ToPerform p)) [] k) (Element v e)

steps_to : (t : Target) (b : Inside) (p : Spot) (k : ℕ) (op : StepOperator) → operator_step (full_of (OfBody b (ToPerform p)) [] k) (expression_of t) (punctuator_role (step_punctuator op)) ≡ Some (InBody b (Stepped op t p (suc k)))
steps_to (AtVariable v) b p k op = step_step op (full_of (OfBody b (ToPerform p)) [] k) (Variable v)
steps_to (AtElement v e) b p k op = step_step op (full_of (OfBody b (ToPerform p)) [] k) (Element v e)

-- the token that ends an action, and the state after it
abbrev pub terminator : Spot → TokenKind
terminator AsStatement = kind.Punctuator punctuator.Semicolon
terminator AsStart = kind.Punctuator punctuator.Semicolon
terminator (AsLast a e) = kind.Punctuator punctuator.CloseParenthesis

abbrev pub behind : Inside → Spot → Action → State
behind b AsStatement z = in_body (settled true b b.opened (Perform (Some z)))
behind b AsStart z = InBody b (ForTesting (Performs (Some z)))
behind b (AsLast a e) z = InBody (inside_of b b.finished (InFor a e (Some z) ∷ b.opened)) Item

pub acted-behind : (p : Spot) (b : Inside) (z : Action) → acted b p z (role_of (terminator p)) ≡ Some (behind b p z)
acted-behind AsStatement b z = refl
acted-behind AsStart b z = refl
acted-behind (AsLast a e) b z = refl

pub action-closes : (p : Spot) → Closes (terminator p)
action-closes AsStatement f e = refl
action-closes AsStart f e = refl
action-closes (AsLast a l) f e = refl

pub named-ends : (p : Spot) (b : Inside) (op : StepOperator) (v x : Name) → role_step (InBody b (StepNamed op v p)) (role_of (terminator p)) x ≡ acted b p (Step op (AtVariable v)) (role_of (terminator p))
named-ends AsStatement b op v x = refl
named-ends AsStart b op v x = refl
named-ends (AsLast a e) b op v x = refl

pub behind-count : (p : Spot) (b : Inside) (z : Action) → 0 ≡ count_of (behind b p z)
behind-count AsStatement b z = settled-count true b b.opened (Perform (Some z))
behind-count AsStart b z = refl
behind-count (AsLast a e) b z = refl

-- a state in which an action begins
pub record Enters (s : State) (b : Inside) (p : Spot) (level : ℕ) : Type 0 where
  pub first : (r : Role) (v : Name) (m : State) → action_step b p r v ≡ Some m → role_step s r v ≡ Some m
  pub begun : (r : Role) (v : Name) (m : State) → action_step b p r v ≡ Some m → level ≡ role_level s r

operand-acts : (r : Role) (b : Inside) (p : Spot) (v : Name) (m : State) → operand_step (full_of (OfBody b (ToPerform p)) [] 0) r v ≡ Some m → action_step b p r v ≡ Some m
operand-acts (role.Step op) b p v m h = absurd (none-some _ m refl h)
operand-acts r b p v m h = h

abbrev at_operand : State → Bool
at_operand (InFull f Operand) = true
at_operand _ = false

pub no-operator : (c : Context) (n k : ℕ) (us ws : List Waiting) (last : Expr) → operand c n us ≡ operator c k ws last → ⊥
no-operator c n k us ws last h = let e : true ≡ false = ap (λ (s : State). at_operand s) h in cc

-- a run over an action that begins with an expression may start in any state in which an action may begin
enter : (xs : List Lexeme) (s : State) (b : Inside) (p : Spot) (level k : ℕ) (ws : List Waiting) (last : Expr) (rest : List Measured) (m : State) → Enters s b p level → Runs (operand (OfBody b (ToPerform p)) 0 []) (full xs) (operator (OfBody b (ToPerform p)) k ws last) → Runs (operator (OfBody b (ToPerform p)) k ws last) rest m → Runs s (begins level (full xs ++ rest)) m
enter [] s b p level k ws last rest m e h g = absurd (no-operator (OfBody b (ToPerform p)) 0 k [] ws last h)
enter (x ∷ xs) s b p level k ws last rest m e h g =
    let goes = operand-acts (role_of x.kind) b p (name_of x) h.0 h.1 in
    (h.0, e.first (role_of x.kind) (name_of x) h.0 goes, h.2, e.begun (role_of x.kind) (name_of x) h.0 goes, runs-append h.0 (operator (OfBody b (ToPerform p)) k ws last) m (full_after 1 xs) rest h.4 g)

-- the parser reads the target after `++` or `--`, and the token after the target
read_stepped : (t : Target) (op : StepOperator) (xs : List Lexeme) (b : Inside) (p : Spot) (x : Lexeme) → SpellsTarget xs t → x.kind ≡ terminator p → Runs (InBody b (Stepping op p)) (full_after 1 xs ++ outside x ∷ []) (behind b p (Step op t))
read_stepped (AtVariable v) op xs b p x h i =
    let m = behind b p (Step op (AtVariable v)) in
    let runs : Runs (InBody b (Stepping op p)) (full_after 1 (identifier v ∷ []) ++ outside x ∷ []) m =
    token (InBody b (Stepping op p)) (InBody b (StepNamed op v p)) m (identifier v) kind.Identifier 2 0 (outside x ∷ []) refl refl refl refl
    (token (InBody b (StepNamed op v p)) m m x (terminator p) 0 0 [] i (named-ends p b op v (name_of x) ∙ acted-behind p b (Step op (AtVariable v))) (behind-count p b (Step op (AtVariable v))) refl refl) in
    subst (λ (z : List Lexeme). Runs (InBody b (Stepping op p)) (full_after 1 z ++ outside x ∷ []) m) (sym h) runs
read_stepped (AtElement v e) op xs b p x h i =
    let m = behind b p (Step op (AtElement v e)) in
    let c = OfBody b (ToStep op v p) in
    let k = count_after 3 h.2 in
    let stepped = InBody b (Stepped op (AtElement v e) p (suc k)) in
    let index : Runs (operand c 3 []) (full_after 3 h.2 ++ record { token = h.1; count = suc k; level = 0 } ∷ []) stepped =
    read_ended c 3 h.2 e h.1 (kind.Punctuator punctuator.CloseBracket) stepped (suc k) h.5 h.4 (λ f z. refl) refl refl in
    let last : Runs stepped (outside x ∷ []) m =
    token stepped m m x (terminator p) 0 0 [] i (acted-behind p b (Step op (AtElement v e))) (behind-count p b (Step op (AtElement v e))) refl refl in
    let inner : Runs (operand c 3 []) (full_after 3 (h.2 ++ h.1 ∷ []) ++ outside x ∷ []) m =
    subst (λ (z : List Measured). Runs (operand c 3 []) (z ++ outside x ∷ []) m) (sym (full_after-append 3 h.2 (h.1 ∷ [])))
    (runs-append _ stepped m (full_after 3 h.2 ++ record { token = h.1; count = suc k; level = 0 } ∷ []) (outside x ∷ []) index last) in
    let runs : Runs (InBody b (Stepping op p)) (full_after 1 (identifier v ∷ h.0 ∷ h.2 ++ h.1 ∷ []) ++ outside x ∷ []) m =
    token (InBody b (Stepping op p)) (InBody b (StepNamed op v p)) m (identifier v) kind.Identifier 2 0 (full_after 2 (h.0 ∷ h.2 ++ h.1 ∷ []) ++ outside x ∷ []) refl refl refl refl
    (token (InBody b (StepNamed op v p)) (operand c 3 []) m h.0 (kind.Punctuator punctuator.OpenBracket) 3 0 (full_after 3 (h.2 ++ h.1 ∷ []) ++ outside x ∷ []) h.3 refl refl refl inner) in
    subst (λ (z : List Lexeme). Runs (InBody b (Stepping op p)) (full_after 1 z ++ outside x ∷ []) m) (sym h.6) runs

step-begins : (op : StepOperator) (b : Inside) (p : Spot) (v : Name) → action_step b p (punctuator_role (step_punctuator op)) v ≡ Some (InBody b (Stepping op p))
step-begins stepping.Increment b p v = refl
step-begins stepping.Decrement b p v = refl

-- the parser reads an action and the token after it
pub read_action : (a : Action) (xs : List Lexeme) (s : State) (b : Inside) (p : Spot) (level : ℕ) (x : Lexeme) → Enters s b p level → SpellsAction xs a → x.kind ≡ terminator p → Runs s (begins level (full xs ++ outside x ∷ [])) (behind b p a)
read_action (Evaluate e) xs s b p level x enters h i =
    let c = OfBody b (ToPerform p) in
    let m = behind b p (Evaluate e) in
    let r = read_full e xs c 0 h in
    let k = count_after 0 xs in
    let f = full_of c r.waiting k in
    enter xs s b p level k r.waiting r.last (outside x ∷ []) m enters r.runs
    (token (operator c k r.waiting r.last) m m x (terminator p) 0 0 [] i (action-closes p f r.last ∙ ap (λ (z : Expr × List Waiting). close f (role_of (terminator p)) z) (r.same 1 (omega arith)) ∙ acted-behind p b (Evaluate e)) (behind-count p b (Evaluate e)) refl refl)
read_action (Assign op t e) xs s b p level x enters h i =
    let c = OfBody b (ToPerform p) in
    let m = behind b p (Assign op t e) in
    let left = read_target t h.1 c 0 h.3 in
    let n = count_after 0 h.1 in
    let right = read_ended (OfBody b (ToAssign op t p)) (suc n) h.2 e x (terminator p) m 0 h.5 i (action-closes p) (acted-behind p b (Assign op t e)) (behind-count p b (Assign op t e)) in
    let after : Runs (operator c n [] (expression_of t)) (full_after n (h.0 ∷ h.2) ++ outside x ∷ []) m =
    token (operator c n [] (expression_of t)) (operand (OfBody b (ToAssign op t p)) (suc n) []) m h.0 (kind.Punctuator (assignment_punctuator op)) (suc n) 0 (full_after (suc n) h.2 ++ outside x ∷ []) h.4 (assigns_to t b p n op) refl refl right in
    let grouped : full (h.1 ++ h.0 ∷ h.2) ++ outside x ∷ [] ≡ full h.1 ++ (full_after n (h.0 ∷ h.2) ++ outside x ∷ []) =
    ap (λ (z : List Measured). z ++ outside x ∷ []) (full_after-append 0 h.1 (h.0 ∷ h.2)) ∙ append_assoc (full h.1) (full_after n (h.0 ∷ h.2)) (outside x ∷ []) in
    subst (λ (z : List Lexeme). Runs s (begins level (full z ++ outside x ∷ [])) m) (sym h.6)
    (subst (λ (z : List Measured). Runs s (begins level z) m) (sym grouped) (enter h.1 s b p level n [] (expression_of t) (full_after n (h.0 ∷ h.2) ++ outside x ∷ []) m enters left.runs after))
read_action (Step op t) xs s b p level x enters (sign, target, marks, spelled, inl prefix) i =
    let m = behind b p (Step op t) in
    let after = read_stepped t op target b p x spelled i in
    let goes = step-begins op b p (name_of sign) in
    let r = punctuator_role (step_punctuator op) in
    subst (λ (z : List Lexeme). Runs s (begins level (full z ++ outside x ∷ [])) m) (sym prefix)
    (token s (InBody b (Stepping op p)) m sign (kind.Punctuator (step_punctuator op)) 1 level (full_after 1 target ++ outside x ∷ []) marks (enters.first r (name_of sign) (InBody b (Stepping op p)) goes) refl (enters.begun r (name_of sign) (InBody b (Stepping op p)) goes) after)
read_action (Step op t) xs s b p level x enters (sign, target, marks, spelled, inr back) i =
    let c = OfBody b (ToPerform p) in
    let m = behind b p (Step op t) in
    let left = read_target t target c 0 spelled in
    let n = count_after 0 target in
    let stepped = InBody b (Stepped op t p (suc n)) in
    let after : Runs (operator c n [] (expression_of t)) (full_after n (sign ∷ []) ++ outside x ∷ []) m =
    token (operator c n [] (expression_of t)) stepped m sign (kind.Punctuator (step_punctuator op)) (suc n) 0 (outside x ∷ []) marks (steps_to t b p n op) refl refl
    (token stepped m m x (terminator p) 0 0 [] i (acted-behind p b (Step op t)) (behind-count p b (Step op t)) refl refl) in
    let grouped : full (target ++ sign ∷ []) ++ outside x ∷ [] ≡ full target ++ (full_after n (sign ∷ []) ++ outside x ∷ []) =
    ap (λ (z : List Measured). z ++ outside x ∷ []) (full_after-append 0 target (sign ∷ [])) ∙ append_assoc (full target) (full_after n (sign ∷ [])) (outside x ∷ []) in
    subst (λ (z : List Lexeme). Runs s (begins level (full z ++ outside x ∷ [])) m) (sym back)
    (subst (λ (z : List Measured). Runs s (begins level z) m) (sym grouped) (enter target s b p level n [] (expression_of t) (full_after n (sign ∷ []) ++ outside x ∷ []) m enters left.runs after))
