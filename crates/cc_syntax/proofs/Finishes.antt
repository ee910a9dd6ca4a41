-- From every state some tokens lead to the end of a unit: an operand if one is missing, what closes each part that is open, an
-- empty statement for the part of an `if` or a loop, and a closing brace for each block.
use Rattle.std.proofs.Common.{◌≡◌, ℕ, Bool, true, false, suc, List, [], ◌∷◌, ◌++◌, Option, Some, None, refl, ap, ◌∙◌, arith}
use Rattle.cc_tokens.specs.declared.scalar.Scalar.{Scalar}
use Rattle.cc_tokens.specs.declared.scalar.Scalar.TheVariants as scalar
use Rattle.cc_tokens.specs.declared.token.Keyword.TheVariants as keyword
use Rattle.cc_ast.specs.declared.ast.StepOperator.{StepOperator}
use Rattle.cc_tokens.specs.declared.token.Punctuator.{Punctuator}
use Rattle.cc_tokens.specs.declared.token.Punctuator.TheVariants as punctuator
use Rattle.cc_tokens.specs.declared.token.TokenKind.{TokenKind}
use Rattle.cc_tokens.specs.declared.token.TokenKind.TheVariants as kind
use Rattle.cc_tokens.specs.Token.{Lexeme}
use Rattle.cc_ast.specs.Tree.{Name, Expr, Number, Element, Call, Parenthesised, Unary, Cast, Binary, Conditional, Target, AtVariable, AtElement, Action, Assign, Step, Evaluate, Declarator, Beginning, Declares, Performs, Stmt, Block, Local, Perform, Return, If, IfElse, While, DoWhile, For, ConstantExpr, Signature, Object, Single, External, Declaration, Definition, Objects}
use Rattle.cc_syntax.specs.declared.parser.state.ObjectKind.{ObjectKind}
use Rattle.cc_syntax.specs.internal.Roles.{role_of}
use Rattle.cc_ast.specs.Grammar.{Measured, precedence}
use Rattle.cc_syntax.specs.internal.Parser.{State, AtFile, InBody, InFull, Inside, Stage, Item, AfterThen, AfterDo, Testing, Ending, Returning, ForOpening, ForStarting, ForTesting, ForStepping, LocalSign, Declaring, HasDeclared, Stepping, StepNamed, Stepped, Outer, Between, ResultSign, Typed, Named, Parameters, OnlyVoid, ParameterNext, ParameterSign, ParameterTyped, ParameterNamed, Headed, ObjectNext, ObjectNamed, Sizing, Sized, Initialising, Listing, Valuing, Listed, Phase, Operand, Operator, CastSign, CastType, Full, Context, OfBody, OfObject, Purpose, ToPerform, ToAssign, ToStep, ToReturn, ToTest, ToGoOn, ToInitialise, ForIf, ForWhile, ForDo, Position, AsLocal, AsHeader, Spot, AsStatement, AsStart, AsLast, Part, ToSize, ToSingle, ToValue, Naming, Open, InBlock, InThen, InElse, InWhile, InDo, InFor, Waiting, Parenthesis, Index, Arguments, Prefix, Casting, Infix, Then, Otherwise, in_body, settled, close_block, with_last, full_of, reduced, close, end_full, with_argument, array_of, scalar_of, with_object, with_parameter, constant, declared, step, standing}
use Rattle.cc_syntax.proofs.ParserRuns.{Runs}
use Rattle.cc_syntax.proofs.Forms.{operand, operator, pops}
use Rattle.cc_syntax.proofs.Settles.{within}
use Rattle.cc_syntax.proofs.ReadsExpression.{precedence-within}
use Rattle.cc_syntax.proofs.ReadsAction.{Closes, terminator, behind, acted-behind, action-closes, named-ends}
use Rattle.cc_syntax.proofs.ReadsDeclaration.{declared_state, declares-state}

-- a unit has at least one external declaration
abbrev pub IsUnit : List External → Type 0
IsUnit [] = ⊥
IsUnit (e ∷ es) = Unit {0}

-- some tokens lead from the state to the end of a unit
pub record Finishes (s : State) : Type 0 where
  pub rest : List Measured
  pub tree : List External
  pub unit : IsUnit tree
  pub runs : Runs s rest (AtFile tree Between)

-- a token of this kind
abbrev of : TokenKind → Lexeme
of k = record { kind = k; text = []; at = 0 }

abbrev mark : Punctuator → TokenKind
mark p = kind.Punctuator p

-- if a unit can be finished after one more token, it can be finished before that token
by : (s m : State) (k : TokenKind) → step s (of k) ≡ Some m → Finishes m → Finishes s
by s m k h f = record { rest = standing s (of k) m ∷ f.rest; tree = f.tree; unit = f.unit; runs = (m, h, refl, refl, f.runs) }

-- at file scope

abbrev nameless : Name
nameless = record { text = []; at = 0 }

finished : (es : List External) (e : External) → Finishes (AtFile (es ++ e ∷ []) Between)
finished es e = record { rest = []; tree = es ++ e ∷ []; unit = some es; runs = refl }
  where
    some : (es : List External) → IsUnit (es ++ e ∷ [])
    some [] = tt
    some (u ∷ us) = tt

finish_listed : (es : List External) (t : ObjectKind) (os : List Object) → Finishes (AtFile es (Listed t os))
finish_listed es t os = by _ (AtFile (es ++ Objects (scalar_of t) os ∷ []) Between) (mark punctuator.Semicolon) refl (finished es (Objects (scalar_of t) os))

finish_sized : (es : List External) (n : Naming) (size : Option ConstantExpr) → Finishes (AtFile es (Sized n size))
finish_sized es n size =
    let o = Objects (scalar_of n.kind) (with_object n (array_of n.kind n.name size [])) in
    by _ (AtFile (es ++ o ∷ []) Between) (mark punctuator.Semicolon) refl (finished es o)

-- an array can end a declaration of any kind; for `unsigned char` nothing else can
finish_named : (es : List External) (n : Naming) → Finishes (AtFile es (ObjectNamed n))
finish_named es n = by _ (AtFile es (Sizing n)) (mark punctuator.OpenBracket) refl (by _ (AtFile es (Sized n None)) (mark punctuator.CloseBracket) refl (finish_sized es n None))

finish_next : (es : List External) (t : ObjectKind) (os : List Object) → Finishes (AtFile es (ObjectNext t os))
finish_next es t os =
    let n : Naming = record { kind = t; objects = os; name = nameless } in
    by _ (AtFile es (ObjectNamed n)) kind.Identifier refl (finish_named es n)

finish_headed : (es : List External) (f : Signature) → Finishes (AtFile es (Headed f))
finish_headed es f = by _ (AtFile (es ++ Declaration f ∷ []) Between) (mark punctuator.Semicolon) refl (finished es (Declaration f))

finish_parameter : (es : List External) (f : Signature) → Finishes (AtFile es (ParameterNamed f))
finish_parameter es f = by _ (AtFile es (Headed f)) (mark punctuator.CloseParenthesis) refl (finish_headed es f)

finish_parameter_typed : (es : List External) (f : Signature) (t : Scalar) → Finishes (AtFile es (ParameterTyped f t))
finish_parameter_typed es f t =
    by _ (AtFile es (Headed (with_parameter f t None))) (mark punctuator.CloseParenthesis) refl (finish_headed es (with_parameter f t None))

finish_parameters : (es : List External) (f : Signature) → Finishes (AtFile es (Parameters f))
finish_parameters es f = by _ (AtFile es (Headed f)) (mark punctuator.CloseParenthesis) refl (finish_headed es f)

finish_first : (es : List External) (t : Option Scalar) (n : Name) → Finishes (AtFile es (Named t n))
finish_first es None n = by _ (AtFile es (Parameters (record { result = None; name = n; parameters = [] }))) (mark punctuator.OpenParenthesis) refl (finish_parameters es (record { result = None; name = n; parameters = [] }))
finish_first es (Some t) n = by _ (AtFile es (Parameters (record { result = Some t; name = n; parameters = [] }))) (mark punctuator.OpenParenthesis) refl (finish_parameters es (record { result = Some t; name = n; parameters = [] }))

finish_typed : (es : List External) (t : Option Scalar) → Finishes (AtFile es (Typed t))
finish_typed es t = by _ (AtFile es (Named t nameless)) kind.Identifier refl (finish_first es t nameless)

finish_between : (es : List External) → Finishes (AtFile es Between)
finish_between [] = by _ (AtFile [] (Typed (Some scalar.Int))) (kind.Keyword keyword.Int) refl (finish_typed [] (Some scalar.Int))
finish_between (e ∷ es) = record { rest = []; tree = e ∷ es; unit = tt; runs = refl }

-- statements

finish_top : (b : Inside) → b.opened ≡ [] → Finishes (InBody b Item)
finish_top b h =
    let e = Definition b.signature b.finished in
    by _ (AtFile (b.externals ++ e ∷ []) Between) (mark punctuator.CloseBrace) (ap (λ (os : List Open). close_block b os) h) (finished b.externals e)

abbrev zero_of : Expr
zero_of = Number scalar.Int 0

-- a unit can be finished after a complete statement, by induction on the open statements
finish_settled : (os : List Open) (w : Bool) (b : Inside) (s : Stmt) → Finishes (in_body (settled w b os s))
finish_settled [] w b s = finish_top (record { externals = b.externals; signature = b.signature; finished = with_last b.finished s; opened = [] }) refl
finish_settled (InBlock ss ∷ os) w b s =
    let inner = within b (InBlock (with_last ss s) ∷ os) in
    by _ (in_body (settled true (within b os) os (Block (with_last ss s)))) (mark punctuator.CloseBrace) refl (finish_settled os true (within b os) (Block (with_last ss s)))
finish_settled (InThen e ∷ os) true b s =
    let other = within b (InElse e s ∷ os) in
    by _ (InBody other Item) (kind.Keyword keyword.Else) refl
    (by _ (in_body (settled true other os (IfElse e s (Perform None)))) (mark punctuator.Semicolon) refl (finish_settled os true other (IfElse e s (Perform None))))
finish_settled (InThen e ∷ os) false b s = finish_settled os false b (If e s)
finish_settled (InElse e t ∷ os) w b s = finish_settled os w b (IfElse e t s)
finish_settled (InWhile e ∷ os) w b s = finish_settled os w b (While e s)
finish_settled (InDo ∷ os) w b s =
    let c = within b os in
    let k = OfBody c (ToTest (ForDo s)) in
    by _ (InBody c (Testing (ForDo s))) (kind.Keyword keyword.While) refl
    (by _ (operand k 0 []) (mark punctuator.OpenParenthesis) refl
    (by _ (operator k 1 [] zero_of) (kind.Number scalar.Int 0) refl
    (by _ (InBody c (Ending (DoWhile s zero_of))) (mark punctuator.CloseParenthesis) refl
    (by _ (in_body (settled true c os (DoWhile s zero_of))) (mark punctuator.Semicolon) refl (finish_settled os true c (DoWhile s zero_of))))))
finish_settled (InFor a e l ∷ os) w b s = finish_settled os w b (For a e l s)

finish_item : (b : Inside) → Finishes (InBody b Item)
finish_item b = by _ (in_body (settled true b b.opened (Perform None))) (mark punctuator.Semicolon) refl (finish_settled b.opened true b (Perform None))

finish_ending : (b : Inside) (s : Stmt) → Finishes (InBody b (Ending s))
finish_ending b s = by _ (in_body (settled true b b.opened s)) (mark punctuator.Semicolon) refl (finish_settled b.opened true b s)

finish_stepping_for : (b : Inside) (a : Beginning) (e : Option Expr) → Finishes (InBody b (ForStepping a e))
finish_stepping_for b a e = by _ (InBody (within b (InFor a e None ∷ b.opened)) Item) (mark punctuator.CloseParenthesis) refl (finish_item (within b (InFor a e None ∷ b.opened)))

finish_testing_for : (b : Inside) (a : Beginning) → Finishes (InBody b (ForTesting a))
finish_testing_for b a = by _ (InBody b (ForStepping a None)) (mark punctuator.Semicolon) refl (finish_stepping_for b a None)

finish_behind : (p : Spot) (b : Inside) (a : Action) → Finishes (behind b p a)
finish_behind AsStatement b a = finish_settled b.opened true b (Perform (Some a))
finish_behind AsStart b a = finish_testing_for b (Performs (Some a))
finish_behind (AsLast s e) b a = finish_item (within b (InFor s e (Some a) ∷ b.opened))

finish_declared : (b : Inside) (w : Position) (t : Scalar) (ds : List Declarator) → Finishes (declared_state b w t ds)
finish_declared b AsLocal t ds = finish_settled b.opened true b (Local t ds)
finish_declared b AsHeader t ds = finish_testing_for b (Declares t ds)

finish_has : (b : Inside) (w : Position) (t : Scalar) (ds : List Declarator) (n : Name) → Finishes (InBody b (HasDeclared w t ds n))
finish_has b w t ds n =
    by _ (declared_state b w t (ds ++ declared n None ∷ [])) (mark punctuator.Semicolon) (declares-state b w t (ds ++ declared n None ∷ [])) (finish_declared b w t (ds ++ declared n None ∷ []))

finish_stepped : (b : Inside) (op : StepOperator) (t : Target) (p : Spot) (k : ℕ) → Finishes (InBody b (Stepped op t p k))
finish_stepped b op t p k = by _ (behind b p (Step op t)) (terminator p) (acted-behind p b (Step op t)) (finish_behind p b (Step op t))

-- full expressions

-- a token that ends the whole full expression, and the state after that token
record EndsWhole (c : Context) (n : ℕ) (e : Expr) : Type 0 where
  last : TokenKind
  after : State
  closes : Closes last
  goes : end_full c n e (role_of last) ≡ Some after
  finishes : Finishes after

ends_body : (p : Purpose) (b : Inside) (n : ℕ) (e : Expr) → EndsWhole (OfBody b p) n e
ends_body (ToPerform p) b n e = record { last = terminator p; after = behind b p (Evaluate e); closes = action-closes p; goes = acted-behind p b (Evaluate e); finishes = finish_behind p b (Evaluate e) }
ends_body (ToAssign op t p) b n e = record { last = terminator p; after = behind b p (Assign op t e); closes = action-closes p; goes = acted-behind p b (Assign op t e); finishes = finish_behind p b (Assign op t e) }
ends_body (ToStep op v p) b n e = record { last = mark punctuator.CloseBracket; after = InBody b (Stepped op (AtElement v e) p (suc n)); closes = λ f z. refl; goes = refl; finishes = finish_stepped b op (AtElement v e) p (suc n) }
ends_body (ToReturn at) b n e = record { last = mark punctuator.Semicolon; after = in_body (settled true b b.opened (Return at (Some e))); closes = λ f z. refl; goes = refl; finishes = finish_settled b.opened true b (Return at (Some e)) }
ends_body (ToTest ForIf) b n e = record { last = mark punctuator.CloseParenthesis; after = InBody (within b (InThen e ∷ b.opened)) Item; closes = λ f z. refl; goes = refl; finishes = finish_item (within b (InThen e ∷ b.opened)) }
ends_body (ToTest ForWhile) b n e = record { last = mark punctuator.CloseParenthesis; after = InBody (within b (InWhile e ∷ b.opened)) Item; closes = λ f z. refl; goes = refl; finishes = finish_item (within b (InWhile e ∷ b.opened)) }
ends_body (ToTest (ForDo s)) b n e = record { last = mark punctuator.CloseParenthesis; after = InBody b (Ending (DoWhile s e)); closes = λ f z. refl; goes = refl; finishes = finish_ending b (DoWhile s e) }
ends_body (ToGoOn a) b n e = record { last = mark punctuator.Semicolon; after = InBody b (ForStepping a (Some e)); closes = λ f z. refl; goes = refl; finishes = finish_stepping_for b a (Some e) }
ends_body (ToInitialise w t ds v) b n e = record { last = mark punctuator.Semicolon; after = declared_state b w t (ds ++ declared v (Some e) ∷ []); closes = λ f z. refl; goes = declares-state b w t (ds ++ declared v (Some e) ∷ []); finishes = finish_declared b w t (ds ++ declared v (Some e) ∷ []) }

ends_object : (p : Part) (es : List External) (v : Naming) (n : ℕ) (e : Expr) → EndsWhole (OfObject es v p) n e
ends_object (ToSize at) es v n e = record { last = mark punctuator.CloseBracket; after = AtFile es (Sized v (Some (constant at e))); closes = λ f z. refl; goes = refl; finishes = finish_sized es v (Some (constant at e)) }
ends_object (ToSingle at) es v n e =
    let o = Objects (scalar_of v.kind) (with_object v (Single v.name (Some (constant at e)))) in
    record { last = mark punctuator.Semicolon; after = AtFile (es ++ o ∷ []) Between; closes = λ f z. refl; goes = refl; finishes = finished es o }
ends_object (ToValue size vs at) es v n e =
    let os = with_object v (array_of v.kind v.name size (vs ++ constant at e ∷ [])) in
    record { last = mark punctuator.CloseBrace; after = AtFile es (Listed v.kind os); closes = λ f z. refl; goes = refl; finishes = finish_listed es v.kind os }

ends_whole : (c : Context) (n : ℕ) (e : Expr) → EndsWhole c n e
ends_whole (OfBody b p) n e = ends_body p b n e
ends_whole (OfObject es v p) n e = ends_object p es v n e

-- a token that closes a pending part, or ends the whole expression
record Ends (c : Context) (n : ℕ) (ws : List Waiting) (e : Expr) : Type 0 where
  last : TokenKind
  after : State
  closes : Closes last
  goes : (us : List Waiting) → close (full_of c us n) (role_of last) (reduced 1 ws e) ≡ Some after
  finishes : Finishes after

end_token : (c : Context) (n : ℕ) (ws : List Waiting) (e : Expr) → Ends c n ws e → Finishes (operator c n ws e)
end_token c n ws e h = by _ h.after h.last (h.closes (full_of c ws n) e ∙ h.goes ws) h.finishes

-- a token that ends an expression also ends one that reduces to the same expression
earlier : (c : Context) (n : ℕ) (ws us : List Waiting) (e d : Expr) → reduced 1 us d ≡ reduced 1 ws e → Ends c n ws e → Ends c n us d
earlier c n ws us e d same h =
    record { last = h.last; after = h.after; closes = h.closes; goes = λ vs. ap (λ (r : Expr × List Waiting). close (full_of c vs n) (role_of h.last) r) same ∙ h.goes vs; finishes = h.finishes }

ends : (ws : List Waiting) (c : Context) (n : ℕ) (e : Expr) → Ends c n ws e
ends [] c n e = let w = ends_whole c n e in record { last = w.last; after = w.after; closes = w.closes; goes = λ us. w.goes; finishes = w.finishes }
ends (Parenthesis ∷ ws) c n e =
    record { last = mark punctuator.CloseParenthesis; after = operator c (suc n) ws (Parenthesised e); closes = λ f z. refl; goes = λ us. refl; finishes = end_token c (suc n) ws (Parenthesised e) (ends ws c (suc n) (Parenthesised e)) }
ends (Index v ∷ ws) c n e =
    record { last = mark punctuator.CloseBracket; after = operator c (suc n) ws (Element v e); closes = λ f z. refl; goes = λ us. refl; finishes = end_token c (suc n) ws (Element v e) (ends ws c (suc n) (Element v e)) }
ends (Arguments v us ∷ ws) c n e =
    let call = Call v (with_argument us e) in
    record { last = mark punctuator.CloseParenthesis; after = operator c (suc n) ws call; closes = λ f z. refl; goes = λ us. refl; finishes = end_token c (suc n) ws call (ends ws c (suc n) call) }
ends (Then t ∷ ws) c n e =
    let d = Conditional t e zero_of in
    let last = Otherwise t e ∷ ws in
    let whole : Ends c (suc (suc n)) last zero_of = earlier c (suc (suc n)) ws last d zero_of refl (ends ws c (suc (suc n)) d) in
    record {
      last = mark punctuator.Colon;
      after = operand c (suc n) last;
      closes = λ f z. refl;
      goes = λ us. refl;
      finishes = by _ (operator c (suc (suc n)) last zero_of) (kind.Number scalar.Int 0) refl (end_token c (suc (suc n)) last zero_of whole);
    }
ends (Prefix op ∷ ws) c n e = earlier c n ws (Prefix op ∷ ws) (Unary op e) e refl (ends ws c n (Unary op e))
ends (Casting t ∷ ws) c n e = earlier c n ws (Casting t ∷ ws) (Cast t e) e refl (ends ws c n (Cast t e))
ends (Infix op a ∷ ws) c n e = let range = precedence-within op in earlier c n ws (Infix op a ∷ ws) (Binary op a e) e (pops 1 (precedence op) _ _ (omega (arith, range.0))) (ends ws c n (Binary op a e))
ends (Otherwise t a ∷ ws) c n e = earlier c n ws (Otherwise t a ∷ ws) (Conditional t a e) e refl (ends ws c n (Conditional t a e))

finish_operator : (c : Context) (n : ℕ) (ws : List Waiting) (e : Expr) → Finishes (operator c n ws e)
finish_operator c n ws e = end_token c n ws e (ends ws c n e)

finish_operand : (c : Context) (n : ℕ) (ws : List Waiting) → Finishes (operand c n ws)
finish_operand c n ws = by _ (operator c (suc n) ws zero_of) (kind.Number scalar.Int 0) refl (finish_operator c (suc n) ws zero_of)

finish_cast : (f : Full) (t : Scalar) → Finishes (InFull f (CastType t))
finish_cast f t = by _ (operand f.context (suc f.count) (Casting t ∷ f.waiting)) (mark punctuator.CloseParenthesis) refl (finish_operand f.context (suc f.count) (Casting t ∷ f.waiting))

finish_full : (p : Phase) (f : Full) → Finishes (InFull f p)
finish_full Operand f = finish_operand f.context f.count f.waiting
finish_full (Operator e) f = finish_operator f.context f.count f.waiting e
finish_full (CastSign t) f = by _ (operand f.context (suc f.count) (Casting t ∷ f.waiting)) (mark punctuator.CloseParenthesis) refl (finish_operand f.context (suc f.count) (Casting t ∷ f.waiting))
finish_full (CastType t) f = finish_cast f t

-- all states

finish_stage : (s : Stage) (b : Inside) → Finishes (InBody b s)
finish_stage Item b = finish_item b
finish_stage (AfterThen e s) b = by _ (InBody (within b (InElse e s ∷ b.opened)) Item) (kind.Keyword keyword.Else) refl (finish_item (within b (InElse e s ∷ b.opened)))
finish_stage (AfterDo s) b = by _ (InBody b (Testing (ForDo s))) (kind.Keyword keyword.While) refl (by _ (operand (OfBody b (ToTest (ForDo s))) 0 []) (mark punctuator.OpenParenthesis) refl (finish_operand (OfBody b (ToTest (ForDo s))) 0 []))
finish_stage (Testing t) b = by _ (operand (OfBody b (ToTest t)) 0 []) (mark punctuator.OpenParenthesis) refl (finish_operand (OfBody b (ToTest t)) 0 [])
finish_stage (Ending s) b = finish_ending b s
finish_stage (Returning at) b = by _ (in_body (settled true b b.opened (Return at None))) (mark punctuator.Semicolon) refl (finish_settled b.opened true b (Return at None))
finish_stage ForOpening b = by _ (InBody b ForStarting) (mark punctuator.OpenParenthesis) refl (by _ (InBody b (ForTesting (Performs None))) (mark punctuator.Semicolon) refl (finish_testing_for b (Performs None)))
finish_stage ForStarting b = by _ (InBody b (ForTesting (Performs None))) (mark punctuator.Semicolon) refl (finish_testing_for b (Performs None))
finish_stage (ForTesting a) b = finish_testing_for b a
finish_stage (ForStepping a e) b = finish_stepping_for b a e
finish_stage (LocalSign w t) b = by _ (InBody b (HasDeclared w t [] nameless)) kind.Identifier refl (finish_has b w t [] nameless)
finish_stage (Declaring w t ds) b = by _ (InBody b (HasDeclared w t ds nameless)) kind.Identifier refl (finish_has b w t ds nameless)
finish_stage (HasDeclared w t ds n) b = finish_has b w t ds n
finish_stage (Stepping op p) b = by _ (InBody b (StepNamed op nameless p)) kind.Identifier refl (by _ (behind b p (Step op (AtVariable nameless))) (terminator p) (named-ends p b op nameless nameless ∙ acted-behind p b (Step op (AtVariable nameless))) (finish_behind p b (Step op (AtVariable nameless))))
finish_stage (StepNamed op n p) b = by _ (behind b p (Step op (AtVariable n))) (terminator p) (named-ends p b op n nameless ∙ acted-behind p b (Step op (AtVariable n))) (finish_behind p b (Step op (AtVariable n)))
finish_stage (Stepped op t p k) b = finish_stepped b op t p k

finish_outer : (o : Outer) (es : List External) → Finishes (AtFile es o)
finish_outer Between es = finish_between es
finish_outer (ResultSign t) es = by _ (AtFile es (Named (Some t) nameless)) kind.Identifier refl (finish_first es (Some t) nameless)
finish_outer (Typed t) es = finish_typed es t
finish_outer (Named t n) es = finish_first es t n
finish_outer (Parameters f) es = finish_parameters es f
finish_outer (OnlyVoid f) es = by _ (AtFile es (Headed f)) (mark punctuator.CloseParenthesis) refl (finish_headed es f)
finish_outer (ParameterNext f) es = by _ (AtFile es (ParameterTyped f scalar.Int)) (kind.Keyword keyword.Int) refl (finish_parameter_typed es f scalar.Int)
finish_outer (ParameterSign f t) es = by _ (AtFile es (Headed (with_parameter f t None))) (mark punctuator.CloseParenthesis) refl (finish_headed es (with_parameter f t None))
finish_outer (ParameterTyped f t) es = finish_parameter_typed es f t
finish_outer (ParameterNamed f) es = finish_parameter es f
finish_outer (Headed f) es = finish_headed es f
finish_outer (ObjectNext t os) es = finish_next es t os
finish_outer (ObjectNamed n) es = finish_named es n
finish_outer (Sizing n) es = by _ (AtFile es (Sized n None)) (mark punctuator.CloseBracket) refl (finish_sized es n None)
finish_outer (Sized n size) es = finish_sized es n size
finish_outer (Initialising n) es = by _ (operator (OfObject es n (ToSingle 0)) 1 [] zero_of) (kind.Number scalar.Int 0) refl (finish_operator (OfObject es n (ToSingle 0)) 1 [] zero_of)
finish_outer (Listing n size) es = by _ (AtFile es (Valuing n size [])) (mark punctuator.OpenBrace) refl (by _ (operator (OfObject es n (ToValue size [] 0)) 1 [] zero_of) (kind.Number scalar.Int 0) refl (finish_operator (OfObject es n (ToValue size [] 0)) 1 [] zero_of))
finish_outer (Valuing n size vs) es = by _ (operator (OfObject es n (ToValue size vs 0)) 1 [] zero_of) (kind.Number scalar.Int 0) refl (finish_operator (OfObject es n (ToValue size vs 0)) 1 [] zero_of)
finish_outer (Listed t os) es = finish_listed es t os

-- some tokens lead from the state to the end of a unit
pub finishes : (s : State) → Finishes s
finishes (AtFile es o) = finish_outer o es
finishes (InBody b s) = finish_stage s b
finishes (InFull f p) = finish_full p f
