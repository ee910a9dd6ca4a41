-- What the parser's private functions compute, token by token. No public contract cites this file; proofs/ shows that it agrees
-- with Grammar and Limits, which the contract of `parse` uses. A gloss that names a token is about the step at that token.
use Rattle.std.specs.Prelude.{ℕ, suc, Bool, true, false, ◌&&◌, List, [], ◌∷◌, ◌++◌, length, Option, Some, None, is_some, nat_le, if◌then◌else◌}
use Rattle.cc_tokens.specs.declared.scalar.Scalar.{Scalar}
use Rattle.cc_tokens.specs.declared.scalar.Scalar.TheVariants as scalar
use Rattle.cc_ast.specs.declared.ast.UnaryOperator.{UnaryOperator}
use Rattle.cc_ast.specs.declared.ast.UnaryOperator.TheVariants as unary
use Rattle.cc_ast.specs.declared.ast.BinaryOperator.{BinaryOperator}
use Rattle.cc_ast.specs.declared.ast.BinaryOperator.TheVariants as binary
use Rattle.cc_ast.specs.declared.ast.AssignmentOperator.{AssignmentOperator}
use Rattle.cc_ast.specs.declared.ast.AssignmentOperator.TheVariants as assignment
use Rattle.cc_ast.specs.declared.ast.StepOperator.{StepOperator}
use Rattle.cc_syntax.specs.declared.parser.role.Role.{Role}
use Rattle.cc_syntax.specs.declared.parser.role.Role.TheVariants as role
use Rattle.cc_syntax.specs.declared.parser.state.ObjectKind.{ObjectKind}
use Rattle.cc_syntax.specs.declared.parser.state.ObjectKind.TheVariants.{Words, Bytes}
use Rattle.cc_syntax.specs.internal.Roles.{role_of}
use Rattle.cc_tokens.specs.Token.{Lexeme}
use Rattle.cc_ast.specs.Tree.{Name, Expr, Number, Variable, Element, Call, Parenthesised, Unary, Cast, Binary, Conditional, Exprs, none, more, Target, AtVariable, AtElement, Action, Assign, Step, Evaluate, Declarator, Beginning, Declares, Performs, Stmt, Block, Local, Perform, Return, Break, Continue, If, IfElse, While, DoWhile, For, Stmts, end, next, ConstantExpr, Parameter, Signature, Object, Single, Array, Bytes as ByteArray, External, Declaration, Definition, Objects}
use Rattle.cc_ast.specs.Grammar.{Measured, precedence}

-- a pending part of an expression: it awaits an operand on its right, or a closing token
pub data Waiting : Type 0 where
  Parenthesis : Waiting
  Index : Name → Waiting
  Arguments : Name → Exprs → Waiting
  Prefix : UnaryOperator → Waiting
  Casting : Scalar → Waiting
  Infix : BinaryOperator → Expr → Waiting
  Then : Expr → Waiting
  Otherwise : Expr → Expr → Waiting

-- a statement that has begun and is not complete
pub data Open : Type 0 where
  InBlock : Stmts → Open
  InThen : Expr → Open
  InElse : Expr → Stmt → Open
  InWhile : Expr → Open
  InDo : Open
  InFor : Beginning → Option Expr → Option Action → Open

-- a function's body so far: the external declarations before it, its head, its finished statements, and its open statements with
-- the innermost first
pub record Inside : Type 0 where
  pub externals : List External
  pub signature : Signature
  pub finished : Stmts
  pub opened : List Open

-- what an action is: a statement, or the first or the last part of a `for` header
pub data Spot : Type 0 where
  AsStatement : Spot
  AsStart : Spot
  AsLast : Beginning → Option Expr → Spot

-- what a condition in parentheses belongs to
pub data Test : Type 0 where
  ForIf : Test
  ForWhile : Test
  ForDo : Stmt → Test

-- what a declaration of locals belongs to: a block directly, or a `for` header
pub data Position : Type 0 where
  AsLocal : Position
  AsHeader : Position

-- what a full expression in a function's body is a part of
pub data Purpose : Type 0 where
  ToPerform : Spot → Purpose
  ToAssign : AssignmentOperator → Target → Spot → Purpose
  ToStep : StepOperator → Name → Spot → Purpose
  ToReturn : ℕ → Purpose
  ToTest : Test → Purpose
  ToGoOn : Beginning → Purpose
  ToInitialise : Position → Scalar → List Declarator → Name → Purpose

-- a declaration of objects so far: the kind of their elements, the complete objects, and a name
pub record Naming : Type 0 where
  pub kind : ObjectKind
  pub objects : List Object
  pub name : Name

-- what a constant expression is used for in the named object, and the offset of the expression's first token
pub data Part : Type 0 where
  ToSize : ℕ → Part
  ToSingle : ℕ → Part
  ToValue : Option ConstantExpr → List ConstantExpr → ℕ → Part

-- what a full expression is a part of
pub data Context : Type 0 where
  OfBody : Inside → Purpose → Context
  OfObject : List External → Naming → Part → Context

-- a full expression so far: what it is a part of, its pending parts with the latest first, and how many tokens it has
pub record Full : Type 0 where
  pub context : Context
  pub waiting : List Waiting
  pub count : ℕ

-- what comes next in a full expression: an operand, what follows an operand, or `int` or the end of a cast's type
pub data Phase : Type 0 where
  Operand : Phase
  Operator : Expr → Phase
  CastSign : Scalar → Phase
  CastType : Scalar → Phase

-- what comes next in a function's body, outside full expressions
pub data Stage : Type 0 where
  Item : Stage
  AfterThen : Expr → Stmt → Stage
  AfterDo : Stmt → Stage
  Testing : Test → Stage
  Ending : Stmt → Stage
  Returning : ℕ → Stage
  ForOpening : Stage
  ForStarting : Stage
  ForTesting : Beginning → Stage
  ForStepping : Beginning → Option Expr → Stage
  LocalSign : Position → Scalar → Stage
  Declaring : Position → Scalar → List Declarator → Stage
  HasDeclared : Position → Scalar → List Declarator → Name → Stage
  Stepping : StepOperator → Spot → Stage
  StepNamed : StepOperator → Name → Spot → Stage
  Stepped : StepOperator → Target → Spot → ℕ → Stage

-- what comes next at file scope
pub data Outer : Type 0 where
  Between : Outer
  ResultSign : Scalar → Outer
  Typed : Option Scalar → Outer
  Named : Option Scalar → Name → Outer
  Parameters : Signature → Outer
  OnlyVoid : Signature → Outer
  ParameterNext : Signature → Outer
  ParameterSign : Signature → Scalar → Outer
  ParameterTyped : Signature → Scalar → Outer
  ParameterNamed : Signature → Outer
  Headed : Signature → Outer
  ObjectNext : ObjectKind → List Object → Outer
  ObjectNamed : Naming → Outer
  Sizing : Naming → Outer
  Sized : Naming → Option ConstantExpr → Outer
  Initialising : Naming → Outer
  Listing : Naming → Option ConstantExpr → Outer
  Valuing : Naming → Option ConstantExpr → List ConstantExpr → Outer
  Listed : ObjectKind → List Object → Outer

-- the parser's state between two tokens; at file scope it contains the complete external declarations
pub data State : Type 0 where
  AtFile : List External → Outer → State
  InBody : Inside → Stage → State
  InFull : Full → Phase → State

-- the name in an identifier's token
abbrev pub name_of : Lexeme → Name
name_of x = record { text = x.text; at = x.at }

-- a list with one more statement at the end
abbrev pub with_last : Stmts → Stmt → Stmts
with_last end s = next s end
with_last (next first others) s = next first (with_last others s)

abbrev pub with_argument : Exprs → Expr → Exprs
with_argument none e = more e none
with_argument (more first others) e = more first (with_argument others e)

-- how tightly a pending part binds its operand, if an operator follows
abbrev pub tightness : Waiting → ℕ
tightness (Prefix op) = 12
tightness (Casting t) = 12
tightness (Infix op e) = precedence op
tightness (Otherwise c a) = 1
tightness _ = 0

-- a pending part with its operand
abbrev pub completed : Waiting → Expr → Expr
completed Parenthesis e = Parenthesised e
completed (Index n) e = Element n e
completed (Arguments n es) e = Call n (with_argument es e)
completed (Prefix op) e = Unary op e
completed (Casting t) e = Cast t e
completed (Infix op a) e = Binary op a e
completed (Then c) e = e
completed (Otherwise c a) e = Conditional c a e

-- the expression that precedes an operator of this level, and the parts that stay pending
abbrev pub reduced : ℕ → List Waiting → Expr → Expr × List Waiting
reduced level [] e = (e, [])
reduced level (w ∷ ws) e = if nat_le level (tightness w) then reduced level ws (completed w e) else (e, w ∷ ws)

abbrev pub full_of : Context → List Waiting → ℕ → Full
full_of c ws n = record { context = c; waiting = ws; count = n }

-- the state after one more token of a full expression
abbrev pub goes_on : Full → List Waiting → Phase → Option State
goes_on f ws p = Some (InFull (full_of f.context ws (suc f.count)) p)

-- the state in which a full expression begins, after its first `n` tokens
abbrev pub begins_full : Context → ℕ → Option State
begins_full c n = Some (InFull (full_of c [] n) Operand)

abbrev pub inside_of : Inside → Stmts → List Open → Inside
inside_of b done os = record { externals = b.externals; signature = b.signature; finished = done; opened = os }

-- The body once a statement is complete, and what comes next. The statement completes the loops that await it, and goes into the innermost
-- block. If `waits` is true and the statement is the first part of an `if`, the next token decides whether the `if` is complete.
abbrev pub settled : Bool → Inside → List Open → Stmt → Inside × Stage
settled waits b [] s = (inside_of b (with_last b.finished s) [], Item)
settled waits b (InBlock ss ∷ os) s = (inside_of b b.finished (InBlock (with_last ss s) ∷ os), Item)
settled true b (InThen e ∷ os) s = (inside_of b b.finished os, AfterThen e s)
settled false b (InThen e ∷ os) s = settled false b os (If e s)
settled waits b (InElse e t ∷ os) s = settled waits b os (IfElse e t s)
settled waits b (InWhile e ∷ os) s = settled waits b os (While e s)
settled waits b (InDo ∷ os) s = (inside_of b b.finished os, AfterDo s)
settled waits b (InFor a e l ∷ os) s = settled waits b os (For a e l s)

abbrev pub in_body : Inside × Stage → State
in_body r = InBody r.0 r.1

abbrev pub settle : Inside → Stmt → Option State
settle b s = Some (in_body (settled true b b.opened s))

-- the state after one more statement has begun
abbrev pub opens : Inside → Open → Option State
opens b o = Some (InBody (inside_of b b.finished (o ∷ b.opened)) Item)

-- the state after a declaration of locals
abbrev pub declares : Inside → Position → Scalar → List Declarator → Option State
declares b AsLocal t ds = settle b (Local t ds)
declares b AsHeader t ds = Some (InBody b (ForTesting (Declares t ds)))

-- the token after an action
abbrev pub acted : Inside → Spot → Action → Role → Option State
acted b AsStatement a role.Semicolon = settle b (Perform (Some a))
acted b AsStart a role.Semicolon = Some (InBody b (ForTesting (Performs (Some a))))
acted b (AsLast s e) a role.CloseParenthesis = opens b (InFor s e (Some a))
acted b _ a _ = None

-- the closing parenthesis of a condition
abbrev pub tested : Inside → Test → Expr → Option State
tested b ForIf e = opens b (InThen e)
tested b ForWhile e = opens b (InWhile e)
tested b (ForDo s) e = Some (InBody b (Ending (DoWhile s e)))

abbrev pub declared : Name → Option Expr → Declarator
declared n e = record { name = n; initial = e }

-- the token after a full expression in a function's body
abbrev pub end_in_body : Inside → Purpose → ℕ → Expr → Role → Option State
end_in_body b (ToPerform p) k e r = acted b p (Evaluate e) r
end_in_body b (ToAssign op t p) k e r = acted b p (Assign op t e) r
end_in_body b (ToStep op n p) k e role.CloseBracket = Some (InBody b (Stepped op (AtElement n e) p (suc k)))
end_in_body b (ToReturn at) k e role.Semicolon = settle b (Return at (Some e))
end_in_body b (ToTest t) k e role.CloseParenthesis = tested b t e
end_in_body b (ToGoOn a) k e role.Semicolon = Some (InBody b (ForStepping a (Some e)))
end_in_body b (ToInitialise w t ds n) k e role.Comma = Some (InBody b (Declaring w t (ds ++ declared n (Some e) ∷ [])))
end_in_body b (ToInitialise w t ds n) k e role.Semicolon = declares b w t (ds ++ declared n (Some e) ∷ [])
end_in_body b _ k e _ = None

-- the type in the declaration, which is unsigned for `unsigned char`
abbrev pub scalar_of : ObjectKind → Scalar
scalar_of (Words t) = t
scalar_of Bytes = scalar.Unsigned

-- an array whose elements are of this kind
abbrev pub array_of : ObjectKind → Name → Option ConstantExpr → List ConstantExpr → Object
array_of (Words t) = Array
array_of Bytes = ByteArray

-- the token after a complete object
abbrev pub separated : List External → ObjectKind → List Object → Role → Option State
separated es t os role.Comma = Some (AtFile es (ObjectNext t os))
separated es t os role.Semicolon = Some (AtFile (es ++ Objects (scalar_of t) os ∷ []) Between)
separated es t os _ = None

abbrev pub constant : ℕ → Expr → ConstantExpr
constant at e = record { at = at; expr = e }

-- the complete objects and the named one
abbrev pub with_object : Naming → Object → List Object
with_object n o = n.objects ++ o ∷ []

-- the token after a value in an initialiser list
abbrev pub end_list_value : List External → Naming → Option ConstantExpr → List ConstantExpr → ConstantExpr → Role → Option State
end_list_value es n size vs v role.Comma = Some (AtFile es (Valuing n size (vs ++ v ∷ [])))
end_list_value es n size vs v role.CloseBrace = Some (AtFile es (Listed n.kind (with_object n (array_of n.kind n.name size (vs ++ v ∷ [])))))
end_list_value es n size vs v _ = None

-- the token after a constant expression
abbrev pub end_in_object : List External → Naming → Part → Expr → Role → Option State
end_in_object es n (ToSize at) e role.CloseBracket = Some (AtFile es (Sized n (Some (constant at e))))
end_in_object es n (ToSize at) e _ = None
end_in_object es n (ToSingle at) e r = separated es n.kind (with_object n (Single n.name (Some (constant at e)))) r
end_in_object es n (ToValue size vs at) e r = end_list_value es n size vs (constant at e) r

-- the token after a full expression of this many tokens
abbrev pub end_full : Context → ℕ → Expr → Role → Option State
end_full (OfBody b p) k e r = end_in_body b p k e r
end_full (OfObject es n p) k e r = end_in_object es n p e r

-- a closing token after an expression, given the pending parts
abbrev pub close : Full → Role → Expr × List Waiting → Option State
close f r (e, []) = end_full f.context f.count e r
close f role.CloseParenthesis (e, Parenthesis ∷ ws) = goes_on f ws (Operator (Parenthesised e))
close f role.CloseBracket (e, Index n ∷ ws) = goes_on f ws (Operator (Element n e))
close f role.CloseParenthesis (e, Arguments n args ∷ ws) = goes_on f ws (Operator (Call n (with_argument args e)))
close f role.Comma (e, Arguments n args ∷ ws) = goes_on f (Arguments n (with_argument args e) ∷ ws) Operand
close f role.Colon (e, Then c ∷ ws) = goes_on f (Otherwise c e ∷ ws) Operand
close f _ _ = None

-- a binary operator after its left operand
abbrev pub operate : Full → BinaryOperator → Expr × List Waiting → Option State
operate f op r = goes_on f (Infix op r.0 ∷ r.1) Operand

-- a question mark after its condition
abbrev pub ask : Full → Expr × List Waiting → Option State
ask f r = goes_on f (Then r.0 ∷ r.1) Operand

-- a parenthesis or bracket after an operand, which must be a name
abbrev pub open_name : Full → Expr → Role → Option State
open_name f (Variable n) role.OpenParenthesis = goes_on f (Arguments n none ∷ f.waiting) Operand
open_name f (Variable n) role.OpenBracket = goes_on f (Index n ∷ f.waiting) Operand
open_name f _ _ = None

-- the expression as an assignment target
abbrev pub target_of : Expr → Option Target
target_of (Variable n) = Some (AtVariable n)
target_of (Element n e) = Some (AtElement n e)
target_of _ = None

-- an assignment operator after the target that an action begins with
abbrev pub assigns : Context → ℕ → AssignmentOperator → Option Target → Option State
assigns (OfBody b (ToPerform p)) k op (Some t) = begins_full (OfBody b (ToAssign op t p)) (suc k)
assigns _ k op _ = None

abbrev pub assign : Full → Expr → AssignmentOperator → List Waiting → Option State
assign f e op [] = assigns f.context f.count op (target_of e)
assign f e op (w ∷ ws) = None

-- `++` or `--` after the target that an action begins with
abbrev pub steps : Context → ℕ → StepOperator → Option Target → Option State
steps (OfBody b (ToPerform p)) k op (Some t) = Some (InBody b (Stepped op t p (suc k)))
steps _ k op _ = None

abbrev pub step_target : Full → Expr → StepOperator → List Waiting → Option State
step_target f e op [] = steps f.context f.count op (target_of e)
step_target f e op (w ∷ ws) = None

-- a token after an operand
abbrev pub operator_step : Full → Expr → Role → Option State
operator_step f e role.Plus = operate f binary.Add (reduced (precedence binary.Add) f.waiting e)
operator_step f e role.Minus = operate f binary.Subtract (reduced (precedence binary.Subtract) f.waiting e)
operator_step f e (role.Infix op) = operate f op (reduced (precedence op) f.waiting e)
operator_step f e role.Question = ask f (reduced 2 f.waiting e)
operator_step f e role.OpenParenthesis = open_name f e role.OpenParenthesis
operator_step f e role.OpenBracket = open_name f e role.OpenBracket
operator_step f e (role.Assignment op) = assign f e op f.waiting
operator_step f e (role.Step op) = step_target f e op f.waiting
operator_step f e r = close f r (reduced 1 f.waiting e)

-- a keyword of a type, directly after an opening parenthesis
abbrev pub cast : Full → Phase → List Waiting → Option State
cast f p (Parenthesis ∷ ws) = goes_on f ws p
cast f p _ = None

-- the closing parenthesis of a call without arguments
abbrev pub call_of_none : Full → List Waiting → Option State
call_of_none f (Arguments n none ∷ ws) = goes_on f ws (Operator (Call n none))
call_of_none f _ = None

-- a token in a place where an operand is due
abbrev pub operand_step : Full → Role → Name → Option State
operand_step f (role.Number t n) x = goes_on f f.waiting (Operator (Number t n))
operand_step f role.Identifier x = goes_on f f.waiting (Operator (Variable x))
operand_step f role.OpenParenthesis x = goes_on f (Parenthesis ∷ f.waiting) Operand
operand_step f role.CloseParenthesis x = call_of_none f f.waiting
operand_step f role.Plus x = goes_on f (Prefix unary.Plus ∷ f.waiting) Operand
operand_step f role.Minus x = goes_on f (Prefix unary.Minus ∷ f.waiting) Operand
operand_step f (role.Prefix op) x = goes_on f (Prefix op ∷ f.waiting) Operand
operand_step f role.Int x = cast f (CastType scalar.Int) f.waiting
operand_step f (role.SignWord t) x = cast f (CastSign t) f.waiting
operand_step f _ x = None

abbrev pub cast_step : Full → Scalar → Role → Option State
cast_step f t role.CloseParenthesis = goes_on f (Casting t ∷ f.waiting) Operand
cast_step f t _ = None

abbrev pub cast_sign_step : Full → Scalar → Role → Option State
cast_sign_step f t role.Int = goes_on f f.waiting (CastType t)
cast_sign_step f t r = cast_step f t r

abbrev pub full_step : Full → Phase → Role → Name → Option State
full_step f Operand r x = operand_step f r x
full_step f (Operator e) r x = operator_step f e r
full_step f (CastSign t) r x = cast_sign_step f t r
full_step f (CastType t) r x = cast_step f t r

-- the first token of a full expression
abbrev pub first_step : Context → Role → Name → Option State
first_step c r x = operand_step (full_of c [] 0) r x

-- the first token of an action
abbrev pub action_step : Inside → Spot → Role → Name → Option State
action_step b p (role.Step op) x = Some (InBody b (Stepping op p))
action_step b p r x = first_step (OfBody b (ToPerform p)) r x

-- the end of the innermost block
abbrev pub close_block : Inside → List Open → Option State
close_block b [] = Some (AtFile (b.externals ++ Definition b.signature b.finished ∷ []) Between)
close_block b (InBlock ss ∷ os) = settle (inside_of b b.finished os) (Block ss)
close_block b _ = None

-- a declaration is allowed only directly in a block
abbrev pub declare : Inside → Stage → List Open → Option State
declare b s [] = Some (InBody b s)
declare b s (InBlock ss ∷ os) = Some (InBody b s)
declare b s _ = None

-- the first token of a statement or declaration, or the end of a block
abbrev pub item_step : Inside → Role → Name → Option State
item_step b role.OpenBrace x = opens b (InBlock end)
item_step b role.CloseBrace x = close_block b b.opened
item_step b role.Semicolon x = settle b (Perform None)
item_step b role.Return x = Some (InBody b (Returning x.at))
item_step b role.Break x = Some (InBody b (Ending (Break x.at)))
item_step b role.Continue x = Some (InBody b (Ending (Continue x.at)))
item_step b role.If x = Some (InBody b (Testing ForIf))
item_step b role.While x = Some (InBody b (Testing ForWhile))
item_step b role.Do x = opens b InDo
item_step b role.For x = Some (InBody b ForOpening)
item_step b role.Int x = declare b (Declaring AsLocal scalar.Int []) b.opened
item_step b (role.SignWord t) x = declare b (LocalSign AsLocal t) b.opened
item_step b r x = action_step b AsStatement r x

-- the keyword after the body of a `do`
abbrev pub do_step : Inside → Stmt → Role → Option State
do_step b s role.While = Some (InBody b (Testing (ForDo s)))
do_step b s _ = None

-- a token after a statement that no `else` follows
abbrev pub resting_step : Inside × Stage → Role → Name → Option State
resting_step (b, Item) r x = item_step b r x
resting_step (b, AfterDo s) r x = do_step b s r
resting_step (b, _) r x = None

-- a token after the part of an `if` that an `else` may follow
abbrev pub else_step : Inside → Expr → Stmt → Role → Name → Option State
else_step b e s role.Else x = opens b (InElse e s)
else_step b e s r x = resting_step (settled false b b.opened (If e s)) r x

abbrev pub testing_step : Inside → Test → Role → Option State
testing_step b t role.OpenParenthesis = begins_full (OfBody b (ToTest t)) 0
testing_step b t _ = None

abbrev pub ending_step : Inside → Stmt → Role → Option State
ending_step b s role.Semicolon = settle b s
ending_step b s _ = None

abbrev pub returning_step : Inside → ℕ → Role → Name → Option State
returning_step b at role.Semicolon x = settle b (Return at None)
returning_step b at r x = first_step (OfBody b (ToReturn at)) r x

abbrev pub for_opening_step : Inside → Role → Option State
for_opening_step b role.OpenParenthesis = Some (InBody b ForStarting)
for_opening_step b _ = None

abbrev pub for_starting_step : Inside → Role → Name → Option State
for_starting_step b role.Semicolon x = Some (InBody b (ForTesting (Performs None)))
for_starting_step b role.Int x = Some (InBody b (Declaring AsHeader scalar.Int []))
for_starting_step b (role.SignWord t) x = Some (InBody b (LocalSign AsHeader t))
for_starting_step b r x = action_step b AsStart r x

abbrev pub for_testing_step : Inside → Beginning → Role → Name → Option State
for_testing_step b a role.Semicolon x = Some (InBody b (ForStepping a None))
for_testing_step b a r x = first_step (OfBody b (ToGoOn a)) r x

abbrev pub for_stepping_step : Inside → Beginning → Option Expr → Role → Name → Option State
for_stepping_step b a e role.CloseParenthesis x = opens b (InFor a e None)
for_stepping_step b a e r x = action_step b (AsLast a e) r x

abbrev pub declaring_step : Inside → Position → Scalar → List Declarator → Role → Name → Option State
declaring_step b w t ds role.Identifier x = Some (InBody b (HasDeclared w t ds x))
declaring_step b w t ds _ x = None

abbrev pub local_sign_step : Inside → Position → Scalar → Role → Name → Option State
local_sign_step b w t role.Int x = Some (InBody b (Declaring w t []))
local_sign_step b w t r x = declaring_step b w t [] r x

abbrev pub declared_step : Inside → Position → Scalar → List Declarator → Name → Role → Option State
declared_step b w t ds n (role.Assignment assignment.Plain) = begins_full (OfBody b (ToInitialise w t ds n)) 0
declared_step b w t ds n role.Comma = Some (InBody b (Declaring w t (ds ++ declared n None ∷ [])))
declared_step b w t ds n role.Semicolon = declares b w t (ds ++ declared n None ∷ [])
declared_step b w t ds n _ = None

abbrev pub stepping_step : Inside → StepOperator → Spot → Role → Name → Option State
stepping_step b op p role.Identifier x = Some (InBody b (StepNamed op x p))
stepping_step b op p _ x = None

abbrev pub step_named_step : Inside → StepOperator → Name → Spot → Role → Option State
step_named_step b op n p role.OpenBracket = begins_full (OfBody b (ToStep op n p)) 3
step_named_step b op n p r = acted b p (Step op (AtVariable n)) r

abbrev pub body_step : Inside → Stage → Role → Name → Option State
body_step b Item r x = item_step b r x
body_step b (AfterThen e s) r x = else_step b e s r x
body_step b (AfterDo s) r x = do_step b s r
body_step b (Testing t) r x = testing_step b t r
body_step b (Ending s) r x = ending_step b s r
body_step b (Returning at) r x = returning_step b at r x
body_step b ForOpening r x = for_opening_step b r
body_step b ForStarting r x = for_starting_step b r x
body_step b (ForTesting a) r x = for_testing_step b a r x
body_step b (ForStepping a e) r x = for_stepping_step b a e r x
body_step b (LocalSign w t) r x = local_sign_step b w t r x
body_step b (Declaring w t ds) r x = declaring_step b w t ds r x
body_step b (HasDeclared w t ds n) r x = declared_step b w t ds n r
body_step b (Stepping op p) r x = stepping_step b op p r x
body_step b (StepNamed op n p) r x = step_named_step b op n p r
body_step b (Stepped op t p k) r x = acted b p (Step op t) r

-- a function's result and name, before its parameters
abbrev pub signature_of : Option Scalar → Name → Signature
signature_of t n = record { result = t; name = n; parameters = [] }

abbrev pub with_parameter : Signature → Scalar → Option Name → Signature
with_parameter f t n = record { result = f.result; name = f.name; parameters = f.parameters ++ record { scalar = t; name = n } ∷ [] }

abbrev pub all_named : List Parameter → Bool
all_named [] = true
all_named (p ∷ ps) = is_some p.name && all_named ps

abbrev pub file : List External → Outer → Option State
file es o = Some (AtFile es o)

abbrev pub external_step : List External → Role → Option State
external_step es role.Int = file es (Typed (Some scalar.Int))
external_step es (role.SignWord t) = file es (ResultSign t)
external_step es role.Void = file es (Typed None)
external_step es _ = None

abbrev pub typed_step : List External → Option Scalar → Role → Name → Option State
typed_step es t role.Identifier x = file es (Named t x)
typed_step es t _ x = None

-- `char`, which only `unsigned` may precede
abbrev pub char_step : List External → Scalar → Option State
char_step es scalar.Unsigned = file es (ObjectNext Bytes [])
char_step es scalar.Int = None

abbrev pub result_sign_step : List External → Scalar → Role → Name → Option State
result_sign_step es t role.Int x = file es (Typed (Some t))
result_sign_step es t role.Char x = char_step es t
result_sign_step es t r x = typed_step es (Some t) r x

-- a token after the name of an object that is not an array; only array elements can be `unsigned char`
abbrev pub single_step : List External → Naming → ObjectKind → Role → Option State
single_step es n (Words t) (role.Assignment assignment.Plain) = file es (Initialising n)
single_step es n (Words t) r = separated es n.kind (with_object n (Single n.name None)) r
single_step es n Bytes r = None

-- a token after the name of an object
abbrev pub object_step : List External → Naming → Role → Option State
object_step es n role.OpenBracket = file es (Sizing n)
object_step es n r = single_step es n n.kind r

-- a token after the name of the first object in a declaration
abbrev pub first_step_object : List External → Option Scalar → Name → Role → Option State
first_step_object es (Some t) n r = object_step es (record { kind = Words t; objects = []; name = n }) r
first_step_object es None n r = None

-- a token after the first name of an external declaration
abbrev pub named_step : List External → Option Scalar → Name → Role → Option State
named_step es t n role.OpenParenthesis = file es (Parameters (signature_of t n))
named_step es t n r = first_step_object es t n r

-- the first token of a parameter
abbrev pub parameter_step : List External → Signature → Role → Option State
parameter_step es f role.Int = file es (ParameterTyped f scalar.Int)
parameter_step es f (role.SignWord t) = file es (ParameterSign f t)
parameter_step es f _ = None

abbrev pub parameters_step : List External → Signature → Role → Option State
parameters_step es f role.Void = file es (OnlyVoid f)
parameters_step es f role.CloseParenthesis = file es (Headed f)
parameters_step es f r = parameter_step es f r

abbrev pub only_void_step : List External → Signature → Role → Option State
only_void_step es f role.CloseParenthesis = file es (Headed f)
only_void_step es f _ = None

-- a token after a parameter
abbrev pub parameter_named_step : List External → Signature → Role → Option State
parameter_named_step es f role.Comma = file es (ParameterNext f)
parameter_named_step es f role.CloseParenthesis = file es (Headed f)
parameter_named_step es f _ = None

abbrev pub parameter_typed_step : List External → Signature → Scalar → Role → Name → Option State
parameter_typed_step es f t role.Identifier x = file es (ParameterNamed (with_parameter f t (Some x)))
parameter_typed_step es f t r x = parameter_named_step es (with_parameter f t None) r

abbrev pub parameter_sign_step : List External → Signature → Scalar → Role → Name → Option State
parameter_sign_step es f t role.Int x = file es (ParameterTyped f t)
parameter_sign_step es f t r x = parameter_typed_step es f t r x

abbrev pub defines : List External → Signature → Bool → Option State
defines es f true = Some (InBody (record { externals = es; signature = f; finished = end; opened = [] }) Item)
defines es f false = None

abbrev pub headed_step : List External → Signature → Role → Option State
headed_step es f role.Semicolon = Some (AtFile (es ++ Declaration f ∷ []) Between)
headed_step es f role.OpenBrace = defines es f (all_named f.parameters)
headed_step es f _ = None

abbrev pub object_next_step : List External → ObjectKind → List Object → Role → Name → Option State
object_next_step es t os role.Identifier x = file es (ObjectNamed (record { kind = t; objects = os; name = x }))
object_next_step es t os _ x = None

abbrev pub sizing_step : List External → Naming → Role → Name → Option State
sizing_step es n role.CloseBracket x = file es (Sized n None)
sizing_step es n r x = first_step (OfObject es n (ToSize x.at)) r x

abbrev pub sized_step : List External → Naming → Option ConstantExpr → Role → Option State
sized_step es n size (role.Assignment assignment.Plain) = file es (Listing n size)
sized_step es n size r = separated es n.kind (with_object n (array_of n.kind n.name size [])) r

abbrev pub listing_step : List External → Naming → Option ConstantExpr → Role → Option State
listing_step es n size role.OpenBrace = file es (Valuing n size [])
listing_step es n size _ = None

-- the closing brace of an initialiser list, after a comma
abbrev pub end_list : List External → Naming → Option ConstantExpr → List ConstantExpr → Option State
end_list es n size [] = None
end_list es n size (v ∷ vs) = file es (Listed n.kind (with_object n (array_of n.kind n.name size (v ∷ vs))))

abbrev pub valuing_step : List External → Naming → Option ConstantExpr → List ConstantExpr → Role → Name → Option State
valuing_step es n size vs role.CloseBrace x = end_list es n size vs
valuing_step es n size vs r x = first_step (OfObject es n (ToValue size vs x.at)) r x

abbrev pub outer_step : List External → Outer → Role → Name → Option State
outer_step es Between r x = external_step es r
outer_step es (ResultSign t) r x = result_sign_step es t r x
outer_step es (Typed t) r x = typed_step es t r x
outer_step es (Named t n) r x = named_step es t n r
outer_step es (Parameters f) r x = parameters_step es f r
outer_step es (OnlyVoid f) r x = only_void_step es f r
outer_step es (ParameterNext f) r x = parameter_step es f r
outer_step es (ParameterSign f t) r x = parameter_sign_step es f t r x
outer_step es (ParameterTyped f t) r x = parameter_typed_step es f t r x
outer_step es (ParameterNamed f) r x = parameter_named_step es f r
outer_step es (Headed f) r x = headed_step es f r
outer_step es (ObjectNext t os) r x = object_next_step es t os r x
outer_step es (ObjectNamed n) r x = object_step es n r
outer_step es (Sizing n) r x = sizing_step es n r x
outer_step es (Sized n size) r x = sized_step es n size r
outer_step es (Initialising n) r x = first_step (OfObject es n (ToSingle x.at)) r x
outer_step es (Listing n size) r x = listing_step es n size r
outer_step es (Valuing n size vs) r x = valuing_step es n size vs r x
outer_step es (Listed t os) r x = separated es t os r

abbrev pub role_step : State → Role → Name → Option State
role_step (AtFile es o) r x = outer_step es o r x
role_step (InBody b s) r x = body_step b s r x
role_step (InFull f p) r x = full_step f p r x

-- the state after a token, or None if the token cannot come here
abbrev pub step : State → Lexeme → Option State
step s x = role_step s (role_of x.kind) (name_of x)

-- how many tokens of the full expression have been read
abbrev pub stage_count : Stage → ℕ
stage_count (Stepping op p) = 1
stage_count (StepNamed op n p) = 2
stage_count (Stepped op t p k) = k
stage_count _ = 0

abbrev pub count_of : State → ℕ
count_of (AtFile es o) = 0
count_of (InBody b s) = stage_count s
count_of (InFull f p) = f.count

-- the level of what begins inside this many open statements, at a token of this role; 0 if nothing begins
abbrev pub item_level : ℕ → Role → ℕ
item_level depth role.CloseBrace = 0
item_level depth _ = suc (suc depth)

-- how many statements stay open once a statement is complete and no `else` follows it; None if a `do` then awaits its `while`
abbrev pub resting_depth : List Open → Option ℕ
resting_depth [] = Some 0
resting_depth (InBlock ss ∷ os) = Some (suc (length os))
resting_depth (InDo ∷ os) = None
resting_depth (_ ∷ os) = resting_depth os

abbrev pub resting_level : Option ℕ → Role → ℕ
resting_level None r = 0
resting_level (Some depth) r = item_level depth r

abbrev pub else_level : List Open → Role → ℕ
else_level os role.Else = 0
else_level os r = resting_level (resting_depth os) r

abbrev pub header_level : List Open → Role → ℕ
header_level os role.Int = suc (suc (suc (length os)))
header_level os (role.SignWord t) = suc (suc (suc (length os)))
header_level os _ = 0

abbrev pub stage_level : List Open → Stage → Role → ℕ
stage_level os Item r = item_level (length os) r
stage_level os (AfterThen e s) r = else_level os r
stage_level os ForStarting r = header_level os r
stage_level os _ r = 0

abbrev pub outer_level : Outer → Role → ℕ
outer_level (Headed f) role.OpenBrace = 1
outer_level _ r = 0

abbrev pub role_level : State → Role → ℕ
role_level (AtFile es o) r = outer_level o r
role_level (InBody b s) r = stage_level b.opened s r
role_level (InFull f p) r = 0

-- the level of the statement or declaration that a token begins
abbrev pub level_at : State → Lexeme → ℕ
level_at s x = role_level s (role_of x.kind)

-- a token between two states, with what the limits count
abbrev pub standing : State → Lexeme → State → Measured
standing s x m = record { token = x; count = count_of m; level = level_at s x }

abbrev pub start : State
start = AtFile [] Between

-- the tree of a complete unit
abbrev pub unit_of : List External → Outer → Option (List External)
unit_of [] o = None
unit_of (e ∷ es) Between = Some (e ∷ es)
unit_of (e ∷ es) _ = None

abbrev pub tree_of : State → Option (List External)
tree_of (AtFile es o) = unit_of es o
tree_of _ = None
