-- The parser's state in the code as a state of `Parser`, and what the parser's functions return, in terms of such states. No
-- public contract cites this file.
use Rattle.std.specs.Prelude.{◌≡◌, ◌<◌, ℕ, List, slice_range, reverse, map, Option, Some, None, Result, Ok, Err}
use Rattle.cc_syntax.specs.declared.parser.state.Waiting as waiting
use Rattle.cc_syntax.specs.declared.parser.state.Waiting.TheVariants as waitings
use Rattle.cc_syntax.specs.declared.parser.state.Open as open_statement
use Rattle.cc_syntax.specs.declared.parser.state.Open.TheVariants as open_statements
use Rattle.cc_syntax.specs.declared.parser.state.Spot as spot
use Rattle.cc_syntax.specs.declared.parser.state.Spot.TheVariants as spots
use Rattle.cc_syntax.specs.declared.parser.state.Test as test
use Rattle.cc_syntax.specs.declared.parser.state.Test.TheVariants as tests
use Rattle.cc_syntax.specs.declared.parser.state.Position as position
use Rattle.cc_syntax.specs.declared.parser.state.Position.TheVariants as positions
use Rattle.cc_syntax.specs.declared.parser.state.Purpose as purpose
use Rattle.cc_syntax.specs.declared.parser.state.Purpose.TheVariants as purposes
use Rattle.cc_syntax.specs.declared.parser.state.Locals as locals
use Rattle.cc_syntax.specs.declared.parser.state.Naming as naming
use Rattle.cc_syntax.specs.declared.parser.state.Values as values
use Rattle.cc_ast.specs.declared.ast.Signature as signature
use Rattle.cc_syntax.specs.declared.parser.state.Part as part
use Rattle.cc_syntax.specs.declared.parser.state.Part.TheVariants as parts
use Rattle.cc_syntax.specs.declared.parser.state.Context as context
use Rattle.cc_syntax.specs.declared.parser.state.Context.TheVariants as contexts
use Rattle.cc_syntax.specs.declared.parser.state.Phase as phase
use Rattle.cc_syntax.specs.declared.parser.state.Phase.TheVariants as phases
use Rattle.cc_syntax.specs.declared.parser.state.Stage as stage
use Rattle.cc_syntax.specs.declared.parser.state.Stage.TheVariants as stages
use Rattle.cc_syntax.specs.declared.parser.state.Outer as outer
use Rattle.cc_syntax.specs.declared.parser.state.Outer.TheVariants as outers
use Rattle.cc_syntax.specs.declared.parser.state.At as reading
use Rattle.cc_syntax.specs.declared.parser.state.At.TheVariants as readings
use Rattle.cc_syntax.specs.declared.parser.state.Parser as parser
use Rattle.cc_syntax.specs.declared.parser.cursor.Cursor as cursor
use Rattle.cc_syntax.specs.declared.parser.stop.Stop as stop
use Rattle.cc_syntax.specs.declared.parser.stop.Stop.TheVariants as stops
use Rattle.cc_syntax.specs.declared.parser.stop.Refusal as refusal
use Rattle.cc_syntax.specs.declared.parser.stop.Refusal.TheVariants as refusals
use Rattle.cc_ast.specs.Erase.{name_tree, expression_tree, optional_tree, target_tree, optional_action, declarator_trees, beginning_tree, statement_tree, statements_of, optional_constant, constant_trees, signature_tree, object_trees, external_trees}
use Rattle.cc_ast.specs.Tree.{Name}
use Rattle.cc_ast.specs.internal.Arguments.{expressions_of}
use Rattle.cc_tokens.specs.Token.{Lexeme}
use Rattle.cc_ast.specs.Limits.{IsWithin, PassesLimit, UnexpectedAt, TooDeepAt, IsFineBefore}
use Rattle.cc_syntax.specs.internal.Parser.{step, standing, count_of, Waiting, Parenthesis, Index, Arguments, Prefix, Casting, Infix, Then, Otherwise, Open, InBlock, InThen, InElse, InWhile, InDo, InFor, Inside, Spot, AsStatement, AsStart, AsLast, Test, ForIf, ForWhile, ForDo, Position, AsLocal, AsHeader, Purpose, ToPerform, ToAssign, ToStep, ToReturn, ToTest, ToGoOn, ToInitialise, Naming, Part, ToSize, ToSingle, ToValue, Context, OfBody, OfObject, Full, Phase, Operand, Operator, CastSign, CastType, Stage, Item, AfterThen, AfterDo, Testing, Ending, Returning, ForOpening, ForStarting, ForTesting, ForStepping, LocalSign, Declaring, HasDeclared, Stepping, StepNamed, Stepped, Outer, Between, ResultSign, Typed, Named, Parameters, OnlyVoid, ParameterNext, ParameterSign, ParameterTyped, ParameterNamed, Headed, ObjectNext, ObjectNamed, Sizing, Sized, Initialising, Listing, Valuing, Listed, State, AtFile, InBody, InFull}

abbrev pub waiting_view : waiting.Waiting → Waiting
waiting_view waitings.Parenthesis = Parenthesis
waiting_view (waitings.Index n) = Index (name_tree n)
waiting_view (waitings.Arguments n es) = Arguments (name_tree n) (expressions_of es.items)
waiting_view (waitings.Prefix op) = Prefix op
waiting_view (waitings.Cast t) = Casting t
waiting_view (waitings.Infix op e) = Infix op (expression_tree e.value)
waiting_view (waitings.Then e) = Then (expression_tree e.value)
waiting_view (waitings.Otherwise c e) = Otherwise (expression_tree c.value) (expression_tree e.value)

-- latest first
abbrev pub waiting_views : List waiting.Waiting → List Waiting
waiting_views ws = reverse (map waiting_view ws)

abbrev pub open_view : open_statement.Open → Open
open_view (open_statements.Block ss) = InBlock (statements_of ss.items)
open_view (open_statements.Then e) = InThen (expression_tree e.value)
open_view (open_statements.Else e s) = InElse (expression_tree e.value) (statement_tree s.value)
open_view (open_statements.While e) = InWhile (expression_tree e.value)
open_view open_statements.Do = InDo
open_view (open_statements.For a e l) = InFor (beginning_tree a.value) (optional_tree e) (optional_action l)

-- innermost first
abbrev pub open_views : List open_statement.Open → List Open
open_views os = reverse (map open_view os)

abbrev pub spot_view : spot.Spot → Spot
spot_view spots.Statement = AsStatement
spot_view spots.Start = AsStart
spot_view (spots.Last a e) = AsLast (beginning_tree a.value) (optional_tree e)

abbrev pub test_view : test.Test → Test
test_view tests.If = ForIf
test_view tests.While = ForWhile
test_view (tests.Do s) = ForDo (statement_tree s.value)

abbrev pub position_view : position.Position → Position
position_view positions.Local = AsLocal
position_view positions.Header = AsHeader

-- the purpose of a full expression, with the action's `Spot` and the declaration of locals from the parser's fields
abbrev pub purpose_view : spot.Spot → locals.Locals → purpose.Purpose → Purpose
purpose_view p l purposes.Perform = ToPerform (spot_view p)
purpose_view p l (purposes.Assign op t) = ToAssign op (target_tree t) (spot_view p)
purpose_view p l (purposes.Step op) = ToStep op (name_tree l.name) (spot_view p)
purpose_view p l (purposes.Return at) = ToReturn at
purpose_view p l (purposes.Test t) = ToTest (test_view t)
purpose_view p l (purposes.Continue a) = ToGoOn (beginning_tree a.value)
purpose_view p l purposes.Initialise = ToInitialise (position_view l.position) l.scalar (declarator_trees l.declarators.items) (name_tree l.name)

abbrev pub naming_view : naming.Naming → Naming
naming_view n = record { kind = n.kind; objects = object_trees n.objects.items; name = name_tree n.name }

abbrev pub part_view : values.Values → part.Part → Part
part_view v (parts.Size at) = ToSize at
part_view v (parts.Single at) = ToSingle at
part_view v (parts.Value at) = ToValue (optional_constant v.size) (constant_trees v.values.items) at

abbrev pub context_view : Inside → spot.Spot → locals.Locals → naming.Naming → values.Values → context.Context → Context
context_view b p l n v (contexts.Body q) = OfBody b (purpose_view p l q)
context_view b p l n v (contexts.Object q) = OfObject b.externals (naming_view n) (part_view v q)

abbrev pub phase_view : phase.Phase → Phase
phase_view phases.Operand = Operand
phase_view (phases.Operator e) = Operator (expression_tree e.value)
phase_view (phases.CastSign t) = CastSign t
phase_view (phases.CastType t) = CastType t

-- what comes next in a function's body; the number is how many tokens an increment or decrement has
abbrev pub stage_view : spot.Spot → locals.Locals → ℕ → stage.Stage → Stage
stage_view p l k stages.Item = Item
stage_view p l k (stages.AfterThen e s) = AfterThen (expression_tree e.value) (statement_tree s.value)
stage_view p l k (stages.AfterDo s) = AfterDo (statement_tree s.value)
stage_view p l k (stages.Testing t) = Testing (test_view t)
stage_view p l k (stages.Ending s) = Ending (statement_tree s.value)
stage_view p l k (stages.Returning at) = Returning at
stage_view p l k stages.ForOpening = ForOpening
stage_view p l k stages.ForStarting = ForStarting
stage_view p l k (stages.ForTesting a) = ForTesting (beginning_tree a.value)
stage_view p l k (stages.ForStepping a e) = ForStepping (beginning_tree a.value) (optional_tree e)
stage_view p l k stages.LocalSign = LocalSign (position_view l.position) l.scalar
stage_view p l k stages.Declaring = Declaring (position_view l.position) l.scalar (declarator_trees l.declarators.items)
stage_view p l k stages.Declared = HasDeclared (position_view l.position) l.scalar (declarator_trees l.declarators.items) (name_tree l.name)
stage_view p l k (stages.Stepping op) = Stepping op (spot_view p)
stage_view p l k (stages.StepNamed op) = StepNamed op (name_tree l.name) (spot_view p)
stage_view p l k (stages.Stepped op t) = Stepped op (target_tree t) (spot_view p) k

abbrev pub outer_view : signature.Signature → naming.Naming → values.Values → outer.Outer → Outer
outer_view f n v outers.Between = Between
outer_view f n v (outers.ResultSign t) = ResultSign t
outer_view f n v (outers.Typed t) = Typed t
outer_view f n v (outers.Named t) = Named t (name_tree n.name)
outer_view f n v outers.Parameters = Parameters (signature_tree f)
outer_view f n v outers.OnlyVoid = OnlyVoid (signature_tree f)
outer_view f n v outers.ParameterNext = ParameterNext (signature_tree f)
outer_view f n v (outers.ParameterSign t) = ParameterSign (signature_tree f) t
outer_view f n v (outers.ParameterTyped t) = ParameterTyped (signature_tree f) t
outer_view f n v outers.ParameterNamed = ParameterNamed (signature_tree f)
outer_view f n v outers.Headed = Headed (signature_tree f)
outer_view f n v outers.ObjectNext = ObjectNext n.kind (object_trees n.objects.items)
outer_view f n v outers.ObjectNamed = ObjectNamed (naming_view n)
outer_view f n v outers.Sizing = Sizing (naming_view n)
outer_view f n v outers.Sized = Sized (naming_view n) (optional_constant v.size)
outer_view f n v outers.Initialising = Initialising (naming_view n)
outer_view f n v outers.Listing = Listing (naming_view n) (optional_constant v.size)
outer_view f n v outers.Valuing = Valuing (naming_view n) (optional_constant v.size) (constant_trees v.values.items)
outer_view f n v outers.Listed = Listed n.kind (object_trees n.objects.items)

-- what comes next at file scope, taken from the parser's fields
abbrev pub outer_of : parser.Parser → outer.Outer → Outer
outer_of p next = outer_view p.signature p.naming p.list next

abbrev pub body_view : parser.Parser → Inside
body_view p = record { externals = external_trees p.externals.items; signature = signature_tree p.signature; finished = statements_of p.body.finished.items; opened = open_views p.body.open.items }

abbrev pub stage_of : parser.Parser → stage.Stage → Stage
stage_of p s = stage_view p.body.spot p.body.locals p.full.count.tokens s

abbrev pub context_of : parser.Parser → context.Context → Context
context_of p c = context_view (body_view p) p.body.spot p.body.locals p.naming p.list c

abbrev pub full_view : parser.Parser → Full
full_view p = record { context = context_of p p.full.context; waiting = waiting_views p.full.waiting.items; count = p.full.count.tokens }

-- the parser's state, depending on what is being read
abbrev pub view_at : parser.Parser → reading.At → State
view_at p readings.File = AtFile (external_trees p.externals.items) (outer_of p p.outer)
view_at p readings.Body = InBody (body_view p) (stage_of p p.body.stage)
view_at p readings.Full = InFull (full_view p) (phase_view p.full.phase)

abbrev pub parser_view : parser.Parser → State
parser_view p = view_at p p.at

-- a token as a name
abbrev pub name_at : cursor.Cursor → Name
name_at c = record { text = slice_range c.text.now c.token.from c.token.to; at = c.token.from }

-- there is a state, and in it a full expression exceeds its limit
abbrev pub PassesCount : Option State → Type 0
PassesCount None = ⊥
PassesCount (Some m) = 512 < count_of m

-- `given` justifies stopping for this reason; memory may run out at any step
abbrev pub Stops : stop.Stop → Option State → Type 0
Stops stops.Memory given = Unit {0}
Stops stops.Unexpected given = given ≡ None
Stops stops.TooDeep given = PassesCount given

abbrev pub Gives : {X : Type 0} → Option State → Result X stop.Stop → parser.Parser → Type 0
Gives given (Ok _) p = given ≡ Some (parser_view p)
Gives given (Err e) p = Stops e given

-- the result of reading a token is right, with the limits checked
abbrev pub Advances : {X : Type 0} → State → Lexeme → Result X stop.Stop → parser.Parser → Type 0
Advances s x (Ok _) p = (step s x ≡ Some (parser_view p)) × IsWithin (standing s x (parser_view p))
Advances s x (Err stops.Memory) p = Unit {0}
Advances s x (Err stops.Unexpected) p = step s x ≡ None
Advances s x (Err stops.TooDeep) p = (m : State) × (step s x ≡ Some m) × PassesLimit (standing s x m)

-- the refusal is right: it names the first token that breaks the grammar or a limit, or memory ran out
abbrev pub Refuses : List Lexeme → refusal.Refusal → Type 0
Refuses tokens refusals.Memory = Unit {0}
Refuses tokens (refusals.Unexpected k) = IsFineBefore tokens k × UnexpectedAt tokens k
Refuses tokens (refusals.TooDeep k) = IsFineBefore tokens k × TooDeepAt tokens k
