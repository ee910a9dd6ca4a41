-- What the tokens before a state in a body spell. A statement that has begun is described by what would complete it: whatever
-- the missing parts are, the tokens together with them spell the statement. So this is proved once, at the beginning of the
-- statement, and each further token supplies a part.
use Rattle.std.proofs.Common.{◌≡◌, ℕ, suc, List, [], ◌∷◌, ◌++◌, ◌⊎◌, length, map, Option, Some}
use Rattle.cc_tokens.specs.declared.scalar.Scalar.{Scalar}
use Rattle.cc_tokens.specs.declared.token.Keyword.TheVariants as keyword
use Rattle.cc_tokens.specs.declared.token.Punctuator.TheVariants as punctuator
use Rattle.cc_tokens.specs.Token.{Lexeme}
use Rattle.cc_ast.specs.Tree.{Expr, Action, Step, Declarator, Beginning, Declares, Performs, Stmt, Local, Perform, Return, If, IfElse, While, DoWhile, For, Stmts, Signature, External}
use Rattle.cc_ast.specs.Grammar.{Measured, outside, full, begins, identifier, Marks, IsKeyword, sign_word, assignment_punctuator, step_punctuator, SpellsType, SpellsExpression, SpellsTarget, SpellsAction, SpellsRow, SpellsDeclarator, SpellsLocal, SpellsOptional, SpellsOptionalAction, SpellsBeginning, SpellsStatement, SpellsStatements, IsStatement, IsClosed, SpellsSignature, AreNamed, SpellsExternals}
use Rattle.cc_syntax.specs.internal.Parser.{Stage, Item, AfterThen, AfterDo, Testing, Ending, Returning, ForOpening, ForStarting, ForTesting, ForStepping, LocalSign, Declaring, HasDeclared, Stepping, StepNamed, Stepped, Purpose, ToPerform, ToAssign, ToStep, ToReturn, ToTest, ToGoOn, ToInitialise, Test, ForIf, ForWhile, ForDo, Position, AsLocal, AsHeader, Spot, AsStatement, AsStart, AsLast, Open, InBlock, InThen, InElse, InWhile, InDo, InFor}
use Rattle.cc_syntax.proofs.Forms.{count_after}
use Rattle.cc_syntax.proofs.ReadsAction.{terminator}
use Rattle.cc_syntax.proofs.ReadsStatement.{CanStand}

-- the level of what begins inside these open statements
abbrev pub depth : List Open → ℕ
depth os = suc (suc (length os))

-- the first token of something that begins at a level
abbrev pub first : ℕ → ℕ → Lexeme → Measured
first level n x = record { token = x; count = n; level = level }

-- the tokens spell these parts, each with its comma
abbrev pub RowSoFar : {A : Type 0} → (List Measured → A → Type 0) → List Measured → List A → Type 0
RowSoFar {A} Spells ts done =
    ((done ≡ []) × (ts ≡ []))
    ⊎ ((prefix : List Measured) × (comma : Lexeme) × SpellsRow Spells prefix done × Marks punctuator.Comma comma × (ts ≡ prefix ++ outside comma ∷ []))

-- `mine` are the tokens of the statement before its semicolon
abbrev pub EndingSoFar : Stmt → List Open → List Measured → Type 0
EndingSoFar s os mine = ((x : Lexeme) → Marks punctuator.Semicolon x → SpellsStatement (depth os) (mine ++ outside x ∷ []) s) × IsClosed s × IsStatement s

-- `mine` are the tokens of an `if` before its first part
abbrev pub ThenSoFar : Expr → List Open → List Measured → Type 0
ThenSoFar e os mine =
    ((part : List Measured) (s : Stmt) → SpellsStatement (suc (depth os)) part s → IsStatement s → SpellsStatement (depth os) (mine ++ part) (If e s))
    × ((part last : List Measured) (other : Lexeme) (s t : Stmt) → SpellsStatement (suc (depth os)) part s → IsStatement s → IsClosed s → IsKeyword keyword.Else other
    → SpellsStatement (suc (depth os)) last t → IsStatement t → SpellsStatement (depth os) (((mine ++ part) ++ outside other ∷ []) ++ last) (IfElse e s t))

-- `mine` are the tokens of a statement before its last part
abbrev pub PartSoFar : (Stmt → Stmt) → List Open → List Measured → Type 0
PartSoFar whole os mine =
    (part : List Measured) (s : Stmt) → SpellsStatement (suc (depth os)) part s → IsStatement s → SpellsStatement (depth os) (mine ++ part) (whole s)

-- `mine` are the tokens of a statement up to a condition in parentheses, to the inside of the parentheses, or to the place
-- before them
abbrev pub TestedSoFar : Test → Expr → List Open → List Measured → Type 0
TestedSoFar ForIf e os mine = ThenSoFar e os mine
TestedSoFar ForWhile e os mine = PartSoFar (λ s. While e s) os mine
TestedSoFar (ForDo s) e os mine = EndingSoFar (DoWhile s e) os mine

abbrev pub ConditionSoFar : Test → List Open → List Measured → Type 0
ConditionSoFar k os mine =
    (test : List Lexeme) (e : Expr) (closing : Lexeme) → SpellsExpression 1 test e → Marks punctuator.CloseParenthesis closing
    → TestedSoFar k e os (mine ++ (full test ++ outside closing ∷ []))

abbrev pub TestingSoFar : Test → List Open → List Measured → Type 0
TestingSoFar k os mine = (opening : Lexeme) → Marks punctuator.OpenParenthesis opening → ConditionSoFar k os (mine ++ outside opening ∷ [])

-- `mine` are the tokens of a `do` up to the end of its body
abbrev pub DoSoFar : Stmt → List Open → List Measured → Type 0
DoSoFar s os mine = (word : Lexeme) → IsKeyword keyword.While word → TestingSoFar (ForDo s) os (mine ++ outside word ∷ [])

-- `mine` are the tokens of a `for` before the last part of its header, before the condition, or before the first part
abbrev pub SteppingSoFar : Beginning → Option Expr → List Open → List Measured → Type 0
SteppingSoFar a e os mine =
    (last : List Measured) (l : Option Action) (closing : Lexeme) → SpellsOptionalAction last l → Marks punctuator.CloseParenthesis closing
    → PartSoFar (λ s. For a e l s) os (mine ++ (last ++ outside closing ∷ []))

abbrev pub GoingSoFar : Beginning → List Open → List Measured → Type 0
GoingSoFar a os mine =
    (test : List Measured) (e : Option Expr) (x : Lexeme) → SpellsOptional test e → Marks punctuator.Semicolon x
    → SteppingSoFar a e os (mine ++ (test ++ outside x ∷ []))

abbrev pub StartingSoFar : List Open → List Measured → Type 0
StartingSoFar os mine = (starting : List Measured) (a : Beginning) → SpellsBeginning (suc (depth os)) starting a → GoingSoFar a os (mine ++ starting)

abbrev pub ReturningSoFar : ℕ → List Open → List Measured → Type 0
ReturningSoFar at os mine =
    (operand : List Measured) (e : Option Expr) (x : Lexeme) → SpellsOptional operand e → Marks punctuator.Semicolon x
    → SpellsStatement (depth os) (mine ++ (operand ++ outside x ∷ [])) (Return at e)

-- `mine` are the tokens of a statement up to the token that ends an action
abbrev pub ActedSoFar : Spot → Action → List Open → List Measured → Type 0
ActedSoFar AsStatement a os mine = SpellsStatement (depth os) mine (Perform (Some a))
ActedSoFar AsStart a os mine = GoingSoFar (Performs (Some a)) os mine
ActedSoFar (AsLast s e) a os mine = PartSoFar (λ t. For s e (Some a) t) os mine

-- the tokens of an action; if the action is a statement, its first token has the statement's level
abbrev pub leads : Spot → List Open → List Measured → List Measured
leads AsStatement os ts = begins (depth os) ts
leads _ os ts = ts

abbrev pub SpotSoFar : Spot → List Open → List Measured → Type 0
SpotSoFar p os mine =
    (xs : List Lexeme) (a : Action) (x : Lexeme) → SpellsAction xs a → x.kind ≡ terminator p
    → ActedSoFar p a os (mine ++ leads p os (full xs ++ outside x ∷ []))

-- `mine` are the tokens of a statement up to the end of a declaration
abbrev pub DeclaredSoFar : Position → Scalar → List Declarator → List Open → List Measured → Type 0
DeclaredSoFar AsLocal t ds os mine = SpellsStatement (depth os) mine (Local t ds) × CanStand os (Local t ds)
DeclaredSoFar AsHeader t ds os mine = GoingSoFar (Declares t ds) os mine

abbrev pub position_level : Position → List Open → ℕ
position_level AsLocal os = depth os
position_level AsHeader os = suc (depth os)

abbrev pub DeclarationSoFar : Position → List Open → List Measured → Type 0
DeclarationSoFar w os mine =
    (inner : List Measured) (t : Scalar) (ds : List Declarator) → SpellsLocal inner t ds → DeclaredSoFar w t ds os (mine ++ begins (position_level w os) inner)

-- `mine` are tokens up to the type and some names of a declaration, and then further tokens
abbrev pub NamedSoFar : Position → Scalar → List Declarator → List Measured → List Open → List Measured → Type 0
NamedSoFar w t ds behind os mine =
    (before names : List Measured) × (word : Lexeme) × (others : List Lexeme) × DeclarationSoFar w os before × SpellsType (word ∷ others) t
    × RowSoFar SpellsDeclarator names ds × (mine ≡ before ++ (first (position_level w os) 0 word ∷ (map outside others ++ (names ++ behind))))

-- `mine` are the tokens so far of a statement that has begun and is not complete
abbrev pub OpenSoFar : Open → List Open → List Measured → Type 0
OpenSoFar (InBlock ss) os mine =
    (opening : Lexeme) × (inner : List Measured) × Marks punctuator.OpenBrace opening × SpellsStatements (suc (depth os)) inner ss
    × (mine ≡ first (depth os) 0 opening ∷ inner)
OpenSoFar (InThen e) os mine = ThenSoFar e os mine
OpenSoFar (InElse e s) os mine = PartSoFar (λ t. IfElse e s t) os mine × IsClosed s
OpenSoFar (InWhile e) os mine = PartSoFar (λ s. While e s) os mine
OpenSoFar InDo os mine =
    (part : List Measured) (s : Stmt) → SpellsStatement (suc (depth os)) part s → IsStatement s → DoSoFar s os (mine ++ part)
OpenSoFar (InFor a e l) os mine = PartSoFar (λ s. For a e l s) os mine

-- the tokens spell the external declarations before a function, and then the function's head
abbrev pub HeadSoFar : List External → Signature → List Measured → Type 0
HeadSoFar es f ts = (before head : List Measured) × SpellsExternals before es × SpellsSignature head f × (ts ≡ before ++ head)

-- between two statements, the tokens spell what has been read of the text
abbrev pub BodySoFar : List External → Signature → Stmts → List Open → List Measured → Type 0
BodySoFar es f d [] ts =
    (head inner : List Measured) × (opening : Lexeme) × HeadSoFar es f head × AreNamed f.parameters × Marks punctuator.OpenBrace opening
    × SpellsStatements 2 inner d × (ts ≡ head ++ first 1 0 opening ∷ inner)
BodySoFar es f d (o ∷ os) ts =
    (before mine : List Measured) × BodySoFar es f d os before × OpenSoFar o os mine × (ts ≡ before ++ mine)

-- `mine` are the tokens so far of the innermost statement, outside full expressions
abbrev pub StageSoFar : Stage → List Open → List Measured → Type 0
StageSoFar Item os mine = mine ≡ []
StageSoFar (AfterThen e s) os mine =
    (before part : List Measured) × ThenSoFar e os before × SpellsStatement (suc (depth os)) part s × IsStatement s × IsClosed s × (mine ≡ before ++ part)
StageSoFar (AfterDo s) os mine = DoSoFar s os mine
StageSoFar (Testing k) os mine = TestingSoFar k os mine
StageSoFar (Ending s) os mine = EndingSoFar s os mine
StageSoFar (Returning at) os mine = ReturningSoFar at os mine
StageSoFar ForOpening os mine = (opening : Lexeme) → Marks punctuator.OpenParenthesis opening → StartingSoFar os (mine ++ outside opening ∷ [])
StageSoFar ForStarting os mine = StartingSoFar os mine
StageSoFar (ForTesting a) os mine = GoingSoFar a os mine
StageSoFar (ForStepping a e) os mine = SteppingSoFar a e os mine
StageSoFar (LocalSign w t) os mine =
    (before : List Measured) × (word : Lexeme) × DeclarationSoFar w os before × IsKeyword (sign_word t) word
    × (mine ≡ before ++ first (position_level w os) 0 word ∷ [])
StageSoFar (Declaring w t ds) os mine = NamedSoFar w t ds [] os mine
StageSoFar (HasDeclared w t ds v) os mine = NamedSoFar w t ds (outside (identifier v) ∷ []) os mine
StageSoFar (Stepping op p) os mine =
    (before : List Measured) × (sign : Lexeme) × SpotSoFar p os before × Marks (step_punctuator op) sign × (mine ≡ before ++ leads p os (full (sign ∷ [])))
StageSoFar (StepNamed op v p) os mine =
    (before : List Measured) × (sign : Lexeme) × SpotSoFar p os before × Marks (step_punctuator op) sign
    × (mine ≡ before ++ leads p os (full (sign ∷ identifier v ∷ [])))
StageSoFar (Stepped op t p k) os mine =
    (before : List Measured) × (x : Lexeme) × (xs : List Lexeme) × SpotSoFar p os before × SpellsAction (x ∷ xs) (Step op t) × (k ≡ count_after 0 (x ∷ xs))
    × (mine ≡ before ++ leads p os (full (x ∷ xs)))

-- what the action is that a full expression with this purpose belongs to
abbrev pub spot_of : Purpose → Spot
spot_of (ToPerform p) = p
spot_of (ToAssign op t p) = p
spot_of (ToStep op n p) = p
spot_of _ = AsStart

-- the tokens before a full expression of a statement, and those of the same full expression that precede the expression
abbrev pub PurposeSoFar : Purpose → List Open → List Measured → List Lexeme → Type 0
PurposeSoFar (ToPerform p) os mine xs = (xs ≡ []) × SpotSoFar p os mine
PurposeSoFar (ToAssign op t p) os mine xs =
    (left : List Lexeme) × (sign : Lexeme) × SpotSoFar p os mine × SpellsTarget left t × Marks (assignment_punctuator op) sign × (xs ≡ left ++ sign ∷ [])
PurposeSoFar (ToStep op n p) os mine xs =
    (sign opening : Lexeme) × SpotSoFar p os mine × Marks (step_punctuator op) sign × Marks punctuator.OpenBracket opening
    × (xs ≡ sign ∷ identifier n ∷ opening ∷ [])
PurposeSoFar (ToReturn at) os mine xs = (xs ≡ []) × ReturningSoFar at os mine
PurposeSoFar (ToTest k) os mine xs = (xs ≡ []) × ConditionSoFar k os mine
PurposeSoFar (ToGoOn a) os mine xs = (xs ≡ []) × GoingSoFar a os mine
PurposeSoFar (ToInitialise w t ds v) os mine xs =
    (sign : Lexeme) × Marks punctuator.Assign sign × (xs ≡ []) × NamedSoFar w t ds (outside (identifier v) ∷ outside sign ∷ []) os mine
