-- The grammar: which tokens spell which tree (C99 6.5 to 6.9), and what the limits count at each token.
use Rattle.std.specs.Prelude.{◌≡◌, ℕ, suc, ◌≤◌, List, [], ◌∷◌, ◌++◌, map, Option, Some, None, ◌⊎◌}
use Rattle.cc_tokens.specs.declared.scalar.Scalar.{Scalar}
use Rattle.cc_tokens.specs.declared.scalar.Scalar.TheVariants as scalar
use Rattle.cc_ast.specs.declared.ast.UnaryOperator.{UnaryOperator}
use Rattle.cc_ast.specs.declared.ast.UnaryOperator.TheVariants as unary
use Rattle.cc_ast.specs.declared.ast.BinaryOperator.{BinaryOperator}
use Rattle.cc_ast.specs.declared.ast.BinaryOperator.TheVariants as binary
use Rattle.cc_ast.specs.declared.ast.AssignmentOperator.{AssignmentOperator}
use Rattle.cc_ast.specs.declared.ast.AssignmentOperator.TheVariants as assignment
use Rattle.cc_ast.specs.declared.ast.StepOperator.{StepOperator}
use Rattle.cc_ast.specs.declared.ast.StepOperator.TheVariants as stepping
use Rattle.cc_tokens.specs.declared.token.Keyword.{Keyword}
use Rattle.cc_tokens.specs.declared.token.Keyword.TheVariants as keyword
use Rattle.cc_tokens.specs.declared.token.Punctuator.{Punctuator}
use Rattle.cc_tokens.specs.declared.token.Punctuator.TheVariants as punctuator
use Rattle.cc_tokens.specs.declared.token.TokenKind.TheVariants as kind
use Rattle.cc_tokens.specs.Token.{Lexeme}
use Rattle.cc_ast.specs.Tree.{Name, Expr, Number, Variable, Element, Call, Parenthesised, Unary, Cast, Binary, Conditional, Exprs, none, more, Target, AtVariable, AtElement, Action, Assign, Step, Evaluate, Declarator, Beginning, Declares, Performs, Stmt, Block, Local, Perform, Return, Break, Continue, If, IfElse, While, DoWhile, For, Stmts, end, next, ConstantExpr, Parameter, Signature, Object, Single, Array, Bytes, External, Declaration, Definition, Objects}

-- the punctuator of a unary operator (C99 6.5.3)
abbrev pub unary_punctuator : UnaryOperator → Punctuator
unary_punctuator unary.Plus = punctuator.Plus
unary_punctuator unary.Minus = punctuator.Minus
unary_punctuator unary.Complement = punctuator.Tilde
unary_punctuator unary.Not = punctuator.Exclamation

-- the punctuator of a binary operator (C99 6.5.5 to 6.5.14)
-- ORDER BinaryOperator
abbrev pub binary_punctuator : BinaryOperator → Punctuator
binary_punctuator binary.Multiply = punctuator.Star
binary_punctuator binary.Divide = punctuator.Slash
binary_punctuator binary.Remainder = punctuator.Percent
binary_punctuator binary.Add = punctuator.Plus
binary_punctuator binary.Subtract = punctuator.Minus
binary_punctuator binary.ShiftLeft = punctuator.ShiftLeft
binary_punctuator binary.ShiftRight = punctuator.ShiftRight
binary_punctuator binary.Less = punctuator.Less
binary_punctuator binary.Greater = punctuator.Greater
binary_punctuator binary.LessOrEqual = punctuator.LessOrEqual
binary_punctuator binary.GreaterOrEqual = punctuator.GreaterOrEqual
binary_punctuator binary.Equal = punctuator.Equal
binary_punctuator binary.NotEqual = punctuator.NotEqual
binary_punctuator binary.And = punctuator.Ampersand
binary_punctuator binary.Xor = punctuator.Caret
binary_punctuator binary.Or = punctuator.Bar
binary_punctuator binary.LogicalAnd = punctuator.AndAnd
binary_punctuator binary.LogicalOr = punctuator.OrOr

-- the punctuator of an assignment operator (C99 6.5.16)
abbrev pub assignment_punctuator : AssignmentOperator → Punctuator
assignment_punctuator assignment.Plain = punctuator.Assign
assignment_punctuator assignment.Multiply = punctuator.StarAssign
assignment_punctuator assignment.Divide = punctuator.SlashAssign
assignment_punctuator assignment.Remainder = punctuator.PercentAssign
assignment_punctuator assignment.Add = punctuator.PlusAssign
assignment_punctuator assignment.Subtract = punctuator.MinusAssign
assignment_punctuator assignment.ShiftLeft = punctuator.ShiftLeftAssign
assignment_punctuator assignment.ShiftRight = punctuator.ShiftRightAssign
assignment_punctuator assignment.And = punctuator.AmpersandAssign
assignment_punctuator assignment.Xor = punctuator.CaretAssign
assignment_punctuator assignment.Or = punctuator.BarAssign

-- the punctuator of an increment or decrement (C99 6.5.2.4, 6.5.3.1)
abbrev pub step_punctuator : StepOperator → Punctuator
step_punctuator stepping.Increment = punctuator.PlusPlus
step_punctuator stepping.Decrement = punctuator.MinusMinus

-- how tightly a binary operator binds: `||` (6.5.14), `&&` (6.5.13), `|` (6.5.12), `^` (6.5.11), `&` (6.5.10), equality (6.5.9),
-- relation (6.5.8), shift (6.5.7), sum (6.5.6), product (6.5.5). A conditional expression has level 1 (6.5.15), and the operand
-- of a unary operator or of a cast has level 12 (6.5.3, 6.5.4).
abbrev pub precedence : BinaryOperator → ℕ
precedence binary.Multiply = 11
precedence binary.Divide = 11
precedence binary.Remainder = 11
precedence binary.Add = 10
precedence binary.Subtract = 10
precedence binary.ShiftLeft = 9
precedence binary.ShiftRight = 9
precedence binary.Less = 8
precedence binary.Greater = 8
precedence binary.LessOrEqual = 8
precedence binary.GreaterOrEqual = 8
precedence binary.Equal = 7
precedence binary.NotEqual = 7
precedence binary.And = 6
precedence binary.Xor = 5
precedence binary.Or = 4
precedence binary.LogicalAnd = 3
precedence binary.LogicalOr = 2

-- a token is this punctuator
abbrev pub Marks : Punctuator → Lexeme → Type 0
Marks p x = x.kind ≡ kind.Punctuator p

-- a token is this keyword
abbrev pub IsKeyword : Keyword → Lexeme → Type 0
IsKeyword k x = x.kind ≡ kind.Keyword k

-- the token of an identifier
abbrev pub identifier : Name → Lexeme
identifier n = record { kind = kind.Identifier; text = n.text; at = n.at }

-- the keyword that gives a type its sign
abbrev pub sign_word : Scalar → Keyword
sign_word scalar.Int = keyword.Signed
sign_word scalar.Unsigned = keyword.Unsigned

-- a type: `int` by itself, or `signed` or `unsigned`, with or without `int` after it (C99 6.7.2)
abbrev pub SpellsType : List Lexeme → Scalar → Type 0
SpellsType ts t =
    ((word : Lexeme) × (t ≡ scalar.Int) × IsKeyword keyword.Int word × (ts ≡ word ∷ []))
    ⊎ (((word : Lexeme) × IsKeyword (sign_word t) word × (ts ≡ word ∷ []))
    ⊎ ((word int : Lexeme) × IsKeyword (sign_word t) word × IsKeyword keyword.Int int × (ts ≡ word ∷ int ∷ [])))

-- The tokens of an expression in which each operator outside parentheses binds at least as tightly as the level. A binary operator's left
-- operand has the operator's own level and its right operand the next one, so binary operators group to the left. A conditional expression
-- groups to the right. The operand of a unary operator or of a cast has level 12, so it contains no binary operator outside parentheses.
abbrev mutual
  pub SpellsExpression : ℕ → List Lexeme → Expr → Type 0
  SpellsExpression level ts (Number t n) = (x : Lexeme) × (x.kind ≡ kind.Number t n) × (ts ≡ x ∷ [])
  SpellsExpression level ts (Variable n) = ts ≡ identifier n ∷ []
  SpellsExpression level ts (Element n e) =
      (opening closing : Lexeme) × (inner : List Lexeme) × Marks punctuator.OpenBracket opening × Marks punctuator.CloseBracket closing
      × SpellsExpression 1 inner e × (ts ≡ identifier n ∷ opening ∷ inner ++ closing ∷ [])
  SpellsExpression level ts (Call n es) =
      (opening closing : Lexeme) × (inner : List Lexeme) × Marks punctuator.OpenParenthesis opening × Marks punctuator.CloseParenthesis closing
      × SpellsArguments inner es × (ts ≡ identifier n ∷ opening ∷ inner ++ closing ∷ [])
  SpellsExpression level ts (Parenthesised e) =
      (opening closing : Lexeme) × (inner : List Lexeme) × Marks punctuator.OpenParenthesis opening × Marks punctuator.CloseParenthesis closing
      × SpellsExpression 1 inner e × (ts ≡ opening ∷ inner ++ closing ∷ [])
  SpellsExpression level ts (Unary op e) =
      (sign : Lexeme) × (operand : List Lexeme) × Marks (unary_punctuator op) sign × SpellsExpression 12 operand e
      × (ts ≡ sign ∷ operand)
  SpellsExpression level ts (Cast t e) =
      (opening closing : Lexeme) × (type operand : List Lexeme) × Marks punctuator.OpenParenthesis opening × SpellsType type t
      × Marks punctuator.CloseParenthesis closing × SpellsExpression 12 operand e × (ts ≡ opening ∷ type ++ closing ∷ operand)
  SpellsExpression level ts (Binary op a b) =
      (sign : Lexeme) × (left right : List Lexeme) × (level ≤ precedence op) × Marks (binary_punctuator op) sign
      × SpellsExpression (precedence op) left a × SpellsExpression (suc (precedence op)) right b × (ts ≡ left ++ sign ∷ right)
  SpellsExpression level ts (Conditional c a b) =
      (question colon : Lexeme) × (test left right : List Lexeme) × (level ≤ 1) × Marks punctuator.Question question
      × Marks punctuator.Colon colon × SpellsExpression 2 test c × SpellsExpression 1 left a × SpellsExpression 1 right b
      × (ts ≡ test ++ (question ∷ left ++ colon ∷ right))

  -- no arguments, or one or more, separated by commas
  pub SpellsArguments : List Lexeme → Exprs → Type 0
  SpellsArguments ts none = ts ≡ []
  SpellsArguments ts (more e none) = SpellsExpression 1 ts e
  SpellsArguments ts (more e (more f es)) =
      (comma : Lexeme) × (first others : List Lexeme) × Marks punctuator.Comma comma × SpellsExpression 1 first e
      × SpellsArguments others (more f es) × (ts ≡ first ++ comma ∷ others)

-- what an assignment writes to: a name, or a name and an index, without parentheses (C99 6.5.16)
abbrev pub SpellsTarget : List Lexeme → Target → Type 0
SpellsTarget ts (AtVariable n) = SpellsExpression 1 ts (Variable n)
SpellsTarget ts (AtElement n e) = SpellsExpression 1 ts (Element n e)

-- an assignment, an increment or decrement with its operator before or after the target, or an expression (C99 6.8.3)
abbrev pub SpellsAction : List Lexeme → Action → Type 0
SpellsAction ts (Assign op t e) =
    (sign : Lexeme) × (left right : List Lexeme) × SpellsTarget left t × Marks (assignment_punctuator op) sign
    × SpellsExpression 1 right e × (ts ≡ left ++ sign ∷ right)
SpellsAction ts (Step op t) =
    (sign : Lexeme) × (target : List Lexeme) × Marks (step_punctuator op) sign × SpellsTarget target t
    × ((ts ≡ sign ∷ target) ⊎ (ts ≡ target ++ sign ∷ []))
SpellsAction ts (Evaluate e) = SpellsExpression 1 ts e

-- a token of a unit, with what the limits count: its number within its full expression, counted from 1 (0 if the token is in no
-- full expression), and the level of the statement or declaration that it begins (0 if it begins none)
pub record Measured : Type 0 where
  pub token : Lexeme
  pub count : ℕ
  pub level : ℕ

-- a token that belongs to no full expression
abbrev pub outside : Lexeme → Measured
outside x = record { token = x; count = 0; level = 0 }

-- the tokens of a full expression, after its first `n` tokens
abbrev pub full_after : ℕ → List Lexeme → List Measured
full_after n [] = []
full_after n (x ∷ xs) = record { token = x; count = suc n; level = 0 } ∷ full_after (suc n) xs

-- the tokens of a whole full expression
abbrev pub full : List Lexeme → List Measured
full xs = full_after 0 xs

-- the tokens of a statement or declaration at this level
abbrev pub begins : ℕ → List Measured → List Measured
begins level [] = []
begins level (p ∷ ps) = record { token = p.token; count = p.count; level = level } ∷ ps

-- one or more parts, separated by commas
abbrev pub SpellsRow : {A : Type 0} → (List Measured → A → Type 0) → List Measured → List A → Type 0
SpellsRow Spells ts [] = ⊥
SpellsRow Spells ts (a ∷ []) = Spells ts a
SpellsRow Spells ts (a ∷ b ∷ rest) =
    (comma : Lexeme) × (first others : List Measured) × Marks punctuator.Comma comma × Spells first a
    × SpellsRow Spells others (b ∷ rest) × (ts ≡ first ++ outside comma ∷ others)

-- one name in a declaration of locals, and its initialiser if there is one (C99 6.7)
abbrev pub SpellsInitial : List Measured → Option Expr → Type 0
SpellsInitial ts None = ts ≡ []
SpellsInitial ts (Some e) =
    (sign : Lexeme) × (right : List Lexeme) × Marks punctuator.Assign sign × SpellsExpression 1 right e × (ts ≡ outside sign ∷ full right)

abbrev pub SpellsDeclarator : List Measured → Declarator → Type 0
SpellsDeclarator ts d = (initial : List Measured) × SpellsInitial initial d.initial × (ts ≡ outside (identifier d.name) ∷ initial)

-- a declaration of locals: a type, one or more names, and a semicolon (C99 6.7)
abbrev pub SpellsLocal : List Measured → Scalar → List Declarator → Type 0
SpellsLocal ts t ds =
    (type : List Lexeme) × (names : List Measured) × (semicolon : Lexeme) × SpellsType type t × SpellsRow SpellsDeclarator names ds
    × Marks punctuator.Semicolon semicolon × (ts ≡ map outside type ++ (names ++ outside semicolon ∷ []))

-- a full expression or nothing
abbrev pub SpellsOptional : List Measured → Option Expr → Type 0
SpellsOptional ts None = ts ≡ []
SpellsOptional ts (Some e) = (inner : List Lexeme) × SpellsExpression 1 inner e × (ts ≡ full inner)

-- an action, which is one full expression, or nothing
abbrev pub SpellsOptionalAction : List Measured → Option Action → Type 0
SpellsOptionalAction ts None = ts ≡ []
SpellsOptionalAction ts (Some a) = (inner : List Lexeme) × SpellsAction inner a × (ts ≡ full inner)

-- the first part of a `for` header, with its semicolon; a declaration there has this level (C99 6.8.5.3)
abbrev pub SpellsBeginning : ℕ → List Measured → Beginning → Type 0
SpellsBeginning level ts (Declares t ds) = (inner : List Measured) × SpellsLocal inner t ds × (ts ≡ begins level inner)
SpellsBeginning level ts (Performs a) =
    (inner : List Measured) × (semicolon : Lexeme) × SpellsOptionalAction inner a × Marks punctuator.Semicolon semicolon
    × (ts ≡ inner ++ outside semicolon ∷ [])

-- not a declaration (C99 6.8)
abbrev pub IsStatement : Stmt → Type 0
IsStatement (Local t ds) = ⊥
IsStatement s = Unit {0}

-- no `if` at the end of the statement could take an `else` that follows the statement (C99 6.8.4.1, paragraph 3)
abbrev pub IsClosed : Stmt → Type 0
IsClosed (If e s) = ⊥
IsClosed (IfElse e s t) = IsClosed t
IsClosed (While e s) = IsClosed s
IsClosed (For a e b s) = IsClosed s
IsClosed s = Unit {0}

-- A statement, or a declaration of locals, at a level (C99 6.8, 6.7). What lies directly in a block, or is a part of an `if` or a
-- loop, is one level deeper. The full expressions (6.8) are an action, a condition, the operand of a return, and an initialiser.
-- The statement between an `if` and its `else` is closed, so an `else` belongs to the nearest `if`.
abbrev mutual
  pub SpellsStatement : ℕ → List Measured → Stmt → Type 0
  SpellsStatement level ts (Block ss) =
      (opening closing : Lexeme) × (inner : List Measured) × Marks punctuator.OpenBrace opening × Marks punctuator.CloseBrace closing
      × SpellsStatements (suc level) inner ss × (ts ≡ begins level (outside opening ∷ inner ++ outside closing ∷ []))
  SpellsStatement level ts (Local t ds) = (inner : List Measured) × SpellsLocal inner t ds × (ts ≡ begins level inner)
  SpellsStatement level ts (Perform a) =
      (inner : List Measured) × (semicolon : Lexeme) × SpellsOptionalAction inner a × Marks punctuator.Semicolon semicolon
      × (ts ≡ begins level (inner ++ outside semicolon ∷ []))
  SpellsStatement level ts (Return at e) =
      (word semicolon : Lexeme) × (operand : List Measured) × IsKeyword keyword.Return word × (word.at ≡ at)
      × Marks punctuator.Semicolon semicolon × SpellsOptional operand e
      × (ts ≡ begins level (outside word ∷ operand ++ outside semicolon ∷ []))
  SpellsStatement level ts (Break at) =
      (word semicolon : Lexeme) × IsKeyword keyword.Break word × (word.at ≡ at) × Marks punctuator.Semicolon semicolon
      × (ts ≡ begins level (outside word ∷ outside semicolon ∷ []))
  SpellsStatement level ts (Continue at) =
      (word semicolon : Lexeme) × IsKeyword keyword.Continue word × (word.at ≡ at) × Marks punctuator.Semicolon semicolon
      × (ts ≡ begins level (outside word ∷ outside semicolon ∷ []))
  SpellsStatement level ts (If e s) =
      (word opening closing : Lexeme) × (test : List Lexeme) × (part : List Measured) × IsKeyword keyword.If word
      × Marks punctuator.OpenParenthesis opening × Marks punctuator.CloseParenthesis closing × SpellsExpression 1 test e
      × SpellsStatement (suc level) part s × IsStatement s
      × (ts ≡ begins level (outside word ∷ outside opening ∷ full test ++ outside closing ∷ part))
  SpellsStatement level ts (IfElse e s t) =
      (word opening closing other : Lexeme) × (test : List Lexeme) × (part last : List Measured) × IsKeyword keyword.If word
      × Marks punctuator.OpenParenthesis opening × Marks punctuator.CloseParenthesis closing × IsKeyword keyword.Else other
      × SpellsExpression 1 test e × SpellsStatement (suc level) part s × IsStatement s × IsClosed s
      × SpellsStatement (suc level) last t × IsStatement t
      × (ts ≡ begins level (outside word ∷ outside opening ∷ full test ++ (outside closing ∷ part ++ outside other ∷ last)))
  SpellsStatement level ts (While e s) =
      (word opening closing : Lexeme) × (test : List Lexeme) × (body : List Measured) × IsKeyword keyword.While word
      × Marks punctuator.OpenParenthesis opening × Marks punctuator.CloseParenthesis closing × SpellsExpression 1 test e
      × SpellsStatement (suc level) body s × IsStatement s
      × (ts ≡ begins level (outside word ∷ outside opening ∷ full test ++ outside closing ∷ body))
  SpellsStatement level ts (DoWhile s e) =
      (word while opening closing semicolon : Lexeme) × (body : List Measured) × (test : List Lexeme) × IsKeyword keyword.Do word
      × IsKeyword keyword.While while × Marks punctuator.OpenParenthesis opening × Marks punctuator.CloseParenthesis closing
      × Marks punctuator.Semicolon semicolon × SpellsStatement (suc level) body s × IsStatement s × SpellsExpression 1 test e
      × (ts ≡ begins level (outside word ∷ body ++ (outside while ∷ outside opening ∷ full test ++ outside closing ∷ outside semicolon ∷ [])))
  SpellsStatement level ts (For a e b s) =
      (word opening semicolon closing : Lexeme) × (starting test last body : List Measured) × IsKeyword keyword.For word
      × Marks punctuator.OpenParenthesis opening × Marks punctuator.Semicolon semicolon × Marks punctuator.CloseParenthesis closing
      × SpellsBeginning (suc level) starting a × SpellsOptional test e × SpellsOptionalAction last b
      × SpellsStatement (suc level) body s × IsStatement s
      × (ts ≡ begins level (outside word ∷ outside opening ∷ starting ++ (test ++ (outside semicolon ∷ last ++ outside closing ∷ body))))

  pub SpellsStatements : ℕ → List Measured → Stmts → Type 0
  SpellsStatements level ts end = ts ≡ []
  SpellsStatements level ts (next s ss) =
      (first others : List Measured) × SpellsStatement level first s × SpellsStatements level others ss × (ts ≡ first ++ others)

-- the offset of the first token
abbrev pub BeginsAt : ℕ → List Lexeme → Type 0
BeginsAt at [] = ⊥
BeginsAt at (x ∷ xs) = x.at ≡ at

-- a constant expression, which is a full expression (C99 6.6)
abbrev pub SpellsConstantExpr : List Measured → ConstantExpr → Type 0
SpellsConstantExpr ts c = (inner : List Lexeme) × SpellsExpression 1 inner c.expr × BeginsAt c.at inner × (ts ≡ full inner)

abbrev pub SpellsOptionalConstant : List Measured → Option ConstantExpr → Type 0
SpellsOptionalConstant ts None = ts ≡ []
SpellsOptionalConstant ts (Some c) = SpellsConstantExpr ts c

-- a comma or nothing
abbrev pub IsOptionalComma : List Lexeme → Type 0
IsOptionalComma ts = (ts ≡ []) ⊎ ((comma : Lexeme) × Marks punctuator.Comma comma × (ts ≡ comma ∷ []))

-- the initialiser list of an array: nothing if there are no values; a comma may follow the last value (C99 6.7.8)
abbrev pub SpellsList : List Measured → List ConstantExpr → Type 0
SpellsList ts [] = ts ≡ []
SpellsList ts (v ∷ vs) =
    (sign opening closing : Lexeme) × (row : List Measured) × (comma : List Lexeme) × Marks punctuator.Assign sign
    × Marks punctuator.OpenBrace opening × Marks punctuator.CloseBrace closing × SpellsRow SpellsConstantExpr row (v ∷ vs)
    × IsOptionalComma comma × (ts ≡ outside sign ∷ outside opening ∷ row ++ (map outside comma ++ outside closing ∷ []))

-- the name of an array, its length and its initialiser list (C99 6.7.5.2, 6.7.8)
abbrev pub SpellsArray : List Measured → Name → Option ConstantExpr → List ConstantExpr → Type 0
SpellsArray ts n size values =
    (opening closing : Lexeme) × (inner list : List Measured) × Marks punctuator.OpenBracket opening × Marks punctuator.CloseBracket closing
    × SpellsOptionalConstant inner size × SpellsList list values
    × (ts ≡ outside (identifier n) ∷ outside opening ∷ inner ++ outside closing ∷ list)

-- one name in a declaration of objects of a type (C99 6.7)
abbrev pub SpellsObject : List Measured → Object → Type 0
SpellsObject ts (Single n None) = ts ≡ outside (identifier n) ∷ []
SpellsObject ts (Single n (Some c)) =
    (sign : Lexeme) × (right : List Measured) × Marks punctuator.Assign sign × SpellsConstantExpr right c
    × (ts ≡ outside (identifier n) ∷ outside sign ∷ right)
SpellsObject ts (Array n size values) = SpellsArray ts n size values
SpellsObject ts (Bytes n size values) = ⊥

-- one name in a declaration of arrays of `unsigned char`
abbrev pub SpellsByteArray : List Measured → Object → Type 0
SpellsByteArray ts (Single n e) = ⊥
SpellsByteArray ts (Array n size values) = ⊥
SpellsByteArray ts (Bytes n size values) = SpellsArray ts n size values

-- `unsigned char`
abbrev pub SpellsUnsignedChar : List Lexeme → Type 0
SpellsUnsignedChar ts = (sign word : Lexeme) × IsKeyword keyword.Unsigned sign × IsKeyword keyword.Char word × (ts ≡ sign ∷ word ∷ [])

-- a declaration of objects: the tokens before their names, the names, and a semicolon
abbrev pub SpellsObjects : (List Lexeme → Type 0) → (List Measured → Object → Type 0) → List Measured → List Object → Type 0
SpellsObjects Prefix Each ts os =
    (type : List Lexeme) × (row : List Measured) × (semicolon : Lexeme) × Prefix type × SpellsRow Each row os
    × Marks punctuator.Semicolon semicolon × (ts ≡ map outside type ++ (row ++ outside semicolon ∷ []))

-- the token of a name that may be absent
abbrev pub optional_identifier : Option Name → List Lexeme
optional_identifier None = []
optional_identifier (Some n) = identifier n ∷ []

-- a parameter: its type, and its name if it has one (C99 6.7.5.3)
abbrev pub SpellsParameter : List Measured → Parameter → Type 0
SpellsParameter ts p =
    (type : List Lexeme) × SpellsType type p.scalar × (ts ≡ map outside type ++ map outside (optional_identifier p.name))

-- `void` or nothing, or one or more parameters
abbrev pub SpellsParameters : List Measured → List Parameter → Type 0
SpellsParameters ts [] = (ts ≡ []) ⊎ ((word : Lexeme) × IsKeyword keyword.Void word × (ts ≡ outside word ∷ []))
SpellsParameters ts (p ∷ ps) = SpellsRow SpellsParameter ts (p ∷ ps)

-- the type of a function's result
abbrev pub SpellsResult : List Lexeme → Option Scalar → Type 0
SpellsResult ts None = (word : Lexeme) × IsKeyword keyword.Void word × (ts ≡ word ∷ [])
SpellsResult ts (Some t) = SpellsType ts t

-- a function's result, name and parameters (C99 6.7.5.3)
abbrev pub SpellsSignature : List Measured → Signature → Type 0
SpellsSignature ts f =
    (type : List Lexeme) × (opening closing : Lexeme) × (parameters : List Measured) × SpellsResult type f.result
    × Marks punctuator.OpenParenthesis opening × Marks punctuator.CloseParenthesis closing × SpellsParameters parameters f.parameters
    × (ts ≡ map outside type ++ (outside (identifier f.name) ∷ outside opening ∷ parameters ++ outside closing ∷ []))

-- each parameter has a name
abbrev pub AreNamed : List Parameter → Type 0
AreNamed [] = Unit {0}
AreNamed (p ∷ ps) = ((n : Name) × (p.name ≡ Some n)) × AreNamed ps

-- an external declaration (C99 6.9). The body of a definition is a block at level 1, and its parameters have names.
abbrev pub SpellsExternal : List Measured → External → Type 0
SpellsExternal ts (Declaration f) =
    (head : List Measured) × (semicolon : Lexeme) × SpellsSignature head f × Marks punctuator.Semicolon semicolon
    × (ts ≡ head ++ outside semicolon ∷ [])
SpellsExternal ts (Definition f body) =
    (head block : List Measured) × SpellsSignature head f × AreNamed f.parameters × SpellsStatement 1 block (Block body)
    × (ts ≡ head ++ block)
SpellsExternal ts (Objects t os) =
    SpellsObjects (λ type. SpellsType type t) SpellsObject ts os ⊎ ((t ≡ scalar.Unsigned) × SpellsObjects SpellsUnsignedChar SpellsByteArray ts os)

-- external declarations, one after another
abbrev pub SpellsExternals : List Measured → List External → Type 0
SpellsExternals ts [] = ts ≡ []
SpellsExternals ts (e ∷ es) = (first others : List Measured) × SpellsExternal first e × SpellsExternals others es × (ts ≡ first ++ others)

-- a whole unit: one or more external declarations (C99 6.9)
abbrev pub SpellsUnit : List Measured → List External → Type 0
SpellsUnit ts [] = ⊥
SpellsUnit ts (e ∷ es) = SpellsExternals ts (e ∷ es)

-- the tokens without what the limits count
abbrev pub plain_tokens : List Measured → List Lexeme
plain_tokens ts = map (λ p. p.token) ts

-- the tokens spell the tree; the limits need not hold
abbrev pub Spells : List Lexeme → List External → Type 0
Spells tokens tree = (ts : List Measured) × SpellsUnit ts tree × (plain_tokens ts ≡ tokens)

-- some unit begins with these tokens; the limits need not hold
abbrev pub Begins : List Lexeme → Type 0
Begins tokens = (rest : List Lexeme) × (tree : List External) × Spells (tokens ++ rest) tree
