-- The role of a token in the grammar.
use Rattle.cc_tokens.specs.declared.scalar.Scalar.TheVariants as scalar
use Rattle.cc_ast.specs.declared.ast.UnaryOperator.TheVariants as unary
use Rattle.cc_ast.specs.declared.ast.BinaryOperator.TheVariants as binary
use Rattle.cc_ast.specs.declared.ast.AssignmentOperator.TheVariants as assignment
use Rattle.cc_ast.specs.declared.ast.StepOperator.TheVariants as stepping
use Rattle.cc_tokens.specs.declared.token.Keyword.{Keyword}
use Rattle.cc_tokens.specs.declared.token.Keyword.TheVariants as keyword
use Rattle.cc_tokens.specs.declared.token.Punctuator.{Punctuator}
use Rattle.cc_tokens.specs.declared.token.Punctuator.TheVariants as punctuator
use Rattle.cc_tokens.specs.declared.token.TokenKind.{TokenKind}
use Rattle.cc_tokens.specs.declared.token.TokenKind.TheVariants as kind
use Rattle.cc_syntax.specs.declared.parser.role.Role.{Role}
use Rattle.cc_syntax.specs.declared.parser.role.Role.TheVariants as role

abbrev pub keyword_role : Keyword → Role
keyword_role keyword.Int = role.Int
keyword_role keyword.Char = role.Char
keyword_role keyword.Signed = role.SignWord scalar.Int
keyword_role keyword.Unsigned = role.SignWord scalar.Unsigned
keyword_role keyword.Void = role.Void
keyword_role keyword.Return = role.Return
keyword_role keyword.Break = role.Break
keyword_role keyword.Continue = role.Continue
keyword_role keyword.If = role.If
keyword_role keyword.Else = role.Else
keyword_role keyword.While = role.While
keyword_role keyword.Do = role.Do
keyword_role keyword.For = role.For
keyword_role _ = role.Other

abbrev pub punctuator_role : Punctuator → Role
punctuator_role punctuator.OpenParenthesis = role.OpenParenthesis
punctuator_role punctuator.CloseParenthesis = role.CloseParenthesis
punctuator_role punctuator.OpenBracket = role.OpenBracket
punctuator_role punctuator.CloseBracket = role.CloseBracket
punctuator_role punctuator.OpenBrace = role.OpenBrace
punctuator_role punctuator.CloseBrace = role.CloseBrace
punctuator_role punctuator.Semicolon = role.Semicolon
punctuator_role punctuator.Comma = role.Comma
punctuator_role punctuator.Question = role.Question
punctuator_role punctuator.Colon = role.Colon
punctuator_role punctuator.Plus = role.Plus
punctuator_role punctuator.Minus = role.Minus
punctuator_role punctuator.Star = role.Infix binary.Multiply
punctuator_role punctuator.Slash = role.Infix binary.Divide
punctuator_role punctuator.Percent = role.Infix binary.Remainder
punctuator_role punctuator.ShiftLeft = role.Infix binary.ShiftLeft
punctuator_role punctuator.ShiftRight = role.Infix binary.ShiftRight
punctuator_role punctuator.Less = role.Infix binary.Less
punctuator_role punctuator.Greater = role.Infix binary.Greater
punctuator_role punctuator.LessOrEqual = role.Infix binary.LessOrEqual
punctuator_role punctuator.GreaterOrEqual = role.Infix binary.GreaterOrEqual
punctuator_role punctuator.Equal = role.Infix binary.Equal
punctuator_role punctuator.NotEqual = role.Infix binary.NotEqual
punctuator_role punctuator.Ampersand = role.Infix binary.And
punctuator_role punctuator.Bar = role.Infix binary.Or
punctuator_role punctuator.Caret = role.Infix binary.Xor
punctuator_role punctuator.Tilde = role.Prefix unary.Complement
punctuator_role punctuator.Exclamation = role.Prefix unary.Not
punctuator_role punctuator.AndAnd = role.Infix binary.LogicalAnd
punctuator_role punctuator.OrOr = role.Infix binary.LogicalOr
punctuator_role punctuator.Assign = role.Assignment assignment.Plain
punctuator_role punctuator.PlusAssign = role.Assignment assignment.Add
punctuator_role punctuator.MinusAssign = role.Assignment assignment.Subtract
punctuator_role punctuator.StarAssign = role.Assignment assignment.Multiply
punctuator_role punctuator.SlashAssign = role.Assignment assignment.Divide
punctuator_role punctuator.PercentAssign = role.Assignment assignment.Remainder
punctuator_role punctuator.ShiftLeftAssign = role.Assignment assignment.ShiftLeft
punctuator_role punctuator.ShiftRightAssign = role.Assignment assignment.ShiftRight
punctuator_role punctuator.AmpersandAssign = role.Assignment assignment.And
punctuator_role punctuator.BarAssign = role.Assignment assignment.Or
punctuator_role punctuator.CaretAssign = role.Assignment assignment.Xor
punctuator_role punctuator.PlusPlus = role.Step stepping.Increment
punctuator_role punctuator.MinusMinus = role.Step stepping.Decrement

abbrev pub role_of : TokenKind → Role
role_of kind.Identifier = role.Identifier
role_of (kind.Number t n) = role.Number t n
role_of (kind.Keyword k) = keyword_role k
role_of (kind.Punctuator p) = punctuator_role p
