-- Numbers below a limit are below a larger one.
use Rattle.std.proofs.Common.{ℕ, ◌<◌, ◌≤◌, List, [], ◌∷◌, Option, Some, None, arith}
use Rattle.cc_cminor_language.specs.Cminor.{Expression, Constant, Local, Unary, Binary, Load, Statement, Skip, Set, Store, Call, Read, Write, Sequence, If, Loop, Block, Exit, Return}
use Rattle.cc_cminor_language.specs.Numbers.{ExpressionBelow, ExpressionsBelow, ResultBelow, StatementBelow}

module _ (m k : ℕ) (le : m ≤ k) where
  variable_below : (x : ℕ) → x < m → x < k
  variable_below x lt = omega arith

  expression_below : (e : Expression) → ExpressionBelow m e → ExpressionBelow k e
  expression_below (Constant w) f = tt
  expression_below (Local x) f = variable_below x f
  expression_below (Unary op e) f = expression_below e f
  expression_below (Binary op a b) f = (expression_below a f.0, expression_below b f.1)
  expression_below (Load width o e) f = (f.0, expression_below e f.1)

  expressions_below : (es : List Expression) → ExpressionsBelow m es → ExpressionsBelow k es
  expressions_below [] f = tt
  expressions_below (e ∷ es) f = (expression_below e f.0, expressions_below es f.1)

  result_below : (to : Option ℕ) → ResultBelow m to → ResultBelow k to
  result_below None f = tt
  result_below (Some x) f = variable_below x f

  pub statement_below : (s : Statement) → StatementBelow m s → StatementBelow k s
  statement_below Skip f = tt
  statement_below (Set x e) f = (variable_below x f.0, expression_below e f.1)
  statement_below (Store width o i e) f = (f.0, expression_below i f.1, expression_below e f.2)
  statement_below (Call to g es) f = (result_below to f.0, f.1, expressions_below es f.2)
  statement_below (Read to) f = result_below to f
  statement_below (Write e) f = expression_below e f
  statement_below (Sequence a b) f = (statement_below a f.0, statement_below b f.1)
  statement_below (If e a b) f = (expression_below e f.0, statement_below a f.1, statement_below b f.2)
  statement_below (Loop a) f = statement_below a f
  statement_below (Block a) f = statement_below a f
  statement_below (Exit n) f = tt
  statement_below (Return e) f = expression_below e f
