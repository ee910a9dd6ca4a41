-- The Cminor that the code's values represent, wherever they are in memory.
use Rattle.std.specs.Prelude.{List, [], ◌∷◌}
use Rattle.cc_cminor_language.specs.Cminor as cminor
use Rattle.cc_cminor_language.specs.declared.code.Expression.{Expression, Constant, Local, Unary', Binary', Load'}
use Rattle.cc_cminor_language.specs.declared.code.Statement.{Statement, Skip, Set, Store, Call, Read, Write, Sequence', If', Loop', Block', Exit, Return, Row_of-Statement, end_of-Statement, more_of-Statement}

-- the expression that a value represents
abbrev pub expression_of : Expression → cminor.Expression
expression_of (Constant w) = cminor.Constant w
expression_of (Local i) = cminor.Local i
expression_of (Unary' op p e) = cminor.Unary op (expression_of e)
expression_of (Binary' op p a q b) = cminor.Binary op (expression_of a) (expression_of b)
expression_of (Load' width o p e) = cminor.Load width o (expression_of e)

-- the expressions that the values of a list represent
abbrev pub expressions_of : List Expression → List cminor.Expression
expressions_of [] = []
expressions_of (e ∷ rest) = expression_of e ∷ expressions_of rest

-- one statement after another, with no `Skip` added after the last one
abbrev pub in_sequence : List cminor.Statement → cminor.Statement
in_sequence [] = cminor.Skip
in_sequence (a ∷ []) = a
in_sequence (a ∷ b ∷ rest) = cminor.Sequence a (in_sequence (b ∷ rest))

-- the statement that a value represents
abbrev mutual
  pub statement_of : Statement → cminor.Statement
  statement_of Skip = cminor.Skip
  statement_of (Set x e) = cminor.Set x (expression_of e.value)
  statement_of (Store width o i e) = cminor.Store width o (expression_of i.value) (expression_of e.value)
  statement_of (Call to f es) = cminor.Call to f (expressions_of es.items)
  statement_of (Read to) = cminor.Read to
  statement_of (Write e) = cminor.Write (expression_of e.value)
  statement_of (Sequence' shape all) = in_sequence (statements_in all)
  statement_of (If' e p a q b) = cminor.If (expression_of e.value) (statement_of a) (statement_of b)
  statement_of (Loop' p a) = cminor.Loop (statement_of a)
  statement_of (Block' p a) = cminor.Block (statement_of a)
  statement_of (Exit k) = cminor.Exit k
  statement_of (Return e) = cminor.Return (expression_of e.value)

  pub statements_in : {m : _} → Row_of-Statement m → List cminor.Statement
  statements_in end_of-Statement = []
  statements_in (more_of-Statement s rest) = statement_of s ∷ statements_in rest
