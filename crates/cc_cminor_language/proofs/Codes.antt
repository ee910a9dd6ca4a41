-- The Cminor that the code's functions build.
use Rattle.std.proofs.Common.{rules, ◌≡◌, List, [], ◌∷◌, ◌++◌, Result, Ok, Err, IfOk, OnOk, refl, ap}
use Rattle.cc_cminor_language.specs.Code.{expression_of, expressions_of, statement_of, statements_in, in_sequence}
use Rattle.cc_cminor_language.specs.Statements.{statements_of}
use Rattle.cc_cminor_language.specs.declared.code.Expression.{Expression}
use Rattle.cc_cminor_language.specs.declared.code.Statement as statement
use Rattle.cc_cminor_language.specs.declared.code.Statement.{Statement, Row_of-Statement, end_of-Statement, more_of-Statement, items-the_row-Statement}

pub if_ok : {T E : Type 0} (P Q : T → Type 0) (r : Result T E) → ((x : T) → P x → Q x) → IfOk r P → IfOk r Q
if_ok P Q (Ok x) f h = f x h
if_ok P Q (Err e) f h = h

pub on_ok : {T E A B : Type 0} (r : Result T E) → (A → B) → OnOk r A → OnOk r B
on_ok (Ok x) f h = f h
on_ok (Err e) f h = h

statements_in-row : (n : _) (row : Row_of-Statement n) → statements_in row ≡ statements_of (items-the_row-Statement n row)
statements_in-row n end_of-Statement = refl
statements_in-row n (more_of-Statement s rest) = ap (λ l. statement_of s ∷ l) (statements_in-row _ rest)

pub sequence_is : (all : _) → statement_of (statement.Sequence all) ≡ in_sequence (statements_of all.items)
sequence_is all = search (rules, statement.the_lemmas, statements_in-row)

pub expressions_push : (es : List Expression) (e : Expression) → expressions_of (es ++ e ∷ []) ≡ expressions_of es ++ (expression_of e ∷ [])
expressions_push [] e = refl
expressions_push (x ∷ es) e = ap (λ l. expression_of x ∷ l) (expressions_push es e)

pub statements_push : (ss : List Statement) (s : Statement) → statements_of (ss ++ s ∷ []) ≡ statements_of ss ++ (statement_of s ∷ [])
statements_push [] s = refl
statements_push (x ∷ ss) s = ap (λ l. statement_of x ∷ l) (statements_push ss s)
