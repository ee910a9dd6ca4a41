-- A sequence uses the same variables as the list of its statements.
use Rattle.std.proofs.Common.{◌≡◌, ℕ, suc, ◌+◌, ◌<◌, List, [], ◌∷◌, drop, length, get_or, drop-cons, refl, sym, ap, ◌∙◌, subst, arith}
use Rattle.cc_cminor_language.specs.Cminor as cminor
use Rattle.cc_cminor_language.specs.Code.{expression_of, expressions_of, statement_of, in_sequence}
use Rattle.cc_cminor_language.specs.Statements.{statements_of}
use Rattle.cc_cminor_language.specs.declared.code.Expression.{Expression}
use Rattle.cc_cminor_language.specs.declared.code.Statement as written
use Rattle.cc_cminor_language.specs.declared.code.Statement.{Statement}
use Rattle.cc_cminor_language.specs.Numbers.{StatementFits}
use Rattle.cc_cminor_language.specs.Variables.{above_expression, above_expressions, above_statement}
use Rattle.cc_cminor_language.proofs.Codes.{sequence_is}

pub fits_list : (s : Statement) (all : _) (l : List Statement) → s ≡ written.Sequence all → l ≡ all.items → StatementFits (statement_of s) → StatementFits (in_sequence (statements_of l))
fits_list s all l is same fits = subst StatementFits (ap statement_of is ∙ sequence_is all ∙ ap (λ k. in_sequence (statements_of k)) (sym same)) fits

pub above_list : (count : ℕ) (s : Statement) (all : _) (l : List Statement) → s ≡ written.Sequence all → l ≡ all.items → above_statement count (in_sequence (statements_of l)) ≡ above_statement count (statement_of s)
above_list count s all l is same = sym (ap (above_statement count) (ap statement_of is ∙ sequence_is all ∙ ap (λ k. in_sequence (statements_of k)) (sym same)))

above_after_first : (count : ℕ) (s : cminor.Statement) (rest : List cminor.Statement) → above_statement count (in_sequence (s ∷ rest)) ≡ above_statement (above_statement count s) (in_sequence rest)
above_after_first count s [] = refl
above_after_first count s (t ∷ rest) = refl

-- ---- the rest of a list

drop_item : {A : Type 0} (l : List A) (i : ℕ) (x : A) → i < length l → x ≡ get_or l i x → drop i l ≡ x ∷ drop (i + 1) l
drop_item l i x h e = drop-cons l i x h ∙ ap (λ y. y ∷ drop (suc i) l) (sym e) ∙ ap (λ k. x ∷ drop k l) (let k : suc i ≡ i + 1 = omega arith in k)

pub above_left : (count : ℕ) (all : List Statement) (i : ℕ) (s : Statement) → i < length all → s ≡ get_or all i s
    → above_statement count (in_sequence (statements_of (drop i all))) ≡ above_statement (above_statement count (statement_of s)) (in_sequence (statements_of (drop (i + 1) all)))
above_left count all i s lt is = ap (λ ss. above_statement count (in_sequence (statements_of ss))) (drop_item all i s lt is) ∙ above_after_first count (statement_of s) (statements_of (drop (i + 1) all))

pub all_above_left : (count : ℕ) (all : List Expression) (i : ℕ) (e : Expression) → i < length all → e ≡ get_or all i e
    → above_expressions count (expressions_of (drop i all)) ≡ above_expressions (above_expression count (expression_of e)) (expressions_of (drop (i + 1) all))
all_above_left count all i e lt is = ap (λ es. above_expressions count (expressions_of es)) (drop_item all i e lt is)
