-- Counts over a sequence, compared with the number of statements and expressions.
use Rattle.std.proofs.Common.{◌≡◌, ℕ, suc, ◌+◌, ◌<◌, ◌≤◌, List, [], ◌∷◌, drop, length, get_or, drop-cons, refl, sym, ap, ◌∙◌, subst, arith, rules, Option, Some, None}
use Rattle.cc_cminor_language.specs.Cminor as cminor
use Rattle.cc_cminor_language.specs.Code.{expression_of, expressions_of, statement_of, statements_in, in_sequence}
use Rattle.cc_cminor_language.specs.Statements.{statements_of}
use Rattle.cc_cminor_language.specs.declared.code.Expression.{Expression}
use Rattle.cc_cminor_language.specs.declared.code.Statement as written
use Rattle.cc_cminor_language.specs.declared.code.Statement.{Statement, Row_of-Statement, end_of-Statement, more_of-Statement, items-the_row-Statement}
use Rattle.cc_cminor_language.specs.Size.{expression_size, expressions_size, statement_size}
use Rattle.cc_rtl.specs.Size.{variable_of, kept_by, into_nodes, operand_nodes, operands_nodes, statement_nodes}
use Rattle.cc_cminor_language.specs.Variables.{above, above_result, above_expression, above_expressions, above_statement}
use Rattle.cc_rtl.specs.internal.Generate.{Uses, AllUse, IsFormed}
use Rattle.std.proofs.lemmas.Bool.Decides.{nat_tests}

-- the statements of a sequence are those of its list
in_row : (n : _) (row : Row_of-Statement n) → statements_in row ≡ statements_of (items-the_row-Statement n row)
in_row n end_of-Statement = refl
in_row n (more_of-Statement s rest) = ap (λ ss. statement_of s ∷ ss) (in_row _ rest)

pub sequence_is : (all : _) → statement_of (written.Sequence all) ≡ in_sequence (statements_of all.items)
sequence_is all = search (rules, written.the_lemmas, in_row)

pub nodes_after_first : (s : cminor.Statement) (rest : List cminor.Statement) → statement_nodes (in_sequence (s ∷ rest)) ≡ statement_nodes s + statement_nodes (in_sequence rest)
nodes_after_first s [] = omega arith
nodes_after_first s (t ∷ rest) = refl

-- ---- the rest of a list

drop_item : {A : Type 0} (l : List A) (i : ℕ) (x : A) → i < length l → x ≡ get_or l i x → drop i l ≡ x ∷ drop (i + 1) l
drop_item l i x h e = drop-cons l i x h ∙ ap (λ y. y ∷ drop (suc i) l) (sym e) ∙ ap (λ k. x ∷ drop k l) (let k : suc i ≡ i + 1 = omega arith in k)

pub operands_left : (all : List Expression) (i : ℕ) (e : Expression) → i < length all → e ≡ get_or all i e
    → operands_nodes (expressions_of (drop i all)) ≡ operand_nodes (expression_of e) + operands_nodes (expressions_of (drop (i + 1) all))
operands_left all i e lt is = ap (λ es. operands_nodes (expressions_of es)) (drop_item all i e lt is)

pub statements_left : (all : List Statement) (i : ℕ) (s : Statement) → i < length all → s ≡ get_or all i s
    → statement_nodes (in_sequence (statements_of (drop i all))) ≡ statement_nodes (statement_of s) + statement_nodes (in_sequence (statements_of (drop (i + 1) all)))
statements_left all i s lt is = ap (λ ss. statement_nodes (in_sequence (statements_of ss))) (drop_item all i s lt is) ∙ nodes_after_first (statement_of s) (statements_of (drop (i + 1) all))

-- ---- nodes, statements and expressions

-- each expression needs at least one node
pub some_nodes : (e : cminor.Expression) → 0 < into_nodes e
some_nodes (cminor.Constant w) = omega arith
some_nodes (cminor.Local x) = omega arith
some_nodes (cminor.Unary op a) = omega arith
some_nodes (cminor.Binary op a b) = omega arith
some_nodes (cminor.Load width o a) = omega arith

kept_few : (v : Option ℕ) (n m : ℕ) → n ≤ m → kept_by v n ≤ m
kept_few None n m le = le
kept_few (Some x) n m le = omega arith

into_few : (e : cminor.Expression) → into_nodes e ≤ expression_size e
into_few (cminor.Constant w) = omega arith
into_few (cminor.Local x) = omega arith
into_few (cminor.Unary op a) = let f = kept_few (variable_of a) _ _ (into_few a) in omega arith
into_few (cminor.Binary op a b) = let f = kept_few (variable_of a) _ _ (into_few a) in let g = kept_few (variable_of b) _ _ (into_few b) in omega arith
into_few (cminor.Load width o a) = let f = kept_few (variable_of a) _ _ (into_few a) in omega arith

operand_few : (e : cminor.Expression) → operand_nodes e ≤ expression_size e
operand_few e = kept_few (variable_of e) _ _ (into_few e)

operands_few : (es : List cminor.Expression) → operands_nodes es ≤ expressions_size es
operands_few [] = omega arith
operands_few (e ∷ es) = let f = operand_few e in let g = operands_few es in omega arith

-- a statement needs at most as many nodes as it has statements and expressions
pub nodes_few : (s : cminor.Statement) → statement_nodes s ≤ statement_size s
nodes_few cminor.Skip = omega arith
nodes_few (cminor.Set x e) = let f = into_few e in omega arith
nodes_few (cminor.Store width o i e) = let f = operand_few i in let g = operand_few e in omega arith
nodes_few (cminor.Call to f es) = let g = operands_few es in omega arith
nodes_few (cminor.Read to) = omega arith
nodes_few (cminor.Write e) = let f = operand_few e in omega arith
nodes_few (cminor.Sequence a b) = let f = nodes_few a in let g = nodes_few b in omega arith
nodes_few (cminor.If e a b) = let d = operand_few e in let f = nodes_few a in let g = nodes_few b in omega arith
nodes_few (cminor.Loop a) = let f = nodes_few a in omega arith
nodes_few (cminor.Block a) = let f = nodes_few a in omega arith
nodes_few (cminor.Exit k) = omega arith
nodes_few (cminor.Return e) = let f = operand_few e in omega arith

-- ---- the variables of a body are below the count

above_ge : (count x : ℕ) → (count ≤ above count x) × (x < above count x)
above_ge count x = grind (arith, nat_tests)

uses_more : (e : cminor.Expression) (n m : ℕ) → n ≤ m → Uses n e → Uses m e
uses_more (cminor.Constant w) n m le uses = tt
uses_more (cminor.Local x) n m le uses = omega arith
uses_more (cminor.Unary op a) n m le uses = uses_more a n m le uses
uses_more (cminor.Binary op a b) n m le (first, second) = (uses_more a n m le first, uses_more b n m le second)
uses_more (cminor.Load width o a) n m le uses = uses_more a n m le uses

expression_above : (e : cminor.Expression) (count : ℕ) → (count ≤ above_expression count e) × Uses (above_expression count e) e
expression_above (cminor.Constant w) count = (omega arith, tt)
expression_above (cminor.Local x) count = above_ge count x
expression_above (cminor.Unary op a) count = expression_above a count
expression_above (cminor.Binary op a b) count =
    let f = expression_above a count in
    let g = expression_above b (above_expression count a) in
    let le = f.0 in
    let le' = g.0 in
    (omega arith, (uses_more a _ _ le' f.1, g.1))
expression_above (cminor.Load width o a) count = expression_above a count

expressions_above : (es : List cminor.Expression) (count : ℕ) → (count ≤ above_expressions count es) × AllUse (above_expressions count es) es
expressions_above [] count = (omega arith, tt)
expressions_above (e ∷ es) count =
    let f = expression_above e count in
    let g = expressions_above es (above_expression count e) in
    let le = f.0 in
    let le' = g.0 in
    (omega arith, (uses_more e _ _ le' f.1, g.1))

result_above : (to : Option ℕ) (count : ℕ) → count ≤ above_result count to
result_above None count = omega arith
result_above (Some x) count = (above_ge count x).0

all_use_more : (es : List cminor.Expression) (n m : ℕ) → n ≤ m → AllUse n es → AllUse m es
all_use_more [] n m le uses = tt
all_use_more (e ∷ es) n m le (one, all) = (uses_more e n m le one, all_use_more es n m le all)

formed_more : (s : cminor.Statement) (n m : ℕ) → n ≤ m → IsFormed n s → IsFormed m s
formed_more cminor.Skip n m le formed = tt
formed_more (cminor.Set x e) n m le (low, uses) = (omega arith, uses_more e n m le uses)
formed_more (cminor.Store width o i e) n m le (first, second) = (uses_more i n m le first, uses_more e n m le second)
formed_more (cminor.Call to f es) n m le uses = all_use_more es n m le uses
formed_more (cminor.Read to) n m le formed = tt
formed_more (cminor.Write e) n m le uses = uses_more e n m le uses
formed_more (cminor.Sequence a b) n m le (first, second) = (formed_more a n m le first, formed_more b n m le second)
formed_more (cminor.If e a b) n m le (uses, first, second) = (uses_more e n m le uses, formed_more a n m le first, formed_more b n m le second)
formed_more (cminor.Loop a) n m le formed = formed_more a n m le formed
formed_more (cminor.Block a) n m le formed = formed_more a n m le formed
formed_more (cminor.Exit k) n m le formed = tt
formed_more (cminor.Return e) n m le uses = uses_more e n m le uses

statement_above : (s : cminor.Statement) (count : ℕ) → (count ≤ above_statement count s) × IsFormed (above_statement count s) s
statement_above cminor.Skip count = (omega arith, tt)
statement_above (cminor.Set x e) count =
    let f = above_ge count x in
    let g = expression_above e (above count x) in
    let le = f.0 in
    let lt = f.1 in
    let le' = g.0 in
    (omega arith, (omega arith, g.1))
statement_above (cminor.Store width o i e) count =
    let f = expression_above i count in
    let g = expression_above e (above_expression count i) in
    let le = f.0 in
    let le' = g.0 in
    (omega arith, (uses_more i _ _ le' f.1, g.1))
statement_above (cminor.Call to f es) count =
    let le = result_above to count in
    let g = expressions_above es (above_result count to) in
    let le' = g.0 in
    (omega arith, g.1)
statement_above (cminor.Read to) count = (result_above to count, tt)
statement_above (cminor.Write e) count = expression_above e count
statement_above (cminor.Sequence a b) count =
    let f = statement_above a count in
    let g = statement_above b (above_statement count a) in
    let le = f.0 in
    let le' = g.0 in
    (omega arith, (formed_more a _ _ le' f.1, g.1))
statement_above (cminor.If e a b) count =
    let d = expression_above e count in
    let f = statement_above a (above_expression count e) in
    let g = statement_above b (above_statement (above_expression count e) a) in
    let le = d.0 in
    let le' = f.0 in
    let le'' = g.0 in
    let far : above_expression count e ≤ above_statement (above_statement (above_expression count e) a) b = omega arith in
    (omega arith, (uses_more e _ _ far d.1, formed_more a _ _ le'' f.1, g.1))
statement_above (cminor.Loop a) count = statement_above a count
statement_above (cminor.Block a) count = statement_above a count
statement_above (cminor.Exit k) count = (omega arith, tt)
statement_above (cminor.Return e) count = expression_above e count

pub formed_above : (count : ℕ) (s : cminor.Statement) → IsFormed (above_statement count s) s
formed_above count s = (statement_above s count).1
