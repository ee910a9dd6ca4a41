-- The choice and the sections of a switch, found while the statements of its marked block are read one after another. Then n sections have
-- begun, and it is known whether the statement before was a label, which the labels and statements of the same section follow.
use Rattle.std.specs.Prelude.{ℕ, suc, ◌+◌, nat_eq, nat_le, Bool, true, false, ◌&&◌, ◌||◌, if◌then◌else◌, is_some, List, [], ◌∷◌, Option, Some, None}
use Rattle.cc_ast.specs.scalar.Scalar.TheVariants.{Int, Unsigned}
use Rattle.cc_ast.specs.declared.ast.AssignmentOperator.TheVariants.{Plain}
use Rattle.cc_ast.specs.Tree as tree
use Rattle.cc_ast.specs.Tree.{Expr, Number, Variable, Element, Call, Parenthesised, Unary, Cast, Binary, Conditional, AtVariable, Action, Assign, Stmt, Stmts}
use Rattle.cc_wide.specs.Places.{bare, bare_statement, bare_statements}
use Rattle.cc_wide.specs.WideTree.{Label, Case, Default, WideStmts, end, next, Sections, last, section}
use Rattle.cc_wide.specs.WideMeaning.{label_word}
use Rattle.cc_wide.specs.Lowering.{Around, hidden, equals, less_than, at_most, Entry, in_range, count_in, choice, first_of, after_first, grouped, lowered, sections_lowered, within, after}
use Rattle.cc_wide_text.specs.Forms.{label_of, parts_of, wide_statements}
use Rattle.cc_wide_text.specs.Rules.{case_words}
use Rattle.cc_wide_check.specs.internal.Equal.{equal_assignment, equal_name, equal_expression, equal_statement, equal_statements}
use Rattle.cc_wide_check.specs.internal.Labels.{labels_in}

-- how many sections have begun after a label
abbrev pub begun : (label : Bool) → ℕ → ℕ
begun true n = n
begun false n = suc n

-- ---- the number of the section after `default`, or one more than that of the last

abbrev pub default_step : (ℕ → Bool → ℕ) → ℕ → Bool → Option Label → ℕ
default_step go n label None = go n false
default_step go n label (Some (Case c)) = go (begun label n) true
default_step go n label (Some Default) = begun label n

abbrev pub default_number : ℕ → Bool → WideStmts → ℕ
default_number n label end = suc n
default_number n label (next s rest) = default_step (λ m b. default_number m b rest) n label (label_of s)

-- ---- the choice

-- the cases of the switch, with the numbers of their sections
abbrev pub case_step : (ℕ → Bool → List Entry) → ℕ → Bool → Option Label → List Entry
case_step go n label None = go n false
case_step go n label (Some (Case c)) = record { word = label_word c; number = begun label n } ∷ go (begun label n) true
case_step go n label (Some Default) = go (begun label n) true

abbrev pub cases_in : ℕ → Bool → WideStmts → List Entry
cases_in n label end = []
cases_in n label (next s rest) = case_step (λ m b. cases_in m b rest) n label (label_of s)

-- what is left of `t ? v : rest`
abbrev pub otherwise : (t v : Expr) → Expr → Option Expr
otherwise t v (Conditional c a rest) = if equal_expression c t && equal_expression a v then Some rest else None
otherwise t v e = None

-- what is left of the chain after a case, which it has if that is in the range
abbrev pub chain_left : (d low : ℕ) → (high : Option ℕ) → (word number : ℕ) → Expr → Option Expr
chain_left d low high w n e = if in_range low high w then otherwise (equals d w) (Number Unsigned n) e else Some e

abbrev pub go_on : (Expr → Bool) → Option Expr → Bool
go_on go None = false
go_on go (Some e) = go e

-- the bare expression is the chain of these cases in the range
abbrev pub is_chain : (d default low : ℕ) → (high : Option ℕ) → List Entry → Expr → Bool
is_chain d default low high [] e = equal_expression e (Number Unsigned default)
is_chain d default low high (c ∷ cs) e = go_on (is_chain d default low high cs) (chain_left d low high c.word c.number e)

-- so many levels or cases need no halves
abbrev pub are_few : (levels few count : ℕ) → Bool
are_few levels few count = nat_eq levels 0 || nat_le count few

-- the bare statement is the choice among the cases in the range
abbrev pub is_choice : (levels : ℕ) → (d default low : ℕ) → (high : Option ℕ) → List Entry → Stmt → Bool
is_choice levels d default low high cs s = equal_statement s (bare_statement (choice levels d default low high cs))

-- it is that of a range whose cases are halved at the word m
abbrev pub halves : (levels : ℕ) → (d default low m : ℕ) → (high : Option ℕ) → List Entry → Stmt
halves levels d default low m high cs = tree.IfElse (less_than d m) (choice levels d default low (Some m) cs) (choice levels d default m high cs)

abbrev pub is_halved : (levels : ℕ) → (d default low m : ℕ) → (high : Option ℕ) → List Entry → Stmt → Bool
is_halved levels d default low m high cs s = equal_statement s (bare_statement (halves levels d default low m high cs))

-- ---- the sections

abbrev pub block_of : Stmt → Option Stmts
block_of (tree.Block body) = Some body
block_of s = None

-- the statements of section number n
abbrev pub opened_first : (d n : ℕ) → Stmt → Option Stmts
opened_first d n (tree.If c s) = if equal_expression c (at_most d n) then block_of s else None
opened_first d n s = None

abbrev pub is_end : Stmts → Bool
is_end tree.end = true
is_end (tree.next s rest) = false

abbrev pub go_through : (Stmts → Bool) → Option Stmts → Bool
go_through go None = false
go_through go (Some ss) = go ss

-- the statements of section number n, which is the first of these
abbrev pub opened : (d n : ℕ) → (Stmts → Stmts → Bool) → Stmts → Bool
opened d n go tree.end = false
opened d n go (tree.next s rest) = go_through (λ body. go body rest) (opened_first d n s)

abbrev pub statement_step : Stmt → (Stmts → Stmts → Bool) → (body ifs : Stmts) → Bool
statement_step s go tree.end ifs = false
statement_step s go (tree.next t body) ifs = equal_statement t s && go body ifs

abbrev pub label_step : (d : ℕ) → (ℕ → Bool → Stmts → Stmts → Bool) → ℕ → Bool → (body ifs : Stmts) → Bool
label_step d go n true body ifs = go n true body ifs
label_step d go n false body ifs = is_end body && opened d (suc n) (go (suc n) true) ifs

abbrev pub section_step : (d : ℕ) → Stmt → (ℕ → Bool → Stmts → Stmts → Bool) → (is_label : Bool) → ℕ → Bool → (body ifs : Stmts) → Bool
section_step d s go true n label body ifs = label_step d go n label body ifs
section_step d s go false n label body ifs = statement_step s (go n false) body ifs

-- the bare statements are the rest of the section that has begun, and those after it are the sections that follow
abbrev pub are_sections : Around → (d : ℕ) → ℕ → Bool → WideStmts → (body ifs : Stmts) → Bool
are_sections a d n label end body ifs = is_end body && is_end ifs
are_sections a d n label (next s rest) body ifs =
    section_step d (bare_statement (lowered a (suc d) s)) (λ m b x y. are_sections a d m b rest x y) (is_some (label_of s)) n label body ifs

-- ---- a whole switch

-- what is assigned to local d
abbrev pub assigned_by : (d : ℕ) → Action → Option Expr
assigned_by d (Assign op (AtVariable x) e) = if equal_assignment op Plain && equal_name x (hidden d) then Some e else None
assigned_by d a = None

abbrev pub assigned : (d : ℕ) → Stmt → Option Expr
assigned d (tree.Perform (Some a)) = assigned_by d a
assigned d s = None

-- the statements of `do { .. } while (0);`
abbrev pub run_of : Stmt → Option Stmts
run_of (tree.DoWhile s c) = if equal_expression c (Number Int 0) then block_of s else None
run_of s = None

-- the first statement is a label, if there is one
abbrev pub enters : WideStmts → Bool
enters end = true
enters (next s rest) = is_some (label_of s)

-- the bare statements are the sections after number n of this block, in groups
abbrev pub are_grouped : Around → (levels d n : ℕ) → WideStmts → Stmts → Bool
are_grouped a levels d n all ifs = equal_statements ifs (bare_statements (grouped levels d n (sections_lowered a d (suc n) (parts_of all).sections)))

-- the sections after number n, of which the first h are a group
abbrev pub two_groups : (levels d n h : ℕ) → Stmts → Stmts
two_groups levels d n h ss = tree.next (tree.If (at_most d (n + h)) (tree.Block (grouped levels d n (first_of h ss)))) (grouped levels d (n + h) (after_first h ss))

abbrev pub are_halved : Around → (levels d n h : ℕ) → WideStmts → Stmts → Bool
are_halved a levels d n h all ifs = equal_statements ifs (bare_statements (two_groups levels d n h (sections_lowered a d (suc n) (parts_of all).sections)))

-- how many sections the block has
abbrev pub section_number : Sections → ℕ
section_number last = 0
section_number (section ls body rest) = suc (section_number rest)

abbrev pub section_count : WideStmts → ℕ
section_count all = section_number (parts_of all).sections

-- the loop with the sections of a switch, given what is around its statements
abbrev pub is_run : Around → (d : ℕ) → WideStmts → Stmt → Bool
is_run a d all s = go_through (λ ifs. enters all && are_grouped a (section_count all) d 0 all ifs) (run_of s)

abbrev pub is_value : (d : ℕ) → (e : Expr) → Stmt → Bool
is_value d e s = go_on (λ f. equal_expression f (bare e)) (assigned d s)

-- what is assigned to local d is the chain
abbrev pub is_assigned : (d default low : ℕ) → (high : Option ℕ) → List Entry → Stmt → Bool
is_assigned d default low high cs s = go_on (is_chain d default low high cs) (assigned d s)

abbrev pub is_chosen : (d : ℕ) → WideStmts → Stmt → Bool
is_chosen d all s = is_choice (count_in 0 None (case_words (labels_in all))) d (default_number 0 false all) 0 None (cases_in 0 false all) s

abbrev pub third : Around → (d : ℕ) → WideStmts → Stmts → Bool
third a d all tree.end = false
third a d all (tree.next s rest) = is_run (within a d) d all s && equal_statements rest (bare_statements (after a d))

abbrev pub second : Around → (d : ℕ) → WideStmts → Stmts → Bool
second a d all tree.end = false
second a d all (tree.next s rest) = is_chosen d all s && third a d all rest

abbrev pub parts : Around → (d : ℕ) → Expr → WideStmts → Stmts → Bool
parts a d e all tree.end = false
parts a d e all (tree.next s rest) = is_value d e s && second a d all rest

-- the bare statement is the switch on this expression, with these statements in its marked block
abbrev pub is_switched : Around → (d : ℕ) → Expr → WideStmts → Stmt → Bool
is_switched a d e all (tree.Block ss) = parts a d e all ss
is_switched a d e all s = false

-- the same given the second `while` of a switch's mark
abbrev pub of_block : Around → (d : ℕ) → Expr → (block : Stmt) → Stmt → Bool
of_block a d e (tree.Block all) s = is_switched a d e (wide_statements all) s
of_block a d e block s = false

abbrev pub of_switch : Around → (d : ℕ) → (marked : Stmt) → Stmt → Bool
of_switch a d (tree.While e block) s = of_block a d e block s
of_switch a d marked s = false
