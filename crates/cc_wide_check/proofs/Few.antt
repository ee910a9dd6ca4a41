-- Too few or too many statements.
use Rattle.std.proofs.Common.{◌≡◌, ℕ, ◌<◌, ◌≤◌, false, ◌&&◌, List, [], ◌∷◌, length, refl, sym, arith}
use Rattle.std.proofs.lemmas.Bool.{and_right}
use Rattle.cc_ast.specs.Erase.{statement_tree}
use Rattle.cc_ast.specs.Tree as tree
use Rattle.cc_ast.specs.Tree.{Expr, Stmt, Stmts}
use Rattle.cc_ast.specs.declared.ast.Statement.{Statement}
use Rattle.cc_wide.specs.Places.{bare_statement, bare_statements}
use Rattle.cc_wide.specs.WideTree.{WideStmts}
use Rattle.cc_wide.specs.Lowering as lowering
use Rattle.cc_wide.specs.Lowering.{equals, continuing, after}
use Rattle.cc_wide_check.specs.declared.around.Around.{Around}
use Rattle.cc_wide_check.specs.declared.around.Around.TheVariants.{Outside, Loop, Caught}
use Rattle.cc_wide_check.specs.internal.Equal.{equal_statement, equal_statements}
use Rattle.cc_wide_check.specs.internal.Sections.{is_value, is_chosen, parts}
use Rattle.cc_wide_check.specs.internal.Views.{around_of}
use Rattle.cc_wide_check.proofs.Reading.{bare_of}

-- one statement is not none
pub some-after : (l : List Statement) → 1 ≤ length l → false ≡ equal_statements (bare_of l) tree.end
some-after [] h = absurd (omega (arith, h))
some-after (x ∷ l) h = refl

one_only : (s t : Stmt) (rest : Stmts) (a : Stmt) → false ≡ equal_statements (tree.next s (tree.next t rest)) (tree.next a tree.end)
one_only s t rest a = sym (and_right (equal_statement s a) false refl)

-- two are too many after a switch
pub two-after : (a : Around) (d : ℕ) (l : List Statement) → 2 ≤ length l → false ≡ equal_statements (bare_of l) (bare_statements (after (around_of a) d))
two-after a d [] h = absurd (omega (arith, h))
two-after a d (x ∷ []) h = absurd (omega (arith, h))
two-after Outside d (x ∷ y ∷ l) h = refl
two-after Loop d (x ∷ y ∷ l) h = one_only (bare_statement (statement_tree x)) (bare_statement (statement_tree y)) (bare_of l) (bare_statement (tree.If (equals d 0) (continuing lowering.Loop 0)))
two-after (Caught c) d (x ∷ y ∷ l) h =
    one_only (bare_statement (statement_tree x)) (bare_statement (statement_tree y)) (bare_of l) (bare_statement (tree.If (equals d 0) (continuing (lowering.Caught c) 0)))

-- two are too few for a switch
pub few-parts : (a : lowering.Around) (d : ℕ) (e : Expr) (all : WideStmts) (l : List Statement) → length l < 3 → false ≡ parts a d e all (bare_of l)
few-parts a d e all [] h = refl
few-parts a d e all (x ∷ []) h = sym (and_right (is_value d e (bare_statement (statement_tree x))) false refl)
few-parts a d e all (x ∷ y ∷ []) h =
    sym (and_right (is_value d e (bare_statement (statement_tree x))) (is_chosen d all (bare_statement (statement_tree y)) && false)
    (and_right (is_chosen d all (bare_statement (statement_tree y))) false refl))
few-parts a d e all (x ∷ y ∷ z ∷ l) h = absurd (omega (arith, h))
