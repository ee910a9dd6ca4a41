-- A unit of C without marked switches is lowered to itself.
use Rattle.std.proofs.Common.{◌≡◌, ℕ, max, arith, Bool, true, false, List, [], ◌∷◌, refl, ap, ◌∙◌}
use Rattle.cc_ast.specs.Tree as tree
use Rattle.cc_ast.specs.Tree.{Expr, Stmt, Stmts, Signature, Object, External}
use Rattle.cc_wide.specs.WideTree.{WideStmt, Block, Local, Perform, Return, Break, Continue, If, IfElse, While, DoWhile, For, Switch, WideStmts, end, next, Sections}
use Rattle.cc_wide.specs.Lowering.{Around, Outside, Loop, lowered, all_lowered, nesting, nesting_of_all, body_with, lowered_body, lowered_unit}
use Rattle.cc_wide_text.specs.Forms.{is_name, switch_of, marked_while, while_of, parts_of, wide_statement, wide_statements, wide_unit}
use Rattle.cc_wide_text.specs.Marks.{switch_mark}
use Rattle.cc_wide_text.specs.Program.{ProfileUnitsStay}

-- in a loop, or in none
abbrev around : Bool → Around
around true = Loop
around false = Outside

both_zero : (m n : ℕ) → max m n ≡ 0 → (m ≡ 0) × (n ≡ 0)
both_zero m n h = (omega (arith, h), omega (arith, h))

-- what a `while` that is no switch is lowered to
abbrev IsPlain : Around → ℕ → Expr → WideStmt → WideStmt → Type 0
IsPlain a d c w whole = (lowered a d whole ≡ tree.While c (lowered Loop d w)) × (nesting w ≡ 0)

switch_plain : (a : Around) (d : ℕ) (c e : Expr) (all front : WideStmts) (ss : Sections) → nesting (switch_of c e all front ss) ≡ 0 → IsPlain a d c (While e (Block all)) (switch_of c e all front ss)
switch_plain a d c e all end ss h = absurd (omega (arith, h))
switch_plain a d c e all (next s r) ss h = (refl, h)

inner_plain : (a : Around) (d : ℕ) (c e : Expr) (w : WideStmt) → nesting (marked_while c (While e w)) ≡ 0 → IsPlain a d c (While e w) (marked_while c (While e w))
inner_plain a d c e (Block all) h = switch_plain a d c e all (parts_of all).front (parts_of all).sections h
inner_plain a d c e (Local t ds) h = (refl, h)
inner_plain a d c e (Perform x) h = (refl, h)
inner_plain a d c e (Return at x) h = (refl, h)
inner_plain a d c e (Break at) h = (refl, h)
inner_plain a d c e (Continue at) h = (refl, h)
inner_plain a d c e (If x s) h = (refl, h)
inner_plain a d c e (IfElse x s r) h = (refl, h)
inner_plain a d c e (While x s) h = (refl, h)
inner_plain a d c e (DoWhile s x) h = (refl, h)
inner_plain a d c e (For first x following s) h = (refl, h)
inner_plain a d c e (Switch x ss) h = (refl, h)

marked_plain : (a : Around) (d : ℕ) (c : Expr) (w : WideStmt) → nesting (marked_while c w) ≡ 0 → IsPlain a d c w (marked_while c w)
marked_plain a d c (Block all) h = (refl, h)
marked_plain a d c (Local t ds) h = (refl, h)
marked_plain a d c (Perform x) h = (refl, h)
marked_plain a d c (Return at x) h = (refl, h)
marked_plain a d c (Break at) h = (refl, h)
marked_plain a d c (Continue at) h = (refl, h)
marked_plain a d c (If x s) h = (refl, h)
marked_plain a d c (IfElse x s r) h = (refl, h)
marked_plain a d c (While x s) h = inner_plain a d c x s h
marked_plain a d c (DoWhile s x) h = (refl, h)
marked_plain a d c (For first x following s) h = (refl, h)
marked_plain a d c (Switch x ss) h = (refl, h)

while_plain : (m : Bool) (a : Around) (d : ℕ) (c : Expr) (w : WideStmt) → nesting (while_of m c w) ≡ 0 → IsPlain a d c w (while_of m c w)
while_plain true a d c w h = marked_plain a d c w h
while_plain false a d c w h = (refl, h)

mutual
  stays : (b : Bool) (d : ℕ) (s : Stmt) → nesting (wide_statement s) ≡ 0 → lowered (around b) d (wide_statement s) ≡ s
  stays b d (tree.Block all) h = ap (λ (l : Stmts). let s : Stmt = tree.Block l in s) (all_stay b d all h)
  stays b d (tree.Local t ds) h = refl
  stays b d (tree.Perform x) h = refl
  stays b d (tree.Return at x) h = refl
  stays b d (tree.Break at) h = refl
  stays true d (tree.Continue at) h = refl
  stays false d (tree.Continue at) h = refl
  stays b d (tree.If c s) h = ap (λ (x : Stmt). let y : Stmt = tree.If c x in y) (stays b d s h)
  stays b d (tree.IfElse c s r) h =
      let each = both_zero (nesting (wide_statement s)) (nesting (wide_statement r)) h in
      ap (λ (x : Stmt). let y : Stmt = tree.IfElse c x (lowered (around b) d (wide_statement r)) in y) (stays b d s each.0)
      ∙ ap (λ (x : Stmt). let y : Stmt = tree.IfElse c s x in y) (stays b d r each.1)
  stays b d (tree.While c s) h =
      let p = while_plain (is_name switch_mark c) (around b) d c (wide_statement s) h in
      p.0 ∙ ap (λ (x : Stmt). let y : Stmt = tree.While c x in y) (stays true d s p.1)
  stays b d (tree.DoWhile s c) h = ap (λ (x : Stmt). let y : Stmt = tree.DoWhile x c in y) (stays true d s h)
  stays b d (tree.For first c following s) h = ap (λ (x : Stmt). let y : Stmt = tree.For first c following x in y) (stays true d s h)

  all_stay : (b : Bool) (d : ℕ) (all : Stmts) → nesting_of_all (wide_statements all) ≡ 0 → all_lowered (around b) d (wide_statements all) ≡ all
  all_stay b d tree.end h = refl
  all_stay b d (tree.next s rest) h =
      let each = both_zero (nesting (wide_statement s)) (nesting_of_all (wide_statements rest)) h in
      ap (λ (x : Stmt). tree.next x (all_lowered (around b) d (wide_statements rest))) (stays b d s each.0)
      ∙ ap (λ (l : Stmts). tree.next s l) (all_stay b d rest each.1)

body_stays : (body : Stmts) → nesting_of_all (wide_statements body) ≡ 0 → lowered_body (wide_statements body) ≡ body
body_stays body h = ap (λ (n : ℕ). body_with n (all_lowered Outside 0 (wide_statements body))) h ∙ all_stay false 0 body h

pub profile_units_stay : ProfileUnitsStay
profile_units_stay [] h = refl
profile_units_stay (tree.Declaration s ∷ rest) h = ap (λ (es : List External). tree.Declaration s ∷ es) (profile_units_stay rest h)
profile_units_stay (tree.Definition s body ∷ rest) h =
    ap (λ (b : Stmts). tree.Definition s b ∷ lowered_unit (wide_unit rest)) (body_stays body h.0)
    ∙ ap (λ (es : List External). tree.Definition s body ∷ es) (profile_units_stay rest h.1)
profile_units_stay (tree.Objects t os ∷ rest) h = ap (λ (es : List External). tree.Objects t os ∷ es) (profile_units_stay rest h)
