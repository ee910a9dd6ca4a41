-- What a marked `while` is: a switch, if the test for one holds, and a `while` otherwise.
use Rattle.std.proofs.Common.{◌≡◌, Bool, true, false, ◌&&◌, is_some, Option, Some, None, refl, ap, ◌∙◌}
use Rattle.std.proofs.lemmas.Bool.{and_parts, false≢true, true≢false}
use Rattle.cc_ast.specs.Tree as tree
use Rattle.cc_ast.specs.Tree.{Expr, Stmt, Stmts}
use Rattle.cc_wide.specs.WideTree.{Label, WideStmt, Block, Local, Perform, Return, Break, Continue, While, Switch, WideStmts, end, next, Sections}
use Rattle.cc_wide_text.specs.Marks.{switch_mark}
use Rattle.cc_wide_text.specs.Forms.{is_name, label_of, Parts, with_statement, parts_of, switch_of, marked_while, while_of, wide_statement, wide_statements}
use Rattle.cc_wide_check.specs.internal.Switches.{begins, begins_block, begins_while, is_switch}

-- ---- the first part of a block

is_empty : WideStmts → Bool
is_empty end = true
is_empty (next s rest) = false

front_by : (o : Option Label) (s : WideStmt) (p : Parts) → is_empty (with_statement o s p).front ≡ is_some o
unfolding is_empty
front_by None s p = refl
front_by (Some l) s p = refl

front-is : (ws : Stmts) → is_empty (parts_of (wide_statements ws)).front ≡ begins ws
unfolding is_empty
front-is tree.end = refl
front-is (tree.next s rest) = front_by (label_of (wide_statement s)) (wide_statement s) (parts_of (wide_statements rest))

empty-is : (f : WideStmts) → is_empty f ≡ true → f ≡ end
unfolding is_empty
empty-is end h = refl
empty-is (next s rest) h = absurd (false≢true h)

-- a block that begins with a label has nothing before its sections
pub entered : (ws : Stmts) → begins ws ≡ true → (parts_of (wide_statements ws)).front ≡ end
entered ws h = empty-is (parts_of (wide_statements ws)).front (front-is ws ∙ h)

-- ---- a switch

block_stays : (b : Bool) (e : Expr) (vs : WideStmts) → while_of b e (Block vs) ≡ While e (Block vs)
block_stays true e vs = refl
block_stays false e vs = refl

switch_at : (c e : Expr) (vs : WideStmts) (b : Bool) (f : WideStmts) → b ≡ true → f ≡ end → (parts_of vs).front ≡ f → while_of b c (While e (Block vs)) ≡ Switch e (parts_of vs).sections
switch_at c e vs b f is none same =
    ap (λ b. while_of b c (While e (Block vs))) is ∙ ap (λ g. switch_of c e vs g (parts_of vs).sections) (same ∙ none)

pub switch-is : (c e : Expr) (ws : Stmts) → is_switch c (tree.While e (tree.Block ws)) ≡ true
    → wide_statement (tree.While c (tree.While e (tree.Block ws))) ≡ Switch e (parts_of (wide_statements ws)).sections
switch-is c e ws h =
    let p = and_parts (is_name switch_mark c) (begins ws) h in
    ap (while_of (is_name switch_mark c) c) (block_stays (is_name switch_mark e) e (wide_statements ws))
    ∙ switch_at c e (wide_statements ws) (is_name switch_mark c) end p.0 refl (entered ws p.1)

-- the second `while` of the mark is one
pub second-is : (e : Expr) (ws : Stmts) → wide_statement (tree.While e (tree.Block ws)) ≡ While e (Block (wide_statements ws))
second-is e ws = block_stays (is_name switch_mark e) e (wide_statements ws)

-- ---- no switch

-- a block
is_block : WideStmt → Bool
is_block (Block vs) = true
is_block s = false

-- a `while` whose body is a block without statements before its sections
enters : WideStmt → Bool
enters (While e (Block vs)) = is_empty (parts_of vs).front
enters s = false

stays_by : (c e : Expr) (vs f : WideStmts) (ss : Sections) → is_empty f ≡ false → switch_of c e vs f ss ≡ While c (While e (Block vs))
unfolding is_empty
stays_by c e vs end ss h = absurd (true≢false h)
stays_by c e vs (next s rest) ss h = refl

marked_stays : (c : Expr) (w : WideStmt) → enters w ≡ false → marked_while c w ≡ While c w
unfolding enters
marked_stays c (While e (Block vs)) h = stays_by c e vs (parts_of vs).front (parts_of vs).sections h
marked_stays c w h = refl

stays : (b : Bool) (c : Expr) (w : WideStmt) → enters w ≡ false → while_of b c w ≡ While c w
stays true c w h = marked_stays c w h
stays false c w h = refl

-- a `while` is no block
switch_no_block : (c e : Expr) (vs f : WideStmts) (ss : Sections) → is_block (switch_of c e vs f ss) ≡ false
unfolding is_block
switch_no_block c e vs end ss = refl
switch_no_block c e vs (next s rest) ss = refl

while_no_block : (b : Bool) (c : Expr) (w : WideStmt) → is_block (while_of b c w) ≡ false
unfolding is_block
while_no_block true c (While e (Block vs)) = switch_no_block c e vs (parts_of vs).front (parts_of vs).sections
while_no_block true c w = refl
while_no_block false c w = refl

-- a `while` whose body is no block does not enter one
inner_by : (c e : Expr) (vs f : WideStmts) (ss : Sections) → enters (switch_of c e vs f ss) ≡ false
unfolding enters
inner_by c e vs end ss = refl
inner_by c e vs (next s rest) ss = refl

inner_enters : (b : Bool) (c : Expr) (w : WideStmt) → is_block w ≡ false → enters (while_of b c w) ≡ false
unfolding enters is_block
inner_enters true c (While e (Block vs)) h = inner_by c e vs (parts_of vs).front (parts_of vs).sections
inner_enters true c (Block vs) h = absurd (true≢false h)
inner_enters false c (Block vs) h = absurd (true≢false h)
inner_enters true c w h = refl
inner_enters false c w h = refl

-- what the body of a `while` enters
block-enters : (e : Expr) (s : Stmt) → begins_block s ≡ false → enters (wide_statement (tree.While e s)) ≡ false
unfolding enters is_block
block-enters e (tree.Block ws) h = ap enters (second-is e ws) ∙ front-is ws ∙ h
block-enters e (tree.Local t ds) h = inner_enters (is_name switch_mark e) e (Local t ds) refl
block-enters e (tree.Perform a) h = inner_enters (is_name switch_mark e) e (Perform a) refl
block-enters e (tree.Return at f) h = inner_enters (is_name switch_mark e) e (Return at f) refl
block-enters e (tree.Break at) h = inner_enters (is_name switch_mark e) e (Break at) refl
block-enters e (tree.Continue at) h = inner_enters (is_name switch_mark e) e (Continue at) refl
block-enters e (tree.If c s) h = inner_enters (is_name switch_mark e) e (wide_statement (tree.If c s)) refl
block-enters e (tree.IfElse c s r) h = inner_enters (is_name switch_mark e) e (wide_statement (tree.IfElse c s r)) refl
block-enters e (tree.While c s) h = inner_enters (is_name switch_mark e) e (wide_statement (tree.While c s)) (while_no_block (is_name switch_mark c) c (wide_statement s))
block-enters e (tree.DoWhile s c) h = inner_enters (is_name switch_mark e) e (wide_statement (tree.DoWhile s c)) refl
block-enters e (tree.For f c a s) h = inner_enters (is_name switch_mark e) e (wide_statement (tree.For f c a s)) refl

while-enters : (s : Stmt) → begins_while s ≡ false → enters (wide_statement s) ≡ false
unfolding enters
while-enters (tree.While e s) h = block-enters e s h
while-enters s h = refl

while_by : (b : Bool) (c : Expr) (s : Stmt) → (b && begins_while s) ≡ false → while_of b c (wide_statement s) ≡ While c (wide_statement s)
while_by true c s h = stays true c (wide_statement s) (while-enters s h)
while_by false c s h = refl

pub while-is : (c : Expr) (s : Stmt) → is_switch c s ≡ false → wide_statement (tree.While c s) ≡ While c (wide_statement s)
while-is c s h = while_by (is_name switch_mark c) c s h

-- ---- no `while` is a label

label_by : (c e : Expr) (vs f : WideStmts) (ss : Sections) → label_of (switch_of c e vs f ss) ≡ None
label_by c e vs end ss = refl
label_by c e vs (next s rest) ss = refl

pub while-no_label : (b : Bool) (c : Expr) (w : WideStmt) → label_of (while_of b c w) ≡ None
while-no_label true c (While e (Block vs)) = label_by c e vs (parts_of vs).front (parts_of vs).sections
while-no_label true c w = refl
while-no_label false c w = refl
