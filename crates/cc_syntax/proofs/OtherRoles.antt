-- What the parser does at a token whose role is not the expected one.
use Rattle.std.proofs.Common.{◌≡◌, refl, Option, false}
use Rattle.cc_syntax.specs.declared.parser.role.Role.{Role}
use Rattle.cc_syntax.specs.declared.parser.role.Role.TheVariants as role
use Rattle.cc_ast.specs.Tree.{Name, Expr, Stmt, If, Beginning}
use Rattle.cc_syntax.specs.internal.Parser.{Inside, AsLast, settled, action_step, resting_step, else_step, for_stepping_step}

-- a token that does not close a `for` header begins the header's last part
pub for_stepping-other : (b : Inside) (a : Beginning) (e : Option Expr) (r : Role) (x : Name) → (r ≡ role.CloseParenthesis → ⊥) → for_stepping_step b a e r x ≡ action_step b (AsLast a e) r x
for_stepping-other b a e role.Identifier x h = refl
for_stepping-other b a e (role.Number t n) x h = refl
for_stepping-other b a e role.Int x h = refl
for_stepping-other b a e role.Char x h = refl
for_stepping-other b a e (role.SignWord t) x h = refl
for_stepping-other b a e role.Void x h = refl
for_stepping-other b a e role.Return x h = refl
for_stepping-other b a e role.Break x h = refl
for_stepping-other b a e role.Continue x h = refl
for_stepping-other b a e role.If x h = refl
for_stepping-other b a e role.Else x h = refl
for_stepping-other b a e role.While x h = refl
for_stepping-other b a e role.Do x h = refl
for_stepping-other b a e role.For x h = refl
for_stepping-other b a e role.OpenParenthesis x h = refl
for_stepping-other b a e role.CloseParenthesis x h = absurd (h refl)
for_stepping-other b a e role.OpenBracket x h = refl
for_stepping-other b a e role.CloseBracket x h = refl
for_stepping-other b a e role.OpenBrace x h = refl
for_stepping-other b a e role.CloseBrace x h = refl
for_stepping-other b a e role.Semicolon x h = refl
for_stepping-other b a e role.Comma x h = refl
for_stepping-other b a e role.Question x h = refl
for_stepping-other b a e role.Colon x h = refl
for_stepping-other b a e role.Plus x h = refl
for_stepping-other b a e role.Minus x h = refl
for_stepping-other b a e (role.Prefix o) x h = refl
for_stepping-other b a e (role.Infix o) x h = refl
for_stepping-other b a e (role.Assignment o) x h = refl
for_stepping-other b a e (role.Step o) x h = refl
for_stepping-other b a e role.Other x h = refl

-- if no `else` follows the first part of an `if`, the statement is complete
pub else-other : (b : Inside) (e : Expr) (s : Stmt) (r : Role) (x : Name) → (r ≡ role.Else → ⊥) → else_step b e s r x ≡ resting_step (settled false b b.opened (If e s)) r x
else-other b e s role.Identifier x h = refl
else-other b e s (role.Number t n) x h = refl
else-other b e s role.Int x h = refl
else-other b e s role.Char x h = refl
else-other b e s (role.SignWord t) x h = refl
else-other b e s role.Void x h = refl
else-other b e s role.Return x h = refl
else-other b e s role.Break x h = refl
else-other b e s role.Continue x h = refl
else-other b e s role.If x h = refl
else-other b e s role.Else x h = absurd (h refl)
else-other b e s role.While x h = refl
else-other b e s role.Do x h = refl
else-other b e s role.For x h = refl
else-other b e s role.OpenParenthesis x h = refl
else-other b e s role.CloseParenthesis x h = refl
else-other b e s role.OpenBracket x h = refl
else-other b e s role.CloseBracket x h = refl
else-other b e s role.OpenBrace x h = refl
else-other b e s role.CloseBrace x h = refl
else-other b e s role.Semicolon x h = refl
else-other b e s role.Comma x h = refl
else-other b e s role.Question x h = refl
else-other b e s role.Colon x h = refl
else-other b e s role.Plus x h = refl
else-other b e s role.Minus x h = refl
else-other b e s (role.Prefix o) x h = refl
else-other b e s (role.Infix o) x h = refl
else-other b e s (role.Assignment o) x h = refl
else-other b e s (role.Step o) x h = refl
else-other b e s role.Other x h = refl
