-- What the parser does with a complete statement: what it does immediately, what it does if an `else` may follow, and what it
-- does after one more token.
use Rattle.std.proofs.Common.{◌≡◌, true, false, List, [], ◌∷◌, ◌++◌, Option, Some, None, refl, sym, ap, ◌∙◌}
use Rattle.std.specs.Prelude.{Bool}
use Rattle.cc_syntax.specs.declared.parser.role.Role.{Role}
use Rattle.cc_syntax.specs.declared.parser.role.Role.TheVariants as role
use Rattle.cc_ast.specs.Tree.{Name, Expr, Stmt, If, IfElse, While, For}
use Rattle.cc_syntax.specs.internal.Roles.{role_of}
use Rattle.cc_ast.specs.Grammar.{Measured}
use Rattle.cc_syntax.specs.internal.Parser.{State, Inside, Stage, Open, InBlock, InThen, InElse, InWhile, InDo, InFor, inside_of, in_body, settled, role_step, role_level, resting_step, resting_depth, resting_level, else_step, else_level, count_of, name_of}
use Rattle.cc_syntax.proofs.ParserRuns.{Runs}

-- the body with these open statements
abbrev pub within : Inside → List Open → Inside
within b os = inside_of b b.finished os

-- the effect of a complete statement does not depend on the open statements that the body itself has
pub settled-within : (w : Bool) (b : Inside) (us os : List Open) (s : Stmt) → settled w (within b us) os s ≡ settled w b os s
settled-within w b us [] s = refl
settled-within w b us (InBlock ss ∷ os) s = refl
settled-within true b us (InThen e ∷ os) s = refl
settled-within false b us (InThen e ∷ os) s = settled-within false b us os (If e s)
settled-within w b us (InElse e t ∷ os) s = settled-within w b us os (IfElse e t s)
settled-within w b us (InWhile e ∷ os) s = settled-within w b us os (While e s)
settled-within w b us (InDo ∷ os) s = refl
settled-within w b us (InFor a e l ∷ os) s = settled-within w b us os (For a e l s)

pub settled-count : (w : Bool) (b : Inside) (os : List Open) (s : Stmt) → 0 ≡ count_of (in_body (settled w b os s))
settled-count w b [] s = refl
settled-count w b (InBlock ss ∷ os) s = refl
settled-count true b (InThen e ∷ os) s = refl
settled-count false b (InThen e ∷ os) s = settled-count false b os (If e s)
settled-count w b (InElse e t ∷ os) s = settled-count w b os (IfElse e t s)
settled-count w b (InWhile e ∷ os) s = settled-count w b os (While e s)
settled-count w b (InDo ∷ os) s = refl
settled-count w b (InFor a e l ∷ os) s = settled-count w b os (For a e l s)

-- after a statement that no `else` follows, `resting_step` is the step of the state
resting-goes : (b : Inside) (os : List Open) (s : Stmt) (r : Role) (x : Name) → resting_step (settled false b os s) r x ≡ role_step (in_body (settled false b os s)) r x
resting-goes b [] s r x = refl
resting-goes b (InBlock ss ∷ os) s r x = refl
resting-goes b (InThen e ∷ os) s r x = resting-goes b os (If e s) r x
resting-goes b (InElse e t ∷ os) s r x = resting-goes b os (IfElse e t s) r x
resting-goes b (InWhile e ∷ os) s r x = resting-goes b os (While e s) r x
resting-goes b (InDo ∷ os) s r x = refl
resting-goes b (InFor a e l ∷ os) s r x = resting-goes b os (For a e l s) r x

resting-levels : (b : Inside) (os : List Open) (s : Stmt) (r : Role) → resting_level (resting_depth os) r ≡ role_level (in_body (settled false b os s)) r
resting-levels b [] s r = refl
resting-levels b (InBlock ss ∷ os) s r = refl
resting-levels b (InThen e ∷ os) s r = resting-levels b os (If e s) r
resting-levels b (InElse e t ∷ os) s r = resting-levels b os (IfElse e t s) r
resting-levels b (InWhile e ∷ os) s r = resting-levels b os (While e s) r
resting-levels b (InDo ∷ os) s r = refl
resting-levels b (InFor a e l ∷ os) s r = resting-levels b os (For a e l s) r

no-else : (b : Inside) (os : List Open) (s : Stmt) (x : Name) → role_step (in_body (settled false b os s)) role.Else x ≡ None
no-else b [] s x = refl
no-else b (InBlock ss ∷ os) s x = refl
no-else b (InThen e ∷ os) s x = no-else b os (If e s) x
no-else b (InElse e t ∷ os) s x = no-else b os (IfElse e t s) x
no-else b (InWhile e ∷ os) s x = no-else b os (While e s) x
no-else b (InDo ∷ os) s x = refl
no-else b (InFor a e l ∷ os) s x = no-else b os (For a e l s) x

pub none-some : {A : Type 0} (o : Option A) (m : A) → o ≡ None → o ≡ Some m → ⊥
none-some o m h k = let e : None ≡ Some m = sym h ∙ k in cc

-- at a token other than `else`, the parser does the same whether it still waits for `else` or not
else-goes : (r : Role) (b : Inside) (os : List Open) (e : Expr) (s : Stmt) (x : Name) (m : State) → role_step (in_body (settled false b os (If e s))) r x ≡ Some m → else_step (within b os) e s r x ≡ Some m
else-goes role.Else b os e s x m h = absurd (none-some _ m (no-else b os (If e s) x) h)
else-goes r b os e s x m h = ap (λ (z : Inside × Stage). resting_step z r x) (settled-within false b os os (If e s)) ∙ resting-goes b os (If e s) r x ∙ h

else-levels : (r : Role) (b : Inside) (os : List Open) (e : Expr) (s : Stmt) (x : Name) (m : State) → role_step (in_body (settled false b os (If e s))) r x ≡ Some m → else_level os r ≡ role_level (in_body (settled false b os (If e s))) r
else-levels role.Else b os e s x m h = absurd (none-some _ m (no-else b os (If e s) x) h)
else-levels r b os e s x m h = resting-levels b os (If e s) r

-- whatever can be read from the second state can be read from the first
abbrev pub RestsAs : State → State → Type 0
RestsAs m n = (p : Measured) (ps : List Measured) (e : State) → Runs n (p ∷ ps) e → Runs m (p ∷ ps) e

pub rests-on : (m n e : State) (ps : List Measured) (q : Measured) (qs : List Measured) → RestsAs m n → Runs n (ps ++ q ∷ qs) e → Runs m (ps ++ q ∷ qs) e
rests-on m n e [] q qs h k = h q qs e k
rests-on m n e (p ∷ ps) q qs h k = h p (ps ++ q ∷ qs) e k

pub settled-rests : (b : Inside) (os : List Open) (s : Stmt) → RestsAs (in_body (settled true b os s)) (in_body (settled false b os s))
settled-rests b [] s p ps e h = h
settled-rests b (InBlock ss ∷ os) s p ps e h = h
settled-rests b (InThen c ∷ os) s p ps e h =
    (h.0, else-goes (role_of p.token.kind) b os c s (name_of p.token) h.0 h.1, h.2, h.3 ∙ sym (else-levels (role_of p.token.kind) b os c s (name_of p.token) h.0 h.1), h.4)
settled-rests b (InElse c t ∷ os) s p ps e h = settled-rests b os (IfElse c t s) p ps e h
settled-rests b (InWhile c ∷ os) s p ps e h = settled-rests b os (While c s) p ps e h
settled-rests b (InDo ∷ os) s p ps e h = h
settled-rests b (InFor a c l ∷ os) s p ps e h = settled-rests b os (For a c l s) p ps e h
