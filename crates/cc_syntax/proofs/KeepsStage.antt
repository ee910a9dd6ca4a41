-- Reading a token in a function's body, outside full expressions, extends what the tokens so far spell (second part).
use Rattle.std.proofs.Common.{◌≡◌, ℕ, false, suc, List, [], ◌∷◌, ◌++◌, length, map, Option, Some, None, refl, sym, ap, subst, ◌∙◌, append_assoc, inl, inr}
use Rattle.std.proofs.lemmas.Bool.{false≢true}
use Rattle.std.proofs.lemmas.List.{append-nil}
use Rattle.cc_tokens.specs.declared.scalar.Scalar.{Scalar}
use Rattle.cc_tokens.specs.declared.scalar.Scalar.TheVariants as scalar
use Rattle.cc_ast.specs.declared.ast.AssignmentOperator.TheVariants as assignment
use Rattle.cc_ast.specs.declared.ast.StepOperator.{StepOperator}
use Rattle.cc_tokens.specs.declared.token.Keyword.TheVariants as keyword
use Rattle.cc_tokens.specs.declared.token.Punctuator.TheVariants as punctuator
use Rattle.cc_syntax.specs.declared.parser.role.Role.{Role}
use Rattle.cc_syntax.specs.declared.parser.role.Role.TheVariants as role
use Rattle.cc_tokens.specs.Token.{Lexeme}
use Rattle.cc_ast.specs.Tree.{Name, Expr, AtVariable, Action, Step, Declarator, Beginning, Performs, Stmt, Block, Perform, Return, If, IfElse, While, For, end, Definition}
use Rattle.cc_ast.specs.Grammar.{Measured, outside, full, identifier, Marks, IsKeyword, sign_word, SpellsAction}
use Rattle.cc_syntax.specs.internal.Parser.{Inside, Stage, Item, AfterThen, AfterDo, Testing, Ending, Returning, ForOpening, ForStarting, ForTesting, ForStepping, LocalSign, Declaring, HasDeclared, Stepping, StepNamed, Stepped, OfBody, ToPerform, ToStep, ToReturn, ToTest, ToGoOn, ToInitialise, Test, Position, AsLocal, Spot, AsStatement, AsStart, AsLast, Open, InBlock, InThen, InElse, InWhile, InDo, InFor, inside_of, settled, close_block, declare, action_step, item_step, do_step, resting_step, else_step, testing_step, ending_step, returning_step, for_opening_step, for_starting_step, for_testing_step, for_stepping_step, local_sign_step, declaring_step, declared_step, stepping_step, step_named_step, body_step, item_level, resting_depth, resting_level, else_level, header_level, stage_level, name_of, acted}
use Rattle.cc_syntax.proofs.Settles.{within}
use Rattle.cc_syntax.proofs.KeepsFull.{identified}
use Rattle.cc_syntax.proofs.SoFarBody.{depth, first, position_level, BodySoFar, SpotSoFar, NamedSoFar, leads}
use Rattle.cc_syntax.proofs.KeepsPhase.{HasRole}
use Rattle.cc_syntax.proofs.KeepsBody.{InBodySoFar, regrouped, can-statement, settled-so_far, begin_if, begin_while, begin_do, begin_for, begin_return, begin_action, begin_start, begin_last, begin_local, begin_header}
use Rattle.cc_syntax.proofs.SoFarUnit.{Kept}
use Rattle.cc_syntax.proofs.KeepsContext.{kept-settle, kept-opens, kept-acted}
use Rattle.cc_syntax.proofs.KeepsEnd.{deep, kept-declared, next-declared}
use Rattle.cc_syntax.proofs.KeepsObject.{kept-external}
use Rattle.cc_syntax.proofs.KeepsOperator.{leads-joins, begun, kept-begin}

-- the first token of an action extends what the tokens spell
kept-action : (p : Spot) (r : Role) (b : Inside) (before mine ts : List Measured) (x : Lexeme) (l : ℕ) → HasRole r x → BodySoFar b.externals b.signature b.finished b.opened before → SpotSoFar p b.opened mine → ts ≡ before ++ mine → leads p b.opened (full (x ∷ [])) ≡ record { token = x; count = 1; level = l } ∷ [] → Kept (action_step b p r (name_of x)) ts x l
kept-action p (role.Step op) b before mine ts x l h k s e lead =
    let one : List Measured = record { token = x; count = 1; level = l } ∷ [] in
    (before, mine ++ one, k, (mine, x, s, h, ap (λ (z : List Measured). mine ++ z) (sym lead)), regrouped ts before mine one e)
kept-action p r b before mine ts x l h k s e lead = kept-begin (OfBody b (ToPerform p)) r ts x l h (before, mine, k, (refl, s), e) tt lead

-- blocks

kept-block : (os : List Open) (b : Inside) (ts : List Measured) (x : Lexeme) → Marks punctuator.CloseBrace x → BodySoFar b.externals b.signature b.finished os ts → Kept (close_block b os) ts x 0
kept-block [] b ts x h k =
    let head = k.3 in
    let block : List Measured = first 1 0 k.2 ∷ k.1 ++ outside x ∷ [] in
    let tokens : ts ≡ head.0 ++ (head.1 ++ first 1 0 k.2 ∷ k.1) = k.7 ∙ regrouped k.0 head.0 head.1 (first 1 0 k.2 ∷ k.1) head.4 in
    kept-external b.externals (Definition b.signature b.finished) head.0 (head.1 ++ first 1 0 k.2 ∷ k.1) ts x head.2 tokens
    (head.1, block, head.3, k.4, (k.2, x, k.1, k.5, h, k.6, refl), append_assoc head.1 (first 1 0 k.2 ∷ k.1) (outside x ∷ []))
kept-block (InBlock ss ∷ os) b ts x h k =
    let o = k.3 in
    let block : List Measured = first (depth os) 0 o.0 ∷ o.1 ++ outside x ∷ [] in
    let tokens : ts ++ outside x ∷ [] ≡ k.0 ++ block = regrouped ts k.0 k.1 (outside x ∷ []) k.4 ∙ ap (λ (z : List Measured). k.0 ++ (z ++ outside x ∷ [])) o.4 in
    kept-settle (inside_of b b.finished os) (Block ss) k.0 block ts x 0 k.2 (o.0, x, o.1, o.2, h, o.3, refl) (can-statement os (Block ss) tt) tt tokens
kept-block _ b ts x h k = tt

-- the first keyword of a declaration of locals

kept-int : (os : List Open) (b : Inside) (ts : List Measured) (x : Lexeme) → IsKeyword keyword.Int x → BodySoFar b.externals b.signature b.finished os ts → Kept (declare (within b os) (Declaring AsLocal scalar.Int []) os) ts x (depth os)
kept-int [] b ts x h k = (ts, first 2 0 x ∷ [], k, ([], [], x, [], begin_local [] (λ t ds. tt), inl (x, refl, h, refl), inl (refl, refl), refl), refl)
kept-int (InBlock ss ∷ os) b ts x h k =
    let us = InBlock ss ∷ os in
    (ts, first (depth us) 0 x ∷ [], k, ([], [], x, [], begin_local us (λ t ds. tt), inl (x, refl, h, refl), inl (refl, refl), refl), refl)
kept-int _ b ts x h k = tt

kept-sign : (os : List Open) (b : Inside) (t : Scalar) (ts : List Measured) (x : Lexeme) → IsKeyword (sign_word t) x → BodySoFar b.externals b.signature b.finished os ts → Kept (declare (within b os) (LocalSign AsLocal t) os) ts x (depth os)
kept-sign [] b t ts x h k = (ts, first 2 0 x ∷ [], k, ([], x, begin_local [] (λ u ds. tt), h, refl), refl)
kept-sign (InBlock ss ∷ os) b t ts x h k =
    let us = InBlock ss ∷ os in
    (ts, first (depth us) 0 x ∷ [], k, ([], x, begin_local us (λ u ds. tt), h, refl), refl)
kept-sign _ b t ts x h k = tt

-- the first token of a statement or declaration, or the end of a block, extends what the tokens spell
kept-item : (r : Role) (b : Inside) (ts : List Measured) (x : Lexeme) → HasRole r x → BodySoFar b.externals b.signature b.finished b.opened ts → Kept (item_step b r (name_of x)) ts x (item_level (length b.opened) r)
kept-item role.OpenBrace b ts x h k = kept-opens b (InBlock end) ts (first (depth b.opened) 0 x ∷ []) ts x (depth b.opened) k (x, [], h, refl, refl) refl
kept-item role.CloseBrace b ts x h k = kept-block b.opened b ts x h k
kept-item role.Semicolon b ts x h k =
    kept-settle b (Perform None) ts (first (depth b.opened) 0 x ∷ []) ts x (depth b.opened) k ([], x, refl, h, refl) (can-statement b.opened (Perform None) tt) tt refl
kept-item role.Return b ts x h k = (ts, first (depth b.opened) 0 x ∷ [], k, begin_return b.opened x h, refl)
kept-item role.Break b ts x h k = (ts, first (depth b.opened) 0 x ∷ [], k, (λ y hy. (x, y, h, refl, hy, refl), tt, tt), refl)
kept-item role.Continue b ts x h k = (ts, first (depth b.opened) 0 x ∷ [], k, (λ y hy. (x, y, h, refl, hy, refl), tt, tt), refl)
kept-item role.If b ts x h k = (ts, first (depth b.opened) 0 x ∷ [], k, begin_if b.opened x h, refl)
kept-item role.While b ts x h k = (ts, first (depth b.opened) 0 x ∷ [], k, begin_while b.opened x h, refl)
kept-item role.Do b ts x h k = kept-opens b InDo ts (first (depth b.opened) 0 x ∷ []) ts x (depth b.opened) k (begin_do b.opened x h) refl
kept-item role.For b ts x h k = (ts, first (depth b.opened) 0 x ∷ [], k, λ o ho. begin_for b.opened x o h ho, refl)
kept-item role.Int b ts x h k = kept-int b.opened b ts x h k
kept-item (role.SignWord t) b ts x h k = kept-sign b.opened b t ts x h k
kept-item r b ts x h k = kept-action AsStatement r b ts [] ts x (depth b.opened) h k (begin_action b.opened) (sym (append-nil ts)) refl

-- after the first part of an `if`, and after the body of a `do`

kept-do : (r : Role) (b : Inside) (s : Stmt) (ts : List Measured) (x : Lexeme) → HasRole r x → InBodySoFar (b, AfterDo s) ts → Kept (do_step b s r) ts x 0
kept-do role.While b s ts x h k = (k.0, k.1 ++ outside x ∷ [], k.2, k.3 x h, regrouped ts k.0 k.1 (outside x ∷ []) k.4)
kept-do _ b s ts x h k = tt

-- the state after a statement that no `else` follows agrees with the number of statements that stay open
abbrev Rests : Option ℕ → Inside × Stage → Type 0
Rests (Some d) (b, Item) = length b.opened ≡ d
Rests None (b, AfterDo s) = Unit {0}
Rests _ _ = ⊥

rests : (os : List Open) (b : Inside) (s : Stmt) → Rests (resting_depth os) (settled false b os s)
rests [] b s = refl
rests (InBlock ss ∷ os) b s = refl
rests (InThen e ∷ os) b s = rests os b (If e s)
rests (InElse e t ∷ os) b s = rests os b (IfElse e t s)
rests (InWhile e ∷ os) b s = rests os b (While e s)
rests (InDo ∷ os) b s = tt
rests (InFor a e l ∷ os) b s = rests os b (For a e l s)

kept-resting : (d : Option ℕ) (s : Stage) (b : Inside) (r : Role) (ts : List Measured) (x : Lexeme) → HasRole r x → InBodySoFar (b, s) ts → Rests d (b, s) → Kept (resting_step (b, s) r (name_of x)) ts x (resting_level d r)
kept-resting (Some d) Item b r ts x h k e =
    let whole : BodySoFar b.externals b.signature b.finished b.opened ts =
    subst (λ (z : List Measured). BodySoFar b.externals b.signature b.finished b.opened z) (sym (k.4 ∙ ap (λ (z : List Measured). k.0 ++ z) k.3 ∙ append-nil k.0)) k.2 in
    subst (λ (n : ℕ). Kept (item_step b r (name_of x)) ts x (item_level n r)) e (kept-item r b ts x h whole)
kept-resting None (AfterDo s) b r ts x h k e = kept-do r b s ts x h k
kept-resting _ _ b r ts x h k e = absurd e

kept-other : (b : Inside) (c : Expr) (s : Stmt) (r : Role) (ts : List Measured) (x : Lexeme) → HasRole r x → InBodySoFar (b, AfterThen c s) ts → Kept (resting_step (settled false b b.opened (If c s)) r (name_of x)) ts x (resting_level (resting_depth b.opened) r)
kept-other b c s r ts x h k =
    let t = k.3 in
    let next = settled false b b.opened (If c s) in
    let so_far : InBodySoFar next (k.0 ++ k.1) =
    subst (λ (z : List Measured). InBodySoFar next (k.0 ++ z)) (sym t.6)
    (settled-so_far b.opened false b (If c s) k.0 (t.0 ++ t.1) k.2 (t.2.0 t.1 s t.3 t.4) (can-statement b.opened (If c s) tt) (λ z. absurd (false≢true z))) in
    kept-resting (resting_depth b.opened) next.1 next.0 r ts x h (subst (λ (z : List Measured). InBodySoFar next z) (sym k.4) so_far) (rests b.opened b (If c s))

kept-else : (r : Role) (b : Inside) (c : Expr) (s : Stmt) (ts : List Measured) (x : Lexeme) → HasRole r x → InBodySoFar (b, AfterThen c s) ts → Kept (else_step b c s r (name_of x)) ts x (else_level b.opened r)
kept-else role.Else b c s ts x h k =
    let t = k.3 in
    let mine = (t.0 ++ t.1) ++ outside x ∷ [] in
    let tokens : ts ++ outside x ∷ [] ≡ k.0 ++ mine = regrouped ts k.0 k.1 (outside x ∷ []) k.4 ∙ ap (λ (z : List Measured). k.0 ++ (z ++ outside x ∷ [])) t.6 in
    kept-opens b (InElse c s) k.0 mine ts x 0 k.2 (λ last u hu iu. t.2.1 t.1 last x s u t.3 t.4 t.5 h hu iu, t.5) tokens
kept-else r b c s ts x h k = kept-other b c s r ts x h k

-- conditions and jumps

kept-testing : (r : Role) (b : Inside) (t : Test) (ts : List Measured) (x : Lexeme) → HasRole r x → InBodySoFar (b, Testing t) ts → Kept (testing_step b t r) ts x 0
kept-testing role.OpenParenthesis b t ts x h k =
    let us = ts ++ outside x ∷ [] in
    begun b (ToTest t) 0 us us [] (k.0, k.1 ++ outside x ∷ [], k.2, (refl, k.3 x h), regrouped ts k.0 k.1 (outside x ∷ []) k.4) refl (λ qs. refl) (sym (append-nil us))
kept-testing _ b t ts x h k = tt

kept-ending : (r : Role) (b : Inside) (s : Stmt) (ts : List Measured) (x : Lexeme) → HasRole r x → InBodySoFar (b, Ending s) ts → Kept (ending_step b s r) ts x 0
kept-ending role.Semicolon b s ts x h k =
    let e = k.3 in
    kept-settle b s k.0 (k.1 ++ outside x ∷ []) ts x 0 k.2 (e.0 x h) (can-statement b.opened s e.2) e.1 (regrouped ts k.0 k.1 (outside x ∷ []) k.4)
kept-ending _ b s ts x h k = tt

kept-returning : (r : Role) (b : Inside) (at : ℕ) (ts : List Measured) (x : Lexeme) → HasRole r x → InBodySoFar (b, Returning at) ts → Kept (returning_step b at r (name_of x)) ts x 0
kept-returning role.Semicolon b at ts x h k =
    kept-settle b (Return at None) k.0 (k.1 ++ outside x ∷ []) ts x 0 k.2 (k.3 [] None x refl h) (can-statement b.opened (Return at None) tt) tt (regrouped ts k.0 k.1 (outside x ∷ []) k.4)
kept-returning r b at ts x h k = kept-begin (OfBody b (ToReturn at)) r ts x 0 h (k.0, k.1, k.2, (refl, k.3), k.4) tt refl

-- the header of a `for`

kept-for-opening : (r : Role) (b : Inside) (ts : List Measured) (x : Lexeme) → HasRole r x → InBodySoFar (b, ForOpening) ts → Kept (for_opening_step b r) ts x 0
kept-for-opening role.OpenParenthesis b ts x h k = (k.0, k.1 ++ outside x ∷ [], k.2, k.3 x h, regrouped ts k.0 k.1 (outside x ∷ []) k.4)
kept-for-opening _ b ts x h k = tt

kept-for-starting : (r : Role) (b : Inside) (ts : List Measured) (x : Lexeme) → HasRole r x → InBodySoFar (b, ForStarting) ts → Kept (for_starting_step b r (name_of x)) ts x (header_level b.opened r)
kept-for-starting role.Semicolon b ts x h k =
    (k.0, k.1 ++ outside x ∷ [], k.2, k.3 (outside x ∷ []) (Performs None) ([], x, refl, h, refl), regrouped ts k.0 k.1 (outside x ∷ []) k.4)
kept-for-starting role.Int b ts x h k =
    let p = first (suc (depth b.opened)) 0 x in
    (k.0, k.1 ++ p ∷ [], k.2, (k.1, [], x, [], begin_header b.opened k.1 k.3, inl (x, refl, h, refl), inl (refl, refl), refl), regrouped ts k.0 k.1 (p ∷ []) k.4)
kept-for-starting (role.SignWord t) b ts x h k =
    let p = first (suc (depth b.opened)) 0 x in
    (k.0, k.1 ++ p ∷ [], k.2, (k.1, x, begin_header b.opened k.1 k.3, h, refl), regrouped ts k.0 k.1 (p ∷ []) k.4)
kept-for-starting r b ts x h k = kept-action AsStart r b k.0 k.1 ts x 0 h k.2 (begin_start b.opened k.1 k.3) k.4 refl

kept-for-testing : (r : Role) (b : Inside) (a : Beginning) (ts : List Measured) (x : Lexeme) → HasRole r x → InBodySoFar (b, ForTesting a) ts → Kept (for_testing_step b a r (name_of x)) ts x 0
kept-for-testing role.Semicolon b a ts x h k = (k.0, k.1 ++ outside x ∷ [], k.2, k.3 [] None x refl h, regrouped ts k.0 k.1 (outside x ∷ []) k.4)
kept-for-testing r b a ts x h k = kept-begin (OfBody b (ToGoOn a)) r ts x 0 h (k.0, k.1, k.2, (refl, k.3), k.4) tt refl

kept-for-stepping : (r : Role) (b : Inside) (a : Beginning) (e : Option Expr) (ts : List Measured) (x : Lexeme) → HasRole r x → InBodySoFar (b, ForStepping a e) ts → Kept (for_stepping_step b a e r (name_of x)) ts x 0
kept-for-stepping role.CloseParenthesis b a e ts x h k =
    kept-opens b (InFor a e None) k.0 (k.1 ++ outside x ∷ []) ts x 0 k.2 (k.3 [] None x refl h) (regrouped ts k.0 k.1 (outside x ∷ []) k.4)
kept-for-stepping r b a e ts x h k = kept-action (AsLast a e) r b k.0 k.1 ts x 0 h k.2 (begin_last a e b.opened k.1 k.3) k.4 refl

-- declarations of locals

kept-declaring : (r : Role) (b : Inside) (w : Position) (t : Scalar) (ds : List Declarator) (before mine ts : List Measured) (x : Lexeme) → HasRole r x → BodySoFar b.externals b.signature b.finished b.opened before → NamedSoFar w t ds [] b.opened mine → ts ≡ before ++ mine → Kept (declaring_step b w t ds r (name_of x)) ts x 0
kept-declaring role.Identifier b w t ds before mine ts x h k n e =
    let p = first (position_level w b.opened) 0 n.2 in
    let one : outside x ∷ [] ≡ outside (identifier (name_of x)) ∷ [] = ap (λ (y : Lexeme). outside y ∷ []) (identified x h) in
    let tokens : mine ++ outside x ∷ [] ≡ n.0 ++ (p ∷ (map outside n.3 ++ (n.1 ++ outside (identifier (name_of x)) ∷ []))) =
    ap (λ (z : List Measured). z ++ outside x ∷ []) n.7 ∙ deep n.0 (map outside n.3) n.1 [] (outside x ∷ []) p
    ∙ ap (λ (z : List Measured). n.0 ++ (p ∷ (map outside n.3 ++ (n.1 ++ z)))) one in
    (before, mine ++ outside x ∷ [], k, (n.0, n.1, n.2, n.3, n.4, n.5, n.6, tokens), regrouped ts before mine (outside x ∷ []) e)
kept-declaring _ b w t ds before mine ts x h k n e = tt

kept-local-sign : (r : Role) (b : Inside) (w : Position) (t : Scalar) (ts : List Measured) (x : Lexeme) → HasRole r x → InBodySoFar (b, LocalSign w t) ts → Kept (local_sign_step b w t r (name_of x)) ts x 0
kept-local-sign role.Int b w t ts x h k =
    let n = k.3 in
    let p = first (position_level w b.opened) 0 n.1 in (
      k.0,
      k.1 ++ outside x ∷ [],
      k.2,
      (n.0, [], n.1, x ∷ [], n.2, inr (inr (n.1, x, n.3, h, refl)), inl (refl, refl), regrouped k.1 n.0 (p ∷ []) (outside x ∷ []) n.4),
      regrouped ts k.0 k.1 (outside x ∷ []) k.4,
    )
kept-local-sign r b w t ts x h k =
    let n = k.3 in
    kept-declaring r b w t [] k.0 k.1 ts x h k.2 (n.0, [], n.1, [], n.2, inr (inl (n.1, n.3, refl)), inl (refl, refl), n.4) k.4

kept-has-declared : (r : Role) (b : Inside) (w : Position) (t : Scalar) (ds : List Declarator) (v : Name) (ts : List Measured) (x : Lexeme) → HasRole r x → InBodySoFar (b, HasDeclared w t ds v) ts → Kept (declared_step b w t ds v r) ts x 0
kept-has-declared (role.Assignment assignment.Plain) b w t ds v ts x h k =
    let n = k.3 in
    let us = ts ++ outside x ∷ [] in
    let p = first (position_level w b.opened) 0 n.2 in
    let tokens : k.1 ++ outside x ∷ [] ≡ n.0 ++ (p ∷ (map outside n.3 ++ (n.1 ++ outside (identifier v) ∷ outside x ∷ []))) =
    ap (λ (z : List Measured). z ++ outside x ∷ []) n.7 ∙ deep n.0 (map outside n.3) n.1 (outside (identifier v) ∷ []) (outside x ∷ []) p in
    begun b (ToInitialise w t ds v) 0 us us []
    (k.0, k.1 ++ outside x ∷ [], k.2, (x, h, refl, (n.0, n.1, n.2, n.3, n.4, n.5, n.6, tokens)), regrouped ts k.0 k.1 (outside x ∷ []) k.4) refl (λ qs. refl) (sym (append-nil us))
kept-has-declared role.Comma b w t ds v ts x h k =
    (k.0, k.1 ++ outside x ∷ [], k.2, next-declared w t ds b.opened k.1 v None [] x h refl k.3, regrouped ts k.0 k.1 (outside x ∷ []) k.4)
kept-has-declared role.Semicolon b w t ds v ts x h k =
    kept-declared w b t ds v None [] k.0 k.1 ts x (outside (identifier v) ∷ []) h k.2 k.3 refl refl (regrouped ts k.0 k.1 (outside x ∷ []) k.4)
kept-has-declared _ b w t ds v ts x h k = tt

-- increments and decrements that begin with their operator

-- the tokens of an action are extended by one token
joined : (p : Spot) (os : List Open) (mine before : List Measured) (x : Lexeme) (xs : List Lexeme) (y : Measured) → mine ≡ before ++ leads p os (full (x ∷ xs)) → mine ++ y ∷ [] ≡ before ++ leads p os (full (x ∷ xs) ++ y ∷ [])
joined p os mine before x xs y e = regrouped mine before (leads p os (full (x ∷ xs))) (y ∷ []) e ∙ ap (λ (z : List Measured). before ++ z) (sym (leads-joins p os x xs (y ∷ [])))

kept-stepping : (r : Role) (b : Inside) (op : StepOperator) (p : Spot) (ts : List Measured) (x : Lexeme) → HasRole r x → InBodySoFar (b, Stepping op p) ts → Kept (stepping_step b op p r (name_of x)) ts x 0
kept-stepping role.Identifier b op p ts x h k =
    let s = k.3 in
    let y : Measured = record { token = x; count = 2; level = 0 } in
    let tokens : k.1 ++ y ∷ [] ≡ s.0 ++ leads p b.opened (full (s.1 ∷ identifier (name_of x) ∷ [])) =
    joined p b.opened k.1 s.0 s.1 [] y s.4 ∙ ap (λ (z : Lexeme). s.0 ++ leads p b.opened (full (s.1 ∷ z ∷ []))) (identified x h) in
    (k.0, k.1 ++ y ∷ [], k.2, (s.0, s.1, s.2, s.3, tokens), regrouped ts k.0 k.1 (y ∷ []) k.4)
kept-stepping _ b op p ts x h k = tt

-- the token that ends an action extends what the tokens spell
kept-behind : (p : Spot) (r : Role) (b : Inside) (a : Action) (y : Lexeme) (ys : List Lexeme) (before mine start ts : List Measured) (x : Lexeme) → HasRole r x → BodySoFar b.externals b.signature b.finished b.opened before → SpotSoFar p b.opened start → SpellsAction (y ∷ ys) a → mine ≡ start ++ leads p b.opened (full (y ∷ ys)) → ts ≡ before ++ mine → Kept (acted b p a r) ts x 0
kept-behind p r b a y ys before mine start ts x h k s z m e =
    kept-acted p r b a (y ∷ ys) before start ts x h k s z (regrouped ts before mine (outside x ∷ []) e ∙ ap (λ (u : List Measured). before ++ u) (joined p b.opened mine start y ys (outside x) m))

kept-step-named : (r : Role) (b : Inside) (op : StepOperator) (v : Name) (p : Spot) (ts : List Measured) (x : Lexeme) → HasRole r x → InBodySoFar (b, StepNamed op v p) ts → Kept (step_named_step b op v p r) ts x 0
kept-step-named role.OpenBracket b op v p ts x h k =
    let s = k.3 in
    let y : Measured = record { token = x; count = 3; level = 0 } in
    let xs : List Lexeme = identifier v ∷ x ∷ [] in
    let lead = leads p b.opened (full (s.1 ∷ xs)) in
    let before = k.0 ++ s.0 in
    let tokens : ts ++ y ∷ [] ≡ before ++ lead =
    regrouped ts k.0 k.1 (y ∷ []) k.4 ∙ ap (λ (z : List Measured). k.0 ++ z) (joined p b.opened k.1 s.0 s.1 (identifier v ∷ []) y s.4) ∙ sym (append_assoc k.0 s.0 lead) in
    begun b (ToStep op v p) 3 before (ts ++ y ∷ []) (s.1 ∷ xs) (k.0, s.0, k.2, (s.1, x, s.2, s.3, h, refl), refl) refl (λ qs. leads-joins p b.opened s.1 xs qs) tokens
kept-step-named r b op v p ts x h k =
    let s = k.3 in
    kept-behind p r b (Step op (AtVariable v)) s.1 (identifier v ∷ []) k.0 k.1 s.0 ts x h k.2 s.2 (s.1, identifier v ∷ [], s.3, refl, inl refl) s.4 k.4

-- a token in a body, outside full expressions, extends what the tokens spell
pub kept-stage : (s : Stage) (b : Inside) (r : Role) (ts : List Measured) (x : Lexeme) → HasRole r x → InBodySoFar (b, s) ts → Kept (body_step b s r (name_of x)) ts x (stage_level b.opened s r)
kept-stage Item b r ts x h k =
    let whole : BodySoFar b.externals b.signature b.finished b.opened ts =
    subst (λ (z : List Measured). BodySoFar b.externals b.signature b.finished b.opened z) (sym (k.4 ∙ ap (λ (z : List Measured). k.0 ++ z) k.3 ∙ append-nil k.0)) k.2 in
    kept-item r b ts x h whole
kept-stage (AfterThen e s) b r ts x h k = kept-else r b e s ts x h k
kept-stage (AfterDo s) b r ts x h k = kept-do r b s ts x h k
kept-stage (Testing t) b r ts x h k = kept-testing r b t ts x h k
kept-stage (Ending s) b r ts x h k = kept-ending r b s ts x h k
kept-stage (Returning at) b r ts x h k = kept-returning r b at ts x h k
kept-stage ForOpening b r ts x h k = kept-for-opening r b ts x h k
kept-stage ForStarting b r ts x h k = kept-for-starting r b ts x h k
kept-stage (ForTesting a) b r ts x h k = kept-for-testing r b a ts x h k
kept-stage (ForStepping a e) b r ts x h k = kept-for-stepping r b a e ts x h k
kept-stage (LocalSign w t) b r ts x h k = kept-local-sign r b w t ts x h k
kept-stage (Declaring w t ds) b r ts x h k = kept-declaring r b w t ds k.0 k.1 ts x h k.2 k.3 k.4
kept-stage (HasDeclared w t ds v) b r ts x h k = kept-has-declared r b w t ds v ts x h k
kept-stage (Stepping op p) b r ts x h k = kept-stepping r b op p ts x h k
kept-stage (StepNamed op v p) b r ts x h k = kept-step-named r b op v p ts x h k
kept-stage (Stepped op t p n) b r ts x h k =
    let s = k.3 in
    kept-behind p r b (Step op t) s.1 s.2 k.0 k.1 s.0 ts x h k.2 s.3 s.4 s.6 k.4
