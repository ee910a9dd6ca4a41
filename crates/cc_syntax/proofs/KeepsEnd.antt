-- The token that ends a full expression in a function's body extends what the tokens so far spell.
use Rattle.std.proofs.Common.{◌≡◌, ℕ, suc, List, [], ◌∷◌, ◌++◌, map, Option, Some, refl, sym, ap, subst, ◌∙◌, append_assoc, inl, inr}
use Rattle.std.proofs.lemmas.List.{append-nil}
use Rattle.cc_tokens.specs.declared.scalar.Scalar.{Scalar}
use Rattle.cc_tokens.specs.declared.token.Punctuator.TheVariants as punctuator
use Rattle.cc_syntax.specs.declared.parser.role.Role.{Role}
use Rattle.cc_syntax.specs.declared.parser.role.Role.TheVariants as role
use Rattle.cc_tokens.specs.Token.{Lexeme}
use Rattle.cc_ast.specs.Tree.{Name, Expr, Assign, Evaluate, Declarator, Local, Return}
use Rattle.cc_ast.specs.Grammar.{Measured, outside, full, begins, identifier, Marks, SpellsExpression, SpellsRow, SpellsDeclarator, SpellsInitial}
use Rattle.cc_syntax.specs.internal.Parser.{Inside, Phase, Context, OfBody, Purpose, ToPerform, ToAssign, ToStep, ToReturn, ToTest, ToGoOn, ToInitialise, Position, AsLocal, AsHeader, Open, Waiting, declares, declared, end_in_body}
use Rattle.cc_syntax.proofs.Forms.{count_after, count_after-append, full_after-append}
use Rattle.cc_syntax.proofs.ReadsStatement.{CanStand}
use Rattle.cc_syntax.proofs.SoFarBody.{first, position_level, BodySoFar, RowSoFar, DeclaredSoFar, NamedSoFar, leads}
use Rattle.cc_syntax.proofs.KeepsPhase.{HasRole}
use Rattle.cc_syntax.proofs.KeepsBody.{regrouped, can-statement}
use Rattle.cc_syntax.proofs.SoFarUnit.{FullSoFar, Kept, leads_of}
use Rattle.cc_syntax.proofs.KeepsContext.{kept-settle, kept-acted, kept-tested}

-- a row extended by one part

row-last : {A : Type 0} (S : List Measured → A → Type 0) (done : List A) (a : A) (ts one : List Measured) (comma : Lexeme) → SpellsRow S ts done → Marks punctuator.Comma comma → S one a → SpellsRow S (ts ++ outside comma ∷ one) (done ++ a ∷ [])
row-last S [] a ts one comma h m k = absurd h
row-last S (b ∷ []) a ts one comma h m k = (comma, ts, one, m, h, k, refl)
row-last S (b ∷ c ∷ bs) a ts one comma h m k =
    (h.0, h.1, h.2 ++ outside comma ∷ one, h.3, h.4, row-last S (c ∷ bs) a h.2 one comma h.5 m k, regrouped ts h.1 (outside h.0 ∷ h.2) (outside comma ∷ one) h.6)

pub row-done : {A : Type 0} (S : List Measured → A → Type 0) (done : List A) (a : A) (ts one : List Measured) → RowSoFar S ts done → S one a → SpellsRow S (ts ++ one) (done ++ a ∷ [])
row-done S done a ts one (inl h) k =
    subst (λ z. SpellsRow S (ts ++ one) (z ++ a ∷ [])) (sym h.0) (subst (λ (z : List Measured). SpellsRow S (z ++ one) (a ∷ [])) (sym h.1) k)
row-done S done a ts one (inr h) k =
    subst (λ (z : List Measured). SpellsRow S z (done ++ a ∷ [])) (sym (regrouped ts h.0 (outside h.1 ∷ []) one h.4)) (row-last S done a h.0 one h.1 h.2 h.3 k)

pub row-comma : {A : Type 0} (S : List Measured → A → Type 0) (done : List A) (ts : List Measured) (comma : Lexeme) → SpellsRow S ts done → Marks punctuator.Comma comma → RowSoFar S (ts ++ outside comma ∷ []) done
row-comma S done ts comma h m = inr (ts, comma, h, m, refl)

-- declarations

pub deep : (before others names behind more : List Measured) (p : Measured) → (before ++ (p ∷ (others ++ (names ++ behind)))) ++ more ≡ before ++ (p ∷ (others ++ (names ++ (behind ++ more))))
deep before others names behind more p = simp append_assoc

-- the token that completes a declared name with its initialiser extends what the tokens spell
pub kept-declared : (w : Position) (b : Inside) (t : Scalar) (ds : List Declarator) (v : Name) (i : Option Expr) (initial before mine ts : List Measured) (x : Lexeme) (behind : List Measured) → Marks punctuator.Semicolon x → BodySoFar b.externals b.signature b.finished b.opened before → NamedSoFar w t ds behind b.opened mine → SpellsInitial initial i → behind ++ outside x ∷ [] ≡ outside (identifier v) ∷ initial ++ outside x ∷ [] → ts ++ outside x ∷ [] ≡ before ++ (mine ++ outside x ∷ []) → Kept (declares b w t (ds ++ declared v i ∷ [])) ts x 0
kept-declared w b t ds v i initial before mine ts x behind h k n s same e =
    let names = n.1 in
    let row : SpellsRow SpellsDeclarator (names ++ outside (identifier v) ∷ initial) (ds ++ declared v i ∷ []) =
    row-done SpellsDeclarator ds (declared v i) names (outside (identifier v) ∷ initial) n.6 (initial, s, refl) in
    let p = first (position_level w b.opened) 0 n.2 in
    let inner : List Measured = outside n.2 ∷ map outside n.3 ++ ((names ++ outside (identifier v) ∷ initial) ++ outside x ∷ []) in
    let tokens : mine ++ outside x ∷ [] ≡ n.0 ++ begins (position_level w b.opened) inner =
    ap (λ (z : List Measured). z ++ outside x ∷ []) n.7 ∙ deep n.0 (map outside n.3) names behind (outside x ∷ []) p
    ∙ ap (λ (z : List Measured). n.0 ++ (p ∷ (map outside n.3 ++ (names ++ z)))) same
    ∙ ap (λ (z : List Measured). n.0 ++ (p ∷ (map outside n.3 ++ z))) (sym (append_assoc names (outside (identifier v) ∷ initial) (outside x ∷ []))) in
    let done = n.4 inner t (ds ++ declared v i ∷ []) (n.2 ∷ n.3, names ++ outside (identifier v) ∷ initial, x, n.5, row, h, refl) in
    finish w (begins (position_level w b.opened) inner) n.0 done (e ∙ ap (λ (z : List Measured). before ++ z) tokens)
  where
    finish : (w : Position) (inner start : List Measured) → DeclaredSoFar w t (ds ++ declared v i ∷ []) b.opened (start ++ inner) → ts ++ outside x ∷ [] ≡ before ++ (start ++ inner) → Kept (declares b w t (ds ++ declared v i ∷ [])) ts x 0
    finish AsLocal inner start d g = kept-settle b (Local t (ds ++ declared v i ∷ [])) before (start ++ inner) ts x 0 k d.0 d.1 tt g
    finish AsHeader inner start d g = (before, start ++ inner, k, d, g)

-- the tokens of a full expression are extended by one token
pub pushed-tokens : (c : Context) (ws : List Waiting) (k : ℕ) (p : Phase) (ts : List Measured) (x : Lexeme) → (h : FullSoFar c ws k p ts) → ts ++ record { token = x; count = suc k; level = 0 } ∷ [] ≡ h.before ++ leads_of c (full (h.prefix ++ (h.xs ++ x ∷ [])))
pushed-tokens c ws k p ts x h =
    let y : Measured = record { token = x; count = suc k; level = 0 } in
    let old = full (h.prefix ++ h.xs) in
    let tokens : full (h.prefix ++ (h.xs ++ x ∷ [])) ≡ old ++ y ∷ [] =
    ap (λ (z : List Lexeme). full z) (sym (append_assoc h.prefix h.xs (x ∷ []))) ∙ full_after-append 0 (h.prefix ++ h.xs) (x ∷ [])
    ∙ ap (λ (j : ℕ). old ++ record { token = x; count = suc j; level = 0 } ∷ []) (sym h.counted) in
    regrouped ts h.before (leads_of c old) (y ∷ []) h.whole ∙ ap (λ (z : List Measured). h.before ++ z) (sym (h.joins (y ∷ []))) ∙ ap (λ (z : List Measured). h.before ++ leads_of c z) (sym tokens)

valued : (w : Position) (t : Scalar) (ds : List Declarator) (os : List Open) (mine : List Measured) (v : Name) (sign : Lexeme) (value : List Measured) → NamedSoFar w t ds (outside (identifier v) ∷ outside sign ∷ []) os mine → NamedSoFar w t ds (outside (identifier v) ∷ outside sign ∷ value) os (mine ++ value)
valued w t ds os mine v sign value n =
    (n.0, n.1, n.2, n.3, n.4, n.5, n.6, ap (λ (z : List Measured). z ++ value) n.7 ∙ deep n.0 (map outside n.3) n.1 (outside (identifier v) ∷ outside sign ∷ []) value (first (position_level w os) 0 n.2))

-- a declared name and its initialiser, with a comma after them, extend what the tokens of a declaration spell
pub next-declared : (w : Position) (t : Scalar) (ds : List Declarator) (os : List Open) (mine : List Measured) (v : Name) (i : Option Expr) (initial : List Measured) (x : Lexeme) → Marks punctuator.Comma x → SpellsInitial initial i → NamedSoFar w t ds (outside (identifier v) ∷ initial) os mine → NamedSoFar w t (ds ++ declared v i ∷ []) [] os (mine ++ outside x ∷ [])
next-declared w t ds os mine v i initial x h s n =
    let one : List Measured = outside (identifier v) ∷ initial in
    let row : SpellsRow SpellsDeclarator (n.1 ++ one) (ds ++ declared v i ∷ []) = row-done SpellsDeclarator ds (declared v i) n.1 one n.6 (initial, s, refl) in
    let names : List Measured = (n.1 ++ one) ++ outside x ∷ [] in
    let p = first (position_level w os) 0 n.2 in
    let grouped : n.1 ++ (one ++ outside x ∷ []) ≡ names ++ [] = sym (append_assoc n.1 one (outside x ∷ [])) ∙ sym (append-nil names) in
    let tokens : mine ++ outside x ∷ [] ≡ n.0 ++ (p ∷ (map outside n.3 ++ (names ++ []))) =
    ap (λ (z : List Measured). z ++ outside x ∷ []) n.7 ∙ deep n.0 (map outside n.3) n.1 one (outside x ∷ []) p
    ∙ ap (λ (z : List Measured). n.0 ++ (p ∷ (map outside n.3 ++ z))) grouped in
    (n.0, names, n.2, n.3, n.4, n.5, row-comma SpellsDeclarator (ds ++ declared v i ∷ []) (n.1 ++ one) x row h, tokens)

-- the token after a full expression in a body extends what the tokens spell
pub kept-end : (p : Purpose) (r : Role) (b : Inside) (ws : List Waiting) (n : ℕ) (q : Phase) (e : Expr) (ts : List Measured) (x : Lexeme) → HasRole r x → (h : FullSoFar (OfBody b p) ws n q ts) → SpellsExpression 1 h.xs e → Kept (end_in_body b p n e r) ts x 0
kept-end (ToPerform s) r b ws n q e ts x h f k =
    let c = f.context in
    let u = c.3 in
    let plain : f.prefix ++ f.xs ≡ f.xs = ap (λ (z : List Lexeme). z ++ f.xs) u.0 in
    let tokens : ts ++ outside x ∷ [] ≡ c.0 ++ (c.1 ++ leads s b.opened (full f.xs ++ outside x ∷ [])) =
    regrouped ts f.before (leads s b.opened (full (f.prefix ++ f.xs))) (outside x ∷ []) f.whole
    ∙ ap (λ (z : List Measured). f.before ++ z) (sym (f.joins (outside x ∷ [])))
    ∙ ap (λ (z : List Lexeme). f.before ++ leads s b.opened (full z ++ outside x ∷ [])) plain
    ∙ regrouped f.before c.0 c.1 (leads s b.opened (full f.xs ++ outside x ∷ [])) c.4 in
    kept-acted s r b (Evaluate e) f.xs c.0 c.1 ts x h c.2 u.1 k tokens
kept-end (ToAssign op t s) r b ws n q e ts x h f k =
    let c = f.context in
    let u = c.3 in
    let ys = f.prefix ++ f.xs in
    let action : ys ≡ u.0 ++ u.1 ∷ f.xs = ap (λ (z : List Lexeme). z ++ f.xs) u.5 ∙ append_assoc u.0 (u.1 ∷ []) f.xs in
    let tokens : ts ++ outside x ∷ [] ≡ c.0 ++ (c.1 ++ leads s b.opened (full ys ++ outside x ∷ [])) =
    regrouped ts f.before (leads s b.opened (full ys)) (outside x ∷ []) f.whole
    ∙ ap (λ (z : List Measured). f.before ++ z) (sym (f.joins (outside x ∷ [])))
    ∙ regrouped f.before c.0 c.1 (leads s b.opened (full ys ++ outside x ∷ [])) c.4 in
    kept-acted s r b (Assign op t e) ys c.0 c.1 ts x h c.2 u.2 (u.1, u.0, f.xs, u.3, u.4, k, action) tokens
kept-end (ToReturn at) role.Semicolon b ws n q e ts x h f k =
    let c = f.context in
    let u = c.3 in
    let plain : f.prefix ++ f.xs ≡ f.xs = ap (λ (z : List Lexeme). z ++ f.xs) u.0 in
    let tokens : ts ++ outside x ∷ [] ≡ c.0 ++ (c.1 ++ (full f.xs ++ outside x ∷ [])) =
    regrouped ts f.before (full (f.prefix ++ f.xs)) (outside x ∷ []) f.whole ∙ ap (λ (z : List Lexeme). f.before ++ (full z ++ outside x ∷ [])) plain
    ∙ regrouped f.before c.0 c.1 (full f.xs ++ outside x ∷ []) c.4 in
    kept-settle b (Return at (Some e)) c.0 (c.1 ++ (full f.xs ++ outside x ∷ [])) ts x 0 c.2 (u.1 (full f.xs) (Some e) x (f.xs, k, refl) h) (can b.opened) tt tokens
  where
    can : (os : List Open) → CanStand os (Return at (Some e))
    can os = can-statement os (Return at (Some e)) tt
kept-end (ToTest t) role.CloseParenthesis b ws n q e ts x h f k =
    let c = f.context in
    let u = c.3 in
    let plain : f.prefix ++ f.xs ≡ f.xs = ap (λ (z : List Lexeme). z ++ f.xs) u.0 in
    let tokens : ts ++ outside x ∷ [] ≡ c.0 ++ (c.1 ++ (full f.xs ++ outside x ∷ [])) =
    regrouped ts f.before (full (f.prefix ++ f.xs)) (outside x ∷ []) f.whole ∙ ap (λ (z : List Lexeme). f.before ++ (full z ++ outside x ∷ [])) plain
    ∙ regrouped f.before c.0 c.1 (full f.xs ++ outside x ∷ []) c.4 in
    kept-tested t b e c.0 (c.1 ++ (full f.xs ++ outside x ∷ [])) ts x c.2 (u.1 f.xs e x k h) tokens
kept-end (ToGoOn a) role.Semicolon b ws n q e ts x h f k =
    let c = f.context in
    let u = c.3 in
    let plain : f.prefix ++ f.xs ≡ f.xs = ap (λ (z : List Lexeme). z ++ f.xs) u.0 in
    let tokens : ts ++ outside x ∷ [] ≡ c.0 ++ (c.1 ++ (full f.xs ++ outside x ∷ [])) =
    regrouped ts f.before (full (f.prefix ++ f.xs)) (outside x ∷ []) f.whole ∙ ap (λ (z : List Lexeme). f.before ++ (full z ++ outside x ∷ [])) plain
    ∙ regrouped f.before c.0 c.1 (full f.xs ++ outside x ∷ []) c.4 in
    (c.0, c.1 ++ (full f.xs ++ outside x ∷ []), c.2, u.1 (full f.xs) (Some e) x (f.xs, k, refl) h, tokens)
kept-end (ToStep op v s) role.CloseBracket b ws n q e ts x h f k =
    let c = f.context in
    let u = c.3 in
    let ys : List Lexeme = identifier v ∷ u.1 ∷ f.xs ++ x ∷ [] in
    let lexemes : (f.prefix ++ f.xs) ++ x ∷ [] ≡ u.0 ∷ ys = ap (λ (z : List Lexeme). (z ++ f.xs) ++ x ∷ []) u.5 in
    let count : suc n ≡ count_after 0 (u.0 ∷ ys) =
    ap (λ (j : ℕ). suc j) f.counted ∙ sym (count_after-append 0 (f.prefix ++ f.xs) (x ∷ [])) ∙ ap (λ (z : List Lexeme). count_after 0 z) lexemes in
    let tokens : ts ++ record { token = x; count = suc n; level = 0 } ∷ [] ≡ c.0 ++ (c.1 ++ leads s b.opened (full (u.0 ∷ ys))) =
    pushed-tokens (OfBody b (ToStep op v s)) ws n q ts x f
    ∙ ap (λ (z : List Lexeme). f.before ++ leads s b.opened (full z)) (sym (append_assoc f.prefix f.xs (x ∷ [])) ∙ lexemes)
    ∙ regrouped f.before c.0 c.1 (leads s b.opened (full (u.0 ∷ ys))) c.4 in (
      c.0,
      c.1 ++ leads s b.opened (full (u.0 ∷ ys)),
      c.2,
      (c.1, u.0, ys, u.2, (u.0, ys, u.3, (u.1, x, f.xs, u.4, h, k, refl), inl refl), count, refl),
      tokens,
    )
kept-end (ToInitialise w t ds v) role.Comma b ws n q e ts x h f k =
    let c = f.context in
    let u = c.3 in
    let plain : f.prefix ++ f.xs ≡ f.xs = ap (λ (z : List Lexeme). z ++ f.xs) u.2 in
    let value = full f.xs in
    let tokens : ts ++ outside x ∷ [] ≡ c.0 ++ ((c.1 ++ value) ++ outside x ∷ []) =
    regrouped ts f.before (full (f.prefix ++ f.xs)) (outside x ∷ []) f.whole ∙ ap (λ (z : List Lexeme). f.before ++ (full z ++ outside x ∷ [])) plain
    ∙ regrouped f.before c.0 c.1 (value ++ outside x ∷ []) c.4 ∙ ap (λ (z : List Measured). c.0 ++ z) (sym (append_assoc c.1 value (outside x ∷ []))) in
    (c.0, (c.1 ++ value) ++ outside x ∷ [], c.2, next-declared w t ds b.opened (c.1 ++ value) v (Some e) (outside u.0 ∷ value) x h (u.0, f.xs, u.1, k, refl) (valued w t ds b.opened c.1 v u.0 value u.3), tokens)
kept-end (ToInitialise w t ds v) role.Semicolon b ws n q e ts x h f k =
    let c = f.context in
    let u = c.3 in
    let plain : f.prefix ++ f.xs ≡ f.xs = ap (λ (z : List Lexeme). z ++ f.xs) u.2 in
    let value = full f.xs in
    let tokens : ts ++ outside x ∷ [] ≡ c.0 ++ ((c.1 ++ value) ++ outside x ∷ []) =
    regrouped ts f.before (full (f.prefix ++ f.xs)) (outside x ∷ []) f.whole ∙ ap (λ (z : List Lexeme). f.before ++ (full z ++ outside x ∷ [])) plain
    ∙ regrouped f.before c.0 c.1 (value ++ outside x ∷ []) c.4 ∙ ap (λ (z : List Measured). c.0 ++ z) (sym (append_assoc c.1 value (outside x ∷ []))) in
    kept-declared w b t ds v (Some e) (outside u.0 ∷ value) c.0 (c.1 ++ value) ts x (outside (identifier v) ∷ outside u.0 ∷ value) h c.2 (valued w t ds b.opened c.1 v u.0 value u.3) (u.0, f.xs, u.1, k, refl) refl tokens
kept-end _ _ b ws n q e ts x h f k = tt
