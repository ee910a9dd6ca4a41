-- Reading a token in a function's body, outside full expressions, extends what the tokens so far spell (first part).
use Rattle.std.proofs.Common.{◌≡◌, ℕ, Bool, true, false, suc, List, [], ◌∷◌, ◌++◌, Option, Some, refl, sym, ap, subst, ◌∙◌, append_assoc}
use Rattle.std.proofs.lemmas.Bool.{false≢true}
use Rattle.std.proofs.lemmas.List.{append-nil}
use Rattle.cc_tokens.specs.declared.scalar.Scalar.{Scalar}
use Rattle.cc_tokens.specs.declared.token.Keyword.TheVariants as keyword
use Rattle.cc_tokens.specs.declared.token.Punctuator.TheVariants as punctuator
use Rattle.cc_tokens.specs.Token.{Lexeme}
use Rattle.cc_ast.specs.Tree.{Expr, Beginning, Performs, Declares, Declarator, Stmt, Local, If, IfElse, While, For, Stmts, end, next}
use Rattle.cc_ast.specs.Grammar.{Measured, outside, full, begins, Marks, IsKeyword, SpellsStatement, SpellsStatements, IsStatement, IsClosed}
use Rattle.cc_syntax.specs.internal.Parser.{Inside, Stage, AsLocal, AsHeader, AsStatement, AsStart, AsLast, ForIf, ForWhile, Open, InBlock, InThen, InElse, InWhile, InDo, InFor, settled, with_last}
use Rattle.cc_syntax.proofs.ReadsStatement.{CanStand}
use Rattle.cc_syntax.proofs.SoFarBody.{depth, first, TestingSoFar, SteppingSoFar, StartingSoFar, ReturningSoFar, DeclarationSoFar, SpotSoFar, OpenSoFar, BodySoFar, StageSoFar}

-- what the tokens spell so far, between two tokens of a body
abbrev pub InBodySoFar : Inside × Stage → List Measured → Type 0
InBodySoFar r ts =
    (before mine : List Measured) × BodySoFar r.0.externals r.0.signature r.0.finished r.0.opened before × StageSoFar r.1 r.0.opened mine × (ts ≡ before ++ mine)

pub regrouped : (ts before us vs : List Measured) → ts ≡ before ++ us → ts ++ vs ≡ before ++ (us ++ vs)
regrouped ts before us vs h = ap (λ (z : List Measured). z ++ vs) h ∙ append_assoc before us vs

-- a statement is complete

statements-last : (ss : Stmts) (l : ℕ) (inner ts : List Measured) (s : Stmt) → SpellsStatements l inner ss → SpellsStatement l ts s → SpellsStatements l (inner ++ ts) (with_last ss s)
statements-last end l inner ts s h k = (ts, [], k, refl, ap (λ (z : List Measured). z ++ ts) h ∙ sym (append-nil ts))
statements-last (next u us) l inner ts s h k = (h.0, h.1 ++ ts, h.2, statements-last us l h.1 ts s h.3 k, regrouped inner h.0 h.1 ts h.4)

pub can-statement : (os : List Open) (s : Stmt) → IsStatement s → CanStand os s
can-statement [] s h = tt
can-statement (InBlock ss ∷ os) s h = tt
can-statement (InThen e ∷ os) s h = h
can-statement (InElse e t ∷ os) s h = h
can-statement (InWhile e ∷ os) s h = h
can-statement (InDo ∷ os) s h = h
can-statement (InFor a e l ∷ os) s h = h

pub settled-so_far : (os : List Open) (w : Bool) (b : Inside) (s : Stmt) (before inner : List Measured) → BodySoFar b.externals b.signature b.finished os before → SpellsStatement (depth os) inner s → CanStand os s → (w ≡ true → IsClosed s) → InBodySoFar (settled w b os s) (before ++ inner)
settled-so_far [] w b s before inner h k c closed =
    (before ++ inner, [], (h.0, h.1 ++ inner, h.2, h.3, h.4, h.5, statements-last b.finished 2 h.1 inner s h.6 k, regrouped before h.0 (first 1 0 h.2 ∷ h.1) inner h.7), refl, sym (append-nil (before ++ inner)))
settled-so_far (InBlock ss ∷ os) w b s before inner h k c closed =
    let o = h.3 in
    let block : OpenSoFar (InBlock (with_last ss s)) os (h.1 ++ inner) =
    (o.0, o.1 ++ inner, o.2, statements-last ss (suc (depth os)) o.1 inner s o.3 k, ap (λ (z : List Measured). z ++ inner) o.4) in
    (before ++ inner, [], (h.0, h.1 ++ inner, h.2, block, regrouped before h.0 h.1 inner h.4), refl, sym (append-nil (before ++ inner)))
settled-so_far (InThen e ∷ os) true b s before inner h k c closed =
    (h.0, h.1 ++ inner, h.2, (h.1, inner, h.3, k, c, closed refl, refl), regrouped before h.0 h.1 inner h.4)
settled-so_far (InThen e ∷ os) false b s before inner h k c closed =
    subst (λ (z : List Measured). InBodySoFar (settled false b os (If e s)) z) (sym (regrouped before h.0 h.1 inner h.4))
    (settled-so_far os false b (If e s) h.0 (h.1 ++ inner) h.2 (h.3.0 inner s k c) (can-statement os (If e s) tt) (λ z. absurd (false≢true z)))
settled-so_far (InElse e t ∷ os) w b s before inner h k c closed =
    subst (λ (z : List Measured). InBodySoFar (settled w b os (IfElse e t s)) z) (sym (regrouped before h.0 h.1 inner h.4))
    (settled-so_far os w b (IfElse e t s) h.0 (h.1 ++ inner) h.2 (h.3.0 inner s k c) (can-statement os (IfElse e t s) tt) closed)
settled-so_far (InWhile e ∷ os) w b s before inner h k c closed =
    subst (λ (z : List Measured). InBodySoFar (settled w b os (While e s)) z) (sym (regrouped before h.0 h.1 inner h.4))
    (settled-so_far os w b (While e s) h.0 (h.1 ++ inner) h.2 (h.3 inner s k c) (can-statement os (While e s) tt) closed)
settled-so_far (InDo ∷ os) w b s before inner h k c closed =
    (h.0, h.1 ++ inner, h.2, h.3 inner s k c, regrouped before h.0 h.1 inner h.4)
settled-so_far (InFor a e l ∷ os) w b s before inner h k c closed =
    subst (λ (z : List Measured). InBodySoFar (settled w b os (For a e l s)) z) (sym (regrouped before h.0 h.1 inner h.4))
    (settled-so_far os w b (For a e l s) h.0 (h.1 ++ inner) h.2 (h.3 inner s k c) (can-statement os (For a e l s) tt) closed)

-- at the beginning of a statement

pub begin_if : (os : List Open) (x : Lexeme) → IsKeyword keyword.If x → TestingSoFar ForIf os (first (depth os) 0 x ∷ [])
begin_if os x h o ho test e c spelled hc = (
  λ part s hs is. (x, o, c, test, part, h, ho, hc, spelled, hs, is, ap (λ (z : List Measured). first (depth os) 0 x ∷ outside o ∷ z) (append_assoc (full test) (outside c ∷ []) part)),
  λ part last other s t hs is closed ho' ht it. (x, o, c, other, test, part, last, h, ho, hc, ho', spelled, hs, is, closed, ht, it, ap (λ (z : List Measured). first (depth os) 0 x ∷ outside o ∷ z) (grouped (full test) part last (outside c) (outside other))),
)
  where
    grouped : (t part last : List Measured) (c o : Measured) → (((t ++ c ∷ []) ++ part) ++ o ∷ []) ++ last ≡ t ++ (c ∷ part ++ o ∷ last)
    grouped t part last c o = simp append_assoc

pub begin_while : (os : List Open) (x : Lexeme) → IsKeyword keyword.While x → TestingSoFar ForWhile os (first (depth os) 0 x ∷ [])
begin_while os x h o ho test e c spelled hc part s hs is =
    (x, o, c, test, part, h, ho, hc, spelled, hs, is, ap (λ (z : List Measured). first (depth os) 0 x ∷ outside o ∷ z) (append_assoc (full test) (outside c ∷ []) part))

pub begin_do : (os : List Open) (x : Lexeme) → IsKeyword keyword.Do x → OpenSoFar InDo os (first (depth os) 0 x ∷ [])
begin_do os x h part s hs is w hw o ho test e c spelled hc =
    (λ y hy. (x, w, o, c, y, part, test, h, hw, ho, hc, hy, hs, is, spelled, ap (λ (z : List Measured). first (depth os) 0 x ∷ z) (grouped part (full test) (outside w) (outside o) (outside c) (outside y))), tt, tt)
  where
    grouped : (p t : List Measured) (w o c y : Measured) → (((p ++ w ∷ []) ++ o ∷ []) ++ (t ++ c ∷ [])) ++ y ∷ [] ≡ p ++ (w ∷ o ∷ t ++ c ∷ y ∷ [])
    grouped p t w o c y = simp append_assoc

pub begin_for : (os : List Open) (x o : Lexeme) → IsKeyword keyword.For x → Marks punctuator.OpenParenthesis o → StartingSoFar os (first (depth os) 0 x ∷ outside o ∷ [])
begin_for os x o h ho starting a st test e s te hs last l c la hc body t ht it =
    (x, o, s, c, starting, test, last, body, h, ho, hs, hc, st, te, la, ht, it, ap (λ (z : List Measured). first (depth os) 0 x ∷ outside o ∷ z) (grouped starting test last body (outside s) (outside c)))
  where
    grouped : (s t l b : List Measured) (p q : Measured) → ((s ++ (t ++ p ∷ [])) ++ (l ++ q ∷ [])) ++ b ≡ s ++ (t ++ (p ∷ l ++ q ∷ b))
    grouped s t l b p q = simp append_assoc

pub begin_return : (os : List Open) (x : Lexeme) → IsKeyword keyword.Return x → ReturningSoFar x.at os (first (depth os) 0 x ∷ [])
begin_return os x h operand e y o hy = (x, y, operand, h, refl, hy, o, refl)

-- actions

pub begin_action : (os : List Open) → SpotSoFar AsStatement os []
begin_action os xs a x h k = (full xs, x, (xs, h, refl), k, refl)

pub begin_start : (os : List Open) (mine : List Measured) → StartingSoFar os mine → SpotSoFar AsStart os mine
begin_start os mine s xs a x h k = s (full xs ++ outside x ∷ []) (Performs (Some a)) (full xs, x, (xs, h, refl), k, refl)

pub begin_last : (a : Beginning) (e : Option Expr) (os : List Open) (mine : List Measured) → SteppingSoFar a e os mine → SpotSoFar (AsLast a e) os mine
begin_last a e os mine s xs l x h k = s (full xs) (Some l) x (xs, h, refl) k

-- declarations

pub begin_local : (os : List Open) → ((t : Scalar) (ds : List Declarator) → CanStand os (Local t ds)) → DeclarationSoFar AsLocal os []
begin_local os can inner t ds h = ((inner, h, refl), can t ds)

pub begin_header : (os : List Open) (mine : List Measured) → StartingSoFar os mine → DeclarationSoFar AsHeader os mine
begin_header os mine s inner t ds h = s (begins (suc (depth os)) inner) (Declares t ds) (inner, h, refl)
