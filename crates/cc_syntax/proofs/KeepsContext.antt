-- Reading a token of a full expression extends what the tokens so far spell: tokens that stay in the expression, and tokens that
-- end an expression in a function's body.
use Rattle.std.proofs.Common.{◌≡◌, ℕ, suc, true, List, [], ◌∷◌, ◌++◌, Option, Some, None, refl, sym, ap, subst, ◌∙◌, append_assoc}
use Rattle.std.proofs.lemmas.List.{append-nil}
use Rattle.cc_syntax.specs.declared.parser.role.Role.{Role}
use Rattle.cc_syntax.specs.declared.parser.role.Role.TheVariants as role
use Rattle.cc_tokens.specs.Token.{Lexeme}
use Rattle.cc_ast.specs.Tree.{Expr, Action, Perform, Stmt}
use Rattle.cc_ast.specs.Grammar.{Measured, outside, full, SpellsAction, SpellsStatement, IsClosed}
use Rattle.cc_syntax.specs.internal.Parser.{State, AtFile, InBody, InFull, Inside, Full, Phase, Context, OfBody, OfObject, Test, ForIf, ForWhile, ForDo, Spot, AsStatement, AsStart, AsLast, Open, InThen, InWhile, InFor, Waiting, settle, opens, acted, tested, settled}
use Rattle.cc_syntax.proofs.Forms.{count_after, count_after-append, full_after-append}
use Rattle.cc_syntax.proofs.Settles.{settled-count}
use Rattle.cc_syntax.proofs.ReadsStatement.{CanStand}
use Rattle.cc_syntax.proofs.SoFarBody.{depth, BodySoFar, OpenSoFar, SpotSoFar, TestedSoFar, leads}
use Rattle.cc_syntax.proofs.KeepsPhase.{HasRole, PhaseSoFar, StaysIn}
use Rattle.cc_syntax.proofs.KeepsBody.{InBodySoFar, regrouped, settled-so_far, can-statement}
use Rattle.cc_syntax.proofs.SoFarUnit.{StartsAt, leads_of, FullSoFar, Kept}

starts-more : (c : Context) (xs : List Lexeme) (x : Lexeme) → StartsAt c xs → StartsAt c (xs ++ x ∷ [])
starts-more (OfBody b p) xs x h = tt
starts-more (OfObject es n p) [] x h = absurd h
starts-more (OfObject es n p) (y ∷ ys) x h = h

-- what a full expression's tokens spell is extended by one more token
pub pushed : (c : Context) (ws us : List Waiting) (k : ℕ) (p q : Phase) (ts : List Measured) (x : Lexeme) → (h : FullSoFar c ws k p ts) → PhaseSoFar q us (h.xs ++ x ∷ []) → FullSoFar c us (suc k) q (ts ++ record { token = x; count = suc k; level = 0 } ∷ [])
pushed c ws us k p q ts x h s =
    let y : Measured = record { token = x; count = suc k; level = 0 } in
    let old = full (h.prefix ++ h.xs) in
    let lexemes : h.prefix ++ (h.xs ++ x ∷ []) ≡ (h.prefix ++ h.xs) ++ x ∷ [] = sym (append_assoc h.prefix h.xs (x ∷ [])) in
    let tokens : full (h.prefix ++ (h.xs ++ x ∷ [])) ≡ old ++ y ∷ [] =
    ap (λ (z : List Lexeme). full z) lexemes ∙ full_after-append 0 (h.prefix ++ h.xs) (x ∷ [])
    ∙ ap (λ (j : ℕ). old ++ record { token = x; count = suc j; level = 0 } ∷ []) (sym h.counted) in
    let lead : leads_of c (old ++ y ∷ []) ≡ leads_of c old ++ y ∷ [] = h.joins (y ∷ []) in
    record {
      before = h.before;
      prefix = h.prefix;
      xs = h.xs ++ x ∷ [];
      context = h.context;
      phase = s;
      counted = ap (λ (j : ℕ). suc j) h.counted ∙ sym (count_after-append 0 (h.prefix ++ h.xs) (x ∷ [])) ∙ ap (λ (z : List Lexeme). count_after 0 z) (sym lexemes);
      starts = starts-more c h.xs x h.starts;
      joins = λ qs.
          ap (λ (z : List Measured). leads_of c (z ++ qs)) tokens ∙ ap (λ (z : List Measured). leads_of c z) (append_assoc old (y ∷ []) qs) ∙ h.joins (y ∷ qs)
          ∙ sym (append_assoc (leads_of c old) (y ∷ []) qs) ∙ ap (λ (z : List Measured). z ++ qs) (sym lead) ∙ ap (λ (z : List Measured). leads_of c z ++ qs) (sym tokens);
      whole = regrouped ts h.before (leads_of c old) (y ∷ []) h.whole ∙ ap (λ (z : List Measured). h.before ++ z) (sym lead) ∙ ap (λ (z : List Measured). h.before ++ leads_of c z) (sym tokens);
    }

-- a token that stays in the full expression extends what the tokens spell
pub kept-stays : (o : Option State) (f : Full) (p : Phase) (ts : List Measured) (x : Lexeme) → (h : FullSoFar f.context f.waiting f.count p ts) → StaysIn f (h.xs ++ x ∷ []) o → Kept o ts x 0
kept-stays None f p ts x h s = tt
kept-stays (Some (AtFile es o)) f p ts x h s = absurd s
kept-stays (Some (InBody b t)) f p ts x h s = absurd s
kept-stays (Some (InFull g q)) f p ts x h s =
    subst (λ (c : Context). FullSoFar c g.waiting g.count q (ts ++ record { token = x; count = g.count; level = 0 } ∷ [])) (sym s.0)
    (subst (λ (n : ℕ). FullSoFar f.context g.waiting n q (ts ++ record { token = x; count = n; level = 0 } ∷ [])) (sym s.1)
    (pushed f.context f.waiting g.waiting f.count p q ts x h s.2))

-- the last token of a statement extends what the tokens spell
pub kept-settle : (b : Inside) (s : Stmt) (before inner ts : List Measured) (x : Lexeme) (l : ℕ) → BodySoFar b.externals b.signature b.finished b.opened before → SpellsStatement (depth b.opened) inner s → CanStand b.opened s → IsClosed s → ts ++ record { token = x; count = 0; level = l } ∷ [] ≡ before ++ inner → Kept (settle b s) ts x l
kept-settle b s before inner ts x l h k c closed e =
    subst (λ (n : ℕ). InBodySoFar (settled true b b.opened s) (ts ++ record { token = x; count = n; level = l } ∷ [])) (settled-count true b b.opened s)
    (subst (λ (z : List Measured). InBodySoFar (settled true b b.opened s) z) (sym e) (settled-so_far b.opened true b s before inner h k c (λ z. closed)))

-- a token after which a statement awaits a part extends what the tokens spell
pub kept-opens : (b : Inside) (o : Open) (before mine ts : List Measured) (x : Lexeme) (l : ℕ) → BodySoFar b.externals b.signature b.finished b.opened before → OpenSoFar o b.opened mine → ts ++ record { token = x; count = 0; level = l } ∷ [] ≡ before ++ mine → Kept (opens b o) ts x l
kept-opens b o before mine ts x l h k e = (ts ++ record { token = x; count = 0; level = l } ∷ [], [], (before, mine, h, k, e), refl, sym (append-nil (ts ++ record { token = x; count = 0; level = l } ∷ [])))

-- the token after an action extends what the tokens spell
pub kept-acted : (p : Spot) (r : Role) (b : Inside) (a : Action) (ys : List Lexeme) (before mine ts : List Measured) (x : Lexeme) → HasRole r x → BodySoFar b.externals b.signature b.finished b.opened before → SpotSoFar p b.opened mine → SpellsAction ys a → ts ++ outside x ∷ [] ≡ before ++ (mine ++ leads p b.opened (full ys ++ outside x ∷ [])) → Kept (acted b p a r) ts x 0
kept-acted AsStatement role.Semicolon b a ys before mine ts x h k s action e =
    kept-settle b (Perform (Some a)) before (mine ++ leads AsStatement b.opened (full ys ++ outside x ∷ [])) ts x 0 k (s ys a x action h) (can-statement b.opened (Perform (Some a)) tt) tt e
kept-acted AsStart role.Semicolon b a ys before mine ts x h k s action e =
    (before, mine ++ (full ys ++ outside x ∷ []), k, s ys a x action h, e)
kept-acted (AsLast st t) role.CloseParenthesis b a ys before mine ts x h k s action e =
    kept-opens b (InFor st t (Some a)) before (mine ++ (full ys ++ outside x ∷ [])) ts x 0 k (s ys a x action h) e
kept-acted _ _ b a ys before mine ts x h k s action e = tt

-- the closing parenthesis of a condition extends what the tokens spell
pub kept-tested : (t : Test) (b : Inside) (e : Expr) (before mine ts : List Measured) (x : Lexeme) → BodySoFar b.externals b.signature b.finished b.opened before → TestedSoFar t e b.opened mine → ts ++ outside x ∷ [] ≡ before ++ mine → Kept (tested b t e) ts x 0
kept-tested ForIf b e before mine ts x h k s = kept-opens b (InThen e) before mine ts x 0 h k s
kept-tested ForWhile b e before mine ts x h k s = kept-opens b (InWhile e) before mine ts x 0 h k s
kept-tested (ForDo d) b e before mine ts x h k s = (before, mine, h, k, s)
