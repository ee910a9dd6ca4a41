-- A token in a full expression, and the first token of one, extend what the tokens so far spell.
use Rattle.std.proofs.Common.{◌≡◌, ◌≤◌, ℕ, suc, List, [], ◌∷◌, ◌++◌, Option, Some, None, refl, sym, ap, subst, ◌∙◌, arith, inr}
use Rattle.std.proofs.lemmas.List.{append-nil}
use Rattle.cc_ast.specs.declared.ast.BinaryOperator.{BinaryOperator}
use Rattle.cc_ast.specs.declared.ast.BinaryOperator.TheVariants as binary
use Rattle.cc_ast.specs.declared.ast.AssignmentOperator.{AssignmentOperator}
use Rattle.cc_ast.specs.declared.ast.StepOperator.{StepOperator}
use Rattle.cc_syntax.specs.declared.parser.role.Role.{Role}
use Rattle.cc_syntax.specs.declared.parser.role.Role.TheVariants as role
use Rattle.cc_tokens.specs.Token.{Lexeme}
use Rattle.cc_ast.specs.Tree.{Expr, Variable, Element, Target, Step}
use Rattle.cc_ast.specs.Grammar.{Measured, full, Marks, SpellsExpression, SpellsTarget, SpellsAction, precedence, binary_punctuator, assignment_punctuator, step_punctuator}
use Rattle.cc_syntax.specs.internal.Parser.{State, AtFile, InBody, InFull, Inside, Full, Phase, Operand, Operator, CastSign, CastType, Context, OfBody, OfObject, Purpose, ToPerform, ToAssign, Spot, AsStatement, AsStart, AsLast, Open, Waiting, reduced, full_of, close, operate, ask, open_name, assign, assigns, step_target, steps, target_of, end_full, operand_step, operator_step, cast_step, cast_sign_step, full_step, first_step, name_of}
use Rattle.cc_syntax.proofs.Forms.{count_after, count_after-append}
use Rattle.cc_syntax.proofs.ReadsExpression.{precedence-within}
use Rattle.cc_syntax.proofs.SoFar.{Holds}
use Rattle.cc_syntax.proofs.KeepsExpression.{Reduces, reduces}
use Rattle.cc_syntax.proofs.KeepsFull.{HasToken, has_token, looser, kept-binary, kept-question, whole-spelled}
use Rattle.cc_syntax.proofs.SoFarBody.{leads, spot_of}
use Rattle.cc_syntax.proofs.KeepsPhase.{HasRole, StaysIn, kept-operand, kept-cast, kept-cast-word, kept-name, kept-close}
use Rattle.cc_syntax.proofs.KeepsBody.{regrouped}
use Rattle.cc_syntax.proofs.SoFarUnit.{ContextSoFar, StartsAt, leads_of, FullSoFar, Kept}
use Rattle.cc_syntax.proofs.KeepsContext.{kept-stays}
use Rattle.cc_syntax.proofs.KeepsEnd.{kept-end, pushed-tokens}
use Rattle.cc_syntax.proofs.KeepsObject.{kept-constant}

-- tokens appended to those of an action do not change the level of its first token
pub leads-joins : (p : Spot) (os : List Open) (x : Lexeme) (xs : List Lexeme) (qs : List Measured) → leads p os (full (x ∷ xs) ++ qs) ≡ leads p os (full (x ∷ xs)) ++ qs
leads-joins AsStatement os x xs qs = refl
leads-joins AsStart os x xs qs = refl
leads-joins (AsLast a e) os x xs qs = refl

leads-last : (p : Spot) (os : List Open) (xs : List Lexeme) (x : Lexeme) (qs : List Measured) → leads p os (full (xs ++ x ∷ []) ++ qs) ≡ leads p os (full (xs ++ x ∷ [])) ++ qs
leads-last p os [] x qs = leads-joins p os x [] qs
leads-last p os (y ∷ ys) x qs = leads-joins p os y (ys ++ x ∷ []) qs

first-joins : (c : Context) (x : Lexeme) (qs : List Measured) → leads_of c (full (x ∷ []) ++ qs) ≡ leads_of c (full (x ∷ [])) ++ qs
first-joins (OfBody b p) x qs = leads-joins (spot_of p) b.opened x [] qs
first-joins (OfObject es n p) x qs = refl

-- the tokens spell what the state before an operand says, if `zs` are all tokens of the full expression that
-- precede the operand's expression
pub begun : (b : Inside) (p : Purpose) (k : ℕ) (before ts : List Measured) (zs : List Lexeme) → ContextSoFar (OfBody b p) before zs → k ≡ count_after 0 zs → ((qs : List Measured) → leads (spot_of p) b.opened (full zs ++ qs) ≡ leads (spot_of p) b.opened (full zs) ++ qs) → ts ≡ before ++ leads (spot_of p) b.opened (full zs) → FullSoFar (OfBody b p) [] k Operand ts
begun b p k before ts zs h c j w =
    let same : zs ≡ zs ++ [] = sym (append-nil zs) in
    record {
      before = before;
      prefix = zs;
      xs = [];
      context = h;
      phase = refl;
      counted = subst (λ (z : List Lexeme). k ≡ count_after 0 z) same c;
      starts = tt;
      joins = subst (λ (z : List Lexeme). (qs : List Measured) → leads (spot_of p) b.opened (full z ++ qs) ≡ leads (spot_of p) b.opened (full z) ++ qs) same j;
      whole = subst (λ (z : List Lexeme). ts ≡ before ++ leads (spot_of p) b.opened (full z)) same w;
    }

-- the first token of a full expression

kept-first : (o : Option State) (c : Context) (ts : List Measured) (x : Lexeme) (l : ℕ) → ContextSoFar c ts [] → StartsAt c (x ∷ []) → leads_of c (full (x ∷ [])) ≡ record { token = x; count = 1; level = l } ∷ [] → StaysIn (full_of c [] 0) (x ∷ []) o → Kept o ts x l
kept-first None c ts x l h b e s = tt
kept-first (Some (AtFile es o)) c ts x l h b e s = absurd s
kept-first (Some (InBody d t)) c ts x l h b e s = absurd s
kept-first (Some (InFull g q)) c ts x l h b e s =
    let one : FullSoFar c g.waiting 1 q (ts ++ record { token = x; count = 1; level = l } ∷ []) = record {
      before = ts;
      prefix = [];
      xs = x ∷ [];
      context = h;
      phase = s.2;
      counted = refl;
      starts = b;
      joins = λ qs. first-joins c x qs;
      whole = ap (λ (z : List Measured). ts ++ z) (sym e);
    } in
    subst (λ (d : Context). FullSoFar d g.waiting g.count q (ts ++ record { token = x; count = g.count; level = l } ∷ [])) (sym s.0)
    (subst (λ (n : ℕ). FullSoFar c g.waiting n q (ts ++ record { token = x; count = n; level = l } ∷ [])) (sym s.1) one)

pub kept-begin : (c : Context) (r : Role) (ts : List Measured) (x : Lexeme) (l : ℕ) → HasRole r x → ContextSoFar c ts [] → StartsAt c (x ∷ []) → leads_of c (full (x ∷ [])) ≡ record { token = x; count = 1; level = l } ∷ [] → Kept (first_step c r (name_of x)) ts x l
kept-begin c r ts x l h k b e = kept-first (first_step c r (name_of x)) c ts x l k b e (kept-operand r (full_of c [] 0) [] x h refl)

-- a closing token after an operand

kept-whole : (c : Context) (r : Role) (ws : List Waiting) (n : ℕ) (q : Phase) (e : Expr) (ts : List Measured) (x : Lexeme) → HasRole r x → (h : FullSoFar c ws n q ts) → SpellsExpression 1 h.xs e → Kept (end_full c n e r) ts x 0
kept-whole (OfBody b p) r ws n q e ts x h f k = kept-end p r b ws n q e ts x h f k
kept-whole (OfObject es m p) r ws n q e ts x h f k = kept-constant p r es m ws n q e ts x h f k

kept-closing : (ws : List Waiting) (e : Expr) (r : Role) (f : Full) (p : Phase) (ts : List Measured) (x : Lexeme) → HasRole r x → (h : FullSoFar f.context f.waiting f.count p ts) → Holds ws e h.xs 1 → Kept (close f r (e, ws)) ts x 0
kept-closing [] e r f p ts x h k l = kept-whole f.context r f.waiting f.count p e ts x h k (whole-spelled e k.xs l)
kept-closing (w ∷ ws) e r f p ts x h k l = kept-stays (close f r (e, w ∷ ws)) f p ts x k (kept-close r e w ws f k.xs x h l)

-- an operator after an operand

reduced-for : (f : Full) (e : Expr) (xs : List Lexeme) (q : ℕ) → 1 ≤ q → q ≤ 12 → Holds f.waiting e xs 12 → Reduces q xs (reduced q f.waiting e)
reduced-for f e xs q low high h = reduces f.waiting e xs q low high (looser f.waiting e xs q high h)

kept-infix : (op : BinaryOperator) (f : Full) (e : Expr) (ts : List Measured) (x : Lexeme) → Marks (binary_punctuator op) x → FullSoFar f.context f.waiting f.count (Operator e) ts → Kept (operate f op (reduced (precedence op) f.waiting e)) ts x 0
kept-infix op f e ts x h k =
    let range = precedence-within op in
    let r = reduced-for f e k.xs (precedence op) (omega (arith, range.0)) (omega (arith, range.1)) k.phase in
    kept-stays (operate f op (reduced (precedence op) f.waiting e)) f (Operator e) ts x k (refl, refl, kept-binary op (reduced (precedence op) f.waiting e) k.xs x h r)

-- an assignment operator, `++` or `--` after a target

abbrev TargetSpelled : Option Target → List Lexeme → Type 0
TargetSpelled None xs = Unit {0}
TargetSpelled (Some t) xs = SpellsTarget xs t

target-spelled : (e : Expr) (xs : List Lexeme) → SpellsExpression 1 xs e → TargetSpelled (target_of e) xs
target-spelled (Variable n) xs h = h
target-spelled (Element n e) xs h = h
target-spelled _ xs h = tt

-- the tokens of an action are extended by one token
action-tokens : (b : Inside) (p : Spot) (ws : List Waiting) (k : ℕ) (q : Phase) (ts : List Measured) (x : Lexeme) → (h : FullSoFar (OfBody b (ToPerform p)) ws k q ts) → (ts ++ record { token = x; count = suc k; level = 0 } ∷ [] ≡ h.before ++ leads p b.opened (full (h.xs ++ x ∷ []))) × (suc k ≡ count_after 0 (h.xs ++ x ∷ []))
action-tokens b p ws k q ts x h =
    let none = h.context.3.0 in (
      pushed-tokens (OfBody b (ToPerform p)) ws k q ts x h ∙ ap (λ (z : List Lexeme). h.before ++ leads p b.opened (full (z ++ (h.xs ++ x ∷ [])))) none,
      ap (λ (j : ℕ). suc j) h.counted ∙ ap (λ (z : List Lexeme). suc (count_after 0 (z ++ h.xs))) none ∙ sym (count_after-append 0 h.xs (x ∷ [])),
    )

kept-assigns : (c : Context) (t : Option Target) (ws : List Waiting) (k : ℕ) (q : Phase) (op : AssignmentOperator) (ts : List Measured) (x : Lexeme) → Marks (assignment_punctuator op) x → (h : FullSoFar c ws k q ts) → TargetSpelled t h.xs → Kept (assigns c k op t) ts x 0
kept-assigns (OfBody b (ToPerform p)) (Some t) ws k q op ts x h f s =
    let c = f.context in
    let tokens = action-tokens b p ws k q ts x f in
    begun b (ToAssign op t p) (suc k) f.before (ts ++ record { token = x; count = suc k; level = 0 } ∷ []) (f.xs ++ x ∷ [])
    (c.0, c.1, c.2, (f.xs, x, c.3.1, s, h, refl), c.4) tokens.1 (λ qs. leads-last p b.opened f.xs x qs) tokens.0
kept-assigns _ _ ws k q op ts x h f s = tt

kept-assign : (ws : List Waiting) (c : Context) (k : ℕ) (e : Expr) (op : AssignmentOperator) (ts : List Measured) (x : Lexeme) → Marks (assignment_punctuator op) x → FullSoFar c ws k (Operator e) ts → Kept (assign (full_of c ws k) e op ws) ts x 0
kept-assign [] c k e op ts x h f = kept-assigns c (target_of e) [] k (Operator e) op ts x h f (target-spelled e f.xs (whole-spelled e f.xs (looser [] e f.xs 1 (omega arith) f.phase)))
kept-assign (w ∷ ws) c k e op ts x h f = tt

kept-steps : (c : Context) (t : Option Target) (ws : List Waiting) (k : ℕ) (q : Phase) (op : StepOperator) (ts : List Measured) (x : Lexeme) → Marks (step_punctuator op) x → (h : FullSoFar c ws k q ts) → HasToken h.xs → TargetSpelled t h.xs → Kept (steps c k op t) ts x 0
kept-steps (OfBody b (ToPerform p)) (Some t) ws k q op ts x h f some s =
    let c = f.context in
    let ys = some.1 ++ x ∷ [] in
    let same : f.xs ++ x ∷ [] ≡ some.0 ∷ ys = ap (λ (z : List Lexeme). z ++ x ∷ []) some.2 in
    let tokens = action-tokens b p ws k q ts x f in
    let action : SpellsAction (some.0 ∷ ys) (Step op t) = (x, f.xs, h, s, inr (sym same)) in
    let lead = leads p b.opened (full (some.0 ∷ ys)) in (
      c.0,
      c.1 ++ lead,
      c.2,
      (c.1, some.0, ys, c.3.1, action, tokens.1 ∙ ap (λ (z : List Lexeme). count_after 0 z) same, refl),
      tokens.0 ∙ ap (λ (z : List Lexeme). f.before ++ leads p b.opened (full z)) same ∙ regrouped f.before c.0 c.1 lead c.4,
    )
kept-steps _ _ ws k q op ts x h f some s = tt

kept-step : (ws : List Waiting) (c : Context) (k : ℕ) (e : Expr) (op : StepOperator) (ts : List Measured) (x : Lexeme) → Marks (step_punctuator op) x → FullSoFar c ws k (Operator e) ts → Kept (step_target (full_of c ws k) e op ws) ts x 0
kept-step [] c k e op ts x h f =
    let whole = whole-spelled e f.xs (looser [] e f.xs 1 (omega arith) f.phase) in
    kept-steps c (target_of e) [] k (Operator e) op ts x h f (has_token e 1 f.xs whole) (target-spelled e f.xs whole)
kept-step (w ∷ ws) c k e op ts x h f = tt

-- a token after an operand extends what the tokens spell
kept-operator : (r : Role) (f : Full) (e : Expr) (ts : List Measured) (x : Lexeme) → HasRole r x → FullSoFar f.context f.waiting f.count (Operator e) ts → Kept (operator_step f e r) ts x 0
kept-operator role.Plus f e ts x h k = kept-infix binary.Add f e ts x h k
kept-operator role.Minus f e ts x h k = kept-infix binary.Subtract f e ts x h k
kept-operator (role.Infix op) f e ts x h k = kept-infix op f e ts x h k
kept-operator role.Question f e ts x h k =
    kept-stays (ask f (reduced 2 f.waiting e)) f (Operator e) ts x k
    (refl, refl, kept-question (reduced 2 f.waiting e) k.xs x h (reduced-for f e k.xs 2 (omega arith) (omega arith) k.phase))
kept-operator role.OpenParenthesis f e ts x h k = kept-stays (open_name f e role.OpenParenthesis) f (Operator e) ts x k (kept-name e role.OpenParenthesis f k.xs x h k.phase)
kept-operator role.OpenBracket f e ts x h k = kept-stays (open_name f e role.OpenBracket) f (Operator e) ts x k (kept-name e role.OpenBracket f k.xs x h k.phase)
kept-operator (role.Assignment op) f e ts x h k = kept-assign f.waiting f.context f.count e op ts x h k
kept-operator (role.Step op) f e ts x h k = kept-step f.waiting f.context f.count e op ts x h k
kept-operator r f e ts x h k =
    let q = reduced 1 f.waiting e in
    kept-closing q.1 q.0 r f (Operator e) ts x h k (reduced-for f e k.xs 1 (omega arith) (omega arith) k.phase).holds

-- a token in a full expression extends what the tokens spell
pub kept-full : (p : Phase) (f : Full) (r : Role) (ts : List Measured) (x : Lexeme) → HasRole r x → FullSoFar f.context f.waiting f.count p ts → Kept (full_step f p r (name_of x)) ts x 0
kept-full Operand f r ts x h k = kept-stays (operand_step f r (name_of x)) f Operand ts x k (kept-operand r f k.xs x h k.phase)
kept-full (Operator e) f r ts x h k = kept-operator r f e ts x h k
kept-full (CastSign t) f r ts x h k = kept-stays (cast_sign_step f t r) f (CastSign t) ts x k (kept-cast-word r f t k.xs x h k.phase)
kept-full (CastType t) f r ts x h k = kept-stays (cast_step f t r) f (CastType t) ts x k (kept-cast r f t k.xs x h k.phase)
