-- A token that stays in a full expression extends what the expression's tokens spell. The tokens so far spell the pending parts
-- and the operand after them (SoFar); if nothing is pending, they spell the whole expression.
use Rattle.std.proofs.Common.{◌≡◌, ◌≤◌, ℕ, List, [], ◌∷◌, ◌++◌, refl, sym, ap, subst, ◌∙◌, arith, append_assoc}
use Rattle.cc_ast.specs.declared.ast.BinaryOperator.{BinaryOperator}
use Rattle.cc_tokens.specs.declared.token.Punctuator.TheVariants as punctuator
use Rattle.cc_tokens.specs.declared.token.TokenKind.{TokenKind}
use Rattle.cc_tokens.specs.declared.token.TokenKind.TheVariants as kind
use Rattle.cc_tokens.specs.Token.{Lexeme}
use Rattle.cc_ast.specs.Tree.{Name, Expr, Number, Variable, Element, Call, Parenthesised, Unary, Cast, Binary, Conditional, Exprs, none, more}
use Rattle.cc_ast.specs.Grammar.{identifier, Marks, SpellsExpression, SpellsArguments, precedence, binary_punctuator}
use Rattle.cc_syntax.specs.internal.Parser.{Waiting, Parenthesis, Index, Arguments, Infix, Then, Otherwise, with_argument, name_of}
use Rattle.cc_syntax.proofs.SoFar.{ArgumentsSoFar, WaitingSoFar, Holds}
use Rattle.cc_syntax.proofs.KeepsExpression.{spells-looser, room-most, room-one, Reduces}

pub identified : (x : Lexeme) → x.kind ≡ kind.Identifier → x ≡ identifier (name_of x)
identified x h = ap (λ (k : TokenKind). let y : Lexeme = record { kind = k; text = x.text; at = x.at } in y) h

-- the list has at least one token
abbrev pub HasToken : List Lexeme → Type 0
HasToken xs = (y : Lexeme) × (ys : List Lexeme) × (xs ≡ y ∷ ys)

append-token : (a b : List Lexeme) (x : Lexeme) → HasToken (a ++ x ∷ b)
append-token [] b x = (x, b, refl)
append-token (y ∷ a) b x = (y, a ++ x ∷ b, refl)

pub has_token : (e : Expr) (l : ℕ) (xs : List Lexeme) → SpellsExpression l xs e → HasToken xs
has_token (Number t w) l xs h = (h.0, [], h.2)
has_token (Variable v) l xs h = (identifier v, [], h)
has_token (Element v e) l xs h = (identifier v, h.0 ∷ h.2 ++ h.1 ∷ [], h.6)
has_token (Call v es) l xs h = (identifier v, h.0 ∷ h.2 ++ h.1 ∷ [], h.6)
has_token (Parenthesised e) l xs h = (h.0, h.2 ++ h.1 ∷ [], h.6)
has_token (Unary op e) l xs h = (h.0, h.1, h.4)
has_token (Cast t e) l xs h = (h.0, h.2 ++ h.1 ∷ h.3, h.8)
has_token (Binary op a b) l xs h = subst (λ (z : List Lexeme). HasToken z) (sym h.7) (append-token h.1 h.2 h.0)
has_token (Conditional c a b) l xs h = subst (λ (z : List Lexeme). HasToken z) (sym h.11) (append-token h.2 (h.3 ++ h.1 ∷ h.4) h.0)

-- if the token `x` spells an operand, the tokens with `x` spell the pending parts and that operand
pub holds-one : (e : Expr) (ws : List Waiting) (xs : List Lexeme) (x : Lexeme) → SpellsExpression 12 (x ∷ []) e → WaitingSoFar ws xs → Holds ws e (xs ++ x ∷ []) 12
holds-one e ws xs x h w = record { prefix = xs; part = x ∷ []; level = 12; waits = w; spelled = h; room = room-most ws; tight = omega arith; whole = refl }

pub looser : (ws : List Waiting) (e : Expr) (xs : List Lexeme) (q : ℕ) → q ≤ 12 → Holds ws e xs 12 → Holds ws e xs q
looser ws e xs q low h = record { prefix = h.prefix; part = h.part; level = h.level; waits = h.waits; spelled = h.spelled; room = h.room; tight = omega (arith, h.tight, low); whole = h.whole }

behind : (xs prefix part : List Lexeme) (x : Lexeme) → xs ≡ prefix ++ part → xs ++ x ∷ [] ≡ prefix ++ (part ++ x ∷ [])
behind xs prefix part x h = ap (λ (z : List Lexeme). z ++ x ∷ []) h ∙ append_assoc prefix part (x ∷ [])

-- after its left operand, a binary operator extends what the tokens spell
pub kept-binary : (op : BinaryOperator) (r : Expr × List Waiting) (xs : List Lexeme) (x : Lexeme) → Marks (binary_punctuator op) x → Reduces (precedence op) xs r → WaitingSoFar (Infix op r.0 ∷ r.1) (xs ++ x ∷ [])
kept-binary op r xs x h k =
    let l = k.holds in
    (l.prefix, l.part, x, l.waits, spells-looser r.0 l.level (precedence op) l.part l.tight l.spelled, k.room, h, behind xs l.prefix l.part x l.whole)

-- after its condition, a question mark extends what the tokens spell
pub kept-question : (r : Expr × List Waiting) (xs : List Lexeme) (x : Lexeme) → Marks punctuator.Question x → Reduces 2 xs r → WaitingSoFar (Then r.0 ∷ r.1) (xs ++ x ∷ [])
kept-question r xs x h k =
    let l = k.holds in
    (l.prefix, l.part, x, l.waits, spells-looser r.0 l.level 2 l.part l.tight l.spelled, room-one r.1 k.room, h, behind xs l.prefix l.part x l.whole)

-- after the operand that follows the question mark, a colon extends what the tokens spell
pub kept-colon : (c e : Expr) (ws : List Waiting) (xs : List Lexeme) (x : Lexeme) → Marks punctuator.Colon x → Holds (Then c ∷ ws) e xs 1 → WaitingSoFar (Otherwise c e ∷ ws) (xs ++ x ∷ [])
kept-colon c e ws xs x h l =
    let w = l.waits in
    let grouped : (w.0 ++ (w.1 ++ w.2 ∷ [])) ++ (l.part ++ x ∷ []) ≡ w.0 ++ (w.1 ++ (w.2 ∷ l.part ++ x ∷ [])) =
    append_assoc w.0 (w.1 ++ w.2 ∷ []) (l.part ++ x ∷ []) ∙ ap (λ (z : List Lexeme). w.0 ++ z) (append_assoc w.1 (w.2 ∷ []) (l.part ++ x ∷ [])) in (
      w.0,
      w.1,
      l.part,
      w.2,
      x,
      w.3,
      w.4,
      spells-looser e l.level 1 l.part l.tight l.spelled,
      w.5,
      w.6,
      h,
      behind xs l.prefix l.part x l.whole ∙ ap (λ (z : List Lexeme). z ++ (l.part ++ x ∷ [])) w.7 ∙ grouped,
    )

-- once its closing token has been read, an operand in brackets or parentheses is spelled
closed : (e d : Expr) (ws : List Waiting) (xs prefix inner part ys : List Lexeme) (x : Lexeme) → WaitingSoFar ws prefix → xs ≡ ys ++ part → ys ≡ prefix ++ inner → SpellsExpression 12 (inner ++ (part ++ x ∷ [])) d → Holds ws d (xs ++ x ∷ []) 12
closed e d ws xs prefix inner part ys x w h k s =
    record {
      prefix = prefix;
      part = inner ++ (part ++ x ∷ []);
      level = 12;
      waits = w;
      spelled = s;
      room = room-most ws;
      tight = omega arith;
      whole = behind xs ys part x h ∙ ap (λ (z : List Lexeme). z ++ (part ++ x ∷ [])) k ∙ append_assoc prefix inner (part ++ x ∷ []);
    }

pub kept-parenthesis : (e : Expr) (ws : List Waiting) (xs : List Lexeme) (x : Lexeme) → Marks punctuator.CloseParenthesis x → Holds (Parenthesis ∷ ws) e xs 1 → Holds ws (Parenthesised e) (xs ++ x ∷ []) 12
kept-parenthesis e ws xs x h l =
    let w = l.waits in
    closed e (Parenthesised e) ws xs w.0 (w.1 ∷ []) l.part l.prefix x w.2 l.whole w.4
    (w.1, x, l.part, w.3, h, spells-looser e l.level 1 l.part l.tight l.spelled, refl)

pub kept-index : (n : Name) (e : Expr) (ws : List Waiting) (xs : List Lexeme) (x : Lexeme) → Marks punctuator.CloseBracket x → Holds (Index n ∷ ws) e xs 1 → Holds ws (Element n e) (xs ++ x ∷ []) 12
kept-index n e ws xs x h l =
    let w = l.waits in
    closed e (Element n e) ws xs w.0 (identifier n ∷ w.1 ∷ []) l.part l.prefix x w.2 l.whole w.4
    (w.1, x, l.part, w.3, h, spells-looser e l.level 1 l.part l.tight l.spelled, refl)

-- the tokens of an argument after those of earlier arguments spell the extended list
arguments-last : (es : Exprs) (e : Expr) (xs part : List Lexeme) → ArgumentsSoFar xs es → SpellsExpression 1 part e → SpellsArguments (xs ++ part) (with_argument es e)
arguments-last none e xs part h k = subst (λ (z : List Lexeme). SpellsExpression 1 (z ++ part) e) (sym h) k
arguments-last (more d es) e xs part h k =
    subst (λ (z : List Lexeme). SpellsArguments z (with_argument (more d es) e)) (sym (ap (λ (z : List Lexeme). z ++ part) h.4 ∙ append_assoc h.0 (h.1 ∷ []) part)) (row (more d es) h.0 h.2)
  where
    goes : (c : Expr) (cs : Exprs) (prefix : List Lexeme) → SpellsArguments prefix (more c cs) → SpellsArguments (prefix ++ h.1 ∷ part) (with_argument (more c cs) e)
    goes c none prefix s = (h.1, prefix, part, h.3, s, k, refl)
    goes c (more f fs) prefix s =
        (s.0, s.1, s.2 ++ h.1 ∷ part, s.3, s.4, goes f fs s.2 s.5, ap (λ (z : List Lexeme). z ++ h.1 ∷ part) s.6 ∙ append_assoc s.1 (s.0 ∷ s.2) (h.1 ∷ part))

    row : (cs : Exprs) (prefix : List Lexeme) → SpellsArguments prefix (more d es) → SpellsArguments (prefix ++ h.1 ∷ part) (with_argument (more d es) e)
    row cs prefix s = goes d es prefix s

arguments-some : (es : Exprs) (e : Expr) (xs prefix : List Lexeme) (x : Lexeme) → SpellsArguments prefix (with_argument es e) → Marks punctuator.Comma x → xs ≡ prefix ++ x ∷ [] → ArgumentsSoFar xs (with_argument es e)
arguments-some none e xs prefix x h k s = (prefix, x, h, k, s)
arguments-some (more d es) e xs prefix x h k s = (prefix, x, h, k, s)

-- a comma between arguments extends what the tokens spell
pub kept-comma : (n : Name) (es : Exprs) (e : Expr) (ws : List Waiting) (xs : List Lexeme) (x : Lexeme) → Marks punctuator.Comma x → Holds (Arguments n es ∷ ws) e xs 1 → WaitingSoFar (Arguments n (with_argument es e) ∷ ws) (xs ++ x ∷ [])
kept-comma n es e ws xs x h l =
    let w = l.waits in
    let row = arguments-last es e w.1 l.part w.5 (spells-looser e l.level 1 l.part l.tight l.spelled) in
    let so_far = arguments-some es e ((w.1 ++ l.part) ++ x ∷ []) (w.1 ++ l.part) x row h refl in
    let grouped : (w.0 ++ identifier n ∷ w.2 ∷ w.1) ++ (l.part ++ x ∷ []) ≡ w.0 ++ (identifier n ∷ w.2 ∷ ((w.1 ++ l.part) ++ x ∷ [])) =
    append_assoc w.0 (identifier n ∷ w.2 ∷ w.1) (l.part ++ x ∷ []) ∙ ap (λ (z : List Lexeme). w.0 ++ (identifier n ∷ w.2 ∷ z)) (sym (append_assoc w.1 l.part (x ∷ []))) in (
      w.0,
      (w.1 ++ l.part) ++ x ∷ [],
      w.2,
      w.3,
      w.4,
      so_far,
      behind xs l.prefix l.part x l.whole ∙ ap (λ (z : List Lexeme). z ++ (l.part ++ x ∷ [])) w.6 ∙ grouped,
    )

-- the closing parenthesis of a call extends what the tokens spell
pub kept-call : (n : Name) (es : Exprs) (e : Expr) (ws : List Waiting) (xs : List Lexeme) (x : Lexeme) → Marks punctuator.CloseParenthesis x → Holds (Arguments n es ∷ ws) e xs 1 → Holds ws (Call n (with_argument es e)) (xs ++ x ∷ []) 12
kept-call n es e ws xs x h l =
    let w = l.waits in
    let row = arguments-last es e w.1 l.part w.5 (spells-looser e l.level 1 l.part l.tight l.spelled) in
    closed e (Call n (with_argument es e)) ws xs w.0 (identifier n ∷ w.2 ∷ w.1) l.part l.prefix x w.3 l.whole w.6
    (w.2, x, w.1 ++ l.part, w.4, h, row, ap (λ (z : List Lexeme). identifier n ∷ w.2 ∷ z) (sym (append_assoc w.1 l.part (x ∷ []))))

pub kept-call-none : (n : Name) (ws : List Waiting) (xs : List Lexeme) (x : Lexeme) → Marks punctuator.CloseParenthesis x → WaitingSoFar (Arguments n none ∷ ws) xs → Holds ws (Call n none) (xs ++ x ∷ []) 12
kept-call-none n ws xs x h w =
    let whole : xs ≡ w.0 ++ identifier n ∷ w.2 ∷ [] = w.6 ∙ ap (λ (z : List Lexeme). w.0 ++ identifier n ∷ w.2 ∷ z) w.5 in
    record {
      prefix = w.0;
      part = identifier n ∷ w.2 ∷ x ∷ [];
      level = 12;
      waits = w.3;
      spelled = (w.2, x, [], w.4, h, refl, refl);
      room = room-most ws;
      tight = omega arith;
      whole = behind xs w.0 (identifier n ∷ w.2 ∷ []) x whole;
    }

-- if the operand is a name, the tokens spell the pending parts and then that name
variable-part : (n : Name) (ws : List Waiting) (xs : List Lexeme) → Holds ws (Variable n) xs 12 → (prefix : List Lexeme) × WaitingSoFar ws prefix × (xs ≡ prefix ++ identifier n ∷ [])
variable-part n ws xs l = (l.prefix, l.waits, l.whole ∙ ap (λ (z : List Lexeme). l.prefix ++ z) l.spelled)

pub kept-open-call : (n : Name) (ws : List Waiting) (xs : List Lexeme) (x : Lexeme) → Marks punctuator.OpenParenthesis x → Holds ws (Variable n) xs 12 → WaitingSoFar (Arguments n none ∷ ws) (xs ++ x ∷ [])
kept-open-call n ws xs x h l =
    let v = variable-part n ws xs l in
    (v.0, [], x, v.1, h, refl, behind xs v.0 (identifier n ∷ []) x v.2)

pub kept-open-index : (n : Name) (ws : List Waiting) (xs : List Lexeme) (x : Lexeme) → Marks punctuator.OpenBracket x → Holds ws (Variable n) xs 12 → WaitingSoFar (Index n ∷ ws) (xs ++ x ∷ [])
kept-open-index n ws xs x h l =
    let v = variable-part n ws xs l in
    (v.0, x, v.1, h, behind xs v.0 (identifier n ∷ []) x v.2)

-- if nothing is pending, the whole expression is spelled
pub whole-spelled : (e : Expr) (xs : List Lexeme) → Holds [] e xs 1 → SpellsExpression 1 xs e
whole-spelled e xs l =
    subst (λ (z : List Lexeme). SpellsExpression 1 z e) (sym (l.whole ∙ ap (λ (z : List Lexeme). z ++ l.part) l.waits)) (spells-looser e l.level 1 l.part l.tight l.spelled)
