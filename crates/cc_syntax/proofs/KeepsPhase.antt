-- Reading a token that stays in a full expression extends what the expression's tokens spell.
use Rattle.std.proofs.Common.{◌≡◌, suc, List, [], ◌∷◌, ◌++◌, Option, Some, None, refl, ap, ◌∙◌, append_assoc, inl, inr}
use Rattle.cc_tokens.specs.declared.scalar.Scalar.{Scalar}
use Rattle.cc_tokens.specs.declared.scalar.Scalar.TheVariants as scalar
use Rattle.cc_tokens.specs.declared.token.Keyword.{Keyword}
use Rattle.cc_tokens.specs.declared.token.Keyword.TheVariants as keyword
use Rattle.cc_tokens.specs.declared.token.Punctuator.{Punctuator}
use Rattle.cc_tokens.specs.declared.token.Punctuator.TheVariants as punctuator
use Rattle.cc_tokens.specs.declared.token.TokenKind.{TokenKind}
use Rattle.cc_tokens.specs.declared.token.TokenKind.TheVariants as kind
use Rattle.cc_syntax.specs.declared.parser.role.Role.{Role}
use Rattle.cc_syntax.specs.declared.parser.role.Role.TheVariants as role
use Rattle.cc_tokens.specs.Token.{Lexeme}
use Rattle.cc_ast.specs.Tree.{Expr, Number, Variable, none}
use Rattle.cc_syntax.specs.internal.Roles.{role_of, keyword_role, punctuator_role}
use Rattle.cc_ast.specs.Grammar.{Marks, IsKeyword, sign_word, unary_punctuator, binary_punctuator, assignment_punctuator, step_punctuator, SpellsType}
use Rattle.cc_syntax.specs.internal.Parser.{State, AtFile, InBody, InFull, Full, Phase, Operand, Operator, CastSign, CastType, Waiting, Parenthesis, Index, Arguments, Then, cast, call_of_none, operand_step, cast_step, cast_sign_step, open_name, close, name_of}
use Rattle.cc_syntax.proofs.SoFar.{WaitingSoFar, Holds, Casts, IsSign}
use Rattle.cc_syntax.proofs.KeepsFull.{identified, holds-one, kept-colon, kept-parenthesis, kept-index, kept-comma, kept-call, kept-call-none, kept-open-call, kept-open-index}

-- the token has this role
abbrev pub HasRole : Role → Lexeme → Type 0
HasRole role.Identifier x = x.kind ≡ kind.Identifier
HasRole (role.Number t w) x = x.kind ≡ kind.Number t w
HasRole role.Int x = IsKeyword keyword.Int x
HasRole role.Char x = IsKeyword keyword.Char x
HasRole (role.SignWord t) x = IsKeyword (sign_word t) x
HasRole role.Void x = IsKeyword keyword.Void x
HasRole role.Return x = IsKeyword keyword.Return x
HasRole role.Break x = IsKeyword keyword.Break x
HasRole role.Continue x = IsKeyword keyword.Continue x
HasRole role.If x = IsKeyword keyword.If x
HasRole role.Else x = IsKeyword keyword.Else x
HasRole role.While x = IsKeyword keyword.While x
HasRole role.Do x = IsKeyword keyword.Do x
HasRole role.For x = IsKeyword keyword.For x
HasRole role.OpenParenthesis x = Marks punctuator.OpenParenthesis x
HasRole role.CloseParenthesis x = Marks punctuator.CloseParenthesis x
HasRole role.OpenBracket x = Marks punctuator.OpenBracket x
HasRole role.CloseBracket x = Marks punctuator.CloseBracket x
HasRole role.OpenBrace x = Marks punctuator.OpenBrace x
HasRole role.CloseBrace x = Marks punctuator.CloseBrace x
HasRole role.Semicolon x = Marks punctuator.Semicolon x
HasRole role.Comma x = Marks punctuator.Comma x
HasRole role.Question x = Marks punctuator.Question x
HasRole role.Colon x = Marks punctuator.Colon x
HasRole role.Plus x = Marks punctuator.Plus x
HasRole role.Minus x = Marks punctuator.Minus x
HasRole (role.Prefix op) x = Marks (unary_punctuator op) x
HasRole (role.Infix op) x = Marks (binary_punctuator op) x
HasRole (role.Assignment op) x = Marks (assignment_punctuator op) x
HasRole (role.Step op) x = Marks (step_punctuator op) x
HasRole role.Other x = Unit {0}

keyword_has : (k : Keyword) (x : Lexeme) → x.kind ≡ kind.Keyword k → HasRole (keyword_role k) x
keyword_has keyword.Int x h = h
keyword_has keyword.Char x h = h
keyword_has keyword.Signed x h = h
keyword_has keyword.Unsigned x h = h
keyword_has keyword.Void x h = h
keyword_has keyword.Return x h = h
keyword_has keyword.Break x h = h
keyword_has keyword.Continue x h = h
keyword_has keyword.If x h = h
keyword_has keyword.Else x h = h
keyword_has keyword.While x h = h
keyword_has keyword.Do x h = h
keyword_has keyword.For x h = h
keyword_has _ x h = tt

punctuator_has : (p : Punctuator) (x : Lexeme) → x.kind ≡ kind.Punctuator p → HasRole (punctuator_role p) x
punctuator_has punctuator.OpenParenthesis x h = h
punctuator_has punctuator.CloseParenthesis x h = h
punctuator_has punctuator.OpenBracket x h = h
punctuator_has punctuator.CloseBracket x h = h
punctuator_has punctuator.OpenBrace x h = h
punctuator_has punctuator.CloseBrace x h = h
punctuator_has punctuator.Semicolon x h = h
punctuator_has punctuator.Comma x h = h
punctuator_has punctuator.Question x h = h
punctuator_has punctuator.Colon x h = h
punctuator_has punctuator.Plus x h = h
punctuator_has punctuator.Minus x h = h
punctuator_has punctuator.Star x h = h
punctuator_has punctuator.Slash x h = h
punctuator_has punctuator.Percent x h = h
punctuator_has punctuator.ShiftLeft x h = h
punctuator_has punctuator.ShiftRight x h = h
punctuator_has punctuator.Less x h = h
punctuator_has punctuator.Greater x h = h
punctuator_has punctuator.LessOrEqual x h = h
punctuator_has punctuator.GreaterOrEqual x h = h
punctuator_has punctuator.Equal x h = h
punctuator_has punctuator.NotEqual x h = h
punctuator_has punctuator.Ampersand x h = h
punctuator_has punctuator.Bar x h = h
punctuator_has punctuator.Caret x h = h
punctuator_has punctuator.Tilde x h = h
punctuator_has punctuator.Exclamation x h = h
punctuator_has punctuator.AndAnd x h = h
punctuator_has punctuator.OrOr x h = h
punctuator_has punctuator.Assign x h = h
punctuator_has punctuator.PlusAssign x h = h
punctuator_has punctuator.MinusAssign x h = h
punctuator_has punctuator.StarAssign x h = h
punctuator_has punctuator.SlashAssign x h = h
punctuator_has punctuator.PercentAssign x h = h
punctuator_has punctuator.ShiftLeftAssign x h = h
punctuator_has punctuator.ShiftRightAssign x h = h
punctuator_has punctuator.AmpersandAssign x h = h
punctuator_has punctuator.BarAssign x h = h
punctuator_has punctuator.CaretAssign x h = h
punctuator_has punctuator.PlusPlus x h = h
punctuator_has punctuator.MinusMinus x h = h

pub has_role : (k : TokenKind) (x : Lexeme) → x.kind ≡ k → HasRole (role_of k) x
has_role kind.Identifier x h = h
has_role (kind.Number t w) x h = h
has_role (kind.Keyword k) x h = keyword_has k x h
has_role (kind.Punctuator p) x h = punctuator_has p x h

-- the tokens of a full expression spell what has been read, depending on what comes next
abbrev pub PhaseSoFar : Phase → List Waiting → List Lexeme → Type 0
PhaseSoFar Operand ws xs = WaitingSoFar ws xs
PhaseSoFar (Operator e) ws xs = Holds ws e xs 12
PhaseSoFar (CastSign t) ws xs = Casts ws xs (IsSign t)
PhaseSoFar (CastType t) ws xs = Casts ws xs (λ type. SpellsType type t)

-- the state, if there is one, is in the same full expression after one more token, and `ys` are the
-- expression's tokens
abbrev pub StaysIn : Full → List Lexeme → Option State → Type 0
StaysIn f ys None = Unit {0}
StaysIn f ys (Some (AtFile es o)) = ⊥
StaysIn f ys (Some (InBody b s)) = ⊥
StaysIn f ys (Some (InFull g p)) = (g.context ≡ f.context) × (g.count ≡ suc f.count) × PhaseSoFar p g.waiting ys

kept-cast-int : (ws : List Waiting) (f : Full) (xs : List Lexeme) (x : Lexeme) → IsKeyword keyword.Int x → WaitingSoFar ws xs → StaysIn f (xs ++ x ∷ []) (cast f (CastType scalar.Int) ws)
kept-cast-int (Parenthesis ∷ ws) f xs x h w =
    (refl, refl, record { prefix = w.0; type = x ∷ []; opening = w.1; waits = w.2; opens = w.3; word = inl (x, refl, h, refl); whole = ap (λ (z : List Lexeme). z ++ x ∷ []) w.4 ∙ append_assoc w.0 (w.1 ∷ []) (x ∷ []) })
kept-cast-int _ f xs x h w = tt

kept-cast-sign : (ws : List Waiting) (f : Full) (t : Scalar) (xs : List Lexeme) (x : Lexeme) → IsKeyword (sign_word t) x → WaitingSoFar ws xs → StaysIn f (xs ++ x ∷ []) (cast f (CastSign t) ws)
kept-cast-sign (Parenthesis ∷ ws) f t xs x h w =
    (refl, refl, record { prefix = w.0; type = x ∷ []; opening = w.1; waits = w.2; opens = w.3; word = (x, h, refl); whole = ap (λ (z : List Lexeme). z ++ x ∷ []) w.4 ∙ append_assoc w.0 (w.1 ∷ []) (x ∷ []) })
kept-cast-sign _ f t xs x h w = tt

kept-none : (ws : List Waiting) (f : Full) (xs : List Lexeme) (x : Lexeme) → Marks punctuator.CloseParenthesis x → WaitingSoFar ws xs → StaysIn f (xs ++ x ∷ []) (call_of_none f ws)
kept-none (Arguments n none ∷ ws) f xs x h w = (refl, refl, kept-call-none n ws xs x h w)
kept-none _ f xs x h w = tt

-- a token in a place where an operand is due extends what the tokens spell
pub kept-operand : (r : Role) (f : Full) (xs : List Lexeme) (x : Lexeme) → HasRole r x → WaitingSoFar f.waiting xs → StaysIn f (xs ++ x ∷ []) (operand_step f r (name_of x))
kept-operand (role.Number t w) f xs x h k = (refl, refl, holds-one (Number t w) f.waiting xs x (x, h, refl) k)
kept-operand role.Identifier f xs x h k = (refl, refl, holds-one (Variable (name_of x)) f.waiting xs x (ap (λ (y : Lexeme). y ∷ []) (identified x h)) k)
kept-operand role.OpenParenthesis f xs x h k = (refl, refl, (xs, x, k, h, refl))
kept-operand role.CloseParenthesis f xs x h k = kept-none f.waiting f xs x h k
kept-operand role.Plus f xs x h k = (refl, refl, (xs, x, k, h, refl))
kept-operand role.Minus f xs x h k = (refl, refl, (xs, x, k, h, refl))
kept-operand (role.Prefix op) f xs x h k = (refl, refl, (xs, x, k, h, refl))
kept-operand role.Int f xs x h k = kept-cast-int f.waiting f xs x h k
kept-operand (role.SignWord t) f xs x h k = kept-cast-sign f.waiting f t xs x h k
kept-operand _ f xs x h k = tt

-- a token after the type of a cast extends what the tokens spell
pub kept-cast : (r : Role) (f : Full) (t : Scalar) (xs : List Lexeme) (x : Lexeme) → HasRole r x → Casts f.waiting xs (λ type. SpellsType type t) → StaysIn f (xs ++ x ∷ []) (cast_step f t r)
kept-cast role.CloseParenthesis f t xs x h k =
    (refl, refl, (k.prefix, k.type, k.opening, x, k.waits, k.opens, k.word, h, ap (λ (z : List Lexeme). z ++ x ∷ []) k.whole ∙ append_assoc k.prefix (k.opening ∷ k.type) (x ∷ [])))
kept-cast _ f t xs x h k = tt

sign-type : (t : Scalar) (ws : List Waiting) (xs : List Lexeme) → Casts ws xs (IsSign t) → Casts ws xs (λ type. SpellsType type t)
sign-type t ws xs k = record { prefix = k.prefix; type = k.type; opening = k.opening; waits = k.waits; opens = k.opens; word = inr (inl k.word); whole = k.whole }

pub kept-cast-word : (r : Role) (f : Full) (t : Scalar) (xs : List Lexeme) (x : Lexeme) → HasRole r x → Casts f.waiting xs (IsSign t) → StaysIn f (xs ++ x ∷ []) (cast_sign_step f t r)
kept-cast-word role.Int f t xs x h k =
    let w = k.word in (
      refl,
      refl,
      record {
        prefix = k.prefix;
        type = k.type ++ x ∷ [];
        opening = k.opening;
        waits = k.waits;
        opens = k.opens;
        word = inr (inr (w.0, x, w.1, h, ap (λ (z : List Lexeme). z ++ x ∷ []) w.2));
        whole = ap (λ (z : List Lexeme). z ++ x ∷ []) k.whole ∙ append_assoc k.prefix (k.opening ∷ k.type) (x ∷ []);
      },
    )
kept-cast-word r f t xs x h k = kept-cast r f t xs x h (sign-type t f.waiting xs k)

-- after a name, a parenthesis or bracket extends what the tokens spell
pub kept-name : (e : Expr) (r : Role) (f : Full) (xs : List Lexeme) (x : Lexeme) → HasRole r x → Holds f.waiting e xs 12 → StaysIn f (xs ++ x ∷ []) (open_name f e r)
kept-name (Variable n) role.OpenParenthesis f xs x h k = (refl, refl, kept-open-call n f.waiting xs x h k)
kept-name (Variable n) role.OpenBracket f xs x h k = (refl, refl, kept-open-index n f.waiting xs x h k)
kept-name _ _ f xs x h k = tt

-- after an operand, a closing token extends what the tokens spell, if something is pending
pub kept-close : (r : Role) (e : Expr) (w : Waiting) (ws : List Waiting) (f : Full) (xs : List Lexeme) (x : Lexeme) → HasRole r x → Holds (w ∷ ws) e xs 1 → StaysIn f (xs ++ x ∷ []) (close f r (e, w ∷ ws))
kept-close role.CloseParenthesis e Parenthesis ws f xs x h k = (refl, refl, kept-parenthesis e ws xs x h k)
kept-close role.CloseBracket e (Index n) ws f xs x h k = (refl, refl, kept-index n e ws xs x h k)
kept-close role.CloseParenthesis e (Arguments n es) ws f xs x h k = (refl, refl, kept-call n es e ws xs x h k)
kept-close role.Comma e (Arguments n es) ws f xs x h k = (refl, refl, kept-comma n es e ws xs x h k)
kept-close role.Colon e (Then c) ws f xs x h k = (refl, refl, kept-colon c e ws xs x h k)
kept-close _ e _ ws f xs x h k = tt
