-- The parser reads each expression that tokens spell, by induction on its tree. After the expression's tokens, parts of it
-- may still be pending; any operator of the level reduces them to the whole expression.
use Rattle.std.proofs.Common.{◌≡◌, ◌≤◌, ℕ, suc, List, [], ◌∷◌, ◌++◌, Some, refl, sym, ap, subst, ◌∙◌, arith, append_assoc, inl, inr}
use Rattle.cc_ast.specs.declared.ast.BinaryOperator.{BinaryOperator}
use Rattle.cc_ast.specs.declared.ast.BinaryOperator.TheVariants as binary
use Rattle.cc_ast.specs.declared.ast.UnaryOperator.{UnaryOperator}
use Rattle.cc_ast.specs.declared.ast.UnaryOperator.TheVariants as unary
use Rattle.cc_tokens.specs.declared.scalar.Scalar.{Scalar}
use Rattle.cc_tokens.specs.declared.scalar.Scalar.TheVariants as scalar
use Rattle.cc_tokens.specs.declared.token.Keyword.TheVariants as keyword
use Rattle.cc_tokens.specs.declared.token.Punctuator.TheVariants as punctuator
use Rattle.cc_tokens.specs.declared.token.TokenKind.TheVariants as kind
use Rattle.cc_syntax.specs.declared.parser.role.Role.TheVariants as role
use Rattle.cc_tokens.specs.Token.{Lexeme}
use Rattle.cc_ast.specs.Tree.{Name, Expr, Number, Variable, Element, Call, Parenthesised, Unary, Cast, Binary, Conditional, Exprs, none, more}
use Rattle.cc_syntax.specs.internal.Roles.{punctuator_role}
use Rattle.cc_ast.specs.Grammar.{Marks, SpellsType, SpellsExpression, SpellsArguments, full_after, precedence, binary_punctuator, unary_punctuator, identifier}
use Rattle.cc_syntax.specs.internal.Parser.{InFull, CastSign, CastType, Context, Waiting, Parenthesis, Index, Arguments, Prefix, Casting, Infix, Then, Otherwise, Full, full_of, reduced, operate, ask, close, operator_step, operand_step, with_argument, name_of}
use Rattle.cc_syntax.proofs.ParserRuns.{Runs, token}
use Rattle.cc_syntax.proofs.Forms.{operand, operator, count_after, count_after-append, runs-full, pops, Fits, fits-more, fits-stays}

-- the parser reads the tokens of an expression, after the pending parts `ws`
pub record Read (c : Context) (n : ℕ) (ws : List Waiting) (l : ℕ) (xs : List Lexeme) (e : Expr) : Type 0 where
  pub last : Expr
  pub waiting : List Waiting
  pub runs : Runs (operand c n ws) (full_after n xs) (operator c (count_after n xs) waiting last)
  pub same : (q : ℕ) → q ≤ l → reduced q waiting last ≡ reduced q ws e

binary_step : (op : BinaryOperator) (f : Full) (e : Expr) → operator_step f e (punctuator_role (binary_punctuator op)) ≡ operate f op (reduced (precedence op) f.waiting e)
binary_step binary.Multiply f e = refl
binary_step binary.Divide f e = refl
binary_step binary.Remainder f e = refl
binary_step binary.Add f e = refl
binary_step binary.Subtract f e = refl
binary_step binary.ShiftLeft f e = refl
binary_step binary.ShiftRight f e = refl
binary_step binary.Less f e = refl
binary_step binary.Greater f e = refl
binary_step binary.LessOrEqual f e = refl
binary_step binary.GreaterOrEqual f e = refl
binary_step binary.Equal f e = refl
binary_step binary.NotEqual f e = refl
binary_step binary.And f e = refl
binary_step binary.Xor f e = refl
binary_step binary.Or f e = refl
binary_step binary.LogicalAnd f e = refl
binary_step binary.LogicalOr f e = refl

-- the level of a binary operator is 2 to 11
pub precedence-within : (op : BinaryOperator) → (2 ≤ precedence op) × (precedence op ≤ 11)
precedence-within binary.Multiply = (omega arith, omega arith)
precedence-within binary.Divide = (omega arith, omega arith)
precedence-within binary.Remainder = (omega arith, omega arith)
precedence-within binary.Add = (omega arith, omega arith)
precedence-within binary.Subtract = (omega arith, omega arith)
precedence-within binary.ShiftLeft = (omega arith, omega arith)
precedence-within binary.ShiftRight = (omega arith, omega arith)
precedence-within binary.Less = (omega arith, omega arith)
precedence-within binary.Greater = (omega arith, omega arith)
precedence-within binary.LessOrEqual = (omega arith, omega arith)
precedence-within binary.GreaterOrEqual = (omega arith, omega arith)
precedence-within binary.Equal = (omega arith, omega arith)
precedence-within binary.NotEqual = (omega arith, omega arith)
precedence-within binary.And = (omega arith, omega arith)
precedence-within binary.Xor = (omega arith, omega arith)
precedence-within binary.Or = (omega arith, omega arith)
precedence-within binary.LogicalAnd = (omega arith, omega arith)
precedence-within binary.LogicalOr = (omega arith, omega arith)

sign_step : (op : UnaryOperator) (c : Context) (n : ℕ) (ws : List Waiting) (x : Lexeme) → operand_step (full_of c ws n) (punctuator_role (unary_punctuator op)) (name_of x) ≡ Some (operand c (suc n) (Prefix op ∷ ws))
sign_step unary.Plus c n ws x = refl
sign_step unary.Minus c n ws x = refl
sign_step unary.Complement c n ws x = refl
sign_step unary.Not c n ws x = refl

-- the parser reads an expression of one token
one : (c : Context) (n : ℕ) (ws : List Waiting) (l : ℕ) (xs : List Lexeme) (e : Expr) (x : Lexeme) → xs ≡ x ∷ [] → Runs (operand c n ws) (full_after n (x ∷ [])) (operator c (suc n) ws e) → Read c n ws l xs e
one c n ws l xs e x h r = subst (λ (z : List Lexeme). Read c n ws l z e) (sym h) (record { last = e; waiting = ws; runs = r; same = λ q k. refl })

-- the parser reads an expression if no part of it is pending after its last token
whole : (c : Context) (n : ℕ) (ws : List Waiting) (l : ℕ) (xs ys : List Lexeme) (e : Expr) (k : ℕ) → xs ≡ ys → k ≡ count_after n ys → Runs (operand c n ws) (full_after n ys) (operator c k ws e) → Read c n ws l xs e
whole c n ws l xs ys e k h i r =
    subst (λ (z : List Lexeme). Read c n ws l z e) (sym h)
    (record { last = e; waiting = ws; runs = subst (λ (j : ℕ). Runs (operand c n ws) (full_after n ys) (operator c j ws e)) i r; same = λ q k. refl })

-- an operator after its left operand becomes the latest pending part
behind_left : (op : BinaryOperator) (c : Context) (n : ℕ) (ws left : List Waiting) (last a : Expr) → reduced (precedence op) left last ≡ (a, ws) → operator_step (full_of c left n) last (punctuator_role (binary_punctuator op)) ≡ Some (operand c (suc n) (Infix op a ∷ ws))
behind_left op c n ws left last a h = binary_step op (full_of c left n) last ∙ ap (λ (r : Expr × List Waiting). operate (full_of c left n) op r) h

-- the parser reads the keywords of a type in a cast, and the parenthesis after them
read_type : (t : Scalar) (xs : List Lexeme) (closing : Lexeme) (c : Context) (n : ℕ) (ws : List Waiting) → SpellsType xs t → Marks punctuator.CloseParenthesis closing → Runs (operand c n (Parenthesis ∷ ws)) (full_after n (xs ++ closing ∷ [])) (operand c (suc (count_after n xs)) (Casting t ∷ ws))
read_type t xs closing c n ws (inl h) k =
    subst (λ (u : Scalar). Runs (operand c n (Parenthesis ∷ ws)) (full_after n (xs ++ closing ∷ [])) (operand c (suc (count_after n xs)) (Casting u ∷ ws))) (sym h.1)
    (subst (λ (z : List Lexeme). Runs (operand c n (Parenthesis ∷ ws)) (full_after n (z ++ closing ∷ [])) (operand c (suc (count_after n z)) (Casting scalar.Int ∷ ws))) (sym h.3)
    (token (operand c n (Parenthesis ∷ ws)) (InFull (full_of c ws (suc n)) (CastType scalar.Int)) _ h.0 (kind.Keyword keyword.Int) (suc n) 0 (full_after (suc n) (closing ∷ [])) h.2 refl refl refl
    (token (InFull (full_of c ws (suc n)) (CastType scalar.Int)) (operand c (suc (suc n)) (Casting scalar.Int ∷ ws)) _ closing (kind.Punctuator punctuator.CloseParenthesis) (suc (suc n)) 0 [] k refl refl refl refl)))
read_type scalar.Int xs closing c n ws (inr (inl h)) k =
    subst (λ (z : List Lexeme). Runs (operand c n (Parenthesis ∷ ws)) (full_after n (z ++ closing ∷ [])) (operand c (suc (count_after n z)) (Casting scalar.Int ∷ ws))) (sym h.2)
    (token (operand c n (Parenthesis ∷ ws)) (InFull (full_of c ws (suc n)) (CastSign scalar.Int)) _ h.0 (kind.Keyword keyword.Signed) (suc n) 0 (full_after (suc n) (closing ∷ [])) h.1 refl refl refl
    (token (InFull (full_of c ws (suc n)) (CastSign scalar.Int)) (operand c (suc (suc n)) (Casting scalar.Int ∷ ws)) _ closing (kind.Punctuator punctuator.CloseParenthesis) (suc (suc n)) 0 [] k refl refl refl refl))
read_type scalar.Unsigned xs closing c n ws (inr (inl h)) k =
    subst (λ (z : List Lexeme). Runs (operand c n (Parenthesis ∷ ws)) (full_after n (z ++ closing ∷ [])) (operand c (suc (count_after n z)) (Casting scalar.Unsigned ∷ ws))) (sym h.2)
    (token (operand c n (Parenthesis ∷ ws)) (InFull (full_of c ws (suc n)) (CastSign scalar.Unsigned)) _ h.0 (kind.Keyword keyword.Unsigned) (suc n) 0 (full_after (suc n) (closing ∷ [])) h.1 refl refl refl
    (token (InFull (full_of c ws (suc n)) (CastSign scalar.Unsigned)) (operand c (suc (suc n)) (Casting scalar.Unsigned ∷ ws)) _ closing (kind.Punctuator punctuator.CloseParenthesis) (suc (suc n)) 0 [] k refl refl refl refl))
read_type scalar.Int xs closing c n ws (inr (inr h)) k =
    subst (λ (z : List Lexeme). Runs (operand c n (Parenthesis ∷ ws)) (full_after n (z ++ closing ∷ [])) (operand c (suc (count_after n z)) (Casting scalar.Int ∷ ws))) (sym h.4)
    (token (operand c n (Parenthesis ∷ ws)) (InFull (full_of c ws (suc n)) (CastSign scalar.Int)) _ h.0 (kind.Keyword keyword.Signed) (suc n) 0 (full_after (suc n) (h.1 ∷ closing ∷ [])) h.2 refl refl refl
    (token (InFull (full_of c ws (suc n)) (CastSign scalar.Int)) (InFull (full_of c ws (suc (suc n))) (CastType scalar.Int)) _ h.1 (kind.Keyword keyword.Int) (suc (suc n)) 0 (full_after (suc (suc n)) (closing ∷ [])) h.3 refl refl refl
    (token (InFull (full_of c ws (suc (suc n))) (CastType scalar.Int)) (operand c (suc (suc (suc n))) (Casting scalar.Int ∷ ws)) _ closing (kind.Punctuator punctuator.CloseParenthesis) (suc (suc (suc n))) 0 [] k refl refl refl refl)))
read_type scalar.Unsigned xs closing c n ws (inr (inr h)) k =
    subst (λ (z : List Lexeme). Runs (operand c n (Parenthesis ∷ ws)) (full_after n (z ++ closing ∷ [])) (operand c (suc (count_after n z)) (Casting scalar.Unsigned ∷ ws))) (sym h.4)
    (token (operand c n (Parenthesis ∷ ws)) (InFull (full_of c ws (suc n)) (CastSign scalar.Unsigned)) _ h.0 (kind.Keyword keyword.Unsigned) (suc n) 0 (full_after (suc n) (h.1 ∷ closing ∷ [])) h.2 refl refl refl
    (token (InFull (full_of c ws (suc n)) (CastSign scalar.Unsigned)) (InFull (full_of c ws (suc (suc n))) (CastType scalar.Unsigned)) _ h.1 (kind.Keyword keyword.Int) (suc (suc n)) 0 (full_after (suc (suc n)) (closing ∷ [])) h.3 refl refl refl
    (token (InFull (full_of c ws (suc (suc n))) (CastType scalar.Unsigned)) (operand c (suc (suc (suc n))) (Casting scalar.Unsigned ∷ ws)) _ closing (kind.Punctuator punctuator.CloseParenthesis) (suc (suc (suc n))) 0 [] k refl refl refl refl)))

-- arguments appended to earlier ones
abbrev pub appended : Exprs → Exprs → Exprs
appended done none = done
appended done (more e es) = appended (with_argument done e) es

joined : Exprs → Exprs → Exprs
joined none es = es
joined (more e done) es = more e (joined done es)

joined-last : (done : Exprs) (e : Expr) (es : Exprs) → joined (with_argument done e) es ≡ joined done (more e es)
unfolding joined
joined-last none e es = refl
joined-last (more f done) e es = ap (λ r. more f r) (joined-last done e es)

joined-none : (done : Exprs) → joined done none ≡ done
unfolding joined
joined-none none = refl
joined-none (more f done) = ap (λ r. more f r) (joined-none done)

appended-joined : (es done : Exprs) → appended done es ≡ joined done es
appended-joined none done = sym (joined-none done)
appended-joined (more e es) done = appended-joined es (with_argument done e) ∙ joined-last done e es

pub appended-none : (es : Exprs) → appended none es ≡ es
unfolding joined
appended-none es = appended-joined es none

-- a call may end at an argument's place only before its first argument
abbrev Comes : Exprs → Exprs → Type 0
Comes came none = came ≡ none
Comes came (more e es) = Unit {0}

comes : (es : Exprs) → Comes none es
comes none = refl
comes (more e es) = tt

mutual
  pub read_expression : (e : Expr) (l : ℕ) (xs : List Lexeme) (c : Context) (n : ℕ) (ws : List Waiting) → SpellsExpression l xs e → Fits l ws → l ≤ 12 → Read c n ws l xs e
  read_expression (Number t w) l xs c n ws h f top =
      one c n ws l xs (Number t w) h.0 h.2 (token (operand c n ws) (operator c (suc n) ws (Number t w)) _ h.0 (kind.Number t w) (suc n) 0 [] h.1 refl refl refl refl)
  read_expression (Variable v) l xs c n ws h f top =
      one c n ws l xs (Variable v) (identifier v) h (token (operand c n ws) (operator c (suc n) ws (Variable v)) _ (identifier v) kind.Identifier (suc n) 0 [] refl refl refl refl refl)
  read_expression (Element v e) l xs c n ws h f top =
      let inner = read_expression e 1 h.2 c (suc (suc n)) (Index v ∷ ws) h.5 tt (omega arith) in
      let m = count_after (suc (suc n)) h.2 in
      let ends : Runs (operator c m inner.waiting inner.last) (full_after m (h.1 ∷ [])) (operator c (suc m) ws (Element v e)) =
      token (operator c m inner.waiting inner.last) (operator c (suc m) ws (Element v e)) _ h.1 (kind.Punctuator punctuator.CloseBracket) (suc m) 0 [] h.4 (ap (λ (r : Expr × List Waiting). close (full_of c inner.waiting m) role.CloseBracket r) (inner.same 1 (omega arith))) refl refl refl in
      whole c n ws l xs (identifier v ∷ h.0 ∷ h.2 ++ h.1 ∷ []) (Element v e) (suc m) h.6 (sym (count_after-append (suc (suc n)) h.2 (h.1 ∷ [])))
      (token (operand c n ws) (operator c (suc n) ws (Variable v)) _ (identifier v) kind.Identifier (suc n) 0 (full_after (suc n) (h.0 ∷ h.2 ++ h.1 ∷ [])) refl refl refl refl
      (token (operator c (suc n) ws (Variable v)) (operand c (suc (suc n)) (Index v ∷ ws)) _ h.0 (kind.Punctuator punctuator.OpenBracket) (suc (suc n)) 0 (full_after (suc (suc n)) (h.2 ++ h.1 ∷ [])) h.3 refl refl refl
      (runs-full _ _ _ (suc (suc n)) h.2 (h.1 ∷ []) inner.runs ends)))
  read_expression (Call v es) l xs c n ws h f top =
      let m = count_after (suc (suc n)) h.2 in
      let arguments = subst (λ (zs : Exprs). Runs (operand c (suc (suc n)) (Arguments v none ∷ ws)) (full_after (suc (suc n)) (h.2 ++ h.1 ∷ [])) (operator c (suc m) ws (Call v zs))) (appended-none es) (read_arguments es h.2 h.1 v none c (suc (suc n)) ws (comes es) h.5 h.4) in
      whole c n ws l xs (identifier v ∷ h.0 ∷ h.2 ++ h.1 ∷ []) (Call v es) (suc m) h.6 (sym (count_after-append (suc (suc n)) h.2 (h.1 ∷ [])))
      (token (operand c n ws) (operator c (suc n) ws (Variable v)) _ (identifier v) kind.Identifier (suc n) 0 (full_after (suc n) (h.0 ∷ h.2 ++ h.1 ∷ [])) refl refl refl refl
      (token (operator c (suc n) ws (Variable v)) (operand c (suc (suc n)) (Arguments v none ∷ ws)) _ h.0 (kind.Punctuator punctuator.OpenParenthesis) (suc (suc n)) 0 (full_after (suc (suc n)) (h.2 ++ h.1 ∷ [])) h.3 refl refl refl arguments))
  read_expression (Parenthesised e) l xs c n ws h f top =
      let inner = read_expression e 1 h.2 c (suc n) (Parenthesis ∷ ws) h.5 tt (omega arith) in
      let m = count_after (suc n) h.2 in
      let ends : Runs (operator c m inner.waiting inner.last) (full_after m (h.1 ∷ [])) (operator c (suc m) ws (Parenthesised e)) =
      token (operator c m inner.waiting inner.last) (operator c (suc m) ws (Parenthesised e)) _ h.1 (kind.Punctuator punctuator.CloseParenthesis) (suc m) 0 [] h.4 (ap (λ (r : Expr × List Waiting). close (full_of c inner.waiting m) role.CloseParenthesis r) (inner.same 1 (omega arith))) refl refl refl in
      whole c n ws l xs (h.0 ∷ h.2 ++ h.1 ∷ []) (Parenthesised e) (suc m) h.6 (sym (count_after-append (suc n) h.2 (h.1 ∷ [])))
      (token (operand c n ws) (operand c (suc n) (Parenthesis ∷ ws)) _ h.0 (kind.Punctuator punctuator.OpenParenthesis) (suc n) 0 (full_after (suc n) (h.2 ++ h.1 ∷ [])) h.3 refl refl refl
      (runs-full _ _ _ (suc n) h.2 (h.1 ∷ []) inner.runs ends))
  read_expression (Unary op e) l xs c n ws h f top =
      let inner = read_expression e 12 h.1 c (suc n) (Prefix op ∷ ws) h.3 (omega arith) (omega arith) in
      subst (λ (z : List Lexeme). Read c n ws l z (Unary op e)) (sym h.4)
      (record {
        last = inner.last;
        waiting = inner.waiting;
        runs = token (operand c n ws) (operand c (suc n) (Prefix op ∷ ws)) _ h.0 (kind.Punctuator (unary_punctuator op)) (suc n) 0 (full_after (suc n) h.1) h.2 (sign_step op c n ws h.0) refl refl inner.runs;
        same = λ q k. inner.same q (omega (arith, k, top)) ∙ pops q 12 _ _ (omega (arith, k, top));
      })
  read_expression (Cast t e) l xs c n ws h f top =
      let m = suc (count_after (suc n) h.2) in
      let inner = read_expression e 12 h.3 c m (Casting t ∷ ws) h.7 (omega arith) (omega arith) in
      let typed = read_type t h.2 h.1 c (suc n) ws h.5 h.6 in
      let at : count_after (suc n) (h.2 ++ h.1 ∷ []) ≡ m = count_after-append (suc n) h.2 (h.1 ∷ []) in
      let behind : Runs (operand c m (Casting t ∷ ws)) (full_after (count_after (suc n) (h.2 ++ h.1 ∷ [])) h.3) (operator c (count_after m h.3) inner.waiting inner.last) =
      subst (λ (j : ℕ). Runs (operand c m (Casting t ∷ ws)) (full_after j h.3) (operator c (count_after m h.3) inner.waiting inner.last)) (sym at) inner.runs in
      let grouped : (h.2 ++ h.1 ∷ []) ++ h.3 ≡ h.2 ++ h.1 ∷ h.3 = append_assoc h.2 (h.1 ∷ []) h.3 in
      let both : Runs (operand c (suc n) (Parenthesis ∷ ws)) (full_after (suc n) (h.2 ++ h.1 ∷ h.3)) (operator c (count_after m h.3) inner.waiting inner.last) =
      subst (λ (z : List Lexeme). Runs (operand c (suc n) (Parenthesis ∷ ws)) (full_after (suc n) z) (operator c (count_after m h.3) inner.waiting inner.last)) grouped (runs-full _ _ _ (suc n) (h.2 ++ h.1 ∷ []) h.3 typed behind) in
      subst (λ (z : List Lexeme). Read c n ws l z (Cast t e)) (sym h.8)
      (record {
        last = inner.last;
        waiting = inner.waiting;
        runs = subst (λ (j : ℕ). Runs (operand c n ws) (full_after n (h.0 ∷ h.2 ++ h.1 ∷ h.3)) (operator c j inner.waiting inner.last)) (sym (count_after-append (suc n) h.2 (h.1 ∷ h.3)))
            (token (operand c n ws) (operand c (suc n) (Parenthesis ∷ ws)) _ h.0 (kind.Punctuator punctuator.OpenParenthesis) (suc n) 0 (full_after (suc n) (h.2 ++ h.1 ∷ h.3)) h.4 refl refl refl both);
        same = λ q k. inner.same q (omega (arith, k, top)) ∙ pops q 12 _ _ (omega (arith, k, top));
      })
  read_expression (Binary op a b) l xs c n ws h f top =
      let level = precedence op in
      let range = precedence-within op in
      let left = read_expression a level h.1 c n ws h.5 (fits-more l level ws f h.3) (omega (arith, range.1)) in
      let m = count_after n h.1 in
      let right = read_expression b (suc level) h.2 c (suc m) (Infix op a ∷ ws) h.6 (omega arith) (omega (arith, range.1)) in
      let goes = behind_left op c m ws left.waiting left.last a (left.same level (omega arith) ∙ fits-stays l level ws a f h.3 range.0 range.1) in
      let runs : Runs (operand c n ws) (full_after n (h.1 ++ h.0 ∷ h.2)) (operator c (count_after (suc m) h.2) right.waiting right.last) =
      runs-full _ _ _ n h.1 (h.0 ∷ h.2) left.runs
      (token (operator c m left.waiting left.last) (operand c (suc m) (Infix op a ∷ ws)) _ h.0 (kind.Punctuator (binary_punctuator op)) (suc m) 0 (full_after (suc m) h.2) h.4 goes refl refl right.runs) in
      subst (λ (z : List Lexeme). Read c n ws l z (Binary op a b)) (sym h.7)
      (record {
        last = right.last;
        waiting = right.waiting;
        runs = subst (λ (k : ℕ). Runs (operand c n ws) (full_after n (h.1 ++ h.0 ∷ h.2)) (operator c k right.waiting right.last)) (sym (count_after-append n h.1 (h.0 ∷ h.2))) runs;
        same = λ q k. right.same q (omega (arith, h.3, k)) ∙ pops q level _ _ (omega (arith, h.3, k));
      })
  read_expression (Conditional t a b) l xs c n ws h f top =
      let test = read_expression t 2 h.2 c n ws h.8 (fits-more l 2 ws f (omega (arith, h.5))) (omega arith) in
      let m = count_after n h.2 in
      let left = read_expression a 1 h.3 c (suc m) (Then t ∷ ws) h.9 tt (omega arith) in
      let k = count_after (suc m) h.3 in
      let right = read_expression b 1 h.4 c (suc k) (Otherwise t a ∷ ws) h.10 tt (omega arith) in
      let asks : operator_step (full_of c test.waiting m) test.last role.Question ≡ Some (operand c (suc m) (Then t ∷ ws)) =
      ap (λ (r : Expr × List Waiting). ask (full_of c test.waiting m) r) (test.same 2 (omega arith) ∙ fits-stays l 2 ws t f (omega (arith, h.5)) (omega arith) (omega arith)) in
      let goes : operator_step (full_of c left.waiting k) left.last role.Colon ≡ Some (operand c (suc k) (Otherwise t a ∷ ws)) =
      ap (λ (r : Expr × List Waiting). close (full_of c left.waiting k) role.Colon r) (left.same 1 (omega arith)) in
      let last : Runs (operator c k left.waiting left.last) (full_after k (h.1 ∷ h.4)) (operator c (count_after (suc k) h.4) right.waiting right.last) =
      token (operator c k left.waiting left.last) (operand c (suc k) (Otherwise t a ∷ ws)) _ h.1 (kind.Punctuator punctuator.Colon) (suc k) 0 (full_after (suc k) h.4) h.7 goes refl refl right.runs in
      let middle : Runs (operator c m test.waiting test.last) (full_after m (h.0 ∷ h.3 ++ h.1 ∷ h.4)) (operator c (count_after (suc k) h.4) right.waiting right.last) =
      token (operator c m test.waiting test.last) (operand c (suc m) (Then t ∷ ws)) _ h.0 (kind.Punctuator punctuator.Question) (suc m) 0 (full_after (suc m) (h.3 ++ h.1 ∷ h.4)) h.6 asks refl refl
      (runs-full _ _ _ (suc m) h.3 (h.1 ∷ h.4) left.runs last) in
      let tail : List Lexeme = h.3 ++ h.1 ∷ h.4 in
      let inner : count_after (suc m) tail ≡ count_after (suc k) h.4 = count_after-append (suc m) h.3 (h.1 ∷ h.4) in
      let outer : count_after n (h.2 ++ h.0 ∷ tail) ≡ count_after (suc m) tail = count_after-append n h.2 (h.0 ∷ tail) in
      let counted : count_after n (h.2 ++ (h.0 ∷ h.3 ++ h.1 ∷ h.4)) ≡ count_after (suc k) h.4 = outer ∙ inner in
      subst (λ (z : List Lexeme). Read c n ws l z (Conditional t a b)) (sym h.11)
      (record {
        last = right.last;
        waiting = right.waiting;
        runs = subst (λ (j : ℕ). Runs (operand c n ws) (full_after n (h.2 ++ (h.0 ∷ h.3 ++ h.1 ∷ h.4))) (operator c j right.waiting right.last)) (sym counted) (runs-full _ _ _ n h.2 (h.0 ∷ h.3 ++ h.1 ∷ h.4) test.runs middle);
        same = λ q k. right.same q (omega (arith, h.5, k)) ∙ pops q 1 _ _ (omega (arith, h.5, k));
      })

  -- the parser reads the arguments of a call, and the parenthesis after them
  read_arguments : (es : Exprs) (xs : List Lexeme) (closing : Lexeme) (v : Name) (done : Exprs) (c : Context) (n : ℕ) (ws : List Waiting) → Comes done es → SpellsArguments xs es → Marks punctuator.CloseParenthesis closing → Runs (operand c n (Arguments v done ∷ ws)) (full_after n (xs ++ closing ∷ [])) (operator c (suc (count_after n xs)) ws (Call v (appended done es)))
  read_arguments none xs closing v done c n ws p h k =
      subst (λ (z : List Lexeme). Runs (operand c n (Arguments v done ∷ ws)) (full_after n (z ++ closing ∷ [])) (operator c (suc (count_after n z)) ws (Call v done))) (sym h)
      (subst (λ (d : Exprs). Runs (operand c n (Arguments v d ∷ ws)) (full_after n (closing ∷ [])) (operator c (suc n) ws (Call v d))) (sym p)
      (token (operand c n (Arguments v none ∷ ws)) (operator c (suc n) ws (Call v none)) _ closing (kind.Punctuator punctuator.CloseParenthesis) (suc n) 0 [] k refl refl refl refl))
  read_arguments (more e none) xs closing v done c n ws p h k =
      let inner = read_expression e 1 xs c n (Arguments v done ∷ ws) h tt (omega arith) in
      let m = count_after n xs in
      runs-full _ _ _ n xs (closing ∷ []) inner.runs
      (token (operator c m inner.waiting inner.last) (operator c (suc m) ws (Call v (with_argument done e))) _ closing (kind.Punctuator punctuator.CloseParenthesis) (suc m) 0 [] k (ap (λ (r : Expr × List Waiting). close (full_of c inner.waiting m) role.CloseParenthesis r) (inner.same 1 (omega arith))) refl refl refl)
  read_arguments (more e (more f es)) xs closing v done c n ws p h k =
      let inner = read_expression e 1 h.1 c n (Arguments v done ∷ ws) h.4 tt (omega arith) in
      let m = count_after n h.1 in
      let others = read_arguments (more f es) h.2 closing v (with_argument done e) c (suc m) ws tt h.5 k in
      let goes = ap (λ (r : Expr × List Waiting). close (full_of c inner.waiting m) role.Comma r) (inner.same 1 (omega arith)) in
      let runs : Runs (operand c n (Arguments v done ∷ ws)) (full_after n (h.1 ++ (h.0 ∷ h.2 ++ closing ∷ []))) (operator c (suc (count_after (suc m) h.2)) ws (Call v (appended (with_argument done e) (more f es)))) =
      runs-full _ _ _ n h.1 (h.0 ∷ h.2 ++ closing ∷ []) inner.runs
      (token (operator c m inner.waiting inner.last) (operand c (suc m) (Arguments v (with_argument done e) ∷ ws)) _ h.0 (kind.Punctuator punctuator.Comma) (suc m) 0 (full_after (suc m) (h.2 ++ closing ∷ [])) h.3 goes refl refl others) in
      let grouped : (h.1 ++ h.0 ∷ h.2) ++ closing ∷ [] ≡ h.1 ++ (h.0 ∷ h.2 ++ closing ∷ []) = append_assoc h.1 (h.0 ∷ h.2) (closing ∷ []) in
      subst (λ (z : List Lexeme). Runs (operand c n (Arguments v done ∷ ws)) (full_after n (z ++ closing ∷ [])) (operator c (suc (count_after n z)) ws (Call v (appended (with_argument done e) (more f es))))) (sym h.6)
      (subst (λ (j : ℕ). Runs (operand c n (Arguments v done ∷ ws)) (full_after n ((h.1 ++ h.0 ∷ h.2) ++ closing ∷ [])) (operator c (suc j) ws (Call v (appended (with_argument done e) (more f es))))) (sym (count_after-append n h.1 (h.0 ∷ h.2)))
      (subst (λ (z : List Lexeme). Runs (operand c n (Arguments v done ∷ ws)) (full_after n z) (operator c (suc (count_after (suc m) h.2)) ws (Call v (appended (with_argument done e) (more f es))))) (sym grouped) runs))
