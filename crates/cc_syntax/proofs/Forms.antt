-- The parser's states in a full expression, and how tokens are counted there.
use Rattle.std.proofs.Common.{◌≡◌, ◌<◌, ◌≤◌, ℕ, suc, List, [], ◌∷◌, ◌++◌, refl, sym, ap, subst, cond, leb, arith}
use Rattle.std.proofs.lemmas.Bool.{lt-leb, le-leb}
use Rattle.cc_tokens.specs.Token.{Lexeme}
use Rattle.cc_ast.specs.Tree.{Expr}
use Rattle.cc_ast.specs.Grammar.{Measured, full_after, precedence}
use Rattle.cc_syntax.specs.internal.Parser.{State, InFull, Operand, Operator, Context, Waiting, Parenthesis, Index, Arguments, Prefix, Casting, Infix, Then, Otherwise, full_of, reduced}
use Rattle.cc_syntax.proofs.ParserRuns.{Runs, runs-append}

abbrev pub operand : Context → ℕ → List Waiting → State
operand c n ws = InFull (full_of c ws n) Operand

abbrev pub operator : Context → ℕ → List Waiting → Expr → State
operator c n ws e = InFull (full_of c ws n) (Operator e)

-- the count after the tokens of a list, if `n` tokens were counted before them
abbrev pub count_after : ℕ → List Lexeme → ℕ
count_after n [] = n
count_after n (x ∷ xs) = count_after (suc n) xs

pub count_after-append : (n : ℕ) (xs ys : List Lexeme) → count_after n (xs ++ ys) ≡ count_after (count_after n xs) ys
count_after-append n [] ys = refl
count_after-append n (x ∷ xs) ys = count_after-append (suc n) xs ys

pub full_after-append : (n : ℕ) (xs ys : List Lexeme) → full_after n (xs ++ ys) ≡ full_after n xs ++ full_after (count_after n xs) ys
full_after-append n [] ys = refl
full_after-append n (x ∷ xs) ys = ap (λ (ps : List Measured). record { token = x; count = suc n; level = 0 } ∷ ps) (full_after-append (suc n) xs ys)

-- runs over two consecutive parts of a full expression make one run over both
pub runs-full : (s m e : State) (n : ℕ) (xs ys : List Lexeme) → Runs s (full_after n xs) m → Runs m (full_after (count_after n xs) ys) e → Runs s (full_after n (xs ++ ys)) e
runs-full s m e n xs ys h k = subst (λ (ps : List Measured). Runs s ps e) (sym (full_after-append n xs ys)) (runs-append s m e (full_after n xs) (full_after (count_after n xs) ys) h k)

-- the two cases of a reduction: a pending part binds at least as tightly as the level (`pops`), or it does
-- not (`keeps`)
pub pops : {A : Type 0} (q t : ℕ) (x y : A) → q ≤ t → cond (leb q t) x y ≡ x
pops q t x y h = ap (λ v. cond v x y) (le-leb q t h)

pub keeps : {A : Type 0} (q t : ℕ) (x y : A) → t < q → cond (leb q t) x y ≡ y
keeps q t x y h = ap (λ v. cond v x y) (lt-leb q t h)

-- no pending part binds as tightly as an operator of the level
abbrev pub Fits : ℕ → List Waiting → Type 0
Fits l (Prefix op ∷ ws) = 12 ≤ l
Fits l (Casting t ∷ ws) = 12 ≤ l
Fits l (Infix op a ∷ ws) = precedence op < l
Fits l _ = Unit {0}

pub fits-more : (l q : ℕ) (ws : List Waiting) → Fits l ws → l ≤ q → Fits q ws
fits-more l q [] f h = tt
fits-more l q (Parenthesis ∷ ws) f h = tt
fits-more l q (Index n ∷ ws) f h = tt
fits-more l q (Arguments n es ∷ ws) f h = tt
fits-more l q (Prefix op ∷ ws) f h = omega (arith, f, h)
fits-more l q (Casting t ∷ ws) f h = omega (arith, f, h)
fits-more l q (Infix op a ∷ ws) f h = omega (arith, f, h)
fits-more l q (Then c ∷ ws) f h = tt
fits-more l q (Otherwise c a ∷ ws) f h = tt

pub fits-stays : (l q : ℕ) (ws : List Waiting) (e : Expr) → Fits l ws → l ≤ q → 2 ≤ q → q ≤ 11 → reduced q ws e ≡ (e, ws)
fits-stays l q [] e f h low high = refl
fits-stays l q (Parenthesis ∷ ws) e f h low high = keeps q 0 _ _ (omega arith)
fits-stays l q (Index n ∷ ws) e f h low high = keeps q 0 _ _ (omega arith)
fits-stays l q (Arguments n es ∷ ws) e f h low high = keeps q 0 _ _ (omega arith)
fits-stays l q (Prefix op ∷ ws) e f h low high = absurd (omega (arith, f, h))
fits-stays l q (Casting t ∷ ws) e f h low high = absurd (omega (arith, f, h))
fits-stays l q (Infix op a ∷ ws) e f h low high = keeps q (precedence op) _ _ (omega (arith, f, h))
fits-stays l q (Then c ∷ ws) e f h low high = keeps q 0 _ _ (omega arith)
fits-stays l q (Otherwise c a ∷ ws) e f h low high = keeps q 1 _ _ (omega arith)
