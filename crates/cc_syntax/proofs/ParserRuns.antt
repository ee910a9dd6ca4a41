-- Runs of the parser over tokens, with what the limits count at each token. A run can be split and runs can be joined, and
-- the tokens alone determine a run.
use Rattle.std.proofs.Common.{◌≡◌, ℕ, List, [], ◌∷◌, ◌++◌, Option, Some, refl, sym, ap, subst, ◌∙◌}
use Rattle.cc_tokens.specs.declared.token.TokenKind.{TokenKind}
use Rattle.cc_tokens.specs.Token.{Lexeme}
use Rattle.cc_syntax.specs.internal.Roles.{role_of}
use Rattle.cc_ast.specs.Grammar.{Measured, plain_tokens}
use Rattle.cc_syntax.specs.internal.Parser.{State, step, role_step, name_of, count_of, level_at, role_level}

-- the tokens take the parser from the state `s` to the state `e`
abbrev pub Runs : State → List Measured → State → Type 0
Runs s [] e = s ≡ e
Runs s (p ∷ ps) e = (m : State) × (step s p.token ≡ Some m) × (p.count ≡ count_of m) × (p.level ≡ level_at s p.token) × Runs m ps e

pub runs-append : (s m e : State) (a b : List Measured) → Runs s a m → Runs m b e → Runs s (a ++ b) e
runs-append s m e [] b h k = subst (λ (z : State). Runs z b e) (sym h) k
runs-append s m e (p ∷ a) b h k = (h.0, h.1, h.2, h.3, runs-append h.0 m e a b h.4 k)

pub runs-split : (s e : State) (a b : List Measured) → Runs s (a ++ b) e → (m : State) × Runs s a m × Runs m b e
runs-split s e [] b h = (s, refl, h)
runs-split s e (p ∷ a) b h = let r = runs-split h.0 e a b h.4 in (r.0, (h.0, h.1, h.2, h.3, r.1), r.2)

-- a run can be extended at its beginning by a token of a known kind
pub token : (s m e : State) (x : Lexeme) (k : TokenKind) (c l : ℕ) (ps : List Measured) → x.kind ≡ k → role_step s (role_of k) (name_of x) ≡ Some m → c ≡ count_of m → l ≡ role_level s (role_of k) → Runs m ps e → Runs s (record { token = x; count = c; level = l } ∷ ps) e
token s m e x k c l ps h goes count level rest =
    (m, ap (λ (z : TokenKind). role_step s (role_of z) (name_of x)) h ∙ goes, count, level ∙ ap (λ (z : TokenKind). role_level s (role_of z)) (sym h), rest)

same_head : (x y : Lexeme) (xs ys : List Lexeme) → x ∷ xs ≡ y ∷ ys → (x ≡ y) × (xs ≡ ys)
same_head x y xs ys e = (cc, cc)

some_is_one : (a b : Option State) (x y : State) → a ≡ b → a ≡ Some x → b ≡ Some y → x ≡ y
some_is_one a b x y h k l = cc

cons_none : (x : Lexeme) (xs : List Lexeme) → x ∷ xs ≡ [] → ⊥
cons_none x xs e = cc

placed_more : (a b : Lexeme) (m n j k : ℕ) (ps qs : List Measured) → a ≡ b → m ≡ n → j ≡ k → ps ≡ qs → record { token = a; count = m; level = j } ∷ ps ≡ record { token = b; count = n; level = k } ∷ qs
placed_more a b m n j k ps qs e f g h = cc

-- the tokens alone determine a run: what the limits count at each of them, and the state after them
pub runs-one : (s m n : State) (ps qs : List Measured) → Runs s ps m → Runs s qs n → plain_tokens ps ≡ plain_tokens qs → (ps ≡ qs) × (m ≡ n)
runs-one s m n [] [] h k e = (refl, sym h ∙ k)
runs-one s m n [] (q ∷ qs) h k e = absurd (cons_none _ _ (sym e))
runs-one s m n (p ∷ ps) [] h k e = absurd (cons_none _ _ e)
runs-one s m n (p ∷ ps) (q ∷ qs) h k e =
    let both = same_head _ _ _ _ e in
    let middle : h.0 ≡ k.0 = some_is_one _ _ h.0 k.0 (ap (λ (x : Lexeme). step s x) both.0) h.1 k.1 in
    let rest = runs-one h.0 m n ps qs h.4 (subst (λ (z : State). Runs z qs n) (sym middle) k.4) both.1 in
    (placed_more _ _ _ _ _ _ _ _ both.0 (h.2 ∙ ap (λ (z : State). count_of z) middle ∙ sym k.2) (h.3 ∙ ap (λ (x : Lexeme). level_at s x) both.0 ∙ sym k.3) rest.0, rest.1)
