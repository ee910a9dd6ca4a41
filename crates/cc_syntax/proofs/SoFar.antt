-- What the tokens of a full expression spell so far: for each pending part, how it relates to the tokens before it. Reading a
-- token extends what they spell (KeepsExpression).
use Rattle.std.proofs.Common.{◌≡◌, ◌≤◌, ℕ, suc, List, [], ◌∷◌, ◌++◌}
use Rattle.cc_tokens.specs.declared.scalar.Scalar.{Scalar}
use Rattle.cc_tokens.specs.declared.token.Punctuator.TheVariants as punctuator
use Rattle.cc_tokens.specs.Token.{Lexeme}
use Rattle.cc_ast.specs.Tree.{Expr, Exprs, none, more}
use Rattle.cc_ast.specs.Grammar.{identifier, Marks, IsKeyword, sign_word, SpellsType, SpellsExpression, SpellsArguments, precedence, unary_punctuator, binary_punctuator}
use Rattle.cc_syntax.specs.internal.Parser.{Waiting, Parenthesis, Index, Arguments, Prefix, Casting, Infix, Then, Otherwise}

-- an expression of the level fits after the pending parts
abbrev pub Room : ℕ → List Waiting → Type 0
Room l (Prefix op ∷ ws) = 12 ≤ l
Room l (Casting t ∷ ws) = 12 ≤ l
Room l (Infix op a ∷ ws) = suc (precedence op) ≤ l
Room l _ = 1 ≤ l

-- the tokens spell these arguments, each with its comma
abbrev pub ArgumentsSoFar : List Lexeme → Exprs → Type 0
ArgumentsSoFar xs none = xs ≡ []
ArgumentsSoFar xs (more e es) =
    (prefix : List Lexeme) × (comma : Lexeme) × SpellsArguments prefix (more e es) × Marks punctuator.Comma comma
    × (xs ≡ prefix ++ comma ∷ [])

-- the tokens spell the pending parts
abbrev pub WaitingSoFar : List Waiting → List Lexeme → Type 0
WaitingSoFar [] xs = xs ≡ []
WaitingSoFar (Parenthesis ∷ ws) xs =
    (prefix : List Lexeme) × (opening : Lexeme) × WaitingSoFar ws prefix × Marks punctuator.OpenParenthesis opening
    × (xs ≡ prefix ++ opening ∷ [])
WaitingSoFar (Index n ∷ ws) xs =
    (prefix : List Lexeme) × (opening : Lexeme) × WaitingSoFar ws prefix × Marks punctuator.OpenBracket opening
    × (xs ≡ prefix ++ identifier n ∷ opening ∷ [])
WaitingSoFar (Arguments n es ∷ ws) xs =
    (prefix row : List Lexeme) × (opening : Lexeme) × WaitingSoFar ws prefix × Marks punctuator.OpenParenthesis opening
    × ArgumentsSoFar row es × (xs ≡ prefix ++ identifier n ∷ opening ∷ row)
WaitingSoFar (Prefix op ∷ ws) xs =
    (prefix : List Lexeme) × (sign : Lexeme) × WaitingSoFar ws prefix × Marks (unary_punctuator op) sign × (xs ≡ prefix ++ sign ∷ [])
WaitingSoFar (Casting t ∷ ws) xs =
    (prefix type : List Lexeme) × (opening closing : Lexeme) × WaitingSoFar ws prefix × Marks punctuator.OpenParenthesis opening
    × SpellsType type t × Marks punctuator.CloseParenthesis closing × (xs ≡ prefix ++ (opening ∷ type ++ closing ∷ []))
WaitingSoFar (Infix op a ∷ ws) xs =
    (prefix left : List Lexeme) × (sign : Lexeme) × WaitingSoFar ws prefix × SpellsExpression (precedence op) left a
    × Room (precedence op) ws × Marks (binary_punctuator op) sign × (xs ≡ prefix ++ (left ++ sign ∷ []))
WaitingSoFar (Then c ∷ ws) xs =
    (prefix test : List Lexeme) × (question : Lexeme) × WaitingSoFar ws prefix × SpellsExpression 2 test c × Room 1 ws
    × Marks punctuator.Question question × (xs ≡ prefix ++ (test ++ question ∷ []))
WaitingSoFar (Otherwise c a ∷ ws) xs =
    (prefix test left : List Lexeme) × (question colon : Lexeme) × WaitingSoFar ws prefix × SpellsExpression 2 test c
    × SpellsExpression 1 left a × Room 1 ws × Marks punctuator.Question question × Marks punctuator.Colon colon
    × (xs ≡ prefix ++ (test ++ (question ∷ left ++ colon ∷ [])))

-- the tokens spell the pending parts and, after them, an operand of at least level `low`
pub record Holds (ws : List Waiting) (e : Expr) (xs : List Lexeme) (low : ℕ) : Type 0 where
  pub prefix : List Lexeme
  pub part : List Lexeme
  pub level : ℕ
  pub waits : WaitingSoFar ws prefix
  pub spelled : SpellsExpression level part e
  pub room : Room level ws
  pub tight : low ≤ level
  pub whole : xs ≡ prefix ++ part

-- the tokens spell the pending parts, the parenthesis of a cast, and words after it for which `Word` holds
pub record Casts (ws : List Waiting) (xs : List Lexeme) (Word : List Lexeme → Type 0) : Type 0 where
  pub prefix : List Lexeme
  pub type : List Lexeme
  pub opening : Lexeme
  pub waits : WaitingSoFar ws prefix
  pub opens : Marks punctuator.OpenParenthesis opening
  pub word : Word type
  pub whole : xs ≡ prefix ++ opening ∷ type

abbrev pub IsSign : Scalar → List Lexeme → Type 0
IsSign t xs = (word : Lexeme) × IsKeyword (sign_word t) word × (xs ≡ word ∷ [])
