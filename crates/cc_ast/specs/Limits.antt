-- The limits of a unit, and the first token that breaks the grammar or a limit.
use Rattle.std.specs.Prelude.{◌≡◌, ℕ, suc, ◌<◌, ◌≤◌, List, [], ◌∷◌, ◌++◌, length, take, ◌⊎◌}
use Rattle.std.specs.List.{AllByRecursion}
use Rattle.cc_tokens.specs.Token.{Lexeme}
use Rattle.cc_ast.specs.Tree.{External}
use Rattle.cc_ast.specs.Grammar.{Measured, SpellsUnit, plain_tokens, Spells, Begins}

-- a full expression may have at most this many tokens
abbrev pub most_tokens : ℕ
most_tokens = 512

-- a statement or declaration may be at most at this level
abbrev pub deepest_level : ℕ
deepest_level = 64

abbrev pub IsWithin : Measured → Type 0
IsWithin p = (p.count ≤ most_tokens) × (p.level ≤ deepest_level)

-- the tokens spell the tree within the limits
abbrev pub SpellsWithin : List Lexeme → List External → Type 0
SpellsWithin tokens tree = (ts : List Measured) × SpellsUnit ts tree × AllByRecursion IsWithin ts × (plain_tokens ts ≡ tokens)

-- a token that exceeds a limit: one too many in a full expression, or the first of a statement or declaration that is too deep
abbrev pub PassesLimit : Measured → Type 0
PassesLimit p = (most_tokens < p.count) ⊎ (deepest_level < p.level)

-- no unit begins with the tokens up to and including number k; the end of the text counts as a last token
abbrev pub UnexpectedAt : List Lexeme → ℕ → Type 0
UnexpectedAt tokens k =
    ((k < length tokens) × (Begins (take (suc k) tokens) → ⊥))
    ⊎ ((k ≡ length tokens) × ((tree : List External) → Spells tokens tree → ⊥))

-- in some unit that begins with the tokens up to and including number k, that token exceeds a limit
abbrev pub TooDeepAt : List Lexeme → ℕ → Type 0
TooDeepAt tokens k =
    (prefix rest : List Measured) × (p : Measured) × (tree : List External) × (k < length tokens) × PassesLimit p
    × SpellsUnit (prefix ++ p ∷ rest) tree × (plain_tokens (prefix ++ p ∷ []) ≡ take (suc k) tokens)

-- some unit begins with the tokens before number k, and none of them exceeds a limit
abbrev pub IsFineBefore : List Lexeme → ℕ → Type 0
IsFineBefore tokens k = Begins (take k tokens) × ((j : ℕ) → j < k → TooDeepAt tokens j → ⊥)

-- tokens spell at most one tree
abbrev pub TreesAreOne : Type 0
TreesAreOne = (tokens : List Lexeme) (a b : List External) → Spells tokens a → Spells tokens b → a ≡ b

-- if tokens spell a tree within the limits, no token breaks the grammar or a limit
abbrev pub SpelledHaveNoFault : Type 0
SpelledHaveNoFault =
    (tokens : List Lexeme) (tree : List External) (k : ℕ) → SpellsWithin tokens tree → (UnexpectedAt tokens k → ⊥) × (TooDeepAt tokens k → ⊥)
