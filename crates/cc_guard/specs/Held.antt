-- Code in which some of the constants that conditions compare with are held in variables: each is put into its variable once,
-- before the code. A branch that compares two variables is one instruction; one that compares a variable with a constant is two.
use Rattle.std.specs.Prelude.{◌≡◌, ◌⊎◌, ℕ, suc, ◌+◌, ◌≤◌, ◌==◌, List, [], ◌∷◌, length, if◌then◌else◌}
use Rattle.cc_cminor_language.specs.Cminor.{Expression, Constant, Local, Binary, Statement, Skip, Set, Store, Call, Read, Write, Sequence, If, Loop, Block, Exit, Return}
use Rattle.cc_cminor_language.specs.Numbers.{most_variables}
use Rattle.cc_cminor_language.specs.Variables.{above_statement}

-- a constant, or the variable that holds its word; the variables from m on hold the words
abbrev pub held_word : (words : List ℕ) → (m w : ℕ) → Expression
held_word [] m w = Constant w
held_word (v ∷ vs) m w = if v == w then Local m else held_word vs (suc m) w

abbrev pub held_operand : (words : List ℕ) → (m : ℕ) → Expression → Expression
held_operand ws m (Constant w) = held_word ws m w
held_operand ws m e = e

abbrev pub held_test : (words : List ℕ) → (m : ℕ) → Expression → Expression
held_test ws m (Binary op a b) = Binary op (held_operand ws m a) (held_operand ws m b)
held_test ws m e = e

-- a statement, changed so that all its conditions read the words from those variables
abbrev pub held_in : (words : List ℕ) → (m : ℕ) → Statement → Statement
held_in ws m Skip = Skip
held_in ws m (Set x e) = Set x e
held_in ws m (Store w o i e) = Store w o i e
held_in ws m (Call to f es) = Call to f es
held_in ws m (Read to) = Read to
held_in ws m (Write e) = Write e
held_in ws m (Sequence s t) = Sequence (held_in ws m s) (held_in ws m t)
held_in ws m (If e s t) = If (held_test ws m e) (held_in ws m s) (held_in ws m t)
held_in ws m (Loop s) = Loop (held_in ws m s)
held_in ws m (Block s) = Block (held_in ws m s)
held_in ws m (Exit k) = Exit k
held_in ws m (Return e) = Return e

-- each word is put into its variable, and then the statement runs
abbrev pub put_first : (words : List ℕ) → (m : ℕ) → Statement → Statement
put_first [] m s = s
put_first (w ∷ ws) m s = Sequence (Set m (Constant w)) (put_first ws (suc m) s)

abbrev pub with_words : (words : List ℕ) → (m : ℕ) → Statement → Statement
with_words ws m s = put_first ws m (held_in ws m s)

-- at most this many words are held
abbrev pub most_held : ℕ
most_held = 8

-- t is s with some words held in variables; the record leaves open which words: the pass chooses those that conditions in loops
-- compare with most often
pub record Holding (s t : Statement) : Type 0 where
  pub words : List ℕ
  pub few : length words ≤ most_held
  pub fit : above_statement 0 s + length words ≤ most_variables
  pub is : t ≡ with_words words (above_statement 0 s) s

-- the code is as it was, or holds words in variables above all of its own
abbrev pub IsHeld : (s t : Statement) → Type 0
IsHeld s t = (t ≡ s) ⊎ Holding s t
