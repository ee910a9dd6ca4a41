-- The numbers of enumerators (C99 6.7.2.2). Each has a value: a constant expression, in which the enumerators before it are replaced by
-- their numbers. An enumerator without a value has that of the enumerator before it plus 1; the first one has 0.
use Rattle.std.specs.Prelude.{◌≡◌, ℕ, ◌-◌, ◌≤◌, ◌==◌, Bool, true, false, nat_lt, ◌^◌, if◌then◌else◌, List, [], ◌∷◌, ◌++◌, length, Option, Some, None, codes}
use Rattle.std.specs.Str.{bytes_eq}
use Rattle.std.specs.List.{flat_map}
use Rattle.std.specs.Fmt.{decimal}
use Rattle.cc_tokens.specs.declared.scalar.Scalar.{Scalar}
use Rattle.cc_tokens.specs.declared.scalar.Scalar.TheVariants.{Int, Unsigned}
use Rattle.cc_tokens.specs.Token.{Lexeme}
use Rattle.cc_tokens.specs.Tokens.{IsTokens, most_bytes}
use Rattle.cc_ast.specs.Tree.{ConstantExpr, Object, Single, External, Objects}
use Rattle.cc_ast.specs.Parse.{SpellsText}
use Rattle.cc_types.specs.Types.{constant_word, value_type}
use Rattle.cc_wide_text.specs.Lexing.{is_identifier, spaced}

-- an enumerator, and the bytes of its value
pub record Enumerator : Type 0 where
  pub name : List ℕ
  pub value : List ℕ

-- an enumerator, and the word of its number
pub record Number : Type 0 where
  pub name : List ℕ
  pub word : ℕ

-- ---- how numbers are written

-- the number of type int with this word: the sign is an operator
abbrev pub number_bytes : (word : ℕ) → List ℕ
number_bytes w = if nat_lt w (2 ^ 31) then decimal w ++ codes " " else codes "( - " ++ decimal (2 ^ 32 - w) ++ codes " ) "

abbrev pub word_of : List Number → List ℕ → Option ℕ
word_of [] x = None
word_of (n ∷ rest) x = if bytes_eq n.name x then Some n.word else word_of rest x

abbrev pub number_or : Option ℕ → List ℕ → List ℕ
number_or None bytes = bytes
number_or (Some w) bytes = number_bytes w

-- how a token is written, given the numbers of enumerators
abbrev pub numbered : List Number → Lexeme → List ℕ
numbered ns x = if is_identifier x.kind then number_or (word_of ns x.text) (spaced x.text) else spaced x.text

-- ---- values

-- the word is that of a number from -2147483647 to 2147483647: one of type int, or one of type unsigned that int has too
abbrev pub is_number : Scalar → ℕ → Bool
is_number Int w = if w == 2 ^ 31 then false else true
is_number Unsigned w = nat_lt w (2 ^ 31)

-- a declaration with this initialiser
abbrev pub declaration : List ℕ → List ℕ
declaration value = codes "int __enum = " ++ value ++ codes "; "

-- the word of a constant, if it is that of a number
abbrev pub number_or_none : Scalar → Option ℕ → Option ℕ
number_or_none t None = None
number_or_none t (Some w) = if is_number t w then Some w else None

abbrev pub word_of_constant : ConstantExpr → Option ℕ
word_of_constant c = number_or_none (value_type [] c.expr) (constant_word c)

-- the word of the initialiser of the only object
abbrev pub word_of_objects : Scalar → List Object → Option ℕ
word_of_objects Int (Single x (Some c) ∷ []) = word_of_constant c
word_of_objects t os = None

abbrev pub word_of_unit : List External → Option ℕ
word_of_unit (Objects t os ∷ []) = word_of_objects t os
word_of_unit es = None

-- the bytes are a constant expression with this word, which is that of a number
pub record IsConstant (value : List ℕ) (word : ℕ) : Type 0 where
  pub tree : List External
  pub fits : length (declaration value) ≤ most_bytes
  pub spelled : SpellsText (declaration value) tree
  pub is : word_of_unit tree ≡ Some word

-- the word of the bytes, if they are such a constant expression
abbrev pub IsConstantAnswer : List ℕ → Option ℕ → Type 0
IsConstantAnswer value (Some w) = IsConstant value w
IsConstantAnswer value None = (w : ℕ) → IsConstant value w → ⊥

-- the value of an enumerator, given the numbers of those before it
pub record HasNumber (ns : List Number) (e : Enumerator) (word : ℕ) : Type 0 where
  pub fits : length e.value ≤ most_bytes
  pub tokens : List Lexeme
  pub are : IsTokens e.value tokens
  pub constant : IsConstant (flat_map (numbered ns) tokens) word

-- the numbers of all enumerators, given those of the first ones and which ones are left
abbrev pub AreNumbers : (first : List Number) → (left : List Enumerator) → (all : List Number) → Type 0
AreNumbers ns [] all = all ≡ ns
AreNumbers ns (e ∷ es) all = (w : ℕ) × HasNumber ns e w × AreNumbers (ns ++ record { name = e.name; word = w } ∷ []) es all
