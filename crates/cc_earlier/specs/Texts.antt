-- A text that had a tree, a typed unit and a meaning before there were arrays of `unsigned char` has the same ones now. The clauses that
-- such arrays changed are here as they were then, each with `earlier_` before its name. What is claimed: each present clause does the same
-- if no object is such an array, and no object of an earlier text is one. A reader has to check one thing: that every other clause of the
-- grammar, the rules, the limits and the meaning is as it was. None of them has a different text now, except clauses on arrays of
-- `unsigned char` themselves.
use Rattle.std.specs.Prelude.{◌≡◌, ℕ, ◌+◌, ◌-◌, List, [], ◌∷◌, ◌++◌, length, map, replicate, nat_lt, if◌then◌else◌, Some, None, unwrap_or, slice_set}
use Rattle.std.specs.List.{AllByRecursion}
use Rattle.cc_words.specs.declared.operators.Width.TheVariants.{Word}
use Rattle.cc_tokens.specs.declared.scalar.Scalar.{Scalar}
use Rattle.cc_tokens.specs.declared.token.Keyword.TheVariants as keyword
use Rattle.cc_tokens.specs.declared.token.Punctuator.TheVariants as punctuator
use Rattle.cc_tokens.specs.Token.{Lexeme}
use Rattle.cc_tokens.specs.Tokens.{IsTokens}
use Rattle.cc_ast.specs.Tree.{Object, Single, Array, Bytes, ConstantExpr, External, Declaration, Definition, Objects}
use Rattle.cc_ast.specs.Grammar.{Measured, outside, identifier, Marks, IsKeyword, SpellsRow, SpellsType, SpellsConstantExpr, SpellsOptionalConstant, SpellsList, SpellsExternal, plain_tokens}
use Rattle.cc_ast.specs.Limits.{IsWithin}
use Rattle.cc_ast.specs.Parse.{SpellsText}
use Rattle.cc_types.specs.Names.{same_name}
use Rattle.cc_types.specs.Scope.{FileScope, is_declared, first_file_scope, with_object, file_scope_behind}
use Rattle.cc_types.specs.Types.{array_length, initial_word}
use Rattle.cc_types.specs.Rules.{broken_if, optional_constant_errors, constants_errors, length_errors, external_errors, errors}
use Rattle.cc_types.specs.Limits.{most_words, most_functions, too_many, past, function_names, objects, object_name, externals_excesses, excesses}
use Rattle.cc_types.specs.declared.rule.RuleError.{RuleError}
use Rattle.cc_types.specs.declared.rule.Rule.TheVariants.{Redeclared}
use Rattle.cc_c_semantics.specs.Meaning.{Global, global_words, with_element, initial_globals}
use Rattle.cc_c_semantics.specs.Function.{Shared, Effect, Answer, Answers, Unfinished, Failed, call_function, body_of_function}

-- ---- earlier texts

-- no token is the keyword `char`
abbrev pub HasNoChar : List Lexeme → Type 0
HasNoChar [] = Unit {0}
HasNoChar (x ∷ xs) = (IsKeyword keyword.Char x → ⊥) × HasNoChar xs

abbrev pub IsNoByteArray : Object → Type 0
IsNoByteArray (Single x initial) = Unit {0}
IsNoByteArray (Array x n values) = Unit {0}
IsNoByteArray (Bytes x n values) = ⊥

-- an external declaration of a kind that existed then
abbrev pub IsPlain : External → Type 0
IsPlain (Declaration s) = Unit {0}
IsPlain (Definition s body) = Unit {0}
IsPlain (Objects t os) = AllByRecursion IsNoByteArray os

abbrev pub ArePlain : List External → Type 0
ArePlain tree = AllByRecursion IsPlain tree

-- ---- the grammar

-- one name of a declaration of objects
abbrev pub EarlierObject : List Measured → Object → Type 0
EarlierObject ts (Single n None) = ts ≡ outside (identifier n) ∷ []
EarlierObject ts (Single n (Some c)) =
    (sign : Lexeme) × (right : List Measured) × Marks punctuator.Assign sign × SpellsConstantExpr right c
    × (ts ≡ outside (identifier n) ∷ outside sign ∷ right)
EarlierObject ts (Array n size values) =
    (opening closing : Lexeme) × (inner list : List Measured) × Marks punctuator.OpenBracket opening × Marks punctuator.CloseBracket closing
    × SpellsOptionalConstant inner size × SpellsList list values
    × (ts ≡ outside (identifier n) ∷ outside opening ∷ inner ++ outside closing ∷ list)
EarlierObject ts (Bytes n size values) = ⊥

-- a declaration of objects, and the two other kinds, whose clauses are as they were
abbrev pub EarlierExternal : List Measured → External → Type 0
EarlierExternal ts (Declaration f) = SpellsExternal ts (Declaration f)
EarlierExternal ts (Definition f body) = SpellsExternal ts (Definition f body)
EarlierExternal ts (Objects t os) =
    (type : List Lexeme) × (row : List Measured) × (semicolon : Lexeme) × SpellsType type t × SpellsRow EarlierObject row os
    × Marks punctuator.Semicolon semicolon × (ts ≡ map outside type ++ (row ++ outside semicolon ∷ []))

abbrev pub EarlierExternals : List Measured → List External → Type 0
EarlierExternals ts [] = ts ≡ []
EarlierExternals ts (e ∷ es) = (first others : List Measured) × EarlierExternal first e × EarlierExternals others es × (ts ≡ first ++ others)

abbrev pub EarlierUnit : List Measured → List External → Type 0
EarlierUnit ts [] = ⊥
EarlierUnit ts (e ∷ es) = EarlierExternals ts (e ∷ es)

-- the text's tokens spelled the tree, and the limits held
pub record EarlierText (text : List ℕ) (tree : List External) : Type 0 where
  pub tokens : List Lexeme
  pub are : IsTokens text tokens
  pub spelled : (ts : List Measured) × EarlierUnit ts tree × AllByRecursion IsWithin ts × (plain_tokens ts ≡ tokens)

-- an earlier text has the tree that it had, and no other one
abbrev pub EarlierTreesStay : Type 0
EarlierTreesStay =
    (text : List ℕ) (tree : List External) → EarlierText text tree
    → SpellsText text tree × ((other : List External) → SpellsText text other → other ≡ tree) × ArePlain tree

-- a text without the word `char` has no tree now that it did not have then
abbrev pub NoTreeIsNew : Type 0
NoTreeIsNew = (text : List ℕ) (tree : List External) (now : SpellsText text tree) → HasNoChar now.tokens → EarlierText text tree

-- ---- the rules

abbrev pub earlier_object_errors : Scalar → Object → FileScope → List RuleError
earlier_object_errors t (Single x initial) f =
    broken_if (is_declared f.bindings x.text) Redeclared x.at
    ++ optional_constant_errors (with_object t (Single x initial) f).bindings initial
earlier_object_errors t (Array x n values) f =
    broken_if (is_declared f.bindings x.text) Redeclared x.at
    ++ (optional_constant_errors f.bindings n
    ++ (length_errors (array_length n values) (length values) x.at
    ++ constants_errors (with_object t (Array x n values) f).bindings values))
earlier_object_errors t (Bytes x n values) f = []

abbrev pub earlier_objects_errors : Scalar → List Object → FileScope → List RuleError
earlier_objects_errors t [] f = []
earlier_objects_errors t (o ∷ rest) f = earlier_object_errors t o f ++ earlier_objects_errors t rest (with_object t o f)

abbrev pub earlier_external_errors : External → FileScope → List RuleError
earlier_external_errors (Declaration s) f = external_errors (Declaration s) f
earlier_external_errors (Definition s body) f = external_errors (Definition s body) f
earlier_external_errors (Objects t os) f = earlier_objects_errors t os f

abbrev pub earlier_externals_errors : List External → FileScope → List RuleError
earlier_externals_errors [] f = []
earlier_externals_errors (e ∷ rest) f = earlier_external_errors e f ++ earlier_externals_errors rest (file_scope_behind e f)

-- ---- the limit on words

abbrev pub earlier_object_words : Object → ℕ
earlier_object_words (Single x initial) = 1
earlier_object_words (Array x n values) = elim (array_length n values) [ None ↦ 0 | Some k ↦ k ]
earlier_object_words (Bytes x n values) = 0

abbrev pub earlier_word_excesses : ℕ → List Object → List RuleError
earlier_word_excesses taken [] = []
earlier_word_excesses taken (o ∷ rest) =
    if nat_lt most_words (taken + earlier_object_words o) then too_many (object_name o) ∷ []
    else earlier_word_excesses (taken + earlier_object_words o) rest

abbrev pub earlier_excesses : List External → List RuleError
earlier_excesses externals = externals_excesses externals ++ (past most_functions (function_names externals) ++ earlier_word_excesses 0 (objects externals))

-- an earlier tree breaks the rules that it broke, and exceeds the limits that it exceeded
abbrev pub EarlierRulesStay : Type 0
EarlierRulesStay =
    (tree : List External) → ArePlain tree
    → (errors tree ≡ earlier_externals_errors tree first_file_scope) × (excesses tree ≡ earlier_excesses tree)

-- ---- the meaning

-- an object at file scope: its name, and its elements' words
pub record EarlierGlobal : Type 0 where
  pub name : List ℕ
  pub words : List ℕ

abbrev pub earlier_words_of : List EarlierGlobal → List ℕ → List ℕ
earlier_words_of [] x = []
earlier_words_of (g ∷ rest) x = if same_name g.name x then g.words else earlier_words_of rest x

abbrev pub earlier_with_element : List ℕ → ℕ → ℕ → List EarlierGlobal → List EarlierGlobal
earlier_with_element x i w [] = []
earlier_with_element x i w (g ∷ rest) =
    if same_name g.name x then record g { words = slice_set g.words i w } ∷ rest else g ∷ earlier_with_element x i w rest

abbrev pub earlier_initial_words : Object → List ℕ
earlier_initial_words (Single x e) = initial_word e ∷ []
earlier_initial_words (Array x n values) =
    map (λ (c : ConstantExpr). initial_word (Some c)) values ++ replicate (unwrap_or (array_length n values) 0 - length values) 0
earlier_initial_words (Bytes x n values) = []

abbrev pub earlier_initial_globals : List External → List EarlierGlobal
earlier_initial_globals externals = map (λ (o : Object). record { name = (object_name o).text; words = earlier_initial_words o }) (objects externals)

-- an object as the clauses saw it then
abbrev pub earlier_global : Global → EarlierGlobal
earlier_global g = record { name = g.name; words = g.words }

-- each element is a word
abbrev pub AreOfWords : List Global → Type 0
AreOfWords gs = AllByRecursion (λ (g : Global). g.width ≡ Word) gs

-- objects of words are still of words after a call
abbrev pub StayOfWords : Effect Answer → Type 0
StayOfWords (Answers a left) = AreOfWords a.shared.globals
StayOfWords (Unfinished output) = Unit {0}
StayOfWords (Failed cause output) = Unit {0}

-- The clauses on objects read their words, write an element, and say what the objects are before the run. Each clause does what it did: an
-- earlier tree begins with objects of words, and each write, each call and each body leaves them of words
pub record EarlierMeaningStays : Type 0 where
  pub begins : (tree : List External) → ArePlain tree → AreOfWords (initial_globals tree) × (map earlier_global (initial_globals tree) ≡ earlier_initial_globals tree)
  pub reads : (gs : List Global) (x : List ℕ) → global_words gs x ≡ earlier_words_of (map earlier_global gs) x
  pub writes : (x : List ℕ) (i w : ℕ) (gs : List Global) → AreOfWords gs
      → AreOfWords (with_element x i w gs) × (map earlier_global (with_element x i w gs) ≡ earlier_with_element x i w (map earlier_global gs))
  pub calls : (unit : List External) (n opened f : ℕ) (ws : List ℕ) (h : Shared) → AreOfWords h.globals → StayOfWords (call_function unit n opened f ws h)
  pub bodies : (unit : List External) (n opened f : ℕ) (ws : List ℕ) (h : Shared) → AreOfWords h.globals → StayOfWords (body_of_function unit n opened f ws h)
