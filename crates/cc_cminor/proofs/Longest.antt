-- In a unit that a text spells within the limits, each full expression has at most 512 tokens.
use Rattle.std.proofs.Common.{◌≡◌, ℕ, zero, suc, ◌+◌, ◌-◌, ◌≤◌, List, [], ◌∷◌, ◌++◌, length, map, Option, Some, None, ◌⊎◌, inl, inr, refl, sym, ap, subst, ◌∙◌, arith, slice_get}
use Rattle.std.proofs.Math.Bridge.{le_prop}
use Rattle.std.proofs.Math.Logic.{∥∥₁_elim}
use Rattle.std.specs.List.{AllByRecursion}
use Rattle.cc_tokens.specs.Token.{Lexeme}
use Rattle.cc_tokens.specs.declared.scalar.Scalar.{Scalar}
use Rattle.cc_ast.specs.Tree.{Expr, Action, Declarator, Beginning, Declares, Performs, Stmt, Stmts, end, next, Block, Local, Perform, Return, Break, Continue, If, IfElse, While, DoWhile, For, External, Signature, Declaration, Definition, Objects}
use Rattle.cc_ast.specs.Grammar.{Measured, outside, full_after, full, begins, SpellsRow, SpellsInitial, SpellsDeclarator, SpellsLocal, SpellsOptional, SpellsOptionalAction, SpellsBeginning, SpellsStatement, SpellsStatements, SpellsExternal, SpellsExternals, SpellsUnit}
use Rattle.cc_ast.specs.Limits.{IsWithin}
use Rattle.cc_ast.specs.Parse.{SpellsText}
use Rattle.cc_types.specs.Typed.{definitions}
use Rattle.cc_cminor.proofs.Tokens.{tokens_or, optional_tokens, expression_long, action_long}

-- the larger
abbrev pub larger : ℕ → ℕ → ℕ
larger a b = a + (b - a)

-- ---- the most tokens of a full expression of a tree

abbrev pub longest_declared : List Declarator → ℕ
longest_declared [] = 0
longest_declared (d ∷ rest) = larger (tokens_or d.initial) (longest_declared rest)

abbrev pub longest_beginning : Beginning → ℕ
longest_beginning (Declares t ds) = longest_declared ds
longest_beginning (Performs a) = optional_tokens a

abbrev mutual
  pub longest : Stmt → ℕ
  longest (Block all) = longest_in all
  longest (Local t ds) = longest_declared ds
  longest (Perform a) = optional_tokens a
  longest (Return at e) = tokens_or e
  longest (Break at) = 0
  longest (Continue at) = 0
  longest (If c a) = larger (tokens_or (Some c)) (longest a)
  longest (IfElse c a e) = larger (tokens_or (Some c)) (larger (longest a) (longest e))
  longest (While c body) = larger (tokens_or (Some c)) (longest body)
  longest (DoWhile body c) = larger (tokens_or (Some c)) (longest body)
  longest (For first c a body) = larger (longest_beginning first) (larger (tokens_or c) (larger (optional_tokens a) (longest body)))

  pub longest_in : Stmts → ℕ
  longest_in end = 0
  longest_in (next first rest) = larger (longest first) (longest_in rest)

-- ---- what the limits say about tokens

-- no token is past the 512th of a full expression
abbrev Counted : List Measured → Type 0
Counted [] = Unit {0}
Counted (p ∷ ps) = (p.count ≤ 512) × Counted ps

counted : (ts : List Measured) → AllByRecursion IsWithin ts → Counted ts
counted [] h = tt
counted (p ∷ ps) h = (h.0.0, counted ps h.1)

prefix : (xs ys : List Measured) → Counted (xs ++ ys) → Counted xs
prefix [] ys h = tt
prefix (x ∷ xs) ys h = (h.0, prefix xs ys h.1)

back : (xs ys : List Measured) → Counted (xs ++ ys) → Counted ys
back [] ys h = h
back (x ∷ xs) ys h = back xs ys h.1

begun : (level : ℕ) (ts : List Measured) → Counted (begins level ts) → Counted ts
begun level [] h = tt
begun level (p ∷ ps) h = h

full_within : (xs : List Lexeme) (n : ℕ) → n ≤ 512 → Counted (full_after n xs) → n + length xs ≤ 512
full_within [] n le h = omega arith
full_within (x ∷ xs) n le h = let r = full_within xs (suc n) h.0 h.1 in omega arith

-- ---- each part

optional_short : (e : Option Expr) (ts : List Measured) → SpellsOptional ts e → Counted ts → tokens_or e ≤ 512
optional_short None ts h c = omega arith
optional_short (Some e) ts h c =
    let f = full_within h.0 0 (omega arith) (subst Counted h.2 c) in let l = expression_long e 1 h.0 h.1 in omega arith

action_short : (a : Option Action) (ts : List Measured) → SpellsOptionalAction ts a → Counted ts → optional_tokens a ≤ 512
action_short None ts h c = omega arith
action_short (Some a) ts h c =
    let f = full_within h.0 0 (omega arith) (subst Counted h.2 c) in let l = action_long a h.0 h.1 in omega arith

initial_short : (e : Option Expr) (ts : List Measured) → SpellsInitial ts e → Counted ts → tokens_or e ≤ 512
initial_short None ts h c = omega arith
initial_short (Some e) ts h c =
    let all = subst Counted h.4 c in let f = full_within h.1 0 (omega arith) all.1 in let l = expression_long e 1 h.1 h.3 in omega arith

declarator_short : (d : Declarator) (ts : List Measured) → SpellsDeclarator ts d → Counted ts → tokens_or d.initial ≤ 512
declarator_short d ts h c = let all = subst Counted h.2 c in initial_short d.initial h.0 h.1 all.1

declarators_short : (ds : List Declarator) (ts : List Measured) → SpellsRow SpellsDeclarator ts ds → Counted ts → longest_declared ds ≤ 512
declarators_short [] ts h c = omega arith
declarators_short (d ∷ []) ts h c = let p = declarator_short d ts h c in omega arith
declarators_short (d ∷ e ∷ rest) ts h c =
    let all = subst Counted h.6 c in
    let p = declarator_short d h.1 h.4 (prefix h.1 (outside h.0 ∷ h.2) all) in
    let q = declarators_short (e ∷ rest) h.2 h.5 (back h.1 (outside h.0 ∷ h.2) all).1 in omega arith

local_short : (t : Scalar) (ds : List Declarator) (ts : List Measured) → SpellsLocal ts t ds → Counted ts → longest_declared ds ≤ 512
local_short t ds ts h c =
    let all = subst Counted h.6 c in
    let rest = back (map outside h.0) (h.1 ++ outside h.2 ∷ []) all in
    declarators_short ds h.1 h.4 (prefix h.1 (outside h.2 ∷ []) rest)

beginning_short : (first : Beginning) (level : ℕ) (ts : List Measured) → SpellsBeginning level ts first → Counted ts → longest_beginning first ≤ 512
beginning_short (Declares t ds) level ts h c = local_short t ds h.0 h.1 (begun level h.0 (subst Counted h.2 c))
beginning_short (Performs a) level ts h c = action_short a h.0 h.2 (prefix h.0 (outside h.1 ∷ []) (subst Counted h.4 c))

test_short : (e : Expr) (xs : List Lexeme) → SpellsOptional (full xs) (Some e) → Counted (full xs) → tokens_or (Some e) ≤ 512
test_short e xs h c = optional_short (Some e) (full xs) h c

mutual
  statement_short : (s : Stmt) (level : ℕ) (ts : List Measured) → SpellsStatement level ts s → Counted ts → longest s ≤ 512
  statement_short (Block all) level ts h c =
      let inside = begun level (outside h.0 ∷ h.2 ++ outside h.1 ∷ []) (subst Counted h.6 c) in statements_short all (suc level) h.2 h.5 (prefix h.2 (outside h.1 ∷ []) inside.1)
  statement_short (Local t ds) level ts h c = local_short t ds h.0 h.1 (begun level h.0 (subst Counted h.2 c))
  statement_short (Perform a) level ts h c =
      action_short a h.0 h.2 (prefix h.0 (outside h.1 ∷ []) (begun level (h.0 ++ outside h.1 ∷ []) (subst Counted h.4 c)))
  statement_short (Return at e) level ts h c =
      let inside = begun level (outside h.0 ∷ h.2 ++ outside h.1 ∷ []) (subst Counted h.7 c) in optional_short e h.2 h.6 (prefix h.2 (outside h.1 ∷ []) inside.1)
  statement_short (Break at) level ts h c = omega arith
  statement_short (Continue at) level ts h c = omega arith
  statement_short (If e a) level ts h c =
      let inside = begun level (outside h.0 ∷ outside h.1 ∷ full h.3 ++ outside h.2 ∷ h.4) (subst Counted h.11 c) in
      let p = test_short e h.3 (h.3, h.8, refl) (prefix (full h.3) (outside h.2 ∷ h.4) inside.1.1) in
      let q = statement_short a (suc level) h.4 h.9 (back (full h.3) (outside h.2 ∷ h.4) inside.1.1).1 in omega arith
  statement_short (IfElse e a b) level ts h c =
      let inside = begun level (outside h.0 ∷ outside h.1 ∷ full h.4 ++ (outside h.2 ∷ h.5 ++ outside h.3 ∷ h.6)) (subst Counted h.17 c) in
      let p = test_short e h.4 (h.4, h.11, refl) (prefix (full h.4) (outside h.2 ∷ h.5 ++ outside h.3 ∷ h.6) inside.1.1) in
      let parts = (back (full h.4) (outside h.2 ∷ h.5 ++ outside h.3 ∷ h.6) inside.1.1).1 in
      let q = statement_short a (suc level) h.5 h.12 (prefix h.5 (outside h.3 ∷ h.6) parts) in
      let r = statement_short b (suc level) h.6 h.15 (back h.5 (outside h.3 ∷ h.6) parts).1 in omega arith
  statement_short (While e a) level ts h c =
      let inside = begun level (outside h.0 ∷ outside h.1 ∷ full h.3 ++ outside h.2 ∷ h.4) (subst Counted h.11 c) in
      let p = test_short e h.3 (h.3, h.8, refl) (prefix (full h.3) (outside h.2 ∷ h.4) inside.1.1) in
      let q = statement_short a (suc level) h.4 h.9 (back (full h.3) (outside h.2 ∷ h.4) inside.1.1).1 in omega arith
  statement_short (DoWhile a e) level ts h c =
      let behind = outside h.1 ∷ outside h.2 ∷ full h.6 ++ outside h.3 ∷ outside h.4 ∷ [] in
      let inside = begun level (outside h.0 ∷ h.5 ++ behind) (subst Counted h.15 c) in
      let q = statement_short a (suc level) h.5 h.12 (prefix h.5 behind inside.1) in
      let p = test_short e h.6 (h.6, h.14, refl) (prefix (full h.6) (outside h.3 ∷ outside h.4 ∷ []) (back h.5 behind inside.1).1.1) in omega arith
  statement_short (For first e step a) level ts h c =
      let last = h.6 ++ outside h.3 ∷ h.7 in
      let middle = h.5 ++ (outside h.2 ∷ last) in
      let inside = begun level (outside h.0 ∷ outside h.1 ∷ h.4 ++ middle) (subst Counted h.17 c) in
      let p = beginning_short first (suc level) h.4 h.12 (prefix h.4 middle inside.1.1) in
      let rest = back h.4 middle inside.1.1 in
      let q = optional_short e h.5 h.13 (prefix h.5 (outside h.2 ∷ last) rest) in
      let end_part = (back h.5 (outside h.2 ∷ last) rest).1 in
      let r = action_short step h.6 h.14 (prefix h.6 (outside h.3 ∷ h.7) end_part) in
      let s = statement_short a (suc level) h.7 h.15 (back h.6 (outside h.3 ∷ h.7) end_part).1 in omega arith

  statements_short : (ss : Stmts) (level : ℕ) (ts : List Measured) → SpellsStatements level ts ss → Counted ts → longest_in ss ≤ 512
  statements_short end level ts h c = omega arith
  statements_short (next s ss) level ts h c =
      let all = subst Counted h.4 c in
      let p = statement_short s level h.0 h.2 (prefix h.0 h.1 all) in
      let q = statements_short ss level h.1 h.3 (back h.0 h.1 all) in omega arith

-- ---- each definition of a unit

definition_short : (unit : List External) (ts : List Measured) (f : ℕ) (s : Signature) (body : Stmts) → SpellsExternals ts unit → Counted ts → slice_get (definitions unit) f ≡ Some (Definition s body) → longest_in body ≤ 512
definition_short [] ts f s body h c e = absurd (let d : ◌≡◌ {A = Option External} None (Some (Definition s body)) = e in cc)
definition_short (Declaration g ∷ rest) ts f s body h c e = definition_short rest h.1 f s body h.3 (back h.0 h.1 (subst Counted h.4 c)) e
definition_short (Objects t os ∷ rest) ts f s body h c e = definition_short rest h.1 f s body h.3 (back h.0 h.1 (subst Counted h.4 c)) e
definition_short (Definition g b ∷ rest) ts zero s body h c e =
    let is : ◌≡◌ {A = Option External} (Some (Definition g b)) (Some (Definition s body)) = e in
    let same : b ≡ body = cc in
    let d : SpellsExternal h.0 (Definition g b) = h.2 in
    let all = subst Counted d.5 (prefix h.0 h.1 (subst Counted h.4 c)) in
    subst (λ (x : Stmts). longest_in x ≤ 512) same (statement_short (Block b) 1 d.1 d.4 (back d.0 d.1 all))
definition_short (Definition g b ∷ rest) ts (suc f) s body h c e = definition_short rest h.1 f s body h.3 (back h.0 h.1 (subst Counted h.4 c)) e

unit_short : (unit : List External) (ts : List Measured) (f : ℕ) (s : Signature) (body : Stmts) → SpellsUnit ts unit → Counted ts → slice_get (definitions unit) f ≡ Some (Definition s body) → longest_in body ≤ 512
unit_short [] ts f s body h c e = absurd h
unit_short (x ∷ rest) ts f s body h c e = definition_short (x ∷ rest) ts f s body h c e

pub text_short : (text : List ℕ) (unit : List External) (f : ℕ) (s : Signature) (body : Stmts) → ∥ SpellsText text unit ∥₁ → slice_get (definitions unit) f ≡ Some (Definition s body) → longest_in body ≤ 512
text_short text unit f s body h e =
    ∥∥₁_elim h le_prop (λ (t : SpellsText text unit). unit_short unit t.spelled.0 f s body t.spelled.1 (counted t.spelled.0 t.spelled.2) e)
