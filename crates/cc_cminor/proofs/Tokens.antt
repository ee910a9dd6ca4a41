-- The least number of tokens that spell a part of a tree, computed from only the tree; an argument's comma is not counted.
use Rattle.std.proofs.Common.{◌≡◌, ℕ, suc, ◌+◌, ◌≤◌, List, [], ◌∷◌, ◌++◌, length, map, Option, Some, None, ◌⊎◌, inl, inr, refl, sym, ap, ◌∙◌, arith}
use Rattle.std.proofs.lemmas.List.{length-append, length-map}
use Rattle.cc_tokens.specs.Token.{Lexeme}
use Rattle.cc_tokens.specs.declared.scalar.Scalar.{Scalar}
use Rattle.cc_ast.specs.Tree.{Expr, Exprs, none, more, Number, Variable, Element, Call, Parenthesised, Unary, Cast, Binary, Conditional, Target, AtVariable, AtElement, Action, Assign, Step, Evaluate, Declarator, Beginning, Declares, Performs, Stmt, Stmts, end, next, Block, Local, Perform, Return, Break, Continue, If, IfElse, While, DoWhile, For, External, Signature, Definition}
use Rattle.cc_ast.specs.Grammar.{Measured, outside, full_after, full, begins, precedence, SpellsType, SpellsExpression, SpellsArguments, SpellsTarget, SpellsAction, SpellsRow, SpellsInitial, SpellsDeclarator, SpellsLocal, SpellsOptional, SpellsOptionalAction, SpellsBeginning, SpellsStatement, SpellsStatements, SpellsExternal}

-- ---- the tokens of a tree

abbrev mutual
  pub tokens : Expr → ℕ
  tokens (Number t n) = 1
  tokens (Variable x) = 1
  tokens (Element x e) = 3 + tokens e
  tokens (Call f es) = 3 + tokens_all es
  tokens (Parenthesised e) = 2 + tokens e
  tokens (Unary op e) = 1 + tokens e
  tokens (Cast t e) = 3 + tokens e
  tokens (Binary op a b) = 1 + tokens a + tokens b
  tokens (Conditional c a b) = 2 + tokens c + tokens a + tokens b

  pub tokens_all : Exprs → ℕ
  tokens_all none = 0
  tokens_all (more e rest) = tokens e + tokens_all rest

abbrev pub tokens_or : Option Expr → ℕ
tokens_or None = 0
tokens_or (Some e) = tokens e

abbrev pub target_tokens : Target → ℕ
target_tokens (AtVariable x) = 1
target_tokens (AtElement x e) = 3 + tokens e

abbrev pub action_tokens : Action → ℕ
action_tokens (Assign op target e) = target_tokens target + 1 + tokens e
action_tokens (Step op target) = target_tokens target + 1
action_tokens (Evaluate e) = tokens e

abbrev pub optional_tokens : Option Action → ℕ
optional_tokens None = 0
optional_tokens (Some a) = action_tokens a

-- the tokens of declared names, each with its initialiser and the token that ends it
abbrev pub declared_tokens : List Declarator → ℕ
declared_tokens [] = 0
declared_tokens (d ∷ rest) = 2 + tokens_or d.initial + declared_tokens rest

abbrev pub beginning_tokens : Beginning → ℕ
beginning_tokens (Declares t ds) = 1 + declared_tokens ds
beginning_tokens (Performs a) = optional_tokens a

abbrev mutual
  pub statement_tokens : Stmt → ℕ
  statement_tokens (Block all) = 2 + statements_tokens all
  statement_tokens (Local t ds) = 1 + declared_tokens ds
  statement_tokens (Perform a) = 1 + optional_tokens a
  statement_tokens (Return at e) = 2 + tokens_or e
  statement_tokens (Break at) = 2
  statement_tokens (Continue at) = 2
  statement_tokens (If c a) = 3 + tokens c + statement_tokens a
  statement_tokens (IfElse c a e) = 4 + tokens c + statement_tokens a + statement_tokens e
  statement_tokens (While c body) = 3 + tokens c + statement_tokens body
  statement_tokens (DoWhile body c) = 5 + tokens c + statement_tokens body
  statement_tokens (For first c a body) = 4 + beginning_tokens first + tokens_or c + optional_tokens a + statement_tokens body

  pub statements_tokens : Stmts → ℕ
  statements_tokens end = 0
  statements_tokens (next first rest) = statement_tokens first + statements_tokens rest

-- ---- what spells a tree has at least that many tokens

full_long : (xs : List Lexeme) (n : ℕ) → length (full_after n xs) ≡ length xs
full_long [] n = refl
full_long (x ∷ xs) n = ap suc (full_long xs (suc n))

begins_long : (level : ℕ) (ts : List Measured) → length (begins level ts) ≡ length ts
begins_long level [] = refl
begins_long level (p ∷ ps) = refl

type_long : (ts : List Lexeme) (t : Scalar) → SpellsType ts t → 1 ≤ length ts
type_long ts t (inl h) = let l = ap length h.3 in omega arith
type_long ts t (inr (inl h)) = let l = ap length h.2 in omega arith
type_long ts t (inr (inr h)) = let l = ap length h.4 in omega arith

mutual
  pub expression_long : (e : Expr) (level : ℕ) (ts : List Lexeme) → SpellsExpression level ts e → tokens e ≤ length ts
  expression_long (Number t n) level ts h = let l = ap length h.2 in omega arith
  expression_long (Variable x) level ts h = let l = ap length h in omega arith
  expression_long (Element x e) level ts h = let l = ap length h.6 in let a = length-append h.2 (h.1 ∷ []) in let r = expression_long e 1 h.2 h.5 in omega arith
  expression_long (Call f es) level ts h = let l = ap length h.6 in let a = length-append h.2 (h.1 ∷ []) in let r = arguments_long es h.2 h.5 in omega arith
  expression_long (Parenthesised e) level ts h = let l = ap length h.6 in let a = length-append h.2 (h.1 ∷ []) in let r = expression_long e 1 h.2 h.5 in omega arith
  expression_long (Unary op e) level ts h = let l = ap length h.4 in let r = expression_long e 12 h.1 h.3 in omega arith
  expression_long (Cast t e) level ts h =
      let l = ap length h.8 in let a = length-append h.2 (h.1 ∷ h.3) in let b = type_long h.2 t h.5 in let r = expression_long e 12 h.3 h.7 in omega arith
  expression_long (Binary op a b) level ts h =
      let l = ap length h.7 in let c = length-append h.1 (h.0 ∷ h.2) in let p = expression_long a (precedence op) h.1 h.5 in let q = expression_long b (suc (precedence op)) h.2 h.6 in omega arith
  expression_long (Conditional c a b) level ts h =
      let l = ap length h.11 in
      let m = length-append h.2 (h.0 ∷ h.3 ++ h.1 ∷ h.4) in
      let n = length-append h.3 (h.1 ∷ h.4) in
      let p = expression_long c 2 h.2 h.8 in let q = expression_long a 1 h.3 h.9 in let r = expression_long b 1 h.4 h.10 in omega arith

  arguments_long : (es : Exprs) (ts : List Lexeme) → SpellsArguments ts es → tokens_all es ≤ length ts
  arguments_long none ts h = omega arith
  arguments_long (more e none) ts h = let r = expression_long e 1 ts h in omega arith
  arguments_long (more e (more f es)) ts h =
      let l = ap length h.6 in let a = length-append h.1 (h.0 ∷ h.2) in let p = expression_long e 1 h.1 h.4 in let q = arguments_long (more f es) h.2 h.5 in omega arith

target_long : (t : Target) (ts : List Lexeme) → SpellsTarget ts t → target_tokens t ≤ length ts
target_long (AtVariable x) ts h = expression_long (Variable x) 1 ts h
target_long (AtElement x e) ts h = expression_long (Element x e) 1 ts h

step_long : (sign : Lexeme) (ts target : List Lexeme) → (ts ≡ sign ∷ target) ⊎ (ts ≡ target ++ sign ∷ []) → length ts ≡ suc (length target)
step_long sign ts target (inl e) = ap length e
step_long sign ts target (inr e) = let l = ap length e in let a = length-append target (sign ∷ []) in omega arith

pub action_long : (a : Action) (ts : List Lexeme) → SpellsAction ts a → action_tokens a ≤ length ts
action_long (Assign op t e) ts h =
    let l = ap length h.6 in let a = length-append h.1 (h.0 ∷ h.2) in let p = target_long t h.1 h.3 in let q = expression_long e 1 h.2 h.5 in omega arith
action_long (Step op t) ts h = let p = target_long t h.1 h.3 in let l = step_long h.0 ts h.1 h.4 in omega arith
action_long (Evaluate e) ts h = expression_long e 1 ts h

optional_long : (e : Option Expr) (ts : List Measured) → SpellsOptional ts e → tokens_or e ≤ length ts
optional_long None ts h = omega arith
optional_long (Some e) ts h = let l = ap length h.2 in let f = full_long h.0 0 in let r = expression_long e 1 h.0 h.1 in omega arith

optional_action_long : (a : Option Action) (ts : List Measured) → SpellsOptionalAction ts a → optional_tokens a ≤ length ts
optional_action_long None ts h = omega arith
optional_action_long (Some a) ts h = let l = ap length h.2 in let f = full_long h.0 0 in let r = action_long a h.0 h.1 in omega arith

initial_long : (e : Option Expr) (ts : List Measured) → SpellsInitial ts e → tokens_or e ≤ length ts
initial_long None ts h = omega arith
initial_long (Some e) ts h = let l = ap length h.4 in let f = full_long h.1 0 in let r = expression_long e 1 h.1 h.3 in omega arith

declarator_long : (d : Declarator) (ts : List Measured) → SpellsDeclarator ts d → suc (tokens_or d.initial) ≤ length ts
declarator_long d ts h = let l = ap length h.2 in let r = initial_long d.initial h.0 h.1 in omega arith

declarators_long : (ds : List Declarator) (ts : List Measured) → SpellsRow SpellsDeclarator ts ds → declared_tokens ds ≤ suc (length ts)
declarators_long [] ts h = absurd h
declarators_long (d ∷ []) ts h = let r = declarator_long d ts h in omega arith
declarators_long (d ∷ e ∷ rest) ts h =
    let l = ap length h.6 in let a = length-append h.1 (outside h.0 ∷ h.2) in let p = declarator_long d h.1 h.4 in let q = declarators_long (e ∷ rest) h.2 h.5 in omega arith

local_long : (t : Scalar) (ds : List Declarator) (ts : List Measured) → SpellsLocal ts t ds → 1 + declared_tokens ds ≤ length ts
local_long t ds ts h =
    let l = ap length h.6 in
    let a = length-append (map outside h.0) (h.1 ++ outside h.2 ∷ []) in
    let b = length-append h.1 (outside h.2 ∷ []) in
    let c = length-map h.0 outside in
    let p = type_long h.0 t h.3 in let q = declarators_long ds h.1 h.4 in omega arith

beginning_long : (first : Beginning) (level : ℕ) (ts : List Measured) → SpellsBeginning level ts first → beginning_tokens first ≤ length ts
beginning_long (Declares t ds) level ts h = let l = ap length h.2 in let b = begins_long level h.0 in let r = local_long t ds h.0 h.1 in omega arith
beginning_long (Performs a) level ts h = let l = ap length h.4 in let b = length-append h.0 (outside h.1 ∷ []) in let r = optional_action_long a h.0 h.2 in omega arith

mutual
  pub statement_long : (s : Stmt) (level : ℕ) (ts : List Measured) → SpellsStatement level ts s → statement_tokens s ≤ length ts
  statement_long (Block all) level ts h =
      let l = ap length h.6 in let b = begins_long level (outside h.0 ∷ h.2 ++ outside h.1 ∷ []) in let a = length-append h.2 (outside h.1 ∷ []) in let r = statements_long all (suc level) h.2 h.5 in omega arith
  statement_long (Local t ds) level ts h = let l = ap length h.2 in let b = begins_long level h.0 in let r = local_long t ds h.0 h.1 in omega arith
  statement_long (Perform a) level ts h =
      let l = ap length h.4 in let b = begins_long level (h.0 ++ outside h.1 ∷ []) in let c = length-append h.0 (outside h.1 ∷ []) in let r = optional_action_long a h.0 h.2 in omega arith
  statement_long (Return at e) level ts h =
      let l = ap length h.7 in
      let b = begins_long level (outside h.0 ∷ h.2 ++ outside h.1 ∷ []) in
      let c = length-append h.2 (outside h.1 ∷ []) in let r = optional_long e h.2 h.6 in omega arith
  statement_long (Break at) level ts h = let l = ap length h.5 in let b = begins_long level (outside h.0 ∷ outside h.1 ∷ []) in omega arith
  statement_long (Continue at) level ts h = let l = ap length h.5 in let b = begins_long level (outside h.0 ∷ outside h.1 ∷ []) in omega arith
  statement_long (If c a) level ts h =
      let l = ap length h.11 in
      let b = begins_long level (outside h.0 ∷ outside h.1 ∷ full h.3 ++ outside h.2 ∷ h.4) in
      let x = length-append (full h.3) (outside h.2 ∷ h.4) in
      let f = full_long h.3 0 in let p = expression_long c 1 h.3 h.8 in let q = statement_long a (suc level) h.4 h.9 in omega arith
  statement_long (IfElse c a e) level ts h =
      let l = ap length h.17 in
      let b = begins_long level (outside h.0 ∷ outside h.1 ∷ full h.4 ++ (outside h.2 ∷ h.5 ++ outside h.3 ∷ h.6)) in
      let x = length-append (full h.4) (outside h.2 ∷ h.5 ++ outside h.3 ∷ h.6) in
      let y = length-append h.5 (outside h.3 ∷ h.6) in
      let f = full_long h.4 0 in
      let p = expression_long c 1 h.4 h.11 in let q = statement_long a (suc level) h.5 h.12 in let r = statement_long e (suc level) h.6 h.15 in omega arith
  statement_long (While c body) level ts h =
      let l = ap length h.11 in
      let b = begins_long level (outside h.0 ∷ outside h.1 ∷ full h.3 ++ outside h.2 ∷ h.4) in
      let x = length-append (full h.3) (outside h.2 ∷ h.4) in
      let f = full_long h.3 0 in let p = expression_long c 1 h.3 h.8 in let q = statement_long body (suc level) h.4 h.9 in omega arith
  statement_long (DoWhile body c) level ts h =
      let l = ap length h.15 in
      let b = begins_long level (outside h.0 ∷ h.5 ++ (outside h.1 ∷ outside h.2 ∷ full h.6 ++ outside h.3 ∷ outside h.4 ∷ [])) in
      let x = length-append h.5 (outside h.1 ∷ outside h.2 ∷ full h.6 ++ outside h.3 ∷ outside h.4 ∷ []) in
      let y = length-append (full h.6) (outside h.3 ∷ outside h.4 ∷ []) in
      let f = full_long h.6 0 in let p = expression_long c 1 h.6 h.14 in let q = statement_long body (suc level) h.5 h.12 in omega arith
  statement_long (For first c step body) level ts h =
      let l = ap length h.17 in
      let b = begins_long level (outside h.0 ∷ outside h.1 ∷ h.4 ++ (h.5 ++ (outside h.2 ∷ h.6 ++ outside h.3 ∷ h.7))) in
      let x = length-append h.4 (h.5 ++ (outside h.2 ∷ h.6 ++ outside h.3 ∷ h.7)) in
      let y = length-append h.5 (outside h.2 ∷ h.6 ++ outside h.3 ∷ h.7) in
      let z = length-append h.6 (outside h.3 ∷ h.7) in
      let p = beginning_long first (suc level) h.4 h.12 in
      let q = optional_long c h.5 h.13 in
      let r = optional_action_long step h.6 h.14 in let t = statement_long body (suc level) h.7 h.15 in omega arith

  statements_long : (ss : Stmts) (level : ℕ) (ts : List Measured) → SpellsStatements level ts ss → statements_tokens ss ≤ length ts
  statements_long end level ts h = omega arith
  statements_long (next s ss) level ts h =
      let l = ap length h.4 in let a = length-append h.0 h.1 in let p = statement_long s level h.0 h.2 in let q = statements_long ss level h.1 h.3 in omega arith

-- a definition has at least two tokens, its body's braces, in addition to those of the body's statements
pub definition_long : (f : Signature) (body : Stmts) (ts : List Measured) → SpellsExternal ts (Definition f body) → 2 + statements_tokens body ≤ length ts
definition_long f body ts h = let l = ap length h.5 in let a = length-append h.0 h.1 in let p = statement_long (Block body) 1 h.1 h.4 in omega arith
