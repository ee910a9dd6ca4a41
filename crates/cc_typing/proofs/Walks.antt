-- What the walk over statements finds, part by part.
use Rattle.std.proofs.Common.{◌≡◌, ℕ, ◌+◌, ◌≤◌, List, [], ◌∷◌, ◌++◌, length, length-append, take, drop, Option, Some, None, refl, sym, ap, ◌∙◌, append_assoc, arith}
use Rattle.std.proofs.Math.Seq.{take-append_seam, drop-append_seam}
use Rattle.cc_ast.specs.scalar.Scalar.{Scalar}
use Rattle.cc_ast.specs.Tree as tree
use Rattle.cc_ast.specs.Tree.{Expr, Declarator, Beginning, Action, Stmt, Stmts, next, If, IfElse, While, DoWhile, For, Declares, Performs}
use Rattle.cc_scope.specs.Bindings.{closed}
use Rattle.cc_typing.specs.internal.Findings.{Found, after, declarator_errors, is_bad_return}
use Rattle.cc_types.specs.Scope.{Variable, Binding, Visible, in_scope, opened, declared, is_declared, all_declared, scope_behind, scope_behind_beginning}
use Rattle.cc_types.specs.Rules.{broken_if, Around, within_loop, value_errors, optional_errors, optional_action_errors, declared_errors, beginning_errors, return_errors, statement_errors, statements_errors, called_in, called_in_optional, called_in_optional_action, called_in_declared, called_in_beginning, called_in_statement, called_in_statements}
use Rattle.cc_types.specs.declared.rule.RuleError.{RuleError}
use Rattle.cc_types.specs.declared.rule.Rule.TheVariants.{Redeclared, BadReturn}
use Rattle.cc_typing.proofs.Parts as parts
use Rattle.cc_typing.proofs.Parts.{two, three}

-- ---- scopes

-- what is declared in the innermost scope does not change the scopes around it
pub all_declared_outer : (t : Scalar) (ds : List Declarator) (v : Visible) → (all_declared t ds v).outer ≡ v.outer
all_declared_outer t [] v = refl
all_declared_outer t (d ∷ ds) v = all_declared_outer t ds (declared d.name.text (Variable t) v)

pub scope_behind_outer : (s : Stmt) (v : Visible) → (scope_behind s v).outer ≡ v.outer
scope_behind_outer (tree.Block all) v = refl
scope_behind_outer (tree.Local t ds) v = all_declared_outer t ds v
scope_behind_outer (tree.Perform a) v = refl
scope_behind_outer (tree.Return at e) v = refl
scope_behind_outer (tree.Break at) v = refl
scope_behind_outer (tree.Continue at) v = refl
scope_behind_outer (If c s) v = refl
scope_behind_outer (IfElse c s r) v = refl
scope_behind_outer (While c s) v = refl
scope_behind_outer (DoWhile s c) v = refl
scope_behind_outer (For start c behind s) v = refl

pub scope_behind_beginning_outer : (s : Beginning) (v : Visible) → (scope_behind_beginning s v).outer ≡ v.outer
scope_behind_beginning_outer (Declares t ds) v = all_declared_outer t ds v
scope_behind_beginning_outer (Performs a) v = refl

-- after an inner scope is closed, the scope around it is as before
closed_opened : (s v : Visible) → v.outer ≡ in_scope s → closed (length s.inner) v ≡ s
closed_opened s v e i = record {
  inner = (ap (take (length s.inner)) e ∙ take-append_seam s.inner s.outer) i;
  outer = (ap (drop (length s.inner)) e ∙ drop-append_seam s.inner s.outer) i;
}

pub closes : (s v : Visible) (around : ℕ) → v.outer ≡ in_scope s → around ≡ length s.inner → around ≤ length v.outer
closes s v around e n = let k : length v.outer ≡ length s.inner + length s.outer = ap length e ∙ length-append s.inner s.outer in omega arith

pub closed-is : (s v w : Visible) (around : ℕ) → v.outer ≡ in_scope s → around ≡ length s.inner → w ≡ closed around v → w ≡ s
closed-is s v w around e n ew = ew ∙ ap (λ k. closed k v) n ∙ closed_opened s v e

-- ---- declarations

-- after some names in a declaration, what was found and what is left to find are together what the whole
-- declaration yields
pub record Declaring (t : Scalar) (v0 : Visible) (f0 : Found) (all : List Declarator) (v : Visible) (f : Found) (rest : List Declarator) : Type 0 where
  pub scope : all_declared t rest v ≡ all_declared t all v0
  pub found : after f (declared_errors t rest v) (called_in_declared rest) ≡ after f0 (declared_errors t all v0) (called_in_declared all)

pub Declaring-next : (t : Scalar) (v0 : Visible) (f0 : Found) (all : List Declarator) (v : Visible) (f : Found) (d : Declarator) (rest : List Declarator) (v' : Visible) (f' : Found)
    → Declaring t v0 f0 all v f (d ∷ rest) → v' ≡ declared d.name.text (Variable t) v → f' ≡ after f (declarator_errors t d v) (called_in_optional d.initial)
    → Declaring t v0 f0 all v' f' rest
Declaring-next t v0 f0 all v f d rest v' f' before es ef = record {
  scope = ap (all_declared t rest) es ∙ before.scope;
  found =
      let there = declared d.name.text (Variable t) v in
      ap (λ u. after f' (declared_errors t rest u) (called_in_declared rest)) es
      ∙ parts.next f f' _ (declarator_errors t d v) (declared_errors t rest there) (declared_errors t (d ∷ rest) v)
      (called_in_optional d.initial) (called_in_declared rest) (called_in_declared (d ∷ rest)) before.found
      (sym (append_assoc (broken_if (is_declared v.inner d.name.text) Redeclared d.name.at) (optional_errors (in_scope there) d.initial) (declared_errors t rest there)))
      refl ef;
}

-- ---- statements

-- the code finds exactly the errors of a return
pub return-is : (r : Option Scalar) (bs : List Binding) (at : ℕ) (e : Option Expr) → return_errors r bs at e ≡ broken_if (is_bad_return r e) BadReturn at ++ optional_errors bs e
return-is None bs at None = refl
return-is None bs at (Some e) = refl
return-is (Some t) bs at None = refl
return-is (Some t) bs at (Some e) = refl

-- what is found in four parts, one after another, is what is found in all four together
four : (f g h k m : Found) (xs ys zs ws os : List RuleError) (cs ds es gs all : List tree.Name) → g ≡ after f xs cs → h ≡ after g ys ds → k ≡ after h zs es → m ≡ after k ws gs
    → os ≡ xs ++ (ys ++ (zs ++ ws)) → all ≡ cs ++ (ds ++ (es ++ gs)) → m ≡ after f os all
four f g h k m xs ys zs ws os cs ds es gs all eg eh ek em eo ee =
    two f g m xs (ys ++ (zs ++ ws)) os cs (ds ++ (es ++ gs)) all eg (three g h k m ys zs ws (ys ++ (zs ++ ws)) ds es gs (ds ++ (es ++ gs)) eh ek em refl refl) eo ee

module _ (a : Around) (v : Visible) (t : Stmt) (f : Found) where
  abbrev inside : Stmt → List RuleError
  inside s = statement_errors s a (opened v)

  abbrev looped : Stmt → List RuleError
  looped s = statement_errors s (within_loop a) (opened v)

  abbrev tested : Expr → List RuleError
  tested e = value_errors (in_scope v) e

  pub if-found : (g h : Found) (c : Expr) (b body : Stmt) → t ≡ If c b → body ≡ b → g ≡ after f (tested c) (called_in c) → h ≡ after g (inside body) (called_in_statement body)
      → h ≡ after f (statement_errors t a v) (called_in_statement t)
  if-found g h c b body is eb eg eh =
      two f g h (tested c) (inside body) _ (called_in c) (called_in_statement body) _ eg eh
      (ap (λ u. statement_errors u a v) is ∙ ap (λ u. tested c ++ inside u) (sym eb)) (ap called_in_statement is ∙ ap (λ u. called_in c ++ called_in_statement u) (sym eb))

  pub if_else-found : (g h k : Found) (c : Expr) (b r body other : Stmt) → t ≡ IfElse c b r → body ≡ b → other ≡ r
      → g ≡ after f (tested c) (called_in c) → h ≡ after g (inside body) (called_in_statement body) → k ≡ after h (inside other) (called_in_statement other)
      → k ≡ after f (statement_errors t a v) (called_in_statement t)
  if_else-found g h k c b r body other is eb er eg eh ek =
      three f g h k (tested c) (inside body) (inside other) _ (called_in c) (called_in_statement body) (called_in_statement other) _ eg eh ek
      (ap (λ u. statement_errors u a v) is ∙ ap (λ u. tested c ++ (inside u ++ inside r)) (sym eb) ∙ ap (λ u. tested c ++ (inside body ++ inside u)) (sym er))
      (ap called_in_statement is ∙ ap (λ u. called_in c ++ (called_in_statement u ++ called_in_statement r)) (sym eb) ∙ ap (λ u. called_in c ++ (called_in_statement body ++ called_in_statement u)) (sym er))

  pub while-found : (w : Around) → w ≡ within_loop a → (g h : Found) (c : Expr) (b body : Stmt) → t ≡ While c b → body ≡ b
      → g ≡ after f (tested c) (called_in c) → h ≡ after g (statement_errors body w (opened v)) (called_in_statement body)
      → h ≡ after f (statement_errors t a v) (called_in_statement t)
  while-found w ew g h c b body is eb eg eh =
      two f g h (tested c) (looped body) _ (called_in c) (called_in_statement body) _ eg (eh ∙ ap (λ u. after g (statement_errors body u (opened v)) (called_in_statement body)) ew)
      (ap (λ u. statement_errors u a v) is ∙ ap (λ u. tested c ++ looped u) (sym eb)) (ap called_in_statement is ∙ ap (λ u. called_in c ++ called_in_statement u) (sym eb))

  pub do_while-found : (w : Around) → w ≡ within_loop a → (g h : Found) (c : Expr) (b body : Stmt) → t ≡ DoWhile b c → body ≡ b
      → g ≡ after f (statement_errors body w (opened v)) (called_in_statement body) → h ≡ after g (tested c) (called_in c)
      → h ≡ after f (statement_errors t a v) (called_in_statement t)
  do_while-found w ew g h c b body is eb eg eh =
      two f g h (looped body) (tested c) _ (called_in_statement body) (called_in c) _ (eg ∙ ap (λ u. after f (statement_errors body u (opened v)) (called_in_statement body)) ew) eh
      (ap (λ u. statement_errors u a v) is ∙ ap (λ u. looped u ++ tested c) (sym eb)) (ap called_in_statement is ∙ ap (λ u. called_in_statement u ++ called_in c) (sym eb))

  -- what is found in the parts of a `for`, one after another, is what is found in the whole `for`; `u` is the
  -- scope that its header opens, and `n` the scope after the header's first part
  pub for-found : (w : Around) → w ≡ within_loop a → (u n : Visible) → u ≡ opened v → (g h k m : Found) (start : Beginning) (c : Option Expr) (behind : Option Action) (b body : Stmt)
      → t ≡ For start c behind b → body ≡ b → n ≡ scope_behind_beginning start u
      → g ≡ after f (beginning_errors start u) (called_in_beginning start) → h ≡ after g (optional_errors (in_scope n) c) (called_in_optional c)
      → k ≡ after h (optional_action_errors (in_scope n) behind) (called_in_optional_action behind) → m ≡ after k (statement_errors body w (opened n)) (called_in_statement body)
      → m ≡ after f (statement_errors t a v) (called_in_statement t)
  for-found w ew u n eu g h k m start c behind b body is eb en eg eh ek em =
      let there : n ≡ scope_behind_beginning start (opened v) = en ∙ ap (scope_behind_beginning start) eu in
      four f g h k m (beginning_errors start u) (optional_errors (in_scope n) c) (optional_action_errors (in_scope n) behind) (statement_errors body w (opened n)) _
      (called_in_beginning start) (called_in_optional c) (called_in_optional_action behind) (called_in_statement body) _ eg eh ek em
      (ap (λ q. statement_errors q a v) is
      ∙ ap (λ q. beginning_errors start (opened v) ++ (optional_errors (in_scope q) c ++ (optional_action_errors (in_scope q) behind ++ statement_errors b (within_loop a) (opened q)))) (sym there)
      ∙ ap (λ q. beginning_errors start q ++ (optional_errors (in_scope n) c ++ (optional_action_errors (in_scope n) behind ++ statement_errors b (within_loop a) (opened n)))) (sym eu)
      ∙ ap (λ q. beginning_errors start u ++ (optional_errors (in_scope n) c ++ (optional_action_errors (in_scope n) behind ++ statement_errors q (within_loop a) (opened n)))) (sym eb)
      ∙ ap (λ q. beginning_errors start u ++ (optional_errors (in_scope n) c ++ (optional_action_errors (in_scope n) behind ++ statement_errors body q (opened n)))) (sym ew))
      (ap called_in_statement is ∙ ap (λ q. called_in_beginning start ++ (called_in_optional c ++ (called_in_optional_action behind ++ called_in_statement q))) (sym eb))

-- after some statements of a list, what was found and what is left to find are together what the whole list
-- yields
pub record Walking (a : Around) (v0 : Visible) (f0 : Found) (all : Stmts) (v : Visible) (f : Found) (rest : Stmts) : Type 0 where
  pub outer : v.outer ≡ v0.outer
  pub found : after f (statements_errors rest a v) (called_in_statements rest) ≡ after f0 (statements_errors all a v0) (called_in_statements all)

pub Walking-next : (a : Around) (v0 : Visible) (f0 : Found) (all : Stmts) (v : Visible) (f : Found) (s : Stmt) (rest : Stmts) (v' : Visible) (f' : Found)
    → Walking a v0 f0 all v f (next s rest) → v' ≡ scope_behind s v → f' ≡ after f (statement_errors s a v) (called_in_statement s)
    → Walking a v0 f0 all v' f' rest
Walking-next a v0 f0 all v f s rest v' f' before es ef = record {
  outer = ap (λ (u : Visible). u.outer) es ∙ scope_behind_outer s v ∙ before.outer;
  found =
      ap (λ u. after f' (statements_errors rest a u) (called_in_statements rest)) es
      ∙ parts.next f f' _ (statement_errors s a v) (statements_errors rest a (scope_behind s v)) (statements_errors (next s rest) a v)
      (called_in_statement s) (called_in_statements rest) (called_in_statements (next s rest)) before.found refl refl ef;
}
