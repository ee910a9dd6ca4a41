-- The effect of one turn of each of the parser's loops.
use Rattle.std.proofs.Common.{◌≡◌, Bool, true, false, ◌&&◌, List, [], ◌∷◌, ◌++◌, Option, Some, None, is_some, ap, ◌∙◌, sym, refl}
use Rattle.std.specs.List.{list_all}
use Rattle.std.specs.Option.{option_map}
use Rattle.cc_ast.specs.Tree.{Expr, Beginning, Action, Stmt, Stmts, If, IfElse, While, For}
use Rattle.cc_ast.specs.Erase.{name_tree, parameter_trees}
use Rattle.cc_ast.specs.declared.ast.Identifier.{Identifier}
use Rattle.cc_ast.specs.declared.ast.Parameter.{Parameter}
use Rattle.cc_syntax.specs.declared.parser.state.Open as open_statement
use Rattle.cc_syntax.specs.internal.Parser.{Open, InBlock, InThen, InElse, InWhile, InDo, InFor, Inside, Stage, Item, with_last, inside_of, settled, all_named}
use Rattle.cc_syntax.specs.internal.ParserView.{open_view, open_views}
use Rattle.cc_syntax.proofs.Views.{open_views-push}

named-tree : (n : Option Identifier) → is_some (option_map name_tree n) ≡ is_some n
named-tree None = refl
named-tree (Some n) = refl

-- a parameter has a name in the tree exactly if it has one in the code
pub all_named-trees : (ps : List Parameter) → all_named (parameter_trees ps) ≡ list_all (λ p. is_some p.name) ps
all_named-trees [] = refl
all_named-trees (p ∷ ps) =
    ap (λ (b : Bool). b && all_named (parameter_trees ps)) (named-tree p.name)
    ∙ ap (λ (b : Bool). is_some p.name && b) (all_named-trees ps)

-- the last open statement in the code is the first one in the view
pub open_views-last : (xs os : List open_statement.Open) (o : open_statement.Open) (v : Open) → xs ≡ os ++ o ∷ [] → open_view o ≡ v → open_views xs ≡ v ∷ open_views os
open_views-last xs os o v e d = ap open_views e ∙ open_views-push os o ∙ ap (λ (u : Open). u ∷ open_views os) d

-- `settled` does not depend on the open statements of the body itself
pub settled-inside : (w : Bool) (b : Inside) (x os : List Open) (s : Stmt) → settled w b os s ≡ settled w (inside_of b b.finished x) os s
settled-inside w b x [] s = refl
settled-inside w b x (InBlock ss ∷ os) s = refl
settled-inside true b x (InThen e ∷ os) s = refl
settled-inside false b x (InThen e ∷ os) s = settled-inside false b x os (If e s)
settled-inside w b x (InElse e t ∷ os) s = settled-inside w b x os (IfElse e t s)
settled-inside w b x (InWhile e ∷ os) s = settled-inside w b x os (While e s)
settled-inside w b x (InDo ∷ os) s = refl
settled-inside w b x (InFor a e l ∷ os) s = settled-inside w b x os (For a e l s)

-- a complete statement goes into the innermost block
pub settled-block : (w : Bool) (b : Inside) (xs os : List open_statement.Open) (o : open_statement.Open) (s : Stmt) (ss rr : Stmts) (r : Inside) → xs ≡ os ++ o ∷ [] → open_view o ≡ InBlock ss → rr ≡ with_last ss s → r ≡ inside_of b b.finished (InBlock rr ∷ open_views os) → settled w b (open_views xs) s ≡ (r, Item)
settled-block w b xs os o s ss rr r e d f g =
    ap (λ (v : List Open). settled w b v s) (open_views-last xs os o (InBlock ss) e d)
    ∙ ap (λ (u : Stmts). let p : Inside × Stage = (inside_of b b.finished (InBlock u ∷ open_views os), Item) in p) (sym f)
    ∙ ap (λ (u : Inside). let p : Inside × Stage = (u, Item) in p) (sym g)

-- a complete statement ends the part after `else`
pub settled-else : (w : Bool) (b : Inside) (xs os : List open_statement.Open) (o : open_statement.Open) (s : Stmt) (c : Expr) (t r : Stmt) → xs ≡ os ++ o ∷ [] → open_view o ≡ InElse c t → r ≡ IfElse c t s → settled w b (open_views xs) s ≡ settled w b (open_views os) r
settled-else w b xs os o s c t r e d f =
    ap (λ (v : List Open). settled w b v s) (open_views-last xs os o (InElse c t) e d)
    ∙ ap (λ (u : Stmt). settled w b (open_views os) u) (sym f)

-- a complete statement ends the body of a `for`
pub settled-for : (w : Bool) (b : Inside) (xs os : List open_statement.Open) (o : open_statement.Open) (s : Stmt) (a : Beginning) (c : Option Expr) (l : Option Action) (r : Stmt) → xs ≡ os ++ o ∷ [] → open_view o ≡ InFor a c l → r ≡ For a c l s → settled w b (open_views xs) s ≡ settled w b (open_views os) r
settled-for w b xs os o s a c l r e d f =
    ap (λ (v : List Open). settled w b v s) (open_views-last xs os o (InFor a c l) e d)
    ∙ ap (λ (u : Stmt). settled w b (open_views os) u) (sym f)

-- if no statement is open, a complete statement is the latest one of the function's body
pub settled-finished : (w : Bool) (b : Inside) (xs os : List open_statement.Open) (s : Stmt) (r : Inside) → xs ≡ [] → os ≡ [] → r ≡ inside_of b (with_last b.finished s) (open_views os) → settled w b (open_views xs) s ≡ (r, Item)
settled-finished w b xs os s r e d g =
    ap (λ (v : List open_statement.Open). settled w b (open_views v) s) e
    ∙ ap (λ (v : List open_statement.Open). let p : Inside × Stage = (inside_of b (with_last b.finished s) (open_views v), Item) in p) (sym d)
    ∙ ap (λ (u : Inside). let p : Inside × Stage = (u, Item) in p) (sym g)
