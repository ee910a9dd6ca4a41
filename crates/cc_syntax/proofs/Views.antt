-- What the views of the parser's stacks and lists are after a push and before a pop.
use Rattle.std.proofs.Common.{◌≡◌, List, [], ◌∷◌, ◌++◌, map, reverse, ap, ◌∙◌, refl}
use Rattle.std.proofs.lemmas.List.{map-append, reverse-append}
use Rattle.cc_ast.specs.Tree.{next, more}
use Rattle.cc_ast.specs.Erase.{statement_tree, statements_of, expression_tree, declarator_tree, declarator_trees, object_tree, object_trees, constant_tree, constant_trees, parameter_tree, parameter_trees, external_tree, external_trees}
use Rattle.cc_ast.specs.internal.Arguments.{expressions_of}
use Rattle.cc_ast.specs.declared.ast.Statement.{Statement}
use Rattle.cc_ast.specs.declared.ast.Expression.{Expression}
use Rattle.cc_ast.specs.declared.ast.Declarator.{Declarator}
use Rattle.cc_ast.specs.declared.ast.Object.{Object}
use Rattle.cc_ast.specs.declared.ast.ConstantExpression.{ConstantExpression}
use Rattle.cc_ast.specs.declared.ast.Parameter.{Parameter}
use Rattle.cc_ast.specs.declared.ast.External.{External}
use Rattle.cc_syntax.specs.declared.parser.state.Waiting as waiting
use Rattle.cc_syntax.specs.declared.parser.state.Open as open_statement
use Rattle.cc_syntax.specs.internal.Parser.{with_last, with_argument}
use Rattle.cc_syntax.specs.internal.ParserView.{waiting_view, waiting_views, open_view, open_views}

reversed-push : {A B : Type 0} (f : A → B) (xs : List A) (x : A) → reverse (map f (xs ++ x ∷ [])) ≡ f x ∷ reverse (map f xs)
reversed-push f xs x = ap reverse (map-append f xs (x ∷ [])) ∙ reverse-append (map f xs) (f x ∷ [])

pub waiting_views-push : (ws : List waiting.Waiting) (w : waiting.Waiting) → waiting_views (ws ++ w ∷ []) ≡ waiting_view w ∷ waiting_views ws
waiting_views-push ws w = reversed-push waiting_view ws w

pub open_views-push : (os : List open_statement.Open) (o : open_statement.Open) → open_views (os ++ o ∷ []) ≡ open_view o ∷ open_views os
open_views-push os o = reversed-push open_view os o

pub declarator_trees-push : (ds : List Declarator) (d : Declarator) → declarator_trees (ds ++ d ∷ []) ≡ declarator_trees ds ++ declarator_tree d ∷ []
declarator_trees-push ds d = map-append declarator_tree ds (d ∷ [])

pub object_trees-push : (os : List Object) (o : Object) → object_trees (os ++ o ∷ []) ≡ object_trees os ++ object_tree o ∷ []
object_trees-push os o = map-append object_tree os (o ∷ [])

pub constant_trees-push : (cs : List ConstantExpression) (c : ConstantExpression) → constant_trees (cs ++ c ∷ []) ≡ constant_trees cs ++ constant_tree c ∷ []
constant_trees-push cs c = map-append constant_tree cs (c ∷ [])

pub parameter_trees-push : (ps : List Parameter) (p : Parameter) → parameter_trees (ps ++ p ∷ []) ≡ parameter_trees ps ++ parameter_tree p ∷ []
parameter_trees-push ps p = map-append parameter_tree ps (p ∷ [])

pub external_trees-push : (es : List External) (e : External) → external_trees (es ++ e ∷ []) ≡ external_trees es ++ external_tree e ∷ []
external_trees-push es e = map-append external_tree es (e ∷ [])

pub statements_of-push : (ss : List Statement) (s : Statement) → statements_of (ss ++ s ∷ []) ≡ with_last (statements_of ss) (statement_tree s)
statements_of-push [] s = refl
statements_of-push (first ∷ others) s = ap (λ r. next (statement_tree first) r) (statements_of-push others s)

pub expressions_of-push : (es : List Expression) (e : Expression) → expressions_of (es ++ e ∷ []) ≡ with_argument (expressions_of es) (expression_tree e)
expressions_of-push [] e = refl
expressions_of-push (first ∷ others) e = ap (λ r. more (expression_tree first) r) (expressions_of-push others e)
