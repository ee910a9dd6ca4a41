-- The code's values as the definitions have them.
use Rattle.cc_ast.specs.Erase.{expression_tree, statements_of}
use Rattle.std.specs.Prelude.{List, drop}
use Rattle.cc_ast.specs.Tree.{Stmts}
use Rattle.cc_wide.specs.Places.{bare_statements}
use Rattle.cc_wide_check.specs.declared.statements.Reading.{Reading}
use Rattle.cc_ast.specs.declared.ast.Statement.{Statement}
use Rattle.cc_wide.specs.WideTree as wide
use Rattle.cc_wide.specs.Lowering as lowering
use Rattle.cc_wide_text.specs.Forms.{wide_statements, parts_of}
use Rattle.cc_wide_check.specs.declared.marks.Label.{Label}
use Rattle.cc_wide_check.specs.declared.marks.Label.TheVariants as labels
use Rattle.cc_wide_check.specs.declared.around.Around.{Around}
use Rattle.cc_wide_check.specs.declared.around.Around.TheVariants as around

-- a label
abbrev pub label_tree : Label → wide.Label
label_tree (labels.Case at e) = wide.Case (record { at = at; expr = expression_tree e.now })
label_tree labels.Default = wide.Default

-- what is around a statement
abbrev pub around_of : Around → lowering.Around
around_of around.Outside = lowering.Outside
around_of around.Loop = lowering.Loop
around_of (around.Caught c) = lowering.Caught c

-- marked statements
abbrev pub wide_of : List Statement → wide.WideStmts
wide_of all = wide_statements (statements_of all)

-- the sections of a marked block
abbrev pub sections_of : List Statement → wide.Sections
sections_of all = (parts_of (wide_of all)).sections

-- the bare statements of the section that has begun, those that have not been compared
abbrev pub left : Reading → Stmts
left r = bare_statements (statements_of (drop r.done r.body.now))

-- the bare sections that have not begun
abbrev pub sections_left : Reading → List Statement → Stmts
sections_left r ifs = bare_statements (statements_of (drop r.next ifs))
