-- Which marked statements are switches.
use Rattle.std.specs.Prelude.{Bool, true, false, ◌&&◌, is_some}
use Rattle.cc_ast.specs.Tree.{Expr, Stmt, Stmts, end, next, Block, While}
use Rattle.cc_wide_text.specs.Marks.{switch_mark}
use Rattle.cc_wide_text.specs.Forms.{is_name, label_of, wide_statement}

-- the list is empty or begins with a label
abbrev pub begins : Stmts → Bool
begins end = true
begins (next s rest) = is_some (label_of (wide_statement s))

abbrev pub begins_block : Stmt → Bool
begins_block (Block all) = begins all
begins_block s = false

abbrev pub begins_while : Stmt → Bool
begins_while (While e s) = begins_block s
begins_while s = false

-- `while ( __switch ) while ( e ) { .. }`, with the parts of the first `while`
abbrev pub is_switch : Expr → Stmt → Bool
is_switch c s = is_name switch_mark c && begins_while s
