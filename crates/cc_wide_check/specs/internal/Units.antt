-- Tests for the parts of a unit, and for the hidden locals of a body.
use Rattle.std.specs.Prelude.{ℕ, ◌-◌, nat_lt, Bool, true, false, not, ◌&&◌, is_none, if◌then◌else◌, List, [], ◌∷◌, length}
use Rattle.std.specs.Cmp.Lexicographic.{pointwise}
use Rattle.cc_ast.specs.scalar.Scalar.TheVariants.{Unsigned}
use Rattle.cc_ast.specs.Tree as tree
use Rattle.cc_ast.specs.Tree.{Declarator, Parameter, Stmt, Stmts, External}
use Rattle.cc_wide.specs.Places.{name_only, bare_statements, bare_signature, bare_object}
use Rattle.std.specs.Prelude.{map, option_map}
use Rattle.cc_wide.specs.WideTree.{WideStmts, WideExternal, Declaration, Definition, Objects}
use Rattle.cc_wide.specs.Lowering.{Outside, hidden, all_lowered}
use Rattle.cc_wide_check.specs.internal.Equal.{equal_scalar, equal_name, equal_statements, equal_signature, equal_object}
use Rattle.cc_wide_check.specs.internal.Lowers.{all_lower, are_shallow}

abbrev pub bare_parameter : Parameter → Parameter
bare_parameter p = record { scalar = p.scalar; name = option_map name_only p.name }

-- the declarators are the hidden locals, as many as these are
abbrev pub are_hidden : List Declarator → Bool
are_hidden [] = true
are_hidden (d ∷ rest) = (equal_name d.name (hidden (length rest)) && is_none d.initial) && are_hidden rest

-- the statements have n switches inside one another, one of them at least
abbrev pub is_nesting : (n : ℕ) → WideStmts → Bool
is_nesting n all = nat_lt 0 n && (are_shallow n all && not (are_shallow (n - 1) all))

-- the statements may be lowered with n hidden locals, and become these bare ones
abbrev pub fit_with : (n : ℕ) → WideStmts → Stmts → Bool
fit_with n all body = all_lower n Outside 0 all && equal_statements body (bare_statements (all_lowered Outside 0 all))

-- the same with a declaration of the hidden locals first
abbrev pub fit_after : WideStmts → Stmt → Stmts → Bool
fit_after all (tree.Local t ds) rest = equal_scalar t Unsigned && (are_hidden ds && (is_nesting (length ds) all && fit_with (length ds) all rest))
fit_after all s rest = false

abbrev pub fit_declared : WideStmts → Stmts → Bool
fit_declared all tree.end = false
fit_declared all (tree.next s rest) = fit_after all s rest

-- the statements of a body may be lowered, and become these bare ones
abbrev pub body_fits : WideStmts → Stmts → Bool
body_fits all body = if are_shallow 0 all then fit_with 0 all body else fit_declared all body

-- an external declaration may be lowered, and becomes this bare one
abbrev pub external_fits : WideExternal → External → Bool
external_fits (Declaration s) (tree.Declaration t) = equal_signature t (bare_signature s)
external_fits (Definition s all) (tree.Definition t body) = equal_signature t (bare_signature s) && body_fits all body
external_fits (Objects t os) (tree.Objects u ps) = equal_scalar u t && pointwise equal_object ps (map bare_object os)
external_fits w e = false

abbrev pub unit_fits : List WideExternal → List External → Bool
unit_fits unit externals = pointwise external_fits unit externals
