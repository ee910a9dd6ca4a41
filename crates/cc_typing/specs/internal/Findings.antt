-- What the code has found so far.
use Rattle.std.specs.Prelude.{ℕ, ◌==◌, ◌&&◌, ◌||◌, ◌++◌, Bool, true, false, List, [], ◌∷◌, Option, Some, None, if◌then◌else◌, nat_lt}
use Rattle.cc_ast.specs.scalar.Scalar.{Scalar}
use Rattle.cc_ast.specs.Tree.{Name, Expr, Declarator}
use Rattle.cc_types.specs.Fault.{rule_number}
use Rattle.cc_typing.specs.internal.Functions.{Functions}
use Rattle.cc_types.specs.Rules.{undefined_among, Around, broken_if, optional_errors}
use Rattle.cc_types.specs.Scope.{Variable, Visible, in_scope, declared, is_declared}
use Rattle.cc_types.specs.declared.rule.Rule.TheVariants.{Redeclared}
use Rattle.cc_types.specs.declared.rule.RuleError.{RuleError}
use Rattle.cc_typing.specs.declared.around.Surroundings.{Surroundings}

-- whether the error `o` comes before the error `p`: by offset, then by number
abbrev pub is_before : RuleError → RuleError → Bool
is_before o p = nat_lt o.at p.at || (o.at == p.at && nat_lt (rule_number o.rule) (rule_number p.rule))

-- the earlier of two errors; the first one may be absent
abbrev pub earlier : Option RuleError → RuleError → RuleError
earlier None o = o
earlier (Some p) o = if is_before o p then o else p

-- the first error once these further errors are recorded
abbrev pub noted : Option RuleError → List RuleError → Option RuleError
noted first [] = first
noted first (o ∷ rest) = noted (Some (earlier first o)) rest

-- what has been found: the first error, the first call of a function that is not defined, and the defined functions
pub record Found : Type 0 where
  pub first : Option RuleError
  pub undefined : Option RuleError
  pub functions : Functions

-- what has been found after a part with these errors and these calls
abbrev pub after : Found → List RuleError → List Name → Found
after f errors calls = record f { first = noted f.first errors; undefined = noted f.undefined (undefined_among f.functions.defined calls) }

-- nothing has been found yet
abbrev pub nothing_found : Functions → Found
nothing_found functions = record { first = None; undefined = None; functions = functions }

-- what has been found, once more functions have been defined
abbrev pub with_before : Found → List (List ℕ) → Found
with_before f names = record f { functions = record { defined = f.functions.defined; before = names ++ f.functions.before } }

-- what surrounds a statement
abbrev pub around_of : Surroundings → Around
around_of a = record { result = a.result; in_loop = a.in_loop }

-- the errors of one name in a declaration of locals
abbrev pub declarator_errors : Scalar → Declarator → Visible → List RuleError
declarator_errors t d v =
    broken_if (is_declared v.inner d.name.text) Redeclared d.name.at ++ optional_errors (in_scope (declared d.name.text (Variable t) v)) d.initial

-- a return that has a value in a void function, or has none in another function
abbrev pub is_bad_return : Option Scalar → Option Expr → Bool
is_bad_return None None = false
is_bad_return None (Some e) = true
is_bad_return (Some t) None = true
is_bad_return (Some t) (Some e) = false

-- an array has no elements, or has fewer than its list has values
abbrev pub is_bad_length : Option ℕ → ℕ → Bool
is_bad_length None given = false
is_bad_length (Some n) given = n == 0 || nat_lt n given
