-- The code of a resolved function.
use Rattle.std.specs.Prelude.{◌≡◌, ℕ, List}
use Rattle.cc_ast.specs.Tree.{External}
use Rattle.cc_layout.specs.Layout.{layout_of}
use Rattle.cc_c_semantics.specs.Resolved.{IsResolved}
use Rattle.cc_cminor_language.specs.Cminor.{Statement}
use Rattle.cc_cminor.specs.internal.Lowering.{body_code}

-- the code of function f is that of its body, from the environment in which the body begins
abbrev pub IsLowered : List External → (f : ℕ) → Statement → Type 0
IsLowered unit f s = (r : IsResolved unit f) → s ≡ body_code (layout_of unit) r.environment r.body
