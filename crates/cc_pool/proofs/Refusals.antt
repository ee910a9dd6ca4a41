-- A refusal names a function of a program's text: what `compile_function_in` says about the tree of a checked unit is true of
-- the unit's text.
use Rattle.std.proofs.Common.{◌≡◌, ℕ, suc, ◌<◌, List, [], ◌∷◌, length, map, refl, ap, subst}
use Rattle.std.proofs.Math.Logic.{∥∥₁_map}
use Rattle.cc_ast.specs.Tree.{Name, External, Source, Declaration, Definition, Objects}
use Rattle.cc_ast.specs.Parse.{SpellsText}
use Rattle.cc_types.specs.Scope.{FileScope, first_file_scope, file_scope_behind}
use Rattle.cc_types.specs.Limits.{function_names}
use Rattle.cc_types.specs.Typed.{IsTyped, IsWithinLimits, defined_names}
use Rattle.cc_link.specs.Meaning.{functions, functions_from}
use Rattle.cc_c_semantics.specs.declared.mode.Mode.{Mode}
use Rattle.cc_link.specs.Compile.{IsBlamedIn, IsPieceRefusalIn}
use Rattle.cc_link.specs.declared.piece_fault.PieceFault.{PieceFault}

-- ---- the functions of a source

names_long : (es : List External) (f : FileScope) → length (map (λ (x : Name). x.text) (function_names es)) ≡ length (functions_from es f)
names_long [] f = refl
names_long (Declaration s ∷ es) f = names_long es (file_scope_behind (Declaration s) f)
names_long (Definition s b ∷ es) f = ap suc (names_long es (file_scope_behind (Definition s b) f))
names_long (Objects t os ∷ es) f = names_long es (file_scope_behind (Objects t os) f)

defined_long : (s : Source) → length (defined_names s) ≡ length (functions s.externals)
defined_long s = names_long s.externals first_file_scope

pub blames : (mode : Mode) (s : Source) (function : ℕ) (fault : PieceFault) → ∥ SpellsText s.text s.externals ∥₁ → IsTyped s.externals → IsWithinLimits s.externals → function < length (defined_names s)
    → IsPieceRefusalIn mode s.externals function fault → ∥ IsBlamedIn mode s.text function fault ∥₁
blames mode s function fault spelled typed limits within refused =
    ∥∥₁_map spelled (λ (h : SpellsText s.text s.externals). record {
      tree = s.externals;
      is = record { spelled = h; typed = typed; limits = limits };
      defined = subst (λ n. function < n) (defined_long s) within;
      refused = refused;
    })
