-- Finding the functions that external declarations define, one by one.
use Rattle.std.proofs.Common.{◌≡◌, ℕ, zero, suc, List, [], ◌∷◌, ◌++◌, length, map, slice_get, Some, refl, ap, ◌∙◌}
use Rattle.cc_ast.specs.Erase.{external_tree, external_trees}
use Rattle.cc_ast.specs.Tree as tree
use Rattle.cc_ast.specs.Tree.{Name, Object, Declaration, Definition, Objects}
use Rattle.cc_ast.specs.declared.ast.External.{External}
use Rattle.cc_types.specs.internal.Externals.{defines, objects_in}
use Rattle.cc_types.specs.Limits.{function_names, objects}
use Rattle.cc_types.specs.Typed.{definitions}

pub function_names-next : (e : tree.External) (rest : List tree.External) → function_names (e ∷ rest) ≡ defines e ++ function_names rest
function_names-next (Declaration s) rest = refl
function_names-next (Definition s body) rest = refl
function_names-next (Objects t os) rest = refl

pub objects-next : (e : tree.External) (rest : List tree.External) → objects (e ∷ rest) ≡ objects_in e ++ objects rest
objects-next (Declaration s) rest = refl
objects-next (Definition s body) rest = refl
objects-next (Objects t os) rest = refl

pub definitions-next : (e : tree.External) (rest : List tree.External) → definitions (e ∷ rest) ≡ definitions (e ∷ []) ++ definitions rest
definitions-next (Declaration s) rest = refl
definitions-next (Definition s body) rest = refl
definitions-next (Objects t os) rest = refl

pub definitions-none : (e : External) (left rest : List External) → left ≡ e ∷ rest → definitions (external_tree e ∷ []) ≡ [] → definitions (external_trees left) ≡ definitions (external_trees rest)
definitions-none e left rest el none =
    ap (λ es. definitions (external_trees es)) el ∙ definitions-next (external_tree e) (external_trees rest) ∙ ap (λ ds. ds ++ definitions (external_trees rest)) none

pub definitions-one : (e : External) (d : tree.External) (left rest : List External) → left ≡ e ∷ rest → definitions (external_tree e ∷ []) ≡ d ∷ [] → definitions (external_trees left) ≡ d ∷ definitions (external_trees rest)
definitions-one e d left rest el one =
    ap (λ es. definitions (external_trees es)) el ∙ definitions-next (external_tree e) (external_trees rest) ∙ ap (λ ds. ds ++ definitions (external_trees rest)) one

pub length-definitions : (es : List tree.External) → length (definitions es) ≡ length (map (λ (x : Name). x.text) (function_names es))
length-definitions [] = refl
length-definitions (Declaration s ∷ rest) = length-definitions rest
length-definitions (Definition s body ∷ rest) = ap suc (length-definitions rest)
length-definitions (Objects t os ∷ rest) = length-definitions rest

-- the definition with a number has the name with that number
pub named : (es : List tree.External) (n : ℕ) (s : tree.Signature) (body : tree.Stmts) → slice_get (definitions es) n ≡ Some (Definition s body) → slice_get (map (λ (x : Name). x.text) (function_names es)) n ≡ Some s.name.text
named [] n s body e = absurd cc
named (Declaration q ∷ rest) n s body e = named rest n s body e
named (Definition q other ∷ rest) zero s body e = let same : q ≡ s = cc in ap (λ (r : tree.Signature). Some r.name.text) same
named (Definition q other ∷ rest) (suc n) s body e = named rest n s body e
named (Objects t os ∷ rest) n s body e = named rest n s body e
