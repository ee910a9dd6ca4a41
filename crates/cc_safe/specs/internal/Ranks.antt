-- The ranks that a table gives to functions.
use Rattle.std.specs.Prelude.{ℕ, ◌<◌, List, [], ◌∷◌, get_or}
use Rattle.cc_ast.specs.Erase.{statements_of}
use Rattle.cc_ast.specs.declared.ast.External.{External}
use Rattle.cc_ast.specs.declared.ast.External.TheVariants.{Declaration, Definition, Objects}
use Rattle.cc_layout.specs.Layout.{Layout, names_before}
use Rattle.cc_depth.specs.Cycles.{InStatements}

-- the rank of the function with a name: the table's entry for the function's number; 0 if the unit does not define it
abbrev pub rank_by : Layout → (table : List ℕ) → List ℕ → ℕ
rank_by layout table g = get_or table (names_before layout.functions g) 0

-- if the declaration defines a function, that function calls only functions of lower ranks
abbrev pub FallsIn : (rank : List ℕ → ℕ) → External → Type 0
FallsIn rank (Definition s body) = InStatements (λ g. rank g < rank s.name.bytes.items) (statements_of body.items)
FallsIn rank (Declaration s) = Unit {0}
FallsIn rank (Objects t os) = Unit {0}

-- each function that these declarations define calls only functions of lower ranks
abbrev pub AllFall : (rank : List ℕ → ℕ) → List External → Type 0
AllFall rank [] = Unit {0}
AllFall rank (e ∷ es) = FallsIn rank e × AllFall rank es
