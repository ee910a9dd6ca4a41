-- What names denote in the code, in terms of the definitions.
use Rattle.std.specs.Prelude.{ℕ, List, [], ◌∷◌, map, Option, Some, None}
use Rattle.std.specs.Borrow.{Bor}
use Rattle.cc_ast.specs.scalar.Scalar.TheVariants.{Int}
use Rattle.cc_ast.specs.Erase.{signature_tree}
use Rattle.cc_types.specs.Scope as scope
use Rattle.cc_types.specs.Scope.{Visible, function_entity}
use Rattle.cc_scope.specs.declared.entity.Entity.{Entity}
use Rattle.cc_scope.specs.declared.entity.Entity.TheVariants.{Variable, Elements, Function, WriteWord, ReadWord}

-- what an entity of the code denotes
abbrev pub entity_of : Entity → scope.Entity
entity_of (Variable t) = scope.Variable t
entity_of (Elements t) = scope.Elements t
entity_of (Function s) = function_entity (signature_tree s.now)
entity_of WriteWord = scope.Function None (Int ∷ [])
entity_of ReadWord = scope.Function (Some Int) []

abbrev pub optional_entity : Option Entity → Option scope.Entity
optional_entity None = None
optional_entity (Some e) = Some (entity_of e)

-- the bytes of some names
abbrev pub names_in : List (Bor (List ℕ)) → List (List ℕ)
names_in keys = map (λ (k : Bor (List ℕ)). k.now) keys
