-- What an external declaration defines, and what it declares.
use Rattle.std.specs.Prelude.{ℕ, List, [], ◌∷◌}
use Rattle.cc_ast.specs.Tree.{Name, Object, External, Declaration, Definition, Objects}

-- the function that an external declaration defines, if it defines one, and the objects that it declares
abbrev pub defines : External → List Name
defines (Declaration s) = []
defines (Definition s body) = s.name ∷ []
defines (Objects t os) = []

abbrev pub objects_in : External → List Object
objects_in (Declaration s) = []
objects_in (Definition s body) = []
objects_in (Objects t os) = os

-- the name of the function that an external declaration defines, if it defines one
abbrev pub defined_in : External → List (List ℕ)
defined_in (Declaration s) = []
defined_in (Definition s body) = s.name.text ∷ []
defined_in (Objects t os) = []
