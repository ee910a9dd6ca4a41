-- What the names of file scope refer to. The objects form one list of words, one object after another, and a word's number is its
-- offset in that list. The functions are numbered in the order of their definitions.
use Rattle.std.specs.Prelude.{ℕ, suc, ◌+◌, List, [], ◌∷◌, ◌++◌, map, Option, Some, None, if◌then◌else◌, option_map, codes}
use Rattle.cc_words.specs.declared.operators.Width.TheVariants.{Word}
use Rattle.cc_ast.specs.Tree.{Name, Object, External}
use Rattle.cc_types.specs.Names.{same_name}
use Rattle.cc_types.specs.Types.{object_elements, object_width, initial_words}
use Rattle.cc_types.specs.Limits.{objects, object_name, function_names}
use Rattle.cc_layout.specs.declared.layout.Extent.{Extent}
use Rattle.cc_layout.specs.declared.layout.Callee.{Callee}
use Rattle.cc_layout.specs.declared.layout.Callee.TheVariants.{WriteWord, ReadWord, Defined}

-- an object at file scope: its name, and where its words are
pub record LaidObject : Type 0 where
  pub name : List ℕ
  pub extent : Extent

-- the objects, with the first one at this offset
abbrev pub laid_from : ℕ → List Object → List LaidObject
laid_from at [] = []
laid_from at (o ∷ rest) =
    record { name = (object_name o).text; extent = record { offset = at; length = object_elements o; width = object_width o } } ∷ laid_from (at + object_elements o) rest

-- where the words of the named object are
abbrev pub extent_of : List LaidObject → List ℕ → Extent
extent_of [] x = record { offset = 0; length = 0; width = Word }
extent_of (p ∷ rest) x = if same_name p.name x then p.extent else extent_of rest x

-- the number of the named object, if there is one: how many objects precede it
abbrev pub object_number : List LaidObject → List ℕ → Option ℕ
object_number [] x = None
object_number (p ∷ rest) x = if same_name p.name x then Some 0 else option_map suc (object_number rest x)

-- how many names precede the first place of a name
abbrev pub names_before : List (List ℕ) → List ℕ → ℕ
names_before [] x = 0
names_before (y ∷ rest) x = if same_name y x then 0 else 1 + names_before rest x

-- what a unit has at file scope: its objects, and the names of its functions in the order of their definitions
pub record Layout : Type 0 where
  pub objects : List LaidObject
  pub functions : List (List ℕ)

-- the layout of a unit
abbrev pub layout_of : List External → Layout
layout_of externals = record { objects = laid_from 0 (objects externals); functions = map (λ (x : Name). x.text) (function_names externals) }

-- what a called name refers to: a builtin, or else the function with that name, given by its number
abbrev pub callee : Layout → List ℕ → Callee
callee p x = if same_name (codes "write_word") x then WriteWord else (if same_name (codes "read_word") x then ReadWord else Defined (names_before p.functions x))

-- the initial words of these objects
abbrev pub all_words : List Object → List ℕ
all_words [] = []
all_words (o ∷ rest) = initial_words o ++ all_words rest
