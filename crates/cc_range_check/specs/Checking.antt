-- What the public calls answer: of one function, and of the words of objects before the run.
use Rattle.std.specs.Prelude.{ℕ, suc, Bool, true, false, ◌&&◌, List, [], ◌∷◌}
use Rattle.cc_ast.specs.Tree.{Object, External}
use Rattle.cc_types.specs.Types.{initial_words}
use Rattle.cc_types.specs.Limits.{objects}
use Rattle.cc_c_semantics.specs.Calls.{main_of}
use Rattle.cc_c_semantics.specs.Numbered.{objects_in}
use Rattle.cc_cminor_language.specs.Pair.{Pair, tree_of, code_of}
use Rattle.cc_range.specs.declared.range.Range.{Range}
use Rattle.cc_range.specs.Range.{only, is_within}
use Rattle.cc_range_table.specs.Table.{Table, at, row_of}
use Rattle.cc_range_table.specs.Inductive.{is_inductive}
use Rattle.cc_range_check.specs.declared.places.Place.{Place}
use Rattle.cc_range_check.specs.Places.{uncovered_code}

-- ---- a function

abbrev pub inductive_in : Table → Pair → Bool
inductive_in table p = is_inductive (objects_in (tree_of p)) table (row_of table p.function) (code_of p)

abbrev pub uncovered_in : Table → Pair → List Place
uncovered_in table p = uncovered_code (objects_in (tree_of p)) table (row_of table p.function) (code_of p)

-- ---- before the run

abbrev pub is_in : Range → (word : ℕ) → Bool
is_in r w = is_within (only w) r

abbrev pub each_in : Range → List ℕ → Bool
each_in r [] = true
each_in r (w ∷ ws) = is_in r w && each_in r ws

-- the words of these objects, the first of which has this number, are in the ranges at their numbers
abbrev pub start_within : (object : ℕ) → List Range → List Object → Bool
start_within k rs [] = true
start_within k rs (o ∷ os) = each_in (at rs k) (initial_words o) && start_within (suc k) rs os

abbrev pub is_empty : {A : Type 0} → List A → Bool
is_empty [] = true
is_empty (x ∷ xs) = false

-- the call of main before the run is in the table: main's row has no parameters, and the objects' words are in their ranges
abbrev pub starts_in_table : Table → List External → Bool
starts_in_table table unit = is_empty (row_of table (main_of unit)).parameters && start_within 0 table.objects (objects unit)
