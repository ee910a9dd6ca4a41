-- What is written for a value.
use Rattle.std.specs.Prelude.{ℕ, ◌≡◌, ◌≤◌, List, [], ◌∷◌, ◌++◌, Option, Some}
use Rattle.std.specs.Io.KnownBytes.{Appends}
use Rattle.serde_json.specs.Data.{depth}
use Rattle.serde_json.specs.Read.{max_depth, read}
use Rattle.serde_json.specs.View.{view}
use Rattle.serde_json.specs.declared.value.Value.{Value}

-- a line was appended, and reading its text yields the value
pub record IsLineOf (value : Value) (old new : Option (List ℕ)) : Type 0 where
  pub text : List ℕ
  pub reads_back : depth (view value) ≤ max_depth → read text ≡ Some (view value)
  pub written : Appends old new (text ++ 10 ∷ [])
