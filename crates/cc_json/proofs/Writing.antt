-- The text of a value, followed by a newline, is a line of the value.
use Rattle.std.proofs.Common.{◌≡◌, ℕ, ◌≤◌, List, [], ◌∷◌, Option, Some, Result, Ok, Err, OnOk}
use Rattle.std.proofs.KnownBytes.{Appends-trans}
use Rattle.std.specs.Io.KnownBytes.{Appends}
use Rattle.serde_json.specs.Data.{depth}
use Rattle.serde_json.specs.Read.{max_depth, read}
use Rattle.serde_json.specs.View.{view}
use Rattle.serde_json.specs.declared.value.Value.{Value}
use Rattle.cc_json.specs.internal.Line.{IsLineOf}

-- writing the text and then the newline writes a line of the value
pub line_of : {T E : Type 0} (answer : Result T E) (value : Value) (a b c : Option (List ℕ)) (text : List ℕ)
    → (depth (view value) ≤ max_depth → read text ≡ Some (view value)) → Appends a b text → OnOk answer (Appends b c (10 ∷ [])) → OnOk answer (IsLineOf value a c)
line_of (Ok done) value a b c text back one two = record { text = text; reads_back = back; written = Appends-trans a b c text (10 ∷ []) one two }
line_of (Err e) value a b c text back one two = tt
