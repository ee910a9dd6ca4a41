-- What `parse` and then `check` decide about a text.
use Rattle.std.specs.Prelude.{◌≡◌, ℕ, List, Some, None, Ok, Err}
use Rattle.cc_ast.specs.fault.SyntaxFault.{SyntaxFault}
use Rattle.cc_ast.specs.Tree.{External, Source}
use Rattle.cc_ast.specs.Parse.{IsParseAnswer}
use Rattle.cc_types.specs.declared.fault.TypeFault.{TypeFault}
use Rattle.cc_types.specs.Typed.{IsTypeAnswer}

-- a verdict on a text: it has no tree, its tree is refused, or it is the text of a program
pub data Verdict : Type 0 where
  NoTree : SyntaxFault → Verdict
  NotTyped : TypeFault → Verdict
  Program : List External → Verdict

-- the source made from a text and a tree
abbrev pub source_with : List ℕ → List External → Source
source_with text tree = record { text = text; externals = tree }

-- what the two calls may decide about a text if memory suffices
abbrev pub IsVerdict : List ℕ → Verdict → Type 0
IsVerdict text (NoTree f) = IsParseAnswer text (Err f)
IsVerdict text (NotTyped f) = (tree : List External) × IsParseAnswer text (Ok tree) × IsTypeAnswer (source_with text tree) (Some f)
IsVerdict text (Program tree) = IsParseAnswer text (Ok tree) × IsTypeAnswer (source_with text tree) None

-- a text has at most one verdict
abbrev pub VerdictsAreOne : Type 0
VerdictsAreOne = (text : List ℕ) (v w : Verdict) → IsVerdict text v → IsVerdict text w → v ≡ w

-- every text has a verdict
abbrev pub TextsHaveVerdicts : Type 0
TextsHaveVerdicts = (text : List ℕ) → (v : Verdict) × IsVerdict text v
