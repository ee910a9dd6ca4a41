-- Why the stages of a text's functions are not shown.
use Rattle.std.specs.Prelude.{ℕ, List}
use Rattle.cc_stages.specs.Named.{IsDefined}
use Rattle.cc_link.specs.Text.{IsTextRefusal}
use Rattle.cc_tasks.specs.Answer.{ProgramOf}
use Rattle.cc_tasks.specs.declared.fault.Fault.{Fault}
use Rattle.cc_tasks.specs.declared.fault.Fault.TheVariants.{Text, Meaning, Piece, Link, UnknownFunction, OutOfMemory, Read, Write}

-- the text is a program that defines no function of this name
abbrev pub IsUnknown : (text name : List ℕ) → Type 0
IsUnknown text name = (p : ProgramOf text) × (IsDefined p.program name → ⊥)

-- a fault of the text is a refusal of that text, as for every task; any other fault but 53 may come
abbrev pub IsTextRefused : (text : List ℕ) → Fault → Type 0
IsTextRefused text (Text f) = IsTextRefusal text f
IsTextRefused text (Meaning f) = Unit {0}
IsTextRefused text (Piece f) = Unit {0}
IsTextRefused text (Link f) = Unit {0}
IsTextRefused text UnknownFunction = Unit {0}
IsTextRefused text OutOfMemory = Unit {0}
IsTextRefused text Read = ⊥
IsTextRefused text Write = Unit {0}
