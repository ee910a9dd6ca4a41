-- The bytes of the line of a short command.
use Rattle.std.specs.Prelude.{ℕ, List, ◌∷◌, ◌++◌, length, codes}
use Rattle.std.specs.Fmt.{decimal}
use Rattle.cc_short.specs.declared.script.ShortCommand.{ShortCommand}
use Rattle.cc_short.specs.declared.script.ShortCommand.TheVariants as command

-- the verb, the name and the length of the source, separated by single spaces
abbrev pub line_text : ShortCommand → List ℕ
line_text (command.Add name source) = codes "add" ++ 32 ∷ name.now ++ 32 ∷ decimal (length source.now)
line_text (command.Replace name source) = codes "replace" ++ 32 ∷ name.now ++ 32 ∷ decimal (length source.now)
line_text (command.Withdraw name) = codes "withdraw" ++ 32 ∷ name.now
line_text command.List = codes "list"
line_text command.Compact = codes "compact"
line_text command.Audit = codes "audit"
