-- The script of a short command.
use Rattle.std.specs.Prelude.{ℕ, ◌≡◌, ◌≤◌, ◌<◌, ◌≢◌, List, [], ◌∷◌, ◌++◌, Option, Some, None, All, length}
use Rattle.cc_script.specs.Line.{ScriptRequest, Add, Replace, Withdraw, Names, Compact, Audit, asked_of}
use Rattle.cc_script.specs.declared.command.Dialect.TheVariants.{Plain}
use Rattle.cc_short.specs.declared.script.ShortCommand.{ShortCommand}
use Rattle.cc_short.specs.declared.script.ShortCommand.TheVariants as command
use Rattle.cc_short.specs.declared.fault.ShortFault.{ShortFault}
use Rattle.cc_short.specs.declared.fault.ShortFault.TheVariants.{SourceTooLarge, BadName, OutOfMemory}

-- what a line of a script has to ask for
abbrev pub request_of : ShortCommand → ScriptRequest
request_of (command.Add name source) = Add name.now (length source.now)
request_of (command.Replace name source) = Replace name.now (length source.now)
request_of (command.Withdraw name) = Withdraw name.now
request_of command.List = Names
request_of command.Compact = Compact
request_of command.Audit = Audit

-- the bytes that come after the line
abbrev pub source_of : ShortCommand → List ℕ
source_of (command.Add name source) = source.now
source_of (command.Replace name source) = source.now
source_of (command.Withdraw name) = []
source_of command.List = []
source_of command.Compact = []
source_of command.Audit = []

-- the name in the line, if there is one
abbrev pub name_of : ShortCommand → Option (List ℕ)
name_of (command.Add name source) = Some name.now
name_of (command.Replace name source) = Some name.now
name_of (command.Withdraw name) = Some name.now
name_of command.List = None
name_of command.Compact = None
name_of command.Audit = None

-- The script's one line has at most 128 bytes. In a session's script it asks for this command and nothing else. Exactly the bytes of the
-- command's source, at most 65,536, follow its newline.
pub record IsScriptOf (command : ShortCommand) (script : List ℕ) : Type 0 where
  pub line : List ℕ
  pub short : length line ≤ 128
  pub plain : All (λ byte. byte ≢ 10) line
  pub whole : script ≡ line ++ 10 ∷ source_of command
  pub asks : asked_of Plain line ≡ Some (request_of command)
  pub fits : length (source_of command) ≤ 65536

-- the bytes of one word of a line, no more than a name may have: 1 to 32, none a space or a newline
pub record IsName (name : List ℕ) : Type 0 where
  pub some : 0 < length name
  pub few : length name ≤ 32
  pub plain : All (λ byte. (byte ≢ 32) × (byte ≢ 10)) name

-- if there is a name, it is one word
abbrev pub HasName : Option (List ℕ) → Type 0
HasName None = Unit {0}
HasName (Some name) = IsName name

-- why there is no script: 33 before 7
abbrev pub IsRefused : ShortCommand → ShortFault → Type 0
IsRefused command BadName = ¬ HasName (name_of command)
IsRefused command SourceTooLarge = HasName (name_of command) × (65536 < length (source_of command))
IsRefused command OutOfMemory = Unit {0}
