-- What comes next in a script.
use Rattle.std.specs.Prelude.{ℕ, ◌+◌, ◌≡◌, ◌≤◌, ◌≢◌, ◌⊎◌, ◌<◌, Bool, true, false, List, [], ◌∷◌, ◌++◌, Option, Some, None, IfSome, All, length, take}
use Rattle.std.specs.Io.KnownBytes.{prepend_known}
use Rattle.cc_script.specs.declared.script.NextLine.{NextLine}
use Rattle.cc_script.specs.declared.script.NextLine.TheVariants.{Line, TooLong, End}
use Rattle.cc_script.specs.declared.fault.ScriptFault.{ScriptFault}
use Rattle.cc_script.specs.declared.fault.ScriptFault.TheVariants.{BadLine, EndOfScript, ScriptTooLong, ReadFault, WriteFault, Stopped}

-- what contracts see of a script: what was read but not used yet, whether its reader was at the end, and how many more bytes the
-- script may have
pub record ScriptView : Type 0 where
  pub held : List ℕ
  pub is_over : Bool
  pub left : ℕ

-- a line is no longer than it may be
abbrev pub IsWithinLine : NextLine → Type 0
IsWithinLine (Line length) = length ≤ 128
IsWithinLine TooLong = Unit {0}
IsWithinLine End = Unit {0}

-- ---- the bytes, if it is known which ones the reader gives

-- What is left of a script: first what was read but not used yet, then what the reader will give, unless it was at its end.
abbrev pub rest_from : (held : List ℕ) (is_over : Bool) (remaining : Option (List ℕ)) → Option (List ℕ)
rest_from held true remaining = Some held
rest_from held false remaining = prepend_known held remaining

-- What is ahead in a script: what is left of it, if that is known, and how many more bytes it may have.
pub record Ahead : Type 0 where
  pub rest : Option (List ℕ)
  pub left : ℕ

abbrev pub ahead_of : ScriptView → (remaining : Option (List ℕ)) → Ahead
ahead_of script remaining = record { rest = rest_from script.held script.is_over remaining; left = script.left }

-- if what is left before is known, so is what is left after, and `Holds` is true of both
abbrev pub Known : (before after : Option (List ℕ)) → (Holds : List ℕ → List ℕ → Type 0) → Type 0
Known None after Holds = Unit {0}
Known (Some before) None Holds = ⊥
Known (Some before) (Some after) Holds = Holds before after

-- The bytes that were handed out came before the rest, the script may have that many fewer bytes from then on, and `Holds` is
-- true of what was left before and what is left after.
pub record IsRead (may_have may_still : ℕ) (Holds : List ℕ → List ℕ → Type 0) (before after : List ℕ) : Type 0 where
  pub taken : List ℕ
  pub prefix : before ≡ taken ++ after
  pub counted : may_still + length taken ≡ may_have
  pub holds : Holds before after

-- what is left before and what is left after satisfy `IsRead`, if they are known
abbrev pub Between : (before after : Ahead) → (Holds : List ℕ → List ℕ → Type 0) → Type 0
Between before after Holds = Known before.rest after.rest (IsRead before.left after.left Holds)

-- a line without its newline; a newline follows it, or the end
pub record IsLine (before line after : List ℕ) : Type 0 where
  pub plain : All (λ byte. byte ≢ 10) line
  pub ends : (before ≡ line ++ 10 ∷ after) ⊎ ((before ≡ line) × (after ≡ []))

-- what comes next: a line, if any byte is left; the first 129 bytes of a longer one; or the end
abbrev pub IsNext : (before : List ℕ) → NextLine → (line after : List ℕ) → Type 0
IsNext before (Line length) line after = (before ≢ []) × IsLine before (take length line) after
IsNext before TooLong line after = (prefix : List ℕ) × (before ≡ prefix ++ after) × (length prefix ≡ 129) × All (λ byte. byte ≢ 10) prefix
IsNext before End line after = before ≡ []

-- a source of this many bytes comes next; its first 65,537 are kept, if there is room for them
pub record IsSource (before : List ℕ) (count : ℕ) (kept : Option (List ℕ)) (after : List ℕ) : Type 0 where
  pub source : List ℕ
  pub prefix : before ≡ source ++ after
  pub count_is : length source ≡ count
  pub kept_is : IfSome kept (λ bytes. bytes ≡ take 65537 source)

-- a line ends here; or another byte comes next
abbrev pub IsLineEnd : (before : List ℕ) → Bool → (after : List ℕ) → Type 0
IsLineEnd before true after = IsLine before [] after
IsLineEnd before false after = (byte : ℕ) × (byte ≢ 10) × (before ≡ byte ∷ after)

-- ---- why nothing comes

-- fewer than `count` bytes are left
abbrev pub HasFewer : (rest : Option (List ℕ)) → (count : ℕ) → Type 0
HasFewer rest count = IfSome rest (λ bytes. length bytes < count)

-- more bytes are left than the script may have
abbrev pub HasMore : Ahead → Type 0
HasMore ahead = IfSome ahead.rest (λ bytes. ahead.left < length bytes)

-- why no line is read: 52, if the script has had all the bytes that it may have, and has more; or 53
abbrev pub IsNotRead : (before : Ahead) → (left : ℕ) → ScriptFault → Type 0
IsNotRead before left ScriptTooLong = (left ≡ 0) × HasMore before
IsNotRead before left ReadFault = Unit {0}
IsNotRead before left BadLine = ⊥
IsNotRead before left EndOfScript = ⊥
IsNotRead before left WriteFault = ⊥
IsNotRead before left Stopped = ⊥

-- why no source of this many bytes is read: 51, if fewer bytes are left; 52 and 53 as for a line
abbrev pub IsNoSource : (before : Ahead) → (count left : ℕ) → ScriptFault → Type 0
IsNoSource before count left EndOfScript = HasFewer before.rest count
IsNoSource before count left ScriptTooLong = IsNotRead before left ScriptTooLong
IsNoSource before count left ReadFault = IsNotRead before left ReadFault
IsNoSource before count left BadLine = ⊥
IsNoSource before count left WriteFault = ⊥
IsNoSource before count left Stopped = ⊥
