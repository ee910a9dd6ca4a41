-- How far a script has been done.
use Rattle.std.specs.Prelude.{◌≡◌, ◌≢◌, ◌⊎◌, ◌<◌, ℕ, Bool, true, false, List, [], ◌∷◌, ◌++◌, length, take, Option, Some, None, IfSome, IsSome, Result, Ok, Err, Vec}
use Rattle.std.specs.declared.alloc.Global.{Global}
use Rattle.cc_script.specs.Fault.{fault_number}
use Rattle.cc_script.specs.Line.{ScriptRequest}
use Rattle.cc_script.specs.Reading.{Ahead, Between, HasMore, IsLine, IsNotRead}
use Rattle.cc_script.specs.declared.script.NextLine.{NextLine}
use Rattle.cc_script.specs.declared.script.NextLine.TheVariants.{Line, TooLong, End}
use Rattle.cc_script.specs.declared.fault.ScriptFault.{ScriptFault}
use Rattle.cc_script.specs.declared.fault.ScriptFault.TheVariants.{BadLine, EndOfScript, ScriptTooLong, ReadFault, WriteFault, Stopped}
use Rattle.cc_script.specs.declared.command.Dialect.{Dialect}
use Rattle.cc_history.specs.Held.{at_most_told, receipts_bytes}
use Rattle.cc_history.specs.History.{MemberView}
use Rattle.cc_history.specs.declared.entry.Receipt.{Receipt}
use Rattle.cc_c_semantics.specs.declared.mode.Mode.{Mode}
use Rattle.cc_session.specs.Playing.{CutsLine, HasUnended, IsBegun, IsCutShort, IsEnding, IsLight, IsPlayed, IsStoppedBy, Obeys, Talk, held_since, talk}
use Rattle.cc_session.specs.declared.held.Held.{Held}
use Rattle.cc_session.specs.declared.end.SessionEnd.{SessionEnd}
use Rattle.cc_session.specs.declared.end.SessionEnd.TheVariants.{Finished, Fault}
use Rattle.cc_session.specs.declared.reading.Sent.{Sent}
use Rattle.cc_session.specs.declared.reading.Sent.TheVariants.{Source, NoRoom, Unended}

-- What ends a script after this many lines if more of it is left: 52, if the bound on its lines is reached, or if the client's
-- receipts since its beginning hold too much; 61, if there is a bound on its lines.
abbrev pub EndsBehind : (most : Option ℕ) (first : MemberView) (lines : ℕ) (now : MemberView) → ScriptFault → Type 0
EndsBehind most first lines now BadLine = ⊥
EndsBehind most first lines now EndOfScript = ⊥
EndsBehind most first lines now ScriptTooLong = (bound : ℕ) × (most ≡ Some bound) × ((lines ≡ bound) ⊎ (268435456 < held_since first now))
EndsBehind most first lines now ReadFault = ⊥
EndsBehind most first lines now WriteFault = ⊥
EndsBehind most first lines now Stopped = IsSome most

-- a further line may be done
abbrev pub MayGoOn : (most : Option ℕ) (first : MemberView) (lines : ℕ) (now : MemberView) → Type 0
MayGoOn most first lines now = (most ≢ Some lines) × IsLight most first now

-- the fault that ends the script; none if a further line may be done
abbrev pub IsLimit : (most : Option ℕ) (first : MemberView) (lines : ℕ) (now : MemberView) → Option ScriptFault → Type 0
IsLimit most first lines now None = MayGoOn most first lines now
IsLimit most first lines now (Some fault) = EndsBehind most first lines now fault

-- No line comes: either it can't be read; or more of the script is left, and the limit ends the script.
abbrev pub IsNoLine : (limit : Option ScriptFault) (before : Ahead) (left : ℕ) → ScriptFault → Type 0
IsNoLine limit before left fault = IsNotRead before left fault ⊎ ((limit ≡ Some fault) × IfSome before.rest (λ bytes. bytes ≢ []))

-- if a line comes, there is no limit, so it may be done
abbrev pub MayFollow : (limit : Option ScriptFault) → NextLine → Type 0
MayFollow limit (Line length) = limit ≡ None
MayFollow limit TooLong = limit ≡ None
MayFollow limit End = Unit {0}

-- `held` counts the receipts of a client that came after those of `first`.
pub record CountsSince (first now : List Receipt) (held : Held) : Type 0 where
  pub more : List Receipt
  pub now_is : now ≡ first ++ more
  pub seen : held.seen ≡ length now
  pub bytes : held.bytes ≡ at_most_told (receipts_bytes more)

-- `count` bytes are taken from what is left, and then the end of a line, or one byte that does not end a line
abbrev pub HasSent : (before : List ℕ) (count : ℕ) → Sent → (after : List ℕ) → Type 0
HasSent before count (Source bytes) after =
    (source : List ℕ) × (rest : List ℕ) × (before ≡ source ++ rest) × (length source ≡ count) × IsLine rest [] after × (bytes.items ≡ take 65537 source)
HasSent before count NoRoom after = (source : List ℕ) × (rest : List ℕ) × (before ≡ source ++ rest) × (length source ≡ count) × IsLine rest [] after
HasSent before count Unended after = (source : List ℕ) × (byte : ℕ) × (before ≡ source ++ byte ∷ after) × (length source ≡ count) × (byte ≢ 10)

-- what was sent is the source that was read, if there was room for it and the line ends after it
abbrev pub IsSentAs : Option (Vec ℕ Global) → (is_ended : Bool) → Sent → Type 0
IsSentAs (Some bytes) true sent = sent ≡ Source bytes
IsSentAs None true sent = sent ≡ NoRoom
IsSentAs source false sent = sent ≡ Unended

-- fewer than `count` bytes are left
abbrev pub IsShortOf : (count : ℕ) (rest : List ℕ) → Type 0
IsShortOf count rest = length rest < count

-- Why a step was not done to its end. It is 51 if the bytes that the line needs are not there, 52 if more bytes are left than
-- the script may have, or 53: then nothing of the step was done, except that 50 may be written for a line that was not read to
-- its end. At 54, nothing was done, or the step was done but its answer could not be written.
abbrev pub IsNotDone : (Does : List ℕ → List ℕ → Talk → Talk → Type 0) (IsShort IsBad : List ℕ → Type 0) (before : Ahead) (old new : Talk) → ScriptFault → Type 0
IsNotDone Does IsShort IsBad before old new BadLine = ⊥
IsNotDone Does IsShort IsBad before old new EndOfScript = (new ≡ old) × IfSome before.rest IsShort
IsNotDone Does IsShort IsBad before old new ScriptTooLong = IsBegun (IfSome before.rest IsBad) old new × HasMore before
IsNotDone Does IsShort IsBad before old new ReadFault = IsBegun (IfSome before.rest IsBad) old new
IsNotDone Does IsShort IsBad before old new Stopped = ⊥
IsNotDone Does IsShort IsBad before old new WriteFault =
    IfSome before.rest (λ b. (new.client ≡ old.client) ⊎ ((a : List ℕ) × (written : Option (List ℕ)) × Does b a old (talk new.client written)))

-- the step was done, if the result is Ok
abbrev pub IsDone : {T : Type 0} → (Does : List ℕ → List ℕ → Talk → Talk → Type 0) (IsShort IsBad : List ℕ → Type 0) (before after : Ahead) (old new : Talk) → Result T ScriptFault → Type 0
IsDone Does IsShort IsBad before after old new (Ok done) = Between before after (λ b a. Does b a old new)
IsDone Does IsShort IsBad before after old new (Err fault) = IsNotDone Does IsShort IsBad before old new fault

-- a line that asks for this was not obeyed; or the line is a `run` that was cut off, 61
abbrev pub IsObeyedNot : Mode → (most : Option ℕ) (asked : Option ScriptRequest) (before : Ahead) (old new : Talk) → ScriptFault → Type 0
IsObeyedNot mode most asked before old new Stopped = IsSome most × CutsLine asked old new
IsObeyedNot mode most asked before old new fault = IsNotDone (λ b a o n. Obeys mode asked b a o n) (λ rest. IsCutShort asked rest) (λ rest. HasUnended asked rest) before old new fault

-- the line was obeyed, if the result is Ok
abbrev pub IsObeyed : Mode → {T : Type 0} → (most : Option ℕ) (asked : Option ScriptRequest) (before after : Ahead) (old new : Talk) → Result T ScriptFault → Type 0
IsObeyed mode most asked before after old new (Ok done) = Between before after (λ b a. Obeys mode asked b a old new)
IsObeyed mode most asked before after old new (Err fault) = IsObeyedNot mode most asked before old new fault

-- the whole script was done; or a fault ended it, whose line is not written yet, and the script is done up to the point that the fault says
abbrev pub IsHalted : Mode → {T : Type 0} → Dialect → (most : Option ℕ) (script : Option (List ℕ)) (old new : Talk) → Result T ScriptFault → Type 0
IsHalted mode dialect most script old new (Ok done) = IfSome script (λ bytes. IsPlayed mode dialect most bytes old new)
IsHalted mode dialect most script old new (Err fault) = IsEnding most fault × IfSome script (λ bytes. IsStoppedBy mode dialect most fault bytes old new)

-- how a session ends if its script ended with this result
abbrev pub EndsFor : {T : Type 0} → Result T ScriptFault → SessionEnd → Type 0
EndsFor (Ok done) end = end ≡ Finished
EndsFor (Err fault) end = end ≡ Fault (fault_number fault)
