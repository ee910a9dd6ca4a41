-- What a script means for the client that runs it. For each line: the call of the service, how the answer changes the client, and
-- what is written.
use Rattle.std.specs.Prelude.{◌≡◌, ◌≢◌, ◌⊎◌, ◌+◌, ◌<◌, ◌≤◌, ℕ, Bool, true, false, List, [], ◌∷◌, ◌++◌, All, drop, length, take, nat_le, if◌then◌else◌, Option, Some, None, IfSome, IsSome, Result, Ok, Err, IfErr, codes}
use Rattle.std.specs.Io.KnownBytes.{Appends}
use Rattle.cc_script.specs.Line.{ScriptRequest, Add, Replace, Withdraw, Names, Run, Compact, Audit, Image, Source, AuditOne, Update, Call, Space, asked_of}
use Rattle.cc_script.specs.Reading.{IsLine}
use Rattle.cc_script.specs.declared.command.Dialect.{Dialect}
use Rattle.cc_script.specs.declared.fault.ScriptFault.{ScriptFault}
use Rattle.cc_script.specs.declared.fault.ScriptFault.TheVariants.{BadLine, EndOfScript, ScriptTooLong, ReadFault, WriteFault, Stopped}
use Rattle.cc_answers.specs.Text.{line}
use Rattle.cc_answers.specs.Telling.{script_fault_text}
use Rattle.cc_task.specs.declared.part.Part.TheVariants as part
use Rattle.cc_library.specs.declared.space.SpaceUse.{SpaceUse}
use Rattle.cc_history.specs.Calls.{Command}
use Rattle.cc_history.specs.declared.entry.Receipt.{Receipt}
use Rattle.cc_history.specs.declared.reply.Reply.TheVariants as reply
use Rattle.cc_history.specs.Held.{receipts_bytes}
use Rattle.cc_history.specs.History.{MemberView}
use Rattle.cc_service.specs.Serving.{IsNotCompacted}
use Rattle.cc_service.specs.book_fault.BookFault.{BookFault}
use Rattle.cc_service.specs.declared.fault.ServiceFault.TheVariants.{Book}
use Rattle.cc_c_semantics.specs.declared.mode.Mode.{Mode}
use Rattle.cc_service.specs.Serving.{Adds, Replaces, GetAnswers, ListAnswers, PutAnswers, WithdrawAnswers}
use Rattle.cc_service.specs.Updating.{UpdateAnswers}
use Rattle.cc_service.specs.Space.{SpaceAnswers}
use Rattle.cc_service.specs.declared.fault.ServiceFault.{ServiceFault}
use Rattle.cc_runs.specs.Words.{input_in}
use Rattle.cc_session.specs.Telling.{IsCutRun, SaysAudit, SaysChange, SaysNames, SaysRefusal, SaysRunOn, SaysShown, done_text, no_memory_text, room_text}

-- a client, and what the writer of its answers holds, if that is known
pub record Talk : Type 0 where
  pub client : MemberView
  pub written : Option (List ℕ)

abbrev pub talk : MemberView → (written : Option (List ℕ)) → Talk
talk client written = record { client = client; written = written }

-- the client made a call that `Answers` describes, and `Says` holds of its answer and the text that was written
abbrev pub CallsAndWrites : (Answers : MemberView → MemberView → Result Receipt ServiceFault → Type 0) (Says : Result Receipt ServiceFault → List ℕ → Type 0) → (old new : Talk) → Type 0
CallsAndWrites Answers Says old new =
    (answer : Result Receipt ServiceFault) × Answers old.client new.client answer × (text : List ℕ) × Says answer text × Appends old.written new.written text

-- nothing was called, and this was written
abbrev pub Writes : (text : List ℕ) → (old new : Talk) → Type 0
Writes text old new = (new.client ≡ old.client) × Appends old.written new.written text

-- The bytes that come after a line: `count` of them, then a newline or the end. `Does` is applied to them; if there are more than
-- 65,536, it gets the first 65,537, which are too many. If there is no room for the bytes, or if another byte follows, nothing is
-- called; in the second case the rest of that line is skipped.
pub record IsSentTo (Does : (bytes : List ℕ) → Talk → Talk → Type 0) (count : ℕ) (before after : List ℕ) (old new : Talk) : Type 0 where
  pub source : List ℕ
  pub rest : List ℕ
  pub prefix : before ≡ source ++ rest
  pub count_is : length source ≡ count
  pub called :
      (IsLine rest [] after × (Does (take 65537 source) old new ⊎ Writes no_memory_text old new))
      ⊎ ((behind : List ℕ) × (0 < length behind) × IsLine rest behind after × Writes (script_fault_text BadLine) old new)

-- The source that comes after a line is handed to the call, which compiles it in the mode.
abbrev pub IsSent : (mode : Mode) (Asks : Mode → (name source : List ℕ) → Command → Type 0) (name : List ℕ) (count : ℕ) (before after : List ℕ) (old new : Talk) → Type 0
IsSent mode Asks name count before after old new =
    IsSentTo (λ source o n. CallsAndWrites (PutAnswers mode (Asks mode name source) name source) (SaysChange source) o n) count before after old new

-- Two sources after a line: the unit under the name must have the first one, and is replaced with one compiled from the second.
pub record IsSentTwice (mode : Mode) (name : List ℕ) (expected_count count : ℕ) (before after : List ℕ) (old new : Talk) : Type 0 where
  pub expected : List ℕ
  pub rest : List ℕ
  pub prefix : before ≡ expected ++ rest
  pub count_is : length expected ≡ expected_count
  pub called :
      ((between : List ℕ) × IsLine rest [] between
      × IsSentTo (λ source o n. CallsAndWrites (UpdateAnswers mode name (take 65537 expected) source) (SaysChange source) o n) count between after old new)
      ⊎ ((behind : List ℕ) × (0 < length behind) × IsLine rest behind after × Writes (script_fault_text BadLine) old new)

-- the input words in these bytes, if there are at most 65,536 bytes
abbrev pub words_of : (bytes : List ℕ) → Option (List ℕ)
words_of bytes = if nat_le (length bytes) 65536 then input_in bytes else None

-- the unit under the name is run on the words; if the bytes are not words, the answer is 50
abbrev pub CallsOn : (name : List ℕ) (steps : ℕ) → (words : Option (List ℕ)) → (old new : Talk) → Type 0
CallsOn name steps (Some words) old new = CallsAndWrites (GetAnswers name) (SaysRunOn words steps) old new
CallsOn name steps None old new = Writes (script_fault_text BadLine) old new

-- The units under these names are fetched and audited in the mode, with one call and one line for each, in order. Either all are
-- found and audited; or the last one is the first that is refused, or that is found but whose audit ran out of memory.
abbrev pub AuditsEach : Mode → (names : List (List ℕ)) (all : Bool) (old new : Talk) → Type 0
AuditsEach mode [] true old new = new ≡ old
AuditsEach mode [] false old new = ⊥
AuditsEach mode (name ∷ names) all old new =
    ((all ≡ false) × CallsAndWrites (GetAnswers name) (SaysAudit mode name false) old new)
    ⊎ ((between : Talk) × CallsAndWrites (GetAnswers name) (SaysAudit mode name true) old between × AuditsEach mode names all between new)

-- an audit ends with `ok` if all units are audited, otherwise without a line
abbrev pub EndsAudit : (all : Bool) (old new : Talk) → Type 0
EndsAudit true old new = Writes (line (codes "ok")) old new
EndsAudit false old new = new ≡ old

-- the names are listed, which writes no line, and the units under the names in the answer are audited
pub record ListsAndAudits (mode : Mode) (old new : Talk) : Type 0 where
  pub receipt : Receipt
  pub names : List (List ℕ)
  pub all : Bool
  pub heard : MemberView
  pub last : Talk
  pub listed : ListAnswers old.client heard (Ok receipt)
  pub names_are : receipt.entry.reply ≡ reply.Names names
  pub audited : AuditsEach mode names all (talk heard old.written) last
  pub ended : EndsAudit all last new

-- all units are audited; nothing more is called if the list is refused
abbrev pub Audits : Mode → (old new : Talk) → Type 0
Audits mode old new = CallsAndWrites ListAnswers SaysRefusal old new ⊎ ListsAndAudits mode old new

-- the unit under a name is audited
abbrev pub AuditsOne : Mode → (name : List ℕ) (old new : Talk) → Type 0
AuditsOne mode name old new = (all : Bool) × (last : Talk) × AuditsEach mode (name ∷ []) all old last × EndsAudit all last new

-- a compaction is refused only with 34, 35, 36 or 40
abbrev pub IsCompacted : Result (Unit {0}) ServiceFault → Type 0
IsCompacted answer = IfErr answer (λ fault. (why : BookFault) × (fault ≡ Book why) × IsNotCompacted why)

-- the service answered a compaction; this is not a call of a client, and leaves no receipt
abbrev pub Compacts : (old new : Talk) → Type 0
Compacts old new = (answer : Result (Unit {0}) ServiceFault) × IsCompacted answer × Writes (done_text answer) old new

-- The service answered how much of its area the library takes, or 36. This is not a call of a client, and leaves no receipt.
abbrev pub Measures : (old new : Talk) → Type 0
Measures old new = (answer : Result SpaceUse ServiceFault) × SpaceAnswers answer × Writes (room_text answer) old new

-- what a line asks for is done in the mode; the answer is 50 if it asks for nothing
-- ORDER ScriptCommand
abbrev pub Obeys : Mode → Option ScriptRequest → (before after : List ℕ) (old new : Talk) → Type 0
Obeys mode (Some (Add name count)) before after old new = IsSent mode Adds name count before after old new
Obeys mode (Some (Replace name count)) before after old new = IsSent mode Replaces name count before after old new
Obeys mode (Some (Withdraw name)) before after old new = (after ≡ before) × CallsAndWrites (WithdrawAnswers name) (SaysChange []) old new
Obeys mode (Some Names) before after old new = (after ≡ before) × CallsAndWrites ListAnswers SaysNames old new
Obeys mode (Some (Run name steps)) before after old new = (after ≡ before) × CallsAndWrites (GetAnswers name) (SaysRunOn [] steps) old new
Obeys mode (Some Compact) before after old new = (after ≡ before) × Compacts old new
Obeys mode (Some Audit) before after old new = (after ≡ before) × Audits mode old new
Obeys mode (Some (Image name)) before after old new = (after ≡ before) × CallsAndWrites (GetAnswers name) (SaysShown part.Image) old new
Obeys mode (Some (Source name)) before after old new = (after ≡ before) × CallsAndWrites (GetAnswers name) (SaysShown part.Source) old new
Obeys mode (Some (AuditOne name)) before after old new = (after ≡ before) × AuditsOne mode name old new
Obeys mode (Some (Update name expected count)) before after old new = IsSentTwice mode name expected count before after old new
Obeys mode (Some (Call name steps count)) before after old new = IsSentTo (λ input o n. CallsOn name steps (words_of input) o n) count before after old new
Obeys mode (Some Space) before after old new = (after ≡ before) × Measures old new
Obeys mode None before after old new = (after ≡ before) × Writes (script_fault_text BadLine) old new

-- what a line of a script asks for; one of more than 128 bytes asks for nothing
abbrev pub asked_by_line : Dialect → List ℕ → Option ScriptRequest
asked_by_line dialect line = if nat_le (length line) 128 then asked_of dialect line else None

-- the script's next line; `Holds` is true of what it asks for and of what is left after it
pub record NextLineAsks (dialect : Dialect) (Holds : Option ScriptRequest → (rest : List ℕ) → Type 0) (before : List ℕ) : Type 0 where
  pub line : List ℕ
  pub rest : List ℕ
  pub is_line : IsLine before line rest
  pub holds : Holds (asked_by_line dialect line) rest

-- One line of a script of this dialect is done in the mode, with its source, if it has one. There is a line only if a byte is left.
pub record IsStep (mode : Mode) (dialect : Dialect) (before after : List ℕ) (old new : Talk) : Type 0 where
  pub some : before ≢ []
  pub obeyed : NextLineAsks dialect (λ asked rest. Obeys mode asked rest after old new) before

-- what is left of the script after a step, and the client and its answers at that point
pub record Turn : Type 0 where
  pub rest : List ℕ
  pub talk : Talk

-- The script is done line by line, from what is left and from the client at the beginning. `MayBegin` holds of the client before
-- each line. So the writer holds the lines of the turns, in order, and no other byte.
abbrev pub Plays : Mode → Dialect → (MayBegin : MemberView → Type 0) → (before : List ℕ) (old : Talk) → List Turn → (after : List ℕ) (new : Talk) → Type 0
Plays mode dialect MayBegin before old [] after new = (after ≡ before) × (new ≡ old)
Plays mode dialect MayBegin before old (turn ∷ turns) after new =
    MayBegin old.client × IsStep mode dialect before turn.rest old turn.talk × Plays mode dialect MayBegin turn.rest turn.talk turns after new

-- there are at most as many lines as the bound allows, if there is one
abbrev pub IsWithin : (most : Option ℕ) (lines : ℕ) → Type 0
IsWithin None lines = Unit {0}
IsWithin (Some most) lines = lines ≤ most

-- the number of bytes that the receipts of a client since `first` are counted to hold
abbrev pub held_since : (first now : MemberView) → ℕ
held_since first now = receipts_bytes (drop (length first.receipts) now.receipts)

-- If there is a bound on the lines, the receipts since the script's beginning are bounded too: to 256 MiB. A line may be begun as
-- long as they do not exceed that.
abbrev pub IsLight : (most : Option ℕ) (first now : MemberView) → Type 0
IsLight None first now = Unit {0}
IsLight (Some most) first now = held_since first now ≤ 268435456

-- A prefix of the script is done. `Stops` holds of the number of lines done, of what is left, and of the client and its answers then.
pub record IsPlayedUpTo (mode : Mode) (dialect : Dialect) (most : Option ℕ) (script : List ℕ) (Stops : (lines : ℕ) (rest : List ℕ) (now : Talk) → Type 0) (first : Talk) : Type 0 where
  pub turns : List Turn
  pub few : IsWithin most (length turns)
  pub rest : List ℕ
  pub between : Talk
  pub plays : Plays mode dialect (IsLight most first.client) script first turns rest between
  pub stops : Stops (length turns) rest between

-- the whole script is done
abbrev pub IsPlayed : Mode → Dialect → (most : Option ℕ) (script : List ℕ) (first last : Talk) → Type 0
IsPlayed mode dialect most script first last = IsPlayedUpTo mode dialect most script (λ lines rest now. (rest ≡ []) × (now ≡ last)) first

-- ---- scripts that a fault ends

-- there are this many bytes, with a newline or the end after them, and `Holds` is true of what is left after those
abbrev pub IsAfter : (count : ℕ) (Holds : List ℕ → Type 0) (rest : List ℕ) → Type 0
IsAfter count Holds rest =
    (source : List ℕ) × (between : List ℕ) × (behind : List ℕ) × (rest ≡ source ++ between) × (length source ≡ count) × IsLine between [] behind × Holds behind

-- fewer bytes are left than two sources need: than the first needs, or than the second needs
abbrev pub IsShortOfTwo : (expected count : ℕ) (rest : List ℕ) → Type 0
IsShortOfTwo expected count rest = (length rest < expected) ⊎ IsAfter expected (λ behind. length behind < count) rest

-- a line that asks for this needs more bytes after it than are left
abbrev pub IsCutShort : Option ScriptRequest → (rest : List ℕ) → Type 0
IsCutShort (Some (Add name count)) rest = length rest < count
IsCutShort (Some (Replace name count)) rest = length rest < count
IsCutShort (Some (Update name expected count)) rest = IsShortOfTwo expected count rest
IsCutShort (Some (Call name steps count)) rest = length rest < count
IsCutShort asked rest = ⊥

-- this many bytes are followed by a byte other than a newline
abbrev pub IsUnended : (count : ℕ) (rest : List ℕ) → Type 0
IsUnended count rest = (source : List ℕ) × (byte : ℕ) × (after : List ℕ) × (rest ≡ source ++ byte ∷ after) × (length source ≡ count) × (byte ≢ 10)

-- one of two sources, of `expected` and of `count` bytes, is followed by a byte other than a newline
abbrev pub IsUnendedOfTwo : (expected count : ℕ) (rest : List ℕ) → Type 0
IsUnendedOfTwo expected count rest = IsUnended expected rest ⊎ IsAfter expected (IsUnended count) rest

-- a source that comes after a line that asks for this is followed by a byte other than a newline
abbrev pub HasUnended : Option ScriptRequest → (rest : List ℕ) → Type 0
HasUnended (Some (Add name count)) rest = IsUnended count rest
HasUnended (Some (Replace name count)) rest = IsUnended count rest
HasUnended (Some (Update name expected count)) rest = IsUnendedOfTwo expected count rest
HasUnended (Some (Call name steps count)) rest = IsUnended count rest
HasUnended asked rest = ⊥

-- the next line has more than 128 bytes
abbrev pub BeginsLong : (before : List ℕ) → Type 0
BeginsLong before = (prefix : List ℕ) × (after : List ℕ) × (before ≡ prefix ++ after) × (length prefix ≡ 129) × All (λ byte. byte ≢ 10) prefix

-- the next line is refused with 50 before it is read to its end
abbrev pub BeginsBad : Dialect → (before : List ℕ) → Type 0
BeginsBad dialect before = BeginsLong before ⊎ NextLineAsks dialect HasUnended before

-- nothing was called; and nothing was written, or 50 for a line that is refused before it is read to its end
abbrev pub IsBegun : (IsBad : Type 0) → (old new : Talk) → Type 0
IsBegun IsBad old new = (new ≡ old) ⊎ (IsBad × Writes (script_fault_text BadLine) old new)

-- Why 52: the script has more bytes than it may have; or, if there is a bound on its lines, more of it is left, and that many
-- lines are done, or the receipts that the client got for them hold more than 256 MiB.
abbrev pub IsTooLong : (most : Option ℕ) (script : List ℕ) (first : MemberView) (lines : ℕ) (rest : List ℕ) (now : MemberView) → Type 0
IsTooLong None script first lines rest now = 16777216 < length script
IsTooLong (Some most) script first lines rest now = (16777216 < length script) ⊎ ((rest ≢ []) × ((lines ≡ most) ⊎ (268435456 < held_since first now)))

-- one more line may be begun
abbrev pub NextMayBegin : (most : Option ℕ) (first : MemberView) (lines : ℕ) (now : MemberView) → Type 0
NextMayBegin most first lines now = IsWithin most (lines + 1) × IsLight most first now

-- the unit of a `run` was fetched, its image is not at its end after some of the steps, and nothing was written for it
abbrev pub CutsRun : (name : List ℕ) (steps : ℕ) (old new : Talk) → Type 0
CutsRun name steps old new = (receipt : Receipt) × GetAnswers name old.client new.client (Ok receipt) × IsCutRun steps receipt.entry.reply × (new.written ≡ old.written)

-- a line that asks for this is a `run` that was cut off
abbrev pub CutsLine : Option ScriptRequest → (old new : Talk) → Type 0
CutsLine (Some (Run name steps)) old new = CutsRun name steps old new
CutsLine asked old new = ⊥

-- the faults that end a script: 51 to 54; also 61, if its lines are bounded
abbrev pub IsEnding : (most : Option ℕ) → ScriptFault → Type 0
IsEnding most BadLine = ⊥
IsEnding most Stopped = IsSome most
IsEnding most fault = Unit {0}

-- What holds at the point at which a script stops, if this fault ends it. At 51 to 53 nothing of the next line is done, except that 50
-- may be written for a line that is not read to its end. At 54 the client may be as after one more step, whose answer could not be
-- written (for an audit: after an audit that ran out of memory at that point); what the writer holds is not known. At 61 more is left,
-- and the next line may be a `run` that was cut off. The clause does not say whether 53, 54 or 61 is justified: only the reader knows
-- whether it failed, only the writer whether it did, and only the spool whether the script was to end.
abbrev pub StopsBy : Mode → Dialect → (most : Option ℕ) → ScriptFault → (script : List ℕ) (first : MemberView) (last : Talk) (lines : ℕ) (rest : List ℕ) (now : Talk) → Type 0
StopsBy mode dialect most BadLine script first last lines rest now = ⊥
StopsBy mode dialect most EndOfScript script first last lines rest now =
    IsBegun (BeginsBad dialect rest) now last × (NextMayBegin most first lines now.client × NextLineAsks dialect IsCutShort rest)
StopsBy mode dialect most ScriptTooLong script first last lines rest now =
    IsBegun (BeginsBad dialect rest) now last × IsTooLong most script first lines rest now.client
StopsBy mode dialect most ReadFault script first last lines rest now = IsBegun (BeginsBad dialect rest) now last
StopsBy mode dialect most WriteFault script first last lines rest now =
    (last.client ≡ now.client)
    ⊎ (NextMayBegin most first lines now.client × (after : List ℕ) × (written : Option (List ℕ)) × IsStep mode dialect rest after now (talk last.client written))
StopsBy mode dialect most Stopped script first last lines rest now =
    (rest ≢ []) × ((last ≡ now) ⊎ (NextMayBegin most first lines now.client × NextLineAsks dialect (λ asked after. CutsLine asked now last) rest))

-- how far a script was done if this fault ended it
abbrev pub IsStoppedBy : Mode → Dialect → (most : Option ℕ) → ScriptFault → (script : List ℕ) (first last : Talk) → Type 0
IsStoppedBy mode dialect most fault script first last =
    IsPlayedUpTo mode dialect most script (λ lines rest now. StopsBy mode dialect most fault script first.client last lines rest now) first

-- the script was done as far as the fault says, and then the fault's line was written; 54 has no line
abbrev pub IsEndedBy : Mode → Dialect → (most : Option ℕ) → ScriptFault → (script : List ℕ) (first last : Talk) → Type 0
IsEndedBy mode dialect most fault script first last =
    (between : Talk) × IsStoppedBy mode dialect most fault script first between × Writes (script_fault_text fault) between last

-- ---- any script, and those whose bytes are known to their readers

-- the client is the same, and its receipts are the earlier ones and then perhaps others
abbrev pub Grows : (old new : MemberView) → Type 0
Grows old new = (new.number ≡ old.number) × ((more : List Receipt) × (new.receipts ≡ old.receipts ++ more))

-- a fault that ends scripts ended the script, which is done up to the point that the fault says
abbrev pub IsStopped : Mode → Dialect → (most : Option ℕ) (script : Option (List ℕ)) (old new : Talk) → ScriptFault → Type 0
IsStopped mode dialect most script old new fault = IsEnding most fault × IfSome script (λ bytes. IsEndedBy mode dialect most fault bytes old new)

-- the whole script is done; or a fault ended it, and it is done up to the point that the fault says
abbrev pub IsPlayedBy : Mode → {T : Type 0} → Dialect → (most : Option ℕ) (script : Option (List ℕ)) (old new : Talk) → Result T ScriptFault → Type 0
IsPlayedBy mode dialect most script old new (Ok done) = IfSome script (λ bytes. IsPlayed mode dialect most bytes old new)
IsPlayedBy mode dialect most script old new (Err fault) = IsStopped mode dialect most script old new fault
