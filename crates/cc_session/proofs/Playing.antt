-- What is known about the rest of a script is carried from step to step.
use Rattle.std.proofs.Common.{◌≡◌, ◌∙◌, ℕ, ◌+◌, ◌<◌, ◌≤◌, Bool, true, false, List, [], ◌∷◌, ◌++◌, length, Option, Some, None, Result, Ok, Err, Vec, Global, refl, sym, ap, subst, append_assoc, arith, inl, inr}
use Rattle.std.specs.Prelude.{◌⊎◌, ◌≢◌, All, IfErr, IfSome, OnOk}
use Rattle.std.specs.Io.KnownBytes.{Appends, append_known}
use Rattle.std.specs.Option.{option_map}
use Rattle.std.proofs.lemmas.List.{length-append}
use Rattle.std.proofs.lemmas.List.Elements.{All-append}
use Rattle.std.proofs.lemmas.Bool.Decides.{nat_tests}
use Rattle.cc_script.specs.Line.{ScriptRequest, asked_of}
use Rattle.cc_script.specs.Reading.{Ahead, Between, HasMore, IsLine, IsLineEnd, IsNext, IsNoSource, IsNotRead, IsRead, IsSource, Known, rest_from}
use Rattle.cc_script.specs.declared.command.Dialect.{Dialect}
use Rattle.cc_script.specs.declared.fault.ScriptFault.{ScriptFault}
use Rattle.cc_script.specs.declared.fault.ScriptFault.TheVariants.{BadLine, EndOfScript, ScriptTooLong, ReadFault, WriteFault, Stopped}
use Rattle.cc_script.specs.declared.script.NextLine.{NextLine}
use Rattle.cc_script.specs.declared.script.NextLine.TheVariants.{End, Line, TooLong}
use Rattle.cc_answers.specs.Telling.{Tells, script_fault_text}
use Rattle.cc_history.specs.History.{MemberView}
use Rattle.cc_c_semantics.specs.declared.mode.Mode.{Mode}
use Rattle.cc_session.specs.Playing.{IsBegun, IsLight, IsPlayed, IsPlayedUpTo, IsStep, IsWithin, NextMayBegin, Obeys, Plays, Talk, Turn, Writes, asked_by_line, talk}
use Rattle.cc_session.specs.internal.Calls.{DoesAndTells}
use Rattle.cc_session.specs.internal.Steps.{HasSent, IsDone, IsNotDone, IsSentAs, IsShortOf}
use Rattle.cc_session.specs.declared.reading.Sent.{Sent}

-- ---- from step to step

-- if two parts are read one after the other, and neither gives back a byte, the two are read as one part
read_then : (x y z : Option (List ℕ)) (n k m : ℕ) (P Q S : List ℕ → List ℕ → Type 0) → Known x y (IsRead n k P) → Known y z (IsRead k m Q)
    → ((b c a : List ℕ) → length c ≤ length b → length a ≤ length c → P b c → Q c a → S b a) → Known x z (IsRead n m S)
read_then None y z n k m P Q S one two on = tt
read_then (Some b) None z n k m P Q S one two on = absurd one
read_then (Some b) (Some c) None n k m P Q S one two on = absurd two
read_then (Some b) (Some c) (Some a) n k m P Q S one two on =
    let first = length-append one.taken c in
    let second = length-append two.taken a in
    let both = length-append one.taken two.taken in
    let long = ap (λ (l : List ℕ). length l) one.prefix in
    let short = ap (λ (l : List ℕ). length l) two.prefix in
    record {
      taken = one.taken ++ two.taken;
      prefix = one.prefix ∙ (ap (λ (l : List ℕ). one.taken ++ l) two.prefix ∙ sym (append_assoc one.taken two.taken a));
      counted = omega (arith, both, one.counted, two.counted);
      holds = on b c a (omega (arith, first, long)) (omega (arith, second, short)) one.holds two.holds;
    }

pub between_on : (x y z : Ahead) (P Q S : List ℕ → List ℕ → Type 0) → Between x y P → Between y z Q
    → ((b m a : List ℕ) → length m ≤ length b → length a ≤ length m → P b m → Q m a → S b a) → Between x z S
between_on x y z P Q S one two on = read_then x.rest y.rest z.rest x.left y.left z.left P Q S one two on

pub between_then : (x y z : Ahead) (P Q S : List ℕ → List ℕ → Type 0) → Between x y P → Between y z Q
    → ((b m a : List ℕ) → P b m → Q m a → S b a) → Between x z S
between_then x y z P Q S one two on = between_on x y z P Q S one two (λ b m a first second. on b m a)

read_map : (x y : Option (List ℕ)) (n m : ℕ) (P S : List ℕ → List ℕ → Type 0) → Known x y (IsRead n m P) → ((b a : List ℕ) → P b a → S b a) → Known x y (IsRead n m S)
read_map None y n m P S it on = tt
read_map (Some b) None n m P S it on = it
read_map (Some b) (Some a) n m P S it on = record { taken = it.taken; prefix = it.prefix; counted = it.counted; holds = on b a it.holds }

pub between_map : (x y : Ahead) (P S : List ℕ → List ℕ → Type 0) → Between x y P → ((b a : List ℕ) → P b a → S b a) → Between x y S
between_map x y P S it on = read_map x.rest y.rest x.left y.left P S it on

read_same : (x : Option (List ℕ)) (n : ℕ) (Q : List ℕ → List ℕ → Type 0) → ((b : List ℕ) → Q b b) → Known x x (IsRead n n Q)
read_same None n Q it = tt
read_same (Some b) n Q it = record { taken = []; prefix = refl; counted = omega arith; holds = it b }

-- a relation that every list has to itself holds between what is left before and after, if nothing was read
pub between_none : (x : Ahead) (Q : List ℕ → List ℕ → Type 0) → ((b : List ℕ) → Q b b) → Between x x Q
between_none x Q it = read_same x.rest x.left Q it

-- a fact about the rest before a part was read follows from a fact about the rest after that part
read_by : (x y : Option (List ℕ)) (n m : ℕ) (P : List ℕ → List ℕ → Type 0) (Q S : List ℕ → Type 0) → Known x y (IsRead n m P) → IfSome y Q → ((b c : List ℕ) → P b c → Q c → S b) → IfSome x S
read_by None y n m P Q S one two on = tt
read_by (Some b) None n m P Q S one two on = absurd one
read_by (Some b) (Some c) n m P Q S one two on = on b c one.holds two

pub known_then : (x y : Ahead) (P : List ℕ → List ℕ → Type 0) (Q S : List ℕ → Type 0) → Between x y P → IfSome y.rest Q → ((b m : List ℕ) → P b m → Q m → S b) → IfSome x.rest S
known_then x y P Q S one two on = read_by x.rest y.rest x.left y.left P Q S one two on

pub known : (x : Option (List ℕ)) (S : List ℕ → Type 0) → ((b : List ℕ) → S b) → IfSome x S
known None S all = tt
known (Some b) S all = all b

pub known_by : (x y : Ahead) (P : List ℕ → List ℕ → Type 0) (S : List ℕ → Type 0) → Between x y P → ((b a : List ℕ) → P b a → S b) → IfSome x.rest S
known_by x y P S it on = known_then x y P (λ b. Unit {0}) S it (known y.rest (λ b. Unit {0}) (λ b. tt)) (λ b m p none. on b m p)

pub known_map : (x : Option (List ℕ)) (Q S : List ℕ → Type 0) → IfSome x Q → ((b : List ℕ) → Q b → S b) → IfSome x S
known_map None Q S it on = tt
known_map (Some b) Q S it on = on b it

pub known_both : (x : Option (List ℕ)) (Q S : List ℕ → Type 0) → IfSome x Q → IfSome x S → IfSome x (λ b. Q b × S b)
known_both None Q S one two = tt
known_both (Some b) Q S one two = (one, two)

-- if more bytes than allowed are left after a part was read, more than allowed were left before
more_read : (x y : Option (List ℕ)) (n m : ℕ) (P : List ℕ → List ℕ → Type 0) → Known x y (IsRead n m P) → IfSome y (λ rest. m < length rest) → IfSome x (λ all. n < length all)
more_read None y n m P one more = tt
more_read (Some b) None n m P one more = absurd one
more_read (Some b) (Some a) n m P one more =
    let both = length-append one.taken a in
    let long = ap (λ (l : List ℕ). length l) one.prefix in
    omega (arith, both, long, one.counted, more)

pub more_before : (x y : Ahead) (P : List ℕ → List ℕ → Type 0) → Between x y P → HasMore y → HasMore x
more_before x y P one more = more_read x.rest y.rest x.left y.left P one more

-- if nothing was read of a script, and more bytes are left than allowed, the script is too long
pub too_long : (x : Ahead) → x.left ≡ 16777216 → HasMore x → IfSome x.rest (λ b. 16777216 < length b)
too_long x whole more = known_map x.rest (λ b. x.left < length b) (λ b. 16777216 < length b) more (λ b few. omega (arith, whole, few))

-- ---- whether a step was done

-- appending a text to what is known of a writer's contents is what `Appends` says
pub appended : (a : Option (List ℕ)) (text : List ℕ) → Appends a (append_known a text) text
appended None text = tt
appended (Some bytes) text = refl

-- if the text of a step was written, the step was done; if the text could not be written, the step was not
-- done
pub done_of : {T : Type 0} (answer : Result T ScriptFault) (Does : List ℕ → List ℕ → Talk → Talk → Type 0) (IsShort IsBad : List ℕ → Type 0) (x y : Ahead) (old new : Talk) (text : List ℕ)
    → Tells old.written new.written text answer
    → ((written : Option (List ℕ)) → Appends old.written written text → Between x y (λ b a. Does b a old (talk new.client written))) → IsDone Does IsShort IsBad x y old new answer
done_of (Ok t) Does IsShort IsBad x y old new text told gives = gives new.written told.1
done_of (Err e) Does IsShort IsBad x y old new text told gives =
    let written = append_known old.written text in
    subst (λ (fault : ScriptFault). IsNotDone Does IsShort IsBad x old new fault) (sym told.0)
    (known_by x y (λ b a. Does b a old (talk new.client written)) (λ b. (new.client ≡ old.client) ⊎ ((a : List ℕ) × (w : Option (List ℕ)) × Does b a old (talk new.client w)))
    (gives written (appended old.written text)) (λ b a does. inr (a, written, does)))

-- if a step reads nothing after its line, and its call was made and answered, it was done
pub does_of : {T : Type 0} (answer : Result T ScriptFault) (Does : Talk → Talk → Type 0) (Obeyed : List ℕ → List ℕ → Talk → Talk → Type 0) (IsShort IsBad : List ℕ → Type 0) (x : Ahead) (old new : Talk)
    → DoesAndTells Does old new answer → ((b : List ℕ) (n : Talk) → Does old n → Obeyed b b old n) → IsDone Obeyed IsShort IsBad x x old new answer
does_of (Ok t) Does Obeyed IsShort IsBad x old new it gives = between_none x (λ b a. Obeyed b a old new) (λ b. gives b new it)
does_of (Err e) Does Obeyed IsShort IsBad x old new it gives =
    subst (λ (fault : ScriptFault). IsNotDone Obeyed IsShort IsBad x old new fault) (sym it.0)
    (known x.rest (λ b. (new.client ≡ old.client) ⊎ ((a : List ℕ) × (w : Option (List ℕ)) × Obeyed b a old (talk new.client w))) (λ b. inr (b, it.1, gives b (talk new.client it.1) it.2)))

-- if what comes after a part that was read can't be read, then the whole can't be read
pub unread_before : (x y : Ahead) (P : List ℕ → List ℕ → Type 0) (left : ℕ) (fault : ScriptFault) → Between x y P → IsNotRead y left fault → IsNotRead x left fault
unread_before x y P left BadLine one why = absurd why
unread_before x y P left EndOfScript one why = absurd why
unread_before x y P left ScriptTooLong one why = (why.0, more_before x y P one why.1)
unread_before x y P left ReadFault one why = tt
unread_before x y P left WriteFault one why = absurd why
unread_before x y P left Stopped one why = absurd why

-- if the end of a source's line could not be read, the source could not be read
pub no_source : (x y : Ahead) (P : List ℕ → List ℕ → Type 0) (count left : ℕ) (fault : ScriptFault) → Between x y P → IsNotRead y left fault → IsNoSource x count left fault
no_source x y P count left BadLine one why = absurd why
no_source x y P count left EndOfScript one why = absurd why
no_source x y P count left ScriptTooLong one why = unread_before x y P left ScriptTooLong one why
no_source x y P count left ReadFault one why = tt
no_source x y P count left WriteFault one why = absurd why
no_source x y P count left Stopped one why = absurd why

-- if a source could not be read, nothing was done
pub not_read : (Does : List ℕ → List ℕ → Talk → Talk → Type 0) (IsShort IsBad : List ℕ → Type 0) (x : Ahead) (left : ℕ) (old new : Talk) (fault : ScriptFault)
    → IsBegun (IfSome x.rest IsBad) old new → IsNotRead x left fault → IsNotDone Does IsShort IsBad x old new fault
not_read Does IsShort IsBad x left old new BadLine begun why = absurd why
not_read Does IsShort IsBad x left old new EndOfScript begun why = absurd why
not_read Does IsShort IsBad x left old new ScriptTooLong begun why = (begun, why.1)
not_read Does IsShort IsBad x left old new ReadFault begun why = begun
not_read Does IsShort IsBad x left old new WriteFault begun why = absurd why
not_read Does IsShort IsBad x left old new Stopped begun why = absurd why

pub not_sent : (Does : List ℕ → List ℕ → Talk → Talk → Type 0) (IsBad : List ℕ → Type 0) (x : Ahead) (count left : ℕ) (h : Talk) (fault : ScriptFault)
    → IsNoSource x count left fault → IsNotDone Does (IsShortOf count) IsBad x h h fault
not_sent Does IsBad x count left h BadLine why = absurd why
not_sent Does IsBad x count left h EndOfScript why = (refl, why)
not_sent Does IsBad x count left h ScriptTooLong why = not_read Does (IsShortOf count) IsBad x left h h ScriptTooLong (inl refl) why
not_sent Does IsBad x count left h ReadFault why = inl refl
not_sent Does IsBad x count left h WriteFault why = absurd why
not_sent Does IsBad x count left h Stopped why = absurd why

-- ---- lines

-- a line of at most 128 bytes asks for what its dialect says
pub asks_short : (dialect : Dialect) (line : List ℕ) → length line ≤ 128 → asked_by_line dialect line ≡ asked_of dialect line
asks_short dialect line short = grind (arith, nat_tests)

-- a line that is too long asks for nothing
pub asks_long : (dialect : Dialect) (line : List ℕ) → 128 < length line → asked_by_line dialect line ≡ None
asks_long dialect line long = grind (arith, nat_tests)

-- a prefix of a line, followed by the rest of that line, is a line
pub line_behind : (before prefix between rest after : List ℕ) → before ≡ prefix ++ between → All (λ byte. byte ≢ 10) prefix → IsLine between rest after → IsLine before (prefix ++ rest) after
line_behind before prefix between rest after is plain line = record {
  plain = All-append (λ (byte : ℕ). byte ≢ 10) prefix rest plain line.plain;
  ends = elim line.ends [
    | inl newline ↦ inl (is ∙ (ap (λ (l : List ℕ). prefix ++ l) newline ∙ sym (append_assoc prefix rest (10 ∷ after))))
    | inr over ↦ inr (is ∙ ap (λ (l : List ℕ). prefix ++ l) over.0, over.1)
  ];
}

-- if a line came, some bytes were left
line_left : (before after line : List ℕ) (next : NextLine) → IsNext before next line after → next ≢ End → before ≢ []
line_left before after line End is other = absurd (other refl)
line_left before after line (Line n) is other = is.0
line_left before after line TooLong is other = λ none.
    let both = length-append is.0 after in
    let whole = ap (λ (l : List ℕ). length l) (sym is.1 ∙ none) in
    absurd (omega (arith, both, whole, is.2))

-- a line that is longer than allowed is a step that makes no call
pub too_long_step : (mode : Mode) → (dialect : Dialect) (before between after line : List ℕ) (old new : Talk) → IsNext before TooLong line between → ((rest : List ℕ) × IsLine between rest after)
    → Writes (script_fault_text BadLine) old new → IsStep mode dialect before after old new
too_long_step mode dialect before between after line old new next skipped wrote =
    let long : 128 < length (next.0 ++ skipped.0) = let n = length-append next.0 skipped.0 in omega (arith, n, next.2) in
    record {
      some = line_left before between line TooLong next (λ over. cc over);
      obeyed = record {
        line = next.0 ++ skipped.0;
        rest = after;
        is_line = line_behind before next.0 between skipped.0 after next.1 next.3 skipped.1;
        holds = subst (λ (asked : Option ScriptRequest). Obeys mode asked after after old new) (sym (asks_long dialect (next.0 ++ skipped.0) long)) (refl, wrote);
      };
    }

-- a line that is obeyed is a step
pub obeyed_step : (mode : Mode) → (dialect : Dialect) (before between after line : List ℕ) (old new : Talk) → length line ≤ 128 → before ≢ [] → IsLine before line between → Obeys mode (asked_of dialect line) between after old new
    → IsStep mode dialect before after old new
obeyed_step mode dialect before between after line old new short some is obeyed = record {
  some = some;
  obeyed = record {
    line = line;
    rest = between;
    is_line = is;
    holds = subst (λ (asked : Option ScriptRequest). Obeys mode asked between after old new) (sym (asks_short dialect line short)) obeyed;
  };
}

-- ---- scripts

-- if some lines are played, and one more step is done, that is one more turn
pub plays_on : (mode : Mode) → (dialect : Dialect) (MayBegin : MemberView → Type 0) (before : List ℕ) (old : Talk) (turns : List Turn) (between : List ℕ) (now : Talk) (after : List ℕ) (new : Talk)
    → Plays mode dialect MayBegin before old turns between now → MayBegin now.client → IsStep mode dialect between after now new
    → Plays mode dialect MayBegin before old (turns ++ (record { rest = after; talk = new }) ∷ []) after new
plays_on mode dialect MayBegin before old [] between now after new it may step = (
  subst (λ (h : Talk). MayBegin h.client) it.1 may,
  subst (λ (l : List ℕ). IsStep mode dialect l after old new) it.0 (subst (λ (h : Talk). IsStep mode dialect between after h new) it.1 step),
  (refl, refl),
)
plays_on mode dialect MayBegin before old (turn ∷ turns) between now after new it may step =
    (it.0, it.1, plays_on mode dialect MayBegin turn.rest turn.talk turns between now after new it.2 may step)

-- if nothing is left, the whole script is played
pub played : (mode : Mode) → (dialect : Dialect) (most : Option ℕ) (script : List ℕ) (first : Talk) (turns : List Turn) (rest : List ℕ) (last : Talk) → IsWithin most (length turns)
    → Plays mode dialect (IsLight most first.client) script first turns rest last → rest ≡ [] → IsPlayed mode dialect most script first last
played mode dialect most script first turns rest last few plays over = record { turns = turns; few = few; rest = rest; between = last; plays = plays; stops = (over, refl) }

-- the client is as before the next step, or as after that step, whose answer could not be written
abbrev pub NextIs : (mode : Mode) → Dialect → (most : Option ℕ) (first : MemberView) (lines : ℕ) (rest : List ℕ) (between : Talk) (last : MemberView) → Type 0
NextIs mode dialect most first lines rest between last =
    (last ≡ between.client)
    ⊎ (NextMayBegin most first lines between.client × (after : List ℕ) × (written : Option (List ℕ)) × IsStep mode dialect rest after between (talk last written))

-- A prefix of the script is done, and perhaps the next step.
abbrev pub IsPlayedInPart : (mode : Mode) → Dialect → (most : Option ℕ) (script : List ℕ) (first last : Talk) → Type 0
IsPlayedInPart mode dialect most script first last =
    IsPlayedUpTo mode dialect most script (λ lines rest now. NextIs mode dialect most first.client lines rest now last.client) first

-- if a prefix of the script is done, and perhaps the next step, the script is played in part
pub played_up_to : (mode : Mode) → (dialect : Dialect) (most : Option ℕ) (script : List ℕ) (first : Talk) (turns : List Turn) (rest : List ℕ) (between last : Talk) → IsWithin most (length turns)
    → Plays mode dialect (IsLight most first.client) script first turns rest between → NextIs mode dialect most first.client (length turns) rest between last.client
    → IsPlayedInPart mode dialect most script first last
played_up_to mode dialect most script first turns rest between last few plays it = record { turns = turns; few = few; rest = rest; between = between; plays = plays; stops = it }

pub some_left : (x y : Ahead) (next : NextLine) (line : List ℕ) → Between x y (λ b a. IsNext b next line a) → next ≢ End → IfSome x.rest (λ b. b ≢ [])
some_left x y next line it other = known_by x y (λ b a. IsNext b next line a) (λ b. b ≢ []) it (λ b a is. line_left b a line next is other)

-- ---- lines that are refused, and sources

-- if 50 was written for a line and the line was skipped, its step was done; else the step was not done
pub skipped : {T : Type 0} (answer : Result T ScriptFault) (Does : List ℕ → List ℕ → Talk → Talk → Type 0) (IsShort IsBad : List ℕ → Type 0) (x y z : Ahead) (left : ℕ) (old new : Talk)
    (P : List ℕ → List ℕ → Type 0) → new.client ≡ old.client → Between x y P → OnOk answer (Between y z (λ b a. (rest : List ℕ) × IsLine b rest a))
    → OnOk answer (Appends old.written new.written (script_fault_text BadLine))
    → IfErr answer (λ fault. (fault ≡ WriteFault) ⊎ (Appends old.written new.written (script_fault_text BadLine) × IsNotRead y left fault))
    → ((b m : List ℕ) → P b m → IsBad b)
    → ((b m a : List ℕ) → P b m → ((rest : List ℕ) × IsLine m rest a) → Writes (script_fault_text BadLine) old new → Does b a old new) → IsDone Does IsShort IsBad x z old new answer
skipped (Ok t) Does IsShort IsBad x y z left old new P same one two wrote why bad on =
    between_then x y z P (λ b a. (rest : List ℕ) × IsLine b rest a) (λ b a. Does b a old new) one two (λ b m a p line. on b m a p line (same, wrote))
skipped (Err e) Does IsShort IsBad x y z left old new P same one two wrote (inl unwritten) bad on =
    subst (λ (fault : ScriptFault). IsNotDone Does IsShort IsBad x old new fault) (sym unwritten)
    (known x.rest (λ b. (new.client ≡ old.client) ⊎ ((a : List ℕ) × (w : Option (List ℕ)) × Does b a old (talk new.client w))) (λ b. inl same))
skipped (Err e) Does IsShort IsBad x y z left old new P same one two wrote (inr why) bad on =
    not_read Does IsShort IsBad x left old new e (inr (known_by x y P IsBad one (λ b m p. bad b m p), (same, why.0))) (unread_before x y P left e one why.1)

-- if a source and what comes after it were read, `sent` is what was sent
pub sent_step : (b m a : List ℕ) (count : ℕ) (source : Option (Vec ℕ Global)) (is_ended : Bool) (sent : Sent) → IsSentAs source is_ended sent
    → IsSource b count (option_map (λ bytes. bytes.items) source) m → IsLineEnd m is_ended a → HasSent b count sent a
sent_step b m a count (Some bytes) true sent is read ended =
    subst (λ (s : Sent). HasSent b count s a) (sym is) (read.source, m, read.prefix, read.count_is, ended, read.kept_is)
sent_step b m a count None true sent is read ended =
    subst (λ (s : Sent). HasSent b count s a) (sym is) (read.source, m, read.prefix, read.count_is, ended)
sent_step b m a count (Some bytes) false sent is read ended =
    subst (λ (s : Sent). HasSent b count s a) (sym is)
    (read.source, ended.0, read.prefix ∙ ap (λ (l : List ℕ). read.source ++ l) ended.2, read.count_is, ended.1)
sent_step b m a count None false sent is read ended =
    subst (λ (s : Sent). HasSent b count s a) (sym is)
    (read.source, ended.0, read.prefix ∙ ap (λ (l : List ℕ). read.source ++ l) ended.2, read.count_is, ended.1)

pub sent_on : (x y z : Ahead) (count : ℕ) (source : Option (Vec ℕ Global)) (is_ended : Bool) (sent : Sent) → IsSentAs source is_ended sent
    → Between x y (λ b a. IsSource b count (option_map (λ bytes. bytes.items) source) a) → Between y z (λ b a. IsLineEnd b is_ended a)
    → Between x z (λ b a. HasSent b count sent a)
sent_on x y z count source is_ended sent is read ended =
    between_then x y z (λ b a. IsSource b count (option_map (λ bytes. bytes.items) source) a) (λ b a. IsLineEnd b is_ended a) (λ b a. HasSent b count sent a) read ended
    (λ b m a one two. sent_step b m a count source is_ended sent is one two)

-- if nothing of a script was read, all its bytes are ahead
pub unread : (remaining : Option (List ℕ)) → ◌≡◌ {A = Ahead} (record { rest = rest_from [] false remaining; left = 16777216 }) (record { rest = remaining; left = 16777216 })
unread None = refl
unread (Some bytes) = refl
