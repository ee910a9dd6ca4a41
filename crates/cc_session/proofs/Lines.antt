-- The lines of a script are its steps, each of at least one byte. If the script stopped, its client is as these steps left it.
use Rattle.std.proofs.Common.{◌≡◌, ℕ, ◌+◌, ◌<◌, ◌≤◌, List, [], ◌∷◌, ◌++◌, length, take, Option, Some, None, ap, refl, sym, ◌∙◌, subst, arith, inl, inr}
use Rattle.std.specs.Prelude.{◌⊎◌, ◌≢◌, IfSome, IsSome}
use Rattle.std.specs.Io.KnownBytes.{Appends}
use Rattle.std.proofs.KnownBytes.{Appends-nil}
use Rattle.std.proofs.lemmas.List.{length-append, length-take}
use Rattle.cc_script.specs.Line.{ScriptRequest, asked_of}
use Rattle.cc_script.specs.Reading.{Ahead, Between, HasMore, IsLine, IsNext, IsNotRead}
use Rattle.cc_script.specs.declared.command.Dialect.{Dialect}
use Rattle.cc_script.specs.declared.fault.ScriptFault.{ScriptFault}
use Rattle.cc_script.specs.declared.fault.ScriptFault.TheVariants.{BadLine, EndOfScript, ScriptTooLong, ReadFault, WriteFault, Stopped}
use Rattle.cc_script.specs.declared.script.NextLine.TheVariants.{End, Line, TooLong}
use Rattle.cc_answers.specs.Telling.{script_fault_text}
use Rattle.cc_history.specs.History.{MemberView}
use Rattle.cc_c_semantics.specs.declared.mode.Mode.{Mode}
use Rattle.cc_session.specs.Playing.{BeginsBad, CutsLine, HasUnended, IsBegun, IsCutShort, IsEnding, IsEndedBy, IsLight, IsPlayed, IsPlayedUpTo, IsStep, IsStopped, IsStoppedBy, IsTooLong, IsWithin, NextLineAsks, NextMayBegin, Obeys, Plays, StopsBy, Talk, Turn, Writes, asked_by_line, talk}
use Rattle.cc_session.specs.internal.Steps.{EndsBehind, IsLimit, IsNoLine, IsNotDone, IsObeyedNot, MayGoOn}
use Rattle.cc_session.proofs.Cutting.{cut_obeyed}
use Rattle.cc_session.proofs.Playing.{IsPlayedInPart, asks_short, between_none, between_on, known, known_both, known_by, known_map, known_then, more_before, obeyed_step, played, played_up_to, plays_on, too_long, too_long_step, unread_before}

-- ---- lines that are done

-- `count` lines have been played so far, from `start` to `now`
pub record Played (mode : Mode) (dialect : Dialect) (most : Option ℕ) (count : ℕ) (start now : Talk) (b a : List ℕ) : Type 0 where
  pub takes : count + length a ≤ length b
  pub few : IsWithin most count
  pub turns : List Turn
  pub many : length turns ≡ count
  pub plays : Plays mode dialect (IsLight most start.client) b start turns a now

within_none : (most : Option ℕ) → IsWithin most 0
within_none None = tt
within_none (Some most) = omega arith

-- if the bound is not reached, one more line is within the bound
within_more : (most : Option ℕ) (count : ℕ) → IsWithin most count → most ≢ Some count → IsWithin most (count + 1)
within_more None count few more = tt
within_more (Some most) count few more =
    let apart : most ≢ count = λ same. more (ap (λ (n : ℕ). Some n) same) in
    omega (arith, few, apart)

few_of : (mode : Mode) → (dialect : Dialect) (most : Option ℕ) (count : ℕ) (start now : Talk) (b a : List ℕ) (it : Played mode dialect most count start now b a) → IsWithin most (length it.turns)
few_of mode dialect most count start now b a it = subst (λ (n : ℕ). IsWithin most n) (sym it.many) it.few

-- nothing has been played
pub begins : (mode : Mode) → (dialect : Dialect) (most : Option ℕ) (x : Ahead) (now : Talk) → Between x x (Played mode dialect most 0 now now)
begins mode dialect most x now = between_none x (Played mode dialect most 0 now now) (λ b. record { takes = omega arith; few = within_none most; turns = []; many = refl; plays = (refl, refl) })

-- a step is done that takes at least one byte
abbrev pub Steps : (mode : Mode) → (dialect : Dialect) (old new : Talk) → List ℕ → List ℕ → Type 0
Steps mode dialect old new b a = (length a < length b) × IsStep mode dialect b a old new

some_length : (bytes : List ℕ) → bytes ≢ [] → 0 < length bytes
some_length [] some = absurd (some refl)
some_length (byte ∷ bytes) some = omega arith

-- a line takes at least one byte
line_takes : (before line after : List ℕ) → before ≢ [] → IsLine before line after → length after < length before
line_takes before line after some is = elim is.ends [
  | inl newline ↦
      let whole = ap (λ (l : List ℕ). length l) newline in
      let both = length-append line (10 ∷ after) in
      omega (arith, whole, both)
  | inr over ↦
      let none = ap (λ (l : List ℕ). length l) over.1 in
      let few = some_length before some in
      omega (arith, none, few)
]

-- if `count` lines have been played, and one more step is done, then `count + 1` have been played
pub step_on : (mode : Mode) → (dialect : Dialect) (most : Option ℕ) (x y z : Ahead) (count : ℕ) (start old new : Talk) → MayGoOn most start.client count old.client → Between x y (Played mode dialect most count start old) → Between y z (Steps mode dialect old new)
    → Between x z (Played mode dialect most (count + 1) start new)
step_on mode dialect most x y z count start old new more one two =
    between_on x y z (Played mode dialect most count start old) (Steps mode dialect old new) (Played mode dialect most (count + 1) start new) one two
    (λ b m a first second it step.
    let turn : Turn = record { rest = a; talk = new } in
    let both = length-append it.turns (turn ∷ []) in
    record {
      takes = omega (arith, it.takes, step.0);
      few = within_more most count it.few more.0;
      turns = it.turns ++ turn ∷ [];
      many = omega (arith, both, it.many);
      plays = plays_on mode dialect (IsLight most start.client) b start it.turns m old a new it.plays more.1 step.1;
    })

short : (n : ℕ) (line : List ℕ) → n ≤ 128 → length (take n line) ≤ 128
short n line few = let most = length-take n line in omega (arith, most, few)

-- a line that is obeyed is a further step
pub line_on : (mode : Mode) → (dialect : Dialect) (most : Option ℕ) (x y m z : Ahead) (count : ℕ) (start old new : Talk) (n : ℕ) (line : List ℕ) → n ≤ 128 → MayGoOn most start.client count old.client → Between x y (Played mode dialect most count start old)
    → Between y m (λ b a. IsNext b (Line n) line a) → Between m z (λ b a. Obeys mode (asked_of dialect (take n line)) b a old new) → Between x z (Played mode dialect most (count + 1) start new)
line_on mode dialect most x y m z count start old new n line few more one next obeyed =
    step_on mode dialect most x y z count start old new more one
    (between_on y m z (λ b a. IsNext b (Line n) line a) (λ b a. Obeys mode (asked_of dialect (take n line)) b a old new) (Steps mode dialect old new) next obeyed
    (λ b k a first second is does.
    let less = line_takes b (take n line) k is.0 is.1 in
    (omega (arith, less, second), obeyed_step mode dialect b k a (take n line) old new (short n line few) is.0 is.1 does)))

-- a line that is too long and is skipped is a further step
pub skip_on : (mode : Mode) → (dialect : Dialect) (most : Option ℕ) (x y m z : Ahead) (count : ℕ) (start old new : Talk) (line : List ℕ) → MayGoOn most start.client count old.client → Between x y (Played mode dialect most count start old)
    → Between y m (λ b a. IsNext b TooLong line a) → Between m z (λ b a. (rest : List ℕ) × IsLine b rest a) → Writes (script_fault_text BadLine) old new
    → Between x z (Played mode dialect most (count + 1) start new)
skip_on mode dialect most x y m z count start old new line more one next skipped wrote =
    step_on mode dialect most x y z count start old new more one
    (between_on y m z (λ b a. IsNext b TooLong line a) (λ b a. (rest : List ℕ) × IsLine b rest a) (Steps mode dialect old new) next skipped
    (λ b k a first second is rest.
    let both = length-append is.0 k in
    let whole = ap (λ (l : List ℕ). length l) is.1 in
    (omega (arith, both, whole, is.2, second), too_long_step mode dialect b k a line old new is rest wrote)))

-- ---- scripts that end

-- at the end of the script all of it is played
pub script_ends : (mode : Mode) → (dialect : Dialect) (most : Option ℕ) (x y z : Ahead) (count : ℕ) (start now : Talk) (line : List ℕ) → Between x y (Played mode dialect most count start now)
    → Between y z (λ b a. IsNext b End line a) → IfSome x.rest (λ b. IsPlayed mode dialect most b start now)
script_ends mode dialect most x y z count start now line one next =
    known_then x y (Played mode dialect most count start now) (λ b. b ≡ []) (λ b. IsPlayed mode dialect most b start now) one (known_by y z (λ b a. IsNext b End line a) (λ b. b ≡ []) next (λ b a none. none))
    (λ b m it none. played mode dialect most b start it.turns m now (few_of mode dialect most count start now b m it) it.plays none)

-- a script stopped within a source of its next line, which may be begun
abbrev pub IsCutIn : Dialect → (most : Option ℕ) (first : MemberView) (lines : ℕ) (rest : List ℕ) (now : MemberView) → Type 0
IsCutIn dialect most first lines rest now = NextMayBegin most first lines now × NextLineAsks dialect IsCutShort rest

-- A prefix of the script is done, and at most 50 was written for the next line. `Stops` holds at that point.
abbrev pub StopsBefore : (mode : Mode) → Dialect → (most : Option ℕ) (script : List ℕ) (Stops : (lines : ℕ) (rest : List ℕ) (now : MemberView) → Type 0) (first last : Talk) → Type 0
StopsBefore mode dialect most script Stops first last =
    IsPlayedUpTo mode dialect most script (λ lines rest now. IsBegun (BeginsBad dialect rest) now last × Stops lines rest now.client) first

-- a script stopped after the lines so far, with `rest` left: at most 50 was written for the next line, and `Stops` holds
abbrev pub Halts : (dialect : Dialect) (most : Option ℕ) (count : ℕ) (now last : Talk) (Stops : List ℕ → ℕ → List ℕ → MemberView → Type 0) (rest : List ℕ) → Type 0
Halts dialect most count now last Stops rest = IsBegun (BeginsBad dialect rest) now last × ((script : List ℕ) → IsWithin most count → Stops script count rest now.client)

-- if the script stopped after the lines so far, it is played up to that point
up_to : (mode : Mode) → (dialect : Dialect) (most : Option ℕ) (x y : Ahead) (count : ℕ) (start now last : Talk) (Stops : List ℕ → ℕ → List ℕ → MemberView → Type 0) → Between x y (Played mode dialect most count start now)
    → IfSome y.rest (Halts dialect most count now last Stops) → IfSome x.rest (λ b. StopsBefore mode dialect most b (Stops b) start last)
up_to mode dialect most x y count start now last Stops one stops =
    known_then x y (Played mode dialect most count start now) (Halts dialect most count now last Stops) (λ b. StopsBefore mode dialect most b (Stops b) start last) one stops
    (λ b m it why. record {
      turns = it.turns;
      few = few_of mode dialect most count start now b m it;
      rest = m;
      between = now;
      plays = it.plays;
      stops = (why.0, subst (λ (n : ℕ). Stops b n m now.client) (sym it.many) (why.1 b it.few));
    })

anywhere : (mode : Mode) → (dialect : Dialect) (most : Option ℕ) (x y : Ahead) (count : ℕ) (start now last : Talk) → Between x y (Played mode dialect most count start now)
    → IfSome y.rest (λ rest. IsBegun (BeginsBad dialect rest) now last) → IfSome x.rest (λ b. IsStoppedBy mode dialect most ReadFault b start last)
anywhere mode dialect most x y count start now last one begun =
    known_then x y (Played mode dialect most count start now) (λ rest. IsBegun (BeginsBad dialect rest) now last) (λ b. IsStoppedBy mode dialect most ReadFault b start last) one begun
    (λ b m it why. record { turns = it.turns; few = few_of mode dialect most count start now b m it; rest = m; between = now; plays = it.plays; stops = why })

-- nothing of the next line was done
unbegun : (dialect : Dialect) (o : Option (List ℕ)) (now : Talk) → IfSome o (λ rest. IsBegun (BeginsBad dialect rest) now now)
unbegun dialect o now = known o (λ rest. IsBegun (BeginsBad dialect rest) now now) (λ rest. inl refl)

-- a script that has too many bytes is too long
by_bytes : (most : Option ℕ) (script : List ℕ) (first : MemberView) (lines : ℕ) (rest : List ℕ) (now : MemberView) → 16777216 < length script → IsTooLong most script first lines rest now
by_bytes None script first lines rest now long = long
by_bytes (Some most) script first lines rest now long = inl long

too_long_there : (mode : Mode) → (dialect : Dialect) (most : Option ℕ) (x y : Ahead) (count : ℕ) (start now last : Talk) → x.left ≡ 16777216 → Between x y (Played mode dialect most count start now) → HasMore y
    → IfSome y.rest (λ rest. IsBegun (BeginsBad dialect rest) now last) → IfSome x.rest (λ b. IsStoppedBy mode dialect most ScriptTooLong b start last)
too_long_there mode dialect most x y count start now last whole one more begun =
    let long = too_long x whole (more_before x y (Played mode dialect most count start now) one more) in
    let there = anywhere mode dialect most x y count start now last one begun in
    known_map x.rest (λ b. (16777216 < length b) × IsStoppedBy mode dialect most ReadFault b start last) (λ b. IsStoppedBy mode dialect most ScriptTooLong b start last)
    (known_both x.rest (λ b. 16777216 < length b) (λ b. IsStoppedBy mode dialect most ReadFault b start last) long there)
    (λ b it. record {
      turns = it.1.turns;
      few = it.1.few;
      rest = it.1.rest;
      between = it.1.between;
      plays = it.1.plays;
      stops = (it.1.stops, by_bytes most b start.client (length it.1.turns) it.1.rest it.1.between.client it.0);
    })

-- a script that is not at its end is too long if as many lines are done as are allowed, or if the receipts hold too much
at_bound : (most : Option ℕ) (script : List ℕ) (first : MemberView) (lines : ℕ) (rest : List ℕ) (now : MemberView) → EndsBehind most first lines now ScriptTooLong → rest ≢ []
    → IsTooLong most script first lines rest now
at_bound most script first lines rest now bound some = subst (λ (o : Option ℕ). IsTooLong o script first lines rest now) (sym bound.1) (inr (some, bound.2))

-- a fault ended the script
abbrev pub IsHaltedBy : (mode : Mode) → Dialect → (most : Option ℕ) → (script : Option (List ℕ)) (first last : Talk) → ScriptFault → Type 0
IsHaltedBy mode dialect most script first last fault = IsEnding most fault × IfSome script (λ b. IsStoppedBy mode dialect most fault b first last)

-- the script ends if the next line could not be read, or could not be read to its end
unread_ends : (mode : Mode) → (dialect : Dialect) (most : Option ℕ) (x y : Ahead) (count : ℕ) (start now last : Talk) (left : ℕ) (fault : ScriptFault) → x.left ≡ 16777216 → Between x y (Played mode dialect most count start now)
    → IfSome y.rest (λ rest. IsBegun (BeginsBad dialect rest) now last) → IsNotRead y left fault → IsHaltedBy mode dialect most x.rest start last fault
unread_ends mode dialect most x y count start now last left BadLine whole one begun why = absurd why
unread_ends mode dialect most x y count start now last left EndOfScript whole one begun why = absurd why
unread_ends mode dialect most x y count start now last left ScriptTooLong whole one begun why = (tt, too_long_there mode dialect most x y count start now last whole one why.1 begun)
unread_ends mode dialect most x y count start now last left ReadFault whole one begun why = (tt, anywhere mode dialect most x y count start now last one begun)
unread_ends mode dialect most x y count start now last left WriteFault whole one begun why = absurd why
unread_ends mode dialect most x y count start now last left Stopped whole one begun why = absurd why

-- if more of the script is left, and the fault is a limit, the fault ends the script
limit_ends : (mode : Mode) → (dialect : Dialect) (most : Option ℕ) (x y : Ahead) (count : ℕ) (start now : Talk) (fault : ScriptFault) → Between x y (Played mode dialect most count start now)
    → EndsBehind most start.client count now.client fault → IfSome y.rest (λ b. b ≢ []) → IsHaltedBy mode dialect most x.rest start now fault
limit_ends mode dialect most x y count start now BadLine one bound some = absurd bound
limit_ends mode dialect most x y count start now EndOfScript one bound some = absurd bound
limit_ends mode dialect most x y count start now ScriptTooLong one bound some = (
  tt,
  up_to mode dialect most x y count start now now (λ b. IsTooLong most b start.client) one
      (known_map y.rest (λ b. b ≢ []) (Halts dialect most count now now (λ b. IsTooLong most b start.client)) some
      (λ b left. (inl refl, λ script few. at_bound most script start.client count b now.client bound left))),
)
limit_ends mode dialect most x y count start now ReadFault one bound some = absurd bound
limit_ends mode dialect most x y count start now WriteFault one bound some = absurd bound
limit_ends mode dialect most x y count start now Stopped one bound some = (
  bound,
  known_then x y (Played mode dialect most count start now) (λ b. b ≢ []) (λ b. IsStoppedBy mode dialect most Stopped b start now) one some (λ b m it left. record {
    turns = it.turns;
    few = few_of mode dialect most count start now b m it;
    rest = m;
    between = now;
    plays = it.plays;
    stops = (left, inl refl);
  }),
)

-- if no line came, because of the limit or because it can't be read, the fault ends the script
pub no_line_ends : (mode : Mode) → (dialect : Dialect) (most : Option ℕ) (x y : Ahead) (count : ℕ) (start now : Talk) (left : ℕ) (limit : Option ScriptFault) (fault : ScriptFault) → x.left ≡ 16777216
    → Between x y (Played mode dialect most count start now) → IsLimit most start.client count now.client limit → IsNoLine limit y left fault → IsHaltedBy mode dialect most x.rest start now fault
no_line_ends mode dialect most x y count start now left limit fault whole one bound (inl why) =
    unread_ends mode dialect most x y count start now now left fault whole one (unbegun dialect y.rest now) why
no_line_ends mode dialect most x y count start now left limit fault whole one bound (inr (is, some)) =
    limit_ends mode dialect most x y count start now fault one (subst (λ (o : Option ScriptFault). IsLimit most start.client count now.client o) is bound) some

-- if a line came, it may be done
pub line_follows : (most : Option ℕ) (first : MemberView) (lines : ℕ) (now : MemberView) (limit : Option ScriptFault) → IsLimit most first lines now limit → limit ≡ None → MayGoOn most first lines now
line_follows most first lines now limit bound none = subst (λ (o : Option ScriptFault). IsLimit most first lines now o) none bound

-- the script ends if a line that is too long was refused, but the refusal could not be written, or the line could not be skipped
pub skip_ends : (mode : Mode) → (dialect : Dialect) (most : Option ℕ) (x y m : Ahead) (count : ℕ) (start old new : Talk) (line : List ℕ) (left : ℕ) (fault : ScriptFault) → x.left ≡ 16777216 → new.client ≡ old.client
    → Between x y (Played mode dialect most count start old) → Between y m (λ b a. IsNext b TooLong line a)
    → (fault ≡ WriteFault) ⊎ (Appends old.written new.written (script_fault_text BadLine) × IsNotRead m left fault) → IsHaltedBy mode dialect most x.rest start new fault
skip_ends mode dialect most x y m count start old new line left fault whole same one next (inl unwritten) =
    subst (λ (f : ScriptFault). IsHaltedBy mode dialect most x.rest start new f) (sym unwritten) (
      tt,
      known_by x y (Played mode dialect most count start old) (λ b. IsPlayedInPart mode dialect most b start new) one
          (λ b a it. played_up_to mode dialect most b start it.turns a old new (few_of mode dialect most count start old b a it) it.plays (inl same)),
    )
skip_ends mode dialect most x y m count start old new line left fault whole same one next (inr why) =
    unread_ends mode dialect most x y count start old new left fault whole one
    (known_by y m (λ b a. IsNext b TooLong line a) (λ b. IsBegun (BeginsBad dialect b) old new) next (λ b a is. inr (inl (is.0, a, is.1, is.2, is.3), (same, why.0))))
    (unread_before y m (λ b a. IsNext b TooLong line a) left fault next why.1)

-- a line whose source is not followed by a newline is refused before it is read to its end
bad_line : (dialect : Dialect) (y m : Ahead) (old new : Talk) (n : ℕ) (line : List ℕ) → n ≤ 128 → Between y m (λ b a. IsNext b (Line n) line a)
    → IsBegun (IfSome m.rest (λ rest. HasUnended (asked_of dialect (take n line)) rest)) old new → IfSome y.rest (λ b. IsBegun (BeginsBad dialect b) old new)
bad_line dialect y m old new n line few next (inl same) = known y.rest (λ b. IsBegun (BeginsBad dialect b) old new) (λ b. inl same)
bad_line dialect y m old new n line few next (inr (bad, wrote)) =
    known_then y m (λ b a. IsNext b (Line n) line a) (λ rest. HasUnended (asked_of dialect (take n line)) rest) (λ b. IsBegun (BeginsBad dialect b) old new) next bad
    (λ b k is unended. inr (
      inr (record {
        line = take n line;
        rest = k;
        is_line = is.1;
        holds = subst (λ (asked : Option ScriptRequest). HasUnended asked k) (sym (asks_short dialect (take n line) (short n line few))) unended;
      }),
      wrote,
    ))

-- the script ends at a line that was not obeyed, or whose answer could not be written
line_ends : (mode : Mode) → (dialect : Dialect) (most : Option ℕ) (x y m : Ahead) (count : ℕ) (start old new : Talk) (n : ℕ) (line : List ℕ) (fault : ScriptFault) → n ≤ 128 → MayGoOn most start.client count old.client → x.left ≡ 16777216
    → Between x y (Played mode dialect most count start old) → Between y m (λ b a. IsNext b (Line n) line a)
    → IsNotDone (λ b a o w. Obeys mode (asked_of dialect (take n line)) b a o w) (λ rest. IsCutShort (asked_of dialect (take n line)) rest) (λ rest. HasUnended (asked_of dialect (take n line)) rest) m old new fault
    → IsHaltedBy mode dialect most x.rest start new fault
line_ends mode dialect most x y m count start old new n line BadLine few more whole one next ended = absurd ended
line_ends mode dialect most x y m count start old new n line Stopped few more whole one next ended = absurd ended
line_ends mode dialect most x y m count start old new n line EndOfScript few more whole one next ended =
    let stops = known_then y m (λ b a. IsNext b (Line n) line a) (λ rest. IsCutShort (asked_of dialect (take n line)) rest)
    (Halts dialect most count old old (λ script. IsCutIn dialect most start.client))
    next ended.1 (λ b k is cut. (
      inl refl,
      λ script within. (
        (within_more most count within more.0, more.1),
        record {
          line = take n line;
          rest = k;
          is_line = is.1;
          holds = subst (λ (asked : Option ScriptRequest). IsCutShort asked k) (sym (asks_short dialect (take n line) (short n line few))) cut;
        },
      ),
    )) in (
      tt,
      subst (λ (h : Talk). IfSome x.rest (λ b. StopsBefore mode dialect most b (IsCutIn dialect most start.client) start h)) (sym ended.0)
          (up_to mode dialect most x y count start old old (λ script. IsCutIn dialect most start.client) one stops),
    )
line_ends mode dialect most x y m count start old new n line ScriptTooLong few more whole one next ended = (
  tt,
  too_long_there mode dialect most x y count start old new whole one (more_before y m (λ b a. IsNext b (Line n) line a) next ended.1) (bad_line dialect y m old new n line few next ended.0),
)
line_ends mode dialect most x y m count start old new n line ReadFault few more whole one next ended =
    (tt, anywhere mode dialect most x y count start old new one (bad_line dialect y m old new n line few next ended))
line_ends mode dialect most x y m count start old new n line WriteFault few more whole one next ended =
    let last = known_then y m (λ b a. IsNext b (Line n) line a)
    (λ b. (new.client ≡ old.client) ⊎ ((a : List ℕ) × (w : Option (List ℕ)) × Obeys mode (asked_of dialect (take n line)) b a old (talk new.client w)))
    (λ b. (new.client ≡ old.client) ⊎ ((a : List ℕ) × (w : Option (List ℕ)) × IsStep mode dialect b a old (talk new.client w))) next ended (λ b k is how. elim how [
      | inl same ↦ inl same
      | inr it ↦ inr (it.0, it.1, obeyed_step mode dialect b k it.0 (take n line) old (talk new.client it.1) (short n line few) is.0 is.1 it.2)
    ]) in (
      tt,
      known_then x y (Played mode dialect most count start old) (λ b. (new.client ≡ old.client) ⊎ ((a : List ℕ) × (w : Option (List ℕ)) × IsStep mode dialect b a old (talk new.client w)))
          (λ b. IsPlayedInPart mode dialect most b start new) one last
          (λ b k it how. played_up_to mode dialect most b start it.turns k old new (few_of mode dialect most count start old b k it) it.plays (elim how [
            | inl same ↦ inl same
            | inr step ↦ inr ((subst (λ (l : ℕ). IsWithin most (l + 1)) (sym it.many) (within_more most count it.few more.0), more.1), step.0, step.1, step.2)
          ])),
    )

-- the script ends at a `run` that was cut off
cut_ends : (mode : Mode) → (dialect : Dialect) (most : Option ℕ) (x y m : Ahead) (count : ℕ) (start old new : Talk) (n : ℕ) (line : List ℕ) → n ≤ 128 → MayGoOn most start.client count old.client
    → Between x y (Played mode dialect most count start old) → Between y m (λ b a. IsNext b (Line n) line a) → IsSome most → CutsLine (asked_of dialect (take n line)) old new
    → IsHaltedBy mode dialect most x.rest start new Stopped
cut_ends mode dialect most x y m count start old new n line few more one next bounded cut =
    let there = known_by y m (λ b a. IsNext b (Line n) line a) (λ b. (b ≢ []) × NextLineAsks dialect (λ asked after. CutsLine asked old new) b) next (λ b k is. (
      is.0,
      record {
        line = take n line;
        rest = k;
        is_line = is.1;
        holds = subst (λ (asked : Option ScriptRequest). CutsLine asked old new) (sym (asks_short dialect (take n line) (short n line few))) cut;
      },
    )) in (
      bounded,
      known_then x y (Played mode dialect most count start old) (λ b. (b ≢ []) × NextLineAsks dialect (λ asked after. CutsLine asked old new) b) (λ b. IsStoppedBy mode dialect most Stopped b start new) one there (λ b k it cuts. record {
        turns = it.turns;
        few = few_of mode dialect most count start old b k it;
        rest = k;
        between = old;
        plays = it.plays;
        stops = (cuts.0, inr ((subst (λ (l : ℕ). IsWithin most (l + 1)) (sym it.many) (within_more most count it.few more.0), more.1), cuts.1));
      }),
    )

-- the script ends at a line that was not obeyed
pub obey_ends : (mode : Mode) → (dialect : Dialect) (most : Option ℕ) (x y m : Ahead) (count : ℕ) (start old new : Talk) (n : ℕ) (line : List ℕ) (fault : ScriptFault) → n ≤ 128 → MayGoOn most start.client count old.client → x.left ≡ 16777216
    → Between x y (Played mode dialect most count start old) → Between y m (λ b a. IsNext b (Line n) line a) → IsObeyedNot mode most (asked_of dialect (take n line)) m old new fault
    → IsHaltedBy mode dialect most x.rest start new fault
obey_ends mode dialect most x y m count start old new n line BadLine few more whole one next ended = line_ends mode dialect most x y m count start old new n line BadLine few more whole one next ended
obey_ends mode dialect most x y m count start old new n line EndOfScript few more whole one next ended = line_ends mode dialect most x y m count start old new n line EndOfScript few more whole one next ended
obey_ends mode dialect most x y m count start old new n line ScriptTooLong few more whole one next ended = line_ends mode dialect most x y m count start old new n line ScriptTooLong few more whole one next ended
obey_ends mode dialect most x y m count start old new n line ReadFault few more whole one next ended = line_ends mode dialect most x y m count start old new n line ReadFault few more whole one next ended
obey_ends mode dialect most x y m count start old new n line WriteFault few more whole one next ended = line_ends mode dialect most x y m count start old new n line WriteFault few more whole one next ended
obey_ends mode dialect most x y m count start old new n line Stopped few more whole one next ended = cut_ends mode dialect most x y m count start old new n line few more one next ended.0 ended.1

-- a script that has more lines than it may have bytes is too long
pub lines_end : (mode : Mode) → (dialect : Dialect) (most : Option ℕ) (x y : Ahead) (count : ℕ) (start now : Talk) → 16777216 < count → Between x y (Played mode dialect most count start now)
    → IsHaltedBy mode dialect most x.rest start now ScriptTooLong
lines_end mode dialect most x y count start now many one = (
  tt,
  known_by x y (Played mode dialect most count start now) (λ b. IsStoppedBy mode dialect most ScriptTooLong b start now) one
      (λ b a it. record {
        turns = it.turns;
        few = few_of mode dialect most count start now b a it;
        rest = a;
        between = now;
        plays = it.plays;
        stops = (inl refl, by_bytes most b start.client (length it.turns) a now.client (omega (arith, many, it.takes)));
      }),
)

-- ---- the line for the fault itself

client_of : (Bad : Type 0) (old new : Talk) → IsBegun Bad old new → new.client ≡ old.client
client_of Bad old new (inl same) = ap (λ (t : Talk). t.client) same
client_of Bad old new (inr (bad, wrote)) = wrote.0

part_of : (mode : Mode) → (dialect : Dialect) (most : Option ℕ) (script : List ℕ) (Stops : ℕ → List ℕ → Talk → Type 0) (old between new : Talk) → new.client ≡ between.client
    → ((lines : ℕ) (rest : List ℕ) (now : Talk) → Stops lines rest now → IsBegun (BeginsBad dialect rest) now between) → IsPlayedUpTo mode dialect most script Stops old
    → IsPlayedInPart mode dialect most script old new
part_of mode dialect most script Stops old between new same begun it =
    played_up_to mode dialect most script old it.turns it.rest it.between new it.few it.plays
    (inl (same ∙ client_of (BeginsBad dialect it.rest) it.between between (begun (length it.turns) it.rest it.between it.stops)))

-- what is known about a client holds for an equal client
in_part_of : (mode : Mode) → (dialect : Dialect) (most : Option ℕ) (script : List ℕ) (old between new : Talk) → new.client ≡ between.client → IsPlayedInPart mode dialect most script old between → IsPlayedInPart mode dialect most script old new
in_part_of mode dialect most script old between new same it =
    played_up_to mode dialect most script old it.turns it.rest it.between new it.few it.plays (elim it.stops [
      | inl as_it_was ↦ inl (same ∙ as_it_was)
      | inr (may, after, written, step) ↦ inr (may, after, written, subst (λ (c : MemberView). IsStep mode dialect it.rest after it.between (talk c written)) (sym same) step)
    ])

in_part : (mode : Mode) → (dialect : Dialect) (most : Option ℕ) (fault : ScriptFault) (script : List ℕ) (old between new : Talk) → new.client ≡ between.client → IsStoppedBy mode dialect most fault script old between
    → IsPlayedInPart mode dialect most script old new
in_part mode dialect most BadLine script old between new same it = absurd it.stops
in_part mode dialect most EndOfScript script old between new same it = part_of mode dialect most script (λ lines rest now. StopsBy mode dialect most EndOfScript script old.client between lines rest now) old between new same (λ lines rest now stops. stops.0) it
in_part mode dialect most ScriptTooLong script old between new same it = part_of mode dialect most script (λ lines rest now. StopsBy mode dialect most ScriptTooLong script old.client between lines rest now) old between new same (λ lines rest now stops. stops.0) it
in_part mode dialect most ReadFault script old between new same it = part_of mode dialect most script (λ lines rest now. StopsBy mode dialect most ReadFault script old.client between lines rest now) old between new same (λ lines rest now stops. stops) it
in_part mode dialect most WriteFault script old between new same it = in_part_of mode dialect most script old between new same it
in_part mode dialect most Stopped script old between new same it =
    played_up_to mode dialect most script old it.turns it.rest it.between new it.few it.plays (elim it.stops.1 [
      | inl as_it_was ↦ inl (same ∙ ap (λ (t : Talk). t.client) as_it_was)
      | inr (may, cuts) ↦
          let step = cut_obeyed mode (asked_by_line dialect cuts.line) cuts.rest it.between between new same cuts.holds in
          inr (may, cuts.rest, step.0, record { some = it.stops.0; obeyed = record { line = cuts.line; rest = cuts.rest; is_line = cuts.is_line; holds = step.1 } })
    ])

-- the script was done up to the point that the fault says, and then the fault's line was written
pub line_written : (mode : Mode) → (dialect : Dialect) (most : Option ℕ) (script : Option (List ℕ)) (old between new : Talk) (fault : ScriptFault) → IsEnding most fault × IfSome script (λ b. IsStoppedBy mode dialect most fault b old between)
    → Writes (script_fault_text fault) between new → IsStopped mode dialect most script old new fault
line_written mode dialect most script old between new fault it wrote =
    (it.0, known_map script (λ b. IsStoppedBy mode dialect most fault b old between) (λ b. IsEndedBy mode dialect most fault b old new) it.1 (λ b by. (between, by, wrote)))

-- if the line could not be written, the fault is 54
pub line_unwritten : (mode : Mode) → (dialect : Dialect) (most : Option ℕ) (script : Option (List ℕ)) (old between new : Talk) (fault unwritten : ScriptFault) → new.client ≡ between.client → unwritten ≡ WriteFault
    → IsEnding most fault × IfSome script (λ b. IsStoppedBy mode dialect most fault b old between) → IsStopped mode dialect most script old new unwritten
line_unwritten mode dialect most script old between new fault unwritten same is it =
    subst (λ (f : ScriptFault). IsStopped mode dialect most script old new f) (sym is) (
      tt,
      known_map script (λ b. IsStoppedBy mode dialect most fault b old between) (λ b. IsEndedBy mode dialect most WriteFault b old new) it.1
          (λ b by. (new, in_part mode dialect most fault b old between new same by, (refl, Appends-nil new.written))),
    )
