-- A run that goes on, turn by turn: one more line, and the last turn.
use Rattle.std.proofs.Common.{◌≡◌, ◌≢◌, ◌⊎◌, inl, inr, ◌∙◌, ℕ, zero, suc, ◌+◌, ◌-◌, ◌<◌, ◌≤◌, ◌^◌, Bool, true, false, ◌&&◌, List, [], ◌∷◌, ◌++◌, length, Option, Some, None, refl, sym, ap, subst, append-nil, append_assoc, arith}
use Rattle.std.specs.Prelude.{IfSome}
use Rattle.std.specs.Io.KnownBytes.{Appends, Keeps}
use Rattle.std.specs.Io.BufRead.{drop_through, first_piece}
use Rattle.std.proofs.KnownBytes.{Appends-kept}
use Rattle.std.proofs.lemmas.Option.{none-some, same_Some}
use Rattle.cc_words.specs.Observed.{reads_in}
use Rattle.cc_rv32.specs.declared.image.Image.{Image}
use Rattle.cc_rv32.specs.declared.outcome.MachineOutcome.{MachineOutcome}
use Rattle.cc_rv32.specs.InPlace.{is_going, is_in_place, jumps_to_itself}
use Rattle.cc_rv32.specs.Machine.{Run, Continues, after_read, instruction_at, machine_behavior, machine_run, machine_step, start}
use Rattle.cc_rv32.specs.Simulation.{Simulation, run_with, IsOn, StopsToRead, WentWithin}
use Rattle.cc_rv32.proofs.On.{on_output, on_outcome}
use Rattle.cc_rv32.proofs.Running.{machine_run-none}
use Rattle.cc_runs.specs.Words.{input_in}
use Rattle.cc_runs.specs.Written.{last_text, refusal_text, turn_text}
use Rattle.cc_runs.specs.Final.{is_at_jump, is_final_at}
use Rattle.cc_runs.specs.Reading.{IsNextLine}
use Rattle.cc_runs.specs.Live.{GoesLive, IsLastTurn, IsNextWords, IsWithin, Leads, LivePoint, Waits, at_beginning, zeros}
use Rattle.cc_runs.specs.internal.Turning.{AnswersLive, AnswersTurn, AnswersWhole, Begins, EndsInput, GoesOnZeros, IsAtWait, Moves, TellsLast, TellsRefused, TellsUnread, after_turn, end_after}
use Rattle.cc_runs.specs.declared.reading.ReadLine.{ReadLine}
use Rattle.cc_runs.specs.declared.reading.ReadLine.TheVariants.{Whole, TooLong}
use Rattle.cc_runs.specs.declared.live.LiveEnd.{LiveEnd}
use Rattle.cc_runs.specs.declared.live.LiveEnd.TheVariants as live
use Rattle.cc_runs.specs.declared.live.Turn.{Turn}
use Rattle.cc_runs.specs.declared.live.Turn.TheVariants as turn

-- ---- one answer

-- if a line was answered and the answer was then flushed, the line is answered
pub answered_on : (steps : ℕ) (read : ReadLine) (line : List ℕ) (m t : Simulation) (a b c : Option (List ℕ)) (end : Turn) → AnswersLive steps read line m t a b end → Keeps b c → AnswersLive steps read line m t a c end
answered_on steps read line m t a b c turn.Waits h kept = let w = h.1.2 in (h.0, (h.1.0, h.1.1, (w.0, w.1, w.2, w.3, w.4, w.5, Appends-kept a b c _ w.6 kept)))
answered_on steps read line m t a b c turn.BadLine h kept = (h.0, h.1, Appends-kept a b c _ h.2 kept)
answered_on steps read line m t a b c turn.Ended h kept = let w = h.1.2 in (h.0, (h.1.0, h.1.1, (w.0, Appends-kept a b c _ w.1 kept)))
answered_on steps read line m t a b c turn.OutOfMemory h kept = Appends-kept a b c _ h kept

-- a turn on the words of a whole line
pub turn_whole : (steps : ℕ) (line words : List ℕ) (m t : Simulation) (a b : Option (List ℕ)) (end : Turn) → input_in line ≡ Some words → AnswersTurn steps words m t a b end → AnswersWhole steps line m t a b end
turn_whole steps line words m t a b turn.Waits is h = (refl, (words, is, h))
turn_whole steps line words m t a b turn.BadLine is h = absurd h
turn_whole steps line words m t a b turn.Ended is h = (refl, (words, is, h))
turn_whole steps line words m t a b turn.OutOfMemory is h = h

-- a machine that waits, and has given up its words, still waits
pub wait_cleared : (n left : ℕ) (m t : Simulation) → t ≡ record m { output = [] } → StopsToRead n left m → m.input ≡ [] → IsAtWait t
wait_cleared n left m t e s none = subst IsAtWait (sym e) (record { read = record { going = s.read.going; reads = s.read.reads }; none = none })

-- with words to read a machine executes an instruction before it waits
pub comes_on : (code : List ℕ) (n : ℕ) (m t : Simulation) → WentWithin code n m t → 0 < length m.input → t.input ≡ [] → 0 < n
comes_on code zero m t w some none =
    let o : [] ++ w.0 ≡ [] = ap (λ (r : Run). r.state.output) (w.3 [] ∙ machine_run-none code 0 (run_with [] m) refl) in
    let reads : reads_in w.0 ≡ 0 = ap reads_in o in
    let empty : length t.input ≡ 0 = ap length none in
    let all : reads_in w.0 + length t.input ≡ length m.input = w.2 in
    absurd (omega arith)
comes_on code (suc n) m t w some none = omega arith

-- ---- the place of a machine on a run

waits_is : (image : Image) (fed given : List ℕ) (done : ℕ) (m : Simulation) → IsOn image fed given done m → IsAtWait m → Waits image fed done
waits_is image fed given done m a w =
    let reads : reads_in (machine_run image.code done (start image fed)).state.output ≡ reads_in a.observed = ap (λ (r : Run). reads_in r.state.output) (sym a.run) in
    let empty : length m.input ≡ 0 = ap length w.none in
    let all : reads_in a.observed + length m.input ≡ length fed = a.within in
    let here : machine_step image.code (run_with a.observed m).state ≡ Continues (after_read (run_with a.observed m).state)
    = subst (λ (c : List ℕ). machine_step c (run_with a.observed m).state ≡ Continues (after_read (run_with a.observed m).state)) a.code (w.read.reads a.observed) in (
      ap (λ (r : Run). r.outcome) (sym a.run) ∙ w.read.going,
      omega arith,
      subst (λ (r : Run). machine_step image.code r.state ≡ Continues (after_read r.state)) a.run here,
    )

within_is : (image : Image) (fed given : List ℕ) (done : ℕ) (m : Simulation) → IsOn image fed given done m → IsWithin image fed done
within_is image fed given done m a =
    let reads : reads_in (machine_run image.code done (start image fed)).state.output ≡ reads_in a.observed = ap (λ (r : Run). reads_in r.state.output) (sym a.run) in
    let all : reads_in a.observed + length m.input ≡ length fed = a.within in
    omega arith

final_is : (image : Image) (fed given : List ℕ) (done : ℕ) (m : Simulation) → IsOn image fed given done m → is_in_place m ≡ is_final_at image fed done
final_is image fed given done m a =
    ap (λ (c : List ℕ). is_going m.outcome && jumps_to_itself (instruction_at c (run_with a.observed m).state.pc)) a.code
    ∙ ap (is_at_jump image) a.run

-- ---- lines so far

-- `number` lines were answered, and the machine waits; it may execute `left` instructions more in its turn
pub record HasGone (image : Image) (steps : ℕ) (input : List ℕ) (old : Option (List ℕ)) (number : ℕ) (m : Simulation) (left : ℕ) (bad : Bool) (remaining written : Option (List ℕ)) : Type 0 where
  pub earlier : List LivePoint
  pub point : LivePoint
  pub leads : Leads image steps (at_beginning input old) earlier point
  pub remains : remaining ≡ Some point.left
  pub written_is : written ≡ point.written
  pub bad_is : bad ≡ point.has_bad_line
  pub number_is : length earlier ≡ number
  pub done : ℕ
  pub bound : done + left ≡ point.done + steps
  pub on : IsOn image point.fed point.shown done m
  pub wait : IsAtWait m

pub gone_none : (image : Image) (steps : ℕ) (input : List ℕ) (old : Option (List ℕ)) (left : ℕ) (m : Simulation) (remaining : Option (List ℕ)) → remaining ≡ Some input → Begins image steps left m → HasGone image steps input old 0 m left false remaining old
gone_none image steps input old left m remaining is b = record {
  earlier = [];
  point = at_beginning input old;
  leads = refl;
  remains = is;
  written_is = refl;
  bad_is = refl;
  number_is = refl;
  done = b.done;
  bound = let e : b.done + left ≡ steps = b.bound in omega arith;
  on = b.on;
  wait = b.wait;
}

-- the same for a reader whose bytes may be known
pub gone_known : (known : Option (List ℕ)) (steps left : ℕ) (m : Simulation) (old : Option (List ℕ)) → IfSome known (λ input. (image : Image) → Begins image steps left m → HasGone image steps input old 0 m left false known old)
gone_known None steps left m old = tt
gone_known (Some input) steps left m old = λ image b. gone_none image steps input old left m (Some input) refl b

-- what was read is the next line of what is left
whole_line : (before after : Option (List ℕ)) (left bytes words : List ℕ) (read : ReadLine) → before ≡ Some left → read ≡ Whole → IsNextLine before after bytes (Some read) → input_in bytes ≡ Some words
    → IsNextWords left words × (after ≡ Some (drop_through 10 left))
whole_line before after left bytes words read is whole next some =
    let n : IsNextLine (Some left) after bytes (Some Whole) = subst (λ (r : ReadLine). IsNextLine (Some left) after bytes (Some r)) whole (subst (λ (b : Option (List ℕ)). IsNextLine b after bytes (Some read)) is next) in
    ((n.0, n.2, subst (λ (l : List ℕ). input_in l ≡ Some words) n.1 some), n.3)

-- no bytes have no line that is too long
some_long : (input : List ℕ) → 16777216 < length (first_piece 10 input) → input ≢ []
some_long input long none =
    let short : 16777216 < length (first_piece 10 []) = subst (λ (l : List ℕ). 16777216 < length (first_piece 10 l)) none long in
    omega (arith, short)

bad_line : (after : Option (List ℕ)) (left bytes : List ℕ) (read : ReadLine) → IsNextLine (Some left) after bytes (Some read) → (read ≡ TooLong) ⊎ (input_in bytes ≡ None)
    → (left ≢ []) × ((input_in (first_piece 10 left) ≡ None) ⊎ (16777216 < length (first_piece 10 left))) × (after ≡ Some (drop_through 10 left))
bad_line after left bytes TooLong n why = (some_long left n.0, inr n.0, n.1)
bad_line after left bytes Whole n (inl long) = absurd (cc long)
bad_line after left bytes Whole n (inr none) = (n.0, inl (subst (λ (l : List ℕ). input_in l ≡ None) n.1 none), n.3)

module _ (image : Image) (steps : ℕ) (input : List ℕ) (old : Option (List ℕ)) (number : ℕ) (m : Simulation) (left : ℕ) (bad : Bool) (before mid : Option (List ℕ)) (gone : HasGone image steps input old number m left bad before mid) where
  -- one more turn
  pub gone_waits : (after new : Option (List ℕ)) (read : ReadLine) (bytes : List ℕ) (t : Simulation) → IsNextLine before after bytes (Some read) → AnswersLive left read bytes m t mid new turn.Waits
      → HasGone image steps input old (number + 1) t steps bad after new
  gone_waits after new read bytes t next h =
      let p = gone.point in
      let words = h.1.0 in
      let w = h.1.2 in
      let shown = w.2 in
      let line = whole_line before after p.left bytes words read gone.remains h.0 next h.1.1 in
      let on : IsOn image (p.fed ++ words) (p.shown ++ shown) (gone.done + w.0) t = w.3 image p.fed p.shown gone.done gone.on in
      let within : w.0 ≤ left = w.1 in
      let bound : gone.done + left ≡ p.done + steps = gone.bound in
      let wrote : p.shown ++ shown ≡ (machine_behavior image (p.fed ++ words) (gone.done + w.0)).output
      = sym (append-nil (p.shown ++ shown)) ∙ ap (λ o. (p.shown ++ shown) ++ o) (sym w.5) ∙ on_output image (p.fed ++ words) (p.shown ++ shown) (gone.done + w.0) t on in
      let q : LivePoint = record { left = drop_through 10 p.left; written = new; fed = p.fed ++ words; shown = p.shown ++ shown; done = gone.done + w.0; has_bad_line = p.has_bad_line } in
      record {
        earlier = p ∷ gone.earlier;
        point = q;
        leads = (
          gone.leads,
          refl,
          inl (words, line.0, refl, omega arith, waits_is image (p.fed ++ words) (p.shown ++ shown) (gone.done + w.0) t on w.4, (shown, refl, wrote, subst (λ a. Appends a new (turn_text shown)) gone.written_is w.6), refl),
        );
        remains = line.1;
        written_is = refl;
        bad_is = gone.bad_is;
        number_is = let n : length gone.earlier ≡ number = gone.number_is in omega arith;
        done = gone.done + w.0;
        bound = refl;
        on = on;
        wait = w.4;
      }

  -- one more line that is not a list of words
  pub gone_bad : (after new : Option (List ℕ)) (read : ReadLine) (bytes : List ℕ) (t : Simulation) → IsNextLine before after bytes (Some read) → AnswersLive left read bytes m t mid new turn.BadLine
      → HasGone image steps input old (number + 1) t left true after new
  gone_bad after new read bytes t next h =
      let p = gone.point in
      let line = bad_line after p.left bytes read (subst (λ (b : Option (List ℕ)). IsNextLine b after bytes (Some read)) gone.remains next) h.0 in
      let q : LivePoint = record { left = drop_through 10 p.left; written = new; fed = p.fed; shown = p.shown; done = p.done; has_bad_line = true } in
      record {
        earlier = p ∷ gone.earlier;
        point = q;
        leads = (gone.leads, refl, inr (line.0, line.1, subst (λ a. Appends a new (refusal_text 50)) gone.written_is h.2, refl, refl, refl, refl));
        remains = line.2;
        written_is = refl;
        bad_is = refl;
        number_is = let n : length gone.earlier ≡ number = gone.number_is in omega arith;
        done = gone.done;
        bound = gone.bound;
        on = subst (λ s. IsOn image p.fed p.shown gone.done s) (sym h.1) gone.on;
        wait = subst IsAtWait (sym h.1) gone.wait;
      }

  -- the last turn
  lasts : (flag : Bool) (fed : List ℕ) (n : ℕ) (t : Simulation) (new : Option (List ℕ)) (is_final has_bad_line : Bool) → IsOn image fed gone.point.shown n t → IsLastTurn image steps flag gone.earlier gone.point fed n
      → Appends mid new (last_text t.output t.outcome) → is_final ≡ is_in_place t → has_bad_line ≡ bad → GoesLive image steps flag input old new (live.Ended is_final has_bad_line)
  lasts flag fed n t new is_final has_bad_line on why wrote final same =
      let p = gone.point in (
        gone.earlier,
        p,
        fed,
        n,
        t.output,
        gone.leads,
        why,
        on_output image fed p.shown n t on,
        subst (λ a. Appends a new (last_text t.output (machine_behavior image fed n).outcome)) gone.written_is
            (subst (λ (o : MachineOutcome). Appends mid new (last_text t.output o)) (on_outcome image fed p.shown n t on) wrote),
        final ∙ final_is image fed p.shown n t on,
        same ∙ gone.bad_is,
      )

  pub ends_turn : (flag : Bool) (after new : Option (List ℕ)) (read : ReadLine) (bytes : List ℕ) (t : Simulation) (is_final : Bool) → IsNextLine before after bytes (Some read) → AnswersLive left read bytes m t mid new turn.Ended
      → is_final ≡ is_in_place t → GoesLive image steps flag input old new (live.Ended is_final bad)
  ends_turn flag after new read bytes t is_final next h final =
      let p = gone.point in
      let words = h.1.0 in
      let line = whole_line before after p.left bytes words read gone.remains h.0 next h.1.1 in
      let on : IsOn image (p.fed ++ words) p.shown (gone.done + left) t
      = subst (λ g. IsOn image (p.fed ++ words) g (gone.done + left) t) (append-nil p.shown) (h.1.2.0 image p.fed p.shown gone.done gone.on) in
      lasts flag (p.fed ++ words) (gone.done + left) t new is_final bad on
      (inr (inl (words, line.0, refl, (gone.bound, within_is image (p.fed ++ words) p.shown (gone.done + left) t on)))) h.1.2.1 final refl

  pub ends_input : (flag : Bool) (after new : Option (List ℕ)) (bytes : List ℕ) (end : LiveEnd) → IsNextLine before after bytes None → EndsInput left flag bad m mid new end → GoesLive image steps flag input old new end
  ends_input flag after new bytes (live.Ended is_final has_bad_line) next h =
      let p = gone.point in
      let none : p.left ≡ [] = subst (λ (b : Option (List ℕ)). IsNextLine b after bytes None) gone.remains next in
      let bound : gone.done + left ≡ p.done + steps = gone.bound in
      elim h.1 [
        | inl stays ↦
            let on : IsOn image p.fed p.shown gone.done h.0 = subst (λ s. IsOn image p.fed p.shown gone.done s) (sym stays.1) gone.on in
            lasts flag p.fed gone.done h.0 new is_final has_bad_line on
            (inr (inr (inl (none, stays.0, refl, omega arith, waits_is image p.fed p.shown gone.done m gone.on gone.wait)))) h.2 h.3 h.4
        | inr goes ↦
            let k = goes.1.0 in
            let on : IsOn image (p.fed ++ zeros k) p.shown (gone.done + left) h.0
            = subst (λ g. IsOn image (p.fed ++ zeros k) g (gone.done + left) h.0) (append-nil p.shown) (goes.1.1 image p.fed p.shown gone.done gone.on) in
            lasts flag (p.fed ++ zeros k) (gone.done + left) h.0 new is_final has_bad_line on
            (inr (inr (inr (none, goes.0, (k, refl), (gone.bound, within_is image (p.fed ++ zeros k) p.shown (gone.done + left) h.0 on))))) h.2 h.3 h.4
      ]
  ends_input flag after new bytes live.Refused next h = (gone.earlier, gone.point, gone.leads, inl (inl (subst (λ a. Appends a new (refusal_text 40)) gone.written_is h)))
  ends_input flag after new bytes live.Unwritten next h = tt

  pub ends_unread : (flag : Bool) (new : Option (List ℕ)) (end : LiveEnd) → TellsUnread mid new end → GoesLive image steps flag input old new end
  ends_unread flag new (live.Ended f b) h = absurd h
  ends_unread flag new live.Refused (inl h) = (gone.earlier, gone.point, gone.leads, inl (inl (subst (λ a. Appends a new (refusal_text 40)) gone.written_is h)))
  ends_unread flag new live.Refused (inr h) = (gone.earlier, gone.point, gone.leads, inl (inr (subst (λ a. Appends a new (refusal_text 53)) gone.written_is h)))
  ends_unread flag new live.Unwritten h = tt

  pub ends_refused : (flag : Bool) (new : Option (List ℕ)) → Appends mid new (refusal_text 40) → GoesLive image steps flag input old new live.Refused
  ends_refused flag new h = (gone.earlier, gone.point, gone.leads, inl (inl (subst (λ a. Appends a new (refusal_text 40)) gone.written_is h)))

  pub ends_uncounted : (flag : Bool) → number ≡ 2 ^ 64 - 1 → GoesLive image steps flag input old mid live.Refused
  ends_uncounted flag all = (gone.earlier, gone.point, gone.leads, inr (gone.written_is, gone.number_is ∙ all))

  -- one more line, if another may follow it; and the last one
  pub gone_more : (after new : Option (List ℕ)) (read : ReadLine) (bytes : List ℕ) (t : Simulation) (end : Turn) (next : ℕ) (worse : Bool) → IsNextLine before after bytes (Some read) → AnswersLive left read bytes m t mid new end
      → Some (next, worse) ≡ after_turn end steps left bad → HasGone image steps input old (number + 1) t next worse after new
  gone_more after new read bytes t turn.Waits next worse there h is =
      subst (λ (x : ℕ × Bool). HasGone image steps input old (number + 1) t x.0 x.1 after new) (sym (same_Some (next, worse) (steps, bad) is)) (gone_waits after new read bytes t there h)
  gone_more after new read bytes t turn.BadLine next worse there h is =
      subst (λ (x : ℕ × Bool). HasGone image steps input old (number + 1) t x.0 x.1 after new) (sym (same_Some (next, worse) (left, true) is)) (gone_bad after new read bytes t there h)
  gone_more after new read bytes t turn.Ended next worse there h is = absurd (none-some (next, worse) (sym is))
  gone_more after new read bytes t turn.OutOfMemory next worse there h is = absurd (none-some (next, worse) (sym is))

  pub ends_here : (flag : Bool) (after new : Option (List ℕ)) (read : ReadLine) (bytes : List ℕ) (t : Simulation) (end : Turn) → IsNextLine before after bytes (Some read) → AnswersLive left read bytes m t mid new end
      → after_turn end steps left bad ≡ None → GoesLive image steps flag input old new (end_after end (is_in_place t) bad)
  ends_here flag after new read bytes t turn.Waits there h is = absurd (none-some (steps, bad) (sym is))
  ends_here flag after new read bytes t turn.BadLine there h is = absurd (none-some (left, true) (sym is))
  ends_here flag after new read bytes t turn.Ended there h is = ends_turn flag after new read bytes t (is_in_place t) there h refl
  ends_here flag after new read bytes t turn.OutOfMemory there h is = ends_refused flag new h

-- ---- before the first line

pub ends_at_once : (image : Image) (steps : ℕ) (flag : Bool) (input : List ℕ) (old new : Option (List ℕ)) (m : Simulation) (end : LiveEnd) → IsOn image [] [] (0 + steps) m → TellsLast m false old new end → GoesLive image steps flag input old new end
ends_at_once image steps flag input old new m (live.Ended is_final has_bad_line) on h = (
  [],
  at_beginning input old,
  [],
  0 + steps,
  m.output,
  refl,
  inl (refl, refl, (refl, within_is image [] [] (0 + steps) m on)),
  on_output image [] [] (0 + steps) m on,
  subst (λ (o : MachineOutcome). Appends old new (last_text m.output o)) (on_outcome image [] [] (0 + steps) m on) h.0,
  h.1 ∙ final_is image [] [] (0 + steps) m on,
  h.2,
)
ends_at_once image steps flag input old new m live.Refused on h = absurd h
ends_at_once image steps flag input old new m live.Unwritten on h = tt

pub refused_at_once : (image : Image) (steps : ℕ) (flag : Bool) (input : List ℕ) (old new : Option (List ℕ)) (end : LiveEnd) → TellsRefused 40 old new end → GoesLive image steps flag input old new end
refused_at_once image steps flag input old new (live.Ended f b) h = absurd h
refused_at_once image steps flag input old new live.Refused h = ([], at_beginning input old, refl, inl (inl h))
refused_at_once image steps flag input old new live.Unwritten h = tt

-- ---- zeros after the input

zeros_push : (k : ℕ) → zeros k ++ 0 ∷ [] ≡ zeros (suc k)
zeros_push zero = refl
zeros_push (suc k) = ap (λ l. 0 ∷ l) (zeros_push k)

pub moves_none : (m : Simulation) → Moves [] [] 0 m m
moves_none m = λ image fed given done a.
    let same : done ≡ done + 0 = omega arith in
    subst (λ d. IsOn image (fed ++ []) (given ++ []) d m) same
    (subst (λ g. IsOn image (fed ++ []) g done m) (sym (append-nil given)) (subst (λ f. IsOn image f given done m) (sym (append-nil fed)) a))

-- a machine that is fed a zero, and goes on
pub moves_zero : (n k j : ℕ) (m t u v : Simulation) → Moves (zeros k) [] n m t
    → ((image : Image) (input given : List ℕ) (done : ℕ) → IsOn image input given done t → IsOn image (input ++ 0 ∷ []) given done u)
    → ((image : Image) (input given : List ℕ) (done : ℕ) → IsOn image input given done u → IsOn image input given (done + j) v)
    → Moves (zeros (suc k)) [] (n + j) m v
moves_zero n k j m t u v f g h = λ image fed given done a.
    let there = h image ((fed ++ zeros k) ++ 0 ∷ []) (given ++ []) (done + n) (g image (fed ++ zeros k) (given ++ []) (done + n) (f image fed given done a)) in
    let sum : (done + n) + j ≡ done + (n + j) = omega arith in
    let words : (fed ++ zeros k) ++ 0 ∷ [] ≡ fed ++ zeros (suc k) = append_assoc fed (zeros k) (0 ∷ []) ∙ ap (λ l. fed ++ l) (zeros_push k) in
    subst (λ w. IsOn image w (given ++ []) (done + (n + j)) v) words (subst (λ d. IsOn image ((fed ++ zeros k) ++ 0 ∷ []) (given ++ []) d v) sum there)

-- a machine that is fed, goes on, and gives up what it has written
pub moves_turn : (words shown : List ℕ) (n : ℕ) (m t u v : Simulation)
    → ((image : Image) (input given : List ℕ) (done : ℕ) → IsOn image input given done m → IsOn image (input ++ words) given done t)
    → ((image : Image) (input given : List ℕ) (done : ℕ) → IsOn image input given done t → IsOn image input given (done + n) u)
    → ((image : Image) (input given : List ℕ) (done : ℕ) → IsOn image input given done u → IsOn image input (given ++ shown) done v)
    → Moves words shown n m v
moves_turn words shown n m t u v f g h = λ image fed given done a.
    h image (fed ++ words) given (done + n) (g image (fed ++ words) given done (f image fed given done a))

-- the same, if it gives up nothing
pub moves_last : (words : List ℕ) (n : ℕ) (m t u : Simulation)
    → ((image : Image) (input given : List ℕ) (done : ℕ) → IsOn image input given done m → IsOn image (input ++ words) given done t)
    → ((image : Image) (input given : List ℕ) (done : ℕ) → IsOn image input given done t → IsOn image input given (done + n) u)
    → Moves words [] n m u
moves_last words n m t u f g = λ image fed given done a.
    subst (λ o. IsOn image (fed ++ words) o (done + n) u) (sym (append-nil given)) (g image (fed ++ words) given done (f image fed given done a))

-- ---- for a reader whose bytes may be known

pub begins_at : (image : Image) (steps left : ℕ) (m : Simulation) → StopsToRead steps left m → m.input ≡ [] → IsOn image [] [] (0 + (steps - left)) m → Begins image steps left m
begins_at image steps left m s none on =
    let within : left ≤ steps = s.within in
    record { done = 0 + (steps - left); bound = omega arith; on = on; wait = record { read = s.read; none = none } }

pub live_lines : (known : Option (List ℕ)) (image : Image) (steps left : ℕ) (flag : Bool) (m : Simulation) (old new : Option (List ℕ)) (end : LiveEnd) → Begins image steps left m
    → IfSome known (λ input. (i : Image) → Begins i steps left m → GoesLive i steps flag input old new end) → IfSome known (λ input. GoesLive image steps flag input old new end)
live_lines None image steps left flag m old new end b h = tt
live_lines (Some input) image steps left flag m old new end b h = h image b

pub live_at_once : (known : Option (List ℕ)) (image : Image) (steps : ℕ) (flag : Bool) (old new : Option (List ℕ)) (m : Simulation) (end : LiveEnd) → IsOn image [] [] (0 + steps) m → TellsLast m false old new end
    → IfSome known (λ input. GoesLive image steps flag input old new end)
live_at_once None image steps flag old new m end on h = tt
live_at_once (Some input) image steps flag old new m end on h = ends_at_once image steps flag input old new m end on h

pub live_refused : (known : Option (List ℕ)) (image : Image) (steps : ℕ) (flag : Bool) (old new : Option (List ℕ)) (end : LiveEnd) → TellsRefused 40 old new end → IfSome known (λ input. GoesLive image steps flag input old new end)
live_refused None image steps flag old new end h = tt
live_refused (Some input) image steps flag old new end h = refused_at_once image steps flag input old new end h

-- if the bytes are known, then they have `Q`
pub if_known : (known : Option (List ℕ)) (P Q : List ℕ → Type 0) → ((bytes : List ℕ) → known ≡ Some bytes → P bytes → Q bytes) → IfSome known P → IfSome known Q
if_known None P Q step p = tt
if_known (Some bytes) P Q step p = step bytes refl p

-- a fault line was written for the next line
pub unread_of_40 : (a b : Option (List ℕ)) (end : LiveEnd) → TellsRefused 40 a b end → TellsUnread a b end
unread_of_40 a b (live.Ended f g) h = absurd h
unread_of_40 a b live.Refused h = inl h
unread_of_40 a b live.Unwritten h = tt

pub unread_of_53 : (a b : Option (List ℕ)) (end : LiveEnd) → TellsRefused 53 a b end → TellsUnread a b end
unread_of_53 a b (live.Ended f g) h = absurd h
unread_of_53 a b live.Refused h = inr h
unread_of_53 a b live.Unwritten h = tt

-- the last turn of a machine that stays, of one that has gone on with zeros, and no turn
pub ends_stayed : (steps : ℕ) (bad : Bool) (m : Simulation) (a b : Option (List ℕ)) (end : LiveEnd) → TellsLast m bad a b end → EndsInput steps false bad m a b end
ends_stayed steps bad m a b (live.Ended f g) h = (m, inl (refl, refl), h.0, h.1, h.2)
ends_stayed steps bad m a b live.Refused h = absurd h
ends_stayed steps bad m a b live.Unwritten h = tt

pub ends_gone_on : (steps : ℕ) (bad : Bool) (m t : Simulation) (a b : Option (List ℕ)) (end : LiveEnd) → GoesOnZeros steps m t → TellsLast t bad a b end → EndsInput steps true bad m a b end
ends_gone_on steps bad m t a b (live.Ended f g) z h = (t, inr (refl, z), h.0, h.1, h.2)
ends_gone_on steps bad m t a b live.Refused z h = absurd h
ends_gone_on steps bad m t a b live.Unwritten z h = tt

pub ends_in_lack : (steps : ℕ) (flag bad : Bool) (m : Simulation) (a b : Option (List ℕ)) (end : LiveEnd) → TellsRefused 40 a b end → EndsInput steps flag bad m a b end
ends_in_lack steps flag bad m a b (live.Ended f g) h = absurd h
ends_in_lack steps flag bad m a b live.Refused h = h
ends_in_lack steps flag bad m a b live.Unwritten h = tt
