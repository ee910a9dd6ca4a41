-- Runs that go on while their input comes: each line of an input has words, which are fed to the run, and what it writes until it waits for
-- more words is the line's answer.
use Rattle.std.specs.Prelude.{◌≡◌, ◌≢◌, ◌⊎◌, ◌<◌, ◌≤◌, ◌+◌, ◌-◌, ◌^◌, ℕ, zero, suc, Bool, true, false, List, [], ◌∷◌, ◌++◌, length, Option, Some, None}
use Rattle.std.specs.Io.KnownBytes.{Appends}
use Rattle.std.specs.Io.BufRead.{drop_through, first_piece}
use Rattle.cc_words.specs.Observed.{reads_in}
use Rattle.cc_rv32.specs.declared.image.Image.{Image}
use Rattle.cc_rv32.specs.declared.outcome.MachineOutcome.TheVariants as machine
use Rattle.cc_rv32.specs.Machine.{Run, Continues, after_read, machine_behavior, machine_run, machine_step, observed_machine, start}
use Rattle.cc_runs.specs.Words.{input_in}
use Rattle.cc_runs.specs.Written.{last_text, refusal_text, turn_text}
use Rattle.cc_runs.specs.Final.{is_final_at}
use Rattle.cc_runs.specs.declared.live.LiveEnd.{LiveEnd}
use Rattle.cc_runs.specs.declared.live.LiveEnd.TheVariants.{Ended, Refused, Unwritten}

-- a run waits for a word: it has read all words of its input, and its next instruction reads
abbrev pub IsWaiting : (code : List ℕ) (words : List ℕ) → Run → Type 0
IsWaiting code words r = (r.outcome ≡ machine.Going) × (reads_in r.state.output ≡ length words) × (machine_step code r.state ≡ Continues (after_read r.state))

-- the image's run on these words waits for another one, n instructions after its start
abbrev pub Waits : Image → (words : List ℕ) (n : ℕ) → Type 0
Waits image words n = IsWaiting image.code words (machine_run image.code n (start image words))

-- within n instructions the run has not read past these words
abbrev pub IsWithin : Image → (words : List ℕ) (n : ℕ) → Type 0
IsWithin image words n = reads_in (observed_machine image words n).output ≤ length words

-- a point between two lines: the input that is left, all that is written by then, the words that were fed and those that were printed, how
-- many instructions the run had executed at the end of its last turn, and whether a line was not a list of words
pub record LivePoint : Type 0 where
  pub left : List ℕ
  pub written : Option (List ℕ)
  pub fed : List ℕ
  pub shown : List ℕ
  pub done : ℕ
  pub has_bad_line : Bool

abbrev pub at_beginning : (input : List ℕ) (written : Option (List ℕ)) → LivePoint
at_beginning input written = record { left = input; written = written; fed = []; shown = []; done = 0; has_bad_line = false }

-- the words of the next line, if it has at most 16,777,216 bytes and is a list of words
abbrev pub IsNextWords : (left words : List ℕ) → Type 0
IsNextWords left words = (left ≢ []) × (length (first_piece 10 left) ≤ 16777216) × (input_in (first_piece 10 left) ≡ Some words)

-- A turn: the words of the next line are fed, and the run goes on, by at most this many instructions, until it waits for a word. What it has
-- written and was not printed yet is printed, and an empty line.
abbrev pub TakesTurn : Image → (steps : ℕ) → (p q : LivePoint) → Type 0
TakesTurn image steps p q =
    (words : List ℕ) × IsNextWords p.left words × (q.fed ≡ p.fed ++ words) × (q.done ≤ p.done + steps) × Waits image q.fed q.done
    × ((new : List ℕ) × (q.shown ≡ p.shown ++ new) × (q.shown ≡ (machine_behavior image q.fed q.done).output) × Appends p.written q.written (turn_text new))
    × (q.has_bad_line ≡ p.has_bad_line)

-- a line that is not a list of words, or too long, gets the line for 50, and feeds nothing
abbrev pub RefusesLine : (p q : LivePoint) → Type 0
RefusesLine p q =
    (p.left ≢ []) × ((input_in (first_piece 10 p.left) ≡ None) ⊎ (16777216 < length (first_piece 10 p.left))) × Appends p.written q.written (refusal_text 50)
    × (q.fed ≡ p.fed) × (q.shown ≡ p.shown) × (q.done ≡ p.done) × (q.has_bad_line ≡ true)

-- these points lead to this one, each by the next line; the last one before it comes first
abbrev pub Leads : Image → (steps : ℕ) → (from : LivePoint) → List LivePoint → LivePoint → Type 0
Leads image steps from [] q = q ≡ from
Leads image steps from (p ∷ earlier) q = Leads image steps from earlier p × (q.left ≡ drop_through 10 p.left) × (TakesTurn image steps p q ⊎ RefusesLine p q)

-- the run is not at a wait after its last turn: it has ended, or the turn has used all of its instructions
abbrev pub RunsOut : Image → (steps : ℕ) (fed : List ℕ) (n : ℕ) → LivePoint → Type 0
RunsOut image steps fed n p = (n ≡ p.done + steps) × IsWithin image fed n

-- this many zeros
abbrev pub zeros : ℕ → List ℕ
zeros zero = []
zeros (suc k) = 0 ∷ zeros k

-- Why the last turn is the last, with these words fed and after n instructions: the run has ended, or used its instructions, before the first
-- line, or on the words of a line; or no line is left, and the run waits, or goes on with as many zeros as it reads at least.
abbrev pub IsLastTurn : Image → (steps : ℕ) (reads_zeros : Bool) → (earlier : List LivePoint) → LivePoint → (fed : List ℕ) (n : ℕ) → Type 0
IsLastTurn image steps reads_zeros earlier p fed n =
    ((earlier ≡ []) × (fed ≡ p.fed) × RunsOut image steps fed n p)
    ⊎ (((words : List ℕ) × IsNextWords p.left words × (fed ≡ p.fed ++ words) × RunsOut image steps fed n p)
    ⊎ (((p.left ≡ []) × (reads_zeros ≡ false) × (fed ≡ p.fed) × (n ≤ p.done + steps) × Waits image fed n)
    ⊎ ((p.left ≡ []) × (reads_zeros ≡ true) × ((k : ℕ) × (fed ≡ p.fed ++ zeros k)) × RunsOut image steps fed n p)))

-- What became of a run whose input comes line by line: its turns were printed, and then the words of the last one and how the run ended, or
-- that it is going. Or memory was refused (40), or the next line could not be read (53), or there were more lines than can be counted; or an
-- answer could not be written.
abbrev pub GoesLive : Image → (steps : ℕ) (reads_zeros : Bool) (input : List ℕ) (old new : Option (List ℕ)) → LiveEnd → Type 0
GoesLive image steps reads_zeros input old new (Ended is_final has_bad_line) =
    (earlier : List LivePoint) × (p : LivePoint) × (fed : List ℕ) × (n : ℕ) × (words : List ℕ)
    × Leads image steps (at_beginning input old) earlier p × IsLastTurn image steps reads_zeros earlier p fed n
    × (p.shown ++ words ≡ (machine_behavior image fed n).output) × Appends p.written new (last_text words (machine_behavior image fed n).outcome)
    × (is_final ≡ is_final_at image fed n) × (has_bad_line ≡ p.has_bad_line)
GoesLive image steps reads_zeros input old new Refused =
    (earlier : List LivePoint) × (p : LivePoint) × Leads image steps (at_beginning input old) earlier p
    × ((Appends p.written new (refusal_text 40) ⊎ Appends p.written new (refusal_text 53)) ⊎ ((new ≡ p.written) × (length earlier ≡ 2 ^ 64 - 1)))
GoesLive image steps reads_zeros input old new Unwritten = Unit {0}
