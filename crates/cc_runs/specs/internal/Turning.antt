-- A machine that is fed, turn by turn.
use Rattle.std.specs.Prelude.{◌≡◌, ◌⊎◌, ◌≤◌, ◌+◌, ℕ, Bool, true, false, List, [], ◌++◌, Option, Some, None}
use Rattle.std.specs.Io.KnownBytes.{Appends}
use Rattle.cc_rv32.specs.declared.image.Image.{Image}
use Rattle.cc_rv32.specs.InPlace.{is_in_place}
use Rattle.cc_rv32.specs.Simulation.{Simulation, IsOn, IsRead}
use Rattle.cc_runs.specs.Live.{zeros}
use Rattle.cc_runs.specs.Words.{input_in}
use Rattle.cc_runs.specs.Written.{last_text, refusal_text, turn_text}
use Rattle.cc_runs.specs.declared.reading.ReadLine.{ReadLine}
use Rattle.cc_runs.specs.declared.reading.ReadLine.TheVariants.{Whole, TooLong}
use Rattle.cc_runs.specs.declared.live.LiveEnd.{LiveEnd}
use Rattle.cc_runs.specs.declared.live.LiveEnd.TheVariants as live
use Rattle.cc_runs.specs.declared.live.Turn.{Turn}
use Rattle.cc_runs.specs.declared.live.Turn.TheVariants.{Waits, BadLine, Ended, OutOfMemory}

-- the machine waits for words
pub record IsAtWait (m : Simulation) : Type 0 where
  pub read : IsRead m
  pub none : m.input ≡ []

-- these words, and so many instructions, lead from one machine to another, on any run; the second one has given up these words
abbrev pub Moves : (words shown : List ℕ) (n : ℕ) → Simulation → Simulation → Type 0
Moves words shown n m t = (image : Image) (fed given : List ℕ) (done : ℕ) → IsOn image fed given done m → IsOn image (fed ++ words) (given ++ shown) (done + n) t

-- a turn on these words was answered; or the last one; or memory was refused
abbrev pub AnswersTurn : (steps : ℕ) (words : List ℕ) → Simulation → Simulation → (old new : Option (List ℕ)) → Turn → Type 0
AnswersTurn steps words m t old new Waits = (n : ℕ) × (n ≤ steps) × (shown : List ℕ) × Moves words shown n m t × IsAtWait t × (t.output ≡ []) × Appends old new (turn_text shown)
AnswersTurn steps words m t old new BadLine = ⊥
AnswersTurn steps words m t old new Ended = Moves words [] steps m t × Appends old new (last_text t.output t.outcome)
AnswersTurn steps words m t old new OutOfMemory = Appends old new (refusal_text 40)

-- a turn on the words of a line was answered; or the line for 50 was written, exactly if the line has no list of words, and the machine stays
abbrev pub AnswersLive : (steps : ℕ) → ReadLine → (line : List ℕ) → Simulation → Simulation → (old new : Option (List ℕ)) → Turn → Type 0
AnswersLive steps read line m t old new Waits = (read ≡ Whole) × ((words : List ℕ) × (input_in line ≡ Some words) × AnswersTurn steps words m t old new Waits)
AnswersLive steps read line m t old new BadLine = ((read ≡ TooLong) ⊎ (input_in line ≡ None)) × (t ≡ m) × Appends old new (refusal_text 50)
AnswersLive steps read line m t old new Ended = (read ≡ Whole) × ((words : List ℕ) × (input_in line ≡ Some words) × AnswersTurn steps words m t old new Ended)
AnswersLive steps read line m t old new OutOfMemory = Appends old new (refusal_text 40)

-- the same for a whole line
abbrev pub AnswersWhole : (steps : ℕ) → (line : List ℕ) → Simulation → Simulation → (old new : Option (List ℕ)) → Turn → Type 0
AnswersWhole steps line m t old new end = AnswersLive steps Whole line m t old new end

-- how many instructions the next turn may take, and whether a line had no words by then; None after the last turn
abbrev pub after_turn : Turn → (steps left : ℕ) (has_bad_line : Bool) → Option (ℕ × Bool)
after_turn Waits steps left bad = Some (steps, bad)
after_turn BadLine steps left bad = Some (left, true)
after_turn Ended steps left bad = None
after_turn OutOfMemory steps left bad = None

-- how a run ends with its last turn
abbrev pub end_after : Turn → (is_final has_bad_line : Bool) → LiveEnd
end_after Ended is_final bad = live.Ended is_final bad
end_after Waits is_final bad = live.Refused
end_after BadLine is_final bad = live.Refused
end_after OutOfMemory is_final bad = live.Refused

-- the machine has gone on by so many instructions, with zeros after its input
abbrev pub GoesOnZeros : (steps : ℕ) → Simulation → Simulation → Type 0
GoesOnZeros steps m t = (k : ℕ) × Moves (zeros k) [] steps m t

-- the last turn was written, or could not be written
abbrev pub TellsLast : Simulation → (has_bad_line : Bool) (old new : Option (List ℕ)) → LiveEnd → Type 0
TellsLast m bad old new (live.Ended is_final has_bad_line) = Appends old new (last_text m.output m.outcome) × (is_final ≡ is_in_place m) × (has_bad_line ≡ bad)
TellsLast m bad old new live.Refused = ⊥
TellsLast m bad old new live.Unwritten = Unit {0}

-- the line for a fault was written, or could not be written
abbrev pub TellsRefused : (number : ℕ) (old new : Option (List ℕ)) → LiveEnd → Type 0
TellsRefused number old new (live.Ended is_final has_bad_line) = ⊥
TellsRefused number old new live.Refused = Appends old new (refusal_text number)
TellsRefused number old new live.Unwritten = Unit {0}

-- a run has come to its first wait within the bound, and so many instructions of it are left
pub record Begins (image : Image) (steps left : ℕ) (m : Simulation) : Type 0 where
  pub done : ℕ
  pub bound : done + left ≡ steps
  pub on : IsOn image [] [] done m
  pub wait : IsAtWait m

-- the next line could not be read: the line for 40 or for 53 was written, or could not be written
abbrev pub TellsUnread : (old new : Option (List ℕ)) → LiveEnd → Type 0
TellsUnread old new (live.Ended is_final has_bad_line) = ⊥
TellsUnread old new live.Refused = Appends old new (refusal_text 40) ⊎ Appends old new (refusal_text 53)
TellsUnread old new live.Unwritten = Unit {0}

-- no line is left: the last turn is that of the machine, or of one that has gone on with zeros
abbrev pub EndsInput : (steps : ℕ) (reads_zeros has_bad_line : Bool) → Simulation → (old new : Option (List ℕ)) → LiveEnd → Type 0
EndsInput steps reads_zeros bad m old new (live.Ended is_final has_bad_line) =
    (t : Simulation) × (((reads_zeros ≡ false) × (t ≡ m)) ⊎ ((reads_zeros ≡ true) × GoesOnZeros steps m t))
    × Appends old new (last_text t.output t.outcome) × (is_final ≡ is_in_place t) × (has_bad_line ≡ bad)
EndsInput steps reads_zeros bad m old new live.Refused = Appends old new (refusal_text 40)
EndsInput steps reads_zeros bad m old new live.Unwritten = Unit {0}
