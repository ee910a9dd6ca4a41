-- The answers to one line after another of an input.
use Rattle.std.specs.Prelude.{◌≡◌, ◌≢◌, ◌⊎◌, ◌<◌, ◌≤◌, ◌-◌, ◌^◌, ℕ, Bool, true, false, IsTrue, List, [], ◌∷◌, length, Option}
use Rattle.std.specs.List.{list_any}
use Rattle.std.specs.Io.KnownBytes.{Appends}
use Rattle.std.specs.Io.BufRead.{drop_through, first_piece}
use Rattle.cc_rv32.specs.declared.image.Image.{Image}
use Rattle.cc_runs.specs.Written.{refusal_text}
use Rattle.cc_call.specs.Call.{AnswersLine}
use Rattle.cc_call.specs.declared.lines.LineEnd.{LineEnd}
use Rattle.cc_call.specs.declared.lines.LineEnd.TheVariants as line
use Rattle.cc_call.specs.declared.lines.LinesEnd.{LinesEnd}
use Rattle.cc_call.specs.declared.lines.LinesEnd.TheVariants.{Answered, Refused, Unwritten}

-- a line that was answered: the input after it, all that is written by then, and its answer
pub record LineTurn : Type 0 where
  pub rest : List ℕ
  pub written : Option (List ℕ)
  pub end : LineEnd

-- the line was not a list of words, or too long
abbrev pub is_bad_end : LineEnd → Bool
is_bad_end (line.Answered is_final) = false
is_bad_end line.BadLine = true
is_bad_end line.OutOfMemory = false

-- memory was refused for the line
abbrev pub is_lack_end : LineEnd → Bool
is_lack_end (line.Answered is_final) = false
is_lack_end line.BadLine = false
is_lack_end line.OutOfMemory = true

abbrev pub is_bad : LineTurn → Bool
is_bad turn = is_bad_end turn.end

abbrev pub is_lack : LineTurn → Bool
is_lack turn = is_lack_end turn.end

-- a line of at most 16,777,216 bytes was answered as `AnswersLine` says, and a longer one with the line for 50
abbrev pub AnswersBounded : Image → (counted : Bool) (steps : ℕ) (most : Option ℕ) (bytes : List ℕ) (old new : Option (List ℕ)) → LineEnd → Type 0
AnswersBounded image counted steps most bytes old new end =
    ((length bytes ≤ 16777216) × AnswersLine image counted steps most bytes old new end)
    ⊎ ((16777216 < length bytes) × (end ≡ line.BadLine) × Appends old new (refusal_text 50))

-- After what had been written before (`old`), these lines of an input were answered, each without its newline, from its first
-- line on; then `left` remains of the input, and `new` is written. No line follows one for which memory was refused.
abbrev pub AnswersLines : Image → (counted : Bool) (steps : ℕ) (most : Option ℕ) (input : List ℕ) (old : Option (List ℕ)) → List LineTurn → (left : List ℕ) (new : Option (List ℕ)) → Type 0
AnswersLines image counted steps most input old [] left new = (left ≡ input) × (new ≡ old)
AnswersLines image counted steps most input old (turn ∷ turns) left new =
    (input ≢ []) × (turn.rest ≡ drop_through 10 input) × AnswersBounded image counted steps most (first_piece 10 input) old turn.written turn.end
    × (IsTrue (is_lack turn) → turns ≡ []) × AnswersLines image counted steps most turn.rest turn.written turns left new

-- Why not every line of the input was answered with a run: all were answered, and one was not a list of words or was too long; or memory
-- was refused for the last; or the next one could not be read (53 or 40), and the line of that fault was written; or there were more
-- lines than can be counted.
abbrev pub IsRefused : List LineTurn → (left : List ℕ) (old new : Option (List ℕ)) → Type 0
IsRefused turns left old new =
    ((left ≡ []) × (new ≡ old) × IsTrue (list_any is_bad turns))
    ⊎ (((new ≡ old) × IsTrue (list_any is_lack turns))
    ⊎ ((Appends old new (refusal_text 53) ⊎ Appends old new (refusal_text 40))
    ⊎ ((new ≡ old) × (length turns ≡ 2 ^ 64 - 1))))

-- What became of the lines of an input: each of them was a list of words, and its run was answered; or what `IsRefused` says; or
-- an answer could not be written.
abbrev pub CallsLines : Image → (counted : Bool) (steps : ℕ) (most : Option ℕ) (input : List ℕ) (old new : Option (List ℕ)) → LinesEnd → Type 0
CallsLines image counted steps most input old new Answered =
    (turns : List LineTurn) × AnswersLines image counted steps most input old turns [] new × (list_any is_bad turns ≡ false) × (list_any is_lack turns ≡ false)
CallsLines image counted steps most input old new Refused =
    (turns : List LineTurn) × (left : List ℕ) × (mid : Option (List ℕ)) × AnswersLines image counted steps most input old turns left mid × IsRefused turns left mid new
CallsLines image counted steps most input old new Unwritten = Unit {0}
