-- What `trace` prints about a run.
use Rattle.std.specs.Prelude.{◌≡◌, ℕ, false, List, ◌++◌, Option}
use Rattle.std.specs.Io.KnownBytes.{Appends}
use Rattle.cc_meaning.specs.declared.outcome.Stop.{Stop}
use Rattle.cc_meaning.specs.declared.outcome.Outcome.{Outcome}
use Rattle.cc_sources.specs.Joined.{lacks_newline}
use Rattle.cc_tasks.specs.Answer.{IsRan}
use Rattle.cc_tasks.specs.Written.{stop_text}
use Rattle.cc_tasks.specs.declared.answer.Answer.TheVariants.{Ran}

-- The line that says how a run stops was written, with some text before and after it. It is a line of its own: the text before it is
-- empty or ends with a newline, as the line itself does.
pub record HasStop (stop : Stop) (old new : Option (List ℕ)) : Type 0 where
  pub before : List ℕ
  pub after : List ℕ
  pub begins : lacks_newline before ≡ false
  pub written : Appends old new (before ++ stop_text stop ++ after)

-- the line that says how the interpreter's run stops was written, with some text before and after it
pub record IsTraced (steps : ℕ) (words text : List ℕ) (old new : Option (List ℕ)) : Type 0 where
  pub outcome : Outcome
  pub ran : IsRan steps words text (Ran outcome)
  pub shown : HasStop outcome.stop old new
