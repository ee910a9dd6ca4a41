-- What the program may be asked to do with a text.
use Rattle.std.specs.Prelude.{◌≤◌, ℕ}
use Rattle.cc_task.specs.declared.task.Task.{Task}
use Rattle.cc_task.specs.declared.task.Task.TheVariants.{Check, Interpret, Run, InterpretCounted, RunCounted, InterpretObserved, RunObserved, InterpretWithin, RunWithin, Asm, Image, Size, SizedImage, Safe}

-- the largest number of steps or instructions that a run may take
abbrev pub most_steps : ℕ
most_steps = 1000000000

-- the largest bound on the words that a run writes
abbrev pub most_words : ℕ
most_words = 4294967295

abbrev pub IsWithinLimits : Task → Type 0
IsWithinLimits Check = Unit {0}
IsWithinLimits (Interpret steps words) = steps ≤ most_steps
IsWithinLimits (Run kind steps words) = steps ≤ most_steps
IsWithinLimits (InterpretCounted steps words) = steps ≤ most_steps
IsWithinLimits (RunCounted kind steps words) = steps ≤ most_steps
IsWithinLimits (InterpretObserved steps words) = steps ≤ most_steps
IsWithinLimits (RunObserved kind steps words) = steps ≤ most_steps
IsWithinLimits (InterpretWithin steps most words) = (steps ≤ most_steps) × (most ≤ most_words)
IsWithinLimits (RunWithin kind steps most words) = (steps ≤ most_steps) × (most ≤ most_words)
IsWithinLimits (Asm kind) = Unit {0}
IsWithinLimits (Image kind) = Unit {0}
IsWithinLimits (Size kind) = Unit {0}
IsWithinLimits (SizedImage kind) = Unit {0}
IsWithinLimits Safe = Unit {0}
