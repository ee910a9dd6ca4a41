-- What the program may be asked to do.
use Rattle.std.specs.Prelude.{◌≤◌, ℕ, Option, Some, None}
use Rattle.cc_task.specs.Task.{IsWithinLimits, most_steps, most_words}
use Rattle.cc_command_line.specs.declared.command_line.Work.{Work}
use Rattle.cc_command_line.specs.declared.command_line.Work.TheVariants.{One, Stages, Live, Trace, Cover, TakeOut, Keep, Library, Short, Pack, Serve, Submit, Translate}
use Rattle.cc_command_line.specs.declared.keeping.Keeping.{Keeping}
use Rattle.cc_command_line.specs.declared.keeping.Keeping.TheVariants.{Call, Size, Diff, Log, Restore, Copy}

-- how many bytes an area may have, if an area is to be made
abbrev pub IsArea : Option ℕ → Type 0
IsArea None = Unit {0}
IsArea (Some area) = (64 ≤ area) × (area ≤ 1073741824)

-- how many seconds a script may wait, if that is given
abbrev pub IsWait : Option ℕ → Type 0
IsWait None = Unit {0}
IsWait (Some seconds) = (1 ≤ seconds) × (seconds ≤ 86400)

-- how many words a run may write, if that is bounded
abbrev pub IsMost : Option ℕ → Type 0
IsMost None = Unit {0}
IsMost (Some most) = most ≤ most_words

-- how many seconds a command may try to open a library
abbrev pub IsTry : ℕ → Type 0
IsTry seconds = seconds ≤ 86400

-- for the commands that look into libraries: a run is bounded, and an area and a wait are within their limits
abbrev pub IsBoundedLook : Keeping → Type 0
IsBoundedLook (Call asked) = (asked.steps ≤ 1000000000) × IsMost asked.most × IsTry asked.wait
IsBoundedLook (Size asked) = IsTry asked.wait
IsBoundedLook (Diff asked) = IsTry asked.wait
IsBoundedLook (Log asked) = IsTry asked.wait
IsBoundedLook (Restore asked) = IsTry asked.wait
IsBoundedLook (Copy asked) = (64 ≤ asked.area) × (asked.area ≤ 1073741824) × IsTry asked.wait

abbrev pub IsAllowed : Work → Type 0
IsAllowed (One task) = IsWithinLimits task
IsAllowed (Stages kind function) = Unit {0}
IsAllowed (Live asked) = asked.steps ≤ most_steps
IsAllowed (Trace asked) = (asked.steps ≤ most_steps) × (1 ≤ asked.last) × (asked.last ≤ 1000000)
IsAllowed (Cover asked) = asked.steps ≤ most_steps
IsAllowed (TakeOut wanted) = IsTry wanted.wait
IsAllowed (Keep asked) = IsBoundedLook asked
IsAllowed (Library asked) = IsArea asked.area × (1 ≤ asked.workers) × (asked.workers ≤ 8) × IsTry asked.wait
IsAllowed (Short asked) = (1 ≤ asked.workers) × (asked.workers ≤ 8) × IsTry asked.wait
IsAllowed (Pack asked) = IsTry asked.wait
IsAllowed (Serve asked) =
    IsArea asked.area × (1 ≤ asked.workers) × (asked.workers ≤ 8) × (1 ≤ asked.clients) × (asked.clients ≤ 64) × (1 ≤ asked.keep) × (asked.keep ≤ 3650)
    × (1048576 ≤ asked.done) × (asked.done ≤ 1099511627776) × (1 ≤ asked.patience) × (asked.patience ≤ 86400) × IsTry asked.wait
IsAllowed (Submit asked) = IsWait asked.wait
IsAllowed (Translate asked) = Unit {0}
