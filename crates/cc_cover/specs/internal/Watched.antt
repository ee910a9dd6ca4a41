-- A task that is traced.
use Rattle.std.specs.Prelude.{ℕ, List, Option}
use Rattle.cc_task.specs.declared.task.Task.{Task}
use Rattle.cc_task.specs.declared.task.Task.TheVariants.{Interpret}
use Rattle.cc_cover.specs.Traced.{IsTraced}

-- the run of `interpret` was traced
abbrev pub Traces : Task → (text : List ℕ) (old new : Option (List ℕ)) → Type 0
Traces (Interpret steps words) text old new = IsTraced steps words.items text old new
Traces task text old new = ⊥
