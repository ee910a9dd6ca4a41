-- What holds for all guarded code.
use Rattle.std.specs.Prelude.{◌≡◌, ℕ, ◌+◌, ◌*◌, ◌≤◌, false, List}
use Rattle.cc_simulation.specs.World.{Size}
use Rattle.cc_cminor_language.specs.Cminor.{Statement}
use Rattle.cc_cminor_language.specs.Size.{code_partials}
use Rattle.cc_guard.specs.Guard.{has_guards, guarded_function, variables_in}

-- guards set at most two variables for each operation that can lack a value
abbrev pub GuardsSetFew : Type 0
GuardsSetFew = (objects : List Size) (n : ℕ) (s : Statement) → variables_in objects n s ≤ n + 2 * code_partials s

-- code without guards stays as it was
abbrev pub UnguardedStays : Type 0
UnguardedStays = (objects : List Size) (n : ℕ) (s : Statement) → has_guards objects n s ≡ false → guarded_function objects n s ≡ s
