-- The compiler's faults as the core's refusals: 40 stays 40, and every other fault refuses with its number.
use Rattle.std.specs.Prelude.{ℕ, ◌==◌, if◌then◌else◌}
use Rattle.cc_core.specs.declared.fault.BuildRefusal.{BuildRefusal}
use Rattle.cc_core.specs.declared.fault.BuildRefusal.TheVariants as build

abbrev pub refused_by : (number : ℕ) → BuildRefusal
refused_by number = if number == 40 then build.OutOfMemory else build.Refused number
