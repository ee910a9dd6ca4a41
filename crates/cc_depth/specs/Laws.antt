-- What holds for programs whose calls have no cycle.
use Rattle.std.specs.Prelude.{◌≢◌, ℕ, List}
use Rattle.cc_ast.specs.Tree.{Source}
use Rattle.cc_c_semantics.specs.Meaning.{source_behavior}
use Rattle.cc_c_semantics.specs.Outcome.{Wrong}
use Rattle.cc_c_semantics.specs.declared.cause.Cause.TheVariants.{Depth}
use Rattle.cc_depth.specs.Cycles.{HasNoCycle}

-- a program whose calls have no cycle never goes wrong because of too many open calls
abbrev pub AcyclicProgramsAreNeverDeep : Type 0
AcyclicProgramsAreNeverDeep = (s : Source) → HasNoCycle s.externals → (input : List ℕ) (n : ℕ) → (source_behavior s input n).stop ≢ Wrong Depth
