-- The outcome of a run, for any type of result.
use Rattle.std.specs.Prelude.{ℕ, List}
use Rattle.cc_words.specs.Observed.{written_words}
use Rattle.cc_c_semantics.specs.declared.cause.Cause.{Cause}

-- how a run stops: with no step left, with its result, or because it goes wrong
pub data Stop (R : Type 0) : Type 0 where
  Going : Stop R
  Ended : R → Stop R
  Wrong : Cause → Stop R

-- how a run stops, and its output until then: what it wrote, and a mark for each read
pub record Outcome (R : Type 0) : Type 0 where
  pub stop : Stop R
  pub output : List ℕ

-- an outcome without the marks of reads
abbrev pub in_words : {R : Type 0} → Outcome R → Outcome R
in_words o = record { stop = o.stop; output = written_words o.output }
