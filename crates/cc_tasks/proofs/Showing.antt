-- Why stages are not shown: what `stages` says about a text's unit, stated for the text.
use Rattle.std.proofs.Common.{◌≡◌, ℕ, List, Option, Some, None, MatchOption, refl}
use Rattle.cc_ast.specs.Tree.{Source}
use Rattle.cc_link.specs.Text.{IsProgramText}
use Rattle.cc_stages.specs.Named.{IsDefined}
use Rattle.cc_stages.specs.declared.fault.StagesFault.{StagesFault}
use Rattle.cc_stages.specs.declared.fault.StagesFault.TheVariants as stages
use Rattle.cc_tasks.specs.internal.Shown.{IsUnknown}
use Rattle.cc_tasks.specs.internal.Stages.{fault_of_stages}
use Rattle.cc_tasks.specs.declared.fault.Fault.TheVariants.{UnknownFunction}

-- the fault is 59 only if the stages' fault is 59
pub unknown_stage : (f : StagesFault) → fault_of_stages f ≡ UnknownFunction → f ≡ stages.UnknownFunction
unknown_stage stages.UnknownFunction e = refl
unknown_stage (stages.Piece f) e = absurd (cc)
unknown_stage (stages.Link f) e = absurd (cc)
unknown_stage stages.OutOfMemory e = absurd (cc)
unknown_stage stages.Write e = absurd (cc)

-- if a text's unit does not define a name, the text's program does not define it either
pub unknown_in : {N : Type 0} (text : List ℕ) (s : Source) (bytes : N → List ℕ) → s.text ≡ text → IsProgramText text s.externals → (function : Option N)
    → MatchOption function ⊥ (λ name. ¬ IsDefined s (bytes name)) → MatchOption function ⊥ (λ name. IsUnknown text (bytes name))
unknown_in text s bytes whose is None why = why
unknown_in text s bytes whose is (Some name) why = (record { program = s; whose = whose; is = is }, why)
