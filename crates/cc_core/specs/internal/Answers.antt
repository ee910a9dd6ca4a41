-- How a handler answers for its step.
use Rattle.std.specs.Prelude.{◌≡◌, Option, Result, IfOk, OnErr, IsErrOf}
use Rattle.cc_core.specs.declared.command.Reply.{Reply}
use Rattle.cc_core.specs.declared.fault.CoreFault.{CoreFault}
use Rattle.cc_core.specs.declared.fault.CoreFault.TheVariants as faults

-- a handler takes its step and answers the step's reply; or it answers 29 and there is no step; or it answers 40 although
-- there is a step; after 29 and 40 everything is as before
abbrev pub Answers : {S : Type 0} → (Option Reply → S → Type 0) → Result (Option Reply) CoreFault → S → S → Type 0
Answers {S} step result old new =
    IfOk result (λ reply. step reply new)
    × (IsErrOf result faults.NotNow → (reply : Option Reply) (after : S) → ¬ (step reply after))
    × (IsErrOf result faults.OutOfMemory → (reply : Option Reply) × (after : S) × step reply after)
    × OnErr result (new ≡ old)
