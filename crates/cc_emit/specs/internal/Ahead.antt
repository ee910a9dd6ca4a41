-- What comes before a frame, as the code represents it.
use Rattle.std.specs.Prelude.{Option, Some, None, List, [], ◌∷◌, ◌++◌, drop}
use Rattle.cc_select.specs.declared.step.Step.{Step}
use Rattle.cc_emit.specs.declared.early.Ahead as found
use Rattle.cc_emit.specs.Early.{Early, fork_of, early_by}

-- an optional step as a list
abbrev pub listed : Option Step → List Step
listed None = []
listed (Some step) = step ∷ []

abbrev pub shown : (code : List Step) → found.Ahead → Early
shown code a = record { head = a.head.items; rest = drop a.taken code }

-- what comes before a frame, with the light steps `steps` in front
abbrev pub with_before : List Step → Early → Early
with_before steps e = record { head = steps ++ e.head; rest = e.rest }

-- what comes before a frame, for steps that begin with a test, or with a step that is not light
abbrev pub early_test : (all : List Step) → List Step → Option Early
early_test all [] = None
early_test all (step ∷ steps) = early_by all (fork_of step) steps
