-- The numbers of the faults and refusals.
use Rattle.std.specs.Prelude.{ℕ, ◌≡◌, Result, Err}
use Rattle.cc_core.specs.declared.fault.CoreFault.{CoreFault}
use Rattle.cc_core.specs.declared.fault.CoreFault.TheVariants as core_fault
use Rattle.cc_core.specs.declared.fault.BuildRefusal.{BuildRefusal}
use Rattle.cc_core.specs.declared.fault.BuildRefusal.TheVariants as build
use Rattle.cc_core.specs.declared.fault.Refusal.{Refusal}
use Rattle.cc_core.specs.declared.fault.Refusal.TheVariants as refusal

-- the number of the fault that says why an event takes no step
abbrev pub fault_number : CoreFault → ℕ
fault_number core_fault.NotNow = 29
fault_number core_fault.OutOfMemory = 40

-- the number with which a build refuses, or 40 if memory ran out
abbrev pub build_fault_number : BuildRefusal → ℕ
build_fault_number (build.Refused number) = number
build_fault_number build.OutOfMemory = 40

-- the number with which a command is refused
abbrev pub refusal_number : Refusal → ℕ
refusal_number (refusal.Build number) = number
refusal_number refusal.Exists = 31
refusal_number refusal.Absent = 32
refusal_number refusal.Full = 34
refusal_number refusal.DiskFault = 35
refusal_number refusal.Closed = 36

-- a build's refusal has the number with which the rule refuses; if memory ran out, nothing is claimed
abbrev pub RefusesAs : {A : Type 0} → BuildRefusal → Result A ℕ → Type 0
RefusesAs (build.Refused number) rule = rule ≡ Err number
RefusesAs build.OutOfMemory rule = Unit {0}

-- a build's refusal has a number that the rule allows; if memory ran out, nothing is claimed
abbrev pub RefusesPlan : BuildRefusal → (Result ℕ ℕ → Type 0) → Type 0
RefusesPlan (build.Refused number) answers = answers (Err number)
RefusesPlan build.OutOfMemory answers = Unit {0}
